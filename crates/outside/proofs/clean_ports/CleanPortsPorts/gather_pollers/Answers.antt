use Rattle.outside.specs.Posts.{CleanPost}
use Rattle.outside.proofs.Adding.{added_no_places}
use Rattle.outside.proofs.clean_ports.CleanPortsPorts.gather_pollers.Goals as goal

pub returns-clause-dice : goal.returns-clause-dice
returns-clause-dice c = added_no_places (λ (p : CleanPost). p.sources.items) c.args.posts.items
