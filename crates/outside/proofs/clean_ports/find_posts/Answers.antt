use Rattle.std.proofs.Common.{rules}
use Rattle.outside.specs.Posts.{fits_clean}
use Rattle.outside.proofs.PostLemmas.{passes_length}
use Rattle.outside.proofs.clean_ports.find_posts.Goals as goal

pub hand_out-requires : goal.hand_out-requires
hand_out-requires c = passes_length (fits_clean c.args.places) c.args.workers c.args.posts.now.items (search rules)
