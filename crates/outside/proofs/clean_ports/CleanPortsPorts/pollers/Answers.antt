use Rattle.outside.proofs.CleanLemmas.{found_count, found_opened, found_sourced}
use Rattle.outside.proofs.clean_ports.CleanPortsPorts.pollers.Goals as goal

pub returns-clause-posts : goal.returns-clause-posts
returns-clause-posts c =
    found_count c.self.inside.posts.items _ c.args.workers c.args.places c.args.quota c.in_ok-posts.posts.items c.in_ok-posts.ensures.finds

pub returns-clause-sources : goal.returns-clause-sources
returns-clause-sources c =
    found_sourced c.self.inside.posts.items _ c.args.workers c.args.places c.args.quota c.in_ok-posts.posts.items c.in_ok-posts.ensures.finds

pub returns-clause-opened : goal.returns-clause-opened
returns-clause-opened c =
    found_opened c.self.inside.posts.items _ c.args.workers c.args.places c.args.quota c.in_ok-posts.posts.items c.self.invariant
    c.in_ok-posts.ensures.finds
