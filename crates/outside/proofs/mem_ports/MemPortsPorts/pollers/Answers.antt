use Rattle.std.proofs.Common.{◌≡◌, List, length, rules, ap, subst, sym, ◌∙◌}
use Rattle.std.specs.Prelude.{All}
use Rattle.outside.specs.Posts.{AreOpened, MemPost, fits, opened}
use Rattle.outside.proofs.PostLemmas.{all_opened, all_sourced, handed_length, passes_length}
use Rattle.outside.proofs.mem_ports.MemPortsPorts.pollers.Goals as goal

pub hand_out-requires : goal.hand_out-requires
hand_out-requires c = passes_length (fits c.args.places) c.args.workers c.self.inside.posts.items (search rules)

pub returns-clause-posts : goal.returns-clause-posts
returns-clause-posts c =
    ap (λ (ps : List MemPost). length ps) c.in_ok-posts.ensures.ok
    ∙ handed_length (fits c.args.places) (opened c.args.quota) c.args.workers c.self.inside.posts.items (search rules)

pub returns-clause-sources : goal.returns-clause-sources
returns-clause-sources c =
    subst (λ (ps : List MemPost). All (λ p. length p.sources.items ≡ c.args.places) ps) (sym c.in_ok-posts.ensures.ok)
    (all_sourced c.args.places c.args.quota c.args.workers c.self.inside.posts.items (search rules))

pub returns-clause-opened : goal.returns-clause-opened
returns-clause-opened c =
    subst (λ (ps : List MemPost). AreOpened c.args.places c.args.quota ps) (sym c.in_ok-posts.ensures.ok)
    (all_opened c.args.places c.args.quota c.args.workers c.self.inside.posts.items c.self.invariant (search rules))
