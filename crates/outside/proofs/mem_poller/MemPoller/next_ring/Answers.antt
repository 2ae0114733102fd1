use Rattle.std.proofs.Common.{rules}
use Rattle.outside.proofs.PollLemmas.{none_taken, same_seats}
use Rattle.outside.proofs.mem_poller.MemPoller.next_ring.Goals as goal

pub returns-then-all_free-clause-rings : goal.returns-then-all_free-clause-rings
returns-then-all_free-clause-rings c = (
  search rules,
  λ j less. none_taken c.args.self.now.places j (search rules),
  same_seats c.args.self.now.places c.args.self.now.links _ _ (search rules) (search rules),
)
