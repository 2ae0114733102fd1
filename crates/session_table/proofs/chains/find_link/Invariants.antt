use Rattle.std.proofs.Common.{length}
use Rattle.session_table.specs.Indexes.{from}
use Rattle.session_table.proofs.ChainLemmas.{OnWay}
use Rattle.session_table.proofs.chains.find_link.Given as goal

abbrev pub invariant-loop-next : goal.invariant-loop-next
invariant-loop-next l = record {
  way : OnWay l.heads.key l.fn.hash l.until l.slots.entries l.next;
}

abbrev pub decreases-loop-next : goal.decreases-loop-next
decreases-loop-next l = length (from l.next l.slots.entries)
