use Rattle.std.proofs.Common.{◌≡◌, ◌≤◌, ◌+◌, ◌++◌, List, ℕ, length}
use Rattle.std.specs.Prelude.{Some}
use Rattle.script_play.proofs.output.write_all.Given as goal

abbrev pub invariant-loop-turn : goal.invariant-loop-turn
invariant-loop-turn g l = record {
  falls : g.K.Sink.faults l.fn.sink ≤ g.K.Sink.faults l.sink;
  less : length l.rest + l._turn ≤ length l.fn.bytes;
  added : (taken : List ℕ) → g.K.Sink.took l.fn.sink ≡ Some taken →
      (done : List ℕ) × (g.K.Sink.took l.sink ≡ Some (taken ++ done)) × (done ++ l.rest ≡ l.fn.bytes);
}
