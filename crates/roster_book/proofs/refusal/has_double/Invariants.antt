use Rattle.std.proofs.Common.{◌≡◌, drop}
use Rattle.roster_book.specs.Refusals.{has_double}
use Rattle.roster_book.proofs.refusal.has_double.Given as goal

abbrev pub invariant-loop-i : goal.invariant-loop-i
invariant-loop-i l = has_double (drop l.i l.groups) ≡ has_double l.groups
