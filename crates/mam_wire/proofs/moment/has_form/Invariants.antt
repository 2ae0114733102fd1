use Rattle.std.proofs.Common.{◌≡◌, drop, length}
use Rattle.mam_wire.specs.Moments.{has_form}
use Rattle.mam_wire.proofs.moment.has_form.Given as goal

abbrev pub invariant-loop-i : goal.invariant-loop-i
invariant-loop-i l = record {
  same_length : length l.form ≡ length l.text;
  same : has_form (drop l.i l.form) (drop l.i l.text) ≡ has_form l.form l.text;
}
