use Rattle.std.proofs.Common.{◌≡◌, drop}
use Rattle.muc_admin.specs.Sets.{first_refusal}
use Rattle.muc_admin.proofs.sets.refusal_in.Given as goal

abbrev pub invariant-loop-one : goal.invariant-loop-one
invariant-loop-one l = first_refusal l.room l.fn.who (drop l.one-index l.wanted) ≡ first_refusal l.fn.room l.fn.who l.fn.wanted
