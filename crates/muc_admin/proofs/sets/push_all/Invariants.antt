use Rattle.std.proofs.Common.{◌≡◌, ◌++◌, drop}
use Rattle.muc_admin.specs.Sets.{after_all, all_effects}
use Rattle.muc_admin.proofs.sets.push_all.Given as goal

abbrev pub invariant-loop-one : goal.invariant-loop-one
invariant-loop-one l = record {
  made : l.effects.items ++ all_effects l.room (drop l.one-index l.wanted) ≡ l.fn.effects.items ++ all_effects l.fn.room l.fn.wanted;
  room : after_all (drop l.one-index l.wanted) l.room ≡ after_all l.fn.wanted l.fn.room;
}
