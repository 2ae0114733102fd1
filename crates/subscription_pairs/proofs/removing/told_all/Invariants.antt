use Rattle.std.proofs.Common.{◌≡◌, ◌<◌, ◌-◌, ◌^◌, ◌++◌, map, drop, All}
use Rattle.subscription_pairs.specs.Changes.{told}
use Rattle.subscription_pairs.proofs.removing.told_all.Given as goal

abbrev pub invariant-loop-h : goal.invariant-loop-h
invariant-loop-h l = record {
  told : l.all.items ++ map told (drop l.h-index l.sessions) ≡ map told l.sessions;
  few : All (λ h. h.pushes < 2 ^ 64 - 1) l.all.items;
}
