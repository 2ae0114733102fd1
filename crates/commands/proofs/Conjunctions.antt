-- Tests joined by `and`.
use Rattle.std.proofs.Common.{◌≡◌, ◌&&◌, Bool, true, false, not, true≢false, refl, sym}

pub two-true : (a b : Bool) → (a && b) ≡ true → (a ≡ true) × (b ≡ true)
two-true true b h = (refl, h)
two-true false b h = absurd (true≢false (sym h))

pub true-two : (a b : Bool) → a ≡ true → b ≡ true → (a && b) ≡ true
true-two true b g h = h
true-two false b g h = absurd (true≢false (sym g))

pub not-true : (b : Bool) → not b ≡ true → b ≡ false
not-true true h = absurd (true≢false (sym h))
not-true false h = refl
