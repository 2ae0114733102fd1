use Rattle.std.proofs.Common.{◌≡◌, List, [], ◌∷◌, Bool, true, false, ◌||◌, ◌==◌, refl, arith, if◌then◌else◌, ℕ}
use Rattle.scram_core.specs.Attributes.{has_comma, before_last_comma}
use Rattle.scram_core.proofs.attributes.before_last.Goals as goal

tested : (s t : Bool) (x : List ℕ) → (if s || t then (if t then x else []) else []) ≡ (if t then x else [])
tested true true x = refl
tested true false x = refl
tested false true x = refl
tested false false x = refl

-- nothing stands before the last comma where there is none
start : (bs : List ℕ) → (if has_comma bs then before_last_comma bs else []) ≡ before_last_comma bs
start [] = refl
start (b ∷ bs) = tested (b == 44) (has_comma bs) (b ∷ before_last_comma bs)

pub loop-i-init : goal.loop-i-init
loop-i-init c = record { within = omega arith; front = start c.args.text.now }
