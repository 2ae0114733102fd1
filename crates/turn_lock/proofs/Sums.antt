-- Sums over views and over claims.
use Rattle.std.proofs.Common.{◌≡◌, ◌≢◌, ◌⊎◌, ℕ, zero, suc, ◌+◌, ◌<◌, ◌≤◌, Bool, true, false, eqb, List, [], ◌∷◌, ◌++◌}
use Rattle.std.proofs.Common.{length, set, sym, refl, ap, inl, inr, ⊎_elim, arith, eq-eqb, ne_eqb}
use mathlib.Core.Logic.{dite}
use mathlib.Core.Option.{some, some-injective, some-ne-none}
use native.Mathlib.Decide.{ℕ_discrete}
use lib.ListN.{get_elem?}
use Rattle.turn_lock.specs.declared.rule.Claim.{Claim}
use Rattle.turn_lock.specs.Views.{bit, total, times, fresh}

nothing_there : {A : Type 0} {P : Type 0} (i : ℕ) (a : A) → get_elem? [] i ≡ some a → P
nothing_there i a e = absurd (some-ne-none a (sym e))

pub true_or_false : (b : Bool) → (b ≡ true) ⊎ (b ≡ false)
true_or_false true = inl refl
true_or_false false = inr refl

pub set_present : {A : Type 0} (l : List A) (i : ℕ) (new old : A) → get_elem? l i ≡ some old → get_elem? (set l i new) i ≡ some new
set_present [] i new old e = nothing_there i old e
set_present (x ∷ xs) zero new old e = refl
set_present (x ∷ xs) (suc i) new old e = set_present xs i new old e

pub only_one : {A : Type 0} (a : A) (i : ℕ) (b : A) → get_elem? (a ∷ []) i ≡ some b → a ≡ b
only_one a zero b e = some-injective a b e
only_one a (suc i) b e = nothing_there i b e

module _ {V : Type 0} (f : V → ℕ) where
  pub total-append : (l m : List V) → total f (l ++ m) ≡ total f l + total f m
  total-append [] m = omega arith
  total-append (x ∷ xs) m = let rest = total-append xs m in omega arith

  pub total-set : (l : List V) (i : ℕ) (old new : V) → get_elem? l i ≡ some old → total f (set l i new) + f old ≡ total f l + f new
  total-set [] i old new e = nothing_there i old e
  total-set (x ∷ xs) zero old new e = let same : f x ≡ f old = ap f (some-injective x old e) in omega arith
  total-set (x ∷ xs) (suc i) old new e = let rest = total-set xs i old new e in omega arith

  pub one_within : (l : List V) (i : ℕ) (v : V) → get_elem? l i ≡ some v → f v ≤ total f l
  one_within [] i v e = nothing_there i v e
  one_within (x ∷ xs) zero v e = let same : f x ≡ f v = ap f (some-injective x v e) in omega arith
  one_within (x ∷ xs) (suc i) v e = let rest = one_within xs i v e in omega arith

  pub two_within : (l : List V) (i j : ℕ) (v w : V) → get_elem? l i ≡ some v → get_elem? l j ≡ some w → j ≢ i → f v + f w ≤ total f l
  two_within [] i j v w e h apart = nothing_there i v e
  two_within (x ∷ xs) zero zero v w e h apart = absurd (apart refl)
  two_within (x ∷ xs) zero (suc j) v w e h apart = let same : f x ≡ f v = ap f (some-injective x v e) in let rest = one_within xs j w h in omega arith
  two_within (x ∷ xs) (suc i) zero v w e h apart = let same : f x ≡ f w = ap f (some-injective x w h) in let rest = one_within xs i v e in omega arith
  two_within (x ∷ xs) (suc i) (suc j) v w e h apart = let rest = two_within xs i j v w e h (λ same. apart (ap suc same)) in omega arith

  total-zero : (l : List V) → ((j : ℕ) (w : V) → get_elem? l j ≡ some w → f w ≡ 0) → total f l ≡ 0
  total-zero [] h = refl
  total-zero (x ∷ xs) h = let here = h 0 x refl in let rest = total-zero xs (λ j w e. h (suc j) w e) in omega arith

  -- where all others have nothing
  pub total-alone : (l : List V) (i : ℕ) (v : V) → get_elem? l i ≡ some v → ((j : ℕ) (w : V) → get_elem? l j ≡ some w → j ≢ i → f w ≡ 0) → total f l ≡ f v
  total-alone [] i v e h = nothing_there i v e
  total-alone (x ∷ xs) zero v e h =
      let same : f x ≡ f v = ap f (some-injective x v e) in
      let rest = total-zero xs (λ j w at. h (suc j) w at (λ zero_suc. omega arith)) in
      omega arith
  total-alone (x ∷ xs) (suc i) v e h =
      let here = h 0 x refl (λ zero_suc. omega arith) in
      let rest = total-alone xs i v e (λ j w at apart. h (suc j) w at (λ same. apart (omega arith))) in
      omega arith

pub total-le : {V : Type 0} (f g : V → ℕ) (l : List V) → ((j : ℕ) (w : V) → get_elem? l j ≡ some w → f w ≤ g w) → total f l ≤ total g l
total-le f g [] h = omega arith
total-le f g (x ∷ xs) h = let here = h 0 x refl in let rest = total-le f g xs (λ j w e. h (suc j) w e) in omega arith

pub bit_same : (a b : ℕ) → a ≡ b → bit (eqb a b) ≡ 1
bit_same a b e = ap bit (eq-eqb a b e)

pub bit_apart : (a b : ℕ) → a ≢ b → bit (eqb a b) ≡ 0
bit_apart a b apart = ap bit (ne_eqb a b apart)

pub times_of_none : (n : ℕ) (cs : List Claim) → length cs ≡ 0 → times n cs ≡ 0
times_of_none n [] e = refl
times_of_none n (c ∷ cs) e = absurd (omega arith)

pub length-fresh : (i k : ℕ) → length (fresh i k) ≡ k
length-fresh i zero = refl
length-fresh i (suc k) = ap suc (length-fresh (suc i) k)

pub fresh_without : (n i k : ℕ) → (n < i) ⊎ (i + k ≤ n) → times n (fresh i k) ≡ 0
fresh_without n i zero out = refl
fresh_without n i (suc k) out =
    let here = bit_apart i n (λ same. ⊎_elim (λ below. absurd (omega arith)) (λ above. absurd (omega arith)) out) in
    let rest = fresh_without n (suc i) k (⊎_elim (λ below. inl (omega arith)) (λ above. inr (omega arith)) out) in
    omega arith

pub fresh_with : (n i k : ℕ) → i ≤ n → n < i + k → times n (fresh i k) ≡ 1
fresh_with n i zero low high = absurd (omega arith)
fresh_with n i (suc k) low high = dite (ℕ_discrete i n)
    (λ same. let here = bit_same i n same in let rest = fresh_without n (suc i) k (inl (omega arith)) in omega arith)
    (λ apart. let here = bit_apart i n apart in let rest = fresh_with n (suc i) k (omega arith) (omega arith) in omega arith)
