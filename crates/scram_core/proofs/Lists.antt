-- Lists and tests over variables, so that no literal is taken apart.
use Rattle.std.proofs.Common.{◌≡◌, ℕ, List, [], ◌∷◌, ◌++◌, ◌⊎◌, inl, inr, refl, sym, ap, Bool, true, false, ◌&&◌, ◌||◌}

pub same_head : (x y : ℕ) (xs ys : List ℕ) → x ∷ xs ≡ y ∷ ys → x ≡ y
same_head x y xs ys e = cc

pub same_tail : (x y : ℕ) (xs ys : List ℕ) → x ∷ xs ≡ y ∷ ys → xs ≡ ys
same_tail x y xs ys e = cc

pub cons_not_nil : (x : ℕ) (xs : List ℕ) → x ∷ xs ≡ [] → ⊥
cons_not_nil x xs e = cc

pub false-true : {A : Type 0} → false ≡ true → A
false-true e = absurd (cc)

pub true-false : {A : Type 0} → true ≡ false → A
true-false e = absurd (cc)

pub nil_parts : (xs ys : List ℕ) → xs ++ ys ≡ [] → (xs ≡ []) × (ys ≡ [])
nil_parts [] ys e = (refl, e)
nil_parts (x ∷ xs) ys e = absurd (cons_not_nil x (xs ++ ys) e)

-- where a list is cut: within the first part, or before the second
pub data Cut (c : ℕ) (cs xs ys : List ℕ) : Type 0 where
  inside : (zs : List ℕ) → xs ≡ c ∷ zs → cs ≡ zs ++ ys → Cut c cs xs ys
  before : xs ≡ [] → ys ≡ c ∷ cs → Cut c cs xs ys

pub cut : (c : ℕ) (cs xs ys : List ℕ) → c ∷ cs ≡ xs ++ ys → Cut c cs xs ys
cut c cs [] ys e = before refl (sym e)
cut c cs (x ∷ xs) ys e = inside xs (ap (λ (n : ℕ). n ∷ xs) (sym (same_head c x cs (xs ++ ys) e))) (same_tail c x cs (xs ++ ys) e)

pub both : (s t : Bool) → s ≡ true → t ≡ true → s && t ≡ true
both true true d e = refl
both true false d e = e
both false t d e = d

pub each : (s t : Bool) → s && t ≡ true → (s ≡ true) × (t ≡ true)
each true true e = (refl, refl)
each true false e = false-true e
each false t e = false-true e

pub either : (s t : Bool) → s || t ≡ true → (s ≡ true) ⊎ (t ≡ true)
either true t e = inl refl
either false true e = inr refl
either false false e = false-true e

pub first_holds : (s t : Bool) → s ≡ true → s || t ≡ true
first_holds true t e = refl
first_holds false t e = false-true e

pub second_holds : (s t : Bool) → t ≡ true → s || t ≡ true
second_holds true t e = refl
second_holds false t e = e
