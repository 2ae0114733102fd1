-- What stands before and after the first of a byte.
use Rattle.std.proofs.Common.{false, ◌≡◌, ◌≢◌, ℕ, ◌<◌, ◌++◌, List, [], ◌∷◌, length, get_or, Some, None, arith, refl, ap, ◌∙◌, suc, eq-eqb, ne_eqb}
use Rattle.std.specs.Prelude.{◌==◌}
use Rattle.std.proofs.lemmas.Bool.{cond-false, cond-true}
use Rattle.jid_core.specs.Cuts.{before, after}

abbrev Lacks : ℕ → List ℕ → Type 0
Lacks c xs = (i : ℕ) → i < length xs → get_or xs i 0 ≢ c

tail : (c x : ℕ) (xs : List ℕ) → Lacks c (x ∷ xs) → Lacks c xs
tail c x xs h i l = h (suc i) (omega (arith, l))

first : (c x : ℕ) (xs : List ℕ) → Lacks c (x ∷ xs) → (x == c) ≡ false
first c x xs h = ne_eqb x c (h 0 (omega arith))

pub before-at : (c : ℕ) (xs ys : List ℕ) → Lacks c xs → before c (xs ++ c ∷ ys) ≡ xs
before-at c [] ys h = cond-true (c == c) [] (c ∷ before c ys) (eq-eqb c c refl)
before-at c (x ∷ xs) ys h = cond-false (x == c) [] (x ∷ before c (xs ++ c ∷ ys)) (first c x xs h) ∙ ap (λ l. x ∷ l) (before-at c xs ys (tail c x xs h))

pub after-at : (c : ℕ) (xs ys : List ℕ) → Lacks c xs → after c (xs ++ c ∷ ys) ≡ Some ys
after-at c [] ys h = cond-true (c == c) (Some ys) (after c ys) (eq-eqb c c refl)
after-at c (x ∷ xs) ys h = cond-false (x == c) (Some (xs ++ c ∷ ys)) (after c (xs ++ c ∷ ys)) (first c x xs h) ∙ after-at c xs ys (tail c x xs h)

pub before-without : (c : ℕ) (xs : List ℕ) → Lacks c xs → before c xs ≡ xs
before-without c [] h = refl
before-without c (x ∷ xs) h = cond-false (x == c) [] (x ∷ before c xs) (first c x xs h) ∙ ap (λ l. x ∷ l) (before-without c xs (tail c x xs h))

pub after-without : (c : ℕ) (xs : List ℕ) → Lacks c xs → after c xs ≡ None
after-without c [] h = refl
after-without c (x ∷ xs) h = cond-false (x == c) (Some xs) (after c xs) (first c x xs h) ∙ after-without c xs (tail c x xs h)
