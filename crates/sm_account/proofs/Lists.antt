-- Places and prefixes of lists.
use Rattle.std.proofs.Common.{◌≡◌, ℕ, zero, suc, ◌+◌, List, [], ◌∷◌, ◌++◌, length, drop, Some, refl, sym, ap, ◌∙◌, subst, append_assoc, append-nil, arith}
use Rattle.std.specs.Prelude.{slice_get}
use Rattle.sm_account.specs.Prefixes.{IsPrefixOf}

-- the element after a front is the first of the rest
next_of : {A : Type 0} → (xs rest : List A) (x : A) → slice_get (xs ++ rest) (length xs) ≡ Some x
    → (ys : List A) × (rest ≡ x ∷ ys)
next_of [] [] x is = absurd (cc)
next_of [] (y ∷ ys) x is = (ys, cc)
next_of (z ∷ zs) rest x is = next_of zs rest x is

pub next_after : {A : Type 0} (whole front rest : List A) (place : ℕ) (x : A) → whole ≡ front ++ rest
    → place ≡ length front → slice_get whole place ≡ Some x → (ys : List A) × (rest ≡ x ∷ ys)
next_after {A} whole front rest place x split at is = next_of front rest x (
    subst (λ (k : ℕ). slice_get (front ++ rest) k ≡ Some x) at
    (subst (λ (l : List A). slice_get l place ≡ Some x) split is)
    )

get_drop : {A : Type 0} (r k : ℕ) (xs : List A) → slice_get (drop r xs) k ≡ slice_get xs (r + k)
get_drop zero k xs = let e : k ≡ 0 + k = omega arith in ap (slice_get xs) e
get_drop (suc r) k [] = refl
get_drop (suc r) k (x ∷ xs) =
    let e : suc (r + k) ≡ suc r + k = omega arith in
    get_drop r k xs ∙ ap (slice_get (x ∷ xs)) e

get_seam : {A : Type 0} (xs rest : List A) (x : A) → slice_get (xs ++ (x ∷ rest)) (length xs) ≡ Some x
get_seam [] rest x = refl
get_seam (y ∷ ys) rest x = get_seam ys rest x

-- the element after some of those from place r on
pub get_after : {A : Type 0} (xs rest whole : List A) (x : A) (r : ℕ) → xs ++ (x ∷ rest) ≡ drop r whole
    → slice_get whole (r + length xs) ≡ Some x
get_after {A} xs rest whole x r e =
    sym (get_drop r (length xs) whole)
    ∙ (ap (λ (l : List A). slice_get l (length xs)) (sym e)
    ∙ get_seam xs rest x)

pub itself : {A : Type 0} (xs : List A) → IsPrefixOf xs xs
itself xs = ([], append-nil xs)

pub further : {A : Type 0} (xs ys zs : List A) → IsPrefixOf xs ys → IsPrefixOf ys zs → IsPrefixOf xs zs
further {A} xs ys zs (r, e) (q, f) =
    (r ++ q, sym (append_assoc xs r q) ∙ (ap (λ (l : List A). l ++ q) e ∙ f))
