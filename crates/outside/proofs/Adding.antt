-- Counts that are added one after the other.
use Rattle.std.proofs.Common.{◌≡◌, ℕ, List, [], ◌∷◌, ◌++◌, map, refl, ap, sym, ◌∙◌}
use Rattle.outside.specs.Posts.{added, all_of, plus}

pub added_both : (n : ℕ) (ms ns : List ℕ) → added n (ms ++ ns) ≡ added (added n ms) ns
added_both n [] ns = refl
added_both n (m ∷ ms) ns = added_both (plus n m) ms ns

-- nothing is added by what has no faults
pub added_nothing : {A : Type 0} (xs : List A) → 0 ≡ added 0 (map (λ _. 0) xs)
added_nothing [] = refl
added_nothing (x ∷ xs) = added_nothing xs

pub added_no_places : {A B : Type 0} (places_of : A → List B) (xs : List A) → 0 ≡ added 0 (all_of (map (λ x. map (λ _. 0) (places_of x)) xs))
added_no_places places_of [] = refl
added_no_places {A} {B} places_of (x ∷ xs) =
    let rest : List ℕ = all_of (map (λ (y : A). map (λ (_ : B). 0) (places_of y)) xs) in
    added_no_places places_of xs ∙ ap (λ n. added n rest) (added_nothing (places_of x)) ∙ sym (added_both 0 (map (λ _. 0) (places_of x)) rest)
