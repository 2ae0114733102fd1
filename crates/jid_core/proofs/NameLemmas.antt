-- Names that differ.
use Rattle.std.proofs.Common.{◌≡◌, ℕ, List, [], ◌∷◌, ◌++◌, Bool, true, false, not, ◌&&◌, ◌||◌, bytes_eq, refl, sym, ap, ◌∙◌}
use Rattle.std.proofs.lemmas.Bool.{and_parts, and_from, not-true}
use Rattle.std.proofs.lemmas.List.Folds.{list_any-append}
use Rattle.std.proofs.lemmas.Slice.Eq.{bytes_eq-Decides}
use Rattle.std.specs.List.{list_any}
use Rattle.jid_core.specs.Names.{are_distinct}

pub bytes_flip : (xs ys : List ℕ) → bytes_eq xs ys ≡ bytes_eq ys xs
bytes_flip xs ys = by (bytes_eq xs ys) (bytes_eq ys xs) refl refl
  where
    turned : (xs ys : List ℕ) → bytes_eq xs ys ≡ true → bytes_eq ys xs ≡ true
    turned xs ys same = (bytes_eq-Decides ys xs).1 (sym ((bytes_eq-Decides xs ys).0 same))

    by : (b c : Bool) → bytes_eq xs ys ≡ b → bytes_eq ys xs ≡ c → b ≡ c
    by true true one other = refl
    by false false one other = refl
    by true false one other = sym (turned xs ys one) ∙ other
    by false true one other = sym one ∙ turned ys xs other

neither : (a b : Bool) → (a || b) ≡ false → (a ≡ false) × (b ≡ false)
neither true b is = cc
neither false b is = (refl, is)

nor : (a b : Bool) → a ≡ false → b ≡ false → (a || b) ≡ false
nor true b one other = cc
nor false b one other = other

-- a new one joins them
pub distinct-more : (u : List ℕ) (us : List (List ℕ)) → are_distinct us ≡ true → list_any (bytes_eq u) us ≡ false → are_distinct (us ++ u ∷ []) ≡ true
distinct-more u [] distinct fresh = refl
distinct-more u (v ∷ us) distinct fresh =
    let parts = and_parts (not (list_any (bytes_eq v) us)) (are_distinct us) distinct in
    let other = neither (bytes_eq u v) (list_any (bytes_eq u) us) fresh in
    let apart : (list_any (bytes_eq v) us || (bytes_eq v u || false)) ≡ false =
    nor (list_any (bytes_eq v) us) (bytes_eq v u || false) (not-true (list_any (bytes_eq v) us) parts.0)
    (nor (bytes_eq v u) false (bytes_flip v u ∙ other.0) refl) in
    and_from (not (list_any (bytes_eq v) (us ++ u ∷ []))) (are_distinct (us ++ u ∷ []))
    (ap not (list_any-append (bytes_eq v) us (u ∷ []) ∙ apart)) (distinct-more u us parts.1 other.1)
