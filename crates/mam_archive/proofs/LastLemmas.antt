-- The last rows of all that were added.
use Rattle.std.proofs.Common.{◌≡◌, ℕ, zero, suc, ◌+◌, ◌-◌, List, [], ◌∷◌, ◌++◌, drop, length, refl, ap, sym, ◌∙◌, arith, length-append}
use Rattle.std.proofs.lemmas.List.{drop-append-le, length-drop}
use Rattle.rsm_paging.specs.declared.ask.Row.{Row}
use Rattle.mam_archive.specs.Archives.{last_kept, most_kept}

drop-both : (m n : ℕ) (rows : List Row) → drop m (drop n rows) ≡ drop (n + m) rows
drop-both m zero rows = let same : m ≡ zero + m = omega arith in ap (λ (k : ℕ). drop k rows) same
drop-both m (suc n) [] =
    let more : suc n + m ≡ suc (n + m) = omega arith in
    none m ∙ sym (ap (λ (k : ℕ). drop {A = Row} k []) more)
  where
    none : (m : ℕ) → drop {A = Row} m [] ≡ []
    none zero = refl
    none (suc m) = refl
drop-both m (suc n) (r ∷ rows) =
    let more : suc n + m ≡ suc (n + m) = omega arith in
    drop-both m n rows ∙ sym (ap (λ (k : ℕ). drop k (r ∷ rows)) more)

pub last-more : (all : List Row) (row : Row) → last_kept (last_kept all ++ row ∷ []) ≡ last_kept (all ++ row ∷ [])
last-more all row =
    let n : ℕ = length all - most_kept in
    let rows : List Row = all ++ row ∷ [] in
    let front : last_kept all ++ row ∷ [] ≡ drop n rows = sym (drop-append-le n all (row ∷ []) (omega arith)) in
    let long : length rows ≡ length all + 1 = length-append all (row ∷ []) in
    let left : length (drop n rows) ≡ length rows - n = length-drop n rows in
    let whole : n + (length (drop n rows) - most_kept) ≡ length rows - most_kept = omega (arith, long, left) in
    ap last_kept front ∙ drop-both (length (drop n rows) - most_kept) n rows ∙ ap (λ (k : ℕ). drop k rows) whole
