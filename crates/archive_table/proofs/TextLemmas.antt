-- How long the texts are that are kept, after one row more.
use Rattle.std.proofs.Common.{◌≡◌, ℕ, ◌+◌, ◌-◌, ◌<◌, ◌≤◌, List, [], ◌∷◌, ◌++◌, drop, take, length, Bool, true, false, nat_lt, refl, ap, arith, length-append}
use Rattle.std.proofs.Common.{if◌then◌else◌, min, OnOk, Result, Ok, Err}
use Rattle.std.proofs.lemmas.Bool.{ltb-false, ltb-true}
use Rattle.rsm_paging.specs.declared.ask.Row.{Row}
use Rattle.mam_archive.specs.Archives.{Archive, freed, last_kept, most_kept, texts_length}

texts-more : (rows : List Row) (row : Row) → texts_length (rows ++ row ∷ []) ≡ texts_length rows + length row.text
texts-more [] row = omega arith
texts-more (r ∷ rows) row = let rest = texts-more rows row in omega (arith, rest)

texts-parted : (rows : List Row) → texts_length (take 1 rows) + texts_length (drop 1 rows) ≡ texts_length rows
texts-parted [] = refl
texts-parted (r ∷ rows) = omega arith

front-dropped : (rows : List Row) (row : Row) → 0 < length rows → drop 1 (rows ++ row ∷ []) ≡ drop 1 rows ++ row ∷ []
front-dropped [] row some = absurd (omega (arith, some))
front-dropped (r ∷ rows) row some = refl

pub texts-kept : (rows : List Row) (row : Row) → length rows ≤ most_kept
    → texts_length (last_kept (rows ++ row ∷ [])) + (if nat_lt (length rows) most_kept then 0 else texts_length (take 1 rows))
    ≡ texts_length rows + length row.text
texts-kept rows row few = by (nat_lt (length rows) most_kept) refl
  where
    long : length (rows ++ row ∷ []) ≡ length rows + 1
    long = length-append rows (row ∷ [])

    by : (b : Bool) → nat_lt (length rows) most_kept ≡ b
        → texts_length (last_kept (rows ++ row ∷ [])) + (if b then 0 else texts_length (take 1 rows)) ≡ texts_length rows + length row.text
    by true is =
        let less : length rows < most_kept = ltb-true (length rows) most_kept is in
        let none : length (rows ++ row ∷ []) - most_kept ≡ 0 = omega (arith, less, long) in
        let all = ap (λ (k : ℕ). texts_length (drop k (rows ++ row ∷ []))) none in
        let more = texts-more rows row in
        omega (arith, all, more)
    by false is =
        let full : most_kept ≤ length rows = ltb-false (length rows) most_kept is in
        let one : length (rows ++ row ∷ []) - most_kept ≡ 1 = omega (arith, full, few, long) in
        let left = ap (λ (k : ℕ). texts_length (drop k (rows ++ row ∷ []))) one in
        let front = ap texts_length (front-dropped rows row (omega (arith, full))) in
        let more = texts-more (drop 1 rows) row in
        let parts = texts-parted rows in
        omega (arith, left, front, more, parts)

-- what the next row displaces is kept
pub freed-le : (a : Archive) → freed a ≤ texts_length a.kept
freed-le a = by (nat_lt (length a.kept) most_kept) (texts-parted a.kept)
  where
    by : (b : Bool) → texts_length (take 1 a.kept) + texts_length (drop 1 a.kept) ≡ texts_length a.kept
        → (if b then 0 else texts_length (take 1 a.kept)) ≤ texts_length a.kept
    by true parts = omega arith
    by false parts = omega (arith, parts)

-- Memory that is taken.

pub least-le : (a b c d : ℕ) → a ≤ c → b ≤ d → min a b ≤ min c d
least-le a b c d one other = omega (arith, one, other)

pub least-ok : {A E : Type 0} (r : Result A E) (n a b : ℕ) → OnOk r (n ≤ a) → OnOk r (n ≤ b) → OnOk r (n ≤ min a b)
least-ok (Ok x) n a b one other = omega (arith, one, other)
least-ok (Err e) n a b one other = tt
