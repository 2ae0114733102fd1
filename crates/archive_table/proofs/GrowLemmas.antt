-- What is kept after one message more.
use Rattle.std.proofs.Common.{◌≡◌, ℕ, zero, suc, ◌+◌, ◌-◌, ◌<◌, List, [], ◌∷◌, ◌++◌, drop, length, refl, ap, sym, ◌∙◌, arith, length-append}
use Rattle.std.specs.Prelude.{slice_get}
use Rattle.rsm_paging.specs.declared.ask.Row.{Row}
use Rattle.mam_archive.specs.Archives.{last_kept, last_stamp, most_kept, stamp_of}
use Rattle.mam_archive.proofs.LastLemmas.{last-more}
use Rattle.archive_table.specs.Archives.{Rows, Said, archive_of, numbered, stamp_at, with_row}

-- The last stamp.

last-of-more : (r x : Row) (more : List Row) → last_stamp (r ∷ x ∷ more) ≡ last_stamp (x ∷ more)
last-of-more r x more =
    let place : length (r ∷ x ∷ more) - 1 ≡ suc (length (x ∷ more) - 1) = omega arith in
    ap (λ (k : ℕ). stamp_of (slice_get (r ∷ x ∷ more) k)) place

last-drop : (k : ℕ) (rows : List Row) → k < length rows → last_stamp (drop k rows) ≡ last_stamp rows
last-drop zero rows less = refl
last-drop (suc k) [] less = absurd (omega (arith, less))
last-drop (suc k) (r ∷ []) less = absurd (omega (arith, less))
last-drop (suc k) (r ∷ x ∷ more) less = last-drop k (x ∷ more) (omega (arith, less)) ∙ sym (last-of-more r x more)

last-kept : (rows : List Row) → last_stamp (last_kept rows) ≡ last_stamp rows
last-kept [] = refl
last-kept (r ∷ more) = last-drop (length (r ∷ more) - most_kept) (r ∷ more) (omega arith)

-- the last stamp of all
abbrev latest : (earlier : ℕ) → List Said → ℕ
latest e [] = e
latest e (x ∷ more) = latest (stamp_at x.moment e) more

latest-is : (n e : ℕ) (x : Said) (xs : List Said) → last_stamp (numbered n e (x ∷ xs)) ≡ latest e (x ∷ xs)
latest-is n e x [] = refl
latest-is n e x (y ∷ xs) =
    last-of-more _ _ (numbered (n + 1 + 1) (stamp_at y.moment (stamp_at x.moment e)) xs) ∙ latest-is (n + 1) (stamp_at x.moment e) y xs

last-is : (xs : List Said) → last_stamp (numbered 1 0 xs) ≡ latest 0 xs
last-is [] = refl
last-is (x ∷ xs) = latest-is 1 0 x xs

-- The row of one message more.

abbrev row_at : (n earlier : ℕ) → Said → Row
row_at n e x = record { id = n; stamp = stamp_at x.moment e; peer = x.peer; text = x.text }

numbered-more : (n e : ℕ) (xs : List Said) (x : Said) → numbered n e (xs ++ x ∷ []) ≡ numbered n e xs ++ row_at (n + length xs) (latest e xs) x ∷ []
numbered-more n e [] x = let same : n ≡ n + 0 = omega arith in ap (λ (k : ℕ). row_at k e x ∷ []) same
numbered-more n e (y ∷ xs) x =
    let later : ℕ = stamp_at y.moment e in
    let same : n + 1 + length xs ≡ n + suc (length xs) = omega arith in
    ap (λ (l : List Row). row_at n e y ∷ l)
    (numbered-more (n + 1) later xs x ∙ ap (λ (k : ℕ). numbered (n + 1) later xs ++ row_at k (latest later xs) x ∷ []) same)

row-same : (n n' e e' : ℕ) (x : Said) → n ≡ n' → e ≡ e' → row_at n e x ≡ row_at n' e' x
row-same n n' e e' x a b = rw a (rw b refl)

rows-same : (k k' : List Row) (m m' : ℕ) → k ≡ k' → m ≡ m' → ◌≡◌ {A = Rows} (record { kept = k; made = m }) (record { kept = k'; made = m' })
rows-same k k' m m' a b = rw a (rw b refl)

pub grow : (xs : List Said) (x : Said) → archive_of (xs ++ x ∷ []) ≡ with_row x.peer x.text x.moment (archive_of xs)
grow xs x =
    let all : List Row = numbered 1 0 xs in
    let number : 1 + length xs ≡ length xs + 1 = omega arith in
    let stamp : latest 0 xs ≡ last_stamp (last_kept all) = sym (last-is xs) ∙ sym (last-kept all) in
    let row = row-same (1 + length xs) (length xs + 1) (latest 0 xs) (last_stamp (last_kept all)) x number stamp in
    rows-same _ _ _ _
    (ap last_kept (numbered-more 1 0 xs x) ∙ sym (last-more all (row_at (1 + length xs) (latest 0 xs) x))
    ∙ ap (λ (r : Row). last_kept (last_kept all ++ r ∷ [])) row)
    (length-append xs (x ∷ []))
