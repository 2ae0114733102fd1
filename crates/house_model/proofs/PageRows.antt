-- The rows of an archive among all its rows, which are numbered by their places.
use Rattle.std.proofs.Common.{◌≡◌, ◌≤◌, ℕ, zero, suc, ◌+◌, ◌-◌, ◌==◌, List, [], ◌∷◌, ◌++◌, take, drop, map, length, length-append, refl, sym, ap, ◌∙◌, subst, arith}
use Rattle.std.proofs.Common.{Option, Some, None, Bool, true, false, is_some, cond, true≢false, take-append-drop}
use Rattle.std.proofs.lemmas.Bool.{eqb-true}
use Rattle.std.proofs.lemmas.List.{drop-append-le, take-append-le, take_all}
use Rattle.std.specs.List.{AllByRecursion}
use Rattle.rsm_paging.specs.Pages as pages
use Rattle.rsm_paging.specs.Pages.{id_of, row_numbered}
use Rattle.rsm_paging.specs.Walks.{IsAmong, kept_of}
use Rattle.rsm_paging.specs.declared.ask.Row.{Row}
use Rattle.mam_archive.specs.Archives.{last_kept, most_kept}
use Rattle.archive_table.specs.Archives.{Said, numbered, stamp_at}
use Rattle.house_model.proofs.PageTurns.{Begins}

-- Rows and what was said.

abbrev row_at : (n earlier : ℕ) → Said → Row
row_at n e x = record { id = n; stamp = stamp_at x.moment e; peer = x.peer; text = x.text }

numbered_grows : (xs more : List Said) (n e : ℕ) → Begins (numbered n e xs) (numbered n e (xs ++ more))
numbered_grows [] more n e = (numbered n e more, refl)
numbered_grows (x ∷ xs) more n e =
    let later = numbered_grows xs more (n + 1) (stamp_at x.moment e) in
    (later.0, ap (λ (l : List Row). row_at n e x ∷ l) later.1)

numbered_length : (xs : List Said) (n e : ℕ) → length (numbered n e xs) ≡ length xs
numbered_length [] n e = refl
numbered_length (x ∷ xs) n e = ap suc (numbered_length xs (n + 1) (stamp_at x.moment e))

pub numbered_follow : (xs : List Said) (n e : ℕ) → pages.Follow n (numbered n e xs)
numbered_follow [] n e = tt
numbered_follow (x ∷ xs) n e = (refl, numbered_follow xs (n + 1) (stamp_at x.moment e))

take_front : (xs ys : List Row) → take (length xs) (xs ++ ys) ≡ xs
take_front xs ys = take-append-le (length xs) xs ys (omega arith) ∙ take_all (length xs) xs (omega arith)

-- the rows of what was said first
pub first_rows : (xs ys : List Said) → Begins xs ys → take (length xs) (numbered 1 0 ys) ≡ numbered 1 0 xs
first_rows xs ys begins =
    let rows : List Row = numbered 1 0 xs in
    let grown = numbered_grows xs begins.0 1 0 in
    ap (λ (l : List Said). take (length xs) (numbered 1 0 l)) begins.1
    ∙ (ap (take (length xs)) grown.1
    ∙ (ap (λ (k : ℕ). take k (rows ++ grown.0)) (sym (numbered_length xs 1 0)) ∙ take_front rows grown.0))

pub said_more : (xs ys : List Said) → Begins xs ys → length xs ≤ length ys
said_more xs ys begins =
    let long : length ys ≡ length xs + length begins.0 = ap length begins.1 ∙ length-append xs begins.0 in
    omega (arith, long)

-- how many of the rows are gone
abbrev pub gone_of : List Said → ℕ
gone_of xs = length (numbered 1 0 xs) - most_kept

pub kept_among : (xs ys : List Said) → Begins xs ys → last_kept (numbered 1 0 xs) ≡ kept_of (numbered 1 0 ys) (gone_of xs) (length xs)
kept_among xs ys begins = ap (drop (gone_of xs)) (sym (first_rows xs ys begins))

-- those that were kept, and those that came since
pub kept_and_come : (xs ys : List Said) → Begins xs ys
    → drop (gone_of xs) (numbered 1 0 ys) ≡ last_kept (numbered 1 0 xs) ++ drop (length xs) (numbered 1 0 ys)
kept_and_come xs ys begins =
    let rows : List Row = numbered 1 0 xs in
    let all : List Row = numbered 1 0 ys in
    let split : all ≡ rows ++ drop (length xs) all =
    sym (take-append-drop (length xs) all) ∙ ap (λ (l : List Row). l ++ drop (length xs) all) (first_rows xs ys begins) in
    ap (drop (gone_of xs)) split ∙ drop-append-le (gone_of xs) rows (drop (length xs) all) (omega arith)

-- Rows that are found by their ids.

-- the row of its id, among these
abbrev pub IsFound : List Row → Row → Type 0
IsFound all row = row_numbered (Some row.id) all ≡ Some row

abbrev or_else : Row → Option Row → Row
or_else row None = row
or_else row (Some found) = found

pub same_row : (all : List Row) (x y : Row) → IsFound all x → IsFound all y → x.id ≡ y.id → x ≡ y
same_row all x y a b same = ap (or_else x) (sym a ∙ (ap (λ (k : ℕ). row_numbered (Some k) all) same ∙ b))

pub ids_append : (xs ys : List Row) → map id_of (xs ++ ys) ≡ map id_of xs ++ map id_of ys
ids_append [] ys = refl
ids_append (x ∷ xs) ys = ap (λ (l : List ℕ). x.id ∷ l) (ids_append xs ys)

cons_same : (x y : Row) (xs ys : List Row) → x ≡ y → xs ≡ ys → x ∷ xs ≡ y ∷ ys
cons_same x y xs ys a b = λ i. a i ∷ b i

head_id : (a b : ℕ) (xs ys : List ℕ) → a ∷ xs ≡ b ∷ ys → a ≡ b
head_id a b xs ys same = let z : a ≡ b = cc in z

more_ids : (a b : ℕ) (xs ys : List ℕ) → a ∷ xs ≡ b ∷ ys → xs ≡ ys
more_ids a b xs ys same = let z : xs ≡ ys = cc in z

pub same_rows : (all xs ys : List Row) → AllByRecursion (IsFound all) xs → AllByRecursion (IsFound all) ys → map id_of xs ≡ map id_of ys → xs ≡ ys
same_rows all [] [] a b same = refl
same_rows all [] (y ∷ ys) a b same = absurd (let z : [] ≡ y.id ∷ map id_of ys = same in cc)
same_rows all (x ∷ xs) [] a b same = absurd (let z : x.id ∷ map id_of xs ≡ [] = same in cc)
same_rows all (x ∷ xs) (y ∷ ys) a b same =
    cons_same x y xs ys (same_row all x y a.0 b.0 (head_id x.id y.id (map id_of xs) (map id_of ys) same))
    (same_rows all xs ys a.1 b.1 (more_ids x.id y.id (map id_of xs) (map id_of ys) same))

-- the one that is found stands among them
pub record Stands (n : ℕ) (rows : List Row) : Type 0 where
  pub row : Row
  pub found : row_numbered (Some n) rows ≡ Some row
  pub among : IsAmong row rows
  pub is : row.id ≡ n

pub stands : (n : ℕ) (rows : List Row) → is_some (row_numbered (Some n) rows) ≡ true → Stands n rows
stands n [] known = absurd (true≢false (sym known))
stands n (r ∷ rows) known = by (r.id == n) refl (stands n rows) known where
  by : (b : Bool) → (r.id == n) ≡ b → (is_some (row_numbered (Some n) rows) ≡ true → Stands n rows)
      → is_some (cond b (Some r) (row_numbered (Some n) rows)) ≡ true → Stands n (r ∷ rows)
  by true is rest known = record {
    row = r;
    found = ap (λ (b : Bool). cond b (Some r) (row_numbered (Some n) rows)) is;
    among = (zero, rows, refl);
    is = eqb-true r.id n is;
  }
  by false is rest known =
      let later = rest known in
      record {
        row = later.row;
        found = ap (λ (b : Bool). cond b (Some r) (row_numbered (Some n) rows)) is ∙ later.found;
        among = (suc later.among.0, later.among.1, later.among.2);
        is = later.is;
      }

pub all_among : (P : Row → Type 0) (row : Row) (rows : List Row) → IsAmong row rows → AllByRecursion P rows → P row
all_among P row [] (zero, later, at) all = absurd (let z : [] ≡ row ∷ later = at in cc)
all_among P row [] (suc before, later, at) all = absurd (let z : [] ≡ row ∷ later = at in cc)
all_among P row (r ∷ rows) (zero, later, at) all = subst P (first_is r row rows later at) all.0 where
  first_is : (r row : Row) (rows later : List Row) → r ∷ rows ≡ row ∷ later → r ≡ row
  first_is r row rows later at = let z : r ≡ row = cc in z
all_among P row (r ∷ rows) (suc before, later, at) all = all_among P row rows (before, later, at) all.1

pub last_of_all : (P : Row → Type 0) (front : List Row) (row : Row) → AllByRecursion P (front ++ row ∷ []) → P row
last_of_all P [] row all = all.0
last_of_all P (r ∷ front) row all = last_of_all P front row all.1
