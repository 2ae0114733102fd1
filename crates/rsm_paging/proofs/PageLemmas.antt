-- The page of what a page needs of the rows is the page of the rows.
use Rattle.std.proofs.Common.{◌≡◌, ℕ, zero, suc, ◌+◌, ◌-◌, ◌≤◌, ◌==◌, nat_le, List, [], ◌∷◌, ◌++◌, take, drop, reverse, map, length, Bool, true, false, refl}
use Rattle.std.proofs.Common.{ap, sym, ◌∙◌, subst, arith, if◌then◌else◌, length-append}
use Rattle.std.specs.Prelude.{◌||◌, Option, Some, None, is_some, Result, Ok, Err, IfOk, OnOk}
use Rattle.std.specs.List.{find, list_any}
use Rattle.std.specs.Option.{option_map}
use Rattle.std.proofs.lemmas.Bool.{eqb-true}
use Rattle.std.proofs.lemmas.Grind.{common_steps}
use Rattle.std.proofs.lemmas.List.{take-map, drop-map, length-map, length-reverse, length-take-le, reverse-append, reverse-reverse, take-append-drop}
use Rattle.std.proofs.lemmas.List.{take-append-le, drop-append-le}
use Rattle.rsm_paging.specs.Matches.{IsFirst, IsFirstAfter, IsLast, IsLastBefore, IsMatched, below, fit_beside, how_many, ids, index_if, match_of, shown_of, up_to}
use Rattle.rsm_paging.specs.Pages.{IsPageBy, IsPageOf, Rises, as_fit, asked_id, first_fit, id_of, index_of, is_known, most_rows, row_named, those_after, those_before}
use Rattle.rsm_paging.specs.declared.ask.Page.{Page}
use Rattle.rsm_paging.specs.declared.ask.Row.{Row}
use Rattle.rsm_paging.specs.declared.matching.Match.{Match}
use Rattle.rsm_paging.proofs.RiseLemmas.{before-count, drop-up-to, take-below}

-- lists

both : {A B C : Type 0} (f : A → B) (g : B → C) (xs : List A) → map g (map f xs) ≡ map (λ x. g (f x)) xs
both f g [] = refl
both f g (x ∷ xs) = ap (λ l. g (f x) ∷ l) (both f g xs)

pub map-append : {A B : Type 0} (f : A → B) (xs ys : List A) → map f (xs ++ ys) ≡ map f xs ++ map f ys
map-append f [] ys = refl
map-append f (x ∷ xs) ys = ap (λ l. f x ∷ l) (map-append f xs ys)

pub reverse-map : {A B : Type 0} (f : A → B) (xs : List A) → map f (reverse xs) ≡ reverse (map f xs)
reverse-map f [] = refl
reverse-map f (x ∷ xs) =
    ap (map f) (reverse-append (x ∷ []) xs) ∙ map-append f (reverse xs) (x ∷ [])
    ∙ ap (λ l. l ++ f x ∷ []) (reverse-map f xs) ∙ sym (reverse-append (f x ∷ []) (map f xs))

pub drop-whole : {A : Type 0} (xs : List A) → drop (length xs) xs ≡ []
drop-whole [] = refl
drop-whole (x ∷ xs) = drop-whole xs

drop-past : {A : Type 0} (n : ℕ) (xs ys : List A) → n ≡ length xs → drop n (xs ++ ys) ≡ ys
drop-past n xs ys is =
    drop-append-le n xs ys (omega (arith, is)) ∙ ap (λ l. l ++ ys) (ap (λ k. drop k xs) is ∙ drop-whole xs)

-- the last k of a list are the first k of it reversed
pub last-of : {A : Type 0} (k : ℕ) (xs : List A) → k ≤ length xs → reverse (take k (reverse xs)) ≡ drop (length xs - k) xs
last-of k xs few =
    let front = reverse (drop k (reverse xs)) in
    let back = reverse (take k (reverse xs)) in
    let whole : xs ≡ front ++ back =
    sym (reverse-reverse xs) ∙ ap reverse (sym (take-append-drop k (reverse xs))) ∙ reverse-append (take k (reverse xs)) (drop k (reverse xs)) in
    let wide : length xs - k ≡ length front =
    omega (
      arith,
      few,
      ap length whole,
      length-append front back,
      length-reverse (take k (reverse xs)),
      length-take-le k (reverse xs) (
          omega (arith, few, length-reverse xs)
          ),
    ) in
    sym (ap (drop (length xs - k)) whole ∙ drop-past (length xs - k) front back wide)

pub take-twice : {A : Type 0} (k n : ℕ) (xs : List A) → k ≤ length (take n xs) → take k xs ≡ take k (take n xs)
take-twice k n xs few = ap (take k) (sym (take-append-drop n xs)) ∙ take-append-le k (take n xs) (drop n xs) few

one-more : (n : ℕ) → 1 + n ≡ suc n
one-more n = omega arith

-- how many rows fit

beside : (b : ℕ) (rows : List Row) → as_fit b rows ≡ take (fit_beside b (map match_of rows)) rows
beside b [] = refl
beside b (r ∷ rows) = by (nat_le (b + length r.text) 262144) (beside (b + length r.text) rows) where
  by : (c : Bool) → as_fit (b + length r.text) rows ≡ take (fit_beside (b + length r.text) (map match_of rows)) rows
      → (if c then r ∷ as_fit (b + length r.text) rows else [])
      ≡ take (if c then 1 + fit_beside (b + length r.text) (map match_of rows) else 0) (r ∷ rows)
  by true rest =
      ap (λ (l : List Row). r ∷ l) rest ∙ sym (ap (λ (k : ℕ). take k (r ∷ rows)) (one-more (fit_beside (b + length r.text) (map match_of rows))))
  by false rest = refl

pub beside-le : (b : ℕ) (ms : List Match) → fit_beside b ms ≤ length ms
beside-le b [] = omega arith
beside-le b (m ∷ ms) = by (nat_le (b + m.bytes) 262144) (beside-le (b + m.bytes) ms) where
  by : (c : Bool) → fit_beside (b + m.bytes) ms ≤ length ms → (if c then 1 + fit_beside (b + m.bytes) ms else 0) ≤ suc (length ms)
  by true rest = omega (arith, rest)
  by false rest = omega arith

pub many-le : (ms : List Match) → how_many ms ≤ length ms
many-le [] = omega arith
many-le (m ∷ ms) = omega (arith, beside-le m.bytes ms)

first-is : (rows : List Row) → first_fit rows ≡ take (how_many (map match_of rows)) rows
first-is [] = refl
first-is (r ∷ rows) =
    ap (λ (l : List Row). r ∷ l) (beside (length r.text) rows)
    ∙ sym (ap (λ (k : ℕ). take k (r ∷ rows)) (one-more (fit_beside (length r.text) (map match_of rows))))

-- how many of the first rows, at most so many, are shown
abbrev pub shown : ℕ → List Row → ℕ
shown max rows = how_many (take max (map match_of rows))

shown-le : (max : ℕ) (rows : List Row) → shown max rows ≤ length (take max rows)
shown-le max rows =
    let same : shown max rows ≡ how_many (map match_of (take max rows)) = ap how_many (take-map match_of max rows) in
    omega (arith, same, many-le (map match_of (take max rows)), length-map (take max rows) match_of)

shown-few : (max : ℕ) (rows : List Row) → shown max rows ≤ length rows
shown-few max rows = omega (arith, shown-le max rows, ap length (take-append-drop max rows), length-append (take max rows) (drop max rows))

pub shown-rows : (max : ℕ) (rows : List Row) → first_fit (take max rows) ≡ take (shown max rows) rows
shown-rows max rows =
    first-is (take max rows) ∙ ap (λ (k : ℕ). take k (take max rows)) (ap how_many (sym (take-map match_of max rows)))
    ∙ sym (take-twice (shown max rows) max rows (shown-le max rows))

shown-many : (max : ℕ) (rows : List Row) → length (first_fit (take max rows)) ≡ shown max rows
shown-many max rows = ap length (shown-rows max rows) ∙ length-take-le (shown max rows) rows (shown-few max rows)

shown-ids : (max : ℕ) (rows : List Row) → ids (shown_of max (map match_of rows)) ≡ map id_of (first_fit (take max rows))
shown-ids max rows =
    ap ids (take-map match_of (shown max rows) rows) ∙ both match_of (λ (m : Match). m.id) (take (shown max rows) rows)
    ∙ ap (map id_of) (sym (shown-rows max rows))

-- the place of the first row of a page

index-some : (many place : ℕ) → index_if (suc many) place ≡ place
index-some many place = grind (arith, common_steps)

index-is : (asked page : List Row) (many place : ℕ) → Rises asked → length page ≡ many
    → ((r : Row) (more : List Row) → page ≡ r ∷ more → (later : List Row) × (drop place asked ≡ r ∷ later)) → index_if many place ≡ index_of asked page
index-is asked [] zero place rises wide at = refl
index-is asked [] (suc many) place rises wide at = absurd (let z : zero ≡ suc many = wide in cc)
index-is asked (r ∷ more) zero place rises wide at = absurd (let z : suc (length more) ≡ zero = wide in cc)
index-is asked (r ∷ more) (suc many) place rises wide at =
    let there = at r more refl in index-some many place ∙ sym (before-count asked rises place r there.0 there.1)

-- the page of those from a place on
pub first-page-is : (asked : List Row) → Rises asked → (from max : ℕ) (page : Page) → IsFirst (map match_of asked) from max page
    → IsPageOf asked (drop from asked) (first_fit (take max (drop from asked))) page
first-page-is asked rises from max page is =
    let wanted : List Row = drop from asked in
    let same : drop from (map match_of asked) ≡ map match_of wanted = drop-map match_of from asked in
    let front : (r : Row) (more : List Row) → first_fit (take max wanted) ≡ r ∷ more → (later : List Row) × (wanted ≡ r ∷ later) =
    λ r more at. (
      more ++ drop (shown max wanted) wanted,
      sym (take-append-drop (shown max wanted) wanted) ∙ ap (λ (l : List Row). l ++ drop (shown max wanted) wanted) (sym (shown-rows max wanted) ∙ at),
    ) in
    record {
      rows = is.rows ∙ ap (λ l. ids (shown_of max l)) same ∙ shown-ids max wanted;
      index =
          is.index ∙ ap (λ l. index_if (how_many (take max l)) from) same
          ∙ index-is asked (first_fit (take max wanted)) (shown max wanted) from rises (shown-many max wanted) front;
      count = is.count ∙ length-map asked match_of;
      complete =
          is.complete ∙ ap (λ l. how_many (take max l) == length l) same
          ∙ ap (λ k. shown max wanted == k) (length-map wanted match_of) ∙ ap (λ k. k == length wanted) (sym (shown-many max wanted));
    }

-- the page of the last of those before a place
pub last-page-is : (asked : List Row) → Rises asked → (to max : ℕ) (page : Page) → IsLast (map match_of asked) to max page
    → IsPageOf asked (take to asked) (reverse (first_fit (take max (reverse (take to asked))))) page
last-page-is asked rises to max page is =
    let wanted : List Row = take to asked in
    let back : List Row = reverse wanted in
    let same : take to (map match_of asked) ≡ map match_of wanted = take-map match_of to asked in
    let turned : reverse (take to (map match_of asked)) ≡ map match_of back = ap reverse same ∙ sym (reverse-map match_of wanted) in
    let many : ℕ = shown max back in
    let wide : length (take to (map match_of asked)) ≡ length wanted = ap length same ∙ length-map wanted match_of in
    let few : many ≤ length wanted = omega (arith, shown-few max back, length-reverse wanted) in
    let page-is : reverse (first_fit (take max back)) ≡ drop (length wanted - many) wanted =
    ap reverse (shown-rows max back) ∙ last-of many wanted few in
    let long : length (reverse (first_fit (take max back))) ≡ many = length-reverse (first_fit (take max back)) ∙ shown-many max back in
    let front : (r : Row) (more : List Row) → reverse (first_fit (take max back)) ≡ r ∷ more
    → (later : List Row) × (drop (length wanted - many) asked ≡ r ∷ later) =
    λ r more at. (
      more ++ drop to asked,
      ap (drop (length wanted - many)) (sym (take-append-drop to asked)) ∙ drop-append-le (length wanted - many) wanted (drop to asked) (omega arith)
          ∙ ap (λ (l : List Row). l ++ drop to asked) (sym page-is ∙ at),
    ) in
    record {
      rows = is.rows ∙ ap (λ l. reverse (ids (shown_of max l))) turned ∙ ap reverse (shown-ids max back) ∙ sym (reverse-map id_of (first_fit (take max back)));
      index =
          is.index ∙ ap (λ l. index_if (how_many (take max l)) (length (take to (map match_of asked)) - how_many (take max l))) turned
          ∙ ap (λ k. index_if many (k - many)) wide
          ∙ index-is asked (reverse (first_fit (take max back))) many (length wanted - many) rises long front;
      count = is.count ∙ length-map asked match_of;
      complete =
          is.complete ∙ ap (λ l. how_many (take max l) == length (take to (map match_of asked))) turned
          ∙ ap (λ k. many == k) wide ∙ ap (λ k. k == length wanted) (sym long);
    }

-- the id of the row that a number names

pub found-id : (n : ℕ) (rows : List Row)
    → option_map id_of (find (λ r. r.id == n) rows) ≡ (if list_any (λ r. r.id == n) rows then Some n else None)
found-id n [] = refl
found-id n (r ∷ rows) = by (r.id == n) refl (found-id n rows) where
  by : (b : Bool) → (r.id == n) ≡ b → option_map id_of (find (λ l. l.id == n) rows) ≡ (if list_any (λ l. l.id == n) rows then Some n else None)
      → option_map id_of (if b then Some r else find (λ l. l.id == n) rows) ≡ (if b || list_any (λ l. l.id == n) rows then Some n else None)
  by true is rest = ap Some (eqb-true r.id n is)
  by false is rest = rest

-- the page that is asked for

after-is : (asked : List Row) → Rises asked → (max : ℕ) (page : Page) (row : Option Row) → is_some row ≡ true
    → IsFirstAfter row (map match_of asked) max page
    → IsPageOf asked (those_after row asked) (first_fit (take max (those_after row asked))) page
after-is asked rises max page None known is = absurd (let z : false ≡ true = known in cc)
after-is asked rises max page (Some row) known is =
    subst (λ (l : List Row). IsPageOf asked l (first_fit (take max l)) page) (drop-up-to row.id asked rises)
    (first-page-is asked rises (up_to row.id (map match_of asked)) max page is)

before-is : (asked : List Row) → Rises asked → (max : ℕ) (page : Page) (row : Option Row) → is_some row ≡ true
    → IsLastBefore row (map match_of asked) max page
    → IsPageOf asked (those_before row asked) (reverse (first_fit (take max (reverse (those_before row asked))))) page
before-is asked rises max page None known is = absurd (let z : false ≡ true = known in cc)
before-is asked rises max page (Some row) known is =
    subst (λ (l : List Row). IsPageOf asked l (reverse (first_fit (take max (reverse l)))) page) (take-below row.id asked rises)
    (last-page-is asked rises (below row.id (map match_of asked)) max page is)

all-taken : {A : Type 0} (xs : List A) → take (length xs) xs ≡ xs
all-taken [] = refl
all-taken (x ∷ xs) = ap (λ l. x ∷ l) (all-taken xs)

pub page-is : (rows asked : List Row) → Rises asked → (max : ℕ) (after before : Option (List ℕ)) (page : Page)
    → is_known rows (asked_id after before) ≡ true → IsMatched rows (map match_of asked) (most_rows max) after before page
    → IsPageBy rows asked max after before page
page-is rows asked rises max (Some after) before page known is = after-is asked rises (most_rows max) page (row_named after rows) known is
page-is rows asked rises max None (Some []) page known is =
    subst (λ (l : List Row). IsPageOf asked l (reverse (first_fit (take (most_rows max) (reverse l)))) page)
    (ap (λ (k : ℕ). take k asked) (length-map asked match_of) ∙ all-taken asked)
    (last-page-is asked rises (length (map match_of asked)) (most_rows max) page is)
page-is rows asked rises max None (Some (b ∷ id)) page known is = before-is asked rises (most_rows max) page (row_named (b ∷ id) rows) known is
page-is rows asked rises max None None page known is = first-page-is asked rises 0 (most_rows max) page is

pub both-ok : {A E : Type 0} {P Q : A → Type 0} {K : Type 0} (r : Result A E) → IfOk r P → OnOk r K → ((a : A) → K → P a → Q a) → IfOk r Q
both-ok (Ok a) p k f = f a k p
both-ok (Err e) p k f = tt

pub ok-then : {A E : Type 0} {P Q : A → Type 0} (r : Result A E) → IfOk r P → ((a : A) → P a → Q a) → IfOk r Q
ok-then (Ok a) p f = f a p
ok-then (Err e) p f = tt
