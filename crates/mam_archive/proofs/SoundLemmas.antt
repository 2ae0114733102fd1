-- What stands in an archive when a row goes, and when one comes.
use Rattle.std.proofs.Common.{◌≡◌, ℕ, zero, suc, ◌+◌, ◌-◌, ◌*◌, ◌^◌, ◌<◌, ◌≤◌, List, [], ◌∷◌, ◌++◌, take, drop, length, slice_get, refl, ap, sym, ◌∙◌, subst, arith, length-append}
use Rattle.std.specs.List.{AllByRecursion}
use Rattle.std.proofs.lemmas.List.{drop-append-le}
use Rattle.rsm_paging.proofs.ListedLemmas.{stamps-lower}
use Rattle.rsm_paging.specs.Pages.{Follow, StampsRise}
use Rattle.rsm_paging.specs.declared.ask.Row.{Row}
use Rattle.mam_archive.specs.Archives.{last_stamp, most_kept, stamp_after, stamp_of, texts_length}
use Rattle.mam_archive.specs.Sounds.{AreNumbered, IsSound}

pub drop-one : (n : ℕ) (rows : List Row) → drop (n + 1) rows ≡ drop 1 (drop n rows)
drop-one n rows = let one : n + 1 ≡ suc n = omega arith in ap (λ (k : ℕ). drop k rows) one ∙ by n rows where
  by : (n : ℕ) (rows : List Row) → drop (suc n) rows ≡ drop 1 (drop n rows)
  by zero rows = refl
  by (suc n) [] = refl
  by (suc n) (r ∷ rows) = by n rows

length-dropped : (n : ℕ) (rows : List Row) → length (drop n rows) ≡ length rows - n
length-dropped zero rows = omega arith
length-dropped (suc n) [] = omega arith
length-dropped (suc n) (r ∷ rows) = omega (arith, length-dropped n rows)

-- what is left of rows that are kept, when the oldest goes
record Rest (kept : List Row) (made bytes length_of_first : ℕ) : Type 0 where
  pub few : length (drop 1 kept) ≤ most_kept
  pub last : length (drop 1 kept) ≤ made
  pub first : (n : ℕ) × (n + length (drop 1 kept) ≡ made + 1) × AreNumbered n (drop 1 kept)
  pub stamps : StampsRise 0 (drop 1 kept)
  pub texts : bytes - length_of_first ≡ texts_length (drop 1 kept)

rest-of : (kept : List Row) (made bytes first : ℕ) → 0 < length kept → length kept ≤ most_kept → length kept ≤ made
    → (n : ℕ) → n + length kept ≡ made + 1 → AreNumbered n kept → StampsRise 0 kept → bytes ≡ texts_length kept → first ≡ texts_length (take 1 kept)
    → Rest kept made bytes first
rest-of [] made bytes first some few last n at numbered stamps texts long = absurd (omega (arith, some))
rest-of (r ∷ kept) made bytes first some few last n at numbered stamps texts long = record {
  few = omega (arith, few);
  last = omega (arith, last);
  first = (n + 1, omega (arith, at), numbered.2);
  stamps = stamps-lower 0 r.stamp kept (omega arith) stamps.1;
  texts = omega (arith, texts, long);
}

pub sound-dropped : (rows later : List Row) (gone made bytes first : ℕ) → IsSound rows gone made bytes → 0 < length (drop gone rows)
    → drop (gone + 1) later ≡ drop (gone + 1) rows → length later ≡ length rows → first ≡ texts_length (take 1 (drop gone rows))
    → IsSound later (gone + 1) made (bytes - first)
sound-dropped rows later gone made bytes first is some same wide long =
    let kept : List Row = drop gone rows in
    let rest = rest-of kept made bytes first some is.few is.last is.first.0 is.first.1 is.first.2 is.stamps is.texts long in
    let now : drop 1 kept ≡ drop (gone + 1) later = sym (drop-one gone rows) ∙ sym same in
    record {
      there = omega (arith, some, wide, length-dropped gone rows);
      few = subst (λ (l : List Row). length l ≤ most_kept) now rest.few;
      last = subst (λ (l : List Row). length l ≤ made) now rest.last;
      first = subst (λ (l : List Row). (n : ℕ) × (n + length l ≡ made + 1) × AreNumbered n l) now rest.first;
      stamps = subst (λ (l : List Row). StampsRise 0 l) now rest.stamps;
      texts = subst (λ (l : List Row). bytes - first ≡ texts_length l) now rest.texts;
    }

pub sound-forgotten : (rows later : List Row) (gone made bytes : ℕ) → IsSound rows gone made bytes → later ≡ drop gone rows → IsSound later 0 made bytes
sound-forgotten rows later gone made bytes is same = subst (λ (l : List Row). IsSound l 0 made bytes) (sym same) (record {
  there = omega arith;
  few = is.few;
  last = is.last;
  first = is.first;
  stamps = is.stamps;
  texts = is.texts;
})

numbered-more : (n : ℕ) (kept : List Row) (row : Row) → AreNumbered n kept → row.id ≡ n + length kept → length row.text < 2 ^ 64
    → AreNumbered n (kept ++ row ∷ [])
numbered-more n [] row all at short = (omega (arith, at), short, tt)
numbered-more n (r ∷ kept) row all at short = (all.0, all.1, numbered-more (n + 1) kept row all.2 (omega (arith, at)) short)

texts-more : (kept : List Row) (row : Row) → texts_length (kept ++ row ∷ []) ≡ texts_length kept + length row.text
texts-more [] row = omega arith
texts-more (r ∷ kept) row = omega (arith, texts-more kept row)

pub texts-le : (n : ℕ) (kept : List Row) → AreNumbered n kept → texts_length kept ≤ length kept * 2 ^ 64
texts-le n [] all = omega arith
texts-le n (r ∷ kept) all = let short = all.1 in omega (arith, short, texts-le (n + 1) kept all.2)

-- stamps

stamps-more : (s : ℕ) (kept : List Row) (row : Row) → StampsRise s kept → s ≤ row.stamp → AllByRecursion (λ r. r.stamp ≤ row.stamp) kept
    → StampsRise s (kept ++ row ∷ [])
stamps-more s [] row rise le all = (le, tt)
stamps-more s (r ∷ kept) row rise le all = (rise.0, stamps-more r.stamp kept row rise.1 all.0 all.1)

last-of-more : (r x : Row) (more : List Row) → last_stamp (r ∷ x ∷ more) ≡ last_stamp (x ∷ more)
last-of-more r x more =
    let place : length (r ∷ x ∷ more) - 1 ≡ suc (length (x ∷ more) - 1) = omega arith in
    ap (λ (k : ℕ). stamp_of (slice_get (r ∷ x ∷ more) k)) place

below-last : (s : ℕ) (kept : List Row) → StampsRise s kept → AllByRecursion (λ r. r.stamp ≤ last_stamp kept) kept
below-last s [] rise = tt
below-last s (r ∷ []) rise = (omega arith, tt)
below-last s (r ∷ x ∷ more) rise =
    let rest = below-last r.stamp (x ∷ more) rise.1 in
    let le = rise.1.0 in
    let last = rest.0 in
    subst (λ (n : ℕ). AllByRecursion (λ o. o.stamp ≤ n) (r ∷ x ∷ more)) (sym (last-of-more r x more)) (omega (arith, le, last), rest)

all-below : (a b : ℕ) (kept : List Row) → a ≤ b → AllByRecursion (λ r. r.stamp ≤ a) kept → AllByRecursion (λ r. r.stamp ≤ b) kept
all-below a b [] le all = tt
all-below a b (r ∷ kept) le all = (let is = all.0 in omega (arith, le, is), all-below a b kept le all.1)

all-dropped : (P : Row → Type 0) (n : ℕ) (kept : List Row) → AllByRecursion P kept → AllByRecursion P (drop n kept)
all-dropped P zero kept all = all
all-dropped P (suc n) [] all = tt
all-dropped P (suc n) (r ∷ kept) all = all-dropped P n kept all.1

-- the stamp of a new row is at least each of those that are kept, and of those that are left of them
pub stamps-below : (kept left : List Row) (n moment stamp : ℕ) → StampsRise 0 kept → stamp ≡ stamp_after kept moment → left ≡ drop n kept
    → AllByRecursion (λ r. r.stamp ≤ stamp) left
stamps-below kept left n moment stamp rise is rest =
    subst (AllByRecursion (λ r. r.stamp ≤ stamp)) (sym rest)
    (all-dropped (λ r. r.stamp ≤ stamp) n kept (all-below (last_stamp kept) stamp kept (omega (arith, is)) (below-last 0 kept rise)))

pub numbered-follow : (n : ℕ) (rows : List Row) → AreNumbered n rows → Follow n rows
numbered-follow n [] all = tt
numbered-follow n (r ∷ rows) all = (all.0, numbered-follow (n + 1) rows all.2)

pub sound-added : (rows : List Row) (row : Row) (gone made bytes : ℕ) → IsSound rows gone made bytes → length (drop gone rows) < most_kept
    → row.id ≡ made + 1 → length row.text < 2 ^ 64 → AllByRecursion (λ r. r.stamp ≤ row.stamp) (drop gone rows) → IsSound (rows ++ row ∷ []) gone (made + 1) (bytes + length row.text)
sound-added rows row gone made bytes is few at short late =
    let kept : List Row = drop gone rows in
    let now : drop gone (rows ++ row ∷ []) ≡ kept ++ row ∷ [] = drop-append-le gone rows (row ∷ []) is.there in
    let wide : length (kept ++ row ∷ []) ≡ length kept + 1 = length-append kept (row ∷ []) in
    let n : ℕ = is.first.0 in
    record {
      there = let there = is.there in omega (arith, there, length-append rows (row ∷ []));
      few = let l : length (drop gone (rows ++ row ∷ [])) ≡ length kept + 1 = ap length now ∙ wide in omega (arith, few, l);
      last =
          let last = is.last in
          let l : length (drop gone (rows ++ row ∷ [])) ≡ length kept + 1 = ap length now ∙ wide in omega (arith, last, l);
      first =
          let from = is.first.1 in
          subst (λ (l : List Row). (k : ℕ) × (k + length l ≡ made + 1 + 1) × AreNumbered k l) (sym now) (
            n,
            omega (arith, from, wide),
            numbered-more n kept row is.first.2 (omega (arith, from, at)) short,
          );
      stamps = subst (λ (l : List Row). StampsRise 0 l) (sym now) (stamps-more 0 kept row is.stamps (omega arith) late);
      texts = let texts = is.texts in omega (arith, texts, ap texts_length now, texts-more kept row);
    }
