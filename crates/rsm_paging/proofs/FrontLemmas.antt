-- The page that begins, or ends, with what the rows of a span give.
use Rattle.std.proofs.Common.{◌≡◌, ℕ, zero, suc, ◌+◌, ◌-◌, ◌<◌, ◌≤◌, ◌==◌, min, List, [], ◌∷◌, take, drop, reverse, map, length, refl}
use Rattle.std.proofs.Common.{ap, sym, ◌∙◌, arith, Bool, true, false, if◌then◌else◌}
use Rattle.std.specs.Prelude.{Option, nat_le, nat_lt}
use Rattle.std.specs.List.{filter}
use Rattle.std.proofs.Math.Nat.{min-eq_left, min-eq_right}
use Rattle.std.proofs.lemmas.List.{drop-map, drop-take, length-drop, length-map, length-reverse, length-take-le, reverse-reverse, take-map}
use Rattle.rsm_paging.specs.Matches.{IsFirst, IsLast, below, how_many, ids, index_if, match_of, shown_of, up_to}
use Rattle.rsm_paging.specs.Places.{IsBackOf, IsFrontOf, IsSpan, comes_before, rows_at}
use Rattle.rsm_paging.specs.declared.ask.Page.{Page}
use Rattle.rsm_paging.specs.declared.ask.Row.{Row}
use Rattle.rsm_paging.specs.declared.matching.Match.{Match}
use Rattle.rsm_paging.specs.declared.placing.Bound.TheVariants.{Id, PastId}
use Rattle.rsm_paging.proofs.PageLemmas.{last-of, many-le, reverse-map, take-twice}
use Rattle.rsm_paging.proofs.RiseLemmas.{choose-le}
use Rattle.rsm_paging.proofs.SpanLemmas.{rows-within}

take-all : {A : Type 0} (n : ℕ) (xs : List A) → length xs ≤ n → take n xs ≡ xs
take-all zero [] few = refl
take-all zero (x ∷ xs) few = absurd (omega (arith, few))
take-all (suc n) [] few = refl
take-all (suc n) (x ∷ xs) few = ap (λ l. x ∷ l) (take-all n xs (omega (arith, few)))

take-min : {A : Type 0} (many max : ℕ) (xs : List A) → length xs ≡ many → take (min many max) xs ≡ take max xs
take-min many max xs wide =
    choose-le many max
    (λ (few : many ≤ max). ap (λ (k : ℕ). take k xs) (min-eq_left few) ∙ take-all many xs (omega (arith, wide)) ∙ sym (take-all max xs (omega (arith, wide, few))))
    (λ (more : max < many). ap (λ (k : ℕ). take k xs) (min-eq_right (omega (arith, more))))

shown-is : (max : ℕ) (ms front : List Match) → front ≡ take max ms → take (how_many front) front ≡ shown_of max ms
shown-is max ms front is =
    ap (λ (l : List Match). take (how_many l) l) is
    ∙ sym (take-twice (how_many (take max ms)) max ms (many-le (take max ms)))

front-first : (ms : List Match) (from max wanted all : ℕ) (front : List Match) (page : Page) → from + wanted ≡ length ms → all ≡ length ms
    → front ≡ take max (drop from ms) → IsFrontOf front from wanted all page → IsFirst ms from max page
front-first ms from max wanted all front page within wide is front-page =
    let left : wanted ≡ length (drop from ms) = omega (arith, within, length-drop from ms) in
    record {
      rows = front-page.rows ∙ ap ids (shown-is max (drop from ms) front is);
      index = front-page.index ∙ ap (λ (l : List Match). index_if (how_many l) from) is;
      count = front-page.count ∙ wide;
      complete = front-page.complete ∙ ap (λ (l : List Match). how_many l == wanted) is ∙ ap (λ (k : ℕ). how_many (take max (drop from ms)) == k) left;
    }

back-last : (ms : List Match) (to max all : ℕ) (back : List Match) (page : Page) → to ≤ length ms → all ≡ length ms
    → back ≡ take max (reverse (take to ms)) → IsBackOf back to all page → IsLast ms to max page
back-last ms to max all back page within wide is back-page =
    let there : to ≡ length (take to ms) = sym (length-take-le to ms within) in
    record {
      rows = back-page.rows ∙ ap (λ (l : List Match). reverse (ids l)) (shown-is max (reverse (take to ms)) back is);
      index =
          back-page.index ∙ ap (λ (l : List Match). index_if (how_many l) (to - how_many l)) is
          ∙ ap (λ (k : ℕ). index_if (how_many (take max (reverse (take to ms)))) (k - how_many (take max (reverse (take to ms))))) there;
      count = back-page.count ∙ wide;
      complete = back-page.complete ∙ ap (λ (l : List Match). how_many l == to) is ∙ ap (λ (k : ℕ). how_many (take max (reverse (take to ms))) == k) there;
    }

-- what the rows of a span give

pub first-at : (rows : List Row) (picked : Option (List ℕ)) (place many from wanted max k : ℕ) (front : List Match) (page : Page)
    → IsSpan rows picked place many → from ≤ many → wanted ≡ many - from → k ≡ min wanted max
    → front ≡ map match_of (rows_at rows picked (place + from) k) → IsFrontOf front from wanted many page
    → IsFirst (map match_of (rows_at rows picked place many)) from max page
first-at rows picked place many from wanted max k front page span within left few is front-page =
    let xs : List Row = rows_at rows picked place many in
    let there = span.there in
    let wide : many ≡ length (map match_of xs) = sym (length-map xs match_of ∙ there) in
    let fit : from + k ≤ many = omega (arith, within, left, few) in
    let long : length (drop from (map match_of xs)) ≡ wanted = omega (arith, length-drop from (map match_of xs), wide, left) in
    front-first (map match_of xs) from max wanted many front page (omega (arith, left, within, wide)) wide
    (is ∙ ap (map match_of) (rows-within rows picked place many from k there fit)
    ∙ sym (take-map match_of k (drop from xs)) ∙ ap (take k) (sym (drop-map match_of from xs))
    ∙ ap (λ (n : ℕ). take n (drop from (map match_of xs))) few ∙ take-min wanted max (drop from (map match_of xs)) long)
    front-page

pub last-at : (rows : List Row) (picked : Option (List ℕ)) (place many to max k : ℕ) (back : List Match) (page : Page)
    → IsSpan rows picked place many → to ≤ many → k ≡ min to max
    → back ≡ reverse (map match_of (rows_at rows picked (place + (to - k)) k)) → IsBackOf back to many page
    → IsLast (map match_of (rows_at rows picked place many)) to max page
last-at rows picked place many to max k back page span within few is back-page =
    let xs : List Row = rows_at rows picked place many in
    let there = span.there in
    let wide : many ≡ length (map match_of xs) = sym (length-map xs match_of ∙ there) in
    let whole : to - k + k ≡ to = omega (arith, few) in
    let fit : to - k + k ≤ many = omega (arith, whole, within) in
    let less : k ≤ to = omega (arith, few) in
    let shown : List Row = take to xs in
    let long : length shown ≡ to = length-take-le to xs (omega (arith, within, there)) in
    let part : rows_at rows picked (place + (to - k)) k ≡ reverse (take k (reverse shown)) =
    rows-within rows picked place many (to - k) k there fit ∙ sym (drop-take (to - k) k xs)
    ∙ ap (λ (n : ℕ). drop (to - k) (take n xs)) whole ∙ ap (λ (n : ℕ). drop (n - k) shown) (sym long)
    ∙ sym (last-of k shown (omega (arith, long, less))) in
    let back-is : back ≡ take k (reverse (take to (map match_of xs))) =
    is ∙ ap (λ (l : List Row). reverse (map match_of l)) part ∙ sym (reverse-map match_of (reverse (take k (reverse shown))))
    ∙ ap (map match_of) (reverse-reverse (take k (reverse shown))) ∙ sym (take-map match_of k (reverse shown))
    ∙ ap (take k) (reverse-map match_of shown) ∙ ap (λ (l : List Match). take k (reverse l)) (sym (take-map match_of to xs)) in
    let turned : length (reverse (take to (map match_of xs))) ≡ to =
    length-reverse (take to (map match_of xs)) ∙ length-take-le to (map match_of xs) (omega (arith, within, wide)) in
    back-last (map match_of xs) to max many back page (omega (arith, within, wide)) wide
    (back-is ∙ ap (λ (n : ℕ). take n (reverse (take to (map match_of xs)))) few ∙ take-min to max (reverse (take to (map match_of xs))) turned)
    back-page

-- how many come before

pub up-to-count : (id : ℕ) (rows : List Row) → length (filter (comes_before (PastId id)) rows) ≡ up_to id (map match_of rows)
up-to-count id [] = refl
up-to-count id (r ∷ rows) = by (nat_le r.id id) (up-to-count id rows) where
  by : (b : Bool) → length (filter (comes_before (PastId id)) rows) ≡ up_to id (map match_of rows)
      → length (if b then r ∷ filter (comes_before (PastId id)) rows else filter (comes_before (PastId id)) rows)
      ≡ length (if b then match_of r ∷ filter (λ m. nat_le m.id id) (map match_of rows) else filter (λ m. nat_le m.id id) (map match_of rows))
  by true rest = ap suc rest
  by false rest = rest

pub below-count : (id : ℕ) (rows : List Row) → length (filter (comes_before (Id id)) rows) ≡ below id (map match_of rows)
below-count id [] = refl
below-count id (r ∷ rows) = by (nat_lt r.id id) (below-count id rows) where
  by : (b : Bool) → length (filter (comes_before (Id id)) rows) ≡ below id (map match_of rows)
      → length (if b then r ∷ filter (comes_before (Id id)) rows else filter (comes_before (Id id)) rows)
      ≡ length (if b then match_of r ∷ filter (λ m. nat_lt m.id id) (map match_of rows) else filter (λ m. nat_lt m.id id) (map match_of rows))
  by true rest = ap suc rest
  by false rest = rest
