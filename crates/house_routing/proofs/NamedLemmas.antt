-- The numbers of the sessions that addresses name, found address by address, sorted and each once.
use Rattle.std.proofs.Common.{◌≡◌, inl, inr, ℕ, ◌+◌, ◌<◌, ◌≤◌, ◌&&◌, nat_eq, cond, Bool, true, false, List, [], ◌∷◌, ◌++◌, if◌then◌else◌}
use Rattle.std.proofs.Common.{Less, length, drop, arith, refl, sym, ap, subst, ◌∙◌}
use Rattle.std.specs.Prelude.{bytes_eq, flat_map, is_some, ◌||◌, ⊤}
use Rattle.std.specs.List.{AllByRecursion, dedup, dedup_from, list_any}
use Rattle.std.specs.List.Retain.{DiffersFromLast, IsFiltered}
use Rattle.std.specs.List.Sorted.{IsPermutation, IsSorted, IsStrictlySortedBy}
use Rattle.std.specs.Cmp.{ranked}
use Rattle.std.specs.Ordering.{nat_cmp}
use Rattle.std.proofs.lemmas.Bool.{eqb-true, eq-eqb, ne_eqb, true≢false}
use Rattle.std.proofs.lemmas.Bool.Decides.{eqb_tells}
use Rattle.std.proofs.lemmas.List.{append-nil, drop_all}
use Rattle.std.proofs.lemmas.List.Filters.{dedup_is}
use Rattle.std.proofs.lemmas.List.Folds.{list_any-append}
use Rattle.std.proofs.lemmas.List.Sorted.{list_any-IsPermutation}
use Rattle.std.proofs.lemmas.Map.Keys.{IsStrictlyIncreasing-dedup, sorted_from_strictly_increasing, sorted_head, sorted_tail}
use Rattle.jid_core.specs.Addresses.{Address, same_address, same_bare, same_part}
use Rattle.session_table.specs.Sessions.{SessionRecord}
use Rattle.session_table.specs.Tables.{Rises, of_user}
use Rattle.house_routing.specs.Listings.{is_named, is_named_by, numbers_by}

abbrev one_of : Bool → ℕ → List ℕ
one_of b n = if b then n ∷ [] else []

-- Whoever is named by an address is of its user.

and_left : (b c : Bool) → (b && c) ≡ true → b ≡ true
and_left true c both = refl
and_left false c both = both

and_right : (b c : Bool) → (b && c) ≡ true → c ≡ true
and_right true c both = both
and_right false c both = absurd (true≢false (sym both))

of_its_user : (a : Address) (x : SessionRecord) → is_named_by a x ≡ true → same_part x.address.local a.local ≡ true
of_its_user a x named = by (is_some a.resource) named
  where
    bare : same_bare x.address a ≡ true → same_part x.address.local a.local ≡ true
    bare same = and_left (same_part x.address.local a.local) (bytes_eq x.address.domain a.domain) same

    by : (b : Bool) → (if b then same_address x.address a else (is_some x.presence && same_bare x.address a)) ≡ true
        → same_part x.address.local a.local ≡ true
    by true same = bare (and_left (same_bare x.address a) (same_part x.address.resource a.resource) same)
    by false same = bare (and_right (is_some x.presence) (same_bare x.address a) same)

pub user_numbers : (a : Address) (es : List (ℕ × SessionRecord))
    → numbers_by (is_named_by a) (of_user a.local es) ≡ numbers_by (is_named_by a) es
user_numbers a [] = refl
user_numbers a (e ∷ more) = by (same_part e.1.address.local a.local) refl (user_numbers a more)
  where
    none : same_part e.1.address.local a.local ≡ false → (b : Bool) → is_named_by a e.1 ≡ b
        → numbers_by (is_named_by a) more ≡ one_of b e.0 ++ numbers_by (is_named_by a) more
    none other true named = absurd (true≢false (sym (of_its_user a e.1 named) ∙ other))
    none other false named = refl

    by : (b : Bool) → same_part e.1.address.local a.local ≡ b
        → numbers_by (is_named_by a) (of_user a.local more) ≡ numbers_by (is_named_by a) more
        → numbers_by (is_named_by a) (cond b (e ∷ of_user a.local more) (of_user a.local more))
        ≡ one_of (is_named_by a e.1) e.0 ++ numbers_by (is_named_by a) more
    by true own same = ap (λ ns. one_of (is_named_by a e.1) e.0 ++ ns) same
    by false other same = same ∙ none other (is_named_by a e.1) refl

-- Which numbers are there.

abbrev is_in : ℕ → List ℕ → Bool
is_in n ns = list_any (nat_eq n) ns

-- those that pass one of two tests
of_either : (n : ℕ) (p q : SessionRecord → Bool) (es : List (ℕ × SessionRecord))
    → is_in n (numbers_by (λ x. p x || q x) es) ≡ (is_in n (numbers_by p es) || is_in n (numbers_by q es))
of_either n p q [] = refl
of_either n p q (e ∷ more) = by (p e.1) (q e.1) (of_either n p q more)
  where
    both : (t b c : Bool) → (t || (b || c)) ≡ ((t || b) || (t || c))
    both true b c = refl
    both false b c = refl

    first : (t b c : Bool) → (t || (b || c)) ≡ ((t || b) || c)
    first true b c = refl
    first false b c = refl

    second : (t b c : Bool) → (t || (b || c)) ≡ (b || (t || c))
    second true true c = refl
    second true false c = refl
    second false true c = refl
    second false false c = refl

    by : (b c : Bool) → is_in n (numbers_by (λ x. p x || q x) more) ≡ (is_in n (numbers_by p more) || is_in n (numbers_by q more))
        → is_in n (one_of (b || c) e.0 ++ numbers_by (λ x. p x || q x) more)
        ≡ (is_in n (one_of b e.0 ++ numbers_by p more) || is_in n (one_of c e.0 ++ numbers_by q more))
    by true true same =
        ap (λ r. nat_eq n e.0 || r) same ∙ both (nat_eq n e.0) (is_in n (numbers_by p more)) (is_in n (numbers_by q more))
    by true false same =
        ap (λ r. nat_eq n e.0 || r) same ∙ first (nat_eq n e.0) (is_in n (numbers_by p more)) (is_in n (numbers_by q more))
    by false true same =
        ap (λ r. nat_eq n e.0 || r) same ∙ second (nat_eq n e.0) (is_in n (numbers_by p more)) (is_in n (numbers_by q more))
    by false false same = same

none_pass : (n : ℕ) (es : List (ℕ × SessionRecord)) → is_in n (numbers_by (λ x. false) es) ≡ false
none_pass n [] = refl
none_pass n (e ∷ more) = none_pass n more

of_addresses : (n : ℕ) (addresses : List Address) (es : List (ℕ × SessionRecord))
    → is_in n (flat_map (λ a. numbers_by (is_named_by a) es) addresses) ≡ is_in n (numbers_by (is_named addresses) es)
of_addresses n [] es = sym (none_pass n es)
of_addresses n (a ∷ more) es =
    list_any-append (nat_eq n) (numbers_by (is_named_by a) es) (flat_map (λ a. numbers_by (is_named_by a) es) more)
    ∙ (ap (λ b. is_in n (numbers_by (is_named_by a) es) || b) (of_addresses n more es)
    ∙ sym (of_either n (is_named_by a) (is_named more) es))

-- one that is the same as the one before is left out
of_dedup : (n k : ℕ) (ns : List ℕ) → is_in n (dedup_from nat_eq k ns) ≡ (nat_eq n k || is_in n ns)
of_dedup n k [] = refl
of_dedup n k (m ∷ ns) = by (nat_eq m k) refl (of_dedup n k ns) (of_dedup n m ns)
  where
    twice : (b c : Bool) → (b || c) ≡ (b || (b || c))
    twice true c = refl
    twice false c = refl

    by : (b : Bool) → nat_eq m k ≡ b → is_in n (dedup_from nat_eq k ns) ≡ (nat_eq n k || is_in n ns)
        → is_in n (dedup_from nat_eq m ns) ≡ (nat_eq n m || is_in n ns)
        → is_in n (cond b (dedup_from nat_eq k ns) (k ∷ dedup_from nat_eq m ns)) ≡ (nat_eq n k || (nat_eq n m || is_in n ns))
    by true is here other =
        here ∙ (twice (nat_eq n k) (is_in n ns) ∙ ap (λ j. nat_eq n k || (nat_eq n j || is_in n ns)) (sym (eqb-true m k is)))
    by false is here other = ap (λ b. nat_eq n k || b) other

of_deduped : (n : ℕ) (ns : List ℕ) → is_in n (dedup nat_eq ns) ≡ is_in n ns
of_deduped n [] = refl
of_deduped n (m ∷ ns) = of_dedup n m ns

-- Lists that rise and have the same numbers are the same.

-- each number is above the one before it, and the first is `low` at least
abbrev Rising : ℕ → List ℕ → Type 0
Rising low [] = ⊤
Rising low (n ∷ more) = (low ≤ n) × Rising (n + 1) more

none_low : (n low : ℕ) (ns : List ℕ) → Rising low ns → n < low → is_in n ns ≡ false
none_low n low [] rising under = refl
none_low n low (m ∷ ns) rising under =
    ap (λ b. b || is_in n ns) (ne_eqb n m (λ is. omega (arith, is, under, rising.0)))
    ∙ none_low n (m + 1) ns rising.1 (omega (arith, under, rising.0))

-- the first number of a list that rises is in another one only where it isn't below all of that
not_below : (low n m : ℕ) (ns ms : List ℕ) → Rising low (m ∷ ms) → ((k : ℕ) → is_in k (n ∷ ns) ≡ is_in k (m ∷ ms)) → n < m → ⊥
not_below low n m ns ms rising same under =
    let there : is_in n (n ∷ ns) ≡ true = ap (λ b. b || is_in n ns) (eq-eqb n n refl) in
    let none : is_in n (m ∷ ms) ≡ false = none_low n m (m ∷ ms) (omega arith, rising.1) under in
    true≢false (sym there ∙ (same n ∙ none))

pub same_rising : (low : ℕ) (ns ms : List ℕ) → Rising low ns → Rising low ms → ((k : ℕ) → is_in k ns ≡ is_in k ms) → ns ≡ ms
same_rising low [] [] rise rises same = refl
same_rising low [] (m ∷ ms) rise rises same =
    absurd (true≢false (sym (ap (λ b. b || is_in m ms) (eq-eqb m m refl)) ∙ sym (same m)))
same_rising low (n ∷ ns) [] rise rises same =
    absurd (true≢false (sym (ap (λ b. b || is_in n ns) (eq-eqb n n refl)) ∙ same n))
same_rising low (n ∷ ns) (m ∷ ms) rise rises same = elim (eqb_tells n m) [
  | inl p ↦
      let is : n ≡ m = p.1 in
      let above : Rising (n + 1) ms = subst (λ (k : ℕ). Rising (k + 1) ms) (sym is) rises.1 in
      let rest = same_rising (n + 1) ns ms rise.1 above (λ k. by k is above (nat_eq k n) refl) in
      λ i. is i ∷ rest i
  | inr p ↦
      let apart : (n ≡ m → ⊥) = p.1 in
      absurd (apart (omega (arith, not_below low n m ns ms rises same, not_below low m n ms ns rise (λ k. sym (same k)))))
]
  where
    by : (k : ℕ) → n ≡ m → Rising (n + 1) ms → (b : Bool) → nat_eq k n ≡ b → is_in k ns ≡ is_in k ms
    by k is above true own =
        let at : k ≡ n = eqb-true k n own in
        none_low k (n + 1) ns rise.1 (omega (arith, at)) ∙ sym (none_low k (n + 1) ms above (omega (arith, at)))
    by k is above false other =
        sym (ap (λ b. b || is_in k ns) other)
        ∙ (same k ∙ ap (λ b. b || is_in k ms) (ap (nat_eq k) (sym is) ∙ other))

-- the numbers of a table's sessions rise
numbers_rise : (p : SessionRecord → Bool) (low last made : ℕ) (es : List (ℕ × SessionRecord)) → Rises last es made → low ≤ last + 1
    → Rising low (numbers_by p es)
numbers_rise p low last made [] rises enough = tt
numbers_rise p low last made (e ∷ more) rises enough =
    by (p e.1) (λ least enough. numbers_rise p least e.0 made more rises.1 enough)
  where
    by : (b : Bool) → ((least : ℕ) → least ≤ e.0 + 1 → Rising least (numbers_by p more)) → Rising low (one_of b e.0 ++ numbers_by p more)
    by true rest = (omega (arith, rises.0, enough), rest (e.0 + 1) (omega arith))
    by false rest = rest low (omega (arith, rises.0, enough))

-- so do those that were sorted, each once
sorted_rise : (low : ℕ) (ns : List ℕ) → IsStrictlySortedBy nat_cmp ns → AllByRecursion (λ n. low ≤ n) ns → Rising low ns
sorted_rise low [] sorted all = tt
sorted_rise low (n ∷ more) sorted all =
    (all.0, sorted_rise (n + 1) more (sorted_tail nat_cmp n more sorted) (above more (sorted_head nat_cmp n more sorted)))
  where
    above : (ms : List ℕ) → AllByRecursion (λ m. nat_cmp n m ≡ Less) ms → AllByRecursion (λ m. n + 1 ≤ m) ms
    above [] all = tt
    above (m ∷ ms) all = (omega (arith, ranked n m Less (sym all.0)), above ms all.1)

all_high : (ns : List ℕ) → AllByRecursion (λ n. 0 ≤ n) ns
all_high [] = tt
all_high (n ∷ more) = (omega arith, all_high more)

-- what was found address by address, sorted, each once
module _ (addresses : List Address) (made : ℕ) (es : List (ℕ × SessionRecord)) where
  abbrev by_address : List Address → List ℕ
  by_address some = flat_map (λ a. numbers_by (is_named_by a) es) some

  pub named_once : (i : ℕ) (found sorted once : List ℕ) → Rises 0 es made → length addresses ≤ i
      → found ++ by_address (drop i addresses) ≡ by_address addresses → IsPermutation found sorted → IsSorted nat_cmp sorted
      → IsFiltered (DiffersFromLast nat_eq) [] sorted once → once ≡ numbers_by (is_named addresses) es
  named_once i found sorted once rises past all moved up left =
      let are : found ≡ by_address addresses =
      sym (append-nil found) ∙ (sym (ap (λ l. found ++ by_address l) (drop_all i addresses past)) ∙ all) in
      dedup_is nat_eq sorted once left
      ∙ same_rising 0 (dedup nat_eq sorted) (numbers_by (is_named addresses) es)
      (sorted_rise 0 (dedup nat_eq sorted) (sorted_from_strictly_increasing (dedup nat_eq sorted) (IsStrictlyIncreasing-dedup sorted up))
      (all_high (dedup nat_eq sorted)))
      (numbers_rise (is_named addresses) 0 0 made es rises (omega arith))
      (λ n. of_deduped n sorted
      ∙ (sym (list_any-IsPermutation (nat_eq n) found sorted moved) ∙ (ap (is_in n) are ∙ of_addresses n addresses es)))

pub numbers_end : (found : List ℕ) (pick : SessionRecord → Bool) (rest : List (ℕ × SessionRecord)) (all : List ℕ) → rest ≡ []
    → found ++ numbers_by pick rest ≡ all → found ≡ all
numbers_end found pick rest all end done = sym (append-nil found) ∙ (sym (λ i. found ++ numbers_by pick (end i)) ∙ done)
