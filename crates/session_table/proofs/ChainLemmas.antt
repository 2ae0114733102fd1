-- From one session of a hash to the next.
use Rattle.std.proofs.Common.{◌≡◌, ◌≢◌, ℕ, zero, suc, ◌<◌, ◌≤◌, nat_eq, Bool, true, false, cond, [], ◌∷◌, Option, Some, None, arith, refl, sym, ap, subst, ◌∙◌}
use Rattle.std.proofs.lemmas.Bool.{eqb-true, true≢false}
use Rattle.std.proofs.lemmas.Option.{none-some as none_some, same_Some}
use Rattle.std.specs.Map.{lookup}
use Rattle.session_table.specs.declared.slots.Slot.{Slot}
use Rattle.session_table.specs.Hashes.{user_hash}
use Rattle.session_table.specs.Indexes.{AreLinked, Climbs, EndsAt, IsAt, Slots, first_of, has_hash}
use Rattle.session_table.specs.Sessions.{SessionRecord}
use Rattle.session_table.proofs.PlaceLemmas.{lookup_at, number_at_place}
use Rattle.hash_keys.specs.declared.key.HashKey.{HashKey}

-- what comes after a place
unfoldable pub rest_of : ℕ → Slots → Slots
rest_of p [] = []
rest_of zero (e ∷ more) = more
rest_of (suc p) (e ∷ more) = rest_of p more

pub climbs_rest : (p n : ℕ) (o : Slot) (last made : ℕ) (es : Slots) → Climbs last es made → IsAt p n o es → Climbs n (rest_of p es) made
unfolding rest_of
climbs_rest p n o last made [] climbs at = absurd at
climbs_rest zero n o last made (e ∷ more) climbs at = subst (λ k. Climbs k more made) at.0 climbs.1
climbs_rest (suc p) n o last made (e ∷ more) climbs at = climbs_rest p n o e.0 made more climbs.1 at

pub at_later : (p q k : ℕ) (o : Slot) (es : Slots) → IsAt q k o (rest_of p es) → (r : ℕ) × IsAt r k o es
unfolding rest_of
at_later p q k o [] at = absurd at
at_later zero q k o (e ∷ more) at = (suc q, at)
at_later (suc p) q k o (e ∷ more) at =
    let there = at_later p q k o more at in
    (suc there.0, there.1)

later_at : (p n q s : ℕ) (o z : Slot) (last made : ℕ) (es : Slots) → Climbs last es made → IsAt p n o es → IsAt q s z es → n < s
    → (r : ℕ) × IsAt r s z (rest_of p es)
unfolding rest_of
later_at p n q s o z last made [] climbs at there low = absurd at
later_at zero n zero s o z last made (e ∷ more) climbs at there low = absurd (omega (arith, at.0, there.0, low))
later_at zero n (suc q) s o z last made (e ∷ more) climbs at there low = (q, there)
later_at (suc p) n zero s o z last made (e ∷ more) climbs at there low =
    let high : e.0 < n = (number_at_place p n o e.0 made more climbs.1 at).0 in
    absurd (omega (arith, there.0, high, low))
later_at (suc p) n (suc q) s o z last made (e ∷ more) climbs at there low =
    later_at p n q s o z e.0 made more climbs.1 at there low

-- on the way from the first session of a hash to the one that leads there
pub IsBefore : Option ℕ → ℕ → Type 0
IsBefore None n = Unit {0}
IsBefore (Some s) n = n < s

module _ (key : HashKey) where
  -- a session has one hash
  pub one_hash : (h k : ℕ) (s : Option SessionRecord) → has_hash key h s ≡ true → has_hash key k s ≡ true → h ≡ k
  one_hash h k None own other = absurd (true≢false (sym own))
  one_hash h k (Some s) own other = eqb-true h (user_hash key s.address.local) own ∙ sym (eqb-true k (user_hash key s.address.local) other)

  -- the first of a hash, and those after it
  pub first_high : (h k last made : ℕ) (es : Slots) → Climbs last es made → first_of key h es ≡ Some k → last < k
  first_high h k last made [] climbs first = absurd (none_some k first)
  first_high h k last made (e ∷ more) climbs first = by (has_hash key h e.1.session) first (first_high h k e.0 made more climbs.1)
    where
      by : (b : Bool) → cond b (Some e.0) (first_of key h more) ≡ Some k → (first_of key h more ≡ Some k → e.0 < k) → last < k
      by true first after = omega (arith, climbs.0, same_Some e.0 k first)
      by false first after = omega (arith, climbs.0, after first)

  pub first_low : (h p n : ℕ) (o : Slot) (last made : ℕ) (es : Slots) → Climbs last es made → IsAt p n o es
      → has_hash key h o.session ≡ true → (k : ℕ) × (first_of key h es ≡ Some k) × (k ≤ n)
  first_low h p n o last made [] climbs at own = absurd at
  first_low h zero n o last made (e ∷ more) climbs at own =
      (n, ap (λ b. cond b (Some e.0) (first_of key h more)) (ap (λ (x : Slot). has_hash key h x.session) at.1 ∙ own) ∙ ap Some at.0, omega arith)
  first_low h (suc p) n o last made (e ∷ more) climbs at own =
      by (has_hash key h e.1.session) refl (first_low h p n o e.0 made more climbs.1 at own)
    where
      by : (b : Bool) → has_hash key h e.1.session ≡ b → (k : ℕ) × (first_of key h more ≡ Some k) × (k ≤ n)
          → (k : ℕ) × (first_of key h (e ∷ more) ≡ Some k) × (k ≤ n)
      by true is after =
          let high : e.0 < n = (number_at_place p n o e.0 made more climbs.1 at).0 in
          (e.0, ap (λ b. cond b (Some e.0) (first_of key h more)) is, omega (arith, high))
      by false is after = (after.0, ap (λ b. cond b (Some e.0) (first_of key h more)) is ∙ after.1, after.2)

  pub first_there : (h k : ℕ) (es : Slots) → first_of key h es ≡ Some k
      → (p : ℕ) × (o : Slot) × IsAt p k o es × (has_hash key h o.session ≡ true)
  first_there h k [] first = absurd (none_some k first)
  first_there h k (e ∷ more) first = by (has_hash key h e.1.session) refl first (first_there h k more)
    where
      by : (b : Bool) → has_hash key h e.1.session ≡ b → cond b (Some e.0) (first_of key h more) ≡ Some k
          → (first_of key h more ≡ Some k → (p : ℕ) × (o : Slot) × IsAt p k o more × (has_hash key h o.session ≡ true))
          → (p : ℕ) × (o : Slot) × IsAt p k o (e ∷ more) × (has_hash key h o.session ≡ true)
      by true is first after = (zero, e.1, (same_Some e.0 k first, refl), is)
      by false is first after =
          let there = after first in
          (suc there.0, there.1, there.2, there.3)

  pub next_of : (h p n : ℕ) (o : Slot) (es : Slots) → AreLinked key es → IsAt p n o es → has_hash key h o.session ≡ true
      → o.next ≡ first_of key h (rest_of p es)
  unfolding rest_of
  next_of h p n o [] linked at own = absurd at
  next_of h zero n o (e ∷ more) linked at own =
      ap (λ (x : Slot). x.next) (sym at.1) ∙ linked.0 h (ap (λ (x : Slot). has_hash key h x.session) at.1 ∙ own)
  next_of h (suc p) n o (e ∷ more) linked at own = next_of h p n o more linked.1 at own

  pub OnWay : ℕ → Option ℕ → Slots → Option ℕ → Type 0
  OnWay h until es None = first_of key h es ≡ None
  OnWay h until es (Some n) =
      (p : ℕ) × (o : Slot) × IsAt p n o es × (has_hash key h o.session ≡ true) × IsBefore until n

  pub none_on_way : (h : ℕ) (until : Option ℕ) (es : Slots) → OnWay h until es None → first_of key h es ≡ None
  unfolding OnWay
  none_on_way h until es none = none

  pub way_begins : (h : ℕ) (until : Option ℕ) (made : ℕ) (es : Slots) (next : Option ℕ) → Climbs 0 es made → EndsAt key h until es
      → next ≡ first_of key h es → OnWay h until es next
  unfolding OnWay IsBefore
  way_begins h until made es None climbs ends is = sym is
  way_begins h None made es (Some n) climbs ends is =
      let there = first_there h n es (sym is) in
      (there.0, there.1, there.2, there.3, tt)
  way_begins h (Some s) made es (Some n) climbs ends is =
      let there = first_there h n es (sym is) in
      let low = first_low h ends.0 s ends.1 0 made es climbs ends.2 ends.3 in
      let same : n ≡ low.0 = same_Some n low.0 (is ∙ low.1) in
      let apart : n ≢ s = λ e. ends.4 (sym is ∙ ap Some e) in
      (there.0, there.1, there.2, there.3, omega (arith, same, low.2, apart))

  -- one step on the way
  module _ (h : ℕ) (until : Option ℕ) (made : ℕ) (es : Slots) (p n : ℕ) (o : Slot) (climbs : Climbs 0 es made) (linked : AreLinked key es)
      (at : IsAt p n o es) (own : has_hash key h o.session ≡ true) where
    pub next_high : (k : ℕ) → o.next ≡ Some k → n < k
    next_high k is = first_high h k n made (rest_of p es) (climbs_rest p n o 0 made es climbs at) (sym (next_of h p n o es linked at own) ∙ is)

    pub way_goes_on : EndsAt key h until es → IsBefore until n → (o.next ≡ until → ⊥) → OnWay h until es o.next
    unfolding OnWay IsBefore
    way_goes_on ends early other = by until ends early other o.next refl
      where
        later : (s q : ℕ) (z : Slot) → IsAt q s z es → has_hash key h z.session ≡ true → n < s
            → (k : ℕ) × (first_of key h (rest_of p es) ≡ Some k) × (k ≤ s)
        later s q z there hash low =
            let after = later_at p n q s o z 0 made es climbs at there low in
            first_low h after.0 s z n made (rest_of p es) (climbs_rest p n o 0 made es climbs at) after.1 hash

        stands : (k : ℕ) → o.next ≡ Some k → (q : ℕ) × (z : Slot) × IsAt q k z es × (has_hash key h z.session ≡ true)
        stands k is =
            let there = first_there h k (rest_of p es) (sym (next_of h p n o es linked at own) ∙ is) in
            let whole = at_later p there.0 k there.1 es there.2 in
            (whole.0, there.1, whole.1, there.3)

        by : (u : Option ℕ) → EndsAt key h u es → IsBefore u n → (o.next ≡ u → ⊥) → (next : Option ℕ) → o.next ≡ next → OnWay h u es next
        by None ends early other None is = absurd (other is)
        by None ends early other (Some k) is =
            let there = stands k is in
            (there.0, there.1, there.2, there.3, tt)
        by (Some s) ends early other None is =
            let found = later s ends.0 ends.1 ends.2 ends.3 early in
            absurd (none_some found.0 (sym is ∙ (next_of h p n o es linked at own ∙ found.1)))
        by (Some s) ends early other (Some k) is =
            let found = later s ends.0 ends.1 ends.2 ends.3 early in
            let there = stands k is in
            let same : k ≡ found.0 = same_Some k found.0 (sym is ∙ (next_of h p n o es linked at own ∙ found.1)) in
            let apart : k ≢ s = λ e. other (is ∙ ap Some e) in
            (there.0, there.1, there.2, there.3, omega (arith, same, found.2, apart))

  -- what is seen of a session on the way
  pub seen_on_way : (h n p : ℕ) (until : Option ℕ) (o : Slot) (made : ℕ) (es : Slots) (next : Option ℕ) → Climbs 0 es made
      → next ≡ Some n → OnWay h until es next → IsAt p n o es → (has_hash key h o.session ≡ true) × IsBefore until n
  unfolding OnWay
  seen_on_way h n p until o made es None climbs is way at = absurd (none_some n is)
  seen_on_way h n p until o made es (Some m) climbs is way at =
      let same : n ≡ m = sym (same_Some m n is) in
      let stood = subst (λ k. IsAt p k o es) same at in
      let one : o ≡ way.1 =
      same_Some o way.1 (sym (lookup_at p m o 0 made es climbs stood) ∙ lookup_at way.0 m way.1 0 made es climbs way.2) in
      (ap (λ (x : Slot). has_hash key h x.session) one ∙ way.3, subst (IsBefore until) (sym same) way.4)

  pub not_on_way : (h n : ℕ) (until : Option ℕ) (made : ℕ) (es : Slots) (next : Option ℕ) → Climbs 0 es made → next ≡ Some n
      → OnWay h until es next → lookup (nat_eq n) es ≡ None → ⊥
  unfolding OnWay
  not_on_way h n until made es None climbs is way none = none_some n is
  not_on_way h n until made es (Some m) climbs is way none =
      let same : n ≡ m = sym (same_Some m n is) in
      none_some way.1 (sym none ∙ (ap (λ k. lookup (nat_eq k) es) same ∙ lookup_at way.0 m way.1 0 made es climbs way.2))

  pub way_ends : (h : ℕ) (until : Option ℕ) (es : Slots) (next : Option ℕ) → next ≡ None → OnWay h until es next → first_of key h es ≡ None
  unfolding OnWay
  way_ends h until es None is way = way
  way_ends h until es (Some m) is way = absurd (none_some m (sym is))
