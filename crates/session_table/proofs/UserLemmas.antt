-- The sessions of a user are those that are met on the way from the first of the user's hash.
use Rattle.std.proofs.Common.{◌≡◌, ℕ, zero, suc, ◌<◌, nat_eq, nat_le, Bool, true, false, cond, List, [], ◌∷◌, length, Option, Some, None, arith, refl, sym}
use Rattle.std.proofs.Common.{ap, subst, ◌∙◌}
use Rattle.std.proofs.lemmas.Bool.{eq-eqb, le-leb, lt-leb, true≢false}
use Rattle.std.proofs.lemmas.Option.{none-some as none_some, same_Some}
use Rattle.std.specs.Cmp.Lexicographic.{bytes_decides}
use Rattle.std.specs.Map.{lookup}
use Rattle.jid_core.specs.Addresses.{Address, same_address, same_part}
use Rattle.jid_core.proofs.AddressLemmas.{same_address-equal}
use Rattle.session_table.specs.declared.slots.Slot.{Slot}
use Rattle.session_table.specs.Hashes.{user_hash}
use Rattle.session_table.specs.Indexes.{AreChained, Climbs, IsAt, IsNext, IsOnWay, Slots, before, first_of, from, from_number, has_hash, present}
use Rattle.session_table.specs.Sessions.{SessionRecord}
use Rattle.session_table.specs.Tables.{number_at, of_user}
use Rattle.session_table.proofs.ChainLemmas.{at_later, climbs_rest, first_high, first_there, next_high, next_of, rest_of}
use Rattle.session_table.proofs.PlaceLemmas.{left_less, lookup_at, number_at_place}
use Rattle.session_table.proofs.FirstLemmas.{same_part_itself}
use Rattle.hash_keys.specs.declared.key.HashKey.{HashKey}

-- parts that are the same are equal
same_part-equal : (p q : Option (List ℕ)) → same_part p q ≡ true → p ≡ q
same_part-equal None None same = refl
same_part-equal None (Some y) same = absurd (true≢false (sym same))
same_part-equal (Some x) None same = absurd (true≢false (sym same))
same_part-equal (Some x) (Some y) same = ap Some ((bytes_decides x y).0 same)

from_at : (p n : ℕ) (o : Slot) (last made : ℕ) (es : Slots) → Climbs last es made → IsAt p n o es
    → from_number n es ≡ (n, o) ∷ rest_of p es
unfolding rest_of
from_at p n o last made [] climbs at = absurd at
from_at zero n o last made (e ∷ more) climbs at =
    let here : nat_le n e.0 ≡ true = le-leb n e.0 (omega (arith, at.0)) in
    ap (λ b. cond b (e ∷ more) (from_number n more)) here ∙ (λ i. (at.0 i, at.1 i) ∷ more)
from_at (suc p) n o last made (e ∷ more) climbs at =
    let high : e.0 < n = (number_at_place p n o e.0 made more climbs.1 at).0 in
    ap (λ b. cond b (e ∷ more) (from_number n more)) (lt-leb n e.0 high) ∙ from_at p n o e.0 made more climbs.1 at

from_rest : (p n k : ℕ) (o : Slot) (last made : ℕ) (es : Slots) → Climbs last es made → IsAt p n o es → n < k
    → from_number k (rest_of p es) ≡ from_number k es
unfolding rest_of
from_rest p n k o last made [] climbs at low = absurd at
from_rest zero n k o last made (e ∷ more) climbs at low =
    ap (λ b. cond b (e ∷ more) (from_number k more)) (sym (lt-leb k e.0 (omega (arith, at.0, low))))
from_rest (suc p) n k o last made (e ∷ more) climbs at low =
    let high : e.0 < n = (number_at_place p n o e.0 made more climbs.1 at).0 in
    from_rest p n k o e.0 made more climbs.1 at low
    ∙ ap (λ b. cond b (e ∷ more) (from_number k more)) (sym (lt-leb k e.0 (omega (arith, high, low))))

module _ (key : HashKey) where
  -- a session of another hash is not the user's
  another : (local : Option (List ℕ)) (n : ℕ) (s : Option SessionRecord) (more : List (ℕ × SessionRecord))
      → has_hash key (user_hash key local) s ≡ false → of_user local (before n s more) ≡ of_user local more
  another local n None more other = refl
  another local n (Some s) more other = by (same_part s.address.local local) refl
    where
      by : (b : Bool) → same_part s.address.local local ≡ b → cond b ((n, s) ∷ of_user local more) (of_user local more) ≡ of_user local more
      by true same =
          absurd (true≢false (sym (eq-eqb (user_hash key local) (user_hash key s.address.local)
          (ap (user_hash key) (sym (same_part-equal s.address.local local same)))) ∙ other))
      by false same = refl

  none_left : (local : Option (List ℕ)) (es : Slots) → first_of key (user_hash key local) es ≡ None → of_user local (present es) ≡ []
  none_left local [] none = refl
  none_left local (e ∷ more) none = by (has_hash key (user_hash key local) e.1.session) refl none (none_left local more)
    where
      by : (b : Bool) → has_hash key (user_hash key local) e.1.session ≡ b → cond b (Some e.0) (first_of key (user_hash key local) more) ≡ None
          → (first_of key (user_hash key local) more ≡ None → of_user local (present more) ≡ []) → of_user local (present (e ∷ more)) ≡ []
      by true is none after = absurd (none_some e.0 (sym none))
      by false is none after = another local e.0 e.1.session (present more) is ∙ after none

  skipped : (local : Option (List ℕ)) (k last made : ℕ) (es : Slots) → Climbs last es made → first_of key (user_hash key local) es ≡ Some k
      → of_user local (present es) ≡ of_user local (present (from_number k es))
  skipped local k last made [] climbs first = refl
  skipped local k last made (e ∷ more) climbs first =
      by (has_hash key (user_hash key local) e.1.session) refl first (skipped local k e.0 made more climbs.1)
    where
      by : (b : Bool) → has_hash key (user_hash key local) e.1.session ≡ b → cond b (Some e.0) (first_of key (user_hash key local) more) ≡ Some k
          → (first_of key (user_hash key local) more ≡ Some k → of_user local (present more) ≡ of_user local (present (from_number k more)))
          → of_user local (present (e ∷ more)) ≡ of_user local (present (cond (nat_le k e.0) (e ∷ more) (from_number k more)))
      by true is first after =
          let low : nat_le k e.0 ≡ true = le-leb k e.0 (omega (arith, same_Some e.0 k first)) in
          ap (λ b. of_user local (present (cond b (e ∷ more) (from_number k more)))) (sym low)
      by false is first after =
          let high : nat_le k e.0 ≡ false = lt-leb k e.0 (first_high key (user_hash key local) k e.0 made more climbs.1 first) in
          another local e.0 e.1.session (present more) is
          ∙ (after first ∙ ap (λ b. of_user local (present (cond b (e ∷ more) (from_number k more)))) (sym high))

  -- the user's sessions are those from the first of the hash on
  left_from : (local : Option (List ℕ)) (last made : ℕ) (es : Slots) (next : Option ℕ) → Climbs last es made
      → next ≡ first_of key (user_hash key local) es → of_user local (present es) ≡ of_user local (present (from next es))
  left_from local last made es None climbs is = none_left local es (sym is)
  left_from local last made es (Some k) climbs is = skipped local k last made es climbs (sym is)

  -- the first step
  pub user_begins : (local : Option (List ℕ)) (made : ℕ) (es : Slots) (heads : List (ℕ × ℕ)) (next : Option ℕ) → AreChained key es heads made
      → next ≡ lookup (nat_eq (user_hash key local)) heads
      → IsOnWay local es next × (of_user local (present (from next es)) ≡ of_user local (present es))
  user_begins local made es heads next had is = (
    record { key = key; made = made; climbs = had.climbs; linked = had.linked; stands = by next first },
    sym (left_from local 0 made es next had.climbs first),
  )
    where
      first : next ≡ first_of key (user_hash key local) es
      first = is ∙ had.firsts (user_hash key local)

      by : (k : Option ℕ) → k ≡ first_of key (user_hash key local) es → IsNext key (user_hash key local) es k
      by None is = tt
      by (Some k) is = first_there key (user_hash key local) k es (sym is)

-- the slot that is met
pub met : (local : Option (List ℕ)) (n p : ℕ) (o : Slot) (es : Slots) (next : Option ℕ) (way : IsOnWay local es next) → next ≡ Some n
    → IsAt p n o es → has_hash way.key (user_hash way.key local) o.session ≡ true
met local n p o es next way is at = by next way.stands is
  where
    hash : ℕ
    hash = user_hash way.key local

    by : (k : Option ℕ) → IsNext way.key hash es k → k ≡ Some n → has_hash way.key hash o.session ≡ true
    by None stands is = absurd (none_some n is)
    by (Some k) stands is =
        let same : k ≡ n = same_Some k n is in
        let stood = subst (λ j. IsAt stands.0 j stands.1 es) same stands.2 in
        let one : stands.1 ≡ o =
        same_Some stands.1 o (sym (lookup_at stands.0 n stands.1 0 way.made es way.climbs stood) ∙ lookup_at p n o 0 way.made es way.climbs at) in
        sym (ap (λ (x : Slot). has_hash way.key hash x.session) one) ∙ stands.3

pub not_met : (local : Option (List ℕ)) (n : ℕ) (es : Slots) (next : Option ℕ) → IsOnWay local es next → next ≡ Some n
    → lookup (nat_eq n) es ≡ None → ⊥
not_met local n es next way is none = by next way.stands is
  where
    by : (k : Option ℕ) → IsNext way.key (user_hash way.key local) es k → k ≡ Some n → ⊥
    by None stands is = none_some n is
    by (Some k) stands is =
        let same : k ≡ n = same_Some k n is in
        none_some stands.1 (sym none ∙ (sym (ap (λ j. lookup (nat_eq j) es) same)
        ∙ lookup_at stands.0 k stands.1 0 way.made es way.climbs stands.2))

-- a step
module _ (local : Option (List ℕ)) (n p : ℕ) (o : Slot) (es : Slots) (next : Option ℕ) (way : IsOnWay local es next)
    (is : next ≡ Some n) (at : IsAt p n o es) where
  abbrev hash : ℕ
  hash = user_hash way.key local

  own : has_hash way.key hash o.session ≡ true
  own = met local n p o es next way is at

  pub step_on : IsOnWay local es o.next
  step_on = record { key = way.key; made = way.made; climbs = way.climbs; linked = way.linked; stands = by o.next refl }
    where
      later : (q k : ℕ) (z : Slot) (fs : Slots) → IsAt q k z (rest_of p fs) → (r : ℕ) × IsAt r k z fs
      later q k z fs there = at_later p q k z fs there

      by : (k : Option ℕ) → o.next ≡ k → IsNext way.key hash es k
      by None is = tt
      by (Some k) is =
          let there = first_there way.key hash k (rest_of p es)
          (sym (next_of way.key hash p n o es way.linked at own) ∙ is) in
          let whole = later there.0 k there.1 es there.2 in
          (whole.0, there.1, whole.1, there.3)

  rest_left : of_user local (present (rest_of p es)) ≡ of_user local (present (from o.next es))
  rest_left =
      left_from way.key local n way.made (rest_of p es) o.next (climbs_rest p n o 0 way.made es way.climbs at)
      (next_of way.key hash p n o es way.linked at own) ∙ by o.next refl
    where
      by : (k : Option ℕ) → o.next ≡ k → of_user local (present (from k (rest_of p es))) ≡ of_user local (present (from k es))
      by None is = refl
      by (Some k) is =
          let high = next_high way.key hash None way.made es p n o way.climbs way.linked at own k is in
          ap (λ fs. of_user local (present fs)) (from_rest p n k o 0 way.made es way.climbs at high)

  whole : of_user local (present (from next es)) ≡ of_user local (before n o.session (present (rest_of p es)))
  whole = ap (λ k. of_user local (present (from k es))) is ∙ ap (λ fs. of_user local (present fs)) (from_at p n o 0 way.made es way.climbs at)

  -- the session is the user's
  pub step_found : (s : SessionRecord) → o.session ≡ Some s → same_part s.address.local local ≡ true
      → of_user local (present (from next es)) ≡ (n, s) ∷ of_user local (present (from o.next es))
  step_found s there same =
      whole ∙ (ap (λ x. of_user local (before n x (present (rest_of p es)))) there
      ∙ (ap (λ b. cond b ((n, s) ∷ of_user local (present (rest_of p es))) (of_user local (present (rest_of p es)))) same
      ∙ ap (λ l. (n, s) ∷ l) rest_left))

  -- it is that of another user of the same hash
  pub step_past : (s : SessionRecord) → o.session ≡ Some s → same_part s.address.local local ≡ false
      → of_user local (present (from next es)) ≡ of_user local (present (from o.next es))
  step_past s there other =
      whole ∙ (ap (λ x. of_user local (before n x (present (rest_of p es)))) there
      ∙ (ap (λ b. cond b ((n, s) ∷ of_user local (present (rest_of p es))) (of_user local (present (rest_of p es)))) other ∙ rest_left))

  pub step_none : o.session ≡ None → of_user local (present (from next es)) ≡ of_user local (present (from o.next es))
  step_none none = absurd (true≢false (sym own ∙ ap (has_hash way.key hash) none))

  pub step_less : length (from o.next es) < length (from next es)
  step_less =
      subst (λ (k : Option ℕ). length (from o.next es) < length (from k es)) (sym is)
      (left_less p n o 0 way.made es way.climbs at o.next
      (next_high way.key hash None way.made es p n o way.climbs way.linked at own))

-- whoever is at an address is a session of its user
pub at_of_user : (a : Address) (es : List (ℕ × SessionRecord)) → number_at a (of_user a.local es) ≡ number_at a es
at_of_user a [] = refl
at_of_user a (e ∷ more) = by (same_part e.1.address.local a.local) refl (same_address e.1.address a) refl (at_of_user a more)
  where
    by : (b : Bool) → same_part e.1.address.local a.local ≡ b → (t : Bool) → same_address e.1.address a ≡ t
        → number_at a (of_user a.local more) ≡ number_at a more
        → number_at a (cond b (e ∷ of_user a.local more) (of_user a.local more)) ≡ cond t (Some e.0) (number_at a more)
    by true same t test after =
        ap (λ r. cond (same_address e.1.address a) (Some e.0) r) after ∙ ap (λ u. cond u (Some e.0) (number_at a more)) test
    by false other true test after =
        absurd (true≢false (sym (ap (λ (b : Address). same_part b.local a.local) (same_address-equal e.1.address a test)
        ∙ same_part_itself a.local) ∙ other))
    by false other false test after = after
