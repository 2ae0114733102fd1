-- A roster keeps to its limits as a contact is put in or taken out.
use Rattle.std.proofs.Common.{◌≡◌, ℕ, suc, ◌+◌, ◌<◌, ◌≤◌, List, [], ◌∷◌, ◌++◌, map, length, sum, Bool, true, false, not}
use Rattle.std.proofs.Common.{◌&&◌, ◌||◌, cond, refl, sym, ap, subst, ◌∙◌, arith, length-append}
use Rattle.std.specs.List.{list_any}
use Rattle.std.proofs.Math.Nat.{le_trans}
use Rattle.std.proofs.lemmas.Bool.{and_from, and_parts, not-true, not_from_false, or_parts}
use Rattle.std.proofs.lemmas.List.{map-append}
use Rattle.std.proofs.lemmas.List.Folds.{list_any-append}
use Rattle.std.proofs.lemmas.List.Sums.{sum_by-append, sum_by-cons}
use Rattle.jid_core.specs.Addresses.{Address, same_address}
use Rattle.jid_core.proofs.AddressLemmas.{same_address-equal}
use Rattle.stanza_model.specs.RosterLimits.{counted, most_contacts, most_text}
use Rattle.stanza_model.specs.declared.shared.Contact.{Contact}
use Rattle.contact_table.specs.Marks.{set_listed, with_listed}
use Rattle.roster_book.specs.Refusals.{others}
use Rattle.roster_laws.specs.Keeping.{IsRoster, are_apart}
use Rattle.roster_laws.proofs.AddressLemmas.{same_flip}

abbrev pub is_at : Address → Contact → Bool
is_at address d = same_address d.address address

-- What they count.

pub nobody_else : (a : Address) (cs : List Contact) → list_any (is_at a) cs ≡ false → others a cs ≡ cs
nobody_else a [] none = refl
nobody_else a (d ∷ cs) none =
    let parts = or_parts (is_at a d) (list_any (is_at a) cs) none in
    ap (λ b. cond (not b) (d ∷ others a cs) (others a cs)) parts.0 ∙ ap (λ ds. d ∷ ds) (nobody_else a cs parts.1)

-- by how much each counts
module _ (n : Contact → ℕ) where
  abbrev total : List Contact → ℕ
  total cs = sum (map n cs)

  total_cons : (c : Contact) (cs : List Contact) → total (c ∷ cs) ≡ n c + total cs
  total_cons c cs = sum_by-cons (λ x. x) (n c) (map n cs)

  pub total_last : (c : Contact) (cs : List Contact) → total (cs ++ c ∷ []) ≡ n c + total cs
  total_last c cs =
      let split = ap sum (map-append n cs (c ∷ [])) ∙ sum_by-append (λ x. x) (map n cs) (n c ∷ []) in
      let one = total_cons c [] in
      omega (arith, split, one)

  total_set : (c : Contact) (cs : List Contact) → are_apart cs ≡ true → list_any (is_at c.address) cs ≡ true
      → total (set_listed c cs) ≡ n c + total (others c.address cs)
  total_set c [] apart there = absurd (cc)
  total_set c (d ∷ cs) apart there =
      let parts = and_parts (not (list_any (is_at d.address) cs)) (are_apart cs) apart in
      by (is_at c.address d) refl there (total_set c cs parts.1) (not-true (list_any (is_at d.address) cs) parts.0)
    where
      by : (b : Bool) → is_at c.address d ≡ b → (b || list_any (is_at c.address) cs) ≡ true
          → (list_any (is_at c.address) cs ≡ true → total (set_listed c cs) ≡ n c + total (others c.address cs))
          → list_any (is_at d.address) cs ≡ false
          → total (cond b (c ∷ cs) (d ∷ set_listed c cs)) ≡ n c + total (cond (not b) (d ∷ others c.address cs) (others c.address cs))
      by true is any rest alone =
          let none : list_any (is_at c.address) cs ≡ false =
          subst (λ a. list_any (is_at a) cs ≡ false) (same_address-equal d.address c.address is) alone in
          total_cons c cs ∙ ap (λ ds. n c + total ds) (sym (nobody_else c.address cs none))
      by false is any rest alone =
          let one = total_cons d (set_listed c cs) in
          let other = total_cons d (others c.address cs) in
          let after = rest any in
          omega (arith, one, other, after)

  total_others : (a : Address) (cs : List Contact) → total (others a cs) ≤ total cs
  total_others a [] = omega arith
  total_others a (d ∷ cs) = by (is_at a d) (total_others a cs)
    where
      by : (b : Bool) → total (others a cs) ≤ total cs → total (cond (not b) (d ∷ others a cs) (others a cs)) ≤ total (d ∷ cs)
      by true rest = omega (arith, rest, total_cons d cs)
      by false rest = omega (arith, rest, total_cons d cs, total_cons d (others a cs))

-- How many they are.

many_set : (c : Contact) (cs : List Contact) → length (set_listed c cs) ≡ length cs
many_set c [] = refl
many_set c (d ∷ cs) = by (is_at c.address d) (many_set c cs)
  where
    by : (b : Bool) → length (set_listed c cs) ≡ length cs → length (cond b (c ∷ cs) (d ∷ set_listed c cs)) ≡ length (d ∷ cs)
    by true rest = refl
    by false rest = ap suc rest

many_others : (a : Address) (cs : List Contact) → length (others a cs) ≤ length cs
many_others a [] = omega arith
many_others a (d ∷ cs) = by (is_at a d) (many_others a cs)
  where
    by : (b : Bool) → length (others a cs) ≤ length cs → length (cond (not b) (d ∷ others a cs) (others a cs)) ≤ length (d ∷ cs)
    by true rest = omega (arith, rest)
    by false rest = omega (arith, rest)

-- That no two have one address.

abbrev pub addresses : List Contact → List Address
addresses cs = map (λ c. c.address) cs

abbrev apart : List Address → Bool
apart [] = true
apart (a ∷ more) = not (list_any (λ b. same_address b a) more) && apart more

pub any_at : (a : Address) (cs : List Contact) → list_any (is_at a) cs ≡ list_any (λ b. same_address b a) (addresses cs)
any_at a [] = refl
any_at a (d ∷ cs) = ap (λ b. is_at a d || b) (any_at a cs)

apart_is : (cs : List Contact) → are_apart cs ≡ apart (addresses cs)
apart_is [] = refl
apart_is (c ∷ cs) =
    ap (λ b. not b && are_apart cs) (any_at c.address cs)
    ∙ ap (λ b. not (list_any (λ a. same_address a c.address) (addresses cs)) && b) (apart_is cs)

pub addresses_set : (c : Contact) (cs : List Contact) → addresses (set_listed c cs) ≡ addresses cs
addresses_set c [] = refl
addresses_set c (d ∷ cs) = by (is_at c.address d) refl (addresses_set c cs)
  where
    by : (b : Bool) → is_at c.address d ≡ b → addresses (set_listed c cs) ≡ addresses cs
        → addresses (cond b (c ∷ cs) (d ∷ set_listed c cs)) ≡ d.address ∷ addresses cs
    by true is rest = ap (λ a. a ∷ addresses cs) (sym (same_address-equal d.address c.address is))
    by false is rest = ap (λ more. d.address ∷ more) rest

apart_last : (a : Address) (more : List Address) → list_any (λ b. same_address b a) more ≡ false → apart more ≡ true
    → apart (more ++ a ∷ []) ≡ true
apart_last a [] none are = refl
apart_last a (b ∷ more) none are =
    let new = or_parts (same_address b a) (list_any (λ b. same_address b a) more) none in
    let old = and_parts (not (list_any (λ c. same_address c b) more)) (apart more) are in
    let alone : list_any (λ c. same_address c b) (more ++ a ∷ []) ≡ false =
    list_any-append (λ c. same_address c b) more (a ∷ [])
    ∙ ap (λ x. list_any (λ c. same_address c b) more || (x || false)) (same_flip a b ∙ new.0)
    ∙ ap (λ x. x || false) (not-true (list_any (λ c. same_address c b) more) old.0) in
    and_from (not (list_any (λ c. same_address c b) (more ++ a ∷ []))) (apart (more ++ a ∷ []))
    (not_from_false (list_any (λ c. same_address c b) (more ++ a ∷ [])) alone)
    (apart_last a more new.1 old.1)

none_at_others : (a b : Address) (cs : List Contact) → list_any (is_at b) cs ≡ false → list_any (is_at b) (others a cs) ≡ false
none_at_others a b [] none = refl
none_at_others a b (d ∷ cs) none =
    let parts = or_parts (is_at b d) (list_any (is_at b) cs) none in by (is_at a d) parts.0 (none_at_others a b cs parts.1)
  where
    by : (t : Bool) → is_at b d ≡ false → list_any (is_at b) (others a cs) ≡ false
        → list_any (is_at b) (cond (not t) (d ∷ others a cs) (others a cs)) ≡ false
    by true is rest = rest
    by false is rest = ap (λ x. x || list_any (is_at b) (others a cs)) is ∙ rest

apart_others : (a : Address) (cs : List Contact) → are_apart cs ≡ true → are_apart (others a cs) ≡ true
apart_others a [] are = refl
apart_others a (d ∷ cs) are =
    let parts = and_parts (not (list_any (is_at d.address) cs)) (are_apart cs) are in
    by (is_at a d) (none_at_others a d.address cs (not-true (list_any (is_at d.address) cs) parts.0)) (apart_others a cs parts.1)
  where
    by : (t : Bool) → list_any (is_at d.address) (others a cs) ≡ false → are_apart (others a cs) ≡ true
        → are_apart (cond (not t) (d ∷ others a cs) (others a cs)) ≡ true
    by true alone rest = rest
    by false alone rest = ap (λ b. not b && are_apart (others a cs)) alone ∙ rest

-- All three.

pub empty_roster : IsRoster []
empty_roster = record { few = omega arith; small = omega arith; apart = refl }

-- RFC 6121, 2.3.1 and 2.4.1
pub roster_with : (c : Contact) (cs : List Contact) → IsRoster cs → (list_any (is_at c.address) cs ≡ false → length cs < most_contacts)
    → counted c + sum (map counted (others c.address cs)) ≤ most_text → IsRoster (with_listed c cs)
roster_with c cs is room fits = by (list_any (is_at c.address) cs) refl
  where
    by : (b : Bool) → list_any (is_at c.address) cs ≡ b → IsRoster (cond b (set_listed c cs) (cs ++ c ∷ []))
    by true there = record {
      few = subst (λ (m : ℕ). m ≤ most_contacts) (sym (many_set c cs)) is.few;
      small = subst (λ (m : ℕ). m ≤ most_text) (sym (total_set counted c cs is.apart there)) fits;
      apart = apart_is (set_listed c cs) ∙ ap apart (addresses_set c cs) ∙ sym (apart_is cs) ∙ is.apart;
    }
    by false absent = record {
      few = let few = room absent in omega (arith, few, length-append cs (c ∷ []));
      small = subst (λ (m : ℕ). m ≤ most_text)
          (ap (λ ds. counted c + sum (map counted ds)) (nobody_else c.address cs absent) ∙ sym (total_last counted c cs)) fits;
      apart =
          apart_is (cs ++ c ∷ []) ∙ ap apart (map-append (λ d. d.address) cs (c ∷ []))
          ∙ apart_last c.address (addresses cs) (sym (any_at c.address cs) ∙ absent) (sym (apart_is cs) ∙ is.apart);
    }

-- RFC 6121, 2.5.1
pub roster_without : (a : Address) (cs : List Contact) → IsRoster cs → IsRoster (others a cs)
roster_without a cs is = record {
  few = let few = many_others a cs in let were = is.few in omega (arith, few, were);
  small = le_trans (total_others counted a cs) is.small;
  apart = apart_others a cs is.apart;
}

-- two lists of contacts with the same addresses that count the same
module _ {Q : Type 0} (f g : Q → Contact) (at : (q : Q) → (f q).address ≡ (g q).address) (n : Contact → ℕ) (same : (q : Q) → n (f q) ≡ n (g q)) where
  pub addresses_alike : (qs : List Q) → addresses (map f qs) ≡ addresses (map g qs)
  addresses_alike [] = refl
  addresses_alike (q ∷ qs) = ap (λ a. a ∷ addresses (map f qs)) (at q) ∙ ap (λ more. (g q).address ∷ more) (addresses_alike qs)

  counts_alike : (qs : List Q) → map n (map f qs) ≡ map n (map g qs)
  counts_alike [] = refl
  counts_alike (q ∷ qs) = ap (λ m. m ∷ map n (map f qs)) (same q) ∙ ap (λ more. n (g q) ∷ more) (counts_alike qs)

  many_alike : (qs : List Q) → length (map f qs) ≡ length (map g qs)
  many_alike [] = refl
  many_alike (q ∷ qs) = ap suc (many_alike qs)

pub roster_alike : {Q : Type 0} (f g : Q → Contact) → ((q : Q) → (f q).address ≡ (g q).address) → ((q : Q) → counted (f q) ≡ counted (g q))
    → (qs : List Q) → IsRoster (map f qs) → IsRoster (map g qs)
roster_alike f g at same qs is = record {
  few = subst (λ (m : ℕ). m ≤ most_contacts) (many_alike f g at counted same qs) is.few;
  small = subst (λ (ms : List ℕ). sum ms ≤ most_text) (counts_alike f g at counted same qs) is.small;
  apart =
      apart_is (map g qs) ∙ ap apart (sym (addresses_alike f g at counted same qs)) ∙ sym (apart_is (map f qs)) ∙ is.apart;
}
