-- What two rosters tell of two users.
use Rattle.std.proofs.Common.{◌≡◌, ℕ, List, [], ◌∷◌, map, Bool, true, false, ◌&&◌, ◌||◌, cond, bytes_eq, filter}
use Rattle.std.proofs.Common.{Option, Some, None, is_some, unwrap_or, refl, sym, ap, ◌∙◌}
use Rattle.std.specs.List.{find, list_any}
use Rattle.std.proofs.lemmas.Bool.{false_from_ne_true, true≢false}
use Rattle.jid_core.specs.Addresses.{Address, same_address}
use Rattle.jid_core.proofs.AddressLemmas.{same_address-equal}
use Rattle.stanza_model.specs.Subscriptions.{state_by}
use Rattle.stanza_model.specs.declared.shared.Contact.{Contact}
use Rattle.contact_table.specs.Books.{Book, Record, bare_of, contact_of, contacts_of, has_pair, is_asked, local_user, subscription_to}
use Rattle.contact_table.proofs.ByteLemmas.{bytes_equal, bytes_same}
use Rattle.subscription_pairs.specs.Users as users
use Rattle.subscription_pairs.specs.Users.{User, asked_by, sees_by, seen_by, side_in, side_of}
use Rattle.roster_laws.specs.Telling.{AreListed, IsUser, lists, kept_side}
use Rattle.roster_laws.proofs.RosterLemmas.{is_at}

pub found_is : (address : Address) (cs : List Contact) → list_any (is_at address) cs ≡ is_some (find (is_at address) cs)
found_is address [] = refl
found_is address (c ∷ cs) = by (is_at address c) (found_is address cs)
  where
    by : (b : Bool) → list_any (is_at address) cs ≡ is_some (find (is_at address) cs)
        → (b || list_any (is_at address) cs) ≡ is_some (cond b (Some c) (find (is_at address) cs))
    by true rest = refl
    by false rest = rest

local_bare : (domain user : List ℕ) → local_user domain (bare_of domain user) ≡ Some user
local_bare domain user = ap (λ b. cond (b && true) (Some user) None) (bytes_same domain)

sees_state : (s t : Bool) → sees_by (state_by s t) ≡ s
sees_state true true = refl
sees_state true false = refl
sees_state false true = refl
sees_state false false = refl

seen_state : (s t : Bool) → seen_by (state_by s t) ≡ t
seen_state true true = refl
seen_state true false = refl
seen_state false true = refl
seen_state false false = refl

module _ (domain : List ℕ) (k : Book) where
  -- the contact b of a
  record Tells (a b : List ℕ) (c : Contact) : Type 0 where
    subscription : c.subscription ≡ state_by (has_pair a b k.sees) (has_pair b a k.sees)
    asked : c.asked ≡ has_pair a b k.asked

  tells : (a b : List ℕ) (x : Record) (c : Contact) → x.user ≡ a → x.address ≡ bare_of domain b → contact_of domain k x ≡ c → Tells a b c
  tells a b x c own at is =
      let other : local_user domain x.address ≡ Some b = ap (local_user domain) at ∙ local_bare domain b in
      record {
        subscription =
            sym (ap (λ (d : Contact). d.subscription) is) ∙ ap (subscription_to k x.user) other
            ∙ ap (λ u. state_by (has_pair u b k.sees) (has_pair b u k.sees)) own;
        asked = sym (ap (λ (d : Contact). d.asked) is) ∙ ap (is_asked k x.user) other ∙ ap (λ u. has_pair u b k.asked) own;
      }

  found : (a b : List ℕ) (rs : List Record) (c : Contact)
      → find (is_at (bare_of domain b)) (map (contact_of domain k) (filter (λ x. bytes_eq x.user a) rs)) ≡ Some c → Tells a b c
  found a b [] c none = absurd (cc)
  found a b (x ∷ rs) c is = by (bytes_eq x.user a) (same_address x.address (bare_of domain b)) refl refl is (found a b rs c)
    where
      by : (o s : Bool) → bytes_eq x.user a ≡ o → same_address x.address (bare_of domain b) ≡ s
          → find (is_at (bare_of domain b)) (map (contact_of domain k) (cond o (x ∷ filter (λ x. bytes_eq x.user a) rs) (filter (λ x. bytes_eq x.user a) rs)))
          ≡ Some c
          → (find (is_at (bare_of domain b)) (map (contact_of domain k) (filter (λ x. bytes_eq x.user a) rs)) ≡ Some c → Tells a b c) → Tells a b c
      by false s own at is rest = rest is
      by true true own at is rest =
          let here = sym (ap (λ t. cond t (Some (contact_of domain k x))
          (find (is_at (bare_of domain b)) (map (contact_of domain k) (filter (λ x. bytes_eq x.user a) rs)))) at) ∙ is in
          tells a b x c (bytes_equal x.user a own) (same_address-equal x.address (bare_of domain b) at)
          (ap (λ (o : Option Contact). unwrap_or o (contact_of domain k x)) here)
      by true false own at is rest =
          rest (sym (ap (λ t. cond t (Some (contact_of domain k x))
          (find (is_at (bare_of domain b)) (map (contact_of domain k) (filter (λ x. bytes_eq x.user a) rs)))) at) ∙ is)

  abbrev at_of : (a b : List ℕ) → Option Contact
  at_of a b = users.contact_of (contacts_of domain k a) (bare_of domain b)

  -- whoever isn't listed has not been asked, and isn't seen
  unlisted : (a b : List ℕ) (x : Bool) → at_of a b ≡ None → (x ≡ true → lists domain k a b ≡ true) → false ≡ x
  unlisted a b x none listed = sym (false_from_ne_true x (λ is.
      true≢false (sym (listed is) ∙ found_is (bare_of domain b) (contacts_of domain k a) ∙ ap is_some none)))

  asks : AreListed domain k → (a b : List ℕ) (o : Option Contact) → at_of a b ≡ o → asked_by o ≡ has_pair a b k.asked
  asks listed a b None none = unlisted a b (has_pair a b k.asked) none (listed.asked a b)
  asks listed a b (Some c) is = (found a b k.records c is).asked

  sides : AreListed domain k → (a b : List ℕ) (o other : Option Contact) → at_of a b ≡ o → at_of b a ≡ other → side_in o other ≡ kept_side domain k a b
  sides listed a b None other none is =
      let sees = unlisted a b (has_pair a b k.sees) none (λ s. (listed.sees a b s).0) in
      let seen = unlisted a b (has_pair b a k.sees) none (λ s. (listed.sees b a s).1) in
      let asked = unlisted a b (has_pair a b k.asked) none (listed.asked a b) in
      let back = asks listed b a other is in
      let there : false ≡ lists domain k a b = sym (found_is (bare_of domain b) (contacts_of domain k a) ∙ ap is_some none) in
      λ i. record { sees = sees i; seen = seen i; asked = asked i; asked_by = back i; listed = there i }
  sides listed a b (Some c) other found_so is =
      let of = found a b k.records c found_so in
      let sees = ap sees_by of.subscription ∙ sees_state (has_pair a b k.sees) (has_pair b a k.sees) in
      let seen = ap seen_by of.subscription ∙ seen_state (has_pair a b k.sees) (has_pair b a k.sees) in
      let asked = of.asked in
      let back = asks listed b a other is in
      let there : true ≡ lists domain k a b = sym (found_is (bare_of domain b) (contacts_of domain k a) ∙ ap is_some found_so) in
      λ i. record { sees = sees i; seen = seen i; asked = asked i; asked_by = back i; listed = there i }

  pub sides_told : (a b : List ℕ) (ua ub : User) → IsUser domain k a ua → IsUser domain k b ub → AreListed domain k → side_of ua ub ≡ kept_side domain k a b
  sides_told a b ua ub mine theirs listed =
      ap (λ cs. side_in (users.contact_of cs ub.bare) (users.contact_of ub.contacts ua.bare)) mine.contacts
      ∙ ap (λ (x : Address). side_in (users.contact_of (contacts_of domain k a) x) (users.contact_of ub.contacts ua.bare)) theirs.bare
      ∙ ap (λ cs. side_in (at_of a b) (users.contact_of cs ua.bare)) theirs.contacts
      ∙ ap (λ (x : Address). side_in (at_of a b) (users.contact_of (contacts_of domain k b) x)) mine.bare
      ∙ sides listed a b (at_of a b) (at_of b a) refl refl
