-- Who has to be listed stays listed as effects are noted.
use Rattle.std.proofs.Common.{◌≡◌, ℕ, List, [], ◌∷◌, ◌++◌, map, Bool, true, false, not, ◌||◌, cond, bytes_eq, filter, refl, sym, ap, subst, ◌∙◌}
use Rattle.std.specs.List.{list_any}
use Rattle.std.proofs.lemmas.Bool.{and_parts, or_left, or_right, true≢false}
use Rattle.std.proofs.lemmas.List.Folds.{list_any-append}
use Rattle.jid_core.specs.Addresses.{Address, same_address}
use Rattle.jid_core.proofs.AddressLemmas.{same_address-equal}
use Rattle.stanza_model.specs.declared.shared.Contact.{Contact}
use Rattle.contact_table.specs.Books.{Book, Pair, Record, bare_of, contact_of, contacts_of, has_pair, with_contact, with_pair, without_contact}
use Rattle.contact_table.specs.Marks.{set_listed, with_listed}
use Rattle.contact_table.proofs.BookLemmas.{contacts_with, contacts_without}
use Rattle.contact_table.proofs.ByteLemmas.{bytes_equal}
use Rattle.contact_table.proofs.PairLemmas.{has_with, pair, same_pair}
use Rattle.roster_book.specs.Refusals.{others}
use Rattle.roster_laws.specs.Telling.{AreListed, AreStrangers, lists}
use Rattle.roster_laws.proofs.AddressLemmas.{address_same}
use Rattle.roster_laws.proofs.RosterLemmas.{addresses_alike, addresses_set, any_at, is_at}

-- Over lists of contacts.

still_there : (a : Address) (c : Contact) (cs : List Contact) → list_any (is_at a) cs ≡ true → list_any (is_at a) (with_listed c cs) ≡ true
still_there a c cs there = by (list_any (is_at c.address) cs)
  where
    by : (b : Bool) → list_any (is_at a) (cond b (set_listed c cs) (cs ++ c ∷ [])) ≡ true
    by true =
        any_at a (set_listed c cs) ∙ ap (list_any (λ b. same_address b a)) (addresses_set c cs) ∙ sym (any_at a cs) ∙ there
    by false =
        list_any-append (is_at a) cs (c ∷ []) ∙ or_left (list_any (is_at a) cs) (list_any (is_at a) (c ∷ [])) there

there_now : (c : Contact) (cs : List Contact) → list_any (is_at c.address) (with_listed c cs) ≡ true
there_now c cs = by (list_any (is_at c.address) cs) refl
  where
    by : (b : Bool) → list_any (is_at c.address) cs ≡ b → list_any (is_at c.address) (cond b (set_listed c cs) (cs ++ c ∷ [])) ≡ true
    by true there =
        any_at c.address (set_listed c cs) ∙ ap (list_any (λ b. same_address b c.address)) (addresses_set c cs)
        ∙ sym (any_at c.address cs) ∙ there
    by false absent =
        list_any-append (is_at c.address) cs (c ∷ [])
        ∙ or_right (list_any (is_at c.address) cs) (is_at c.address c || false) (or_left (is_at c.address c) false (address_same c.address))

-- one of another address
other_stays : (a gone : Address) (cs : List Contact) → (same_address a gone ≡ true → ⊥) → list_any (is_at a) cs ≡ true
    → list_any (is_at a) (others gone cs) ≡ true
other_stays a gone [] apart there = there
other_stays a gone (c ∷ cs) apart there = by (is_at a c) (is_at gone c) refl refl there (other_stays a gone cs apart)
  where
    by : (b g : Bool) → is_at a c ≡ b → is_at gone c ≡ g → (b || list_any (is_at a) cs) ≡ true
        → (list_any (is_at a) cs ≡ true → list_any (is_at a) (others gone cs) ≡ true)
        → list_any (is_at a) (cond (not g) (c ∷ others gone cs) (others gone cs)) ≡ true
    by true true at off there rest =
        absurd (apart (subst (λ (x : Address). same_address x gone ≡ true) (same_address-equal c.address a at) off))
    by false true at off there rest = rest there
    by true false at off there rest = or_left (is_at a c) (list_any (is_at a) (others gone cs)) at
    by false false at off there rest = or_right (is_at a c) (list_any (is_at a) (others gone cs)) (rest there)

module _ (domain : List ℕ) where
  -- Who is listed.

  abbrev pub Lists : Book → List ℕ → List ℕ → Type 0
  Lists k a b = lists domain k a b ≡ true

  -- by the pairs, none
  pub lists_beside : (k : Book) (seen asks : List Pair) (a b : List ℕ) → lists domain (record k { sees = seen; asked = asks }) a b ≡ lists domain k a b
  lists_beside k seen asks a b =
      let new = contact_of domain (record k { sees = seen; asked = asks }) in
      let rs = filter (λ x. bytes_eq x.user a) k.records in
      any_at (bare_of domain b) (map new rs)
      ∙ ap (list_any (λ x. same_address x (bare_of domain b))) (addresses_alike new (contact_of domain k) (λ x. refl) (λ x. 0) (λ x. refl) rs)
      ∙ sym (any_at (bare_of domain b) (map (contact_of domain k) rs))

  pub lists_with : (k : Book) (x : Record) (a b : List ℕ) → Lists k a b → Lists (record k { records = with_contact x k.records }) a b
  lists_with k x a b there =
      ap (list_any (is_at (bare_of domain b))) (contacts_with domain k x a) ∙ by (bytes_eq x.user a)
    where
      by : (o : Bool) → list_any (is_at (bare_of domain b)) (cond o (with_listed (contact_of domain k x) (contacts_of domain k a)) (contacts_of domain k a))
          ≡ true
      by true = still_there (bare_of domain b) (contact_of domain k x) (contacts_of domain k a) there
      by false = there

  pub lists_new : (k : Book) (x : Record) (a b : List ℕ) → bytes_eq x.user a ≡ true → x.address ≡ bare_of domain b
      → Lists (record k { records = with_contact x k.records }) a b
  lists_new k x a b own at =
      let cs = contacts_of domain k a in
      ap (list_any (is_at (bare_of domain b))) (contacts_with domain k x a)
      ∙ ap (λ o. list_any (is_at (bare_of domain b)) (cond o (with_listed (contact_of domain k x) cs) cs)) own
      ∙ ap (λ (t : Address). list_any (is_at t) (with_listed (contact_of domain k x) cs)) (sym at)
      ∙ there_now (contact_of domain k x) cs

  pub lists_without : (k : Book) (own : List ℕ) (gone : Address) (a b : List ℕ)
      → (bytes_eq own a ≡ true → same_address (bare_of domain b) gone ≡ true → ⊥)
      → Lists k a b → Lists (record k { records = without_contact own gone k.records }) a b
  lists_without k own gone a b apart there =
      ap (list_any (is_at (bare_of domain b))) (contacts_without domain k own gone a) ∙ by (bytes_eq own a) refl
    where
      by : (o : Bool) → bytes_eq own a ≡ o → list_any (is_at (bare_of domain b)) (cond o (others gone (contacts_of domain k a)) (contacts_of domain k a)) ≡ true
      by true is = other_stays (bare_of domain b) gone (contacts_of domain k a) (apart is) there
      by false is = there

  -- The changes.

  pub sees_listed : (k : Book) (a b : List ℕ) (on : Bool) → (on ≡ true → Lists k a b × Lists k b a) → AreListed domain k
      → AreListed domain (record k { sees = with_pair (pair a b) on k.sees })
  sees_listed k a b on listed are = record {
    sees = λ c d is. by c d (same_pair a b c d) refl (sym (has_with a b c d on k.sees) ∙ is);
    asked = λ c d is. lists_beside k (with_pair (pair a b) on k.sees) k.asked c d ∙ are.asked c d is;
  }
    where
      new : (c d : List ℕ) → lists domain (record k { sees = with_pair (pair a b) on k.sees }) c d ≡ lists domain k c d
      new c d = lists_beside k (with_pair (pair a b) on k.sees) k.asked c d

      by : (c d : List ℕ) (s : Bool) → same_pair a b c d ≡ s → cond s on (has_pair c d k.sees) ≡ true
          → Lists (record k { sees = with_pair (pair a b) on k.sees }) c d × Lists (record k { sees = with_pair (pair a b) on k.sees }) d c
      by c d true same is =
          let parts = and_parts (bytes_eq a c) (bytes_eq b d) same in
          let one = bytes_equal a c parts.0 in
          let other = bytes_equal b d parts.1 in
          let both = listed is in (
            new c d ∙ ap (λ x. lists domain k x d) (sym one) ∙ ap (λ x. lists domain k a x) (sym other) ∙ both.0,
            new d c ∙ ap (λ x. lists domain k x c) (sym other) ∙ ap (λ x. lists domain k b x) (sym one) ∙ both.1,
          )
      by c d false same is = let both = are.sees c d is in (new c d ∙ both.0, new d c ∙ both.1)

  pub asked_listed : (k : Book) (a b : List ℕ) (on : Bool) → (on ≡ true → Lists k a b) → AreListed domain k
      → AreListed domain (record k { asked = with_pair (pair a b) on k.asked })
  asked_listed k a b on listed are = record {
    sees = λ c d is. let both = are.sees c d is in (new c d ∙ both.0, new d c ∙ both.1);
    asked = λ c d is. by c d (same_pair a b c d) refl (sym (has_with a b c d on k.asked) ∙ is);
  }
    where
      new : (c d : List ℕ) → lists domain (record k { asked = with_pair (pair a b) on k.asked }) c d ≡ lists domain k c d
      new c d = lists_beside k k.sees (with_pair (pair a b) on k.asked) c d

      by : (c d : List ℕ) (s : Bool) → same_pair a b c d ≡ s → cond s on (has_pair c d k.asked) ≡ true
          → Lists (record k { asked = with_pair (pair a b) on k.asked }) c d
      by c d true same is =
          let parts = and_parts (bytes_eq a c) (bytes_eq b d) same in
          new c d ∙ ap (λ x. lists domain k x d) (sym (bytes_equal a c parts.0)) ∙ ap (λ x. lists domain k a x) (sym (bytes_equal b d parts.1)) ∙ listed is
      by c d false same is = new c d ∙ are.asked c d is

  pub contact_listed : (k : Book) (x : Record) → AreListed domain k → AreListed domain (record k { records = with_contact x k.records })
  contact_listed k x are = record {
    sees = λ a b is. let both = are.sees a b is in (lists_with k x a b both.0, lists_with k x b a both.1);
    asked = λ a b is. lists_with k x a b (are.asked a b is);
  }

  -- RFC 6121, 2.5.1: who goes is a stranger
  pub no_contact_listed : (k : Book) (own : List ℕ) (gone : Address) → ((b : List ℕ) → gone ≡ bare_of domain b → AreStrangers k own b) → AreListed domain k
      → AreListed domain (record k { records = without_contact own gone k.records })
  no_contact_listed k own gone strangers are = record {
    sees = λ a b is. let both = are.sees a b is in (
      lists_without k own gone a b (λ mine at. apart a b mine at (λ s. true≢false (sym is ∙ s.sees))) both.0,
      lists_without k own gone b a (λ mine at. apart b a mine at (λ s. true≢false (sym is ∙ s.seen))) both.1,
    );
    asked = λ a b is. lists_without k own gone a b (λ mine at. apart a b mine at (λ s. true≢false (sym is ∙ s.asked))) (are.asked a b is);
  }
    where
      apart : (a b : List ℕ) → bytes_eq own a ≡ true → same_address (bare_of domain b) gone ≡ true → (AreStrangers k a b → ⊥) → ⊥
      apart a b mine at wrong =
          wrong (subst (λ u. AreStrangers k u b) (bytes_equal own a mine) (strangers b (sym (same_address-equal (bare_of domain b) gone at))))
