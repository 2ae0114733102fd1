-- What a removal leaves of two users.
use Rattle.std.proofs.Common.{◌≡◌, ℕ, List, [], ◌++◌, map, Bool, true, false, not, ◌&&◌, ◌||◌, cond, bytes_eq, Option}
use Rattle.std.proofs.Common.{Some, None, is_some, unwrap_or, refl, sym, ap, subst, ◌∙◌, if◌then◌else◌}
use Rattle.std.proofs.lemmas.Bool.{and_from, and_left, not-true, or_parts}
use Rattle.std.specs.Option.{option_and_then, option_map}
use Rattle.jid_core.specs.Addresses.{Address, same_bare}
use Rattle.stanza_tree.specs.declared.node.Element.{Element}
use Rattle.stanza_model.specs.Subscriptions.{cancelled, outbound, unchanged, withdrawn}
use Rattle.stanza_model.specs.declared.here.Here.{Here}
use Rattle.stanza_model.specs.declared.kinds.PresenceForm.TheVariants.{Unsubscribe}
use Rattle.stanza_model.specs.declared.shared.Outcome.{Outcome}
use Rattle.stanza_model.specs.declared.shared.Contact.{Contact}
use Rattle.stanza_model.specs.declared.shared.Side.{Side}
use Rattle.stanza_model.specs.declared.stanza.Stanza.{Stanza}
use Rattle.contact_table.specs.Books.{Book, Pair, bare_of, has_pair, pair_of, with_pair}
use Rattle.jid_core.proofs.NameLemmas.{bytes_flip}
use Rattle.contact_table.proofs.ByteLemmas.{bytes_same}
use Rattle.contact_table.proofs.PairLemmas.{has_with, pair, same_pair}
use Rattle.roster_book.specs.Items.{address_in, contact_in, is_other, is_removal, only_item, other_than, query_in, wanted_by, wanted_in}
use Rattle.roster_book.specs.Refusals.{refusal}
use Rattle.roster_book.specs.Requests.{removed_by, removed_in, roster_set}
use Rattle.roster_book.specs.declared.item.Wanted.{Wanted}
use Rattle.subscription_pairs.specs.Changes.{after_pushes, both_ended, effects_of, removal, then_cancelled, told, untold}
use Rattle.subscription_pairs.specs.Users.{User, side_of}
use Rattle.roster_laws.specs.Keeping.{noted_all}
use Rattle.roster_laws.specs.Telling.{AreListed, AreStrangers, IsUser, kept_side, lists}
use Rattle.roster_laws.proofs.EffectLemmas.{kept_by_first, kept_by_removal, kept_by_second, noted_then, noted_unsubscribe, noted_unsubscribed}
use Rattle.roster_laws.proofs.ListLemmas.{lists_beside}
use Rattle.roster_laws.proofs.StayLemmas.{removal_listed, set_listed}
use Rattle.roster_laws.proofs.TellLemmas.{sides_told}

-- A pair that is taken back.

taken_back : (a b : List ℕ) (ps : List Pair) → has_pair a b (with_pair (pair a b) false ps) ≡ false
taken_back a b ps =
    has_with a b a b false ps
    ∙ ap (λ x. cond x false (has_pair a b ps)) (and_from (bytes_eq a a) (bytes_eq b b) (bytes_same a) (bytes_same b))

-- what isn't there isn't there when another is taken back
not_there : (a b c d : List ℕ) (ps : List Pair) → has_pair c d ps ≡ false → has_pair c d (with_pair (pair a b) false ps) ≡ false
not_there a b c d ps none = has_with a b c d false ps ∙ by (same_pair a b c d)
  where
    by : (x : Bool) → cond x false (has_pair c d ps) ≡ false
    by true = refl
    by false = none

-- a neither sees b nor has asked it
record IsOver (a b : List ℕ) (k : Book) : Type 0 where
  sees : has_pair a b k.sees ≡ false
  asked : has_pair a b k.asked ≡ false

over_still : (a b : List ℕ) (k : Book) (p : Pair) → IsOver a b k → IsOver a b (record k { sees = with_pair p false k.sees; asked = with_pair p false k.asked })
over_still a b k p is = record { sees = not_there p.a p.b a b k.sees is.sees; asked = not_there p.a p.b a b k.asked is.asked }

over_now : (a b : List ℕ) (k : Book) (p : Pair) → p ≡ pair a b → IsOver a b (record k { sees = with_pair p false k.sees; asked = with_pair p false k.asked })
over_now a b k p is =
    subst (λ p. IsOver a b (record k { sees = with_pair p false k.sees; asked = with_pair p false k.asked })) (sym is)
    (record { sees = taken_back a b k.sees; asked = taken_back a b k.asked })

-- the first stanza leaves what concerns the other
first_seen : (m t : Side) → (outbound m t Unsubscribe).mine.seen ≡ m.seen
first_seen m t = by (m.sees || m.asked)
  where
    by : (c : Bool) → (if c then withdrawn m t else unchanged m t).mine.seen ≡ m.seen
    by true = refl
    by false = refl

first_asked_by : (m t : Side) → (outbound m t Unsubscribe).mine.asked_by ≡ m.asked_by
first_asked_by m t = by (m.sees || m.asked)
  where
    by : (c : Bool) → (if c then withdrawn m t else unchanged m t).mine.asked_by ≡ m.asked_by
    by true = refl
    by false = refl

after_bare : (o : Outcome) (b : User) → (after_pushes o b).bare ≡ b.bare
after_bare o b = by o.push_theirs
  where
    by : (c : Bool) → (if c then record b { sessions = map told b.sessions } else b).bare ≡ b.bare
    by true = refl
    by false = refl

module _ (domain a b : List ℕ) (ua ub : User) (k : Book) (ma : IsUser domain k a ua) (mb : IsUser domain k b ub) (are : AreListed domain k) where
  abbrev m : Side
  m = side_of ua ub

  abbrev t : Side
  t = side_of ub ua

  abbrev first : Outcome
  first = outbound m t Unsubscribe

  abbrev k1 : Book
  k1 = noted_all (effects_of ua ub m (untold first)) k

  tells : m ≡ kept_side domain k a b
  tells = sides_told domain k a b ua ub ma mb are

  over_first : IsOver a b k1
  over_first = by (m.sees || m.asked) refl
    where
      by : (c : Bool) → (m.sees || m.asked) ≡ c → IsOver a b (noted_all (effects_of ua ub m (untold (if c then withdrawn m t else unchanged m t))) k)
      by true is =
          subst (IsOver a b) (sym (noted_unsubscribe ua ub (untold (withdrawn m t)) k))
          (over_now a b k (pair_of ua.bare ub.bare) (ap (λ x. pair_of x ub.bare) ma.bare ∙ ap (pair_of (bare_of domain a)) mb.bare))
      by false is =
          let none = or_parts m.sees m.asked is in
          record { sees = sym (ap (λ (s : Side). s.sees) tells) ∙ none.0; asked = sym (ap (λ (s : Side). s.asked) tells) ∙ none.1 }

  over_second : IsOver b a (noted_all (then_cancelled ua ub first) k1)
  over_second = by (first.mine.seen || first.mine.asked_by) refl
    where
      by : (c : Bool) → (first.mine.seen || first.mine.asked_by) ≡ c
          → IsOver b a (noted_all (effects_of ua (after_pushes first ub) first.mine
          (untold (if c then cancelled first.mine first.theirs else unchanged first.mine first.theirs))) k1)
      by true is =
          let other = after_pushes first ub in
          subst (IsOver b a) (sym (noted_unsubscribed ua other (untold (cancelled first.mine first.theirs)) k1))
          (over_now b a k1 (pair_of other.bare ua.bare)
          (ap (λ x. pair_of x ua.bare) (after_bare first ub ∙ mb.bare) ∙ ap (pair_of (bare_of domain b)) ma.bare))
      by false is =
          let none = or_parts first.mine.seen first.mine.asked_by is in
          kept_by_first (IsOver b a) (over_still b a) ua ub m t k
          (record {
            sees = sym (ap (λ (s : Side). s.seen) tells) ∙ sym (first_seen m t) ∙ none.0;
            asked = sym (ap (λ (s : Side). s.asked_by) tells) ∙ sym (first_asked_by m t) ∙ none.1;
          })

  abbrev Ends : Book → Type 0
  Ends n = IsOver a b n × IsOver b a n

  both_over : bytes_eq a b ≡ false → Ends (noted_all (removal ua ub) k)
  both_over other =
      let two : same_bare ua.bare ub.bare ≡ false =
      ap (λ x. same_bare x ub.bare) ma.bare ∙ ap (same_bare (bare_of domain a)) mb.bare ∙ and_left (bytes_eq a b) (bytes_eq domain domain) other in
      subst (λ c. Ends (noted_all (if c then [] else both_ended ua ub m first) k)) (sym two)
      (subst Ends (sym (noted_then (effects_of ua ub m (untold first)) (then_cancelled ua ub first) k))
      (kept_by_second (IsOver a b) (over_still a b) ua (after_pushes first ub) first.mine first.theirs k1 over_first, over_second))

  pub removal_ends : bytes_eq a b ≡ false
      → kept_side domain (noted_all (removal ua ub) k) a b ≡ record (kept_side domain k a b) { sees = false; seen = false; asked = false; asked_by = false }
  removal_ends other =
      let over = both_over other in
      let same : lists domain (noted_all (removal ua ub) k) a b ≡ lists domain k a b =
      kept_by_removal (λ n. lists domain n a b ≡ lists domain k a b)
      (λ n p is. lists_beside domain n (with_pair p false n.sees) (with_pair p false n.asked) a b ∙ is) ua ub k refl in
      λ i. record { sees = over.0.sees i; seen = over.1.sees i; asked = over.0.asked i; asked_by = over.1.asked i; listed = same i }

  -- RFC 6121, 2.1.2.3: the contact that is wanted is another
  wanted_is_other : (owner : Address) (st : Stanza) (w : Wanted) → wanted_in owner st ≡ Some w → is_other owner w.contact.address ≡ true
  wanted_is_other owner st w is = by (option_and_then only_item (query_in st)) is
    where
      by_test : (item : Element) (address : Address) (c : Bool) → is_other owner address ≡ c
          → option_map (λ (x : Address). record { contact = contact_in item x; remove = is_removal item }) (if c then Some address else None) ≡ Some w
          → is_other owner w.contact.address ≡ true
      by_test item address true other is =
          sym (ap (λ (o : Option Wanted). is_other owner (unwrap_or o w).contact.address) is) ∙ other
      by_test item address false other is = absurd (cc)

      by_address : (item : Element) (o : Option Address)
          → option_map (λ (x : Address). record { contact = contact_in item x; remove = is_removal item }) (option_and_then (other_than owner) o) ≡ Some w
          → is_other owner w.contact.address ≡ true
      by_address item None is = absurd (cc)
      by_address item (Some address) is = by_test item address (is_other owner address) refl is

      by : (o : Option Element) → option_and_then (wanted_by owner) o ≡ Some w → is_other owner w.contact.address ≡ true
      by None is = absurd (cc)
      by (Some item) is = by_address item (address_in item) is

  -- whom a set removes is whom it wants
  wanted_is_gone : (contacts : List Contact) (w : Wanted) (x : Address) → removed_in contacts w ≡ Some x → w.contact.address ≡ x
  wanted_is_gone contacts w x is = by (w.remove && not (is_some (refusal contacts w))) is
    where
      by : (c : Bool) → (if c then Some w.contact.address else None) ≡ Some x → w.contact.address ≡ x
      by true is = ap (λ (o : Option Address). unwrap_or o w.contact.address) is
      by false is = absurd (cc)

  pub removed_listed : (contacts : List Contact) (who : Here) (sessions : List Here) (st : Stanza) (w : Wanted)
      → wanted_in (bare_of domain a) st ≡ Some w → w.contact.address ≡ bare_of domain b
      → AreListed domain (noted_all (removal ua ub ++ roster_set (bare_of domain a) contacts who sessions st) k)
  removed_listed contacts who sessions st w wants at =
      subst (AreListed domain) (sym (noted_then (removal ua ub) (roster_set (bare_of domain a) contacts who sessions st) k))
      (set_listed domain a contacts (noted_all (removal ua ub) k) who sessions st strangers (removal_listed domain ua ub k are))
    where
      apart : bytes_eq a b ≡ false
      apart =
          let is : is_other (bare_of domain a) (bare_of domain b) ≡ true =
          sym (ap (is_other (bare_of domain a)) at) ∙ wanted_is_other (bare_of domain a) st w wants in
          let two : (bytes_eq b a && bytes_eq domain domain) ≡ false = not-true (bytes_eq b a && bytes_eq domain domain) is in
          bytes_flip a b ∙ sym (by (bytes_eq b a) (bytes_same domain)) ∙ two
        where
          by : (x : Bool) → bytes_eq domain domain ≡ true → (x && bytes_eq domain domain) ≡ x
          by true same = same
          by false same = refl

      strangers : (c : List ℕ) → removed_by (bare_of domain a) contacts st ≡ Some (bare_of domain c) → AreStrangers (noted_all (removal ua ub) k) a c
      strangers c gone =
          let over = both_over apart in
          let there : removed_in contacts w ≡ Some (bare_of domain c) = sym (ap (option_and_then (removed_in contacts)) wants) ∙ gone in
          let same : b ≡ c = ap (λ (x : Address). unwrap_or x.local []) (sym at ∙ wanted_is_gone contacts w (bare_of domain c) there) in
          subst (AreStrangers (noted_all (removal ua ub) k) a) same
          (record { sees = over.0.sees; seen = over.1.sees; asked = over.0.asked })
