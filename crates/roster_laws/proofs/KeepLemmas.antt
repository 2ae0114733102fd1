-- Rosters keep to their limits as effects are noted.
use Rattle.std.proofs.Common.{◌≡◌, ℕ, ◌+◌, ◌<◌, ◌≤◌, List, [], ◌∷◌, ◌++◌, map, length, sum, nat_le, nat_lt, Bool, true}
use Rattle.std.proofs.Common.{false, not, ◌&&◌, ◌||◌, cond, bytes_eq, filter, Option, Some, None, is_some, unwrap_or, refl}
use Rattle.std.proofs.Common.{sym, ap, subst, ◌∙◌, arith, length-append, if◌then◌else◌}
use Rattle.std.specs.List.{find, list_any}
use Rattle.std.proofs.lemmas.Bool.{and_parts, leb-false, leb-true, ltb-false, not-false, not-true, not_from_false, or_parts}
use Rattle.jid_core.specs.Addresses.{Address, same_address, same_bare}
use Rattle.stanza_model.specs.Replies.{refused}
use Rattle.stanza_model.specs.RosterLimits.{counted, most_contacts, most_text}
use Rattle.stanza_model.specs.Subscriptions.{outbound}
use Rattle.stanza_model.specs.declared.condition.Condition.{Condition}
use Rattle.stanza_model.specs.declared.condition.Condition.TheVariants.{BadRequest, ItemNotFound, NotAcceptable, ResourceConstraint}
use Rattle.stanza_model.specs.declared.effect.Change.TheVariants.{Contact}
use Rattle.stanza_model.specs.declared.effect.Effect.{Effect}
use Rattle.stanza_model.specs.declared.effect.Effect.TheVariants.{Set}
use Rattle.stanza_model.specs.declared.here.Here.{Here}
use Rattle.stanza_model.specs.declared.kinds.PresenceForm.{PresenceForm}
use Rattle.stanza_model.specs.declared.kinds.PresenceForm.TheVariants.{Available, Unavailable, Subscribe, Subscribed, Unsubscribe, Unsubscribed, Probe, Error}
use Rattle.stanza_model.specs.declared.shared.Contact as roster
use Rattle.stanza_model.specs.declared.shared.Outcome.{Outcome}
use Rattle.stanza_model.specs.declared.shared.Side.{Side}
use Rattle.stanza_model.specs.declared.stanza.Stanza.{Stanza}
use Rattle.contact_table.specs.Books.{Book, Pair, Record, bare_of, contact_of, contacts_of, noted, pair_of, with_contact, with_pair, without_contact}
use Rattle.contact_table.specs.Marks.{with_listed}
use Rattle.contact_table.proofs.BookLemmas.{contacts_with, contacts_without}
use Rattle.contact_table.proofs.ByteLemmas.{bytes_equal}
use Rattle.roster_book.specs.Items.{wanted_in}
use Rattle.roster_book.specs.Refusals.{contact_at, is_one_too_many, is_too_large, others, refusal, text_after}
use Rattle.roster_book.specs.Requests.{change_of, done, roster_set, set_wanted, unless}
use Rattle.roster_book.specs.declared.item.Wanted.{Wanted}
use Rattle.subscription_pairs.specs.Changes as change
use Rattle.subscription_pairs.specs.Limits.{fits}
use Rattle.subscription_pairs.specs.Users as users
use Rattle.subscription_pairs.specs.Users.{User}
use Rattle.roster_laws.specs.Keeping.{AreKept, IsRoster, noted_all}
use Rattle.roster_laws.proofs.EffectLemmas.{IsQuiet, either_order, kept_by_removal, kept_by_unsubscribe, kept_by_unsubscribed, noted_done}
use Rattle.roster_laws.proofs.EffectLemmas.{noted_subscribe, noted_subscribed, noted_then, quiet_delivered, quiet_refused}
use Rattle.roster_laws.proofs.RosterLemmas.{empty_roster, is_at, nobody_else, roster_alike, roster_with, roster_without, total_last}

-- a roster has room for a contact, which is new or takes the place of another
record HasRoom (c : roster.Contact) (cs : List roster.Contact) : Type 0 where
  few : list_any (is_at c.address) cs ≡ false → length cs < most_contacts
  small : counted c + sum (map counted (others c.address cs)) ≤ most_text

module _ (domain : List ℕ) where
  pub none_kept : AreKept domain (record { records = []; sees = []; asked = [] })
  none_kept user = empty_roster

  -- The changes.

  -- who sees whom isn't counted
  pairs_kept : (k : Book) (seen asks : List Pair) → AreKept domain k → AreKept domain (record k { sees = seen; asked = asks })
  pairs_kept k seen asks are user =
      roster_alike (contact_of domain k) (contact_of domain (record k { sees = seen; asked = asks })) (λ x. refl) (λ x. refl)
      (filter (λ x. bytes_eq x.user user) k.records) (are user)

  contact_kept : (k : Book) (x : Record) → AreKept domain k → HasRoom (contact_of domain k x) (contacts_of domain k x.user)
      → AreKept domain (record k { records = with_contact x k.records })
  contact_kept k x are room user = subst IsRoster (sym (contacts_with domain k x user)) (by (bytes_eq x.user user) refl)
    where
      by : (b : Bool) → bytes_eq x.user user ≡ b
          → IsRoster (cond b (with_listed (contact_of domain k x) (contacts_of domain k user)) (contacts_of domain k user))
      by true own =
          let here : HasRoom (contact_of domain k x) (contacts_of domain k user) =
          subst (λ u. HasRoom (contact_of domain k x) (contacts_of domain k u)) (bytes_equal x.user user own) room in
          roster_with (contact_of domain k x) (contacts_of domain k user) (are user) here.few here.small
      by false other = are user

  no_contact_kept : (k : Book) (own : List ℕ) (address : Address) → AreKept domain k
      → AreKept domain (record k { records = without_contact own address k.records })
  no_contact_kept k own address are user = subst IsRoster (sym (contacts_without domain k own address user)) (by (bytes_eq own user))
    where
      by : (b : Bool) → IsRoster (cond b (filter (λ c. not (same_address c.address address)) (contacts_of domain k user)) (contacts_of domain k user))
      by true = roster_without address (contacts_of domain k user) (are user)
      by false = are user

  ends_kept : (k : Book) (p : Pair) → AreKept domain k → AreKept domain (record k { sees = with_pair p false k.sees; asked = with_pair p false k.asked })
  ends_kept k p are = pairs_kept k (with_pair p false k.sees) (with_pair p false k.asked) are

  pub quiet_kept : (xs : List Effect) → IsQuiet xs → (k : Book) → AreKept domain k → AreKept domain (noted_all xs k)
  quiet_kept xs quiet k are = subst (AreKept domain) (sym (quiet k)) are

  -- A roster set.

  listed_is : (address : Address) (cs : List roster.Contact) → is_some (contact_at address cs) ≡ list_any (is_at address) cs
  listed_is address [] = refl
  listed_is address (c ∷ cs) = by (is_at address c) (listed_is address cs)
    where
      by : (b : Bool) → is_some (contact_at address cs) ≡ list_any (is_at address) cs
          → is_some (cond b (Some c) (contact_at address cs)) ≡ (b || list_any (is_at address) cs)
      by true rest = refl
      by false rest = rest

  not_refused : (a b c d : Bool)
      → cond a (Some NotAcceptable) (cond b (Some BadRequest) (cond c (Some ItemNotFound) (cond d (Some ResourceConstraint) None))) ≡ None → d ≡ false
  not_refused true b c d none = absurd (cc)
  not_refused false true c d none = absurd (cc)
  not_refused false false true d none = absurd (cc)
  not_refused false false false true none = absurd (cc)
  not_refused false false false false none = refl

  -- what isn't too large has room
  room_for : (cs : List roster.Contact) (c x : roster.Contact) → c.address ≡ x.address → counted c ≡ counted x → is_too_large cs x ≡ false
      → HasRoom c cs
  room_for cs c x at same fits =
      let parts = or_parts (is_one_too_many cs x) (nat_lt most_text (text_after cs x)) fits in
      record {
        few = λ absent.
            let new : not (is_some (contact_at x.address cs)) ≡ true =
            not_from_false _ (listed_is x.address cs ∙ ap (λ (a : Address). list_any (is_at a) cs) (sym at) ∙ absent) in
            leb-false most_contacts (length cs) (sym (ap (λ b. b && nat_le most_contacts (length cs)) new) ∙ parts.0);
        small =
            subst (λ (m : ℕ). m + sum (map counted (others c.address cs)) ≤ most_text) (sym same)
            (subst (λ (a : Address). counted x + sum (map counted (others a cs)) ≤ most_text) (sym at)
            (ltb-false most_text (text_after cs x) parts.1));
      }

  -- a change of one's own roster
  change_kept : (k : Book) (own : List ℕ) (remove : Bool) (x : roster.Contact)
      → HasRoom (contact_of domain k (record { user = own; address = x.address; name = x.name; groups = x.groups })) (contacts_of domain k own)
      → AreKept domain k → AreKept domain (noted (change_of remove own x) k)
  change_kept k own false x room are = contact_kept k (record { user = own; address = x.address; name = x.name; groups = x.groups }) are room
  change_kept k own true x room are = no_contact_kept k own x.address are

  pub set_kept : (own : List ℕ) (k : Book) (who : Here) (sessions : List Here) (st : Stanza)
      → AreKept domain k → AreKept domain (noted_all (roster_set (bare_of domain own) (contacts_of domain k own) who sessions st) k)
  set_kept own k who sessions st are = by (wanted_in owner st)
    where
      owner : Address
      owner = bare_of domain own

      contacts : List roster.Contact
      contacts = contacts_of domain k own

      made : (w : Wanted) (r : Option Condition) → refusal contacts w ≡ r
          → AreKept domain (noted_all (unless r who st (done owner contacts who sessions st w)) k)
      made w (Some condition) is = quiet_kept (refused who st condition) (quiet_refused who st condition) k are
      made w None is =
          let x = w.contact in
          let mine : Record = record { user = own; address = x.address; name = x.name; groups = x.groups } in
          let room = room_for contacts (contact_of domain k mine) x refl refl (not_refused _ _ _ _ is) in
          subst (AreKept domain) (sym (noted_done owner contacts who sessions st w k)) (change_kept k own w.remove x room are)

      by : (o : Option Wanted) → AreKept domain (noted_all (set_wanted owner contacts who sessions st o) k)
      by None = quiet_kept (refused who st BadRequest) (quiet_refused who st BadRequest) k are
      by (Some w) = made w (refusal contacts w) refl

  -- A subscription's stanza.

  -- a contact that is made isn't there yet
  listed_side : (mine theirs : Option roster.Contact) → (users.side_in mine theirs).listed ≡ false → mine ≡ None
  listed_side None theirs none = refl
  listed_side (Some c) theirs none = absurd (cc)

  none_found : (a : Address) (cs : List roster.Contact) → users.contact_of cs a ≡ None → list_any (is_at a) cs ≡ false
  none_found a [] none = refl
  none_found a (c ∷ cs) none = by (is_at a c) none (none_found a cs)
    where
      by : (b : Bool) → cond b (Some c) (find (is_at a) cs) ≡ None → (find (is_at a) cs ≡ None → list_any (is_at a) cs ≡ false)
          → (b || list_any (is_at a) cs) ≡ false
      by true none rest = absurd (cc)
      by false none rest = rest none

  room_last : (c d : roster.Contact) (cs : List roster.Contact) → counted c ≡ counted d → list_any (is_at c.address) cs ≡ false → fits (cs ++ d ∷ []) ≡ true
      → HasRoom c cs
  room_last c d cs same absent fit =
      let parts = and_parts (nat_le (length (cs ++ d ∷ [])) most_contacts) (nat_le (sum (map counted (cs ++ d ∷ []))) most_text) fit in
      record {
        few = λ _.
            let few = leb-true (length (cs ++ d ∷ [])) most_contacts parts.0 in
            let more = length-append cs (d ∷ []) in
            omega (arith, few, more);
        small =
            subst (λ (m : ℕ). m ≤ most_text)
            (total_last counted d cs ∙ ap (λ (m : ℕ). m + sum (map counted cs)) (sym same)
            ∙ ap (λ ds. counted c + sum (map counted ds)) (sym (nobody_else c.address cs absent)))
            (leb-true (sum (map counted (cs ++ d ∷ []))) most_text parts.1);
      }

  module _ (a : List ℕ) (ua ub : User) (k : Book) (bare : ua.bare ≡ bare_of domain a) (contacts : ua.contacts ≡ contacts_of domain k a)
      (are : AreKept domain k) (o : Outcome) where
    abbrev mine : Side
    mine = users.side_of ua ub

    -- the contacts with the one that would be made
    abbrev with_new : List roster.Contact
    with_new = ua.contacts ++ users.new_contact ub.bare o.mine ∷ []

    abbrev new : Record
    new = record { user = a; address = ub.bare; name = []; groups = [] }

    made_kept : (change.is_made mine o && not (fits with_new)) ≡ false → AreKept domain (noted_all (change.made ua ub mine o) k)
    made_kept room = by (change.is_made mine o) refl room
      where
        by : (b : Bool) → change.is_made mine o ≡ b → (b && not (fits with_new)) ≡ false
            → AreKept domain (noted_all (if b then Set (Contact (users.user_of ua.bare) ub.bare [] []) ∷ [] else []) k)
        by false is room = are
        by true is room =
            let parts = and_parts o.mine.listed (not mine.listed) is in
            let none = listed_side (users.contact_of ua.contacts ub.bare) (users.contact_of ub.contacts ua.bare) (not-true mine.listed parts.1) in
            let has : HasRoom (contact_of domain k new) (contacts_of domain k a) =
            subst (HasRoom (contact_of domain k new)) contacts
            (room_last (contact_of domain k new) (users.new_contact ub.bare o.mine) ua.contacts refl
            (none_found ub.bare ua.contacts none) (not-false (fits with_new) room)) in
            subst (λ (x : Address). AreKept domain (noted (Contact (users.user_of x) ub.bare [] []) k)) (sym bare)
            (contact_kept k new are has)

    -- a contact is made beside the pairs
    made_beside : (seen asks : List Pair)
        → noted_all (change.made ua ub mine o) (record k { sees = seen; asked = asks })
        ≡ record (noted_all (change.made ua ub mine o) k) { sees = seen; asked = asks }
    made_beside seen asks = by (change.is_made mine o)
      where
        by : (b : Bool)
            → noted_all (if b then Set (Contact (users.user_of ua.bare) ub.bare [] []) ∷ [] else []) (record k { sees = seen; asked = asks })
            ≡ record (noted_all (if b then Set (Contact (users.user_of ua.bare) ub.bare [] []) ∷ [] else []) k) { sees = seen; asked = asks }
        by true = refl
        by false = refl

    row_kept : (change.is_made mine o && not (fits with_new)) ≡ false → (back : Bool) (form : Option PresenceForm)
        → AreKept domain (noted_all (change.row ua ub mine o back form) k)
    row_kept room true None = are
    row_kept room true (Some form) = quiet_kept (change.row_back ua ub form) (quiet_delivered form ub.bare ua.sessions) k are
    row_kept room false None = are
    row_kept room false (Some Available) = are
    row_kept room false (Some Unavailable) = are
    row_kept room false (Some Probe) = are
    row_kept room false (Some Error) = are
    row_kept room false (Some Subscribe) =
        let made = noted_all (change.made ua ub mine o) k in
        subst (AreKept domain)
        (sym (noted_subscribe ua ub mine o k ∙ noted_then (change.made ua ub mine o) (change.asked ua.bare ub.bare true ∷ []) k))
        (pairs_kept made made.sees (with_pair (pair_of ua.bare ub.bare) true made.asked) (made_kept room))
    row_kept room false (Some Subscribed) =
        let seen = with_pair (pair_of ub.bare ua.bare) true k.sees in
        let asks = with_pair (pair_of ub.bare ua.bare) false k.asked in
        subst (AreKept domain) (sym (noted_subscribed ua ub mine o k ∙ made_beside seen asks))
        (pairs_kept (noted_all (change.made ua ub mine o) k) seen asks (made_kept room))
    row_kept room false (Some Unsubscribe) = kept_by_unsubscribe (AreKept domain) ends_kept ua ub o k are
    row_kept room false (Some Unsubscribed) = kept_by_unsubscribed (AreKept domain) ends_kept ua ub o k are

    unless_full_kept : (effects : List Effect) → change.unless_full ua ub mine o ≡ Some effects → AreKept domain (noted_all effects k)
    unless_full_kept effects comes = by (change.is_made mine o && not (fits with_new)) refl comes
      where
        by : (b : Bool) → (change.is_made mine o && not (fits with_new)) ≡ b
            → (if b then None else Some (change.effects_of ua ub mine o)) ≡ Some effects → AreKept domain (noted_all effects k)
        by true full comes = absurd (cc)
        by false room comes =
            subst (λ es. AreKept domain (noted_all es k)) (ap (λ (es : Option (List Effect)). unwrap_or es []) comes) (row_kept room o.back o.deliver)

  pub subscription_kept : (a : List ℕ) (ua ub : User) (k : Book) (form : PresenceForm) (effects : List Effect)
      → ua.bare ≡ bare_of domain a → ua.contacts ≡ contacts_of domain k a → change.subscription ua ub form ≡ Some effects
      → AreKept domain k → AreKept domain (noted_all effects k)
  subscription_kept a ua ub k form effects bare contacts comes are = by (same_bare ua.bare ub.bare) comes
    where
      by : (b : Bool) → (if b then Some [] else change.unless_full ua ub (users.side_of ua ub) (outbound (users.side_of ua ub) (users.side_of ub ua) form))
          ≡ Some effects
          → AreKept domain (noted_all effects k)
      by true comes = subst (λ es. AreKept domain (noted_all es k)) (ap (λ (es : Option (List Effect)). unwrap_or es []) comes) are
      by false comes =
          unless_full_kept a ua ub k bare contacts are (outbound (users.side_of ua ub) (users.side_of ub ua) form) effects comes

  -- A removal.

  pub removal_kept : (ua ub : User) (k : Book) → AreKept domain k → AreKept domain (noted_all (change.removal ua ub) k)
  removal_kept = kept_by_removal (AreKept domain) ends_kept

  pub removed_kept : (own : List ℕ) (ua ub : User) (k : Book) (who : Here) (sessions : List Here) (st : Stanza)
      → AreKept domain k
      → AreKept domain (noted_all (change.removal ua ub ++ roster_set (bare_of domain own) (contacts_of domain k own) who sessions st) k)
  removed_kept own ua ub k who sessions st are =
      let owner = bare_of domain own in
      let contacts = contacts_of domain k own in
      let set = roster_set owner contacts who sessions st in
      subst (AreKept domain) (sym (either_order ua ub owner contacts who sessions st k ∙ noted_then set (change.removal ua ub) k))
      (removal_kept ua ub (noted_all set k) (set_kept own k who sessions st are))
