-- Who has to be listed stays listed as the effects of the tables are noted, and what a removal leaves.
use Rattle.std.proofs.Common.{◌≡◌, ℕ, List, [], ◌∷◌, ◌++◌, Bool, true, false, not, ◌&&◌, ◌||◌, bytes_eq, Option, Some}
use Rattle.std.proofs.Common.{None, is_some, unwrap_or, refl, sym, ap, subst, ◌∙◌, if◌then◌else◌}
use Rattle.std.proofs.lemmas.Bool.{true≢false}
use Rattle.std.specs.Option.{option_and_then}
use Rattle.jid_core.specs.Addresses.{Address, same_bare}
use Rattle.stanza_model.specs.Replies.{refused}
use Rattle.stanza_model.specs.Subscriptions.{answered, approved, cancelled, outbound, requested, unchanged, withdrawn}
use Rattle.stanza_model.specs.declared.condition.Condition.{Condition}
use Rattle.stanza_model.specs.declared.condition.Condition.TheVariants.{BadRequest}
use Rattle.stanza_model.specs.declared.effect.Change.TheVariants.{Contact}
use Rattle.stanza_model.specs.declared.effect.Effect.{Effect}
use Rattle.stanza_model.specs.declared.effect.Effect.TheVariants.{Set}
use Rattle.stanza_model.specs.declared.here.Here.{Here}
use Rattle.stanza_model.specs.declared.kinds.PresenceForm.{PresenceForm}
use Rattle.stanza_model.specs.declared.kinds.PresenceForm.TheVariants.{Available, Unavailable, Subscribe, Subscribed, Unsubscribe, Unsubscribed, Probe, Error}
use Rattle.stanza_model.specs.declared.shared.Contact as roster
use Rattle.stanza_model.specs.declared.shared.Side.{Side}
use Rattle.stanza_model.specs.declared.stanza.Stanza.{Stanza}
use Rattle.contact_table.specs.Books.{Book, Pair, Record, bare_of, has_pair, noted, pair_of, with_pair}
use Rattle.contact_table.proofs.ByteLemmas.{bytes_same}
use Rattle.contact_table.proofs.PairLemmas.{pair}
use Rattle.roster_book.specs.Items.{wanted_in}
use Rattle.roster_book.specs.Refusals.{refusal}
use Rattle.roster_book.specs.Requests.{change_of, done, removed_by, removed_in, roster_set, set_wanted, unless}
use Rattle.roster_book.specs.declared.item.Wanted.{Wanted}
use Rattle.subscription_pairs.specs.Changes as change
use Rattle.subscription_pairs.specs.Limits.{fits}
use Rattle.subscription_pairs.specs.Users as users
use Rattle.subscription_pairs.specs.Users.{User, side_of}
use Rattle.roster_laws.specs.Keeping.{noted_all}
use Rattle.roster_laws.specs.Telling.{AreListed, AreStrangers, IsUser, RemovesStrangers, lists, kept_side}
use Rattle.roster_laws.proofs.EffectLemmas.{IsQuiet, kept_by_removal, kept_by_unsubscribe, kept_by_unsubscribed, noted_done}
use Rattle.roster_laws.proofs.EffectLemmas.{noted_subscribe, noted_subscribed, noted_then, quiet_delivered, quiet_refused}
use Rattle.roster_laws.proofs.ListLemmas.{Lists, asked_listed, contact_listed, lists_new, lists_with, no_contact_listed, sees_listed}
use Rattle.roster_laws.proofs.TellLemmas.{sides_told}

never : {P : Type 0} → false ≡ true → P
never e = absurd (true≢false (sym e))

module _ (domain : List ℕ) where
  pub none_listed : AreListed domain (record { records = []; sees = []; asked = [] })
  none_listed = record { sees = λ a b is. never is; asked = λ a b is. never is }

  ends_listed : (k : Book) (p : Pair) → AreListed domain k → AreListed domain (record k { sees = with_pair p false k.sees; asked = with_pair p false k.asked })
  ends_listed k p are =
      asked_listed domain (record k { sees = with_pair p false k.sees }) p.a p.b false (λ on. never on)
      (sees_listed domain k p.a p.b false (λ on. never on) are)

  quiet_listed : (xs : List Effect) → IsQuiet xs → (k : Book) → AreListed domain k → AreListed domain (noted_all xs k)
  quiet_listed xs quiet k are = subst (AreListed domain) (sym (quiet k)) are

  pub removal_listed : (ua ub : User) (k : Book) → AreListed domain k → AreListed domain (noted_all (change.removal ua ub) k)
  removal_listed = kept_by_removal (AreListed domain) ends_listed

  -- A subscription's stanza.

  -- a request is approved
  approved_listed : (k : Book) (a b : List ℕ) → Lists domain k a b → Lists domain k b a → AreListed domain k
      → AreListed domain (record k { sees = with_pair (pair b a) true k.sees; asked = with_pair (pair b a) false k.asked })
  approved_listed k a b mine theirs are =
      asked_listed domain (record k { sees = with_pair (pair b a) true k.sees }) b a false (λ on. never on)
      (sees_listed domain k b a true (λ on. (theirs, mine)) are)

  module _ (a b : List ℕ) (ua ub : User) (k : Book) (ma : IsUser domain k a ua) (mb : IsUser domain k b ub) (are : AreListed domain k) where
    abbrev m : Side
    m = side_of ua ub

    abbrev t : Side
    t = side_of ub ua

    tells : m ≡ kept_side domain k a b
    tells = sides_told domain k a b ua ub ma mb are

    pair_is : pair_of ua.bare ub.bare ≡ pair a b
    pair_is = ap (λ x. pair_of x ub.bare) ma.bare ∙ ap (pair_of (bare_of domain a)) mb.bare

    back_is : pair_of ub.bare ua.bare ≡ pair b a
    back_is = ap (λ x. pair_of x ua.bare) mb.bare ∙ ap (pair_of (bare_of domain b)) ma.bare

    -- the contact, where it isn't there yet
    abbrev new : Record
    new = record { user = users.user_of ua.bare; address = ub.bare; name = []; groups = [] }

    abbrev made : Bool → List Effect
    made listed = if not listed then Set (Contact (users.user_of ua.bare) ub.bare [] []) ∷ [] else []

    made_listed : (listed : Bool) → AreListed domain (noted_all (made listed) k)
    made_listed true = are
    made_listed false = contact_listed domain k new are

    made_lists : (listed : Bool) → listed ≡ lists domain k a b → Lists domain (noted_all (made listed) k) a b
    made_lists true is = sym is
    made_lists false is =
        lists_new domain k new a b (ap (λ (x : Address). bytes_eq (users.user_of x) a) ma.bare ∙ bytes_same a) mb.bare

    made_leaves : (listed : Bool) → Lists domain k b a → Lists domain (noted_all (made listed) k) b a
    made_leaves true there = there
    made_leaves false there = lists_with domain k new b a there

    made_beside : (listed : Bool) (seen asks : List Pair)
        → noted_all (made listed) (record k { sees = seen; asked = asks }) ≡ record (noted_all (made listed) k) { sees = seen; asked = asks }
    made_beside true seen asks = refl
    made_beside false seen asks = refl

    listed_is : m.listed ≡ lists domain k a b
    listed_is = ap (λ (s : Side). s.listed) tells

    effects_listed : (form : PresenceForm) → AreListed domain (noted_all (change.effects_of ua ub m (outbound m t form)) k)
    effects_listed Available = are
    effects_listed Unavailable = are
    effects_listed Probe = are
    effects_listed Error = are
    effects_listed Subscribe = by m.sees
      where
        by : (s : Bool) → AreListed domain (noted_all (change.effects_of ua ub m (if s then answered m t else requested m t)) k)
        by true = quiet_listed (change.row_back ua ub Subscribed) (quiet_delivered Subscribed ub.bare ua.sessions) k are
        by false =
            let k1 = noted_all (made m.listed) k in
            subst (AreListed domain)
            (sym (noted_subscribe ua ub m (requested m t) k ∙ noted_then (made m.listed) (change.asked ua.bare ub.bare true ∷ []) k))
            (subst (λ p. AreListed domain (record k1 { asked = with_pair p true k1.asked })) (sym pair_is)
            (asked_listed domain k1 a b true (λ on. made_lists m.listed listed_is) (made_listed m.listed)))
    effects_listed Subscribed = by m.asked_by refl
      where
        by : (s : Bool) → m.asked_by ≡ s → AreListed domain (noted_all (change.effects_of ua ub m (if s then approved m t else unchanged m t)) k)
        by false is = are
        by true is =
            let k1 = noted_all (made m.listed) k in
            let asked : has_pair b a k.asked ≡ true = sym (ap (λ (s : Side). s.asked_by) tells) ∙ is in
            let p = pair_of ub.bare ua.bare in
            subst (AreListed domain)
            (sym (noted_subscribed ua ub m (approved m t) k ∙ made_beside m.listed (with_pair p true k.sees) (with_pair p false k.asked)))
            (subst (λ p. AreListed domain (record k1 { sees = with_pair p true k.sees; asked = with_pair p false k.asked })) (sym back_is)
            (pairs m.listed (approved_listed k1 a b (made_lists m.listed listed_is) (made_leaves m.listed (are.asked b a asked)) (made_listed m.listed))))
          where
            pairs : (listed : Bool)
                → AreListed domain (record (noted_all (made listed) k)
                { sees = with_pair (pair b a) true (noted_all (made listed) k).sees; asked = with_pair (pair b a) false (noted_all (made listed) k).asked })
                → AreListed domain (record (noted_all (made listed) k) { sees = with_pair (pair b a) true k.sees; asked = with_pair (pair b a) false k.asked })
            pairs true is = is
            pairs false is = is
    effects_listed Unsubscribe = by (m.sees || m.asked)
      where
        by : (s : Bool) → AreListed domain (noted_all (change.effects_of ua ub m (if s then withdrawn m t else unchanged m t)) k)
        by true = kept_by_unsubscribe (AreListed domain) ends_listed ua ub (withdrawn m t) k are
        by false = are
    effects_listed Unsubscribed = by (m.seen || m.asked_by)
      where
        by : (s : Bool) → AreListed domain (noted_all (change.effects_of ua ub m (if s then cancelled m t else unchanged m t)) k)
        by true = kept_by_unsubscribed (AreListed domain) ends_listed ua ub (cancelled m t) k are
        by false = are

    pub subscription_listed : (form : PresenceForm) (effects : List Effect) → change.subscription ua ub form ≡ Some effects
        → AreListed domain (noted_all effects k)
    subscription_listed form effects comes =
        by (same_bare ua.bare ub.bare)
        (change.is_made m (outbound m t form) && not (fits (ua.contacts ++ users.new_contact ub.bare (outbound m t form).mine ∷ []))) comes
      where
        by : (s f : Bool) → (if s then Some [] else if f then None else Some (change.effects_of ua ub m (outbound m t form))) ≡ Some effects
            → AreListed domain (noted_all effects k)
        by true f comes = subst (λ es. AreListed domain (noted_all es k)) (ap (λ (es : Option (List Effect)). unwrap_or es []) comes) are
        by false true comes = absurd (cc)
        by false false comes =
            subst (λ es. AreListed domain (noted_all es k)) (ap (λ (es : Option (List Effect)). unwrap_or es []) comes) (effects_listed form)

  -- A roster set.

  pub set_listed : (own : List ℕ) (contacts : List roster.Contact) (k : Book) (who : Here) (sessions : List Here) (st : Stanza)
      → RemovesStrangers domain k own contacts st
      → AreListed domain k → AreListed domain (noted_all (roster_set (bare_of domain own) contacts who sessions st) k)
  set_listed own contacts k who sessions st strangers are = by (wanted_in owner st) refl
    where
      owner : Address
      owner = bare_of domain own

      changed : (remove : Bool) (x : roster.Contact) → (remove ≡ true → (b : List ℕ) → x.address ≡ bare_of domain b → AreStrangers k own b)
          → AreListed domain (noted (change_of remove own x) k)
      changed false x apart = contact_listed domain k (record { user = own; address = x.address; name = x.name; groups = x.groups }) are
      changed true x apart = no_contact_listed domain k own x.address (apart refl) are

      -- a set that isn't refused, by which the contact goes
      goes : (w : Wanted) → wanted_in owner st ≡ Some w → refusal contacts w ≡ None → w.remove ≡ true → removed_by owner contacts st ≡ Some w.contact.address
      goes w wants is remove =
          ap (option_and_then (removed_in contacts)) wants
          ∙ ap (λ b. if b && not (is_some (refusal contacts w)) then Some w.contact.address else None) remove
          ∙ ap (λ (r : Option Condition). if not (is_some r) then Some w.contact.address else None) is

      by_refusal : (w : Wanted) (r : Option Condition) → wanted_in owner st ≡ Some w → refusal contacts w ≡ r
          → AreListed domain (noted_all (unless r who st (done owner contacts who sessions st w)) k)
      by_refusal w (Some condition) wants is = quiet_listed (refused who st condition) (quiet_refused who st condition) k are
      by_refusal w None wants is =
          subst (AreListed domain) (sym (noted_done owner contacts who sessions st w k))
          (changed w.remove w.contact (λ remove b at. strangers b (goes w wants is remove ∙ ap Some at)))

      by : (o : Option Wanted) → wanted_in owner st ≡ o → AreListed domain (noted_all (set_wanted owner contacts who sessions st o) k)
      by None is = quiet_listed (refused who st BadRequest) (quiet_refused who st BadRequest) k are
      by (Some w) is = by_refusal w (refusal contacts w) is refl
