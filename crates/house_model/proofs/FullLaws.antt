-- Messages to full addresses, and all that is promised of who gets which entry.
use Rattle.std.proofs.Common.{◌≡◌, ℕ, ◌<◌, ◌≤◌, List, [], ◌∷◌, Option, Some, None, Bool, true, false, not, ◌&&◌, ◌||◌, bytes_eq}
use Rattle.std.proofs.Common.{refl, sym, ap, ◌∙◌, subst, true≢false, if◌then◌else◌}
use Rattle.std.specs.List.{filter}
use Rattle.std.proofs.lemmas.Bool.{and_from, eq-eqb}
use Rattle.jid_core.specs.Addresses.{Address, same_part}
use Rattle.stanza_tree.specs.declared.node.Element.{Element}
use Rattle.stanza_model.specs.declared.here.Here.{Here}
use Rattle.stanza_model.specs.declared.kinds.MessageForm.{MessageForm}
use Rattle.stanza_model.specs.declared.kinds.MessageForm.TheVariants.{Chat}
use Rattle.stanza_model.specs.declared.stanza.Stanza.TheVariants.{Message}
use Rattle.stanza_router.specs.Messages.{else_of_user, is_reached, route_of, to_user}
use Rattle.stanza_router.specs.declared.places.Place.{Place}
use Rattle.stanza_router.specs.declared.places.Place.TheVariants.{UserAt}
use Rattle.contact_table.proofs.ByteLemmas.{bytes_equal}
use Rattle.house_model.specs.Sessions.{Hold, Held, Away, Ended, Gone, Rest}
use Rattle.house_model.specs.Traffic.{Traffic}
use Rattle.house_model.specs.States.{State, keep_by, keep_world}
use Rattle.house_model.specs.Lookups.{goes_on, here, if_it_goes_on, is_at, is_there_by, live_at, session_in, sessions_of}
use Rattle.house_model.specs.Routing.{user_in, receivers, has_account}
use Rattle.house_model.specs.Histories.{Turn, after, IsOpening}
use Rattle.house_model.specs.Stays.{takes, takes_entries}
use Rattle.house_model.specs.Deliveries.{Sends, GetsBy, seen_as, place_for, is_among, full_address, message_of, passes, address_at, Deliveries}
use Rattle.house_model.proofs.AddressLaws.{AreApart, there, address_finds, apart_after, at_there}
use Rattle.house_model.proofs.DeliveryLaws.{queues, done, seen_is, delivered, undelivered, found, to_bare, answered, unserved, foreign}
use Rattle.house_model.proofs.DeliveryLaws.{taking_made, taking_of, full_place, found_at, IsRouted}
use Rattle.house_model.proofs.FoundOnce.{filter_both, filter_never, passing_among}
use Rattle.house_model.proofs.HousedTurns.{Known}
use Rattle.house_model.proofs.Partings.{least_passes}
use Rattle.house_model.proofs.StayVerdicts.{known_after}
use Rattle.house_model.proofs.UserLaws.{IsUsers, AreUsers, users_after}

-- one that is there and goes on takes entries
going : (b : Bool) (m : Hold) (t : Traffic) (r : Rest) → is_there_by m b ≡ true → goes_on (keep_by b m t r).hold ≡ true → takes b m ≡ true
going b (Held w c) t r is goes = refl
going true Away t r is goes = refl
going false Away t r is goes = is
going b (Ended cause) t r is goes = absurd (true≢false (sym goes))
going b Gone t r is goes = absurd (true≢false (sym is))

module _ (st : State) (known : Known st.world) (apart : AreApart st.world) (users : AreUsers st.head.domain.domain st.world) where
  -- To the session of an address: it is found, and the message is delivered.

  live_found_at : (own user resource : List ℕ) (to : Address) (form : MessageForm) (p : Place) (r : ℕ) → p ≡ UserAt user resource
      → live_at (keep_world st.world) to ≡ Some r → found_at st known own (Some to) form p ≡ here (keep_world st.world) r ∷ []
  live_found_at own user resource to form p r place live =
      ap (found_at st known own (Some to) form) place
      ∙ ap (λ (o : Option ℕ). receivers (keep_world st.world) form (UserAt user resource) (Some user) o) live

  live_routed : (own user resource : List ℕ) (to : Address) (form : MessageForm) (p : Place) (r : ℕ) → p ≡ UserAt user resource
      → live_at (keep_world st.world) to ≡ Some r → IsRouted st known Chat own (Some to) form p
  live_routed own user resource to form p r place live =
      ap (λ (hs : List Here). route_of p (has_account st.head.users (user_in own p) hs) form hs) (live_found_at own user resource to form p r place live)
      ∙ ap (λ (q : Place). route_of q true form (here (keep_world st.world) r ∷ [])) place

  to_session : (w s t r : ℕ) (own : List ℕ) (to : Address) (form : MessageForm) (e : Element)
      → Sends st w s own → passes st s (Some to) form e ≡ false → takes_entries (st.world.sessions r) ≡ true → address_at st r ≡ to
      → GetsBy st w (Message (Some to) form e) t r (message_of st s (Some to) form e ∷ [])
  to_session w s t r own to form e sent fits is at =
      found st known w s t r own (Some to) form e sent (live_routed own user resource to form (place_for st own (Some to)) r place live) fits is
      (ap (is_among r) (live_found_at own user resource to form (place_for st own (Some to)) r place live)
      ∙ ap (λ (b : Bool). b || false) (eq-eqb r r refl))
    where
      mine : IsUsers st.head.domain.domain (address_at st r)
      mine = users r is

      user : List ℕ
      user = mine.0

      resource : List ℕ
      resource = mine.1

      place : place_for st own (Some to) ≡ UserAt user resource
      place = ap (λ (a : Address). place_for st own (Some a)) (sym at ∙ mine.2) ∙ full_place own st.head.domain.domain user resource

      live : live_at (keep_world st.world) to ≡ Some r
      live = address_finds st.world known.sound known.zero r to apart is at

  -- To an address that no session has: a chat message goes to the user's sessions.

  if_going : (b : Bool) (q : ℕ) → (b ≡ true → ⊥) → (if b then Some q else None) ≡ None
  if_going true q never = absurd (never refl)
  if_going false q never = refl

  none_live : (to : Address) → ((q : ℕ) → takes_entries (st.world.sessions q) ≡ true → address_at st q ≡ to → ⊥) → live_at (keep_world st.world) to ≡ None
  none_live to none = by (session_in (keep_world st.world) to) refl where
    by : (o : Option ℕ) → session_in (keep_world st.world) to ≡ o → if_it_goes_on (keep_world st.world) o ≡ None
    by None at = refl
    by (Some q) at =
        let first : (there (st.world.sessions q) ≡ true) × (address_at st q ≡ to) =
        at_there st.world known.sound known.zero q to (least_passes st.world.made (λ n. is_at to ((keep_world st.world).sessions n)) q at) in
        if_going (goes_on ((keep_world st.world).sessions q).hold) q
        (λ goes. none q
        (going (st.world.sessions q).counts (st.world.sessions q).hold (st.world.sessions q).traffic (st.world.sessions q).rest first.0 goes) first.1)

  abbrev has : (resource : List ℕ) → Here → Bool
  has resource h = same_part h.address.resource (Some resource)

  else_found : (own user resource : List ℕ) (to : Address) (p : Place) → p ≡ UserAt user resource → live_at (keep_world st.world) to ≡ None
      → found_at st known own (Some to) Chat p ≡ filter (λ h. not (has resource h) && is_reached h) (sessions_of (keep_world st.world) user)
  else_found own user resource to p place live =
      let hs : List Here = filter (λ h. not (has resource h)) (sessions_of (keep_world st.world) user) in
      ap (found_at st known own (Some to) Chat) place
      ∙ (ap (λ (o : Option ℕ). receivers (keep_world st.world) Chat (UserAt user resource) (Some user) o) live
      ∙ (ap (else_of_user Chat hs) (filter_never (has resource) (sessions_of (keep_world st.world) user))
      ∙ filter_both is_reached (λ h. not (has resource h)) (sessions_of (keep_world st.world) user)))

  full_routed : (user resource : List ℕ) (form : MessageForm) (r : ℕ) (hs : List Here) → is_among r hs ≡ true
      → route_of (UserAt user resource) (has_account st.head.users (Some user) hs) form hs ≡ to_user Chat
  full_routed user resource form r [] among = absurd (true≢false (sym among))
  full_routed user resource form r (h ∷ hs) among = refl

  else_routed : (own user resource : List ℕ) (to : Option Address) (form : MessageForm) (p : Place) (r : ℕ) → p ≡ UserAt user resource
      → is_among r (found_at st known own to form p) ≡ true → IsRouted st known Chat own to form p
  else_routed own user resource to form p r place among =
      subst (λ (q : Place). is_among r (found_at st known own to form q) ≡ true → IsRouted st known Chat own to form q) (sym place)
      (full_routed user resource form r (found_at st known own to form (UserAt user resource))) among

  not_by : (b : Bool) → (b ≡ true → ⊥) → not b ≡ true
  not_by true never = absurd (never refl)
  not_by false never = refl

  -- a session of the user that takes entries has another resource
  other_resource : (r : ℕ) (user resource : List ℕ) → takes_entries (st.world.sessions r) ≡ true → (address_at st r).local ≡ Some user
      → (address_at st r ≡ full_address st user resource → ⊥) → not (has resource (seen_as st r)) ≡ true
  other_resource r user resource is his other = not_by (has resource (seen_as st r)) (λ same. other (at same)) where
    mine : IsUsers st.head.domain.domain (address_at st r)
    mine = users r is

    user_is : mine.0 ≡ user
    user_is = (let one : Some mine.0 ≡ Some user = ap (λ (a : Address). a.local) (sym mine.2) ∙ his in cc)

    seen : (seen_as st r).address ≡ full_address st mine.0 mine.1
    seen = seen_is st known r is ∙ mine.2

    at : has resource (seen_as st r) ≡ true → address_at st r ≡ full_address st user resource
    at same =
        let one : bytes_eq mine.1 resource ≡ true = ap (λ (a : Address). same_part a.resource (Some resource)) (sym seen) ∙ same in
        mine.2
        ∙ (ap (λ (u : List ℕ). full_address st u mine.1) user_is ∙ ap (full_address st user) (bytes_equal mine.1 resource one))

  to_user_at : (w s t r : ℕ) (own user resource : List ℕ) (e : Element) → Sends st w s own
      → ((q : ℕ) → takes_entries (st.world.sessions q) ≡ true → address_at st q ≡ full_address st user resource → ⊥)
      → passes st s (Some (full_address st user resource)) Chat e ≡ false
      → takes_entries (st.world.sessions r) ≡ true → (address_at st r).local ≡ Some user → is_reached (seen_as st r) ≡ true
      → GetsBy st w (Message (Some (full_address st user resource)) Chat e) t r (message_of st s (Some (full_address st user resource)) Chat e ∷ [])
  to_user_at w s t r own user resource e sent none fits is his reached =
      found st known w s t r own (Some to) Chat e sent (else_routed own user resource (Some to) Chat (place_for st own (Some to)) r place among)
      fits is among
    where
      to : Address
      to = full_address st user resource

      place : place_for st own (Some to) ≡ UserAt user resource
      place = full_place own st.head.domain.domain user resource

      made : (0 < r) × (r ≤ st.world.made)
      made = taking_made st known r is

      among : is_among r (found_at st known own (Some to) Chat (place_for st own (Some to))) ≡ true
      among =
          ap (is_among r) (else_found own user resource to (place_for st own (Some to)) place (none_live to none))
          ∙ passing_among (keep_world st.world) r user (λ h. not (has resource h) && is_reached h) (taking_of st known r user is his)
          (and_from (not (has resource (seen_as st r))) (is_reached (seen_as st r)) (other_resource r user resource is his (none r is)) reached)
          made.0 made.1

  pub deliveries_are : Deliveries st
  deliveries_are = record {
    users = users;
    done = done st known;
    queues = queues st known;
    delivered = delivered st known;
    undelivered = undelivered st known;
    to_session = to_session;
    to_bare = to_bare st known;
    to_user_at = to_user_at;
    answered = answered st known;
    unserved = unserved st known;
    foreign = foreign st known;
  }

pub deliveries : (o : State) (h : List Turn) → IsOpening o → Deliveries (after o h)
deliveries o h starts = deliveries_are (after o h) (known_after o h starts) (apart_after o h starts) (users_after o h starts)
