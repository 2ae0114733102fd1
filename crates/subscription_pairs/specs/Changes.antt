-- What comes of a subscription's stanza, as effects: first what changes, then what is pushed, delivered and shown (RFC 6121, 3).
use Rattle.std.specs.Prelude.{◌+◌, List, [], ◌∷◌, ◌++◌, map, Bool, true, false, not, ◌&&◌, if◌then◌else◌, Option, Some, None}
use Rattle.jid_core.specs.Addresses.{Address, same_bare}
use Rattle.stanza_model.specs.Rosters.{item, pushes}
use Rattle.stanza_model.specs.Subscriptions.{outbound}
use Rattle.stanza_model.specs.declared.effect.Change.TheVariants as change
use Rattle.stanza_model.specs.declared.effect.Effect.{Effect}
use Rattle.stanza_model.specs.declared.effect.Effect.TheVariants.{Set}
use Rattle.stanza_model.specs.declared.here.Here.{Here}
use Rattle.stanza_model.specs.declared.kinds.PresenceForm.{PresenceForm}
use Rattle.stanza_model.specs.declared.kinds.PresenceForm.TheVariants.{Subscribe, Subscribed, Unsubscribe, Unsubscribed}
use Rattle.stanza_model.specs.declared.shared.Outcome.{Outcome}
use Rattle.stanza_model.specs.declared.shared.Side.{Side}
use Rattle.subscription_pairs.specs.Deliveries.{delivered, shown}
use Rattle.subscription_pairs.specs.Limits.{fits}
use Rattle.subscription_pairs.specs.Users.{User, contact_by, contact_of, new_contact, side_of, user_of}

abbrev pub sees : Address → Address → Bool → Effect
sees a b is = Set (change.Sees a b is)

abbrev pub asked : Address → Address → Bool → Effect
asked a b is = Set (change.Asked a b is)

abbrev pub is_made : Side → Outcome → Bool
is_made mine o = o.mine.listed && not mine.listed

-- RFC 6121, 2.1.2: the contact, where it is not there yet, without a name and groups
abbrev pub made : User → User → Side → Outcome → List Effect
made a b mine o = if is_made mine o then Set (change.Contact (user_of a.bare) b.bare [] []) ∷ [] else []

-- RFC 6121, 2.1.6: the sessions are told of the contact as it is now
abbrev pub pushed : User → Address → Side → List Effect
pushed a address side = pushes a.sessions (item (contact_by address side (contact_of a.contacts address)))

abbrev pub pushed_mine : User → User → Outcome → List Effect
pushed_mine a b o = if o.push_mine then pushed a b.bare o.mine else []

abbrev pub pushed_theirs : User → User → Outcome → List Effect
pushed_theirs a b o = if o.push_theirs then pushed b a.bare o.theirs else []

-- RFC 6121, 3.1.3: on behalf of the other
abbrev pub row_back : User → User → PresenceForm → List Effect
row_back a b form = delivered form b.bare a.sessions

-- RFC 6121, 3.1.2
abbrev pub row_subscribe : User → User → Side → Outcome → List Effect
row_subscribe a b mine o =
    made a b mine o ++ asked a.bare b.bare true ∷ []
    ++ pushed_mine a b o
    ++ delivered Subscribe a.bare b.sessions

-- RFC 6121, 3.1.5
abbrev pub row_subscribed : User → User → Side → Outcome → List Effect
row_subscribed a b mine o =
    asked b.bare a.bare false ∷ sees b.bare a.bare true ∷ made a b mine o
    ++ delivered Subscribed a.bare b.sessions
    ++ pushed_theirs a b o
    ++ pushed_mine a b o
    ++ shown o.show a b

-- RFC 6121, 3.3.2
abbrev pub row_unsubscribe : User → User → Outcome → List Effect
row_unsubscribe a b o =
    sees a.bare b.bare false ∷ asked a.bare b.bare false ∷ []
    ++ delivered Unsubscribe a.bare b.sessions
    ++ pushed_mine a b o
    ++ pushed_theirs a b o
    ++ shown o.show a b

-- RFC 6121, 3.2.2
abbrev pub row_unsubscribed : User → User → Outcome → List Effect
row_unsubscribed a b o =
    sees b.bare a.bare false ∷ asked b.bare a.bare false ∷ []
    ++ delivered Unsubscribed a.bare b.sessions
    ++ pushed_theirs a b o
    ++ pushed_mine a b o
    ++ shown o.show a b

-- the row, by what is delivered; `mine` is what a was to b before
abbrev pub row : User → User → Side → Outcome → Bool → Option PresenceForm → List Effect
row a b mine o true (Some form) = row_back a b form
row a b mine o false (Some Subscribe) = row_subscribe a b mine o
row a b mine o false (Some Subscribed) = row_subscribed a b mine o
row a b mine o false (Some Unsubscribe) = row_unsubscribe a b o
row a b mine o false (Some Unsubscribed) = row_unsubscribed a b o
row a b mine o back form = []

abbrev pub effects_of : User → User → Side → Outcome → List Effect
effects_of a b mine o = row a b mine o o.back o.deliver

-- None where a contact would be made that its roster has no room for
abbrev pub unless_full : User → User → Side → Outcome → Option (List Effect)
unless_full a b mine o =
    if is_made mine o && not (fits (a.contacts ++ new_contact b.bare o.mine ∷ [])) then None else Some (effects_of a b mine o)

-- a sends it to b. RFC 6121, 4.2.2: a user sees its own presence without a subscription
abbrev pub subscription : User → User → PresenceForm → Option (List Effect)
subscription a b form =
    if same_bare a.bare b.bare then Some []
    else unless_full a b (side_of a b) (outbound (side_of a b) (side_of b a) form)

-- A contact is removed.

-- a session that was told is told by its next push from then on
abbrev pub told : Here → Here
told h = if h.wants_roster then record h { pushes = h.pushes + 1 } else h

-- b after what came of the first stanza
abbrev pub after_pushes : Outcome → User → User
after_pushes o b = if o.push_theirs then record b { sessions = map told b.sessions } else b

-- RFC 6121, 2.5.2: a's own sessions are told of the removal alone
abbrev pub untold : Outcome → Outcome
untold o = record o { push_mine = false }

-- what comes of `unsubscribed` where `first` came of `unsubscribe`
abbrev pub then_cancelled : User → User → Outcome → List Effect
then_cancelled a b first =
    effects_of a (after_pushes first b) first.mine (untold (outbound first.mine first.theirs Unsubscribed))

abbrev pub both_ended : User → User → Side → Outcome → List Effect
both_ended a b mine first = effects_of a b mine (untold first) ++ then_cancelled a b first

-- RFC 6121, 2.5.2: the owner unsubscribes from the contact, and cancels the contact's subscription
abbrev pub removal : User → User → List Effect
removal a b =
    if same_bare a.bare b.bare then []
    else both_ended a b (side_of a b) (outbound (side_of a b) (side_of b a) Unsubscribe)
