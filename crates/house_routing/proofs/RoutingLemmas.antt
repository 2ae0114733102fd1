-- What goes to a session is given to it, whatever the type of the message; and what doesn't go to a room goes to users.
use Rattle.std.proofs.Common.{◌≡◌, ◌⊎◌, inl, inr, ℕ, List, [], ◌∷◌, Option, Some, refl, sym, ap, ◌∙◌}
use Rattle.jid_core.specs.Addresses.{Address}
use Rattle.stanza_tree.specs.declared.node.Element.{Element}
use Rattle.stanza_model.specs.Stanzas.{to_in}
use Rattle.stanza_model.specs.declared.here.Here.{Here}
use Rattle.stanza_model.specs.declared.keeping.Keeping.{Keeping}
use Rattle.stanza_model.specs.declared.kinds.MessageForm.{MessageForm}
use Rattle.stanza_model.specs.declared.kinds.PresenceForm.{PresenceForm}
use Rattle.stanza_model.specs.declared.kinds.PresenceForm.TheVariants.{Available, Unavailable}
use Rattle.stanza_model.specs.declared.stanza.Stanza.{Stanza}
use Rattle.stanza_model.specs.declared.stanza.Stanza.TheVariants.{Message, Presence, Iq, Faulty}
use Rattle.stanza_router.specs.Messages.{given_to}
use Rattle.stanza_router.specs.declared.places.Place.{Place}
use Rattle.stanza_router.specs.declared.places.Place.TheVariants.{Account, Server, User, UserAt, Service, Room, RoomAt, Foreign}
use Rattle.house_model.specs.ArchiveLookups.{keeping_for}
use Rattle.house_model.specs.Presences.{named}
use Rattle.house_model.specs.Routing as routing
use Rattle.house_model.specs.Routing.{Scene, delivered, directed_to, live_for, receivers, to_user, to_users, user_in}
use Rattle.house_model.specs.States.{World}
use Rattle.house_model.specs.Traffic.{KeptTraffic}

by_session : (users : List (List ℕ)) (world : World KeptTraffic) (who : Here) (st : Stanza) (form : MessageForm) (user resource : List ℕ)
    (user' : Option (List ℕ)) (s : ℕ) (k : Keeping)
    → given_to who st s k ≡ delivered users who st (UserAt user resource) user' k (receivers world form (UserAt user resource) user' (Some s))
by_session users world who (Message to form' e) form user resource user' s k = refl
by_session users world who (Presence to form' e) form user resource user' s k = refl
by_session users world who (Iq to id form' e) form user resource user' s k = refl
by_session users world who (Faulty kind to id answered condition) form user resource user' s k = refl

pub live_given : (o : Scene) (who : Here) (st : Stanza) (form : MessageForm) (place : Place) (user' : Option (List ℕ)) (s : ℕ)
    → Some s ≡ live_for o.world place (to_in st)
    → given_to who st s (keeping_for o.world.archives who (to_in st) o.moment) ≡ to_users o who st form place user'
live_given o who st form (UserAt user resource) user' s is =
    by_session o.users o.world who st form user resource user' s (keeping_for o.world.archives who (to_in st) o.moment)
    ∙ ap (λ (x : Option ℕ). delivered o.users who st (UserAt user resource) user' (keeping_for o.world.archives who (to_in st) o.moment)
    (receivers o.world form (UserAt user resource) user' x)) is
live_given o who st form Account user' s is = absurd (cc)
live_given o who st form Server user' s is = absurd (cc)
live_given o who st form (User user) user' s is = absurd (cc)
live_given o who st form Service user' s is = absurd (cc)
live_given o who st form (Room room) user' s is = absurd (cc)
live_given o who st form (RoomAt room nick) user' s is = absurd (cc)
live_given o who st form Foreign user' s is = absurd (cc)

pub not_to_a_room : (o : Scene) (own : List ℕ) (who : Here) (st : Stanza) (form : MessageForm) (e : Element) (place : Place)
    → ((room : List ℕ) → place ≡ Room room → ⊥) → ((room nick : List ℕ) → place ≡ RoomAt room nick → ⊥)
    → to_users o who st form place (user_in own place) ≡ routing.message o own who st form e place
not_to_a_room o own who st form e Account room seat = refl
not_to_a_room o own who st form e Server room seat = refl
not_to_a_room o own who st form e (User user) room seat = refl
not_to_a_room o own who st form e (UserAt user resource) room seat = refl
not_to_a_room o own who st form e Service room seat = refl
not_to_a_room o own who st form e Foreign room seat = refl
not_to_a_room o own who st form e (Room name) room seat = absurd (room name refl)
not_to_a_room o own who st form e (RoomAt name nick) room seat = absurd (seat name nick refl)

-- presence, available or not, that is sent to a user alone
pub is_directed : (o : Scene) (own : List ℕ) (who : Here) (st : Stanza) (to : Address) (form : PresenceForm) (e : Element) (place : Place)
    → (form ≡ Available) ⊎ (form ≡ Unavailable)
    → directed_to o own who st place (named o.world (to ∷ [])) ≡ to_user o own who st to form e place
is_directed o own who st to form e place (inl is) = ap (λ (f : PresenceForm). to_user o own who st to f e place) (sym is)
is_directed o own who st to form e place (inr is) = ap (λ (f : PresenceForm). to_user o own who st to f e place) (sym is)
