-- What comes of entering a room (XEP-0045, 7.2 and 15.6).
use Rattle.std.specs.Prelude.{ℕ, List, [], ◌∷◌, ◌++◌, map, Bool, true, false, not, codes, Option, Some, None, if◌then◌else◌}
use Rattle.std.specs.List.{filter}
use Rattle.jid_core.specs.Addresses.{Address, address_text, bare}
use Rattle.stanza_tree.specs.Spelling.{client_space, text}
use Rattle.stanza_tree.specs.declared.frame.Origin.TheVariants.{Opening}
use Rattle.stanza_tree.specs.declared.node.Element.{Element}
use Rattle.stanza_model.specs.Errors.{element_of, plain_attr}
use Rattle.stanza_model.specs.Replies.{one_child}
use Rattle.stanza_model.specs.declared.effect.Change.TheVariants.{OccupantShown, RoomMade}
use Rattle.stanza_model.specs.declared.effect.Effect.{Effect}
use Rattle.stanza_model.specs.declared.effect.Effect.TheVariants.{Queue, Broadcast, Enter, Set}
use Rattle.stanza_model.specs.declared.here.Here.{Here}
use Rattle.stanza_model.specs.declared.room.Affiliation.{Affiliation}
use Rattle.stanza_model.specs.declared.room.Delayed.{Delayed}
use Rattle.stanza_model.specs.declared.room.Occupant.{Occupant}
use Rattle.stanza_model.specs.declared.room.Role.{Role}
use Rattle.stanza_model.specs.declared.room.Room.{Room}
use Rattle.stanza_model.specs.declared.room.RoomItem.{RoomItem}
use Rattle.stanza_model.specs.declared.room.RoomItem.TheVariants as item
use Rattle.muc_roles.specs.Roles.{initial_role, sees_addresses}
use Rattle.muc_room.specs.Histories.{delayed_text, history}
use Rattle.muc_room.specs.Seats.{affiliation_in, has_nick, sessions_of, spoken_from}
use Rattle.muc_room.specs.Views.{seen}
use Rattle.muc_room.specs.declared.entering.Numbers.{Numbers}

abbrev pub entry_role : Room → Here → Option Occupant → Role
entry_role room who None = initial_role (affiliation_in room who) room.config.moderated
entry_role room who (Some o) = o.role

abbrev pub entry_affiliation : Room → Here → Option Occupant → Affiliation
entry_affiliation room who None = affiliation_in room who
entry_affiliation room who (Some o) = o.affiliation

abbrev pub entry_sessions : Here → Option Occupant → List ℕ
entry_sessions who None = who.session ∷ []
entry_sessions who (Some o) = sessions_of o ++ who.session ∷ []

-- an occupant's presence as it stands
abbrev pub present : Room → Occupant → RoomItem
present room o =
    item.Presence (sessions_of o) o.nick (spoken_from room.address o) o.affiliation o.role false None o.presence [] []

-- XEP-0045, 7.2.3: the newcomer is sent the presence of each other occupant, as its stay begins
abbrev pub opening : Room → (stay : ℕ) → Here → Role → Occupant → Effect
opening room stay who role o =
    Queue who.session (address_text who.address)
    (seen (present room o) (sees_addresses role room.config.anyone) room.address who.session who.address) (Opening room.number stay)

abbrev pub openings : Room → (stay : ℕ) → Here → Role → (nick : List ℕ) → List Effect
openings room stay who role nick = map (opening room stay who role) (filter (λ o. not (has_nick nick o)) room.occupants)

-- XEP-0045, 15.6: addresses are seen by anyone; this is one's own presence; the server gave the nick; the room was made
abbrev pub entry_statuses : (anyone made : Bool) → List ℕ
entry_statuses anyone made = (if anyone then 100 ∷ [] else []) ++ 110 ∷ 170 ∷ (if made then 201 ∷ [] else [])

abbrev pub entry : Room → (made : Bool) → Here → (children nick : List ℕ) → Option Occupant → RoomItem
entry room made who children nick holder =
    item.Presence (entry_sessions who holder) nick who.address (entry_affiliation room who holder) (entry_role room who holder) false None children []
    (entry_statuses room.config.anyone made)

-- XEP-0045, 7.2.15: a room without a subject has an empty one
abbrev pub no_subject : Address → Element
no_subject room =
    element_of client_space (codes "message") (plain_attr (codes "from") (address_text room) ∷ plain_attr (codes "type") (codes "groupchat") ∷ [])
    (one_child (element_of client_space (codes "subject") [] []))

abbrev pub subject_text : Address → Option Delayed → List ℕ
subject_text room None = text (no_subject room)
subject_text room (Some subject) = delayed_text room subject

abbrev pub subject_for : Room → (stay : ℕ) → Here → Effect
subject_for room stay who = Queue who.session (address_text who.address) (subject_text room.address room.subject) (Opening room.number stay)

abbrev pub made_if : Bool → Room → Here → List Effect
made_if false room who = []
made_if true room who = Set (RoomMade room.number room.address (bare who.address)) ∷ []

-- the session is in the room, and all that are see its presence
abbrev pub told_entry : Room → (made : Bool) → Here → (children nick : List ℕ) → Option Occupant → List Effect
told_entry room made who children nick holder =
    Enter room.number who.session who.address nick (entry_role room who holder)
    ∷ Set (OccupantShown room.number who.session children)
    ∷ Broadcast room.number (entry room made who children nick holder)
    ∷ []

-- XEP-0045, 7.2.3 to 7.2.15: who is there, the entry, what was said last, and the subject
abbrev pub entered : Room → (made : Bool) → Numbers → Here → (children nick : List ℕ) → Option Occupant → List Delayed → List Effect
entered room made numbers who children nick holder past =
    made_if made room who
    ++ openings room numbers.next_stay who (entry_role room who holder) nick
    ++ told_entry room made who children nick holder
    ++ history room numbers.next_stay who past
    ++ subject_for room numbers.next_stay who ∷ []
