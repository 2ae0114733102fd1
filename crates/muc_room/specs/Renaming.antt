-- Presence of an occupant: what it shows, and its nick (XEP-0045, 7.6 and 7.7).
use Rattle.std.specs.Prelude.{ℕ, List, [], ◌∷◌, ◌++◌, Bool, true, false, bytes_eq, Option, Some, None, is_some, if◌then◌else◌}
use Rattle.stanza_tree.specs.declared.node.Element.{Element}
use Rattle.stanza_model.specs.Replies.{refused}
use Rattle.stanza_model.specs.declared.condition.Condition.TheVariants.{Conflict}
use Rattle.stanza_model.specs.declared.effect.Change.TheVariants.{OccupantShown, Renamed}
use Rattle.stanza_model.specs.declared.effect.Effect.{Effect}
use Rattle.stanza_model.specs.declared.effect.Effect.TheVariants.{Broadcast, Set}
use Rattle.stanza_model.specs.declared.here.Here.{Here}
use Rattle.stanza_model.specs.declared.kinds.PresenceForm.TheVariants.{Available}
use Rattle.stanza_model.specs.declared.room.Occupant.{Occupant}
use Rattle.stanza_model.specs.declared.room.Room.{Room}
use Rattle.stanza_model.specs.declared.room.RoomItem.{RoomItem}
use Rattle.stanza_model.specs.declared.room.RoomItem.TheVariants as item
use Rattle.stanza_model.specs.declared.stanza.Stanza.{Stanza}
use Rattle.stanza_model.specs.declared.stanza.Stanza.TheVariants.{Presence}
use Rattle.muc_room.specs.Seats.{holder_of, occupant_of, sessions_of}
use Rattle.muc_room.specs.Views.{shown_children}

-- the occupant's new presence, from this session and under this nick
abbrev pub shown_as : Here → Occupant → (nick children : List ℕ) → RoomItem
shown_as who o nick children =
    item.Presence (sessions_of o) nick who.address o.affiliation o.role false None children [] (110 ∷ [])

-- XEP-0045, 7.7
abbrev pub shows : Room → Here → Occupant → (nick children : List ℕ) → List Effect
shows room who o nick children =
    Set (OccupantShown room.number who.session children) ∷ Broadcast room.number (shown_as who o nick children) ∷ []

-- XEP-0045, 7.6: the old nick is unavailable, and the new one is told with it
abbrev pub old_nick : Here → Occupant → (nick children : List ℕ) → RoomItem
old_nick who o nick children =
    item.Presence (sessions_of o) o.nick who.address o.affiliation o.role true (Some nick) children (303 ∷ []) (110 ∷ [])

abbrev pub told_rename : Room → Here → Occupant → (nick children : List ℕ) → List Effect
told_rename room who o nick children =
    Broadcast room.number (old_nick who o nick children) ∷ Set (Renamed room.number who.session nick) ∷ []

abbrev pub renamed : Room → Here → Occupant → (nick children : List ℕ) → List Effect
renamed room who o nick children = told_rename room who o nick children ++ shows room who o nick children

-- to the bare room or to its own nick, or to another nick, which nobody may have
abbrev pub renames : Room → Here → Stanza → Occupant → Element → Option (List ℕ) → List Effect
renames room who st o e None = shows room who o o.nick (shown_children e.children)
renames room who st o e (Some nick) =
    if bytes_eq nick o.nick then shows room who o o.nick (shown_children e.children)
    else if is_some (holder_of nick room.occupants) then refused who st Conflict
    else renamed room who o nick (shown_children e.children)

-- a session that has no seat in the room enters it: none of this table's
abbrev pub renames_by : Room → Here → Stanza → Option Occupant → Element → Option (List ℕ) → List Effect
renames_by room who st None e nick = []
renames_by room who st (Some o) e nick = renames room who st o e nick

-- available presence; another stanza is none of this table's
abbrev pub rename : Room → Here → Stanza → List Effect
rename room who (Presence (Some to) Available e) =
    renames_by room who (Presence (Some to) Available e) (occupant_of who.session room.occupants) e to.resource
rename room who st = []
