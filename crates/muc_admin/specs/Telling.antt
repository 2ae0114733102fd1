-- What comes of an item that isn't refused (XEP-0045, 8 to 10).
use Rattle.std.specs.Prelude.{ℕ, List, [], ◌∷◌, map, flat_map, true, false, not, ◌&&◌, Option, Some, None, if◌then◌else◌}
use Rattle.jid_core.specs.Addresses.{Address}
use Rattle.stanza_model.specs.declared.effect.Change.TheVariants as change
use Rattle.stanza_model.specs.declared.effect.Effect.{Effect}
use Rattle.stanza_model.specs.declared.effect.Effect.TheVariants as effect
use Rattle.stanza_model.specs.declared.room.Affiliation.{Affiliation}
use Rattle.stanza_model.specs.declared.room.Occupant.{Occupant}
use Rattle.stanza_model.specs.declared.room.Role.{Role}
use Rattle.stanza_model.specs.declared.room.Role.TheVariants.{Nobody}
use Rattle.stanza_model.specs.declared.room.Room.{Room}
use Rattle.stanza_model.specs.declared.room.RoomItem.{RoomItem}
use Rattle.stanza_model.specs.declared.room.RoomItem.TheVariants as item
use Rattle.stanza_model.specs.declared.room.Seat.{Seat}
use Rattle.stanza_model.specs.declared.shared.Config.{Config}
use Rattle.muc_roles.specs.Roles.{initial_role, is_outcast}
use Rattle.muc_room.specs.Seats.{affiliation_of, holder_of, sessions_of, spoken_from}
use Rattle.muc_room.specs.States.{is_listed, is_of}
use Rattle.muc_admin.specs.Listings.{is_same_affiliation, is_same_role}
use Rattle.muc_admin.specs.declared.item.Wanted.{Wanted}
use Rattle.muc_admin.specs.declared.item.Wanted.TheVariants as wanted

-- What comes of it for an occupant.

-- XEP-0045, 8.2, 9.1 and 9.4: it is in the room no more, and a status code says why; with what was shown of it
abbrev pub gone_item : Room → Occupant → Affiliation → (code : ℕ) → RoomItem
gone_item room o a code =
    item.Presence (sessions_of o) o.nick (spoken_from room.address o) a Nobody true None o.presence (code ∷ []) (110 ∷ [])

abbrev pub leaving : ℕ → Seat → Effect
leaving room seat = effect.Leave room seat.session

-- each of its sessions leaves after that
abbrev pub removed : Room → Occupant → Affiliation → (code : ℕ) → List Effect
removed room o a code = effect.Broadcast room.number (gone_item room o a code) ∷ map (leaving room.number) o.seats

-- its presence, with what it is now
abbrev pub shown_as : Room → Occupant → Affiliation → Role → RoomItem
shown_as room o a role =
    item.Presence (sessions_of o) o.nick (spoken_from room.address o) a role false None o.presence [] (110 ∷ [])

abbrev pub changed : Room → Occupant → Affiliation → Role → List Effect
changed room o a role =
    effect.Set (change.RoleSet room.number o.spoke role) ∷ effect.Broadcast room.number (shown_as room o a role) ∷ []

-- it has this affiliation and this role from then on; without a role it is removed, with this code
abbrev pub told : Room → Occupant → Affiliation → Role → (code : ℕ) → List Effect
told room o a Nobody code = removed room o a code
told room o a role code = changed room o a role

-- A role is set.

-- XEP-0045, 15.6: it was kicked
abbrev pub kicked : ℕ
kicked = 307

-- the same role again does nothing
abbrev pub role_told : Room → Role → Option Occupant → List Effect
role_told room role None = []
role_told room role (Some o) = if is_same_role o.role role then [] else told room o o.affiliation role kicked

-- An affiliation is set.

-- XEP-0045, 9.1 and 9.4: an outcast has no role, and in a members-only room one without affiliation hasn't either
abbrev pub new_role : Config → Affiliation → Role
new_role config a = if config.members_only && not (is_listed a) then Nobody else initial_role a config.moderated

-- XEP-0045, 15.6: it was banned, or its affiliation was taken
abbrev pub removal_code : Affiliation → ℕ
removal_code a = if is_outcast a then 301 else 321

abbrev pub told_if : Room → Address → Affiliation → Occupant → List Effect
told_if room address a o = if is_of address o then told room o a (new_role room.config a) (removal_code a) else []

abbrev pub all_told : Room → Address → Affiliation → List Occupant → List Effect
all_told room address a occupants = flat_map (told_if room address a) occupants

-- it is set first, and then comes each occupant of that user
abbrev pub affiliation_told : Room → Address → Affiliation → List Effect
affiliation_told room address a = effect.Set (change.Affiliated room.number address a) ∷ all_told room address a room.occupants

-- the same affiliation again does nothing
abbrev pub unless_same : Room → Address → Affiliation → List Effect
unless_same room address a =
    if is_same_affiliation (affiliation_of address room.affiliations) a then [] else affiliation_told room address a

-- a garbled item was refused
abbrev pub effects_of : Room → Wanted → List Effect
effects_of room (wanted.Role nick role) = role_told room role (holder_of nick room.occupants)
effects_of room (wanted.Affiliation address a) = unless_same room address a
effects_of room wanted.Garbled = []
