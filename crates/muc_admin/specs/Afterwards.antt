-- The room after an item that isn't refused (XEP-0045, 8 to 10).
use Rattle.std.specs.Prelude.{ℕ, List, [], ◌∷◌, map, Option, Some, None, if◌then◌else◌}
use Rattle.std.specs.List.{filter}
use Rattle.jid_core.specs.Addresses.{Address}
use Rattle.stanza_model.specs.declared.room.Affiliation.{Affiliation}
use Rattle.stanza_model.specs.declared.room.Occupant.{Occupant}
use Rattle.stanza_model.specs.declared.room.Role.{Role}
use Rattle.stanza_model.specs.declared.room.Role.TheVariants.{Nobody}
use Rattle.stanza_model.specs.declared.room.Room.{Room}
use Rattle.muc_room.specs.Seats.{affiliation_of, holder_of}
use Rattle.muc_room.specs.States.{is_of, set_affiliation, set_role, without_occupant}
use Rattle.muc_admin.specs.Listings.{is_same_affiliation, is_same_role}
use Rattle.muc_admin.specs.Telling.{new_role}
use Rattle.muc_admin.specs.declared.item.Wanted.{Wanted}
use Rattle.muc_admin.specs.declared.item.Wanted.TheVariants as wanted

-- the occupant that this session is has this role; without one it is removed
abbrev pub with_role : ℕ → Role → Room → Room
with_role session Nobody room = without_occupant session room
with_role session role room = set_role session role room

-- the session whose presence is shown of the occupant, where that gets another role
abbrev pub changed_by : Role → Option Occupant → Option ℕ
changed_by role None = None
changed_by role (Some o) = if is_same_role o.role role then None else Some o.spoke

abbrev pub after_role : Role → Option ℕ → Room → Room
after_role role None room = room
after_role role (Some session) room = with_role session role room

-- one session of each occupant that is of this user
abbrev pub speakers : Address → List Occupant → List ℕ
speakers address occupants = map (λ o. o.spoke) (filter (is_of address) occupants)

abbrev pub with_roles : List ℕ → Role → Room → Room
with_roles [] role room = room
with_roles (session ∷ more) role room = with_roles more role (with_role session role room)

abbrev pub with_user : Address → Affiliation → Room → Room
with_user address a room = with_roles (speakers address room.occupants) (new_role room.config a) (set_affiliation address a room)

abbrev pub after_affiliation : Address → Affiliation → Room → Room
after_affiliation address a room =
    if is_same_affiliation (affiliation_of address room.affiliations) a then room else with_user address a room

abbrev pub after : Wanted → Room → Room
after (wanted.Role nick role) room = after_role role (changed_by role (holder_of nick room.occupants)) room
after (wanted.Affiliation address a) room = after_affiliation address a room
after wanted.Garbled room = room
