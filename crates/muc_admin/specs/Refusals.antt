-- Why an item is refused (XEP-0045, 5.2 and 8 to 10).
use Rattle.std.specs.Prelude.{List, Bool, false, not, ◌&&◌, Option, Some, None, if◌then◌else◌}
use Rattle.std.specs.List.{list_any}
use Rattle.jid_core.specs.Addresses.{Address, same_bare}
use Rattle.stanza_model.specs.declared.condition.Condition.{Condition}
use Rattle.stanza_model.specs.declared.condition.Condition.TheVariants.{BadRequest, Forbidden, ItemNotFound, ResourceConstraint}
use Rattle.stanza_model.specs.declared.here.Here.{Here}
use Rattle.stanza_model.specs.declared.room.Affiliated.{Affiliated}
use Rattle.stanza_model.specs.declared.room.Affiliation.{Affiliation}
use Rattle.stanza_model.specs.declared.room.Occupant.{Occupant}
use Rattle.stanza_model.specs.declared.room.Role.{Role}
use Rattle.stanza_model.specs.declared.room.Room.{Room}
use Rattle.stanza_model.specs.declared.room.Verdict.{Verdict}
use Rattle.stanza_model.specs.declared.room.Verdict.TheVariants.{Allowed, Refused}
use Rattle.muc_roles.specs.Roles.{is_moderator, is_owner, may_set_affiliation, may_set_role}
use Rattle.muc_room.specs.Entering.{or_else}
use Rattle.muc_room.specs.Seats.{affiliation_in, affiliation_of, holder_of, occupant_of}
use Rattle.muc_room.specs.States.{with_affiliation}
use Rattle.muc_admin.specs.Listings.{is_too_large}
use Rattle.muc_admin.specs.declared.item.Wanted.{Wanted}
use Rattle.muc_admin.specs.declared.item.Wanted.TheVariants as wanted

abbrev pub refused_by : Verdict → Option Condition
refused_by Allowed = None
refused_by (Refused condition) = Some condition

-- A role.

-- whether who asks is a moderator in the room
abbrev pub is_moderating : Option Occupant → Bool
is_moderating None = false
is_moderating (Some o) = is_moderator o.role

-- by the affiliation and the role of who asks, the role that is given, and the occupant that has the nick
abbrev pub target_refusal : Affiliation → Role → Role → Option Occupant → Option Condition
target_refusal affiliation actor given None = Some ItemNotFound
target_refusal affiliation actor given (Some o) = refused_by (may_set_role affiliation actor o.affiliation o.role given)

-- XEP-0045, 8 and 9.6 to 9.7: only a moderator sets roles
abbrev pub role_refusal : Affiliation → Option Occupant → Role → Option Occupant → Option Condition
role_refusal affiliation None given target = Some Forbidden
role_refusal affiliation (Some actor) given target =
    if is_moderator actor.role then target_refusal affiliation actor.role given target else Some Forbidden

-- An affiliation.

abbrev pub is_other_owner : Address → Affiliated → Bool
is_other_owner address x = is_owner x.affiliation && not (same_bare x.address address)

abbrev pub has_other_owner : Address → List Affiliated → Bool
has_other_owner address known = list_any (is_other_owner address) known

abbrev pub is_last_owner : Address → List Affiliated → Bool
is_last_owner address known = is_owner (affiliation_of address known) && not (has_other_owner address known)

-- by the affiliations of who asks, wherever it is, and of the user whose affiliation is set
abbrev pub verdict_on : Room → Here → Address → Affiliation → Verdict
verdict_on room who address a =
    may_set_affiliation (affiliation_in room who) (affiliation_of address room.affiliations) a
    (is_last_owner address room.affiliations) (same_bare address who.address)

abbrev pub too_large : List Affiliated → Option Condition
too_large known = if is_too_large known then Some ResourceConstraint else None

abbrev pub affiliation_refusal : Room → Here → Address → Affiliation → Option Condition
affiliation_refusal room who address a =
    or_else (refused_by (verdict_on room who address a)) (too_large (with_affiliation address a room.affiliations))

-- An item, in the room as it is.

abbrev pub refusal : Room → Here → Wanted → Option Condition
refusal room who (wanted.Role nick role) =
    role_refusal (affiliation_in room who) (occupant_of who.session room.occupants) role (holder_of nick room.occupants)
refusal room who (wanted.Affiliation address a) = affiliation_refusal room who address a
refusal room who wanted.Garbled = Some BadRequest
