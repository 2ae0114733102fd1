-- What affiliations and roles allow (XEP-0045, 5). The rows of each table go from the top down, and the first that fits decides.
use Rattle.std.specs.Prelude.{ℕ, nat_le, Bool, true, false, not, ◌&&◌, ◌||◌, if◌then◌else◌}
use Rattle.stanza_model.specs.declared.condition.Condition.TheVariants.{Conflict, Forbidden, NotAllowed}
use Rattle.stanza_model.specs.declared.room.Affiliation.{Affiliation}
use Rattle.stanza_model.specs.declared.room.Affiliation.TheVariants.{Owner, Admin, Member, Neither, Outcast}
use Rattle.stanza_model.specs.declared.room.Role.{Role}
use Rattle.stanza_model.specs.declared.room.Role.TheVariants.{Moderator, Participant, Visitor, Nobody}
use Rattle.stanza_model.specs.declared.room.Verdict.{Verdict}
use Rattle.stanza_model.specs.declared.room.Verdict.TheVariants.{Allowed, Refused}

abbrev pub is_owner : Affiliation → Bool
is_owner Owner = true
is_owner Admin = false
is_owner Member = false
is_owner Neither = false
is_owner Outcast = false

-- an owner or an admin
abbrev pub governs : Affiliation → Bool
governs Owner = true
governs Admin = true
governs Member = false
governs Neither = false
governs Outcast = false

abbrev pub is_outcast : Affiliation → Bool
is_outcast Outcast = true
is_outcast Owner = false
is_outcast Admin = false
is_outcast Member = false
is_outcast Neither = false

abbrev pub is_moderator : Role → Bool
is_moderator Moderator = true
is_moderator Participant = false
is_moderator Visitor = false
is_moderator Nobody = false

-- XEP-0045, 5.1.2: the role with which one enters a room, by whether the room is moderated
abbrev pub initial_role : Affiliation → Bool → Role
initial_role Owner moderated = Moderator
initial_role Admin moderated = Moderator
initial_role Member moderated = Participant
initial_role Neither true = Visitor
initial_role Neither false = Participant
initial_role Outcast moderated = Nobody

-- XEP-0045, 5.2.1: of two affiliations, which is the higher
abbrev pub rank : Affiliation → ℕ
rank Owner = 3
rank Admin = 2
rank Member = 1
rank Neither = 0
rank Outcast = 0

abbrev pub unless : Bool → Verdict
unless true = Refused NotAllowed
unless false = Allowed

-- XEP-0045, 8.2: an admin or an owner is not kicked by one who is no higher
abbrev pub may_kick : (actor target : Affiliation) → Verdict
may_kick actor target = unless (governs target && nat_le (rank actor) (rank target))

-- XEP-0045, 9.6: an admin or an owner makes moderators
abbrev pub may_raise : (actor : Affiliation) → Verdict
may_raise actor = unless (not (governs actor))

-- XEP-0045, 8.4 and 9.7: neither an admin nor an owner is less than a moderator, and only they take that role from others
abbrev pub may_lower : (actor target : Affiliation) → (role : Role) → Verdict
may_lower actor target role = unless (governs target || (is_moderator role && not (governs actor)))

abbrev pub may_give : (actor target : Affiliation) → (role new : Role) → Verdict
may_give actor target role Nobody = may_kick actor target
may_give actor target role Moderator = may_raise actor
may_give actor target role Participant = may_lower actor target role
may_give actor target role Visitor = may_lower actor target role

-- whether one of this affiliation and this role may give the other this new role
abbrev pub may_set_role : Affiliation → Role → Affiliation → Role → Role → Verdict
may_set_role actor_affiliation actor target_affiliation target new =
    if is_moderator actor then may_give actor_affiliation target_affiliation target new else Refused Forbidden

-- XEP-0045, 10.3 to 10.8: an admin neither makes nor unmakes admins and owners
abbrev pub is_above : (actor old new : Affiliation) → Bool
is_above actor old new = not (is_owner actor) && (governs old || governs new)

-- XEP-0045, 10.4: a room keeps an owner; 9.1: nobody bans itself
abbrev pub is_last : (last_owner : Bool) → (new : Affiliation) → Bool
is_last last_owner new = last_owner && not (is_owner new)

abbrev pub may_set_affiliation : (actor old new : Affiliation) → (last_owner oneself : Bool) → Verdict
may_set_affiliation actor old new last_owner oneself =
    if not (governs actor) then Refused Forbidden
    else if is_above actor old new then Refused NotAllowed
    else if is_last last_owner new || (oneself && is_outcast new) then Refused Conflict
    else Allowed

-- XEP-0045, 7.2.2: a moderator sees the addresses of occupants, and everybody does where the room says so
abbrev pub sees_addresses : Role → Bool → Bool
sees_addresses role anyone = is_moderator role || anyone
