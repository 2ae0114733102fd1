-- Entering a room (XEP-0045, 7.2 and 10.1). The rows go from the top down, and the first that fits decides.
use Rattle.std.specs.Prelude.{ℕ, nat_le, List, [], ◌∷◌, length, Bool, true, false, not, ◌&&◌, ◌||◌, codes, bytes_eq, Option, Some, None, if◌then◌else◌}
use Rattle.std.specs.List.{list_any}
use Rattle.jid_core.specs.Addresses.{Address, bare, same_bare}
use Rattle.stanza_tree.specs.Children.{child_of, words_of}
use Rattle.stanza_tree.specs.declared.node.Element.{Element}
use Rattle.stanza_model.specs.Replies.{refused}
use Rattle.stanza_model.specs.declared.condition.Condition.{Condition}
use Rattle.stanza_model.specs.declared.condition.Condition.TheVariants.{Conflict, Forbidden, ItemNotFound, JidMalformed, NotAuthorized}
use Rattle.stanza_model.specs.declared.condition.Condition.TheVariants.{RegistrationRequired, ResourceConstraint, ServiceUnavailable}
use Rattle.stanza_model.specs.declared.effect.Effect.{Effect}
use Rattle.stanza_model.specs.declared.here.Here.{Here}
use Rattle.stanza_model.specs.declared.kinds.PresenceForm.TheVariants.{Available}
use Rattle.stanza_model.specs.declared.room.Affiliation.{Affiliation}
use Rattle.stanza_model.specs.declared.room.Affiliation.TheVariants.{Neither, Owner}
use Rattle.stanza_model.specs.declared.room.Delayed.{Delayed}
use Rattle.stanza_model.specs.declared.room.Occupant.{Occupant}
use Rattle.stanza_model.specs.declared.room.Room.{Room}
use Rattle.stanza_model.specs.declared.shared.Config.{Config}
use Rattle.stanza_model.specs.declared.stanza.Stanza.{Stanza}
use Rattle.stanza_model.specs.declared.stanza.Stanza.TheVariants.{Presence}
use Rattle.muc_roles.specs.Roles.{governs, is_outcast, is_owner}
use Rattle.muc_room.specs.Entries.{entered}
use Rattle.muc_room.specs.Histories.{wanted_of}
use Rattle.muc_room.specs.Seats.{affiliation_in, holder_of, seat_count}
use Rattle.muc_room.specs.Views.{muc_space, shown_children}
use Rattle.muc_room.specs.declared.entering.Numbers.{Numbers}

-- The limits: rooms, rooms of a session, occupants and sessions of a room.

abbrev pub most_rooms : ℕ
most_rooms = 256

abbrev pub most_entered : ℕ
most_entered = 50

abbrev pub most_occupants : ℕ
most_occupants = 256

abbrev pub most_seats : ℕ
most_seats = 256

-- The room as it is entered.

-- XEP-0045, 10.1: a room that isn't there is made by entering it, locked, with the user as its owner
abbrev pub default_config : Config
default_config = record {
  persistent = false;
  members_only = false;
  moderated = false;
  anyone = false;
  secret = [];
  max = 256;
  title = [];
  change_subject = false;
}

abbrev pub new_room : ℕ → Address → Here → Room
new_room number to who = record {
  number = number;
  address = bare to;
  config = default_config;
  locked = true;
  affiliations = record { address = bare who.address; affiliation = Owner } ∷ [];
  occupants = [];
  subject = None;
}

-- Who may not enter.

abbrev pub is_neither : Affiliation → Bool
is_neither Neither = true
is_neither a = false

-- the words of the `password` in the presence's `x`
abbrev pub password_by : Option Element → List ℕ
password_by None = []
password_by (Some password) = words_of password.children

abbrev pub password_in : Option Element → List ℕ
password_in None = []
password_in (Some x) = password_by (child_of muc_space (codes "password") x.children)

abbrev pub password_of : Element → List ℕ
password_of e = password_in (child_of muc_space (codes "x") e.children)

-- XEP-0045, 7.2.5: a room without a secret asks for none
abbrev pub lacks_secret : List ℕ → Element → Bool
lacks_secret secret e = not (bytes_eq secret []) && not (bytes_eq (password_of e) secret)

-- by the affiliation of the one who enters, in the order of XEP-0045, 7.2.4 to 7.2.7
abbrev pub barred : Room → Affiliation → Element → Option Condition
barred room a e =
    if room.locked && not (is_owner a) then Some ItemNotFound
    else if is_outcast a then Some Forbidden
    else if room.config.members_only && is_neither a then Some RegistrationRequired
    else if lacks_secret room.config.secret e then Some NotAuthorized
    else None

-- whether the occupant is the same user as the one who enters
abbrev pub is_mine : Here → Occupant → Bool
is_mine who o = list_any (λ seat. same_bare seat.address who.address) o.seats

-- XEP-0045, 7.2.8: the nick is another user's
abbrev pub is_taken : Here → Option Occupant → Bool
is_taken who None = false
is_taken who (Some o) = not (is_mine who o)

-- XEP-0045, 7.2.9: whether the room can take one more occupant
abbrev pub is_crowded : Room → Affiliation → Bool
is_crowded room a = nat_le most_occupants (length room.occupants) || (nat_le room.config.max (length room.occupants) && not (governs a))

abbrev pub is_full : Room → Affiliation → Option Occupant → Bool
is_full room a None = is_crowded room a || nat_le most_seats (seat_count room.occupants)
is_full room a (Some o) = nat_le most_seats (seat_count room.occupants)

abbrev pub crowded : Room → Affiliation → Numbers → Here → Option Occupant → Option Condition
crowded room a numbers who holder =
    if is_taken who holder then Some Conflict
    else if nat_le most_entered numbers.mine then Some ResourceConstraint
    else if is_full room a holder then Some ServiceUnavailable
    else None

abbrev pub or_else : Option Condition → Option Condition → Option Condition
or_else None later = later
or_else (Some condition) later = Some condition

-- why it may not enter, if it may not
abbrev pub refusal : Room → Numbers → Here → Element → (nick : List ℕ) → Option Condition
refusal room numbers who e nick =
    or_else (barred room (affiliation_in room who) e)
    (crowded room (affiliation_in room who) numbers who (holder_of nick room.occupants))

abbrev pub unless_refused : Here → Stanza → Option Condition → List Effect → List Effect
unless_refused who st None effects = effects
unless_refused who st (Some condition) effects = refused who st condition

abbrev pub enters : Room → (made : Bool) → Numbers → Here → Stanza → Element → (nick : List ℕ) → List Delayed → List Effect
enters room made numbers who st e nick past =
    unless_refused who st (refusal room numbers who e nick)
    (entered room made numbers who (shown_children e.children) nick (holder_of nick room.occupants) (wanted_of e past))

-- the room that is there, or a new one, where there are not too many
abbrev pub enters_by : Option Room → Numbers → Here → Stanza → Address → Element → (nick : List ℕ) → List Delayed → List Effect
enters_by (Some room) numbers who st to e nick past = enters room false numbers who st e nick past
enters_by None numbers who st to e nick past =
    if nat_le most_rooms numbers.rooms then refused who st ResourceConstraint
    else enters (new_room numbers.next_room to who) true numbers who st e nick []

-- XEP-0045, 7.2.1: an address without a nick enters no room
abbrev pub enters_at : Option Room → Numbers → Here → Stanza → Address → Element → Option (List ℕ) → List Delayed → List Effect
enters_at room numbers who st to e None past = refused who st JidMalformed
enters_at room numbers who st to e (Some nick) past = enters_by room numbers who st to e nick past

-- available presence of a session that has no seat in the room; another stanza is none of this table's. `past` has what was said last in the
-- room.
abbrev pub enter : Option Room → Numbers → Here → Stanza → (past : List Delayed) → List Effect
enter room numbers who (Presence (Some to) Available e) past = enters_at room numbers who (Presence (Some to) Available e) to e to.resource past
enter room numbers who st past = []
