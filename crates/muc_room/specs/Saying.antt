-- Messages to a room and to an occupant (XEP-0045, 7.4, 7.5 and 8.1).
use Rattle.std.specs.Prelude.{ℕ, nat_lt, length, List, [], ◌∷◌, ◌++◌, map, Bool, true}
use Rattle.std.specs.Prelude.{false, not, ◌&&◌, ◌||◌, codes, Option, Some, None, is_some, if◌then◌else◌}
use Rattle.jid_core.specs.Addresses.{Address, address_text}
use Rattle.stanza_tree.specs.Children.{child_of}
use Rattle.stanza_tree.specs.Spelling.{client_space, text}
use Rattle.stanza_tree.specs.Stamps.{sent_by}
use Rattle.stanza_tree.specs.declared.frame.Origin.TheVariants.{Direct}
use Rattle.stanza_tree.specs.declared.node.Element.{Element}
use Rattle.stanza_model.specs.Ids.{has_body, told_with_id, without_ids}
use Rattle.stanza_model.specs.Replies.{one_child, refused}
use Rattle.stanza_model.specs.declared.condition.Condition.{Condition}
use Rattle.stanza_model.specs.declared.condition.Condition.TheVariants.{BadRequest, Forbidden, ItemNotFound, NotAcceptable, ResourceConstraint}
use Rattle.stanza_model.specs.declared.effect.Change.TheVariants.{RoomRow, Subject}
use Rattle.stanza_model.specs.declared.effect.Effect.{Effect}
use Rattle.stanza_model.specs.declared.effect.Effect.TheVariants.{Queue, Broadcast, Set}
use Rattle.stanza_model.specs.declared.here.Here.{Here}
use Rattle.stanza_model.specs.declared.keeping.Keeping.{Keeping}
use Rattle.stanza_model.specs.declared.kinds.MessageForm.{MessageForm}
use Rattle.stanza_model.specs.declared.kinds.MessageForm.TheVariants.{Groupchat}
use Rattle.stanza_model.specs.declared.room.Occupant.{Occupant}
use Rattle.stanza_model.specs.declared.room.Role.{Role}
use Rattle.stanza_model.specs.declared.room.Role.TheVariants.{Moderator, Participant, Visitor, Nobody}
use Rattle.stanza_model.specs.declared.room.Room.{Room}
use Rattle.stanza_model.specs.declared.room.RoomItem.TheVariants as item
use Rattle.stanza_model.specs.declared.room.Seat.{Seat}
use Rattle.stanza_model.specs.declared.stanza.Stanza.{Stanza}
use Rattle.stanza_model.specs.declared.stanza.Stanza.TheVariants.{Message}
use Rattle.muc_room.specs.Seats.{holder_of, occupant_of}
use Rattle.muc_room.specs.Views.{at, user_space, x_of}

-- To the room.

-- XEP-0045, 5.1.1: a visitor has no voice in a moderated room
abbrev pub is_silent : Role → (moderated : Bool) → Bool
is_silent Visitor moderated = moderated
is_silent Moderator moderated = false
is_silent Participant moderated = false
is_silent Nobody moderated = false

abbrev pub has_child : List ℕ → Element → Bool
has_child local e = is_some (child_of client_space local e.children)

-- XEP-0045, 8.1: a subject has neither a body nor a thread
abbrev pub is_subject : Element → Bool
is_subject e = has_child (codes "subject") e && not (has_child (codes "body") e) && not (has_child (codes "thread") e)

-- a moderator may change the subject, and a participant where the room says so
abbrev pub may_change_subject : Role → Bool → Bool
may_change_subject Moderator change_subject = true
may_change_subject Participant change_subject = change_subject
may_change_subject Visitor change_subject = false
may_change_subject Nobody change_subject = false

-- XEP-0359, 5: it has no id in the room's name but, where it has a body, the one that it gets in the room's archive
abbrev pub with_row_id : Room → (row : ℕ) → Element → Element
with_row_id room row e = if has_body e then told_with_id room.address row e else without_ids room.address e

-- XEP-0045, 7.4: from the occupant's address, to each occupant
abbrev pub message_text : Room → Occupant → (row : ℕ) → Element → List ℕ
message_text room o row e = text (sent_by (address_text (at room.address (Some o.nick))) (with_row_id room row e))

-- XEP-0313, 2: where it has a body it is kept as it is broadcast
abbrev pub row_if : Bool → ℕ → (peer : Address) → (text : List ℕ) → (moment : ℕ) → List Effect
row_if false room peer text moment = []
row_if true room peer text moment = Set (RoomRow room peer text moment) ∷ []

abbrev pub subject_if : Bool → ℕ → (text stamp : List ℕ) → List Effect
subject_if false room text stamp = []
subject_if true room text stamp = Set (Subject room text stamp) ∷ []

abbrev pub said_as : Room → (from : Address) → Keeping → (stamp : List ℕ) → Element → (text : List ℕ) → List Effect
said_as room from keeping stamp e text =
    Broadcast room.number (item.Message text (has_body e) from keeping.moment)
    ∷ row_if (has_body e) room.number from text keeping.moment
    ++ subject_if (is_subject e) room.number text stamp

abbrev pub said : Room → Occupant → Keeping → (stamp : List ℕ) → Element → List Effect
said room o keeping stamp e = said_as room (at room.address (Some o.nick)) keeping stamp e (message_text room o keeping.row e)

-- it is to be kept, and passes the room that there is
abbrev pub is_too_much : Room → Occupant → Keeping → Element → Bool
is_too_much room o keeping e = has_body e && nat_lt keeping.free (length (message_text room o keeping.row e))

abbrev pub says : Room → Here → Stanza → Keeping → (stamp : List ℕ) → Element → Occupant → List Effect
says room who st keeping stamp e o =
    if is_silent o.role room.config.moderated then refused who st Forbidden
    else if is_subject e && not (may_change_subject o.role room.config.change_subject) then refused who st Forbidden
    else if is_too_much room o keeping e then refused who st ResourceConstraint
    else said room o keeping stamp e

abbrev pub says_as : Room → Here → Stanza → Keeping → (stamp : List ℕ) → Element → Option Occupant → List Effect
says_as room who st keeping stamp e None = refused who st NotAcceptable
says_as room who st keeping stamp e (Some o) = says room who st keeping stamp e o

-- another stanza is none of this table's. `keeping` is of the room's archive, and `stamp` its moment as it is written.
abbrev pub say : Room → Here → Stanza → Keeping → (stamp : List ℕ) → List Effect
say room who (Message to Groupchat e) keeping stamp =
    says_as room who (Message to Groupchat e) keeping stamp e (occupant_of who.session room.occupants)
say room who st keeping stamp = []

-- To an occupant.

abbrev pub is_marked : Element → Bool
is_marked e = is_some (child_of user_space (codes "x") e.children)

-- XEP-0045, 7.5: a private message has an `x` of the room's
abbrev pub marked : Element → Element
marked e =
    if is_marked e then e
    else record e { children = e.children ++ one_child (x_of []) }

abbrev pub private_text : Room → Occupant → Element → List ℕ
private_text room o e = text (sent_by (address_text (at room.address (Some o.nick))) (marked e))

abbrev pub private_to : List ℕ → Seat → Effect
private_to rest seat = Queue seat.session (address_text seat.address) rest Direct

-- to each session that has the nick
abbrev pub whispers : Room → Here → Stanza → Element → Occupant → Option Occupant → List Effect
whispers room who st e o None = refused who st ItemNotFound
whispers room who st e o (Some other) = map (private_to (private_text room o e)) other.seats

abbrev pub is_groupchat : MessageForm → Bool
is_groupchat Groupchat = true
is_groupchat form = false

abbrev pub whispers_as : Room → Here → Stanza → MessageForm → Element → (nick : List ℕ) → Option Occupant → List Effect
whispers_as room who st form e nick None = refused who st NotAcceptable
whispers_as room who st form e nick (Some o) =
    if is_groupchat form then refused who st BadRequest else whispers room who st e o (holder_of nick room.occupants)

-- a message without a nick is none of this table's
abbrev pub whispers_at : Room → Here → Stanza → MessageForm → Element → Option (List ℕ) → List Effect
whispers_at room who st form e None = []
whispers_at room who st form e (Some nick) = whispers_as room who st form e nick (occupant_of who.session room.occupants)

abbrev pub direct : Room → Here → Stanza → List Effect
direct room who (Message (Some to) form e) = whispers_at room who (Message (Some to) form e) form e to.resource
direct room who st = []
