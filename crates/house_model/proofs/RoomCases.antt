-- Each effect of a room's tables on presence and messages is a refusal, an item that the room broadcasts, what is queued for one who is in it,
-- or what becomes of it.
use Rattle.std.proofs.Common.{◌≡◌, ℕ, zero, suc, ◌-◌, List, [], ◌∷◌, ◌++◌, map, drop, length, nat_le, not, ◌&&◌, refl, Bool, true, false}
use Rattle.std.proofs.Common.{Option, Some, None, is_some, bytes_eq, IfSome}
use Rattle.std.specs.List.{AllByRecursion, filter, find}
use Rattle.jid_core.specs.Addresses.{Address, address_text, bare}
use Rattle.stanza_tree.specs.declared.frame.Origin.TheVariants.{Direct}
use Rattle.stanza_tree.specs.declared.node.Element.{Element}
use Rattle.stanza_model.specs.Ids.{has_body}
use Rattle.stanza_model.specs.Replies.{may_be_answered, error_of, said_to, refused}
use Rattle.stanza_model.specs.Stanzas.{element_in}
use Rattle.stanza_model.specs.declared.condition.Condition.{Condition}
use Rattle.stanza_model.specs.declared.condition.Condition.TheVariants.{BadRequest, Conflict, Forbidden, ItemNotFound, JidMalformed}
use Rattle.stanza_model.specs.declared.condition.Condition.TheVariants.{NotAcceptable, ResourceConstraint}
use Rattle.stanza_model.specs.declared.effect.Change.TheVariants.{OccupantShown, Renamed, RoomGone, RoomMade, RoomRow, Subject}
use Rattle.stanza_model.specs.declared.effect.Effect.{Effect}
use Rattle.stanza_model.specs.declared.effect.Effect.TheVariants.{Queue, Broadcast, Enter, Leave, Set}
use Rattle.stanza_model.specs.declared.here.Here.{Here}
use Rattle.stanza_model.specs.declared.keeping.Keeping.{Keeping}
use Rattle.stanza_model.specs.declared.kinds.MessageForm.{MessageForm}
use Rattle.stanza_model.specs.declared.kinds.MessageForm.TheVariants as message
use Rattle.stanza_model.specs.declared.kinds.PresenceForm.TheVariants as presence
use Rattle.stanza_model.specs.declared.room.Delayed.{Delayed}
use Rattle.stanza_model.specs.declared.room.Occupant.{Occupant}
use Rattle.stanza_model.specs.declared.room.Role.{Role}
use Rattle.stanza_model.specs.declared.room.Room.{Room}
use Rattle.stanza_model.specs.declared.room.RoomItem.TheVariants as item
use Rattle.stanza_model.specs.declared.room.Seat.{Seat}
use Rattle.stanza_model.specs.declared.stanza.Stanza.{Stanza}
use Rattle.stanza_model.specs.declared.stanza.Stanza.TheVariants.{Message, Presence, Iq, Faulty}
use Rattle.muc_room.specs.Entering.{enter, enters, enters_at, enters_by, most_rooms, new_room, refusal, unless_refused}
use Rattle.muc_room.specs.Entries.{entered, entry, entry_role, made_if, opening, openings, subject_for, told_entry}
use Rattle.muc_room.specs.Histories.{history, limit_by, limited, history_in, told_again, wanted_of}
use Rattle.muc_room.specs.Leaving.{farewell, goes, leave, leaves_as, last_words, seat_address}
use Rattle.muc_room.specs.Renaming.{old_nick, rename, renames_by, shown_as}
use Rattle.muc_room.specs.Saying.{direct, is_groupchat, is_silent, is_subject, is_too_much, may_change_subject, message_text, private_text}
use Rattle.muc_room.specs.Saying.{private_to, row_if, said, say, says_as, subject_if, whispers, whispers_as, whispers_at}
use Rattle.muc_room.specs.Seats.{has_nick, holder_of, occupant_of}
use Rattle.muc_room.specs.Views.{at, seen, shown_children}
use Rattle.muc_room.specs.declared.entering.Numbers.{Numbers}
use Rattle.house_model.proofs.Founds.{append_all, either_all, filter_all}
use Rattle.house_model.proofs.StayLemmas.{choose}

pub found_all : {X : Type 0} (Q : X → Type 0) (test : X → Bool) (xs : List X) → AllByRecursion Q xs → IfSome (find test xs) Q
found_all Q test [] all = tt
found_all Q test (x ∷ xs) all =
    choose (λ (o : Option _). IfSome o Q) (test x) (Some x) (find test xs) (λ (_ : _). all.0) (λ (_ : _). found_all Q test xs all.1)

pub map_all : {X Y : Type 0} (P : Y → Type 0) (Q : X → Type 0) (f : X → Y) → ((x : X) → Q x → P (f x)) → (xs : List X) → AllByRecursion Q xs
    → AllByRecursion P (map f xs)
map_all P Q f each [] all = tt
map_all P Q f each (x ∷ xs) all = (each x all.0, map_all P Q f each xs all.1)

pub refused_rows : (P : Effect → Type 0) (who : Here) (st : Stanza) → ((c : Condition) → P (said_to who (error_of st c))) → (c : Condition)
    → AllByRecursion P (refused who st c)
refused_rows P who st refusal c = either_all P (may_be_answered st) (said_to who (error_of st c) ∷ []) [] (refusal c, tt) tt

pub unless_rows : (P : Effect → Type 0) (who : Here) (st : Stanza) → ((c : Condition) → P (said_to who (error_of st c))) → (c : Option Condition)
    → (es : List Effect) → AllByRecursion P es → AllByRecursion P (unless_refused who st c es)
unless_rows P who st refusal None es all = all
unless_rows P who st refusal (Some c) es all = refused_rows P who st refusal c

-- Who leaves.

pub record Leaves (room : Room) (s : ℕ) (children : List ℕ) (P : Effect → Type 0) (Q : Occupant → Type 0) : Type 0 where
  pub item : (o : Occupant) → Q o → P (Broadcast room.number (farewell room s o children))
  pub told : (o : Occupant) → Q o
      → P (Queue s (address_text (seat_address room s o)) (seen (farewell room s o children) true room.address s (seat_address room s o)) Direct)
  pub left : P (Leave room.number s)
  pub gone : P (Set (RoomGone room.number))

leaves_rows : (room : Room) (s : ℕ) (children : List ℕ) (P : Effect → Type 0) (Q : Occupant → Type 0) → Leaves room s children P Q
    → (o : Option Occupant) → IfSome o Q → AllByRecursion P (leaves_as room s o children)
leaves_rows room s children P Q each None is = tt
leaves_rows room s children P Q each (Some o) is =
    either_all P (nat_le (length o.seats) 1) _ _
    (each.item o is, (each.left, either_all P (goes room) _ [] (each.gone, tt) tt)) (each.told o is, (each.left, tt))

pub leave_rows : (room : Room) (s : ℕ) (st : Option Stanza) (P : Effect → Type 0) (Q : Occupant → Type 0) → Leaves room s (last_words st) P Q
    → AllByRecursion Q room.occupants → AllByRecursion P (leave room s st)
leave_rows room s st P Q each all =
    leaves_rows room s (last_words st) P Q each (occupant_of s room.occupants) (found_all Q _ room.occupants all)

-- What is said.

pub record Says (room : Room) (who : Here) (st : Stanza) (keeping : Keeping) (stamp : List ℕ) (P : Effect → Type 0) (Q : Occupant → Type 0)
    : Type 0 where
  pub refusal : (c : Condition) → P (said_to who (error_of st c))
  pub item : (o : Occupant) (e : Element) → Q o → element_in st ≡ Some e
      → P (Broadcast room.number (item.Message (message_text room o keeping.row e) (has_body e) (at room.address (Some o.nick)) keeping.moment))
  pub row : (o : Occupant) (e : Element) → Q o → element_in st ≡ Some e → has_body e ≡ true
      → P (Set (RoomRow room.number (at room.address (Some o.nick)) (message_text room o keeping.row e) keeping.moment))
  pub subject : (o : Occupant) (e : Element) → Q o → element_in st ≡ Some e → is_subject e ≡ true
      → P (Set (Subject room.number (message_text room o keeping.row e) stamp))

module _ (room : Room) (who : Here) (st : Stanza) (keeping : Keeping) (stamp : List ℕ) (P : Effect → Type 0) (Q : Occupant → Type 0)
    (each : Says room who st keeping stamp P Q) where
  unsaid : (c : Condition) → AllByRecursion P (refused who st c)
  unsaid c = refused_rows P who st each.refusal c

  row_rows : (b : Bool) (from : Address) (text : List ℕ) → (b ≡ true → P (Set (RoomRow room.number from text keeping.moment)))
      → AllByRecursion P (row_if b room.number from text keeping.moment)
  row_rows false from text is = tt
  row_rows true from text is = (is refl, tt)

  subject_rows : (b : Bool) (text : List ℕ) → (b ≡ true → P (Set (Subject room.number text stamp)))
      → AllByRecursion P (subject_if b room.number text stamp)
  subject_rows false text is = tt
  subject_rows true text is = (is refl, tt)

  said_rows : (e : Element) → element_in st ≡ Some e → (o : Occupant) → Q o → AllByRecursion P (said room o keeping stamp e)
  said_rows e has o is = (
    each.item o e is has,
    append_all P (row_if (has_body e) room.number (address o) (words o e) keeping.moment) (subject_if (is_subject e) room.number (words o e) stamp)
        (row_rows (has_body e) (address o) (words o e) (each.row o e is has)) (subject_rows (is_subject e) (words o e) (each.subject o e is has)),
  )
    where
      address : Occupant → Address
      address o = at room.address (Some o.nick)

      words : Occupant → Element → List ℕ
      words o e = message_text room o keeping.row e

  says_rows : (e : Element) → element_in st ≡ Some e → (o : Option Occupant) → IfSome o Q → AllByRecursion P (says_as room who st keeping stamp e o)
  says_rows e at None is = unsaid NotAcceptable
  says_rows e at (Some o) is =
      either_all P (is_silent o.role room.config.moderated) _ _ (unsaid Forbidden)
      (either_all P (is_subject e && not (may_change_subject o.role room.config.change_subject)) _ _ (unsaid Forbidden)
      (either_all P (is_too_much room o keeping e) _ _ (unsaid ResourceConstraint) (said_rows e at o is)))

pub record Whispers (room : Room) (who : Here) (st : Stanza) (P : Effect → Type 0) (Q : Occupant → Type 0) (R : Seat → Type 0) : Type 0 where
  pub refusal : (c : Condition) → P (said_to who (error_of st c))
  pub seats : (o : Occupant) → Q o → AllByRecursion R o.seats
  pub private : (o : Occupant) (e : Element) (x : Seat) → Q o → R x → element_in st ≡ Some e → P (private_to (private_text room o e) x)

module _ (room : Room) (who : Here) (st : Stanza) (P : Effect → Type 0) (Q : Occupant → Type 0) (R : Seat → Type 0)
    (each : Whispers room who st P Q R) where
  no : (c : Condition) → AllByRecursion P (refused who st c)
  no c = refused_rows P who st each.refusal c

  whispers_rows : (e : Element) → element_in st ≡ Some e → (o : Occupant) → Q o → (other : Option Occupant) → IfSome other Q
      → AllByRecursion P (whispers room who st e o other)
  whispers_rows e at o is None has = no ItemNotFound
  whispers_rows e at o is (Some other) has =
      map_all P R (private_to (private_text room o e)) (λ x fits. each.private o e x is fits at) other.seats (each.seats other has)

  whispers_as_rows : (form : MessageForm) (e : Element) → element_in st ≡ Some e → (nick : List ℕ) (o : Option Occupant) → IfSome o Q
      → AllByRecursion Q room.occupants → AllByRecursion P (whispers_as room who st form e nick o)
  whispers_as_rows form e at nick None is all = no NotAcceptable
  whispers_as_rows form e at nick (Some o) is all =
      either_all P (is_groupchat form) _ _ (no BadRequest)
      (whispers_rows e at o is (holder_of nick room.occupants) (found_all Q _ room.occupants all))

  whispers_at_rows : (form : MessageForm) (e : Element) → element_in st ≡ Some e → (nick : Option (List ℕ)) → AllByRecursion Q room.occupants
      → AllByRecursion P (whispers_at room who st form e nick)
  whispers_at_rows form e at None all = tt
  whispers_at_rows form e at (Some nick) all =
      whispers_as_rows form e at nick (occupant_of who.session room.occupants) (found_all Q _ room.occupants all) all

pub say_rows : (room : Room) (who : Here) (st : Stanza) (keeping : Keeping) (stamp : List ℕ) (P : Effect → Type 0) (Q : Occupant → Type 0)
    → Says room who st keeping stamp P Q → AllByRecursion Q room.occupants → AllByRecursion P (say room who st keeping stamp)
say_rows room who (Message to message.Groupchat e) keeping stamp P Q each all =
    says_rows room who (Message to message.Groupchat e) keeping stamp P Q each e refl (occupant_of who.session room.occupants)
    (found_all Q _ room.occupants all)
say_rows room who (Message to message.Chat e) keeping stamp P Q each all = tt
say_rows room who (Message to message.Normal e) keeping stamp P Q each all = tt
say_rows room who (Message to message.Headline e) keeping stamp P Q each all = tt
say_rows room who (Message to message.Error e) keeping stamp P Q each all = tt
say_rows room who (Presence to form e) keeping stamp P Q each all = tt
say_rows room who (Iq to id form e) keeping stamp P Q each all = tt
say_rows room who (Faulty kind to id answered c) keeping stamp P Q each all = tt

pub direct_rows : (room : Room) (who : Here) (st : Stanza) (P : Effect → Type 0) (Q : Occupant → Type 0) (R : Seat → Type 0)
    → Whispers room who st P Q R → AllByRecursion Q room.occupants → AllByRecursion P (direct room who st)
direct_rows room who (Message (Some to) form e) P Q R each all =
    whispers_at_rows room who (Message (Some to) form e) P Q R each form e refl to.resource all
direct_rows room who (Message None form e) P Q R each all = tt
direct_rows room who (Presence to form e) P Q R each all = tt
direct_rows room who (Iq to id form e) P Q R each all = tt
direct_rows room who (Faulty kind to id answered c) P Q R each all = tt

-- What an occupant shows, and its nick.

pub record Shows (room : Room) (who : Here) (st : Stanza) (e : Element) (P : Effect → Type 0) (Q : Occupant → Type 0) : Type 0 where
  pub refusal : (c : Condition) → P (said_to who (error_of st c))
  pub shown : P (Set (OccupantShown room.number who.session (shown_children e.children)))
  pub again : (o : Occupant) → Q o → P (Broadcast room.number (shown_as who o o.nick (shown_children e.children)))
  pub item : (o : Occupant) (to : Address) (nick : List ℕ) → Q o → st ≡ Presence (Some to) presence.Available e → to.resource ≡ Some nick
      → P (Broadcast room.number (shown_as who o nick (shown_children e.children)))
  pub old : (o : Occupant) (to : Address) (nick : List ℕ) → Q o → st ≡ Presence (Some to) presence.Available e → to.resource ≡ Some nick
      → P (Broadcast room.number (old_nick who o nick (shown_children e.children)))
  pub renamed : (to : Address) (nick : List ℕ) → st ≡ Presence (Some to) presence.Available e → to.resource ≡ Some nick
      → P (Set (Renamed room.number who.session nick))

renames_rows : (room : Room) (who : Here) (to : Address) (e : Element) (P : Effect → Type 0) (Q : Occupant → Type 0)
    → Shows room who (Presence (Some to) presence.Available e) e P Q → (o : Option Occupant) → IfSome o Q → (nick : Option (List ℕ))
    → to.resource ≡ nick → AllByRecursion P (renames_by room who (Presence (Some to) presence.Available e) o e nick)
renames_rows room who to e P Q each None is nick at = tt
renames_rows room who to e P Q each (Some o) is None at = (each.shown, (each.again o is, tt))
renames_rows room who to e P Q each (Some o) is (Some nick) at =
    either_all P (bytes_eq nick o.nick) _ _ (each.shown, (each.again o is, tt))
    (either_all P (is_some (holder_of nick room.occupants)) _ _
    (refused_rows P who (Presence (Some to) presence.Available e) each.refusal Conflict)
    (each.old o to nick is refl at, (each.renamed to nick refl at, (each.shown, (each.item o to nick is refl at, tt)))))

-- Who enters, by a stanza of this element: a room that is there, or one that is made.

pub record Enters (who : Here) (st : Stanza) (e : Element) (P : Effect → Type 0) (Q : Occupant → Type 0) (W : Room → Type 0) (D : Delayed → Type 0)
    : Type 0 where
  pub refusal : (c : Condition) → P (said_to who (error_of st c))
  pub occupants : (room : Room) → W room → AllByRecursion Q room.occupants
  pub made : (room : Room) → W room → P (Set (RoomMade room.number room.address (bare who.address)))
  pub opening : (room : Room) (stay : ℕ) (role : Role) (o : Occupant) → W room → Q o → P (opening room stay who role o)
  pub enter : (room : Room) (to : Address) (nick : List ℕ) (role : Role) → st ≡ Presence (Some to) presence.Available e → to.resource ≡ Some nick
      → P (Enter room.number who.session who.address nick role)
  pub shown : (room : Room) → P (Set (OccupantShown room.number who.session (shown_children e.children)))
  pub item : (room : Room) (made : Bool) (to : Address) (nick : List ℕ) (holder : Option Occupant) → W room
      → st ≡ Presence (Some to) presence.Available e → to.resource ≡ Some nick
      → P (Broadcast room.number (entry room made who (shown_children e.children) nick holder))
  pub past : (room : Room) (stay : ℕ) (d : Delayed) → W room → D d → P (told_again room stay who d)
  pub subject : (room : Room) (stay : ℕ) → W room → P (subject_for room stay who)

-- the last of what was said, as many as are asked for
pub drop_all : {X : Type 0} (P : X → Type 0) (n : ℕ) (xs : List X) → AllByRecursion P xs → AllByRecursion P (drop n xs)
drop_all P zero xs all = all
drop_all P (suc n) [] all = tt
drop_all P (suc n) (x ∷ xs) all = drop_all P n xs all.1

limited_all : (D : Delayed → Type 0) (n : Option ℕ) (past : List Delayed) → AllByRecursion D past → AllByRecursion D (limited n past)
limited_all D None past all = all
limited_all D (Some n) past all = drop_all D (length past - n) past all

module _ (who : Here) (to : Address) (e : Element) (P : Effect → Type 0) (Q : Occupant → Type 0) (W : Room → Type 0) (D : Delayed → Type 0)
    (each : Enters who (Presence (Some to) presence.Available e) e P Q W D) where
  abbrev st : Stanza
  st = Presence (Some to) presence.Available e

  made_rows : (made : Bool) (room : Room) → W room → AllByRecursion P (made_if made room who)
  made_rows false room is = tt
  made_rows true room is = (each.made room is, tt)

  entered_rows : (room : Room) (made : Bool) (numbers : Numbers) (nick : List ℕ) (holder : Option Occupant) (past : List Delayed) → W room
      → to.resource ≡ Some nick → AllByRecursion D past
      → AllByRecursion P (entered room made numbers who (shown_children e.children) nick holder past)
  entered_rows room made numbers nick holder past is at all =
      let first : List Effect = made_if made room who ++ openings room numbers.next_stay who (entry_role room who holder) nick in
      let entry : List Effect = told_entry room made who (shown_children e.children) nick holder in
      append_all P (first ++ entry ++ history room numbers.next_stay who past) (subject_for room numbers.next_stay who ∷ [])
      (append_all P (first ++ entry) (history room numbers.next_stay who past)
      (append_all P first entry
      (append_all P (made_if made room who) (openings room numbers.next_stay who (entry_role room who holder) nick) (made_rows made room is)
      (map_all P Q (opening room numbers.next_stay who (entry_role room who holder))
      (λ o fits. each.opening room numbers.next_stay (entry_role room who holder) o is fits)
      (filter (λ o. not (has_nick nick o)) room.occupants)
      (filter_all Q (λ o. not (has_nick nick o)) room.occupants (each.occupants room is))))
      (each.enter room to nick (entry_role room who holder) refl at, (each.shown room, (each.item room made to nick holder is refl at, tt))))
      (map_all P D (told_again room numbers.next_stay who) (λ d fits. each.past room numbers.next_stay d is fits) past all))
      (each.subject room numbers.next_stay is, tt)

  enters_rows : (room : Room) (made : Bool) (numbers : Numbers) (nick : List ℕ) (past : List Delayed) → W room → to.resource ≡ Some nick
      → AllByRecursion D past → AllByRecursion P (enters room made numbers who st e nick past)
  enters_rows room made numbers nick past is at all =
      unless_rows P who st each.refusal (refusal room numbers who e nick) _
      (entered_rows room made numbers nick (holder_of nick room.occupants) (wanted_of e past) is at
      (limited_all D (limit_by (history_in e)) past all))

  enters_by_rows : (room : Option Room) (numbers : Numbers) (nick : List ℕ) (past : List Delayed) → IfSome room W
      → W (new_room numbers.next_room to who) → to.resource ≡ Some nick → AllByRecursion D past → AllByRecursion P (enters_by room numbers who st to e nick past)
  enters_by_rows (Some room) numbers nick past is new at all = enters_rows room false numbers nick past is at all
  enters_by_rows None numbers nick past is new at all =
      either_all P (nat_le most_rooms numbers.rooms) _ _ (refused_rows P who st each.refusal ResourceConstraint)
      (enters_rows (new_room numbers.next_room to who) true numbers nick [] new at tt)

  enters_at_rows : (room : Option Room) (numbers : Numbers) (nick : Option (List ℕ)) (past : List Delayed) → IfSome room W
      → W (new_room numbers.next_room to who) → to.resource ≡ nick → AllByRecursion D past
      → AllByRecursion P (enters_at room numbers who st to e nick past)
  enters_at_rows room numbers None past is new at all = refused_rows P who st each.refusal JidMalformed
  enters_at_rows room numbers (Some nick) past is new at all = enters_by_rows room numbers nick past is new at all

-- Each of them is of available presence for a room.

pub rename_rows : (room : Room) (who : Here) (st : Stanza) (P : Effect → Type 0) (Q : Occupant → Type 0)
    → ((e : Element) → element_in st ≡ Some e → Shows room who st e P Q) → AllByRecursion Q room.occupants → AllByRecursion P (rename room who st)
rename_rows room who (Presence (Some to) presence.Available e) P Q each all =
    renames_rows room who to e P Q (each e refl) (occupant_of who.session room.occupants) (found_all Q _ room.occupants all) to.resource refl
rename_rows room who (Presence None form e) P Q each all = tt
rename_rows room who (Presence (Some to) presence.Unavailable e) P Q each all = tt
rename_rows room who (Presence (Some to) presence.Subscribe e) P Q each all = tt
rename_rows room who (Presence (Some to) presence.Subscribed e) P Q each all = tt
rename_rows room who (Presence (Some to) presence.Unsubscribe e) P Q each all = tt
rename_rows room who (Presence (Some to) presence.Unsubscribed e) P Q each all = tt
rename_rows room who (Presence (Some to) presence.Probe e) P Q each all = tt
rename_rows room who (Presence (Some to) presence.Error e) P Q each all = tt
rename_rows room who (Message to form e) P Q each all = tt
rename_rows room who (Iq to id form e) P Q each all = tt
rename_rows room who (Faulty kind to id answered c) P Q each all = tt

pub enter_rows : (room : Option Room) (numbers : Numbers) (who : Here) (st : Stanza) (past : List Delayed) (P : Effect → Type 0)
    (Q : Occupant → Type 0) (W : Room → Type 0) (D : Delayed → Type 0) → ((e : Element) → element_in st ≡ Some e → Enters who st e P Q W D) → IfSome room W
    → ((to : Address) (e : Element) → st ≡ Presence (Some to) presence.Available e → W (new_room numbers.next_room to who)) → AllByRecursion D past
    → AllByRecursion P (enter room numbers who st past)
enter_rows room numbers who (Presence (Some to) presence.Available e) past P Q W D each is new all =
    enters_at_rows who to e P Q W D (each e refl) room numbers to.resource past is (new to e refl) refl all
enter_rows room numbers who (Presence None form e) past P Q W D each is new all = tt
enter_rows room numbers who (Presence (Some to) presence.Unavailable e) past P Q W D each is new all = tt
enter_rows room numbers who (Presence (Some to) presence.Subscribe e) past P Q W D each is new all = tt
enter_rows room numbers who (Presence (Some to) presence.Subscribed e) past P Q W D each is new all = tt
enter_rows room numbers who (Presence (Some to) presence.Unsubscribe e) past P Q W D each is new all = tt
enter_rows room numbers who (Presence (Some to) presence.Unsubscribed e) past P Q W D each is new all = tt
enter_rows room numbers who (Presence (Some to) presence.Probe e) past P Q W D each is new all = tt
enter_rows room numbers who (Presence (Some to) presence.Error e) past P Q W D each is new all = tt
enter_rows room numbers who (Message to form e) past P Q W D each is new all = tt
enter_rows room numbers who (Iq to id form e) past P Q W D each is new all = tt
enter_rows room numbers who (Faulty kind to id answered c) past P Q W D each is new all = tt
