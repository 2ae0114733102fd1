-- What comes of presence and messages for a room fits the rooms as they are.
use Rattle.std.proofs.Common.{◌≡◌, ℕ, ◌+◌, List, [], ◌∷◌, ◌++◌, map, length, nat_le, not, ◌&&◌, sym, refl, ap, ◌∙◌, bytes_eq, Bool}
use Rattle.std.proofs.Common.{true, false, Option, Some, None, is_some}
use Rattle.std.specs.Prelude.{⊤}
use Rattle.std.specs.List.{AllByRecursion, filter}
use Rattle.jid_core.specs.Addresses.{Address, bare}
use Rattle.stanza_tree.specs.declared.node.Element.{Element}
use Rattle.stanza_model.specs.Ids.{has_body}
use Rattle.stanza_model.specs.Replies.{error_of, may_be_answered, refused, said_to}
use Rattle.stanza_model.specs.declared.condition.Condition.{Condition}
use Rattle.stanza_model.specs.declared.condition.Condition.TheVariants.{BadRequest, Conflict, Forbidden, ItemNotFound, JidMalformed, NotAcceptable}
use Rattle.stanza_model.specs.declared.condition.Condition.TheVariants.{ResourceConstraint}
use Rattle.stanza_model.specs.declared.effect.Change.TheVariants.{OccupantShown}
use Rattle.stanza_model.specs.declared.effect.Effect.{Effect}
use Rattle.stanza_model.specs.declared.effect.Effect.TheVariants.{Broadcast, Leave, Set}
use Rattle.stanza_model.specs.declared.here.Here.{Here}
use Rattle.stanza_model.specs.declared.keeping.Keeping.{Keeping}
use Rattle.stanza_model.specs.declared.kinds.MessageForm.{MessageForm}
use Rattle.stanza_model.specs.declared.kinds.MessageForm.TheVariants as message
use Rattle.stanza_model.specs.declared.kinds.PresenceForm.TheVariants as presence
use Rattle.stanza_model.specs.declared.room.Delayed.{Delayed}
use Rattle.stanza_model.specs.declared.room.Occupant.{Occupant}
use Rattle.stanza_model.specs.declared.room.Role.{Role}
use Rattle.stanza_model.specs.declared.room.Room.{Room}
use Rattle.stanza_model.specs.declared.room.Seat.{Seat}
use Rattle.stanza_model.specs.declared.stanza.Stanza.{Stanza}
use Rattle.stanza_model.specs.declared.stanza.Stanza.TheVariants.{Message, Presence, Iq, Faulty}
use Rattle.muc_room.specs.Entering.{enter, enters_at, enters_by, most_rooms, new_room, refusal, unless_refused}
use Rattle.muc_room.specs.Entries.{entry, entry_role, opening, openings, subject_for, told_entry}
use Rattle.muc_room.specs.Leaving.{farewell, goes, gone_if_empty, last_words, leave, leaves_as, occupant_leaves, seat_leaves}
use Rattle.muc_room.specs.Renaming.{rename, renamed, renames_by, shows}
use Rattle.muc_room.specs.Histories.{history, wanted_of}
use Rattle.muc_room.specs.Saying.{direct, is_groupchat, is_silent, is_subject, is_too_much, may_change_subject, message_text, private_text}
use Rattle.muc_room.specs.Saying.{private_to, row_if, said, say, says_as, subject_if, whispers, whispers_as, whispers_at}
use Rattle.muc_room.specs.Seats.{has_nick, holder_of, occupant_of}
use Rattle.muc_room.specs.Views.{at, shown_children}
use Rattle.muc_room.specs.declared.entering.Numbers.{Numbers}
use Rattle.muc_service.specs.Casting.{after}
use Rattle.muc_service.specs.Rooms.{Hosted, Rooms, entered, hosted_as, is_in, made_room, with_room}
use Rattle.house_model.specs.RoomFits.{AreOf, has_in}
use Rattle.house_model.proofs.Founds.{either_all}
use Rattle.house_model.proofs.RoomCases.{leave_rows}
use Rattle.house_model.proofs.RoomSuits.{IsMet, new_hosted}
use Rattle.house_model.proofs.RoomsThere.{AllMeet, Holds, Names, all_of, calm_of, calm_then, entered_holds, gone_of, holds_after, of_then}
use Rattle.house_model.proofs.SeatLemmas.{seats_of}
use Rattle.house_model.proofs.Sitting.{inside_is, sits, sits_one}
use Rattle.house_model.proofs.StayLemmas.{choose}
use Rattle.house_model.proofs.StayLists.{IsCalm}

-- What a room says to one of its own names no room.

pub refused_calm : (who : Here) (st : Stanza) (c : Condition) → AllByRecursion IsCalm (refused who st c)
refused_calm who st c = either_all IsCalm (may_be_answered st) (said_to who (error_of st c) ∷ []) [] (tt, tt) tt

private_calm : (rest : List ℕ) (seats : List Seat) → AllByRecursion IsCalm (map (private_to rest) seats)
private_calm rest [] = tt
private_calm rest (x ∷ seats) = (tt, private_calm rest seats)

whispers_calm : (room : Room) (who : Here) (st : Stanza) (e : Element) (o : Occupant) (other : Option Occupant)
    → AllByRecursion IsCalm (whispers room who st e o other)
whispers_calm room who st e o None = refused_calm who st ItemNotFound
whispers_calm room who st e o (Some other) = private_calm (private_text room o e) other.seats

whispers_as_calm : (room : Room) (who : Here) (st : Stanza) (form : MessageForm) (e : Element) (nick : List ℕ) (o : Option Occupant)
    → AllByRecursion IsCalm (whispers_as room who st form e nick o)
whispers_as_calm room who st form e nick None = refused_calm who st NotAcceptable
whispers_as_calm room who st form e nick (Some o) =
    either_all IsCalm (is_groupchat form) _ _ (refused_calm who st BadRequest)
    (whispers_calm room who st e o (holder_of nick room.occupants))

whispers_at_calm : (room : Room) (who : Here) (st : Stanza) (form : MessageForm) (e : Element) (nick : Option (List ℕ))
    → AllByRecursion IsCalm (whispers_at room who st form e nick)
whispers_at_calm room who st form e None = tt
whispers_at_calm room who st form e (Some nick) = whispers_as_calm room who st form e nick (occupant_of who.session room.occupants)

pub direct_calm : (room : Room) (who : Here) (st : Stanza) → AllByRecursion IsCalm (direct room who st)
direct_calm room who (Message (Some to) form e) = whispers_at_calm room who (Message (Some to) form e) form e to.resource
direct_calm room who (Message None form e) = tt
direct_calm room who (Presence to form e) = tt
direct_calm room who (Iq to id form e) = tt
direct_calm room who (Faulty kind to id answered c) = tt

-- In a room that is there.

module _ (rooms : Rooms) (room : Room) (holds : Holds rooms room.number (seats_of room.occupants)) where
  pub no : (who : Here) (st : Stanza) (c : Condition) → AreOf rooms (refused who st c)
  no who st c = calm_of (refused who st c) rooms (refused_calm who st c)

  meet : (es : List Effect) → AllMeet room.number (seats_of room.occupants) es → AreOf rooms es
  meet es is = all_of es rooms room.number (seats_of room.occupants) holds is

  sat : (s : ℕ) (o : Occupant) → occupant_of s room.occupants ≡ Some o → sits s (seats_of room.occupants) ≡ true
  sat s o is = sym (inside_is s room.occupants) ∙ ap is_some is

  -- leaving
  goes_of : (es : List Effect) → AllMeet room.number (seats_of room.occupants) es → AreOf (after rooms es) (gone_if_empty room)
  goes_of es is =
      choose (AreOf (after rooms es)) (goes room) _ []
      (λ (_ : _). gone_of [] (after rooms es) room.number _ (holds_after es rooms room.number (seats_of room.occupants) holds is) tt)
      (λ (_ : _). tt)

  leaves_of : (s : ℕ) (children : List ℕ) (o : Option Occupant) → occupant_of s room.occupants ≡ o → AreOf rooms (leaves_as room s o children)
  leaves_of s children None is = tt
  leaves_of s children (Some o) is =
      let first : List Effect = Broadcast room.number (farewell room s o children) ∷ Leave room.number s ∷ [] in
      let meets : AllMeet room.number (seats_of room.occupants) first = (refl, ((refl, sat s o is), tt)) in
      choose (AreOf rooms) (nat_le (length o.seats) 1) (occupant_leaves room s o children) (seat_leaves room s o children)
      (λ (_ : _). of_then first (gone_if_empty room) rooms (meet first meets) (goes_of first meets))
      (λ (_ : _). meet (seat_leaves room s o children) (tt, ((refl, sat s o is), tt)))

  pub leave_of : (s : ℕ) (st : Option Stanza) → AreOf rooms (leave room s st)
  leave_of s st = leaves_of s (last_words st) (occupant_of s room.occupants) refl

  -- what is said
  kept_meets : (kept subject : Bool) (from : Address) (text : List ℕ) (moment : ℕ) (stamp : List ℕ)
      → AllMeet room.number (seats_of room.occupants) (row_if kept room.number from text moment ++ subject_if subject room.number text stamp)
  kept_meets false false from text moment stamp = tt
  kept_meets false true from text moment stamp = (refl, tt)
  kept_meets true false from text moment stamp = (refl, tt)
  kept_meets true true from text moment stamp = (refl, (refl, tt))

  says_of : (who : Here) (st : Stanza) (keeping : Keeping) (stamp : List ℕ) (e : Element) (o : Option Occupant)
      → AreOf rooms (says_as room who st keeping stamp e o)
  says_of who st keeping stamp e None = no who st NotAcceptable
  says_of who st keeping stamp e (Some o) =
      choose (AreOf rooms) (is_silent o.role room.config.moderated) _ _ (λ (_ : _). no who st Forbidden)
      (λ (_ : _). choose (AreOf rooms) (is_subject e && not (may_change_subject o.role room.config.change_subject)) _ _
      (λ (_ : _). no who st Forbidden)
      (λ (_ : _). choose (AreOf rooms) (is_too_much room o keeping e) _ _ (λ (_ : _). no who st ResourceConstraint)
      (λ (_ : _). meet (said room o keeping stamp e) (
        refl,
        kept_meets (has_body e) (is_subject e) (at room.address (Some o.nick)) (message_text room o keeping.row e) keeping.moment stamp,
      ))))

  pub say_of : (who : Here) (st : Stanza) (keeping : Keeping) (stamp : List ℕ) → AreOf rooms (say room who st keeping stamp)
  say_of who (Message to message.Groupchat e) keeping stamp =
      says_of who (Message to message.Groupchat e) keeping stamp e (occupant_of who.session room.occupants)
  say_of who (Message to message.Chat e) keeping stamp = tt
  say_of who (Message to message.Normal e) keeping stamp = tt
  say_of who (Message to message.Headline e) keeping stamp = tt
  say_of who (Message to message.Error e) keeping stamp = tt
  say_of who (Presence to form e) keeping stamp = tt
  say_of who (Iq to id form e) keeping stamp = tt
  say_of who (Faulty kind to id answered c) keeping stamp = tt

  -- what an occupant shows, and its nick
  shows_of : (who : Here) (o : Occupant) (nick children : List ℕ) → occupant_of who.session room.occupants ≡ Some o
      → AreOf rooms (shows room who o nick children)
  shows_of who o nick children is = meet (shows room who o nick children) ((refl, sat who.session o is), (refl, tt))

  renames_of : (who : Here) (st : Stanza) (o : Option Occupant) → occupant_of who.session room.occupants ≡ o → (e : Element)
      → (nick : Option (List ℕ)) → AreOf rooms (renames_by room who st o e nick)
  renames_of who st None is e nick = tt
  renames_of who st (Some o) is e None = shows_of who o o.nick (shown_children e.children) is
  renames_of who st (Some o) is e (Some nick) =
      choose (AreOf rooms) (bytes_eq nick o.nick) _ _ (λ (_ : _). shows_of who o o.nick (shown_children e.children) is)
      (λ (_ : _). choose (AreOf rooms) (is_some (holder_of nick room.occupants)) _ _ (λ (_ : _). no who st Conflict)
      (λ (_ : _). meet (renamed room who o nick (shown_children e.children))
      (refl, ((refl, sat who.session o is), ((refl, sat who.session o is), (refl, tt))))))

  pub rename_of : (who : Here) (st : Stanza) → AreOf rooms (rename room who st)
  rename_of who (Presence (Some to) presence.Available e) =
      renames_of who (Presence (Some to) presence.Available e) (occupant_of who.session room.occupants) refl e to.resource
  rename_of who (Presence None form e) = tt
  rename_of who (Presence (Some to) presence.Unavailable e) = tt
  rename_of who (Presence (Some to) presence.Subscribe e) = tt
  rename_of who (Presence (Some to) presence.Subscribed e) = tt
  rename_of who (Presence (Some to) presence.Unsubscribe e) = tt
  rename_of who (Presence (Some to) presence.Unsubscribed e) = tt
  rename_of who (Presence (Some to) presence.Probe e) = tt
  rename_of who (Presence (Some to) presence.Error e) = tt
  rename_of who (Message to form e) = tt
  rename_of who (Iq to id form e) = tt
  rename_of who (Faulty kind to id answered c) = tt

-- leaving names no other room
anyone : (os : List Occupant) → AllByRecursion (λ (_ : Occupant). ⊤) os
anyone [] = tt
anyone (o ∷ os) = (tt, anyone os)

pub leave_names : (room : Room) (s : ℕ) (st : Option Stanza) → AllByRecursion (Names room.number) (leave room s st)
leave_names room s st =
    leave_rows room s st (Names room.number) (λ _. ⊤) (record { item = λ o _. refl; told = λ o _. tt; left = refl; gone = refl })
    (anyone room.occupants)

-- Entering.

openings_calm : (room : Room) (stay : ℕ) (who : Here) (role : Role) (os : List Occupant) → AllByRecursion IsCalm (map (opening room stay who role) os)
openings_calm room stay who role [] = tt
openings_calm room stay who role (o ∷ os) = (tt, openings_calm room stay who role os)

past_calm : (room : Room) (stay : ℕ) (who : Here) (past : List Delayed) → AllByRecursion IsCalm (history room stay who past)
past_calm room stay who [] = tt
past_calm room stay who (d ∷ past) = (tt, past_calm room stay who past)

module _ (rooms : Rooms) (who : Here) where
  entry_of : (room : Room) (new : Bool) (numbers : Numbers) (children nick : List ℕ) (holder : Option Occupant) (past : List Delayed) (h : Hosted)
      → hosted_as room.number rooms ≡ Some h → is_in who.session h ≡ false
      → AreOf rooms (openings room numbers.next_stay who (entry_role room who holder) nick
      ++ told_entry room new who children nick holder ++ history room numbers.next_stay who past ++ subject_for room numbers.next_stay who ∷ [])
  entry_of room new numbers children nick holder past h is out =
      let n : ℕ = room.number in
      let role : Role = entry_role room who holder in
      let x : Seat = record { session = who.session; address = who.address; stay = 0 } in
      let later : Rooms = entered n who.session who.address nick role rooms in
      let greeted : List Effect = openings room numbers.next_stay who role nick in
      let told : List Effect = told_entry room new who children nick holder in
      let shown : Effect = Set (OccupantShown n who.session children) in
      let item : Effect = Broadcast n (entry room new who children nick holder) in
      let earlier : List Effect = history room numbers.next_stay who past in
      let last : List Effect = subject_for room numbers.next_stay who ∷ [] in
      of_then (greeted ++ told ++ earlier) last rooms
      (of_then (greeted ++ told) earlier rooms
      (calm_then greeted told rooms (openings_calm room numbers.next_stay who role (filter (λ o. not (has_nick nick o)) room.occupants)) (
        (ap is_some is, ap (has_in who.session) is ∙ out),
        all_of (shown ∷ item ∷ []) later n (x ∷ []) (entered_holds rooms n who.session who.address nick role h is x refl)
            ((refl, sits_one x []), (refl, tt)),
      ))
      (calm_of earlier (after rooms (greeted ++ told)) (past_calm room numbers.next_stay who past)))
      (calm_of last (after rooms (greeted ++ told ++ earlier)) (tt, tt))

  pub unless_of : (st : Stanza) (c : Option Condition) (es : List Effect) → AreOf rooms es → AreOf rooms (unless_refused who st c es)
  unless_of st None es is = is
  unless_of st (Some c) es is = calm_of (refused who st c) rooms (refused_calm who st c)

module _ (rooms : Rooms) (numbers : Numbers) (who : Here) (next : numbers.next_room ≡ rooms.made + 1) where
  enters_of : (st : Stanza) (to : Address) (e : Element) (nick : List ℕ) (past : List Delayed) (room : Option Room) → IsMet rooms who.session room
      → AreOf rooms (enters_by room numbers who st to e nick past)
  enters_of st to e nick past (Some room) met =
      unless_of rooms who st (refusal room numbers who e nick) _
      (entry_of rooms who room false numbers (shown_children e.children) nick (holder_of nick room.occupants) (wanted_of e past) met.0 met.1 met.3)
  enters_of st to e nick past None met =
      let n : ℕ = numbers.next_room in
      let room : Room = new_room n to who in
      let later : Rooms = with_room n room.address (bare who.address) rooms in
      let out : hosted_as n rooms ≡ None = ap (λ (k : ℕ). hosted_as k rooms) next ∙ met in
      let new : Hosted = record { room = made_room n room.address (bare who.address); items = 0 } in
      choose (AreOf rooms) (nat_le most_rooms numbers.rooms) _ _
      (λ (_ : _). calm_of (refused who st ResourceConstraint) rooms (refused_calm who st ResourceConstraint))
      (λ (_ : _). unless_of rooms who st (refusal room numbers who e nick) _ (
        (next, ap is_some out),
        entry_of later who room true numbers (shown_children e.children) nick (holder_of nick room.occupants) (wanted_of e []) new
            (new_hosted n room.address (bare who.address) rooms out) refl,
      ))

  enters_at_of : (st : Stanza) (to : Address) (e : Element) (nick : Option (List ℕ)) (past : List Delayed) (room : Option Room)
      → IsMet rooms who.session room → AreOf rooms (enters_at room numbers who st to e nick past)
  enters_at_of st to e None past room met = calm_of (refused who st JidMalformed) rooms (refused_calm who st JidMalformed)
  enters_at_of st to e (Some nick) past room met = enters_of st to e nick past room met

  pub enter_of : (room : Option Room) (st : Stanza) (past : List Delayed) → IsMet rooms who.session room
      → AreOf rooms (enter room numbers who st past)
  enter_of room (Presence (Some to) presence.Available e) past met =
      enters_at_of (Presence (Some to) presence.Available e) to e to.resource past room met
  enter_of room (Presence None form e) past met = tt
  enter_of room (Presence (Some to) presence.Unavailable e) past met = tt
  enter_of room (Presence (Some to) presence.Subscribe e) past met = tt
  enter_of room (Presence (Some to) presence.Subscribed e) past met = tt
  enter_of room (Presence (Some to) presence.Unsubscribe e) past met = tt
  enter_of room (Presence (Some to) presence.Unsubscribed e) past met = tt
  enter_of room (Presence (Some to) presence.Probe e) past met = tt
  enter_of room (Presence (Some to) presence.Error e) past met = tt
  enter_of room (Message to form e) past met = tt
  enter_of room (Iq to id form e) past met = tt
  enter_of room (Faulty kind to id answered c) past met = tt
