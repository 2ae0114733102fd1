-- The effects of a room's tables suit the rooms as they are: those that suit any rooms, and then those of a new nick and of an entry.
use Rattle.std.proofs.Common.{◌≡◌, ℕ, ◌+◌, ◌≤◌, List, [], ◌∷◌, ◌++◌, map, length, nat_le, not, ◌&&◌, sym, refl, ap, ◌∙◌, subst, bytes_eq, Bool, true}
use Rattle.std.proofs.Common.{false, Option, Some, None, is_some}
use Rattle.std.specs.Prelude.{⊤}
use Rattle.std.specs.List.{AllByRecursion, filter}
use Rattle.std.specs.Option.{option_map}
use Rattle.jid_core.specs.Addresses.{Address, bare}
use Rattle.stanza_tree.specs.declared.node.Element.{Element}
use Rattle.stanza_model.specs.Ids.{has_body}
use Rattle.stanza_model.specs.Replies.{may_be_answered, error_of, said_to, refused}
use Rattle.stanza_model.specs.declared.condition.Condition.{Condition}
use Rattle.stanza_model.specs.declared.condition.Condition.TheVariants.{BadRequest, Conflict, Forbidden, ItemNotFound, JidMalformed, NotAcceptable}
use Rattle.stanza_model.specs.declared.condition.Condition.TheVariants.{ResourceConstraint}
use Rattle.stanza_model.specs.declared.effect.Change.{Change}
use Rattle.stanza_model.specs.declared.effect.Change.TheVariants.{RoomMade, Renamed}
use Rattle.stanza_model.specs.declared.effect.Effect as stanza
use Rattle.stanza_model.specs.declared.effect.Effect.TheVariants.{Queue, Broadcast, Enter, Leave, Keep, Set}
use Rattle.stanza_model.specs.declared.here.Here.{Here}
use Rattle.stanza_model.specs.declared.keeping.Keeping.{Keeping}
use Rattle.stanza_model.specs.declared.kinds.MessageForm.{MessageForm}
use Rattle.stanza_model.specs.declared.kinds.MessageForm.TheVariants as message
use Rattle.stanza_model.specs.declared.kinds.PresenceForm.TheVariants as presence
use Rattle.stanza_model.specs.declared.room.Delayed.{Delayed}
use Rattle.stanza_model.specs.declared.room.Occupant.{Occupant}
use Rattle.stanza_model.specs.declared.room.Role.{Role}
use Rattle.stanza_model.specs.declared.room.Room.{Room}
use Rattle.stanza_model.specs.declared.room.Seat.{Seat}
use Rattle.stanza_model.specs.declared.stanza.Stanza.{Stanza}
use Rattle.stanza_model.specs.declared.stanza.Stanza.TheVariants.{Message, Presence, Iq, Faulty}
use Rattle.muc_room.specs.Entering.{enter, enters_at, enters_by, most_rooms, new_room, refusal, unless_refused}
use Rattle.muc_room.specs.Entries.{entry_role, opening, openings, subject_for, told_entry}
use Rattle.muc_room.specs.Leaving.{goes, leave, leaves_as}
use Rattle.muc_room.specs.Renaming.{rename, renamed, renames_by, shows}
use Rattle.muc_room.specs.Histories.{history, wanted_of}
use Rattle.muc_room.specs.Saying.{direct, is_groupchat, is_silent, is_subject, is_too_much, may_change_subject, message_text, private_text}
use Rattle.muc_room.specs.Saying.{private_to, row_if, say, says_as, subject_if, whispers, whispers_as, whispers_at}
use Rattle.muc_room.specs.Seats.{has_nick, holder_of, occupant_of}
use Rattle.muc_room.specs.Views.{at, shown_children}
use Rattle.muc_room.specs.declared.entering.Numbers.{Numbers}
use Rattle.muc_service.specs.Rooms.{Hosted, Rooms, counted, counted_in, hosted_as, is_in, made_room, step, with_room}
use Rattle.house_model.specs.Casts.{IsNotLive, IsFreeIn, ChangeSuits, Suits, AllSuit}
use Rattle.house_model.proofs.Founds.{either_all}
use Rattle.house_model.proofs.HallLemmas.{added_is, found}
use Rattle.house_model.proofs.StayHosts.{counted_is, one_more}
use Rattle.house_model.proofs.StayLemmas.{choose, put_same}

-- effects that suit any rooms

abbrev pub EasyChange : Change → Type 0
EasyChange (RoomMade n address owner) = ⊥
EasyChange (Renamed n s nick) = ⊥
EasyChange change = ⊤

abbrev pub Easy : stanza.Effect → Type 0
Easy (Queue s to rest origin) = IsNotLive origin
Easy (Broadcast n item) = ⊤
Easy (Enter n s address nick role) = ⊥
Easy (Leave n s) = ⊤
Easy (Keep user peer text moment) = ⊤
Easy (Set change) = EasyChange change

set_easy : (rooms : Rooms) (c : Change) → EasyChange c → ChangeSuits rooms c
set_easy rooms (RoomMade n address owner) easy = absurd easy
set_easy rooms (Renamed n s nick) easy = absurd easy
set_easy rooms c easy = tt

one_easy : (made : ℕ) (addresses : ℕ → Address) (rooms : Rooms) (e : stanza.Effect) → Easy e → Suits made addresses rooms e
one_easy made addresses rooms (Queue s to rest origin) easy = easy
one_easy made addresses rooms (Broadcast n item) easy = tt
one_easy made addresses rooms (Enter n s address nick role) easy = absurd easy
one_easy made addresses rooms (Leave n s) easy = tt
one_easy made addresses rooms (Keep user peer text moment) easy = tt
one_easy made addresses rooms (Set c) easy = set_easy rooms c easy

pub easy_suits : (made : ℕ) (addresses : ℕ → Address) (rooms : Rooms) (es : List stanza.Effect) → AllByRecursion Easy es → AllSuit made addresses rooms es
easy_suits made addresses rooms [] easy = tt
easy_suits made addresses rooms (e ∷ es) easy =
    (one_easy made addresses rooms e easy.0, easy_suits made addresses (step e rooms) es easy.1)

-- what a room says to one of its own, who leaves it, and what is said in it

pub refused_easy : (who : Here) (st : Stanza) (c : Condition) → AllByRecursion Easy (refused who st c)
refused_easy who st c = either_all Easy (may_be_answered st) (said_to who (error_of st c) ∷ []) [] (tt, tt) tt

leaves_easy : (room : Room) (s : ℕ) (o : Option Occupant) (children : List ℕ) → AllByRecursion Easy (leaves_as room s o children)
leaves_easy room s None children = tt
leaves_easy room s (Some o) children =
    either_all Easy (nat_le (length o.seats) 1) _ _ (tt, (tt, either_all Easy (goes room) _ [] (tt, tt) tt)) (tt, (tt, tt))

pub leave_easy : (room : Room) (s : ℕ) (st : Option Stanza) → AllByRecursion Easy (leave room s st)
leave_easy room s st = leaves_easy room s (occupant_of s room.occupants) _

kept_easy : (kept subject : Bool) (n : ℕ) (from : Address) (text : List ℕ) (moment : ℕ) (stamp : List ℕ)
    → AllByRecursion Easy (row_if kept n from text moment ++ subject_if subject n text stamp)
kept_easy false false n from text moment stamp = tt
kept_easy false true n from text moment stamp = (tt, tt)
kept_easy true false n from text moment stamp = (tt, tt)
kept_easy true true n from text moment stamp = (tt, (tt, tt))

says_easy : (room : Room) (who : Here) (st : Stanza) (keeping : Keeping) (stamp : List ℕ) (e : Element) (o : Option Occupant)
    → AllByRecursion Easy (says_as room who st keeping stamp e o)
says_easy room who st keeping stamp e None = refused_easy who st NotAcceptable
says_easy room who st keeping stamp e (Some o) =
    either_all Easy (is_silent o.role room.config.moderated) _ _ (refused_easy who st Forbidden)
    (either_all Easy (is_subject e && not (may_change_subject o.role room.config.change_subject)) _ _ (refused_easy who st Forbidden)
    (either_all Easy (is_too_much room o keeping e) _ _ (refused_easy who st ResourceConstraint)
    (tt, kept_easy (has_body e) (is_subject e) room.number (at room.address (Some o.nick)) (message_text room o keeping.row e) keeping.moment stamp)))

pub say_easy : (room : Room) (who : Here) (st : Stanza) (keeping : Keeping) (stamp : List ℕ) → AllByRecursion Easy (say room who st keeping stamp)
say_easy room who (Message to message.Groupchat e) keeping stamp =
    says_easy room who (Message to message.Groupchat e) keeping stamp e (occupant_of who.session room.occupants)
say_easy room who (Message to message.Chat e) keeping stamp = tt
say_easy room who (Message to message.Normal e) keeping stamp = tt
say_easy room who (Message to message.Headline e) keeping stamp = tt
say_easy room who (Message to message.Error e) keeping stamp = tt
say_easy room who (Presence to form e) keeping stamp = tt
say_easy room who (Iq to id form e) keeping stamp = tt
say_easy room who (Faulty kind to id answered c) keeping stamp = tt

private_easy : (rest : List ℕ) (seats : List Seat) → AllByRecursion Easy (map (private_to rest) seats)
private_easy rest [] = tt
private_easy rest (x ∷ seats) = (tt, private_easy rest seats)

whispers_easy : (room : Room) (who : Here) (st : Stanza) (e : Element) (o : Occupant) (other : Option Occupant)
    → AllByRecursion Easy (whispers room who st e o other)
whispers_easy room who st e o None = refused_easy who st ItemNotFound
whispers_easy room who st e o (Some other) = private_easy (private_text room o e) other.seats

whispers_as_easy : (room : Room) (who : Here) (st : Stanza) (form : MessageForm) (e : Element) (nick : List ℕ) (o : Option Occupant)
    → AllByRecursion Easy (whispers_as room who st form e nick o)
whispers_as_easy room who st form e nick None = refused_easy who st NotAcceptable
whispers_as_easy room who st form e nick (Some o) =
    either_all Easy (is_groupchat form) _ _ (refused_easy who st BadRequest)
    (whispers_easy room who st e o (holder_of nick room.occupants))

whispers_at_easy : (room : Room) (who : Here) (st : Stanza) (form : MessageForm) (e : Element) (nick : Option (List ℕ))
    → AllByRecursion Easy (whispers_at room who st form e nick)
whispers_at_easy room who st form e None = tt
whispers_at_easy room who st form e (Some nick) = whispers_as_easy room who st form e nick (occupant_of who.session room.occupants)

pub direct_easy : (room : Room) (who : Here) (st : Stanza) → AllByRecursion Easy (direct room who st)
direct_easy room who (Message (Some to) form e) = whispers_at_easy room who (Message (Some to) form e) form e to.resource
direct_easy room who (Message None form e) = tt
direct_easy room who (Presence to form e) = tt
direct_easy room who (Iq to id form e) = tt
direct_easy room who (Faulty kind to id answered c) = tt

-- a new nick

-- an item that a room broadcasts changes none of its occupants
free_counted : (n : ℕ) (nick : List ℕ) (rooms : Rooms) (h : Hosted) → hosted_as n rooms ≡ Some h → is_some (holder_of nick h.room.occupants) ≡ false
    → IsFreeIn (hosted_as n (counted n rooms)) nick
free_counted n nick rooms h is free =
    let one : found n (counted_in n rooms.hosted) ≡ option_map one_more (found n rooms.hosted) =
    counted_is n rooms.hosted n ∙ put_same n (option_map one_more (found n rooms.hosted)) (λ k. found k rooms.hosted) in
    subst (λ (o : Option Hosted). IsFreeIn o nick) (sym (one ∙ ap (option_map one_more) is)) free

module _ (made : ℕ) (addresses : ℕ → Address) (rooms : Rooms) (room : Room) (h : Hosted)
    (is : hosted_as room.number rooms ≡ Some h) (same : h.room ≡ room) where
  renamed_suits : (who : Here) (o : Occupant) (nick children : List ℕ) → is_some (holder_of nick room.occupants) ≡ false
      → AllSuit made addresses rooms (renamed room who o nick children)
  renamed_suits who o nick children free =
      (tt, (free_counted room.number nick rooms h is (ap (λ (r : Room). is_some (holder_of nick r.occupants)) same ∙ free), (tt, (tt, tt))))

  shows_suits : (who : Here) (o : Occupant) (nick children : List ℕ) → AllSuit made addresses rooms (shows room who o nick children)
  shows_suits who o nick children = (tt, (tt, tt))

  renames_suits : (who : Here) (st : Stanza) (o : Option Occupant) (e : Element) (nick : Option (List ℕ))
      → AllSuit made addresses rooms (renames_by room who st o e nick)
  renames_suits who st None e nick = tt
  renames_suits who st (Some o) e None = shows_suits who o o.nick (shown_children e.children)
  renames_suits who st (Some o) e (Some nick) =
      choose (AllSuit made addresses rooms) (bytes_eq nick o.nick) _ _
      (λ (_ : _). shows_suits who o o.nick (shown_children e.children))
      (λ (_ : _). choose (AllSuit made addresses rooms) (is_some (holder_of nick room.occupants)) _ _
      (λ (_ : _). easy_suits made addresses rooms (refused who st Conflict) (refused_easy who st Conflict))
      (λ (free : _). renamed_suits who o nick (shown_children e.children) free))

  pub rename_suits : (who : Here) (st : Stanza) → AllSuit made addresses rooms (rename room who st)
  rename_suits who (Presence (Some to) presence.Available e) =
      renames_suits who (Presence (Some to) presence.Available e) (occupant_of who.session room.occupants) e to.resource
  rename_suits who (Presence None form e) = tt
  rename_suits who (Presence (Some to) presence.Unavailable e) = tt
  rename_suits who (Presence (Some to) presence.Subscribe e) = tt
  rename_suits who (Presence (Some to) presence.Subscribed e) = tt
  rename_suits who (Presence (Some to) presence.Unsubscribe e) = tt
  rename_suits who (Presence (Some to) presence.Unsubscribed e) = tt
  rename_suits who (Presence (Some to) presence.Probe e) = tt
  rename_suits who (Presence (Some to) presence.Error e) = tt
  rename_suits who (Message to form e) = tt
  rename_suits who (Iq to id form e) = tt
  rename_suits who (Faulty kind to id answered c) = tt

-- an entry

-- the room that is there, where the session has no seat; or none, where no room has the next number
abbrev pub IsMet : Rooms → (s : ℕ) → Option Room → Type 0
IsMet rooms s (Some room) = (h : Hosted) × (hosted_as room.number rooms ≡ Some h) × (h.room ≡ room) × (is_in s h ≡ false)
IsMet rooms s None = hosted_as (rooms.made + 1) rooms ≡ None

module _ (made : ℕ) (addresses : ℕ → Address) (rooms : Rooms) where
  unless_suits : (who : Here) (st : Stanza) (c : Option Condition) (es : List stanza.Effect)
      → AllSuit made addresses rooms es → AllSuit made addresses rooms (unless_refused who st c es)
  unless_suits who st None es is = is
  unless_suits who st (Some c) es is = easy_suits made addresses rooms (refused who st c) (refused_easy who st c)

  openings_suit : (room : Room) (stay : ℕ) (who : Here) (role : Role) (rest past last : List stanza.Effect) (os : List Occupant)
      → AllSuit made addresses rooms ((rest ++ past) ++ last)
      → AllSuit made addresses rooms (((map (opening room stay who role) os ++ rest) ++ past) ++ last)
  openings_suit room stay who role rest past last [] is = is
  openings_suit room stay who role rest past last (o ∷ os) is = (tt, openings_suit room stay who role rest past last os is)

  past_suits : (room : Room) (stay : ℕ) (who : Here) (past : List Delayed)
      → AllSuit made addresses rooms (history room stay who past ++ subject_for room stay who ∷ [])
  past_suits room stay who [] = (tt, tt)
  past_suits room stay who (d ∷ past) = (tt, past_suits room stay who past)

module _ (made : ℕ) (addresses : ℕ → Address) (rooms : Rooms) where
  -- an entry into the room that is there
  entry_suits : (room : Room) (new : Bool) (numbers : Numbers) (who : Here) (children nick : List ℕ) (holder : Option Occupant) (past : List Delayed)
      (h : Hosted) → hosted_as room.number rooms ≡ Some h → is_in who.session h ≡ false → who.session ≤ made → who.address ≡ addresses who.session
      → AllSuit made addresses rooms (openings room numbers.next_stay who (entry_role room who holder) nick
      ++ told_entry room new who children nick holder ++ history room numbers.next_stay who past ++ subject_for room numbers.next_stay who ∷ [])
  entry_suits room new numbers who children nick holder past h is out known own =
      openings_suit made addresses rooms room numbers.next_stay who (entry_role room who holder)
      (told_entry room new who children nick holder) (history room numbers.next_stay who past) (subject_for room numbers.next_stay who ∷ [])
      (filter (λ o. not (has_nick nick o)) room.occupants) (
        record { made = known; address = own; host = h; hosted = is; outside = out },
        (tt, (tt, past_suits made addresses _ room numbers.next_stay who past)),
      )

-- the room that is made is there, and nobody is in it
pub new_hosted : (n : ℕ) (address owner : Address) (rooms : Rooms) → hosted_as n rooms ≡ None
    → hosted_as n (with_room n address owner rooms) ≡ Some (record { room = made_room n address owner; items = 0 })
new_hosted n address owner rooms out =
    let new : Hosted = record { room = made_room n address owner; items = 0 } in
    added_is new rooms.hosted out n ∙ put_same n (Some new) (λ k. found k rooms.hosted)

module _ (made : ℕ) (addresses : ℕ → Address) (rooms : Rooms) (numbers : Numbers) (who : Here)
    (next : numbers.next_room ≡ rooms.made + 1) (known : who.session ≤ made) (own : who.address ≡ addresses who.session) where
  enters_suits : (st : Stanza) (to : Address) (e : Element) (nick : List ℕ) (past : List Delayed) (room : Option Room) → IsMet rooms who.session room
      → AllSuit made addresses rooms (enters_by room numbers who st to e nick past)
  enters_suits st to e nick past (Some room) met =
      unless_suits made addresses rooms who st (refusal room numbers who e nick) _
      (entry_suits made addresses rooms room false numbers who (shown_children e.children) nick (holder_of nick room.occupants)
      (wanted_of e past) met.0 met.1 met.3 known own)
  enters_suits st to e nick past None met =
      let n : ℕ = numbers.next_room in
      let room : Room = new_room n to who in
      let after : Rooms = with_room n room.address (bare who.address) rooms in
      let out : hosted_as n rooms ≡ None = ap (λ (k : ℕ). hosted_as k rooms) next ∙ met in
      let new : Hosted = record { room = made_room n room.address (bare who.address); items = 0 } in
      choose (AllSuit made addresses rooms) (nat_le most_rooms numbers.rooms) _ _
      (λ (_ : _). easy_suits made addresses rooms (refused who st ResourceConstraint) (refused_easy who st ResourceConstraint))
      (λ (_ : _). unless_suits made addresses rooms who st (refusal room numbers who e nick) _ (
        next,
        entry_suits made addresses after room true numbers who (shown_children e.children) nick (holder_of nick room.occupants) (wanted_of e []) new
            (new_hosted n room.address (bare who.address) rooms out) refl known own,
      ))

  enters_at_suits : (st : Stanza) (to : Address) (e : Element) (nick : Option (List ℕ)) (past : List Delayed) (room : Option Room)
      → IsMet rooms who.session room → AllSuit made addresses rooms (enters_at room numbers who st to e nick past)
  enters_at_suits st to e None past room met = easy_suits made addresses rooms (refused who st JidMalformed) (refused_easy who st JidMalformed)
  enters_at_suits st to e (Some nick) past room met = enters_suits st to e nick past room met

  pub enter_suits : (room : Option Room) (st : Stanza) (past : List Delayed) → IsMet rooms who.session room
      → AllSuit made addresses rooms (enter room numbers who st past)
  enter_suits room (Presence (Some to) presence.Available e) past met =
      enters_at_suits (Presence (Some to) presence.Available e) to e to.resource past room met
  enter_suits room (Presence None form e) past met = tt
  enter_suits room (Presence (Some to) presence.Unavailable e) past met = tt
  enter_suits room (Presence (Some to) presence.Subscribe e) past met = tt
  enter_suits room (Presence (Some to) presence.Subscribed e) past met = tt
  enter_suits room (Presence (Some to) presence.Unsubscribe e) past met = tt
  enter_suits room (Presence (Some to) presence.Unsubscribed e) past met = tt
  enter_suits room (Presence (Some to) presence.Probe e) past met = tt
  enter_suits room (Presence (Some to) presence.Error e) past met = tt
  enter_suits room (Message to form e) past met = tt
  enter_suits room (Iq to id form e) past met = tt
  enter_suits room (Faulty kind to id answered c) past met = tt
