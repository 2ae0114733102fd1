-- Of what comes of presence, requests and invitations in a room nothing is kept, and of what is said the messages with a body.
use Rattle.std.proofs.Common.{◌≡◌, ◌≤◌, ℕ, ◌==◌, List, [], ◌∷◌, ◌++◌, flat_map, length, nat_le, arith, refl, sym, Bool, true, false, not, ◌&&◌}
use Rattle.std.proofs.Common.{Option, Some, None, if◌then◌else◌}
use Rattle.std.specs.Prelude.{⊤}
use Rattle.std.specs.List.{AllByRecursion, filter}
use Rattle.jid_core.specs.Addresses.{Address}
use Rattle.stanza_tree.specs.declared.node.Element.{Element}
use Rattle.stanza_model.specs.Ids.{has_body}
use Rattle.stanza_model.specs.declared.condition.Condition.{Condition}
use Rattle.stanza_model.specs.declared.condition.Condition.TheVariants.{BadRequest, Forbidden, ItemNotFound, JidMalformed, NotAcceptable}
use Rattle.stanza_model.specs.declared.condition.Condition.TheVariants.{ResourceConstraint}
use Rattle.stanza_model.specs.declared.effect.Effect.{Effect}
use Rattle.stanza_model.specs.declared.effect.Effect.TheVariants.{Broadcast}
use Rattle.stanza_model.specs.declared.here.Here.{Here}
use Rattle.stanza_model.specs.declared.keeping.Keeping.{Keeping}
use Rattle.stanza_model.specs.declared.kinds.MessageForm.{MessageForm}
use Rattle.stanza_model.specs.declared.kinds.MessageForm.TheVariants as message
use Rattle.stanza_model.specs.declared.kinds.PresenceForm.TheVariants as presence
use Rattle.stanza_model.specs.declared.room.Delayed.{Delayed}
use Rattle.stanza_model.specs.declared.room.Occupant.{Occupant}
use Rattle.stanza_model.specs.declared.room.Room.{Room}
use Rattle.stanza_model.specs.declared.room.RoomItem.TheVariants as item
use Rattle.stanza_model.specs.declared.stanza.Stanza.{Stanza}
use Rattle.stanza_model.specs.declared.stanza.Stanza.TheVariants.{Message, Presence, Iq, Faulty}
use Rattle.muc_room.specs.Entering.{enter, enters, enters_at, enters_by, most_rooms, new_room, refusal, unless_refused}
use Rattle.muc_room.specs.Entries.{entered, entry_role, made_if, opening, openings, subject_for, told_entry}
use Rattle.muc_room.specs.Histories.{history, told_again, wanted_of}
use Rattle.muc_room.specs.Leaving.{leave}
use Rattle.muc_room.specs.Renaming.{rename}
use Rattle.muc_room.specs.Saying.{direct, is_groupchat, is_silent, is_subject, is_too_much, may_change_subject, message_text, private_text}
use Rattle.muc_room.specs.Saying.{private_to, row_if, say, says_as, subject_if, whispers, whispers_as, whispers_at}
use Rattle.muc_room.specs.Seats.{has_nick, holder_of, occupant_of}
use Rattle.muc_room.specs.Views.{at, shown_children}
use Rattle.muc_room.specs.declared.entering.Numbers.{Numbers}
use Rattle.muc_admin.specs.Administration.{admin}
use Rattle.muc_owner.specs.Inviting.{copy_to, invite}
use Rattle.muc_owner.specs.Owning.{owner}
use Rattle.muc_service.specs.Rooms.{Hosted}
use Rattle.archive_table.specs.Archives.{Said}
use Rattle.house_model.proofs.Founds.{append_all, either_all}
use Rattle.house_model.proofs.RequestCases.{Sets, admin_rows, invite_rows, owner_rows}
use Rattle.house_model.proofs.RoomCases.{leave_rows, rename_rows}
use Rattle.house_model.proofs.StayLemmas.{choose}
use Rattle.house_model.proofs.Unkept.{IsKept, Unkept, kept_none, map_unkept, refused_unkept}

abbrev Any : {X : Type 0} → X → Type 0
Any x = ⊤

any_all : {X : Type 0} (xs : List X) → AllByRecursion Any xs
any_all [] = tt
any_all (x ∷ xs) = (tt, any_all xs)

-- Who leaves, and who is shown otherwise.

pub leave_unkept : (room : Room) (s : ℕ) (st : Option Stanza) → AllByRecursion Unkept (leave room s st)
leave_unkept room s st =
    leave_rows room s st Unkept Any (record { item = λ o _. tt; told = λ o _. tt; left = tt; gone = tt }) (any_all room.occupants)

pub rooms_unkept : (s : ℕ) (st : Option Stanza) (hs : List Hosted) → AllByRecursion Unkept (flat_map (λ h. leave h.room s st) hs)
rooms_unkept s st [] = tt
rooms_unkept s st (h ∷ hs) =
    append_all Unkept (leave h.room s st) (flat_map (λ x. leave x.room s st) hs) (leave_unkept h.room s st) (rooms_unkept s st hs)

pub rename_unkept : (room : Room) (who : Here) (st : Stanza) → AllByRecursion Unkept (rename room who st)
rename_unkept room who st =
    rename_rows room who st Unkept Any
    (λ e at. record {
      refusal = λ c. tt;
      shown = tt;
      again = λ o _. tt;
      item = λ o to nick _ is has. tt;
      old = λ o to nick _ is has. tt;
      renamed = λ to nick is has. tt;
    })
    (any_all room.occupants)

-- Messages to an occupant.

whispers_unkept : (room : Room) (who : Here) (st : Stanza) (e : Element) (o : Occupant) (other : Option Occupant)
    → AllByRecursion Unkept (whispers room who st e o other)
whispers_unkept room who st e o None = refused_unkept who st ItemNotFound
whispers_unkept room who st e o (Some other) = map_unkept (private_to (private_text room o e)) (λ x. tt) other.seats

whispers_as_unkept : (room : Room) (who : Here) (st : Stanza) (form : MessageForm) (e : Element) (nick : List ℕ) (o : Option Occupant)
    → AllByRecursion Unkept (whispers_as room who st form e nick o)
whispers_as_unkept room who st form e nick None = refused_unkept who st NotAcceptable
whispers_as_unkept room who st form e nick (Some o) =
    either_all Unkept (is_groupchat form) _ _ (refused_unkept who st BadRequest)
    (whispers_unkept room who st e o (holder_of nick room.occupants))

whispers_at_unkept : (room : Room) (who : Here) (st : Stanza) (form : MessageForm) (e : Element) (nick : Option (List ℕ))
    → AllByRecursion Unkept (whispers_at room who st form e nick)
whispers_at_unkept room who st form e None = tt
whispers_at_unkept room who st form e (Some nick) = whispers_as_unkept room who st form e nick (occupant_of who.session room.occupants)

pub direct_unkept : (room : Room) (who : Here) (st : Stanza) → AllByRecursion Unkept (direct room who st)
direct_unkept room who (Message (Some to) form e) = whispers_at_unkept room who (Message (Some to) form e) form e to.resource
direct_unkept room who (Message None form e) = tt
direct_unkept room who (Presence to form e) = tt
direct_unkept room who (Iq to id form e) = tt
direct_unkept room who (Faulty kind to id answered c) = tt

-- Who enters.

unless_unkept : (who : Here) (st : Stanza) (c : Option Condition) (es : List Effect) → AllByRecursion Unkept es
    → AllByRecursion Unkept (unless_refused who st c es)
unless_unkept who st None es all = all
unless_unkept who st (Some c) es all = refused_unkept who st c

made_unkept : (made : Bool) (room : Room) (who : Here) → AllByRecursion Unkept (made_if made room who)
made_unkept false room who = tt
made_unkept true room who = (tt, tt)

entered_unkept : (room : Room) (made : Bool) (numbers : Numbers) (who : Here) (children nick : List ℕ) (holder : Option Occupant)
    (past : List Delayed) → AllByRecursion Unkept (entered room made numbers who children nick holder past)
entered_unkept room made numbers who children nick holder past =
    let greeted : List Effect = openings room numbers.next_stay who (entry_role room who holder) nick in
    let told : List Effect = told_entry room made who children nick holder in
    let before : List Effect = history room numbers.next_stay who past in
    append_all Unkept (made_if made room who ++ greeted ++ told ++ before) (subject_for room numbers.next_stay who ∷ [])
    (append_all Unkept (made_if made room who ++ greeted ++ told) before
    (append_all Unkept (made_if made room who ++ greeted) told
    (append_all Unkept (made_if made room who) greeted (made_unkept made room who)
    (map_unkept (opening room numbers.next_stay who (entry_role room who holder)) (λ o. tt) (filter (λ o. not (has_nick nick o)) room.occupants)))
    (tt, (tt, (tt, tt))))
    (map_unkept (told_again room numbers.next_stay who) (λ d. tt) past))
    (tt, tt)

enters_unkept : (room : Room) (made : Bool) (numbers : Numbers) (who : Here) (st : Stanza) (e : Element) (nick : List ℕ) (past : List Delayed)
    → AllByRecursion Unkept (enters room made numbers who st e nick past)
enters_unkept room made numbers who st e nick past =
    unless_unkept who st (refusal room numbers who e nick) _
    (entered_unkept room made numbers who (shown_children e.children) nick (holder_of nick room.occupants) (wanted_of e past))

enters_by_unkept : (room : Option Room) (numbers : Numbers) (who : Here) (st : Stanza) (to : Address) (e : Element) (nick : List ℕ)
    (past : List Delayed) → AllByRecursion Unkept (enters_by room numbers who st to e nick past)
enters_by_unkept (Some room) numbers who st to e nick past = enters_unkept room false numbers who st e nick past
enters_by_unkept None numbers who st to e nick past =
    either_all Unkept (nat_le most_rooms numbers.rooms) _ _ (refused_unkept who st ResourceConstraint)
    (enters_unkept (new_room numbers.next_room to who) true numbers who st e nick [])

enters_at_unkept : (room : Option Room) (numbers : Numbers) (who : Here) (st : Stanza) (to : Address) (e : Element) (nick : Option (List ℕ))
    (past : List Delayed) → AllByRecursion Unkept (enters_at room numbers who st to e nick past)
enters_at_unkept room numbers who st to e None past = refused_unkept who st JidMalformed
enters_at_unkept room numbers who st to e (Some nick) past = enters_by_unkept room numbers who st to e nick past

pub enter_unkept : (room : Option Room) (numbers : Numbers) (who : Here) (st : Stanza) (past : List Delayed)
    → AllByRecursion Unkept (enter room numbers who st past)
enter_unkept room numbers who (Presence (Some to) presence.Available e) past =
    enters_at_unkept room numbers who (Presence (Some to) presence.Available e) to e to.resource past
enter_unkept room numbers who (Presence None form e) past = tt
enter_unkept room numbers who (Presence (Some to) presence.Unavailable e) past = tt
enter_unkept room numbers who (Presence (Some to) presence.Subscribe e) past = tt
enter_unkept room numbers who (Presence (Some to) presence.Subscribed e) past = tt
enter_unkept room numbers who (Presence (Some to) presence.Unsubscribe e) past = tt
enter_unkept room numbers who (Presence (Some to) presence.Unsubscribed e) past = tt
enter_unkept room numbers who (Presence (Some to) presence.Probe e) past = tt
enter_unkept room numbers who (Presence (Some to) presence.Error e) past = tt
enter_unkept room numbers who (Message to form e) past = tt
enter_unkept room numbers who (Iq to id form e) past = tt
enter_unkept room numbers who (Faulty kind to id answered c) past = tt

-- Requests about a room, and invitations to it.

sets_unkept : (room : Room) → Sets room Unkept Any Any
sets_unkept room = record {
  seats = λ o _. any_all o.seats;
  role = λ o role _. tt;
  affiliation = λ o a _. tt;
  removed = λ r o a code same _ few. tt;
  left = λ r x same _. tt;
  changed = λ r o a role same _. tt;
  given = λ r o role same _. tt;
  affiliated = λ r address a same. tt;
  gone = λ r same. tt;
}

pub admin_unkept : (room : Room) (who : Here) (st : Stanza) → AllByRecursion Unkept (admin room who st)
admin_unkept room who st =
    admin_rows room who st Unkept Any Any
    (record { refusal = λ c. tt; result = tt; sets = sets_unkept room; affiliations = λ a. tt; roles = λ role. tt }) (any_all room.occupants)

pub owner_unkept : (room : Room) (who : Here) (st : Stanza) → AllByRecursion Unkept (owner room who st)
owner_unkept room who st =
    owner_rows room who st Unkept (record {
      refusal = λ c. tt;
      result = tt;
      form = tt;
      configured = λ fields right. tt;
      unlocked = tt;
      destroyed = λ reason is. tt;
      gone = tt;
    })

pub invite_unkept : (room : Room) (who : Here) (st : Stanza) (hs : List Here) → AllByRecursion Unkept (invite room who st hs)
invite_unkept room who st hs =
    invite_rows room who st hs Unkept Any Any (record {
      refusal = λ c. tt;
      sets = sets_unkept room;
      invited = λ i is. map_unkept (copy_to _) (λ h. tt) hs;
      declined = λ i is. map_unkept (copy_to _) (λ h. tt) hs;
    })
    (any_all room.occupants)

-- What is said.

few_if : (b : Bool) (x : Said) → length (if b then x ∷ [] else []) ≤ 1
few_if true x = omega arith
few_if false x = omega arith

none_if : (b : Bool) (none : List Said) → none ≡ [] → (if b then none else none) ≡ []
none_if true none is = is
none_if false none is = is

said_kept : (body subject : Bool) (n : ℕ) (from : Address) (text stamp : List ℕ) (moment : ℕ)
    → IsKept (Broadcast n (item.Message text body from moment) ∷ row_if body n from text moment ++ subject_if subject n text stamp) []
said_kept true true n from text stamp moment = record {
  messages = λ k. refl;
  keeps = refl;
  few = record { all = omega arith; users = λ user. omega arith; rooms = λ k. few_if (n == k) _; ends = tt };
}
said_kept true false n from text stamp moment = record {
  messages = λ k. refl;
  keeps = refl;
  few = record { all = omega arith; users = λ user. omega arith; rooms = λ k. few_if (n == k) _; ends = tt };
}
said_kept false true n from text stamp moment = record {
  messages = λ k. sym (none_if (n == k) [] refl);
  keeps = refl;
  few = record { all = omega arith; users = λ user. omega arith; rooms = λ k. omega arith; ends = tt };
}
said_kept false false n from text stamp moment = record {
  messages = λ k. sym (none_if (n == k) [] refl);
  keeps = refl;
  few = record { all = omega arith; users = λ user. omega arith; rooms = λ k. omega arith; ends = tt };
}

says_kept : (room : Room) (who : Here) (st : Stanza) (keeping : Keeping) (stamp : List ℕ) (e : Element) (o : Option Occupant)
    → IsKept (says_as room who st keeping stamp e o) []
says_kept room who st keeping stamp e None = kept_none _ (refused_unkept who st NotAcceptable)
says_kept room who st keeping stamp e (Some o) =
    choose (λ (es : List Effect). IsKept es []) (is_silent o.role room.config.moderated) _ _
    (λ (_ : _). kept_none _ (refused_unkept who st Forbidden))
    (λ (_ : _). choose (λ (es : List Effect). IsKept es []) (is_subject e && not (may_change_subject o.role room.config.change_subject)) _ _
    (λ (_ : _). kept_none _ (refused_unkept who st Forbidden))
    (λ (_ : _). choose (λ (es : List Effect). IsKept es []) (is_too_much room o keeping e) _ _
    (λ (_ : _). kept_none _ (refused_unkept who st ResourceConstraint))
    (λ (_ : _). said_kept (has_body e) (is_subject e) room.number (at room.address (Some o.nick)) (message_text room o keeping.row e) stamp
    keeping.moment)))

pub say_kept : (room : Room) (who : Here) (st : Stanza) (keeping : Keeping) (stamp : List ℕ) → IsKept (say room who st keeping stamp) []
say_kept room who (Message to message.Groupchat e) keeping stamp =
    says_kept room who (Message to message.Groupchat e) keeping stamp e (occupant_of who.session room.occupants)
say_kept room who (Message to message.Chat e) keeping stamp = kept_none [] tt
say_kept room who (Message to message.Normal e) keeping stamp = kept_none [] tt
say_kept room who (Message to message.Headline e) keeping stamp = kept_none [] tt
say_kept room who (Message to message.Error e) keeping stamp = kept_none [] tt
say_kept room who (Presence to form e) keeping stamp = kept_none [] tt
say_kept room who (Iq to id form e) keeping stamp = kept_none [] tt
say_kept room who (Faulty kind to id answered c) keeping stamp = kept_none [] tt
