-- What comes of one stanza makes at most one room, and at most one stay begins by it.
use Rattle.std.proofs.Common.{◌≡◌, ℕ, ◌+◌, ◌≤◌, not, if◌then◌else◌, List, [], ◌∷◌, ◌++◌, map, flat_map, Bool, true, false, Option, Some, None, refl, arith}
use Rattle.std.specs.Prelude.{⊤, nat_le, bytes_eq, is_some}
use Rattle.std.specs.List.{AllByRecursion, filter}
use Rattle.jid_core.specs.Addresses.{Address}
use Rattle.stanza_tree.specs.declared.node.Element.{Element}
use Rattle.stanza_model.specs.Stanzas.{to_in}
use Rattle.stanza_model.specs.Replies.{refused}
use Rattle.stanza_model.specs.declared.condition.Condition.{Condition}
use Rattle.stanza_model.specs.declared.condition.Condition.TheVariants.{BadRequest, Conflict, ItemNotFound, JidMalformed, ResourceConstraint}
use Rattle.stanza_model.specs.declared.condition.Condition.TheVariants.{ServiceUnavailable}
use Rattle.stanza_model.specs.declared.effect.Change.{Change}
use Rattle.stanza_model.specs.declared.effect.Change.TheVariants as change
use Rattle.stanza_model.specs.declared.effect.Effect.{Effect}
use Rattle.stanza_model.specs.declared.effect.Effect.TheVariants.{Queue, Broadcast, Enter, Leave, Keep, Set}
use Rattle.stanza_model.specs.declared.here.Here.{Here}
use Rattle.stanza_model.specs.declared.kinds.MessageForm.{MessageForm}
use Rattle.stanza_model.specs.declared.kinds.MessageForm.TheVariants as message
use Rattle.stanza_model.specs.declared.kinds.PresenceForm.TheVariants as presence
use Rattle.stanza_model.specs.declared.room.Delayed.{Delayed}
use Rattle.stanza_model.specs.declared.room.Occupant.{Occupant}
use Rattle.stanza_model.specs.declared.room.Role.{Role}
use Rattle.stanza_model.specs.declared.room.Room.{Room}
use Rattle.stanza_model.specs.declared.stanza.Stanza.{Stanza}
use Rattle.stanza_model.specs.declared.stanza.Stanza.TheVariants.{Message, Presence, Iq, Faulty}
use Rattle.contact_table.specs.Books.{bare_of}
use Rattle.presence_core.specs.Broadcasts.{asked_by}
use Rattle.muc_room.specs.Entering.{enter, enters_at, enters_by, most_rooms, new_room, refusal, unless_refused}
use Rattle.muc_room.specs.Entries.{entered, entry_role, opening, openings, subject_for, told_entry}
use Rattle.muc_room.specs.Histories.{history, wanted_of}
use Rattle.muc_room.specs.Leaving.{leave}
use Rattle.muc_room.specs.Renaming.{rename, renames_by}
use Rattle.muc_room.specs.Seats.{has_nick, holder_of, occupant_of}
use Rattle.muc_room.specs.Views.{shown_children}
use Rattle.muc_room.specs.declared.entering.Numbers.{Numbers}
use Rattle.muc_owner.specs.Inviting.{invite}
use Rattle.muc_admin.specs.Items.{admin_space}
use Rattle.muc_owner.specs.Owning.{owner_space}
use Rattle.muc_service.specs.Changing.{begins, begun_by, made_by, makes}
use Rattle.muc_service.specs.Rooms.{Hosted, is_in}
use Rattle.rsm_paging.specs.declared.ask.Row.{Row}
use Rattle.archive_table.specs.Pages.{shown}
use Rattle.mam_wire.specs.Stamps.{stamp_text}
use Rattle.house_model.specs.ArchiveLookups.{keeping_in, past_in}
use Rattle.house_model.specs.Archives.{shown_to}
use Rattle.house_model.specs.Lookups.{here, sessions_of}
use Rattle.house_model.specs.Presences.{asking, party}
use Rattle.house_model.specs.Requests.{queries}
use Rattle.house_model.specs.RoomLookups.{called, numbers_for, room_for, rooms_of}
use Rattle.house_model.specs.Routing.{Scene, absent_from, asked_of, is_invitation, present_in, to_all_in, to_no_room, to_one_in}
use Rattle.house_model.specs.Routing.{departure, effects_in, leaves_rooms, own_contacts, parted, user_removed}
use Rattle.house_model.specs.States.{World}
use Rattle.house_model.specs.Traffic.{KeptTraffic}
use Rattle.house_model.proofs.AdminSuits.{admin_easy, invite_easy, owner_easy}
use Rattle.house_model.proofs.EffectCases.{effects_all}
use Rattle.house_model.proofs.Founds.{append_all, either_all, numbers_found}
use Rattle.house_model.proofs.PresenceCases.{Covers}
use Rattle.house_model.proofs.RoomSuits.{Easy, EasyChange, direct_easy, leave_easy, refused_easy, say_easy}
use Rattle.house_model.proofs.RosterCases.{IsSeen, Reaches, all_told_at, found_at, parted_all, party_seen, set_all, tells}
use Rattle.house_model.proofs.StayLemmas.{choose}
use Rattle.house_model.proofs.StayPlain.{departure_easy}

abbrev pub IsOnce : List Effect → Type 0
IsOnce es = (made_by es ≤ 1) × (begun_by es ≤ 1)

-- nothing of either kind
abbrev IsNever : List Effect → Type 0
IsNever es = (made_by es ≡ 0) × (begun_by es ≡ 0)

change_never : (c : Change) → EasyChange c → makes (Set c) ≡ 0
change_never (change.RoomMade n address owner) easy = absurd easy
change_never c easy = refl

one_never : (e : Effect) → Easy e → (makes e ≡ 0) × (begins e ≡ 0)
one_never (Queue s to rest origin) easy = (refl, refl)
one_never (Broadcast n item) easy = (refl, refl)
one_never (Enter n s address nick role) easy = absurd easy
one_never (Leave n s) easy = (refl, refl)
one_never (Keep user peer text moment) easy = (refl, refl)
one_never (Set c) easy = (change_never c easy, refl)

easy_never : (es : List Effect) → AllByRecursion Easy es → IsNever es
easy_never [] easy = (refl, refl)
easy_never (e ∷ es) easy =
    let one = one_never e easy.0 in
    let rest = easy_never es easy.1 in
    (omega (arith, one.0, rest.0), omega (arith, one.1, rest.1))

easy_once : (es : List Effect) → AllByRecursion Easy es → IsOnce es
easy_once es easy =
    let never = easy_never es easy in
    (omega (arith, never.0), omega (arith, never.1))

-- an entry

made_append : (xs ys : List Effect) → made_by (xs ++ ys) ≡ made_by xs + made_by ys
made_append [] ys = omega arith
made_append (x ∷ xs) ys =
    let more = made_append xs ys in
    omega (arith, more)

begun_append : (xs ys : List Effect) → begun_by (xs ++ ys) ≡ begun_by xs + begun_by ys
begun_append [] ys = omega arith
begun_append (x ∷ xs) ys =
    let more = begun_append xs ys in
    omega (arith, more)

openings_never : (room : Room) (stay : ℕ) (who : Here) (role : Role) (os : List Occupant) → IsNever (map (opening room stay who role) os)
openings_never room stay who role [] = (refl, refl)
openings_never room stay who role (o ∷ os) =
    let more = openings_never room stay who role os in
    (omega (arith, more.0), omega (arith, more.1))

past_never : (room : Room) (stay : ℕ) (who : Here) (past : List Delayed) → IsNever (history room stay who past)
past_never room stay who [] = (refl, refl)
past_never room stay who (d ∷ past) =
    let more = past_never room stay who past in
    (omega (arith, more.0), omega (arith, more.1))

-- what is in the middle begins one stay, and nothing else here makes a room or begins a stay
module _ (before told past : List Effect) (last : Effect) (first : IsNever before) (begins_one : (made_by told ≡ 0) × (begun_by told ≡ 1))
    (earlier : IsNever past) (end : (makes last ≡ 0) × (begins last ≡ 0)) where
  parts_made : made_by (before ++ told ++ past ++ last ∷ []) ≡ 0
  parts_made =
      let all = made_append (before ++ told ++ past) (last ∷ []) in
      let three = made_append (before ++ told) past in
      let two = made_append before told in
      omega (arith, all, three, two, first.0, begins_one.0, earlier.0, end.0)

  parts_begun : begun_by (before ++ told ++ past ++ last ∷ []) ≡ 1
  parts_begun =
      let all = begun_append (before ++ told ++ past) (last ∷ []) in
      let three = begun_append (before ++ told) past in
      let two = begun_append before told in
      omega (arith, all, three, two, first.1, begins_one.1, earlier.1, end.1)

module _ (numbers : Numbers) (who : Here) where
  entry_counts : (room : Room) (made : Bool) (children nick : List ℕ) (holder : Option Occupant) (past : List Delayed)
      → (made_by (openings room numbers.next_stay who (entry_role room who holder) nick ++ told_entry room made who children nick holder
      ++ history room numbers.next_stay who past ++ subject_for room numbers.next_stay who ∷ []) ≡ 0)
      × (begun_by (openings room numbers.next_stay who (entry_role room who holder) nick ++ told_entry room made who children nick holder
      ++ history room numbers.next_stay who past ++ subject_for room numbers.next_stay who ∷ []) ≡ 1)
  entry_counts room made children nick holder past =
      let before : List Effect = openings room numbers.next_stay who (entry_role room who holder) nick in
      let told : List Effect = told_entry room made who children nick holder in
      let earlier : List Effect = history room numbers.next_stay who past in
      let last : Effect = subject_for room numbers.next_stay who in
      let none : IsNever before = openings_never room numbers.next_stay who (entry_role room who holder)
      (filter (λ o. not (has_nick nick o)) room.occupants) in
      let past_none : IsNever earlier = past_never room numbers.next_stay who past in
      (parts_made before told earlier last none (refl, refl) past_none (refl, refl), parts_begun before told earlier last none (refl, refl) past_none (refl, refl))

  entry_once : (room : Room) (made : Bool) (children nick : List ℕ) (holder : Option Occupant) (past : List Delayed)
      → IsOnce (entered room made numbers who children nick holder past)
  entry_once room false children nick holder past =
      let counts = entry_counts room false children nick holder past in
      (omega (arith, counts.0), omega (arith, counts.1))
  entry_once room true children nick holder past =
      let counts = entry_counts room true children nick holder past in
      (omega (arith, counts.0), omega (arith, counts.1))

  unless_once : (st : Stanza) (c : Option Condition) (es : List Effect) → IsOnce es → IsOnce (unless_refused who st c es)
  unless_once st None es is = is
  unless_once st (Some c) es is = easy_once (refused who st c) (refused_easy who st c)

  enters_once : (st : Stanza) (to : Address) (e : Element) (nick : List ℕ) (room : Option Room) (past : List Delayed)
      → IsOnce (enters_by room numbers who st to e nick past)
  enters_once st to e nick (Some room) past =
      unless_once st (refusal room numbers who e nick) _
      (entry_once room false (shown_children e.children) nick (holder_of nick room.occupants) (wanted_of e past))
  enters_once st to e nick None past =
      let room : Room = new_room numbers.next_room to who in
      choose IsOnce (nat_le most_rooms numbers.rooms) _ _
      (λ (_ : _). easy_once (refused who st ResourceConstraint) (refused_easy who st ResourceConstraint))
      (λ (_ : _). unless_once st (refusal room numbers who e nick) _
      (entry_once room true (shown_children e.children) nick (holder_of nick room.occupants) (wanted_of e [])))

  enters_at_once : (st : Stanza) (to : Address) (e : Element) (nick : Option (List ℕ)) (room : Option Room) (past : List Delayed)
      → IsOnce (enters_at room numbers who st to e nick past)
  enters_at_once st to e None room past = easy_once (refused who st JidMalformed) (refused_easy who st JidMalformed)
  enters_at_once st to e (Some nick) room past = enters_once st to e nick room past

  enter_once : (room : Option Room) (st : Stanza) (past : List Delayed) → IsOnce (enter room numbers who st past)
  enter_once room (Presence (Some to) presence.Available e) past =
      enters_at_once (Presence (Some to) presence.Available e) to e to.resource room past
  enter_once room (Presence None form e) past = (omega arith, omega arith)
  enter_once room (Presence (Some to) presence.Unavailable e) past = (omega arith, omega arith)
  enter_once room (Presence (Some to) presence.Subscribe e) past = (omega arith, omega arith)
  enter_once room (Presence (Some to) presence.Subscribed e) past = (omega arith, omega arith)
  enter_once room (Presence (Some to) presence.Unsubscribe e) past = (omega arith, omega arith)
  enter_once room (Presence (Some to) presence.Unsubscribed e) past = (omega arith, omega arith)
  enter_once room (Presence (Some to) presence.Probe e) past = (omega arith, omega arith)
  enter_once room (Presence (Some to) presence.Error e) past = (omega arith, omega arith)
  enter_once room (Message to form e) past = (omega arith, omega arith)
  enter_once room (Iq to id form e) past = (omega arith, omega arith)
  enter_once room (Faulty kind to id answered c) past = (omega arith, omega arith)

-- another nick

renames_once : (room : Room) (who : Here) (st : Stanza) (o : Option Occupant) (e : Element) (nick : Option (List ℕ))
    → IsOnce (renames_by room who st o e nick)
renames_once room who st None e nick = (omega arith, omega arith)
renames_once room who st (Some o) e None = (omega arith, omega arith)
renames_once room who st (Some o) e (Some nick) =
    choose IsOnce (bytes_eq nick o.nick) _ _
    (λ (_ : _). (omega arith, omega arith))
    (λ (_ : _). choose IsOnce (is_some (holder_of nick room.occupants)) _ _
    (λ (_ : _). easy_once (refused who st Conflict) (refused_easy who st Conflict))
    (λ (_ : _). (omega arith, omega arith)))

rename_once : (room : Room) (who : Here) (st : Stanza) → IsOnce (rename room who st)
rename_once room who (Presence (Some to) presence.Available e) =
    renames_once room who (Presence (Some to) presence.Available e) (occupant_of who.session room.occupants) e to.resource
rename_once room who (Presence None form e) = (omega arith, omega arith)
rename_once room who (Presence (Some to) presence.Unavailable e) = (omega arith, omega arith)
rename_once room who (Presence (Some to) presence.Subscribe e) = (omega arith, omega arith)
rename_once room who (Presence (Some to) presence.Subscribed e) = (omega arith, omega arith)
rename_once room who (Presence (Some to) presence.Unsubscribe e) = (omega arith, omega arith)
rename_once room who (Presence (Some to) presence.Unsubscribed e) = (omega arith, omega arith)
rename_once room who (Presence (Some to) presence.Probe e) = (omega arith, omega arith)
rename_once room who (Presence (Some to) presence.Error e) = (omega arith, omega arith)
rename_once room who (Message to form e) = (omega arith, omega arith)
rename_once room who (Iq to id form e) = (omega arith, omega arith)
rename_once room who (Faulty kind to id answered c) = (omega arith, omega arith)

present_once : (world : World KeptTraffic) (who : Here) (st : Stanza) (found : Option Hosted) → IsOnce (present_in world who st found)
present_once world who st None = enter_once (numbers_for world.rooms who.session) who None st []
present_once world who st (Some h) =
    choose IsOnce (is_in who.session h) (rename h.room who st)
    (enter (Some h.room) (numbers_for world.rooms who.session) who st (past_in world.archives h))
    (λ (_ : _). rename_once h.room who st)
    (λ (_ : _). enter_once (numbers_for world.rooms who.session) who (Some h.room) st (past_in world.archives h))

-- all others

called_easy : (o : Scene) (who : Here) (st : Stanza) (e : Element) (h : Hosted)
    → AllByRecursion Easy (if is_invitation e then invite h.room who st (called o.domain o.world e) else refused who st BadRequest)
called_easy o who st e h =
    either_all Easy (is_invitation e) _ _ (invite_easy h.room who st (called o.domain o.world e)) (refused_easy who st BadRequest)

said_easy : (o : Scene) (who : Here) (st : Stanza) (form : MessageForm) (e : Element) (found : Option Hosted)
    → AllByRecursion Easy (to_all_in o who st form e found)
said_easy o who st form e None = refused_easy who st (to_no_room form e)
said_easy o who st message.Groupchat e (Some h) = say_easy h.room who st (keeping_in o.world.archives h o.moment) (stamp_text o.moment)
said_easy o who st message.Chat e (Some h) = called_easy o who st e h
said_easy o who st message.Normal e (Some h) = called_easy o who st e h
said_easy o who st message.Headline e (Some h) = called_easy o who st e h
said_easy o who st message.Error e (Some h) = called_easy o who st e h

whispered_easy : (who : Here) (st : Stanza) (found : Option Hosted) → AllByRecursion Easy (to_one_in who st found)
whispered_easy who st None = refused_easy who st ItemNotFound
whispered_easy who st (Some h) = direct_easy h.room who st

asked_easy : (who : Here) (st : Stanza) (h : Hosted) → AllByRecursion Easy (asked_of who st (Some h))
asked_easy who st h =
    either_all Easy (queries admin_space st) _ _ (admin_easy h.room who st)
    (either_all Easy (queries owner_space st) _ _ (owner_easy h.room who st) (refused_easy who st ServiceUnavailable))

absent_easy : (who : Here) (st : Stanza) (found : Option Hosted) → AllByRecursion Easy (absent_from who st found)
absent_easy who st None = tt
absent_easy who st (Some h) = leave_easy h.room who.session (Some st)

left_easy : (s : ℕ) (st : Option Stanza) (hs : List Hosted) → AllByRecursion Easy (flat_map (λ h. leave h.room s st) hs)
left_easy s st [] = tt
left_easy s st (h ∷ hs) = append_all Easy (leave h.room s st) _ (leave_easy h.room s st) (left_easy s st hs)

abbrev Any : {X : Type 0} → X → Type 0
Any x = ⊤

covered : (o : Scene) (s : ℕ) (x : Stanza) → Covers o s x Easy IsOnce
covered o s x = record {
  all = easy_once;
  refusal = λ condition. tt;
  result = tt;
  found = λ place. tt;
  told = λ place. tt;
  form = tt;
  shown = λ from rows q asked short. rows_easy (here o.world s) from q.queryid (shown rows q.filter q.ask);
  page = λ from rows q asked. tt;
  copy = λ e h at found. tt;
  plain = λ e r at found. tt;
  numbered = λ e r at found. tt;
  sent = λ e user at own. tt;
  received = λ e user at there. tt;
  presence = λ e h small found. tt;
  show = λ h found. tt;
  asked = λ own. asks (asking o.domain o.world own);
  shows = λ e priority small. tt;
  hides = tt;
  directs = λ addresses. tt;
  pairs = λ own place user mine at named. tells o.world Easy Any Any Any each (party o.domain o.world own) (party o.domain o.world user) (seen own) (seen user);
  lists = λ own. (tt, (tt, tt));
  changes = λ own mine.
      append_all Easy (parted o own (user_removed o own x)) _ (parts own (user_removed o own x))
      (set_all o.world Easy Any Any Any each (bare_of o.domain own) (own_contacts o own) (here o.world s) (sessions_of o.world own) x
      (found_at o.world (sessions_of o.world own) (numbers_found o.world own))
      (λ c. tt) tt (λ w wants whole. tt));
  said = λ form e is. easy_once _ (said_easy o (here o.world s) x form e (room_for o.world.rooms (to_in x)));
  whispered = whispered_easy (here o.world s) x (room_for o.world.rooms (to_in x));
  asks = λ h is. easy_once _ (asked_easy (here o.world s) x h);
  absent = λ e is short.
      easy_once (absent_from (here o.world s) x (room_for o.world.rooms (to_in x)))
      (absent_easy (here o.world s) x (room_for o.world.rooms (to_in x)));
  leaves = λ e is short es easy.
      easy_once (es ++ leaves_rooms o.world.rooms s (Some x)) (append_all Easy es _ easy (left_easy s (Some x) (rooms_of s o.world.rooms)));
  present = λ e is short. present_once o.world (here o.world s) x (room_for o.world.rooms (to_in x));
}
  where
    each : Reaches o.world Easy Any Any Any
    each = record {
      sees = λ a b on. tt;
      asked = λ a b on. tt;
      contact = λ user address name groups. tt;
      no_contact = λ user address. tt;
      count = λ h at n. tt;
      item = λ h at e short. tt;
      presence = λ h at a form short. tt;
      sent = λ h at t short. tt;
      gone = λ h at. tt;
    }

    seen : (user : List ℕ) → IsSeen o.world Any Any Any (party o.domain o.world user)
    seen user = party_seen o.domain o.world user Any Any Any tt (λ a side short. tt) (λ h. tt)

    parts : (own : List ℕ) (user : Option (List ℕ)) → AllByRecursion Easy (parted o own user)
    parts own None = tt
    parts own (Some user) =
        parted_all o.world Easy Any Any Any each (party o.domain o.world own) (party o.domain o.world user) (seen own) (seen user)
        (all_told_at o.world (sessions_of o.world user) (numbers_found o.world user))

    rows_easy : (who : Here) (from : Option Address) (queryid : Option (List ℕ)) (rows : List Row)
        → AllByRecursion (λ row. Easy (shown_to who from queryid row)) rows
    rows_easy who from queryid [] = tt
    rows_easy who from queryid (row ∷ more) = (tt, rows_easy who from queryid more)

    asks : (xs : List Address) → AllByRecursion (λ a. Easy (asked_by (here o.world s) a)) xs
    asks [] = tt
    asks (a ∷ more) = (tt, asks more)

pub stanza_once : (o : Scene) (s : ℕ) (x : Stanza) → IsOnce (effects_in o s x)
stanza_once o s x = effects_all o s x Easy IsOnce (covered o s x)

pub departure_once : (world : World KeptTraffic) (s : ℕ) → IsOnce (departure world s)
departure_once world s = easy_once (departure world s) (departure_easy world s)
