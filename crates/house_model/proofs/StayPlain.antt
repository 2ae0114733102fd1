-- What comes of a stanza, and of a departure, suits the rooms as they are.
use Rattle.std.proofs.Common.{◌≡◌, ℕ, ◌+◌, if◌then◌else◌, ◌≤◌, List, [], ◌∷◌, ◌++◌, flat_map, Option, Some, None, refl, arith}
use Rattle.std.specs.Prelude.{⊤}
use Rattle.std.specs.List.{AllByRecursion}
use Rattle.jid_core.specs.Addresses.{Address, same_bare}
use Rattle.stanza_tree.specs.declared.node.Element.{Element}
use Rattle.stanza_model.specs.Stanzas.{to_in}
use Rattle.stanza_model.specs.Replies.{refused}
use Rattle.stanza_model.specs.declared.condition.Condition.TheVariants.{ItemNotFound, ServiceUnavailable, BadRequest}
use Rattle.stanza_model.specs.declared.here.Here.{Here}
use Rattle.stanza_model.specs.declared.kinds.MessageForm.{MessageForm}
use Rattle.stanza_model.specs.declared.kinds.MessageForm.TheVariants as message
use Rattle.stanza_model.specs.declared.stanza.Stanza.{Stanza}
use Rattle.contact_table.specs.Books.{bare_of}
use Rattle.presence_core.specs.Broadcasts.{asked_by}
use Rattle.muc_room.specs.Entering.{enter}
use Rattle.muc_room.specs.Leaving.{leave}
use Rattle.muc_room.specs.Renaming.{rename}
use Rattle.muc_owner.specs.Inviting.{invite}
use Rattle.muc_admin.specs.Items.{admin_space}
use Rattle.muc_owner.specs.Owning.{owner_space}
use Rattle.muc_service.specs.Rooms.{Hosted, Rooms, hosted_as, is_in}
use Rattle.archive_table.specs.Pages as pages
use Rattle.mam_wire.specs.Stamps.{stamp_text}
use Rattle.house_model.specs.ArchiveLookups.{keeping_in, past_in}
use Rattle.house_model.specs.Archives as archives
use Rattle.house_model.specs.Traffic.{KeptTraffic}
use Rattle.house_model.specs.States.{World}
use Rattle.house_model.specs.Lookups.{here, sessions_of}
use Rattle.house_model.specs.Presences.{asking, party}
use Rattle.house_model.specs.Requests.{queries}
use Rattle.house_model.specs.RoomLookups.{called, numbers_for, room_for, rooms_of}
use Rattle.house_model.specs.Routing.{Scene, absent_from, asked_of, is_invitation, present_in, to_all_in, to_no_room, to_one_in}
use Rattle.house_model.specs.Routing.{departure, effects_in, leaves_rooms, own_contacts, parted, user_removed}
use Rattle.house_model.specs.Casts.{AllSuit}
use Rattle.house_model.proofs.AdminSuits.{admin_easy, invite_easy, owner_easy}
use Rattle.house_model.proofs.EffectCases.{effects_all}
use Rattle.house_model.proofs.Founds.{append_all, either_all, every, numbers_found}
use Rattle.house_model.proofs.PresenceCases.{Covers, departure_all}
use Rattle.house_model.proofs.RoomSuits.{Easy, direct_easy, easy_suits, enter_suits, leave_easy, refused_easy, rename_suits, say_easy}
use Rattle.house_model.proofs.RosterCases.{IsSeen, Reaches, all_told_at, found_at, parted_all, party_seen, set_all, tells}
use Rattle.house_model.proofs.StayLemmas.{choose}
use Rattle.muc_service.specs.Numbering.{Numbered}
use Rattle.house_model.proofs.StayNumbers.{found_itself, none_above}

-- what comes of a stanza for a room: but for an entry and a new nick, it suits any rooms

called_easy : (o : Scene) (who : Here) (st : Stanza) (e : Element) (h : Hosted)
    → AllByRecursion Easy (if is_invitation e then invite h.room who st (called o.domain o.world e) else refused who st BadRequest)
called_easy o who st e h =
    either_all Easy (is_invitation e) _ _ (invite_easy h.room who st (called o.domain o.world e)) (refused_easy who st BadRequest)

said_easy : (o : Scene) (who : Here) (st : Stanza) (form : MessageForm) (e : Element) (found : Option Hosted)
    → AllByRecursion Easy (to_all_in o who st form e found)
said_easy o who st form e None = refused_easy who st (to_no_room form e)
said_easy o who st message.Groupchat e (Some h) = say_easy h.room who st (keeping_in o.world.archives h o.moment) (stamp_text o.moment)
said_easy o who st message.Chat e (Some h) = called_easy o who st e h
said_easy o who st message.Normal e (Some h) = called_easy o who st e h
said_easy o who st message.Headline e (Some h) = called_easy o who st e h
said_easy o who st message.Error e (Some h) = called_easy o who st e h

whispered_easy : (who : Here) (st : Stanza) (found : Option Hosted) → AllByRecursion Easy (to_one_in who st found)
whispered_easy who st None = refused_easy who st ItemNotFound
whispered_easy who st (Some h) = direct_easy h.room who st

asked_easy : (who : Here) (st : Stanza) (h : Hosted) → AllByRecursion Easy (asked_of who st (Some h))
asked_easy who st h =
    either_all Easy (queries admin_space st) _ _ (admin_easy h.room who st)
    (either_all Easy (queries owner_space st) _ _ (owner_easy h.room who st) (refused_easy who st ServiceUnavailable))

absent_easy : (who : Here) (st : Stanza) (found : Option Hosted) → AllByRecursion Easy (absent_from who st found)
absent_easy who st None = tt
absent_easy who st (Some h) = leave_easy h.room who.session (Some st)

left_easy : (s : ℕ) (st : Option Stanza) (hs : List Hosted) → AllByRecursion Easy (flat_map (λ h. leave h.room s st) hs)
left_easy s st [] = tt
left_easy s st (h ∷ hs) = append_all Easy (leave h.room s st) _ (leave_easy h.room s st) (left_easy s st hs)

pub hosted_by : (rooms : Rooms) (to : Option Address) (h : Hosted) → Numbered rooms → room_for rooms to ≡ Some h → hosted_as h.room.number rooms ≡ Some h
hosted_by rooms None h numbered is = absurd (let z : None ≡ Some h = is in cc)
hosted_by rooms (Some to) h numbered is = found_itself rooms.made (λ x. same_bare x.room.address to) rooms.hosted h numbered is

module _ (made : ℕ) (addresses : ℕ → Address) (world : World KeptTraffic) (numbered : Numbered world.rooms) (who : Here)
    (known : who.session ≤ made) (own : who.address ≡ addresses who.session) where
  abbrev rooms : Rooms
  rooms = world.rooms

  present_suits : (st : Stanza) (to : Option Address) (found : Option Hosted) → room_for rooms to ≡ found
      → AllSuit made addresses rooms (present_in world who st found)
  present_suits st to None is =
      enter_suits made addresses rooms (numbers_for rooms who.session) who refl known own None st []
      (none_above rooms.made (rooms.made + 1) rooms.hosted numbered (omega arith))
  present_suits st to (Some h) is =
      let at : hosted_as h.room.number rooms ≡ Some h = hosted_by rooms to h numbered is in
      choose (AllSuit made addresses rooms) (is_in who.session h) (rename h.room who st)
      (enter (Some h.room) (numbers_for rooms who.session) who st (past_in world.archives h))
      (λ (_ : _). rename_suits made addresses rooms h.room h at refl who st)
      (λ (out : _). enter_suits made addresses rooms (numbers_for rooms who.session) who refl known own (Some h.room) st (past_in world.archives h)
      (h, at, refl, out))

abbrev Any : {X : Type 0} → X → Type 0
Any x = ⊤

covered : (o : Scene) (s : ℕ) (x : Stanza) (made : ℕ) (addresses : ℕ → Address) → Numbered o.world.rooms → s ≤ made
    → (here o.world s).address ≡ addresses s → Covers o s x Easy (AllSuit made addresses o.world.rooms)
covered o s x made addresses numbered known own = record {
  all = λ es easy. easy_suits made addresses o.world.rooms es easy;
  refusal = λ condition. tt;
  result = tt;
  found = λ place. tt;
  told = λ place. tt;
  form = tt;
  shown = λ from rows q asked short.
      every (λ row. Easy (archives.shown_to (here o.world s) from q.queryid row)) (λ row. tt) (pages.shown rows q.filter q.ask);
  page = λ from rows q asked. tt;
  copy = λ e h at found. tt;
  plain = λ e r at found. tt;
  numbered = λ e r at found. tt;
  sent = λ e user at named. tt;
  received = λ e user at named. tt;
  presence = λ e h small found. tt;
  show = λ h found. tt;
  asked = λ own. asks (asking o.domain o.world own);
  shows = λ e priority small. tt;
  hides = tt;
  directs = λ addresses. tt;
  pairs = λ own place user mine at named. tells o.world Easy Any Any Any each (party o.domain o.world own) (party o.domain o.world user) (seen own) (seen user);
  lists = λ own. (tt, (tt, tt));
  changes = λ own mine.
      append_all Easy (parted o own (user_removed o own x)) _ (parts own (user_removed o own x))
      (set_all o.world Easy Any Any Any each (bare_of o.domain own) (own_contacts o own) (here o.world s) (sessions_of o.world own) x
      (found_at o.world (sessions_of o.world own) (numbers_found o.world own))
      (λ c. tt) tt (λ w wants whole. tt));
  said = λ form e is.
      easy_suits made addresses o.world.rooms (to_all_in o (here o.world s) x form e (room_for o.world.rooms (to_in x)))
      (said_easy o (here o.world s) x form e (room_for o.world.rooms (to_in x)));
  whispered = whispered_easy (here o.world s) x (room_for o.world.rooms (to_in x));
  asks = λ h is. easy_suits made addresses o.world.rooms (asked_of (here o.world s) x (Some h)) (asked_easy (here o.world s) x h);
  absent = λ e is short.
      easy_suits made addresses o.world.rooms (absent_from (here o.world s) x (room_for o.world.rooms (to_in x)))
      (absent_easy (here o.world s) x (room_for o.world.rooms (to_in x)));
  leaves = λ e is short es easy.
      easy_suits made addresses o.world.rooms (es ++ leaves_rooms o.world.rooms s (Some x))
      (append_all Easy es _ easy (left_easy s (Some x) (rooms_of s o.world.rooms)));
  present = λ e is short.
      present_suits made addresses o.world numbered (here o.world s) known own x (to_in x) (room_for o.world.rooms (to_in x)) refl;
}
  where
    each : Reaches o.world Easy Any Any Any
    each = record {
      sees = λ a b on. tt;
      asked = λ a b on. tt;
      contact = λ user address name groups. tt;
      no_contact = λ user address. tt;
      count = λ h at n. tt;
      item = λ h at e short. tt;
      presence = λ h at a form short. tt;
      sent = λ h at t short. tt;
      gone = λ h at. tt;
    }

    seen : (user : List ℕ) → IsSeen o.world Any Any Any (party o.domain o.world user)
    seen user = party_seen o.domain o.world user Any Any Any tt (λ a side short. tt) (λ h. tt)

    parts : (own : List ℕ) (user : Option (List ℕ)) → AllByRecursion Easy (parted o own user)
    parts own None = tt
    parts own (Some user) =
        parted_all o.world Easy Any Any Any each (party o.domain o.world own) (party o.domain o.world user) (seen own) (seen user)
        (all_told_at o.world (sessions_of o.world user) (numbers_found o.world user))

    asks : (xs : List Address) → AllByRecursion (λ a. Easy (asked_by (here o.world s) a)) xs
    asks [] = tt
    asks (a ∷ more) = (tt, asks more)

pub stanza_suits : (o : Scene) (s : ℕ) (x : Stanza) (made : ℕ) (addresses : ℕ → Address) → Numbered o.world.rooms → s ≤ made
    → (here o.world s).address ≡ addresses s → AllSuit made addresses o.world.rooms (effects_in o s x)
stanza_suits o s x made addresses numbered known own =
    effects_all o s x Easy (AllSuit made addresses o.world.rooms) (covered o s x made addresses numbered known own)

pub departure_easy : (world : World KeptTraffic) (s : ℕ) → AllByRecursion Easy (departure world s)
departure_easy world s = departure_all world s Easy (λ h found. tt) tt (λ addresses. tt) (left_easy s None (rooms_of s world.rooms))
