-- What comes of a stanza, and of a departure, keeps the affiliations of each room to their limit.
use Rattle.std.proofs.Common.{◌≡◌, ℕ, List, [], ◌∷◌, ◌++◌, flat_map, refl, arith, length-append, Option, Some, None, IfSome, if◌then◌else◌}
use Rattle.std.specs.Prelude.{⊤}
use Rattle.std.specs.List.{AllByRecursion}
use Rattle.jid_core.specs.Addresses.{Address, bare, local_text, resource_text}
use Rattle.stanza_tree.specs.declared.node.Element.{Element}
use Rattle.stanza_model.specs.Replies.{refused}
use Rattle.stanza_model.specs.Stanzas.{to_in}
use Rattle.stanza_model.specs.declared.condition.Condition.TheVariants.{BadRequest, ItemNotFound, ServiceUnavailable}
use Rattle.stanza_model.specs.declared.here.Here.{Here}
use Rattle.stanza_model.specs.declared.keeping.Keeping.{Keeping}
use Rattle.stanza_model.specs.declared.kinds.MessageForm.{MessageForm}
use Rattle.stanza_model.specs.declared.kinds.MessageForm.TheVariants as message
use Rattle.stanza_model.specs.declared.room.Delayed.{Delayed}
use Rattle.stanza_model.specs.declared.room.Room.{Room}
use Rattle.stanza_model.specs.declared.stanza.Stanza.{Stanza}
use Rattle.contact_table.specs.Books.{bare_of}
use Rattle.presence_core.specs.Broadcasts.{asked_by}
use Rattle.muc_room.specs.Entering.{enter}
use Rattle.muc_room.specs.Leaving.{leave}
use Rattle.muc_room.specs.Renaming.{rename}
use Rattle.muc_room.specs.Saying.{say}
use Rattle.muc_admin.specs.Administration.{admin}
use Rattle.muc_owner.specs.Inviting.{invite}
use Rattle.muc_admin.specs.Items.{admin_space}
use Rattle.muc_owner.specs.Owning.{owner, owner_space}
use Rattle.muc_service.specs.Rooms.{Hosted, Rooms, hosted_as, is_in}
use Rattle.archive_table.specs.Pages as pages
use Rattle.mam_wire.specs.Stamps.{stamp_text}
use Rattle.house_model.specs.ArchiveLookups.{keeping_in, past_in}
use Rattle.house_model.specs.Archives as archives
use Rattle.house_model.specs.Fitting.{IsShortAddress}
use Rattle.house_model.specs.Traffic.{KeptTraffic}
use Rattle.house_model.specs.States.{World}
use Rattle.house_model.specs.Lookups.{here, sessions_of}
use Rattle.house_model.specs.Presences.{asking, party}
use Rattle.house_model.specs.Requests.{queries}
use Rattle.house_model.specs.RoomLookups.{called, numbers_for, room_for, rooms_of}
use Rattle.house_model.specs.Routing.{Scene, absent_from, asked_of, departure, effects_in, is_invitation, own_contacts, parted, present_in, to_all_in}
use Rattle.house_model.specs.Routing.{leaves_rooms, to_no_room, to_one_in, user_removed}
use Rattle.house_model.proofs.AffiliationCases.{Mild, admin_sums, invite_sums, mild_sums, refused_mild}
use Rattle.house_model.proofs.AffiliationSums.{AllKeepSums}
use Rattle.house_model.proofs.EffectCases.{effects_all}
use Rattle.house_model.proofs.Founds.{append_all, either_all, every, numbers_found}
use Rattle.house_model.proofs.PresenceCases.{Covers, departure_all}
use Rattle.house_model.proofs.RequestCases.{owner_rows}
use Rattle.house_model.proofs.RoomCases.{Enters, Says, Shows, Whispers, direct_rows, enter_rows, leave_rows, rename_rows, say_rows}
use Rattle.house_model.proofs.RosterCases.{IsSeen, Reaches, all_told_at, found_at, parted_all, party_seen, set_all, tells}
use Rattle.house_model.proofs.StayLemmas.{choose}
use Rattle.muc_service.specs.Numbering.{Numbered}
use Rattle.house_model.proofs.StayPlain.{hosted_by}

abbrev Any : {X : Type 0} → X → Type 0
Any x = ⊤

any_all : {X : Type 0} (xs : List X) → AllByRecursion Any xs
any_all [] = tt
any_all (x ∷ xs) = (tt, any_all xs)

-- what a room's tables give that sets no affiliation

leave_mild : (room : Room) (s : ℕ) (st : Option Stanza) → AllByRecursion Mild (leave room s st)
leave_mild room s st =
    leave_rows room s st Mild Any (record { item = λ o is. tt; told = λ o is. tt; left = tt; gone = tt }) (any_all room.occupants)

left_mild : (s : ℕ) (st : Option Stanza) (hs : List Hosted) → AllByRecursion Mild (flat_map (λ h. leave h.room s st) hs)
left_mild s st [] = tt
left_mild s st (h ∷ hs) = append_all Mild (leave h.room s st) _ (leave_mild h.room s st) (left_mild s st hs)

module _ (who : Here) (st : Stanza) where
  says : (room : Room) (keeping : Keeping) (stamp : List ℕ) → Says room who st keeping stamp Mild Any
  says room keeping stamp = record {
    refusal = λ c. tt;
    item = λ o e is at. tt;
    row = λ o e is at has. tt;
    subject = λ o e is at has. tt;
  }

  whispers : (room : Room) → Whispers room who st Mild Any Any
  whispers room = record { refusal = λ c. tt; seats = λ o is. any_all o.seats; private = λ o e x is here at. tt }

  say_mild : (room : Room) (keeping : Keeping) (stamp : List ℕ) → AllByRecursion Mild (say room who st keeping stamp)
  say_mild room keeping stamp = say_rows room who st keeping stamp Mild Any (says room keeping stamp) (any_all room.occupants)

  one_mild : (found : Option Hosted) → AllByRecursion Mild (to_one_in who st found)
  one_mild None = refused_mild who st ItemNotFound
  one_mild (Some h) = direct_rows h.room who st Mild Any Any (whispers h.room) (any_all h.room.occupants)

  absent_mild : (found : Option Hosted) → AllByRecursion Mild (absent_from who st found)
  absent_mild None = tt
  absent_mild (Some h) = leave_mild h.room who.session (Some st)

  owner_mild : (room : Room) → AllByRecursion Mild (owner room who st)
  owner_mild room = owner_rows room who st Mild (record {
    refusal = λ c. tt;
    result = tt;
    form = tt;
    configured = λ fields right. tt;
    unlocked = tt;
    destroyed = λ reason is. tt;
    gone = tt;
  })

  shows_mild : (room : Room) (e : Element) → Shows room who st e Mild Any
  shows_mild room e = record {
    refusal = λ c. tt;
    shown = tt;
    again = λ o is. tt;
    item = λ o to nick is at named. tt;
    old = λ o to nick is at named. tt;
    renamed = λ to nick at named. tt;
  }

  -- who makes a room owns it
  module _ (own : IsShortAddress who.address) where
    owner_short : IsShortAddress (bare who.address)
    owner_short =
        omega (
          arith,
          own,
          length-append (local_text who.address.local ++ who.address.domain) (resource_text who.address.resource),
          length-append (local_text who.address.local ++ who.address.domain) [],
        )

    enters_mild : (e : Element) → Enters who st e Mild Any Any Any
    enters_mild e = record {
      refusal = λ c. tt;
      occupants = λ room is. any_all room.occupants;
      made = λ room is. owner_short;
      opening = λ room stay role o is here. tt;
      enter = λ room to nick role at named. tt;
      shown = λ room. tt;
      item = λ room made to nick holder is at named. tt;
      past = λ room stay d is fits. tt;
      subject = λ room stay is. tt;
    }

    enter_mild : (rooms : Rooms) (room : Option Room) (past : List Delayed) → IfSome room Any
        → AllByRecursion Mild (enter room (numbers_for rooms who.session) who st past)
    enter_mild rooms room past is =
        enter_rows room (numbers_for rooms who.session) who st past Mild Any Any Any (λ e at. enters_mild e) is (λ to e at. tt) (any_all past)

    present_mild : (world : World KeptTraffic) (found : Option Hosted) → AllByRecursion Mild (present_in world who st found)
    present_mild world None = enter_mild world.rooms None [] tt
    present_mild world (Some h) =
        either_all Mild (is_in who.session h) (rename h.room who st)
        (enter (Some h.room) (numbers_for world.rooms who.session) who st (past_in world.archives h))
        (rename_rows h.room who st Mild Any (λ e at. shows_mild h.room e) (any_all h.room.occupants))
        (enter_mild world.rooms (Some h.room) (past_in world.archives h) tt)

-- what is said in a room, and what comes of a request to it

module _ (o : Scene) (who : Here) (st : Stanza) (numbered : Numbered o.world.rooms) where
  no_sums : (c : _) → AllKeepSums o.world.rooms (refused who st c)
  no_sums c = mild_sums (refused who st c) o.world.rooms (refused_mild who st c)

  invited_sums : (e : Element) (h : Hosted) → hosted_as h.room.number o.world.rooms ≡ Some h
      → AllKeepSums o.world.rooms (if is_invitation e then invite h.room who st (called o.domain o.world e) else refused who st BadRequest)
  invited_sums e h at =
      choose (AllKeepSums o.world.rooms) (is_invitation e) (invite h.room who st (called o.domain o.world e)) (refused who st BadRequest)
      (λ (_ : _). invite_sums o.world.rooms h at who st (called o.domain o.world e)) (λ (_ : _). no_sums BadRequest)

  said_by : (form : MessageForm) (e : Element) (found : Option Hosted) → IfSome found (λ h. hosted_as h.room.number o.world.rooms ≡ Some h)
      → AllKeepSums o.world.rooms (to_all_in o who st form e found)
  said_by form e None at = no_sums (to_no_room form e)
  said_by message.Groupchat e (Some h) at =
      let keeping : Keeping = keeping_in o.world.archives h o.moment in
      mild_sums (say h.room who st keeping (stamp_text o.moment)) o.world.rooms (say_mild who st h.room keeping (stamp_text o.moment))
  said_by message.Chat e (Some h) at = invited_sums e h at
  said_by message.Normal e (Some h) at = invited_sums e h at
  said_by message.Headline e (Some h) at = invited_sums e h at
  said_by message.Error e (Some h) at = invited_sums e h at

  itself : (found : Option Hosted) → room_for o.world.rooms (to_in st) ≡ found → IfSome found (λ h. hosted_as h.room.number o.world.rooms ≡ Some h)
  itself None at = tt
  itself (Some h) at = hosted_by o.world.rooms (to_in st) h numbered at

  said_sums : (form : MessageForm) (e : Element) → AllKeepSums o.world.rooms (to_all_in o who st form e (room_for o.world.rooms (to_in st)))
  said_sums form e = said_by form e (room_for o.world.rooms (to_in st)) (itself (room_for o.world.rooms (to_in st)) refl)

  asked_sums : (h : Hosted) → room_for o.world.rooms (to_in st) ≡ Some h → AllKeepSums o.world.rooms (asked_of who st (Some h))
  asked_sums h at =
      choose (AllKeepSums o.world.rooms) (queries admin_space st) (admin h.room who st)
      (if queries owner_space st then owner h.room who st else refused who st ServiceUnavailable)
      (λ (_ : _). admin_sums o.world.rooms h (hosted_by o.world.rooms (to_in st) h numbered at) who st)
      (λ (_ : _). mild_sums (if queries owner_space st then owner h.room who st else refused who st ServiceUnavailable) o.world.rooms
      (either_all Mild (queries owner_space st) (owner h.room who st) (refused who st ServiceUnavailable) (owner_mild who st h.room)
      (refused_mild who st ServiceUnavailable)))

covered : (o : Scene) (s : ℕ) (x : Stanza) → Numbered o.world.rooms → IsShortAddress (here o.world s).address
    → Covers o s x Mild (AllKeepSums o.world.rooms)
covered o s x numbered own = record {
  all = λ es mild. mild_sums es o.world.rooms mild;
  refusal = λ condition. tt;
  result = tt;
  found = λ place. tt;
  told = λ place. tt;
  form = tt;
  shown = λ from rows q asked short.
      every (λ row. Mild (archives.shown_to (here o.world s) from q.queryid row)) (λ row. tt) (pages.shown rows q.filter q.ask);
  page = λ from rows q asked. tt;
  copy = λ e h at found. tt;
  plain = λ e r at found. tt;
  numbered = λ e r at found. tt;
  sent = λ e user at named. tt;
  received = λ e user at named. tt;
  presence = λ e h small found. tt;
  show = λ h found. tt;
  asked = λ user. asks (asking o.domain o.world user);
  shows = λ e priority small. tt;
  hides = tt;
  directs = λ addresses. tt;
  pairs = λ user place other mine at named.
      tells o.world Mild Any Any Any each (party o.domain o.world user) (party o.domain o.world other) (seen user) (seen other);
  lists = λ user. (tt, (tt, tt));
  changes = λ user mine.
      append_all Mild (parted o user (user_removed o user x)) _ (parts user (user_removed o user x))
      (set_all o.world Mild Any Any Any each (bare_of o.domain user) (own_contacts o user) (here o.world s) (sessions_of o.world user) x
      (found_at o.world (sessions_of o.world user) (numbers_found o.world user))
      (λ c. tt) tt (λ w wants whole. tt));
  said = λ form e is. said_sums o (here o.world s) x numbered form e;
  whispered = one_mild (here o.world s) x (room_for o.world.rooms (to_in x));
  asks = λ h is. asked_sums o (here o.world s) x numbered h is;
  absent = λ e is short.
      mild_sums (absent_from (here o.world s) x (room_for o.world.rooms (to_in x))) o.world.rooms
      (absent_mild (here o.world s) x (room_for o.world.rooms (to_in x)));
  leaves = λ e is short es mild.
      mild_sums (es ++ leaves_rooms o.world.rooms s (Some x)) o.world.rooms
      (append_all Mild es _ mild (left_mild s (Some x) (rooms_of s o.world.rooms)));
  present = λ e is short.
      mild_sums (present_in o.world (here o.world s) x (room_for o.world.rooms (to_in x))) o.world.rooms
      (present_mild (here o.world s) x own o.world (room_for o.world.rooms (to_in x)));
}
  where
    each : Reaches o.world Mild Any Any Any
    each = record {
      sees = λ a b on. tt;
      asked = λ a b on. tt;
      contact = λ user address name groups. tt;
      no_contact = λ user address. tt;
      count = λ h at n. tt;
      item = λ h at e short. tt;
      presence = λ h at a form short. tt;
      sent = λ h at t short. tt;
      gone = λ h at. tt;
    }

    seen : (user : List ℕ) → IsSeen o.world Any Any Any (party o.domain o.world user)
    seen user = party_seen o.domain o.world user Any Any Any tt (λ a side short. tt) (λ h. tt)

    parts : (own : List ℕ) (user : Option (List ℕ)) → AllByRecursion Mild (parted o own user)
    parts own None = tt
    parts own (Some user) =
        parted_all o.world Mild Any Any Any each (party o.domain o.world own) (party o.domain o.world user) (seen own) (seen user)
        (all_told_at o.world (sessions_of o.world user) (numbers_found o.world user))

    asks : (xs : List Address) → AllByRecursion (λ a. Mild (asked_by (here o.world s) a)) xs
    asks [] = tt
    asks (a ∷ more) = (tt, asks more)

pub stanza_sums : (o : Scene) (s : ℕ) (x : Stanza) → Numbered o.world.rooms → IsShortAddress (here o.world s).address
    → AllKeepSums o.world.rooms (effects_in o s x)
stanza_sums o s x numbered own = effects_all o s x Mild (AllKeepSums o.world.rooms) (covered o s x numbered own)

pub departure_sums : (world : World KeptTraffic) (s : ℕ) → AllKeepSums world.rooms (departure world s)
departure_sums world s =
    mild_sums (departure world s) world.rooms
    (departure_all world s Mild (λ h found. tt) tt (λ addresses. tt) (left_mild s None (rooms_of s world.rooms)))
