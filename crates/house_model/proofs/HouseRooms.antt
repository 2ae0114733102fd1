-- What the effects of a stanza and of a departure name of the rooms is there, each when its turn comes.
use Rattle.std.proofs.Common.{◌≡◌, ℕ, ◌+◌, ◌==◌, inl, inr, List, [], ◌∷◌, flat_map, nat_lt, sym, refl, subst, arith, Option, Some, None, IfSome}
use Rattle.std.proofs.Common.{if◌then◌else◌}
use Rattle.std.specs.Prelude.{⊤}
use Rattle.std.proofs.lemmas.Bool.{eq-eqb}
use Rattle.std.specs.List.{AllByRecursion, filter}
use Rattle.jid_core.specs.Addresses.{Address}
use Rattle.stanza_tree.specs.declared.node.Element.{Element}
use Rattle.stanza_model.specs.Replies.{refused}
use Rattle.stanza_model.specs.Stanzas.{to_in}
use Rattle.stanza_model.specs.declared.condition.Condition.TheVariants.{BadRequest, ItemNotFound, ServiceUnavailable}
use Rattle.stanza_model.specs.declared.here.Here.{Here}
use Rattle.stanza_model.specs.declared.kinds.MessageForm.{MessageForm}
use Rattle.stanza_model.specs.declared.kinds.MessageForm.TheVariants as message
use Rattle.stanza_model.specs.declared.room.Occupant.{Occupant}
use Rattle.stanza_model.specs.declared.stanza.Stanza.{Stanza}
use Rattle.session_table.specs.declared.line.Line.TheVariants.{Bound}
use Rattle.contact_table.specs.Books.{bare_of}
use Rattle.presence_core.specs.Broadcasts.{asked_by}
use Rattle.muc_room.specs.Entering.{enter}
use Rattle.muc_room.specs.Leaving.{leave}
use Rattle.muc_room.specs.Renaming.{rename}
use Rattle.muc_admin.specs.Administration.{admin}
use Rattle.muc_owner.specs.Inviting.{invite}
use Rattle.muc_admin.specs.Items.{admin_space}
use Rattle.muc_owner.specs.Owning.{owner, owner_space}
use Rattle.muc_service.specs.Casting.{after}
use Rattle.muc_service.specs.Numbering.{AreNumbered, Numbered}
use Rattle.muc_service.specs.Rooms.{Hosted, Rooms, hosted_as, is_in}
use Rattle.house_model.specs.declared.event.Event.TheVariants as event
use Rattle.house_model.specs.Casts.{AllSuit, addresses_in}
use Rattle.house_model.specs.Fitting.{IsInHouse}
use Rattle.house_model.specs.Histories as histories
use Rattle.house_model.specs.Histories.{IsOpening, Turn}
use Rattle.house_model.specs.Lookups.{here, sessions_of}
use Rattle.house_model.specs.Presences.{asking, party}
use Rattle.house_model.specs.Requests.{queries}
use Rattle.house_model.specs.RoomFits.{AreOf}
use Rattle.archive_table.specs.Pages as pages
use Rattle.mam_wire.specs.Stamps.{stamp_text}
use Rattle.house_model.specs.ArchiveLookups.{keeping_in, past_in}
use Rattle.house_model.specs.Archives as archives
use Rattle.house_model.specs.RoomLookups.{called, in_order, numbers_for, placed, room_for, rooms_of, stay_in}
use Rattle.house_model.specs.Routing.{Scene, absent_from, asked_of, departure, departure_by, effects, effects_in, is_invitation, leaves_rooms}
use Rattle.house_model.specs.Routing.{own_contacts, parted, present_in, scene_of, to_all_in, to_no_room, to_one_in, user_removed}
use Rattle.house_model.specs.States.{State, World, keep, keep_world}
use Rattle.house_model.specs.Stays.{Logs}
use Rattle.house_model.specs.Steps.{turn}
use Rattle.house_model.specs.Traffic.{KeptTraffic, Traffic}
use Rattle.house_model.proofs.Removals.{Spoken, Well}
use Rattle.house_model.proofs.AdminTables.{admin_of, invite_of, owner_of}
use Rattle.house_model.proofs.EffectCases.{effects_all}
use Rattle.house_model.proofs.Founds.{append_all, every, filter_all, numbers_found}
use Rattle.house_model.proofs.HallLemmas.{found, found_number}
use Rattle.house_model.proofs.Housed.{AllLive, Housed, Lives}
use Rattle.house_model.proofs.HousedTurns.{Known}
use Rattle.house_model.proofs.InHouse.{held_in_house}
use Rattle.house_model.proofs.Outs.{listed_by, placed_all, rooms_all}
use Rattle.house_model.proofs.PresenceCases.{Covers, departure_by_all}
use Rattle.house_model.proofs.RoomTables.{direct_calm, enter_of, leave_names, leave_of, refused_calm, rename_of, say_of}
use Rattle.house_model.proofs.RoomsKept.{EachRoom}
use Rattle.house_model.proofs.RoomsThere.{Holds, calm_of, calm_then, hosted_holds, kept_holds, of_then, others_kept}
use Rattle.house_model.proofs.RosterCases.{IsSeen, Reaches, all_told_at, found_at, parted_all, party_seen, set_all, tells}
use Rattle.house_model.proofs.SeatLemmas.{seats_of, two, AreDistinct}
use Rattle.house_model.proofs.Sitting.{not_both}
use Rattle.house_model.proofs.StayApart.{Sure}
use Rattle.house_model.proofs.StayGood.{seats_in}
use Rattle.house_model.proofs.StayLemmas.{choose}
use Rattle.house_model.proofs.StayLists.{IsCalm, kept_address}
use Rattle.house_model.proofs.StayNumbers.{none_above}
use Rattle.house_model.proofs.StayPlain.{hosted_by, stanza_suits}
use Rattle.house_model.proofs.StayVerdicts.{all_after, known_after}

-- The rooms that a session leaves are different ones.

abbrev IsOther : Hosted → Hosted → Type 0
IsOther h x = x.room.number ≡ h.room.number → ⊥

abbrev Differ : List Hosted → Type 0
Differ [] = ⊤
Differ (h ∷ more) = AllByRecursion (IsOther h) more × Differ more

none_other : (h : Hosted) (hs : List Hosted) → found h.room.number hs ≡ None → AllByRecursion (IsOther h) hs
none_other h [] none = tt
none_other h (x ∷ more) none =
    elim (two (x.room.number == h.room.number)) as (λ _. AllByRecursion (IsOther h) (x ∷ more)) [
      | inl e ↦ absurd (let z : Some x ≡ None = rw e at none in cc)
      | inr e ↦ (
        (λ (same : x.room.number ≡ h.room.number). not_both (x.room.number == h.room.number) (eq-eqb x.room.number h.room.number same) e),
        none_other h more (rw e at none),
      )
    ]

numbered_differ : (made : ℕ) (hs : List Hosted) → AreNumbered made hs → Differ hs
numbered_differ made [] numbered = tt
numbered_differ made (h ∷ more) numbered = (none_other h more numbered.1, numbered_differ made more numbered.2)

filter_differ : (test : Hosted → _) (hs : List Hosted) → Differ hs → Differ (filter test hs)
filter_differ test [] differ = tt
filter_differ test (h ∷ more) differ =
    choose Differ (test h) (h ∷ filter test more) (filter test more)
    (λ (_ : _). (filter_all (IsOther h) test more differ.0, filter_differ test more differ.1)) (λ (_ : _). filter_differ test more differ.1)

placed_differ : (s : ℕ) (h : Hosted) (hs : List Hosted) → AllByRecursion (IsOther h) hs → Differ hs → Differ (placed s h hs)
placed_differ s h [] other differ = (tt, tt)
placed_differ s h (x ∷ more) other differ =
    choose Differ (nat_lt (stay_in s x) (stay_in s h)) (x ∷ placed s h more) (h ∷ x ∷ more)
    (λ (_ : _). (
      placed_all (IsOther x) s h more (λ (e : h.room.number ≡ x.room.number). other.0 (sym e)) differ.0,
      placed_differ s h more other.1 differ.1,
    ))
    (λ (_ : _). (other, differ))

order_other : (s : ℕ) (h : Hosted) (hs : List Hosted) → AllByRecursion (IsOther h) hs → AllByRecursion (IsOther h) (in_order s hs)
order_other s h [] other = tt
order_other s h (x ∷ more) other = placed_all (IsOther h) s x (in_order s more) other.0 (order_other s h more other.1)

order_differ : (s : ℕ) (hs : List Hosted) → Differ hs → Differ (in_order s hs)
order_differ s [] differ = tt
order_differ s (h ∷ more) differ = placed_differ s h (in_order s more) (order_other s h more differ.0) (order_differ s more differ.1)

-- It leaves them one after another.

abbrev IsHeld : Rooms → Hosted → Type 0
IsHeld rooms h = Holds rooms h.room.number (seats_of h.room.occupants)

held_later : (rooms : Rooms) (s : ℕ) (st : Option Stanza) (h : Hosted) (hs : List Hosted) → AllByRecursion (IsOther h) hs → AllByRecursion (IsHeld rooms) hs
    → AllByRecursion (IsHeld (after rooms (leave h.room s st))) hs
held_later rooms s st h [] other held = tt
held_later rooms s st h (x ∷ more) other held = (
  kept_holds rooms (after rooms (leave h.room s st)) x.room.number (seats_of x.room.occupants)
      (others_kept (leave h.room s st) rooms h.room.number x.room.number other.0 (leave_names h.room s st)) held.0,
  held_later rooms s st h more other.1 held.1,
)

each_left : (s : ℕ) (st : Option Stanza) (hs : List Hosted) (rooms : Rooms) → Differ hs → AllByRecursion (IsHeld rooms) hs
    → AreOf rooms (flat_map (λ h. leave h.room s st) hs)
each_left s st [] rooms differ held = tt
each_left s st (h ∷ hs) rooms differ held =
    of_then (leave h.room s st) (flat_map (λ x. leave x.room s st) hs) rooms (leave_of rooms h.room held.0 s st)
    (each_left s st hs (after rooms (leave h.room s st)) differ.1 (held_later rooms s st h hs differ.0 held.1))

rooms_held : (rooms : Rooms) → Numbered rooms → AllByRecursion (IsHeld rooms) rooms.hosted
rooms_held rooms numbered = listed_by (IsHeld rooms) rooms.made rooms.hosted numbered (λ n. by n (found n rooms.hosted) refl) where
  by : (n : ℕ) (o : Option Hosted) → found n rooms.hosted ≡ o → IfSome o (IsHeld rooms)
  by n None is = tt
  by n (Some h) is = hosted_holds rooms h (subst (λ (k : ℕ). found k rooms.hosted ≡ Some h) (sym (found_number n rooms.hosted h is)) is)

all_left_of : (rooms : Rooms) → Numbered rooms → (s : ℕ) (st : Option Stanza) → AreOf rooms (leaves_rooms rooms s st)
all_left_of rooms numbered s st =
    each_left s st (rooms_of s rooms) rooms
    (order_differ s (filter (is_in s) rooms.hosted) (filter_differ (is_in s) rooms.hosted (numbered_differ rooms.made rooms.hosted numbered)))
    (rooms_all (IsHeld rooms) s rooms (rooms_held rooms numbered))

-- What comes of a stanza.

abbrev Any : {X : Type 0} → X → Type 0
Any x = ⊤

module _ (o : Scene) (s : ℕ) (x : Stanza) (numbered : Numbered o.world.rooms) (wells : EachRoom Well o.world.rooms) where
  abbrev rooms : Rooms
  rooms = o.world.rooms

  abbrev who : Here
  who = here o.world s

  held : (to : Option Address) (h : Hosted) → room_for rooms to ≡ Some h → IsHeld rooms h
  held to h is = hosted_holds rooms h (hosted_by rooms to h numbered is)

  well : (to : Option Address) (h : Hosted) → room_for rooms to ≡ Some h → Well h.room
  well to h is = subst (λ (f : Option Hosted). IfSome f (λ y. Well y.room)) (hosted_by rooms to h numbered is) (wells h.room.number)

  no_of : (c : _) → AreOf rooms (refused who x c)
  no_of c = calm_of (refused who x c) rooms (refused_calm who x c)

  called_of : (e : Element) (h : Hosted) → room_for rooms (to_in x) ≡ Some h
      → AreOf rooms (if is_invitation e then invite h.room who x (called o.domain o.world e) else refused who x BadRequest)
  called_of e h is =
      choose (AreOf rooms) (is_invitation e) (invite h.room who x (called o.domain o.world e)) (refused who x BadRequest)
      (λ (_ : _). invite_of rooms h.room (well (to_in x) h is) (held (to_in x) h is) who x (called o.domain o.world e)) (λ (_ : _). no_of BadRequest)

  said_of : (form : MessageForm) (e : Element) (f : Option Hosted) → room_for rooms (to_in x) ≡ f → AreOf rooms (to_all_in o who x form e f)
  said_of form e None is = no_of (to_no_room form e)
  said_of message.Groupchat e (Some h) is =
      say_of rooms h.room (held (to_in x) h is) who x (keeping_in o.world.archives h o.moment) (stamp_text o.moment)
  said_of message.Chat e (Some h) is = called_of e h is
  said_of message.Normal e (Some h) is = called_of e h is
  said_of message.Headline e (Some h) is = called_of e h is
  said_of message.Error e (Some h) is = called_of e h is

  whispered_calm : (f : Option Hosted) → AllByRecursion IsCalm (to_one_in who x f)
  whispered_calm None = refused_calm who x ItemNotFound
  whispered_calm (Some h) = direct_calm h.room who x

  asks_of : (h : Hosted) → room_for rooms (to_in x) ≡ Some h → AreOf rooms (asked_of who x (Some h))
  asks_of h is =
      choose (AreOf rooms) (queries admin_space x) (admin h.room who x)
      (if queries owner_space x then owner h.room who x else refused who x ServiceUnavailable)
      (λ (_ : _). admin_of rooms h.room (well (to_in x) h is) (held (to_in x) h is) who x)
      (λ (_ : _). choose (AreOf rooms) (queries owner_space x) (owner h.room who x) (refused who x ServiceUnavailable)
      (λ (_ : _). owner_of rooms h.room (well (to_in x) h is) (held (to_in x) h is) who x) (λ (_ : _). no_of ServiceUnavailable))

  absent_of : (f : Option Hosted) → room_for rooms (to_in x) ≡ f → AreOf rooms (absent_from who x f)
  absent_of None is = tt
  absent_of (Some h) is = leave_of rooms h.room (held (to_in x) h is) who.session (Some x)

  present_of : (f : Option Hosted) → room_for rooms (to_in x) ≡ f → AreOf rooms (present_in o.world who x f)
  present_of None is =
      enter_of rooms (numbers_for rooms who.session) who refl None x [] (none_above rooms.made (rooms.made + 1) rooms.hosted numbered (omega arith))
  present_of (Some h) is =
      choose (AreOf rooms) (is_in who.session h) (rename h.room who x)
      (enter (Some h.room) (numbers_for rooms who.session) who x (past_in o.world.archives h))
      (λ (_ : _). rename_of rooms h.room (held (to_in x) h is) who x)
      (λ (out : _). enter_of rooms (numbers_for rooms who.session) who refl (Some h.room) x (past_in o.world.archives h)
      (h, hosted_by rooms (to_in x) h numbered is, refl, out))

  covered : Covers o s x IsCalm (AreOf rooms)
  covered = record {
    all = λ es calm. calm_of es rooms calm;
    refusal = λ condition. tt;
    result = tt;
    found = λ place. tt;
    told = λ place. tt;
    form = tt;
    shown = λ from rows q asked short.
        every (λ row. IsCalm (archives.shown_to who from q.queryid row)) (λ row. tt) (pages.shown rows q.filter q.ask);
    page = λ from rows q asked. tt;
    copy = λ e h at is. tt;
    plain = λ e r at is. tt;
    numbered = λ e r at is. tt;
    sent = λ e user at named. tt;
    received = λ e user at named. tt;
    presence = λ e h small is. tt;
    show = λ h is. tt;
    asked = λ own. asks (asking o.domain o.world own);
    shows = λ e priority small. tt;
    hides = tt;
    directs = λ addresses. tt;
    pairs = λ own place user mine at named.
        tells o.world IsCalm Any Any Any each (party o.domain o.world own) (party o.domain o.world user) (seen own) (seen user);
    lists = λ own. (tt, (tt, tt));
    changes = λ own mine.
        append_all IsCalm (parted o own (user_removed o own x)) _ (parts own (user_removed o own x))
        (set_all o.world IsCalm Any Any Any each (bare_of o.domain own) (own_contacts o own) who (sessions_of o.world own) x
        (found_at o.world (sessions_of o.world own) (numbers_found o.world own))
        (λ c. tt) tt (λ w wants whole. tt));
    said = λ form e is. said_of form e (room_for rooms (to_in x)) refl;
    whispered = whispered_calm (room_for rooms (to_in x));
    asks = asks_of;
    absent = λ e is short. absent_of (room_for rooms (to_in x)) refl;
    leaves = λ e is short es calm. calm_then es (leaves_rooms rooms s (Some x)) rooms calm (all_left_of rooms numbered s (Some x));
    present = λ e is short. present_of (room_for rooms (to_in x)) refl;
  }
    where
      each : Reaches o.world IsCalm Any Any Any
      each = record {
        sees = λ a b on. tt;
        asked = λ a b on. tt;
        contact = λ user address name groups. tt;
        no_contact = λ user address. tt;
        count = λ h at n. tt;
        item = λ h at e short. tt;
        presence = λ h at a form short. tt;
        sent = λ h at t short. tt;
        gone = λ h at. tt;
      }

      seen : (user : List ℕ) → IsSeen o.world Any Any Any (party o.domain o.world user)
      seen user = party_seen o.domain o.world user Any Any Any tt (λ a side short. tt) (λ h. tt)

      parts : (own : List ℕ) (user : Option (List ℕ)) → AllByRecursion IsCalm (parted o own user)
      parts own None = tt
      parts own (Some user) =
          parted_all o.world IsCalm Any Any Any each (party o.domain o.world own) (party o.domain o.world user) (seen own) (seen user)
          (all_told_at o.world (sessions_of o.world user) (numbers_found o.world user))

      asks : (xs : List Address) → AllByRecursion (λ a. IsCalm (asked_by who a)) xs
      asks [] = tt
      asks (a ∷ more) = (tt, asks more)

  pub stanza_of : AreOf rooms (effects_in o s x)
  stanza_of = effects_all o s x IsCalm (AreOf rooms) covered

-- And of a departure.

pub departure_of : (world : World KeptTraffic) (s : ℕ) → Numbered world.rooms → AreOf world.rooms (departure world s)
departure_of world s numbered =
    calm_then (departure_by (here world s).address.local world (here world s)) (leaves_rooms world.rooms s None) world.rooms
    (departure_by_all world s IsCalm (λ h found. tt) tt (λ addresses. tt)) (all_left_of world.rooms numbered s None)

-- After a history no session has two seats in a room, and the one whose presence is shown has one.

each_spoken : (H : ℕ → Type 0) (os : List Occupant) → AllByRecursion (Lives H) os → AllByRecursion Spoken os
each_spoken H [] all = tt
each_spoken H (o ∷ os) all = (all.0.1, each_spoken H os all.1)

wells_by : (world : World Traffic) (logs : Logs) → Sure world logs → Housed world → EachRoom Well world.rooms
wells_by world logs sure housed n = by (hosted_as n world.rooms) (sure.good.distinct n) (housed n) where
  by : (f : Option Hosted) → AreDistinct (seats_in f) → IfSome f (λ y. AllLive (λ q. IsInHouse q world) y.room) → IfSome f (λ y. Well y.room)
  by None distinct live = tt
  by (Some y) distinct live = record { distinct = distinct; spoken = each_spoken (λ q. IsInHouse q world) y.room.occupants live }

wells_after : (o : State) (h : List Turn) → IsOpening o → EachRoom Well (histories.after o h).world.rooms
wells_after o h starts =
    let all = all_after o h starts in
    wells_by (histories.after o h).world all.0 all.1.sure all.1.housed

pub stanza_is_of : (o : State) (h : List Turn) (w s t : ℕ) (x : Stanza) → IsOpening o
    → AreOf (histories.after o h).world.rooms (effects (keep (turn (event.Act w x t) (histories.after o h))) s x)
stanza_is_of o h w s t x starts =
    stanza_of (scene_of (keep (turn (event.Act w x t) (histories.after o h)))) s x (known_after o h starts).numbered (wells_after o h starts)

pub departure_is_of : (o : State) (h : List Turn) (s : ℕ) → IsOpening o
    → AreOf (histories.after o h).world.rooms (departure (keep_world (histories.after o h).world) s)
departure_is_of o h s starts = departure_of (keep_world (histories.after o h).world) s (known_after o h starts).numbered

-- What enters is the session that has the address, and no table gives out an item of a stay.
pub stanza_suits_them : (o : State) (h : List Turn) (w c s t : ℕ) (x : Stanza) → IsOpening o → ((histories.after o h).world.lines w).stage ≡ Bound c s
    → AllSuit (histories.after o h).world.made (addresses_in (histories.after o h).world) (histories.after o h).world.rooms
    (effects (keep (turn (event.Act w x t) (histories.after o h))) s x)
stanza_suits_them o h w c s t x starts bound =
    let world : World Traffic = (histories.after o h).world in
    let known : Known world = known_after o h starts in
    let is : IsInHouse s world = held_in_house world s w c known.sound known.zero (known.sound.tied w c s bound) in
    stanza_suits (scene_of (keep (turn (event.Act w x t) (histories.after o h)))) s x world.made (addresses_in world) known.numbered is.made
    (kept_address world s is.stays)
