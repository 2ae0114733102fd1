-- What is kept of the rooms stays short by what comes of a stanza that fits, and of a departure, but for the list of a room's affiliations.
use Rattle.std.proofs.Common.{◌≡◌, ℕ, ◌≤◌, List, [], ◌∷◌, flat_map, length, arith, sym, subst, ◌∙◌, Option, Some, None, IfSome}
use Rattle.std.specs.Prelude.{⊤}
use Rattle.std.specs.List.{AllByRecursion}
use Rattle.jid_core.specs.Addresses.{Address}
use Rattle.stanza_tree.specs.declared.node.Element.{Element}
use Rattle.stanza_model.specs.Replies.{error_of, result_of, said_to}
use Rattle.stanza_model.specs.Stanzas.{element_in, id_in, to_in}
use Rattle.stanza_model.specs.declared.stanza.Stanza.{Stanza}
use Rattle.contact_table.specs.Books.{bare_of}
use Rattle.presence_core.specs.Broadcasts.{asked_by}
use Rattle.presence_core.specs.Copies.{presence_text}
use Rattle.muc_room.specs.Leaving.{leave}
use Rattle.muc_room.specs.Views.{shown_children}
use Rattle.muc_service.specs.Casting.{after}
use Rattle.muc_service.specs.Rooms.{Hosted}
use Rattle.archive_table.specs.Pages as pages
use Rattle.house_model.specs.Archives as archives
use Rattle.house_model.specs.Fitting.{AreShortAddresses, AreShortRooms, IsShortAddress, IsShortRoom}
use Rattle.house_model.specs.Histories.{StanzaFits}
use Rattle.house_model.specs.RoomLookups.{called, room_for, rooms_of}
use Rattle.house_model.specs.States.{World}
use Rattle.house_model.specs.Traffic.{KeptTraffic}
use Rattle.house_model.specs.Lookups.{here, sessions_of}
use Rattle.house_model.specs.Presences.{asking, party}
use Rattle.house_model.specs.Routing.{Scene, absent_from, asked_of, departure, effects_in, own_contacts, parted, to_one_in}
use Rattle.house_model.specs.Routing.{user_removed}
use Rattle.house_model.proofs.CopySizes.{bare-le}
use Rattle.house_model.proofs.EffectCases.{effects_all}
use Rattle.house_model.proofs.FitRows.{called_are_found}
use Rattle.house_model.proofs.Founds.{append_all, every, numbers_found}
use Rattle.house_model.proofs.IdSizes.{name-short}
use Rattle.house_model.proofs.Outs.{rooms_all}
use Rattle.house_model.proofs.PartSizes.{shown-le}
use Rattle.house_model.proofs.PresenceCases.{Covers, departure_all}
use Rattle.house_model.proofs.ReplySizes.{empty-reply-le, error-reply-le, spelt_length}
use Rattle.house_model.proofs.RoomSlight.{present_slight, to_all_slight}
use Rattle.house_model.proofs.RoomSmall.{IsShortStanza, absent_small, asked_small, to_one_small}
use Rattle.house_model.proofs.RoomsShort.{AreShortBodies, after_short, bodies_of}
use Rattle.house_model.proofs.RosterCases.{IsSeen, Reaches, all_told_at, found_at, parted_all, party_seen, set_all, tells}
use Rattle.house_model.proofs.SmallEffects.{Slight, Small, left_small, slight_all}
use Rattle.house_model.proofs.SmallLemmas.{element-small, found-short, id-small, read-of, room-short, said-small, words-short}

abbrev Any : {X : Type 0} → X → Type 0
Any x = ⊤

left_slight : (s : ℕ) (st : Option Stanza) (hs : List Hosted) → AllByRecursion Small (flat_map (λ h. leave h.room s st) hs)
    → AllByRecursion Slight (flat_map (λ h. leave h.room s st) hs)
left_slight s st hs small = slight_all (flat_map (λ h. leave h.room s st) hs) small

module _ (o : Scene) (s : ℕ) (st : Stanza) (fits : StanzaFits st) (addresses : AreShortAddresses o.world) (rooms : AreShortRooms o.world.rooms)
    (to : IfSome (to_in st) IsShortAddress) where
  own : IsShortAddress (here o.world s).address
  own = addresses s

  id : spelt_length (id_in st) ≤ 196608
  id = id-small st fits

  whole : IsShortStanza (here o.world s) st
  whole = record {
    own = own;
    bare_own = (let few = own in omega (arith, few, bare-le (here o.world s).address));
    refusal = λ condition. said-small (here o.world s) (error_of st condition) (error-reply-le st condition to id) own;
    element = λ e is. element-small st e fits is;
    name = λ e is. name-short e st (read-of st e fits is);
    to = to;
    id = id;
  }

  result : Small (said_to (here o.world s) (result_of st []))
  result = said-small (here o.world s) (result_of st []) (empty-reply-le st to id) own

  found : IfSome (room_for o.world.rooms (to_in st)) (λ h. IsShortRoom h.room)
  found = room-short o.world.rooms (to_in st) rooms

  shown : (e : Element) → element_in st ≡ Some e → length (presence_text (here o.world s) e) ≤ 16384 → (x : Element) → element_in st ≡ Some x
      → length (shown_children x.children) ≤ 16384
  shown e is few x at =
      let same : e ≡ x = (let z : Some e ≡ Some x = sym is ∙ at in cc) in
      subst (λ (y : Element). length (shown_children y.children) ≤ 16384) same
      (shown-le (here o.world s) e st (read-of st e fits is) few)

  each : Reaches o.world Slight Any Any Any
  each = record {
    sees = λ a b on. tt;
    asked = λ a b on. tt;
    contact = λ user address name groups. tt;
    no_contact = λ user address. tt;
    count = λ h at n. tt;
    item = λ h at e short. tt;
    presence = λ h at a form short. tt;
    sent = λ h at t short. tt;
    gone = λ h at. tt;
  }

  seen : (user : List ℕ) → IsSeen o.world Any Any Any (party o.domain o.world user)
  seen user = party_seen o.domain o.world user Any Any Any tt (λ a side short. tt) (λ h. tt)

  parts : (user : List ℕ) (other : Option (List ℕ)) → AllByRecursion Slight (parted o user other)
  parts user None = tt
  parts user (Some other) =
      parted_all o.world Slight Any Any Any each (party o.domain o.world user) (party o.domain o.world other) (seen user) (seen other)
      (all_told_at o.world (sessions_of o.world other) (numbers_found o.world other))

  asks : (xs : List Address) → AllByRecursion (λ a. Slight (asked_by (here o.world s) a)) xs
  asks [] = tt
  asks (a ∷ more) = (tt, asks more)

  covered : Covers o s st Slight (AllByRecursion Slight)
  covered = record {
    all = λ es slight. slight;
    refusal = λ condition. tt;
    result = tt;
    found = λ place. tt;
    told = λ place. tt;
    form = tt;
    shown = λ from list q asked short.
        every (λ row. Slight (archives.shown_to (here o.world s) from q.queryid row)) (λ row. tt) (pages.shown list q.filter q.ask);
    page = λ from list q asked. tt;
    copy = λ e h at is. tt;
    plain = λ e r at is. tt;
    numbered = λ e r at is. tt;
    sent = λ e user at named. tt;
    received = λ e user at named. tt;
    presence = λ e h small is. tt;
    show = λ h is. tt;
    asked = λ user. asks (asking o.domain o.world user);
    shows = λ e priority small. small;
    hides = tt;
    directs = λ list. tt;
    pairs = λ user place other mine at named.
        tells o.world Slight Any Any Any each (party o.domain o.world user) (party o.domain o.world other) (seen user) (seen other);
    lists = λ user. (tt, (tt, tt));
    changes = λ user mine.
        append_all Slight (parted o user (user_removed o user st)) _ (parts user (user_removed o user st))
        (set_all o.world Slight Any Any Any each (bare_of o.domain user) (own_contacts o user) (here o.world s) (sessions_of o.world user) st
        (found_at o.world (sessions_of o.world user) (numbers_found o.world user))
        (λ c. tt) tt (λ w wants list. tt));
    said = λ form e is.
        to_all_slight (here o.world s) st whole o form e (room_for o.world.rooms (to_in st)) found
        (found-short o.world (called o.domain o.world e) addresses (called_are_found o.domain o.world e));
    whispered =
        slight_all (to_one_in (here o.world s) st (room_for o.world.rooms (to_in st)))
        (to_one_small (here o.world s) st whole (room_for o.world.rooms (to_in st)) found);
    asks = λ h at.
        slight_all (asked_of (here o.world s) st (Some h))
        (asked_small (here o.world s) st whole h (subst (λ (f : Option Hosted). IfSome f (λ y. IsShortRoom y.room)) at found) result);
    absent = λ e is few.
        slight_all (absent_from (here o.world s) st (room_for o.world.rooms (to_in st)))
        (absent_small (here o.world s) st whole (room_for o.world.rooms (to_in st)) found (words-short st (shown e is few)));
    leaves = λ e is few es slight.
        append_all Slight es _ slight
        (left_slight s (Some st) (rooms_of s o.world.rooms)
        (left_small s (Some st) (rooms_of s o.world.rooms) (words-short st (shown e is few))
        (rooms_all (λ (h : Hosted). IsShortRoom h.room) s o.world.rooms rooms)));
    present = λ e is few.
        present_slight (here o.world s) st whole o.world (room_for o.world.rooms (to_in st)) found (shown e is few);
  }

  pub stanza_bodies : AreShortBodies (after o.world.rooms (effects_in o s st))
  stanza_bodies =
      after_short (effects_in o s st) o.world.rooms (effects_all o s st Slight (AllByRecursion Slight) covered) (bodies_of o.world.rooms.hosted rooms)

pub departure_bodies : (world : World KeptTraffic) (s : ℕ) → AreShortRooms world.rooms → AreShortBodies (after world.rooms (departure world s))
departure_bodies world s rooms =
    after_short (departure world s) world.rooms
    (departure_all world s Slight (λ h is. tt) tt (λ list. tt)
    (left_slight s None (rooms_of s world.rooms)
    (left_small s None (rooms_of s world.rooms) (omega arith) (rooms_all (λ (h : Hosted). IsShortRoom h.room) s world.rooms rooms))))
    (bodies_of world.rooms.hosted rooms)
