-- After every history what is kept of messages is short: each text, as long as the numbers of rows have 64 bits, and all of them together.
use Rattle.std.proofs.Common.{◌≡◌, ◌≤◌, ℕ, ◌+◌, ◌-◌, ◌*◌, ◌^◌, ◌==◌, ◌&&◌, not, nat_lt, List, [], ◌∷◌, ◌++◌, map, length, arith, refl, sym, ap}
use Rattle.std.proofs.Common.{subst, bytes_eq, Bool, true, false, Option, Some, None, IfSome, if◌then◌else◌}
use Rattle.std.proofs.lemmas.Bool.{ltb-false}
use Rattle.std.specs.List.{AllByRecursion, filter}
use Rattle.jid_core.specs.Addresses.{Address, same_part}
use Rattle.stanza_tree.specs.Spelling.{text}
use Rattle.stanza_tree.specs.declared.node.Element.{Element}
use Rattle.stanza_model.specs.Ids.{has_body}
use Rattle.stanza_model.specs.Replies.{refused}
use Rattle.stanza_model.specs.Stanzas.{to_in}
use Rattle.stanza_model.specs.declared.condition.Condition.{Condition}
use Rattle.stanza_model.specs.declared.condition.Condition.TheVariants.{Forbidden, NotAcceptable, ResourceConstraint}
use Rattle.stanza_model.specs.declared.effect.Change.TheVariants as change
use Rattle.stanza_model.specs.declared.effect.Effect.{Effect}
use Rattle.stanza_model.specs.declared.effect.Effect.TheVariants as effect
use Rattle.stanza_model.specs.declared.here.Here.{Here}
use Rattle.stanza_model.specs.declared.keeping.Keeping.{Keeping}
use Rattle.stanza_model.specs.declared.kinds.MessageForm.{MessageForm}
use Rattle.stanza_model.specs.declared.kinds.MessageForm.TheVariants as message
use Rattle.stanza_model.specs.declared.room.Occupant.{Occupant}
use Rattle.stanza_model.specs.declared.room.RoomItem.TheVariants as item
use Rattle.stanza_model.specs.declared.stanza.Stanza.{Stanza}
use Rattle.stanza_model.specs.declared.stanza.Stanza.TheVariants.{Message, Presence, Iq, Faulty}
use Rattle.stanza_router.specs.Messages.{addressed, given, is_kept, is_to_oneself, is_too_much, plain_text, queued_as, row_of, row_text, rows_for}
use Rattle.stanza_router.specs.Messages.{told, told_text}
use Rattle.stanza_router.specs.declared.places.Place.{Place}
use Rattle.muc_room.specs.Saying as saying
use Rattle.muc_room.specs.Saying.{is_silent, is_subject, may_change_subject, message_text, row_if, say, says_as, subject_if}
use Rattle.muc_room.specs.Seats.{occupant_of}
use Rattle.muc_room.specs.Views.{at}
use Rattle.muc_service.specs.Rooms.{Hosted}
use Rattle.rsm_paging.specs.declared.ask.Row.{Row}
use Rattle.mam_archive.specs.Archives.{most_kept}
use Rattle.archive_table.specs.Archives.{Archives, Rows, displaced, filed, no_rows, row_for, with_row}
use Rattle.archive_table.specs.declared.filing.Filing.TheVariants.{OfUser, OfRoom, NoRoom}
use Rattle.mam_wire.specs.Stamps.{stamp_text}
use Rattle.house_model.specs.ArchiveLookups.{keeping_for, keeping_in, rows_by}
use Rattle.house_model.specs.Archiving.{HaveFewRows, found_for, if_delivered, is_keep, kept_if}
use Rattle.house_model.specs.Fitting.{AreShortAddresses, AreShortArchives, AreShortRooms, AreShortRows, IsShortAddress, IsShortOccupant}
use Rattle.house_model.specs.Fitting.{IsShortRoom}
use Rattle.house_model.specs.Histories.{IsShortFault, StanzaFits}
use Rattle.house_model.specs.Lookups.{here}
use Rattle.house_model.specs.RoomLookups.{room_for}
use Rattle.house_model.specs.Routing.{Scene, departure, effects_by, effects_in, has_account, to_users, user_in}
use Rattle.house_model.specs.States.{World}
use Rattle.house_model.specs.Traffic.{KeptTraffic}
use Rattle.house_model.proofs.CopySizes.{row-short}
use Rattle.house_model.proofs.FiledRows.{all_in}
use Rattle.house_model.proofs.Founds.{append_all}
use Rattle.house_model.proofs.IdSizes.{name-short}
use Rattle.house_model.proofs.KeptRows.{effects_kept}
use Rattle.house_model.proofs.RoomCases.{drop_all, found_all}
use Rattle.house_model.proofs.RoomSizes.{message-le}
use Rattle.house_model.proofs.RowsOfPresence.{departure_unkept}
use Rattle.house_model.proofs.RowsOfUsers.{routed_all}
use Rattle.house_model.proofs.SmallLemmas.{element-small, read-of, room-short}
use Rattle.house_model.proofs.StayLemmas.{choose}
use Rattle.house_model.proofs.Unkept.{Unkept, map_unkept, refused_unkept}

abbrev IsShortRow : Row → Type 0
IsShortRow row = length row.text ≤ 300000

-- One filing.

row_short : (peer : Address) (words : List ℕ) (moment : ℕ) (x : Rows) → length words ≤ 300000 → AreShortRows x.kept
    → AreShortRows (with_row peer words moment x).kept
row_short peer words moment x short rows =
    let all : List Row = x.kept ++ row_for x peer words moment ∷ [] in
    drop_all IsShortRow (length all - most_kept) all (append_all IsShortRow x.kept (row_for x peer words moment ∷ []) rows (short, tt))

record HasShortRows (a : Archives) : Type 0 where
  users : (user : List ℕ) → AreShortRows (a.users user).kept
  rooms : (n : ℕ) → AreShortRows (a.rooms n).kept

rows_of : (a : Archives) → AreShortArchives a → HasShortRows a
rows_of a short = record { users = short.users; rooms = short.rooms }

user_short : (user : List ℕ) (peer : Address) (words : List ℕ) (moment : ℕ) (a : Archives) → length words ≤ 300000 → HasShortRows a
    → HasShortRows (filed (OfUser user peer words moment) a)
user_short user peer words moment a short rows = record {
  users = λ other. choose (λ (x : Rows). AreShortRows x.kept) (bytes_eq other user) (with_row peer words moment (a.users user)) (a.users other)
      (λ (_ : _). row_short peer words moment (a.users user) short (rows.users user)) (λ (_ : _). rows.users other);
  rooms = rows.rooms;
}

room_short : (n : ℕ) (peer : Address) (words : List ℕ) (moment : ℕ) (a : Archives) → length words ≤ 300000 → HasShortRows a
    → HasShortRows (filed (OfRoom n peer words moment) a)
room_short n peer words moment a short rows = record {
  users = rows.users;
  rooms = λ other. choose (λ (x : Rows). AreShortRows x.kept) (other == n) (with_row peer words moment (a.rooms n)) (a.rooms other)
      (λ (_ : _). row_short peer words moment (a.rooms n) short (rows.rooms n)) (λ (_ : _). rows.rooms other);
}

less : (b t : ℕ) → b ≤ 1073741824 → b - t ≤ 1073741824
less b t low = omega (arith, low)

gone_short : (n : ℕ) (a : Archives) → AreShortArchives a → AreShortArchives (filed (NoRoom n) a)
gone_short n a short = record {
  users = short.users;
  rooms = λ other. choose (λ (x : Rows). AreShortRows x.kept) (other == n) no_rows (a.rooms other) (λ (_ : _). tt) (λ (_ : _). short.rooms other);
  bytes = less a.bytes _ short.bytes;
}

-- A list of which nothing is kept.
pub unkept_short : (es : List Effect) (a : Archives) → AllByRecursion Unkept es → AreShortArchives a → AreShortArchives (all_in es a)
unkept_short [] a all short = short
unkept_short (effect.Set (change.RoomGone n) ∷ es) a all short = unkept_short es (filed (NoRoom n) a) all.1 (gone_short n a short)
unkept_short (effect.Set (change.RoomRow n peer words moment) ∷ es) a all short = absurd all.0
unkept_short (effect.Set c ∷ es) a all short = unkept_short es a all.1 short
unkept_short (effect.Keep user peer words moment ∷ es) a all short = absurd all.0
unkept_short (effect.Queue s to rest origin ∷ es) a all short = unkept_short es a all.1 short
unkept_short (effect.Broadcast n item ∷ es) a all short = unkept_short es a all.1 short
unkept_short (effect.Enter n s address nick role ∷ es) a all short = unkept_short es a all.1 short
unkept_short (effect.Leave n s ∷ es) a all short = unkept_short es a all.1 short

-- The bytes of all texts, where a message isn't too much.

room_fits : (body : Bool) (b d len : ℕ) → b ≤ 1073741824 → (body && nat_lt ((1073741824 + d) - b) len) ≡ false → body ≡ true
    → (b + len) - d ≤ 1073741824
room_fits false b d len low is has = absurd (let z : false ≡ true = has in cc)
room_fits true b d len low is has =
    let fits : len ≤ (1073741824 + d) - b = ltb-false ((1073741824 + d) - b) len is in
    omega (arith, low, fits)

one_fits : (b d len : ℕ) → b ≤ 1073741824 → 1 * len ≤ (1073741824 + (d + 0)) - b → (b + len) - d ≤ 1073741824
one_fits b d len low fits = omega (arith, low, fits)

mine_fits : (b d len : ℕ) → b ≤ 1073741824 → 2 * len ≤ (1073741824 + (d + 0)) - b → (b + len) - d ≤ 1073741824
mine_fits b d len low fits = omega (arith, low, fits)

theirs_fits : (b d len : ℕ) → b ≤ 1073741824 → 2 * len ≤ (1073741824 + (0 + d)) - b → (b + len) - d ≤ 1073741824
theirs_fits b d len low fits = omega (arith, low, fits)

both_fit : (b c d e len : ℕ) → e ≡ d → b ≤ 1073741824 → len ≤ 300000 → 2 * len ≤ (1073741824 + (c + d)) - b
    → (((b + len) - c) + len) - e ≤ 1073741824
both_fit b c d e len same low few fits = omega (arith, same, low, few, fits)

-- What is said in a room.

said_short : (a : Archives) (body subject : Bool) (n : ℕ) (from : Address) (words stamp : List ℕ) (moment : ℕ) → AreShortArchives a
    → length words ≤ 300000 → (body ≡ true → (a.bytes + length words) - displaced (a.rooms n) ≤ 1073741824)
    → AreShortArchives (all_in (effect.Broadcast n (item.Message words body from moment)
    ∷ row_if body n from words moment ++ subject_if subject n words stamp) a)
said_short a true true n from words stamp moment short few fits =
    let rows : HasShortRows (filed (OfRoom n from words moment) a) = room_short n from words moment a few (rows_of a short) in
    record { users = rows.users; rooms = rows.rooms; bytes = fits refl }
said_short a true false n from words stamp moment short few fits =
    let rows : HasShortRows (filed (OfRoom n from words moment) a) = room_short n from words moment a few (rows_of a short) in
    record { users = rows.users; rooms = rows.rooms; bytes = fits refl }
said_short a false true n from words stamp moment short few fits = short
said_short a false false n from words stamp moment short few fits = short

module _ (a : Archives) (short : AreShortArchives a) (few : HaveFewRows (2 ^ 64 - 2) a) (who : Here) (st : Stanza) (h : Hosted) (e : Element)
    (moment : ℕ) (room : IsShortRoom h.room) (small : length (text e) ≤ 196608) (named : length e.name.local ≤ 8) where
  abbrev Stays : List Effect → Type 0
  Stays es = AreShortArchives (all_in es a)

  abbrev keeping : Keeping
  keeping = keeping_in a h moment

  next_row : keeping.row ≤ 18446744073709551618
  next_row = (let low : (a.rooms h.room.number).made ≤ 2 ^ 64 - 2 = few.rooms h.room.number in omega (arith, low))

  refused_stay : (c : Condition) → Stays (refused who st c)
  refused_stay c = unkept_short (refused who st c) a (refused_unkept who st c) short

  says_short : (o : Option Occupant) → IfSome o IsShortOccupant → Stays (says_as h.room who st keeping (stamp_text moment) e o)
  says_short None is = refused_stay NotAcceptable
  says_short (Some o) is =
      let words : List ℕ = message_text h.room o keeping.row e in
      choose Stays (is_silent o.role h.room.config.moderated) _ _ (λ (_ : _). refused_stay Forbidden)
      (λ (_ : _). choose Stays (is_subject e && not (may_change_subject o.role h.room.config.change_subject)) _ _
      (λ (_ : _). refused_stay Forbidden)
      (λ (_ : _). choose Stays (saying.is_too_much h.room o keeping e) _ _ (λ (_ : _). refused_stay ResourceConstraint)
      (λ fits. said_short a (has_body e) (is_subject e) h.room.number (at h.room.address (Some o.nick)) words (stamp_text moment) moment short
      (message-le h.room o keeping.row e small named room.address is.nick next_row)
      (room_fits (has_body e) a.bytes (displaced (a.rooms h.room.number)) (length words) short.bytes fits))))

-- Between users.

rows_short : (mine theirs : Option (List ℕ)) (peer from : Address) (words : List ℕ) (moment : ℕ) (a : Archives) (one : Bool)
    → same_part theirs mine ≡ one → AreShortArchives a → length words ≤ 300000
    → (if one then 1 else 2) * length words
    ≤ (1073741824 + (displaced (rows_by a mine) + (if one then 0 else displaced (rows_by a theirs)))) - a.bytes
    → AreShortArchives (all_in (row_of mine peer words moment ++ (if one then [] else row_of theirs from words moment)) a)
rows_short None theirs peer from words moment a true is short few fits = short
rows_short None None peer from words moment a false is short few fits = short
rows_short None (Some v) peer from words moment a false is short few fits =
    let rows : HasShortRows (filed (OfUser v from words moment) a) = user_short v from words moment a few (rows_of a short) in
    record { users = rows.users; rooms = rows.rooms; bytes = theirs_fits a.bytes (displaced (a.users v)) (length words) short.bytes fits }
rows_short (Some u) theirs peer from words moment a true is short few fits =
    let rows : HasShortRows (filed (OfUser u peer words moment) a) = user_short u peer words moment a few (rows_of a short) in
    record { users = rows.users; rooms = rows.rooms; bytes = one_fits a.bytes (displaced (a.users u)) (length words) short.bytes fits }
rows_short (Some u) None peer from words moment a false is short few fits =
    let rows : HasShortRows (filed (OfUser u peer words moment) a) = user_short u peer words moment a few (rows_of a short) in
    record { users = rows.users; rooms = rows.rooms; bytes = mine_fits a.bytes (displaced (a.users u)) (length words) short.bytes fits }
rows_short (Some u) (Some v) peer from words moment a false is short few fits =
    let b : Archives = filed (OfUser u peer words moment) a in
    let rows : HasShortRows (filed (OfUser v from words moment) b) =
    user_short v from words moment b few (user_short u peer words moment a few (rows_of a short)) in
    let other : displaced (b.users v) ≡ displaced (a.users v) =
    ap (λ (c : Bool). displaced (if c then with_row peer words moment (a.users u) else a.users v)) is in
    record {
      users = rows.users;
      rooms = rows.rooms;
      bytes = both_fit a.bytes (displaced (a.users u)) (displaced (a.users v)) (displaced (b.users v)) (length words) other short.bytes few fits;
    }

queued_in : (who : Here) (to : Option Address) (rest : List ℕ) (sessions : List ℕ) (rows : List Effect) (a : Archives)
    → AreShortArchives (all_in rows a) → AreShortArchives (all_in (map (queued_as who to rest) sessions ++ rows) a)
queued_in who to rest [] rows a short = short
queued_in who to rest (s ∷ sessions) rows a short = queued_in who to rest sessions rows a short

module _ (o : Scene) (who : Here) (to : Option Address) (form : MessageForm) (e : Element) (short : AreShortArchives o.world.archives)
    (words : length (row_text who to e) ≤ 300000) where
  abbrev a : Archives
  a = o.world.archives

  abbrev st : Stanza
  st = Message to form e

  abbrev IsShortAfter : List Effect → Type 0
  IsShortAfter es = AreShortArchives (all_in es a)

  abbrev keeping_them : Keeping
  keeping_them = keeping_for a who to o.moment

  told_short : (sessions : List ℕ) → IsShortAfter (told who st to e keeping_them sessions)
  told_short sessions =
      choose IsShortAfter (is_too_much who to e keeping_them) _ _
      (λ (_ : _). unkept_short (refused who st ResourceConstraint) a (refused_unkept who st ResourceConstraint) short)
      (λ fits. queued_in who to (told_text who to e keeping_them.row) sessions (rows_for who to (row_text who to e) o.moment) a
      (rows_short who.address.local (addressed who to).local (addressed who to) who.address (row_text who to e) o.moment a (is_to_oneself who to) refl
      short words (ltb-false _ _ fits)))

  pub given_short : (sessions : List ℕ) → IsShortAfter (given who st to form e keeping_them sessions)
  given_short sessions =
      choose IsShortAfter (is_kept form e) _ _ (λ (_ : _). told_short sessions)
      (λ (_ : _). unkept_short _ a (map_unkept (queued_as who to (plain_text who to e)) (λ s. tt) sessions) short)

-- Every stanza, and a departure.

module _ (o : Scene) (s : ℕ) (addresses : AreShortAddresses o.world) (rooms : AreShortRooms o.world.rooms)
    (few : HaveFewRows (2 ^ 64 - 2) o.world.archives) (short : AreShortArchives o.world.archives) where
  abbrev sender : Here
  sender = here o.world s

  abbrev Keeps : List Effect → List Effect → Type 0
  Keeps es rows = AreShortArchives (all_in es o.world.archives)

  say_short : (to : Option Address) (e : Element) (h : Hosted) → StanzaFits (Message to message.Groupchat e) → room_for o.world.rooms to ≡ Some h
      → Keeps (say h.room sender (Message to message.Groupchat e) (keeping_in o.world.archives h o.moment) (stamp_text o.moment)) []
  say_short to e h fits is =
      let room : IsShortRoom h.room = subst (λ (f : Option Hosted). IfSome f (λ x. IsShortRoom x.room)) is (room-short o.world.rooms to rooms) in
      says_short o.world.archives short few sender (Message to message.Groupchat e) h e o.moment room
      (element-small (Message to message.Groupchat e) e fits refl)
      (name-short e (Message to message.Groupchat e) (read-of (Message to message.Groupchat e) e fits refl))
      (occupant_of sender.session h.room.occupants) (found_all IsShortOccupant _ h.room.occupants room.occupants)

  users_short : (own : List ℕ) (to : Option Address) (form : MessageForm) (e : Element) (place : Place) → StanzaFits (Message to form e)
      → IfSome to IsShortAddress
      → Keeps (to_users o sender (Message to form e) form place (user_in own place))
      (filter is_keep (if_delivered o own sender (Message to form e) form place (kept_if (is_kept form e) o sender (Message to form e) e)))
  users_short own to form e place fits near =
      let found : List Here = found_for o own (Message to form e) form place in
      routed_all Keeps sender (Message to form e) _ (kept_if (is_kept form e) o sender (Message to form e) e)
      (given_short o sender to form e short (row-short sender to e (element-small (Message to form e) e fits refl) (addresses s) near)
      (map (λ h. h.session) found))
      (λ c. unkept_short (refused sender (Message to form e) c) o.world.archives (refused_unkept sender (Message to form e) c) short) short
      place (has_account o.users (user_in own place) found) form found

  pub stanza_short : (st : Stanza) → StanzaFits st → IfSome (to_in st) IsShortAddress → AreShortArchives (all_in (effects_in o s st) o.world.archives)
  stanza_short st fits near =
      effects_kept o s st Keeps (record {
        unkept = λ es all. unkept_short es o.world.archives all short;
        said = λ to e h is at.
            subst (λ (x : Stanza). Keeps (say h.room sender x (keeping_in o.world.archives h o.moment) (stamp_text o.moment)) []) (sym is)
            (say_short to e h (subst StanzaFits is fits) at);
        exchanged = λ own to form e place is mine.
            subst (λ (x : Stanza). Keeps (to_users o sender x form place (user_in own place))
            (filter is_keep (if_delivered o own sender x form place (kept_if (is_kept form e) o sender x e)))) (sym is)
            (users_short own to form e place (subst StanzaFits is fits) (subst (λ (x : Stanza). IfSome (to_in x) IsShortAddress) is near));
      })

pub departure_short : (world : World KeptTraffic) (s : ℕ) (a : Archives) → AreShortArchives a → AreShortArchives (all_in (departure world s) a)
departure_short world s a short = unkept_short (departure world s) a (departure_unkept world s) short

-- a faulty one is refused, wherever it goes
fault_none : (o : Scene) (s : ℕ) (st : Stanza) → IsShortFault st → (user : Option (List ℕ))
    → AllByRecursion Unkept (effects_by user o (here o.world s) st)
fault_none o s (Faulty kind to id answered c) fault None = tt
fault_none o s (Faulty kind to id answered c) fault (Some own) = refused_unkept (here o.world s) (Faulty kind to id answered c) c
fault_none o s (Message to form e) fault user = absurd fault
fault_none o s (Presence to form e) fault user = absurd fault
fault_none o s (Iq to id form e) fault user = absurd fault

pub fault_short : (o : Scene) (s : ℕ) → AreShortArchives o.world.archives → (st : Stanza) → IsShortFault st
    → AreShortArchives (all_in (effects_in o s st) o.world.archives)
fault_short o s short st fault = unkept_short (effects_in o s st) o.world.archives (fault_none o s st fault (here o.world s).address.local) short
