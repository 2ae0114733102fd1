-- What is kept of messages, where a turn keeps none.
use Rattle.std.proofs.Common.{◌≡◌, ℕ, ◌+◌, ◌-◌, ◌≤◌, ◌==◌, Bool, true, false, List, [], ◌∷◌, ◌++◌, map, append_assoc, if◌then◌else◌}
use Rattle.std.proofs.Common.{Option, None, Some, refl, sym, ap, subst, ◌∙◌, arith}
use Rattle.std.specs.Prelude.{flat_map}
use Rattle.std.specs.List.{AllByRecursion, filter}
use Rattle.stanza_model.specs.declared.effect.Change.TheVariants.{RoomGone, RoomRow}
use Rattle.stanza_model.specs.declared.effect.Effect.{Effect}
use Rattle.stanza_model.specs.declared.effect.Effect.TheVariants.{Broadcast, Keep, Set}
use Rattle.stanza_model.specs.declared.room.Occupant.{Occupant}
use Rattle.stanza_model.specs.declared.room.RoomItem.{RoomItem}
use Rattle.stanza_model.specs.declared.room.Seat.{Seat}
use Rattle.archive_table.specs.Archives.{Archives, Rows, filed, no_rows}
use Rattle.archive_table.specs.declared.filing.Filing.TheVariants.{NoRoom}
use Rattle.archive_table.specs.Tables as archive
use Rattle.archive_table.specs.Tables.{archives_of}
use Rattle.muc_service.specs.Casting.{cast, copies_for, copies_in, copy_for, heard}
use Rattle.muc_service.specs.Rooms.{Hosted, Rooms, hosted_as, step}
use Rattle.house_model.specs.Archiving.{KeepsNothing, NoRowAfter, is_row, rows_of_room}
use Rattle.house_model.specs.Fitting.{AreShortRows, IsNumbered}
use Rattle.house_world.specs.Hosting.{Archived, AreArchived, filed_all}
use Rattle.house_world.specs.Readiness.{AreFilable, HasNumbers, HasPlaces}

-- effects that keep nothing need no memory

quiet_rows : (n : ℕ) (es : List Effect) → KeepsNothing es → rows_of_room n es ≡ []
quiet_rows n [] is = refl
quiet_rows n (Keep user peer text moment ∷ es) is = absurd (cc)
quiet_rows n (Set (RoomRow m peer text moment) ∷ es) is = absurd (cc)
quiet_rows n (e ∷ es) is = quiet_rows n es is

quiet_ends : (es : List Effect) → KeepsNothing es → NoRowAfter es
quiet_ends [] is = tt
quiet_ends (Keep user peer text moment ∷ es) is = absurd (cc)
quiet_ends (Set (RoomRow m peer text moment) ∷ es) is = absurd (cc)
quiet_ends (Set (RoomGone n) ∷ es) is = (quiet_rows n es is, quiet_ends es is)
quiet_ends (e ∷ es) is = quiet_ends es is

quiet_places : (all : List Effect) (t : archive.TableRecord) (es : List Effect) → KeepsNothing es → AllByRecursion (HasPlaces all t) es
quiet_places all t [] is = tt
quiet_places all t (Keep user peer text moment ∷ es) is = absurd (cc)
quiet_places all t (Set (RoomRow m peer text moment) ∷ es) is = absurd (cc)
quiet_places all t (e ∷ es) is = (tt, quiet_places all t es is)

quiet_numbers : (all : List Effect) (a : Archives) (es : List Effect) → KeepsNothing es → AllByRecursion (HasNumbers all a) es
quiet_numbers all a [] is = tt
quiet_numbers all a (Keep user peer text moment ∷ es) is = absurd (cc)
quiet_numbers all a (Set (RoomRow m peer text moment) ∷ es) is = absurd (cc)
quiet_numbers all a (e ∷ es) is = (tt, quiet_numbers all a es is)

pub quiet_filable : (es : List Effect) (t : archive.TableRecord) → KeepsNothing es → AreFilable es t
quiet_filable es t is = record {
  places = quiet_places es t es is;
  numbers = quiet_numbers es (archives_of t) es is;
  ends = quiet_ends es is;
}

-- as they are cast they keep as much

seats_quiet : (h : Hosted) (item : RoomItem) (o : Occupant) (xs : List Seat) (rest : List Effect)
    → filter is_row (map (copy_for h item o) xs ++ rest) ≡ filter is_row rest
seats_quiet h item o [] rest = refl
seats_quiet h item o (x ∷ xs) rest = seats_quiet h item o xs rest

copies_quiet : (h : Hosted) (item : RoomItem) (os : List Occupant) (rest : List Effect)
    → filter is_row (flat_map (copies_for h item) os ++ rest) ≡ filter is_row rest
copies_quiet h item [] rest = refl
copies_quiet h item (o ∷ os) rest =
    ap (filter is_row) (append_assoc (copies_for h item o) (flat_map (copies_for h item) os) rest)
    ∙ (seats_quiet h item o o.seats (flat_map (copies_for h item) os ++ rest) ∙ copies_quiet h item os rest)

found_quiet : (found : Option Hosted) (item : RoomItem) (rest : List Effect) → filter is_row (copies_in found item ++ rest) ≡ filter is_row rest
found_quiet None item rest = refl
found_quiet (Some h) item rest = copies_quiet h item h.room.occupants rest

heard_quiet : (e : Effect) (rooms : Rooms) (rest : List Effect) → filter is_row (heard rooms e ++ rest) ≡ filter is_row rest
heard_quiet (Broadcast n item) rooms rest = found_quiet (hosted_as n rooms) item rest
heard_quiet e rooms rest = refl

cast_rows : (es : List Effect) (rooms : Rooms) → filter is_row (cast rooms es) ≡ filter is_row es
cast_rows [] rooms = refl
cast_rows (e ∷ es) rooms =
    heard_quiet e rooms (e ∷ cast (step e rooms) es)
    ∙ ap (λ (xs : List Effect). if is_row e then e ∷ xs else xs) (cast_rows es (step e rooms))

pub cast_quiet : (es out : List Effect) (rooms : Rooms) → out ≡ cast rooms es → KeepsNothing es → KeepsNothing out
cast_quiet es out rooms is none = ap (filter is_row) is ∙ (cast_rows es rooms ∙ none)

-- what one turn more makes of archives

pub archived_later : (n m : ℕ) (a : Archives) → n ≤ m → AreArchived n a → AreArchived m a
archived_later n m a less is = record {
  rows = record {
    users = λ user. (let most = is.rows.users user in omega (arith, most, less));
    rooms = λ r. (let most = is.rows.rooms r in omega (arith, most, less));
  };
  numbered = is.numbered;
  short = is.short;
}

pub archived_same : (a b : Archives) → b ≡ a → Archived a b
archived_same a b same = λ n is. subst (λ (x : Archives). AreArchived (n + 1) x) (sym same) (archived_later n (n + 1) a (omega arith) is)

gone_made : (b : Bool) (n : ℕ) (y : Rows) → y.made ≤ n → (if b then no_rows else y).made ≤ n
gone_made true n y most = omega arith
gone_made false n y most = most

gone_numbered : (b : Bool) (y : Rows) → IsNumbered y → IsNumbered (if b then no_rows else y)
gone_numbered true y is = record { ids = tt; count = omega arith }
gone_numbered false y is = is

gone_short : (b : Bool) (y : Rows) → AreShortRows y.kept → AreShortRows (if b then no_rows else y).kept
gone_short true y short = tt
gone_short false y short = short

gone_archived : (n r : ℕ) (a : Archives) → AreArchived n a → AreArchived n (filed (NoRoom r) a)
gone_archived n r a is = record {
  rows = record { users = is.rows.users; rooms = λ m. gone_made (m == r) n (a.rooms m) (is.rows.rooms m) };
  numbered = record { users = is.numbered.users; rooms = λ m. gone_numbered (m == r) (a.rooms m) (is.numbered.rooms m) };
  short = record {
    users = is.short.users;
    rooms = λ m. gone_short (m == r) (a.rooms m) (is.short.rooms m);
    bytes = (let most = is.short.bytes in omega (arith, most));
  };
}

quiet_filed : (es : List Effect) (n : ℕ) (a : Archives) → KeepsNothing es → AreArchived n a → AreArchived n (filed_all es a)
quiet_filed [] n a none is = is
quiet_filed (Keep user peer text moment ∷ es) n a none is = absurd (cc)
quiet_filed (Set (RoomRow m peer text moment) ∷ es) n a none is = absurd (cc)
quiet_filed (Set (RoomGone r) ∷ es) n a none is = quiet_filed es n (filed (NoRoom r) a) none (gone_archived n r a is)
quiet_filed (e ∷ es) n a none is = quiet_filed es n a none is

pub quiet_archived : (es : List Effect) (a b : Archives) → KeepsNothing es → b ≡ filed_all es a → Archived a b
quiet_archived es a b none same = λ n is.
    subst (λ (x : Archives). AreArchived (n + 1) x) (sym same) (archived_later n (n + 1) (filed_all es a) (omega arith) (quiet_filed es n a none is))
