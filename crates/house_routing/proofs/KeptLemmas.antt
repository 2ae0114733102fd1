-- What a stanza keeps of messages: few rows, and what is kept after it is short.
use Rattle.std.proofs.Common.{◌≡◌, ◌≤◌, ℕ, ◌+◌, ◌-◌, ◌^◌, ◌==◌, List, [], ◌∷◌, ◌++◌, length, bytes_eq, if◌then◌else◌, IfSome}
use Rattle.std.proofs.Common.{refl, sym, ap, subst, ◌∙◌, arith}
use Rattle.std.specs.List.{AllByRecursion, filter}
use Rattle.stanza_model.specs.Stanzas.{to_in}
use Rattle.stanza_model.specs.declared.effect.Change.{Change}
use Rattle.stanza_model.specs.declared.effect.Change.TheVariants as change
use Rattle.stanza_model.specs.declared.effect.Effect.{Effect}
use Rattle.stanza_model.specs.declared.effect.Effect.TheVariants.{Queue, Broadcast, Enter, Leave, Keep, Set}
use Rattle.stanza_model.specs.declared.stanza.Stanza.{Stanza}
use Rattle.muc_service.specs.Casting.{cast, heard}
use Rattle.muc_service.specs.Rooms.{Rooms, step}
use Rattle.archive_table.specs.Archives.{Archives, Said}
use Rattle.archive_table.specs.declared.filing.Filing.TheVariants.{OfUser, OfRoom, NoRoom}
use Rattle.house_model.specs.Archiving.{AddsFew, HaveFewRows, KeepsNothing, NoRowAfter, is_row, rows_of_room, rows_of_user}
use Rattle.house_model.specs.Fitting.{AreNumbered, AreShortArchives, IsShortAddress, IsShortScene}
use Rattle.house_model.specs.Histories.{StanzaFits}
use Rattle.house_model.specs.Routing.{Scene, departure, effects_in}
use Rattle.house_model.specs.States.{World}
use Rattle.house_model.specs.Traffic.{KeptTraffic}
use Rattle.house_model.proofs.ArchiveNumbers.{filed_numbered}
use Rattle.house_model.proofs.FewRows.{all_few}
use Rattle.house_model.proofs.FiledRows.{IsQueued, all_in, heard_queued, kept_in, queued_pass}
use Rattle.house_model.proofs.KeptRows.{quiet, quiet_few, stanza_kept}
use Rattle.house_model.proofs.ShortArchives.{departure_short, stanza_short}
use Rattle.house_world.specs.declared.casting.Cast.{Cast}
use Rattle.house_world.specs.Hosting.{Archived, AreArchived, IsCast, filed_all, filed_by}

-- As it is cast a list adds as much.

then_rows : (e : Effect) (xs ys : List Effect) → filter is_row xs ≡ filter is_row ys → filter is_row (e ∷ xs) ≡ filter is_row (e ∷ ys)
then_rows e xs ys same = ap (λ (zs : List Effect). if is_row e then e ∷ zs else zs) same

then_user : (user : List ℕ) (e : Effect) (xs ys : List Effect) → rows_of_user user xs ≡ rows_of_user user ys
    → rows_of_user user (e ∷ xs) ≡ rows_of_user user (e ∷ ys)
then_user user (Keep other peer text moment) xs ys same =
    ap (λ (zs : List Said). if bytes_eq other user then record { peer = peer; text = text; moment = moment } ∷ zs else zs) same
then_user user (Queue s to rest origin) xs ys same = same
then_user user (Broadcast n item) xs ys same = same
then_user user (Enter n s address nick role) xs ys same = same
then_user user (Leave n s) xs ys same = same
then_user user (Set c) xs ys same = same

then_room : (n : ℕ) (e : Effect) (xs ys : List Effect) → rows_of_room n xs ≡ rows_of_room n ys → rows_of_room n (e ∷ xs) ≡ rows_of_room n (e ∷ ys)
then_room n (Set (change.RoomRow r peer text moment)) xs ys same =
    ap (λ (zs : List Said). if r == n then record { peer = peer; text = text; moment = moment } ∷ zs else zs) same
then_room n (Set c) xs ys same = same
then_room n (Queue s to rest origin) xs ys same = same
then_room n (Broadcast m item) xs ys same = same
then_room n (Enter m s address nick role) xs ys same = same
then_room n (Leave m s) xs ys same = same
then_room n (Keep user peer text moment) xs ys same = same

cast_rows : (es : List Effect) (rooms : Rooms) → filter is_row (cast rooms es) ≡ filter is_row es
cast_rows [] rooms = refl
cast_rows (e ∷ es) rooms =
    queued_pass (filter is_row) (λ s to rest origin xs. refl) (heard rooms e) (e ∷ cast (step e rooms) es) (heard_queued rooms e)
    ∙ then_rows e (cast (step e rooms) es) es (cast_rows es (step e rooms))

cast_user : (user : List ℕ) (es : List Effect) (rooms : Rooms) → rows_of_user user (cast rooms es) ≡ rows_of_user user es
cast_user user [] rooms = refl
cast_user user (e ∷ es) rooms =
    queued_pass (rows_of_user user) (λ s to rest origin xs. refl) (heard rooms e) (e ∷ cast (step e rooms) es) (heard_queued rooms e)
    ∙ then_user user e (cast (step e rooms) es) es (cast_user user es (step e rooms))

cast_room : (n : ℕ) (es : List Effect) (rooms : Rooms) → rows_of_room n (cast rooms es) ≡ rows_of_room n es
cast_room n [] rooms = refl
cast_room n (e ∷ es) rooms =
    queued_pass (rows_of_room n) (λ s to rest origin xs. refl) (heard rooms e) (e ∷ cast (step e rooms) es) (heard_queued rooms e)
    ∙ then_room n e (cast (step e rooms) es) es (cast_room n es (step e rooms))

then_ends : (e : Effect) (es : List Effect) (rooms : Rooms) → NoRowAfter (cast (step e rooms) es) → NoRowAfter (e ∷ es)
    → NoRowAfter (e ∷ cast (step e rooms) es)
then_ends (Set (change.RoomGone n)) es rooms later ends = (cast_room n es (step (Set (change.RoomGone n)) rooms) ∙ ends.0, later)
then_ends (Set c) es rooms later ends = later
then_ends (Queue s to rest origin) es rooms later ends = later
then_ends (Broadcast n item) es rooms later ends = later
then_ends (Enter n s address nick role) es rooms later ends = later
then_ends (Leave n s) es rooms later ends = later
then_ends (Keep user peer text moment) es rooms later ends = later

ends_later : (e : Effect) (es : List Effect) → NoRowAfter (e ∷ es) → NoRowAfter es
ends_later (Set (change.RoomGone n)) es ends = ends.1
ends_later (Set c) es ends = ends
ends_later (Queue s to rest origin) es ends = ends
ends_later (Broadcast n item) es ends = ends
ends_later (Enter n s address nick role) es ends = ends
ends_later (Leave n s) es ends = ends
ends_later (Keep user peer text moment) es ends = ends

queued_ends : (qs es : List Effect) → AllByRecursion IsQueued qs → NoRowAfter es → NoRowAfter (qs ++ es)
queued_ends [] es all ends = ends
queued_ends (Queue s to rest origin ∷ qs) es all ends = queued_ends qs es all.1 ends
queued_ends (Broadcast n item ∷ qs) es all ends = absurd all.0
queued_ends (Enter n s address nick role ∷ qs) es all ends = absurd all.0
queued_ends (Leave n s ∷ qs) es all ends = absurd all.0
queued_ends (Keep user peer text moment ∷ qs) es all ends = absurd all.0
queued_ends (Set c ∷ qs) es all ends = absurd all.0

cast_ends : (es : List Effect) (rooms : Rooms) → NoRowAfter es → NoRowAfter (cast rooms es)
cast_ends [] rooms ends = tt
cast_ends (e ∷ es) rooms ends =
    queued_ends (heard rooms e) (e ∷ cast (step e rooms) es) (heard_queued rooms e)
    (then_ends e es rooms (cast_ends es (step e rooms) (ends_later e es ends)) ends)

cast_few : (es : List Effect) (rooms : Rooms) → AddsFew es → AddsFew (cast rooms es)
cast_few es rooms few = record {
  all = subst (λ (xs : List Effect). length xs ≤ 2) (sym (cast_rows es rooms)) few.all;
  users = λ user. subst (λ (xs : List Said). length xs ≤ 1) (sym (cast_user user es rooms)) (few.users user);
  rooms = λ n. subst (λ (xs : List Said). length xs ≤ 1) (sym (cast_room n es rooms)) (few.rooms n);
  ends = cast_ends es rooms few.ends;
}

-- of a stanza
pub stanza_few : (o : Scene) (s : ℕ) (x : Stanza) (es : List Effect) (c : Cast) → es ≡ effects_in o s x → IsCast es o.world.rooms c
    → AddsFew c.effects.items
stanza_few o s x es c is made =
    subst AddsFew (sym made.effects)
    (subst (λ (xs : List Effect). AddsFew (cast o.world.rooms xs)) (sym is)
    (cast_few (effects_in o s x) o.world.rooms (stanza_kept o s x).few))

-- What is kept after it.

set_is : (c : Change) (a : Archives) → filed_by (Set c) a ≡ kept_in (Set c) a
set_is (change.RoomRow n peer text moment) a = refl
set_is (change.RoomGone n) a = refl
set_is c a = refl

one_is : (e : Effect) (a : Archives) → filed_by e a ≡ kept_in e a
one_is (Keep user peer text moment) a = refl
one_is (Set c) a = set_is c a
one_is e a = refl

all_is : (es : List Effect) (a : Archives) → filed_all es a ≡ all_in es a
all_is [] a = refl
all_is (e ∷ es) a = ap (filed_all es) (one_is e a) ∙ all_is es (kept_in e a)

cast_in : (es : List Effect) (rooms : Rooms) (a : Archives) → all_in (cast rooms es) a ≡ all_in es a
cast_in [] rooms a = refl
cast_in (e ∷ es) rooms a =
    queued_pass (λ xs. all_in xs a) (λ s to rest origin xs. refl) (heard rooms e) (e ∷ cast (step e rooms) es) (heard_queued rooms e)
    ∙ cast_in es (step e rooms) (kept_in e a)

set_numbered : (c : Change) (a : Archives) → AreNumbered a → AreNumbered (kept_in (Set c) a)
set_numbered (change.RoomRow n peer text moment) a are = filed_numbered (OfRoom n peer text moment) a are
set_numbered (change.RoomGone n) a are = filed_numbered (NoRoom n) a are
set_numbered c a are = are

one_numbered : (e : Effect) (a : Archives) → AreNumbered a → AreNumbered (kept_in e a)
one_numbered (Keep user peer text moment) a are = filed_numbered (OfUser user peer text moment) a are
one_numbered (Set c) a are = set_numbered c a are
one_numbered e a are = are

effects_numbered : (es : List Effect) (a : Archives) → AreNumbered a → AreNumbered (all_in es a)
effects_numbered [] a are = are
effects_numbered (e ∷ es) a are = effects_numbered es (kept_in e a) (one_numbered e a are)

fewer : (m n : ℕ) (a : Archives) → m ≤ n → HaveFewRows m a → HaveFewRows n a
fewer m n a low have = record {
  users = λ user. (let few = have.users user in omega (arith, few, low));
  rooms = λ k. (let few = have.rooms k in omega (arith, few, low));
}

all_archived : (es : List Effect) (turns : ℕ) (a : Archives) → AddsFew es → AreShortArchives (all_in es a) → AreArchived turns a
    → AreArchived (turns + 1) (all_in es a)
all_archived es turns a few short is = record {
  rows = all_few es a turns few is.rows;
  short = short;
  numbered = effects_numbered es a is.numbered;
}

cast_archived : (es fs : List Effect) (a : Archives) (rooms : Rooms) (c : Cast) → fs ≡ es → IsCast fs rooms c → AddsFew es
    → (AreShortArchives a → AreShortArchives (all_in es a)) → Archived a (filed_all c.effects.items a)
cast_archived es fs a rooms c is made few short = λ turns before.
    let same : filed_all c.effects.items a ≡ all_in es a =
    all_is c.effects.items a
    ∙ (ap (λ (xs : List Effect). all_in xs a) (made.effects ∙ ap (cast rooms) is) ∙ cast_in es rooms a) in
    subst (AreArchived (turns + 1)) (sym same) (all_archived es turns a few (short before.short) before)

pub stanza_archived : (o : Scene) (s : ℕ) (x : Stanza) (es : List Effect) (c : Cast) → es ≡ effects_in o s x → IsCast es o.world.rooms c
    → StanzaFits x → IsShortScene o → IfSome (to_in x) IsShortAddress → AreArchived (2 ^ 63 + 2 ^ 62) o.world.archives
    → Archived o.world.archives (filed_all c.effects.items o.world.archives)
stanza_archived o s x es c is made fits scene to archived =
    cast_archived (effects_in o s x) es o.world.archives o.world.rooms c is made (stanza_kept o s x).few
    (λ short. stanza_short o s scene.addresses scene.rooms (fewer (2 ^ 63 + 2 ^ 62) (2 ^ 64 - 2) o.world.archives (omega arith) archived.rows) short x
    fits to)

pub departure_archived : (world : World KeptTraffic) (s : ℕ) (es : List Effect) (c : Cast) → es ≡ departure world s → IsCast es world.rooms c
    → Archived world.archives (filed_all c.effects.items world.archives)
departure_archived world s es c is made =
    cast_archived (departure world s) es world.archives world.rooms c is made (quiet_few world s) (departure_short world s world.archives)

pub departure_nothing : (world : World KeptTraffic) (s : ℕ) (es : List Effect) (c : Cast) → es ≡ departure world s → IsCast es world.rooms c
    → KeepsNothing c.effects.items
departure_nothing world s es c is made =
    ap (filter is_row) (made.effects ∙ ap (cast world.rooms) is) ∙ (cast_rows (departure world s) world.rooms ∙ quiet world s)
