-- Effects but for what they do to the rooms, and the rooms, which are put last.
use Rattle.std.proofs.Common.{◌≡◌, ℕ, List, [], ◌∷◌, map, true, false, Option, None, Some, refl, sym, ap, subst, ◌∙◌}
use Rattle.std.specs.Prelude.{unwrap_or}
use Rattle.jid_core.specs.Addresses.{Address}
use Rattle.stanza_tree.specs.declared.frame.Origin.{Origin}
use Rattle.stanza_model.specs.declared.effect.Change.{Change}
use Rattle.stanza_model.specs.declared.effect.Change.TheVariants as change
use Rattle.stanza_model.specs.declared.effect.Effect as stanza
use Rattle.stanza_model.specs.declared.effect.Effect.TheVariants.{Queue, Broadcast, Enter, Leave, Keep, Set}
use Rattle.archive_table.specs.Tables.{archives_of}
use Rattle.muc_service.specs.Casting.{after}
use Rattle.muc_service.specs.Rooms.{Rooms, step}
use Rattle.house_model.specs.Effects.{apply, apply_all}
use Rattle.house_model.specs.States.{World}
use Rattle.house_model.specs.Steps.{effect_of, set}
use Rattle.house_model.specs.Traffic.{KeptTraffic, brief}
use Rattle.house_world.specs.declared.world.World as code
use Rattle.house_world.specs.Hosting.{but_rooms, but_rooms_of, filed_all, filed_by}
use Rattle.house_world.specs.Marks.{is_of_archives, is_of_users, named_by}
use Rattle.house_world.specs.Wholes.{IsTied}
use Rattle.house_world.specs.Worlds.{Did, Stays, seen}
use Rattle.house_world.proofs.DidLemmas.{all_then, did_none}

-- one effect, in a world whose rooms are these

set_last : (c : Change) (world : World KeptTraffic) (r : Rooms)
    → apply brief (record world { rooms = r }) (set c) ≡ record (apply_all brief world (but_rooms_of (Set c))) { rooms = step (Set c) r }
set_last (change.WantsRoster s) world r = refl
set_last (change.Pushed s pushes) world r = refl
set_last (change.Available s stanza priority) world r = refl
set_last (change.Unavailable s) world r = refl
set_last (change.Directed s addresses) world r = refl
set_last (change.Contact user address name groups) world r = refl
set_last (change.NoContact user address) world r = refl
set_last (change.Sees a b on) world r = refl
set_last (change.Asked a b on) world r = refl
set_last (change.RoomMade n address owner) world r = refl
set_last (change.RoomGone n) world r = refl
set_last (change.Unlocked n) world r = refl
set_last (change.Configured n config) world r = refl
set_last (change.Affiliated n address a) world r = refl
set_last (change.RoleSet n s role) world r = refl
set_last (change.Renamed n s nick) world r = refl
set_last (change.OccupantShown n s presence) world r = refl
set_last (change.Subject n text stamp) world r = refl
set_last (change.RoomRow n peer text moment) world r = refl

one_last : (e : stanza.Effect) (world : World KeptTraffic) (r : Rooms)
    → apply brief (record world { rooms = r }) (effect_of e) ≡ record (apply_all brief world (but_rooms_of e)) { rooms = step e r }
one_last (Queue s to rest origin) world r = refl
one_last (Broadcast n item) world r = refl
one_last (Enter n s address nick role) world r = refl
one_last (Leave n s) world r = refl
one_last (Keep user peer text moment) world r = refl
one_last (Set c) world r = set_last c world r

-- all of them
rooms_last : (es : List stanza.Effect) (world : World KeptTraffic) (r : Rooms)
    → apply_all brief (record world { rooms = r }) (map effect_of es) ≡ record (apply_all brief world (but_rooms es)) { rooms = after r es }
rooms_last [] world r = refl
rooms_last (e ∷ es) world r =
    ap (λ (w : World KeptTraffic). apply_all brief w (map effect_of es)) (one_last e world r)
    ∙ (rooms_last es (apply_all brief world (but_rooms_of e)) (step e r)
    ∙ ap (λ (w : World KeptTraffic). record w { rooms = after (step e r) es }) (sym (all_then world (but_rooms_of e) (but_rooms es))))

-- by what they do but for the rooms, the rooms stay as they are

set_leaves : (c : Change) (world : World KeptTraffic) → (apply_all brief world (but_rooms_of (Set c))).rooms ≡ world.rooms
set_leaves (change.WantsRoster s) world = refl
set_leaves (change.Pushed s pushes) world = refl
set_leaves (change.Available s stanza priority) world = refl
set_leaves (change.Unavailable s) world = refl
set_leaves (change.Directed s addresses) world = refl
set_leaves (change.Contact user address name groups) world = refl
set_leaves (change.NoContact user address) world = refl
set_leaves (change.Sees a b on) world = refl
set_leaves (change.Asked a b on) world = refl
set_leaves (change.RoomRow n peer text moment) world = refl
set_leaves (change.RoomGone n) world = refl
set_leaves c world = refl

one_leaves : (e : stanza.Effect) (world : World KeptTraffic) → (apply_all brief world (but_rooms_of e)).rooms ≡ world.rooms
one_leaves (Queue s to rest origin) world = refl
one_leaves (Broadcast n item) world = refl
one_leaves (Enter n s address nick role) world = refl
one_leaves (Leave n s) world = refl
one_leaves (Keep user peer text moment) world = refl
one_leaves (Set c) world = set_leaves c world

rooms_left : (es : List stanza.Effect) (world : World KeptTraffic) → (apply_all brief world (but_rooms es)).rooms ≡ world.rooms
rooms_left [] world = refl
rooms_left (e ∷ es) world =
    ap (λ (w : World KeptTraffic). w.rooms) (all_then world (but_rooms_of e) (but_rooms es))
    ∙ (rooms_left es (apply_all brief world (but_rooms_of e)) ∙ one_leaves e world)

-- and the archives are what they make of them

set_files : (c : Change) (world : World KeptTraffic) → (apply_all brief world (but_rooms_of (Set c))).archives ≡ filed_by (Set c) world.archives
set_files (change.WantsRoster s) world = refl
set_files (change.Pushed s pushes) world = refl
set_files (change.Available s stanza priority) world = refl
set_files (change.Unavailable s) world = refl
set_files (change.Directed s addresses) world = refl
set_files (change.Contact user address name groups) world = refl
set_files (change.NoContact user address) world = refl
set_files (change.Sees a b on) world = refl
set_files (change.Asked a b on) world = refl
set_files (change.RoomRow n peer text moment) world = refl
set_files (change.RoomGone n) world = refl
set_files c world = refl

one_files : (e : stanza.Effect) (world : World KeptTraffic) → (apply_all brief world (but_rooms_of e)).archives ≡ filed_by e world.archives
one_files (Queue s to rest origin) world = refl
one_files (Broadcast n item) world = refl
one_files (Enter n s address nick role) world = refl
one_files (Leave n s) world = refl
one_files (Keep user peer text moment) world = refl
one_files (Set c) world = set_files c world

all_file : (es : List stanza.Effect) (world : World KeptTraffic) → (apply_all brief world (but_rooms es)).archives ≡ filed_all es world.archives
all_file [] world = refl
all_file (e ∷ es) world =
    ap (λ (w : World KeptTraffic). w.archives) (all_then world (but_rooms_of e) (but_rooms es))
    ∙ (all_file es (apply_all brief world (but_rooms_of e)) ∙ ap (filed_all es) (one_files e world))

pub put_files : (es : List stanza.Effect) (rooms : Option Rooms) (a b f : code.World) → Did (but_rooms es) 0 a b
    → f ≡ record b { rooms = unwrap_or rooms b.rooms } → archives_of f.archives ≡ filed_all es (archives_of a.archives)
put_files es rooms a b f did put =
    ap (λ (x : code.World). archives_of x.archives) put ∙ (ap (λ (x : World KeptTraffic). x.archives) did.world ∙ all_file es (seen a))

-- the rooms are put
pub put_did : (es : List stanza.Effect) (rooms : Option Rooms) (a b f : code.World) → Did (but_rooms es) 0 a b
    → f ≡ record b { rooms = unwrap_or rooms b.rooms } → unwrap_or rooms a.rooms ≡ after a.rooms es → Did (map effect_of es) 0 a f
put_did es rooms a b f did put is =
    let same : b.rooms ≡ a.rooms = ap (λ (x : World KeptTraffic). x.rooms) did.world ∙ rooms_left es (seen a) in
    let now : unwrap_or rooms b.rooms ≡ after a.rooms es = ap (λ (r : Rooms). unwrap_or rooms r) same ∙ is in
    subst (λ (g : code.World). Did (map effect_of es) 0 a g) (sym (put ∙ ap (λ (r : Rooms). record b { rooms = r }) now)) (record {
      world = ap (λ (x : World KeptTraffic). record x { rooms = after a.rooms es }) did.world ∙ sym (rooms_last es (seen a) a.rooms);
      tied = did.tied;
      known = did.known;
      few = did.few;
      lines = did.lines;
      answered = did.answered;
      kept = did.kept;
    })

pub put_is : (es : List stanza.Effect) (rooms : Option Rooms) (a b f : code.World) → Did (but_rooms es) 0 a b
    → f ≡ record b { rooms = unwrap_or rooms b.rooms } → f.rooms ≡ unwrap_or rooms a.rooms
put_is es rooms a b f did put =
    ap (λ (x : code.World). x.rooms) put
    ∙ ap (λ (r : Rooms). unwrap_or rooms r) (ap (λ (x : World KeptTraffic). x.rooms) did.world ∙ rooms_left es (seen a))

pub put_stays : (a b f : code.World) (r : Rooms) → f ≡ record b { rooms = r } → Stays a b → Stays a f
put_stays a b f r put stays =
    subst (λ (g : code.World). Stays a g) (sym put) (record { logged = stays.logged; there = stays.there; over = stays.over; spare = stays.spare })

-- a change of users, of a session, of archives, or of none of them

pub noted_last : (c : Change) (a b : code.World) → is_of_users c ≡ true → Did (set c ∷ []) 0 a b → Did (but_rooms_of (Set c)) 0 a b
noted_last (change.Contact user address name groups) a b is did = did
noted_last (change.NoContact user address) a b is did = did
noted_last (change.Sees one other on) a b is did = did
noted_last (change.Asked one other on) a b is did = did
noted_last (change.WantsRoster s) a b is did = absurd (cc)
noted_last (change.Pushed s pushes) a b is did = absurd (cc)
noted_last (change.Available s stanza priority) a b is did = absurd (cc)
noted_last (change.Unavailable s) a b is did = absurd (cc)
noted_last (change.Directed s addresses) a b is did = absurd (cc)
noted_last (change.RoomMade n address owner) a b is did = absurd (cc)
noted_last (change.RoomGone n) a b is did = absurd (cc)
noted_last (change.Unlocked n) a b is did = absurd (cc)
noted_last (change.Configured n config) a b is did = absurd (cc)
noted_last (change.Affiliated n address x) a b is did = absurd (cc)
noted_last (change.RoleSet n s role) a b is did = absurd (cc)
noted_last (change.Renamed n s nick) a b is did = absurd (cc)
noted_last (change.OccupantShown n s presence) a b is did = absurd (cc)
noted_last (change.Subject n text stamp) a b is did = absurd (cc)
noted_last (change.RoomRow n peer text moment) a b is did = absurd (cc)

pub named_last : (c : Change) (s : ℕ) (a b : code.World) → named_by c ≡ Some s → Did (set c ∷ []) 0 a b → Did (but_rooms_of (Set c)) 0 a b
named_last (change.WantsRoster n) s a b is did = did
named_last (change.Pushed n pushes) s a b is did = did
named_last (change.Available n stanza priority) s a b is did = did
named_last (change.Unavailable n) s a b is did = did
named_last (change.Directed n addresses) s a b is did = did
named_last c s a b is did = absurd (cc)

pub filed_last : (c : Change) (a b : code.World) → is_of_archives c ≡ true → Did (set c ∷ []) 0 a b → Did (but_rooms_of (Set c)) 0 a b
filed_last (change.RoomRow n peer text moment) a b is did = did
filed_last c a b is did = absurd (cc)

pub other_last : (c : Change) (a : code.World) → IsTied a.table → is_of_users c ≡ false → named_by c ≡ None → is_of_archives c ≡ false
    → ((n : ℕ) → c ≡ change.RoomGone n → ⊥) → Did (but_rooms_of (Set c)) 0 a a
other_last (change.RoomMade n address owner) a tied users none rows apart = did_none a tied
other_last (change.RoomGone n) a tied users none rows apart = absurd (apart n refl)
other_last (change.Unlocked n) a tied users none rows apart = did_none a tied
other_last (change.Configured n config) a tied users none rows apart = did_none a tied
other_last (change.Affiliated n address x) a tied users none rows apart = did_none a tied
other_last (change.RoleSet n s role) a tied users none rows apart = did_none a tied
other_last (change.Renamed n s nick) a tied users none rows apart = did_none a tied
other_last (change.OccupantShown n s presence) a tied users none rows apart = did_none a tied
other_last (change.Subject n text stamp) a tied users none rows apart = did_none a tied
other_last c a tied users none rows apart = absurd (cc)

-- what is neither queued, nor kept, nor set
pub silent_last : (e : stanza.Effect) (a : code.World) → IsTied a.table → ((s : ℕ) (to rest : List ℕ) (origin : Origin) → e ≡ Queue s to rest origin → ⊥)
    → ((user : List ℕ) (peer : Address) (text : List ℕ) (moment : ℕ) → e ≡ Keep user peer text moment → ⊥)
    → ((c : Change) → e ≡ Set c → ⊥) → Did (but_rooms_of e) 0 a a
silent_last (Queue s to rest origin) a tied unqueued unkept unset = absurd (unqueued s to rest origin refl)
silent_last (Broadcast n item) a tied unqueued unkept unset = did_none a tied
silent_last (Enter n s address nick role) a tied unqueued unkept unset = did_none a tied
silent_last (Leave n s) a tied unqueued unkept unset = did_none a tied
silent_last (Keep user peer text moment) a tied unqueued unkept unset = absurd (unkept user peer text moment refl)
silent_last (Set c) a tied unqueued unkept unset = absurd (unset c refl)
