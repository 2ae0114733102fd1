-- What the effects of a stanza add to the orders of rooms: of the messages with a body those that they broadcast. And which rows they keep.
use Rattle.std.proofs.Common.{◌≡◌, ℕ, ◌==◌, List, [], ◌∷◌, ◌++◌, map, append_assoc, refl, sym, ap, ◌∙◌, subst, bytes_eq, Bool, true, false, Option}
use Rattle.std.proofs.Common.{Some, None, is_some, if◌then◌else◌}
use Rattle.std.proofs.lemmas.Bool.{eq-eqb, ne_eqb}
use Rattle.std.proofs.lemmas.List.{append-nil}
use Rattle.std.specs.List.{AllByRecursion}
use Rattle.stanza_model.specs.declared.effect.Change.{Change}
use Rattle.stanza_model.specs.declared.effect.Change.TheVariants as change
use Rattle.stanza_model.specs.declared.effect.Effect as stanza
use Rattle.stanza_model.specs.declared.effect.Effect.TheVariants as effect
use Rattle.stanza_model.specs.declared.room.RoomItem.{RoomItem}
use Rattle.muc_service.specs.Casting.{after, cast, heard}
use Rattle.muc_service.specs.Rooms.{Hosted, Rooms, hosted_as, step}
use Rattle.archive_table.specs.Archives.{Said}
use Rattle.house_model.specs.Archiving.{kept_by, messages_in, rows_of_user, said_by, spoken_in}
use Rattle.house_model.specs.Effects.{Hosts, apply, apply_all}
use Rattle.house_model.specs.RoomFits.{AreOf}
use Rattle.house_model.specs.States.{World}
use Rattle.house_model.specs.Stays.{Item, Logs, broadcasts, item_in, log_step, logs_through}
use Rattle.house_model.specs.Steps.{effect_of, set}
use Rattle.house_model.specs.Traffic.{Traffic, whole}
use Rattle.house_model.proofs.FiledRows.{IsQueued, heard_queued, queued_pass}
use Rattle.house_model.proofs.StayLemmas.{put_both}

pub spoken_append : (xs ys : List Item) → spoken_in (xs ++ ys) ≡ spoken_in xs ++ spoken_in ys
spoken_append [] ys = refl
spoken_append (x ∷ xs) ys =
    ap (λ (l : List Said). said_by x.item ++ l) (spoken_append xs ys) ∙ sym (append_assoc (said_by x.item) (spoken_in xs) (spoken_in ys))

-- an item more, of a room that is there

abbrev IsSpoken : (r : ℕ) → RoomItem → Logs → (n : ℕ) → List Item → Type 0
IsSpoken r item logs n order = spoken_in order ≡ spoken_in (logs.order n) ++ (if r == n then said_by item else [])

spoken_here : (h : Hosted) (r : ℕ) (item : RoomItem) (logs : Logs) → IsSpoken r item logs r (logs.order r ++ item_in h item ∷ [])
spoken_here h r item logs =
    let t : (r == r) ≡ true = eq-eqb r r refl in
    rw t (spoken_append (logs.order r) (item_in h item ∷ [])
    ∙ ap (λ (l : List Said). spoken_in (logs.order r) ++ l) (append-nil (said_by item)))

spoken_else : (r : ℕ) (item : RoomItem) (logs : Logs) (n : ℕ) → (n ≡ r → ⊥) → IsSpoken r item logs n (logs.order n)
spoken_else r item logs n ne =
    let t : (r == n) ≡ false = ne_eqb r n (λ (q : r ≡ n). ne (sym q)) in
    rw t (sym (append-nil (spoken_in (logs.order n))))

spoken_one : (found : Option Hosted) (r : ℕ) (item : RoomItem) (logs : Logs) (n : ℕ) → is_some found ≡ true
    → IsSpoken r item logs n ((broadcasts found r item logs).order n)
spoken_one None r item logs n there = absurd (let z : false ≡ true = there in cc)
spoken_one (Some h) r item logs n there =
    put_both (λ k (l : List Item). IsSpoken r item logs k l) r (logs.order r ++ item_in h item ∷ []) logs.order (spoken_here h r item logs)
    (λ k ne. spoken_else r item logs k ne) n

joined : (b : Bool) (xs ys : List Said) → (if b then xs else []) ++ ys ≡ (if b then xs ++ ys else ys)
joined true xs ys = refl
joined false xs ys = refl

effects_spoken : (es : List stanza.Effect) (world : World Traffic) (logs : Logs) (n : ℕ) → AreOf world.rooms es
    → spoken_in ((logs_through world (map effect_of es) logs).order n) ≡ spoken_in (logs.order n) ++ messages_in n es
effects_spoken [] world logs n are = sym (append-nil (spoken_in (logs.order n)))
effects_spoken (effect.Broadcast r item ∷ es) world logs n are =
    let e = Hosts (effect.Broadcast r item) in
    let before : List Said = spoken_in (logs.order n) in
    let mine : List Said = if r == n then said_by item else [] in
    effects_spoken es (apply whole world e) (log_step world e logs) n are.1
    ∙ (ap (λ (l : List Said). l ++ messages_in n es) (spoken_one (hosted_as r world.rooms) r item logs n are.0)
    ∙ (append_assoc before mine (messages_in n es)
    ∙ ap (λ (l : List Said). before ++ l) (joined (r == n) (said_by item) (messages_in n es))))
effects_spoken (effect.Set (change.RoomGone m) ∷ es) world logs n are =
    effects_spoken es (apply whole world (set (change.RoomGone m))) (log_step world (set (change.RoomGone m)) logs) n are.1
effects_spoken (effect.Set c ∷ es) world logs n are = effects_spoken es (apply whole world (set c)) (log_step world (set c) logs) n are.1
effects_spoken (effect.Queue s to rest origin ∷ es) world logs n are =
    let e : stanza.Effect = effect.Queue s to rest origin in
    effects_spoken es (apply whole world (effect_of e)) (log_step world (effect_of e) logs) n are.1
effects_spoken (effect.Enter r s address nick role ∷ es) world logs n are =
    let e : stanza.Effect = effect.Enter r s address nick role in
    effects_spoken es (apply whole world (effect_of e)) (log_step world (effect_of e) logs) n are.1
effects_spoken (effect.Leave r s ∷ es) world logs n are =
    let e : stanza.Effect = effect.Leave r s in
    effects_spoken es (apply whole world (effect_of e)) (log_step world (effect_of e) logs) n are.1
effects_spoken (effect.Keep user peer text moment ∷ es) world logs n are =
    let e : stanza.Effect = effect.Keep user peer text moment in
    effects_spoken es (apply whole world (effect_of e)) (log_step world (effect_of e) logs) n are.1

-- as they are cast

queued_of : (qs es : List stanza.Effect) (rooms : Rooms) → AllByRecursion IsQueued qs → AreOf rooms es → AreOf rooms (qs ++ es)
queued_of [] es rooms all are = are
queued_of (effect.Queue s to rest origin ∷ qs) es rooms all are = (tt, queued_of qs es rooms all.1 are)
queued_of (effect.Broadcast n item ∷ qs) es rooms all are = absurd all.0
queued_of (effect.Enter n s address nick role ∷ qs) es rooms all are = absurd all.0
queued_of (effect.Leave n s ∷ qs) es rooms all are = absurd all.0
queued_of (effect.Keep user peer text moment ∷ qs) es rooms all are = absurd all.0
queued_of (effect.Set c ∷ qs) es rooms all are = absurd all.0

cast_of : (es : List stanza.Effect) (rooms : Rooms) → AreOf rooms es → AreOf rooms (cast rooms es)
cast_of [] rooms are = tt
cast_of (e ∷ es) rooms are =
    queued_of (heard rooms e) (e ∷ cast (step e rooms) es) rooms (heard_queued rooms e) (are.0, cast_of es (step e rooms) are.1)

messages_then : (n : ℕ) (e : stanza.Effect) (xs ys : List stanza.Effect) → messages_in n xs ≡ messages_in n ys
    → messages_in n (e ∷ xs) ≡ messages_in n (e ∷ ys)
messages_then n (effect.Broadcast r item) xs ys same = ap (λ (l : List Said). if r == n then said_by item ++ l else l) same
messages_then n (effect.Queue s to rest origin) xs ys same = same
messages_then n (effect.Enter r s address nick role) xs ys same = same
messages_then n (effect.Leave r s) xs ys same = same
messages_then n (effect.Keep user peer text moment) xs ys same = same
messages_then n (effect.Set c) xs ys same = same

cast_messages : (es : List stanza.Effect) (rooms : Rooms) (n : ℕ) → messages_in n (cast rooms es) ≡ messages_in n es
cast_messages [] rooms n = refl
cast_messages (e ∷ es) rooms n =
    queued_pass (messages_in n) (λ s to rest origin xs. refl) (heard rooms e) (e ∷ cast (step e rooms) es) (heard_queued rooms e)
    ∙ messages_then n e (cast (step e rooms) es) es (cast_messages es (step e rooms) n)

pub cast_spoken : (es : List stanza.Effect) (rooms : Rooms) (world : World Traffic) (logs : Logs) (n : ℕ) → world.rooms ≡ rooms → AreOf rooms es
    → spoken_in ((logs_through world (map effect_of (cast rooms es)) logs).order n) ≡ spoken_in (logs.order n) ++ messages_in n es
cast_spoken es rooms world logs n same are =
    effects_spoken (cast rooms es) world logs n (subst (λ (r : Rooms). AreOf r (cast rooms es)) (sym same) (cast_of es rooms are))
    ∙ ap (λ (l : List Said). spoken_in (logs.order n) ++ l) (cast_messages es rooms n)

-- The rooms afterwards.

set_rooms : (world : World Traffic) (c : Change) → (apply whole world (set c)).rooms ≡ step (effect.Set c) world.rooms
set_rooms world (change.RoomRow n peer text moment) = refl
set_rooms world c = refl

effects_rooms : (es : List stanza.Effect) (world : World Traffic) → (apply_all whole world (map effect_of es)).rooms ≡ after world.rooms es
effects_rooms [] world = refl
effects_rooms (effect.Set c ∷ es) world = effects_rooms es (apply whole world (set c)) ∙ ap (λ (r : Rooms). after r es) (set_rooms world c)
effects_rooms (effect.Queue s to rest origin ∷ es) world = effects_rooms es (apply whole world (effect_of (effect.Queue s to rest origin)))
effects_rooms (effect.Broadcast n item ∷ es) world = effects_rooms es (apply whole world (effect_of (effect.Broadcast n item)))
effects_rooms (effect.Enter n s address nick role ∷ es) world = effects_rooms es (apply whole world (effect_of (effect.Enter n s address nick role)))
effects_rooms (effect.Leave n s ∷ es) world = effects_rooms es (apply whole world (effect_of (effect.Leave n s)))
effects_rooms (effect.Keep user peer text moment ∷ es) world =
    effects_rooms es (apply whole world (effect_of (effect.Keep user peer text moment)))

cast_rooms : (es : List stanza.Effect) (rooms : Rooms) (start : Rooms) → after start (cast rooms es) ≡ after start es
cast_rooms [] rooms start = refl
cast_rooms (e ∷ es) rooms start =
    queued_pass (after start) (λ s to rest origin xs. refl) (heard rooms e) (e ∷ cast (step e rooms) es) (heard_queued rooms e)
    ∙ cast_rooms es (step e rooms) (step e start)

pub cast_after : (es : List stanza.Effect) (rooms : Rooms) (world : World Traffic)
    → (apply_all whole world (map effect_of (cast rooms es))).rooms ≡ after world.rooms es
cast_after es rooms world = effects_rooms (cast rooms es) world ∙ cast_rooms es rooms world.rooms

-- What is kept for a user.

set_keeps : (user : List ℕ) (c : Change) (es : List stanza.Effect) → kept_by user (map effect_of es) ≡ rows_of_user user es
    → kept_by user (set c ∷ map effect_of es) ≡ rows_of_user user (effect.Set c ∷ es)
set_keeps user (change.RoomRow n peer text moment) es same = same
set_keeps user c es same = same

effects_keep : (es : List stanza.Effect) (user : List ℕ) → kept_by user (map effect_of es) ≡ rows_of_user user es
effects_keep [] user = refl
effects_keep (effect.Keep other peer text moment ∷ es) user =
    ap (λ (l : List Said). if bytes_eq other user then record { peer = peer; text = text; moment = moment } ∷ l else l) (effects_keep es user)
effects_keep (effect.Set c ∷ es) user = set_keeps user c es (effects_keep es user)
effects_keep (effect.Queue s to rest origin ∷ es) user = effects_keep es user
effects_keep (effect.Broadcast n item ∷ es) user = effects_keep es user
effects_keep (effect.Enter n s address nick role ∷ es) user = effects_keep es user
effects_keep (effect.Leave n s ∷ es) user = effects_keep es user

rows_then : (user : List ℕ) (e : stanza.Effect) (xs ys : List stanza.Effect) → rows_of_user user xs ≡ rows_of_user user ys
    → rows_of_user user (e ∷ xs) ≡ rows_of_user user (e ∷ ys)
rows_then user (effect.Keep other peer text moment) xs ys same =
    ap (λ (l : List Said). if bytes_eq other user then record { peer = peer; text = text; moment = moment } ∷ l else l) same
rows_then user (effect.Queue s to rest origin) xs ys same = same
rows_then user (effect.Broadcast n item) xs ys same = same
rows_then user (effect.Enter n s address nick role) xs ys same = same
rows_then user (effect.Leave n s) xs ys same = same
rows_then user (effect.Set c) xs ys same = same

cast_rows : (es : List stanza.Effect) (rooms : Rooms) (user : List ℕ) → rows_of_user user (cast rooms es) ≡ rows_of_user user es
cast_rows [] rooms user = refl
cast_rows (e ∷ es) rooms user =
    queued_pass (rows_of_user user) (λ s to rest origin xs. refl) (heard rooms e) (e ∷ cast (step e rooms) es) (heard_queued rooms e)
    ∙ rows_then user e (cast (step e rooms) es) es (cast_rows es (step e rooms) user)

pub cast_keeps : (es : List stanza.Effect) (rooms : Rooms) (user : List ℕ) → kept_by user (map effect_of (cast rooms es)) ≡ rows_of_user user es
cast_keeps es rooms user = effects_keep (cast rooms es) user ∙ cast_rows es rooms user
