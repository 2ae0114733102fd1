-- A list of a stanza's effects that suits the world keeps what holds of all stays, as it is cast.
use Rattle.std.proofs.Common.{true, ◌==◌, ◌≡◌, ℕ, List, [], ◌∷◌, ◌++◌, map, append_assoc, sym, refl, ap, ◌∙◌, subst, Option, Some, None}
use Rattle.jid_core.specs.Addresses.{Address}
use Rattle.stanza_tree.specs.declared.frame.Entry.{Entry}
use Rattle.stanza_model.specs.declared.effect.Change.{Change}
use Rattle.stanza_model.specs.declared.effect.Change.TheVariants as change
use Rattle.stanza_model.specs.declared.effect.Effect as stanza
use Rattle.stanza_model.specs.declared.effect.Effect.TheVariants as effect
use Rattle.stanza_model.specs.declared.room.Occupant.{Occupant}
use Rattle.stanza_model.specs.declared.room.Room.{Room}
use Rattle.stanza_model.specs.declared.room.RoomItem.{RoomItem}
use Rattle.muc_room.specs.Seats.{has_seat}
use Rattle.muc_room.specs.States.{is_of, affiliated_if, set_affiliation, role_if, set_role}
use Rattle.muc_service.specs.Rooms as service
use Rattle.muc_service.specs.Rooms.{Hosted, Rooms, hosted_as, counted, changed, unlocked, configured, renamed_if, renames, shown_if, shows, has_subject, step}
use Rattle.muc_service.specs.Casting.{heard, copies_in, cast}
use Rattle.house_model.specs.Sessions.{Session, Op, Push, Marks, WantsRoster, Pushed, Shown, Hidden, Directs, session_step}
use Rattle.house_model.specs.Traffic.{Traffic, whole}
use Rattle.house_model.specs.States.{World}
use Rattle.archive_table.specs.Archives.{Archives, filed}
use Rattle.archive_table.specs.declared.filing.Filing.TheVariants.{OfUser, OfRoom}
use Rattle.house_model.specs.Effects.{Effect, On, Hosts, apply, apply_all, archives_with}
use Rattle.house_model.specs.Steps.{effect_of, set}
use Rattle.std.proofs.lemmas.Bool.{eq-eqb}
use Rattle.house_model.specs.Stays as stays
use Rattle.house_model.specs.Stays.{Stay, Unmade, IsWithin, Logs, Gapless, own, takes_entries, log_step, logs_through}
use Rattle.house_model.specs.Casts.{IsNotLive, ChangeSuits, Suits, AllSuit, addresses_in}
use Rattle.house_model.proofs.StayLemmas.{Fine, choose, put_both, fine_run}
use Rattle.house_model.proofs.QueueSteps.{session_tells}
use Rattle.house_model.proofs.SeatLemmas.{seat, seats_of, seats_map}
use Rattle.house_model.proofs.StayGood.{Hall, hall_of, Good, GoodBy}
use Rattle.house_model.proofs.StayTouch.{PushesNoItem, quiet_good}
use Rattle.house_model.proofs.StayHosts.{quiet_hall, leave_good, gone_good, room_good}
use Rattle.house_model.proofs.StayBlock.{GoodAfter, broadcast_good}
use Rattle.house_model.proofs.StayPlaces.{Place, places, push_for, copies_are}
use Rattle.muc_service.specs.Numbering.{Numbered}
use Rattle.house_model.proofs.StayNumbers.{step_numbered}
use Rattle.house_model.proofs.StayNicks.{apart_one}
use Rattle.house_model.proofs.StayApart.{Apart, Sure, SureAfter, found_apart, step_apart}
use Rattle.house_model.proofs.StayEnters.{entering_good}

-- an operation on a session that queues no item
pub on_good : (world : World Traffic) (logs : Logs) (s : ℕ) (op : Op) → PushesNoItem op → Good world logs
    → Good (apply whole world (On s op)) (log_step world (On s op) logs)
on_good world logs s op none good = quiet_good world.made world.sessions (hall_of world.rooms) logs s op none good

-- changes of a room that keep its seats

pub same_seats_in : (f : Occupant → Occupant) → ((o : Occupant) → (f o).seats ≡ o.seats) → (x : Room) → seats_of (map f x.occupants) ≡ seats_of x.occupants
same_seats_in f same x = seats_map f same x.occupants

pub role_seats : (s : ℕ) (role : _) (o : Occupant) → (role_if s role o).seats ≡ o.seats
role_seats s role o = choose (λ (p : Occupant). p.seats ≡ o.seats) (has_seat s o) (record o { role = role }) o (λ (_ : _). refl) (λ (_ : _). refl)

pub renamed_seats : (s : ℕ) (nick : List ℕ) (o : Occupant) → (renamed_if s nick o).seats ≡ o.seats
renamed_seats s nick o = choose (λ (p : Occupant). p.seats ≡ o.seats) (has_seat s o) (record o { nick = nick }) o (λ (_ : _). refl) (λ (_ : _). refl)

pub shown_seats : (s : ℕ) (presence : List ℕ) (o : Occupant) → (shown_if s presence o).seats ≡ o.seats
shown_seats s presence o = choose (λ (p : Occupant). p.seats ≡ o.seats) (has_seat s o) (record o { presence = presence; spoke = s }) o (λ (_ : _). refl)
    (λ (_ : _). refl)

pub affiliated_seats : (address : Address) (a : _) (o : Occupant) → (affiliated_if address a o).seats ≡ o.seats
affiliated_seats address a o = choose (λ (p : Occupant). p.seats ≡ o.seats) (is_of address o) (record o { affiliation = a }) o (λ (_ : _). refl)
    (λ (_ : _). refl)

-- rooms of which stays see no change
same_hall : (world : World Traffic) (logs : Logs) (rooms : Rooms) → hall_of rooms ≡ hall_of world.rooms → Good world logs
    → GoodBy (λ _. logs.order) world.made world.sessions (hall_of rooms) logs
same_hall world logs rooms same good = subst (λ (z : Hall). GoodBy (λ _. logs.order) world.made world.sessions z logs) (sym same) good

pub set_good : (world : World Traffic) (logs : Logs) (c : Change) → ChangeSuits world.rooms c → Good world logs
    → Good (apply whole world (set c)) (log_step world (set c) logs)
set_good world logs (change.WantsRoster s) suits good = on_good world logs s _ (λ e is. absurd (cc)) good
set_good world logs (change.Pushed s pushes) suits good = on_good world logs s _ (λ e is. absurd (cc)) good
set_good world logs (change.Available s stanza priority) suits good = on_good world logs s _ (λ e is. absurd (cc)) good
set_good world logs (change.Unavailable s) suits good = on_good world logs s _ (λ e is. absurd (cc)) good
set_good world logs (change.Directed s addresses) suits good = on_good world logs s _ (λ e is. absurd (cc)) good
set_good world logs (change.RoomMade n address owner) suits good = room_good world.made world.sessions world.rooms logs good n address owner suits
set_good world logs (change.RoomGone n) suits good = gone_good world.made world.sessions world.rooms logs good n
set_good world logs (change.Unlocked n) suits good =
    same_hall world logs (changed n unlocked world.rooms) (quiet_hall world.rooms n unlocked (λ x. refl) (λ x. refl)) good
set_good world logs (change.Configured n config) suits good =
    same_hall world logs (changed n (configured config) world.rooms) (quiet_hall world.rooms n (configured config) (λ x. refl) (λ x. refl)) good
set_good world logs (change.Affiliated n address a) suits good =
    same_hall world logs (changed n (set_affiliation address a) world.rooms)
    (quiet_hall world.rooms n (set_affiliation address a) (λ x. refl) (same_seats_in (affiliated_if address a) (affiliated_seats address a))) good
set_good world logs (change.RoleSet n s role) suits good =
    same_hall world logs (changed n (set_role s role) world.rooms)
    (quiet_hall world.rooms n (set_role s role) (λ x. refl) (same_seats_in (role_if s role) (role_seats s role))) good
set_good world logs (change.Renamed n s nick) suits good =
    same_hall world logs (changed n (renames s nick) world.rooms)
    (quiet_hall world.rooms n (renames s nick) (λ x. refl) (same_seats_in (renamed_if s nick) (renamed_seats s nick))) good
set_good world logs (change.OccupantShown n s presence) suits good =
    same_hall world logs (changed n (shows s presence) world.rooms)
    (quiet_hall world.rooms n (shows s presence) (λ x. refl) (same_seats_in (shown_if s presence) (shown_seats s presence))) good
set_good world logs (change.Subject n text stamp) suits good =
    same_hall world logs (changed n (has_subject text stamp) world.rooms)
    (quiet_hall world.rooms n (has_subject text stamp) (λ x. refl) (λ x. refl)) good
set_good world logs c suits good = good

-- one effect, with the views of a broadcast before it
pub cast_one : (world : World Traffic) (logs : Logs) (e : stanza.Effect) → Suits world.made (addresses_in world) world.rooms e → Apart world.rooms
    → Good world logs
    → GoodAfter world logs (map effect_of (heard world.rooms e ++ e ∷ []))
cast_one world logs (effect.Queue s to rest origin) suits apart good =
    on_good world logs s (Push (record { to = to; rest = rest; origin = origin }))
    (λ e (is : Push (record { to = to; rest = rest; origin = origin }) ≡ Push e). let same : record { to = to; rest = rest; origin = origin } ≡ e =
    cc in subst (λ (x : Entry). IsNotLive x.origin) same suits) good
cast_one world logs (effect.Enter n s address nick role) suits apart good =
    entering_good world logs n s address nick role suits (λ h is. apart_one nick h.room.occupants (found_apart world.rooms n h apart is)) good
cast_one world logs (effect.Leave n s) suits apart good = leave_good world.made world.sessions world.rooms logs good n s
cast_one world logs (effect.Keep user peer text moment) suits apart good = good
cast_one world logs (effect.Set c) suits apart good = set_good world logs c suits good
cast_one world logs (effect.Broadcast n item) suits apart good =
    subst (GoodAfter world logs) (sym (map_push (heard world.rooms (effect.Broadcast n item)) (effect.Broadcast n item)))
    (broadcast_good world logs n item good) where
      map_push : (xs : List stanza.Effect) (x : stanza.Effect) → map effect_of (xs ++ x ∷ []) ≡ map effect_of xs ++ effect_of x ∷ []
      map_push [] x = refl
      map_push (y ∷ ys) x = ap (λ (l : List Effect). effect_of y ∷ l) (map_push ys x)

-- lists, one after another

pub sure_then : (xs ys : List Effect) (world : World Traffic) (logs : Logs)
    → SureAfter (apply_all whole world xs) (logs_through world xs logs) ys → SureAfter world logs (xs ++ ys)
sure_then [] ys world logs sure = sure
sure_then (x ∷ xs) ys world logs sure = sure_then xs ys (apply whole world x) (log_step world x logs) sure

pub map_effects : (xs ys : List stanza.Effect) → map effect_of (xs ++ ys) ≡ map effect_of xs ++ map effect_of ys
map_effects [] ys = refl
map_effects (x ∷ xs) ys = ap (λ (l : List Effect). effect_of x ∷ l) (map_effects xs ys)

-- the rooms after an effect, with the views of a broadcast before it

pushes_rooms : (h : Hosted) (item : RoomItem) (e : Effect) (ps : List Place) (world : World Traffic) (P : Rooms → Type 0)
    → ((w : World Traffic) → w.rooms ≡ world.rooms → P (apply whole w e).rooms)
    → P (apply_all whole world (map (push_for h item) ps ++ e ∷ [])).rooms
pushes_rooms h item e [] world P last = last world refl
pushes_rooms h item e (p ∷ ps) world P last = pushes_rooms h item e ps (apply whole world (push_for h item p)) P last

found_rooms : (world : World Traffic) (n : ℕ) (item : RoomItem) (o : Option Hosted)
    → (apply_all whole world (map effect_of (copies_in o item) ++ Hosts (effect.Broadcast n item) ∷ [])).rooms ≡ counted n world.rooms
found_rooms world n item None = refl
found_rooms world n item (Some h) =
    subst (λ (l : List Effect). (apply_all whole world (l ++ Hosts (effect.Broadcast n item) ∷ [])).rooms ≡ counted n world.rooms) (sym (copies_are h item))
    (pushes_rooms h item (Hosts (effect.Broadcast n item)) (places h) world (λ (rooms : Rooms). rooms ≡ counted n world.rooms) (λ w same. ap (counted n) same))

set_rooms : (world : World Traffic) (c : Change) → (apply whole world (set c)).rooms ≡ service.set c world.rooms
set_rooms world (change.WantsRoster s) = refl
set_rooms world (change.Pushed s pushes) = refl
set_rooms world (change.Available s stanza priority) = refl
set_rooms world (change.Unavailable s) = refl
set_rooms world (change.Directed s addresses) = refl
set_rooms world (change.RoomMade n address owner) = refl
set_rooms world (change.RoomGone n) = refl
set_rooms world (change.Unlocked n) = refl
set_rooms world (change.Configured n config) = refl
set_rooms world (change.Affiliated n address a) = refl
set_rooms world (change.RoleSet n s role) = refl
set_rooms world (change.Renamed n s nick) = refl
set_rooms world (change.OccupantShown n s presence) = refl
set_rooms world (change.Subject n text stamp) = refl
set_rooms world (change.RoomRow n peer text moment) = refl
set_rooms world c = refl

pub cast_rooms : (world : World Traffic) (e : stanza.Effect)
    → (apply_all whole world (map effect_of (heard world.rooms e ++ e ∷ []))).rooms ≡ step e world.rooms
cast_rooms world (effect.Queue s to rest origin) = refl
cast_rooms world (effect.Enter n s address nick role) = refl
cast_rooms world (effect.Leave n s) = refl
cast_rooms world (effect.Keep user peer text moment) = refl
cast_rooms world (effect.Set c) = set_rooms world c
cast_rooms world (effect.Broadcast n item) =
    subst (λ (l : List Effect). (apply_all whole world l).rooms ≡ counted n world.rooms)
    (sym (map_effects (heard world.rooms (effect.Broadcast n item)) (effect.Broadcast n item ∷ [])))
    (found_rooms world n item (hosted_as n world.rooms))

-- no effect of a stanza makes a session or changes an address

pub record IsSame (old new : World Traffic) : Type 0 where
  pub made : new.made ≡ old.made
  pub address : (s : ℕ) → addresses_in new s ≡ addresses_in old s

no_change : (world : World Traffic) (rooms : Rooms) (archives : Archives) → IsSame world (record world { rooms = rooms; archives = archives })
no_change world rooms archives = record { made = refl; address = λ s. refl }

hosts_same : (world : World Traffic) (e : stanza.Effect) → IsSame world (apply whole world (Hosts e))
hosts_same world e = no_change world (step e world.rooms) (archives_with e world.archives)

pub touch_same : (world : World Traffic) (s : ℕ) (op : Op) → IsSame world (apply whole world (On s op))
touch_same world s op = record {
  made = refl;
  address = put_both (λ j (y : Session Traffic). y.rest.address ≡ addresses_in world j) s (session_step whole (world.sessions s) op) world.sessions
      (session_tells (world.sessions s) op).address (λ j _. refl);
}

set_same : (world : World Traffic) (c : Change) → IsSame world (apply whole world (set c))
set_same world (change.WantsRoster s) = touch_same world s (Marks WantsRoster)
set_same world (change.Pushed s pushes) = touch_same world s (Marks (Pushed pushes))
set_same world (change.Available s stanza priority) = touch_same world s (Marks (Shown stanza priority))
set_same world (change.Unavailable s) = touch_same world s (Marks Hidden)
set_same world (change.Directed s addresses) = touch_same world s (Marks (Directs addresses))
set_same world (change.RoomMade n address owner) = hosts_same world (effect.Set (change.RoomMade n address owner))
set_same world (change.RoomGone n) = hosts_same world (effect.Set (change.RoomGone n))
set_same world (change.Unlocked n) = hosts_same world (effect.Set (change.Unlocked n))
set_same world (change.Configured n config) = hosts_same world (effect.Set (change.Configured n config))
set_same world (change.Affiliated n address a) = hosts_same world (effect.Set (change.Affiliated n address a))
set_same world (change.RoleSet n s role) = hosts_same world (effect.Set (change.RoleSet n s role))
set_same world (change.Renamed n s nick) = hosts_same world (effect.Set (change.Renamed n s nick))
set_same world (change.OccupantShown n s presence) = hosts_same world (effect.Set (change.OccupantShown n s presence))
set_same world (change.Subject n text stamp) = hosts_same world (effect.Set (change.Subject n text stamp))
set_same world (change.RoomRow n peer text moment) = no_change world world.rooms (filed (OfRoom n peer text moment) world.archives)
set_same world c = record { made = refl; address = λ s. refl }

one_same : (world : World Traffic) (e : stanza.Effect) → IsSame world (apply whole world (effect_of e))
one_same world (effect.Queue s to rest origin) = touch_same world s (Push (record { to = to; rest = rest; origin = origin }))
one_same world (effect.Broadcast n item) = hosts_same world (effect.Broadcast n item)
one_same world (effect.Enter n s address nick role) = hosts_same world (effect.Enter n s address nick role)
one_same world (effect.Leave n s) = hosts_same world (effect.Leave n s)
one_same world (effect.Keep user peer text moment) = no_change world world.rooms (filed (OfUser user peer text moment) world.archives)
one_same world (effect.Set c) = set_same world c

pub all_same : (es : List stanza.Effect) (world : World Traffic) → IsSame world (apply_all whole world (map effect_of es))
all_same [] world = record { made = refl; address = λ s. refl }
all_same (e ∷ more) world =
    let first : IsSame world (apply whole world (effect_of e)) = one_same world e in
    let rest : IsSame (apply whole world (effect_of e)) (apply_all whole world (map effect_of (e ∷ more))) = all_same more (apply whole world (effect_of e)) in
    record { made = rest.made ∙ first.made; address = λ s. rest.address s ∙ first.address s }

-- any list that suits, as it is cast

cast_from : (es : List stanza.Effect) (world : World Traffic) (logs : Logs) (made : ℕ) (addresses : ℕ → Address) (rooms : Rooms)
    → made ≡ world.made → addresses ≡ addresses_in world → rooms ≡ world.rooms → AllSuit made addresses rooms es → Sure world logs
    → SureAfter world logs (map effect_of (cast rooms es))
cast_from [] world logs made addresses rooms em ea er suits sure = sure
cast_from (e ∷ more) world logs made addresses rooms em ea er suits sure =
    let first : List stanza.Effect = heard world.rooms e ++ e ∷ [] in
    let rest : List stanza.Effect = cast (step e rooms) more in
    let parts : map effect_of (heard world.rooms e ++ e ∷ rest) ≡ map effect_of first ++ map effect_of rest =
    ap (map effect_of) (sym (append_assoc (heard world.rooms e) (e ∷ []) rest)) ∙ map_effects first rest in
    let now : Suits world.made (addresses_in world) world.rooms e =
    subst (λ (m : ℕ). Suits m (addresses_in world) world.rooms e) em
    (subst (λ (f : ℕ → Address). Suits made f world.rooms e) ea
    (subst (λ (rs : Rooms). Suits made addresses rs e) er suits.0)) in
    let same : IsSame world (apply_all whole world (map effect_of first)) = all_same first world in
    let nicks : Apart (apply_all whole world (map effect_of first)).rooms =
    subst Apart (sym (cast_rooms world e)) (step_apart world.rooms sure.good.distinct sure.apart world.made (addresses_in world) e now) in
    let numbers : Numbered (apply_all whole world (map effect_of first)).rooms =
    subst Numbered (sym (cast_rooms world e)) (step_numbered world.rooms world.made (addresses_in world) e now sure.numbered) in
    subst (λ (rs : Rooms). SureAfter world logs (map effect_of (heard rs e ++ e ∷ rest))) (sym er)
    (subst (SureAfter world logs) (sym parts)
    (sure_then (map effect_of first) (map effect_of rest) world logs
    (cast_from more (apply_all whole world (map effect_of first)) (logs_through world (map effect_of first) logs) made addresses (step e rooms)
    (em ∙ sym same.made) (ea ∙ (λ i s. sym (same.address s) i)) (ap (step e) er ∙ sym (cast_rooms world e)) suits.1
    (record { good = cast_one world logs e now sure.apart sure.good; apart = nicks; numbered = numbers }))))

pub cast_good : (es : List stanza.Effect) (world : World Traffic) (logs : Logs) → AllSuit world.made (addresses_in world) world.rooms es → Sure world logs
    → Sure (apply_all whole world (map effect_of (cast world.rooms es))) (logs_through world (map effect_of (cast world.rooms es)) logs)
cast_good es world logs suits sure = cast_from es world logs world.made (addresses_in world) world.rooms refl refl refl suits sure

-- and so each stay shows a run of its room's order
pub good_gapless : (world : World Traffic) (logs : Logs) → Good world logs → Gapless world logs
good_gapless world logs good s i =
    fine_run logs.order (λ r. seat s ((hall_of world.rooms).seats r)) s (world.sessions s).rest.address (takes_entries (world.sessions s))
    (world.sessions s).traffic.queued i (own s (logs.stays i)) (good.fine s i)

-- and each stay's numbers lie within its room's order
pub good_within : (world : World Traffic) (logs : Logs) → Good world logs → (i : ℕ) → IsWithin logs.order (logs.stays i)
good_within world logs good i = by_stay (logs.stays i) (λ s. good.fine s i) where
  by_stay : (t : Stay)
      → ((s : ℕ) → Fine logs.order (λ r. seat s ((hall_of world.rooms).seats r)) s (world.sessions s).rest.address (takes_entries (world.sessions s))
      (world.sessions s).traffic.queued i (own s t))
      → IsWithin logs.order t
  by_stay Unmade fine = tt
  by_stay (stays.Open q r a) fine =
      let t : (q == q) ≡ true = eq-eqb q q refl in
      let same : own q (stays.Open q r a) ≡ stays.Open q r a = rw t refl in
      (subst (Fine logs.order (λ k. seat q ((hall_of world.rooms).seats k)) q (world.sessions q).rest.address (takes_entries (world.sessions q))
      (world.sessions q).traffic.queued i) same (fine q)).1
  by_stay (stays.Ended q r a e) fine =
      let t : (q == q) ≡ true = eq-eqb q q refl in
      let same : own q (stays.Ended q r a e) ≡ stays.Ended q r a e = rw t refl in
      let f = subst (Fine logs.order (λ k. seat q ((hall_of world.rooms).seats k)) q (world.sessions q).rest.address (takes_entries (world.sessions q))
      (world.sessions q).traffic.queued i) same (fine q) in
      (f.0, f.1)
