-- A broadcast with its copies: each session of the room is given its view, or its stays end there, and then the item is the next of the order.
use Rattle.std.proofs.Common.{◌≡◌, ℕ, ◌==◌, List, [], ◌∷◌, ◌++◌, map, length, sym, refl, ap, ◌∙◌, subst, true, false, Option, Some, None}
use Rattle.std.proofs.lemmas.Bool.{eq-eqb, ne_eqb}
use Rattle.jid_core.specs.Addresses.{Address, address_text}
use Rattle.stanza_tree.specs.declared.frame.Entry.{Entry}
use Rattle.stanza_tree.specs.declared.frame.Origin.TheVariants.{Live}
use Rattle.stanza_model.specs.declared.effect.Effect.TheVariants.{Broadcast}
use Rattle.stanza_model.specs.declared.room.RoomItem.{RoomItem}
use Rattle.stanza_model.specs.declared.room.Seat.{Seat}
use Rattle.muc_room.specs.Views.{is_among, seen}
use Rattle.muc_service.specs.Rooms.{Hosted, counted}
use Rattle.muc_service.specs.Casting.{copies_in, heard}
use Rattle.house_model.specs.Sessions.{Session, Op, Push, session_step}
use Rattle.house_model.specs.Traffic.{Traffic, whole}
use Rattle.house_model.specs.States.{World}
use Rattle.house_model.specs.Effects.{Effect, On, Hosts, apply, apply_all}
use Rattle.house_model.specs.Steps.{effect_of}
use Rattle.house_model.specs.Stays.{Item, Stay, Logs, closed, takes_entries, view_of, item_in, broadcasts, own, log_step, logs_through}
use Rattle.house_model.proofs.StayLemmas.{put_same, put_other, put_both, Grows, grows_all, stay_rests}
use Rattle.house_model.proofs.SeatLemmas.{seat, AreDistinct, EachSeat, seats_of}
use Rattle.house_model.proofs.HallLemmas.{found, found_number}
use Rattle.house_model.proofs.QueueSteps.{Tells, session_tells}
use Rattle.house_model.proofs.StayGood.{Hall, hall_of, seats_in, items_in, AllFine, GoodBy, Good, IsSeated, IsCounted, ending, other_good}
use Rattle.house_model.proofs.StayTouch.{push_fine}
use Rattle.house_model.proofs.StayRooms.{longer, item_good}
use Rattle.house_model.proofs.StayHosts.{counted_hall, uncounted_hall}
use Rattle.house_model.proofs.StayPlaces.{Place, seat_at, places, entry_for, push_for, copies_are, places_seats, seers_are, EachPlace, each_place}
use Rattle.house_model.proofs.StayPlaces.{IsRight, all_right}

-- after these effects it holds of all stays
abbrev pub GoodAfter : World Traffic → Logs → List Effect → Type 0
GoodAfter world logs es = Good (apply_all whole world es) (logs_through world es logs)

-- the order by which a session has been given items, when those of these seats still wait for one
abbrev given : Option ℕ → ℕ → Item → (ℕ → List Item) → ℕ → List Item
given None n x order = longer n x order
given (Some i) n x order = order

abbrev pub mid : ℕ → Item → (ℕ → List Item) → List Seat → ℕ → ℕ → List Item
mid n x order rest s = given (seat s rest) n x order

longer_grows : (n : ℕ) (x : Item) (order : ℕ → List Item) → Grows n x order (longer n x order)
longer_grows n x order = (put_same n (order n ++ x ∷ []) order, λ r ne. put_other n (order n ++ x ∷ []) order r ne)

seat_head : (x : Seat) (xs : List Seat) → seat x.session (x ∷ xs) ≡ Some x.stay
seat_head x xs = let t : (x.session == x.session) ≡ true = eq-eqb x.session x.session refl in rw t refl

seat_tail : (j : ℕ) (x : Seat) (xs : List Seat) → (j ≡ x.session → ⊥) → seat j xs ≡ seat j (x ∷ xs)
seat_tail j x xs ne = let t : (x.session == j) ≡ false = ne_eqb x.session j (λ q. ne (sym q)) in rw t refl

module _ (h : Hosted) (item : RoomItem) (n : ℕ) (addresses : ℕ → Address) where
  abbrev pub x : Item
  x = item_in h item

  -- a place's session sees what the item says, has its seat, and its address
  abbrev pub IsReady : Place → Type 0
  IsReady p = (p.sees ≡ is_among p.seat.session x.seers) × (seat p.seat.session (seats_of h.room.occupants) ≡ Some p.seat.stay)
      × (p.seat.address ≡ addresses p.seat.session)

  entry_is : (p : Place) (address : Address) (k : ℕ) → h.room.number ≡ n → p.sees ≡ is_among p.seat.session x.seers → p.seat.address ≡ address → h.items ≡ k
      → entry_for h item p ≡ view_of n p.seat.stay p.seat.session address k x
  entry_is p address k en es ea ek = λ i. record {
    to = address_text (ea i);
    rest = seen item (es i) h.room.address p.seat.session (ea i);
    origin = Live (en i) p.seat.stay (ek i);
  }

  pub pushes_good : (ps : List Place) (world : World Traffic) (logs : Logs)
      → found n world.rooms.hosted ≡ Some h → ((j : ℕ) → (world.sessions j).rest.address ≡ addresses j)
      → AreDistinct (map seat_at ps) → EachPlace IsReady ps
      → GoodBy (mid n x logs.order (map seat_at ps)) world.made world.sessions (hall_of world.rooms) logs
      → GoodAfter world logs (map (push_for h item) ps ++ Hosts (Broadcast n item) ∷ [])
  pushes_good [] world logs is known distinct ready good =
      subst (λ (o : Option Hosted). GoodBy (λ _. (broadcasts o n item logs).order) world.made world.sessions (hall_of (counted n world.rooms))
      (broadcasts o n item logs)) (sym is)
      (subst (λ (z : Hall). GoodBy (λ _. longer n x logs.order) world.made world.sessions z (record logs { order = longer n x logs.order }))
      (sym (counted_hall world.rooms n h is))
      (item_good world.made world.sessions (hall_of world.rooms) logs n h.items x (ap items_in is) good))
  pushes_good (p ∷ ps) world logs is known distinct ready good =
      let s : ℕ = p.seat.session in
      let hall : Hall = hall_of world.rooms in
      let rest : List Seat = map seat_at ps in
      let old : Session Traffic = world.sessions s in
      let op : Op = Push (entry_for h item p) in
      let new : Session Traffic = session_step whole old op in
      let tells : Tells old.counts old.hold old.traffic old.rest op new = session_tells old op in
      let count : h.items ≡ length (logs.order n) = subst (IsCounted (length (logs.order n))) (ap items_in is) (good.counted n) in
      let entry : entry_for h item p ≡ view_of n p.seat.stay s old.rest.address (length (logs.order n)) x =
      entry_is p old.rest.address (length (logs.order n)) (found_number n world.rooms.hosted h is) ready.0.0 (ready.0.2 ∙ sym (known s)) count in
      let before : mid n x logs.order (p.seat ∷ rest) s ≡ logs.order = ap (λ (o : Option ℕ). given o n x logs.order) (seat_head p.seat rest) in
      let after : mid n x logs.order rest s ≡ longer n x logs.order = ap (λ (o : Option ℕ). given o n x logs.order) distinct.0 in
      let seated : seat s (hall.seats n) ≡ Some p.seat.stay = ap (λ (o : Option Hosted). seat s (seats_in o)) is ∙ ready.0.1 in
      let was : AllFine logs.order hall s old logs.stays = subst (λ (o : ℕ → List Item). AllFine o hall s old logs.stays) before (good.fine s) in
      let heard : AllFine (longer n x logs.order) hall s new (λ j. closed (ending s old new) logs.order (logs.stays j)) =
      subst (λ (e : Entry). AllFine (longer n x logs.order) hall s (session_step whole old (Push e))
      (λ j. closed (ending s old (session_step whole old (Push e))) logs.order (logs.stays j))) (sym entry)
      (push_fine logs.order (longer n x logs.order) hall s n p.seat.stay x old logs.stays (longer_grows n x logs.order) seated (good.placed s) was) in
      let mine : AllFine (mid n x logs.order rest s) hall s new (λ j. closed (ending s old new) logs.order (logs.stays j)) =
      subst (λ (o : ℕ → List Item). AllFine o hall s new (λ j. closed (ending s old new) logs.order (logs.stays j))) (sym after) heard in
      pushes_good ps (apply whole world (On s op)) (log_step world (On s op) logs) is
      (put_both (λ j (y : Session Traffic). y.rest.address ≡ addresses j) s new world.sessions (tells.address ∙ known s) (λ j _. known j))
      distinct.1 ready.1
      (other_good (mid n x logs.order (p.seat ∷ rest)) (mid n x logs.order rest) world.made world.sessions hall logs s new tells.address tells.stops tells.quiet
      mine
      (λ j ne r. ap (λ (o : Option ℕ). given o n x logs.order r) (seat_tail j p.seat rest ne))
      good)

-- the seats of a room as they are, with their sessions' addresses
ready_all : (h : Hosted) (item : RoomItem) (n : ℕ) (world : World Traffic) (ps : List Place)
    → EachSeat (IsSeated world.made world.sessions world.rooms.stays) (map seat_at ps)
    → EachPlace (λ p. (p.sees ≡ is_among p.seat.session (item_in h item).seers) × (seat p.seat.session (seats_of h.room.occupants) ≡ Some p.seat.stay)) ps
    → EachPlace (IsReady h item n (λ j. (world.sessions j).rest.address)) ps
ready_all h item n world [] seated right = tt
ready_all h item n world (p ∷ ps) seated right = ((right.0.0, right.0.1, seated.0.2), ready_all h item n world ps seated.1 right.1)

-- before the broadcast: a session without a seat hears nothing
starts : (n : ℕ) (x : Item) (order : ℕ → List Item) (hall : Hall) (s : ℕ) (y : Session Traffic) (stays : ℕ → Stay) (o : Option ℕ) → seat s (hall.seats n) ≡ o
    → AllFine order hall s y stays → AllFine (given o n x order) hall s y stays
starts n x order hall s y stays (Some k) at fine i = fine i
starts n x order hall s y stays None at fine i =
    stay_rests order (longer n x order) (λ r. seat s (hall.seats r)) (λ r. seat s (hall.seats r)) s y.rest.address (takes_entries y) (takes_entries y)
    y.traffic.queued y.traffic.queued i (own s (stays i))
    (grows_all n x order (longer n x order) (longer_grows n x order)) refl
    (λ r a is seated alive. (
      (longer_grows n x order).1 r (λ (e : r ≡ n). let z : None ≡ Some i = sym at
          ∙ subst (λ (k : ℕ). seat s (hall.seats k) ≡ Some i) e seated in cc),
      seated,
      alive,
    ))
    (fine i)

found_good : (world : World Traffic) (logs : Logs) (n : ℕ) (item : RoomItem) (o : Option Hosted) → found n world.rooms.hosted ≡ o → Good world logs
    → GoodAfter world logs (map effect_of (copies_in o item) ++ Hosts (Broadcast n item) ∷ [])
found_good world logs n item None is good =
    subst (λ (o : Option Hosted). GoodBy (λ _. (broadcasts o n item logs).order) world.made world.sessions (hall_of (counted n world.rooms))
    (broadcasts o n item logs)) (sym is)
    (subst (λ (z : Hall). GoodBy (λ _. logs.order) world.made world.sessions z logs) (sym (uncounted_hall world.rooms n is)) good)
found_good world logs n item (Some h) is good =
    let hall : Hall = hall_of world.rooms in
    let x : Item = item_in h item in
    let same : map seat_at (places h) ≡ seats_of h.room.occupants = places_seats h.room.config.anyone h.room.occupants in
    let all : hall.seats n ≡ map seat_at (places h) = ap seats_in is ∙ sym same in
    let distinct : AreDistinct (map seat_at (places h)) = subst AreDistinct all (good.distinct n) in
    let seated : EachSeat (IsSeated world.made world.sessions world.rooms.stays) (map seat_at (places h)) =
    subst (EachSeat (IsSeated world.made world.sessions world.rooms.stays)) all (good.seated n) in
    let right : EachPlace (λ p. (p.sees ≡ is_among p.seat.session x.seers) × (seat p.seat.session (seats_of h.room.occupants) ≡ Some p.seat.stay)) (places h) =
    each_place (IsRight (places h)) (λ p. (p.sees ≡ is_among p.seat.session x.seers) × (seat p.seat.session (seats_of h.room.occupants) ≡ Some p.seat.stay))
    (places h)
    (λ p r. (sym (seers_are p.seat.session h.room.config.anyone h.room.occupants ∙ r.0), ap (seat p.seat.session) (sym same) ∙ r.1))
    (all_right (places h) distinct) in
    subst (λ (l : List Effect). GoodAfter world logs (l ++ Hosts (Broadcast n item) ∷ [])) (sym (copies_are h item))
    (pushes_good h item n (λ j. (world.sessions j).rest.address) (places h) world logs is (λ j. refl) distinct
    (ready_all h item n world (places h) seated right)
    (record {
      fine = λ s. starts n x logs.order hall s (world.sessions s) logs.stays (seat s (map seat_at (places h))) (ap (seat s) all) (good.fine s);
      placed = good.placed;
      seated = good.seated;
      distinct = good.distinct;
      counted = good.counted;
      later = good.later;
      fresh = good.fresh;
      unmade = good.unmade;
    }))

-- a broadcast, as it is cast
pub broadcast_good : (world : World Traffic) (logs : Logs) (n : ℕ) (item : RoomItem) → Good world logs
    → GoodAfter world logs (map effect_of (heard world.rooms (Broadcast n item)) ++ Hosts (Broadcast n item) ∷ [])
broadcast_good world logs n item good = found_good world logs n item (found n world.rooms.hosted) refl good
