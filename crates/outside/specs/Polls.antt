-- What a poller tells: of many places, each with a link of its own.
use Rattle.std.specs.Prelude.{◌≡◌, ◌≢◌, ◌<◌, ◌+◌, ◌-◌, ℕ, zero, suc, nat_lt, not, ◌&&◌, ◌||◌, Bool, true, false}
use Rattle.std.specs.Prelude.{List, [], ◌∷◌, length, drop, position, slice_index_or, slice_set, Option, Some, None, is_some}
use Rattle.outside.specs.declared.poller.Ring.{Ring}
use Rattle.outside.specs.declared.poller.Ring.TheVariants as ring
use Rattle.outside.specs.declared.poller.Rung.{Rung}
use Rattle.outside.specs.declared.poller.Rung.TheVariants as rung
use Rattle.outside.specs.Doors.{Untold, and_tape, links_after, next_link, reached}
use Rattle.outside.specs.Links.{CleanLinkState, LinkState}
use Rattle.outside.specs.Plans.{Plan, called, failed, fails_next, raised}
use Rattle.outside.specs.Tapes.{Mark, and_last}

-- which places are taken, how many links came to each, and how many in all
pub record Seats : Type 0 where
  pub taken : ℕ → Bool
  pub came : ℕ → ℕ
  pub links : ℕ

abbrev pub seats : (taken : ℕ → Bool) → (came : ℕ → ℕ) → (links : ℕ) → Seats
seats taken came links = record { taken = taken; came = came; links = links }

-- they are as they were
pub record AreSame (a b : Seats) : Type 0 where
  pub taken : (j : ℕ) → b.taken j ≡ a.taken j
  pub came : (j : ℕ) → b.came j ≡ a.came j
  pub links : b.links ≡ a.links

-- A link came to a free place, which is taken now. It was counted, and came where the quota was not reached.
pub record IsNew (places quota k : ℕ) (a b : Seats) : Type 0 where
  pub place : k < places
  pub more : reached quota a.links ≡ false
  pub free : a.taken k ≡ false
  pub takes : b.taken k ≡ true
  pub counted : b.came k ≡ raised (a.came k)
  pub links : b.links ≡ raised a.links
  pub others : (j : ℕ) → j ≢ k → b.taken j ≡ a.taken j
  pub others_came : (j : ℕ) → j ≢ k → b.came j ≡ a.came j

-- A ring changes the places only where a link comes. What is ready is taken, and a poller shuts where none is taken and the quota is reached.
abbrev pub Rings : (L : Type 0) → (places quota : ℕ) → (a b : Seats) → Ring L → Type 0
Rings L places quota a b (ring.New k l) = IsNew places quota k a b
Rings L places quota a b (ring.Ready k) = (k < places) × (a.taken k ≡ true) × AreSame a b
Rings L places quota a b ring.Shut = (reached quota a.links ≡ true) × ((j : ℕ) → j < places → a.taken j ≡ false) × AreSame a b
Rings L places quota a b ring.Failed = AreSame a b

-- a link that comes has no marks yet
abbrev pub RingsUnmarked : (L : Type 0) → (L → Option (List Mark)) → Ring L → Type 0
RingsUnmarked L tape (ring.New k l) = Untold Mark (tape l)
RingsUnmarked L tape (ring.Ready k) = Unit {0}
RingsUnmarked L tape ring.Shut = Unit {0}
RingsUnmarked L tape ring.Failed = Unit {0}

-- what is told of a ring
abbrev pub rung_of : (L : Type 0) → Ring L → Rung
rung_of L (ring.New k l) = rung.New k
rung_of L (ring.Ready k) = rung.Ready k
rung_of L ring.Shut = rung.Shut
rung_of L ring.Failed = rung.Failed

-- A link was given back, and its place is free. Nothing else changed.
pub record IsBack (k : ℕ) (a b : Seats) : Type 0 where
  pub free : b.taken k ≡ false
  pub others : (j : ℕ) → j ≢ k → b.taken j ≡ a.taken j
  pub came : (j : ℕ) → b.came j ≡ a.came j
  pub links : b.links ≡ a.links

-- Pollers in memory.

-- a place: whether it is taken, how many links came, and the tapes of those that came back, where it tells them, with the room for more
pub record SeatState : Type 0 where
  pub taken : Bool
  pub came : ℕ
  pub tapes : Option (List (List Mark))
  pub room : ℕ

-- a place to which no link came
abbrev pub unused : (room : ℕ) → SeatState
unused room = record { taken = false; came = 0; tapes = Some []; room = room }

abbrev pub took_up : SeatState → SeatState
took_up s = record s { taken = true; came = raised s.came }

abbrev pub gave_by : Bool → SeatState → Option (List Mark) → SeatState
gave_by true s tape = record s { taken = false; tapes = and_tape s.tapes tape; room = s.room - 1 }
gave_by false s tape = record s { taken = false; tapes = None }

-- after its link was given back; a tape that finds no room isn't kept, and from then on none is told
abbrev pub gave_up : SeatState → Option (List Mark) → SeatState
gave_up s tape = gave_by (nat_lt 0 s.room) s tape

-- a poller: its plan, the rings and the links to come, its places, its count of links and its quota, and the rings that were, where it tells
-- them, with the room for more
pub record PollerState : Type 0 where
  pub plan : Plan
  pub script : List Rung
  pub left : List LinkState
  pub places : List SeatState
  pub links : ℕ
  pub quota : ℕ
  pub rung : Option (List Rung)
  pub room : ℕ

abbrev pub seat_at : List SeatState → ℕ → SeatState
seat_at places k = slice_index_or places k (unused 0)

-- of these places, and this count of links
abbrev pub seats_in : List SeatState → ℕ → Seats
seats_in places links = seats (λ k. (seat_at places k).taken) (λ k. (seat_at places k).came) links

abbrev pub seats_of : PollerState → Seats
seats_of v = seats_in v.places v.links

-- the place is free, no link came, and no tapes are told
abbrev pub IsFresh : SeatState → Type 0
IsFresh s = (s.taken ≡ false) × (s.came ≡ 0) × Untold (List Mark) s.tapes

-- tapes are told at each place
abbrev pub all_tell : List SeatState → Bool
all_tell [] = true
all_tell (s ∷ more) = is_some s.tapes && all_tell more

-- none of the places is taken
abbrev pub all_free : List SeatState → Bool
all_free [] = true
all_free (s ∷ more) = not s.taken && all_free more

abbrev pub is_free_at : List SeatState → ℕ → Bool
is_free_at places k = nat_lt k (length places) && not (seat_at places k).taken

abbrev pub is_taken_at : List SeatState → ℕ → Bool
is_taken_at places k = nat_lt k (length places) && (seat_at places k).taken

-- its quota came and was given back
abbrev pub is_done : PollerState → Bool
is_done v = reached v.quota v.links && all_free v.places

-- a link may come to a place
abbrev pub may_come : PollerState → ℕ → Bool
may_come v k = not (reached v.quota v.links) && is_free_at v.places k

-- a wait failed
abbrev pub Breaks : PollerState → PollerState → Ring LinkState → Type 0
Breaks v w result = (result ≡ ring.Failed) × (w ≡ record v { plan = failed v.plan })

-- the next link comes to a place
abbrev pub HandsTo : List LinkState → ℕ → PollerState → PollerState → Ring LinkState → Type 0
HandsTo [] k v w result = Breaks v w result
HandsTo (l ∷ ls) k v w result =
    (result ≡ ring.New k l)
    × (w ≡ record v {
      plan = called v.plan;
      left = ls;
      places = slice_set v.places k (took_up (seat_at v.places k));
      links = raised v.links;
    })

-- a place is to ring so, by the script; where it can't, the wait fails
abbrev pub Plays : List Rung → PollerState → PollerState → Ring LinkState → Type 0
Plays [] v w result = Breaks v w result
Plays (rung.New k ∷ more) v w result =
    (may_come v k ≡ true → HandsTo v.left k (record v { script = more }) w result)
    × (may_come v k ≡ false → Breaks (record v { script = more }) w result)
Plays (rung.Ready k ∷ more) v w result =
    (is_taken_at v.places k ≡ true → (result ≡ ring.Ready k) × (w ≡ record v { plan = called v.plan; script = more }))
    × (is_taken_at v.places k ≡ false → Breaks (record v { script = more }) w result)
Plays (rung.Shut ∷ more) v w result = Breaks (record v { script = more }) w result
Plays (rung.Failed ∷ more) v w result = Breaks (record v { script = more }) w result

-- what a wait comes to, before it is told
abbrev pub Waits : PollerState → PollerState → Ring LinkState → Type 0
Waits v w result =
    (is_done v ≡ true → (result ≡ ring.Shut) × (w ≡ record v { plan = called v.plan }))
    × (is_done v ≡ false → fails_next v.plan ≡ true → Breaks v w result)
    × (is_done v ≡ false → fails_next v.plan ≡ false → Plays v.script v w result)

abbrev pub told_by : Bool → PollerState → Rung → PollerState
told_by true v r = record v { rung = and_last Rung v.rung r; room = v.room - 1 }
told_by false v r = record v { rung = None }

-- a ring is told, where there is room for it
abbrev pub told_ring : PollerState → Rung → PollerState
told_ring v r = told_by (nat_lt 0 v.room) v r

-- after the link of a place was given back
abbrev pub gave_back : PollerState → ℕ → Option (List Mark) → PollerState
gave_back v k tape = record v { places = slice_set v.places k (gave_up (seat_at v.places k) tape) }

-- Pollers that never fail.

-- a place that keeps no tapes, to which no link came
abbrev pub untold_seat : SeatState
untold_seat = record { taken = false; came = 0; tapes = None; room = 0 }

-- a poller that never fails: the links to come, its places, its count of links and its quota, and the place whose turn it is
pub record CleanPollerState : Type 0 where
  pub left : List CleanLinkState
  pub places : List SeatState
  pub links : ℕ
  pub quota : ℕ
  pub turn : ℕ

abbrev pub open_by : (is_reached : Bool) → List SeatState → Option ℕ
open_by true places = None
open_by false places = position (λ s. not s.taken) places

-- the place for the next link: the first that is free, while the quota isn't reached
abbrev pub open_place : CleanPollerState → Option ℕ
open_place v = open_by (reached v.quota v.links) v.places

abbrev pub first_taken : List SeatState → Option ℕ
first_taken places = position (λ s. s.taken) places

abbrev pub from_turn : (turn : ℕ) → (after first : Option ℕ) → Option ℕ
from_turn turn (Some n) first = Some (turn + n)
from_turn turn None first = first

-- the next taken place: the first from the one on whose turn it is, or else the first of all
abbrev pub next_taken : CleanPollerState → Option ℕ
next_taken v = from_turn v.turn (first_taken (drop v.turn v.places)) (first_taken v.places)

-- a link comes to the place for it; where there is none, the next taken place is ready; where none is taken, the poller shuts
abbrev pub CleanRings : (free taken : Option ℕ) → CleanPollerState → CleanPollerState → Ring CleanLinkState → Type 0
CleanRings (Some k) taken v w result =
    (result ≡ ring.New k (next_link v.left))
    × (w ≡ record v {
      left = links_after v.left;
      places = slice_set v.places k (took_up (seat_at v.places k));
      links = raised v.links;
    })
CleanRings None (Some k) v w result = (result ≡ ring.Ready k) × (w ≡ record v { turn = k + 1 })
CleanRings None None v w result = (result ≡ ring.Shut) × (w ≡ v)

-- what a wait of a poller that never fails comes to
abbrev pub CleanWaits : CleanPollerState → CleanPollerState → Ring CleanLinkState → Type 0
CleanWaits v w result = CleanRings (open_place v) (next_taken v) v w result

-- there is something to wait for: it has a place, or its quota is reached
abbrev pub can_ring : CleanPollerState → Bool
can_ring v = reached v.quota v.links || nat_lt 0 (length v.places)

-- after the link of a place was given back
abbrev pub freed : CleanPollerState → ℕ → CleanPollerState
freed v k = record v { places = slice_set v.places k (record (seat_at v.places k) { taken = false }) }

-- Pollers as ports hand them out and take them back.

-- a poller as it is handed out: with so many places, all free, and this quota; its counts at 0, and no tapes
pub record IsOpened (P : Type 0) (many_of quota_of faults_of links_of : P → ℕ) (taken_of : P → ℕ → Bool) (came_of : P → ℕ → ℕ)
    (tapes_of : P → ℕ → Option (List (List Mark))) (many quota : ℕ) (p : P) : Type 0 where
  pub places : many_of p ≡ many
  pub quota_is : quota_of p ≡ quota
  pub faults : faults_of p ≡ 0
  pub links : links_of p ≡ 0
  pub free : (k : ℕ) → taken_of p k ≡ false
  pub came : (k : ℕ) → came_of p k ≡ 0
  pub tapes : (k : ℕ) → Untold (List Mark) (tapes_of p k)

-- what is told of so many places from one on, place by place
abbrev pub placed_from : {A : Type 0} → (from many : ℕ) → (ℕ → A) → List A
placed_from from zero f = []
placed_from from (suc many) f = f from ∷ placed_from (from + 1) many f

abbrev pub placed : {A : Type 0} → ℕ → (ℕ → A) → List A
placed many f = placed_from 0 many f
