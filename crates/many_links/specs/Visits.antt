-- What is told at a place, and of the links that were served there.
use Rattle.std.specs.Prelude.{◌≡◌, ◌≢◌, ◌<◌, ◌+◌, ◌-◌, ◌^◌, ℕ, zero, suc, min, Bool, true, false, List, [], ◌∷◌, length, slice_index_or, Option, Some, None}
use Rattle.outside.specs.Devices.{Rose}
use Rattle.outside.specs.Doors.{TakesBack, Untold}
use Rattle.outside.specs.Plans.{raised}
use Rattle.outside.specs.Tapes.{Mark, Tells}
use Rattle.account_book.specs.Lists.{Book}
use Rattle.turn_lock.specs.Histories.{StartsWith}
use Rattle.house_model.specs.Histories.{Turn}
use Rattle.hall.specs.Desks.{turns_of}
use Rattle.conn_asks.specs.declared.ended.Ended.{Ended}
use Rattle.conn_flow.specs.Duties.{Site}
use Rattle.conn_flow.specs.Flows.{State}
use Rattle.conn_flow.specs.Following.{opening}
use Rattle.conn_serve.specs.Connections.{site_of}
use Rattle.conn_serve.specs.Serving.{Came, IsStanding, tale}
use Rattle.conn_serve.specs.Shifts.{Attends, Serves, Shift, shift}
use Rattle.many_links.specs.declared.many.ManyEnded.{ManyEnded}
use Rattle.many_links.specs.declared.many.ManyEnded.TheVariants.{Shut, PollFault}
use Rattle.many_links.specs.declared.place.Line.{Line}
use Rattle.many_links.specs.declared.place.Place.{Place}

-- a link that is served: what it tells, and where its connection stands
pub record Open : Type 0 where
  pub tape : Option (List Mark)
  pub faults : ℕ
  pub ends : ℕ
  pub flow : State
  pub ahead : List ℕ
  pub owed : List ℕ

abbrev pub open_of : (L : Type 0) → (L → Option (List Mark)) → (faults ends : L → ℕ) → Option (Line L) → Option Open
open_of L tape faults ends None = None
open_of L tape faults ends (Some line) = Some (record {
  tape = tape line.link;
  faults = faults line.link;
  ends = ends line.link;
  flow = line.conn.flow;
  ahead = line.conn.ears;
  owed = line.conn.left;
})

-- What a place tells: its line, the turns that its pass has seen and whether one was refused to it; the moments of its clock, the draws of its dice
-- and how many faults these count; and the link that is served there.
pub record Spot : Type 0 where
  pub line : ℕ
  pub seen : List Turn
  pub marked : Bool
  pub moments : Option (List ℕ)
  pub drawn : Option (List (List ℕ))
  pub dice : ℕ
  pub busy : Option Open

abbrev pub spot_of : (A L C I : Type 0) → (line : A → ℕ) → (seen : A → List Turn) → (marked : A → Bool) → (tape : L → Option (List Mark))
    → (faults ends : L → ℕ) → (C → Option (List ℕ)) → (I → Option (List (List ℕ))) → (dice : I → ℕ) → Place A L C I → Spot
spot_of A L C I line seen marked tape faults ends moments drawn dice p = record {
  line = line p.pass;
  seen = seen p.pass;
  marked = marked p.pass;
  moments = moments p.clock;
  drawn = drawn p.dice;
  dice = dice p.dice;
  busy = open_of L tape faults ends p.busy;
}

-- what a place tells as a worker at a door does, with the tapes of the links that were given back there, and how many came
abbrev pub shift_at : Option (List (List Mark)) → (links : ℕ) → Spot → Shift
shift_at tapes links s = shift tapes (turns_of s.line s.seen) s.moments s.drawn links s.dice s.marked

-- A link is under way since this shift: it came without marks and was counted, the house was told of it at a moment, and its connection went as far
-- as here.
pub record UnderWay (o : Site) (a b : Shift) (u : Open) : Type 0 where
  pub blank : Option (List Mark)
  pub unmarked : Untold Mark blank
  pub opened : ℕ
  pub asked : Option (List ℕ)
  pub first : Tells ℕ a.moments asked (opened ∷ [])
  pub faults : ℕ
  pub ends : ℕ
  pub came : Came o (tale blank a.turns asked a.drawn faults ends a.dice) (opening o opened)
      (tale u.tape b.turns b.moments b.drawn u.faults u.ends b.dice) u.flow u.ahead u.owed
  pub tapes : b.tapes ≡ a.tapes
  pub counted : b.links ≡ raised a.links
  pub mark : b.marked ≡ a.marked

-- a place is free after the links that it served, or one more is under way
abbrev pub Stands : Site → Shift → Shift → Option Open → Type 0
Stands o a b None = (ends : List Ended) × Serves o a ends b
Stands o a b (Some u) = (ends : List Ended) × (mid : Shift) × Serves o a ends mid × UnderWay o mid b u

-- so it stands, at the line where it stood, with all that its pass had seen
pub record Stood (domain : List ℕ) (accounts : Book) (s : Spot) (tapes : Option (List (List Mark))) (links : ℕ)
    (s' : Spot) (tapes' : Option (List (List Mark))) (links' : ℕ) : Type 0 where
  pub line : s'.line ≡ s.line
  pub history : StartsWith s'.seen s.seen
  pub stands : Stands (site_of s.line domain accounts) (shift_at tapes links s) (shift_at tapes' links' s') s'.busy

abbrev pub is_taken : Option Open → Bool
is_taken None = false
is_taken (Some u) = true

-- the code knows where a connection stands
abbrev pub IsOpenAt : (line : ℕ) → Book → Option Open → Type 0
IsOpenAt line accounts None = Unit {0}
IsOpenAt line accounts (Some u) = IsStanding line accounts u.flow u.ahead u.owed

-- and the poller whether its place is taken
pub record IsHeld (accounts : Book) (taken : Bool) (s : Spot) : Type 0 where
  pub known : taken ≡ is_taken s.busy
  pub open_at : IsOpenAt s.line accounts s.busy

-- What is done at one place. A link that ended is to be given back.

abbrev pub AttendedAt : List ℕ → Book → (L : Type 0) → (L → Option (List Mark)) → (before now : Spot) → Option L → Type 0
AttendedAt domain accounts L tape before now None =
    ((s : Spot) (t t' : Option (List (List Mark))) (m n : ℕ)
    → Stood domain accounts s t m before t' n → Stood domain accounts s t m now t' n)
    × (is_taken now.busy ≡ is_taken before.busy)
AttendedAt domain accounts L tape before now (Some link) =
    ((s : Spot) (t t' t'' : Option (List (List Mark))) (m n : ℕ) → TakesBack t' (tape link) t''
    → Stood domain accounts s t m before t' n → Stood domain accounts s t m now t'' n)
    × (now.busy ≡ None) × (is_taken before.busy ≡ true)

-- a link that came is under way, or it ended at once
abbrev pub TakenUpAt : List ℕ → Book → (L : Type 0) → (L → Option (List Mark)) → (before now : Spot) → Option L → Type 0
TakenUpAt domain accounts L tape before now None =
    ((s : Spot) (t t' : Option (List (List Mark))) (m n : ℕ)
    → Stood domain accounts s t m before t' n → Stood domain accounts s t m now t' (raised n))
    × (is_taken now.busy ≡ true)
TakenUpAt domain accounts L tape before now (Some link) =
    ((s : Spot) (t t' t'' : Option (List (List Mark))) (m n : ℕ) → TakesBack t' (tape link) t''
    → Stood domain accounts s t m before t' n → Stood domain accounts s t m now t'' (raised n))
    × (now.busy ≡ None)

-- Places by their numbers.

abbrev pub nowhere : Spot
nowhere = record { line = 0; seen = []; marked = false; moments = None; drawn = None; dice = 0; busy = None }

abbrev pub at : List Spot → ℕ → Spot
at spots k = slice_index_or spots k nowhere

-- the tapes that are told place by place, and the counts of links
abbrev pub Tapes : Type 0
Tapes = ℕ → Option (List (List Mark))

abbrev pub Links : Type 0
Links = ℕ → ℕ

-- each place stands
abbrev pub AllStand : List ℕ → Book → (olds : List Spot) → Tapes → Links → (news : List Spot) → Tapes → Links → Type 0
AllStand domain accounts olds tapes links news tapes' links' =
    (k : ℕ) → k < length olds → Stood domain accounts (at olds k) (tapes k) (links k) (at news k) (tapes' k) (links' k)

-- each is held
abbrev pub AllHeld : Book → (taken : ℕ → Bool) → List Spot → Type 0
AllHeld accounts taken spots = (k : ℕ) → k < length spots → IsHeld accounts (taken k) (at spots k)

-- none is taken
abbrev pub AllFree : List Spot → Type 0
AllFree spots = (k : ℕ) → k < length spots → (at spots k).busy ≡ None

-- those before this one are free
abbrev pub FreeBefore : ℕ → List Spot → Type 0
FreeBefore n spots = (k : ℕ) → k < n → (at spots k).busy ≡ None

-- nothing changed but at one place
abbrev pub AreSameButOne : (olds news : List Spot) → Type 0
AreSameButOne olds news = (k : ℕ) × ((j : ℕ) → j ≢ k → at news j ≡ at olds j)

-- A place served links one after the other, as a worker serves those of a door: at its line, with all that its pass had seen.
pub record Served (domain : List ℕ) (accounts : Book) (s : Spot) (tapes : Option (List (List Mark))) (links : ℕ)
    (s' : Spot) (tapes' : Option (List (List Mark))) (links' : ℕ) : Type 0 where
  pub line : s'.line ≡ s.line
  pub history : StartsWith s'.seen s.seen
  pub attends : Attends (site_of s.line domain accounts) (shift_at tapes links s) (shift_at tapes' links' s')

-- each place did
abbrev pub AllServed : List ℕ → Book → (olds : List Spot) → Tapes → Links → (news : List Spot) → Tapes → Links → Type 0
AllServed domain accounts olds tapes links news tapes' links' =
    (k : ℕ) → k < length olds → Served domain accounts (at olds k) (tapes k) (links k) (at news k) (tapes' k) (links' k)

-- the counts of so many places together, and the poller's own count of links, which is that, up to the greatest number
abbrev pub sum_of : ℕ → Links → ℕ
sum_of zero came = 0
sum_of (suc n) came = sum_of n came + came n

abbrev pub AddsUp : (places : ℕ) → Links → (links : ℕ) → Type 0
AddsUp places came links = links ≡ min (sum_of places came) (2 ^ 64 - 1)

-- how a worker ended: its poller shut where its quota was reached, or failed, which it counts
abbrev pub Ends : ManyEnded → (reached : Bool) → (before now : ℕ) → Type 0
Ends Shut reached before now = reached ≡ true
Ends PollFault reached before now = Rose before now

abbrev pub EndsNow : Option ManyEnded → (reached : Bool) → (before now : ℕ) → Type 0
EndsNow None reached before now = Unit {0}
EndsNow (Some ended) reached before now = Ends ended reached before now
