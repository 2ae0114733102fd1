-- What a worker does: it serves one link after the other.
use Rattle.std.specs.Prelude.{◌≡◌, ◌≢◌, ◌≤◌, ℕ, List, [], ◌∷◌, ◌++◌, length, Bool, true, false, Option, Some, None, if◌then◌else◌}
use Rattle.outside.specs.Devices.{Rose}
use Rattle.outside.specs.Doors.{TakesBack, Untold}
use Rattle.outside.specs.Plans.{raised}
use Rattle.outside.specs.Tapes.{Mark}
use Rattle.house_model.specs.Histories.{Turn, openings}
use Rattle.house_model.specs.declared.event.Event.{Event}
use Rattle.house_model.specs.declared.event.Event.TheVariants as event
use Rattle.conn_asks.specs.declared.ended.Ended.{Ended}
use Rattle.conn_asks.specs.declared.ended.Ended.TheVariants as ended
use Rattle.conn_flow.specs.Duties.{Site}
use Rattle.conn_serve.specs.declared.worker.Worked.{Worked}
use Rattle.conn_serve.specs.declared.worker.Worked.TheVariants.{Shut, DoorFault}
use Rattle.conn_serve.specs.Connections.{Went, marked_at, told}

-- what is told of a worker: the tapes of the links that it gave back, its own turns, the moments of its clock and the draws of its dice; how many
-- links the door counts and how many faults the dice; and whether a turn was refused to its pass
pub record Shift : Type 0 where
  pub tapes : Option (List (List Mark))
  pub turns : List Turn
  pub moments : Option (List ℕ)
  pub drawn : Option (List (List ℕ))
  pub links : ℕ
  pub dice : ℕ
  pub marked : Bool

abbrev pub shift : Option (List (List Mark)) → List Turn → Option (List ℕ) → Option (List (List ℕ)) → (links dice : ℕ) → Bool → Shift
shift tapes turns moments drawn links dice marked =
    record { tapes = tapes; turns = turns; moments = moments; drawn = drawn; links = links; dice = dice; marked = marked }

-- A link was served: it came without marks and was counted, went as a connection may, ended so, and was given back.
pub record Visited (o : Site) (a : Shift) (x : Ended) (b : Shift) : Type 0 where
  pub blank : Option (List Mark)
  pub tape : Option (List Mark)
  pub unmarked : Untold Mark blank
  pub went : Went o (told blank a.turns a.moments a.drawn) (told tape b.turns b.moments b.drawn) x
  pub back : TakesBack a.tapes tape b.tapes
  pub counted : b.links ≡ raised a.links
  pub dice_kept : a.dice ≤ b.dice
  pub dice_failed : x ≡ ended.DiceFault → Rose a.dice b.dice
  pub mark : b.marked ≡ marked_at x a.marked

-- The links were served one after the other, and ended so.
abbrev pub Serves : Site → Shift → List Ended → Shift → Type 0
Serves o a [] b = b ≡ a
Serves o a (x ∷ more) b = (mid : Shift) × Visited o a x mid × Serves o mid more b

-- no more links came than a quota other than 0
abbrev pub IsWithin : ℕ → ℕ → Type 0
IsWithin quota links = quota ≢ 0 → links ≤ quota

-- how a worker ended: its door shut where its quota was reached, or failed, which it counts
abbrev pub Ends : Worked → Bool → (before now : ℕ) → Type 0
Ends Shut reached before now = reached ≡ true
Ends DoorFault reached before now = (reached ≡ false) × Rose before now

-- What of it the turns of the line tell, where no turn was refused: each link has its piece of them, from where it came to the next one.

abbrev pub is_opening : Event → Bool
is_opening (event.OpenLine w) = true
is_opening e = false

-- up to the next connection
abbrev pub until_next : List Turn → List Turn
until_next [] = []
until_next (x ∷ more) = if is_opening x.event then [] else x ∷ until_next more

-- cut before each connection
abbrev pub pieces : List Turn → List (List Turn)
pieces [] = []
pieces (x ∷ more) = if is_opening x.event then (x ∷ until_next more) ∷ pieces more else pieces more

abbrev pub joined : List (List Turn) → List Turn
joined [] = []
joined (piece ∷ more) = piece ++ joined more

-- each tape goes with its piece, as those of a connection that ended so
abbrev pub Paired : Site → List (List Mark) → List (List Turn) → List Ended → Type 0
Paired o [] [] [] = Unit {0}
Paired o (tape ∷ tapes) (piece ∷ more) (x ∷ ends) = Went o (told (Some []) [] None None) (told (Some tape) piece None None) x × Paired o tapes more ends
Paired o tapes more ends = ⊥

-- a count that was raised once for each
abbrev pub raised_by : List Ended → ℕ → ℕ
raised_by [] n = n
raised_by (x ∷ more) n = raised_by more (raised n)

pub record Cut (o : Site) (a : Shift) (ends : List Ended) (b : Shift) : Type 0 where
  pub gained : List Turn
  pub turns_are : b.turns ≡ a.turns ++ gained
  pub whole : joined (pieces gained) ≡ gained
  pub opened : openings gained ≡ length ends
  pub links : b.links ≡ raised_by ends a.links
  pub each : length (pieces gained) ≡ length ends
  pub paired : (before now : List (List Mark)) → a.tapes ≡ Some before → b.tapes ≡ Some now
      → (tapes : List (List Mark)) × (now ≡ before ++ tapes) × Paired o tapes (pieces gained) ends

-- the whole of it: the links, one after the other, and their pieces
pub record Attends (o : Site) (a b : Shift) : Type 0 where
  pub ends : List Ended
  pub serves : Serves o a ends b
  pub cut : b.marked ≡ false → Cut o a ends b
