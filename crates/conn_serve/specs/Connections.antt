-- What is told of a connection that was served.
use Rattle.std.specs.Prelude.{◌≡◌, ◌⊎◌, ◌≤◌, ℕ, List, Bool, true, Option}
use Rattle.outside.specs.Tapes.{Mark}
use Rattle.outside.specs.Devices.{Rose}
use Rattle.house_model.specs.Histories.{Turn}
use Rattle.account_book.specs.Lists.{Book}
use Rattle.conn_asks.specs.declared.ended.Ended.{Ended}
use Rattle.conn_asks.specs.declared.ended.Ended.TheVariants as ended
use Rattle.conn_flow.specs.Duties.{Site}
use Rattle.conn_flow.specs.Following.{Follows, Told}
use Rattle.flow_laws.specs.Causes.{IsCaused, IsForced, MakesNone}

-- where a connection is served
abbrev pub site_of : ℕ → List ℕ → Book → Site
site_of line domain accounts = record { line = line; domain = domain; accounts = accounts }

-- what its link, its turns, its clock and its dice tell
abbrev pub told : Option (List Mark) → List Turn → Option (List ℕ) → Option (List (List ℕ)) → Told
told tape turns moments drawn = record { tape = tape; turns = turns; moments = moments; drawn = drawn }

-- A connection as it may go, from one telling to the next, with the move that made its end. One that nothing else ends was closed by its
-- client, or memory was wanting.
pub record Went (o : Site) (a b : Told) (x : Ended) : Type 0 where
  pub follows : Follows o a b x
  pub caused : IsCaused o follows.opened follows.moves x
  pub completes : ((y : Ended) → IsForced y → MakesNone o follows.opened follows.moves y) → (x ≡ ended.Closed) ⊎ (x ≡ ended.NoMemory)

-- the faults and the Ends that a link counts, and the faults that dice count
pub record Counts : Type 0 where
  pub faults : ℕ
  pub ends : ℕ
  pub dice : ℕ

abbrev pub counts_of : (faults ends dice : ℕ) → Counts
counts_of faults ends dice = record { faults = faults; ends = ends; dice = dice }

-- an end by the link or the dice comes only where a count rose
abbrev pub Rises : Ended → Counts → Counts → Type 0
Rises ended.LinkFault a b = Rose a.faults b.faults
Rises ended.Hung a b = Rose a.ends b.ends
Rises ended.DiceFault a b = Rose a.dice b.dice
Rises x a b = Unit {0}

-- and no count falls
pub record Caused (x : Ended) (a b : Counts) : Type 0 where
  pub faults : a.faults ≤ b.faults
  pub ends : a.ends ≤ b.ends
  pub dice : a.dice ≤ b.dice
  pub rose : Rises x a b

-- the mark of a pass after a connection that ended so: a turn that was refused to it
abbrev pub marked_at : Ended → Bool → Bool
marked_at ended.Spent marked = true
marked_at x marked = marked
