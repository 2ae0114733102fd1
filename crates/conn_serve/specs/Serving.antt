-- How a connection grows, and where it stands.
use Rattle.std.specs.Prelude.{◌≡◌, ◌⊎◌, ◌≤◌, ℕ, List, [], ◌∷◌, ◌++◌, ◌+◌, length, drop, Bool, true, false, ◌||◌, Option, None, Some}
use Rattle.outside.specs.Tapes.{Mark, Tells}
use Rattle.outside.specs.Devices.{Rose}
use Rattle.house_model.specs.Histories.{Turn}
use Rattle.house_model.specs.declared.event.Event.{Event}
use Rattle.house_model.specs.declared.event.Event.TheVariants as event
use Rattle.conn_asks.specs.declared.ended.Ended.{Ended}
use Rattle.conn_asks.specs.declared.ended.Ended.TheVariants as ended
use Rattle.conn_flow.specs.Moves.{Move, Fails, Hangs, Stops, marks, turns, moments, draws}
use Rattle.conn_flow.specs.Duties.{Site, Duty, Id, Leaves, Left}
use Rattle.conn_flow.specs.Following.{GoesThrough, Told, opening}
use Rattle.account_book.specs.Lists.{Book}
use Rattle.conn_flow.specs.Flows.{State, hears, taken_of}
use Rattle.flow_laws.specs.Standing.{IsServed, Place, duty}
use Rattle.flow_laws.specs.Steps.{handling}
use Rattle.conn_serve.specs.Connections.{Counts, told}
use Rattle.conn_serve.specs.declared.turn.End.{End}
use Rattle.conn_serve.specs.declared.turn.End.TheVariants.{Over, NoTurn}
use Rattle.conn_serve.specs.declared.worker.Worked.{Worked}
use Rattle.conn_serve.specs.Shifts.{Ends, Shift, Visited}

-- what is told of a connection, with these counts
pub record Tale : Type 0 where
  pub told : Told
  pub counts : Counts

abbrev pub tale : Option (List Mark) → List Turn → Option (List ℕ) → Option (List (List ℕ)) → (faults ends dice : ℕ) → Tale
tale tape turns moments drawn faults ends dice =
    record { told = told tape turns moments drawn; counts = record { faults = faults; ends = ends; dice = dice } }

-- which moves come only where a count rose

abbrev pub is_fail : Move → Bool
is_fail (Fails t) = true
is_fail m = false

abbrev pub is_hang : Move → Bool
is_hang (Hangs t) = true
is_hang m = false

abbrev pub is_no_dice : Move → Bool
is_no_dice (Stops ended.DiceFault) = true
is_no_dice m = false

abbrev pub has : (Move → Bool) → List Move → Bool
has is [] = false
has is (m ∷ more) = is m || has is more

-- the counts never fall, and rose where the moves say so
pub record Counted (moves : List Move) (a b : Counts) : Type 0 where
  pub faults_kept : a.faults ≤ b.faults
  pub ends_kept : a.ends ≤ b.ends
  pub dice_kept : a.dice ≤ b.dice
  pub failed : has is_fail moves ≡ true → Rose a.faults b.faults
  pub hung : has is_hang moves ≡ true → Rose a.ends b.ends
  pub dice_failed : has is_no_dice moves ≡ true → Rose a.dice b.dice

-- from one duty to another by moves of which each tells its part
pub record Grew (o : Site) (a : Tale) (v : Duty) (b : Tale) (w : Duty) : Type 0 where
  pub moves : List Move
  pub through : GoesThrough o v moves w
  pub tape : Tells Mark a.told.tape b.told.tape (marks moves)
  pub turns_are : b.told.turns ≡ a.told.turns ++ turns moves
  pub moments_are : Tells ℕ a.told.moments b.told.moments (moments moves)
  pub drawn : Tells (List ℕ) a.told.drawn b.told.drawn (draws moves)
  pub counted : Counted moves a.counts b.counts

-- the connection is to leave its line, with this end and at this moment
pub record Finished (o : Site) (a : Tale) (v : Duty) (b : Tale) (x : Ended) (t : ℕ) : Type 0 where
  pub last : Duty
  pub grew : Grew o a v b last
  pub leaves : last.due ≡ Leaves x ∷ []
  pub sent : last.owed ≡ []
  pub at : last.moment ≡ t

-- no turn was left: the connection is over
pub record Exhausted (o : Site) (a : Tale) (v : Duty) (b : Tale) : Type 0 where
  pub last : Duty
  pub grew : Grew o a v b last
  pub left : last.due ≡ Left ended.Spent ∷ []
  pub sent : last.owed ≡ []

-- a place where the code has this flow, these bytes to be heard and these to be sent
pub record IsAt (o : Site) (p : Place) (flow : State) (ahead owed : List ℕ) : Type 0 where
  pub flow_is : p.flow ≡ flow
  pub ahead_is : p.ahead ≡ ahead
  pub owed_is : p.owed ≡ owed
  pub served : IsServed o p

-- and it came there from a duty
pub record Came (o : Site) (a : Tale) (v : Duty) (b : Tale) (flow : State) (ahead owed : List ℕ) : Type 0 where
  pub to : Place
  pub at : IsAt o to flow ahead owed
  pub grew : Grew o a v b (duty o to)

-- by so many moves, of which the one by which what was heard is handled may still be due
pub record Moved (n : ℕ) (o : Site) (a : Tale) (v : Duty) (b : Tale) (flow : State) (ahead owed : List ℕ) : Type 0 where
  pub came : Came o a v b flow ahead owed
  pub enough : n ≤ length came.grew.moves + handling flow.talk.phase

-- what the code knows of where a connection stands: there is a site and a place
pub record IsStanding (line : ℕ) (accounts : Book) (flow : State) (ahead owed : List ℕ) : Type 0 where
  pub site : Site
  pub place : Place
  pub line_is : site.line ≡ line
  pub accounts_are : site.accounts ≡ accounts
  pub at : IsAt site place flow ahead owed

-- a reading, or what is left of one, was heard at a moment up to the end of its first item
abbrev pub HearsOn : State → List ℕ → ℕ → State → List ℕ → Type 0
HearsOn flow ahead t flow' ahead' = (flow' ≡ hears flow t ahead) × (ahead' ≡ drop (taken_of flow ahead) ahead)

-- the end of a connection that served until then
abbrev pub Concluded : Site → Tale → Duty → Tale → End → Type 0
Concluded o a v b (Over x t) = Finished o a v b x t
Concluded o a v b NoTurn = Exhausted o a v b

-- the last event at a line
abbrev pub last_of : ℕ → Ended → ℕ → Event
last_of line ended.Closed t = event.CloseLine line t
last_of line x t = event.DropLine line t

-- the house was told of a connection that came at this moment
abbrev pub IsOpened : Site → ℕ → Duty → Type 0
IsOpened o t v = v ≡ record (opening o t) { due = Id ∷ [] }

-- a connection that left its line, or found no turn for that
pub record Gone (o : Site) (a : Tale) (v : Duty) (b : Tale) (x : Ended) : Type 0 where
  pub last : Duty
  pub grew : Grew o a v b last
  pub left : last.due ≡ Left x ∷ []
  pub sent : last.owed ≡ []

-- The mark of the pass: a turn that was refused gives it, and then the connection is over.

abbrev pub marked_end : End → Bool → Bool
marked_end NoTurn marked = true
marked_end (Over x t) marked = marked

-- after its line was left
abbrev pub MarkedLeaving : End → Ended → (old new : Bool) → Type 0
MarkedLeaving NoTurn x old new = (x ≡ ended.Spent) × (new ≡ old)
MarkedLeaving (Over y t) x old new = ((x ≡ y) × (new ≡ old)) ⊎ ((x ≡ ended.Spent) × (new ≡ true))

-- What a worker did when it looked for a link.

abbrev pub Attended : Site → Shift → Shift → Option Worked → Type 0
Attended o a b None = (x : Ended) × Visited o a x b
Attended o a b (Some worked) = b ≡ a

abbrev pub EndsNow : Option Worked → Bool → (before now : ℕ) → Type 0
EndsNow None reached before now = Unit {0}
EndsNow (Some worked) reached before now = Ends worked reached before now
