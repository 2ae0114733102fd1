-- Where the calls of a flow bring it.
use Rattle.std.specs.Prelude.{◌≡◌, ◌≤◌, ℕ, List, [], ◌∷◌, ◌++◌, length, take, drop, Bool, true, false, if◌then◌else◌}
use Rattle.house_model.specs.declared.reply.Reply.{Reply}
use Rattle.conn_flow.specs.declared.phase.Phase.{Phase}
use Rattle.conn_flow.specs.declared.phase.Phase.TheVariants.{Heard}
use Rattle.conn_flow.specs.Moves.{Move, Takes, marks, turns, moments, draws}
use Rattle.conn_flow.specs.Duties.{Site}
use Rattle.conn_flow.specs.Following.{GoesThrough}
use Rattle.conn_flow.specs.Flows.{State, fresh, hears, late_at, restarts, short_at, taken_of, told, gave_at, hung_at, waited, wished}
use Rattle.flow_laws.specs.Standing.{Place, IsServed, duty}

-- a flow that was just made for a connection at this moment
abbrev pub start : Site → List ℕ → ℕ → Place
start o dice t = record { flow = fresh o.line o.domain dice t; stream = []; front = []; ahead = []; owed = [] }

-- bytes are heard up to the end of their first item
abbrev pub hears_at : Place → ℕ → List ℕ → Place
hears_at p t bytes =
    record p { flow = hears p.flow t bytes; front = take (taken_of p.flow bytes) bytes; ahead = drop (taken_of p.flow bytes) bytes }

abbrev pub waits_at : Place → ℕ → Place
waits_at p t = record p { flow = record p.flow { talk = waited p.flow.talk t } }

-- bytes came too late for a login
abbrev pub lates_at : Place → ℕ → Place
lates_at p t = record p { flow = record p.flow { talk = late_at p.flow.talk t } }

abbrev pub hangs_at : Place → ℕ → Place
hangs_at p t = record p { flow = record p.flow { talk = hung_at p.flow.talk t } }

-- the flow said what it wants
abbrev pub wishes_at : State → State
wishes_at s = record s { talk = wished s.talk s.talk.phase }

-- a text is to be sent
abbrev pub says_at : Place → List ℕ → Place
says_at p text = record p { flow = wishes_at p.flow; owed = p.owed ++ text }

-- nothing more is wanted
abbrev pub ends_at : Place → Place
ends_at p = record p { flow = wishes_at p.flow }

-- after a login a new stream begins
abbrev pub stream_after : Bool → List ℕ → List ℕ
stream_after again stream = if again then [] else stream

-- the house answered what was submitted, and the text of a frame is to be sent
abbrev pub enters_at : Place → Reply → List ℕ → Place
enters_at p r text =
    record p {
      flow = told (wishes_at p.flow) r;
      stream = stream_after (restarts (wishes_at p.flow).talk.phase r) p.stream;
      owed = p.owed ++ text;
    }

abbrev pub shorts_at : Place → Place
shorts_at p =
    record p { flow = record p.flow { talk = short_at (wishes_at p.flow).talk (wishes_at p.flow).talk.phase } }

abbrev pub gives_at : Place → List ℕ → Place
gives_at p dice = record p { flow = record p.flow { talk = gave_at p.flow.talk dice } }

-- each of these handles an item
abbrev pub AreTakes : List Move → Type 0
AreTakes [] = Unit {0}
AreTakes (Takes ∷ more) = AreTakes more
AreTakes (m ∷ more) = ⊥

-- moves of which nobody tells
pub record IsSilent (moves : List Move) : Type 0 where
  pub marks_none : marks moves ≡ []
  pub turns_none : turns moves ≡ []
  pub moments_none : moments moves ≡ []
  pub draws_none : draws moves ≡ []
  pub takes : AreTakes moves

abbrev pub is_heard : Phase → Bool
is_heard Heard = true
is_heard phase = false

-- what was heard is handled by a move
abbrev pub handling : Phase → ℕ
handling phase = if is_heard phase then 1 else 0

-- from one place to another by moves of which nobody tells
pub record Comes (o : Site) (p : Place) (s : State) : Type 0 where
  pub to : Place
  pub moves : List Move
  pub flow_is : to.flow ≡ s
  pub ahead_is : to.ahead ≡ p.ahead
  pub owed_is : to.owed ≡ p.owed
  pub through : GoesThrough o (duty o p) moves (duty o to)
  pub silent : IsSilent moves
  pub counted : handling p.flow.talk.phase ≤ length moves
  pub served : IsServed o to
