-- Where a stream stands, as it is kept.
use Rattle.std.specs.Prelude.{List, [], ◌∷◌, ◌++◌, cond}
use Rattle.stream_lex.specs.declared.Token.{Token}
use Rattle.stream_lex.specs.declared.LexFault.{LexFault}
use Rattle.stream_lex.specs.declared.stages.State.{State}
use Rattle.stream_grammar.specs.declared.rules.Rules.{Rules}
use Rattle.stream_frames.specs.declared.places.Place.{Place}
use Rattle.stream_frames.specs.declared.places.Place.TheVariants as place
use Rattle.stream_frames.specs.declared.places.Move.{Move}
use Rattle.stream_frames.specs.declared.places.Move.TheVariants as move
use Rattle.stream_frames.specs.declared.tracker.Standing.{Standing}
use Rattle.stream_frames.specs.declared.tracker.Standing.TheVariants as standing
use Rattle.stream_grammar.specs.declared.FrameFault.{FrameFault}
use Rattle.stream_grammar.specs.declared.FrameFault.TheVariants as fault
use Rattle.stream_grammar.specs.grammar.Faults.{deeper, wider, looser}
use Rattle.stream_frames.specs.Moves.{tokens_move, breaks}
use Rattle.std.specs.declared.option.Option.{Option}
use Rattle.std.specs.declared.option.Option.TheVariants.{None, Some}
use Rattle.stream_grammar.specs.grammar.Trees.{RawName}
use Rattle.stream_grammar.specs.machine.Nesting.{Nest, start, declared, inside, naming, in_tag, naming_attribute, in_value, closing, lost}
use Rattle.stream_grammar.specs.machine.Framing.{Frame, open_at, ended, broken, lexical_fault}
use Rattle.stream_frames.specs.Stacks.{outer, left_of}

-- the nesting at a place, where these names are open, and this much of a tag's name has come
abbrev pub nest_at : Place → List RawName → RawName → Nest
nest_at place.Start st n = start
nest_at place.Declared st n = declared
nest_at place.Inside st n = inside st
nest_at place.Naming st n = naming st n
nest_at (place.InTag k) st n = in_tag st n k
nest_at (place.NamingAttribute k) st n = naming_attribute st n k
nest_at (place.InValue k) st n = in_value st n k
nest_at (place.Closing i) st n = closing (outer st) (left_of st i)

-- and after a move
abbrev pub moved : Move → List RawName → RawName → Nest
moved (move.To p) st n = nest_at p st n
moved (move.Roots b) st n = naming [] (b, [])
moved (move.Begins b) st n = naming st (b, [])
moved (move.Adds x) st n = naming st (n.0, n.1 ++ x ∷ [])
moved move.Enters st n = inside (n ∷ st)
moved move.Leaves st n = inside (outer st)
moved move.Lost st n = lost

-- what a tracker stands for
pub record Tracked : Type 0 where
  pub rules : Rules
  pub frame : Frame

abbrev pub framed : Standing → State → List RawName → RawName → Frame
framed (standing.Open p) s st n = open_at s (nest_at p st n)
framed standing.Ended s st n = ended
framed standing.Broken s st n = broken

-- the frame of a place that is not lost
abbrev pub frame_of : State → Nest → Frame
frame_of s lost = broken
frame_of s (inside []) = ended
frame_of s n = open_at s n

-- the fault of tokens that break, by rules that allow more
abbrev pub tried : Rules → Place → List RawName → State → List Token → FrameFault
tried r p st s us =
    cond (breaks (deeper r) s (tokens_move (deeper r) p st us) st)
    (cond (breaks (wider r) s (tokens_move (wider r) p st us) st)
    (cond (breaks (looser r) s (tokens_move (looser r) p st us) st) fault.NotWellFormed fault.BadFormat) fault.TooManyAttrs) fault.TooDeep

-- what a byte's reading is judged to be
abbrev pub judged : Rules → Place → List RawName → State → Option LexFault → List Token → Option FrameFault
judged r p st s (Some g) us = Some (lexical_fault g)
judged r p st s None us = cond (breaks r s (tokens_move r p st us) st) (Some (tried r p st s us)) None
