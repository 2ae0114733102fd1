-- Where a stream stands, byte by byte: the lexical state and the nesting together.
use Rattle.std.specs.Prelude.{ℕ, List, [], ◌∷◌, Bool, true, false, not, cond, ◌==◌, ◌&&◌, ◌||◌}
use Rattle.stream_lex.specs.declared.LexFault.{LexFault}
use Rattle.stream_lex.specs.declared.LexFault.TheVariants as lexical
use Rattle.stream_lex.specs.declared.stages.Base.{Base}
use Rattle.stream_lex.specs.declared.stages.Base.TheVariants.{Decimal, Hexadecimal}
use Rattle.stream_lex.specs.declared.stages.Context.TheVariants.{Words}
use Rattle.stream_lex.specs.declared.stages.EntityName.TheVariants as entity_name
use Rattle.stream_lex.specs.declared.stages.Stage.{Stage}
use Rattle.stream_lex.specs.declared.stages.Stage.TheVariants as stage
use Rattle.stream_lex.specs.declared.stages.State.{State}
use Rattle.stream_lex.specs.declared.characters.Pending.TheVariants as pending
use Rattle.stream_lex.specs.machine.Characters.{is_nothing}
use Rattle.stream_lex.specs.machine.Turns.{Outcome, leads, fails, at, turn}
use Rattle.stream_grammar.specs.grammar.Trees.{is_space}
use Rattle.stream_grammar.specs.declared.rules.Rules.{Rules}
use Rattle.stream_grammar.specs.declared.FrameFault.{FrameFault}
use Rattle.stream_grammar.specs.declared.FrameFault.TheVariants as fault
use Rattle.stream_grammar.specs.grammar.Faults.{deeper, wider, looser}
use Rattle.stream_grammar.specs.machine.Nesting.{Nest, start, inside, naming, in_tag, closing, lost, nest_all}

-- the values of the first digits of references to white space
abbrev pub begins_space : Base → ℕ → Bool
begins_space Decimal v = (v == 0) || ((v == 1) || ((v == 3) || is_space v))
begins_space Hexadecimal v = (v == 0) || ((v == 2) || is_space v)

-- whether a stage in words may come to white space
abbrev pub stage_to_space : Stage → Bool
stage_to_space (stage.Reference Words entity_name.Empty) = true
stage_to_space (stage.Reference Words l) = false
stage_to_space (stage.Number Words base v) = begins_space base v
stage_to_space s = true

abbrev pub comes_to_space : State → Bool
comes_to_space st = is_nothing st.pending && stage_to_space st.stage

abbrev pub is_empty_mark : Stage → Bool
is_empty_mark stage.EmptyTagMark = true
is_empty_mark s = false

abbrev pub is_after_end_name : Stage → Bool
is_after_end_name stage.EndTagNamed = true
is_after_end_name s = false

-- Whether a stream goes on from the lexical state at this nesting: between top elements to white space, in the stream's
-- own tag to no `/`, and in the name of an end tag to no white space before the name is whole.
abbrev pub goes_with : Rules → State → Nest → Bool
goes_with r st (inside (m ∷ [])) = comes_to_space st || r.loose
goes_with r st (naming [] n) = not (is_empty_mark st.stage)
goes_with r st (in_tag [] n k) = not (is_empty_mark st.stage)
goes_with r st (closing s (x ∷ m)) = not (is_after_end_name st.stage)
goes_with r st n = true

-- Where bytes lead.
pub data Frame : Type 0 where
  open_at : State → Nest → Frame
  ended : Frame  -- after the end tag of the stream
  broken : Frame  -- no stream begins so

abbrev pub placed : Rules → State → Nest → Frame
placed r st lost = broken
placed r st (inside []) = ended
placed r st n = cond (goes_with r st n) (open_at st n) broken

abbrev pub settled : Rules → Nest → Outcome → Frame
settled r n (leads st ts) = placed r st (nest_all r n ts)
settled r n (fails f) = broken

abbrev pub frame_next : Rules → Frame → ℕ → Frame
frame_next r (open_at st n) b = settled r n (turn st b)
frame_next r ended b = cond (is_space b) ended broken
frame_next r broken b = broken

abbrev pub frame_after : Rules → Frame → List ℕ → Frame
frame_after r f [] = f
frame_after r f (b ∷ bs) = frame_after r (frame_next r f b) bs

abbrev pub first_frame : Frame
first_frame = open_at (at stage.Start pending.Nothing false) start

abbrev pub is_broken : Frame → Bool
is_broken broken = true
is_broken f = false

abbrev pub has_ended : Frame → Bool
has_ended ended = true
has_ended f = false

-- The kind of the fault of a byte that breaks a frame.

abbrev pub lexical_fault : LexFault → FrameFault
lexical_fault lexical.NotWellFormed = fault.NotWellFormed
lexical_fault lexical.Restricted = fault.Restricted
lexical_fault lexical.BadEncoding = fault.BadEncoding

-- neither a level nor an attribute more would help: whether a stream would go on, were any words allowed between top elements
abbrev pub nesting_fault : Rules → Frame → ℕ → FrameFault
nesting_fault r f b = cond (is_broken (frame_next (looser r) f b)) fault.NotWellFormed fault.BadFormat

-- the fault of the lexical layer, or else the first limit without which a stream would go on
abbrev pub byte_fault : Rules → Frame → ℕ → Outcome → FrameFault
byte_fault r f b (fails g) = lexical_fault g
byte_fault r f b (leads st us) =
    cond (is_broken (frame_next (deeper r) f b)) (cond (is_broken (frame_next (wider r) f b)) (nesting_fault r f b) fault.TooManyAttrs) fault.TooDeep

-- after the end a byte is read as one between elements
abbrev pub fault_at : Rules → Frame → ℕ → FrameFault
fault_at r (open_at st n) b = byte_fault r (open_at st n) b (turn st b)
fault_at r ended b = byte_fault r ended b (turn (at (stage.Text Words) pending.Nothing false) b)
fault_at r broken b = fault.NotWellFormed
