-- What a caller says of a pass and of its hall.
use Rattle.std.specs.Prelude.{◌≡◌, ℕ, ◌^◌, ◌<◌, ◌≤◌, List, [], ◌∷◌, ◌++◌, length, Result, Ok, Err, true, false, All}
use Rattle.turn_lock.specs.Histories.{StartsWith}
use Rattle.turn_lock.specs.Passes.{number_of, seen, mine, refused, drawn, root_of, IsIdle}
use Rattle.turn_lock.specs.Calls.{Closes, entries_of}
use Rattle.turn_lock.specs.declared.tokens.Spent.{Spent}
use Rattle.house_model.specs.declared.event.Event.{Event}
use Rattle.house_model.specs.declared.reply.Reply.{Reply}
use Rattle.house_model.specs.States.{State, Kept}
use Rattle.house_model.specs.Histories.{Turn, made, short}
use Rattle.hall.specs.declared.hall.Hall.{Hall}
use Rattle.hall.specs.declared.hall.HallFault.{HallFault}
use Rattle.hall.specs.declared.hall.HallFault.TheVariants as fault
use Rattle.hall.specs.Openings.{OpeningRecord, opening_from}
use Rattle.hall.specs.Stories.{HallPass, line, root, IsLegal, Stands}

-- what the hall's house was opened with
abbrev pub opened : Hall → OpeningRecord
opened hall = root_of root hall.lock

-- the state of the hall's house before its first event
abbrev pub opening_state : Hall → State
opening_state hall = opening_from (opened hall)

-- how many lines the hall's house has, and so how many passes there are
abbrev pub lines_of : Hall → ℕ
lines_of hall = (opened hall).workers

-- The pass came from this hall, and no call is made with it. Its number is a line of the house, and what it has seen is legal.
abbrev pub CameFrom : Hall → HallPass → Type 0
CameFrom hall p =
    IsIdle line root hall.lock p × (number_of p < lines_of hall) × IsLegal (opening_state hall) (seen p)

-- the turns of the pass's own line, as far as it has seen the history
abbrev pub own : HallPass → List Turn
own p = entries_of line (number_of p) (seen p)

-- One turn was taken: what was seen goes on, and ends with that turn. Its place is the one that the pass's own gained. The
-- pass has no mark, and fewer than 2^63 turns were drawn.
pub record Took (x : Turn) (old new : HallPass) : Type 0 where
  pub before : List Turn
  pub sight : StartsWith before (seen old)
  pub history : seen new ≡ before ++ x ∷ []
  pub mine : mine line new ≡ mine line old ++ length before ∷ []
  pub own : own new ≡ own old ++ x ∷ []
  pub unmarked : (refused old ≡ false) × (refused new ≡ false)
  pub drawn : (drawn old ≤ drawn new) × (drawn new < 2 ^ 63)

-- No turn was left, since 2^63 were drawn: what was seen is as before, and the pass has the mark.
pub record WasRefused (old new : HallPass) : Type 0 where
  pub history : seen new ≡ seen old
  pub mine : mine line new ≡ mine line old
  pub own : own new ≡ own old
  pub marked : refused new ≡ true
  pub drawn : (drawn old ≤ drawn new) × (2 ^ 63 ≤ drawn new)

-- what came of an event that takes no memory and gives no text
abbrev pub Answered : Event → Result Reply Spent → HallPass → HallPass → Type 0
Answered e (Ok reply) old new = Took (made e reply []) old new
Answered e (Err fault) old new = WasRefused old new

-- the answer of a call for which memory may be wanting
abbrev pub joined : {E : Type 0} → Result (Result Reply E) Spent → Result Reply HallFault
joined (Ok (Ok reply)) = Ok reply
joined (Ok (Err short)) = Err fault.NoMemory
joined (Err spent) = Err fault.Spent

-- what came of one for which memory may be wanting
abbrev pub AnsweredOrShort : Event → Result Reply HallFault → HallPass → HallPass → Type 0
AnsweredOrShort e (Ok reply) old new = Took (made e reply []) old new
AnsweredOrShort e (Err fault.NoMemory) old new = Took (short e) old new
AnsweredOrShort e (Err fault.Spent) old new = WasRefused old new

-- what came of one that gives the text of a frame, which was appended
abbrev pub AnsweredBy : (text : List ℕ) → Event → Result Reply Spent → HallPass → HallPass → Type 0
AnsweredBy text e (Ok reply) old new = Took (made e reply text) old new
AnsweredBy text e (Err fault) old new = (text ≡ []) × WasRefused old new

-- What a hall that is closed with these passes gives: a house that stands for a legal history from the opening state. It
-- begins with what each pass has seen, each of its turns has the line of one of them, and those of a pass's line stand at the
-- pass's own places. Where one has the mark it has at least 2^63 turns.
abbrev pub Closed : Hall → List HallPass → Kept → Type 0
Closed hall passes k = (h : List Turn) × Stands (opening_state hall) h k × Closes line passes h
    × All (λ p. refused p ≡ true → 2 ^ 63 ≤ length h) passes
