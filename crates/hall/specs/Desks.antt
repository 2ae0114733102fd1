-- What a caller of a desk says of its calls.
use Rattle.std.specs.Prelude.{◌≡◌, ℕ, List, [], ◌∷◌, ◌++◌, Result, Ok, Err, Bool, true}
use Rattle.turn_lock.specs.Histories.{StartsWith}
use Rattle.turn_lock.specs.Calls.{entries_of}
use Rattle.turn_lock.specs.declared.tokens.Spent.{Spent}
use Rattle.house_model.specs.declared.event.Event.{Event}
use Rattle.house_model.specs.declared.reply.Reply.{Reply}
use Rattle.house_model.specs.Histories.{Turn, MayBeShort, made, short}
use Rattle.hall.specs.declared.hall.HallFault.{HallFault}
use Rattle.hall.specs.declared.hall.HallFault.TheVariants as hall
use Rattle.hall.specs.declared.desk.DeskFault.{DeskFault}
use Rattle.hall.specs.declared.desk.DeskFault.TheVariants as desk
use Rattle.hall.specs.Stories.{line}

-- the turns of a line, in their order
abbrev pub turns_of : ℕ → List Turn → List Turn
turns_of w h = entries_of line w h

-- What was seen goes on, and ends with x, which is all that the line gained.
abbrev pub Gained : ℕ → Turn → (old new : List Turn) → Type 0
Gained w x old new = (before : List Turn) × StartsWith before old × (new ≡ before ++ x ∷ []) × (turns_of w new ≡ turns_of w old ++ x ∷ [])

-- What a call at line w answered to an event, and the text that it gave, by the turns that were seen before it and after it.
abbrev pub Served : ℕ → Event → (text : List ℕ) → Result Reply DeskFault → (old new : List Turn) → Type 0
Served w e text (Ok reply) old new = Gained w (made e reply text) old new
Served w e text (Err desk.NoMemory) old new = (text ≡ []) × MayBeShort e × Gained w (short e) old new
Served w e text (Err desk.Spent) old new = (text ≡ []) × (new ≡ old)

-- the mark of a pass after an answer: a turn that was refused gives it, and nothing takes it
abbrev pub marked_by : Result Reply DeskFault → Bool → Bool
marked_by (Ok reply) marked = marked
marked_by (Err desk.NoMemory) marked = marked
marked_by (Err desk.Spent) marked = true

-- the answers of a hall, as those of a desk
abbrev pub unless_spent : Result Reply Spent → Result Reply DeskFault
unless_spent (Ok reply) = Ok reply
unless_spent (Err spent) = Err desk.Spent

abbrev pub unless_refused : Result Reply HallFault → Result Reply DeskFault
unless_refused (Ok reply) = Ok reply
unless_refused (Err hall.NoMemory) = Err desk.NoMemory
unless_refused (Err hall.Spent) = Err desk.Spent
