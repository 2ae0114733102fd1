-- What an event gives.
use Rattle.std.specs.Prelude.{◌≡◌, ℕ, List, ◌++◌, Bool, Option, Some, None, Result}
use Rattle.house_model.specs.Histories.{Turn}
use Rattle.house_model.specs.declared.event.Event.{Event}
use Rattle.house_model.specs.declared.reply.Reply.{Reply}
use Rattle.hall.specs.Desks.{Served, marked_by}
use Rattle.hall.specs.declared.desk.DeskFault.{DeskFault}

-- an event was entered, and the text that it gave comes last
abbrev pub Gives : ℕ → Event → (before now : List ℕ) → Result Reply DeskFault → (old new : List Turn) → Type 0
Gives w e before now result old new = (text : List ℕ) × (now ≡ before ++ text) × Served w e text result old new

-- or there was no room for a text, and it was not entered
abbrev pub GivesIf : ℕ → Event → (before now : List ℕ) → Option (Result Reply DeskFault) → (old new : List Turn) → Type 0
GivesIf w e before now (Some result) old new = Gives w e before now result old new
GivesIf w e before now None old new = (now ≡ before) × (new ≡ old)

-- the mark of a pass after it
abbrev pub marked_if : Option (Result Reply DeskFault) → Bool → Bool
marked_if (Some result) marked = marked_by result marked
marked_if None marked = marked
