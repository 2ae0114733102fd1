-- The text of a turn.
use Rattle.std.specs.Prelude.{ℕ, List, []}
use Rattle.house_model.specs.Histories.{Outcome, Made, Short}

-- the text of the frame that was given
abbrev pub text_in : Outcome → List ℕ
text_in (Made reply text) = text
text_in Short = []
