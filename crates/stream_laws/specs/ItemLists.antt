-- All items of given bytes by the fold over them, where each item is handed out before the next byte, and a fault once.
use Rattle.std.specs.Prelude.{ℕ, List, [], ◌∷◌, ◌++◌, Option, option_to_list}
use Rattle.stream_grammar.specs.declared.item.Item.{Item}
use Rattle.stream_grammar.specs.declared.item.Limits.{Limits}
use Rattle.stream_grammar.specs.machine.Reading.{Reading, reads, stopped, waiting, went}
pub use Rattle.stream_grammar.specs.grammar.ItemLists.{AreNext}

-- what a byte brings: the item that waits after it, or its fault
abbrev pub brought : Reading → Option Item → List Item
brought (reads f b n k) next = option_to_list next
brought (stopped f k) next = []

abbrev pub items_from : Limits → Reading → List ℕ → List Item
items_from l s [] = []
items_from l s (b ∷ bs) = brought s (waiting (went l s (b ∷ []))) ++ items_from l (went l s (b ∷ [])) bs
