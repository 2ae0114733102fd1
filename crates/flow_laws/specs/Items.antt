-- The items that a connection handles are those of the grammar.
use Rattle.std.specs.Prelude.{◌≡◌, ◌⊎◌, ℕ, List}
use Rattle.stream_grammar.specs.declared.FrameFault.{FrameFault}
use Rattle.stream_grammar.specs.declared.item.Item.{Item}
use Rattle.stream_grammar.specs.declared.item.Item.TheVariants as item
use Rattle.stream_grammar.specs.grammar.Bounds.{rules_of, told_number}
use Rattle.stream_grammar.specs.grammar.Parts.{IsFault, IsItem}
use Rattle.stream_frames.specs.Limits.{limits}

-- the item of the grammar that ends with these bytes of a stream, or their first fault
abbrev pub IsOfGrammar : List ℕ → Item → Type 0
IsOfGrammar stream i =
    IsItem (rules_of limits) stream i ⊎ ((k : ℕ) × (f : FrameFault) × (i ≡ item.Broken f (told_number k)) × IsFault limits stream k f)
