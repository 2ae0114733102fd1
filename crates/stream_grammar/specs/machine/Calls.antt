-- Calls of a framer, one after the other.
use Rattle.std.specs.Prelude.{◌≡◌, ℕ, ◌<◌, List, [], ◌∷◌, ◌++◌, take, true, Option, option_to_list}
use Rattle.stream_grammar.specs.declared.item.Item.{Item}
use Rattle.stream_grammar.specs.declared.item.Limits.{Limits}
use Rattle.stream_grammar.specs.machine.Reading.{Reading, reading_after, taken, waiting, handed, is_ready}

-- A call and its answer: `feed` of a piece, and how many of its bytes were taken; `feed` that had no memory to read on, and how many were
-- taken before; `next`, and the item that it handed out.
pub data Call : Type 0 where
  feeds : List ℕ → ℕ → Call
  falls_short : List ℕ → ℕ → Call
  hands : Option Item → Call

-- From the reading s these calls lead to the reading t, and `next` hands these items out in all.
abbrev pub Called : Limits → Reading → List Call → List Item → Reading → Type 0
Called l s [] items t = (items ≡ []) × (t ≡ s)
Called l s (feeds piece n ∷ calls) items t =
    (is_ready s ≡ true) × (n ≡ taken l s piece) × Called l (reading_after l s (take n piece)) calls items t
Called l s (falls_short piece n ∷ calls) items t =
    (is_ready s ≡ true) × (n < taken l s piece) × Called l (reading_after l s (take n piece)) calls items t
Called l s (hands next ∷ calls) items t =
    (next ≡ waiting s) × ((later : List Item) × (items ≡ option_to_list next ++ later) × Called l (handed s) calls later t)

-- the bytes that they took
abbrev pub bytes_taken : List Call → List ℕ
bytes_taken [] = []
bytes_taken (feeds piece n ∷ calls) = take n piece ++ bytes_taken calls
bytes_taken (falls_short piece n ∷ calls) = take n piece ++ bytes_taken calls
bytes_taken (hands next ∷ calls) = bytes_taken calls
