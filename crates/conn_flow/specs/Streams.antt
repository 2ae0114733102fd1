-- The items of a stream as its bytes come.
use Rattle.std.specs.Prelude.{ℕ, List, [], ◌∷◌, ◌++◌, Option, Some, None}
use Rattle.stream_grammar.specs.declared.item.Item.{Item}
use Rattle.stream_grammar.specs.machine.Reading.{first_reading, waiting, went}
use Rattle.stream_frames.specs.Limits.{limits}

-- The item that ends with the last of these bytes, or the fault that some of them has. What `went` gives is the item of the
-- grammar that ends there, `IsItem`, or the first fault, `IsFault`: that is a law of the crate `stream_laws`.
abbrev pub item_at : List ℕ → Option Item
item_at stream = waiting (went limits first_reading stream)

-- The first item that ends in bytes that follow those of a stream: the item if there is one, the stream up to its end, and the rest.
pub record Cut : Type 0 where
  pub item : Option Item
  pub stream : List ℕ
  pub rest : List ℕ

-- the item that ends here, if one does, or else what comes later
abbrev pub here_or : Option Item → List ℕ → List ℕ → Cut → Cut
here_or (Some item) stream rest later = record { item = Some item; stream = stream; rest = rest }
here_or None stream rest later = later

abbrev pub cut : List ℕ → List ℕ → Cut
cut stream [] = record { item = None; stream = stream; rest = [] }
cut stream (b ∷ bytes) = here_or (item_at (stream ++ b ∷ [])) (stream ++ b ∷ []) bytes (cut (stream ++ b ∷ []) bytes)
