-- How a framer is fed whose items are handed out and printed.
use Rattle.std.specs.Prelude.{◌≡◌, ℕ, List, ◌++◌, drop}
use Rattle.stream_grammar.specs.machine.Reading.{Reading, handed, went}
use Rattle.replay_script.specs.Deeds.{items_of, print_items}
use Rattle.stream_frames.specs.Limits.{limits}

-- Some of these bytes lead a framer from a reading to another, and what is printed from the one list to the other: with the rest of the bytes
-- it comes to the same as with all of them from the beginning.
pub record FedOn (before : Reading) (bytes : List ℕ) (out : List ℕ) (n : ℕ) (after : Reading) (printed_so_far : List ℕ) : Type 0 where
  pub read : handed (went limits after (drop n bytes)) ≡ handed (went limits before bytes)
  pub printed : printed_so_far ++ print_items (items_of after (drop n bytes)) ≡ out ++ print_items (items_of before bytes)
