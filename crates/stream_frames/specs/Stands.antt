-- What a framer took and answered since it was made or begun again, by the grammar.
use Rattle.std.specs.Prelude.{◌≡◌, ℕ, List, ◌++◌, option_to_list}
use Rattle.stream_grammar.specs.declared.item.Item.{Item}
use Rattle.stream_grammar.specs.grammar.ItemLists.{AreItems, to_fault}
use Rattle.stream_grammar.specs.machine.Calls.{Call, Called, bytes_taken}
use Rattle.stream_grammar.specs.machine.Reading.{first_reading, waiting}
use Rattle.stream_frames.specs.Fed.{Fed}

-- Since the framer was made or begun again it took these bytes, and these are the answers of `next`, in their order. With what waits they are
-- the items of the bytes by the grammar, up to the first fault, which is answered again and again (`items`). It came here by calls, from which
-- the next one goes on (`came`): whoever asks what was handed out needs to know no more of them.
pub record Stands (bytes : List ℕ) (answers : List Item) (framer : Fed) : Type 0 where
  pub items : AreItems framer.limits bytes (to_fault (answers ++ option_to_list (waiting framer.reading)))
  pub came : (calls : List Call) × Called framer.limits first_reading calls answers framer.reading × (bytes ≡ bytes_taken calls)
