-- What the code keeps of its own numbers.
use Rattle.std.specs.Prelude.{◌≡◌, ℕ, ◌≤◌, List, length}
use Rattle.stanza_tree.specs.declared.frame.Entry.{Entry}
use Rattle.sm_queue.specs.Queues.{frames_length, most_bytes, most_waiting}

-- no more were sent than wait; the bytes are those of the waiting frames; both are within the limits
pub record IsCounted (waiting : List Entry) (given bytes : ℕ) : Type 0 where
  pub in_order : given ≤ length waiting
  pub few : length waiting ≤ most_waiting
  pub counted : bytes ≡ frames_length waiting
  pub most : bytes ≤ most_bytes
