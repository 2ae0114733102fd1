-- How the places of a session lie, and how much waits for its client.
use Rattle.std.specs.Prelude.{ℕ, ◌≤◌, List, length, drop}
use Rattle.stanza_tree.specs.declared.frame.Entry.{Entry}
use Rattle.sm_queue.specs.Queues.{frames_length, most_bytes, most_waiting}
use Rattle.sm_account.specs.Sessions.{Core}

-- what is done with was sent, what was sent was queued, and both limits on what waits are kept
pub record QueueIsInOrder (queued : List Entry) (kept sent asked_at base_out : ℕ) : Type 0 where
  pub began : base_out ≤ kept
  pub in_order : kept ≤ sent
  pub asked : asked_at ≤ sent
  pub within : sent ≤ length queued
  pub few : length (drop kept queued) ≤ most_waiting
  pub small : frames_length (drop kept queued) ≤ most_bytes

pub record IsInOrder {S : Type 0} (s : Core S) : Type 0 where
  pub queue : QueueIsInOrder s.queued s.kept s.sent s.asked_at s.base_out
  pub base_in : s.base_in ≤ length s.acts
