use Rattle.std.proofs.Common.{◌≡◌, ◌≤◌, drop}
use Rattle.std.specs.VecDeque.{deque_capacity}
use Rattle.sm_queue.specs.Queues.{frames_length}
use Rattle.sm_queue.proofs.queue.drop_front.Given as goal

abbrev pub invariant-loop-dropped : goal.invariant-loop-dropped
invariant-loop-dropped l = record {
  rest : l.waiting.items ≡ drop l._dropped l.fn.waiting.items;
  left : l.left ≡ frames_length l.waiting.items;
  fewer : l.left ≤ l.fn.bytes;
  capacity : deque_capacity l.waiting ≡ deque_capacity l.fn.waiting;
}
