use Rattle.std.proofs.Common.{◌≡◌, ◌≤◌, ◌++◌, ◌+◌, map, take, drop}
use Rattle.std.specs.Prelude.{vec_capacity, vec_len}
use Rattle.std.specs.VecDeque.{deque_len}
use Rattle.outside.specs.Posts.{opened_clean}
use Rattle.outside.proofs.clean_ports.hand_out.Given as goal

abbrev pub invariant-loop-post : goal.invariant-loop-post
invariant-loop-post l = record {
  can_next : (goal.iterator-loop-post).can_next l.post-iterator;
  is_finite : (goal.iterator-loop-post).is_finite l.post-iterator;
  done : l.out.items ++ map (opened_clean l.quota) l.post-iterator.rest.items ≡ map (opened_clean l.quota) (take l.count l.fn.posts.items);
  left : l.posts.items ≡ drop l.count l.fn.posts.items;
  room : vec_len l.out + deque_len l.post-iterator.rest ≤ vec_capacity l.out;
}
