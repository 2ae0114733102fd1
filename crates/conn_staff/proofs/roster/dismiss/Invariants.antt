use Rattle.std.proofs.Common.{◌≡◌, ◌≤◌, [], length, map, ◌++◌, ◌+◌, All}
use Rattle.std.specs.List.{list_any}
use Rattle.std.specs.Prelude.{vec_capacity, vec_len, ◌||◌}
use Rattle.outside.specs.Posts.{all_of}
use Rattle.conn_staff.specs.Workers.{outfit_at, outfit_of, passes_at}
use Rattle.conn_staff.proofs.roster.dismiss.Given as goal

abbrev pub invariant-loop-worker : goal.invariant-loop-worker
invariant-loop-worker g l = record {
  can_next : (goal.iterator-loop-worker g).can_next l.worker-iterator;
  is_finite : (goal.iterator-loop-worker g).is_finite l.worker-iterator;
  passes : l.passes.items ++ all_of (map passes_at l.worker-iterator.rest.items) ≡ all_of (map passes_at l.fn.workers.items);
  posts : map outfit_of l.posts.items ++ map outfit_at l.worker-iterator.rest.items ≡ map outfit_at l.fn.workers.items;
  any : (l.failed || list_any (λ w. w.failed) l.worker-iterator.rest.items) ≡ list_any (λ w. w.failed) l.fn.workers.items;
  sources : All (λ w. (w.sources.items ≡ []) × (length w.places.items ≤ vec_capacity w.sources)) l.worker-iterator.rest.items;
  passes_room : vec_len l.passes + length (all_of (map passes_at l.worker-iterator.rest.items)) ≤ vec_capacity l.passes;
  posts_room : vec_len l.posts + length l.worker-iterator.rest.items ≤ vec_capacity l.posts;
}
