use Rattle.std.proofs.Common.{◌≡◌, ◌≤◌}
use Rattle.outside.specs.Posts.{took_posts}
use Rattle.outside.proofs.mem_ports.MemPorts.take_posts.Given as goal

abbrev pub invariant-loop-post : goal.invariant-loop-post
invariant-loop-post l = record {
  can_next : (goal.iterator-loop-post).can_next l.post-iterator;
  is_finite : (goal.iterator-loop-post).is_finite l.post-iterator;
  state : took_posts l.self l.post-iterator.rest.items ≡ took_posts l.fn.self l.fn.posts.items;
  faults : l.fn.self.plan.faults ≤ l.self.plan.faults;
  links : l.fn.self.links ≤ l.self.links;
  dice : l.fn.self.dice_faults ≤ l.self.dice_faults;
}
