use Rattle.std.proofs.Common.{◌≡◌, ◌≤◌}
use Rattle.outside_net.specs.Counts.{took_posts}
use Rattle.outside_net.proofs.net_ports.NetPorts.take_posts.Given as goal

abbrev pub invariant-loop-post : goal.invariant-loop-post
invariant-loop-post g l = record {
  can_next : (goal.iterator-loop-post g).can_next l.post-iterator;
  is_finite : (goal.iterator-loop-post g).is_finite l.post-iterator;
  state : took_posts l.self l.post-iterator.rest.items ≡ took_posts l.fn.self l.fn.posts.items;
  faults : l.fn.self.faults ≤ l.self.faults;
  links : l.fn.self.links ≤ l.self.links;
  dice : l.fn.self.dice_faults ≤ l.self.dice_faults;
}
