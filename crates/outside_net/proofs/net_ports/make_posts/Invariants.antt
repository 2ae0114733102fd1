use Rattle.std.proofs.Common.{◌≡◌, ◌+◌, length}
use Rattle.std.specs.Prelude.{All}
use Rattle.outside_net.specs.Counts.{AreOpened, NetPost}
use Rattle.outside_net.proofs.net_ports.make_posts.Given as goal

abbrev pub invariant-loop-poll : goal.invariant-loop-poll
invariant-loop-poll g l = record {
  can_next : (goal.iterator-loop-poll g).can_next l.poll-iterator;
  is_finite : (goal.iterator-loop-poll g).is_finite l.poll-iterator;
  count : length l.posts.items + length l.poll-iterator.rest.items ≡ length l.fn.polls.items;
  sources : All (λ (p : NetPost). length p.sources.items ≡ l.places) l.posts.items;
  opened : AreOpened l.places l.quota l.posts.items;
}
