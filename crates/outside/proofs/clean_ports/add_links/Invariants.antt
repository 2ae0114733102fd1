use Rattle.std.proofs.Common.{◌≡◌, ◌≤◌, map}
use Rattle.outside.specs.Posts.{CleanPost, added}
use Rattle.outside.proofs.clean_ports.add_links.Given as goal

abbrev pub invariant-loop-post : goal.invariant-loop-post
invariant-loop-post l = record {
  can_next : (goal.iterator-loop-post).can_next l.post-iterator;
  is_finite : (goal.iterator-loop-post).is_finite l.post-iterator;
  links : added l.links (map (λ (p : CleanPost). p.poller.links) l.post-iterator.rest.items)
      ≡ added l.fn.links (map (λ (p : CleanPost). p.poller.links) l.fn.posts.items);
  kept : l.fn.links ≤ l.links;
}
