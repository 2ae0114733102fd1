use Rattle.std.proofs.Common.{◌≡◌, length}
use Rattle.std.specs.Prelude.{All}
use Rattle.outside.specs.Posts.{IsPlain}
use Rattle.outside.proofs.clean_ports.plain_posts.Given as goal

abbrev pub invariant-loop-k : goal.invariant-loop-k
invariant-loop-k l = record {
  count : length l.posts.items ≡ l._k;
  plain : All (IsPlain l.places l.quota) l.posts.items;
}
