use Rattle.std.proofs.Common.{◌≡◌, ◌-◌, drop}
use Rattle.outside.specs.Posts.{fits, pass_first}
use Rattle.outside.proofs.mem_ports.all_fit.Given as goal

abbrev pub invariant-loop-k : goal.invariant-loop-k
invariant-loop-k l = record {
  rest : pass_first (fits l.places) (l.count - l.k) (drop l.k l.posts.items) ≡ pass_first (fits l.places) l.count l.posts.items;
}
