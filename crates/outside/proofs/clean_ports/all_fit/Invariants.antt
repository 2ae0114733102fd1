use Rattle.std.proofs.Common.{◌≡◌, ◌-◌, drop}
use Rattle.outside.specs.Posts.{fits_clean, pass_first}
use Rattle.outside.proofs.clean_ports.all_fit.Given as goal

abbrev pub invariant-loop-k : goal.invariant-loop-k
invariant-loop-k l = record {
  rest : pass_first (fits_clean l.places) (l.count - l.k) (drop l.k l.posts.items) ≡ pass_first (fits_clean l.places) l.count l.posts.items;
}
