use Rattle.std.specs.Prelude.{None}
use Rattle.rsm_paging.proofs.WalkLemmas.{walk-shows}
use Rattle.rsm_paging.proofs.laws.pages_follow.Goals as goal

pub returns : goal.returns
returns c = λ all rises f s more is. walk-shows all rises f None s more is
