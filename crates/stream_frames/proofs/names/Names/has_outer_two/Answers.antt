use Rattle.std.proofs.Common.{ℕ, nat_lt, ap, ◌∙◌}
use Rattle.stream_frames.proofs.EndLemmas.{three-long}
use Rattle.stream_frames.proofs.names.Names.has_outer_two.Goals as goal

pub returns : goal.returns
returns c = ap (λ (n : ℕ). nat_lt 2 n) c.count.ensures ∙ three-long c.args.self.now
