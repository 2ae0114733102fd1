use Rattle.std.proofs.Common.{ℕ, ◌==◌, ap, ◌∙◌}
use Rattle.stream_frames.proofs.StackLemmas.{two-long}
use Rattle.stream_frames.proofs.names.Names.is_two.Goals as goal

pub returns : goal.returns
returns c = ap (λ (n : ℕ). n == 2) c.count.ensures ∙ two-long c.args.self.now
