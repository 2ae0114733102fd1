use Rattle.std.proofs.Common.{ℕ, ◌==◌, ap, ◌∙◌}
use Rattle.stream_frames.proofs.StackLemmas.{one-long}
use Rattle.stream_frames.proofs.names.Names.is_one.Goals as goal

pub returns : goal.returns
returns c = ap (λ (n : ℕ). n == 1) c.count.ensures ∙ one-long c.args.self.now
