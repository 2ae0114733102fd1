use Rattle.std.proofs.Common.{ap, ◌∙◌}
use Rattle.stream_frames.specs.Stacks.{outer}
use Rattle.stream_frames.proofs.StackLemmas.{popped}
use Rattle.stream_frames.proofs.names.Names.pop.Goals as goal

pub returns : goal.returns
returns c =
    popped c.pop.result c.self.inside.innermost c.self.inside.others.items c.pop.new.self.items c.self.inside.others.len _ _ c.self.invariant
    c.self.inside.others.ok.0 c.pop.ensures.items c.pop.ensures.cases
    ∙ ap outer c.self.view_is
