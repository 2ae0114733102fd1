use Rattle.std.proofs.Common.{rules}
use Rattle.stream_frames.specs.Spaces.{bound_space}
use Rattle.stream_frames.proofs.LookupLemmas.{layer_here, layer_before}
use Rattle.stream_frames.proofs.namespaces.last_in_layers.Goals as goal

pub returns-in-Some : goal.returns-in-Some
returns-in-Some c = layer_here (bound_space c.args.given) c.args.layers.now c.loop-i.i c.index-layers-i.result c.args.prefix.now c.in-Some.space.now
    c.loop-i.invariant (search rules) (search rules) c.index-layers-i.is (search rules)

pub loop-i-preserved : goal.loop-i-preserved
loop-i-preserved c = layer_before (bound_space c.args.given) c.args.layers.now c.loop-i.i c.index-layers-i.result c.args.prefix.now c.loop-i.invariant
    (search rules) (search rules) c.index-layers-i.is (search rules)
