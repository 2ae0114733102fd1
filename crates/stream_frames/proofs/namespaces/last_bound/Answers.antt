use Rattle.std.proofs.Common.{rules, None}
use Rattle.stream_frames.proofs.LookupLemmas.{last_here, last_before}
use Rattle.stream_frames.proofs.namespaces.last_bound.Goals as goal

pub returns-then-eq : goal.returns-then-eq
returns-then-eq c = search (
  rules,
  last_here None c.args.bindings.now c.loop-i.i c.index-bindings-i.result c.args.prefix.now c.loop-i.invariant (search rules) (search rules)
      c.index-bindings-i.is (search rules),
)

pub loop-i-preserved : goal.loop-i-preserved
loop-i-preserved c = last_before None c.args.bindings.now c.loop-i.i c.index-bindings-i.result c.args.prefix.now c.loop-i.invariant (search rules)
    (search rules) c.index-bindings-i.is (search rules)
