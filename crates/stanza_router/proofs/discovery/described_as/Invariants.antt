use Rattle.std.proofs.Common.{◌≡◌, ◌∷◌, ◌++◌, map, drop}
use Rattle.stanza_router.specs.Discovery.{feature, node_of}
use Rattle.stanza_router.proofs.discovery.described_as.Given as goal

abbrev pub invariant-loop-var : goal.invariant-loop-var
invariant-loop-var l = record {
  made : l.nodes.items ++ map (λ var. node_of (feature var)) (map (λ f. f.now) (drop l.var-index l.features))
      ≡ node_of l.fn.identity ∷ map (λ var. node_of (feature var)) (map (λ f. f.now) l.fn.features);
}
