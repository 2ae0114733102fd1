use Rattle.std.proofs.Common.{◌≡◌, ◌+◌, ◌≤◌, drop}
use Rattle.stanza_model.specs.Stanzas.{element_count}
use Rattle.conn_asks.proofs.binding.has_one_element.Given as goal

abbrev pub invariant-loop-node : goal.invariant-loop-node
invariant-loop-node l = record {
  counted : l.count + element_count (drop l.node-index l.children) ≡ element_count l.children;
  few : l.count ≤ l.node-index;
}
