use Rattle.std.proofs.Common.{◌≡◌, ◌++◌, drop}
use Rattle.stanza_model.specs.Forms.{values_of}
use Rattle.stanza_model.proofs.form.read_values.Given as goal

abbrev pub invariant-loop-node : goal.invariant-loop-node
invariant-loop-node l = l.values.items ++ values_of (drop l.node-index l.node-items) ≡ values_of l.field.children
