use Rattle.std.proofs.Common.{◌≡◌, ◌++◌, drop}
use Rattle.stanza_model.specs.Forms.{fields_of}
use Rattle.stanza_model.proofs.form.read_fields.Given as goal

abbrev pub invariant-loop-node : goal.invariant-loop-node
invariant-loop-node l = l.fields.items ++ fields_of (drop l.node-index l.node-items) ≡ fields_of l.x.children
