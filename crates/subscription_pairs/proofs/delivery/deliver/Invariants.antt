use Rattle.std.proofs.Common.{◌≡◌, ◌++◌, drop}
use Rattle.stanza_tree.specs.Spelling.{text}
use Rattle.subscription_pairs.specs.Deliveries.{delivered, presence_from}
use Rattle.subscription_pairs.proofs.delivery.deliver.Given as goal

abbrev pub invariant-loop-h : goal.invariant-loop-h
invariant-loop-h l = record {
  same : l.presence ≡ text (presence_from l.address l.form);
  made : l.effects.items ++ delivered l.form l.address (drop l.h-index l.sessions) ≡ l.initial.effects.items ++ delivered l.form l.address l.sessions;
}
