use Rattle.std.proofs.Common.{◌≡◌, ◌++◌, drop}
use Rattle.subscription_pairs.specs.Deliveries.{sent_to}
use Rattle.subscription_pairs.proofs.delivery.send.Given as goal

abbrev pub invariant-loop-h : goal.invariant-loop-h
invariant-loop-h l = l.effects.items ++ sent_to (drop l.h-index l.sessions) l.presence ≡ l.initial.effects.items ++ sent_to l.sessions l.presence
