use Rattle.std.proofs.Common.{◌≡◌, ◌++◌, drop}
use Rattle.subscription_pairs.specs.Deliveries.{unavailable_of}
use Rattle.subscription_pairs.proofs.delivery.unavailable_of.Given as goal

abbrev pub invariant-loop-h : goal.invariant-loop-h
invariant-loop-h l = l.texts.items ++ unavailable_of (drop l.h-index l.sessions) ≡ unavailable_of l.sessions
