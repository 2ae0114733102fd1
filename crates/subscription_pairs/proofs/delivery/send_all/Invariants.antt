use Rattle.std.proofs.Common.{◌≡◌, ◌++◌, drop}
use Rattle.subscription_pairs.specs.Deliveries.{all_sent_to}
use Rattle.subscription_pairs.proofs.delivery.send_all.Given as goal

abbrev pub invariant-loop-presence : goal.invariant-loop-presence
invariant-loop-presence l =
    l.effects.items ++ all_sent_to l.sessions (drop l.presence-index l.presences) ≡ l.initial.effects.items ++ all_sent_to l.sessions l.presences
