use Rattle.std.proofs.Common.{◌≡◌, ◌++◌, drop}
use Rattle.presence_core.specs.Broadcasts.{others}
use Rattle.presence_core.specs.Copies.{copies}
use Rattle.presence_core.proofs.broadcast.push_others.Given as goal

abbrev pub invariant-loop-receiver : goal.invariant-loop-receiver
invariant-loop-receiver l =
    l.effects.items ++ copies l.fn.rest (others l.fn.departing l.fn.got (drop l.receiver-index l.receivers))
    ≡ l.fn.effects.items ++ copies l.fn.rest (others l.fn.departing l.fn.got l.fn.receivers)
