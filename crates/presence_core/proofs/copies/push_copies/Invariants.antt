use Rattle.std.proofs.Common.{◌≡◌, ◌++◌, drop}
use Rattle.presence_core.specs.Copies.{copies}
use Rattle.presence_core.proofs.copies.push_copies.Given as goal

abbrev pub invariant-loop-receiver : goal.invariant-loop-receiver
invariant-loop-receiver l =
    l.effects.items ++ copies l.fn.rest (drop l.receiver-index l.receivers) ≡ l.fn.effects.items ++ copies l.fn.rest l.fn.receivers
