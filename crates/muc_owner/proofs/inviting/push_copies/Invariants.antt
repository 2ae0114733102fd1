use Rattle.std.proofs.Common.{◌≡◌, ◌++◌, drop}
use Rattle.muc_owner.specs.Inviting.{copies}
use Rattle.muc_owner.proofs.inviting.push_copies.Given as goal

abbrev pub invariant-loop-receiver : goal.invariant-loop-receiver
invariant-loop-receiver l =
    l.effects.items ++ copies l.fn.rest (drop l.receiver-index l.receivers) ≡ l.fn.effects.items ++ copies l.fn.rest l.fn.receivers
