use Rattle.std.proofs.Common.{◌≡◌, ◌++◌, drop}
use Rattle.presence_core.proofs.direct.with_address.Given as goal

abbrev pub invariant-loop-address : goal.invariant-loop-address
invariant-loop-address l = l.addresses.items ++ drop l.address-index l.list ≡ l.fn.list
