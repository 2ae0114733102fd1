use Rattle.std.proofs.Common.{◌≡◌, ◌++◌, drop}
use Rattle.presence_core.specs.DirectedPresence.{without_address}
use Rattle.presence_core.proofs.direct.without_address.Given as goal

abbrev pub invariant-loop-address : goal.invariant-loop-address
invariant-loop-address l = l.addresses.items ++ without_address l.fn.to (drop l.address-index l.list) ≡ without_address l.fn.to l.fn.list
