use Rattle.std.proofs.Common.{◌≡◌, ◌++◌, drop}
use Rattle.house_routing.proofs.users.Users.of.Given as goal

abbrev pub invariant-loop-part : goal.invariant-loop-part
invariant-loop-part l = l.users ++ drop l.part-index l.parts ≡ l.parts
