use Rattle.std.proofs.Common.{◌≡◌, ◌+◌, ◌≤◌, drop, length}
use Rattle.muc_owner.specs.Invitations.{calls_of}
use Rattle.muc_owner.proofs.invitation.call_count.Given as goal

abbrev pub invariant-loop-node : goal.invariant-loop-node
invariant-loop-node l = record {
  counted : l.count + length (calls_of (drop l.node-index l.nodes)) ≡ length (calls_of l.nodes);
  few : l.count ≤ l.node-index;
}
