use Rattle.std.proofs.Common.{◌≡◌, ◌≤◌, drop}
use Rattle.outside.specs.Posts.{added, dice_faults_of}
use Rattle.outside.proofs.mem_ports.add_dice_faults.Given as goal

abbrev pub invariant-loop-place : goal.invariant-loop-place
invariant-loop-place l = record {
  sum : added l.count (dice_faults_of (drop l.place-index l.sources)) ≡ added l.fn.count (dice_faults_of l.sources);
  kept : l.fn.count ≤ l.count;
}
