use Rattle.std.proofs.Common.{◌≡◌, ◌≤◌, ℕ, drop, map}
use Rattle.outside.specs.Posts.{added}
use Rattle.outside.specs.declared.poller.Sources.{Sources}
use Rattle.outside_net.proofs.net_ports.add_dice_faults.Given as goal

abbrev pub invariant-loop-place : goal.invariant-loop-place
invariant-loop-place g l = record {
  sum : added l.count (map (λ (s : Sources ℕ ℕ). s.dice) (drop l.place-index l.sources)) ≡ added l.fn.count (map (λ (s : Sources ℕ ℕ). s.dice) l.sources);
  kept : l.fn.count ≤ l.count;
}
