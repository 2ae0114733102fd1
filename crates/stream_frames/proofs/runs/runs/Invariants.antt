use Rattle.std.proofs.Common.{◌≡◌, ◌≤◌, ◌-◌, take, length}
use Rattle.stream_frames.specs.Builds.{building}
use Rattle.stream_frames.specs.Markup.{LeadsBy}
use Rattle.stream_frames.proofs.runs.runs.Given as goal

abbrev pub invariant-loop-at : goal.invariant-loop-at
invariant-loop-at l = record {
  within : l.at ≤ length l.bytes;
  rules : l.tracker.rules ≡ l.fn.tracker.rules;
  led : LeadsBy l.fn.tracker.rules l.fn.tracker.frame (building l.fn.builder) (take l.at l.bytes) l.tracker.frame (building l.builder);
}

abbrev pub decreases-loop-at : goal.decreases-loop-at
decreases-loop-at l = length l.bytes - l.at
