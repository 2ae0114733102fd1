use Rattle.std.proofs.Common.{◌≡◌, take, true}
use Rattle.stream_frames.specs.Runs.{are_plain, is_name_byte}
use Rattle.stream_frames.proofs.plain.plain_name.Given as goal

abbrev pub invariant-loop-i : goal.invariant-loop-i
invariant-loop-i l = are_plain is_name_byte (take l.i l.bytes) ≡ true
