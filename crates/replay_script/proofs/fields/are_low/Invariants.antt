use Rattle.std.proofs.Common.{◌≡◌, ◌==◌, take}
use Rattle.std.specs.List.{list_all}
use Rattle.replay_script.specs.Characters.{is_low}
use Rattle.replay_script.proofs.fields.are_low.Given as goal

abbrev pub invariant-loop-byte : goal.invariant-loop-byte
invariant-loop-byte l = record { low : (l.others == 0) ≡ list_all (is_low l.from) (take l.byte-index l.bytes) }
