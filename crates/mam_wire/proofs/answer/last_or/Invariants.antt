use Rattle.std.proofs.Common.{◌≡◌, drop}
use Rattle.mam_wire.specs.Answers.{last_or}
use Rattle.mam_wire.proofs.answer.last_or.Given as goal

abbrev pub invariant-loop-id : goal.invariant-loop-id
invariant-loop-id l = last_or l.last (drop l.id-index l.more) ≡ last_or l.fn.id l.more
