use Rattle.std.proofs.Common.{◌≡◌, ◌*◌, take}
use Rattle.sm_resume.specs.Spelling.{AreDigits, hexadecimal}
use Rattle.sm_resume.proofs.id.read_digits.Given as goal

-- The bytes before the index are those that the text's first digits spell.
abbrev pub invariant-loop-i : goal.invariant-loop-i
invariant-loop-i l = record {
  bytes : AreDigits l.digits;
  spelt : hexadecimal (take l.i l.digits) ≡ take (2 * l.i) l.text;
}
