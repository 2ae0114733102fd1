use Rattle.std.proofs.Common.{◌≡◌, ◌++◌, take, drop}
use Rattle.scram_core.specs.Attributes.{before_comma, after_comma}
use Rattle.scram_core.proofs.attributes.cut_at_comma.Given as goal

abbrev pub invariant-loop-i : goal.invariant-loop-i
invariant-loop-i l = record {
  front : take l.i l.text ++ before_comma (drop l.i l.text) ≡ before_comma l.text;
  rest : after_comma (drop l.i l.text) ≡ after_comma l.text;
}
