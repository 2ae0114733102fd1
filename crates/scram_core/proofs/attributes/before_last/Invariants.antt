use Rattle.std.proofs.Common.{◌≡◌, ◌≤◌, ◌++◌, take, drop, if◌then◌else◌}
use Rattle.scram_core.specs.Attributes.{has_comma, before_last_comma}
use Rattle.scram_core.proofs.attributes.before_last.Given as goal

abbrev pub invariant-loop-i : goal.invariant-loop-i
invariant-loop-i l = record {
  within : l.at ≤ l.i;
  front : (if has_comma (drop l.i l.text) then take l.i l.text ++ before_last_comma (drop l.i l.text) else take l.at l.text)
      ≡ before_last_comma l.text;
}
