use Rattle.std.proofs.Common.{◌≡◌, ◌≤◌, length, true}
use Rattle.std.specs.List.{list_all}
use Rattle.commands.specs.Accounts.{is_printable}
use Rattle.script_play.specs.Readings.{Begins}
use Rattle.commands.proofs.account.read_password.Given as goal

abbrev pub invariant-loop-count : goal.invariant-loop-count
invariant-loop-count g l = record {
  falls : g.S.Source.faults l.fn.source ≤ g.S.Source.faults l.source;
  count : length l.password.items ≡ l._count;
  few : length l.password.items ≤ 256;
  printable : list_all is_printable l.password.items ≡ true;
  begins : Begins (g.S.Source.left l.fn.source) (g.S.Source.left l.source) l.password.items;
}
