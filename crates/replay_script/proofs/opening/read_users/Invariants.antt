use Rattle.std.proofs.Common.{◌≡◌, ◌++◌, ◌==◌, length, true}
use Rattle.std.specs.List.{slice_split, list_all}
use Rattle.jid_core.specs.Names.{are_distinct}
use Rattle.jid_core.specs.Preparation.{is_local}
use Rattle.replay_script.specs.Lines.{is_user}
use Rattle.replay_script.proofs.opening.read_users.Given as goal

abbrev pub invariant-loop-count : goal.invariant-loop-count
invariant-loop-count l = record {
  parts : l.users.items ++ slice_split (λ b. b == 44) l.rest ≡ slice_split (λ b. b == 44) l.fn.field;
  users : list_all is_user l.users.items ≡ true;
  differ : are_distinct l.users.items ≡ true;
  prepared : list_all is_local l.users.items ≡ true;
  count : length l.users.items ≡ l._count;
}
