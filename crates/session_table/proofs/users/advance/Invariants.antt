use Rattle.std.proofs.Common.{◌≡◌, length}
use Rattle.std.specs.Option.{option_copied}
use Rattle.session_table.specs.Indexes.{IsOnWay, from, present}
use Rattle.session_table.specs.Tables.{of_user}
use Rattle.session_table.proofs.users.advance.Given as goal

abbrev pub invariant-loop-next : goal.invariant-loop-next
invariant-loop-next l = record {
  way : IsOnWay (option_copied l.local) l.slots.entries l.next;
  same : of_user (option_copied l.local) (present (from l.next l.slots.entries))
      ≡ of_user (option_copied l.local) (present (from l.fn.next l.slots.entries));
}

abbrev pub decreases-loop-next : goal.decreases-loop-next
decreases-loop-next l = length (from l.next l.slots.entries)
