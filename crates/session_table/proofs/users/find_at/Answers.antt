use Rattle.std.proofs.Common.{List, Option, ℕ, ap, ◌∙◌}
use Rattle.session_table.specs.Indexes.{present}
use Rattle.session_table.specs.Tables.{number_at, of_user}
use Rattle.session_table.proofs.UserLemmas.{at_of_user}
use Rattle.session_table.proofs.users.find_at.Goals as goal

pub loop-number-init : goal.loop-number-init
loop-number-init c =
    let sessions = present c.args.slots.now.entries in
    let a = c.args.address.now in
    record {
      can_next = tt;
      is_finite = tt;
      rest = ap (number_at a) (c.into_iter-number-iterator.ensures.into_iter_gives ∙ (c.new-number-items.ensures
          ∙ ap (λ (l : Option (List ℕ)). of_user l sessions) c.local_of.ensures)) ∙ at_of_user a sessions;
    }
