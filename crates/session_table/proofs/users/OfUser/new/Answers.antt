use Rattle.std.proofs.Common.{nat_eq, ap, ◌∙◌}
use Rattle.std.specs.Option.{option_copied}
use Rattle.std.specs.Map.{lookup}
use Rattle.session_table.proofs.UserLemmas.{user_begins}
use Rattle.session_table.proofs.users.OfUser.new.Goals as goal

pub invariant_of-result : goal.invariant_of-result
invariant_of-result c =
    let had = c.requires in
    let heads = c.args.heads.now.firsts.entries in
    (user_begins c.args.heads.now.key (option_copied c.args.local) had.0 c.args.slots.now.entries heads c.copied-next.result had.1
    (c.copied-next.ensures ∙ (c.get.ensures.value ∙ ap (λ h. lookup (nat_eq h) heads) c.hash_of.ensures))).0

pub returns : goal.returns
returns c =
    let had = c.requires in
    let heads = c.args.heads.now.firsts.entries in
    (user_begins c.args.heads.now.key (option_copied c.args.local) had.0 c.args.slots.now.entries heads c.copied-next.result had.1
    (c.copied-next.ensures ∙ (c.get.ensures.value ∙ ap (λ h. lookup (nat_eq h) heads) c.hash_of.ensures))).1
