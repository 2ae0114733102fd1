use Rattle.std.proofs.Common.{◌++◌, ap, ◌∙◌}
use Rattle.session_table.specs.Tables.{of_user}
use Rattle.house_routing.specs.Listings.{is_named_by, numbers_by}
use Rattle.house_routing.proofs.NamedLemmas.{numbers_end, user_numbers}
use Rattle.house_routing.proofs.listing.push_named.Goals as goal

pub returns : goal.returns
returns c =
    let sessions = c.args.world.now.table.sessions in
    let a = c.args.address.now in
    let before = c.args.numbers.now.items in
    numbers_end c.loop-number.numbers.items (is_named_by a) c.loop-number.number-iterator
    (before ++ numbers_by (is_named_by a) (of_user a.local sessions))
    c.in-None.ensures.steps.0 c.loop-number.invariant.done
    ∙ ap (λ ns. before ++ ns) (user_numbers a sessions)
