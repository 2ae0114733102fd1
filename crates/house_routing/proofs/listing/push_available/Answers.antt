use Rattle.std.proofs.Common.{Some, ◌++◌, ap, ◌∙◌}
use Rattle.session_table.specs.Tables.{of_user}
use Rattle.house_routing.proofs.ListedLemmas.{is_shown, listed, listed_end, users_available}
use Rattle.house_routing.proofs.listing.push_available.Goals as goal

pub returns : goal.returns
returns c =
    let a = c.args.world.now in
    let name = c.args.name.now in
    let before = c.args.found.now.items in
    listed_end c.loop-number.found.items is_shown c.loop-number.number-iterator (before ++ listed is_shown (of_user (Some name) a.table.sessions))
    c.in-None.ensures.steps.0 c.loop-number.invariant.done
    ∙ ap (λ hs. before ++ hs) (users_available a name c.requires c.session.ensures.rises)
