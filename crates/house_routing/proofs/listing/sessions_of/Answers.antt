use Rattle.std.proofs.Common.{Some, ◌∙◌}
use Rattle.session_table.specs.Tables.{of_user}
use Rattle.house_routing.proofs.ListedLemmas.{is_any, listed, listed_end, users_sessions}
use Rattle.house_routing.proofs.listing.sessions_of.Goals as goal

pub returns : goal.returns
returns c =
    let a = c.args.world.now in
    let user = c.args.user.now in
    listed_end c.loop-number.found.items is_any c.loop-number.number-iterator (listed is_any (of_user (Some user) a.table.sessions))
    c.in-None.ensures.steps.0 c.loop-number.invariant.done
    ∙ users_sessions a user c.requires c.session.ensures.rises
