use Rattle.std.proofs.Common.{true, ap, map, ◌∙◌}
use Rattle.jid_core.specs.Names.{are_distinct}
use Rattle.contact_table.specs.Orders.{with_user}
use Rattle.contact_table.proofs.OrderLemmas.{distinct_with, user_added}
use Rattle.contact_table.proofs.order.Order.add.Goals as goal

pub invariant_of-self : goal.invariant_of-self
invariant_of-self c =
    let name = c.args.name in
    let keys = c.self.inside.users.keys in
    ap are_distinct (user_added (λ k. k.items) name keys c.insert.new.self.keys c.in-Ok.ensures.keys)
    ∙ distinct_with name.items true (map (λ k. k.items) keys) c.self.invariant

pub returns-clause-users : goal.returns-clause-users
returns-clause-users c =
    user_added (λ k. k.items) c.args.name c.self.inside.users.keys c.insert.new.self.keys c.in-Ok.ensures.keys
    ∙ ap (λ o. with_user c.args.name.items true o.users) c.self.view_is
