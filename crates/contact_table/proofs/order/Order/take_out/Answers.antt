use Rattle.std.proofs.Common.{ℕ, List, false, bytes_eq, map, ap, ◌∙◌}
use Rattle.std.specs.Set.{remove_key}
use Rattle.jid_core.specs.Names.{are_distinct}
use Rattle.contact_table.specs.Orders.{with_user}
use Rattle.contact_table.proofs.OrderLemmas.{distinct_with, user_removed}
use Rattle.contact_table.proofs.order.Order.take_out.Goals as goal

pub invariant_of-self : goal.invariant_of-self
invariant_of-self c =
    let user = c.args.user.now in
    let keys = c.self.inside.users.keys in
    let made = c.shift_remove.ensures.keys
    ∙ ap (λ (user : List ℕ). remove_key (λ k. bytes_eq user k.items) keys) c.bytes.ensures.bytes in
    ap are_distinct (user_removed (λ k. k.items) user keys c.shift_remove.new.self.keys c.self.invariant made)
    ∙ distinct_with user false (map (λ k. k.items) keys) c.self.invariant

pub returns-clause-users : goal.returns-clause-users
returns-clause-users c =
    let user = c.args.user.now in
    let keys = c.self.inside.users.keys in
    let made = c.shift_remove.ensures.keys
    ∙ ap (λ (user : List ℕ). remove_key (λ k. bytes_eq user k.items) keys) c.bytes.ensures.bytes in
    user_removed (λ k. k.items) user keys c.shift_remove.new.self.keys c.self.invariant made
    ∙ ap (λ o. with_user user false o.users) c.self.view_is
