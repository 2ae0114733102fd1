use Rattle.std.proofs.Common.{ℕ, List, bytes_eq, ap, ◌∙◌}
use Rattle.std.specs.List.{list_any}
use Rattle.contact_table.proofs.OrderLemmas.{has_among}
use Rattle.contact_table.proofs.order.Order.has.Goals as goal

pub returns : goal.returns
returns c =
    c.contains.ensures
    ∙ ap (λ (user : List ℕ). list_any (λ k. bytes_eq user k.items) c.self.inside.users.keys) c.bytes.ensures.bytes
    ∙ has_among (λ k. k.items) c.args.user.now c.self.inside.users.keys
    ∙ ap (λ o. list_any (λ x. bytes_eq x c.args.user.now) o.users) c.self.view_is
