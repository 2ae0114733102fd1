use Rattle.std.proofs.Common.{ℕ, List, bytes_eq, ap, ◌∙◌}
use Rattle.std.specs.List.{position}
use Rattle.jid_core.proofs.NameLemmas.{bytes_flip}
use Rattle.contact_table.proofs.OrderLemmas.{place_among}
use Rattle.house_routing.proofs.users.Users.place_of.Goals as goal

pub returns : goal.returns
returns c =
    let user = c.args.user.now in
    c.get_index_of.ensures.index
    ∙ ap (λ (name : List ℕ). position (λ k. bytes_eq name k.items) c.self.inside.names.keys) c.bytes.ensures.bytes
    ∙ place_among (λ k. k.items) (bytes_eq user) c.self.inside.names.keys
    ∙ ap (λ us. position (bytes_eq user) us) c.self.invariant
    ∙ (λ i. position (λ u. bytes_flip user u i) c.self.inside.parts.items)
    ∙ ap (λ us. position (λ u. bytes_eq u user) us) c.self.view_is
