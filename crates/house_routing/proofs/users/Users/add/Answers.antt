use Rattle.std.proofs.Common.{rules, ◌≡◌, List, ℕ, ◌++◌, ◌∷◌, [], true, false, bytes_eq, map, sym, ap, ◌∙◌}
use Rattle.std.specs.List.{list_any}
use Rattle.contact_table.specs.Orders.{with_user}
use Rattle.contact_table.proofs.OrderLemmas.{user_added}
use Rattle.house_routing.proofs.UserLemmas.{joins}
use Rattle.house_routing.proofs.users.Users.add.Goals as goal

pub invariant_of-self-2 : goal.invariant_of-self-2
invariant_of-self-2 c =
    let name = c.in_ok-name.name in
    let us = c.self.inside.parts.items in
    let before : map (λ k. k.items) c.reserve-2.new.self.keys ≡ us = search rules in
    let is : name.items ≡ c.args.part.now = search rules in
    let pushed : c.push_reserved.new.self.items ≡ us ++ c.args.part.now ∷ [] = search rules in
    let new : list_any (bytes_eq c.args.part.now) us ≡ false =
    ap (λ (vs : List (List ℕ)). list_any (bytes_eq c.args.part.now) vs) c.self.view_is ∙ c.requires in
    user_added (λ k. k.items) name c.reserve-2.new.self.keys c.insert.new.self.keys c.in-Ok.ensures.keys
    ∙ ap (with_user name.items true) before ∙ ap (λ (n : List ℕ). with_user n true us) is ∙ joins c.args.part.now us new ∙ sym pushed
