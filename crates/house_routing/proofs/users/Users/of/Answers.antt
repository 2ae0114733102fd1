use Rattle.std.proofs.Common.{List, ℕ, ◌++◌, ◌∷◌, suc, drop, drop-cons, sym, ap, ◌∙◌}
use Rattle.jid_core.specs.Names.{are_distinct}
use Rattle.house_routing.proofs.UserLemmas.{not_before}
use Rattle.house_routing.proofs.users.Users.of.Goals as goal

pub add-requires : goal.add-requires
add-requires c =
    let parts = c.args.parts.now in
    let users = c.loop-part.users in
    let i = c.loop-part.part-index in
    let at = drop-cons parts i c.part-item.result c.loop-part-test.true in
    let front = at ∙ ap (λ (u : List ℕ). u ∷ drop (suc i) parts) (sym c.part-item.is) in
    not_before users (drop (suc i) parts) _ (ap are_distinct (ap (λ (more : List (List ℕ)). users ++ more) (sym front) ∙ c.loop-part.invariant) ∙ c.requires)
