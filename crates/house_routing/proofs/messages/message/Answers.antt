use Rattle.std.proofs.Common.{◌≡◌, ℕ, List, Option, subst}
use Rattle.std.specs.Prelude.{IfOk}
use Rattle.stanza_model.specs.declared.effect.Effect.{Effect}
use Rattle.house_model.specs.Routing.{Scene, to_users}
use Rattle.house_world.specs.Worlds.{seen}
use Rattle.house_routing.proofs.RoutingLemmas.{not_to_a_room}
use Rattle.house_routing.proofs.messages.message.Goals as goal

pub returns-in_default : goal.returns-in_default
returns-in_default c =
    let o : Scene =
    record { domain = c.args.domain.now; users = c.args.users.now; world = seen c.args.world.now; moment = c.args.moment } in
    subst (λ (es : List Effect). IfOk c.to_users.result (λ effects. effects.items ≡ es))
    (not_to_a_room o c.args.own.now c.args.who.now c.args.stanza.now c.args.form c.args.element.now c.args.place.now c.in_default.not-Room
    c.in_default.not-RoomAt)
    (subst (λ (user : Option (List ℕ)). IfOk c.to_users.result (λ effects. effects.items
    ≡ to_users o c.args.who.now c.args.stanza.now c.args.form c.args.place.now user)) c.user_in.ensures
    (c.to_users.ensures c.args.domain.now))
