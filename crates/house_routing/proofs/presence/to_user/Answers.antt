use Rattle.std.proofs.Common.{◌≡◌, List, subst}
use Rattle.std.specs.Prelude.{IfOk}
use Rattle.stanza_model.specs.declared.effect.Effect.{Effect}
use Rattle.house_model.specs.Routing.{Scene}
use Rattle.house_world.specs.Worlds.{seen}
use Rattle.house_routing.proofs.RoutingLemmas.{is_directed}
use Rattle.house_routing.proofs.presence.to_user.Goals as goal

pub returns-in-Available : goal.returns-in-Available
returns-in-Available c = λ moment.
    let o : Scene = record { domain = c.args.domain.now; users = c.args.users.now; world = seen c.args.world.now; moment = moment } in
    subst (λ (es : List Effect). IfOk c.directed_at.result (λ effects. effects.items ≡ es))
    (is_directed o c.args.own.now c.args.who.now c.args.stanza.now c.args.to.now c.args.form c.args.element.now c.args.place.now c.in-Available.is)
    (c.directed_at.ensures moment)
