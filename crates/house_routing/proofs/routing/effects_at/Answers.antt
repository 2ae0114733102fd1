use Rattle.std.proofs.Common.{◌≡◌, Option, sym, subst}
use Rattle.std.specs.Prelude.{IfOk}
use Rattle.jid_core.specs.Addresses.{Address}
use Rattle.stanza_model.specs.declared.stanza.Stanza.{Stanza}
use Rattle.house_model.specs.Routing.{Scene, effects_at, presence}
use Rattle.house_world.specs.Worlds.{seen}
use Rattle.house_routing.proofs.routing.effects_at.Goals as goal

pub returns-in-Presence : goal.returns-in-Presence
returns-in-Presence c =
    let o : Scene = record { domain = c.args.domain.now; users = c.args.users.now; world = seen c.args.world.now; moment = c.args.moment } in
    let own = c.args.own.now in
    let who = c.args.who.now in
    let place = c.args.place.now in
    subst (λ (st : Stanza). IfOk c.presence.result (λ effects. effects.items ≡ effects_at o own who st place)) (sym c.in-Presence.is)
    (subst (λ (st : Stanza). IfOk c.presence.result (λ effects. effects.items
    ≡ presence o own who st c.in-Presence.to c.in-Presence.form c.in-Presence.element place)) c.in-Presence.is
    (subst (λ (to : Option Address). IfOk c.presence.result (λ effects. effects.items
    ≡ presence o own who c.args.stanza.now to c.in-Presence.form c.in-Presence.element place)) c.as_ref.ensures.value
    (c.presence.ensures c.args.moment)))
