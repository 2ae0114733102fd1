use Rattle.std.proofs.Common.{◌≡◌, List, subst, ◌∙◌}
use Rattle.std.specs.Prelude.{IfOk}
use Rattle.stanza_model.specs.declared.here.Here.{Here}
use Rattle.house_model.specs.Routing.{Scene, directed_to}
use Rattle.house_world.specs.Worlds.{seen}
use Rattle.house_routing.proofs.presence.directed_at.Goals as goal

pub returns : goal.returns
returns c = λ moment.
    let o : Scene = record { domain = c.args.domain.now; users = c.args.users.now; world = seen c.args.world.now; moment = moment } in
    subst (λ (hs : List Here). IfOk c.directed_to.result (λ effects. effects.items
    ≡ directed_to o c.args.own.now c.args.who.now c.args.stanza.now c.args.place.now hs)) (c.as_slice.ensures.value ∙ c.in_ok-receivers.ensures)
    (c.directed_to.ensures moment)
