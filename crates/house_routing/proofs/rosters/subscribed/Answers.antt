use Rattle.std.proofs.Common.{rules, ◌≡◌, ℕ, List, [], Bool, true, Option, sym, ap, subst, if◌then◌else◌}
use Rattle.std.specs.Prelude.{IfOk}
use Rattle.std.specs.Option.{option_copied}
use Rattle.stanza_model.specs.declared.effect.Effect.{Effect}
use Rattle.house_model.specs.Lookups.{has_user}
use Rattle.house_model.specs.Routing.{Scene, between, subscribed, unless_full}
use Rattle.house_world.specs.Worlds.{seen}
use Rattle.house_routing.proofs.rosters.subscribed.Goals as goal

pub returns : goal.returns
returns c = λ moment.
    let o : Scene = record { domain = c.args.domain.now; users = c.args.users.now; world = seen c.args.world.now; moment = moment } in
    let own = c.args.own.now in
    let user = c.in-Some.user.now in
    let is : has_user c.args.users.now user ≡ true = search rules in
    subst (λ (u : Option (List ℕ)). IfOk c.unless_full.result (λ effects. effects.items
    ≡ subscribed o own c.args.who.now c.args.stanza.now c.args.form u)) (sym (ap option_copied c.in-Some.is))
    (subst (λ (b : Bool). IfOk c.unless_full.result (λ effects. effects.items
    ≡ (if b then unless_full c.args.who.now c.args.stanza.now (between o own user c.args.form) else []))) (sym is)
    (subst (λ (x : Option (List Effect)). IfOk c.unless_full.result (λ effects. effects.items ≡ unless_full c.args.who.now c.args.stanza.now x))
    (c.in_ok-effects.ensures c.args.users.now moment) c.unless_full.ensures))
