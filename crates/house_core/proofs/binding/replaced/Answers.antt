use Rattle.std.proofs.Common.{IfOk, List, None, refl, ap, sym, subst, ◌∙◌}
use Rattle.stanza_model.specs.declared.effect.Effect.{Effect}
use Rattle.house_core.specs.Bindings.{told_by}
use Rattle.house_world.specs.Hosting.{IsCast}
use Rattle.house_world.specs.Worlds.{seen}
use Rattle.house_world.proofs.CastLemmas.{hosts_same, none_cast}
use Rattle.house_core.proofs.BoundLemmas.{found_in}
use Rattle.house_core.proofs.binding.replaced.Goals as goal

pub returns-in-Some-clause-told : goal.returns-in-Some-clause-told
returns-in-Some-clause-told c =
    let a = c.args.world.now in
    let at = found_in a c.args.address.now c.requires.tied c.session.ensures.rises ∙ (sym c.at.ensures.number ∙ c.in-Some.is) in
    subst (λ (es : List Effect). IfOk c.departure.result (λ told. IsCast es a.rooms told)) (sym (ap (told_by (seen a)) at)) c.departure.ensures.effects

pub returns-in-None-clause-told : goal.returns-in-None-clause-told
returns-in-None-clause-told c =
    let a = c.args.world.now in
    let at = found_in a c.args.address.now c.requires.tied c.session.ensures.rises ∙ (sym c.at.ensures.number ∙ c.in-None.is) in
    subst (λ (es : List Effect). IsCast es a.rooms (record { effects = c.new.result; rooms = None })) (sym (ap (told_by (seen a)) at))
    (none_cast a.rooms c.new.result c.new.ensures.items)

pub returns-in-None-clause-hosts : goal.returns-in-None-clause-hosts
returns-in-None-clause-hosts c = hosts_same c.args.world.now.rooms c.args.world.now.rooms refl
