use Rattle.std.proofs.Common.{◌+◌, ℕ, refl, ap, sym, subst, ◌∙◌, List}
use Rattle.sm_resume.specs.declared.decision.Cause.TheVariants.{Replaced}
use Rattle.stanza_model.specs.declared.effect.Effect as stanza
use Rattle.archive_table.specs.Tables.{archives_of}
use Rattle.house_model.specs.Effects.{Effect}
use Rattle.house_model.specs.Steps.{departs}
use Rattle.house_core.specs.Bindings.{replaced_by, told_by}
use Rattle.house_world.specs.Hosting.{IsCast}
use Rattle.house_world.specs.Worlds.{Did, seen}
use Rattle.house_core.proofs.BoundLemmas.{found_in}
use Rattle.house_world.proofs.CastLemmas.{none_rooms}
use Rattle.house_world.proofs.DidLemmas.{did_none}
use Rattle.house_world.proofs.QuietLemmas.{archived_same}
use Rattle.house_core.proofs.binding.replace.Goals as goal

pub depart-requires-clause-told : goal.depart-requires-clause-told
depart-requires-clause-told c =
    let a = c.args.world.now in
    let at = found_in a c.args.address.now c.requires.tied c.session.ensures.rises ∙ (sym c.at.ensures.number ∙ c.in-Some.is) in
    subst (λ (es : List stanza.Effect). IsCast es a.rooms c.args.told) (ap (told_by (seen a)) at) c.requires.told

pub returns-in-Some-clause-did : goal.returns-in-Some-clause-did
returns-in-Some-clause-did c =
    let a = c.args.world.now in
    let at = found_in a c.args.address.now c.requires.tied c.session.ensures.rises ∙ (sym c.at.ensures.number ∙ c.in-Some.is) in
    subst (λ (es : List Effect). Did es 0 a c.depart.new.self) (sym (ap (replaced_by (seen a)) at))
    (subst (λ (n : ℕ). Did (departs (seen a) c.in-Some.s (Replaced (n + 1))) 0 a c.depart.new.self) c.made-next.ensures c.depart.ensures.did)

pub returns-in_default-clause-did : goal.returns-in_default-clause-did
returns-in_default-clause-did c =
    let a = c.args.world.now in
    let at = found_in a c.args.address.now c.requires.tied c.session.ensures.rises ∙ (sym c.at.ensures.number ∙ c.in_default.is) in
    subst (λ (es : List Effect). Did es 0 a a) (sym (ap (replaced_by (seen a)) at)) (did_none a c.requires.tied)

pub returns-in_default-clause-rooms : goal.returns-in_default-clause-rooms
returns-in_default-clause-rooms c =
    let a = c.args.world.now in
    let at = found_in a c.args.address.now c.requires.tied c.session.ensures.rises ∙ (sym c.at.ensures.number ∙ c.in_default.is) in
    none_rooms a.rooms c.args.told (subst (λ (es : List stanza.Effect). IsCast es a.rooms c.args.told) (ap (told_by (seen a)) at) c.requires.told)

pub returns-in_default-clause-archives : goal.returns-in_default-clause-archives
returns-in_default-clause-archives c = archived_same (archives_of c.args.world.now.archives) (archives_of c.args.world.now.archives) refl
