use Rattle.std.proofs.Common.{rules, ◌≤◌, ◌∷◌, [], Bool, Option, length, sym, subst, ◌∙◌}
use Rattle.sm_resume.specs.declared.id.ResumeId.{ResumeId}
use Rattle.house_model.specs.Answers.{enabled_text}
use Rattle.house_model.specs.Effects.{At, On, Say}
use Rattle.house_model.specs.Sessions.{Enable}
use Rattle.house_model.specs.Steps.{enables, id_if}
use Rattle.house_model.specs.declared.answer.Answer.TheVariants.{Enabled}
use Rattle.house_world.specs.Worlds.{Did}
use Rattle.house_core.proofs.AnswerLemmas.{enabled_fits}
use Rattle.house_world.proofs.DidLemmas.{did_then}
use Rattle.house_core.proofs.counting.start.Goals as goal

pub say-requires-else-counts-clause-short : goal.say-requires-else-counts-clause-short
say-requires-else-counts-clause-short c =
    subst (λ (id : Option ResumeId). length (enabled_text id) ≤ 524288) (sym c.id_if-id.ensures)
    (enabled_fits c.args.resume c.args.s c.args.dice c.ranges.s.fits (search rules))

pub returns-else-counts : goal.returns-else-counts
returns-else-counts c =
    let a = c.args.world.now in
    let d = c.say-else-counts.new.self in
    subst (λ (b : Bool). Did (enables b c.args.w c.args.s (id_if c.args.resume c.args.s c.args.dice)).effects 0 a d) (sym c.if-counts.false ∙ c.counts.ensures)
    (subst (λ (id : Option ResumeId). Did (On c.args.s (Enable id) ∷ At c.args.w (Say (Enabled id)) ∷ []) 0 a d) c.id_if-id.ensures
    (did_then (On c.args.s (Enable c.id_if-id.result) ∷ []) (At c.args.w (Say (Enabled c.id_if-id.result)) ∷ []) 0 0 a c.enable.new.self d
    c.enable.ensures.did c.say-else-counts.ensures))
