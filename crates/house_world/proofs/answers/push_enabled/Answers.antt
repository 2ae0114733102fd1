use Rattle.std.proofs.Common.{◌++◌, Option, sym, ap, ◌∙◌}
use Rattle.std.specs.Option.{option_copied}
use Rattle.sm_resume.specs.declared.id.ResumeId.{ResumeId}
use Rattle.house_model.specs.Answers.{enabled_text}
use Rattle.house_world.proofs.AppendLemmas.{then_more}
use Rattle.house_world.proofs.answers.push_enabled.Goals as goal

pub returns-in-Some-clause-bytes : goal.returns-in-Some-clause-bytes
returns-in-Some-clause-bytes c =
    let out = c.args.out.now.items in
    let id = then_more out _ _ _ _ c.append-in-Some.ensures.bytes c.push_id.ensures.bytes in
    let max = then_more out _ _ _ _ (then_more out _ _ _ _ id c.append-in-Some-2.ensures.bytes) c.push_decimal.ensures.bytes in
    then_more out _ _ _ _ max c.append-in-Some-3.ensures.bytes
    ∙ ap (λ (id : Option ResumeId). out ++ enabled_text id) (sym (ap option_copied c.in-Some.is))
