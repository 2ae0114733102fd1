use Rattle.std.proofs.Common.{List, [], subst, ◌∙◌}
use Rattle.std.specs.Vec.{with_item}
use Rattle.house_model.specs.declared.answer.Answer.{Answer}
use Rattle.house_core.specs.Pulls.{GaveAt}
use Rattle.house_core.proofs.PullLemmas.{gave_at}
use Rattle.house_world.proofs.ReadLemmas.{read_there}
use Rattle.house_core.proofs.pulling.give_answer.Goals as goal

pub returns-clause-given : goal.returns-clause-given
returns-clause-given c =
    let a = c.args.world.now in
    let xs = c.index_mut.result.now in
    let at = c.index_mut.ensures.value ∙ read_there a.answers.items c.args.w xs [] c.requires.line in
    subst (λ (ys : List Answer). GaveAt c.args.w ys a (record a { answers = with_item a.answers c.args.w c.give.new.self }) c.give.result c.args.out.now.items
    c.give.new.out.items) at
    (gave_at c.args.w a xs c.give.new.self c.give.result c.args.out.now.items c.give.new.out.items c.requires.tied c.requires.line at c.give.ensures.given)
