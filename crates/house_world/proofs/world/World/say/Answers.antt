use Rattle.std.proofs.Common.{ap, ◌∙◌, List, ◌++◌, ◌∷◌, []}
use Rattle.house_model.specs.declared.answer.Answer.{Answer}
use Rattle.house_world.proofs.ReadLemmas.{read_there}
use Rattle.house_world.proofs.WorldLemmas.{said_did}
use Rattle.house_world.proofs.world.World.say.Goals as goal

pub returns : goal.returns
returns c =
    let answers = c.args.self.now.answers.items in
    said_did c.args.w c.args.answer c.args.self.now c.say.new.self c.requires.tied c.requires.line
    (c.say.ensures ∙ ap (λ (xs : List Answer). xs ++ c.args.answer ∷ []) (c.index_mut.ensures.value
    ∙ read_there answers c.args.w c.index_mut.result.now [] c.requires.line))
