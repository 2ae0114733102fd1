use Rattle.std.proofs.Common.{◌≡◌, List, ◌∷◌, ◌++◌, [], ap, sym, ◌∙◌}
use Rattle.std.specs.declared.option.Option.{Option}
use Rattle.stream_frames.specs.declared.names.OpenName.{OpenName}
use Rattle.stream_grammar.specs.grammar.Trees.{RawName}
use Rattle.stream_frames.specs.Stacks.{raw, stacked, stacked_on}
use Rattle.stream_frames.proofs.StackLemmas.{pushed-some}
use Rattle.stream_frames.proofs.names.Names.push.Goals as goal

pub returns-in-Ok-clause-ok : goal.returns-in-Ok-clause-ok
returns-in-Ok-clause-ok c =
    let ns : List OpenName = c.self.inside.others.items in
    let after : List OpenName = c.push.new.self.items in
    let longer : after ≡ ns ++ c.in-Some.before ∷ [] = c.in-Ok.ensures.items in
    ap (λ (n : OpenName). raw n ∷ stacked_on [] after) c.replace-in-Ok.ensures.value
    ∙ (pushed-some c.in-Some.before c.args.name.now ns after longer
    ∙ ap (λ (st : List RawName). raw c.args.name.now ∷ st) (ap (λ (o : Option OpenName). stacked o ns) (sym c.in-Some.is ∙ c.take.ensures.value)
    ∙ c.self.view_is))
