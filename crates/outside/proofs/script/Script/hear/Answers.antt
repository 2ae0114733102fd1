use Rattle.std.proofs.Common.{rules, arith, drop, subst, ◌+◌, ◌++◌}
use Rattle.std.proofs.lemmas.Grind.{common_steps}
use Rattle.outside.specs.Links.{Gives}
use Rattle.outside.proofs.ScriptLemmas.{gives_part}
use Rattle.outside.specs.Scripts.{rest_from}
use Rattle.outside.specs.declared.link.Heard.TheVariants as heard
use Rattle.outside.proofs.script.Script.hear.Goals as goal

pub returns-then-count-all-clause-gives : goal.returns-then-count-all-clause-gives
returns-then-count-all-clause-gives c =
    let count = c.min-count.result in
    subst (λ x. Gives x (rest_from (c.self.inside.from + count) c.self.inside.readings.items) (heard.Bytes count)
    (c.copy_from_slice.new.self ++ drop count c.args.into.now)) c.self.view_is
    (gives_part c.self.inside.readings.items c.in-Some.reading.now c.self.inside.from count _ (search (rules, c.in-Some.ensures))
    (search (rules, c.in-Some.ensures)) (search (rules, c.slice.ensures))
    (grind (arith, common_steps)))
