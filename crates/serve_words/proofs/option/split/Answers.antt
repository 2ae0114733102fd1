use Rattle.std.proofs.Common.{Some, None, arith, ap, sym, ◌∙◌}
use Rattle.std.proofs.lemmas.Str.Pattern.{split_parts}
use Rattle.jid_core.specs.Cuts.{after, before}
use Rattle.serve_words.proofs.CutLemmas.{after-at, after-without, before-at, before-without}
use Rattle.serve_words.proofs.option.split.Goals as goal

pub returns-in-Some-clause-before : goal.returns-in-Some-clause-before
returns-in-Some-clause-before c =
    let parts = split_parts 61 c.args.word.now (Some (c.in-Some.text, c.in-Some.value)) c.in-Some.ensures.cases (omega arith) in
    sym (ap (before 61) parts.0 ∙ before-at 61 c.in-Some.text.now c.in-Some.value.now parts.1)

pub returns-in-Some-clause-after : goal.returns-in-Some-clause-after
returns-in-Some-clause-after c =
    let parts = split_parts 61 c.args.word.now (Some (c.in-Some.text, c.in-Some.value)) c.in-Some.ensures.cases (omega arith) in
    sym (ap (after 61) parts.0 ∙ after-at 61 c.in-Some.text.now c.in-Some.value.now parts.1)

pub returns-in-None-clause-before : goal.returns-in-None-clause-before
returns-in-None-clause-before c = sym (before-without 61 c.args.word.now (split_parts 61 c.args.word.now None c.in-None.ensures.cases (omega arith)))

pub returns-in-None-clause-after : goal.returns-in-None-clause-after
returns-in-None-clause-after c = sym (after-without 61 c.args.word.now (split_parts 61 c.args.word.now None c.in-None.ensures.cases (omega arith)))
