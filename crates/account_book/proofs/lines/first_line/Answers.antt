use Rattle.std.proofs.Common.{rules, ap, arith, length}
use Rattle.account_book.proofs.ListLemmas.{ends-within, first-split, first-open}
use Rattle.account_book.proofs.lines.first_line.Goals as goal

pub split_at-requires : goal.split_at-requires
split_at-requires c =
    let l = ends-within c.args.bytes.now (search rules) in
    let text = ap length c.cut_at.ensures.before in
    omega (arith, l, text)

pub returns-in-Some-clause-lines : goal.returns-in-Some-clause-lines
returns-in-Some-clause-lines c =
    first-split c.args.bytes.now c.cut_at.result.0.now c.split_at.result.0.now c.split_at.result.1.now (search rules) c.cut_at.ensures.before
    c.split_at.ensures.front
    c.split_at.ensures.back

pub returns-in-None-clause-lines : goal.returns-in-None-clause-lines
returns-in-None-clause-lines c = first-open c.args.bytes.now (search rules) (search rules)
