use Rattle.std.proofs.Common.{ap, arith}
use Rattle.hall.specs.Openings.{OpeningRecord}
use Rattle.hall.proofs.StoryLaws.{numbers-low, legal-empty}
use Rattle.hall.proofs.hall.Hall.start.Goals as goal

pub returns-clause-passes : goal.returns-clause-passes
returns-clause-passes c k d low =
    let started = c.in_ok-lock.ensures in
    let lines = ap (λ (r : OpeningRecord). r.workers) started.root in
    let number = numbers-low 0 c.args.passes c.in_ok-lock.all.items started.numbers k d low in (
      started.idle k d low,
      omega (arith, lines, number, c.requires.lines),
      legal-empty _ _ (started.fresh k d low).0,
    )
