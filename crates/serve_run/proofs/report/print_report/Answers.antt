use Rattle.serve_run.proofs.Running.{numbers_known, when_cut, when_silent}
use Rattle.serve_run.proofs.report.print_report.Goals as goal

pub returns-in_err-line-clause-numbers : goal.returns-in_err-line-clause-numbers
returns-in_err-line-clause-numbers g c = λ o h known. numbers_known c.args.house.now o h c.report_of.ensures.numbers known

pub returns-clause-numbers : goal.returns-clause-numbers
returns-clause-numbers g c = λ o h known. numbers_known c.args.house.now o h c.report_of.ensures.numbers known

pub returns-clause-cut : goal.returns-clause-cut
returns-clause-cut g c = λ taken before. when_cut c.write_all.result _
    (rw c.in_ok-line.ensures.line at (rw c.as_slice.ensures.value at c.write_all.ensures.front taken before))

pub returns-clause-silent : goal.returns-clause-silent
returns-clause-silent g c = when_silent c.write_all.result _ c.write_all.ensures.told
