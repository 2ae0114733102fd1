use Rattle.serve_run.specs.Services.{tally}
use Rattle.serve_run.proofs.Running.{by_printing, listen-memory, listen-read, memory-accounts, memory-done, memory-listen, memory-read, memory-script, memory-usage}
use Rattle.serve_run.proofs.Running.{printed, printed_front, printed_nothing, run_failed, run_served, short_line, write-accounts, write-done}
use Rattle.serve_run.proofs.Running.{write-listen, write-memory, write-read, write-script, write-usage}
use Rattle.serve_run.proofs.serving.run.Goals as goal

pub returns-in-Shut-clause-served : goal.returns-in-Shut-clause-served
returns-in-Shut-clause-served g c =
    let asked = c.args.serving.now in
    let ran = rw c.as_slice.ensures.value at c.in_ok-house.ensures.served in
    printed c.print_report.result _ _ asked c.in_ok-list.list.items
    (tally (g.P.Ports.tapes c.args.ports.now) (g.P.Ports.links c.args.ports.now) (g.P.Ports.dice_faults c.args.ports.now)
    (g.P.Ports.address c.args.ports.now) (g.P.Ports.drawn c.args.ports.now))
    (tally (g.P.Ports.tapes c.serve_ports.new.ports) (g.P.Ports.links c.serve_ports.new.ports) (g.P.Ports.dice_faults c.serve_ports.new.ports)
    (g.P.Ports.address c.serve_ports.new.ports) (g.P.Ports.drawn c.serve_ports.new.ports)) _ _ _ c.in_ok-list.ensures.read
    (run_served asked c.in_ok-list.list.items
    (tally (g.P.Ports.tapes c.args.ports.now) (g.P.Ports.links c.args.ports.now) (g.P.Ports.dice_faults c.args.ports.now)
    (g.P.Ports.address c.args.ports.now) (g.P.Ports.drawn c.args.ports.now))
    (tally (g.P.Ports.tapes c.serve_ports.new.ports) (g.P.Ports.links c.serve_ports.new.ports) (g.P.Ports.dice_faults c.serve_ports.new.ports)
    (g.P.Ports.address c.serve_ports.new.ports) (g.P.Ports.drawn c.serve_ports.new.ports)) c.in_ok-house.house c.in_ok-house.worked
    c.in-Shut.is ran c.print_report.ensures.numbers)
    c.print_report.ensures.written

pub returns-in-Shut-clause-cut : goal.returns-in-Shut-clause-cut
returns-in-Shut-clause-cut g c =
    let asked = c.args.serving.now in
    let ran = rw c.as_slice.ensures.value at c.in_ok-house.ensures.served in
    printed_front c.print_report.result _ _ asked c.in_ok-list.list.items
    (tally (g.P.Ports.tapes c.args.ports.now) (g.P.Ports.links c.args.ports.now) (g.P.Ports.dice_faults c.args.ports.now)
    (g.P.Ports.address c.args.ports.now) (g.P.Ports.drawn c.args.ports.now))
    (tally (g.P.Ports.tapes c.serve_ports.new.ports) (g.P.Ports.links c.serve_ports.new.ports) (g.P.Ports.dice_faults c.serve_ports.new.ports)
    (g.P.Ports.address c.serve_ports.new.ports) (g.P.Ports.drawn c.serve_ports.new.ports)) _ _ _ c.in_ok-list.ensures.read
    (run_served asked c.in_ok-list.list.items
    (tally (g.P.Ports.tapes c.args.ports.now) (g.P.Ports.links c.args.ports.now) (g.P.Ports.dice_faults c.args.ports.now)
    (g.P.Ports.address c.args.ports.now) (g.P.Ports.drawn c.args.ports.now))
    (tally (g.P.Ports.tapes c.serve_ports.new.ports) (g.P.Ports.links c.serve_ports.new.ports) (g.P.Ports.dice_faults c.serve_ports.new.ports)
    (g.P.Ports.address c.serve_ports.new.ports) (g.P.Ports.drawn c.serve_ports.new.ports)) c.in_ok-house.house c.in_ok-house.worked
    c.in-Shut.is ran c.print_report.ensures.numbers)
    c.print_report.ensures.cut

pub returns-in-Shut-clause-silent : goal.returns-in-Shut-clause-silent
returns-in-Shut-clause-silent g c = printed_nothing _ _ _ c.print_report.result c.print_report.ensures.others c.print_report.ensures.silent

pub returns-in-Shut-clause-accounts : goal.returns-in-Shut-clause-accounts
returns-in-Shut-clause-accounts g c =
    by_printing c.print_report.result _ c.print_report.ensures.others (λ n e. absurd (write-accounts n e)) (λ n e. absurd (memory-accounts n e))

pub returns-in-Shut-clause-failed : goal.returns-in-Shut-clause-failed
returns-in-Shut-clause-failed g c =
    by_printing c.print_report.result _ c.print_report.ensures.others (λ e. absurd (write-listen e)) (λ e. absurd (memory-listen e))

pub returns-in-Shut-clause-read : goal.returns-in-Shut-clause-read
returns-in-Shut-clause-read g c = by_printing c.print_report.result _ c.print_report.ensures.others (λ e. absurd (write-read e)) (λ e. absurd (memory-read e))

pub returns-in-Shut-clause-listened : goal.returns-in-Shut-clause-listened
returns-in-Shut-clause-listened g c =
    by_printing c.print_report.result _ c.print_report.ensures.others (λ e. absurd (write-listen e)) (λ e. absurd (memory-listen e))

pub returns-in-Shut-clause-usage : goal.returns-in-Shut-clause-usage
returns-in-Shut-clause-usage g c =
    by_printing c.print_report.result _ c.print_report.ensures.others (write-usage, write-done, write-script) (memory-usage, memory-done, memory-script)

pub returns-in-Shut-clause-short : goal.returns-in-Shut-clause-short
returns-in-Shut-clause-short g c =
    let asked = c.args.serving.now in
    let ran = rw c.as_slice.ensures.value at c.in_ok-house.ensures.served in
    by_printing c.print_report.result _ c.print_report.ensures.others (λ e. absurd (write-memory e)) (λ e. short_line _ _ asked c.in_ok-list.list.items
    (tally (g.P.Ports.tapes c.args.ports.now) (g.P.Ports.links c.args.ports.now) (g.P.Ports.dice_faults c.args.ports.now)
    (g.P.Ports.address c.args.ports.now) (g.P.Ports.drawn c.args.ports.now))
    (tally (g.P.Ports.tapes c.serve_ports.new.ports) (g.P.Ports.links c.serve_ports.new.ports) (g.P.Ports.dice_faults c.serve_ports.new.ports)
    (g.P.Ports.address c.serve_ports.new.ports) (g.P.Ports.drawn c.serve_ports.new.ports))
    c.in_ok-house.house c.in_ok-house.worked c.in-Shut.is ran c.in_ok-list.ensures.read)

pub returns-in-Shut-clause-unread : goal.returns-in-Shut-clause-unread
returns-in-Shut-clause-unread g c =
    by_printing c.print_report.result _ c.print_report.ensures.others (λ e. absurd (write-read e)) (λ e. absurd (memory-read e))

pub returns-clause-short : goal.returns-clause-short
returns-clause-short g c = λ is. absurd (listen-memory is)

pub returns-clause-unread : goal.returns-clause-unread
returns-clause-unread g c = λ is. absurd (listen-read is)

pub returns-clause-failed : goal.returns-clause-failed
returns-clause-failed g c = λ is.
    let asked = c.args.serving.now in
    let ran = rw c.as_slice.ensures.value at c.in_ok-house.ensures.served in (
      c.in_ok-list.list.items,
      c.in_ok-list.ensures.read,
      run_failed asked c.in_ok-list.list.items
          (tally (g.P.Ports.tapes c.args.ports.now) (g.P.Ports.links c.args.ports.now) (g.P.Ports.dice_faults c.args.ports.now)
          (g.P.Ports.address c.args.ports.now) (g.P.Ports.drawn c.args.ports.now))
          (tally (g.P.Ports.tapes c.serve_ports.new.ports) (g.P.Ports.links c.serve_ports.new.ports) (g.P.Ports.dice_faults c.serve_ports.new.ports)
          (g.P.Ports.address c.serve_ports.new.ports) (g.P.Ports.drawn c.serve_ports.new.ports)) c.in_ok-house.house c.in_ok-house.worked c.in-PollFault.is ran,
    )
