use Rattle.std.proofs.Common.{rules, subst, sym}
use Rattle.replay_script.specs.Scripts.{Makes}
use Rattle.house_core.specs.Houses.{held}
use Rattle.script_play.specs.Readings.{unread}
use Rattle.script_play.proofs.Openings.{first-done, first-taking, first-bad, first-short, first-going, fresh-ends, fresh-stopping, fresh-line}
use Rattle.script_play.proofs.replay.open_house.Goals as goal

pub returns-in_err-take-clause-opens : goal.returns-in_err-take-clause-opens
returns-in_err-take-clause-opens g c = λ took.
    search (
      rules,
      first-taking (g.S.Source.left c.args.source.now) (g.S.Source.left c.take.new.source) took c.in_err-take.field-0.0
          (fresh-stopping (g.S.Source.left c.args.source.now) c.args.reader.now.held c.args.reader.now.given c.in_err-take.field-0.0 c.requires.held
          c.requires.given (search rules)),
    )

pub returns-then-not-branch-clause-opens : goal.returns-then-not-branch-clause-opens
returns-then-not-branch-clause-opens g c = λ took.
    first-done (g.S.Source.left c.args.source.now) (g.S.Source.left c.take.new.source) took c.take.new.reader.held
    (fresh-ends (g.S.Source.left c.args.source.now) (unread c.take.new.reader.held (g.S.Source.left c.take.new.source)) c.args.reader.now.held c.requires.held
    (search rules))

pub returns-in-Ok-clause-opens : goal.returns-in-Ok-clause-opens
returns-in-Ok-clause-opens g c = λ took.
    let line = fresh-line (g.S.Source.left c.args.source.now) (unread c.take.new.reader.held (g.S.Source.left c.take.new.source)) c.args.reader.now.held
    c.args.reader.now.given
    c.take.new.reader.given c.take.new.line.items c.requires.held c.requires.given (search rules) in
    first-going (g.S.Source.left c.args.source.now) (unread c.take.new.reader.held (g.S.Source.left c.take.new.source)) took c.take.new.reader.given
    c.take.new.line.items (held c.in-Ok.house)
    c.in-Ok.ensures.opens.0 line (subst (λ text. Makes text c.in-Ok.ensures.opens.0) c.as_slice.ensures.value c.in-Ok.ensures.opens.1.0)
    c.in-Ok.ensures.opens.1.1

pub returns-in-Err-Bad-clause-opens : goal.returns-in-Err-Bad-clause-opens
returns-in-Err-Bad-clause-opens g c = λ took.
    let line = fresh-line (g.S.Source.left c.args.source.now) (unread c.take.new.reader.held (g.S.Source.left c.take.new.source)) c.args.reader.now.held
    c.args.reader.now.given
    c.take.new.reader.given c.take.new.line.items c.requires.held c.requires.given (search rules) in
    first-bad (g.S.Source.left c.args.source.now) (unread c.take.new.reader.held (g.S.Source.left c.take.new.source)) (g.S.Source.left c.take.new.source) took
    c.take.new.reader.given
    c.take.new.line.items line
    (λ o makes. c.in-Err-Bad.ensures.bad (search rules) o (subst (λ text. Makes text o) (sym c.as_slice.ensures.value) makes))

pub returns-clause-opens : goal.returns-clause-opens
returns-clause-opens g c = λ took. first-short (g.S.Source.left c.args.source.now) (g.S.Source.left c.take.new.source) took
