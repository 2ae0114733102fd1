use Rattle.std.proofs.Common.{ap, rules}
use Rattle.serve_run.specs.Services.{tally}
use Rattle.commands.specs.Commands.{task_of}
use Rattle.commands.proofs.Drills.{drill_unread}
use Rattle.commands.proofs.Endings.{replay_unread}
use Rattle.commands.proofs.Servings.{as_asked, serve_unread}
use Rattle.commands.proofs.run.run.Goals as goal

pub returns-in-Err-clause-replayed : goal.returns-in-Err-clause-replayed
returns-in-Err-clause-replayed g c = λ is.
    replay_unread c.args.words.now (g.S.Source.left c.args.source.now) (g.S.Source.left c.args.source.now) (g.K.Sink.took c.args.sink.now) c.in-Err.status
    (search rules) is

pub returns-in-Err-clause-served : goal.returns-in-Err-clause-served
returns-in-Err-clause-served g c = λ w is. serve_unread (task_of c.args.words.now) w _ _ _ _ _ c.in-Err.status (search rules) is

pub returns-in-Ok-Serve-clause-served : goal.returns-in-Ok-Serve-clause-served
returns-in-Ok-Serve-clause-served g c = λ w asked.
    as_asked (task_of c.args.words.now) c.in-Ok-Serve.serving w _ _
    (tally (g.P.Ports.tapes c.args.ports.now) (g.P.Ports.links c.args.ports.now) (g.P.Ports.dice_faults c.args.ports.now)
    (g.P.Ports.address c.args.ports.now) (g.P.Ports.drawn c.args.ports.now))
    (tally (g.P.Ports.tapes c.serve.new.ports) (g.P.Ports.links c.serve.new.ports) (g.P.Ports.dice_faults c.serve.new.ports)
    (g.P.Ports.address c.serve.new.ports) (g.P.Ports.drawn c.serve.new.ports)) _ _ c.serve.result (search rules)
    c.serve.ensures.served c.serve.ensures.cut (λ other fault. ap g.K.Sink.took (c.serve.ensures.silent other fault))
    c.serve.ensures.accounts c.serve.ensures.failed c.serve.ensures.usage.0 c.serve.ensures.usage.1 asked

pub returns-in-Err-clause-drilled : goal.returns-in-Err-clause-drilled
returns-in-Err-clause-drilled g c = λ n key is.
    drill_unread g.K.Sink.took (task_of c.args.words.now) n key c.args.sink.now c.in-Err.status (search rules) is
