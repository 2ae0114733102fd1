use Rattle.serve_run.proofs.Running.{one_over, refused_over, served_over}
use Rattle.serve_run.proofs.serving.serve_list.Goals as goal

pub returns-in-Ok-clause-served : goal.returns-in-Ok-clause-served
returns-in-Ok-clause-served g c =
    served_over c.attend.result.1 c.args.serving.now c.args.list.now _ _ c.in-Ok.accounts _ _ _ c.attend.ensures.served c.in-Ok.ensures.new c.in-Ok.ensures.read
    c.in-Ok.ensures.drew

pub returns-in-Ok-clause-refused : goal.returns-in-Ok-clause-refused
returns-in-Ok-clause-refused g c = refused_over c.attend.result.1 c.args.serving.now.sessions c.args.list.now _ c.attend.ensures.refused

pub returns-in-Ok-clause-unused : goal.returns-in-Ok-clause-unused
returns-in-Ok-clause-unused g c = one_over c.attend.result.1 _ _ c.in-Ok.accounts.secret c.in-Ok.ensures.long c.in-Ok.ensures.drew
