use Rattle.std.proofs.Common.{rules}
use Rattle.commands.proofs.Endings.{ends_unwritten}
use Rattle.commands.proofs.account.account.Goals as goal

pub returns-clause-accounted : goal.returns-clause-accounted
returns-clause-accounted g c =
    ends_unwritten g.K.Sink.took c.args.name.now c.args.salt.now (g.S.Source.left c.args.source.now) (g.S.Source.left c.read_password.new.source)
    c.args.sink.now c.write_all.new.sink
    c.in-Err-write_all.status (search rules)
    (record {
      password = c.in-Ok.password.items;
      valid = c.in-Ok.ensures.valid;
      read = c.in-Ok.ensures.read;
      holds = λ taken told. search rules;
    })
