use Rattle.std.proofs.Common.{subst}
use Rattle.scram_core.specs.Login.{IsServerFirst}
use Rattle.scram_core.specs.Exchange.{Exchange, challenge_of}
use Rattle.scram_core.proofs.Exchanges.{made}
use Rattle.scram_core.proofs.exchange.Scram.server.Goals as goal

pub returns-clause-form : goal.returns-clause-form
returns-clause-form c =
    subst (λ (e : Exchange). IsServerFirst e.first (challenge_of e)) c.self.view_is
    (made (record {
      first = c.self.inside.hello;
      own = c.self.inside.own.items;
      salt = c.self.inside.salt.items;
      rounds = c.self.inside.rounds;
      account =
          c.self.inside.verifier;
    })
    c.self.invariant.0)
