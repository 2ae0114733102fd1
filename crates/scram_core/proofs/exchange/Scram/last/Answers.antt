use Rattle.std.proofs.Common.{rules}
use Rattle.scram_core.specs.Attributes.{proof_of}
use Rattle.scram_core.specs.Login.{auth_message}
use Rattle.scram_core.specs.Exchange.{challenge_of, ProofTextTo, IsOfExchange}
use Rattle.scram_core.proofs.Exchanges.{proves-to}
use Rattle.scram_core.proofs.exchange.Scram.last.Goals as goal

pub returns-clause-proved : goal.returns-clause-proved
returns-clause-proved c =
    let same : IsOfExchange c.args.self c.args.bytes.now = search rules in
    let proof : ProofTextTo c.args.self.account (auth_message c.args.self.first (challenge_of c.args.self) c.args.bytes.now) (proof_of c.args.bytes.now) =
    search rules in
    proves-to c.args.self.account c.args.self c.args.bytes.now (search rules) (search rules) same proof
