use Rattle.std.proofs.Common.{subst}
use Rattle.scram_core.specs.Expressions.{IsText}
use Rattle.scram_core.specs.Grammar.{client_first_message}
use Rattle.scram_core.proofs.Derivative.{matches-from}
use Rattle.scram_core.proofs.hello.Hello.text.Goals as goal

pub returns-clause-grammar : goal.returns-clause-grammar
returns-clause-grammar c =
    subst (IsText client_first_message) c.self.view_is (matches-from client_first_message c.self.inside.text.items c.self.invariant.0)
