use Rattle.std.proofs.Common.{rules, ◌≡◌, List, ℕ, true, sym, subst}
use Rattle.scram_core.specs.Expressions.{IsText}
use Rattle.scram_core.specs.Grammar.{client_first_message}
use Rattle.scram_core.specs.Matching.{matches}
use Rattle.scram_core.specs.Attributes.{name_of}
use Rattle.scram_core.proofs.Derivative.{matches-to}
use Rattle.scram_core.proofs.hello.Hello.read.Goals as goal

pub invariant_of-result : goal.invariant_of-result
invariant_of-result c =
    let e : c.in_ok-text.text.items ≡ c.args.bytes.now = search rules in
    let text : IsText client_first_message c.args.bytes.now = search rules in
    let name : c.in_ok-name.name.items ≡ name_of c.args.bytes.now = search rules in (
      subst (λ (t : List ℕ). matches client_first_message t ≡ true) (sym e) (matches-to client_first_message c.args.bytes.now text),
      subst (λ (t : List ℕ). c.in_ok-name.name.items ≡ name_of t) (sym e) name,
    )
