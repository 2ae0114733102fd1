-- What a state that bytes lead to says of their readings.
use Rattle.std.proofs.Common.{◌≡◌, List, [], ◌∷◌, ◌++◌, refl, ap, ◌∙◌, ℕ}
use Rattle.std.specs.declared.option.Option.{Option}
use Rattle.std.specs.declared.option.Option.TheVariants.{None, Some}
use Rattle.stream_lex.specs.declared.Token.{Token}
use Rattle.stream_lex.specs.declared.LexFault.{LexFault}
use Rattle.stream_lex.specs.declared.stages.State.{State}
use Rattle.stream_lex.specs.grammar.Expressions.{Sign, all_said}
use Rattle.stream_lex.specs.grammar.Reading.{AreTold, IsTold}
use Rattle.stream_lex.specs.machine.Leading.{Leads, Stands}
use Rattle.stream_lex.proofs.Lists.{says-head, says-tail}

said-begins : (ts us : List Token) (ns : List Sign) → all_said us ≡ all_said ts ++ ns → (later : List Token) × (us ≡ ts ++ later)
said-begins [] us ns e = (us, refl)
said-begins (t ∷ ts) [] ns e = absurd (cc)
said-begins (t ∷ ts) (u ∷ us) ns e =
    let (later, same) = said-begins ts us ns (says-tail u t (all_said us) (all_said ts ++ ns) e) in
    (later, ap (λ (x : Token). x ∷ us) (says-head u t (all_said us) (all_said ts ++ ns) e) ∙ ap (λ (l : List Token). t ∷ l) same)

pub leads-told : (bytes : List ℕ) (ts : List Token) (st : State) → Leads bytes ts st → AreTold bytes ts
leads-told bytes ts st l = record {
  begins = l.begins;
  each = λ more us k. let (ns, same, left) = l.rest more (all_said us) k in said-begins ts us ns same;
}

pub stands-told : (bytes : List ℕ) (ts : List Token) (st : State) (f : Option LexFault) → Stands bytes ts st f → IsTold bytes ts f
stands-told bytes ts st None l = leads-told bytes ts st l
stands-told bytes ts st (Some f) (k, is, l) = (k, is, leads-told _ ts st l)
