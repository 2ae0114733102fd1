-- Bytes that lead from a state to another, one after the other, and what they tell.
use Rattle.std.proofs.Common.{◌≡◌, ℕ, List, [], ◌∷◌, ◌++◌, Bool, true, false}
use Rattle.stream_lex.specs.declared.Token.{Token}
use Rattle.stream_lex.specs.declared.Token.TheVariants as token
use Rattle.stream_lex.specs.declared.stages.Stage.{Stage}
use Rattle.stream_lex.specs.declared.stages.State.{State}
use Rattle.stream_lex.specs.declared.characters.Pending.TheVariants as pending
use Rattle.stream_lex.specs.machine.Turns.{Outcome, leads, fails, at, turn}

abbrev pub then_run : List Token → Outcome → Outcome
then_run us (leads to vs) = leads to (us ++ vs)
then_run us (fails f) = fails f

abbrev pub run_on : Outcome → (State → Outcome) → Outcome
run_on (leads s us) g = then_run us (g s)
run_on (fails f) g = fails f

-- where bytes lead, and what they tell
abbrev pub run : State → List ℕ → Outcome
run st [] = leads st []
run st (b ∷ bs) = run_on (turn st b) (λ s. run s bs)

abbrev pub Way : State → State → List Token → Type 0
Way st to us = (bs : List ℕ) × (run st bs ≡ leads to us)

-- two facts for the two cases of a carriage return before
abbrev pub Ways : Stage → State → List Token → Type 0
Ways s to us = (r : Bool) → Way (at s pending.Nothing r) to us

pub both : (s : Stage) (to : State) (us : List Token) (bs : List ℕ) → run (at s pending.Nothing true) bs ≡ leads to us
    → run (at s pending.Nothing false) bs ≡ leads to us → Ways s to us
both s to us bs e f true = (bs, e)
both s to us bs e f false = (bs, f)

abbrev pub tag_told : List Token
tag_told = token.TagOpens 97 ∷ token.TagEnds false ∷ []
