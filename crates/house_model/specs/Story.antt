-- A client that is cut and resumes its session, told from the opening of the house on.
use Rattle.std.specs.Prelude.{ℕ, zero, suc, List, [], ◌∷◌, ◌++◌, Some, None, true, false}
use Rattle.sm_resume.specs.declared.id.ResumeId.{ResumeId}
use Rattle.stanza_model.specs.declared.condition.Condition.{Condition}
use Rattle.stanza_model.specs.declared.kinds.Kind.{Kind}
use Rattle.stanza_model.specs.declared.stanza.Stanza.{Stanza}
use Rattle.stanza_model.specs.declared.stanza.Stanza.TheVariants.{Faulty}
use Rattle.sm_account.specs.Accounts.{Account}
use Rattle.house_model.specs.declared.event.Event.TheVariants.{OpenLine, Login, Bind, Enable, Act, DropLine, Resume}
use Rattle.house_model.specs.declared.reply.Reply.TheVariants as reply
use Rattle.house_model.specs.States.{State, opening}
use Rattle.house_model.specs.Histories.{Turn, made}

abbrev pub alice : List ℕ
alice = 97 ∷ []

abbrev pub small_house : State
small_house = opening (record { local = None; domain = 98 ∷ []; resource = None }) (alice ∷ []) 2

abbrev pub her_id : ResumeId
her_id = record { session = 1; digits = [] }

-- what she sends stands for any stanza with a fault that is never answered, so that nothing comes of it
abbrev pub faulty : Kind → Condition → Stanza
faulty kind condition = Faulty kind None None false condition

-- She logs in on line 0, binds, and has her stanzas counted. One is acted on, and the connection is lost. She comes again on line 1.
abbrev pub until_lost : Stanza → List Turn
until_lost x =
    made (OpenLine 0) (reply.Opened 1) [] ∷ made (Login 0 alice) reply.Done []
    ∷ made (Bind 0 [] None 0 []) reply.Bound [] ∷ made (Enable 0 true []) reply.Done []
    ∷ made (Act 0 x 0) reply.Done [] ∷ made (DropLine 0 0) reply.Done []
    ∷ made (OpenLine 1) (reply.Opened 2) [] ∷ made (Login 1 alice) reply.Done [] ∷ []

-- she asks for her session on line 1, and has it
abbrev pub whole_story : Stanza → List Turn
whole_story x = until_lost x ++ made (Resume 1 (Some her_id) 0 0) reply.Resumed [] ∷ []

abbrev pub after_one : ℕ → ℕ
after_one zero = 0
after_one (suc i) = 1

-- she sends two stanzas, and begins after the first on her second connection
abbrev pub her_account : (x y : Stanza) → Account Stanza
her_account x y = record {
  stanzas = x ∷ y ∷ [];
  handles = λ i. 0;
  begins = after_one;
  lowest = λ i. 0;
  highest = λ i. 2;
}
