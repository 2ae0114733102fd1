-- A client that is cut in the middle of what it is sent, and resumes its session, told from the opening of the house on.
use Rattle.std.specs.Prelude.{ℕ, zero, suc, List, [], ◌∷◌, ◌++◌, Some, None, true, codes}
use Rattle.stanza_tree.specs.Entries.{frame}
use Rattle.stanza_tree.specs.declared.frame.Entry.{Entry}
use Rattle.stanza_model.specs.declared.stanza.Stanza.{Stanza}
use Rattle.sm_resume.specs.declared.id.ResumeId.{ResumeId}
use Rattle.sm_account.specs.Accounts.{Account}
use Rattle.house_model.specs.Answers.{answer_text}
use Rattle.house_model.specs.States.{State, opening}
use Rattle.house_model.specs.Histories.{IsSent, Turn, made}
use Rattle.house_model.specs.declared.answer.Answer.{Answer}
use Rattle.house_model.specs.declared.answer.Answer.TheVariants as answer
use Rattle.house_model.specs.declared.event.Event.TheVariants.{OpenLine, Login, Bind, Enable, Act, Pull, Ack, DropLine, CloseLine, Resume, Sweep}
use Rattle.house_model.specs.declared.reply.Reply.TheVariants as reply
use Rattle.house_story.specs.Stanzas.{account, here, to_there, to_phone, to_all, shown_here, come_there, come_to_all}

-- a house with one user and three places for connections
abbrev pub her_house : State
her_house = opening (record account { local = None }) (codes "a" ∷ []) 3

abbrev pub her_id : ResumeId
her_id = record { session = 1; digits = [] }

-- Her desk logs in on line 0, has session 1, and has its stanzas counted. Her phone logs in on line 1, and has session 2.
abbrev pub come : List Turn
come =
    made (OpenLine 0) (reply.Opened 1) [] ∷ made (Login 0 (codes "a")) reply.Done [] ∷ made (Bind 0 [] (Some (codes "d")) 0 []) reply.Bound []
    ∷ made (Enable 0 true []) reply.Done [] ∷ made (OpenLine 1) (reply.Opened 2) [] ∷ made (Login 1 (codes "a")) reply.Done []
    ∷ made (Bind 1 [] (Some (codes "p")) 0 []) reply.Bound [] ∷ []

-- an entry is given on a line, or an answer
abbrev pub gives : ℕ → Entry → Turn
gives w e = made (Pull w 0) reply.Frame (frame e)

abbrev pub says : ℕ → Answer → Turn
says w a = made (Pull w 0) reply.Frame (answer_text a)

-- a stanza is acted on
abbrev pub acts : ℕ → Stanza → Turn
acts w x = made (Act w x 0) reply.Done []

-- The desk shows that it is there, is given what waits, and then a message from the phone. It says that it handled one entry. A message to
-- the account is given to it too, and then its connection is lost.
abbrev pub until_cut : List Turn
until_cut =
    acts 0 here ∷ says 0 (answer.Bound [] (codes "a@b/d")) ∷ says 0 (answer.Enabled (Some her_id)) ∷ gives 0 shown_here ∷ acts 1 to_there
    ∷ gives 0 come_there ∷ made (Ack 0 1) reply.Done [] ∷ acts 1 to_all ∷ gives 0 come_to_all ∷ made (DropLine 0 0) reply.Done [] ∷ []

-- A message comes while it is away, and then it comes again on line 2.
abbrev pub back : List Turn
back = acts 1 to_there ∷ made (OpenLine 2) (reply.Opened 3) [] ∷ made (Login 2 (codes "a")) reply.Done [] ∷ []

-- It says that it handled two entries, is given the third again and the new one, and sends a message. The phone closes its stream, and its
-- session is taken away.
abbrev pub again : List Turn
again =
    made (Resume 2 (Some her_id) 2 0) reply.Resumed [] ∷ says 2 (answer.Resumed 1 her_id) ∷ gives 2 come_to_all ∷ gives 2 come_there
    ∷ acts 2 to_phone ∷ made (CloseLine 1 0) reply.Done [] ∷ made (Sweep 1 0) (reply.Swept 2) [] ∷ []

abbrev pub story : List Turn
story = come ++ until_cut ++ back ++ again

abbrev pub after_one : ℕ → ℕ
after_one zero = 0
after_one (suc i) = 1

-- it handles two entries on each connection, and begins to send after the first stanza on the second
abbrev pub her_account : Account Stanza
her_account = record {
  stanzas = here ∷ to_phone ∷ [];
  handles = λ i. 2;
  begins = after_one;
  lowest = λ i. 0;
  highest = λ i. 2;
}

-- each stanza is one that a stream can bring
pub record AreSent : Type 0 where
  pub here : IsSent here
  pub to_there : IsSent to_there
  pub to_phone : IsSent to_phone
  pub to_all : IsSent to_all
