-- How both clients come.
use Rattle.std.proofs.Common.{◌≡◌, ℕ, List, [], ◌∷◌, Some, refl, codes, true}
use Rattle.std.proofs.lemmas.Bool.{leb-true, ltb-true}
use Rattle.stanza_tree.specs.declared.frame.Entry.{Entry}
use Rattle.stanza_model.specs.declared.stanza.Stanza.{Stanza}
use Rattle.sm_account.specs.Logs.{Given, Taken}
use Rattle.house_model.specs.declared.event.Event.TheVariants.{OpenLine, Login, Bind, Enable}
use Rattle.house_model.specs.declared.reply.Reply.TheVariants as reply
use Rattle.house_model.specs.States.{State}
use Rattle.house_model.specs.Histories.{Turn, made}
use Rattle.house_story.specs.Story.{her_house}
use Rattle.house_story.proofs.Runs.{AreAllowed, Goes, Stop, also}
use Rattle.house_story.proofs.States.{state1, state2, state3, state4, state5, state6, state7}
use Rattle.house_story.proofs.Turns.{turn1, turn2, turn3, turn4, turn5, turn6, turn7}

abbrev pub gave : ℕ → Entry → Given
gave c e = record { connection = c; entry = e }

abbrev pub came : ℕ → Stanza → Taken Stanza
came c x = record { connection = c; stanza = x }

abbrev pub stop : Turn → State → Stop
stop x st = record { turn = x; state = st }

abbrev pub coming : List Stop
coming =
    stop (made (OpenLine 0) (reply.Opened 1) []) state1 ∷ stop (made (Login 0 (codes "a")) reply.Done []) state2
    ∷ stop (made (Bind 0 [] (Some (codes "d")) 0 []) reply.Bound []) state3 ∷ stop (made (Enable 0 true []) reply.Done []) state4
    ∷ stop (made (OpenLine 1) (reply.Opened 2) []) state5 ∷ stop (made (Login 1 (codes "a")) reply.Done []) state6
    ∷ stop (made (Bind 1 [] (Some (codes "p")) 0 []) reply.Bound []) state7 ∷ []

pub coming-goes : Goes her_house coming
coming-goes = (turn1, (turn2, (turn3, (turn4, (turn5, (turn6, (turn7, tt)))))))

pub coming-allowed : AreAllowed her_house coming
coming-allowed =
    also (record { line = ltb-true 0 3 refl; meets = tt; outcome = (refl, refl) })
    (also (record { line = ltb-true 0 3 refl; meets = tt; outcome = (refl, refl) })
    (also (record { line = ltb-true 0 3 refl; meets = leb-true 0 65536 refl; outcome = (refl, refl) })
    (also (record { line = ltb-true 0 3 refl; meets = tt; outcome = (refl, refl) })
    (also (record { line = ltb-true 1 3 refl; meets = tt; outcome = (refl, refl) })
    (also (record { line = ltb-true 1 3 refl; meets = tt; outcome = (refl, refl) })
    (also (record { line = ltb-true 1 3 refl; meets = leb-true 0 65536 refl; outcome = (refl, refl) }) tt))))))

pub some_is : (n c : ℕ) → Some n ≡ Some c → n ≡ c
some_is n c is = cc
