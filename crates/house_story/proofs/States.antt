-- The states that the story goes through.
use Rattle.std.specs.Prelude.{ℕ, List, [], ◌∷◌, Option, Some, None, Bool, true, false, pos, codes}
use Rattle.jid_core.specs.Addresses.{Address}
use Rattle.stanza_tree.specs.declared.frame.Entry.{Entry}
use Rattle.stanza_tree.specs.declared.frame.Origin.TheVariants.{Direct}
use Rattle.stanza_model.specs.declared.stanza.Stanza.{Stanza}
use Rattle.sm_resume.specs.declared.decision.Cause.TheVariants.{Closed}
use Rattle.sm_resume.specs.declared.id.ResumeId.{ResumeId}
use Rattle.session_table.specs.declared.line.Line as stage
use Rattle.session_table.specs.declared.line.Line.TheVariants.{Fresh, Logged, Bound, Over}
use Rattle.house_model.specs.declared.answer.Answer.{Answer}
use Rattle.house_model.specs.declared.answer.Answer.TheVariants as answer
use Rattle.house_model.specs.Numbered.{put}
use Rattle.house_model.specs.Sessions.{Away, Ended, Gone, Held, Hold, Manner, Session, session, silent}
use Rattle.house_model.specs.Traffic.{Traffic, no_traffic}
use Rattle.house_model.specs.States.{Line, State, empty_line}
use Rattle.house_story.specs.Stanzas.{desk, phone, here, to_there, to_phone, to_all, shown_here, come_there, come_to_all}
use Rattle.house_story.specs.Story.{her_house, her_id}

-- after so many turns, connections and sessions
abbrev pub state_of : (turns opened made : ℕ) → (ℕ → Line) → (ℕ → Session Traffic) → State
state_of turns opened made lines sessions = record {
  head = record her_house.head { turns = turns };
  world = record her_house.world { opened = opened; lines = lines; made = made; sessions = sessions };
}

abbrev pub line_of : stage.Line → List Answer → Line
line_of stage answers = record { stage = stage; answers = answers }

-- The session of the desk.

abbrev pub traffic_of : List Entry → (kept sent asked : ℕ) → List Stanza → Traffic
traffic_of queued kept sent asked acts =
    record { queued = queued; kept = kept; sent = sent; asked_at = asked; base_out = 0; acts = acts; base_in = 0 }

abbrev pub shown : Manner
shown = record silent { presence = Some (codes "<presence from='a@b/d'/>"); priority = pos 0 }

abbrev pub session_of : Bool → Hold → Traffic → Address → Option ResumeId → Option ℕ → Manner → Session Traffic
session_of counts hold traffic address id deadline manner =
    session counts hold traffic (record { address = address; resume_id = id; deadline = deadline; manner = manner })

abbrev pub desk_with : Traffic → Manner → Session Traffic
desk_with t m = session_of true (Held 0 1) t desk (Some her_id) None m

abbrev pub desk_away : Traffic → Session Traffic
desk_away t = session_of true Away t desk (Some her_id) (Some 300000) shown

abbrev pub desk_again : Traffic → Session Traffic
desk_again t = session_of true (Held 2 3) t desk (Some her_id) None shown

-- the session of the phone
abbrev pub phone_with : List Entry → List Stanza → Session Traffic
phone_with queued acts = session_of false (Held 1 2) (traffic_of queued 0 0 0 acts) phone None None silent

-- what the desk has queued

abbrev pub one : List Entry
one = shown_here ∷ []

abbrev pub two : List Entry
two = shown_here ∷ come_there ∷ []

abbrev pub three : List Entry
three = shown_here ∷ come_there ∷ come_to_all ∷ []

abbrev pub four : List Entry
four = shown_here ∷ come_there ∷ come_to_all ∷ come_there ∷ []

abbrev pub for_phone : Entry
for_phone = record { to = codes "a@b/p"; rest = codes "<message from='a@b/d'/>"; origin = Direct }

abbrev pub bound : Answer
bound = answer.Bound [] (codes "a@b/d")

abbrev pub enabled : Answer
enabled = answer.Enabled (Some her_id)

-- The lines and sessions, by turns.

abbrev lines1 : ℕ → Line
lines1 = put 0 (line_of (Fresh 1) []) her_house.world.lines

abbrev lines2 : ℕ → Line
lines2 = put 0 (line_of (Logged 1 0) []) lines1

abbrev lines3 : ℕ → Line
lines3 = put 0 (line_of (Bound 1 1) (bound ∷ [])) (put 0 (line_of (Bound 1 1) []) lines2)

abbrev sessions3 : ℕ → Session Traffic
sessions3 = put 1 (session_of false (Held 0 1) no_traffic desk None None silent) her_house.world.sessions

abbrev lines4 : ℕ → Line
lines4 = put 0 (line_of (Bound 1 1) (bound ∷ enabled ∷ [])) lines3

abbrev sessions4 : ℕ → Session Traffic
sessions4 = put 1 (desk_with (traffic_of [] 0 0 0 []) silent) sessions3

abbrev lines5 : ℕ → Line
lines5 = put 1 (line_of (Fresh 2) []) lines4

abbrev lines6 : ℕ → Line
lines6 = put 1 (line_of (Logged 2 0) []) lines5

abbrev pub lines7 : ℕ → Line
lines7 = put 1 (line_of (Bound 2 2) (answer.Bound [] (codes "a@b/p") ∷ [])) (put 1 (line_of (Bound 2 2) []) lines6)

abbrev pub sessions7 : ℕ → Session Traffic
sessions7 = put 2 (phone_with [] []) sessions4

-- its stanza is acted on, its presence is kept, and it is queued for itself
abbrev sessions8 : ℕ → Session Traffic
sessions8 =
    put 1 (desk_with (traffic_of one 0 0 0 (here ∷ [])) shown) (put 1 (desk_with (traffic_of [] 0 0 0 (here ∷ [])) shown)
    (put 1 (desk_with (traffic_of [] 0 0 0 (here ∷ [])) silent) sessions7))

abbrev pub lines9 : ℕ → Line
lines9 = put 0 (line_of (Bound 1 1) (enabled ∷ [])) lines7

abbrev pub lines10 : ℕ → Line
lines10 = put 0 (line_of (Bound 1 1) []) lines9

abbrev sessions11 : ℕ → Session Traffic
sessions11 = put 1 (desk_with (traffic_of one 0 1 0 (here ∷ [])) shown) sessions8

abbrev sessions12 : ℕ → Session Traffic
sessions12 = put 1 (desk_with (traffic_of two 0 1 0 (here ∷ [])) shown) (put 2 (phone_with [] (to_there ∷ [])) sessions11)

abbrev sessions13 : ℕ → Session Traffic
sessions13 = put 1 (desk_with (traffic_of two 0 2 0 (here ∷ [])) shown) sessions12

abbrev sessions14 : ℕ → Session Traffic
sessions14 = put 1 (desk_with (traffic_of two 1 2 0 (here ∷ [])) shown) sessions13

abbrev sessions15 : ℕ → Session Traffic
sessions15 = put 1 (desk_with (traffic_of three 1 2 0 (here ∷ [])) shown) (put 2 (phone_with [] (to_there ∷ to_all ∷ [])) sessions14)

abbrev sessions16 : ℕ → Session Traffic
sessions16 = put 1 (desk_with (traffic_of three 1 3 0 (here ∷ [])) shown) sessions15

abbrev pub lines17 : ℕ → Line
lines17 = put 0 empty_line (put 0 empty_line lines10)

abbrev sessions17 : ℕ → Session Traffic
sessions17 = put 1 (desk_away (traffic_of three 1 3 0 (here ∷ []))) sessions16

abbrev sessions18 : ℕ → Session Traffic
sessions18 = put 1 (desk_away (traffic_of four 1 3 0 (here ∷ []))) (put 2 (phone_with [] (to_there ∷ to_all ∷ to_there ∷ [])) sessions17)

abbrev pub lines19 : ℕ → Line
lines19 = put 2 (line_of (Fresh 3) []) lines17

abbrev pub lines20 : ℕ → Line
lines20 = put 2 (line_of (Logged 3 0) []) lines19

abbrev pub lines21 : ℕ → Line
lines21 = put 2 (line_of (Bound 3 1) (answer.Resumed 1 her_id ∷ [])) (put 2 (line_of (Bound 3 1) []) lines20)

abbrev sessions21 : ℕ → Session Traffic
sessions21 = put 1 (desk_again (traffic_of four 2 2 2 (here ∷ []))) sessions18

abbrev pub lines22 : ℕ → Line
lines22 = put 2 (line_of (Bound 3 1) []) lines21

abbrev sessions23 : ℕ → Session Traffic
sessions23 = put 1 (desk_again (traffic_of four 2 3 2 (here ∷ []))) sessions21

abbrev sessions24 : ℕ → Session Traffic
sessions24 = put 1 (desk_again (traffic_of four 2 4 2 (here ∷ []))) sessions23

abbrev sessions25 : ℕ → Session Traffic
sessions25 =
    put 2 (phone_with (for_phone ∷ []) (to_there ∷ to_all ∷ to_there ∷ [])) (put 1 (desk_again (traffic_of four 2 4 2 (here ∷ to_phone ∷ []))) sessions24)

-- the phone's session is over, and then it is taken away

abbrev pub phone_over : Hold → Session Traffic
phone_over hold = session_of false hold (traffic_of (for_phone ∷ []) 0 0 0 (to_there ∷ to_all ∷ to_there ∷ [])) phone None None silent

abbrev lines26 : ℕ → Line
lines26 = put 1 empty_line (put 1 (line_of (Over 2 Closed) []) lines22)

abbrev sessions26 : ℕ → Session Traffic
sessions26 = put 2 (phone_over (Ended Closed)) sessions25

abbrev sessions27 : ℕ → Session Traffic
sessions27 = put 2 (phone_over Gone) (put 2 (phone_over (Ended Closed)) (put 2 (phone_over (Ended Closed)) sessions26))

-- The states.

abbrev pub state1 : State
state1 = state_of 1 1 0 lines1 her_house.world.sessions

abbrev pub state2 : State
state2 = state_of 2 1 0 lines2 her_house.world.sessions

abbrev pub state3 : State
state3 = state_of 3 1 1 lines3 sessions3

abbrev pub state4 : State
state4 = state_of 4 1 1 lines4 sessions4

abbrev pub state5 : State
state5 = state_of 5 2 1 lines5 sessions4

abbrev pub state6 : State
state6 = state_of 6 2 1 lines6 sessions4

abbrev pub state7 : State
state7 = state_of 7 2 2 lines7 sessions7

abbrev pub state8 : State
state8 = state_of 8 2 2 lines7 sessions8

abbrev pub state9 : State
state9 = state_of 9 2 2 lines9 sessions8

abbrev pub state10 : State
state10 = state_of 10 2 2 lines10 sessions8

abbrev pub state11 : State
state11 = state_of 11 2 2 lines10 sessions11

abbrev pub state12 : State
state12 = state_of 12 2 2 lines10 sessions12

abbrev pub state13 : State
state13 = state_of 13 2 2 lines10 sessions13

abbrev pub state14 : State
state14 = state_of 14 2 2 lines10 sessions14

abbrev pub state15 : State
state15 = state_of 15 2 2 lines10 sessions15

abbrev pub state16 : State
state16 = state_of 16 2 2 lines10 sessions16

abbrev pub state17 : State
state17 = state_of 17 2 2 lines17 sessions17

abbrev pub state18 : State
state18 = state_of 18 2 2 lines17 sessions18

abbrev pub state19 : State
state19 = state_of 19 3 2 lines19 sessions18

abbrev pub state20 : State
state20 = state_of 20 3 2 lines20 sessions18

abbrev pub state21 : State
state21 = state_of 21 3 2 lines21 sessions21

abbrev pub state22 : State
state22 = state_of 22 3 2 lines22 sessions21

abbrev pub state23 : State
state23 = state_of 23 3 2 lines22 sessions23

abbrev pub state24 : State
state24 = state_of 24 3 2 lines22 sessions24

abbrev pub state25 : State
state25 = state_of 25 3 2 lines22 sessions25

abbrev pub state26 : State
state26 = state_of 26 3 2 lines26 sessions26

abbrev pub state27 : State
state27 = state_of 27 3 2 lines26 sessions27
