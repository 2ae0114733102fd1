-- The story as it goes through its states, and what it tells.
use Rattle.std.proofs.Common.{◌≡◌, inl, ℕ, zero, suc, ◌+◌, ◌≤◌, List, [], ◌∷◌, ◌++◌, ◌&&◌, length, take, Some, refl, sym, ap, ◌∙◌, subst, codes, true}
use Rattle.std.proofs.lemmas.Bool.{leb-true, ltb-true}
use Rattle.std.specs.Prelude.{slice_get, ◌^◌}
use Rattle.sm_account.specs.Logs.{entries_of, stanzas_of}
use Rattle.sm_counters.specs.Numbers.{number, number_among}
use Rattle.house_model.specs.declared.answer.Answer.TheVariants as answer
use Rattle.house_model.specs.declared.event.Event.TheVariants.{OpenLine, Login, Ack, DropLine, CloseLine, Resume, Sweep}
use Rattle.house_model.specs.declared.reply.Reply.TheVariants as reply
use Rattle.house_model.specs.Accounts.{IsAccountOf, LineFits, handled}
use Rattle.house_model.specs.Histories.{after, IsOpening, Legal, Made, made}
use Rattle.house_model.specs.Lines.{acted, carried, done, given, ids, is_among, joined, lines, taken, told}
use Rattle.house_model.specs.Promises.{can_resume, counted, session_in}
use Rattle.house_model.specs.Resuming.{InTurn, is_live, is_of_user}
use Rattle.house_model.specs.Sessions.{Gone}
use Rattle.house_story.specs.Stanzas.{here, to_there, to_phone, to_all, shown_here, come_there, come_to_all}
use Rattle.house_story.specs.Story.{come, until_cut, back, her_house, her_id, acts, gives, says, story, her_account, after_one, AreSent}
use Rattle.house_story.proofs.Coming.{came, coming, coming-allowed, coming-goes, gave, some_is, stop}
use Rattle.house_story.proofs.Fitting.{AcksThere, AllFit, ResumesThere, with_said, act-fits, ack-fits, both-handled, fit-both, fits-of, log_along}
use Rattle.house_story.proofs.Fitting.{line-fits, nothing, other-fits, queued-at, resume-fits}
use Rattle.house_story.proofs.Runs.{AreAllowed, Goes, Stop, after-of, allowed-both, goes-both, also, legal-of, told-of, turns}
use Rattle.house_story.proofs.States.{state7, state8, state9, state10, state11, state12, state13}
use Rattle.house_story.proofs.States.{state14, state15, state16, state17, state18, state19, state20, state21, state22, state23, state24, state25}
use Rattle.house_story.proofs.States.{state26, state27}
use Rattle.house_story.proofs.Turns.{turn8, turn9, turn10, turn11, turn12, turn13, turn14, turn15}
use Rattle.house_story.proofs.Turns.{turn16, turn17, turn18, turn19, turn20, turn21, turn22, turn23, turn24, turn25, turn26, turn27}
use Rattle.house_story.proofs.Words.{here-sent, to-account-sent, to-desk-sent, to-phone-sent}

abbrev talking : List Stop
talking =
    stop (acts 0 here) state8 ∷ stop (says 0 (answer.Bound [] (codes "a@b/d"))) state9 ∷ stop (says 0 (answer.Enabled (Some her_id))) state10
    ∷ stop (gives 0 shown_here) state11 ∷ stop (acts 1 to_there) state12 ∷ stop (gives 0 come_there) state13
    ∷ stop (made (Ack 0 1) reply.Done []) state14 ∷ stop (acts 1 to_all) state15 ∷ stop (gives 0 come_to_all) state16
    ∷ stop (made (DropLine 0 0) reply.Done []) state17 ∷ []

talking-goes : Goes state7 talking
talking-goes = (turn8, (turn9, (turn10, (turn11, (turn12, (turn13, (turn14, (turn15, (turn16, (turn17, tt))))))))))

talking-allowed : AreAllowed state7 talking
unfolding number number_among
talking-allowed =
    also (record { line = ltb-true 0 3 refl; meets = inl here-sent; outcome = (refl, refl) })
    (also (record { line = ltb-true 0 3 refl; meets = tt; outcome = (refl, refl) })
    (also (record { line = ltb-true 0 3 refl; meets = tt; outcome = (refl, refl) })
    (also (record { line = ltb-true 0 3 refl; meets = tt; outcome = (refl, refl) })
    (also (record { line = ltb-true 1 3 refl; meets = inl to-desk-sent; outcome = (refl, refl) })
    (also (record { line = ltb-true 0 3 refl; meets = tt; outcome = (refl, refl) })
    (also (record { line = ltb-true 0 3 refl; meets = tt; outcome = (refl, refl) })
    (also (record { line = ltb-true 1 3 refl; meets = inl to-account-sent; outcome = (refl, refl) })
    (also (record { line = ltb-true 0 3 refl; meets = tt; outcome = (refl, refl) })
    (also (record { line = ltb-true 0 3 refl; meets = tt; outcome = (refl, refl) }) tt)))))))))

abbrev away : List Stop
away =
    stop (acts 1 to_there) state18 ∷ stop (made (OpenLine 2) (reply.Opened 3) []) state19 ∷ stop (made (Login 2 (codes "a")) reply.Done []) state20 ∷ []

away-goes : Goes state17 away
away-goes = (turn18, (turn19, (turn20, tt)))

away-allowed : AreAllowed state17 away
away-allowed =
    also (record { line = ltb-true 1 3 refl; meets = inl to-desk-sent; outcome = (refl, refl) })
    (also (record { line = ltb-true 2 3 refl; meets = tt; outcome = (refl, refl) })
    (also (record { line = ltb-true 2 3 refl; meets = tt; outcome = (refl, refl) }) tt))

abbrev returning : List Stop
returning =
    stop (made (Resume 2 (Some her_id) 2 0) reply.Resumed []) state21 ∷ stop (says 2 (answer.Resumed 1 her_id)) state22
    ∷ stop (gives 2 come_to_all) state23 ∷ stop (gives 2 come_there) state24 ∷ stop (acts 2 to_phone) state25
    ∷ stop (made (CloseLine 1 0) reply.Done []) state26 ∷ stop (made (Sweep 1 0) (reply.Swept 2) []) state27 ∷ []

returning-goes : Goes state20 returning
returning-goes = (turn21, (turn22, (turn23, (turn24, (turn25, (turn26, (turn27, tt)))))))

returning-allowed : AreAllowed state20 returning
unfolding number number_among
returning-allowed =
    also (record { line = ltb-true 2 3 refl; meets = tt; outcome = (refl, refl) })
    (also (record { line = ltb-true 2 3 refl; meets = tt; outcome = (refl, refl) })
    (also (record { line = ltb-true 2 3 refl; meets = tt; outcome = (refl, refl) })
    (also (record { line = ltb-true 2 3 refl; meets = tt; outcome = (refl, refl) })
    (also (record { line = ltb-true 2 3 refl; meets = inl to-phone-sent; outcome = (refl, refl) })
    (also (record { line = ltb-true 1 3 refl; meets = tt; outcome = (refl, refl) })
    (also (record { line = ltb-true 1 3 refl; meets = tt; outcome = (refl, refl) }) tt))))))

-- until it asks for its session, and the whole

abbrev half : List Stop
half = coming ++ talking ++ away

half-goes : Goes her_house half
half-goes = goes-both her_house (coming ++ talking) away (goes-both her_house coming talking coming-goes talking-goes) away-goes

half-allowed : AreAllowed her_house half
half-allowed =
    allowed-both her_house (coming ++ talking) away (allowed-both her_house coming talking coming-allowed talking-allowed) away-allowed

abbrev run : List Stop
run = half ++ returning

run-goes : Goes her_house run
run-goes = goes-both her_house half returning half-goes returning-goes

run-allowed : AreAllowed her_house run
run-allowed = allowed-both her_house half returning half-allowed returning-allowed

half-so : turns half ≡ come ++ until_cut ++ back
half-so = refl

told-so : turns run ≡ story
told-so = refl

pub starts : IsOpening her_house
starts = (_, _, _, _, refl)

pub sent : AreSent
sent = record { here = here-sent; to_there = to-desk-sent; to_phone = to-phone-sent; to_all = to-account-sent }

pub legal : Legal her_house story
legal = legal-of her_house run story told-so run-goes run-allowed

-- What it tells.

pub lines-are : lines her_house story 1 ≡ 1 ∷ 3 ∷ []
lines-are = told-of (joined 1) her_house run story told-so run-goes

given-are : told (given 1) her_house story ≡ gave 1 shown_here ∷ gave 1 come_there ∷ gave 1 come_to_all ∷ gave 3 come_to_all ∷ gave 3 come_there ∷ []
given-are = told-of (given 1) her_house run story told-so run-goes

taken-are : told (taken 1) her_house story ≡ came 1 here ∷ came 3 to_phone ∷ []
taken-are = told-of (taken 1) her_house run story told-so run-goes

pub before : carried her_house story 1 1 ≡ shown_here ∷ come_there ∷ come_to_all ∷ []
before = ap (entries_of 1) given-are

pub again : carried her_house story 1 3 ≡ come_to_all ∷ come_there ∷ []
again = ap (entries_of 3) given-are

pub handled-is : handled her_account her_house story 1 ≡ shown_here ∷ come_there ∷ come_to_all ∷ come_there ∷ []
handled-is = both-handled her_account her_house 1 story 1 3 _ _ lines-are before again

pub counted-is : counted her_house story 1 ≡ shown_here ∷ come_there ∷ come_to_all ∷ come_there ∷ []
counted-is = queued-at her_account her_house 1 story state27 (after-of her_house run story told-so run-goes)

pub acted-is : acted her_house story 1 ≡ here ∷ to_phone ∷ []
acted-is = told-of (done 1) her_house run story told-so run-goes

-- it can be resumed when it asks for its session

until-asked : after her_house (come ++ until_cut ++ back) ≡ state20
until-asked = after-of her_house half (come ++ until_cut ++ back) half-so half-goes

ids-are : told ids her_house (come ++ until_cut ++ back) ≡ her_id ∷ []
ids-are = told-of ids her_house half (come ++ until_cut ++ back) half-so half-goes

pub in-turn : InTurn (after her_house (come ++ until_cut ++ back)) 2 3 0
in-turn = subst (λ q. InTurn q 2 3 0) (sym until-asked) (record { logged = refl; few = ltb-true 0 8 refl })

pub can : can_resume her_house (come ++ until_cut ++ back) 0 (Some her_id) ≡ true
can =
    ap (λ given. is_among her_id given && (is_live (session_in her_house (come ++ until_cut ++ back) 1).hold
    && is_of_user (after her_house (come ++ until_cut ++ back)) 0 (session_in her_house (come ++ until_cut ++ back) 1))) ids-are
    ∙ ap (λ q. is_live (q.world.sessions 1).hold && is_of_user q 0 (q.world.sessions 1)) until-asked

pub swept : (session_in her_house story 2).hold ≡ Gone
swept = ap (λ q. (q.world.sessions 2).hold) (after-of her_house run story told-so run-goes)

-- Its client counts.

sent-before : (j c : ℕ) → slice_get (1 ∷ []) j ≡ Some c → after_one j + length (stanzas_of c (came 1 here ∷ [])) ≤ 2
sent-before zero c is = subst (λ (n : ℕ). 0 + length (stanzas_of n (came 1 here ∷ [])) ≤ 2) (some_is 1 c is) (leb-true 1 2 refl)
sent-before (suc j) c is = absurd (cc)

line-fits-at : (i c : ℕ) → slice_get (1 ∷ 3 ∷ []) i ≡ Some c → LineFits her_account her_house story 1 i c
line-fits-at zero c is =
    subst (LineFits her_account her_house story 1 0) (some_is 1 c is)
    (line-fits her_account her_house 1 story 0 1 _ (here ∷ []) before (ap (stanzas_of 1) taken-are) (leb-true 2 3 refl) (to_phone ∷ [], refl))
line-fits-at (suc zero) c is =
    subst (LineFits her_account her_house story 1 1) (some_is 3 c is)
    (line-fits her_account her_house 1 story 1 3 _ (to_phone ∷ []) again (ap (stanzas_of 3) taken-are) (leb-true 2 2 refl) ([], refl))
line-fits-at (suc (suc i)) c is = absurd (cc)

ack-there : AcksThere her_account her_house 1 state13 (log_along her_account her_house 1 nothing her_house (coming ++ take 6 talking)) 0 1 1 1
ack-there = record {
  counts = refl;
  rising = leb-true 0 1 refl;
  before = leb-true 0 1 refl;
  handled = leb-true 1 2 refl;
  carried = leb-true 1 2 refl;
}

resume-there : ResumesThere her_account her_house 1 state20
    (log_along her_account her_house 1 nothing her_house half) 1 2
unfolding number number_among
resume-there = record {
  counts = refl;
  lowest = refl;
  sent = sent-before;
  has = leb-true 2 2 refl;
  near = ltb-true 2 (2 ^ 32) refl;
  begins = refl;
}

coming-fit : AllFit her_account her_house 1 her_house nothing 0 coming 0
coming-fit =
    with_said 0 (λ g l. refl)
    (with_said 0 (λ g l. refl)
    (with_said 0 (λ g l. refl)
    (with_said 0 (λ g l. refl)
    (with_said 0 (λ g l. refl)
    (with_said 0 (λ g l. refl)
    (with_said 0 (λ g l. refl) refl))))))

talking-fit : AllFit her_account her_house 1 state7 (log_along her_account her_house 1 nothing her_house coming) 0 talking 1
talking-fit =
    with_said 0 (act-fits her_account her_house 1 _ _ _ 0 1 0 here (Made reply.Done []) refl refl refl refl)
    (with_said 0 (λ g l. refl)
    (with_said 0 (λ g l. refl)
    (with_said 0 (λ g l. refl)
    (with_said 0 (other-fits her_account her_house 1 _ _ _ 1 2 2 0 to_there (Made reply.Done []) refl refl)
    (with_said 0 (λ g l. refl)
    (with_said 1 (ack-fits her_account her_house 1 _ _ _ 0 1 1 1 reply.Done [] refl refl refl ack-there)
    (with_said 1 (other-fits her_account her_house 1 _ _ _ 1 2 2 0 to_all (Made reply.Done []) refl refl)
    (with_said 1 (λ g l. refl)
    (with_said 1 (λ g l. refl) refl)))))))))

away-fit : AllFit her_account her_house 1 state17 (log_along her_account her_house 1 nothing her_house (coming ++ talking)) 1 away 1
away-fit =
    with_said 1 (other-fits her_account her_house 1 _ _ _ 1 2 2 0 to_there (Made reply.Done []) refl refl)
    (with_said 1 (λ g l. refl)
    (with_said 1 (λ g l. refl) refl))

returning-fit : AllFit her_account her_house 1 state20 (log_along her_account her_house 1 nothing her_house half) 1 returning 2
returning-fit =
    with_said 2 (resume-fits her_account her_house 1 _ _ 1 2 2 0 2 her_id [] refl resume-there refl)
    (with_said 2 (λ g l. refl)
    (with_said 2 (λ g l. refl)
    (with_said 2 (λ g l. refl)
    (with_said 2 (act-fits her_account her_house 1 _ _ _ 2 3 0 to_phone (Made reply.Done []) refl refl refl refl)
    (with_said 2 (λ g l. refl)
    (with_said 2 (λ g l. refl) refl))))))

run-fits : AllFit her_account her_house 1 her_house nothing 0 run 2
run-fits =
    fit-both her_account her_house 1 her_house nothing 0 1 2 half returning
    (fit-both her_account her_house 1 her_house nothing 0 1 1 (coming ++ talking) away
    (fit-both her_account her_house 1 her_house nothing 0 0 1 coming talking coming-fit talking-fit) away-fit) returning-fit

pub account : IsAccountOf her_account her_house story 1
account = record {
  first = refl;
  lines = λ i c is. line-fits-at i c (subst (λ ls. slice_get ls i ≡ Some c) lines-are is);
  turns = fits-of her_account her_house 1 run story 2 told-so run-goes run-fits;
}
