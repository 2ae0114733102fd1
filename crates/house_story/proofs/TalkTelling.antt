-- The talk as it goes through its states, and what it tells.
use Rattle.std.proofs.Common.{◌≡◌, inl, ℕ, zero, suc, ◌+◌, ◌≤◌, List, [], ◌∷◌, ◌++◌, length, take, Some, refl, sym, ap, ◌∙◌, subst, codes}
use Rattle.std.proofs.lemmas.Bool.{leb-true, ltb-true}
use Rattle.std.specs.Prelude.{slice_get, ◌^◌}
use Rattle.sm_account.specs.Logs.{entries_of, stanzas_of}
use Rattle.sm_counters.specs.Numbers.{number, number_among}
use Rattle.house_model.specs.declared.answer.Answer.TheVariants as answer
use Rattle.house_model.specs.declared.event.Event.TheVariants.{OpenLine, Login, DropLine, Resume}
use Rattle.house_model.specs.declared.reply.Reply.TheVariants as reply
use Rattle.house_model.specs.Accounts.{IsAccountOf, LineFits, handled}
use Rattle.house_model.specs.Histories.{Legal, Made, after, made}
use Rattle.house_model.specs.Lines.{carried, given, joined, lines, taken, told}
use Rattle.house_model.specs.Promises.{counted, run_of}
use Rattle.house_model.specs.Stays.{live_of}
use Rattle.house_model.proofs.StayVerdicts.{gapless}
use Rattle.house_story.specs.Story.{acts, after_one, gives, her_house, her_id, says}
use Rattle.house_story.specs.Talk.{AreSaid, desk_enters, enter, her_reading, no_subject, phone_enters, said, say, seats_in, talk}
use Rattle.house_story.proofs.Coming.{came, coming, coming-allowed, coming-goes, gave, some_is, stop}
use Rattle.house_story.proofs.Fitting.{AllFit, ResumesThere, act-fits, both-handled, fit-both, fits-of, line-fits, log_along, nothing, other-fits}
use Rattle.house_story.proofs.Fitting.{queued-at}
use Rattle.house_story.proofs.Fitting.{resume-fits, with_said}
use Rattle.house_story.proofs.Runs.{AreAllowed, Goes, Stop, after-of, allowed-both, also, goes-both, legal-of, told-of, turns}
use Rattle.house_story.proofs.States.{state7}
use Rattle.house_story.proofs.TalkStates.{talk8, talk9, talk10, talk11, talk12, talk13, talk14, talk15, talk16, talk17, talk18, talk19, talk20}
use Rattle.house_story.proofs.TalkStates.{talk21, talk22, talk23, talk24}
use Rattle.house_story.proofs.TalkTurns.{talked8, talked9, talked10, talked11, talked12, talked13, talked14, talked15, talked16, talked17, talked18}
use Rattle.house_story.proofs.TalkTurns.{talked19, talked20, talked21, talked22, talked23, talked24}
use Rattle.house_story.proofs.TalkWords.{enter-sent, say-sent}
use Rattle.house_story.proofs.Telling.{starts}

abbrev talking : List Stop
talking =
    stop (acts 0 enter) talk8 ∷ stop (says 0 (answer.Bound [] (codes "a@b/d"))) talk9 ∷ stop (says 0 (answer.Enabled (Some her_id))) talk10
    ∷ stop (gives 0 desk_enters) talk11 ∷ stop (gives 0 no_subject) talk12 ∷ stop (acts 1 enter) talk13 ∷ stop (gives 0 phone_enters) talk14
    ∷ stop (acts 1 say) talk15 ∷ stop (gives 0 (said 2)) talk16 ∷ stop (made (DropLine 0 0) reply.Done []) talk17 ∷ []

talking-goes : Goes state7 talking
talking-goes = (talked8, (talked9, (talked10, (talked11, (talked12, (talked13, (talked14, (talked15, (talked16, (talked17, tt))))))))))

talking-allowed : AreAllowed state7 talking
unfolding number number_among
talking-allowed =
    also (record { line = ltb-true 0 3 refl; meets = inl enter-sent; outcome = (refl, refl) })
    (also (record { line = ltb-true 0 3 refl; meets = tt; outcome = (refl, refl) })
    (also (record { line = ltb-true 0 3 refl; meets = tt; outcome = (refl, refl) })
    (also (record { line = ltb-true 0 3 refl; meets = tt; outcome = (refl, refl) })
    (also (record { line = ltb-true 0 3 refl; meets = tt; outcome = (refl, refl) })
    (also (record { line = ltb-true 1 3 refl; meets = inl enter-sent; outcome = (refl, refl) })
    (also (record { line = ltb-true 0 3 refl; meets = tt; outcome = (refl, refl) })
    (also (record { line = ltb-true 1 3 refl; meets = inl say-sent; outcome = (refl, refl) })
    (also (record { line = ltb-true 0 3 refl; meets = tt; outcome = (refl, refl) })
    (also (record { line = ltb-true 0 3 refl; meets = tt; outcome = (refl, refl) }) tt)))))))))

abbrev listening : List Stop
listening =
    stop (acts 1 say) talk18 ∷ stop (made (OpenLine 2) (reply.Opened 3) []) talk19 ∷ stop (made (Login 2 (codes "a")) reply.Done []) talk20
    ∷ stop (made (Resume 2 (Some her_id) 3 0) reply.Resumed []) talk21 ∷ stop (says 2 (answer.Resumed 1 her_id)) talk22
    ∷ stop (gives 2 (said 2)) talk23 ∷ stop (gives 2 (said 3)) talk24 ∷ []

listening-goes : Goes talk17 listening
listening-goes = (talked18, (talked19, (talked20, (talked21, (talked22, (talked23, (talked24, tt)))))))

listening-allowed : AreAllowed talk17 listening
unfolding number number_among
listening-allowed =
    also (record { line = ltb-true 1 3 refl; meets = inl say-sent; outcome = (refl, refl) })
    (also (record { line = ltb-true 2 3 refl; meets = tt; outcome = (refl, refl) })
    (also (record { line = ltb-true 2 3 refl; meets = tt; outcome = (refl, refl) })
    (also (record { line = ltb-true 2 3 refl; meets = tt; outcome = (refl, refl) })
    (also (record { line = ltb-true 2 3 refl; meets = tt; outcome = (refl, refl) })
    (also (record { line = ltb-true 2 3 refl; meets = tt; outcome = (refl, refl) })
    (also (record { line = ltb-true 2 3 refl; meets = tt; outcome = (refl, refl) }) tt))))))

abbrev run : List Stop
run = coming ++ talking ++ listening

run-goes : Goes her_house run
run-goes =
    goes-both her_house (coming ++ talking) listening (goes-both her_house coming talking coming-goes talking-goes) listening-goes

run-allowed : AreAllowed her_house run
run-allowed =
    allowed-both her_house (coming ++ talking) listening (allowed-both her_house coming talking coming-allowed talking-allowed) listening-allowed

told-so : turns run ≡ talk
told-so = refl

pub sent : AreSaid
sent = record { enter = enter-sent; say = say-sent }

pub legal : Legal her_house talk
legal = legal-of her_house run talk told-so run-goes run-allowed

-- What it tells.

at-the-end : after her_house talk ≡ talk24
at-the-end = after-of her_house run talk told-so run-goes

pub lines-are : lines her_house talk 1 ≡ 1 ∷ 3 ∷ []
lines-are = told-of (joined 1) her_house run talk told-so run-goes

given-are : told (given 1) her_house talk
    ≡ gave 1 desk_enters ∷ gave 1 no_subject ∷ gave 1 phone_enters ∷ gave 1 (said 2) ∷ gave 3 (said 2) ∷ gave 3 (said 3) ∷ []
given-are = told-of (given 1) her_house run talk told-so run-goes

taken-are : told (taken 1) her_house talk ≡ came 1 enter ∷ []
taken-are = told-of (taken 1) her_house run talk told-so run-goes

pub before : carried her_house talk 1 1 ≡ desk_enters ∷ no_subject ∷ phone_enters ∷ said 2 ∷ []
before = ap (entries_of 1) given-are

pub again : carried her_house talk 1 3 ≡ said 2 ∷ said 3 ∷ []
again = ap (entries_of 3) given-are

pub handled-is : handled her_reading her_house talk 1 ≡ desk_enters ∷ no_subject ∷ phone_enters ∷ said 2 ∷ said 3 ∷ []
handled-is = both-handled her_reading her_house 1 talk 1 3 _ _ lines-are before again

pub counted-is : counted her_house talk 1 ≡ desk_enters ∷ no_subject ∷ phone_enters ∷ said 2 ∷ said 3 ∷ []
counted-is = queued-at her_reading her_house 1 talk talk24 at-the-end

pub heard-is : live_of 1 (handled her_reading her_house talk 1) ≡ desk_enters ∷ phone_enters ∷ said 2 ∷ said 3 ∷ []
heard-is = ap (live_of 1) handled-is

pub run-is : run_of her_house talk 1 1 ≡ desk_enters ∷ phone_enters ∷ said 2 ∷ said 3 ∷ []
run-is = sym (gapless her_house talk starts 1 1) ∙ ap (λ q. live_of 1 (q.world.sessions 1).traffic.queued) at-the-end

pub seats : seats_in (after her_house talk).world.rooms ≡ (1 ∷ 2 ∷ []) ∷ []
seats = ap (λ q. seats_in q.world.rooms) at-the-end

-- Its client counts.

sent-before : (j c : ℕ) → slice_get (1 ∷ []) j ≡ Some c → after_one j + length (stanzas_of c (came 1 enter ∷ [])) ≤ 1
sent-before zero c is = subst (λ (n : ℕ). 0 + length (stanzas_of n (came 1 enter ∷ [])) ≤ 1) (some_is 1 c is) (leb-true 1 1 refl)
sent-before (suc j) c is = absurd (cc)

line-fits-at : (i c : ℕ) → slice_get (1 ∷ 3 ∷ []) i ≡ Some c → LineFits her_reading her_house talk 1 i c
line-fits-at zero c is =
    subst (LineFits her_reading her_house talk 1 0) (some_is 1 c is)
    (line-fits her_reading her_house 1 talk 0 1 _ (enter ∷ []) before (ap (stanzas_of 1) taken-are) (leb-true 3 4 refl) ([], refl))
line-fits-at (suc zero) c is =
    subst (LineFits her_reading her_house talk 1 1) (some_is 3 c is)
    (line-fits her_reading her_house 1 talk 1 3 _ [] again (ap (stanzas_of 3) taken-are) (leb-true 2 2 refl) ([], refl))
line-fits-at (suc (suc i)) c is = absurd (cc)

resume-there : ResumesThere her_reading her_house 1 talk20 (log_along her_reading her_house 1 nothing her_house (coming ++ talking ++ take 3 listening)) 0 3
unfolding number number_among
resume-there = record {
  counts = refl;
  lowest = refl;
  sent = sent-before;
  has = leb-true 1 1 refl;
  near = ltb-true 1 (2 ^ 32) refl;
  begins = refl;
}

coming-fit : AllFit her_reading her_house 1 her_house nothing 0 coming 0
coming-fit =
    with_said 0 (λ g l. refl)
    (with_said 0 (λ g l. refl)
    (with_said 0 (λ g l. refl)
    (with_said 0 (λ g l. refl)
    (with_said 0 (λ g l. refl)
    (with_said 0 (λ g l. refl)
    (with_said 0 (λ g l. refl) refl))))))

talking-fit : AllFit her_reading her_house 1 state7 (log_along her_reading her_house 1 nothing her_house coming) 0 talking 0
talking-fit =
    with_said 0 (act-fits her_reading her_house 1 _ _ _ 0 1 0 enter (Made reply.Done []) refl refl refl refl)
    (with_said 0 (λ g l. refl)
    (with_said 0 (λ g l. refl)
    (with_said 0 (λ g l. refl)
    (with_said 0 (λ g l. refl)
    (with_said 0 (other-fits her_reading her_house 1 _ _ _ 1 2 2 0 enter (Made reply.Done []) refl refl)
    (with_said 0 (λ g l. refl)
    (with_said 0 (other-fits her_reading her_house 1 _ _ _ 1 2 2 0 say (Made reply.Done []) refl refl)
    (with_said 0 (λ g l. refl)
    (with_said 0 (λ g l. refl) refl)))))))))

listening-fit : AllFit her_reading her_house 1 talk17 (log_along her_reading her_house 1 nothing her_house (coming ++ talking)) 0 listening 3
listening-fit =
    with_said 0 (other-fits her_reading her_house 1 _ _ _ 1 2 2 0 say (Made reply.Done []) refl refl)
    (with_said 0 (λ g l. refl)
    (with_said 0 (λ g l. refl)
    (with_said 3 (resume-fits her_reading her_house 1 _ _ 0 2 3 0 3 her_id [] refl resume-there refl)
    (with_said 3 (λ g l. refl)
    (with_said 3 (λ g l. refl)
    (with_said 3 (λ g l. refl) refl))))))

run-fits : AllFit her_reading her_house 1 her_house nothing 0 run 3
run-fits =
    fit-both her_reading her_house 1 her_house nothing 0 0 3 (coming ++ talking) listening
    (fit-both her_reading her_house 1 her_house nothing 0 0 0 coming talking coming-fit talking-fit) listening-fit

pub account : IsAccountOf her_reading her_house talk 1
account = record {
  first = refl;
  lines = λ i c is. line-fits-at i c (subst (λ ls. slice_get ls i ≡ Some c) lines-are is);
  turns = fits-of her_reading her_house 1 run talk 3 told-so run-goes run-fits;
}
