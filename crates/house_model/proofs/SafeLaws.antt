-- The promises, of every legal history.
use Rattle.std.proofs.Common.{◌≡◌, ℕ, ◌+◌, List, [], ◌∷◌, ◌++◌, drop, Option, Some, None, Bool, true, false}
use Rattle.std.proofs.Common.{eq-eqb, refl, sym, ap, ◌∙◌, subst, true≢false, if◌then◌else◌}
use Rattle.stanza_tree.specs.declared.frame.Entry.{Entry}
use Rattle.stanza_model.specs.declared.stanza.Stanza.{Stanza}
use Rattle.sm_counters.specs.Numbers.{count_of}
use Rattle.sm_resume.specs.declared.id.ResumeId.{ResumeId}
use Rattle.sm_account.specs.Prefixes.{IsPrefixOf}
use Rattle.sm_account.specs.Sessions as one
use Rattle.sm_account.specs.Sessions.{Core}
use Rattle.sm_account.specs.Connections as alone
use Rattle.sm_account.specs.Connections.{Connection, connections}
use Rattle.sm_account.specs.Logs.{AllAre}
use Rattle.sm_account.specs.Accounts.{Account}
use Rattle.sm_account.proofs.Carried.{carries_from}
use Rattle.house_model.specs.declared.event.Event.TheVariants as event
use Rattle.house_model.specs.declared.reply.Reply.{Reply}
use Rattle.house_model.specs.Sessions.{Hold, Held, Away, Ended, Gone}
use Rattle.house_model.specs.States.{State, keep}
use Rattle.house_model.specs.Gate.{Verdict}
use Rattle.house_model.specs.Steps.{verdict, turn}
use Rattle.house_model.specs.Histories.{Made, Turn, made, step, next, after, Legal, IsOpening}
use Rattle.house_model.specs.Bridge.{hold_of, core_of, effects_ops, turn_ops, ops_of, alone_of}
use Rattle.house_model.specs.Lines.{carried, arrivals}
use Rattle.house_model.specs.Resuming.{InTurn, is_live, IsNotFound, IsResumed}
use Rattle.house_model.specs.Accounts.{IsAccountOf, total_handled}
use Rattle.house_model.specs.Promises.{session_in, can_resume, number_of, too_high, reply_to, CarriesFrom, Resumption, Safe}
use Rattle.house_model.proofs.TurnLaws.{always_sound}
use Rattle.house_model.proofs.Cores.{alone_core}
use Rattle.house_model.proofs.Prefixes.{handled_is, acted_is, count_is_named}
use Rattle.house_model.proofs.Resumes.{finds, unread_fails, unfound_fails, high_is, effects_are, resumed_is, finds_live, finds_counts}
use Rattle.house_model.proofs.Joins.{GoesOn, taken_answers}
use Rattle.house_model.proofs.Holding.{holds_from}
use Rattle.house_model.proofs.EndingLaws.{endings_are}
use Rattle.house_model.proofs.ClosingLaws.{closings_are}
use Rattle.house_model.proofs.GivenIds.{can_is}
use Rattle.house_model.proofs.Partings.{departs_is}
use Rattle.house_model.proofs.LineLaws.{shares_are, counts_alone}
use Rattle.house_model.proofs.AccountLaws.{ops_append}
use Rattle.house_model.proofs.HandledRuns.{handled_runs}
use Rattle.house_model.proofs.StayVerdicts.{gapless}
use Rattle.house_model.proofs.QueueLaws.{queueing}
use Rattle.house_model.proofs.FullLaws.{deliveries}
use Rattle.house_model.proofs.ArchiveTurns.{archives_are_kept}
use Rattle.house_model.proofs.PageWalks.{pages_tell_all}

-- a Resume in turn
fails : (o : State) (h : List Turn) → IsOpening o → Legal o h → (w c user count t : ℕ) (id : Option ResumeId)
    → InTurn (after o h) w c user → can_resume o h user id ≡ false
    → IsNotFound (after o h) w (step (after o h) (event.Resume w id count t))
fails o h starts legal w c user count t None turn can = unread_fails (after o h) w c user count t turn
fails o h starts legal w c user count t (Some id) turn can =
    unfound_fails (after o h) w c user id count t (always_sound o h starts) turn
    (sym (can_is o h user id starts legal) ∙ can)

found : (o : State) (h : List Turn) → IsOpening o → Legal o h → (user : ℕ) (id : ResumeId)
    → can_resume o h user (Some id) ≡ true → finds (after o h) id user (session_in o h id.session) ≡ true
found o h starts legal user id can = sym (can_is o h user id starts legal) ∙ can

miscounts : (o : State) (h : List Turn) → IsOpening o → Legal o h → (w c user count t : ℕ) (id : ResumeId)
    → InTurn (after o h) w c user → can_resume o h user (Some id) ≡ true
    → number_of (session_in o h id.session).traffic count ≡ None
    → reply_to o h (event.Resume w (Some id) count t) ≡ too_high (session_in o h id.session).traffic count
miscounts o h starts legal w c user count t id turn can none =
    high_is (after o h) w c user id count t (always_sound o h starts) turn (found o h starts legal user id can) none

resumes : (o : State) (h : List Turn) → IsOpening o → Legal o h → (w c user count t n : ℕ) (id : ResumeId)
    → InTurn (after o h) w c user → can_resume o h user (Some id) ≡ true
    → number_of (session_in o h id.session).traffic count ≡ Some n
    → IsResumed (after o h) w c ((session_in o h id.session).traffic.base_out + n) id (step (after o h) (event.Resume w (Some id) count t))
resumes o h starts legal w c user count t n id in_turn can has =
    let it = found o h starts legal user id can in
    let sound = always_sound o h starts in
    let goes : GoesOn (after o h) w c user id count
    (verdict (keep (turn (event.Resume w (Some id) count t) (after o h))) (event.Resume w (Some id) count t)) =
    record { n = n; found = it; has = has; is = effects_are (after o h) w c user id count t n sound in_turn it has } in
    record {
      resumed = resumed_is (after o h) w c user id count t n sound in_turn it has;
      answers = taken_answers (after o h) w c user id count _ goes;
      bound = holds_from o h starts w c user count t id in_turn.logged goes;
    }

-- what the new connection carries
resume_ops : (o : State) (h : List Turn) → IsOpening o → Legal o h → (w c user count t n : ℕ) (id : ResumeId) (r : Reply)
    → InTurn (after o h) w c user → can_resume o h user (Some id) ≡ true
    → number_of (session_in o h id.session).traffic count ≡ Some n
    → turn_ops id.session (after o h) (event.Resume w (Some id) count t) (Made r []) ≡ one.Resume c count ∷ []
resume_ops o h starts legal w c user count t n id r turn can has =
    ap (λ (v : Verdict). effects_ops id.session (after o h).world v.effects)
    (effects_are (after o h) w c user id count t n (always_sound o h starts) turn (found o h starts legal user id can) has)
    ∙ (ap (λ (b : Bool). (if b then one.Resume c count ∷ [] else []) ++ []) (eq-eqb id.session id.session refl))

live_one : (m : Hold) → is_live m ≡ true → hold_of m ≡ one.Ended → ⊥
live_one (Held w c) live bad = cc
live_one Away live bad = cc
live_one (Ended cause) live bad = true≢false (sym live)
live_one Gone live bad = true≢false (sym live)

share_of : (f : ℕ → List Entry) (g : ℕ → List Stanza) (newer : List (Connection Stanza)) (x : Connection Stanza)
    (before : List (Connection Stanza)) → AllAre f g (newer ++ x ∷ before) → x.carried ≡ f x.number
share_of f g [] x before all = all.0
share_of f g (y ∷ ys) x before all = share_of f g ys x before all.2

carries_on : (o : State) (g : List Turn) (s c place : ℕ) (before : List (Connection Stanza)) → IsOpening o → Legal o g
    → alone.CarriesFrom place c before (alone_of s o g)
    → IsPrefixOf (carried o g s c) (drop place (session_in o g s).traffic.queued)
carries_on o g s c place before starts legal r =
    let all : AllAre (carried o g s) (arrivals o g s) (r.newer ++ (r.one ∷ before)) =
    subst (AllAre (carried o g s) (arrivals o g s)) r.all (shares_are o g s starts legal) in
    let mine : r.one.carried ≡ carried o g s c =
    share_of (carried o g s) (arrivals o g s) r.newer r.one before all ∙ ap (carried o g s) r.is_it in
    subst (λ (es : List Entry). IsPrefixOf es (drop place (session_in o g s).traffic.queued)) mine
    (subst (λ (x : Core Stanza). IsPrefixOf r.one.carried (drop place x.queued)) (sym (alone_core o g s starts)) r.carries)

carries : (o : State) (h : List Turn) → IsOpening o → Legal o h → (w c user count t n : ℕ) (id : ResumeId)
    → InTurn (after o h) w c user → can_resume o h user (Some id) ≡ true
    → number_of (session_in o h id.session).traffic count ≡ Some n
    → CarriesFrom o h (event.Resume w (Some id) count t) id.session c ((session_in o h id.session).traffic.base_out + n)
carries o h starts legal w c user count t n id turn can has more all_legal =
    carries_on o (h ++ x ∷ more) s c place (connections (alone_of s o h).trace) starts all_legal
    (subst (λ (y : alone.Session Stanza). alone.CarriesFrom place c (connections (alone_of s o h).trace) y)
    (ap alone.after (sym split))
    (subst (λ (y : Core Stanza). alone.CarriesFrom (y.base_out + n) c (connections (alone_of s o h).trace)
    (alone.after (ops_of s o h ++ one.Resume c count ∷ ops_of s (next (after o h) x) more)))
    (sym core)
    (carries_from (ops_of s o h) (ops_of s (next (after o h) x) more) c count n
    (counts_alone o h s starts (finds_counts (after o h) id user (session_in o h s) it))
    (λ bad. live_one (session_in o h s).hold (finds_live (after o h) id user (session_in o h s) it)
    (ap (λ (y : Core Stanza). y.hold) core ∙ bad))
    (ap (λ (y : Core Stanza). one.named y count) (sym core) ∙ has))))
  where
    s : ℕ
    s = id.session

    it : finds (after o h) id user (session_in o h s) ≡ true
    it = found o h starts legal user id can

    core : core_of (session_in o h s) ≡ (alone_of s o h).core
    core = alone_core o h s starts

    place : ℕ
    place = (session_in o h s).traffic.base_out + n

    x : Turn
    x = made (event.Resume w (Some id) count t) (reply_to o h (event.Resume w (Some id) count t)) []

    split : ops_of s o (h ++ x ∷ more) ≡ ops_of s o h ++ one.Resume c count ∷ ops_of s (next (after o h) x) more
    split =
        ops_append s o h (x ∷ more)
        ∙ ap (λ (l : List (one.Op Stanza)). ops_of s o h ++ (l ++ ops_of s (next (after o h) x) more))
        (resume_ops o h starts legal w c user count t n id (reply_to o h (event.Resume w (Some id) count t)) turn can has)

counts : (o : State) (h : List Turn) → IsOpening o → Legal o h → (w c user t : ℕ) (id : ResumeId) (a : Account Stanza)
    → InTurn (after o h) w c user → can_resume o h user (Some id) ≡ true → IsAccountOf a o h id.session
    → IsResumed (after o h) w c ((session_in o h id.session).traffic.base_out + total_handled a o h id.session) id
    (step (after o h) (event.Resume w (Some id) (count_of (total_handled a o h id.session)) t))
counts o h starts legal w c user t id a turn can is =
    resumes o h starts legal w c user (count_of (total_handled a o h id.session)) t (total_handled a o h id.session) id
    turn can
    (count_is_named o h id.session a starts legal is
    (finds_counts (after o h) id user (session_in o h id.session) (found o h starts legal user id can)))

pub resumption : (o : State) (h : List Turn) → IsOpening o → Legal o h → Resumption o h
resumption o h starts legal = record {
  fails = fails o h starts legal;
  miscounts = miscounts o h starts legal;
  resumes = resumes o h starts legal;
  carries = carries o h starts legal;
  counts = counts o h starts legal;
  departs = departs_is (after o h);
}

pub safe : (o : State) (h : List Turn) → IsOpening o → Legal o h → Safe o h
safe o h starts legal = record {
  handled_prefix = λ s a is. handled_is o h s a starts legal is;
  acted_once = λ s a is. acted_is o h s a starts legal is;
  resumption = resumption o h starts legal;
  gapless = gapless o h starts;
  gapless_handled = λ s i a is. handled_runs o h s i a starts legal is;
  endings = endings_are o h starts legal;
  closings = closings_are o h starts;
  queueing = queueing o h starts;
  deliveries = deliveries o h starts;
  archived = archives_are_kept o h starts;
  paged = pages_tell_all o h starts;
}
