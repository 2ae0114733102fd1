-- What the history says was given on a session's connections is what the session's own operations tell.
use Rattle.std.proofs.Common.{◌≡◌, ℕ, List, [], ◌∷◌, Option, Some, None, Bool, true, false, eqb, refl, sym, ap, ◌∙◌, true≢false, if◌then◌else◌}
use Rattle.std.specs.Prelude.{nat_lt, slice_get, ◌&&◌}
use Rattle.std.proofs.lemmas.Bool.{eqb-true}
use Rattle.stanza_tree.specs.declared.frame.Entry.{Entry}
use Rattle.stanza_tree.specs.Entries.{frame}
use Rattle.stanza_model.specs.declared.stanza.Stanza.{Stanza}
use Rattle.sm_resume.specs.declared.decision.Cause.{Cause}
use Rattle.session_table.specs.declared.line.Line as stage
use Rattle.session_table.specs.declared.line.Line.TheVariants.{Empty, Fresh, Logged, Bound, Over}
use Rattle.sm_account.specs.Sessions as one
use Rattle.sm_account.specs.Sessions.{Core}
use Rattle.sm_account.specs.Logs as log
use Rattle.sm_account.specs.Logs.{Given, log_of, given_of}
use Rattle.house_model.specs.declared.answer.Answer.{Answer}
use Rattle.house_model.specs.declared.event.Event.TheVariants as event
use Rattle.house_model.specs.declared.reply.Reply.TheVariants as reply
use Rattle.house_model.specs.Sessions.{Hold, Held, Session, Pull, Request, session}
use Rattle.house_model.specs.Traffic.{KeptTraffic, keep_traffic, kept_sent}
use Rattle.house_model.specs.States.{World, State, Kept, keep, keep_by, keep_session, keep_world}
use Rattle.house_model.specs.Effects.{On}
use Rattle.house_model.specs.Gate.{Verdict, Waits, Knows, Holds, to_pull, gate_at}
use Rattle.house_model.specs.Steps.{requests, gives_entry, pulls, verdict, turn}
use Rattle.house_model.specs.Histories.{Made, Short, step}
use Rattle.house_model.specs.Sound.{Sound}
use Rattle.house_model.specs.Bridge.{core_of, effects_ops}
use Rattle.house_model.specs.Lines.{while_counted, holding, given_by, given}
use Rattle.house_model.proofs.TrafficLemmas.{given_is}
use Rattle.house_model.proofs.Ears.{Ear, tells, IsQuiet, effects_quiet}
use Rattle.house_model.proofs.Told.{TurnIs, silent, short_silent, heard}

-- what is kept of a session that a line holds
pub kept_held : (st : State) (w c s : ℕ) → Sound st.world → (st.world.lines w).stage ≡ Bound c s
    → keep_session (st.world.sessions s)
    ≡ session (st.world.sessions s).counts (Held w c) (keep_traffic (st.world.sessions s).traffic)
    (st.world.sessions s).rest
kept_held st w c s o is =
    ap (λ (m : Hold). keep_by (st.world.sessions s).counts m (st.world.sessions s).traffic (st.world.sessions s).rest)
    (o.tied w c s is)

-- Pull
abbrev pub pull_ear : Ear
pull_ear =
    record { pull = true; act = false; ask = false; ack = false; enable = false; begin = false; resume = false; part = false }

gives_else : (b : Bool) (m : one.Hold) (s : Core Stanza) (op : one.Op Stanza) → tells pull_ear op ≡ false
    → log.gives_if b m s op ≡ []
gives_else b m s one.Pull is = absurd (true≢false is)
gives_else true (one.Held v) s op is = refl
gives_else true one.Away s op is = refl
gives_else true one.Ended s op is = refl
gives_else false m s op is = refl

gives_quiet : IsQuiet pull_ear log.gives
gives_quiet s op is = gives_else s.counts s.hold s op is

held_gives : (b : Bool) (m : one.Hold) (s : Core Stanza) (c : ℕ) → m ≡ one.Held c
    → while_counted b (given_of c (slice_get s.queued s.sent)) ≡ log.gives_if b m s one.Pull
held_gives false m s c is = refl
held_gives true m s c is = rw is refl

abbrev GivenSame : ℕ → State → ℕ → Verdict → Type 0
GivenSame k st w v = given_by k st w (st.world.lines w).answers v.reply
    ≡ log_of log.gives (core_of (st.world.sessions k)) (effects_ops k st.world v.effects)

-- what comes next for session k
abbrev next_given : ℕ → State → ℕ → List Given
next_given k st c = given_of c (slice_get (st.world.sessions k).traffic.queued (st.world.sessions k).traffic.sent)

none_given : (b : Bool) (k s c : ℕ) (st : State) → eqb k s ≡ b
    → slice_get (st.world.sessions s).traffic.queued (st.world.sessions s).traffic.sent ≡ None
    → (if b then while_counted (st.world.sessions k).counts (next_given k st c) else []) ≡ []
none_given true k s c st same none =
    ap (λ (e : Option Entry). while_counted (st.world.sessions k).counts (given_of c e))
    (ap (λ (i : ℕ). slice_get (st.world.sessions i).traffic.queued (st.world.sessions i).traffic.sent) (eqb-true k s same)
    ∙ none)
    ∙ nothing (st.world.sessions k).counts
  where
    nothing : (b : Bool) → while_counted {A = Given} b [] ≡ []
    nothing true = refl
    nothing false = refl
none_given false k s c st same none = refl

entry_given : (k w c s : ℕ) (st : State) (kept : Kept) (x : Session KeptTraffic) (e : Option Entry) → Sound st.world
    → (st.world.lines w).stage ≡ Bound c s
    → slice_get (st.world.sessions s).traffic.queued (st.world.sessions s).traffic.sent ≡ e
    → given_by k st w [] (gives_entry e kept s x).reply
    ≡ log_of log.gives (core_of (st.world.sessions k)) (effects_ops k st.world (gives_entry e kept s x).effects)
entry_given k w c s st kept x (Some e) o is has =
    heard pull_ear log.gives k w c s st Pull one.Pull [] (next_given k st) gives_quiet tt refl o is
    (λ held. held_gives (st.world.sessions k).counts _ (core_of (st.world.sessions k)) c held)
entry_given k w c s st kept x None o is has =
    requested (x.counts && nat_lt x.traffic.asked_at (kept_sent x.traffic))
  where
    requested : (b : Bool) → given_by k st w [] (requests b kept s).reply
        ≡ log_of log.gives (core_of (st.world.sessions k)) (effects_ops k st.world (requests b kept s).effects)
    requested true =
        ap (holding k st (next_given k st)) is
        ∙ (none_given (eqb k s) k s c st refl has
        ∙ sym (effects_quiet pull_ear log.gives k st.world (On s Request ∷ []) _ gives_quiet (refl, tt)))
    requested false = refl

held_pull : (k w c s : ℕ) (st : State) (kept : Kept) (answers : List Answer) → Sound st.world
    → (st.world.lines w).stage ≡ Bound c s
    → slice_get (st.world.sessions s).traffic.queued (st.world.sessions s).traffic.sent
    ≡ slice_get (kept.world.sessions s).traffic.waiting (kept.world.sessions s).traffic.given
    → given_by k st w answers (pulls kept w answers (Holds c s)).reply
    ≡ log_of log.gives (core_of (st.world.sessions k)) (effects_ops k st.world (pulls kept w answers (Holds c s)).effects)
held_pull k w c s st kept (a ∷ more) o is has = refl
held_pull k w c s st kept [] o is has =
    entry_given k w c s st kept (kept.world.sessions s)
    (slice_get (kept.world.sessions s).traffic.waiting (kept.world.sessions s).traffic.given) o is has

idle_pull : (k w : ℕ) (st : State) (kept : Kept) (answers : List Answer)
    → given_by k st w answers (pulls kept w answers Waits).reply
    ≡ log_of log.gives (core_of (st.world.sessions k)) (effects_ops k st.world (pulls kept w answers Waits).effects)
idle_pull k w st kept [] = refl
idle_pull k w st kept (a ∷ more) = refl

knows_pull : (k w c u : ℕ) (st : State) (kept : Kept) (answers : List Answer)
    → given_by k st w answers (pulls kept w answers (Knows c u)).reply
    ≡ log_of log.gives (core_of (st.world.sessions k)) (effects_ops k st.world (pulls kept w answers (Knows c u)).effects)
knows_pull k w c u st kept [] = refl
knows_pull k w c u st kept (a ∷ more) = refl

absent_gives : (k w : ℕ) (st : State) (answers : List Answer) → given_by k st w answers reply.Absent ≡ []
absent_gives k w st [] = refl
absent_gives k w st (a ∷ more) = refl

over_gives : (k w : ℕ) (st : State) (answers : List Answer) (cause : Cause)
    → given_by k st w answers (reply.Over cause) ≡ []
over_gives k w st [] cause = refl
over_gives k w st (a ∷ more) cause = refl

stage_pull : (k w t : ℕ) (st : State) (kept : Kept) (g : stage.Line) → Sound st.world → (st.world.lines w).stage ≡ g
    → kept.world ≡ keep_world st.world
    → GivenSame k st w (pulls kept w (st.world.lines w).answers (gate_at to_pull kept w (st.world.lines w) g))
stage_pull k w t st kept Empty o is same = absent_gives k w st (st.world.lines w).answers
stage_pull k w t st kept (Over c cause) o is same = over_gives k w st (st.world.lines w).answers cause
stage_pull k w t st kept (Fresh c) o is same = idle_pull k w st kept (st.world.lines w).answers
stage_pull k w t st kept (Logged c u) o is same = knows_pull k w c u st kept (st.world.lines w).answers
stage_pull k w t st kept (Bound c s) o is same =
    held_pull k w c s st kept (st.world.lines w).answers o is
    (sym (given_is (st.world.sessions s).traffic (o.ordered s))
    ∙ (ap (λ (y : Session KeptTraffic). slice_get y.traffic.waiting y.traffic.given) (sym (kept_held st w c s o is))
    ∙ ap (λ (y : World KeptTraffic). slice_get (y.sessions s).traffic.waiting (y.sessions s).traffic.given) (sym same)))

pull_given : (k w t : ℕ) (st : State) → Sound st.world
    → GivenSame k st w (verdict (keep (turn (event.Pull w t) st)) (event.Pull w t))
pull_given k w t st o = stage_pull k w t st (keep (turn (event.Pull w t) st)) (st.world.lines w).stage o refl refl

pub given_turn : (k : ℕ) → TurnIs log.gives (given k) k
given_turn k st (event.Pull w t) (Made r text) o is =
    ap (given_by k st w (st.world.lines w).answers) is.0 ∙ pull_given k w t st o
given_turn k st (event.Act w x t) Short o is =
    short_silent log.gives k _ x (st.world.lines w).stage (gives_quiet (core_of (st.world.sessions k)) (one.Short x) refl)
given_turn k st e (Made r text) o is = silent pull_ear log.gives k st e gives_quiet refl
given_turn k st e Short o is = refl

-- the text of the frame is the entry's
pub frame_is : (st : State) (w t c s : ℕ) (e : Entry) → Sound st.world → (st.world.lines w).stage ≡ Bound c s
    → (st.world.lines w).answers ≡ []
    → slice_get (st.world.sessions s).traffic.queued (st.world.sessions s).traffic.sent ≡ Some e
    → (step st (event.Pull w t)).text ≡ frame e
frame_is st w t c s e o is none has =
    let kept : Kept = keep (turn (event.Pull w t) st) in
    let x : Session KeptTraffic = kept.world.sessions s in
    ap (λ (g : stage.Line). (pulls kept w (st.world.lines w).answers (gate_at to_pull kept w (st.world.lines w) g)).text) is
    ∙ (ap (λ (l : List Answer). (pulls kept w l (Holds c s)).text) none
    ∙ ap (λ (y : Option Entry). (gives_entry y kept s x).text)
    (ap (λ (y : Session KeptTraffic). slice_get y.traffic.waiting y.traffic.given) (kept_held st w c s o is)
    ∙ (given_is (st.world.sessions s).traffic (o.ordered s) ∙ has)))
