-- The frames that the history says were pulled for a session that doesn't count are those that its own operations give.
use Rattle.std.proofs.Common.{◌≡◌, ℕ, List, [], ◌∷◌, ◌++◌, Option, Some, None, Bool, true, false, eqb, refl, sym, ap, ◌∙◌}
use Rattle.std.proofs.Common.{append-nil, subst, true≢false, if◌then◌else◌}
use Rattle.std.specs.Prelude.{nat_lt, slice_get, ◌&&◌}
use Rattle.std.proofs.lemmas.Bool.{eqb-true}
use Rattle.stanza_tree.specs.declared.frame.Entry.{Entry}
use Rattle.stanza_tree.specs.Entries.{frame}
use Rattle.stanza_model.specs.declared.stanza.Stanza.{Stanza}
use Rattle.sm_resume.specs.declared.decision.Cause.{Cause}
use Rattle.session_table.specs.declared.line.Line as stage
use Rattle.session_table.specs.declared.line.Line.TheVariants.{Empty, Fresh, Logged, Bound, Over}
use Rattle.sm_account.specs.Sessions as one
use Rattle.sm_account.specs.Sessions.{Core, core_run}
use Rattle.sm_account.specs.Logs.{log_of}
use Rattle.sm_account.proofs.Logs.{log_append}
use Rattle.house_model.specs.declared.answer.Answer.{Answer}
use Rattle.house_model.specs.declared.event.Event.{Event}
use Rattle.house_model.specs.declared.event.Event.TheVariants as event
use Rattle.house_model.specs.declared.reply.Reply.TheVariants as reply
use Rattle.house_model.specs.Sessions.{Session, Request}
use Rattle.house_model.specs.Traffic.{KeptTraffic, kept_sent}
use Rattle.house_model.specs.States.{World, State, Kept, keep, keep_world}
use Rattle.house_model.specs.Effects.{On}
use Rattle.house_model.specs.Answers.{request_text}
use Rattle.house_model.specs.Gate.{Verdict, Waits, Knows, Holds, to_pull, gate_at}
use Rattle.house_model.specs.Steps.{requests, gives_entry, pulls, turn}
use Rattle.house_model.specs.Histories.{Outcome, Made, Short, Turn, next, after, IsOutcome, Legal, IsOpening}
use Rattle.house_model.specs.Sound.{Sound}
use Rattle.house_model.specs.Bridge.{core_of, effects_ops, turn_ops, ops_of}
use Rattle.house_model.specs.Lines.{told}
use Rattle.house_model.specs.Uncounted.{frame_by, frame_given, FramesAreTheQueue}
use Rattle.house_model.proofs.TrafficLemmas.{given_is}
use Rattle.house_model.proofs.TurnLaws.{next_sound, starts_sound}
use Rattle.house_model.proofs.Cores.{next_core, after_core, starts_unmade}
use Rattle.house_model.proofs.Ears.{effects_quiet}
use Rattle.house_model.proofs.Told.{silent, short_silent, core_held}
use Rattle.house_model.proofs.Hearing.{kept_held, pull_ear}
use Rattle.house_model.proofs.AccountLaws.{run_counts}
use Rattle.house_model.proofs.Fronts.{frames_of, shows_if, shows, shows_quiet, front_if, front, all_front}

-- one Pull; the line is w, at stage g

abbrev FramesSame : ℕ → State → stage.Line → List Answer → Verdict → Type 0
FramesSame k st g answers v = frame_by k g answers v.reply v.text
    ≡ log_of shows (core_of (st.world.sessions k)) (effects_ops k st.world v.effects)

-- a session that a connection holds gives the next entry
held_shows : (m : one.Hold) (s : Core Stanza) (c : ℕ) (e : Entry) → m ≡ one.Held c → one.next_entry s ≡ Some e
    → frame e ∷ [] ≡ shows_if false m s one.Pull
held_shows m s c e held is = sym (ap (λ (h : one.Hold). shows_if false h s one.Pull) held ∙ ap frames_of is)

module _ (k : ℕ) (st : State) (o : Sound st.world) (none : (st.world.sessions k).counts ≡ false) where
  abbrev core : Core Stanza
  core = core_of (st.world.sessions k)

  entry_shown : (b : Bool) (w c s : ℕ) (e : Entry) → eqb k s ≡ b → (st.world.lines w).stage ≡ Bound c s
      → slice_get (st.world.sessions s).traffic.queued (st.world.sessions s).traffic.sent ≡ Some e
      → (if b then frame e ∷ [] else []) ≡ log_of shows core (if b then one.Pull ∷ [] else [])
  entry_shown true w c s e same is has =
      held_shows core.hold core c e
      (subst (λ (i : ℕ). (core_of (st.world.sessions i)).hold ≡ one.Held c) (sym (eqb-true k s same)) (core_held st w c s o is))
      (subst (λ (i : ℕ). one.next_entry (core_of (st.world.sessions i)) ≡ Some e) (sym (eqb-true k s same)) has)
      ∙ (ap (λ (b : Bool). shows_if b core.hold core one.Pull) (sym none) ∙ sym (append-nil _))
  entry_shown false w c s e same is has = refl

  -- only a session that counts is asked for its count
  not_asked : (b : Bool) (s : ℕ) → eqb k s ≡ b → (st.world.sessions s).counts ≡ true → (if b then request_text ∷ [] else []) ≡ []
  not_asked true s same counts =
      absurd (true≢false (sym counts ∙ (ap (λ (i : ℕ). (st.world.sessions i).counts) (sym (eqb-true k s same)) ∙ none)))
  not_asked false s same counts = refl

  request_shown : (b : Bool) (c s : ℕ) (kept : Kept) → (b ≡ true → (st.world.sessions s).counts ≡ true)
      → FramesSame k st (Bound c s) [] (requests b kept s)
  request_shown true c s kept counts =
      not_asked (eqb k s) s refl (counts refl)
      ∙ sym (effects_quiet pull_ear shows k st.world (On s Request ∷ []) core shows_quiet (refl, tt))
  request_shown false c s kept counts = refl

  first : (a b : Bool) → (a && b) ≡ true → a ≡ true
  first true b is = refl
  first false b is = is

  next_shown : (w c s : ℕ) (kept : Kept) (x : Session KeptTraffic) (e : Option Entry) → (st.world.lines w).stage ≡ Bound c s
      → x.counts ≡ (st.world.sessions s).counts
      → slice_get (st.world.sessions s).traffic.queued (st.world.sessions s).traffic.sent ≡ e
      → FramesSame k st (Bound c s) [] (gives_entry e kept s x)
  next_shown w c s kept x (Some e) is same has =
      entry_shown (eqb k s) w c s e refl is has ∙ ap (log_of shows core) (sym (append-nil _))
  next_shown w c s kept x None is same has =
      request_shown (x.counts && nat_lt x.traffic.asked_at (kept_sent x.traffic)) c s kept
      (λ asks. sym same ∙ first x.counts (nat_lt x.traffic.asked_at (kept_sent x.traffic)) asks)

  held_shown : (w c s : ℕ) (kept : Kept) (answers : List Answer) → (st.world.lines w).stage ≡ Bound c s
      → (kept.world.sessions s).counts ≡ (st.world.sessions s).counts
      → slice_get (st.world.sessions s).traffic.queued (st.world.sessions s).traffic.sent
      ≡ slice_get (kept.world.sessions s).traffic.waiting (kept.world.sessions s).traffic.given
      → FramesSame k st (Bound c s) answers (pulls kept w answers (Holds c s))
  held_shown w c s kept (a ∷ more) is same has = refl
  held_shown w c s kept [] is same has =
      next_shown w c s kept (kept.world.sessions s)
      (slice_get (kept.world.sessions s).traffic.waiting (kept.world.sessions s).traffic.given) is same has

  idle_shown : (w c : ℕ) (kept : Kept) (answers : List Answer) → FramesSame k st (Fresh c) answers (pulls kept w answers Waits)
  idle_shown w c kept [] = refl
  idle_shown w c kept (a ∷ more) = refl

  knows_shown : (w c u : ℕ) (kept : Kept) (answers : List Answer) → FramesSame k st (Logged c u) answers (pulls kept w answers (Knows c u))
  knows_shown w c u kept [] = refl
  knows_shown w c u kept (a ∷ more) = refl

  absent_shown : (answers : List Answer) → frame_by k Empty answers reply.Absent [] ≡ []
  absent_shown [] = refl
  absent_shown (a ∷ more) = refl

  over_shown : (c : ℕ) (cause : Cause) (answers : List Answer) → frame_by k (Over c cause) answers (reply.Over cause) [] ≡ []
  over_shown c cause [] = refl
  over_shown c cause (a ∷ more) = refl

  stage_shown : (w : ℕ) (kept : Kept) (g : stage.Line) → (st.world.lines w).stage ≡ g → kept.world ≡ keep_world st.world
      → FramesSame k st g (st.world.lines w).answers (pulls kept w (st.world.lines w).answers (gate_at to_pull kept w (st.world.lines w) g))
  stage_shown w kept Empty is same = absent_shown (st.world.lines w).answers
  stage_shown w kept (Over c cause) is same = over_shown c cause (st.world.lines w).answers
  stage_shown w kept (Fresh c) is same = idle_shown w c kept (st.world.lines w).answers
  stage_shown w kept (Logged c u) is same = knows_shown w c u kept (st.world.lines w).answers
  stage_shown w kept (Bound c s) is same =
      held_shown w c s kept (st.world.lines w).answers is
      (ap (λ (y : World KeptTraffic). (y.sessions s).counts) same
      ∙ ap (λ (y : Session KeptTraffic). y.counts) (kept_held st w c s o is))
      (sym (given_is (st.world.sessions s).traffic (o.ordered s))
      ∙ (ap (λ (y : Session KeptTraffic). slice_get y.traffic.waiting y.traffic.given) (sym (kept_held st w c s o is))
      ∙ ap (λ (y : World KeptTraffic). slice_get (y.sessions s).traffic.waiting (y.sessions s).traffic.given) (sym same)))

-- a turn, and a history

turn_shown : (k : ℕ) (st : State) (e : Event) (x : Outcome) → Sound st.world → (st.world.sessions k).counts ≡ false → IsOutcome st e x
    → frame_given k st e x ≡ log_of shows (core_of (st.world.sessions k)) (turn_ops k st e x)
turn_shown k st (event.Pull w t) (Made r text) o none is =
    (λ i. frame_by k (st.world.lines w).stage (st.world.lines w).answers (is.0 i) (is.1 i))
    ∙ stage_shown k st o none w (keep (turn (event.Pull w t) st)) (st.world.lines w).stage refl refl
turn_shown k st (event.Act w x t) Short o none is =
    short_silent shows k _ x (st.world.lines w).stage (shows_quiet (core_of (st.world.sessions k)) (one.Short x) refl)
turn_shown k st e (Made r text) o none is = silent pull_ear shows k st e shows_quiet refl
turn_shown k st e Short o none is = refl

-- a session that doesn't count never did
never_counted : (k : ℕ) (st : State) (h : List Turn) → Sound st.world → ((after st h).world.sessions k).counts ≡ false
    → (st.world.sessions k).counts ≡ false
never_counted k st h o none = by_counts (st.world.sessions k).counts refl
  where
    by_counts : (b : Bool) → (st.world.sessions k).counts ≡ b → b ≡ false
    by_counts true counts =
        absurd (true≢false (sym (run_counts (core_of (st.world.sessions k)) (ops_of k st h) counts)
        ∙ (ap (λ (x : Core Stanza). x.counts) (sym (after_core k st h o)) ∙ none)))
    by_counts false counts = refl

told_shown : (k : ℕ) (st : State) (h : List Turn) → Sound st.world → Legal st h → ((after st h).world.sessions k).counts ≡ false
    → told (frame_given k) st h ≡ log_of shows (core_of (st.world.sessions k)) (ops_of k st h)
told_shown k st [] o legal none = refl
told_shown k st (x ∷ more) o legal none =
    ap (λ (l : List (List ℕ)). l ++ told (frame_given k) (next st x) more)
    (turn_shown k st x.event x.outcome o (never_counted k st (x ∷ more) o none) legal.0.outcome)
    ∙ (ap (λ (l : List (List ℕ)). log_of shows (core_of (st.world.sessions k)) (turn_ops k st x.event x.outcome) ++ l)
    (told_shown k (next st x) more (next_sound st x o) legal.1 none
    ∙ ap (λ (s : Core Stanza). log_of shows s (ops_of k (next st x) more)) (next_core k st x o))
    ∙ sym (log_append shows (core_of (st.world.sessions k)) (turn_ops k st x.event x.outcome) (ops_of k (next st x) more)))

pub frames_are_the_queue : (o : State) (h : List Turn) → IsOpening o → Legal o h → FramesAreTheQueue o h
frames_are_the_queue o h starts legal s none =
    let x : Core Stanza = core_of ((after o h).world.sessions s) in
    told_shown s o h (starts_sound o starts) legal none
    ∙ (ap (λ (y : Core Stanza). log_of shows y (ops_of s o h)) (starts_unmade o s starts)
    ∙ (all_front (ops_of s o h)
    ∙ (ap (λ (y : Core Stanza). front (core_run y (ops_of s o h))) (sym (starts_unmade o s starts))
    ∙ (ap front (sym (after_core s o h (starts_sound o starts)))
    ∙ ap (λ (b : Bool). front_if b x.queued x.sent x.base_out) none))))
