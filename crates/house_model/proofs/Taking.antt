-- What the history says arrived for a session and was acted on, and what its client was told, is what the session's own
-- operations tell.
use Rattle.std.proofs.Common.{◌≡◌, ℕ, List, [], ◌∷◌, ◌++◌, length, drop, Bool, true, false, eqb, refl, sym, ap, ◌∙◌, true≢false, if◌then◌else◌}
use Rattle.std.proofs.lemmas.Bool.{eqb-true}
use Rattle.std.specs.Prelude.{map}
use Rattle.stanza_model.specs.declared.stanza.Stanza.{Stanza}
use Rattle.sm_resume.specs.declared.decision.Cause.TheVariants.{Flood}
use Rattle.session_table.specs.declared.line.Line as stage
use Rattle.session_table.specs.declared.line.Line.TheVariants.{Empty, Fresh, Logged, Bound, Over}
use Rattle.sm_account.specs.Sessions as one
use Rattle.sm_account.specs.Sessions.{Core}
use Rattle.sm_account.specs.Logs as log
use Rattle.sm_account.specs.Logs.{log_of}
use Rattle.muc_service.specs.Casting.{cast}
use Rattle.house_model.specs.declared.answer.Answer.TheVariants as answer
use Rattle.house_model.specs.declared.event.Event.TheVariants as event
use Rattle.house_model.specs.Sessions.{Session, Tell, Act}
use Rattle.house_model.specs.Traffic.{KeptTraffic, kept_inward}
use Rattle.house_model.specs.States.{State, Kept, keep}
use Rattle.house_model.specs.Effects.{At, Say, Close}
use Rattle.house_model.specs.Gate.{Verdict, Holds, to_act, to_ask, most_answers, is_full, flooded, left, gate_at}
use Rattle.house_model.specs.Routing.{effects}
use Rattle.house_model.specs.Steps.{effect_of, asks, body, turn}
use Rattle.house_model.specs.Histories.{Made, Short}
use Rattle.house_model.specs.Sound.{Sound}
use Rattle.house_model.specs.Bridge.{core_of, effects_ops, short_at}
use Rattle.house_model.specs.Lines.{while_counted, holding, taken_at, taken_by, taken, done_by, done, asked_by, asked}
use Rattle.house_model.proofs.Ears.{Ear, tells, IsQuiet, effects_quiet, plain_append}
use Rattle.house_model.proofs.Quiet.{left_plain, queued_plain}
use Rattle.house_model.proofs.Hearing.{kept_held}
use Rattle.house_model.proofs.Told.{TurnIs, silent, short_silent, held_if, heard}

-- Act
abbrev act_ear : Ear
act_ear =
    record { pull = false; act = true; ask = false; ack = false; enable = false; begin = false; resume = false; part = false }

takes_else : (b : Bool) (m : one.Hold) (op : one.Op Stanza) → tells act_ear op ≡ false → log.takes_if b m op ≡ []
takes_else b m (one.Act x) is = absurd (true≢false is)
takes_else b m (one.Short x) is = absurd (true≢false is)
takes_else true (one.Held v) op is = refl
takes_else true one.Away op is = refl
takes_else true one.Ended op is = refl
takes_else false m op is = refl

takes_quiet : IsQuiet act_ear log.takes
takes_quiet s op is = takes_else s.counts s.hold op is

held_takes : (b : Bool) (m : one.Hold) (c : ℕ) (x : Stanza) → m ≡ one.Held c
    → while_counted b (record { connection = c; stanza = x } ∷ []) ≡ log.takes_if b m (one.Act x)
held_takes false m c x is = refl
held_takes true m c x is = rw is refl

held_short : (b : Bool) (m : one.Hold) (c : ℕ) (x : Stanza) → m ≡ one.Held c
    → while_counted b (record { connection = c; stanza = x } ∷ []) ≡ log.takes_if b m (one.Short x)
held_short false m c x is = refl
held_short true m c x is = rw is refl

abbrev TakenSame : ℕ → State → ℕ → Stanza → Verdict → Type 0
TakenSame k st w x v = taken_by k st w x v.reply
    ≡ log_of log.takes (core_of (st.world.sessions k)) (effects_ops k st.world v.effects)

stage_taken : (k w : ℕ) (x : Stanza) (t : ℕ) (st : State) (kept : Kept) (g : stage.Line) → Sound st.world
    → (st.world.lines w).stage ≡ g
    → TakenSame k st w x (body kept (event.Act w x t) (gate_at to_act kept w (st.world.lines w) g))
stage_taken k w x t st kept Empty o is = refl
stage_taken k w x t st kept (Over c cause) o is = refl
stage_taken k w x t st kept (Fresh c) o is = refl
stage_taken k w x t st kept (Logged c u) o is = refl
stage_taken k w x t st kept (Bound c s) o is =
    heard act_ear log.takes k w c s st (Act x) (one.Act x)
    (map effect_of (cast kept.world.rooms (effects kept s x)))
    (λ c. record { connection = c; stanza = x } ∷ []) takes_quiet
    (queued_plain act_ear (cast kept.world.rooms (effects kept s x))) refl o is
    (λ held. held_takes (st.world.sessions k).counts _ c x held)

short_taken : (k w : ℕ) (x : Stanza) (st : State) (g : stage.Line) → Sound st.world → (st.world.lines w).stage ≡ g
    → taken_at k st w x ≡ log_of log.takes (core_of (st.world.sessions k)) (short_at k x g)
short_taken k w x st Empty o is = ap (holding k st _) is
short_taken k w x st (Over c cause) o is = ap (holding k st _) is
short_taken k w x st (Fresh c) o is = ap (holding k st _) is
short_taken k w x st (Logged c u) o is = ap (holding k st _) is
short_taken k w x st (Bound c s) o is =
    ap (holding k st (λ c. record { connection = c; stanza = x } ∷ [])) is
    ∙ held_if (eqb k s) log.takes k w c s st (one.Short x) (record { connection = c; stanza = x } ∷ []) refl o is
    (λ held. held_short (st.world.sessions k).counts _ c x held)

pub taken_turn : (k : ℕ) → TurnIs log.takes (taken k) k
taken_turn k st (event.Act w x t) (Made r text) o is =
    ap (taken_by k st w x) is.0
    ∙ stage_taken k w x t st (keep (turn (event.Act w x t) st)) (st.world.lines w).stage o refl
taken_turn k st (event.Act w x t) Short o is = short_taken k w x st (st.world.lines w).stage o refl
taken_turn k st e (Made r text) o is = silent act_ear log.takes k st e takes_quiet refl
taken_turn k st e Short o is = refl

does_else : (b : Bool) (m : one.Hold) (op : one.Op Stanza) → tells act_ear op ≡ false → log.does_if b m op ≡ []
does_else b m (one.Act x) is = absurd (true≢false is)
does_else b m (one.Short x) is = absurd (true≢false is)
does_else true (one.Held v) op is = refl
does_else true one.Away op is = refl
does_else true one.Ended op is = refl
does_else false m op is = refl

does_quiet : IsQuiet act_ear log.does
does_quiet s op is = does_else s.counts s.hold op is

held_does : (b : Bool) (m : one.Hold) (c : ℕ) (x : Stanza) → m ≡ one.Held c
    → while_counted b (x ∷ []) ≡ log.does_if b m (one.Act x)
held_does false m c x is = refl
held_does true m c x is = rw is refl

short_does : (b : Bool) (m : one.Hold) (x : Stanza) → log.does_if b m (one.Short x) ≡ []
short_does true (one.Held v) x = refl
short_does true one.Away x = refl
short_does true one.Ended x = refl
short_does false m x = refl

abbrev DoneSame : ℕ → State → ℕ → Stanza → Verdict → Type 0
DoneSame k st w x v = done_by k st w x v.reply
    ≡ log_of log.does (core_of (st.world.sessions k)) (effects_ops k st.world v.effects)

stage_done : (k w : ℕ) (x : Stanza) (t : ℕ) (st : State) (kept : Kept) (g : stage.Line) → Sound st.world
    → (st.world.lines w).stage ≡ g
    → DoneSame k st w x (body kept (event.Act w x t) (gate_at to_act kept w (st.world.lines w) g))
stage_done k w x t st kept Empty o is = refl
stage_done k w x t st kept (Over c cause) o is = refl
stage_done k w x t st kept (Fresh c) o is = refl
stage_done k w x t st kept (Logged c u) o is = refl
stage_done k w x t st kept (Bound c s) o is =
    heard act_ear log.does k w c s st (Act x) (one.Act x)
    (map effect_of (cast kept.world.rooms (effects kept s x)))
    (λ c. x ∷ []) does_quiet
    (queued_plain act_ear (cast kept.world.rooms (effects kept s x))) refl o is
    (λ held. held_does (st.world.sessions k).counts _ c x held)

pub done_turn : (k : ℕ) → TurnIs log.does (done k) k
done_turn k st (event.Act w x t) (Made r text) o is =
    ap (done_by k st w x) is.0
    ∙ stage_done k w x t st (keep (turn (event.Act w x t) st)) (st.world.lines w).stage o refl
done_turn k st (event.Act w x t) Short o is =
    short_silent log.does k _ x (st.world.lines w).stage
    (short_does (st.world.sessions k).counts (core_of (st.world.sessions k)).hold x)
done_turn k st e (Made r text) o is = silent act_ear log.does k st e does_quiet refl
done_turn k st e Short o is = refl

-- Ask
abbrev ask_ear : Ear
ask_ear =
    record { pull = false; act = false; ask = true; ack = false; enable = false; begin = false; resume = false; part = false }

answers_else : (b : Bool) (m : one.Hold) (s : Core Stanza) (op : one.Op Stanza) → tells ask_ear op ≡ false
    → log.answers_if b m s op ≡ []
answers_else b m s one.Ask is = absurd (true≢false is)
answers_else true (one.Held v) s op is = refl
answers_else true one.Away s op is = refl
answers_else true one.Ended s op is = refl
answers_else false m s op is = refl

answers_quiet : IsQuiet ask_ear log.answers
answers_quiet s op is = answers_else s.counts s.hold s op is

held_answers : (b : Bool) (m : one.Hold) (s : Core Stanza) (c : ℕ) → m ≡ one.Held c → s.counts ≡ b
    → while_counted b (length (drop s.base_in s.acts) ∷ []) ≡ log.answers_if b m s one.Ask
held_answers false m s c is counts = refl
held_answers true m s c is counts = rw (is, counts) refl

abbrev AskedSame : ℕ → State → ℕ → Verdict → Type 0
AskedSame k st w v = asked_by k st w v.reply
    ≡ log_of log.answers (core_of (st.world.sessions k)) (effects_ops k st.world v.effects)

abbrev counted_acts : ℕ → State → ℕ → List ℕ
counted_acts k st c = length (drop (st.world.sessions k).traffic.base_in (st.world.sessions k).traffic.acts) ∷ []

uncounted : (b : Bool) (k s c : ℕ) (st : State) → eqb k s ≡ b → (st.world.sessions s).counts ≡ false
    → (if b then while_counted (st.world.sessions k).counts (counted_acts k st c) else []) ≡ []
uncounted true k s c st same none =
    ap (λ (b : Bool). while_counted b (counted_acts k st c))
    (ap (λ (i : ℕ). (st.world.sessions i).counts) (eqb-true k s same) ∙ none)
uncounted false k s c st same none = refl

asks_if : (b : Bool) (k w c s : ℕ) (st : State) (t : KeptTraffic) → Sound st.world
    → (st.world.lines w).stage ≡ Bound c s → (st.world.sessions s).counts ≡ b → AskedSame k st w (asks b w s t)
asks_if true k w c s st t o is counts =
    heard ask_ear log.answers k w c s st Tell one.Ask (At w (Say (answer.Counted (kept_inward t))) ∷ [])
    (counted_acts k st) answers_quiet (tt, tt) refl o is
    (λ held. held_answers (st.world.sessions k).counts _ (core_of (st.world.sessions k)) c held refl)
asks_if false k w c s st t o is counts =
    ap (holding k st (counted_acts k st)) is ∙ uncounted (eqb k s) k s c st refl counts

flooded_asked : (b : Bool) (k w c s : ℕ) (st : State) (kept : Kept) → Sound st.world
    → (st.world.lines w).stage ≡ Bound c s → (kept.world.sessions s).counts ≡ (st.world.sessions s).counts
    → AskedSame k st w (body kept (event.Ask w) (flooded b kept w c (Bound c s) (Holds c s)))
flooded_asked true k w c s st kept o is counts =
    sym (effects_quiet ask_ear log.answers k st.world
    (left kept (Bound c s) ++ At w (Close c (Flood most_answers)) ∷ []) _ answers_quiet
    (plain_append ask_ear (left kept (Bound c s)) (At w (Close c (Flood most_answers)) ∷ [])
    (left_plain ask_ear kept (Bound c s)) (tt, tt)))
flooded_asked false k w c s st kept o is counts =
    asks_if (kept.world.sessions s).counts k w c s st (kept.world.sessions s).traffic o is (sym counts)

stage_asked : (k w : ℕ) (st : State) (g : stage.Line) → Sound st.world → (st.world.lines w).stage ≡ g
    → AskedSame k st w (body (keep (turn (event.Ask w) st)) (event.Ask w)
    (gate_at to_ask (keep (turn (event.Ask w) st)) w (st.world.lines w) g))
stage_asked k w st Empty o is = refl
stage_asked k w st (Over c cause) o is = refl
stage_asked k w st (Fresh c) o is = refl
stage_asked k w st (Logged c u) o is = refl
stage_asked k w st (Bound c s) o is =
    flooded_asked (is_full to_ask (st.world.lines w)) k w c s st (keep (turn (event.Ask w) st)) o is
    (ap (λ (y : Session KeptTraffic). y.counts) (kept_held st w c s o is))

pub asked_turn : (k : ℕ) → TurnIs log.answers (asked k) k
asked_turn k st (event.Ask w) (Made r text) o is =
    ap (asked_by k st w) is.0 ∙ stage_asked k w st (st.world.lines w).stage o refl
asked_turn k st (event.Act w x t) Short o is =
    short_silent log.answers k _ x (st.world.lines w).stage
    (answers_quiet (core_of (st.world.sessions k)) (one.Short x) refl)
asked_turn k st e (Made r text) o is = silent ask_ear log.answers k st e answers_quiet refl
asked_turn k st e Short o is = refl
