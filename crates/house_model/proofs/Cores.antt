-- A session of the house is what its own operations make of it.
use Rattle.std.proofs.Common.{◌≡◌, ℕ, ◌+◌, List, [], ◌∷◌, Option, Some, None, Bool, true, false, eqb, refl, sym, ap, ◌∙◌, arith, if◌then◌else◌}
use Rattle.std.specs.Prelude.{slice_get}
use Rattle.std.proofs.lemmas.Bool.{eqb-true}
use Rattle.stanza_tree.specs.declared.frame.Entry.{Entry}
use Rattle.stanza_model.specs.declared.stanza.Stanza.{Stanza}
use Rattle.jid_core.specs.Addresses.{Address}
use Rattle.session_table.specs.declared.line.Line as stage
use Rattle.session_table.specs.declared.line.Line.TheVariants.{Empty, Fresh, Logged, Bound, Over}
use Rattle.sm_account.specs.Sessions as one
use Rattle.sm_account.specs.Sessions.{Core, core_run}
use Rattle.sm_account.specs.Connections as alone
use Rattle.sm_account.proofs.Grows.{core_of_run, core_run_append}
use Rattle.sm_account.proofs.Steps.{pushed_if}
use Rattle.house_model.specs.declared.event.Event.{Event}
use Rattle.house_model.specs.declared.event.Event.TheVariants as event
use Rattle.house_model.specs.Sessions.{Hold, Held, Away, Ended, Gone, Rest, Session, Op, Push, Pull, Ack, Resume, Part}
use Rattle.house_model.specs.Sessions.{session, pushed, acked, resumed, begun, step_if, session_step}
use Rattle.house_model.specs.Traffic as traffic
use Rattle.house_model.specs.Traffic.{Traffic, whole}
use Rattle.house_model.specs.States.{World, State, keep}
use Rattle.house_model.specs.Effects.{Effect, Open, At, Begin, On, Note, Hosts, Files, apply, apply_all}
use Rattle.house_model.specs.Steps.{verdict, turn}
use Rattle.house_model.specs.Histories.{Outcome, Made, Short, Turn, next_by, next, after, IsOpening}
use Rattle.house_model.specs.Sound.{Sound}
use Rattle.house_model.specs.Bridge.{core_of, op_ops, effect_ops, effects_ops, short_at, short_ops, turn_ops, ops_of, alone_of}
use Rattle.house_model.proofs.SoundLemmas.{apply_sound}
use Rattle.house_model.proofs.TurnLaws.{next_sound, starts_sound}

-- one operation
pushed_held : (has b : Bool) (v d : ℕ) (t : Traffic) (r : Rest) (e : Entry)
    → core_of (pushed whole has b (Held v d) t r e) ≡ pushed_if (core_of (session b (Held v d) t r)) e has
pushed_held true b v d t r e = refl
pushed_held false b v d t r e = refl

pushed_away : (has b : Bool) (t : Traffic) (r : Rest) (e : Entry)
    → core_of (pushed whole has b Away t r e) ≡ pushed_if (core_of (session b Away t r)) e has
pushed_away true b t r e = refl
pushed_away false b t r e = refl

given_core : (o : Option Entry) (v d : ℕ) (t : Traffic) (r : Rest)
    → core_of (session true (Held v d) (traffic.give t o) r) ≡ one.pulled (core_of (session true (Held v d) t r)) o
given_core None v d t r = refl
given_core (Some e) v d t r = refl

given_up_core : (o : Option Entry) (v d : ℕ) (t : Traffic) (r : Rest)
    → core_of (session false (Held v d) (traffic.give_up t o) r)
    ≡ one.pulled_uncounted (core_of (session false (Held v d) t r)) o
given_up_core None v d t r = refl
given_up_core (Some e) v d t r = refl

acked_core : (o : Option ℕ) (v d : ℕ) (t : Traffic) (r : Rest) (h : ℕ)
    → core_of (acked whole (traffic.ack t o) (Held v d) t r h)
    ≡ one.acknowledged (core_of (session true (Held v d) t r)) o
acked_core None v d t r h = refl
acked_core (Some n) v d t r h = refl

resumed_held : (o : Option ℕ) (v d : ℕ) (t : Traffic) (r : Rest) (w c : ℕ)
    → core_of (resumed (traffic.resume t o) (Held v d) t r w c)
    ≡ one.resumed (core_of (session true (Held v d) t r)) c o
resumed_held None v d t r w c = refl
resumed_held (Some n) v d t r w c = refl

resumed_away : (o : Option ℕ) (t : Traffic) (r : Rest) (w c : ℕ)
    → core_of (resumed (traffic.resume t o) Away t r w c) ≡ one.resumed (core_of (session true Away t r)) c o
resumed_away None t r w c = refl
resumed_away (Some n) t r w c = refl

step_core : (b : Bool) (m : Hold) (t : Traffic) (r : Rest) (op : Op)
    → core_of (step_if whole b m t r op) ≡ core_run (core_of (session b m t r)) (op_ops op)
step_core true (Held v d) t r (Push e) = pushed_held (whole.has_room t e) true v d t r e
step_core false (Held v d) t r (Push e) = pushed_held (whole.has_room t e) false v d t r e
step_core true Away t r (Push e) = pushed_away (whole.has_room t e) true t r e
step_core false (Held v d) t r Pull = given_up_core (slice_get t.queued t.sent) v d t r
step_core true (Held v d) t r Pull = given_core (slice_get t.queued t.sent) v d t r
step_core true (Held v d) t r (Ack h) = acked_core (traffic.handled t h) v d t r h
step_core true (Held v d) t r (Resume w c h) = resumed_held (traffic.handled t h) v d t r w c
step_core true Away t r (Resume w c h) = resumed_away (traffic.handled t h) t r w c
step_core true (Held v d) t r op = refl
step_core true Away t r op = refl
step_core true (Ended cause) t r Part = refl
step_core true (Ended cause) t r op = refl
step_core true Gone t r Part = refl
step_core true Gone t r op = refl
step_core false (Held v d) t r op = refl
step_core false Away t r Part = refl
step_core false Away t r op = refl
step_core false (Ended cause) t r Part = refl
step_core false (Ended cause) t r op = refl
step_core false Gone t r Part = refl
step_core false Gone t r op = refl

pub session_core : (s : Session Traffic) (op : Op)
    → core_of (session_step whole s op) ≡ core_run (core_of s) (op_ops op)
session_core s op = step_core s.counts s.hold s.traffic s.rest op

-- one effect
touch_if : (b : Bool) (k s : ℕ) (op : Op) (world : World Traffic) → eqb k s ≡ b
    → core_of (if b then session_step whole (world.sessions s) op else world.sessions k)
    ≡ core_run (core_of (world.sessions k)) (if b then op_ops op else [])
touch_if true k s op world is =
    session_core (world.sessions s) op
    ∙ ap (λ (i : ℕ). core_run (core_of (world.sessions i)) (op_ops op)) (sym (eqb-true k s is))
touch_if false k s op world is = refl

begin_if : (b : Bool) (k w c : ℕ) (a : Address) (world : World Traffic) → eqb k (world.made + 1) ≡ b → Sound world
    → core_of (if b then begun whole w c a else world.sessions k)
    ≡ core_run (core_of (world.sessions k)) (if b then one.Begin c ∷ [] else [])
begin_if true k w c a world is o =
    let same : k ≡ world.made + 1 = eqb-true _ _ is in
    ap (λ (s : Session Traffic). core_run (core_of s) (one.Begin c ∷ [])) (sym (o.later k (omega arith)))
begin_if false k w c a world is o = refl

pub apply_core : (k : ℕ) (world : World Traffic) (e : Effect) → Sound world
    → core_of ((apply whole world e).sessions k) ≡ core_run (core_of (world.sessions k)) (effect_ops k world e)
apply_core k world (Open w) o = refl
apply_core k world (At w op) o = refl
apply_core k world (Note change) o = refl
apply_core k world (Hosts x) o = refl
apply_core k world (Files filing) o = refl
apply_core k world (Begin w c a) o = begin_if (eqb k (world.made + 1)) k w c a world refl o
apply_core k world (On s op) o = touch_if (eqb k s) k s op world refl

pub all_core : (k : ℕ) (world : World Traffic) (es : List Effect) → Sound world
    → core_of ((apply_all whole world es).sessions k) ≡ core_run (core_of (world.sessions k)) (effects_ops k world es)
all_core k world [] o = refl
all_core k world (e ∷ es) o =
    all_core k (apply whole world e) es (apply_sound world e o)
    ∙ (ap (λ (s : Core Stanza). core_run s (effects_ops k (apply whole world e) es)) (apply_core k world e o)
    ∙ sym (core_run_append (core_of (world.sessions k)) (effect_ops k world e) (effects_ops k (apply whole world e) es)))

-- a stanza for which memory was wanting changes nothing
short_idle : (b : Bool) (m : one.Hold) (s : Core Stanza) (x : Stanza) → one.core_if b m s (one.Short x) ≡ s
short_idle true (one.Held d) s x = refl
short_idle true one.Away s x = refl
short_idle true one.Ended s x = refl
short_idle false (one.Held d) s x = refl
short_idle false one.Away s x = refl
short_idle false one.Ended s x = refl

short_if : (b : Bool) (s : Core Stanza) (x : Stanza) → s ≡ core_run s (if b then one.Short x ∷ [] else [])
short_if true s x = sym (short_idle s.counts s.hold s x)
short_if false s x = refl

short_core_at : (k : ℕ) (s : Core Stanza) (x : Stanza) (g : stage.Line) → s ≡ core_run s (short_at k x g)
short_core_at k s x (Bound c i) = short_if (eqb k i) s x
short_core_at k s x Empty = refl
short_core_at k s x (Fresh c) = refl
short_core_at k s x (Logged c u) = refl
short_core_at k s x (Over c cause) = refl

short_core : (k : ℕ) (st : State) (e : Event) (s : Core Stanza) → s ≡ core_run s (short_ops k st e)
short_core k st (event.Act w x t) s = short_core_at k s x (st.world.lines w).stage
short_core k st e s = refl

turn_core : (k : ℕ) (st : State) (e : Event) (o : Outcome) → Sound st.world
    → core_of ((next_by st e o).world.sessions k) ≡ core_run (core_of (st.world.sessions k)) (turn_ops k st e o)
turn_core k st e (Made reply text) o = all_core k st.world (verdict (keep (turn e st)) e).effects o
turn_core k st e Short o = short_core k st e (core_of (st.world.sessions k))

pub next_core : (k : ℕ) (st : State) (x : Turn) → Sound st.world
    → core_of ((next st x).world.sessions k)
    ≡ core_run (core_of (st.world.sessions k)) (turn_ops k st x.event x.outcome)
next_core k st x o = turn_core k st x.event x.outcome o

pub after_core : (k : ℕ) (st : State) (h : List Turn) → Sound st.world
    → core_of ((after st h).world.sessions k) ≡ core_run (core_of (st.world.sessions k)) (ops_of k st h)
after_core k st [] o = refl
after_core k st (x ∷ more) o =
    after_core k (next st x) more (next_sound st x o)
    ∙ (ap (λ (s : Core Stanza). core_run s (ops_of k (next st x) more)) (next_core k st x o)
    ∙ sym (core_run_append (core_of (st.world.sessions k)) (turn_ops k st x.event x.outcome) (ops_of k (next st x) more)))

-- from the opening on
pub starts_unmade : (o : State) (k : ℕ) → IsOpening o → core_of (o.world.sessions k) ≡ one.unmade
starts_unmade o k starts = ap (λ (st : State). core_of (st.world.sessions k)) starts.4

pub alone_core : (o : State) (h : List Turn) (k : ℕ) → IsOpening o
    → core_of ((after o h).world.sessions k) ≡ (alone_of k o h).core
alone_core o h k starts =
    after_core k o h (starts_sound o starts)
    ∙ (ap (λ (s : Core Stanza). core_run s (ops_of k o h)) (starts_unmade o k starts)
    ∙ sym (core_of_run alone.start (ops_of k o h)))
