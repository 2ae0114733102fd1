-- What events leave of the rosters: no turn brings one over its limits.
use Rattle.std.proofs.Common.{◌≡◌, ℕ, ◌+◌, List, [], ◌∷◌, ◌++◌, map, Option, Some, None, Bool, true, false, refl, sym, ap, subst, ◌∙◌}
use Rattle.std.specs.Prelude.{nat_lt, slice_get, ◌&&◌}
use Rattle.jid_core.specs.Addresses.{Address}
use Rattle.stanza_tree.specs.declared.frame.Entry.{Entry}
use Rattle.stanza_model.specs.declared.stanza.Stanza.{Stanza}
use Rattle.sm_resume.specs.declared.decision.Cause.{Cause}
use Rattle.sm_resume.specs.declared.decision.Cause.TheVariants.{Flood, Lost, Replaced}
use Rattle.sm_resume.specs.declared.id.ResumeId.{ResumeId}
use Rattle.session_table.specs.declared.line.Line as stage
use Rattle.session_table.specs.declared.line.Line.TheVariants.{Empty, Fresh, Logged, Bound, Over}
use Rattle.roster_laws.specs.Keeping.{AreKept}
use Rattle.muc_service.specs.Casting.{cast}
use Rattle.house_model.specs.declared.answer.Answer.{Answer}
use Rattle.house_model.specs.declared.event.Event.{Event}
use Rattle.house_model.specs.declared.event.Event.TheVariants as event
use Rattle.house_model.specs.Sessions.{Hold, Held, Away, Ended, Gone, Session, Act, End, Part}
use Rattle.house_model.specs.Traffic.{KeptTraffic, brief, kept_sent}
use Rattle.house_model.specs.States.{Kept, State, World, keep}
use Rattle.house_model.specs.Effects.{Effect, Open, At, Begin, On, Say, Leave, Close, apply, apply_all}
use Rattle.house_model.specs.Gate.{Waits, Knows, Holds, Needs, to_login, to_bind, to_manage, to_act, to_ask, to_pull, most_answers, left, closed, gate_at}
use Rattle.house_model.specs.Lookups.{session_at, user_place}
use Rattle.house_model.specs.Routing.{departure, effects, scene_of}
use Rattle.house_model.specs.Steps.{bound_address, has_place, id_if, resource_or, logs_in, replaces, binds, enables, takes}
use Rattle.house_model.specs.Steps.{resumes_by, is_known, resumes, effect_of, acts, acks, asks, requests, gives_entry}
use Rattle.house_model.specs.Steps.{pulls, leaves, sweeps, departs, due, body, verdict, turn}
use Rattle.house_model.specs.Histories.{IsOpening, Made, Outcome, Short, Turn, after, next, next_by}
use Rattle.house_model.specs.Sound.{Sound}
use Rattle.house_model.proofs.GateLemmas.{gate_leads}
use Rattle.house_model.proofs.RoomsQuiet.{cast_noted}
use Rattle.house_model.proofs.RosterKept.{stanza_kept, departure_quiet, noted_book}
use Rattle.house_model.proofs.TurnLaws.{effects_kept, next_sound, starts_sound}
use Rattle.roster_laws.proofs.KeepLemmas.{none_kept}

all_then : (world : World KeptTraffic) (es fs : List Effect) → apply_all brief world (es ++ fs) ≡ apply_all brief (apply_all brief world es) fs
all_then world [] fs = refl
all_then world (e ∷ more) fs = all_then (apply brief world e) more fs

-- effects that change nothing of what is kept of users
abbrev pub IsQuiet : List Effect → Type 0
IsQuiet es = (world : World KeptTraffic) → (apply_all brief world es).book ≡ world.book

quiet_then : (es fs : List Effect) → IsQuiet es → IsQuiet fs → IsQuiet (es ++ fs)
quiet_then es fs one two world =
    ap (λ (x : World KeptTraffic). x.book) (all_then world es fs) ∙ (two (apply_all brief world es) ∙ one world)

pub left_quiet : (k : Kept) (g : stage.Line) → IsQuiet (left k g)
left_quiet k Empty world = refl
left_quiet k (Fresh c) world = refl
left_quiet k (Logged c u) world = refl
left_quiet k (Bound c s) world = refl
left_quiet k (Over c cause) world = refl

pub closed_quiet : (g : stage.Line) → IsQuiet (closed g)
closed_quiet Empty world = refl
closed_quiet (Fresh c) world = refl
closed_quiet (Logged c u) world = refl
closed_quiet (Bound c s) world = refl
closed_quiet (Over c cause) world = refl

leaves_quiet : (g : stage.Line) (w : ℕ) (es : List Effect) → IsQuiet es → IsQuiet (leaves g w es).effects
leaves_quiet Empty w es is world = refl
leaves_quiet (Fresh c) w es is world = quiet_then es (At w Leave ∷ []) is (λ x. refl) world
leaves_quiet (Logged c u) w es is world = quiet_then es (At w Leave ∷ []) is (λ x. refl) world
leaves_quiet (Bound c s) w es is world = quiet_then es (At w Leave ∷ []) is (λ x. refl) world
leaves_quiet (Over c cause) w es is world = quiet_then es (At w Leave ∷ []) is (λ x. refl) world

told_quiet : (from : World KeptTraffic) (s : ℕ) → IsQuiet (map effect_of (cast from.rooms (departure from s)))
told_quiet from s world =
    noted_book world (cast from.rooms (departure from s))
    ∙ (cast_noted (departure from s) from.rooms world.book ∙ departure_quiet from s world.book)

departs_quiet : (from : World KeptTraffic) (s : ℕ) (cause : Cause) → IsQuiet (departs from s cause)
departs_quiet from s cause =
    quiet_then (On s (End cause) ∷ map effect_of (cast from.rooms (departure from s))) (On s Part ∷ [])
    (quiet_then (On s (End cause) ∷ []) (map effect_of (cast from.rooms (departure from s))) (λ x. refl) (told_quiet from s)) (λ x. refl)

replaces_quiet : (k : Kept) (s : Option ℕ) → IsQuiet (replaces k s)
replaces_quiet k None world = refl
replaces_quiet k (Some s) world = departs_quiet k.world s (Replaced (k.world.made + 1)) world

binds_quiet : (has : Bool) (k : Kept) (w c : ℕ) (a : Address) (id : List ℕ) → IsQuiet (binds has k w c a id).effects
binds_quiet false k w c a id world = refl
binds_quiet true k w c a id world =
    quiet_then (replaces k (session_at k a)) (Begin w c a ∷ At w (Say _) ∷ []) (replaces_quiet k (session_at k a)) (λ x. refl) world

takes_quiet : (new : Option KeptTraffic) (w c s h : ℕ) (id : ResumeId) (t : KeptTraffic) → IsQuiet (takes new w c s h id t).effects
takes_quiet None w c s h id t world = refl
takes_quiet (Some x) w c s h id t world = refl

resumes_by_quiet : (known : Bool) (m : Hold) (w c s h : ℕ) (id : ResumeId) (t : KeptTraffic)
    → IsQuiet (resumes_by known m w c s h id t).effects
resumes_by_quiet true (Held v d) w c s h id t = takes_quiet (brief.resume t h) w c s h id t
resumes_by_quiet true Away w c s h id t = takes_quiet (brief.resume t h) w c s h id t
resumes_by_quiet true (Ended cause) w c s h id t = λ world. refl
resumes_by_quiet true Gone w c s h id t = λ world. refl
resumes_by_quiet false m w c s h id t = λ world. refl

resumes_quiet : (id : Option ResumeId) (k : Kept) (w c u h : ℕ) → IsQuiet (resumes k w c u id h).effects
resumes_quiet None k w c u h = λ world. refl
resumes_quiet (Some id) k w c u h =
    resumes_by_quiet (is_known k id u (k.world.sessions id.session)) (k.world.sessions id.session).hold w c id.session h id
    (k.world.sessions id.session).traffic

enables_quiet : (counts : Bool) (w s : ℕ) (id : Option ResumeId) → IsQuiet (enables counts w s id).effects
enables_quiet true w s id world = refl
enables_quiet false w s id world = refl

acks_quiet : (counts : Bool) (s h : ℕ) (t : KeptTraffic) → IsQuiet (acks counts s h t).effects
acks_quiet true s h t world = refl
acks_quiet false s h t world = refl

asks_quiet : (counts : Bool) (w s : ℕ) (t : KeptTraffic) → IsQuiet (asks counts w s t).effects
asks_quiet true w s t world = refl
asks_quiet false w s t world = refl

requests_quiet : (owed : Bool) (k : Kept) (s : ℕ) → IsQuiet (requests owed k s).effects
requests_quiet true k s world = refl
requests_quiet false k s world = refl

entry_quiet : (e : Option Entry) (k : Kept) (s : ℕ) (x : Session KeptTraffic) → IsQuiet (gives_entry e k s x).effects
entry_quiet (Some e) k s x = λ world. refl
entry_quiet None k s x = requests_quiet (x.counts && nat_lt x.traffic.asked_at (kept_sent x.traffic)) k s

pulls_quiet : (answers : List Answer) (k : Kept) (w c s : ℕ) → IsQuiet (pulls k w answers (Holds c s)).effects
pulls_quiet [] k w c s =
    entry_quiet (slice_get (k.world.sessions s).traffic.waiting (k.world.sessions s).traffic.given) k s (k.world.sessions s)
pulls_quiet (a ∷ more) k w c s = λ world. refl

waits_quiet : (answers : List Answer) (k : Kept) (w : ℕ) → IsQuiet (pulls k w answers Waits).effects
waits_quiet [] k w world = refl
waits_quiet (a ∷ more) k w world = refl

knows_quiet : (answers : List Answer) (k : Kept) (w c u : ℕ) → IsQuiet (pulls k w answers (Knows c u)).effects
knows_quiet [] k w c u world = refl
knows_quiet (a ∷ more) k w c u world = refl

logs_in_quiet : (place : Option ℕ) (w : ℕ) → IsQuiet (logs_in w place).effects
logs_in_quiet (Some place) w world = refl
logs_in_quiet None w world = refl

sweeps_quiet : (from : World KeptTraffic) (s : Option ℕ) → IsQuiet (sweeps from s).effects
sweeps_quiet from None = λ world. refl
sweeps_quiet from (Some s) = departs_quiet from s Lost

-- what is kept of users keeps to its limits by these effects
abbrev pub Keeps : Kept → List Effect → Type 0
Keeps k es = AreKept k.head.domain.domain k.world.book → AreKept k.head.domain.domain (apply_all brief k.world es).book

quiet_keeps : (k : Kept) (es : List Effect) → IsQuiet es → Keeps k es
quiet_keeps k es quiet kept = subst (AreKept k.head.domain.domain) (sym (quiet k.world)) kept

acts_keeps : (k : Kept) (s : ℕ) (x : Stanza) → Keeps k (acts k s x).effects
acts_keeps k s x kept =
    let es = effects k s x in
    subst (AreKept k.head.domain.domain)
    (sym (noted_book (apply brief k.world (On s (Act x))) (cast k.world.rooms es) ∙ cast_noted es k.world.rooms k.world.book))
    (stanza_kept (scene_of k) s x kept)

-- the events that the gate checks
gate_keeps : (k : Kept) (e : Event) (n : Needs) (w : ℕ) → Keeps k (body k e Waits).effects
    → ((c u : ℕ) → Keeps k (body k e (Knows c u)).effects) → ((c s : ℕ) → Keeps k (body k e (Holds c s)).effects)
    → Keeps k (body k e (gate_at n k w (k.world.lines w) (k.world.lines w).stage)).effects
gate_keeps k e n w waits knows holds =
    gate_leads (λ v. Keeps k v.effects) k e n w (k.world.lines w) (k.world.lines w).stage
    (λ r. quiet_keeps k [] (λ world. refl))
    (λ c.
    quiet_keeps k (left k (k.world.lines w).stage ++ At w (Close c (Flood most_answers)) ∷ [])
    (quiet_then (left k (k.world.lines w).stage) (At w (Close c (Flood most_answers)) ∷ []) (left_quiet k (k.world.lines w).stage) (λ world. refl)))
    (λ c is. waits)
    (λ c u is. knows c u)
    (λ c s is. holds c s)

silent : (k : Kept) → Keeps k []
silent k kept = kept

binds_keeps : (k : Kept) (w c : ℕ) (a : Address) (id : List ℕ) → Keeps k (binds (has_place k a) k w c a id).effects
binds_keeps k w c a id = quiet_keeps k (binds (has_place k a) k w c a id).effects (binds_quiet (has_place k a) k w c a id)

enables_keeps : (k : Kept) (w s : ℕ) (id : Option ResumeId) → Keeps k (enables (k.world.sessions s).counts w s id).effects
enables_keeps k w s id = quiet_keeps k (enables (k.world.sessions s).counts w s id).effects (enables_quiet (k.world.sessions s).counts w s id)

counted_keeps : (k : Kept) (w s h : ℕ) → Keeps k (acks (k.world.sessions s).counts s h (k.world.sessions s).traffic).effects
counted_keeps k w s h =
    let x = k.world.sessions s in
    quiet_keeps k (acks x.counts s h x.traffic).effects (acks_quiet x.counts s h x.traffic)

asked_keeps : (k : Kept) (w s : ℕ) → Keeps k (asks (k.world.sessions s).counts w s (k.world.sessions s).traffic).effects
asked_keeps k w s =
    let x = k.world.sessions s in
    quiet_keeps k (asks x.counts w s x.traffic).effects (asks_quiet x.counts w s x.traffic)

pub event_keeps : (k : Kept) (e : Event) → Keeps k (verdict k e).effects
event_keeps k (event.OpenLine w) =
    quiet_keeps k (left k (k.world.lines w).stage ++ Open w ∷ [])
    (quiet_then (left k (k.world.lines w).stage) (Open w ∷ []) (left_quiet k (k.world.lines w).stage) (λ world. refl))
event_keeps k (event.DropLine w t) =
    let g = (k.world.lines w).stage in
    quiet_keeps k (leaves g w (left k g)).effects (leaves_quiet g w (left k g) (left_quiet k g))
event_keeps k (event.CloseLine w t) =
    let g = (k.world.lines w).stage in
    quiet_keeps k (leaves g w (closed g)).effects (leaves_quiet g w (closed g) (closed_quiet g))
event_keeps k (event.Sweep w t) = quiet_keeps k (sweeps k.world (due k)).effects (sweeps_quiet k.world (due k))
event_keeps k (event.Login w user) =
    gate_keeps k (event.Login w user) to_login w
    (quiet_keeps k (logs_in w (user_place user k.head.users)).effects (logs_in_quiet (user_place user k.head.users) w))
    (λ c u. silent k) (λ c s. silent k)
event_keeps k (event.Bind w id resource t dice) =
    gate_keeps k (event.Bind w id resource t dice) to_bind w (silent k)
    (λ c u. binds_keeps k w c (bound_address k u (resource_or dice resource)) id) (λ c s. silent k)
event_keeps k (event.Enable w wants dice) =
    gate_keeps k (event.Enable w wants dice) to_manage w (silent k) (λ c u. silent k) (λ c s. enables_keeps k w s (id_if wants s dice))
event_keeps k (event.Resume w id h t) =
    gate_keeps k (event.Resume w id h t) to_manage w (silent k)
    (λ c u. quiet_keeps k (resumes k w c u id h).effects (resumes_quiet id k w c u h)) (λ c s. silent k)
event_keeps k (event.Act w stanza t) =
    gate_keeps k (event.Act w stanza t) to_act w (silent k) (λ c u. silent k) (λ c s. acts_keeps k s stanza)
event_keeps k (event.Ack w h) =
    gate_keeps k (event.Ack w h) to_act w (silent k) (λ c u. silent k) (λ c s. counted_keeps k w s h)
event_keeps k (event.Ask w) =
    gate_keeps k (event.Ask w) to_ask w (silent k) (λ c u. silent k) (λ c s. asked_keeps k w s)
event_keeps k (event.Pull w t) =
    let answers = (k.world.lines w).answers in
    gate_keeps k (event.Pull w t) to_pull w
    (quiet_keeps k (pulls k w answers Waits).effects (waits_quiet answers k w))
    (λ c u. quiet_keeps k (pulls k w answers (Knows c u)).effects (knows_quiet answers k w c u))
    (λ c s. quiet_keeps k (pulls k w answers (Holds c s)).effects (pulls_quiet answers k w c s))

-- Every history keeps them.

next_kept : (st : State) (x : Turn) → Sound st.world → AreKept st.head.domain.domain st.world.book
    → AreKept (next st x).head.domain.domain (next st x).world.book
next_kept st x sound kept = by x.outcome
  where
    by : (o : Outcome) → AreKept (next_by st x.event o).head.domain.domain (next_by st x.event o).world.book
    by (Made reply text) =
        subst (AreKept st.head.domain.domain)
        (sym (ap (λ (w : World KeptTraffic). w.book) (effects_kept st.world (verdict (keep (turn x.event st)) x.event).effects sound)))
        (event_keeps (keep (turn x.event st)) x.event kept)
    by Short = kept

after_kept : (st : State) (h : List Turn) → Sound st.world → AreKept st.head.domain.domain st.world.book
    → AreKept (after st h).head.domain.domain (after st h).world.book
after_kept st [] sound kept = kept
after_kept st (x ∷ more) sound kept = after_kept (next st x) more (next_sound st x sound) (next_kept st x sound kept)

pub always_kept : (o : State) (h : List Turn) → IsOpening o → AreKept (after o h).head.domain.domain (after o h).world.book
always_kept o h starts =
    after_kept o h (starts_sound o starts)
    (subst (λ (st : State). AreKept st.head.domain.domain st.world.book) (sym starts.4) (none_kept starts.1.domain))
