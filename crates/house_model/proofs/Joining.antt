-- The connections that the history says came to hold a session are those that its own operations say.
use Rattle.std.proofs.Common.{◌≡◌, ℕ, ◌+◌, List, [], ◌∷◌, ◌++◌, Option, Some, None, Bool, true, false, eqb, refl, sym, ap}
use Rattle.std.proofs.Common.{◌∙◌, subst, append_assoc, append-nil, true≢false, if◌then◌else◌, arith}
use Rattle.std.proofs.lemmas.Bool.{eqb-true}
use Rattle.jid_core.specs.Addresses.{Address, address_text}
use Rattle.stanza_model.specs.declared.stanza.Stanza.{Stanza}
use Rattle.sm_resume.specs.declared.decision.Cause.TheVariants.{Flood}
use Rattle.sm_resume.specs.declared.id.ResumeId.{ResumeId}
use Rattle.session_table.specs.declared.line.Line as stage
use Rattle.session_table.specs.declared.line.Line.TheVariants.{Empty, Fresh, Logged, Bound, Over}
use Rattle.sm_account.specs.Sessions as one
use Rattle.sm_account.specs.Sessions.{Core, core_run}
use Rattle.sm_account.specs.Logs.{log_of}
use Rattle.sm_account.proofs.Logs.{log_append}
use Rattle.house_model.specs.declared.answer.Answer.TheVariants as answer
use Rattle.house_model.specs.declared.event.Event.TheVariants as event
use Rattle.house_model.specs.Sessions.{Hold, Held, Away, Ended, Gone, Rest, Session, session}
use Rattle.house_model.specs.Traffic as traffic
use Rattle.house_model.specs.Traffic.{Traffic, whole, handled}
use Rattle.house_model.specs.States.{World, State, Kept, keep}
use Rattle.house_model.specs.Effects.{Effect, At, Begin, Say, Close, apply, apply_all}
use Rattle.house_model.specs.Gate.{Verdict, Knows, Holds, to_bind, to_manage, most_answers, is_full, flooded, left, gate_at}
use Rattle.house_model.specs.Lookups.{session_at}
use Rattle.house_model.specs.Steps.{replaces, binds, has_place, bound_address, resource_or, body, turn}
use Rattle.house_model.specs.Histories.{Made, Short}
use Rattle.house_model.specs.Sound.{Sound}
use Rattle.house_model.specs.Bridge.{core_of, effect_ops, effects_ops}
use Rattle.house_model.specs.Lines.{conn_of, bound_by, resumed_by, joined}
use Rattle.house_model.specs.Resuming.{is_live}
use Rattle.house_model.proofs.SoundLemmas.{all_sound}
use Rattle.house_model.proofs.Cores.{all_core}
use Rattle.house_model.proofs.Resumes.{finds, taken_if, decided, finds_counts, finds_live}
use Rattle.house_model.proofs.Ears.{Ear, tells, IsQuiet, AllPlain, effects_quiet, plain_append}
use Rattle.house_model.proofs.FitLemmas.{on_made, replaces_on}
use Rattle.house_model.proofs.Quiet.{left_plain, replaces_plain}
use Rattle.house_model.proofs.Told.{TurnIs, silent, short_silent}

abbrev pub join_ear : Ear
join_ear =
    record { pull = false; act = false; ask = false; ack = false; enable = false; begin = true; resume = true; part = false }

-- the connection by which an operation comes to hold the session
abbrev pub one_named : ℕ → Option ℕ → List ℕ
one_named c None = []
one_named c (Some n) = c ∷ []

abbrev pub one_joins_if : Bool → one.Hold → Core Stanza → one.Op Stanza → List ℕ
one_joins_if false one.Away s (one.Begin c) = c ∷ []
one_joins_if true (one.Held d) s (one.Resume c h) = one_named c (one.named s h)
one_joins_if true one.Away s (one.Resume c h) = one_named c (one.named s h)
one_joins_if b m s op = []

abbrev pub one_joins : Core Stanza → one.Op Stanza → List ℕ
one_joins s op = one_joins_if s.counts s.hold s op

joins_else : (b : Bool) (m : one.Hold) (s : Core Stanza) (op : one.Op Stanza) → tells join_ear op ≡ false
    → one_joins_if b m s op ≡ []
joins_else b m s (one.Begin c) is = absurd (true≢false is)
joins_else b m s (one.Resume c h) is = absurd (true≢false is)
joins_else true (one.Held d) s op is = refl
joins_else true one.Away s op is = refl
joins_else true one.Ended s op is = refl
joins_else false (one.Held d) s op is = refl
joins_else false one.Away s op is = refl
joins_else false one.Ended s op is = refl

joins_quiet : IsQuiet join_ear one_joins
joins_quiet s op is = joins_else s.counts s.hold s op is

-- a list of effects in two parts
effects_append : (k : ℕ) (world : World Traffic) (xs ys : List Effect)
    → effects_ops k world (xs ++ ys) ≡ effects_ops k world xs ++ effects_ops k (apply_all whole world xs) ys
effects_append k world [] ys = refl
effects_append k world (x ∷ xs) ys =
    ap (λ (l : List (one.Op Stanza)). effect_ops k world x ++ l) (effects_append k (apply whole world x) xs ys)
    ∙ sym (append_assoc (effect_ops k world x) (effects_ops k (apply whole world x) xs)
    (effects_ops k (apply_all whole (apply whole world x) xs) ys))

-- Bind
pub replaces_made : (k : Kept) (world : World Traffic) (o : Option ℕ)
    → (apply_all whole world (replaces k o)).made ≡ world.made
replaces_made k world o = on_made whole world (replaces k o) (replaces_on k o)

begin_joined : (b : Bool) (k w c : ℕ) (world : World Traffic) → eqb k (world.made + 1) ≡ b → Sound world
    → (if b then c ∷ [] else [])
    ≡ log_of one_joins (core_of (world.sessions k)) ((if b then one.Begin c ∷ [] else []) ++ [])
begin_joined true k w c world is o =
    let same : k ≡ world.made + 1 = eqb-true _ _ is in
    ap (λ (s : Session Traffic). log_of one_joins (core_of s) (one.Begin c ∷ [])) (sym (o.later k (omega arith)))
begin_joined false k w c world is o = refl

bound_joined : (k w c : ℕ) (a : Address) (id : List ℕ) (world : World Traffic) (pre : List Effect)
    → AllPlain join_ear pre → (apply_all whole world pre).made ≡ world.made → Sound world
    → (if eqb k (world.made + 1) then c ∷ [] else [])
    ≡ log_of one_joins (core_of (world.sessions k))
    (effects_ops k world (pre ++ (Begin w c a ∷ At w (Say (answer.Bound id (address_text a))) ∷ [])))
bound_joined k w c a id world pre plain made o =
    let after : World Traffic = apply_all whole world pre in
    let more : List Effect = Begin w c a ∷ At w (Say (answer.Bound id (address_text a))) ∷ [] in
    let core : Core Stanza = core_of (world.sessions k) in
    ap (λ (n : ℕ). if eqb k (n + 1) then c ∷ [] else []) (sym made)
    ∙ (begin_joined (eqb k (after.made + 1)) k w c after refl (all_sound world pre o)
    ∙ sym (ap (log_of one_joins core) (effects_append k world pre more)
    ∙ (log_append one_joins core (effects_ops k world pre) (effects_ops k after more)
    ∙ (ap (λ (l : List ℕ). l ++ log_of one_joins (core_run core (effects_ops k world pre)) (effects_ops k after more))
    (effects_quiet join_ear one_joins k world pre core joins_quiet plain)
    ∙ ap (λ (s : Core Stanza). log_of one_joins s (effects_ops k after more)) (sym (all_core k world pre o))))))

abbrev BoundSame : ℕ → State → ℕ → Verdict → Type 0
BoundSame k st w v = bound_by k st w v.reply
    ≡ log_of one_joins (core_of (st.world.sessions k)) (effects_ops k st.world v.effects)

binds_joined : (has : Bool) (k w c u : ℕ) (a : Address) (id : List ℕ) (st : State) (kept : Kept) → Sound st.world
    → (st.world.lines w).stage ≡ Logged c u → BoundSame k st w (binds has kept w c a id)
binds_joined false k w c u a id st kept o is = refl
binds_joined true k w c u a id st kept o is =
    ap (λ (g : stage.Line). if eqb k (st.world.made + 1) then conn_of g else []) is
    ∙ bound_joined k w c a id st.world (replaces kept (session_at kept a))
    (replaces_plain join_ear kept (session_at kept a) refl) (replaces_made kept st.world (session_at kept a)) o

bind_joined : (full : Bool) (k w : ℕ) (id : List ℕ) (resource : Option (List ℕ)) (t : ℕ) (dice : List ℕ) (c u : ℕ)
    (st : State) (kept : Kept) → Sound st.world → (st.world.lines w).stage ≡ Logged c u
    → BoundSame k st w (body kept (event.Bind w id resource t dice) (flooded full kept w c (Logged c u) (Knows c u)))
bind_joined true k w id resource t dice c u st kept o is = refl
bind_joined false k w id resource t dice c u st kept o is =
    binds_joined (has_place kept (bound_address kept u (resource_or dice resource))) k w c u
    (bound_address kept u (resource_or dice resource)) id st kept o is

stage_bound : (k w : ℕ) (id : List ℕ) (resource : Option (List ℕ)) (t : ℕ) (dice : List ℕ) (st : State) (kept : Kept)
    (g : stage.Line) → Sound st.world → (st.world.lines w).stage ≡ g
    → BoundSame k st w (body kept (event.Bind w id resource t dice) (gate_at to_bind kept w (st.world.lines w) g))
stage_bound k w id resource t dice st kept Empty o is = refl
stage_bound k w id resource t dice st kept (Over c cause) o is = refl
stage_bound k w id resource t dice st kept (Fresh c) o is = refl
stage_bound k w id resource t dice st kept (Bound c s) o is = refl
stage_bound k w id resource t dice st kept (Logged c u) o is =
    bind_joined (is_full to_bind (st.world.lines w)) k w id resource t dice c u st kept o is

-- Resume
abbrev ResumedSame : ℕ → State → (w i : ℕ) → Verdict → Type 0
ResumedSame k st w i v = resumed_by k st w i v.reply
    ≡ log_of one_joins (core_of (st.world.sessions k)) (effects_ops k st.world v.effects)

found_joined : (b : Bool) (m : Hold) (t : Traffic) (r : Rest) (c h n : ℕ) → b ≡ true → is_live m ≡ true
    → handled t h ≡ Some n → c ∷ [] ≡ one_joins (core_of (session b m t r)) (one.Resume c h)
found_joined true (Held v d) t r c h n counts live has = ap (one_named c) (sym has)
found_joined true Away t r c h n counts live has = ap (one_named c) (sym has)
found_joined true (Ended cause) t r c h n counts live has = absurd (true≢false (sym live))
found_joined true Gone t r c h n counts live has = absurd (true≢false (sym live))
found_joined false m t r c h n counts live has = absurd (true≢false (sym counts))

taken_joined : (b : Bool) (n : Option ℕ) (k w c u h : ℕ) (id : ResumeId) (st : State)
    → (st.world.lines w).stage ≡ Logged c u → finds st id u (st.world.sessions id.session) ≡ b
    → handled (st.world.sessions id.session).traffic h ≡ n
    → ResumedSame k st w id.session
    (taken_if b (traffic.resume (st.world.sessions id.session).traffic n) w c id.session h id
    (st.world.sessions id.session).traffic)
taken_joined false n k w c u h id st is found has = refl
taken_joined true None k w c u h id st is found has = refl
taken_joined true (Some n) k w c u h id st is found has =
    ap (λ (g : stage.Line). if eqb k id.session then conn_of g else []) is ∙ by_test (eqb k id.session) refl
  where
    by_test : (b : Bool) → eqb k id.session ≡ b
        → (if b then c ∷ [] else [])
        ≡ log_of one_joins (core_of (st.world.sessions k)) ((if b then one.Resume c h ∷ [] else []) ++ [])
    by_test true same =
        found_joined (st.world.sessions id.session).counts (st.world.sessions id.session).hold
        (st.world.sessions id.session).traffic (st.world.sessions id.session).rest c h n
        (finds_counts st id u (st.world.sessions id.session) found)
        (finds_live st id u (st.world.sessions id.session) found) has
        ∙ (ap (λ (j : ℕ). one_joins (core_of (st.world.sessions j)) (one.Resume c h)) (sym (eqb-true k id.session same))
        ∙ sym (append-nil _))
    by_test false same = refl

resume_joined : (full : Bool) (k w : ℕ) (id : ResumeId) (h t c u : ℕ) (st : State) → Sound st.world
    → (st.world.lines w).stage ≡ Logged c u
    → ResumedSame k st w id.session (body (keep (turn (event.Resume w (Some id) h t) st)) (event.Resume w (Some id) h t)
    (flooded full (keep (turn (event.Resume w (Some id) h t) st)) w c (Logged c u) (Knows c u)))
resume_joined true k w id h t c u st o is = refl
resume_joined false k w id h t c u st o is =
    subst (ResumedSame k st w id.session)
    (sym (decided (turn (event.Resume w (Some id) h t) st) id u w c id.session h
    (st.world.sessions id.session).counts (st.world.sessions id.session).hold
    (st.world.sessions id.session).traffic (st.world.sessions id.session).rest (o.ordered id.session)))
    (taken_joined (finds st id u (st.world.sessions id.session)) (handled (st.world.sessions id.session).traffic h)
    k w c u h id st is refl refl)

held_resume : (full : Bool) (k w : ℕ) (id : ResumeId) (h t c s : ℕ) (st : State) (kept : Kept)
    → ResumedSame k st w id.session
    (body kept (event.Resume w (Some id) h t) (flooded full kept w c (Bound c s) (Holds c s)))
held_resume true k w id h t c s st kept =
    sym (effects_quiet join_ear one_joins k st.world
    (left kept (Bound c s) ++ At w (Close c (Flood most_answers)) ∷ []) (core_of (st.world.sessions k)) joins_quiet
    (plain_append join_ear (left kept (Bound c s)) (At w (Close c (Flood most_answers)) ∷ [])
    (left_plain join_ear kept (Bound c s)) (tt, tt)))
held_resume false k w id h t c s st kept = refl

stage_resumed : (k w : ℕ) (id : ResumeId) (h t : ℕ) (st : State) (g : stage.Line) → Sound st.world
    → (st.world.lines w).stage ≡ g
    → ResumedSame k st w id.session (body (keep (turn (event.Resume w (Some id) h t) st)) (event.Resume w (Some id) h t)
    (gate_at to_manage (keep (turn (event.Resume w (Some id) h t) st)) w (st.world.lines w) g))
stage_resumed k w id h t st Empty o is = refl
stage_resumed k w id h t st (Over c cause) o is = refl
stage_resumed k w id h t st (Fresh c) o is = refl
stage_resumed k w id h t st (Bound c s) o is =
    held_resume (is_full to_manage (st.world.lines w)) k w id h t c s st (keep (turn (event.Resume w (Some id) h t) st))
stage_resumed k w id h t st (Logged c u) o is =
    resume_joined (is_full to_manage (st.world.lines w)) k w id h t c u st o is

-- an id that can't be read
unread_logged : (full : Bool) (k : Kept) (w h t c u : ℕ)
    → AllPlain join_ear (body k (event.Resume w None h t) (flooded full k w c (Logged c u) (Knows c u))).effects
unread_logged true k w h t c u = (tt, tt)
unread_logged false k w h t c u = (tt, tt)

unread_bound : (full : Bool) (k : Kept) (w h t c s : ℕ)
    → AllPlain join_ear (body k (event.Resume w None h t) (flooded full k w c (Bound c s) (Holds c s))).effects
unread_bound true k w h t c s =
    plain_append join_ear (left k (Bound c s)) (At w (Close c (Flood most_answers)) ∷ [])
    (left_plain join_ear k (Bound c s)) (tt, tt)
unread_bound false k w h t c s = (tt, tt)

stage_unread : (k : Kept) (w h t : ℕ) (g : stage.Line)
    → AllPlain join_ear (body k (event.Resume w None h t) (gate_at to_manage k w (k.world.lines w) g)).effects
stage_unread k w h t Empty = tt
stage_unread k w h t (Over c cause) = tt
stage_unread k w h t (Fresh c) = tt
stage_unread k w h t (Bound c s) = unread_bound (is_full to_manage (k.world.lines w)) k w h t c s
stage_unread k w h t (Logged c u) = unread_logged (is_full to_manage (k.world.lines w)) k w h t c u

pub joined_turn : (k : ℕ) → TurnIs one_joins (joined k) k
joined_turn k st (event.Bind w id resource t dice) (Made r text) o is =
    ap (bound_by k st w) is.0
    ∙ stage_bound k w id resource t dice st (keep (turn (event.Bind w id resource t dice) st)) (st.world.lines w).stage o
    refl
joined_turn k st (event.Resume w (Some id) h t) (Made r text) o is =
    ap (resumed_by k st w id.session) is.0 ∙ stage_resumed k w id h t st (st.world.lines w).stage o refl
joined_turn k st (event.Resume w None h t) (Made r text) o is =
    sym (effects_quiet join_ear one_joins k st.world _ (core_of (st.world.sessions k)) joins_quiet
    (stage_unread (keep (turn (event.Resume w None h t) st)) w h t (st.world.lines w).stage))
joined_turn k st (event.Resume w None h t) Short o is = refl
joined_turn k st (event.Resume w (Some id) h t) Short o is = refl
joined_turn k st (event.Act w x t) Short o is =
    short_silent one_joins k (core_of (st.world.sessions k)) x (st.world.lines w).stage
    (joins_quiet (core_of (st.world.sessions k)) (one.Short x) refl)
joined_turn k st e (Made r text) o is = silent join_ear one_joins k st e joins_quiet refl
joined_turn k st e Short o is = refl
