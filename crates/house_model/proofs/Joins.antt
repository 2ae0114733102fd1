-- After every history, the connections that held a session differ.
use Rattle.std.proofs.Common.{◌≡◌, ℕ, ◌+◌, List, [], ◌∷◌, ◌++◌, Option, Some, None, Bool, true, false, eqb}
use Rattle.std.proofs.Common.{refl, sym, ap, ◌∙◌, subst, true≢false, arith, if◌then◌else◌}
use Rattle.jid_core.specs.Addresses.{Address, address_text}
use Rattle.std.specs.Prelude.{◌==◌, ◌&&◌}
use Rattle.sm_resume.specs.declared.decision.Cause.TheVariants.{Moved}
use Rattle.sm_resume.specs.declared.id.ResumeId.{ResumeId}
use Rattle.house_model.specs.Numbered.{put}
use Rattle.session_table.specs.declared.line.Line as stage
use Rattle.session_table.specs.declared.line.Line.TheVariants.{Empty, Fresh, Logged, Bound, Over}
use Rattle.sm_account.specs.Logs.{latest_first}
use Rattle.house_model.specs.declared.answer.Answer.{Answer}
use Rattle.house_model.specs.declared.answer.Answer.TheVariants as answer
use Rattle.house_model.specs.declared.event.Event.{Event}
use Rattle.house_model.specs.declared.event.Event.TheVariants as event
use Rattle.house_model.specs.declared.reply.Reply.TheVariants as reply
use Rattle.house_model.specs.Sessions.{Hold, Held, Away, Ended, Gone, Rest, Session, Resume, session, resumed, step_if, session_step}
use Rattle.house_model.specs.Traffic as traffic
use Rattle.house_model.specs.Traffic.{Traffic, whole, handled, inward, keep_traffic}
use Rattle.house_model.specs.States.{Line, World, State, Kept, keep}
use Rattle.house_model.specs.Effects.{Effect, At, Begin, On, Say, over_line, bound_line, moved_if, settled, line_step, apply, apply_all}
use Rattle.house_model.specs.Gate.{Verdict, Knows, to_bind, to_manage, is_full, flooded, gate_at}
use Rattle.house_model.specs.Lookups.{session_at}
use Rattle.house_model.specs.Steps.{replaces, binds, has_place, bound_address, resource_or, takes, body, verdict, turn}
use Rattle.house_model.specs.Histories.{Outcome, Made, Short, Turn, IsOutcome, step, next_by, next, after, Legal, IsOpening, opened_by}
use Rattle.house_model.specs.Sound.{Sound}
use Rattle.house_model.specs.Lines.{told, conn_of, joined, lines}
use Rattle.house_model.specs.Resuming.{is_live}
use Rattle.house_model.proofs.PutLemmas.{put_here}
use Rattle.house_model.proofs.TrafficLemmas.{keep_option}
use Rattle.house_model.proofs.Turns.{opened_effects}
use Rattle.house_model.proofs.VerdictLemmas.{opens_in, verdict_opens}
use Rattle.house_model.proofs.FitLemmas.{IsMatched}
use Rattle.house_model.proofs.EventFits.{next_back, starts_back}
use Rattle.house_model.proofs.TurnLaws.{next_sound, starts_sound}
use Rattle.house_model.proofs.Resumes.{finds, decision, decided, finds_counts, finds_live}
use Rattle.house_model.proofs.Labelling.{latest_append}
use Rattle.house_model.proofs.Apart.{waits, Good, effects_good, effects_shrink, join_good}

pub apply_append : (world : World Traffic) (xs ys : List Effect)
    → apply_all whole world (xs ++ ys) ≡ apply_all whole (apply_all whole world xs) ys
apply_append world [] ys = refl
apply_append world (x ∷ xs) ys = apply_append (apply whole world x) xs ys

-- Resume: what is decided where it goes on
pub record GoesOn (st : State) (w c u : ℕ) (id : ResumeId) (h : ℕ) (v : Verdict) : Type 0 where
  pub n : ℕ
  pub found : finds st id u (st.world.sessions id.session) ≡ true
  pub has : handled (st.world.sessions id.session).traffic h ≡ Some n
  pub is : v ≡ takes (keep_option (traffic.resume (st.world.sessions id.session).traffic (Some n))) w c id.session h id
      (keep_traffic (st.world.sessions id.session).traffic)

by_count : (n : Option ℕ) (st : State) (w c u : ℕ) (id : ResumeId) (h : ℕ) (v : Verdict)
    → finds st id u (st.world.sessions id.session) ≡ true → handled (st.world.sessions id.session).traffic h ≡ n
    → v ≡ takes (keep_option (traffic.resume (st.world.sessions id.session).traffic n)) w c id.session h id
    (keep_traffic (st.world.sessions id.session).traffic)
    → v.reply ≡ reply.Resumed → GoesOn st w c u id h v
by_count None st w c u id h v found has is said =
    absurd (let bad : reply.Over _ ≡ reply.Resumed = sym (ap (λ (x : Verdict). x.reply) is) ∙ said in cc)
by_count (Some n) st w c u id h v found has is said = record { n = n; found = found; has = has; is = is }

by_finding : (b : Bool) (st : State) (w c u : ℕ) (id : ResumeId) (h : ℕ) (v : Verdict)
    → finds st id u (st.world.sessions id.session) ≡ b → v ≡ decision st w c u id h b
    → v.reply ≡ reply.Resumed → GoesOn st w c u id h v
by_finding true st w c u id h v found is said =
    by_count (handled (st.world.sessions id.session).traffic h) st w c u id h v found refl is said
by_finding false st w c u id h v found is said =
    absurd (let bad : reply.Done ≡ reply.Resumed = sym (ap (λ (x : Verdict). x.reply) is) ∙ said in cc)

by_room : (full : Bool) (st : State) (w c u : ℕ) (id : ResumeId) (h t : ℕ) → Sound st.world
    → (body (keep (turn (event.Resume w (Some id) h t) st)) (event.Resume w (Some id) h t)
    (flooded full (keep (turn (event.Resume w (Some id) h t) st)) w c (Logged c u) (Knows c u))).reply ≡ reply.Resumed
    → GoesOn st w c u id h (body (keep (turn (event.Resume w (Some id) h t) st)) (event.Resume w (Some id) h t)
    (flooded full (keep (turn (event.Resume w (Some id) h t) st)) w c (Logged c u) (Knows c u)))
by_room true st w c u id h t o said = absurd (cc)
by_room false st w c u id h t o said =
    by_finding (finds st id u (st.world.sessions id.session)) st w c u id h _ refl
    (decided (turn (event.Resume w (Some id) h t) st) id u w c id.session h
    (st.world.sessions id.session).counts (st.world.sessions id.session).hold
    (st.world.sessions id.session).traffic (st.world.sessions id.session).rest (o.ordered id.session))
    said

resume_decided : (st : State) (w c u : ℕ) (id : ResumeId) (h t : ℕ) → Sound st.world
    → (st.world.lines w).stage ≡ Logged c u → (step st (event.Resume w (Some id) h t)).reply ≡ reply.Resumed
    → GoesOn st w c u id h (verdict (keep (turn (event.Resume w (Some id) h t) st)) (event.Resume w (Some id) h t))
resume_decided st w c u id h t o is =
    subst (λ (g : stage.Line). (gated g).reply ≡ reply.Resumed → GoesOn st w c u id h (gated g)) (sym is)
    (by_room (is_full to_manage (st.world.lines w)) st w c u id h t o)
  where
    gated : stage.Line → Verdict
    gated g = body (keep (turn (event.Resume w (Some id) h t) st)) (event.Resume w (Some id) h t)
        (gate_at to_manage (keep (turn (event.Resume w (Some id) h t) st)) w (st.world.lines w) g)

-- given and done with up to the client's number
abbrev pub taken_up : Traffic → ℕ → Traffic
taken_up t n = record t { kept = t.base_out + n; sent = t.base_out + n; asked_at = t.base_out + n }

resumed_session : (b : Bool) (m : Hold) (t : Traffic) (r : Rest) (w c h n : ℕ) → b ≡ true → is_live m ≡ true
    → handled t h ≡ Some n
    → step_if whole b m t r (Resume w c h) ≡ session true (Held w c) (taken_up t n) (record r { deadline = None })
resumed_session true (Held v d) t r w c h n counts live has =
    ap (λ (x : Option ℕ). resumed (traffic.resume t x) (Held v d) t r w c) has
resumed_session true Away t r w c h n counts live has =
    ap (λ (x : Option ℕ). resumed (traffic.resume t x) Away t r w c) has
resumed_session true (Ended cause) t r w c h n counts live has = absurd (true≢false (sym live))
resumed_session true Gone t r w c h n counts live has = absurd (true≢false (sym live))
resumed_session false m t r w c h n counts live has = absurd (true≢false (sym counts))

-- the session is held by the new connection, and its traffic goes on at the client's number
pub taken_session : (st : State) (w c u : ℕ) (id : ResumeId) (h : ℕ) (v : Verdict) (g : GoesOn st w c u id h v)
    → (apply_all whole st.world v.effects).sessions id.session
    ≡ session true (Held w c) (taken_up (st.world.sessions id.session).traffic g.n)
    (record (st.world.sessions id.session).rest { deadline = None })
taken_session st w c u id h v g =
    ap (λ (x : Verdict). (apply_all whole st.world x.effects).sessions id.session) g.is
    ∙ (put_here id.session (session_step whole (st.world.sessions id.session) (Resume w c h)) st.world.sessions
    ∙ resumed_session _ _ _ _ w c h g.n (finds_counts st id u (st.world.sessions id.session) g.found)
    (finds_live st id u (st.world.sessions id.session) g.found) g.has)

-- the answers of a connection stay as it comes to hold a session
settled_answers : (s : ℕ) (m : Hold) (w c : ℕ) (ls : ℕ → Line) → (settled s m (Held w c) ls w).answers ≡ (ls w).answers
settled_answers s (Held v d) w c ls = moved_answers ((v == w) && (d == c))
  where
    moved_answers : (b : Bool) → (moved_if b s v d w c ls w).answers ≡ (ls w).answers
    moved_answers true = refl
    moved_answers false =
        ap (λ (l : Line). l.answers) (put_here w (bound_line c s (ls w)) (put v (over_line d (Moved c)) ls))
settled_answers s Away w c ls = ap (λ (l : Line). l.answers) (put_here w (bound_line c s (ls w)) ls)
settled_answers s (Ended cause) w c ls = ap (λ (l : Line). l.answers) (put_here w (bound_line c s (ls w)) ls)
settled_answers s Gone w c ls = ap (λ (l : Line). l.answers) (put_here w (bound_line c s (ls w)) ls)

-- and `resumed` comes after them
pub taken_answers : (st : State) (w c u : ℕ) (id : ResumeId) (h : ℕ) (v : Verdict) → GoesOn st w c u id h v
    → ((apply_all whole st.world v.effects).lines w).answers
    ≡ (st.world.lines w).answers ++ answer.Resumed (inward (st.world.sessions id.session).traffic) id ∷ []
taken_answers st w c u id h v g =
    let s : Session Traffic = st.world.sessions id.session in
    let on : World Traffic = apply whole st.world (On id.session (Resume w c h)) in
    let said : Answer = answer.Resumed (inward s.traffic) id in
    ap (λ (x : Verdict). ((apply_all whole st.world x.effects).lines w).answers) g.is
    ∙ (ap (λ (l : Line). l.answers) (put_here w (line_step (Say said) (on.lines w)) on.lines)
    ∙ ap (λ (l : List Answer). l ++ said ∷ [])
    (ap (λ (m : Hold). (settled id.session s.hold m st.world.lines w).answers)
    (ap (λ (x : Session Traffic). x.hold)
    (resumed_session s.counts s.hold s.traffic s.rest w c h g.n (finds_counts st id u s g.found)
    (finds_live st id u s g.found) g.has))
    ∙ settled_answers id.session s.hold w c st.world.lines))

resumed_bound : (st : State) (w c u : ℕ) (id : ResumeId) (h t : ℕ) → IsMatched st.world
    → (st.world.lines w).stage ≡ Logged c u → reply.Resumed ≡ (step st (event.Resume w (Some id) h t)).reply
    → waits ((step st (event.Resume w (Some id) h t)).state.world.lines w).stage ≡ None
resumed_bound st w c u id h t m is said =
    let v : Verdict = verdict (keep (turn (event.Resume w (Some id) h t) st)) (event.Resume w (Some id) h t) in
    let g : GoesOn st w c u id h v = resume_decided st w c u id h t m.sound is (sym said) in
    ap waits (next_back st (event.Resume w (Some id) h t) (Made reply.Resumed []) m id.session w c
    (ap (λ (s : Session Traffic). s.hold) (taken_session st w c u id h v g)))

-- Bind
begun_waits : (world : World Traffic) (w c : ℕ) (a : Address) (id : List ℕ) (pre : List Effect)
    → waits ((apply_all whole world
    (pre ++ (Begin w c a ∷ At w (Say (answer.Bound id (address_text a))) ∷ []))).lines w).stage ≡ None
begun_waits world w c a id pre =
    let old : World Traffic = apply_all whole world pre in
    let new : World Traffic = apply whole old (Begin w c a) in
    let said : Line = line_step (Say (answer.Bound id (address_text a))) (new.lines w) in
    ap (λ (x : World Traffic). waits (x.lines w).stage)
    (apply_append world pre (Begin w c a ∷ At w (Say (answer.Bound id (address_text a))) ∷ []))
    ∙ (ap (λ (l : Line). waits l.stage) (put_here w said new.lines)
    ∙ ap (λ (l : Line). waits l.stage) (put_here w (bound_line c (old.made + 1) (old.lines w)) old.lines))

binds_waits : (has : Bool) (world : World Traffic) (k : Kept) (w c : ℕ) (a : Address) (id : List ℕ)
    → (binds has k w c a id).reply ≡ reply.Bound
    → waits ((apply_all whole world (binds has k w c a id).effects).lines w).stage ≡ None
binds_waits false world k w c a id said = absurd (cc)
binds_waits true world k w c a id said = begun_waits world w c a id (replaces k (session_at k a))

bind_waits : (full : Bool) (world : World Traffic) (k : Kept) (w : ℕ) (id : List ℕ) (resource : Option (List ℕ)) (t : ℕ)
    (dice : List ℕ) (c u : ℕ)
    → (body k (event.Bind w id resource t dice) (flooded full k w c (Logged c u) (Knows c u))).reply ≡ reply.Bound
    → waits ((apply_all whole world
    (body k (event.Bind w id resource t dice) (flooded full k w c (Logged c u) (Knows c u))).effects).lines w).stage
    ≡ None
bind_waits true world k w id resource t dice c u said = absurd (cc)
bind_waits false world k w id resource t dice c u said =
    binds_waits (has_place k (bound_address k u (resource_or dice resource))) world k w c
    (bound_address k u (resource_or dice resource)) id said

bound_bound : (st : State) (w : ℕ) (id : List ℕ) (resource : Option (List ℕ)) (t : ℕ) (dice : List ℕ) (c u : ℕ)
    → (st.world.lines w).stage ≡ Logged c u → reply.Bound ≡ (step st (event.Bind w id resource t dice)).reply
    → waits ((step st (event.Bind w id resource t dice)).state.world.lines w).stage ≡ None
bound_bound st w id resource t dice c u is said =
    subst (λ (g : stage.Line). (gated g).reply ≡ reply.Bound
    → waits ((apply_all whole st.world (gated g).effects).lines w).stage ≡ None) (sym is)
    (bind_waits (is_full to_bind (st.world.lines w)) st.world (keep (turn (event.Bind w id resource t dice) st))
    w id resource t dice c u)
    (sym said)
  where
    gated : stage.Line → Verdict
    gated g = body (keep (turn (event.Bind w id resource t dice) st)) (event.Bind w id resource t dice)
        (gate_at to_bind (keep (turn (event.Bind w id resource t dice) st)) w (st.world.lines w) g)

-- one turn
stay_good : (st : State) (e : Event) (cs : List ℕ) → Good st.world cs → Good (step st e).state.world cs
stay_good st e cs g = effects_good st.world (verdict (keep (turn e st)) e).effects cs g

turn_join : (st : State) (e : Event) (w c u : ℕ) (cs : List ℕ) → opened_by e ≡ 0 → Good st.world cs
    → (st.world.lines w).stage ≡ Logged c u → waits ((step st e).state.world.lines w).stage ≡ None
    → Good (step st e).state.world (c ∷ cs)
turn_join st e w c u cs none g is gone =
    let es : List Effect = (verdict (keep (turn e st)) e).effects in
    let shut : opens_in es ≡ 0 = verdict_opens (keep (turn e st)) e ∙ none in
    join_good st.world (step st e).state.world cs w c g (effects_good st.world es cs g) (ap waits is)
    (effects_shrink st.world es shut)
    (let more = opened_effects st.world es in omega (arith, more, shut))
    (λ at. (let bad : None ≡ Some c = sym gone ∙ at in cc))

bind_good : (b : Bool) (g : stage.Line) (st : State) (w : ℕ) (id : List ℕ) (resource : Option (List ℕ)) (t : ℕ)
    (dice : List ℕ) (cs : List ℕ) → Good st.world cs → (st.world.lines w).stage ≡ g
    → reply.Bound ≡ (step st (event.Bind w id resource t dice)).reply
    → Good (step st (event.Bind w id resource t dice)).state.world (latest_first (if b then conn_of g else []) cs)
bind_good true (Logged c u) st w id resource t dice cs g is said =
    turn_join st (event.Bind w id resource t dice) w c u cs refl g is (bound_bound st w id resource t dice c u is said)
bind_good true Empty st w id resource t dice cs g is said = stay_good st (event.Bind w id resource t dice) cs g
bind_good true (Fresh c) st w id resource t dice cs g is said = stay_good st (event.Bind w id resource t dice) cs g
bind_good true (Bound c s) st w id resource t dice cs g is said = stay_good st (event.Bind w id resource t dice) cs g
bind_good true (Over c cause) st w id resource t dice cs g is said = stay_good st (event.Bind w id resource t dice) cs g
bind_good false x st w id resource t dice cs g is said = stay_good st (event.Bind w id resource t dice) cs g

resume_good : (b : Bool) (g : stage.Line) (st : State) (w : ℕ) (id : ResumeId) (h t : ℕ) (cs : List ℕ)
    → IsMatched st.world → Good st.world cs → (st.world.lines w).stage ≡ g
    → reply.Resumed ≡ (step st (event.Resume w (Some id) h t)).reply
    → Good (step st (event.Resume w (Some id) h t)).state.world (latest_first (if b then conn_of g else []) cs)
resume_good true (Logged c u) st w id h t cs m g is said =
    turn_join st (event.Resume w (Some id) h t) w c u cs refl g is (resumed_bound st w c u id h t m is said)
resume_good true Empty st w id h t cs m g is said = stay_good st (event.Resume w (Some id) h t) cs g
resume_good true (Fresh c) st w id h t cs m g is said = stay_good st (event.Resume w (Some id) h t) cs g
resume_good true (Bound c s) st w id h t cs m g is said = stay_good st (event.Resume w (Some id) h t) cs g
resume_good true (Over c cause) st w id h t cs m g is said = stay_good st (event.Resume w (Some id) h t) cs g
resume_good false x st w id h t cs m g is said = stay_good st (event.Resume w (Some id) h t) cs g

next_good : (k : ℕ) (st : State) (e : Event) (o : Outcome) (cs : List ℕ) → IsMatched st.world → IsOutcome st e o
    → Good st.world cs → Good (next_by st e o).world (latest_first (joined k st e o) cs)
next_good k st (event.Bind w id resource t dice) (Made reply.Bound text) cs m is g =
    bind_good (eqb k (st.world.made + 1)) (st.world.lines w).stage st w id resource t dice cs g refl is.0
next_good k st (event.Resume w (Some id) h t) (Made reply.Resumed text) cs m is g =
    resume_good (eqb k id.session) (st.world.lines w).stage st w id h t cs m g refl is.0
next_good k st (event.Bind w id resource t dice) (Made r text) cs m is g = stay_good st (event.Bind w id resource t dice) cs g
next_good k st (event.Resume w (Some id) h t) (Made r text) cs m is g = stay_good st (event.Resume w (Some id) h t) cs g
next_good k st (event.Resume w None h t) (Made r text) cs m is g = stay_good st (event.Resume w None h t) cs g
next_good k st (event.Resume w None h t) Short cs m is g = g
next_good k st (event.Resume w (Some id) h t) Short cs m is g = g
next_good k st e (Made r text) cs m is g = stay_good st e cs g
next_good k st e Short cs m is g = g

next_matched : (st : State) (x : Turn) → IsMatched st.world → IsMatched (next st x).world
next_matched st x m = record { sound = next_sound st x m.sound; back = next_back st x.event x.outcome m }

history_good : (k : ℕ) (st : State) (h : List Turn) (cs : List ℕ) → IsMatched st.world → Legal st h → Good st.world cs
    → Good (after st h).world (latest_first (told (joined k) st h) cs)
history_good k st [] cs m legal g = g
history_good k st (x ∷ more) cs m legal g =
    subst (Good (after (next st x) more).world)
    (sym (latest_append (joined k st x.event x.outcome) (told (joined k) (next st x) more) cs))
    (history_good k (next st x) more (latest_first (joined k st x.event x.outcome) cs) (next_matched st x m) legal.1
    (next_good k st x.event x.outcome cs m legal.0.outcome g))

opening_good : (o : State) → IsOpening o → Good o.world []
opening_good o starts = subst (λ (st : State). Good st.world []) (sym starts.4) (record {
  one_line = λ w v c a b. absurd (cc);
  low = λ w c a. absurd (cc);
  free = λ w c a. absurd (cc);
  old = tt;
  apart = tt;
})

pub lines_good : (o : State) (h : List Turn) (k : ℕ) → IsOpening o → Legal o h
    → Good (after o h).world (latest_first (lines o h k) [])
lines_good o h k starts legal =
    history_good k o h [] (record { sound = starts_sound o starts; back = starts_back o starts }) legal
    (opening_good o starts)
