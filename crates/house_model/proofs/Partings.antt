-- A session departs by a Sweep where it is over or due, or by a Bind of its address, and not otherwise.
use Rattle.std.proofs.Common.{◌≡◌, ◌⊎◌, inl, inr, ℕ, zero, suc, ◌+◌, ◌≤◌, List, [], ◌∷◌, ◌++◌, Option, Some}
use Rattle.std.proofs.Common.{None, Bool, true, false, refl, sym, ap, ◌∙◌, true≢false, map}
use Rattle.std.specs.Prelude.{nat_lt, not, ⊤}
use Rattle.std.proofs.lemmas.Bool.{ltb-false}
use Rattle.stanza_tree.specs.declared.frame.Entry.{Entry}
use Rattle.jid_core.specs.Addresses.{Address, same_address, address_text}
use Rattle.sm_resume.specs.declared.decision.Cause.{Cause}
use Rattle.sm_resume.specs.declared.decision.Cause.TheVariants.{Flood, Lost, Replaced}
use Rattle.session_table.specs.declared.line.Line.TheVariants.{Logged}
use Rattle.muc_service.specs.Casting.{cast}
use Rattle.house_model.specs.declared.answer.Answer.TheVariants as answer
use Rattle.house_model.specs.declared.event.Event.{Event}
use Rattle.house_model.specs.declared.event.Event.TheVariants as event
use Rattle.house_model.specs.declared.reply.Reply.TheVariants as reply
use Rattle.house_model.specs.Numbered.{least, or_here}
use Rattle.house_model.specs.Sessions.{Hold, Held, Away, Ended, Gone, Rest, Session, Op, Push, Ack, Drop, Resume, End}
use Rattle.house_model.specs.Sessions.{Part, pushed, acked, resumed, begun, step_if, session_step}
use Rattle.house_model.specs.Traffic.{Traffic, whole, KeptTraffic}
use Rattle.house_model.specs.Routing.{departure}
use Rattle.house_model.specs.States.{State, World, Kept, keep, keep_by, keep_session, keep_world}
use Rattle.house_model.specs.Effects.{Effect, Open, At, Begin, On, Note, Hosts, Files, Say, Close, apply, apply_all}
use Rattle.house_model.specs.Gate.{Verdict, most_answers, to_bind, left}
use Rattle.house_model.specs.Lookups.{is_there, is_at, session_at}
use Rattle.house_model.specs.Steps.{replaces, binds, has_place, bound_address, resource_or, has_come, is_due, due, departs, effect_of, sweeps, verdict, turn}
use Rattle.house_model.specs.Histories.{step}
use Rattle.house_model.specs.Resuming.{IsOverOrDue, IsSwept, IsReplaced}
use Rattle.house_model.proofs.PutLemmas.{put_is, put_else}
use Rattle.house_model.proofs.SoundLemmas.{same_or_not}
use Rattle.house_model.proofs.GateLemmas.{gate_leads}
use Rattle.house_model.proofs.Resumes.{and_right}
use Rattle.house_model.proofs.Ears.{Ear, IsPlain, AllPlain, plain_append}
use Rattle.house_model.proofs.Quiet.{is_deaf, verdict_plain, left_plain, queued_plain}

abbrev part_ear : Ear
part_ear =
    record { pull = false; act = false; ask = false; ack = false; enable = false; begin = false; resume = false; part = true }

-- one operation
pushed_gone : (has b : Bool) (m : Hold) (t : Traffic) (r : Rest) (e : Entry)
    → (pushed whole has b m t r e).hold ≡ Gone → m ≡ Gone
pushed_gone true b m t r e is = is
pushed_gone false b m t r e is = absurd (cc)

acked_gone : (u : Option Traffic) (m : Hold) (t : Traffic) (r : Rest) (h : ℕ)
    → (acked whole u m t r h).hold ≡ Gone → m ≡ Gone
acked_gone (Some u) m t r h is = is
acked_gone None m t r h is = absurd (cc)

resumed_gone : (u : Option Traffic) (m : Hold) (t : Traffic) (r : Rest) (w c : ℕ)
    → (resumed u m t r w c).hold ≡ Gone → m ≡ Gone
resumed_gone (Some u) m t r w c is = absurd (cc)
resumed_gone None m t r w c is = is

abbrev pub IsNoPart : Op → Type 0
IsNoPart Part = ⊥
IsNoPart op = ⊤

pub step_gone : (b : Bool) (m : Hold) (t : Traffic) (r : Rest) (op : Op) → IsNoPart op
    → (step_if whole b m t r op).hold ≡ Gone → m ≡ Gone
step_gone b m t r Part stays is = absurd stays
step_gone b (Held v d) t r (Push e) stays is = pushed_gone (whole.has_room t e) b (Held v d) t r e is
step_gone true Away t r (Push e) stays is = pushed_gone (whole.has_room t e) true Away t r e is
step_gone b (Held v d) t r (End cause) stays is = absurd (cc)
step_gone true Away t r (End cause) stays is = absurd (cc)
step_gone true (Held v d) t r (Ack h) stays is = acked_gone (whole.ack t h) (Held v d) t r h is
step_gone false (Held v d) t r (Drop deadline) stays is = absurd (cc)
step_gone true (Held v d) t r (Drop deadline) stays is = absurd (cc)
step_gone true (Held v d) t r (Resume w c h) stays is = resumed_gone (whole.resume t h) (Held v d) t r w c is
step_gone true Away t r (Resume w c h) stays is = resumed_gone (whole.resume t h) Away t r w c is
step_gone true (Held v d) t r op stays is = is
step_gone false (Held v d) t r op stays is = is
step_gone true Away t r op stays is = is
step_gone false Away t r op stays is = is
step_gone true (Ended cause) t r op stays is = is
step_gone false (Ended cause) t r op stays is = is
step_gone true Gone t r op stays is = refl
step_gone false Gone t r op stays is = refl

-- effects by which session k does not depart
abbrev Spares : ℕ → Effect → Type 0
Spares k (On j Part) = k ≡ j → ⊥
Spares k e = ⊤

abbrev AllSpare : ℕ → List Effect → Type 0
AllSpare k [] = ⊤
AllSpare k (e ∷ es) = Spares k e × AllSpare k es

on_gone : (k j : ℕ) (op : Op) (world : World Traffic) → IsNoPart op
    → ((apply whole world (On j op)).sessions k).hold ≡ Gone → (world.sessions k).hold ≡ Gone
on_gone k j op world stays is = elim (put_is j (session_step whole (world.sessions j) op) world.sessions k) [
  | inl p ↦ ap (λ (i : ℕ). (world.sessions i).hold) p.0
      ∙ step_gone _ (world.sessions j).hold _ _ op stays (ap (λ (s : Session Traffic). s.hold) (sym p.1) ∙ is)
  | inr p ↦ ap (λ (s : Session Traffic). s.hold) (sym p.1) ∙ is
]

effect_gone : (k : ℕ) (world : World Traffic) (e : Effect) → Spares k e
    → ((apply whole world e).sessions k).hold ≡ Gone → (world.sessions k).hold ≡ Gone
effect_gone k world (Open v) spares is = is
effect_gone k world (At v op) spares is = is
effect_gone k world (Note change) spares is = is
effect_gone k world (Hosts x) spares is = is
effect_gone k world (Files filing) spares is = is
effect_gone k world (Begin v c a) spares is = elim (put_is (world.made + 1) (begun whole v c a) world.sessions k) [
  | inl p ↦ absurd (let bad : Held v c ≡ Gone = ap (λ (s : Session Traffic). s.hold) (sym p.1) ∙ is in cc)
  | inr p ↦ ap (λ (s : Session Traffic). s.hold) (sym p.1) ∙ is
]
effect_gone k world (On j Part) spares is =
    ap (λ (s : Session Traffic). s.hold)
    (sym (put_else j (session_step whole (world.sessions j) Part) world.sessions k spares)) ∙ is
effect_gone k world (On j op) spares is = on_gone k j op world tt is

all_gone : (k : ℕ) (world : World Traffic) (es : List Effect) → AllSpare k es
    → ((apply_all whole world es).sessions k).hold ≡ Gone → (world.sessions k).hold ≡ Gone
all_gone k world [] all is = is
all_gone k world (e ∷ es) all is = effect_gone k world e all.0 (all_gone k (apply whole world e) es all.1 is)

plain_spares : (k : ℕ) (e : Effect) → IsPlain part_ear e → Spares k e
plain_spares k (On j Part) is = absurd (true≢false (sym is))
plain_spares k (On j op) is = tt
plain_spares k (Open w) is = tt
plain_spares k (At w op) is = tt
plain_spares k (Begin w c a) is = tt
plain_spares k (Note change) is = tt
plain_spares k (Hosts x) is = tt
plain_spares k (Files filing) is = tt

plain_spare : (k : ℕ) (es : List Effect) → AllPlain part_ear es → AllSpare k es
plain_spare k [] all = tt
plain_spare k (e ∷ es) all = (plain_spares k e all.0, plain_spare k es all.1)

-- the least number passes the test
or_here_is : (o : Option ℕ) (b : Bool) (n s : ℕ) → or_here o b n ≡ Some s → (o ≡ Some s → ⊥) → (b ≡ true) × (n ≡ s)
or_here_is (Some x) b n s is old = absurd (old is)
or_here_is None true n s is old = (refl, cc)
or_here_is None false n s is old = absurd (cc)

first_passes : (o : Option ℕ) (n s : ℕ) (test : ℕ → Bool) → (o ≡ Some s → test s ≡ true)
    → or_here o (test (suc n)) (suc n) ≡ Some s → test s ≡ true
first_passes (Some x) n s test before is = before is
first_passes None n s test before is =
    let here : (test (suc n) ≡ true) × (suc n ≡ s) = or_here_is None (test (suc n)) (suc n) s is (λ bad. cc) in
    ap test (sym here.1) ∙ here.0

pub least_passes : (n : ℕ) (test : ℕ → Bool) (s : ℕ) → least n test ≡ Some s → test s ≡ true
least_passes zero test s is = absurd (cc)
least_passes (suc n) test s is = first_passes (least n test) n s test (λ e. least_passes n test s e) is

-- Sweep
come : (d now : ℕ) → not (nat_lt now d) ≡ true → d ≤ now
come d now is = ltb-false now d (by_test (nat_lt now d) is)
  where
    by_test : (b : Bool) → not b ≡ true → b ≡ false
    by_test true is = sym is
    by_test false is = refl

has_come_is : (now : ℕ) (m : Hold) (deadline : Option ℕ) → has_come deadline now ≡ true → IsOverOrDue now m deadline
has_come_is now (Ended cause) deadline is = tt
has_come_is now (Held v d) (Some t) is = come t now is
has_come_is now Away (Some t) is = come t now is
has_come_is now Gone (Some t) is = come t now is
has_come_is now (Held v d) None is = absurd (true≢false (sym is))
has_come_is now Away None is = absurd (true≢false (sym is))
has_come_is now Gone None is = absurd (true≢false (sym is))

pub due_is : (now : ℕ) (b : Bool) (m : Hold) (t : Traffic) (r : Rest) → is_due now (keep_by b m t r) ≡ true
    → IsOverOrDue now m r.deadline
due_is now b (Held v d) t r is = has_come_is now (Held v d) r.deadline is
due_is now b Away t r is = has_come_is now Away r.deadline is
due_is now b (Ended cause) t r is = tt
due_is now b Gone t r is = absurd (true≢false (sym is))

abbrev Departs : State → Event → ℕ → Type 0
Departs st e s = ((st.world.sessions s).hold ≡ Gone) ⊎ (IsSwept st e s ⊎ IsReplaced st e s)

spare_append : (k : ℕ) (xs ys : List Effect) → AllSpare k xs → AllSpare k ys → AllSpare k (xs ++ ys)
spare_append k [] ys a b = b
spare_append k (x ∷ xs) ys a b = (a.0, spare_append k xs ys a.1 b)

-- another departs
departs_spare : (k : World KeptTraffic) (s i : ℕ) (cause : Cause) → (s ≡ i → ⊥) → AllSpare s (departs k i cause)
departs_spare k s i cause ne = (
  tt,
  spare_append s (map effect_of (cast k.rooms (departure k i))) (On i Part ∷ [])
      (plain_spare s (map effect_of (cast k.rooms (departure k i))) (queued_plain part_ear (cast k.rooms (departure k i)))) (ne, tt),
)

sweep_departs : (o : Option ℕ) (st : State) (w t s : ℕ) → due (keep (turn (event.Sweep w t) st)) ≡ o
    → ((apply_all whole st.world (sweeps (keep_world st.world) o).effects).sessions s).hold ≡ Gone → Departs st (event.Sweep w t) s
sweep_departs None st w t s at is = inl is
sweep_departs (Some i) st w t s at is = elim (same_or_not s i) [
  | inl e ↦ inr (inl (
    ap (λ (x : Option ℕ). (sweeps (keep_world st.world) x).reply) at ∙ ap reply.Swept (sym e),
    due_is (turn (event.Sweep w t) st).head.moment (st.world.sessions s).counts (st.world.sessions s).hold
        (st.world.sessions s).traffic (st.world.sessions s).rest
        (least_passes st.world.made
        (λ n. is_due (turn (event.Sweep w t) st).head.moment (keep_session (st.world.sessions n))) s
        (at ∙ ap Some (sym e))),
  ))
  | inr ne ↦ inl (all_gone s st.world (departs (keep_world st.world) i Lost) (departs_spare (keep_world st.world) s i Lost ne) is)
]

-- Bind
there : (a : Address) (b : Bool) (m : Hold) (t : Traffic) (r : Rest) → is_at a (keep_by b m t r) ≡ true
    → (m ≡ Gone) ⊎ (same_address r.address a ≡ true)
there a b (Held v d) t r is = inr (and_right (is_there (keep_by b (Held v d) t r)) (same_address r.address a) is)
there a b Away t r is = inr (and_right (is_there (keep_by b Away t r)) (same_address r.address a) is)
there a b (Ended cause) t r is = inr (and_right (is_there (keep_by b (Ended cause) t r)) (same_address r.address a) is)
there a b Gone t r is = inl refl

module _ (st : State) (w : ℕ) (id : List ℕ) (resource : Option (List ℕ)) (t : ℕ) (dice : List ℕ) (s : ℕ) where
  abbrev bind : Event
  bind = event.Bind w id resource t dice

  abbrev kept : Kept
  kept = keep (turn bind st)

  abbrev address : ℕ → Address
  address u = bound_address (keep st) u (resource_or dice resource)

  abbrev IsGone : List Effect → Type 0
  IsGone es = ((apply_all whole st.world es).sessions s).hold ≡ Gone

  abbrev made : (c u : ℕ) → List Effect
  made c u = Begin w c (address u) ∷ At w (Say (answer.Bound id (address_text (address u)))) ∷ []

  bound_departs : (o : Option ℕ) (c u : ℕ) → (st.world.lines w).stage ≡ Logged c u
      → (step st bind).reply ≡ reply.Bound → session_at kept (address u) ≡ o
      → IsGone (replaces kept o ++ made c u) → Departs st bind s
  bound_departs None c u stage bound at is = inl (all_gone s st.world (made c u) (tt, (tt, tt)) is)
  bound_departs (Some i) c u stage bound at is = elim (same_or_not s i) [
    | inl e ↦ elim (there (address u) (st.world.sessions s).counts (st.world.sessions s).hold
        (st.world.sessions s).traffic (st.world.sessions s).rest
        (least_passes st.world.made (λ n. is_at (address u) (keep_session (st.world.sessions n))) s
        (at ∙ ap Some (sym e)))) [
          | inl gone ↦ inl gone
          | inr same ↦ inr (inr (u, record { conn = c; logged = stage; bound = bound; same = same }))
        ]
    | inr ne ↦ inl (all_gone s st.world (departs kept.world i (Replaced (st.world.made + 1)) ++ made c u)
        (spare_append s (departs kept.world i (Replaced (st.world.made + 1))) (made c u)
        (departs_spare kept.world s i (Replaced (st.world.made + 1)) ne) (tt, (tt, tt))) is)
  ]

  binds_departs : (has : Bool) (c u : ℕ) → (st.world.lines w).stage ≡ Logged c u
      → (step st bind).reply ≡ (binds has kept w c (address u) id).reply
      → IsGone (binds has kept w c (address u) id).effects → Departs st bind s
  binds_departs false c u stage said is = inl (all_gone s st.world (At w (Say (answer.Refused id)) ∷ []) (tt, tt) is)
  binds_departs true c u stage said is = bound_departs (session_at kept (address u)) c u stage said refl is

  abbrev Goes : Verdict → Type 0
  Goes v = (step st bind).reply ≡ v.reply → IsGone v.effects → Departs st bind s

  bind_goes : Goes (verdict kept bind)
  bind_goes =
      gate_leads Goes kept bind to_bind w (st.world.lines w) (st.world.lines w).stage
      (λ r said is. inl is)
      (λ c said is. inl (all_gone s st.world (left kept (st.world.lines w).stage ++ At w (Close c (Flood most_answers)) ∷ [])
      (plain_spare s (left kept (st.world.lines w).stage ++ At w (Close c (Flood most_answers)) ∷ [])
      (plain_append part_ear (left kept (st.world.lines w).stage) (At w (Close c (Flood most_answers)) ∷ [])
      (left_plain part_ear kept (st.world.lines w).stage) (tt, tt))) is))
      (λ c is_fresh said is. inl is)
      (λ c u stage said is. binds_departs (has_place kept (address u)) c u stage said is)
      (λ c i stage said is. inl is)

  bind_departs : IsGone (verdict kept bind).effects → Departs st bind s
  bind_departs is = bind_goes refl is

stays : (st : State) (e : Event) (s : ℕ) → is_deaf part_ear e ≡ true
    → ((step st e).state.world.sessions s).hold ≡ Gone → (st.world.sessions s).hold ≡ Gone
stays st e s deaf is =
    all_gone s st.world (verdict (keep (turn e st)) e).effects
    (plain_spare s _ (verdict_plain part_ear (keep (turn e st)) e deaf)) is

pub departs_is : (st : State) (e : Event) (s : ℕ) → ((step st e).state.world.sessions s).hold ≡ Gone → Departs st e s
departs_is st (event.Sweep w t) s is = sweep_departs (due (keep (turn (event.Sweep w t) st))) st w t s refl is
departs_is st (event.Bind w id resource t dice) s is = bind_departs st w id resource t dice s is
departs_is st e s is = inl (stays st e s refl is)
