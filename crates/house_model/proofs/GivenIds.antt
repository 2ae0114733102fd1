-- After every history, the ids that were given are those that sessions have.
use Rattle.std.proofs.Common.{◌≡◌, inl, inr, ℕ, List, [], ◌∷◌, ◌++◌, Option, Some, None, Bool, true, false, eqb}
use Rattle.std.proofs.Common.{eq-eqb, refl, sym, ap, ◌∙◌, subst, append_assoc, true≢false}
use Rattle.std.specs.Prelude.{bytes_eq, ◌==◌, ◌&&◌, ◌||◌}
use Rattle.std.proofs.lemmas.Bool.{eqb-true}
use Rattle.sm_resume.specs.declared.id.ResumeId.{ResumeId}
use Rattle.sm_resume.specs.declared.decision.Cause.TheVariants.{Flood}
use Rattle.session_table.specs.declared.line.Line as stage
use Rattle.session_table.specs.declared.line.Line.TheVariants.{Empty, Fresh, Logged, Bound, Over}
use Rattle.house_model.specs.declared.answer.Answer.TheVariants as answer
use Rattle.house_model.specs.declared.event.Event.{Event}
use Rattle.house_model.specs.declared.event.Event.TheVariants as event
use Rattle.house_model.specs.declared.reply.Reply.{Reply}
use Rattle.house_model.specs.Sessions.{Hold, Held, Away, Ended, Gone, Rest, Session, Enable, step_if, session_step}
use Rattle.house_model.specs.Traffic.{Traffic, KeptTraffic, whole}
use Rattle.house_model.specs.States.{World, State, Kept, keep}
use Rattle.house_model.specs.Effects.{Effect, At, On, Say, Close, apply, apply_all}
use Rattle.house_model.specs.Gate.{Verdict, Knows, Holds, to_manage, most_answers, is_full, flooded, left, gate_at}
use Rattle.house_model.specs.Steps.{id_if, enables, has_id, body, verdict, turn}
use Rattle.house_model.specs.Histories.{Outcome, Made, Short, Turn, IsOutcome, next_by, next, after, Legal, IsOpening}
use Rattle.house_model.specs.Sound.{Sound}
use Rattle.house_model.specs.Lines.{told, new_ids, ids_at, ids_by, ids, is_among}
use Rattle.house_model.specs.Promises.{can_resume}
use Rattle.house_model.specs.Resuming.{is_live, is_of_user}
use Rattle.house_model.proofs.PutLemmas.{put_here, put_else}
use Rattle.house_model.proofs.SoundLemmas.{same_or_not}
use Rattle.house_model.proofs.TurnLaws.{next_sound, starts_sound}
use Rattle.house_model.proofs.Ears.{AllPlain, plain_append}
use Rattle.house_model.proofs.Quiet.{verdict_plain, left_plain}
use Rattle.house_model.proofs.Hearing.{kept_held}
use Rattle.house_model.proofs.Resumes.{finds}
use Rattle.house_model.proofs.Given.{id_ear, Mark, mark_of, Gave, plain_gave}

among_append : (id : ResumeId) (xs ys : List ResumeId)
    → is_among id (xs ++ ys) ≡ (is_among id xs || is_among id ys)
among_append id [] ys = refl
among_append id (x ∷ xs) ys =
    ap (λ (b : Bool). ((x.session == id.session) && bytes_eq x.digits id.digits) || b) (among_append id xs ys)
    ∙ or_assoc ((x.session == id.session) && bytes_eq x.digits id.digits) (is_among id xs) (is_among id ys)
  where
    or_assoc : (a b c : Bool) → (a || (b || c)) ≡ ((a || b) || c)
    or_assoc true b c = refl
    or_assoc false b c = refl

new_among : (b wants : Bool) (s : ℕ) (dice : List ℕ) (id : ResumeId) → eqb s id.session ≡ b
    → is_among id (new_ids false (id_if wants s dice)) ≡ (b && has_id (id_if wants s dice) id)
new_among true false s dice id is = refl
new_among false false s dice id is = refl
new_among true true s dice id is =
    ap (λ (b : Bool). (b && bytes_eq dice id.digits) || false) is ∙ or_false (bytes_eq dice id.digits)
  where
    or_false : (b : Bool) → (b || false) ≡ b
    or_false true = refl
    or_false false = refl
new_among false true s dice id is = ap (λ (b : Bool). (b && bytes_eq dice id.digits) || false) is

-- Enable
enabled_mark : (b : Bool) (m : Hold) (t : Traffic) (r : Rest) (id : Option ResumeId) (v d : ℕ) → b ≡ false
    → m ≡ Held v d → mark_of (step_if whole b m t r (Enable id)) ≡ record { counts = true; id = id }
enabled_mark false (Held v d) t r id w c uncounted held = refl
enabled_mark true m t r id w c uncounted held = absurd (true≢false uncounted)
enabled_mark false Away t r id w c uncounted held = absurd (cc)
enabled_mark false (Ended cause) t r id w c uncounted held = absurd (cc)
enabled_mark false Gone t r id w c uncounted held = absurd (cc)

module _ (world : World Traffic) (s w c : ℕ) (wants : Bool) (dice : List ℕ) (gs : List ResumeId) (g : Gave world gs)
    (uncounted : (world.sessions s).counts ≡ false) (held : (world.sessions s).hold ≡ Held w c) where
  abbrev to : World Traffic
  to = apply whole world (On s (Enable (id_if wants s dice)))

  mark_here : mark_of (to.sessions s) ≡ record { counts = true; id = id_if wants s dice }
  mark_here =
      ap mark_of (put_here s (session_step whole (world.sessions s) (Enable (id_if wants s dice))) world.sessions)
      ∙ enabled_mark (world.sessions s).counts (world.sessions s).hold (world.sessions s).traffic (world.sessions s).rest
      (id_if wants s dice) w c uncounted held

  mark_else : (k : ℕ) → (k ≡ s → ⊥) → mark_of (to.sessions k) ≡ mark_of (world.sessions k)
  mark_else k ne =
      ap mark_of (put_else s (session_step whole (world.sessions s) (Enable (id_if wants s dice))) world.sessions k ne)

  among_both : (id : ResumeId) (b : Bool) → eqb s id.session ≡ b
      → is_among id (gs ++ new_ids false (id_if wants s dice))
      ≡ (has_id (world.sessions id.session).rest.resume_id id || (b && has_id (id_if wants s dice) id))
  among_both id b is =
      among_append id gs (new_ids false (id_if wants s dice))
      ∙ (ap (λ (x : Bool). x || is_among id (new_ids false (id_if wants s dice))) (g.same id)
      ∙ ap (λ (x : Bool). has_id (world.sessions id.session).rest.resume_id id || x) (new_among b wants s dice id is))

  same_by : (id : ResumeId) (b : Bool) → eqb s id.session ≡ b
      → is_among id (gs ++ new_ids false (id_if wants s dice)) ≡ has_id (to.sessions id.session).rest.resume_id id
  same_by id true is =
      let at : s ≡ id.session = eqb-true s id.session is in
      among_both id true is
      ∙ (ap (λ (o : Option ResumeId). has_id o id || has_id (id_if wants s dice) id)
      (ap (λ (k : ℕ). (world.sessions k).rest.resume_id) (sym at) ∙ g.uncounted s uncounted)
      ∙ (ap (λ (m : Mark). has_id m.id id) (sym mark_here)
      ∙ ap (λ (k : ℕ). has_id (to.sessions k).rest.resume_id id) at))
  same_by id false is =
      among_both id false is
      ∙ (or_false (has_id (world.sessions id.session).rest.resume_id id)
      ∙ ap (λ (m : Mark). has_id m.id id) (sym (mark_else id.session
      (λ e. true≢false (sym (eq-eqb s id.session (sym e)) ∙ is)))))
    where
      or_false : (b : Bool) → (b || false) ≡ b
      or_false true = refl
      or_false false = refl

  enabled_gave : Gave to (gs ++ new_ids false (id_if wants s dice))
  enabled_gave = record {
    uncounted = λ k none. elim (same_or_not k s) [
      | inl e ↦ absurd (true≢false (
          sym (ap (λ (m : Mark). m.counts) mark_here) ∙ (ap (λ (i : ℕ). (to.sessions i).counts) (sym e) ∙ none)))
      | inr ne ↦ ap (λ (m : Mark). m.id) (mark_else k ne)
          ∙ g.uncounted k (ap (λ (m : Mark). m.counts) (sym (mark_else k ne)) ∙ none)
    ];
    same = λ id. same_by id (eqb s id.session) refl;
  }

abbrev GaveBy : State → ℕ → Bool → List ℕ → List ResumeId → Verdict → Type 0
GaveBy st w wants dice gs v = Gave (apply_all whole st.world v.effects) (gs ++ ids_by st w wants dice v.reply)

with_ids : (st : State) (es : List Effect) (gs ids : List ResumeId) → Sound st.world → AllPlain id_ear es
    → Gave st.world gs → ids ≡ [] → Gave (apply_all whole st.world es) (gs ++ ids)
with_ids st es gs ids o all g none =
    subst (λ (l : List ResumeId). Gave (apply_all whole st.world es) (gs ++ l)) (sym none)
    (plain_gave st.world es gs o all g)

enables_gave : (b : Bool) (st : State) (w c s : ℕ) (wants : Bool) (dice : List ℕ) (gs : List ResumeId)
    → Sound st.world → (st.world.lines w).stage ≡ Bound c s → (st.world.sessions s).counts ≡ b → Gave st.world gs
    → GaveBy st w wants dice gs (enables b w s (id_if wants s dice))
enables_gave true st w c s wants dice gs o is counts g =
    with_ids st (At w (Say answer.Unexpected) ∷ []) gs _ o (tt, tt) g
    (ap (ids_at st wants dice) is ∙ ap (λ (b : Bool). new_ids b (id_if wants s dice)) counts)
enables_gave false st w c s wants dice gs o is counts g =
    subst (λ (l : List ResumeId).
    Gave (apply_all whole st.world (enables false w s (id_if wants s dice)).effects) (gs ++ l))
    (sym (ap (ids_at st wants dice) is ∙ ap (λ (b : Bool). new_ids b (id_if wants s dice)) counts))
    (record { uncounted = now.uncounted; same = now.same })
  where
    now : Gave (apply whole st.world (On s (Enable (id_if wants s dice)))) (gs ++ new_ids false (id_if wants s dice))
    now = enabled_gave st.world s w c wants dice gs g counts (o.tied w c s is)

holds_gave : (full : Bool) (st : State) (kept : Kept) (w c s : ℕ) (wants : Bool) (dice : List ℕ) (gs : List ResumeId)
    → Sound st.world → (st.world.lines w).stage ≡ Bound c s
    → (kept.world.sessions s).counts ≡ (st.world.sessions s).counts → Gave st.world gs
    → GaveBy st w wants dice gs
    (body kept (event.Enable w wants dice) (flooded full kept w c (Bound c s) (Holds c s)))
holds_gave true st kept w c s wants dice gs o is same g =
    plain_gave st.world (left kept (Bound c s) ++ At w (Close c (Flood most_answers)) ∷ []) gs o
    (plain_append id_ear (left kept (Bound c s)) (At w (Close c (Flood most_answers)) ∷ [])
    (left_plain id_ear kept (Bound c s)) (tt, tt)) g
holds_gave false st kept w c s wants dice gs o is same g =
    enables_gave (kept.world.sessions s).counts st w c s wants dice gs o is (sym same) g

knows_gave : (full : Bool) (st : State) (kept : Kept) (w c u : ℕ) (wants : Bool) (dice : List ℕ) (gs : List ResumeId)
    → Sound st.world → (st.world.lines w).stage ≡ Logged c u → Gave st.world gs
    → GaveBy st w wants dice gs
    (body kept (event.Enable w wants dice) (flooded full kept w c (Logged c u) (Knows c u)))
knows_gave true st kept w c u wants dice gs o is g =
    plain_gave st.world (At w (Close c (Flood most_answers)) ∷ []) gs o (tt, tt) g
knows_gave false st kept w c u wants dice gs o is g =
    with_ids st (At w (Say answer.Unexpected) ∷ []) gs _ o (tt, tt) g (ap (ids_at st wants dice) is)

stage_gave : (st : State) (w : ℕ) (wants : Bool) (dice : List ℕ) (gs : List ResumeId) (g : stage.Line)
    → Sound st.world → (st.world.lines w).stage ≡ g → Gave st.world gs
    → GaveBy st w wants dice gs (body (keep (turn (event.Enable w wants dice) st)) (event.Enable w wants dice)
    (gate_at to_manage (keep (turn (event.Enable w wants dice) st)) w (st.world.lines w) g))
stage_gave st w wants dice gs Empty o is g = plain_gave st.world [] gs o tt g
stage_gave st w wants dice gs (Over c cause) o is g = plain_gave st.world [] gs o tt g
stage_gave st w wants dice gs (Fresh c) o is g = plain_gave st.world [] gs o tt g
stage_gave st w wants dice gs (Logged c u) o is g =
    knows_gave (is_full to_manage (st.world.lines w)) st (keep (turn (event.Enable w wants dice) st)) w c u wants dice gs
    o is g
stage_gave st w wants dice gs (Bound c s) o is g =
    holds_gave (is_full to_manage (st.world.lines w)) st (keep (turn (event.Enable w wants dice) st)) w c s wants dice gs
    o is (ap (λ (x : Session KeptTraffic). x.counts) (kept_held st w c s o is)) g

next_gave : (st : State) (e : Event) (o : Outcome) (gs : List ResumeId) → Sound st.world → IsOutcome st e o
    → Gave st.world gs → Gave (next_by st e o).world (gs ++ ids st e o)
next_gave st (event.Enable w wants dice) (Made r text) gs o is g =
    subst (λ (x : Reply). Gave (next_by st (event.Enable w wants dice) (Made r text)).world (gs ++ ids_by st w wants dice x))
    (sym is.0) (stage_gave st w wants dice gs (st.world.lines w).stage o refl g)
next_gave st (event.Enable w wants dice) Short gs o is g = plain_gave st.world [] gs o tt g
next_gave st e (Made r text) gs o is g =
    plain_gave st.world (verdict (keep (turn e st)) e).effects gs o (verdict_plain id_ear (keep (turn e st)) e refl) g
next_gave st e Short gs o is g = plain_gave st.world [] gs o tt g

history_gave : (st : State) (h : List Turn) (gs : List ResumeId) → Sound st.world → Legal st h → Gave st.world gs
    → Gave (after st h).world (gs ++ told ids st h)
history_gave st [] gs o legal g = plain_gave st.world [] gs o tt g
history_gave st (x ∷ more) gs o legal g =
    subst (Gave (after (next st x) more).world)
    (append_assoc gs (ids st x.event x.outcome) (told ids (next st x) more))
    (history_gave (next st x) more (gs ++ ids st x.event x.outcome) (next_sound st x o) legal.1
    (next_gave st x.event x.outcome gs o legal.0.outcome g))

opening_gave : (o : State) → IsOpening o → Gave o.world []
opening_gave o starts = subst (λ (st : State). Gave st.world []) (sym starts.4)
    (record { uncounted = λ k is. refl; same = λ id. refl })

pub given_are : (o : State) (h : List Turn) → IsOpening o → Legal o h → Gave (after o h).world (told ids o h)
given_are o h starts legal = history_gave o h [] (starts_sound o starts) legal (opening_gave o starts)

-- who can resume a session, as the state says it
found_by : (counts live mine : Bool) (has : Option ResumeId) (id : ResumeId) → (counts ≡ false → has ≡ None)
    → (has_id has id && (live && mine)) ≡ (live && (counts && (has_id has id && mine)))
found_by true true mine has id none = refl
found_by true false mine has id none = and_false (has_id has id)
  where
    and_false : (b : Bool) → (b && false) ≡ false
    and_false true = refl
    and_false false = refl
found_by false live mine has id none =
    ap (λ (o : Option ResumeId). has_id o id && (live && mine)) (none refl) ∙ and_false live
  where
    and_false : (b : Bool) → false ≡ (b && false)
    and_false true = refl
    and_false false = refl

pub can_is : (o : State) (h : List Turn) (u : ℕ) (id : ResumeId) → IsOpening o → Legal o h
    → can_resume o h u (Some id) ≡ finds (after o h) id u ((after o h).world.sessions id.session)
can_is o h u id starts legal =
    let g : Gave (after o h).world (told ids o h) = given_are o h starts legal in
    let s : Session Traffic = (after o h).world.sessions id.session in
    ap (λ (b : Bool). b && (is_live s.hold && is_of_user (after o h) u s)) (g.same id)
    ∙ found_by s.counts (is_live s.hold) (is_of_user (after o h) u s) s.rest.resume_id id (g.uncounted id.session)
