-- A Resume either goes on, or is not Resumed and its client is not heard.
use Rattle.std.proofs.Common.{◌≡◌, ◌⊎◌, inl, inr, ℕ, [], ◌∷◌, Option, Some, None, Bool, true, false, refl, sym, ap, subst}
use Rattle.sm_resume.specs.declared.decision.Cause.TheVariants.{Flood}
use Rattle.sm_resume.specs.declared.id.ResumeId.{ResumeId}
use Rattle.session_table.specs.declared.line.Line as stage
use Rattle.session_table.specs.declared.line.Line.TheVariants.{Empty, Fresh, Logged, Bound, Over}
use Rattle.house_model.specs.declared.event.Event.TheVariants as event
use Rattle.house_model.specs.declared.reply.Reply.TheVariants as reply
use Rattle.house_model.specs.Traffic as traffic
use Rattle.house_model.specs.Traffic.{handled, keep_traffic}
use Rattle.house_model.specs.States.{State, Kept, keep}
use Rattle.house_model.specs.Effects.{At, Close}
use Rattle.house_model.specs.Gate.{Verdict, Knows, Holds, to_manage, most_answers, is_full, flooded, left, gate_at}
use Rattle.house_model.specs.Steps.{takes, body, verdict, turn}
use Rattle.house_model.specs.Sound.{Sound}
use Rattle.house_model.proofs.TrafficLemmas.{keep_option}
use Rattle.house_model.proofs.Ears.{AllPlain, plain_append}
use Rattle.house_model.proofs.Quiet.{left_plain, gate_plain}
use Rattle.house_model.proofs.Resumes.{finds, decision, decided}
use Rattle.house_model.proofs.Joins.{GoesOn}
use Rattle.house_model.proofs.Muted.{client_ear}

abbrev pub IsMute : Verdict → Type 0
IsMute v = AllPlain client_ear v.effects × (v.reply ≡ reply.Resumed → ⊥)

abbrev pub Cases : State → (w : ℕ) → ResumeId → (h : ℕ) → Verdict → Type 0
Cases st w id h v = IsMute v ⊎ ((c u : ℕ) × (v.reply ≡ reply.Resumed) × GoesOn st w c u id h v)

by_count : (n : Option ℕ) (st : State) (w c u : ℕ) (id : ResumeId) (h : ℕ) (v : Verdict)
    → finds st id u (st.world.sessions id.session) ≡ true → handled (st.world.sessions id.session).traffic h ≡ n
    → v ≡ takes (keep_option (traffic.resume (st.world.sessions id.session).traffic n)) w c id.session h id
    (keep_traffic (st.world.sessions id.session).traffic)
    → Cases st w id h v
by_count None st w c u id h v found has is = inl (subst IsMute (sym is) ((tt, tt), λ bad. cc))
by_count (Some n) st w c u id h v found has is =
    inr (c, u, ap (λ (x : Verdict). x.reply) is, record { n = n; found = found; has = has; is = is })

by_finding : (b : Bool) (st : State) (w c u : ℕ) (id : ResumeId) (h : ℕ) (v : Verdict)
    → finds st id u (st.world.sessions id.session) ≡ b → v ≡ decision st w c u id h b → Cases st w id h v
by_finding true st w c u id h v found is =
    by_count (handled (st.world.sessions id.session).traffic h) st w c u id h v found refl is
by_finding false st w c u id h v found is = inl (subst IsMute (sym is) ((tt, tt), λ bad. cc))

logged_cases : (full : Bool) (st : State) (w c u : ℕ) (id : ResumeId) (h t : ℕ) → Sound st.world
    → Cases st w id h (body (keep (turn (event.Resume w (Some id) h t) st)) (event.Resume w (Some id) h t)
    (flooded full (keep (turn (event.Resume w (Some id) h t) st)) w c (Logged c u) (Knows c u)))
logged_cases true st w c u id h t o = inl ((tt, tt), λ bad. cc)
logged_cases false st w c u id h t o =
    by_finding (finds st id u (st.world.sessions id.session)) st w c u id h _ refl
    (decided (turn (event.Resume w (Some id) h t) st) id u w c id.session h
    (st.world.sessions id.session).counts (st.world.sessions id.session).hold
    (st.world.sessions id.session).traffic (st.world.sessions id.session).rest (o.ordered id.session))

bound_mute : (full : Bool) (k : Kept) (w c s : ℕ) (id : ResumeId) (h t : ℕ)
    → IsMute (body k (event.Resume w (Some id) h t) (flooded full k w c (Bound c s) (Holds c s)))
bound_mute true k w c s id h t = (
  plain_append client_ear (left k (Bound c s)) (At w (Close c (Flood most_answers)) ∷ [])
      (left_plain client_ear k (Bound c s)) (tt, tt),
  λ bad. cc,
)
bound_mute false k w c s id h t = ((tt, tt), λ bad. cc)

stage_cases : (st : State) (w : ℕ) (id : ResumeId) (h t : ℕ) (g : stage.Line) → Sound st.world
    → Cases st w id h (body (keep (turn (event.Resume w (Some id) h t) st)) (event.Resume w (Some id) h t)
    (gate_at to_manage (keep (turn (event.Resume w (Some id) h t) st)) w (st.world.lines w) g))
stage_cases st w id h t Empty o = inl (tt, λ bad. cc)
stage_cases st w id h t (Over c cause) o = inl (tt, λ bad. cc)
stage_cases st w id h t (Fresh c) o = inl (tt, λ bad. cc)
stage_cases st w id h t (Bound c s) o =
    inl (bound_mute (is_full to_manage (st.world.lines w)) (keep (turn (event.Resume w (Some id) h t) st)) w c s id h t)
stage_cases st w id h t (Logged c u) o = logged_cases (is_full to_manage (st.world.lines w)) st w c u id h t o

pub resume_cases : (st : State) (w : ℕ) (id : ResumeId) (h t : ℕ) → Sound st.world
    → Cases st w id h (verdict (keep (turn (event.Resume w (Some id) h t) st)) (event.Resume w (Some id) h t))
resume_cases st w id h t o = stage_cases st w id h t (st.world.lines w).stage o

-- an id that can't be read
pub unread_mute : (k : Kept) (w h t : ℕ) → AllPlain client_ear (verdict k (event.Resume w None h t)).effects
unread_mute k w h t =
    gate_plain client_ear k (event.Resume w None h t) to_manage w tt (λ c u. (tt, tt)) (λ c s. (tt, tt))
