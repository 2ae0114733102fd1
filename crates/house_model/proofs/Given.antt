-- A session has the id that an Enable of the history gave it, and then its stanzas are counted.
use Rattle.std.proofs.Common.{◌≡◌, inl, inr, ℕ, ◌+◌, List, [], ◌∷◌, ◌++◌, Option, Some, None, Bool, true, false, refl, sym, ap, ◌∙◌, subst, true≢false, arith}
use Rattle.sm_resume.specs.declared.id.ResumeId.{ResumeId}
use Rattle.stanza_tree.specs.declared.frame.Entry.{Entry}
use Rattle.house_model.specs.Sessions.{Hold, Held, Away, Ended, Gone, Rest, Session, Op, Push, Enable, Ack, Resume}
use Rattle.house_model.specs.Sessions.{session, pushed, acked, resumed, begun, step_if, session_step}
use Rattle.house_model.specs.Traffic.{Traffic, whole}
use Rattle.house_model.specs.States.{World}
use Rattle.house_model.specs.Effects.{Effect, Open, At, Begin, On, Note, Hosts, Files, apply, apply_all}
use Rattle.house_model.specs.Steps.{has_id}
use Rattle.house_model.specs.Sound.{Sound}
use Rattle.house_model.specs.Lines.{is_among}
use Rattle.house_model.proofs.PutLemmas.{put_is}
use Rattle.house_model.proofs.SoundLemmas.{apply_sound}
use Rattle.house_model.proofs.Ears.{Ear, plain, IsPlain, AllPlain}

abbrev pub id_ear : Ear
id_ear =
    record { pull = false; act = false; ask = false; ack = false; enable = true; begin = false; resume = false; part = false }

-- whether it counts, and its id
pub record Mark : Type 0 where
  pub counts : Bool
  pub id : Option ResumeId

abbrev pub mark_of : Session Traffic → Mark
mark_of s = record { counts = s.counts; id = s.rest.resume_id }

-- every operation but Enable leaves both
pushed_mark : (has b : Bool) (m : Hold) (t : Traffic) (r : Rest) (e : Entry)
    → mark_of (pushed whole has b m t r e) ≡ mark_of (session b m t r)
pushed_mark true b m t r e = refl
pushed_mark false b m t r e = refl

acked_mark : (u : Option Traffic) (m : Hold) (t : Traffic) (r : Rest) (h : ℕ)
    → mark_of (acked whole u m t r h) ≡ mark_of (session true m t r)
acked_mark None m t r h = refl
acked_mark (Some u) m t r h = refl

resumed_mark : (u : Option Traffic) (m : Hold) (t : Traffic) (r : Rest) (w c : ℕ)
    → mark_of (resumed u m t r w c) ≡ mark_of (session true m t r)
resumed_mark None m t r w c = refl
resumed_mark (Some u) m t r w c = refl

step_mark : (b : Bool) (m : Hold) (t : Traffic) (r : Rest) (op : Op) → plain id_ear op ≡ true
    → mark_of (step_if whole b m t r op) ≡ mark_of (session b m t r)
step_mark b m t r (Enable id) is = absurd (true≢false (sym is))
step_mark true (Held v d) t r (Push e) is = pushed_mark (whole.has_room t e) true (Held v d) t r e
step_mark false (Held v d) t r (Push e) is = pushed_mark (whole.has_room t e) false (Held v d) t r e
step_mark true Away t r (Push e) is = pushed_mark (whole.has_room t e) true Away t r e
step_mark true (Held v d) t r (Ack h) is = acked_mark (whole.ack t h) (Held v d) t r h
step_mark true (Held v d) t r (Resume w c h) is = resumed_mark (whole.resume t h) (Held v d) t r w c
step_mark true Away t r (Resume w c h) is = resumed_mark (whole.resume t h) Away t r w c
step_mark true (Held v d) t r op is = refl
step_mark true Away t r op is = refl
step_mark true (Ended cause) t r op is = refl
step_mark true Gone t r op is = refl
step_mark false (Held v d) t r op is = refl
step_mark false Away t r op is = refl
step_mark false (Ended cause) t r op is = refl
step_mark false Gone t r op is = refl

effect_mark : (k : ℕ) (world : World Traffic) (e : Effect) → Sound world → IsPlain id_ear e
    → mark_of ((apply whole world e).sessions k) ≡ mark_of (world.sessions k)
effect_mark k world (Open v) o is = refl
effect_mark k world (At v op) o is = refl
effect_mark k world (Note change) o is = refl
effect_mark k world (Hosts x) o is = refl
effect_mark k world (Files filing) o is = refl
effect_mark k world (Begin v c a) o is = elim (put_is (world.made + 1) (begun whole v c a) world.sessions k) [
  | inl p ↦ ap mark_of p.1
      ∙ ap mark_of (sym (o.later k (let same : k ≡ world.made + 1 = p.0 in omega arith)))
  | inr p ↦ ap mark_of p.1
]
effect_mark k world (On j op) o is = elim (put_is j (session_step whole (world.sessions j) op) world.sessions k) [
  | inl p ↦ ap mark_of p.1
      ∙ (step_mark (world.sessions j).counts (world.sessions j).hold (world.sessions j).traffic (world.sessions j).rest op is
      ∙ ap (λ (i : ℕ). mark_of (world.sessions i)) (sym p.0))
  | inr p ↦ ap mark_of p.1
]

effects_mark : (k : ℕ) (world : World Traffic) (es : List Effect) → Sound world → AllPlain id_ear es
    → mark_of ((apply_all whole world es).sessions k) ≡ mark_of (world.sessions k)
effects_mark k world [] o all = refl
effects_mark k world (e ∷ es) o all =
    effects_mark k (apply whole world e) es (apply_sound world e o) all.1 ∙ effect_mark k world e o all.0

-- the ids that were given are those that sessions have, and a session that doesn't count has none
pub record Gave (world : World Traffic) (gs : List ResumeId) : Type 0 where
  pub uncounted : (k : ℕ) → (world.sessions k).counts ≡ false → (world.sessions k).rest.resume_id ≡ None
  pub same : (id : ResumeId) → is_among id gs ≡ has_id (world.sessions id.session).rest.resume_id id

same_marks : (world to : World Traffic) (gs : List ResumeId)
    → ((k : ℕ) → mark_of (to.sessions k) ≡ mark_of (world.sessions k)) → Gave world gs → Gave to gs
same_marks world to gs same g = record {
  uncounted = λ k is. ap (λ (m : Mark). m.id) (same k) ∙ g.uncounted k (ap (λ (m : Mark). m.counts) (sym (same k)) ∙ is);
  same = λ id. g.same id ∙ ap (λ (m : Mark). has_id m.id id) (sym (same id.session));
}

no_more : (gs : List ResumeId) → gs ++ [] ≡ gs
no_more [] = refl
no_more (x ∷ xs) = ap (λ (l : List ResumeId). x ∷ l) (no_more xs)

pub plain_gave : (world : World Traffic) (es : List Effect) (gs : List ResumeId) → Sound world → AllPlain id_ear es
    → Gave world gs → Gave (apply_all whole world es) (gs ++ [])
plain_gave world es gs o all g =
    subst (Gave (apply_all whole world es)) (sym (no_more gs))
    (same_marks world (apply_all whole world es) gs (λ k. effects_mark k world es o all) g)
