-- What such effects do to lines: a connection whose session's queue is full is over, and no other line changes its stage.
use Rattle.std.proofs.Common.{◌≡◌, ◌⊎◌, inl, inr, ℕ, ◌==◌, ◌&&◌, List, [], ◌∷◌, length, Bool, true}
use Rattle.std.proofs.Common.{eq-eqb, refl, sym, ap, ◌∙◌}
use Rattle.sm_resume.specs.declared.decision.Cause.{Cause}
use Rattle.sm_resume.specs.declared.decision.Cause.TheVariants.{Overfull}
use Rattle.session_table.specs.declared.line.Line.TheVariants.{Bound, Over}
use Rattle.house_model.specs.Numbered.{put}
use Rattle.house_model.specs.Sessions.{Hold, Held, Away, Ended, Gone, Session, Op, Push, Pull, Request, Enable, Ack, Tell, Act, Drop}
use Rattle.house_model.specs.Sessions.{Resume, End, Part, Marks, session_step}
use Rattle.house_model.specs.Traffic.{Traffic, whole}
use Rattle.house_model.specs.States.{Line, World}
use Rattle.house_model.specs.Effects.{Effect, Open, At, Begin, On, Note, Hosts, Files, Log, Say, Said, Leave, Close, over_line, moved_if, settled}
use Rattle.house_model.specs.Effects.{apply, apply_all}
use Rattle.house_model.specs.Sound.{FitsIn}
use Rattle.house_model.proofs.PutLemmas.{put_is, put_here}
use Rattle.house_model.proofs.FitLemmas.{IsMatched, matched_on}
use Rattle.house_model.proofs.MildEffects.{IsMildOp, IsMild, AllMild, One, mild_takes, mild_to, all_mild_to, one_takes, all_treat, ended_stays}

-- the session that line w holds is over, since its queue is full, and its connection is told so
pub record Crowds (world : World Traffic) (es : List Effect) (w : ℕ) : Type 0 where
  pub session : ℕ
  pub conn : ℕ
  pub kept : ℕ
  pub queued : ℕ
  pub held : (world.sessions session).hold ≡ Held w conn
  pub ended : ((apply_all whole world es).sessions session).hold ≡ Ended (Overfull kept queued)
  pub over : ((apply_all whole world es).lines w).stage ≡ Over conn (Overfull kept queued)

abbrev pub Runs : World Traffic → List Effect → ℕ → Type 0
Runs world es w = (((apply_all whole world es).lines w).stage ≡ (world.lines w).stage) ⊎ Crowds world es w

at_itself : (w c : ℕ) → ((w == w) && (c == c)) ≡ true
at_itself w c = ap (λ (b : Bool). b && (c == c)) (eq-eqb w w refl) ∙ eq-eqb c c refl

pub settled_same : (s : ℕ) (m : Hold) (ls : ℕ → Line) (w : ℕ) → settled s m m ls w ≡ ls w
settled_same s (Held u d) ls w = ap (λ (b : Bool). moved_if b s u d u d ls w) (at_itself u d)
settled_same s Away ls w = refl
settled_same s (Ended cause) ls w = refl
settled_same s Gone ls w = refl

-- a line whose session is over for a cause
pub settled_over : (s : ℕ) (m : Hold) (cause : Cause) (ls : ℕ → Line) (w : ℕ)
    → ((settled s m (Ended cause) ls w).stage ≡ (ls w).stage) ⊎ ((c : ℕ) × (m ≡ Held w c) × ((settled s m (Ended cause) ls w).stage ≡ Over c cause))
settled_over s (Held u d) cause ls w = elim (put_is u (over_line d cause) ls w) [
  | inl p ↦ inr (d, ap (λ (i : ℕ). Held i d) (sym p.0), ap (λ (l : Line). l.stage) p.1)
  | inr p ↦ inl (ap (λ (l : Line). l.stage) p.1)
]
settled_over s Away cause ls w = inl refl
settled_over s (Ended other) cause ls w = inl refl
settled_over s Gone cause ls w = inl refl

written : (v : ℕ) (y : Line) (ls : ℕ → Line) (w : ℕ) → y.stage ≡ (ls v).stage → (put v y ls w).stage ≡ (ls w).stage
written v y ls w same = elim (put_is v y ls w) [
  | inl p ↦ ap (λ (l : Line). l.stage) p.1 ∙ (same ∙ ap (λ (i : ℕ). (ls i).stage) (sym p.0))
  | inr p ↦ ap (λ (l : Line). l.stage) p.1
]

on_runs : (world : World Traffic) (j : ℕ) (op : Op) (w : ℕ) → IsMildOp op → Runs world (On j op ∷ []) w
on_runs world j op w mild =
    let x : Session Traffic = world.sessions j in
    elim (mild_takes x.counts x.hold x.traffic x.rest op mild) as (λ _. Runs world (On j op ∷ []) w) [
      | inl steady ↦ inl (ap (λ (n : Hold). (settled j x.hold n world.lines w).stage) steady.hold
          ∙ ap (λ (l : Line). l.stage) (settled_same j x.hold world.lines w))
      | inr brims ↦ (
          let cause : Cause = Overfull x.traffic.kept (length x.traffic.queued) in
          let now : ((apply whole world (On j op)).lines w).stage ≡ (settled j x.hold (Ended cause) world.lines w).stage =
          ap (λ (n : Hold). (settled j x.hold n world.lines w).stage) brims.ended in
          elim (settled_over j x.hold cause world.lines w) as (λ _. Runs world (On j op ∷ []) w) [
            | inl same ↦ inl (now ∙ same)
            | inr p ↦ inr (record {
              session = j;
              conn = p.0;
              kept = x.traffic.kept;
              queued = length x.traffic.queued;
              held = p.1;
              ended = ap (λ (y : Session Traffic). y.hold) (put_here j (session_step whole x op) world.sessions) ∙ brims.ended;
              over = now ∙ p.2;
            })
          ])
    ]

one_runs : (world : World Traffic) (e : Effect) (w : ℕ) → IsMild e → Runs world (e ∷ []) w
one_runs world (On j op) w mild = on_runs world j op w mild
one_runs world (At v (Say a)) w mild = inl (written v _ world.lines w refl)
one_runs world (At v Said) w mild = inl (written v _ world.lines w refl)
one_runs world (At v (Log user)) w mild = absurd mild
one_runs world (At v Leave) w mild = absurd mild
one_runs world (At v (Close c cause)) w mild = absurd mild
one_runs world (Note change) w mild = inl refl
one_runs world (Hosts x) w mild = inl refl
one_runs world (Files filing) w mild = inl refl
one_runs world (Open v) w mild = absurd mild
one_runs world (Begin v c a) w mild = absurd mild

mild_op_fits : (world : World Traffic) (s : ℕ) (op : Op) → IsMildOp op → FitsIn world (On s op)
mild_op_fits world s (Push e) mild = tt
mild_op_fits world s Pull mild = tt
mild_op_fits world s Request mild = tt
mild_op_fits world s (Enable id) mild = tt
mild_op_fits world s Tell mild = tt
mild_op_fits world s (Act x) mild = tt
mild_op_fits world s (Marks mark) mild = tt
mild_op_fits world s (Ack h) mild = absurd mild
mild_op_fits world s (Drop deadline) mild = absurd mild
mild_op_fits world s (Resume w c h) mild = absurd mild
mild_op_fits world s (End cause) mild = absurd mild
mild_op_fits world s Part mild = absurd mild

mild_fits : (world : World Traffic) (e : Effect) → IsMild e → FitsIn world e
mild_fits world (On s op) mild = mild_op_fits world s op mild
mild_fits world (Note change) mild = tt
mild_fits world (Hosts x) mild = tt
mild_fits world (Files filing) mild = tt
mild_fits world (At w (Say a)) mild = tt
mild_fits world (At w Said) mild = tt
mild_fits world (At w (Log user)) mild = absurd mild
mild_fits world (At w Leave) mild = absurd mild
mild_fits world (At w (Close c cause)) mild = absurd mild
mild_fits world (Open w) mild = absurd mild
mild_fits world (Begin w c a) mild = absurd mild

held_before : (world : World Traffic) (e : Effect) (s w c : ℕ) → One world e s → ((apply whole world e).sessions s).hold ≡ Held w c
    → (world.sessions s).hold ≡ Held w c
held_before world e s w c (inl steady) held = sym steady.hold ∙ held
held_before world e s w c (inr p) held = absurd (let bad : Ended _ ≡ Held w c = sym p.2.ended ∙ held in cc)

pub all_run : (es : List Effect) (world : World Traffic) (w : ℕ) → AllMild es → IsMatched world → Runs world es w
all_run [] world w all m = inl refl
all_run (e ∷ es) world w all m =
    let new : World Traffic = apply whole world e in
    let then : IsMatched new = matched_on world e (mild_fits world e all.0) m in
    elim (one_runs world e w all.0) as (λ _. Runs world (e ∷ es) w) [
      | inl same ↦ elim (all_run es new w all.1 then) as (λ _. Runs world (e ∷ es) w) [
        | inl more ↦ inl (more ∙ same)
        | inr c ↦ inr (record {
          session = c.session;
          conn = c.conn;
          kept = c.kept;
          queued = c.queued;
          held = held_before world e c.session w c.conn (one_takes world e c.session (mild_to c.session e all.0)) c.held;
          ended = c.ended;
          over = c.over;
        })
      ]
      | inr c ↦ elim (all_run es new w all.1 then) as (λ _. Runs world (e ∷ es) w) [
        | inl more ↦ inr (record {
          session = c.session;
          conn = c.conn;
          kept = c.kept;
          queued = c.queued;
          held = c.held;
          ended = ended_stays new es c.session _ (all_treat es new c.session (all_mild_to c.session es all.1)) c.ended;
          over = more ∙ c.over;
        })
        | inr d ↦ absurd (let bad : Over c.conn _ ≡ Bound d.conn d.session = sym c.over ∙ then.back d.session w d.conn d.held in cc)
      ]
    ]
