-- Every effect keeps what `Sound` says.
use Rattle.std.proofs.Common.{◌≡◌, ◌⊎◌, inl, inr, ℕ, ◌+◌, ◌<◌, ◌==◌, ◌&&◌, List, [], ◌∷◌, Bool, true, false, refl, sym, ap, ◌∙◌, arith}
use Rattle.std.proofs.lemmas.Bool.Decides.{eqb_tells}
use Rattle.jid_core.specs.Addresses.{Address}
use Rattle.sm_resume.specs.declared.decision.Cause.TheVariants.{Moved}
use Rattle.session_table.specs.declared.line.Line as stage
use Rattle.session_table.specs.declared.line.Line.TheVariants.{Empty, Fresh, Logged, Bound, Over}
use Rattle.house_model.specs.Numbered.{put}
use Rattle.house_model.specs.Sessions.{Hold, Held, Away, Ended, Gone, Session, Op, Push, Pull, Request, Enable, Ack, Tell}
use Rattle.house_model.specs.Sessions.{Act, Drop, Resume, End, Part, Marks, begun, unmade, session_step}
use Rattle.house_model.specs.Traffic.{Traffic, whole}
use Rattle.house_model.specs.declared.limits.Limits.{Limits}
use Rattle.house_model.specs.States.{Line, World, empty_line, opening_with}
use Rattle.house_model.specs.Effects.{Effect, Open, At, Begin, On, Note, Hosts, Files, LineOp, Log, Say, Said, Leave, Close, logged, line_step}
use Rattle.house_model.specs.Effects.{over_line, bound_line, moved_if, settled, touch, apply, apply_all}
use Rattle.house_model.specs.Sound.{Sound}
use Rattle.house_model.proofs.PutLemmas.{put_is, put_else}
use Rattle.house_model.proofs.OrderLemmas.{none_ordered}
use Rattle.house_model.proofs.KeepLemmas.{apply_ordered}

pub same_or_not : (a b : ℕ) → (a ≡ b) ⊎ (a ≡ b → ⊥)
same_or_not a b = elim (eqb_tells a b) [ inl p ↦ inl p.1 | inr p ↦ inr p.1 ]

-- session s is held so, as far as lines tell
abbrev pub HoldsAt : (ℕ → Line) → ℕ → Hold → Type 0
HoldsAt ls s m = (w c : ℕ) → (ls w).stage ≡ Bound c s → m ≡ Held w c

-- which session may be bound on a line, where session s is held anew
abbrev pub BoundAfter : ℕ → Hold → (ℕ → Line) → ℕ → ℕ → ℕ → Type 0
BoundAfter s n ls w c k = ((k ≡ s) × (n ≡ Held w c)) ⊎ ((k ≡ s → ⊥) × ((ls w).stage ≡ Bound c k))

pub both_same : (w c v d : ℕ) → ((w == v) && (c == d)) ≡ true → (w ≡ v) × (c ≡ d)
both_same w c v d is = elim (eqb_tells w v) [
  | inl p ↦ elim (eqb_tells c d) [
    | inl q ↦ (p.1, q.1)
    | inr q ↦ absurd (
        let other : ((w == v) && (c == d)) ≡ false = rw (p.0, q.0) refl in
        let bad : true ≡ false = sym is ∙ other in
        cc)
  ]
  | inr p ↦ absurd (
      let other : ((w == v) && (c == d)) ≡ false = rw p.0 refl in
      let bad : true ≡ false = sym is ∙ other in
      cc)
]

unheld : (s : ℕ) (m n : Hold) (ls : ℕ → Line) (w c k : ℕ) → HoldsAt ls s m → (m ≡ Held w c → ⊥)
    → (ls w).stage ≡ Bound c k → BoundAfter s n ls w c k
unheld s m n ls w c k old free is = inr (λ e. free (old w c (is ∙ ap (Bound c) e)), is)

freed : (s u d : ℕ) (n : Hold) (y : Line) (ls : ℕ → Line) (w c k : ℕ) → HoldsAt ls s (Held u d)
    → (y.stage ≡ Bound c k → ⊥)
    → (put u y ls w).stage ≡ Bound c k → BoundAfter s n ls w c k
freed s u d n y ls w c k old free is = elim (put_is u y ls w) [
  | inl p ↦ absurd (free (ap (λ (l : Line). l.stage) (sym p.1) ∙ is))
  | inr p ↦ unheld s (Held u d) n ls w c k old (λ e. p.0 (cc)) (ap (λ (l : Line). l.stage) (sym p.1) ∙ is)
]

bound : (s v e : ℕ) (ls ks : ℕ → Line) (w c k : ℕ)
    → ((w ≡ v → ⊥) → (ks w).stage ≡ Bound c k → BoundAfter s (Held v e) ls w c k)
    → (put v (bound_line e s (ls v)) ks w).stage ≡ Bound c k → BoundAfter s (Held v e) ls w c k
bound s v e ls ks w c k other is = elim (put_is v (bound_line e s (ls v)) ks w) [
  | inl p ↦ (
      let same : Bound e s ≡ Bound c k = ap (λ (l : Line). l.stage) (sym p.1) ∙ is in
      let line : w ≡ v = p.0 in
      inl (cc, cc))
  | inr p ↦ other p.0 (ap (λ (l : Line). l.stage) (sym p.1) ∙ is)
]

moved : (b : Bool) (s u d v e : ℕ) (ls : ℕ → Line) (w c k : ℕ) → ((u == v) && (d == e)) ≡ b → HoldsAt ls s (Held u d)
    → (moved_if b s u d v e ls w).stage ≡ Bound c k → BoundAfter s (Held v e) ls w c k
moved true s u d v e ls w c k at old is =
    let same : (u ≡ v) × (d ≡ e) = both_same u d v e at in
    elim (same_or_not k s) [
      | inl p ↦ inl (
        p,
        (
            let held : Held u d ≡ Held w c = old w c (is ∙ ap (Bound c) p) in
            let x : u ≡ v = same.0 in
            let y : d ≡ e = same.1 in
            cc),
      )
      | inr p ↦ inr (p, is)
    ]
moved false s u d v e ls w c k at old is =
    bound s v e ls (put u (over_line d (Moved e)) ls) w c k
    (λ ne other. freed s u d (Held v e) (over_line d (Moved e)) ls w c k old (λ bad. cc) other) is

pub settled_is : (s : ℕ) (m n : Hold) (ls : ℕ → Line) (w c k : ℕ) → HoldsAt ls s m
    → (settled s m n ls w).stage ≡ Bound c k → BoundAfter s n ls w c k
settled_is s (Held u d) (Held v e) ls w c k old is = moved ((u == v) && (d == e)) s u d v e ls w c k refl old is
settled_is s (Held u d) (Ended cause) ls w c k old is =
    freed s u d (Ended cause) (over_line d cause) ls w c k old (λ bad. cc) is
settled_is s (Held u d) Away ls w c k old is = freed s u d Away empty_line ls w c k old (λ bad. cc) is
settled_is s (Held u d) Gone ls w c k old is = freed s u d Gone empty_line ls w c k old (λ bad. cc) is
settled_is s Away (Held v e) ls w c k old is =
    bound s v e ls ls w c k (λ ne other. unheld s Away (Held v e) ls w c k old (λ bad. cc) other) is
settled_is s Gone (Held v e) ls w c k old is =
    bound s v e ls ls w c k (λ ne other. unheld s Gone (Held v e) ls w c k old (λ bad. cc) other) is
settled_is s (Ended cause) (Held v e) ls w c k old is =
    bound s v e ls ls w c k (λ ne other. unheld s (Ended cause) (Held v e) ls w c k old (λ bad. cc) other) is
settled_is s Away n ls w c k old is = unheld s Away n ls w c k old (λ bad. cc) is
settled_is s Gone n ls w c k old is = unheld s Gone n ls w c k old (λ bad. cc) is
settled_is s (Ended cause) n ls w c k old is = unheld s (Ended cause) n ls w c k old (λ bad. cc) is

abbrev IsTied : World Traffic → Type 0
IsTied world = (w c s : ℕ) → (world.lines w).stage ≡ Bound c s → (world.sessions s).hold ≡ Held w c

abbrev IsUnmadeLater : World Traffic → Type 0
IsUnmadeLater world = (s : ℕ) → world.made < s → world.sessions s ≡ unmade whole

hold_at : (k : ℕ) (x : Session Traffic) (f : ℕ → Session Traffic) (s : ℕ) → s ≡ k → (put k x f s).hold ≡ x.hold
hold_at k x f s e = elim (put_is k x f s) [ inl p ↦ ap (λ (y : Session Traffic). y.hold) p.1 | inr p ↦ absurd (p.0 e) ]

touch_tied : (s : ℕ) (op : Op) (world : World Traffic) → IsTied world → IsTied (touch whole s op world)
touch_tied s op world tied w c k is =
    elim (settled_is s (world.sessions s).hold (session_step whole (world.sessions s) op).hold world.lines w c k
    (λ v d at. tied v d s at) is) [
      | inl p ↦ hold_at s (session_step whole (world.sessions s) op) world.sessions k p.0 ∙ p.1
      | inr p ↦ ap (λ (y : Session Traffic). y.hold)
          (put_else s (session_step whole (world.sessions s) op) world.sessions k p.0)
          ∙ tied w c k p.1
    ]

logged_bound : (u c s : ℕ) (g : stage.Line) → logged u g ≡ Bound c s → g ≡ Bound c s
logged_bound u c s (Fresh d) is = cc
logged_bound u c s Empty is = is
logged_bound u c s (Logged d v) is = is
logged_bound u c s (Bound d k) is = is
logged_bound u c s (Over d cause) is = is

line_bound : (op : LineOp) (l : Line) (c s : ℕ) → (line_step op l).stage ≡ Bound c s → l.stage ≡ Bound c s
line_bound (Log u) l c s is = logged_bound u c s l.stage is
line_bound (Say a) l c s is = is
line_bound Said l c s is = is
line_bound Leave l c s is = cc
line_bound (Close d cause) l c s is = cc

-- a line is written
written : (v : ℕ) (y : Line) (ls : ℕ → Line) (w c k : ℕ) → (y.stage ≡ Bound c k → (ls v).stage ≡ Bound c k)
    → (put v y ls w).stage ≡ Bound c k → (ls w).stage ≡ Bound c k
written v y ls w c k was is = elim (put_is v y ls w) [
  | inl p ↦ ap (λ (i : ℕ). (ls i).stage) p.0 ∙ was (ap (λ (l : Line). l.stage) (sym p.1) ∙ is)
  | inr p ↦ ap (λ (l : Line). l.stage) (sym p.1) ∙ is
]

begin_tied : (v d : ℕ) (a : Address) (world : World Traffic) → IsTied world → IsUnmadeLater world
    → IsTied (apply whole world (Begin v d a))
begin_tied v d a world tied later w c k is =
    elim (put_is v (bound_line d (world.made + 1) (world.lines v)) world.lines w) [
      | inl p ↦ (
          let same : Bound d (world.made + 1) ≡ Bound c k = ap (λ (l : Line). l.stage) (sym p.1) ∙ is in
          let line : w ≡ v = p.0 in
          hold_at (world.made + 1) (begun whole v d a) world.sessions k (cc) ∙ cc)
      | inr p ↦ (let before : (world.lines w).stage ≡ Bound c k = ap (λ (l : Line). l.stage) (sym p.1) ∙ is in
          elim (put_is (world.made + 1) (begun whole v d a) world.sessions k) [
            | inl q ↦ absurd (
                let held : (world.sessions k).hold ≡ Held w c = tied w c k before in
                let new : (world.sessions k).hold ≡ Away = ap (λ (y : Session Traffic). y.hold) (later k (omega arith)) in
                cc)
            | inr q ↦ ap (λ (y : Session Traffic). y.hold) q.1 ∙ tied w c k before
          ])
    ]

apply_tied : (world : World Traffic) (e : Effect) → IsTied world → IsUnmadeLater world → IsTied (apply whole world e)
apply_tied world (Open v) tied later w c k is = tied w c k (written v _ world.lines w c k (λ bad. cc) is)
apply_tied world (At v op) tied later w c k is =
    tied w c k (written v (line_step op (world.lines v)) world.lines w c k (line_bound op (world.lines v) c k) is)
apply_tied world (Begin v d a) tied later w c k is = begin_tied v d a world tied later w c k is
apply_tied world (Note change) tied later w c k is = tied w c k is
apply_tied world (Hosts x) tied later w c k is = tied w c k is
apply_tied world (Files filing) tied later w c k is = tied w c k is
apply_tied world (On s op) tied later w c k is = touch_tied s op world tied w c k is

pub unmade_stays : (op : Op) → session_step whole (unmade whole) op ≡ unmade whole
unmade_stays (Push e) = refl
unmade_stays Pull = refl
unmade_stays Request = refl
unmade_stays (Enable id) = refl
unmade_stays (Ack h) = refl
unmade_stays Tell = refl
unmade_stays (Act x) = refl
unmade_stays (Drop t) = refl
unmade_stays (Resume w c h) = refl
unmade_stays (End cause) = refl
unmade_stays Part = refl
unmade_stays (Marks mark) = refl

apply_later : (world : World Traffic) (e : Effect) → IsUnmadeLater world → IsUnmadeLater (apply whole world e)
apply_later world (Open v) later s low = later s low
apply_later world (At v op) later s low = later s low
apply_later world (Note change) later s low = later s low
apply_later world (Hosts x) later s low = later s low
apply_later world (Files filing) later s low = later s low
apply_later world (Begin v d a) later s low =
    put_else (world.made + 1) (begun whole v d a) world.sessions s (λ e. omega arith) ∙ later s (omega arith)
apply_later world (On k op) later s low = elim (put_is k (session_step whole (world.sessions k) op) world.sessions s) [
  | inl p ↦ p.1
      ∙ (ap (λ (i : ℕ). session_step whole (world.sessions i) op) (sym p.0)
      ∙ (ap (λ (y : Session Traffic). session_step whole y op) (later s low) ∙ unmade_stays op))
  | inr p ↦ p.1 ∙ later s low
]

pub apply_sound : (world : World Traffic) (e : Effect) → Sound world → Sound (apply whole world e)
apply_sound world e o = record {
  tied = apply_tied world e o.tied o.later;
  later = apply_later world e o.later;
  ordered = apply_ordered world e o.ordered;
}

pub all_sound : (world : World Traffic) (es : List Effect) → Sound world → Sound (apply_all whole world es)
all_sound world [] o = o
all_sound world (e ∷ es) o = all_sound (apply whole world e) es (apply_sound world e o)

pub opening_sound : (limits : Limits) (domain : Address) (users : List (List ℕ)) (workers : ℕ)
    → Sound (opening_with limits domain users workers).world
opening_sound limits domain users workers =
    record { tied = λ w c s bad. cc; later = λ s low. refl; ordered = λ s. none_ordered }
