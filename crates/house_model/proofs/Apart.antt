-- The connections that held a session differ: one that comes to hold it waited, and waits no more.
use Rattle.std.proofs.Common.{◌≡◌, ◌⊎◌, inl, inr, ℕ, ◌+◌, ◌<◌, ◌≤◌, ◌==◌, ◌&&◌, List, [], ◌∷◌, Option, Some, None, Bool, true, false, refl, sym, ap, ◌∙◌, arith}
use Rattle.sm_resume.specs.declared.decision.Cause.TheVariants.{Moved}
use Rattle.session_table.specs.declared.line.Line as stage
use Rattle.session_table.specs.declared.line.Line.TheVariants.{Empty, Fresh, Logged, Bound, Over}
use Rattle.sm_account.specs.Logs.{NotIn, AreDistinct}
use Rattle.house_model.specs.Numbered.{put}
use Rattle.house_model.specs.Sessions.{Hold, Held, Away, Ended, Gone, session_step}
use Rattle.house_model.specs.Traffic.{Traffic, whole}
use Rattle.house_model.specs.States.{Line, World, empty_line}
use Rattle.house_model.specs.Effects.{Effect, Open, At, Begin, On, Note, Hosts, Files, LineOp, Log, Say, Said, Leave, Close, logged, line_step}
use Rattle.house_model.specs.Effects.{fresh_line, over_line, bound_line, moved_if, settled, apply, apply_all}
use Rattle.house_model.proofs.PutLemmas.{put_is}
use Rattle.house_model.proofs.VerdictLemmas.{opens_one, opens_in}

-- the connection that waits on a line
abbrev pub waits : stage.Line → Option ℕ
waits Empty = None
waits (Fresh c) = Some c
waits (Logged c u) = Some c
waits (Bound c s) = None
waits (Over c cause) = None

abbrev pub Waits : (ℕ → Line) → ℕ → ℕ → Type 0
Waits ls w c = waits (ls w).stage ≡ Some c

abbrev pub AllLow : ℕ → List ℕ → Type 0
AllLow n [] = Unit {0}
AllLow n (c ∷ cs) = (c < n) × AllLow n cs

-- a connection waits on one line, it came, and is none of these, which came too and differ
pub record Good (world : World Traffic) (cs : List ℕ) : Type 0 where
  pub one_line : (w v c : ℕ) → Waits world.lines w c → Waits world.lines v c → w ≡ v
  pub low : (w c : ℕ) → Waits world.lines w c → c ≤ world.opened
  pub free : (w c : ℕ) → Waits world.lines w c → NotIn c cs
  pub old : AllLow (world.opened + 1) cs
  pub apart : AreDistinct cs

above : (n c : ℕ) (cs : List ℕ) → n ≤ c → AllLow n cs → NotIn c cs
above n c [] h all = tt
above n c (y ∷ ys) h all = (λ e. (let low : y < n = all.0 in omega arith), above n c ys h all.1)

low_more : (n m : ℕ) (cs : List ℕ) → n ≤ m → AllLow n cs → AllLow m cs
low_more n m [] h all = tt
low_more n m (y ∷ ys) h all = ((let low : y < n = all.0 in omega arith), low_more n m ys h all.1)

-- fewer connections wait
abbrev Shrinks : (ℕ → Line) → (ℕ → Line) → Type 0
Shrinks ls ks = (w c : ℕ) → Waits ks w c → Waits ls w c

put_shrinks : (v : ℕ) (y : Line) (ls : ℕ → Line) → ((c : ℕ) → waits y.stage ≡ Some c → Waits ls v c)
    → Shrinks ls (put v y ls)
put_shrinks v y ls was w c is = elim (put_is v y ls w) [
  | inl p ↦ ap (λ (i : ℕ). waits (ls i).stage) p.0 ∙ was c (ap (λ (l : Line). waits l.stage) (sym p.1) ∙ is)
  | inr p ↦ ap (λ (l : Line). waits l.stage) (sym p.1) ∙ is
]

moved_shrinks : (b : Bool) (s u d v e : ℕ) (ls : ℕ → Line) → Shrinks ls (moved_if b s u d v e ls)
moved_shrinks true s u d v e ls w c is = is
moved_shrinks false s u d v e ls w c is =
    put_shrinks u (over_line d (Moved e)) ls (λ i bad. absurd (cc)) w c
    (put_shrinks v (bound_line e s (ls v)) (put u (over_line d (Moved e)) ls) (λ i bad. absurd (cc)) w c is)

settled_shrinks : (s : ℕ) (m n : Hold) (ls : ℕ → Line) → Shrinks ls (settled s m n ls)
settled_shrinks s (Held u d) (Held v e) ls w c is = moved_shrinks ((u == v) && (d == e)) s u d v e ls w c is
settled_shrinks s (Held u d) (Ended cause) ls w c is =
    put_shrinks u (over_line d cause) ls (λ i bad. absurd (cc)) w c is
settled_shrinks s (Held u d) Away ls w c is = put_shrinks u empty_line ls (λ i bad. absurd (cc)) w c is
settled_shrinks s (Held u d) Gone ls w c is = put_shrinks u empty_line ls (λ i bad. absurd (cc)) w c is
settled_shrinks s Away (Held v e) ls w c is =
    put_shrinks v (bound_line e s (ls v)) ls (λ i bad. absurd (cc)) w c is
settled_shrinks s Gone (Held v e) ls w c is =
    put_shrinks v (bound_line e s (ls v)) ls (λ i bad. absurd (cc)) w c is
settled_shrinks s (Ended cause) (Held v e) ls w c is =
    put_shrinks v (bound_line e s (ls v)) ls (λ i bad. absurd (cc)) w c is
settled_shrinks s Away n ls w c is = is
settled_shrinks s Gone n ls w c is = is
settled_shrinks s (Ended cause) n ls w c is = is

logged_waits : (u c : ℕ) (g : stage.Line) → waits (logged u g) ≡ Some c → waits g ≡ Some c
logged_waits u c (Fresh d) is = is
logged_waits u c Empty is = is
logged_waits u c (Logged d v) is = is
logged_waits u c (Bound d s) is = is
logged_waits u c (Over d cause) is = is

line_waits : (op : LineOp) (l : Line) (c : ℕ) → waits (line_step op l).stage ≡ Some c → waits l.stage ≡ Some c
line_waits (Log u) l c is = logged_waits u c l.stage is
line_waits (Say a) l c is = is
line_waits Said l c is = is
line_waits Leave l c is = absurd (cc)
line_waits (Close d cause) l c is = absurd (cc)

effect_shrinks : (world : World Traffic) (e : Effect) → opens_one e ≡ 0
    → Shrinks world.lines (apply whole world e).lines
effect_shrinks world (Open v) is w c at = absurd (omega arith)
effect_shrinks world (At v op) is w c at =
    put_shrinks v (line_step op (world.lines v)) world.lines (line_waits op (world.lines v)) w c at
effect_shrinks world (Begin v d a) is w c at =
    put_shrinks v (bound_line d (world.made + 1) (world.lines v)) world.lines (λ i bad. absurd (cc)) w c at
effect_shrinks world (Note change) is w c at = at
effect_shrinks world (Hosts x) is w c at = at
effect_shrinks world (Files filing) is w c at = at
effect_shrinks world (On s op) is w c at =
    settled_shrinks s (world.sessions s).hold (session_step whole (world.sessions s) op).hold world.lines w c at

pub effects_shrink : (world : World Traffic) (es : List Effect) → opens_in es ≡ 0
    → Shrinks world.lines (apply_all whole world es).lines
effects_shrink world [] none w c at = at
effects_shrink world (e ∷ es) none w c at =
    effect_shrinks world e (omega (arith, none)) w c
    (effects_shrink (apply whole world e) es (omega (arith, none)) w c at)

shrink_good : (world to : World Traffic) (cs : List ℕ) → Shrinks world.lines to.lines → to.opened ≡ world.opened
    → Good world cs → Good to cs
shrink_good world to cs less same g = record {
  one_line = λ w v c a b. g.one_line w v c (less w c a) (less v c b);
  low = λ w c a. (let x : c ≤ world.opened = g.low w c (less w c a) in omega arith);
  free = λ w c a. g.free w c (less w c a);
  old = low_more (world.opened + 1) (to.opened + 1) cs (omega arith) g.old;
  apart = g.apart;
}

-- a connection comes
new_or_old : (v : ℕ) (world : World Traffic) (w c : ℕ) → Waits (apply whole world (Open v)).lines w c
    → ((w ≡ v) × (c ≡ world.opened + 1)) ⊎ Waits world.lines w c
new_or_old v world w c at = elim (put_is v (fresh_line (world.opened + 1)) world.lines w) [
  | inl p ↦ inl (
    p.0,
    (
        let new : Some (world.opened + 1) ≡ Some c = ap (λ (l : Line). waits l.stage) (sym p.1) ∙ at in
        let same : world.opened + 1 ≡ c = cc in
        sym same),
  )
  | inr p ↦ inr (ap (λ (l : Line). waits l.stage) (sym p.1) ∙ at)
]

open_good : (v : ℕ) (world : World Traffic) (cs : List ℕ) → Good world cs → Good (apply whole world (Open v)) cs
open_good v world cs g = record {
  one_line = λ w u c a b. elim (new_or_old v world w c a) [
    | inl p ↦ elim (new_or_old v world u c b) [
      | inl q ↦ p.0 ∙ sym q.0
      | inr q ↦ absurd (let x : c ≤ world.opened = g.low u c q in let n : c ≡ world.opened + 1 = p.1 in omega arith)
    ]
    | inr p ↦ elim (new_or_old v world u c b) [
      | inl q ↦ absurd (let x : c ≤ world.opened = g.low w c p in let n : c ≡ world.opened + 1 = q.1 in omega arith)
      | inr q ↦ g.one_line w u c p q
    ]
  ];
  low = λ w c a. elim (new_or_old v world w c a) [
    | inl p ↦ (let n : c ≡ world.opened + 1 = p.1 in omega arith)
    | inr p ↦ (let x : c ≤ world.opened = g.low w c p in omega arith)
  ];
  free = λ w c a. elim (new_or_old v world w c a) [
    | inl p ↦ above (world.opened + 1) c cs (let n : c ≡ world.opened + 1 = p.1 in omega arith) g.old
    | inr p ↦ g.free w c p
  ];
  old = low_more (world.opened + 1) (world.opened + 1 + 1) cs (omega arith) g.old;
  apart = g.apart;
}

effect_good : (world : World Traffic) (e : Effect) (cs : List ℕ) → Good world cs → Good (apply whole world e) cs
effect_good world (Open v) cs g = open_good v world cs g
effect_good world (At v op) cs g =
    shrink_good world (apply whole world (At v op)) cs (effect_shrinks world (At v op) refl) refl g
effect_good world (Begin v d a) cs g =
    shrink_good world (apply whole world (Begin v d a)) cs (effect_shrinks world (Begin v d a) refl) refl g
effect_good world (Note change) cs g =
    shrink_good world (apply whole world (Note change)) cs (effect_shrinks world (Note change) refl) refl g
effect_good world (Hosts x) cs g =
    shrink_good world (apply whole world (Hosts x)) cs (effect_shrinks world (Hosts x) refl) refl g
effect_good world (Files filing) cs g =
    shrink_good world (apply whole world (Files filing)) cs (effect_shrinks world (Files filing) refl) refl g
effect_good world (On s op) cs g =
    shrink_good world (apply whole world (On s op)) cs (effect_shrinks world (On s op) refl) refl g

pub effects_good : (world : World Traffic) (es : List Effect) (cs : List ℕ) → Good world cs
    → Good (apply_all whole world es) cs
effects_good world [] cs g = g
effects_good world (e ∷ es) cs g = effects_good (apply whole world e) es cs (effect_good world e cs g)

-- a connection that waited waits no more, and counts with these
pub join_good : (world to : World Traffic) (cs : List ℕ) (w c : ℕ) → Good world cs → Good to cs
    → Waits world.lines w c → Shrinks world.lines to.lines → to.opened ≡ world.opened → (Waits to.lines w c → ⊥)
    → Good to (c ∷ cs)
join_good world to cs w c before g is less same none = record {
  one_line = g.one_line;
  low = g.low;
  free = λ v d a. (
    (λ e. none (
        let at : Waits world.lines v c = less v c (a ∙ ap Some (sym e)) in
        ap (λ (i : ℕ). waits (to.lines i).stage) (before.one_line w v c is at) ∙ (a ∙ ap Some (sym e)))),
    g.free v d a,
  );
  old = ((let x : c ≤ world.opened = before.low w c is in omega arith), g.old);
  apart = (before.free w c is, g.apart);
}
