-- Effects that fit keep each session that a line holds bound there.
use Rattle.std.proofs.Common.{◌≡◌, ◌⊎◌, inl, inr, ℕ, ◌+◌, ◌==◌, ◌&&◌, List, [], ◌∷◌, Option, Some, None, Bool}
use Rattle.std.proofs.Common.{true, false, eq-eqb, refl, sym, ap, ◌∙◌, subst, true≢false}
use Rattle.stanza_tree.specs.declared.frame.Entry.{Entry}
use Rattle.sm_resume.specs.declared.decision.Cause.TheVariants.{Moved}
use Rattle.session_table.specs.declared.line.Line as stage
use Rattle.session_table.specs.declared.line.Line.TheVariants.{Bound}
use Rattle.house_model.specs.Numbered.{put}
use Rattle.house_model.specs.Sessions.{Hold, Held, Away, Ended, Gone, Rest, Session, Op, Push, Pull, Request, Enable, Ack, Tell, Act, Drop}
use Rattle.house_model.specs.Sessions.{Resume, End, Part, Marks, pushed, acked, resumed, begun, step_if, session_step}
use Rattle.house_model.specs.Traffic.{Traffic, whole}
use Rattle.house_model.specs.States.{Line, World, empty_line}
use Rattle.house_model.specs.Effects.{Effect, Open, At, Begin, On, Note, Hosts, Files, Log, Say, Said, Leave, Close, logged}
use Rattle.house_model.specs.Effects.{over_line, bound_line, moved_if, settled, touch, apply, apply_all}
use Rattle.house_model.specs.Sound.{IsFree, FitsIn, Fits, Back}
use Rattle.house_model.proofs.PutLemmas.{put_is, put_here}
use Rattle.house_model.proofs.SoundLemmas.{both_same}

-- a line that is written was free, so what is bound stays
put_back : (v : ℕ) (y : Line) (ls : ℕ → Line) (w c s : ℕ) → IsFree (ls v).stage → (ls w).stage ≡ Bound c s
    → (put v y ls w).stage ≡ Bound c s
put_back v y ls w c s free is = elim (put_is v y ls w) [
  | inl p ↦ absurd (free c s (ap (λ (i : ℕ). (ls i).stage) (sym p.0) ∙ is))
  | inr p ↦ ap (λ (l : Line). l.stage) p.1 ∙ is
]

put_other : (v d j : ℕ) (y : Line) (ls : ℕ → Line) (w c s : ℕ) → (ls v).stage ≡ Bound d j → (s ≡ j → ⊥)
    → (ls w).stage ≡ Bound c s → (put v y ls w).stage ≡ Bound c s
put_other v d j y ls w c s held ne is = elim (put_is v y ls w) [
  | inl p ↦ absurd (ne (let both : Bound c s ≡ Bound d j = sym is ∙ (ap (λ (i : ℕ). (ls i).stage) p.0 ∙ held) in cc))
  | inr p ↦ ap (λ (l : Line). l.stage) p.1 ∙ is
]

-- a resumption on that connection of that line
abbrev pub IsResume : Op → ℕ → ℕ → Type 0
IsResume (Resume v d h) w c = (v ≡ w) × (d ≡ c)
IsResume op w c = ⊥

-- what a connection that holds a session comes of: it held it before, or resumed it
abbrev pub HeldBy : Hold → Op → ℕ → ℕ → Type 0
HeldBy m op w c = (m ≡ Held w c) ⊎ IsResume op w c

pushed_before : (has b : Bool) (m : Hold) (t : Traffic) (r : Rest) (e : Entry) (w c : ℕ)
    → (pushed whole has b m t r e).hold ≡ Held w c → m ≡ Held w c
pushed_before true b m t r e w c is = is
pushed_before false b m t r e w c is = absurd (cc)

acked_before : (u : Option Traffic) (m : Hold) (t : Traffic) (r : Rest) (h w c : ℕ)
    → (acked whole u m t r h).hold ≡ Held w c → m ≡ Held w c
acked_before (Some u) m t r h w c is = is
acked_before None m t r h w c is = absurd (cc)

resumed_hold : (u : Option Traffic) (m : Hold) (t : Traffic) (r : Rest) (w c : ℕ)
    → ((resumed u m t r w c).hold ≡ m) ⊎ ((resumed u m t r w c).hold ≡ Held w c)
resumed_hold None m t r w c = inl refl
resumed_hold (Some u) m t r w c = inr refl

resume_hold : (b : Bool) (m : Hold) (t : Traffic) (r : Rest) (w c h : ℕ)
    → ((step_if whole b m t r (Resume w c h)).hold ≡ m) ⊎ ((step_if whole b m t r (Resume w c h)).hold ≡ Held w c)
resume_hold true (Held v d) t r w c h = resumed_hold (whole.resume t h) (Held v d) t r w c
resume_hold true Away t r w c h = resumed_hold (whole.resume t h) Away t r w c
resume_hold true (Ended cause) t r w c h = inl refl
resume_hold true Gone t r w c h = inl refl
resume_hold false (Held v d) t r w c h = inl refl
resume_hold false Away t r w c h = inl refl
resume_hold false (Ended cause) t r w c h = inl refl
resume_hold false Gone t r w c h = inl refl

pub held_before : (b : Bool) (m : Hold) (t : Traffic) (r : Rest) (op : Op) (w c : ℕ)
    → (step_if whole b m t r op).hold ≡ Held w c → HeldBy m op w c
held_before b m t r (Resume v d h) w c is = elim (resume_hold b m t r v d h) [
  | inl e ↦ inl (sym e ∙ is)
  | inr e ↦ inr (let same : Held v d ≡ Held w c = sym e ∙ is in (cc, cc))
]
held_before b (Held v d) t r (Push e) w c is = inl (pushed_before (whole.has_room t e) b (Held v d) t r e w c is)
held_before true Away t r (Push e) w c is =
    absurd (let bad : Away ≡ Held w c = pushed_before (whole.has_room t e) true Away t r e w c is in cc)
held_before b (Held v d) t r (End cause) w c is = absurd (cc)
held_before true Away t r (End cause) w c is = absurd (cc)
held_before true (Held v d) t r (Ack h) w c is = inl (acked_before (whole.ack t h) (Held v d) t r h w c is)
held_before false (Held v d) t r (Drop deadline) w c is = absurd (cc)
held_before true (Held v d) t r (Drop deadline) w c is = absurd (cc)
held_before true (Held v d) t r op w c is = inl is
held_before false (Held v d) t r op w c is = inl is
held_before true Away t r op w c is = inl is
held_before false Away t r op w c is = inl is
held_before true (Ended cause) t r Part w c is = absurd (cc)
held_before false (Ended cause) t r Part w c is = absurd (cc)
held_before true (Ended cause) t r op w c is = inl is
held_before false (Ended cause) t r op w c is = inl is
held_before true Gone t r op w c is = inl is
held_before false Gone t r op w c is = inl is

at_itself : (w c : ℕ) → ((w == w) && (c == c)) ≡ true
at_itself w c = ap (λ (b : Bool). b && (c == c)) (eq-eqb w w refl) ∙ eq-eqb c c refl

abbrev IsBoundBy : ℕ → Hold → (ℕ → Line) → Type 0
IsBoundBy j m ls = (v d : ℕ) → m ≡ Held v d → (ls v).stage ≡ Bound d j

-- the line of a new hold was the old one's, or free
abbrev IsOldOrFree : Hold → Hold → (ℕ → Line) → Type 0
IsOldOrFree m n ls = (v d : ℕ) → n ≡ Held v d → (m ≡ Held v d) ⊎ IsFree (ls v).stage

-- the other sessions stay bound
moved_others : (b : Bool) (j u d v e : ℕ) (ls : ℕ → Line) (w c s : ℕ) → ((u == v) && (d == e)) ≡ b
    → IsBoundBy j (Held u d) ls → IsOldOrFree (Held u d) (Held v e) ls → (s ≡ j → ⊥) → (ls w).stage ≡ Bound c s
    → (moved_if b j u d v e ls w).stage ≡ Bound c s
moved_others true j u d v e ls w c s at old new ne is = is
moved_others false j u d v e ls w c s at old new ne is = elim (new v e refl) [
  | inl p ↦ absurd (true≢false (sym (at_itself v e) ∙ (ap (λ (m : Hold). is_hold m v e) (sym p) ∙ at)))
  | inr free ↦ (
      let first : (put u (over_line d (Moved e)) ls w).stage ≡ Bound c s =
      put_other u d j (over_line d (Moved e)) ls w c s (old u d refl) ne is in
      elim (put_is v (bound_line e j (ls v)) (put u (over_line d (Moved e)) ls) w) [
        | inl p ↦ absurd (free c s (ap (λ (i : ℕ). (ls i).stage) (sym p.0) ∙ is))
        | inr p ↦ ap (λ (l : Line). l.stage) p.1 ∙ first
      ])
]
  where
    is_hold : Hold → ℕ → ℕ → Bool
    is_hold (Held w c) v e = (w == v) && (c == e)
    is_hold m v e = false

others : (j : ℕ) (m n : Hold) (ls : ℕ → Line) (w c s : ℕ) → IsBoundBy j m ls → IsOldOrFree m n ls → (s ≡ j → ⊥)
    → (ls w).stage ≡ Bound c s → (settled j m n ls w).stage ≡ Bound c s
others j (Held u d) (Held v e) ls w c s old new ne is =
    moved_others ((u == v) && (d == e)) j u d v e ls w c s refl old new ne is
others j (Held u d) (Ended cause) ls w c s old new ne is =
    put_other u d j (over_line d cause) ls w c s (old u d refl) ne is
others j (Held u d) Away ls w c s old new ne is = put_other u d j empty_line ls w c s (old u d refl) ne is
others j (Held u d) Gone ls w c s old new ne is = put_other u d j empty_line ls w c s (old u d refl) ne is
others j Away (Held v e) ls w c s old new ne is =
    elim (new v e refl) [ inl p ↦ absurd (cc) | inr free ↦ put_back v (bound_line e j (ls v)) ls w c s free is ]
others j Gone (Held v e) ls w c s old new ne is =
    elim (new v e refl) [ inl p ↦ absurd (cc) | inr free ↦ put_back v (bound_line e j (ls v)) ls w c s free is ]
others j (Ended cause) (Held v e) ls w c s old new ne is =
    elim (new v e refl) [ inl p ↦ absurd (cc) | inr free ↦ put_back v (bound_line e j (ls v)) ls w c s free is ]
others j Away n ls w c s old new ne is = is
others j Gone n ls w c s old new ne is = is
others j (Ended cause) n ls w c s old new ne is = is

-- and so does this one
bound_here : (j v e : ℕ) (l : Line) (ks : ℕ → Line) → (put v (bound_line e j l) ks v).stage ≡ Bound e j
bound_here j v e l ks = ap (λ (x : Line). x.stage) (put_here v (bound_line e j l) ks)

moved_here : (b : Bool) (j u d v e : ℕ) (ls : ℕ → Line) → ((u == v) && (d == e)) ≡ b → IsBoundBy j (Held u d) ls
    → (moved_if b j u d v e ls v).stage ≡ Bound e j
moved_here true j u d v e ls at old =
    let same = both_same u d v e at in
    let x : u ≡ v = same.0 in
    let y : d ≡ e = same.1 in
    old v e (cc)
moved_here false j u d v e ls at old = bound_here j v e (ls v) (put u (over_line d (Moved e)) ls)

here : (j : ℕ) (m : Hold) (v e : ℕ) (ls : ℕ → Line) → IsBoundBy j m ls → (settled j m (Held v e) ls v).stage ≡ Bound e j
here j (Held u d) v e ls old = moved_here ((u == v) && (d == e)) j u d v e ls refl old
here j Away v e ls old = bound_here j v e (ls v) ls
here j Gone v e ls old = bound_here j v e (ls v) ls
here j (Ended cause) v e ls old = bound_here j v e (ls v) ls

-- one effect
old_or_free : (op : Op) (s : ℕ) (world : World Traffic) → FitsIn world (On s op) → (m : Hold) (v d : ℕ)
    → HeldBy m op v d → (m ≡ Held v d) ⊎ IsFree (world.lines v).stage
old_or_free op s world fits m v d (inl e) = inl e
old_or_free (Resume x y h) s world fits m v d (inr p) = inr (subst (λ (i : ℕ). IsFree (world.lines i).stage) p.0 fits)
old_or_free (Push e) s world fits m v d (inr p) = absurd p
old_or_free Pull s world fits m v d (inr p) = absurd p
old_or_free Request s world fits m v d (inr p) = absurd p
old_or_free (Enable id) s world fits m v d (inr p) = absurd p
old_or_free (Ack h) s world fits m v d (inr p) = absurd p
old_or_free Tell s world fits m v d (inr p) = absurd p
old_or_free (Act x) s world fits m v d (inr p) = absurd p
old_or_free (Drop t) s world fits m v d (inr p) = absurd p
old_or_free (End cause) s world fits m v d (inr p) = absurd p
old_or_free Part s world fits m v d (inr p) = absurd p
old_or_free (Marks mark) s world fits m v d (inr p) = absurd p

touch_back : (j : ℕ) (op : Op) (world : World Traffic) → FitsIn world (On j op) → Back world
    → Back (touch whole j op world)
touch_back j op world fits back s w c is = elim (put_is j (session_step whole (world.sessions j) op) world.sessions s) [
  | inl p ↦ (
      let now : (session_step whole (world.sessions j) op).hold ≡ Held w c = ap (λ (x : Session Traffic). x.hold) (sym p.1) ∙ is in
      subst (λ (m : Hold). (settled j (world.sessions j).hold m world.lines w).stage ≡ Bound c s) (sym now)
      (here j (world.sessions j).hold w c world.lines (λ v d e. back j v d e) ∙ ap (Bound c) (sym p.0)))
  | inr p ↦ others j (world.sessions j).hold (session_step whole (world.sessions j) op).hold world.lines w c s
      (λ v d e. back j v d e)
      (λ v d e. old_or_free op j world fits (world.sessions j).hold v d (held_before _ (world.sessions j).hold _ _ op v d e))
      p.0
      (back s w c (ap (λ (x : Session Traffic). x.hold) (sym p.1) ∙ is))
]

-- a line that keeps its session
kept_line : (v : ℕ) (y : Line) (ls : ℕ → Line) (w c s : ℕ) → ((ls v).stage ≡ Bound c s → y.stage ≡ Bound c s)
    → (ls w).stage ≡ Bound c s → (put v y ls w).stage ≡ Bound c s
kept_line v y ls w c s same is = elim (put_is v y ls w) [
  | inl p ↦ ap (λ (l : Line). l.stage) p.1 ∙ same (ap (λ (i : ℕ). (ls i).stage) (sym p.0) ∙ is)
  | inr p ↦ ap (λ (l : Line). l.stage) p.1 ∙ is
]

logged_keeps : (u c s : ℕ) (g : stage.Line) → g ≡ Bound c s → logged u g ≡ Bound c s
logged_keeps u c s g is = ap (logged u) is

pub apply_back : (world : World Traffic) (e : Effect) → FitsIn world e → Back world → Back (apply whole world e)
apply_back world (Open v) fits back s w c is = put_back v _ world.lines w c s fits (back s w c is)
apply_back world (At v (Log u)) fits back s w c is =
    kept_line v _ world.lines w c s (λ e. logged_keeps u c s (world.lines v).stage e) (back s w c is)
apply_back world (At v (Say a)) fits back s w c is = kept_line v _ world.lines w c s (λ e. e) (back s w c is)
apply_back world (At v Said) fits back s w c is = kept_line v _ world.lines w c s (λ e. e) (back s w c is)
apply_back world (At v Leave) fits back s w c is = put_back v _ world.lines w c s fits (back s w c is)
apply_back world (At v (Close d cause)) fits back s w c is = put_back v _ world.lines w c s fits (back s w c is)
apply_back world (Begin v d a) fits back s w c is =
    elim (put_is (world.made + 1) (begun whole v d a) world.sessions s) [
      | inl p ↦ (let now : Held v d ≡ Held w c = ap (λ (x : Session Traffic). x.hold) (sym p.1) ∙ is in let line : v ≡ w = cc in
          subst (λ (i : ℕ). (put v (bound_line d (world.made + 1) (world.lines v)) world.lines i).stage ≡ Bound c s) line
          (bound_here (world.made + 1) v d (world.lines v) world.lines ∙ cc))
      | inr p ↦ put_back v (bound_line d (world.made + 1) (world.lines v)) world.lines w c s fits
          (back s w c (ap (λ (x : Session Traffic). x.hold) (sym p.1) ∙ is))
    ]
apply_back world (Note change) fits back s w c is = back s w c is
apply_back world (Hosts x) fits back s w c is = back s w c is
apply_back world (Files filing) fits back s w c is = back s w c is
apply_back world (On j op) fits back s w c is = touch_back j op world fits back s w c is

pub all_back : (world : World Traffic) (es : List Effect) → Fits world es → Back world → Back (apply_all whole world es)
all_back world [] fits back = back
all_back world (e ∷ es) fits back = all_back (apply whole world e) es fits.1 (apply_back world e fits.0 back)
