-- What each turn tells of a session is what the session's own operations tell.
use Rattle.std.proofs.Common.{◌≡◌, ℕ, List, [], ◌∷◌, ◌++◌, Bool, true, false, eqb, refl, sym, ap, ◌∙◌, subst, append-nil, if◌then◌else◌}
use Rattle.std.proofs.lemmas.Bool.{eqb-true}
use Rattle.stanza_model.specs.declared.stanza.Stanza.{Stanza}
use Rattle.session_table.specs.declared.line.Line as stage
use Rattle.session_table.specs.declared.line.Line.TheVariants.{Empty, Fresh, Logged, Bound, Over}
use Rattle.sm_account.specs.Sessions as one
use Rattle.sm_account.specs.Sessions.{Core}
use Rattle.sm_account.specs.Logs.{log_of}
use Rattle.sm_account.proofs.Logs.{log_append}
use Rattle.house_model.specs.declared.event.Event.{Event}
use Rattle.house_model.specs.Sessions.{Op}
use Rattle.house_model.specs.Traffic.{whole}
use Rattle.house_model.specs.States.{State, keep}
use Rattle.house_model.specs.Effects.{Effect, On, apply}
use Rattle.house_model.specs.Steps.{verdict, turn}
use Rattle.house_model.specs.Histories.{Outcome, Turn, next, IsOutcome, Legal}
use Rattle.house_model.specs.Sound.{Sound}
use Rattle.house_model.specs.Bridge.{hold_of, core_of, op_ops, effects_ops, short_at, turn_ops, ops_of}
use Rattle.house_model.specs.Lines.{told, while_counted, holding}
use Rattle.house_model.proofs.TurnLaws.{next_sound}
use Rattle.house_model.proofs.Cores.{next_core}
use Rattle.house_model.proofs.Ears.{Ear, IsQuiet, AllPlain, quiet_if, effects_quiet}
use Rattle.house_model.proofs.Quiet.{is_deaf, verdict_plain}

-- a log of operations
abbrev pub Tells : Type 0 → Type 0
Tells A = Core Stanza → one.Op Stanza → List A

-- a log of turns
abbrev pub Hears : Type 0 → Type 0
Hears A = State → Event → Outcome → List A

abbrev pub TurnIs : {A : Type 0} → Tells A → Hears A → ℕ → Type 0
TurnIs f g k = (st : State) (e : Event) (o : Outcome) → Sound st.world → IsOutcome st e o
    → g st e o ≡ log_of f (core_of (st.world.sessions k)) (turn_ops k st e o)

pub told_is : {A : Type 0} (f : Tells A) (g : Hears A) (k : ℕ) → TurnIs f g k → (st : State) (h : List Turn)
    → Sound st.world → Legal st h → told g st h ≡ log_of f (core_of (st.world.sessions k)) (ops_of k st h)
told_is f g k each st [] o legal = refl
told_is {A = A} f g k each st (x ∷ more) o legal =
    ap (λ (l : List A). l ++ told g (next st x) more) (each st x.event x.outcome o legal.0.outcome)
    ∙ (ap (λ (l : List A). log_of f (core_of (st.world.sessions k)) (turn_ops k st x.event x.outcome) ++ l)
    (told_is f g k each (next st x) more (next_sound st x o) legal.1
    ∙ ap (λ (s : Core Stanza). log_of f s (ops_of k (next st x) more)) (next_core k st x o))
    ∙ sym (log_append f (core_of (st.world.sessions k)) (turn_ops k st x.event x.outcome) (ops_of k (next st x) more)))

-- an event of which nothing is heard
pub silent : {A : Type 0} (r : Ear) (f : Tells A) (k : ℕ) (st : State) (e : Event) → IsQuiet r f → is_deaf r e ≡ true
    → [] ≡ log_of f (core_of (st.world.sessions k)) (effects_ops k st.world (verdict (keep (turn e st)) e).effects)
silent r f k st e q deaf =
    sym (effects_quiet r f k st.world (verdict (keep (turn e st)) e).effects _ q (verdict_plain r (keep (turn e st)) e deaf))

pub short_silent : {A : Type 0} (f : Tells A) (k : ℕ) (s : Core Stanza) (x : Stanza) (g : stage.Line)
    → f s (one.Short x) ≡ [] → [] ≡ log_of f s (short_at k x g)
short_silent f k s x (Bound c j) is = sym (quiet_if f (eqb k j) (one.Short x ∷ []) s (append-nil _ ∙ is))
short_silent f k s x Empty is = refl
short_silent f k s x (Fresh c) is = refl
short_silent f k s x (Logged c u) is = refl
short_silent f k s x (Over c cause) is = refl

-- the session that a bound line holds
pub core_held : (st : State) (w c s : ℕ) → Sound st.world → (st.world.lines w).stage ≡ Bound c s
    → (core_of (st.world.sessions s)).hold ≡ one.Held c
core_held st w c s o is = ap hold_of (o.tied w c s is)

-- what is told of session k while it is held and counted
abbrev pub HeldTells : {A : Type 0} → Tells A → State → (k c : ℕ) → List A → one.Op Stanza → Type 0
HeldTells f st k c ys op = (core_of (st.world.sessions k)).hold ≡ one.Held c
    → while_counted (st.world.sessions k).counts ys ≡ f (core_of (st.world.sessions k)) op

pub held_if : {A : Type 0} (b : Bool) (f : Tells A) (k w c s : ℕ) (st : State) (op : one.Op Stanza) (ys : List A)
    → eqb k s ≡ b → Sound st.world → (st.world.lines w).stage ≡ Bound c s → HeldTells f st k c ys op
    → (if b then while_counted (st.world.sessions k).counts ys else [])
    ≡ log_of f (core_of (st.world.sessions k)) (if b then op ∷ [] else [])
held_if true f k w c s st op ys same o is e =
    e (subst (λ (i : ℕ). (core_of (st.world.sessions i)).hold ≡ one.Held c) (sym (eqb-true k s same))
    (core_held st w c s o is))
    ∙ sym (append-nil _)
held_if false f k w c s st op ys same o is e = refl

-- an operation that is heard, on the line that holds its session
pub heard : {A : Type 0} (r : Ear) (f : Tells A) (k w c s : ℕ) (st : State) (op : Op) (one_op : one.Op Stanza)
    (more : List Effect) (ys : ℕ → List A) → IsQuiet r f → AllPlain r more → op_ops op ≡ one_op ∷ []
    → Sound st.world → (st.world.lines w).stage ≡ Bound c s → HeldTells f st k c (ys c) one_op
    → holding k st ys (st.world.lines w).stage
    ≡ log_of f (core_of (st.world.sessions k)) (effects_ops k st.world (On s op ∷ more))
heard {A = A} r f k w c s st op one_op more ys q plain same o is e =
    let core : Core Stanza = core_of (st.world.sessions k) in
    let here : List (one.Op Stanza) = if eqb k s then op_ops op else [] in
    ap (holding k st ys) is
    ∙ (held_if (eqb k s) f k w c s st one_op (ys c) refl o is e
    ∙ (ap (λ (ops : List (one.Op Stanza)). log_of f core (if eqb k s then ops else [])) (sym same)
    ∙ sym (log_append f core here (effects_ops k (apply whole st.world (On s op)) more)
    ∙ (ap (λ (l : List A). log_of f core here ++ l)
    (effects_quiet r f k (apply whole st.world (On s op)) more _ q plain)
    ∙ append-nil _))))
