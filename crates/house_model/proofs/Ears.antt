-- What is heard of a session, and the effects that tell nothing of it.
use Rattle.std.proofs.Common.{◌≡◌, ℕ, ◌+◌, List, [], ◌∷◌, ◌++◌, Bool, true, false, eqb, refl, sym, ap, ◌∙◌, append-nil, not, if◌then◌else◌}
use Rattle.std.specs.Prelude.{⊤}
use Rattle.stanza_model.specs.declared.stanza.Stanza.{Stanza}
use Rattle.sm_account.specs.Sessions as one
use Rattle.sm_account.specs.Sessions.{Core, core_run}
use Rattle.sm_account.specs.Logs.{log_of}
use Rattle.sm_account.proofs.Logs.{log_append}
use Rattle.house_model.specs.Sessions.{Op, Push, Pull, Request, Enable, Ack, Tell, Act, Drop, Resume, End, Part, Marks}
use Rattle.house_model.specs.Traffic.{Traffic, whole}
use Rattle.house_model.specs.States.{World}
use Rattle.house_model.specs.Effects.{Effect, Open, At, Begin, On, Note, Hosts, Files, apply}
use Rattle.house_model.specs.Bridge.{op_ops, effect_ops, effects_ops}

-- what is heard
pub record Ear : Type 0 where
  pub pull : Bool
  pub act : Bool
  pub ask : Bool
  pub ack : Bool
  pub enable : Bool
  pub begin : Bool  -- that a Bind makes the session
  pub resume : Bool  -- that another connection resumes it
  pub part : Bool  -- that it departs

abbrev pub tells : Ear → one.Op Stanza → Bool
tells r one.Pull = r.pull
tells r one.Ask = r.ask
tells r one.Enable = r.enable
tells r (one.Ack h) = r.ack
tells r (one.Act x) = r.act
tells r (one.Short x) = r.act
tells r (one.Begin c) = r.begin
tells r (one.Resume c h) = r.resume
tells r op = false

abbrev pub IsQuiet : {A : Type 0} → Ear → (Core Stanza → one.Op Stanza → List A) → Type 0
IsQuiet r f = (s : Core Stanza) (op : one.Op Stanza) → tells r op ≡ false → f s op ≡ []

abbrev pub plain : Ear → Op → Bool
plain r Pull = not r.pull
plain r Tell = not r.ask
plain r (Enable id) = not r.enable
plain r (Ack h) = not r.ack
plain r (Act x) = not r.act
plain r (Resume w c h) = not r.resume
plain r Part = not r.part
plain r op = true

abbrev pub IsPlain : Ear → Effect → Type 0
IsPlain r (On s op) = plain r op ≡ true
IsPlain r (Begin w c a) = not r.begin ≡ true
IsPlain r e = ⊤

abbrev pub AllPlain : Ear → List Effect → Type 0
AllPlain r [] = ⊤
AllPlain r (e ∷ es) = IsPlain r e × AllPlain r es

unheard : (b : Bool) → not b ≡ true → b ≡ false
unheard true is = sym is
unheard false is = refl

one_quiet : {A : Type 0} (r : Ear) (f : Core Stanza → one.Op Stanza → List A) (s : Core Stanza) (op : one.Op Stanza)
    → IsQuiet r f → tells r op ≡ false → log_of f s (op ∷ []) ≡ []
one_quiet r f s op q is = append-nil (f s op) ∙ q s op is

op_quiet : {A : Type 0} (r : Ear) (f : Core Stanza → one.Op Stanza → List A) (op : Op) (s : Core Stanza) → IsQuiet r f
    → plain r op ≡ true → log_of f s (op_ops op) ≡ []
op_quiet r f (Push e) s q is = one_quiet r f s (one.Push e) q refl
op_quiet r f Pull s q is = one_quiet r f s one.Pull q (unheard r.pull is)
op_quiet r f Request s q is = one_quiet r f s one.Request q refl
op_quiet r f (Enable id) s q is = one_quiet r f s one.Enable q (unheard r.enable is)
op_quiet r f (Ack h) s q is = one_quiet r f s (one.Ack h) q (unheard r.ack is)
op_quiet r f Tell s q is = one_quiet r f s one.Ask q (unheard r.ask is)
op_quiet r f (Act x) s q is = one_quiet r f s (one.Act x) q (unheard r.act is)
op_quiet r f (Drop t) s q is = one_quiet r f s one.Drop q refl
op_quiet r f (Resume w c h) s q is = one_quiet r f s (one.Resume c h) q (unheard r.resume is)
op_quiet r f (End cause) s q is = one_quiet r f s one.End q refl
op_quiet r f Part s q is = refl
op_quiet r f (Marks mark) s q is = refl

pub quiet_if : {A : Type 0} (f : Core Stanza → one.Op Stanza → List A) (b : Bool) (ops : List (one.Op Stanza))
    (s : Core Stanza) → log_of f s ops ≡ [] → log_of f s (if b then ops else []) ≡ []
quiet_if f true ops s q = q
quiet_if f false ops s q = refl

effect_quiet : {A : Type 0} (r : Ear) (f : Core Stanza → one.Op Stanza → List A) (k : ℕ) (world : World Traffic)
    (e : Effect) (s : Core Stanza) → IsQuiet r f → IsPlain r e → log_of f s (effect_ops k world e) ≡ []
effect_quiet r f k world (Open w) s q is = refl
effect_quiet r f k world (At w op) s q is = refl
effect_quiet r f k world (Note change) s q is = refl
effect_quiet r f k world (Hosts x) s q is = refl
effect_quiet r f k world (Files filing) s q is = refl
effect_quiet r f k world (Begin w c a) s q is =
    quiet_if f (eqb k (world.made + 1)) (one.Begin c ∷ []) s (one_quiet r f s (one.Begin c) q (unheard r.begin is))
effect_quiet r f k world (On j op) s q is = quiet_if f (eqb k j) (op_ops op) s (op_quiet r f op s q is)

pub effects_quiet : {A : Type 0} (r : Ear) (f : Core Stanza → one.Op Stanza → List A) (k : ℕ) (world : World Traffic)
    (es : List Effect) (s : Core Stanza) → IsQuiet r f → AllPlain r es → log_of f s (effects_ops k world es) ≡ []
effects_quiet r f k world [] s q all = refl
effects_quiet {A = A} r f k world (e ∷ es) s q all =
    log_append f s (effect_ops k world e) (effects_ops k (apply whole world e) es)
    ∙ (ap (λ (l : List A). l ++ log_of f (core_run s (effect_ops k world e)) (effects_ops k (apply whole world e) es))
    (effect_quiet r f k world e s q all.0)
    ∙ effects_quiet r f k (apply whole world e) es (core_run s (effect_ops k world e)) q all.1)

pub plain_append : (r : Ear) (xs ys : List Effect) → AllPlain r xs → AllPlain r ys → AllPlain r (xs ++ ys)
plain_append r [] ys a b = b
plain_append r (x ∷ xs) ys a b = (a.0, plain_append r xs ys a.1 b)
