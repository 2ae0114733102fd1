-- Operations by which a client says nothing: an account asks nothing of them.
use Rattle.std.proofs.Common.{◌≡◌, ℕ, ◌+◌, List, [], ◌∷◌, ◌++◌, Bool, true, false, eqb, refl, sym, subst, true≢false, if◌then◌else◌}
use Rattle.stanza_model.specs.declared.stanza.Stanza.{Stanza}
use Rattle.sm_account.specs.Sessions as one
use Rattle.sm_account.specs.Connections as alone
use Rattle.sm_account.specs.Connections.{step, run}
use Rattle.sm_account.specs.Accounts.{Account, OperationFits, AllOperationsFit}
use Rattle.house_model.specs.Sessions.{Op, Push, Pull, Request, Enable, Ack, Tell, Act, Drop, Resume, End, Part, Marks}
use Rattle.house_model.specs.Traffic.{Traffic, whole}
use Rattle.house_model.specs.States.{World}
use Rattle.house_model.specs.Effects.{Effect, Open, At, Begin, On, Note, Hosts, Files, apply}
use Rattle.house_model.specs.Bridge.{op_ops, effect_ops, effects_ops}
use Rattle.house_model.proofs.Ears.{Ear, tells, plain, IsPlain, AllPlain}

-- a client is heard by its acknowledgements, its stanzas and its resumptions
abbrev pub client_ear : Ear
client_ear =
    record { pull = false; act = true; ask = false; ack = true; enable = false; begin = false; resume = true; part = false }

-- operations that fit, from what the client said before them to what it said after them
abbrev pub Lead : Account Stanza → alone.Session Stanza → (said : ℕ) → List (one.Op Stanza) → (v : ℕ) → Type 0
Lead a x said [] v = v ≡ said
Lead a x said (op ∷ ops) v =
    (u : ℕ) × OperationFits x.core.counts x.core.hold a x said op u × Lead a (step x op) u ops v

pub lead_append : (a : Account Stanza) (x : alone.Session Stanza) (said v : ℕ) (ops more : List (one.Op Stanza))
    → Lead a x said ops v → AllOperationsFit a (run x ops) v more → AllOperationsFit a x said (ops ++ more)
lead_append a x said v [] more lead fits = subst (λ (n : ℕ). AllOperationsFit a x n more) lead fits
lead_append a x said v (op ∷ ops) more lead fits =
    (lead.0, lead.1, lead_append a (step x op) lead.0 v ops more lead.2 fits)

pub lead_both : (a : Account Stanza) (x : alone.Session Stanza) (said u v : ℕ) (xs ys : List (one.Op Stanza))
    → Lead a x said xs u → Lead a (run x xs) u ys v → Lead a x said (xs ++ ys) v
lead_both a x said u v [] ys first second = subst (λ (n : ℕ). Lead a x n ys v) first second
lead_both a x said u v (op ∷ ops) ys first second =
    (first.0, first.1, lead_both a (step x op) first.0 u v ops ys first.2 second)

muted : (b : Bool) (m : one.Hold) (a : Account Stanza) (x : alone.Session Stanza) (said : ℕ) (op : one.Op Stanza)
    → tells client_ear op ≡ false → OperationFits b m a x said op said
muted b m a x said (one.Ack h) is = absurd (true≢false is)
muted b m a x said (one.Act y) is = absurd (true≢false is)
muted b m a x said (one.Short y) is = absurd (true≢false is)
muted b m a x said (one.Resume c h) is = absurd (true≢false is)
muted true (one.Held d) a x said op is = refl
muted true one.Away a x said op is = refl
muted true one.Ended a x said op is = refl
muted false m a x said op is = refl

one_muted : (a : Account Stanza) (x : alone.Session Stanza) (said : ℕ) (op : one.Op Stanza)
    → tells client_ear op ≡ false → Lead a x said (op ∷ []) said
one_muted a x said op is = (said, muted x.core.counts x.core.hold a x said op is, refl)

op_muted : (a : Account Stanza) (x : alone.Session Stanza) (said : ℕ) (op : Op) → plain client_ear op ≡ true
    → Lead a x said (op_ops op) said
op_muted a x said (Push e) is = one_muted a x said (one.Push e) refl
op_muted a x said Pull is = one_muted a x said one.Pull refl
op_muted a x said Request is = one_muted a x said one.Request refl
op_muted a x said (Enable id) is = one_muted a x said one.Enable refl
op_muted a x said (Ack h) is = absurd (true≢false (sym is))
op_muted a x said Tell is = one_muted a x said one.Ask refl
op_muted a x said (Act y) is = absurd (true≢false (sym is))
op_muted a x said (Drop t) is = one_muted a x said one.Drop refl
op_muted a x said (Resume w c h) is = absurd (true≢false (sym is))
op_muted a x said (End cause) is = one_muted a x said one.End refl
op_muted a x said Part is = refl
op_muted a x said (Marks mark) is = refl

muted_if : (b : Bool) (a : Account Stanza) (x : alone.Session Stanza) (said : ℕ) (ops : List (one.Op Stanza))
    → Lead a x said ops said → Lead a x said (if b then ops else []) said
muted_if true a x said ops lead = lead
muted_if false a x said ops lead = refl

effect_muted : (a : Account Stanza) (x : alone.Session Stanza) (said k : ℕ) (world : World Traffic) (e : Effect)
    → IsPlain client_ear e → Lead a x said (effect_ops k world e) said
effect_muted a x said k world (Open w) is = refl
effect_muted a x said k world (At w op) is = refl
effect_muted a x said k world (Note change) is = refl
effect_muted a x said k world (Hosts o) is = refl
effect_muted a x said k world (Files filing) is = refl
effect_muted a x said k world (Begin w c address) is =
    muted_if (eqb k (world.made + 1)) a x said (one.Begin c ∷ []) (one_muted a x said (one.Begin c) refl)
effect_muted a x said k world (On j op) is = muted_if (eqb k j) a x said (op_ops op) (op_muted a x said op is)

pub effects_muted : (a : Account Stanza) (x : alone.Session Stanza) (said k : ℕ) (world : World Traffic)
    (es : List Effect) → AllPlain client_ear es → Lead a x said (effects_ops k world es) said
effects_muted a x said k world [] all = refl
effects_muted a x said k world (e ∷ es) all =
    lead_both a x said said said (effect_ops k world e) (effects_ops k (apply whole world e) es)
    (effect_muted a x said k world e all.0)
    (effects_muted a (run x (effect_ops k world e)) said k (apply whole world e) es all.1)
