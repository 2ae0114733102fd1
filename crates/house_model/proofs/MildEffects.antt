-- Effects by which no connection comes to hold a session or lets it go, unless the session's queue is full.
use Rattle.std.proofs.Common.{◌≡◌, ◌⊎◌, inl, inr, ℕ, List, [], ◌∷◌, ◌++◌, length, append_assoc, append-nil, Bool, true, false}
use Rattle.std.proofs.Common.{refl, sym, ap, ◌∙◌, subst}
use Rattle.std.specs.Prelude.{⊤}
use Rattle.stanza_tree.specs.declared.frame.Entry.{Entry}
use Rattle.sm_queue.specs.Queues.{has_room}
use Rattle.sm_resume.specs.declared.decision.Cause.{Cause}
use Rattle.sm_resume.specs.declared.decision.Cause.TheVariants.{Overfull}
use Rattle.house_model.specs.Sessions.{Hold, Held, Away, Ended, Gone, Rest, Session, Op, Push, Pull, Request, Enable, Ack, Tell, Act, Drop}
use Rattle.house_model.specs.Sessions.{Resume, End, Part, Marks, session, pushed, step_if, session_step}
use Rattle.house_model.specs.Traffic.{Traffic, whole, waiting}
use Rattle.house_model.specs.States.{World}
use Rattle.house_model.specs.Effects.{Effect, Open, At, Begin, On, Note, Hosts, Files, Say, Said, apply, apply_all}
use Rattle.house_model.specs.Resuming.{is_live}
use Rattle.house_model.specs.Endings.{IsOverfull}
use Rattle.house_model.specs.Losses.{StaysAway}
use Rattle.house_model.proofs.PutLemmas.{put_is, put_here}
use Rattle.house_model.proofs.SoundLemmas.{same_or_not}

abbrev pub IsMildOp : Op → Type 0
IsMildOp (Push e) = ⊤
IsMildOp Pull = ⊤
IsMildOp Request = ⊤
IsMildOp (Enable id) = ⊤
IsMildOp Tell = ⊤
IsMildOp (Act x) = ⊤
IsMildOp (Marks mark) = ⊤
IsMildOp op = ⊥

abbrev pub IsMild : Effect → Type 0
IsMild (On s op) = IsMildOp op
IsMild (Note change) = ⊤
IsMild (Hosts x) = ⊤
IsMild (Files filing) = ⊤
IsMild (At w (Say a)) = ⊤
IsMild (At w Said) = ⊤
IsMild e = ⊥

abbrev pub AllMild : List Effect → Type 0
AllMild [] = ⊤
AllMild (e ∷ es) = IsMild e × AllMild es

-- to one session an effect is mild, too, where it is another's
abbrev pub IsMildTo : ℕ → Effect → Type 0
IsMildTo s (On j op) = IsMildOp op ⊎ (s ≡ j → ⊥)
IsMildTo s (Begin w c a) = ⊥
IsMildTo s e = ⊤

abbrev pub AllMildTo : ℕ → List Effect → Type 0
AllMildTo s [] = ⊤
AllMildTo s (e ∷ es) = IsMildTo s e × AllMildTo s es

pub mild_to : (s : ℕ) (e : Effect) → IsMild e → IsMildTo s e
mild_to s (On j op) mild = inl mild
mild_to s (Begin w c a) mild = absurd mild
mild_to s (Open w) mild = tt
mild_to s (At w op) mild = tt
mild_to s (Note change) mild = tt
mild_to s (Hosts x) mild = tt
mild_to s (Files filing) mild = tt

pub all_mild_to : (s : ℕ) (es : List Effect) → AllMild es → AllMildTo s es
all_mild_to s [] all = tt
all_mild_to s (e ∷ es) all = (mild_to s e all.0, all_mild_to s es all.1)

pub mild_to_append : (s : ℕ) (xs ys : List Effect) → AllMildTo s xs → AllMildTo s ys → AllMildTo s (xs ++ ys)
mild_to_append s [] ys a b = b
mild_to_append s (x ∷ xs) ys a b = (a.0, mild_to_append s xs ys a.1 b)

-- It is held as before; and where it is away, it stays so.
pub record Steady (x y : Session Traffic) : Type 0 where
  pub hold : y.hold ≡ x.hold
  pub away : x.hold ≡ Away → x.counts ≡ true → StaysAway x y

no_more : (t : Traffic) → t ≡ record t { queued = t.queued ++ [] }
no_more t = ap (λ (l : List Entry). record t { queued = l }) (sym (append-nil t.queued))

pub steady_same : (x : Session Traffic) → Steady x x
steady_same x = record {
  hold = refl;
  away = λ is counts. record { more = []; hold = is; counts = refl; traffic = no_more x.traffic; rest = refl };
}

steady_then : (x y z : Session Traffic) → Steady x y → Steady y z → Steady x z
steady_then x y z a b = record {
  hold = b.hold ∙ a.hold;
  away = λ is counts.
      let f : StaysAway x y = a.away is counts in
      let g : StaysAway y z = b.away f.hold (f.counts ∙ counts) in
      record {
        more = f.more ++ g.more;
        hold = g.hold;
        counts = g.counts ∙ f.counts;
        traffic =
            g.traffic
            ∙ (ap (λ (t : Traffic). record t { queued = t.queued ++ g.more }) f.traffic
            ∙ ap (λ (l : List Entry). record x.traffic { queued = l }) (append_assoc x.traffic.queued f.more g.more));
        rest = g.rest ∙ ap (λ (r : Rest). record r { manner = z.rest.manner }) f.rest;
      };
}

steady_else : (x y : Session Traffic) → y.hold ≡ x.hold → (x.hold ≡ Away → ⊥) → Steady x y
steady_else x y same ne = record { hold = same; away = λ is counts. absurd (ne is) }

-- an entry for it has no room in its queue
pub record Brims (x : Session Traffic) (op : Op) (y : Session Traffic) : Type 0 where
  pub entry : Entry
  pub pushes : op ≡ Push entry
  pub live : is_live x.hold ≡ true
  pub full : has_room (waiting x.traffic) entry ≡ false
  pub ended : y.hold ≡ Ended (Overfull x.traffic.kept (length x.traffic.queued))

abbrev Takes : Session Traffic → Op → Session Traffic → Type 0
Takes x op y = Steady x y ⊎ Brims x op y

pushed_takes : (has b : Bool) (m : Hold) (t : Traffic) (r : Rest) (e : Entry) → has_room (waiting t) e ≡ has → is_live m ≡ true
    → Takes (session b m t r) (Push e) (pushed whole has b m t r e)
pushed_takes true b m t r e is live = inl (record {
  hold = refl;
  away = λ away counts. record { more = e ∷ []; hold = away; counts = refl; traffic = refl; rest = refl };
})
pushed_takes false b m t r e is live = inr (record { entry = e; pushes = refl; live = live; full = is; ended = refl })

pub mild_takes : (b : Bool) (m : Hold) (t : Traffic) (r : Rest) (op : Op) → IsMildOp op
    → Takes (session b m t r) op (step_if whole b m t r op)
mild_takes b m t r (Ack h) mild = absurd mild
mild_takes b m t r (Drop deadline) mild = absurd mild
mild_takes b m t r (Resume w c h) mild = absurd mild
mild_takes b m t r (End cause) mild = absurd mild
mild_takes b m t r Part mild = absurd mild
mild_takes b (Held v d) t r (Push e) mild = pushed_takes (whole.has_room t e) b (Held v d) t r e refl refl
mild_takes true Away t r (Push e) mild = pushed_takes (whole.has_room t e) true Away t r e refl refl
mild_takes true Away t r (Marks mark) mild = inl (record {
  hold = refl;
  away = λ away counts. record { more = []; hold = away; counts = refl; traffic = no_more t; rest = refl };
})
mild_takes true (Held v d) t r op mild = inl (steady_else (session true (Held v d) t r) _ refl (λ bad. cc))
mild_takes false (Held v d) t r op mild = inl (steady_else (session false (Held v d) t r) _ refl (λ bad. cc))
mild_takes true Away t r op mild = inl (steady_same (session true Away t r))
mild_takes false Away t r op mild = inl (steady_same (session false Away t r))
mild_takes true (Ended cause) t r op mild = inl (steady_else (session true (Ended cause) t r) _ refl (λ bad. cc))
mild_takes false (Ended cause) t r op mild = inl (steady_else (session false (Ended cause) t r) _ refl (λ bad. cc))
mild_takes true Gone t r op mild = inl (steady_else (session true Gone t r) _ refl (λ bad. cc))
mild_takes false Gone t r op mild = inl (steady_else (session false Gone t r) _ refl (λ bad. cc))

-- One effect.

abbrev pub One : World Traffic → Effect → ℕ → Type 0
One world e s = Steady (world.sessions s) ((apply whole world e).sessions s)
    ⊎ ((op : Op) × (e ≡ On s op) × Brims (world.sessions s) op ((apply whole world e).sessions s))

here_takes : (world : World Traffic) (s : ℕ) (op : Op) → IsMildOp op → One world (On s op) s
here_takes world s op mild =
    let x : Session Traffic = world.sessions s in
    subst (λ (y : Session Traffic). Steady x y ⊎ ((o : Op) × (On s op ≡ On s o) × Brims x o y))
    (sym (put_here s (session_step whole x op) world.sessions))
    (elim (mild_takes x.counts x.hold x.traffic x.rest op mild)
    as (λ _. Steady x (session_step whole x op) ⊎ ((o : Op) × (On s op ≡ On s o) × Brims x o (session_step whole x op))) [
      | inl steady ↦ inl steady
      | inr brims ↦ inr (op, refl, brims)
    ])

on_takes : (world : World Traffic) (j : ℕ) (op : Op) (s : ℕ) → IsMildTo s (On j op) → One world (On j op) s
on_takes world j op s mild = elim (same_or_not s j) [
  | inl e ↦ elim mild as (λ _. One world (On j op) s) [
    | inl is ↦ subst (λ (i : ℕ). One world (On i op) s) e (here_takes world s op is)
    | inr ne ↦ absurd (ne e)
  ]
  | inr ne ↦ elim (put_is j (session_step whole (world.sessions j) op) world.sessions s) as (λ _. One world (On j op) s) [
    | inl p ↦ absurd (ne p.0)
    | inr p ↦ inl (subst (Steady (world.sessions s)) (sym p.1) (steady_same (world.sessions s)))
  ]
]

pub one_takes : (world : World Traffic) (e : Effect) (s : ℕ) → IsMildTo s e → One world e s
one_takes world (On j op) s mild = on_takes world j op s mild
one_takes world (Begin w c a) s mild = absurd mild
one_takes world (Open w) s mild = inl (steady_same (world.sessions s))
one_takes world (At w op) s mild = inl (steady_same (world.sessions s))
one_takes world (Note change) s mild = inl (steady_same (world.sessions s))
one_takes world (Hosts x) s mild = inl (steady_same (world.sessions s))
one_takes world (Files filing) s mild = inl (steady_same (world.sessions s))

-- All of them.

pub record Fills (world : World Traffic) (es : List Effect) (s : ℕ) : Type 0 where
  pub kept : ℕ
  pub queued : ℕ
  pub live : is_live (world.sessions s).hold ≡ true
  pub full : IsOverfull world es s kept queued
  pub ended : ((apply_all whole world es).sessions s).hold ≡ Ended (Overfull kept queued)

abbrev pub Treats : World Traffic → List Effect → ℕ → Type 0
Treats world es s = Steady (world.sessions s) ((apply_all whole world es).sessions s) ⊎ Fills world es s

pub overfull_before : (world : World Traffic) (e : Effect) (es : List Effect) (s k q : ℕ) → IsOverfull (apply whole world e) es s k q
    → IsOverfull world (e ∷ es) s k q
overfull_before world e es s k q f = record {
  before = e ∷ f.before;
  entry = f.entry;
  later = f.later;
  comes = ap (λ (l : List Effect). e ∷ l) f.comes;
  on = f.on;
  full = f.full;
  done = f.done;
  all = f.all;
}

pub overfull_then : (world : World Traffic) (es fs : List Effect) (s k q : ℕ) → IsOverfull world es s k q
    → IsOverfull world (es ++ fs) s k q
overfull_then world es fs s k q f = record {
  before = f.before;
  entry = f.entry;
  later = f.later ++ fs;
  comes = ap (λ (l : List Effect). l ++ fs) f.comes ∙ append_assoc f.before (On s (Push f.entry) ∷ f.later) fs;
  on = f.on;
  full = f.full;
  done = f.done;
  all = f.all;
}

pub dead : (m : Hold) (cause : Cause) → m ≡ Ended cause → is_live m ≡ true → ⊥
dead m cause is live = let bad : is_live (Ended cause) ≡ true = ap is_live (sym is) ∙ live in cc

-- one that is over stays so
pub ended_stays : (world : World Traffic) (es : List Effect) (s : ℕ) (cause : Cause) → Treats world es s
    → (world.sessions s).hold ≡ Ended cause → ((apply_all whole world es).sessions s).hold ≡ Ended cause
ended_stays world es s cause (inl steady) is = steady.hold ∙ is
ended_stays world es s cause (inr fills) is = absurd (dead (world.sessions s).hold cause is fills.live)

pub all_treat : (es : List Effect) (world : World Traffic) (s : ℕ) → AllMildTo s es → Treats world es s
all_treat [] world s all = inl (steady_same (world.sessions s))
all_treat (e ∷ es) world s all =
    let new : World Traffic = apply whole world e in
    let rest : Treats new es s = all_treat es new s all.1 in
    elim (one_takes world e s all.0) as (λ _. Treats world (e ∷ es) s) [
      | inl steady ↦ elim rest as (λ _. Treats world (e ∷ es) s) [
        | inl more ↦ inl (steady_then (world.sessions s) (new.sessions s) ((apply_all whole new es).sessions s) steady more)
        | inr fills ↦ inr (record {
          kept = fills.kept;
          queued = fills.queued;
          live = ap is_live (sym steady.hold) ∙ fills.live;
          full = overfull_before world e es s fills.kept fills.queued fills.full;
          ended = fills.ended;
        })
      ]
      | inr p ↦ inr (record {
        kept = (world.sessions s).traffic.kept;
        queued = length (world.sessions s).traffic.queued;
        live = p.2.live;
        full = record {
          before = [];
          entry = p.2.entry;
          later = es;
          comes = ap (λ (x : Effect). x ∷ es) (p.1 ∙ ap (On s) p.2.pushes);
          on = p.2.live;
          full = p.2.full;
          done = refl;
          all = refl;
        };
        ended = ended_stays new es s _ rest p.2.ended;
      })
    ]
