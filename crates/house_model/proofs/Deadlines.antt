-- A session that a connection holds has no deadline, nor has one that is not made.
use Rattle.std.proofs.Common.{◌≡◌, inl, inr, ℕ, ◌+◌, List, [], ◌∷◌, Option, Some, None, Bool, true, false, refl, sym, subst, true≢false}
use Rattle.stanza_tree.specs.declared.frame.Entry.{Entry}
use Rattle.jid_core.specs.Addresses.{Address}
use Rattle.house_model.specs.declared.event.Event.{Event}
use Rattle.house_model.specs.Sessions.{Hold, Held, Away, Ended, Gone, Rest, Session, Op, Push, Ack, Drop}
use Rattle.house_model.specs.Sessions.{Resume, End, Part, session, begun, pushed, acked, resumed, step_if, session_step}
use Rattle.house_model.specs.Traffic.{Traffic, whole}
use Rattle.house_model.specs.declared.limits.Limits.{Limits}
use Rattle.house_model.specs.States.{World, State, keep, opening_with}
use Rattle.house_model.specs.Effects.{Effect, Open, At, Begin, On, Note, Hosts, Files, apply, apply_all}
use Rattle.house_model.specs.Steps.{verdict, turn}
use Rattle.house_model.specs.Histories.{Outcome, Made, Short, Turn, next_by, next, after, IsOpening}
use Rattle.house_model.proofs.PutLemmas.{put_is}

-- whether it has none
abbrev pub has_none : Bool → Hold → Bool
has_none b (Held w c) = true
has_none true Away = false
has_none false Away = true
has_none b (Ended cause) = false
has_none b Gone = false

abbrev pub IsUndue : Session Traffic → Type 0
IsUndue x = has_none x.counts x.hold ≡ true → x.rest.deadline ≡ None

pushed_undue : (has b : Bool) (m : Hold) (t : Traffic) (r : Rest) (e : Entry) → IsUndue (session b m t r)
    → IsUndue (pushed whole has b m t r e)
pushed_undue true b m t r e undue is = undue is
pushed_undue false b m t r e undue is = absurd (true≢false (sym is))

acked_undue : (u : Option Traffic) (m : Hold) (t : Traffic) (r : Rest) (h : ℕ) → IsUndue (session true m t r) → IsUndue (acked whole u m t r h)
acked_undue (Some u) m t r h undue is = undue is
acked_undue None m t r h undue is = absurd (true≢false (sym is))

resumed_undue : (u : Option Traffic) (m : Hold) (t : Traffic) (r : Rest) (v d : ℕ) → IsUndue (session true m t r) → IsUndue (resumed u m t r v d)
resumed_undue (Some u) m t r v d undue is = refl
resumed_undue None m t r v d undue is = undue is

step_undue : (b : Bool) (m : Hold) (t : Traffic) (r : Rest) (op : Op) → IsUndue (session b m t r) → IsUndue (step_if whole b m t r op)
step_undue b (Held v d) t r (Push e) undue is = pushed_undue (whole.has_room t e) b (Held v d) t r e undue is
step_undue true Away t r (Push e) undue is = pushed_undue (whole.has_room t e) true Away t r e undue is
step_undue b (Held v d) t r (End cause) undue is = absurd (true≢false (sym is))
step_undue true Away t r (End cause) undue is = absurd (true≢false (sym is))
step_undue true (Held v d) t r (Ack h) undue is = acked_undue (whole.ack t h) (Held v d) t r h undue is
step_undue false (Held v d) t r (Drop deadline) undue is = absurd (true≢false (sym is))
step_undue true (Held v d) t r (Drop deadline) undue is = absurd (true≢false (sym is))
step_undue true (Held v d) t r (Resume x y h) undue is = resumed_undue (whole.resume t h) (Held v d) t r x y undue is
step_undue true Away t r (Resume x y h) undue is = resumed_undue (whole.resume t h) Away t r x y undue is
step_undue true (Held v d) t r op undue is = undue refl
step_undue false (Held v d) t r op undue is = undue refl
step_undue true Away t r op undue is = absurd (true≢false (sym is))
step_undue false Away t r op undue is = undue refl
step_undue true (Ended cause) t r Part undue is = absurd (true≢false (sym is))
step_undue false (Ended cause) t r Part undue is = absurd (true≢false (sym is))
step_undue true (Ended cause) t r op undue is = absurd (true≢false (sym is))
step_undue false (Ended cause) t r op undue is = absurd (true≢false (sym is))
step_undue true Gone t r op undue is = absurd (true≢false (sym is))
step_undue false Gone t r op undue is = absurd (true≢false (sym is))

abbrev pub AllUndue : World Traffic → Type 0
AllUndue world = (s : ℕ) → IsUndue (world.sessions s)

effect_undue : (world : World Traffic) (e : Effect) → AllUndue world → AllUndue (apply whole world e)
effect_undue world (Open v) undue s = undue s
effect_undue world (At v op) undue s = undue s
effect_undue world (Note change) undue s = undue s
effect_undue world (Hosts x) undue s = undue s
effect_undue world (Files filing) undue s = undue s
effect_undue world (Begin v d a) undue s = elim (put_is (world.made + 1) (begun whole v d a) world.sessions s) [
  | inl p ↦ subst IsUndue (sym p.1) (λ is. refl)
  | inr p ↦ subst IsUndue (sym p.1) (undue s)
]
effect_undue world (On j op) undue s = elim (put_is j (session_step whole (world.sessions j) op) world.sessions s) [
  | inl p ↦ subst IsUndue (sym p.1)
      (step_undue (world.sessions j).counts (world.sessions j).hold (world.sessions j).traffic (world.sessions j).rest op (undue j))
  | inr p ↦ subst IsUndue (sym p.1) (undue s)
]

all_undue : (es : List Effect) (world : World Traffic) → AllUndue world → AllUndue (apply_all whole world es)
all_undue [] world undue = undue
all_undue (e ∷ es) world undue = all_undue es (apply whole world e) (effect_undue world e undue)

pub next_undue : (st : State) (e : Event) (o : Outcome) → AllUndue st.world → AllUndue (next_by st e o).world
next_undue st e (Made reply text) undue = all_undue (verdict (keep (turn e st)) e).effects st.world undue
next_undue st e Short undue = undue

after_undue : (st : State) (h : List Turn) → AllUndue st.world → AllUndue (after st h).world
after_undue st [] undue = undue
after_undue st (x ∷ more) undue = after_undue (next st x) more (next_undue st x.event x.outcome undue)

opening_undue : (limits : Limits) (domain : Address) (users : List (List ℕ)) (workers : ℕ) → AllUndue (opening_with limits domain users workers).world
opening_undue limits domain users workers s is = refl

pub starts_undue : (o : State) → IsOpening o → AllUndue o.world
starts_undue o starts = subst (λ (st : State). AllUndue st.world) (sym starts.4) (opening_undue starts.0 starts.1 starts.2 starts.3)

pub always_undue : (o : State) (h : List Turn) → IsOpening o → AllUndue (after o h).world
always_undue o h starts = after_undue o h (starts_undue o starts)
