-- What the history says of the head, the lines, and the connections that came.
use Rattle.std.proofs.Common.{◌≡◌, ◌+◌, List, [], ◌∷◌, length, refl, ◌∙◌, ap, arith}
use Rattle.house_model.specs.declared.event.Event.{Event}
use Rattle.house_model.specs.declared.event.Event.TheVariants as event
use Rattle.house_model.specs.Traffic.{Traffic, whole}
use Rattle.house_model.specs.States.{World, State, Kept, keep}
use Rattle.house_model.specs.Effects.{Effect, Open, At, Begin, On, Note, Hosts, Files, apply, apply_all}
use Rattle.house_model.specs.Steps.{verdict, turn}
use Rattle.house_model.specs.Histories.{Outcome, Made, Short, Turn, MayBeShort, IsOutcome, next_by, next, after}
use Rattle.house_model.specs.Histories.{Legal, opened_by, openings, IsOpening, StandsFor}
use Rattle.house_model.proofs.VerdictLemmas.{opens_one, opens_in, verdict_opens}

-- the number of turns is the length of the history
turns_next : (st : State) (e : Event) (o : Outcome) → (next_by st e o).head.turns ≡ st.head.turns + 1
turns_next st e (Made reply text) = refl
turns_next st e Short = refl

turns_after : (st : State) (h : List Turn) → (after st h).head.turns ≡ st.head.turns + length h
turns_after st [] = omega arith
turns_after st (x ∷ more) =
    let rest = turns_after (next_by st x.event x.outcome) more in
    let first = turns_next st x.event x.outcome in
    omega (arith, rest, first)

turns_opening : (o : State) → IsOpening o → o.head.turns ≡ 0
turns_opening o starts = ap (λ (st : State). st.head.turns) starts.4

pub state_turns : (o : State) (h : List Turn) → IsOpening o → (after o h).head.turns ≡ length h
state_turns o h starts = omega (arith, turns_after o h, turns_opening o starts)

pub turns-counted : (o : State) (h : List Turn) (k : Kept) → StandsFor o h k → k.head.turns ≡ length h
turns-counted o h k stands = ap (λ (x : Kept). x.head.turns) stands.kept ∙ state_turns o h stands.starts

-- how many lines there are never changes
workers_next : (st : State) (e : Event) (o : Outcome) → (next_by st e o).head.workers ≡ st.head.workers
workers_next st e (Made reply text) = refl
workers_next st e Short = refl

pub workers_after : (st : State) (h : List Turn) → (after st h).head.workers ≡ st.head.workers
workers_after st [] = refl
workers_after st (x ∷ more) = workers_after (next st x) more ∙ workers_next st x.event x.outcome

-- the lines of the state are those that the code has
pub workers-kept : (o : State) (h : List Turn) (k : Kept) → StandsFor o h k → k.head.workers ≡ (after o h).head.workers
workers-kept o h k stands = ap (λ (x : Kept). x.head.workers) stands.kept

pub lines-kept : (o : State) (h : List Turn) (k : Kept) → StandsFor o h k → k.world.lines ≡ (after o h).world.lines
lines-kept o h k stands = ap (λ (x : Kept). x.world.lines) stands.kept

-- the number of connections is that of the OpenLine turns
opened_effect : (world : World Traffic) (e : Effect) → (apply whole world e).opened ≡ world.opened + opens_one e
opened_effect world (Open w) = refl
opened_effect world (At w op) = omega arith
opened_effect world (Note change) = omega arith
opened_effect world (Hosts x) = omega arith
opened_effect world (Files filing) = omega arith
opened_effect world (Begin w c a) = omega arith
opened_effect world (On s op) = omega arith

pub opened_effects : (world : World Traffic) (es : List Effect)
    → (apply_all whole world es).opened ≡ world.opened + opens_in es
opened_effects world [] = omega arith
opened_effects world (e ∷ more) =
    let rest = opened_effects (apply whole world e) more in
    let first = opened_effect world e in
    omega (arith, rest, first)

-- an OpenLine is never short
never_short : (e : Event) → MayBeShort e → opened_by e ≡ 0
never_short (event.OpenLine w) may = absurd may
never_short (event.Login w user) may = refl
never_short (event.Bind w id resource t dice) may = refl
never_short (event.Enable w wants dice) may = refl
never_short (event.Resume w id h t) may = refl
never_short (event.Act w stanza t) may = refl
never_short (event.Ack w h) may = refl
never_short (event.Ask w) may = refl
never_short (event.Pull w t) may = refl
never_short (event.DropLine w t) may = refl
never_short (event.CloseLine w t) may = refl
never_short (event.Sweep w t) may = refl

opened_next : (st : State) (e : Event) (o : Outcome) → IsOutcome st e o
    → (next_by st e o).world.opened ≡ st.world.opened + opened_by e
opened_next st e (Made reply text) is =
    let effects = opened_effects st.world (verdict (keep (turn e st)) e).effects in
    let opens = verdict_opens (keep (turn e st)) e in
    omega (arith, effects, opens)
opened_next st e Short may = let none = never_short e may in omega (arith, none)

opened_after : (st : State) (h : List Turn) → Legal st h → (after st h).world.opened ≡ st.world.opened + openings h
opened_after st [] legal = omega arith
opened_after st (x ∷ more) legal =
    let rest = opened_after (next st x) more legal.1 in
    let first = opened_next st x.event x.outcome legal.0.outcome in
    omega (arith, rest, first)

opened_opening : (o : State) → IsOpening o → o.world.opened ≡ 0
opened_opening o starts = ap (λ (st : State). st.world.opened) starts.4

pub state_opened : (o : State) (h : List Turn) → IsOpening o → Legal o h → (after o h).world.opened ≡ openings h
state_opened o h starts legal = omega (arith, opened_after o h legal, opened_opening o starts)

pub opened-counted : (o : State) (h : List Turn) (k : Kept) → StandsFor o h k → k.world.opened ≡ openings h
opened-counted o h k stands =
    ap (λ (x : Kept). x.world.opened) stands.kept ∙ state_opened o h stands.starts stands.legal
