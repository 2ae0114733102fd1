-- The addresses of sessions are short in each state of a history, where the names that came in are.
use Rattle.std.proofs.Common.{ℕ, zero, suc, ◌+◌, ◌≤◌, List, [], ◌∷◌, ◌++◌, map, length, length-append}
use Rattle.std.proofs.Common.{Option, Some, None, Bool, true, false, sym, subst, arith}
use Rattle.std.specs.Prelude.{slice_index_or}
use Rattle.std.specs.List.{AllByRecursion}
use Rattle.jid_core.specs.Addresses.{Address, local_text, resource_text}
use Rattle.stanza_model.specs.declared.effect.Effect as stanza
use Rattle.stanza_model.specs.declared.stanza.Stanza.{Stanza}
use Rattle.sm_resume.specs.declared.decision.Cause.{Cause}
use Rattle.sm_resume.specs.declared.decision.Cause.TheVariants.{Flood, Lost, Replaced}
use Rattle.session_table.specs.declared.line.Line as stage
use Rattle.muc_service.specs.Casting.{cast}
use Rattle.house_model.specs.declared.event.Event.{Event}
use Rattle.house_model.specs.declared.event.Event.TheVariants as event
use Rattle.house_model.specs.Casts.{addresses_in}
use Rattle.house_model.specs.Sessions.{Act, Ended, End, Away, Gone, Held, Hold, Rest, Session, begun}
use Rattle.house_model.specs.Sessions as sessions
use Rattle.house_model.specs.Traffic.{Traffic, whole}
use Rattle.house_model.specs.States.{Kept, World, State, keep, keep_by, keep_world}
use Rattle.house_model.specs.Effects.{Effect, Open, At, Begin, Note, Hosts, Files, Leave, Close, On, apply, apply_all}
use Rattle.house_model.specs.Fitting.{AreShortAddresses, IsShortAddress}
use Rattle.house_model.specs.Gate.{Waits, Knows, Holds, Needs, to_login, to_bind, to_manage, to_act, to_ask, to_pull, most_answers, left, closed, gate_at}
use Rattle.house_model.specs.Histories.{IsOpening, Made, Outcome, Short, Turn, next, next_by}
use Rattle.house_model.specs.Lookups.{session_at}
use Rattle.house_model.specs.Names.{AreShortThroughout, HasShortNames, NameFits, NamesFit}
use Rattle.house_model.specs.Routing.{departure, effects}
use Rattle.house_model.specs.Steps.{acts, binds, body, bound_address, departs, due, effect_of, replaces, resource_or, sweeps, turn, verdict}
use Rattle.house_model.proofs.GateLemmas.{gate_leads}
use Rattle.house_model.proofs.HousedTurns.{then_applied}
use Rattle.house_model.proofs.SimpleVerdicts.{ArePlain, IsSimple, Plain, acks_plain, asks_plain, closed_plain, enables_plain, holds_plain, knows_plain}
use Rattle.house_model.proofs.SimpleVerdicts.{leaves_plain, left_plain, logs_in_plain, resumes_plain, waits_plain}
use Rattle.house_model.proofs.StayLemmas.{put_both}
use Rattle.house_model.proofs.StayWhole.{IsSame, all_same, touch_same}

abbrev Addressed : World Traffic → Type 0
Addressed world = (s : ℕ) → IsShortAddress (addresses_in world s)

-- what is kept of them is short too
kept_short : (b : Bool) (m : Hold) (t : Traffic) (r : Rest) → IsShortAddress r.address → IsShortAddress (keep_by b m t r).rest.address
kept_short b (Held w c) t r short = short
kept_short b Away t r short = short
kept_short b (Ended cause) t r short = short
kept_short b Gone t r short = omega arith

kept_all : (world : World Traffic) → Addressed world → AreShortAddresses (keep_world world)
kept_all world all s = kept_short (world.sessions s).counts (world.sessions s).hold (world.sessions s).traffic (world.sessions s).rest (all s)

-- What effects make of them.

abbrev Ends : World Traffic → List Effect → Type 0
Ends world es = Addressed (apply_all whole world es)

same_all : (world new : World Traffic) → IsSame world new → Addressed world → Addressed new
same_all world new same all s = subst IsShortAddress (sym (same.address s)) (all s)

begun_all : (world : World Traffic) (w c : ℕ) (a : Address) → IsShortAddress a → Addressed world → Addressed (apply whole world (Begin w c a))
begun_all world w c a short all s =
    put_both (λ j (y : Session Traffic). IsShortAddress y.rest.address) (world.made + 1) (begun whole w c a) world.sessions short (λ j _. all j) s

one_all : (e : Effect) (world : World Traffic) → IsSimple e → Addressed world → Addressed (apply whole world e)
one_all (Open w) world plain all = all
one_all (At w op) world plain all = all
one_all (Begin w c a) world plain all = absurd plain
one_all (Note c) world plain all = all
one_all (Hosts e) world plain all = absurd plain
one_all (Files filing) world plain all = absurd plain
one_all (On s op) world plain all = same_all world (apply whole world (On s op)) (touch_same world s op) all

plain_all : (es : List Effect) (world : World Traffic) → Addressed world → ArePlain es → Ends world es
plain_all [] world all plain = all
plain_all (e ∷ es) world all plain = plain_all es (apply whole world e) (one_all e world plain.0 all) plain.1

all_then : (world : World Traffic) (es fs : List Effect) → Ends world es → ((w : World Traffic) → Addressed w → Ends w fs) → Ends world (es ++ fs)
all_then world es fs ends later = subst Addressed (sym (then_applied world es fs)) (later (apply_all whole world es) ends)

cast_all : (es : List stanza.Effect) (world : World Traffic) → Addressed world → Ends world (map effect_of es)
cast_all es world all = same_all world (apply_all whole world (map effect_of es)) (all_same es world) all

departs_all : (world : World Traffic) (s : ℕ) (cause : Cause) → Addressed world → Ends world (departs (keep_world world) s cause)
departs_all world s cause all =
    let ended : World Traffic = apply whole world (On s (End cause)) in
    let told : List stanza.Effect = cast world.rooms (departure (keep_world world) s) in
    all_then ended (map effect_of told) (On s sessions.Part ∷ [])
    (cast_all told ended (same_all world ended (touch_same world s (End cause)) all))
    (λ w each. same_all w (apply whole w (On s sessions.Part)) (touch_same w s sessions.Part) each)

-- Each event.

name_at : (users : List (List ℕ)) (i : ℕ) → AllByRecursion (λ (u : List ℕ). length u ≤ 1023) users → length (slice_index_or users i []) ≤ 1023
name_at [] zero all = omega arith
name_at [] (suc i) all = omega arith
name_at (u ∷ users) zero all = all.0
name_at (u ∷ users) (suc i) all = name_at users i all.1

bound_short : (k : Kept) (user : ℕ) (resource : List ℕ) → HasShortNames k.head → length resource ≤ 1023 → IsShortAddress (bound_address k user resource)
bound_short k user resource names few =
    let name : List ℕ = slice_index_or k.head.users user [] in
    let one : length name ≤ 1023 = name_at k.head.users user names.users in
    let two : length k.head.domain.domain ≤ 1023 = names.domain in
    omega (
      arith,
      one,
      two,
      few,
      length-append (local_text (Some name) ++ k.head.domain.domain) (resource_text (Some resource)),
      length-append (local_text (Some name)) k.head.domain.domain,
      length-append name (64 ∷ []),
    )

module _ (st : State) (e : Event) (all : Addressed st.world) where
  abbrev kept : Kept
  kept = keep (turn e st)

  replaces_all : (s : Option ℕ) (es : List Effect) → ((w : World Traffic) → Addressed w → Ends w es) → Ends st.world (replaces kept s ++ es)
  replaces_all None es later = later st.world all
  replaces_all (Some s) es later =
      all_then st.world (departs (keep_world st.world) s (Replaced (st.world.made + 1))) es
      (departs_all st.world s (Replaced (st.world.made + 1)) all) later

  binds_all : (has : Bool) (w c : ℕ) (a : Address) (id : List ℕ) → IsShortAddress a → Ends st.world (binds has kept w c a id).effects
  binds_all false w c a id short = all
  binds_all true w c a id short = replaces_all (session_at kept a) _ (λ world each. begun_all world w c a short each)

  acts_all : (s : ℕ) (x : Stanza) → Ends st.world (acts kept s x).effects
  acts_all s x =
      let acted : World Traffic = apply whole st.world (On s (Act x)) in
      cast_all (cast st.world.rooms (effects kept s x)) acted (same_all st.world acted (touch_same st.world s (Act x)) all)

  sweeps_all : (s : Option ℕ) → Ends st.world (sweeps (keep_world st.world) s).effects
  sweeps_all None = all
  sweeps_all (Some s) = departs_all st.world s Lost all

  gate_all : (n : Needs) (w : ℕ) → Plain (body kept e Waits) → ((c u : ℕ) → Ends st.world (body kept e (Knows c u)).effects)
      → ((c s : ℕ) → Ends st.world (body kept e (Holds c s)).effects)
      → Ends st.world (body kept e (gate_at n kept w (st.world.lines w) (st.world.lines w).stage)).effects
  gate_all n w waits knows holds =
      gate_leads (λ v. Ends st.world v.effects) kept e n w (st.world.lines w) (st.world.lines w).stage
      (λ r. all) (λ c. plain_all _ st.world all (left_plain kept (st.world.lines w).stage (At w (Close c (Flood most_answers))) tt))
      (λ c is. plain_all _ st.world all waits) (λ c u is. knows c u) (λ c s is. holds c s)

  -- neither on a connection that is logged in nor on one that holds a session
  plain_gate : (n : Needs) (w : ℕ) → Plain (body kept e Waits) → ((c u : ℕ) → Plain (body kept e (Knows c u)))
      → ((c s : ℕ) → Plain (body kept e (Holds c s)))
      → Ends st.world (body kept e (gate_at n kept w (st.world.lines w) (st.world.lines w).stage)).effects
  plain_gate n w waits knows holds =
      gate_all n w waits (λ c u. plain_all _ st.world all (knows c u)) (λ c s. plain_all _ st.world all (holds c s))

verdict_all : (st : State) (e : Event) → NameFits e → HasShortNames st.head → Addressed st.world → Ends st.world (verdict (keep (turn e st)) e).effects
verdict_all st (event.OpenLine w) fits names all =
    plain_all _ st.world all (left_plain (keep (turn (event.OpenLine w) st)) (st.world.lines w).stage (Open w) tt)
verdict_all st (event.Pull w t) fits names all =
    let k : Kept = keep (turn (event.Pull w t) st) in
    plain_gate st (event.Pull w t) all to_pull w (waits_plain (st.world.lines w).answers k w)
    (λ c u. knows_plain (st.world.lines w).answers k w c u) (λ c s. holds_plain (st.world.lines w).answers k w c s)
verdict_all st (event.Login w user) fits names all =
    plain_gate st (event.Login w user) all to_login w (logs_in_plain _ w) (λ c u. tt) (λ c s. tt)
verdict_all st (event.Bind w id resource t dice) fits names all =
    gate_all st (event.Bind w id resource t dice) all to_bind w tt
    (λ c u. binds_all st (event.Bind w id resource t dice) all _ w c _ id
    (bound_short (keep (turn (event.Bind w id resource t dice) st)) u (resource_or dice resource)
    (record { domain = names.domain; users = names.users }) fits)) (λ c s. all)
verdict_all st (event.Enable w wants dice) fits names all =
    plain_gate st (event.Enable w wants dice) all to_manage w tt (λ c u. (tt, tt)) (λ c s. enables_plain _ w s _)
verdict_all st (event.Resume w id h t) fits names all =
    plain_gate st (event.Resume w id h t) all to_manage w tt (λ c u. resumes_plain id (keep (turn (event.Resume w id h t) st)) w c u h) (λ c s. (tt, tt))
verdict_all st (event.Act w x t) fits names all =
    gate_all st (event.Act w x t) all to_act w tt (λ c u. all) (λ c s. acts_all st (event.Act w x t) all s x)
verdict_all st (event.Ack w h) fits names all =
    plain_gate st (event.Ack w h) all to_act w tt (λ c u. tt) (λ c s. acks_plain _ s h _)
verdict_all st (event.Ask w) fits names all =
    plain_gate st (event.Ask w) all to_ask w tt (λ c u. tt) (λ c s. asks_plain _ w s _)
verdict_all st (event.DropLine w t) fits names all =
    let k : Kept = keep (turn (event.DropLine w t) st) in
    let g : stage.Line = (st.world.lines w).stage in
    plain_all _ st.world all (leaves_plain g w (left k g) (left_plain k g (At w Leave) tt))
verdict_all st (event.CloseLine w t) fits names all =
    let g : stage.Line = (st.world.lines w).stage in
    plain_all _ st.world all (leaves_plain g w (closed g) (closed_plain g (At w Leave) tt))
verdict_all st (event.Sweep w t) fits names all =
    sweeps_all st (event.Sweep w t) all (due (keep (turn (event.Sweep w t) st)))

-- Each history.

turn_all : (st : State) (e : Event) (o : Outcome) → NameFits e → HasShortNames st.head → Addressed st.world → Addressed (next_by st e o).world
turn_all st e (Made reply text) fits names all = verdict_all st e fits names all
turn_all st e Short fits names all = all

turn_names : (st : State) (e : Event) (o : Outcome) → HasShortNames st.head → HasShortNames (next_by st e o).head
turn_names st e (Made reply text) names = record { domain = names.domain; users = names.users }
turn_names st e Short names = record { domain = names.domain; users = names.users }

throughout : (st : State) (h : List Turn) → HasShortNames st.head → NamesFit h → Addressed st.world → AreShortThroughout st h
throughout st [] names fit all = kept_all st.world all
throughout st (x ∷ more) names fit all = (
  kept_all st.world all,
  throughout (next st x) more (turn_names st x.event x.outcome names) fit.1 (turn_all st x.event x.outcome fit.0 names all),
)

pub short_throughout : (o : State) (h : List Turn) → IsOpening o → HasShortNames o.head → NamesFit h → AreShortThroughout o h
short_throughout o h starts names fit =
    throughout o h names fit (subst (λ (st : State). Addressed st.world) (sym starts.4) (λ s. omega arith))
