-- What each event does comes in parts that suit the house's rooms, and those who are in a room are in the house.
use Rattle.std.proofs.Common.{◌≡◌, ℕ, ◌+◌, List, [], ◌∷◌, ◌++◌, map, append_assoc, Option, Some, None, IfSome, Bool, true, false, refl, sym}
use Rattle.std.proofs.Common.{ap, ◌∙◌, subst}
use Rattle.std.specs.Prelude.{⊤}
use Rattle.std.specs.List.{AllByRecursion}
use Rattle.std.proofs.lemmas.List.{append-nil}
use Rattle.jid_core.specs.Addresses.{Address, address_text}
use Rattle.stanza_model.specs.declared.effect.Effect as stanza
use Rattle.stanza_model.specs.declared.stanza.Stanza.{Stanza}
use Rattle.sm_resume.specs.declared.decision.Cause.{Cause}
use Rattle.sm_resume.specs.declared.decision.Cause.TheVariants.{Flood, Lost, Replaced}
use Rattle.session_table.specs.declared.line.Line as stage
use Rattle.session_table.specs.declared.line.Line.TheVariants.{Bound}
use Rattle.muc_service.specs.Casting.{cast}
use Rattle.house_model.specs.declared.answer.Answer.TheVariants as answer
use Rattle.house_model.specs.declared.event.Event.{Event}
use Rattle.house_model.specs.declared.event.Event.TheVariants as event
use Rattle.house_model.specs.Sessions.{Op, Act, End, Push}
use Rattle.house_model.specs.Sessions as sessions
use Rattle.house_model.specs.Traffic.{Traffic, whole}
use Rattle.house_model.specs.States.{Kept, World, State, keep, keep_world}
use Rattle.house_model.specs.Effects.{Effect, Open, At, Begin, Note, Hosts, Files, Say, Leave, Close, On, apply, apply_all}
use Rattle.house_model.specs.Gate.{Waits, Knows, Holds, Needs, to_login, to_bind, to_manage, to_act}
use Rattle.house_model.specs.Gate.{to_ask, to_pull, most_answers, left, closed, gate_at}
use Rattle.house_model.specs.Histories.{Outcome, Made, Short, Turn, next, next_by, after, IsOpening}
use Rattle.house_model.specs.Lookups.{session_at}
use Rattle.house_model.specs.Routing.{scene_of, departure, effects}
use Rattle.house_model.specs.Sound.{Sound}
use Rattle.house_model.specs.Steps.{replaces, departs, binds, effect_of, acts}
use Rattle.house_model.specs.Steps.{sweeps, due, body, verdict, turn}
use Rattle.house_model.specs.Stays.{Gapless, IsWithin, Logs, logs_of, no_logs, turn_logs}
use Rattle.house_model.specs.Casts.{Part, Alone, Cast, AllSuit, IsPlain, addresses_in, part_effects, parts_effects, PartSuits, PartsSuit}
use Rattle.house_model.specs.Casts.{TurnSuits, HistorySuits}
use Rattle.house_model.proofs.GateLemmas.{gate_leads}
use Rattle.house_model.proofs.RoomSuits.{easy_suits}
use Rattle.house_model.proofs.StayApart.{Sure}
use Rattle.house_model.proofs.StayLists.{kept_address}
use Rattle.house_model.proofs.StayTurns.{gapless_after, opening_good, turn_good, within_after}
use Rattle.house_model.proofs.StayWhole.{IsSame, touch_same}
use Rattle.house_model.proofs.TurnLaws.{next_sound, starts_sound}
use Rattle.house_model.specs.Fitting.{EffectFits, IsInHouse}
use Rattle.house_model.proofs.HousedTurns.{Known, at_in_house, begun_in_house, cast_after, cast_housed, departure_out, due_in_house}
use Rattle.house_model.proofs.HousedTurns.{housed_same, on_housed, parted_housed, then_applied}
use Rattle.house_model.proofs.Housed.{Housed}
use Rattle.house_model.proofs.InHouse.{HasNoZero, departure_fit, held_in_house, next_no_zero, stanza_fit}
use Rattle.house_model.proofs.Outs.{Out}
use Rattle.house_model.proofs.StayPlain.{departure_easy, stanza_suits}
use Rattle.house_model.proofs.SimpleVerdicts.{IsSimple, ArePlain, left_plain, closed_plain, Plain, leaves_plain, logs_in_plain}
use Rattle.house_model.proofs.SimpleVerdicts.{enables_plain, resumes_plain, acks_plain, asks_plain, waits_plain, knows_plain, holds_plain}

-- verdicts, in parts that suit

-- a session that departs is in no room, and what comes of a stanza names sessions of the house

abbrev LodgesOp : World Traffic → ℕ → Op → Type 0
LodgesOp world s sessions.Part = Out s world.rooms
LodgesOp world s op = ⊤

abbrev Lodges : World Traffic → Part → Type 0
Lodges world (Alone (On s op)) = LodgesOp world s op
Lodges world (Alone e) = ⊤
Lodges world (Cast es) = AllByRecursion (EffectFits world) es

abbrev AllLodge : World Traffic → List Part → Type 0
AllLodge world [] = ⊤
AllLodge world (p ∷ more) = Lodges world p × AllLodge (apply_all whole world (part_effects world p)) more

abbrev Suiting : World Traffic → List Effect → Type 0
Suiting world es = (parts : List Part) × (es ≡ parts_effects world parts) × PartsSuit world parts × AllLodge world parts

parts_then : (ps : List Part) (world : World Traffic) (fs : List Effect) → PartsSuit world ps → AllLodge world ps
    → Suiting (apply_all whole world (parts_effects world ps)) fs → Suiting world (parts_effects world ps ++ fs)
parts_then [] world fs suits lodge rest = rest
parts_then (p ∷ ps) world fs suits lodge rest =
    let first : List Effect = part_effects world p in
    let next_world : World Traffic = apply_all whole world first in
    let later : Suiting next_world (parts_effects next_world ps ++ fs) =
    parts_then ps next_world fs suits.1 lodge.1 (subst (λ (w : World Traffic). Suiting w fs) (then_applied world first (parts_effects next_world ps)) rest) in (
      p ∷ later.0,
      append_assoc first (parts_effects next_world ps) fs ∙ ap (λ (l : List Effect). first ++ l) later.1,
      (suits.0, later.2),
      (lodge.0, later.3),
    )

suiting_then : (world : World Traffic) (es fs : List Effect) → Suiting world es → Suiting (apply_all whole world es) fs → Suiting world (es ++ fs)
suiting_then world es fs one two =
    subst (λ (l : List Effect). Suiting world (l ++ fs)) (sym one.1)
    (parts_then one.0 world fs one.2 one.3 (subst (λ (l : List Effect). Suiting (apply_all whole world l) fs) one.1 two))

simple_plain : (e : Effect) → IsSimple e → IsPlain e
simple_plain (Open w) is = tt
simple_plain (At w op) is = tt
simple_plain (Begin w c a) is = absurd is
simple_plain (Note c) is = tt
simple_plain (Hosts e) is = absurd is
simple_plain (Files filing) is = absurd is
simple_plain (On s (Push entry)) is = absurd is
simple_plain (On s op) is = tt

simple_lodges : (world : World Traffic) (e : Effect) → IsSimple e → Lodges world (Alone e)
simple_lodges world (Open w) is = tt
simple_lodges world (At w op) is = tt
simple_lodges world (Begin w c a) is = absurd is
simple_lodges world (Note c) is = tt
simple_lodges world (Hosts e) is = absurd is
simple_lodges world (Files filing) is = absurd is
simple_lodges world (On s sessions.Part) is = absurd is
simple_lodges world (On s op) is = tt

alone_all : (es : List Effect) (world : World Traffic) → es ≡ parts_effects world (map Alone es)
alone_all [] world = refl
alone_all (e ∷ es) world = ap (λ (l : List Effect). e ∷ l) (alone_all es (apply whole world e))

alone_suit : (es : List Effect) (world : World Traffic) → ArePlain es → PartsSuit world (map Alone es)
alone_suit [] world plain = tt
alone_suit (e ∷ es) world plain = (simple_plain e plain.0, alone_suit es (apply whole world e) plain.1)

alone_lodge : (es : List Effect) (world : World Traffic) → ArePlain es → AllLodge world (map Alone es)
alone_lodge [] world plain = tt
alone_lodge (e ∷ es) world plain = (simple_lodges world e plain.0, alone_lodge es (apply whole world e) plain.1)

plain_suits : (es : List Effect) (world : World Traffic) → ArePlain es → Suiting world es
plain_suits es world plain = (map Alone es, alone_all es world, alone_suit es world plain, alone_lodge es world plain)

cast_suits : (es : List stanza.Effect) (world : World Traffic) → AllSuit world.made (addresses_in world) world.rooms es
    → AllByRecursion (EffectFits world) es → Suiting world (map effect_of (cast world.rooms es))
cast_suits es world suits fits = (Cast es ∷ [], sym (append-nil (map effect_of (cast world.rooms es))), (suits, tt), (fits, tt))

-- an effect before others
alone_then : (world : World Traffic) (e : Effect) (es : List Effect) → IsPlain e → Lodges world (Alone e) → Suiting (apply whole world e) es
    → Suiting world (e ∷ es)
alone_then world e es plain lodges rest =
    (Alone e ∷ rest.0, ap (λ (l : List Effect). e ∷ l) rest.1, (plain, rest.2), (lodges, rest.3))

departs_suits : (world : World Traffic) (s : ℕ) (cause : Cause) → Known world → IsInHouse s world → Suiting world (departs (keep_world world) s cause)
departs_suits world s cause known is =
    let ended : World Traffic = apply whole world (On s (End cause)) in
    let es : List stanza.Effect = departure (keep_world world) s in
    let gone : World Traffic = apply_all whole ended (map effect_of (cast ended.rooms es)) in
    let out : Out s gone.rooms = subst (Out s) (sym (cast_after es ended)) (departure_out (keep_world world) s) in
    alone_then world (On s (End cause)) (map effect_of (cast world.rooms es) ++ On s sessions.Part ∷ []) tt tt
    (suiting_then ended (map effect_of (cast world.rooms es)) (On s sessions.Part ∷ [])
    (cast_suits es ended (easy_suits ended.made (addresses_in ended) ended.rooms es (departure_easy (keep_world world) s))
    (departure_fit world s cause known.numbered known.housed is))
    (alone_then gone (On s sessions.Part) [] tt out (plain_suits [] _ tt)))

module _ (st : State) (e : Event) (known : Known st.world) where
  abbrev kept : Kept
  kept = keep (turn e st)

  replaces_suits : (s : Option ℕ) (es : List Effect) → IfSome s (λ r. IsInHouse r st.world) → ((w : World Traffic) → Suiting w es)
      → Suiting st.world (replaces kept s ++ es)
  replaces_suits None es is suits = suits st.world
  replaces_suits (Some s) es is suits =
      suiting_then st.world (departs (keep_world st.world) s (Replaced (st.world.made + 1))) es
      (departs_suits st.world s (Replaced (st.world.made + 1)) known is) (suits _)

  binds_suits : (has : Bool) (w c : ℕ) (a : Address) (id : List ℕ) → Suiting st.world (binds has kept w c a id).effects
  binds_suits false w c a id = plain_suits _ st.world (tt, tt)
  binds_suits true w c a id =
      let said : List Effect = At w (Say (answer.Bound id (address_text a))) ∷ [] in
      replaces_suits (session_at kept a) (Begin w c a ∷ said) (at_in_house st.world a)
      (λ world. alone_then world (Begin w c a) said tt tt (plain_suits said (apply whole world (Begin w c a)) (tt, tt)))

  acts_suits : (s : ℕ) (x : Stanza) → IsInHouse s st.world → Suiting st.world (acts kept s x).effects
  acts_suits s x is =
      let acted : World Traffic = apply whole st.world (On s (Act x)) in
      let same : IsSame st.world acted = touch_same st.world s (Act x) in
      alone_then st.world (On s (Act x)) (map effect_of (cast st.world.rooms (effects kept s x))) tt tt
      (cast_suits (effects kept s x) acted
      (stanza_suits (scene_of kept) s x acted.made (addresses_in acted) known.numbered is.made (kept_address st.world s is.stays ∙ sym (same.address s)))
      (stanza_fit st.world (scene_of kept) s x refl known.numbered known.housed is))

  sweeps_suits : (s : Option ℕ) → IfSome s (λ r. IsInHouse r st.world) → Suiting st.world (sweeps (keep_world st.world) s).effects
  sweeps_suits None is = plain_suits [] st.world tt
  sweeps_suits (Some s) is = departs_suits st.world s Lost known is

  gate_suits : (n : Needs) (w : ℕ) → Plain (body kept e Waits) → ((c u : ℕ) → Suiting st.world (body kept e (Knows c u)).effects)
      → ((c s : ℕ) → (st.world.lines w).stage ≡ Bound c s → Suiting st.world (body kept e (Holds c s)).effects)
      → Suiting st.world (body kept e (gate_at n kept w (st.world.lines w) (st.world.lines w).stage)).effects
  gate_suits n w waits knows holds =
      gate_leads (λ v. Suiting st.world v.effects) kept e n w (st.world.lines w) (st.world.lines w).stage
      (λ r. plain_suits [] st.world tt)
      (λ c. plain_suits _ st.world (left_plain kept (st.world.lines w).stage (At w (Close c (Flood most_answers))) tt))
      (λ c is. plain_suits _ st.world waits) (λ c u is. knows c u) (λ c s is. holds c s is)

  -- neither on a connection that is logged in nor on one that holds a session
  plain_gate : (n : Needs) (w : ℕ) → Plain (body kept e Waits) → ((c u : ℕ) → Plain (body kept e (Knows c u)))
      → ((c s : ℕ) → Plain (body kept e (Holds c s)))
      → Suiting st.world (body kept e (gate_at n kept w (st.world.lines w) (st.world.lines w).stage)).effects
  plain_gate n w waits knows holds =
      gate_suits n w waits (λ c u. plain_suits _ st.world (knows c u)) (λ c s is. plain_suits _ st.world (holds c s))

verdict_suits : (st : State) (e : Event) → Known st.world → Suiting st.world (verdict (keep (turn e st)) e).effects
verdict_suits st (event.OpenLine w) known =
    plain_suits _ st.world (left_plain (keep (turn (event.OpenLine w) st)) (st.world.lines w).stage (Open w) tt)
verdict_suits st (event.Pull w t) known =
    let k : Kept = keep (turn (event.Pull w t) st) in
    plain_gate st (event.Pull w t) known to_pull w (waits_plain (st.world.lines w).answers k w)
    (λ c u. knows_plain (st.world.lines w).answers k w c u) (λ c s. holds_plain (st.world.lines w).answers k w c s)
verdict_suits st (event.Login w user) known = plain_gate st (event.Login w user) known to_login w (logs_in_plain _ w) (λ c u. tt) (λ c s. tt)
verdict_suits st (event.Bind w id resource t dice) known =
    gate_suits st (event.Bind w id resource t dice) known to_bind w tt (λ c u. binds_suits st (event.Bind w id resource t dice) known _ w c _ id)
    (λ c s is. plain_suits [] st.world tt)
verdict_suits st (event.Enable w wants dice) known =
    plain_gate st (event.Enable w wants dice) known to_manage w tt (λ c u. (tt, tt)) (λ c s. enables_plain _ w s _)
verdict_suits st (event.Resume w id h t) known =
    plain_gate st (event.Resume w id h t) known to_manage w tt (λ c u. resumes_plain id (keep (turn (event.Resume w id h t) st)) w c u h) (λ c s. (tt, tt))
verdict_suits st (event.Act w x t) known =
    gate_suits st (event.Act w x t) known to_act w tt (λ c u. plain_suits [] st.world tt)
    (λ c s is. acts_suits st (event.Act w x t) known s x (held_in_house st.world s w c known.sound known.zero (known.sound.tied w c s is)))
verdict_suits st (event.Ack w h) known = plain_gate st (event.Ack w h) known to_act w tt (λ c u. tt) (λ c s. acks_plain _ s h _)
verdict_suits st (event.Ask w) known = plain_gate st (event.Ask w) known to_ask w tt (λ c u. tt) (λ c s. asks_plain _ w s _)
verdict_suits st (event.DropLine w t) known =
    let k : Kept = keep (turn (event.DropLine w t) st) in
    let g : stage.Line = (st.world.lines w).stage in
    plain_suits _ st.world (leaves_plain g w (left k g) (left_plain k g (At w Leave) tt))
verdict_suits st (event.CloseLine w t) known =
    let g : stage.Line = (st.world.lines w).stage in
    plain_suits _ st.world (leaves_plain g w (closed g) (closed_plain g (At w Leave) tt))
verdict_suits st (event.Sweep w t) known =
    let k : Kept = keep (turn (event.Sweep w t) st) in
    sweeps_suits st (event.Sweep w t) known (due k) (due_in_house st.world k.head.moment)

-- so every turn suits, and keeps what is known

turn_suits : (st : State) (e : Event) (o : Outcome) → Known st.world → TurnSuits st e o
turn_suits st e (Made reply text) known = (let s = verdict_suits st e known in (s.0, s.1, s.2))
turn_suits st e Short known = tt

parts_known : (ps : List Part) (world : World Traffic) → PartsSuit world ps → AllLodge world ps → Housed world
    → Housed (apply_all whole world (parts_effects world ps))
parts_known [] world suits lodge housed = housed
parts_known (p ∷ ps) world suits lodge housed =
    let first : List Effect = part_effects world p in
    let next_world : World Traffic = apply_all whole world first in
    subst Housed (sym (then_applied world first (parts_effects next_world ps)))
    (parts_known ps next_world suits.1 lodge.1 (part_housed p world suits.0 lodge.0 housed)) where
      alone_housed : (e : Effect) (world : World Traffic) → IsPlain e → Lodges world (Alone e) → Housed world → Housed (apply whole world e)
      alone_housed (Open w) world plain lodges housed =
          housed_same world (apply whole world (Open w)) refl (λ q is. record { above = is.above; made = is.made; stays = is.stays }) housed
      alone_housed (At w op) world plain lodges housed =
          housed_same world (apply whole world (At w op)) refl (λ q is. record { above = is.above; made = is.made; stays = is.stays }) housed
      alone_housed (Begin w c a) world plain lodges housed =
          housed_same world (apply whole world (Begin w c a)) refl (λ q is. begun_in_house world w c a q is) housed
      alone_housed (Note change) world plain lodges housed =
          housed_same world (apply whole world (Note change)) refl (λ q is. record { above = is.above; made = is.made; stays = is.stays }) housed
      alone_housed (Hosts x) world plain lodges housed = absurd plain
      alone_housed (Files filing) world plain lodges housed = absurd plain
      alone_housed (On s sessions.Part) world plain lodges housed = parted_housed world s lodges housed
      alone_housed (On s op) world plain lodges housed = on_housed world s op tt housed

      part_housed : (p : Part) (world : World Traffic) → PartSuits world p → Lodges world p → Housed world
          → Housed (apply_all whole world (part_effects world p))
      part_housed (Alone e) world suits lodges housed = alone_housed e world suits lodges housed
      part_housed (Cast es) world suits lodges housed = cast_housed es world lodges housed

turn_housed : (st : State) (x : Turn) (o : Outcome) → x.outcome ≡ o → Known st.world → Housed (next st x).world
turn_housed st x Short is known = subst (λ (o : Outcome). Housed (next_by st x.event o).world) (sym is) known.housed
turn_housed st x (Made reply text) is known =
    let s = verdict_suits st x.event known in
    subst (λ (o : Outcome). Housed (next_by st x.event o).world) (sym is)
    (subst (λ (es : List Effect). Housed (apply_all whole st.world es)) (sym s.1) (parts_known s.0 st.world s.2 s.3 known.housed))

-- after each history

pub record All (st : State) (logs : Logs) : Type 0 where
  pub sound : Sound st.world
  pub zero : HasNoZero st.world
  pub housed : Housed st.world
  pub sure : Sure st.world logs

known_of : (st : State) (logs : Logs) → All st logs → Known st.world
known_of st logs all = record { sound = all.sound; zero = all.zero; numbered = all.sure.numbered; housed = all.housed }

pub next_all : (st : State) (x : Turn) (logs : Logs) → All st logs → All (next st x) (turn_logs st x.event x.outcome logs)
next_all st x logs all = record {
  sound = next_sound st x all.sound;
  zero = next_no_zero st x.event x.outcome all.zero;
  housed = turn_housed st x x.outcome refl (known_of st logs all);
  sure = turn_good st x logs x.outcome refl (turn_suits st x.event x.outcome (known_of st logs all)) all.sure;
}

all_suit : (st : State) (h : List Turn) (logs : Logs) → All st logs → HistorySuits st h
all_suit st [] logs all = tt
all_suit st (x ∷ more) logs all =
    (turn_suits st x.event x.outcome (known_of st logs all), all_suit (next st x) more (turn_logs st x.event x.outcome logs) (next_all st x logs all))

after_all : (st : State) (h : List Turn) (logs : Logs) → All st logs → Known (after st h).world
after_all st [] logs all = known_of st logs all
after_all st (x ∷ more) logs all = after_all (next st x) more (turn_logs st x.event x.outcome logs) (next_all st x logs all)

pub opening_all : (o : State) → IsOpening o → All o no_logs
opening_all o starts = record {
  sound = starts_sound o starts;
  zero = ap (λ (st : State). st.world.sessions 0) starts.4;
  housed = subst (λ (st : State). Housed st.world) (sym starts.4) (λ n. tt);
  sure = subst (λ (z : State). Sure z.world no_logs) (sym starts.4) (opening_good starts.0 starts.1 starts.2 starts.3);
}

pub known_after : (o : State) (h : List Turn) → IsOpening o → Known (after o h).world
known_after o h starts = after_all o h no_logs (opening_all o starts)

all_then : (st : State) (h : List Turn) (logs : Logs) → All st logs → (then : Logs) × All (after st h) then
all_then st [] logs all = (logs, all)
all_then st (x ∷ more) logs all = all_then (next st x) more (turn_logs st x.event x.outcome logs) (next_all st x logs all)

pub all_after : (o : State) (h : List Turn) → IsOpening o → (logs : Logs) × All (after o h) logs
all_after o h starts = all_then o h no_logs (opening_all o starts)

history_suits : (o : State) (h : List Turn) → IsOpening o → HistorySuits o h
history_suits o h starts = all_suit o h no_logs (opening_all o starts)

pub gapless : (o : State) (h : List Turn) → IsOpening o → Gapless (after o h).world (logs_of o h)
gapless o h starts = gapless_after o h starts (history_suits o h starts)

pub within : (o : State) (h : List Turn) → IsOpening o → (i : ℕ) → IsWithin (logs_of o h).order ((logs_of o h).stays i)
within o h starts = within_after o h starts (history_suits o h starts)
