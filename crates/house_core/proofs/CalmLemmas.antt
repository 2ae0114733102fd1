-- Events that leave the rooms and the archives as they are: all but those by which stanzas are acted on, or sessions depart.
use Rattle.std.proofs.Common.{◌≡◌, ℕ, List, [], ◌∷◌, refl, ap, ◌∙◌}
use Rattle.std.specs.Prelude.{⊤}
use Rattle.sm_resume.specs.declared.decision.Cause.TheVariants.{Flood}
use Rattle.house_model.specs.declared.event.Event.{Event}
use Rattle.house_model.specs.declared.event.Event.TheVariants as event
use Rattle.archive_table.specs.Tables.{archives_of}
use Rattle.house_model.specs.Effects.{Effect, Open, At, Begin, On, Note, Hosts, Files, Leave, Close, apply, apply_all}
use Rattle.house_model.specs.Gate.{Needs, Waits, Knows, Holds, closed, gate_at, left, most_answers, to_act, to_ask, to_login, to_manage, to_pull}
use Rattle.house_model.specs.States.{Kept, World}
use Rattle.house_model.specs.Steps.{body, verdict}
use Rattle.house_model.specs.Traffic.{KeptTraffic, brief}
use Rattle.house_model.proofs.GateLemmas.{gate_leads}
use Rattle.house_model.proofs.SimpleVerdicts.{ArePlain, IsSimple, acks_plain, asks_plain, closed_plain, enables_plain, holds_plain, knows_plain}
use Rattle.house_model.proofs.SimpleVerdicts.{leaves_plain, left_plain, logs_in_plain, resumes_plain, waits_plain}
use Rattle.house_world.specs.declared.world.World as code
use Rattle.house_world.specs.Worlds.{seen}

-- effects by which no room changes

one_simple : (e : Effect) (world : World KeptTraffic) → IsSimple e → (apply brief world e).rooms ≡ world.rooms
one_simple (Open w) world simple = refl
one_simple (At w op) world simple = refl
one_simple (Begin w c address) world simple = refl
one_simple (On s op) world simple = refl
one_simple (Note change) world simple = refl
one_simple (Hosts x) world simple = absurd simple
one_simple (Files filing) world simple = absurd simple

simple_rooms : (es : List Effect) (world : World KeptTraffic) → ArePlain es → (apply_all brief world es).rooms ≡ world.rooms
simple_rooms [] world plain = refl
simple_rooms (e ∷ es) world plain = simple_rooms es (apply brief world e) plain.1 ∙ one_simple e world plain.0

-- nor an archive

one_quiet : (e : Effect) (world : World KeptTraffic) → IsSimple e → (apply brief world e).archives ≡ world.archives
one_quiet (Open w) world simple = refl
one_quiet (At w op) world simple = refl
one_quiet (Begin w c address) world simple = refl
one_quiet (On s op) world simple = refl
one_quiet (Note change) world simple = refl
one_quiet (Hosts x) world simple = absurd simple
one_quiet (Files filing) world simple = absurd simple

simple_archives : (es : List Effect) (world : World KeptTraffic) → ArePlain es → (apply_all brief world es).archives ≡ world.archives
simple_archives [] world plain = refl
simple_archives (e ∷ es) world plain = simple_archives es (apply brief world e) plain.1 ∙ one_quiet e world plain.0

-- events of which no other come

abbrev pub IsCalm : Event → Type 0
IsCalm (event.Bind w id resource t dice) = ⊥
IsCalm (event.Act w stanza t) = ⊥
IsCalm (event.Sweep w t) = ⊥
IsCalm e = ⊤

gate_calm : (k : Kept) (e : Event) (n : Needs) (w : ℕ) → ArePlain (body k e Waits).effects
    → ((c u : ℕ) → ArePlain (body k e (Knows c u)).effects)
    → ((c s : ℕ) → ArePlain (body k e (Holds c s)).effects)
    → ArePlain (body k e (gate_at n k w (k.world.lines w) (k.world.lines w).stage)).effects
gate_calm k e n w waits knows holds =
    gate_leads (λ v. ArePlain v.effects) k e n w (k.world.lines w) (k.world.lines w).stage
    (λ x. tt)
    (λ c. left_plain k (k.world.lines w).stage (At w (Close c (Flood most_answers))) tt)
    (λ c is. waits) (λ c u is. knows c u) (λ c s is. holds c s)

verdict_calm : (k : Kept) (e : Event) → IsCalm e → ArePlain (verdict k e).effects
verdict_calm k (event.OpenLine w) calm = left_plain k (k.world.lines w).stage (Open w) tt
verdict_calm k (event.DropLine w t) calm =
    leaves_plain (k.world.lines w).stage w (left k (k.world.lines w).stage) (left_plain k (k.world.lines w).stage (At w Leave) tt)
verdict_calm k (event.CloseLine w t) calm =
    leaves_plain (k.world.lines w).stage w (closed (k.world.lines w).stage) (closed_plain (k.world.lines w).stage (At w Leave) tt)
verdict_calm k (event.Login w user) calm =
    gate_calm k (event.Login w user) to_login w (logs_in_plain _ w) (λ c u. tt) (λ c s. tt)
verdict_calm k (event.Enable w wants dice) calm =
    gate_calm k (event.Enable w wants dice) to_manage w tt
    (λ c u. (tt, tt)) (λ c s. enables_plain (k.world.sessions s).counts w s _)
verdict_calm k (event.Resume w id h t) calm =
    gate_calm k (event.Resume w id h t) to_manage w tt
    (λ c u. resumes_plain id k w c u h) (λ c s. (tt, tt))
verdict_calm k (event.Ack w h) calm =
    gate_calm k (event.Ack w h) to_act w tt (λ c u. tt)
    (λ c s. acks_plain (k.world.sessions s).counts s h (k.world.sessions s).traffic)
verdict_calm k (event.Ask w) calm =
    gate_calm k (event.Ask w) to_ask w tt (λ c u. tt)
    (λ c s. asks_plain (k.world.sessions s).counts w s (k.world.sessions s).traffic)
verdict_calm k (event.Pull w t) calm =
    gate_calm k (event.Pull w t) to_pull w (waits_plain (k.world.lines w).answers k w)
    (λ c u. knows_plain (k.world.lines w).answers k w c u)
    (λ c s. holds_plain (k.world.lines w).answers k w c s)
verdict_calm k (event.Bind w id resource t dice) calm = absurd calm
verdict_calm k (event.Act w stanza t) calm = absurd calm
verdict_calm k (event.Sweep w t) calm = absurd calm

-- what is seen of the rooms after such an event
pub calm_rooms : (k : Kept) (e : Event) (a b : code.World) → IsCalm e → seen b ≡ apply_all brief (seen a) (verdict k e).effects → b.rooms ≡ a.rooms
calm_rooms k e a b calm world =
    ap (λ (x : World KeptTraffic). x.rooms) world ∙ simple_rooms (verdict k e).effects (seen a) (verdict_calm k e calm)

-- and of the archives
pub calm_archives : (k : Kept) (e : Event) (a b : code.World) → IsCalm e → seen b ≡ apply_all brief (seen a) (verdict k e).effects
    → archives_of b.archives ≡ archives_of a.archives
calm_archives k e a b calm world =
    ap (λ (x : World KeptTraffic). x.archives) world ∙ simple_archives (verdict k e).effects (seen a) (verdict_calm k e calm)
