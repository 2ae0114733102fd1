-- What a call of the house is, once its effects are done.
use Rattle.std.proofs.Common.{◌≡◌, ℕ, ◌+◌, ◌≤◌, List, [], ◌∷◌, ◌++◌, length, refl, sym, ap, subst, ◌∙◌, arith}
use Rattle.jid_core.specs.Addresses.{Address}
use Rattle.house_model.specs.declared.event.Event.{Event}
use Rattle.house_model.specs.declared.limits.Limits.{Limits}
use Rattle.house_model.specs.States.{World}
use Rattle.house_model.specs.Traffic.{KeptTraffic, brief}
use Rattle.sm_resume.specs.declared.decision.Cause.TheVariants.{Closed, Flood}
use Rattle.session_table.specs.declared.line.Line as stage
use Rattle.session_table.specs.declared.line.Line.TheVariants.{Empty, Fresh, Logged, Bound, Over}
use Rattle.archive_table.specs.Tables.{archives_of}
use Rattle.house_model.specs.Effects.{Effect, At, Close, On, apply, apply_all}
use Rattle.house_model.specs.Gate.{closed, left_by}
use Rattle.house_model.specs.Sessions.{End}
use Rattle.house_model.specs.Steps.{last_moment, later, moment_of, turn, verdict}
use Rattle.house_model.specs.Histories.{kept_step}
use Rattle.roster_laws.specs.Keeping.{AreKept}
use Rattle.house_model.proofs.BookKept.{event_keeps}
use Rattle.house_world.specs.declared.world.World as code
use Rattle.house_core.specs.Houses.{HouseRecord, held}
use Rattle.house_core.specs.Wholes.{IsWhole}
use Rattle.house_world.specs.Hosting.{Archived, Hosts}
use Rattle.house_world.specs.Worlds.{Did, Ends, left_at, seen}
use Rattle.house_model.specs.declared.reply.Reply.{Reply}
use Rattle.house_world.proofs.CastLemmas.{hosts_same}
use Rattle.house_world.proofs.QuietLemmas.{archived_same}
use Rattle.house_world.proofs.WorldLemmas.{few_later}
use Rattle.house_core.proofs.CalmLemmas.{IsCalm, calm_archives, calm_rooms}

abbrev pub house : Address → List (List ℕ) → Limits → (turns moment : ℕ) → code.World → HouseRecord
house domain users limits turns moment a =
    record {
      domain = domain;
      users = users;
      limits = limits;
      turns = turns;
      moment = moment;
      table = a.table;
      answers = a.answers.items;
      book = a.book;
      rooms = a.rooms;
      archives = a.archives;
    }

-- the step of an event whose effects are these
pub state_is : (domain : Address) (users : List (List ℕ)) (limits : Limits) (turns moment moment' : ℕ) (a b : code.World) (e : Event) (es : List Effect)
    (more : ℕ) → (verdict (turn e (held (house domain users limits turns moment a))) e).effects ≡ es
    → moment' ≡ moment_of e moment → Did es more a b
    → held (house domain users limits (turns + 1) moment' b) ≡ (kept_step (held (house domain users limits turns moment a)) e).state
state_is domain users limits turns moment moment' a b e es more effects now did = λ i. record {
  head = record { domain = domain; users = users; workers = did.lines i; limits = limits; turns = turns + 1; moment = now i };
  world = (did.world ∙ ap (apply_all brief (seen a)) (sym effects)) i;
}

whole_by : {domain : List ℕ} (users : List (List ℕ)) (turns moment moment' : ℕ) (a b : code.World) (es : List Effect) (more : ℕ)
    → IsWhole domain users turns moment a.table a.answers.items a.book a.rooms a.archives → moment' ≤ last_moment → more ≤ 1 → Did es more a b
    → AreKept domain b.book.book → Hosts a.rooms b.rooms → Archived (archives_of a.archives) (archives_of b.archives)
    → IsWhole domain users (turns + 1) moment' b.table b.answers.items b.book b.rooms b.archives
whole_by users turns moment moment' a b es more whole passed few did rosters hosts archives = record {
  prepared = whole.prepared;
  differ = whole.differ;
  few = whole.few;
  passed = passed;
  answered = did.answered ∙ (whole.answered ∙ sym did.lines);
  known = did.known (length users) whole.known;
  tied = did.tied;
  counted = few_later (turns + more) (turns + 1) b.table (did.few turns whole.counted) (omega (arith, few));
  served = did.kept.domain ∙ whole.served;
  names = did.kept.names whole.names;
  rosters = rosters;
  hosted = hosts turns whole.hosted;
  archived = archives turns whole.archived;
}

-- effects that leave what is kept of users, the rooms, and the archives, as they are
abbrev pub AreCalm : List Effect → Type 0
AreCalm es = (world : World KeptTraffic) → ((apply_all brief world es).book ≡ world.book) × ((apply_all brief world es).rooms ≡ world.rooms)
    × ((apply_all brief world es).archives ≡ world.archives)

pub whole_is : {domain : List ℕ} (users : List (List ℕ)) (turns moment moment' : ℕ) (a b : code.World) (es : List Effect) (more : ℕ)
    → IsWhole domain users turns moment a.table a.answers.items a.book a.rooms a.archives → moment' ≤ last_moment → more ≤ 1 → AreCalm es → Did es more a b
    → IsWhole domain users (turns + 1) moment' b.table b.answers.items b.book b.rooms b.archives
whole_is {domain} users turns moment moment' a b es more whole passed few quiet did =
    whole_by users turns moment moment' a b es more whole passed few did
    (subst (AreKept domain) (sym (ap (λ (x : World KeptTraffic). x.book) did.world ∙ (quiet (seen a)).0)) whole.rosters)
    (hosts_same a.rooms b.rooms (ap (λ (x : World KeptTraffic). x.rooms) did.world ∙ (quiet (seen a)).1))
    (archived_same (archives_of a.archives) (archives_of b.archives) (ap (λ (x : World KeptTraffic). x.archives) did.world ∙ (quiet (seen a)).2))

pub left_then : (world : World KeptTraffic) (moment : ℕ) (g : stage.Line) (e : Effect) → AreCalm (e ∷ []) → AreCalm (left_at world moment g ++ e ∷ [])
left_then world moment Empty e is = is
left_then world moment (Fresh c) e is = is
left_then world moment (Logged c u) e is = is
left_then world moment (Bound c s) e is = λ x. is (apply brief x (On s (left_by (world.sessions s).rest.resume_id moment)))
left_then world moment (Over c cause) e is = is

pub closed_then : (g : stage.Line) (e : Effect) → AreCalm (e ∷ []) → AreCalm (closed g ++ e ∷ [])
closed_then Empty e is = is
closed_then (Fresh c) e is = is
closed_then (Logged c u) e is = is
closed_then (Bound c s) e is = λ x. is (apply brief x (On s (End Closed)))
closed_then (Over c cause) e is = is

-- a connection for which too many answers waited
pub flood_rooms : (a b : code.World) (w c moment : ℕ) (g : stage.Line)
    → Did (left_at (seen a) moment g ++ At w (Close c (Flood 8)) ∷ []) 0 a b → b.rooms ≡ a.rooms
flood_rooms a b w c moment g did =
    ap (λ (x : World KeptTraffic). x.rooms) did.world
    ∙ (left_then (seen a) moment g (At w (Close c (Flood 8))) (λ world. (refl, refl, refl)) (seen a)).1

pub flood_archives : (a b : code.World) (w c moment : ℕ) (g : stage.Line)
    → Did (left_at (seen a) moment g ++ At w (Close c (Flood 8)) ∷ []) 0 a b → archives_of b.archives ≡ archives_of a.archives
flood_archives a b w c moment g did =
    ap (λ (x : World KeptTraffic). x.archives) did.world
    ∙ (left_then (seen a) moment g (At w (Close c (Flood 8))) (λ world. (refl, refl, refl)) (seen a)).2

pub later_passed : (now t next : ℕ) → now ≤ last_moment → next ≡ later now t → next ≤ last_moment
later_passed now t next low is = omega (arith, low, is)

-- the same for a verdict that was carried out
pub state_ends : (domain : Address) (users : List (List ℕ)) (limits : Limits) (turns moment moment' more : ℕ) (a b : code.World) (e : Event) (r : Reply)
    → moment' ≡ moment_of e moment → Ends (verdict (turn e (held (house domain users limits turns moment a))) e) more r a b
    → held (house domain users limits (turns + 1) moment' b) ≡ (kept_step (held (house domain users limits turns moment a)) e).state
state_ends domain users limits turns moment moment' more a b e r now ends =
    state_is domain users limits turns moment moment' a b e (verdict (turn e (held (house domain users limits turns moment a))) e).effects more refl now
    ends.did

pub whole_ends : (domain : Address) (users : List (List ℕ)) (limits : Limits) (turns moment moment' more : ℕ) (a b : code.World) (e : Event) (r : Reply)
    → IsWhole domain.domain users turns moment a.table a.answers.items a.book a.rooms a.archives → moment' ≤ last_moment → more ≤ 1
    → Ends (verdict (turn e (held (house domain users limits turns moment a))) e) more r a b → Hosts a.rooms b.rooms
    → Archived (archives_of a.archives) (archives_of b.archives)
    → IsWhole domain.domain users (turns + 1) moment' b.table b.answers.items b.book b.rooms b.archives
whole_ends domain users limits turns moment moment' more a b e r whole passed few ends hosts archives =
    let k = turn e (held (house domain users limits turns moment a)) in
    whole_by users turns moment moment' a b (verdict k e).effects more whole passed few ends.did
    (subst (AreKept domain.domain) (sym (ap (λ (x : World KeptTraffic). x.book) ends.did.world)) (event_keeps k e whole.rosters)) hosts archives

pub whole_calm : (domain : Address) (users : List (List ℕ)) (limits : Limits) (turns moment moment' more : ℕ) (a b : code.World) (e : Event) (r : Reply)
    → IsWhole domain.domain users turns moment a.table a.answers.items a.book a.rooms a.archives → moment' ≤ last_moment → more ≤ 1
    → Ends (verdict (turn e (held (house domain users limits turns moment a))) e) more r a b → IsCalm e
    → IsWhole domain.domain users (turns + 1) moment' b.table b.answers.items b.book b.rooms b.archives
whole_calm domain users limits turns moment moment' more a b e r whole passed few ends calm =
    whole_ends domain users limits turns moment moment' more a b e r whole passed few ends
    (hosts_same a.rooms b.rooms (calm_rooms (turn e (held (house domain users limits turns moment a))) e a b calm ends.did.world))
    (archived_same (archives_of a.archives) (archives_of b.archives)
    (calm_archives (turn e (held (house domain users limits turns moment a))) e a b calm ends.did.world))
