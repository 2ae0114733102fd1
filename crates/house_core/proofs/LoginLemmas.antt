-- A login, carried out.
use Rattle.std.proofs.Common.{◌≡◌, ℕ, ◌+◌, ◌<◌, List, [], length, Option, Some, refl, sym, ap, subst, ◌∙◌, arith}
use Rattle.std.specs.Prelude.{bytes_eq}
use Rattle.std.proofs.lemmas.List.Quantifiers.{position-Some}
use Rattle.jid_core.specs.Addresses.{Address}
use Rattle.archive_table.specs.Tables.{archives_of}
use Rattle.house_model.specs.declared.event.Event.{Event}
use Rattle.house_model.specs.declared.event.Event.TheVariants.{Login}
use Rattle.house_model.specs.declared.reply.Reply.{Reply}
use Rattle.house_model.specs.declared.reply.Reply.TheVariants as reply
use Rattle.house_model.specs.declared.limits.Limits.{Limits}
use Rattle.house_model.specs.Effects.{At, Log, apply}
use Rattle.house_model.specs.Gate as model
use Rattle.house_model.specs.Gate.{Verdict, only}
use Rattle.house_model.specs.Histories.{kept_step}
use Rattle.house_model.specs.States.{Kept, World}
use Rattle.house_model.specs.Lookups.{user_place}
use Rattle.house_model.specs.Steps.{body, logs_in, moment_of, turn, verdict}
use Rattle.house_model.specs.Traffic.{KeptTraffic, brief}
use Rattle.house_model.proofs.BookKept.{event_keeps}
use Rattle.roster_laws.specs.Keeping.{AreKept}
use Rattle.house_world.specs.Keeping.{Keeps}
use Rattle.house_core.specs.declared.gate.Pass.TheVariants.{Stop}
use Rattle.house_world.specs.declared.world.World as code
use Rattle.house_core.specs.Gates.{Passes}
use Rattle.house_core.specs.Houses.{held}
use Rattle.house_core.specs.Logins.{Enters}
use Rattle.house_world.specs.Wholes.{AreUsers, IsFew, IsTied}
use Rattle.house_core.specs.Wholes.{IsWhole}
use Rattle.house_world.specs.Worlds.{Did, seen}
use Rattle.house_core.proofs.CalmLemmas.{IsCalm, calm_archives, calm_rooms}
use Rattle.house_core.proofs.CallLemmas.{house}
use Rattle.house_world.proofs.CastLemmas.{hosts_same}
use Rattle.house_world.proofs.QuietLemmas.{archived_same}
use Rattle.house_world.proofs.WorldLemmas.{few_later}
use Rattle.house_world.proofs.BookLemmas.{book_same}

-- effects that keep whatever users there are
ends_enter : (v : Verdict) (many : ℕ) (r : Reply) (a b : code.World) → r ≡ v.reply → Did v.effects 0 a b → Enters v many r a b
ends_enter v many r a b answer did = record {
  answer = answer;
  world = did.world;
  tied = did.tied;
  known = did.known many;
  few = λ turns few. few_later (turns + 0) turns b.table (did.few turns few) (omega arith);
  lines = did.lines;
  answered = did.answered;
  kept = did.kept;
}

pub nobody_enters : (v : Verdict) (many : ℕ) (a : code.World) → IsTied a.table → v ≡ only reply.NoUser → Enters v many reply.NoUser a a
nobody_enters v many a tied is = subst (λ (u : Verdict). Enters u many reply.NoUser a a) (sym is) (record {
  answer = refl;
  world = refl;
  tied = tied;
  known = λ users. users;
  few = λ turns few. few;
  lines = refl;
  answered = refl;
  kept = book_same;
})

pub log_enters : (w place : ℕ) (user : List ℕ) (users : List (List ℕ)) (a b : code.World) → Some place ≡ user_place user users
    → seen b ≡ apply brief (seen a) (At w (Log place)) → IsTied b.table
    → ((many : ℕ) → AreUsers many a.table → place < many → AreUsers many b.table)
    → ((turns : ℕ) → IsFew turns a.table → IsFew turns b.table)
    → length b.table.lines ≡ length a.table.lines → length b.answers.items ≡ length a.answers.items → Keeps a.book b.book
    → Enters (logs_in w (user_place user users)) (length users) reply.Done a b
log_enters w place user users a b is world tied known few lines answered kept =
    subst (λ (o : Option ℕ). Enters (logs_in w o) (length users) reply.Done a b) is (record {
      answer = refl;
      world = world;
      tied = tied;
      known = λ old. known (length users) old (position-Some (λ u. bytes_eq u user) users place [] (sym is)).0;
      few = few;
      lines = lines;
      answered = answered;
      kept = kept;
    })

pub stop_enters : (k : Kept) (e : Event) (p : model.Pass) (many : ℕ) (r : Reply) (a b : code.World) → Passes (Stop r) p a b
    → Enters (body k e p) many r a b
stop_enters k e p many r a b passes =
    subst (λ (q : model.Pass). Enters (body k e q) many r a b) (sym passes.1.0)
    (ends_enter passes.0 many r a b passes.1.1.0 passes.1.1.1.1)

pub waits_enters : (k : Kept) (w : ℕ) (users : List (List ℕ)) (user : List ℕ) (p : model.Pass) (r : Reply) (a b d : code.World)
    → k.head.users ≡ users → p ≡ model.Waits → b ≡ a → Enters (logs_in w (user_place user users)) (length users) r b d
    → Enters (body k (Login w user) p) (length users) r a d
waits_enters k w users user p r a b d same pass moved enters =
    subst (λ (q : model.Pass). Enters (body k (Login w user) q) (length users) r a d) (sym pass)
    (subst (λ (us : List (List ℕ)). Enters (logs_in w (user_place user us)) (length users) r a d) (sym same)
    (subst (λ (z : code.World). Enters (logs_in w (user_place user users)) (length users) r z d) moved enters))

-- the house after it
pub whole_enters : (domain : Address) (users : List (List ℕ)) (limits : Limits) (turns moment : ℕ) (a b : code.World) (e : Event) (r : Reply)
    → IsWhole domain.domain users turns moment a.table a.answers.items a.book a.rooms a.archives
    → Enters (verdict (turn e (held (house domain users limits turns moment a))) e) (length users) r a b → IsCalm e
    → IsWhole domain.domain users (turns + 1) moment b.table b.answers.items b.book b.rooms b.archives
whole_enters domain users limits turns moment a b e r whole enters calm = record {
  prepared = whole.prepared;
  differ = whole.differ;
  few = whole.few;
  passed = whole.passed;
  answered = enters.answered ∙ (whole.answered ∙ sym enters.lines);
  known = enters.known whole.known;
  tied = enters.tied;
  counted = few_later turns (turns + 1) b.table (enters.few turns whole.counted) (omega arith);
  served = enters.kept.domain ∙ whole.served;
  names = enters.kept.names whole.names;
  rosters =
      subst (AreKept domain.domain) (sym (ap (λ (x : World KeptTraffic). x.book) enters.world))
      (event_keeps (turn e (held (house domain users limits turns moment a))) e whole.rosters);
  hosted =
      hosts_same a.rooms b.rooms (calm_rooms (turn e (held (house domain users limits turns moment a))) e a b calm enters.world)
      turns whole.hosted;
  archived =
      archived_same (archives_of a.archives) (archives_of b.archives)
      (calm_archives (turn e (held (house domain users limits turns moment a))) e a b calm enters.world) turns whole.archived;
}

pub state_enters : (domain : Address) (users : List (List ℕ)) (limits : Limits) (turns moment many : ℕ) (a b : code.World) (e : Event) (r : Reply)
    → moment ≡ moment_of e moment → Enters (verdict (turn e (held (house domain users limits turns moment a))) e) many r a b
    → held (house domain users limits (turns + 1) moment b) ≡ (kept_step (held (house domain users limits turns moment a)) e).state
state_enters domain users limits turns moment many a b e r now enters = λ i. record {
  head = record { domain = domain; users = users; workers = enters.lines i; limits = limits; turns = turns + 1; moment = now i };
  world = enters.world i;
}
