-- A sweep, as its event's verdict.
use Rattle.std.proofs.Common.{◌≡◌, ℕ, Option, Some, None, true, false, refl, sym, ap, subst, ◌∙◌}
use Rattle.sm_resume.specs.declared.decision.Cause.TheVariants.{Lost}
use Rattle.session_table.specs.Sessions as table
use Rattle.session_table.specs.Tables.{IsFirst, Rises, first_due}
use Rattle.house_model.specs.declared.event.Event.TheVariants.{Sweep}
use Rattle.house_model.specs.declared.reply.Reply.TheVariants.{Nothing, Swept}
use Rattle.house_model.specs.States.{World, Kept}
use Rattle.house_model.specs.Steps.{departs, sweeps, verdict}
use Rattle.house_model.specs.Traffic.{KeptTraffic}
use Rattle.house_world.specs.declared.world.World as code
use Rattle.house_world.specs.Wholes.{IsTied}
use Rattle.house_world.specs.Worlds.{Did, Ends, seen}
use Rattle.house_world.proofs.DidLemmas.{did_none}
use Rattle.house_world.proofs.DueLemmas.{due_is, due_is_none}

pub swept_ends : (k : Kept) (w t s : ℕ) (a b : code.World) → Rises 0 a.table.sessions a.table.made → k.world ≡ seen a
    → first_due k.head.moment a.table.sessions ≡ Some s → Did (departs (seen a) s Lost) 0 a b
    → Ends (verdict k (Sweep w t)) 0 (Swept s) a b
swept_ends k w t s a b rises world first did =
    let due = due_is k a.table rises (ap (λ (x : World KeptTraffic). x.made) world) (ap (λ (x : World KeptTraffic). x.sessions) world) in
    subst (λ (o : Option ℕ). Ends (sweeps k.world o) 0 (Swept s) a b) (sym first ∙ due)
    (record { answer = refl; did = subst (λ (x : World KeptTraffic). Did (departs x s Lost) 0 a b) (sym world) did })

pub nothing_ends : (k : Kept) (w t : ℕ) (answer : Option ℕ) (a : code.World) → IsTied a.table → k.world ≡ seen a → answer ≡ None
    → IsFirst (λ x. table.is_due k.head.moment x ≡ true) a.table answer
    → Ends (verdict k (Sweep w t)) 0 (Nothing false) a a
nothing_ends k w t answer a tied world none first =
    let due = due_is_none k a.table (ap (λ (x : World KeptTraffic). x.sessions) world)
    (subst (λ (o : Option ℕ). IsFirst (λ x. table.is_due k.head.moment x ≡ true) a.table o) none first) in
    subst (λ (o : Option ℕ). Ends (sweeps k.world o) 0 (Nothing false) a a) (sym due) (record { answer = refl; did = did_none a tied })
