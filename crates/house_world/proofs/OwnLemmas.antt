-- What the owner of a session was lent, and what becomes of the world once it comes back.
use Rattle.std.proofs.Common.{◌≡◌, ℕ, ◌+◌, ◌<◌, ◌≤◌, List, length, Some, sym, subst}
use Rattle.sm_queue.specs.Queues.{acknowledged}
use Rattle.session_table.specs.Sessions.{OwnRecord, with_own}
use Rattle.session_table.specs.Tables.{TableRecord, changed, with_session}
use Rattle.session_table.proofs.ListLemmas.{Owned}
use Rattle.house_model.specs.Effects.{Effect}
use Rattle.house_world.specs.declared.world.World as code
use Rattle.house_world.specs.Wholes.{HasSpare, IsFew, IsHeldBy, IsTied}
use Rattle.house_world.specs.Worlds.{Did, Handles, HasNext, Stays}

-- what is true of it
module _ (s : ℕ) (t : TableRecord) (own : OwnRecord) (at : Owned s t own) where
  pub own_given : IsTied t → own.queue.given ≤ length own.queue.waiting
  own_given tied = subst (λ (o : OwnRecord). o.queue.given ≤ length o.queue.waiting) (sym at.lent) (tied.each s at.whole at.there).given

  pub own_next : HasNext s t → own.queue.given < length own.queue.waiting
  own_next next = subst (λ (o : OwnRecord). o.queue.given < length o.queue.waiting) (sym at.lent) (next at.whole at.there)

  pub own_sent : (turns : ℕ) → IsFew turns t → own.given_up + own.queue.given ≤ turns
  own_sent turns few = subst (λ (o : OwnRecord). o.given_up + o.queue.given ≤ turns) (sym at.lent) (few.sent s at.whole at.there)

  pub own_acted : (turns : ℕ) → IsFew turns t → own.acted ≤ turns
  own_acted turns few = subst (λ (o : OwnRecord). o.acted ≤ turns) (sym at.lent) (few.acted s at.whole at.there)

  pub own_handled : (h n : ℕ) → Handles h n s t → (acknowledged h own.queue ≡ Some n) × (n ≤ own.queue.given)
  own_handled h n handled =
      subst (λ (o : OwnRecord). (acknowledged h o.queue ≡ Some n) × (n ≤ o.queue.given)) (sym at.lent) (handled at.whole at.there)

-- what becomes of the world
module _ (a : code.World) (s : ℕ) (own w : OwnRecord) (at : Owned s a.table own) where
  pub own_did : (effects : List Effect) (more : ℕ)
      → Did effects more a (record a { table = with_session s a.table (with_own w at.whole) })
      → Did effects more a (record a { table = changed s (with_own w) a.table })
  own_did effects more did = subst (λ (t : TableRecord). Did effects more a (record a { table = t })) (at.ends w) did

  pub own_stays : Stays a (record a { table = with_session s a.table (with_own w at.whole) })
      → Stays a (record a { table = changed s (with_own w) a.table })
  own_stays stays = subst (λ (t : TableRecord). Stays a (record a { table = t })) (at.ends w) stays

  pub own_spare : (n r : ℕ) → HasSpare n r (with_session s a.table (with_own w at.whole))
      → HasSpare n r (changed s (with_own w) a.table)
  own_spare n r has = subst (HasSpare n r) (at.ends w) has

  pub own_held : (v r : ℕ) → IsHeldBy v r (with_session s a.table (with_own w at.whole))
      → IsHeldBy v r (changed s (with_own w) a.table)
  own_held v r held = subst (IsHeldBy v r) (at.ends w) held
