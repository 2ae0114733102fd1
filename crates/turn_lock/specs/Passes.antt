-- What a caller says of a pass and of its lock.
use Rattle.std.specs.Prelude.{◌≡◌, ℕ, List, [], ◌∷◌, Option, Some, None, Bool}
use Rattle.turn_lock.specs.declared.rule.Stage.{Stage}
use Rattle.turn_lock.specs.declared.rule.Stage.TheVariants.{Idle, Waits, Works}
use Rattle.turn_lock.specs.declared.tokens.Pass.{Pass}
use Rattle.turn_lock.specs.declared.lock.Turnstile.{Turnstile}
use Rattle.turn_lock.specs.Views.{pass_view}
use Rattle.turn_lock.specs.Histories.{IsStory, places}

module _ {T E R : Type 0} where
  abbrev pub number_of : Pass T E R → ℕ
  number_of p = p.number

  -- the history as far as the pass has seen it
  abbrev pub seen : Pass T E R → List E
  seen p = p.seat.me.0.seen

  -- the mark: an `enter` with this pass answered Spent
  abbrev pub refused : Pass T E R → Bool
  refused p = p.seat.me.0.refused

  -- how many turns of the lock were drawn, as far as the pass knows
  abbrev pub drawn : Pass T E R → ℕ
  drawn p = p.seat.me.0.drawn

  -- the places, in what the pass has seen, of all entries of its number
  abbrev pub mine : (E → ℕ) → Pass T E R → List ℕ
  mine line p = places line p.number 0 (seen p)

  -- the lock's root, which no turn changes
  abbrev pub root_of : (T → R) → Turnstile T E R → R
  root_of root lock = root lock.table.shared.key.first.value

  -- what the pass has seen is the story of some value that has the lock's root
  abbrev pub SeesStory : (T → List E) → (T → R) → Turnstile T E R → Pass T E R → Type 0
  SeesStory story root lock p = IsStory story root (root_of root lock) (seen p)

  -- how many passes the lock has
  abbrev pub passes_of : Turnstile T E R → ℕ
  passes_of lock = lock.passes

  -- the pass came from this lock
  abbrev pub CameFrom : Turnstile T E R → Pass T E R → Type 0
  CameFrom lock p = p.seat.table_id ≡ lock.table.shared.table_id

  -- how the pass stands, and which slots it has out
  abbrev pub Stands : (E → ℕ) → R → Stage → List (ℕ × Option T) → Pass T E R → Type 0
  Stands line q stage slots p =
      p.seat.me ≡ (pass_view q stage (refused p) (drawn p) p.number (mine line p) (seen p), slots)

  -- the pass came from this lock and holds no turn
  abbrev pub IsIdle : (E → ℕ) → (T → R) → Turnstile T E R → Pass T E R → Type 0
  IsIdle line root lock p = CameFrom lock p × Stands line (root_of root lock) Idle [] p

  -- the pass came from this lock and holds its turn, whose value is out with the caller
  abbrev pub HasTurn : (E → ℕ) → (T → R) → Turnstile T E R → Pass T E R → Type 0
  HasTurn line root lock p = CameFrom lock p × ((t : ℕ) × Stands line (root_of root lock) (Works t) ((0, None) ∷ []) p)

  -- inside `enter`: it waits with the ticket t
  abbrev pub IsWaiting : (E → ℕ) → (T → R) → Turnstile T E R → ℕ → Pass T E R → Type 0
  IsWaiting line root lock t p = CameFrom lock p × Stands line (root_of root lock) (Waits t) [] p

  -- inside `enter`: its ticket is served, and the slot with the value x is out to it
  abbrev pub IsHolding : (E → ℕ) → (T → R) → Turnstile T E R → ℕ → T → Pass T E R → Type 0
  IsHolding line root lock t x p = CameFrom lock p × Stands line (root_of root lock) (Works t) ((0, Some x) ∷ []) p
