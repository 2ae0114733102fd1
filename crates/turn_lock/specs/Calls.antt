-- What the calls say of their passes, each in the words of its contract, and the words of the laws that join them.
use Rattle.std.specs.Prelude.{◌≡◌, ◌⊎◌, ◌↔◌, ℕ, ◌==◌, List, [], ◌∷◌, ◌++◌, length, map, filter, slice_get}
use Rattle.std.specs.Prelude.{Option, Some, false, All, Contains}
use Rattle.turn_lock.specs.declared.tokens.Pass.{Pass}
use Rattle.turn_lock.specs.Histories.{StartsWith, AddsOne, places}
use Rattle.turn_lock.specs.Passes.{number_of, seen, mine, refused}

module _ {E : Type 0} where
  -- the entries of the line n, in their order
  abbrev pub entries_of : (E → ℕ) → ℕ → List E → List E
  entries_of line n log = filter (λ e. line e == n) log

  -- what stands at these places
  abbrev pub entries_at : List E → List ℕ → List (Option E)
  entries_at log ks = map (slice_get log) ks

  -- at the place i stands an entry of the line n
  abbrev pub StandsAt : (E → ℕ) → ℕ → List E → ℕ → Type 0
  StandsAt line n log i = (e : E) × (slice_get log i ≡ Some e) × (line e ≡ n)

module _ {T E R : Type 0} (line : E → ℕ) where
  -- the pass's own places are those at which this list has an entry of its number
  abbrev pub HasPlacesIn : List E → Pass T E R → Type 0
  HasPlacesIn log p = (i : ℕ) → Contains (mine line p) i ↔ StandsAt line (number_of p) log i

  -- what this list has at the pass's own places is all its entries of the number, in their order
  abbrev pub HasEntriesIn : List E → Pass T E R → Type 0
  HasEntriesIn log p = entries_at log (mine line p) ≡ map Some (entries_of line (number_of p) log)

  -- `enter`, where it gives a turn, whose value stands for this list
  pub record Enters (old new : Pass T E R) (log : List E) : Type 0 where
    pub story : log ≡ seen new
    pub number : number_of new ≡ number_of old
    pub history : StartsWith (seen new) (seen old)
    pub mine : mine line new ≡ mine line old
    pub unmarked : (refused old ≡ false) × (refused new ≡ false)

  -- `leave`, with a value that stands for this list
  pub record Leaves (old new : Pass T E R) (log : List E) : Type 0 where
    pub one : AddsOne line (number_of old) (seen old) log
    pub number : number_of new ≡ number_of old
    pub history : seen new ≡ log
    pub mine : mine line new ≡ mine line old ++ length (seen old) ∷ []
    pub refused : refused new ≡ refused old

  -- One turn, from `enter` to `leave`, of a value that stands for `before` and then for `after`: it begins with what
  -- the pass had seen, and gets one entry of the pass.
  pub record OneTurn (old new : Pass T E R) (before after : List E) : Type 0 where
    pub sight : StartsWith before (seen old)
    pub one : AddsOne line (number_of old) before after
    pub number : number_of new ≡ number_of old
    pub history : seen new ≡ after
    pub mine : mine line new ≡ mine line old ++ length before ∷ []
    pub unmarked : (refused old ≡ false) × (refused new ≡ false)

  -- `close` with these passes, where the value that it gives stands for this list
  pub record Closes (passes : List (Pass T E R)) (log : List E) : Type 0 where
    pub history : All (λ p. StartsWith log (seen p)) passes
    pub lines : All (λ e. Contains (map number_of passes) (line e)) log
    pub mine : All (λ p. mine line p ≡ places line (number_of p) 0 log) passes

module _ {T E R : Type 0} where
  -- of what two passes have seen, one is a beginning of the other
  abbrev pub SeeOneHistory : Pass T E R → Pass T E R → Type 0
  SeeOneHistory p q = StartsWith (seen p) (seen q) ⊎ StartsWith (seen q) (seen p)
