-- The one history, and the rule that holds between any two steps.
use Rattle.std.specs.Prelude.{◌≡◌, ◌⊎◌, ℕ, zero, suc, ◌+◌, ◌^◌, ◌<◌, ◌≤◌, ◌==◌, ⊤}
use Rattle.std.specs.Prelude.{List, [], ◌∷◌, ◌++◌, length, slice_index, Option, Some, Bool, true, false}
use mathlib.Core.Option.{some}
use lib.ListN.{get_elem?}
use Rattle.atomic_table.specs.Table.{State}
use Rattle.turn_lock.specs.declared.rule.View.{View}
use Rattle.turn_lock.specs.Views.{ticket_of, has_value, tickets, leaves, total, times, spent}

abbrev pub Each : {X : Type 0} → (X → Type 0) → List X → Type 0
Each P [] = ⊤
Each P (x ∷ xs) = P x × Each P xs

-- the numbers from i on, k of them
abbrev pub counted : ℕ → ℕ → List ℕ
counted i zero = []
counted i (suc k) = i ∷ counted (suc i) k

abbrev pub if_so : Bool → ℕ → List ℕ → List ℕ
if_so true k ks = k ∷ ks
if_so false k ks = ks

module _ {E : Type 0} where
  -- `seen` is a beginning of the history
  abbrev pub StartsWith : List E → List E → Type 0
  StartsWith log seen = (more : List E) × (log ≡ seen ++ more)

  -- the places of the entries of the line n, counted from k
  abbrev pub places : (E → ℕ) → ℕ → ℕ → List E → List ℕ
  places line n k [] = []
  places line n k (e ∷ es) = if_so (line e == n) k (places line n (suc k) es)

  -- `new` is `old` and one entry of the line n
  abbrev pub AddsOne : (E → ℕ) → ℕ → List E → List E → Type 0
  AddsOne line n old new = (e : E) × (new ≡ old ++ e ∷ []) × (line e ≡ n)

-- the list is the story of some value that has this root
abbrev pub IsStory : {T E R : Type 0} → (T → List E) → (T → R) → R → List E → Type 0
IsStory {T} story root r l = (x : T) × (story x ≡ l) × (root x ≡ r)

module _ {T E R : Type 0} (story : T → List E) (line : E → ℕ) (root : T → R) where
  -- What is so of the view of each seat. `drawer` is the seat that drew a ticket, so no two seats have one ticket.
  pub record Knows (r : R) (log : List E) (drawer : ℕ → ℕ) (next seat : ℕ) (v : View E R) : Type 0 where
    -- it names the lock's root, unless another view took it in
    pub rooted : (v.root ≡ Some r) ⊎ (v ≡ spent)
    -- what it has seen is a beginning of the history
    pub seen : StartsWith log v.seen
    pub met : Each (StartsWith log) v.met
    -- its ticket was drawn, by it, and is not served yet
    pub ticket : (t : ℕ) → ticket_of v.stage ≡ Some t → (length log ≤ t) × (t < next) × (drawer t ≡ seat)
    -- the value is out to it only in the turn being served, and then it has seen the whole history
    pub turn : has_value v.stage ≡ true → (ticket_of v.stage ≡ Some (length log)) × (v.seen ≡ log)
    -- with the mark, 2^63 turns were drawn
    pub refused : v.refused ≡ true → 2 ^ 63 ≤ next
    pub drawn : v.drawn ≤ next
    -- the places under each of its numbers are all that the history has for it
    pub claims : Each (λ c. places line c.number 0 log ≡ c.places) v.claims
    -- only with a number has it a ticket, or leave to draw one
    pub able : tickets v.stage + leaves v.stage ≤ length v.claims

  -- the value is at home and stands for the history, and no pass works
  abbrev pub IsHome : R → List E → State (Option T) (View E R) → Type 0
  IsHome r log s =
      (x : T) × (get_elem? s.homes 0 ≡ some (some (Some x))) × (story x ≡ log) × (root x ≡ r)
      × ((j : ℕ) (v : View E R) → get_elem? s.views j ≡ some v → has_value v.stage ≡ false)

  -- the value is out
  abbrev pub IsOut : State (Option T) (View E R) → Type 0
  IsOut s = (j : ℕ) × (v : View E R) × (get_elem? s.views j ≡ some v) × (has_value v.stage ≡ true)

  -- The rule, of a lock with this root and so many passes: there is one history.
  pub record Kept (r : R) (passes : ℕ) (s : State (Option T) (View E R)) : Type 0 where
    pub log : List E
    pub drawer : ℕ → ℕ
    pub words : length s.words ≡ 2
    pub slots : length s.homes ≡ 1
    pub few : passes < 2 ^ 32
    -- the turn being served is the history's length
    pub served : slice_index s.words 1 ≡ length log
    -- the next ticket is that and the tickets that are out
    pub next : slice_index s.words 0 ≡ length log + total (λ v. tickets v.stage) s.views
    -- past 2^63 only those draw that had leave before
    pub low : 2 ^ 63 ≤ slice_index s.words 0
        → slice_index s.words 0 + total (λ v. leaves v.stage) s.views ≤ 2 ^ 63 + passes
    -- there are as many numbers as passes, and each is in one view
    pub spread : total (λ v. length v.claims) s.views ≡ passes
    pub once : (n : ℕ) → (n < passes → total (λ v. times n v.claims) s.views ≡ 1)
        × (passes ≤ n → total (λ v. times n v.claims) s.views ≡ 0)
    -- each beginning of the history is the story of some value of this root, also while the value is out
    pub told : (l : List E) → StartsWith log l → IsStory story root r l
    -- each entry names a pass's number
    pub lines : Each (λ e. line e < passes) log
    pub each : (j : ℕ) (v : View E R) → get_elem? s.views j ≡ some v → Knows r log drawer (slice_index s.words 0) j v
    pub value : IsHome r log s ⊎ IsOut s

-- What the view that took in all others tells of the whole history.
pub record Sound {E R : Type 0} (line : E → ℕ) (log : List E) (v : View E R) : Type 0 where
  pub seen : StartsWith log v.seen
  pub met : Each (StartsWith log) v.met
  pub claims : Each (λ c. places line c.number 0 log ≡ c.places) v.claims
  pub refused : v.refused ≡ true → 2 ^ 63 ≤ length log
  pub drawn : v.drawn ≤ length log
