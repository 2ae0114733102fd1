-- What the four kinds of step on a word do to the pass that makes one: m before, m' after, n the number found, st the
-- step. Take and put, an exchange each on the slot that is out to the pass, leave its view as it is. Splits and the join
-- are in Views.
use Rattle.std.specs.Prelude.{◌≡◌, ◌≢◌, ℕ, ◌+◌, ◌^◌, ◌<◌, ◌≤◌, List, [], ◌∷◌, ◌++◌, length, Option, Some, true, false}
use Rattle.atomic_table.specs.Table.{Me, Step}
use Rattle.turn_lock.specs.declared.rule.Claim.{Claim}
use Rattle.turn_lock.specs.declared.rule.Stage.TheVariants.{Idle, MayDraw, Waits, Works}
use Rattle.turn_lock.specs.declared.rule.View.{View}
use Rattle.turn_lock.specs.Views.{claim}
use Rattle.turn_lock.specs.Histories.{Each, StartsWith, IsStory, places}

module _ {T E R : Type 0} where
  -- peek: leave to draw exactly where fewer than 2^63 turns were drawn, else the mark; what was seen is a story
  abbrev pub peeked : (T → List E) → (T → R)
      → Step (Option T) → Me (Option T) (View E R) → ℕ → Me (Option T) (View E R) → Type 0
  peeked story root st m n m' =
      (n < 2 ^ 63 → (m' ≡ (record m.0 { stage = MayDraw; drawn = n }, m.1)) × (m.0.refused ≡ false))
      × (2 ^ 63 ≤ n → m' ≡ (record m.0 { refused = true; drawn = n }, m.1))
      × (m.0.drawn ≤ n)
      × (length m.0.seen ≤ n)
      × ((q : R) → m.0.root ≡ Some q → IsStory story root q m.0.seen)

  -- draw: the leave becomes the ticket
  abbrev pub drew : Step (Option T) → Me (Option T) (View E R) → ℕ → Me (Option T) (View E R) → Type 0
  drew st m n m' = m' ≡ (record m.0 { stage = Waits n }, m.1)

  -- look: the history as it stands is seen, and is a story; where the ticket is served, the value goes out to this pass
  abbrev pub looked : (T → List E) → (E → ℕ) → (T → R)
      → Step (Option T) → Me (Option T) (View E R) → ℕ → Me (Option T) (View E R) → Type 0
  looked story line root st m n m' =
      (log : List E) × StartsWith log m.0.seen × Each (StartsWith log) m.0.met
      × Each (λ c. places line c.number 0 log ≡ c.places) m.0.claims
      × (m.0.stage ≡ Waits n → (x : T)
      × (m' ≡ (record m.0 { stage = Works n; seen = log; met = [] }, (0, Some x) ∷ m.1))
      × (story x ≡ log) × ((q : R) → m.0.root ≡ Some q → root x ≡ q) × (length log < 2 ^ 63 + 2 ^ 32))
      × (m.0.stage ≢ Waits n → m' ≡ (record m.0 { seen = log; met = [] }, m.1))
      × ((q : R) → m.0.root ≡ Some q → IsStory story root q log)

  -- pass on: the ticket is gone, the entry is seen, and its place is one of the pass's own
  abbrev pub passed_on : (T → List E) → (E → ℕ)
      → Step (Option T) → Me (Option T) (View E R) → ℕ → Me (Option T) (View E R) → Type 0
  passed_on story line st m n m' = (x : T) (c : Claim) → m.1 ≡ (0, Some x) ∷ [] → m.0.claims ≡ c ∷ []
      → (m' ≡ (
        record m.0 {
          stage = Idle;
          seen = story x;
          claims = claim c.number (c.places ++ length m.0.seen ∷ []) ∷ [];
        },
        [],
      ))
      × (places line c.number 0 (story x) ≡ c.places ++ length m.0.seen ∷ [])
