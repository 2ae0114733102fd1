-- All items of given bytes, in their order.
use Rattle.std.specs.Prelude.{◌≡◌, ℕ, ◌-◌, ◌⊎◌, List, [], ◌∷◌, ◌++◌, take, Bool, true, false, if◌then◌else◌}
use Rattle.stream_grammar.specs.declared.FrameFault.{FrameFault}
use Rattle.stream_grammar.specs.declared.item.Item.{Item}
use Rattle.stream_grammar.specs.declared.item.Item.TheVariants as item
use Rattle.stream_grammar.specs.declared.item.Limits.{Limits}
use Rattle.stream_grammar.specs.declared.rules.Rules.{Rules}
use Rattle.stream_grammar.specs.grammar.Bounds.{rules_of, told_number}
use Rattle.stream_grammar.specs.grammar.Parts.{IsItem, AreFaultless, IsFault}

-- After the bytes xs these items end with bytes of ys, in the order of the bytes, and no others: at each byte the item of the grammar
-- that ends with it, or none where none does.
abbrev pub AreEnding : Rules → List ℕ → List ℕ → List Item → Type 0
AreEnding r xs [] items = items ≡ []
AreEnding r xs (b ∷ ys) items =
    ((i : Item) × (later : List Item) × IsItem r (xs ++ b ∷ []) i × AreEnding r (xs ++ b ∷ []) ys later × (items ≡ i ∷ later))
    ⊎ (((i : Item) → IsItem r (xs ++ b ∷ []) i → ⊥) × AreEnding r (xs ++ b ∷ []) ys items)

-- The items of these bytes: those that end with them where none of them has a fault; and where the k-th is the first that has one, those that
-- end before it, and then the fault with this number.
abbrev pub AreItems : Limits → List ℕ → List Item → Type 0
AreItems l bytes items =
    (AreFaultless l bytes × AreEnding (rules_of l) [] bytes items)
    ⊎ ((k : ℕ) × (f : FrameFault) × (before : List Item) × IsFault l bytes k f × AreEnding (rules_of l) [] (take (k - 1) bytes) before
    × (items ≡ before ++ item.Broken f (told_number k) ∷ []))

-- After the bytes before, these items end in further bytes, in their order, and then comes the fault of these: with the items of the bytes
-- before they are those of all.
abbrev pub AreNext : Limits → List ℕ → List ℕ → List Item → Type 0
AreNext l before bytes items = (earlier : List Item) × AreItems l before earlier × AreItems l (before ++ bytes) (earlier ++ items)

-- Items up to the first fault, and that fault.

abbrev pub is_fault : Item → Bool
is_fault (item.Broken f k) = true
is_fault i = false

abbrev pub to_fault : List Item → List Item
to_fault [] = []
to_fault (i ∷ items) = i ∷ (if is_fault i then [] else to_fault items)
