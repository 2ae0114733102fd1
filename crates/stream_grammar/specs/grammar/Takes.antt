-- How many bytes of a piece are taken.
use Rattle.std.specs.Prelude.{◌≡◌, ℕ, ◌+◌, ◌⊎◌, List, [], ◌∷◌, ◌++◌, length}
use Rattle.stream_grammar.specs.declared.FrameFault.{FrameFault}
use Rattle.stream_grammar.specs.declared.item.Item.{Item}
use Rattle.stream_grammar.specs.declared.item.Limits.{Limits}
use Rattle.stream_grammar.specs.grammar.Bounds.{rules_of}
use Rattle.stream_grammar.specs.grammar.Parts.{IsItem, IsByteFault, AreFaultless, IsFault}

-- the byte after these ends an item, or it has a fault
abbrev pub IsStop : Limits → List ℕ → ℕ → Type 0
IsStop l bytes b = ((i : Item) × IsItem (rules_of l) (bytes ++ b ∷ []) i) ⊎ ((f : FrameFault) × IsByteFault l bytes b f)

-- after these bytes no byte of the piece does either
abbrev pub HasNoStop : Limits → List ℕ → List ℕ → Type 0
HasNoStop l before piece = (xs ys : List ℕ) (b : ℕ) → piece ≡ xs ++ (b ∷ ys) → IsStop l (before ++ xs) b → ⊥

-- After these bytes a piece is read up to its first byte that ends an item or has a fault, and that byte too; and else to its end.
abbrev pub IsTaken : Limits → List ℕ → List ℕ → ℕ → Type 0
IsTaken l before piece n =
    (HasNoStop l before piece × (n ≡ length piece))
    ⊎ ((xs : List ℕ) × (b : ℕ) × (ys : List ℕ) × (piece ≡ xs ++ (b ∷ ys)) × HasNoStop l before xs × IsStop l (before ++ xs) b × (n ≡ length xs + 1))

-- Where none of the bytes before has a fault, so many of a piece are taken; and where one has, the piece is taken whole.
abbrev pub AreTaken : Limits → List ℕ → List ℕ → ℕ → Type 0
AreTaken l before piece n =
    (AreFaultless l before × IsTaken l before piece n)
    ⊎ ((k : ℕ) × (f : FrameFault) × IsFault l before k f × (n ≡ length piece))
