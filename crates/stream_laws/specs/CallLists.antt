-- What calls of a framer are fed, and what they hand out.
use Rattle.std.specs.Prelude.{◌≡◌, ℕ, List, [], ◌∷◌, ◌++◌, drop}
use Rattle.stream_grammar.specs.machine.Calls.{Call, feeds, falls_short, hands}

-- The calls are fed these bytes, cut anywhere, and leave the rest: each piece is what comes next, and of a piece that was not taken whole
-- what is left comes next again.
abbrev pub IsFedBy : List ℕ → List Call → List ℕ → Type 0
IsFedBy bytes [] rest = bytes ≡ rest
IsFedBy bytes (feeds piece n ∷ calls) rest = ((more : List ℕ) × (bytes ≡ piece ++ more)) × IsFedBy (drop n bytes) calls rest
IsFedBy bytes (falls_short piece n ∷ calls) rest = ((more : List ℕ) × (bytes ≡ piece ++ more)) × IsFedBy (drop n bytes) calls rest
IsFedBy bytes (hands next ∷ calls) rest = IsFedBy bytes calls rest

-- Pieces.

abbrev pub joined : List (List ℕ) → List ℕ
joined [] = []
joined (piece ∷ pieces) = piece ++ joined pieces

-- what is left of a piece, and those after it
abbrev pub left_before : List ℕ → List (List ℕ) → List (List ℕ)
left_before [] pieces = pieces
left_before (b ∷ bs) pieces = (b ∷ bs) ∷ pieces

-- the calls are fed these pieces to the end, one after the other: of a piece that was not taken whole what is left is fed again
abbrev pub AreFed : List (List ℕ) → List Call → Type 0
AreFed pieces [] = pieces ≡ []
AreFed pieces (hands next ∷ calls) = AreFed pieces calls
AreFed [] (feeds fed n ∷ calls) = ⊥
AreFed (piece ∷ pieces) (feeds fed n ∷ calls) = (fed ≡ piece) × AreFed (left_before (drop n piece) pieces) calls
AreFed [] (falls_short fed n ∷ calls) = ⊥
AreFed (piece ∷ pieces) (falls_short fed n ∷ calls) = (fed ≡ piece) × AreFed (left_before (drop n piece) pieces) calls
