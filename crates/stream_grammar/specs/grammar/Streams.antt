-- The texts of a stream, and where bytes begin none.
use Rattle.std.specs.Prelude.{◌≡◌, ℕ, List, [], ◌∷◌, ◌++◌, true}
use Rattle.stream_lex.specs.declared.Token.{Token}
use Rattle.stream_lex.specs.grammar.Reading.{Reads}
use Rattle.stream_grammar.specs.grammar.Trees.{Stream, stream_tokens, is_space, KeepsRoot}
use Rattle.stream_grammar.specs.declared.rules.Rules.{Rules}

abbrev pub AreSpaces : List ℕ → Type 0
AreSpaces [] = Unit {0}
AreSpaces (b ∷ bs) = (is_space b ≡ true) × AreSpaces bs

-- no fewer of these bytes are the same tokens: the last of them tells something
abbrev pub IsShortest : List ℕ → List Token → Type 0
IsShortest bytes ts = (xs ys : List ℕ) → bytes ≡ xs ++ ys → Reads xs ts → ys ≡ []

-- The bytes are a stream, which ends with the `>` of its end tag.
abbrev pub IsStream : Rules → List ℕ → Stream → Type 0
IsStream r bytes s = Reads bytes (stream_tokens s) × IsShortest bytes (stream_tokens s) × KeepsRoot r s.root s.content

-- The bytes are a stream, and white space after it.
abbrev pub Spells : Rules → List ℕ → Stream → Type 0
Spells r bytes s = (text : List ℕ) × (after : List ℕ) × (bytes ≡ text ++ after) × AreSpaces after × IsStream r text s

-- With more bytes, or with none more, these are a stream.
abbrev pub Begins : Rules → List ℕ → Type 0
Begins r bytes = (more : List ℕ) × (s : Stream) × Spells r (bytes ++ more) s
