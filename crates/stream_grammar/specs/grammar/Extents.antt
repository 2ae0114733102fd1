-- The bytes of a header or of a top element that is open, from its `<`.
use Rattle.std.specs.Prelude.{◌≡◌, ℕ, ◌≤◌, ◌⊎◌, List, [], ◌∷◌, ◌++◌, length, Bool, true, not, ◌||◌, ◌==◌}
use Rattle.stream_lex.specs.grammar.Reading.{Reads}
use Rattle.stream_grammar.specs.declared.item.Limits.{Limits}
use Rattle.stream_grammar.specs.declared.rules.Rules.{Rules}
use Rattle.stream_grammar.specs.grammar.Bounds.{rules_of}
use Rattle.stream_grammar.specs.grammar.Items.{head_tokens, EndsHeader, EndsTop}
use Rattle.stream_grammar.specs.grammar.Streams.{Begins}
use Rattle.stream_grammar.specs.grammar.Trees.{RawTag, Content}

-- after a `<` this byte begins a tag, where a stream goes on with it: it is not the `!` of a CDATA section, not the `/` of an end tag, and
-- not the `?` of a declaration
abbrev pub begins_tag : ℕ → Bool
begins_tag b = not ((b == 33) || ((b == 47) || (b == 63)))

-- no tag has begun in the bytes
abbrev pub IsBeforeTags : List ℕ → Type 0
IsBeforeTags bytes = (xs : List ℕ) (b : ℕ) (ys : List ℕ) → bytes ≡ xs ++ (60 ∷ b ∷ ys) → begins_tag b ≡ true → ⊥

-- the start tag of the stream has come, and nothing is open in the stream
abbrev pub IsBetweenTops : List ℕ → Type 0
IsBetweenTops bytes = (declared : Bool) × (root : RawTag) × (f : Content) × Reads bytes (head_tokens declared root f)

-- no header and no top element ends with any of the bytes ys after the bytes xs, or with the last of these
abbrev pub NoneEnds : Rules → List ℕ → List ℕ → Type 0
NoneEnds r xs ys = (us vs : List ℕ) → ys ≡ us ++ vs → EndsHeader r (xs ++ us) ⊎ EndsTop r (xs ++ us) → ⊥

-- A header or a top element is open, as far as its start tag has come beyond its `<`: a stream begins so, a tag began where nothing was
-- open but the stream, and since then no header and no top element has ended.
abbrev pub HasOpenItem : Rules → List ℕ → Type 0
HasOpenItem r bytes = Begins r bytes × ((xs : List ℕ) × (b : ℕ) × (ys : List ℕ) × (bytes ≡ xs ++ (60 ∷ b ∷ ys))
    × (begins_tag b ≡ true) × (IsBeforeTags xs ⊎ IsBetweenTops xs) × NoneEnds r (xs ++ 60 ∷ b ∷ []) ys)

-- none is open up to a `<` after the bytes xs, and after the `<` one is open with each of the bytes ys
abbrev pub IsSince : Rules → List ℕ → List ℕ → Type 0
IsSince r xs ys = (HasOpenItem r (xs ++ 60 ∷ []) → ⊥) × ((us vs : List ℕ) → ys ≡ us ++ vs → (us ≡ [] → ⊥) → HasOpenItem r (xs ++ (60 ∷ us)))

-- The byte after these is one of a header or a top element, and as many of its bytes as the limit allows came before.
abbrev pub IsPastLimit : Limits → List ℕ → ℕ → Type 0
IsPastLimit l bytes byte = (HasOpenItem (rules_of l) bytes ⊎ HasOpenItem (rules_of l) (bytes ++ byte ∷ []))
    × ((xs : List ℕ) × (ys : List ℕ) × (bytes ≡ xs ++ (60 ∷ ys)) × IsSince (rules_of l) xs ys × (l.bytes ≤ length (60 ∷ ys)))
