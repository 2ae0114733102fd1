-- The items of a stream, and the faults of its bytes, by the grammar (RFC 6120, 4.2 and 4.9.3).
use Rattle.std.specs.Prelude.{◌≡◌, ℕ, ◌+◌, ◌⊎◌, List, [], ◌∷◌, ◌++◌, length, true, false, Some}
use Rattle.stanza_tree.specs.declared.node.Element.{Element}
use Rattle.stream_grammar.specs.declared.item.Item.{Item}
use Rattle.stream_grammar.specs.declared.item.Item.TheVariants as item
use Rattle.stream_grammar.specs.declared.rules.Rules.{Rules}
use Rattle.stream_grammar.specs.grammar.Trees.{RawTag, Content, Stream, nothing}
use Rattle.stream_grammar.specs.grammar.Streams.{IsStream, Begins}
use Rattle.stream_grammar.specs.grammar.Faults.{IsSyntaxKind}
use Rattle.stream_grammar.specs.declared.FrameFault.{FrameFault}
use Rattle.stream_grammar.specs.declared.FrameFault.TheVariants as fault
use Rattle.stream_grammar.specs.declared.item.Limits.{Limits}
use Rattle.stream_grammar.specs.grammar.Bounds.{rules_of, is_large_item}
use Rattle.stream_grammar.specs.grammar.Extents.{IsPastLimit}
use Rattle.stream_grammar.specs.grammar.Items.{HasCome, ends_so}
use Rattle.stream_grammar.specs.grammar.Paths.{IsNameFault}
use Rattle.stream_grammar.specs.grammar.Elements.{header_of, default_of, tops_of, IsNamed}

-- An item ends with the last of the bytes: the start tag of the stream; the last of the top elements in what has come; or the end tag of
-- the stream. No tag up to it has a fault by its names.
abbrev pub IsItem : Rules → List ℕ → Item → Type 0
IsItem r bytes (item.Header e space) = (root : RawTag) × HasCome r bytes root nothing × IsNamed root nothing × (e ≡ header_of root) × (space ≡ default_of root)
IsItem r bytes (item.Top e) =
    (root : RawTag) × (f : Content) × HasCome r bytes root f × IsNamed root f × (ends_so false f ≡ true)
    × ((es : List Element) × (tops_of root f ≡ es ++ e ∷ []))
IsItem r bytes item.CloseTag = (s : Stream) × IsStream r bytes s × IsNamed s.root s.content
IsItem r bytes (item.Broken f k) = ⊥

-- The bytes end an item whose canonical spelling is past the limit.
abbrev pub IsLargeEnd : Limits → List ℕ → Type 0
IsLargeEnd l bytes = (i : Item) × IsItem (rules_of l) bytes i × (is_large_item l (Some i) ≡ true)

-- The byte after these has a fault: it is past the limit of its header or top element; or no stream goes on with it, and the fault is of
-- the kind of the syntax; or a stream goes on, and it ends a tag that is refused by its names; or it ends an item whose canonical
-- spelling is past the limit. The first of these counts.
abbrev pub IsByteFault : Limits → List ℕ → ℕ → FrameFault → Type 0
IsByteFault l bytes byte g =
    (IsPastLimit l bytes byte × (g ≡ fault.TooLong))
    ⊎ ((IsPastLimit l bytes byte → ⊥)
    × (((Begins (rules_of l) (bytes ++ byte ∷ []) → ⊥) × IsSyntaxKind (rules_of l) g (bytes ++ byte ∷ []))
    ⊎ (Begins (rules_of l) (bytes ++ byte ∷ [])
    × (IsNameFault (bytes ++ byte ∷ []) g ⊎ (IsLargeEnd l (bytes ++ byte ∷ []) × (g ≡ fault.TooLong))))))

-- none of these bytes has a fault, where those before it have come
abbrev pub AreFaultless : Limits → List ℕ → Type 0
AreFaultless l bytes = (xs ys : List ℕ) (b : ℕ) (g : FrameFault) → bytes ≡ xs ++ (b ∷ ys) → IsByteFault l xs b g → ⊥

-- the byte after these has this fault, and these have none
abbrev pub IsFirstFault : Limits → List ℕ → ℕ → FrameFault → Type 0
IsFirstFault l bytes byte g = AreFaultless l bytes × IsByteFault l bytes byte g

-- the k-th of the bytes, counted from 1, is the first that has a fault, and f is its fault
abbrev pub IsFault : Limits → List ℕ → ℕ → FrameFault → Type 0
IsFault l bytes k f = (xs : List ℕ) × (b : ℕ) × (ys : List ℕ) × (bytes ≡ xs ++ (b ∷ ys)) × (k ≡ length xs + 1) × IsFirstFault l xs b f
