-- The tag that ends with a byte, and the elements that are open round it.
use Rattle.std.specs.Prelude.{◌≡◌, ℕ, List, [], ◌∷◌, ◌++◌, Bool, false, Some}
use Rattle.stream_lex.specs.declared.Token.{Token}
use Rattle.stream_lex.specs.grammar.Reading.{Reads}
use Rattle.stream_grammar.specs.declared.FrameFault.{FrameFault}
use Rattle.stream_grammar.specs.declared.FrameFault.TheVariants as frame
use Rattle.stream_grammar.specs.declared.namespaces.Binding.{Binding}
use Rattle.stream_grammar.specs.declared.namespaces.NameFault.{NameFault}
use Rattle.stream_grammar.specs.declared.namespaces.NameFault.TheVariants as name
use Rattle.stream_grammar.specs.grammar.Trees.{RawTag, Content, nothing, tag_tokens, content_tokens, declaration_tokens}
use Rattle.stream_grammar.specs.grammar.Streams.{IsShortest}
use Rattle.stream_grammar.specs.grammar.Tags.{whole_tag}
use Rattle.stream_grammar.specs.grammar.Elements.{outside_all, inside_of, fault_of_tag}

-- an element that is open: what stands before it in the element round it, and its start tag
pub record Step : Type 0 where
  pub before : Content
  pub tag : RawTag

-- A path: the elements that are open, the innermost first, and the stream's last.

abbrev pub path_tokens : List Step → List Token
path_tokens [] = []
path_tokens (x ∷ path) = path_tokens path ++ (content_tokens x.before ++ tag_tokens x.tag false)

-- the bindings inside the innermost
abbrev pub scope_of : List Step → List (List Binding)
scope_of [] = outside_all
scope_of (x ∷ path) = inside_of (scope_of path) (whole_tag x.tag)

-- nothing stands before the start tag of the stream
abbrev pub IsRooted : List Step → Content → Type 0
IsRooted [] f = f ≡ nothing
IsRooted (x ∷ path) f = IsRooted path x.before

-- a declaration or none, the path, what has come in its innermost element, and then this start tag or empty-element tag
abbrev pub tokens_to : Bool → List Step → Content → RawTag → Bool → List Token
tokens_to declared path f t empty = declaration_tokens declared ++ (path_tokens path ++ (content_tokens f ++ tag_tokens t empty))

-- the bytes end with the `>` of the tag, and the elements of the path are open round it
abbrev pub EndsTag : List ℕ → List Step → RawTag → Type 0
EndsTag bytes path t = (declared : Bool) × (f : Content) × (empty : Bool) × IsRooted path f
    × Reads bytes (tokens_to declared path f t empty) × IsShortest bytes (tokens_to declared path f t empty)

-- RFC 6120, 4.9.3
abbrev pub name_kind : NameFault → FrameFault
name_kind name.BadPrefix = frame.BadPrefix
name_kind name.NotWellFormed = frame.NotWellFormed

-- the bytes end with the `>` of a tag that is refused by its names, where the bindings are those of the open elements
abbrev pub IsNameFault : List ℕ → FrameFault → Type 0
IsNameFault bytes g = (path : List Step) × (t : RawTag) × EndsTag bytes path t
    × ((x : NameFault) × (fault_of_tag (scope_of path) (whole_tag t) ≡ Some x) × (g ≡ name_kind x))
