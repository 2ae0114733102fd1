-- Elements as their tags stand in a text, before names are resolved, and the tokens that spell them.
use Rattle.std.specs.Prelude.{◌≡◌, ℕ, ◌+◌, ◌≤◌, max, List, [], ◌∷◌, ◌++◌, map, length, Bool, true, false, cond, ◌==◌, ◌||◌}
use Rattle.stream_lex.specs.declared.Token.{Token}
use Rattle.stream_lex.specs.declared.Token.TheVariants as token
use Rattle.stream_grammar.specs.declared.rules.Rules.{Rules}

-- a name as it stands: its first byte and the others
abbrev pub RawName : Type 0
RawName = ℕ × List ℕ

pub record RawAttribute : Type 0 where
  pub name : RawName
  pub value : List ℕ  -- its characters

pub record RawTag : Type 0 where
  pub name : RawName
  pub attributes : List RawAttribute

-- XML 1.0 [43]: what stands between a tag and its end tag
pub data Content : Type 0 where
  nothing : Content
  word : ℕ → Content → Content  -- a character, and what follows it
  element : RawTag → Content → Content → Content  -- a start tag, what is in the element, and what follows its end tag
  hollow : RawTag → Content → Content  -- an empty-element tag, and what follows it

-- a declaration or none, the start tag of the stream, what is in it, and its end tag (RFC 6120, 4.2 and 11.5)
pub record Stream : Type 0 where
  pub declared : Bool
  pub root : RawTag
  pub content : Content

-- The tokens.

abbrev pub attribute_tokens : RawAttribute → List Token
attribute_tokens a = token.AttrOpens a.name.0 ∷ (map token.AttrByte a.name.1 ++ (token.ValueOpens ∷ (map token.Value a.value ++ token.ValueEnds ∷ [])))

abbrev pub attributes_tokens : List RawAttribute → List Token
attributes_tokens [] = []
attributes_tokens (x ∷ xs) = attribute_tokens x ++ attributes_tokens xs

-- a start tag, or an empty-element tag
abbrev pub tag_tokens : RawTag → Bool → List Token
tag_tokens t empty = token.TagOpens t.name.0 ∷ (map token.NameByte t.name.1 ++ (attributes_tokens t.attributes ++ token.TagEnds empty ∷ []))

abbrev pub end_tokens : RawName → List Token
end_tokens n = token.CloseOpens n.0 ∷ (map token.NameByte n.1 ++ token.CloseEnds ∷ [])

abbrev pub content_tokens : Content → List Token
content_tokens nothing = []
content_tokens (word c f) = token.Word c ∷ content_tokens f
content_tokens (element t g f) = tag_tokens t false ++ (content_tokens g ++ (end_tokens t.name ++ content_tokens f))
content_tokens (hollow t f) = tag_tokens t true ++ content_tokens f

abbrev pub declaration_tokens : Bool → List Token
declaration_tokens true = token.Declaration ∷ []
declaration_tokens false = []

abbrev pub root_tokens : RawTag → Content → List Token
root_tokens root f = tag_tokens root false ++ (content_tokens f ++ end_tokens root.name)

abbrev pub stream_tokens : Stream → List Token
stream_tokens s = declaration_tokens s.declared ++ root_tokens s.root s.content

-- What a stream is held to.

abbrev pub levels : Content → ℕ
levels nothing = 0
levels (word c f) = levels f
levels (element t g f) = max (levels g + 1) (levels f)
levels (hollow t f) = max 1 (levels f)

-- [3] S
abbrev pub is_space : ℕ → Bool
is_space c = (c == 32) || ((c == 10) || ((c == 9) || (c == 13)))

-- each tag has few attributes, and between the elements stands what may stand there; the flag says that these are the
-- top elements
abbrev pub Keeps : Rules → Bool → Content → Type 0
Keeps r top nothing = Unit {0}
Keeps r top (word c f) = ((is_space c || cond top r.loose true) ≡ true) × Keeps r top f
Keeps r top (element t g f) = (length t.attributes ≤ r.attributes) × Keeps r false g × Keeps r top f
Keeps r top (hollow t f) = (length t.attributes ≤ r.attributes) × Keeps r top f

abbrev pub KeepsRoot : Rules → RawTag → Content → Type 0
KeepsRoot r root f = (length root.attributes ≤ r.attributes) × (levels f ≤ r.depth) × Keeps r true f
