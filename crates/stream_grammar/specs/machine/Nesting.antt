-- How tags nest, token by token.
use Rattle.std.specs.Prelude.{◌≡◌, ℕ, ◌+◌, ◌≤◌, List, [], ◌∷◌, ◌++◌, map, length, Bool, true, false, cond, ◌==◌, ◌||◌, nat_lt}
use Rattle.stream_lex.specs.declared.Token.{Token}
use Rattle.stream_lex.specs.declared.Token.TheVariants as token
use Rattle.stream_grammar.specs.grammar.Trees.{RawName, RawAttribute, RawTag, Content, Stream, attributes_tokens, content_tokens}
use Rattle.stream_grammar.specs.grammar.Trees.{end_tokens, root_tokens, stream_tokens, levels, is_space, Keeps, KeepsRoot}
use Rattle.stream_grammar.specs.declared.rules.Rules.{Rules}

-- Where the tokens stand. A list of names is that of the open elements, the innermost first, and the stream's last.
pub data Nest : Type 0 where
  start : Nest  -- before anything
  declared : Nest  -- after the declaration
  inside : List RawName → Nest  -- between tags; after the end tag of the stream, where nothing is open
  naming : List RawName → RawName → Nest  -- in the name of a tag, of which this has come
  in_tag : List RawName → RawName → ℕ → Nest  -- in a tag of this name, after so many attributes
  naming_attribute : List RawName → RawName → ℕ → Nest  -- in the name of the last of so many attributes
  in_value : List RawName → RawName → ℕ → Nest  -- in its value
  closing : List RawName → List ℕ → Nest  -- in the name of an end tag, of which these bytes must follow
  lost : Nest  -- no stream goes on so

abbrev pub is_root : List RawName → Bool
is_root [] = true
is_root (m ∷ st) = false

-- whether the character may stand in the innermost open element, the others being st
abbrev pub may_stand : Rules → List RawName → ℕ → Bool
may_stand r st c = is_space c || cond (is_root st) r.loose true

abbrev pub before_root : Token → Nest
before_root (token.TagOpens b) = naming [] (b, [])
before_root t = lost

abbrev pub in_content : Rules → RawName → List RawName → Token → Nest
in_content r m st (token.Word c) = cond (may_stand r st c) (inside (m ∷ st)) lost
in_content r m st (token.TagOpens b) = cond (nat_lt (length st) r.depth) (naming (m ∷ st) (b, [])) lost
in_content r m st (token.CloseOpens b) = cond (b == m.0) (closing st m.1) lost
in_content r m st t = lost

-- the stream's own tag is no empty-element tag
abbrev pub after_hollow : List RawName → Nest
after_hollow [] = lost
after_hollow (m ∷ st) = inside (m ∷ st)

abbrev pub after_name : Rules → List RawName → RawName → ℕ → Token → Nest
after_name r st n k (token.AttrOpens b) = cond (nat_lt k r.attributes) (naming_attribute st n (k + 1)) lost
after_name r st n k (token.TagEnds true) = after_hollow st
after_name r st n k (token.TagEnds false) = inside (n ∷ st)
after_name r st n k t = lost

-- what a token leads to
unfoldable pub nest : Rules → Nest → Token → Nest
nest r start token.Declaration = declared
nest r start t = before_root t
nest r declared t = before_root t
nest r (inside (m ∷ st)) t = in_content r m st t
nest r (naming st n) (token.NameByte x) = naming st (n.0, n.1 ++ x ∷ [])
nest r (naming st n) t = after_name r st n 0 t
nest r (in_tag st n k) t = after_name r st n k t
nest r (naming_attribute st n k) (token.AttrByte x) = naming_attribute st n k
nest r (naming_attribute st n k) token.ValueOpens = in_value st n k
nest r (in_value st n k) (token.Value c) = in_value st n k
nest r (in_value st n k) token.ValueEnds = in_tag st n k
nest r (closing st (x ∷ m)) (token.NameByte y) = cond (y == x) (closing st m) lost
nest r (closing st []) token.CloseEnds = inside st
nest r s t = lost

abbrev pub nest_all : Rules → Nest → List Token → Nest
nest_all r n [] = n
nest_all r n (t ∷ ts) = nest_all r (nest r n t) ts

-- What may follow there.

-- the tokens end what is open
abbrev pub Closes : Rules → List RawName → List Token → Type 0
Closes r [] ts = ts ≡ []
Closes r (m ∷ st) ts = (f : Content) × (rest : List Token) × Keeps r (is_root st) f × (levels f + length st ≤ r.depth)
    × (ts ≡ content_tokens f ++ (end_tokens m ++ rest)) × Closes r st rest

abbrev pub AfterTag : Rules → List RawName → RawName → Bool → List Token → Type 0
AfterTag r st n false ts = Closes r (n ∷ st) ts
AfterTag r [] n true ts = ⊥
AfterTag r (m ∷ st) n true ts = Closes r (m ∷ st) ts

-- the rest of a tag with k attributes, and what follows it
abbrev pub Tail : Rules → List RawName → RawName → ℕ → List Token → Type 0
Tail r st n k ts = (xs : List RawAttribute) × (e : Bool) × (rest : List Token) × (k + length xs ≤ r.attributes)
    × (ts ≡ attributes_tokens xs ++ (token.TagEnds e ∷ rest)) × AfterTag r st n e rest

abbrev pub Leaves : Rules → Nest → List Token → Type 0
Leaves r start ts = (s : Stream) × KeepsRoot r s.root s.content × (ts ≡ stream_tokens s)
Leaves r declared ts = (root : RawTag) × (f : Content) × KeepsRoot r root f × (ts ≡ root_tokens root f)
Leaves r (inside st) ts = Closes r st ts
Leaves r (naming st n) ts = (m : List ℕ) × (rest : List Token) × (ts ≡ map token.NameByte m ++ rest) × Tail r st (n.0, n.1 ++ m) 0 rest
Leaves r (in_tag st n k) ts = Tail r st n k ts
Leaves r (naming_attribute st n k) ts = (m : List ℕ) × (v : List ℕ) × (rest : List Token)
    × (ts ≡ map token.AttrByte m ++ (token.ValueOpens ∷ (map token.Value v ++ (token.ValueEnds ∷ rest)))) × Tail r st n k rest
Leaves r (in_value st n k) ts = (v : List ℕ) × (rest : List Token) × (ts ≡ map token.Value v ++ (token.ValueEnds ∷ rest)) × Tail r st n k rest
Leaves r (closing st m) ts = (rest : List Token) × (ts ≡ map token.NameByte m ++ (token.CloseEnds ∷ rest)) × Closes r st rest
Leaves r lost ts = ⊥
