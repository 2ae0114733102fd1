-- Regular expressions over characters, each of which says what its characters tell.
use Rattle.std.specs.Prelude.{◌≡◌, ℕ, zero, suc, ◌+◌, ◌*◌, ◌⊎◌, List, [], ◌∷◌, ◌++◌, Bool, true}
use Rattle.stream_lex.specs.declared.Token.{Token}
use Rattle.stream_lex.specs.declared.LexFault.{LexFault}
use Rattle.stream_lex.specs.declared.kinds.Kind.{Kind}
use Rattle.stream_lex.specs.declared.kinds.Kind.TheVariants as kinds
use Rattle.stream_lex.specs.declared.stages.Base.{Base}
use Rattle.stream_lex.specs.grammar.Classes.{is_xml}
use Rattle.stream_lex.specs.grammar.Kinds.{kind, is_digit, digit, base_of}

-- What a place of a text tells: a token, or that it has what RFC 6120, 11 refuses.
pub data Sign : Type 0 where
  says : Token → Sign
  refuses : LexFault → Sign

abbrev pub all_said : List Token → List Sign
all_said [] = []
all_said (t ∷ ts) = says t ∷ all_said ts

pub data Expression : Type 0 where
  void : Expression  -- no text
  empty : Expression  -- the text without characters
  yields : List Sign → Expression  -- the same, and it tells this
  silent_symbol : (Kind → ℕ → Bool) → Expression  -- such a character, which tells nothing
  symbol : (Kind → ℕ → Bool) → (ℕ → List Sign) → Expression  -- such a character, and what it tells
  digits : Base → (ℕ → List Sign) → Expression  -- digits and a semicolon, and what their value tells
  number : Base → (ℕ → List Sign) → ℕ → Expression  -- the rest of such, after digits of this value
  concat : Expression → Expression → Expression
  union : Expression → Expression → Expression
  star : Expression → Expression

-- p and then q, written without parts that are none or empty
abbrev pub concat_of : Expression → Expression → Expression
concat_of void q = void
concat_of empty q = q
concat_of (concat p r) q = concat_of p (concat_of r q)
concat_of p q = concat p q

-- the value of digits after others of the value v
abbrev pub value : Base → ℕ → List ℕ → ℕ
value base v [] = v
value base v (d ∷ ds) = value base (base_of base * v + digit d) ds

abbrev pub AreDigits : Base → List ℕ → Type 0
AreDigits base [] = Unit {0}
AreDigits base (d ∷ ds) = (is_digit base (kind d) ≡ true) × AreDigits base ds

-- digits after others of the value v, then a semicolon; all stand for a character of XML (XML 1.0, 4.1)
abbrev pub IsNumber : Base → (ℕ → List Sign) → ℕ → List ℕ → List Sign → Type 0
IsNumber base f v cs ms = (ds : List ℕ) × (e : ℕ) × AreDigits base ds × (kind e ≡ kinds.Semicolon)
    × (cs ≡ ds ++ e ∷ []) × (is_xml (value base v ds) ≡ true) × (ms ≡ f (value base v ds))

-- n texts in a row, each of at least one character
abbrev pub Times : (List ℕ → List Sign → Type 0) → ℕ → List ℕ → List Sign → Type 0
Times P zero cs ms = (cs ≡ []) × (ms ≡ [])
Times P (suc n) cs ms = (c : ℕ) × (xs : List ℕ) × (us : List Sign) × (ys : List ℕ) × (vs : List Sign)
    × P (c ∷ xs) us × Times P n ys vs × (cs ≡ c ∷ (xs ++ ys)) × (ms ≡ us ++ vs)

-- The characters are a text of the expression, which tells this.
unfoldable pub IsText : Expression → List ℕ → List Sign → Type 0
IsText void cs ms = ⊥
IsText empty cs ms = (cs ≡ []) × (ms ≡ [])
IsText (yields us) cs ms = (cs ≡ []) × (ms ≡ us)
IsText (silent_symbol P) cs ms = (c : ℕ) × (P (kind c) c ≡ true) × (cs ≡ c ∷ []) × (ms ≡ [])
IsText (symbol P f) cs ms = (c : ℕ) × (P (kind c) c ≡ true) × (cs ≡ c ∷ []) × (ms ≡ f c)
IsText (digits base f) cs ms = (d : ℕ) × (ds : List ℕ) × (is_digit base (kind d) ≡ true) × (cs ≡ d ∷ ds) × IsNumber base f (digit d) ds ms
IsText (number base f v) cs ms = IsNumber base f v cs ms
IsText (concat p q) cs ms = (xs : List ℕ) × (us : List Sign) × (ys : List ℕ) × (vs : List Sign)
    × IsText p xs us × IsText q ys vs × (cs ≡ xs ++ ys) × (ms ≡ us ++ vs)
IsText (union p q) cs ms = IsText p cs ms ⊎ IsText q cs ms
IsText (star p) cs ms = (n : ℕ) × Times (IsText p) n cs ms
