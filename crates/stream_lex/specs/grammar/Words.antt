-- Character data, as XML 1.0 [14] says it: CharData ::= [^<&]* - ([^<&]* ']]>' [^<&]*).
use Rattle.std.specs.Prelude.{◌≡◌, ℕ, List, [], ◌∷◌, ◌++◌, map, true, ◌||◌}
use Rattle.stream_lex.specs.declared.Token.TheVariants as token
use Rattle.stream_lex.specs.declared.kinds.Kind.TheVariants as kinds
use Rattle.stream_lex.specs.grammar.Kinds.{kind, is_kind, is_plain}
use Rattle.stream_lex.specs.grammar.Expressions.{Sign, all_said}

-- each is a character of XML, and neither `<` nor `&`
abbrev pub AreWords : List ℕ → Type 0
AreWords [] = Unit {0}
AreWords (c ∷ cs) = ((is_plain (kind c) || is_kind kinds.RightBracket (kind c)) ≡ true) × AreWords cs

-- `]]>` stands somewhere
abbrev pub HasSectionEnd : List ℕ → Type 0
HasSectionEnd cs = (xs : List ℕ) × (ys : List ℕ) × (cs ≡ xs ++ (93 ∷ 93 ∷ 62 ∷ ys))

-- each is a word for itself
abbrev pub worded : List ℕ → List Sign
worded cs = all_said (map token.Word cs)
