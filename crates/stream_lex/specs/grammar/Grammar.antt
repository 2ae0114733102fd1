-- The lexical grammar of a stream: XML 1.0 (fifth edition) and Namespaces in XML 1.0, by the numbers of their
-- productions, without what RFC 6120, 11.1 takes out. Line ends are line feeds here (XML 1.0, 2.11).
-- Tags and end tags stand in any order: how they match and nest is no matter of this grammar.
use Rattle.std.specs.Prelude.{ℕ, ◌+◌, List, [], ◌∷◌, map, Bool, true, false, not, cond, ◌==◌, ◌&&◌, ◌||◌, nat_le, codes, encode_utf8}
use Rattle.stream_lex.specs.declared.Token.{Token}
use Rattle.stream_lex.specs.declared.Token.TheVariants as token
use Rattle.stream_lex.specs.declared.LexFault.TheVariants.{Restricted, BadEncoding}
use Rattle.stream_lex.specs.declared.kinds.Kind.{Kind}
use Rattle.stream_lex.specs.declared.kinds.Kind.TheVariants as kinds
use Rattle.stream_lex.specs.declared.stages.Quote.{Quote}
use Rattle.stream_lex.specs.declared.stages.Quote.TheVariants.{Double, Single}
use Rattle.stream_lex.specs.declared.stages.Context.{Context}
use Rattle.stream_lex.specs.declared.stages.Context.TheVariants.{Words, Value}
use Rattle.stream_lex.specs.declared.stages.NameOwner.{NameOwner}
use Rattle.stream_lex.specs.declared.stages.NameOwner.TheVariants.{StartTag, EndTag, Attribute}
use Rattle.stream_lex.specs.declared.stages.Base.TheVariants.{Decimal, Hexadecimal}
use Rattle.stream_lex.specs.grammar.Kinds.{is_kind, is_wide, is_name_start, is_name_further, is_wide_name_start, is_wide_name_further, is_plain}
use Rattle.stream_lex.specs.grammar.Kinds.{is_plain_after, is_cdata, is_cdata_after, is_value_character, is_refusable, quote}
use Rattle.stream_lex.specs.grammar.Expressions.{refuses, all_said, Expression, empty, silent_symbol, symbol, digits, concat, union, star, concat_of}

-- What characters tell.

abbrev pub first_name_token : NameOwner → ℕ → Token
first_name_token StartTag b = token.TagOpens b
first_name_token EndTag b = token.CloseOpens b
first_name_token Attribute b = token.AttrOpens b

abbrev pub next_name_token : NameOwner → ℕ → Token
next_name_token Attribute b = token.AttrByte b
next_name_token r b = token.NameByte b

-- a character's bytes, of which the first is told in one way and the others in another
abbrev pub spread : (ℕ → Token) → (ℕ → Token) → List ℕ → List Token
spread first_character further_character [] = []
spread first_character further_character (b ∷ bs) = first_character b ∷ map further_character bs

abbrev pub text_token : Context → ℕ → Token
text_token Words c = token.Word c
text_token (Value q) c = token.Value c

-- Small parts.

abbrev pub a : Kind → Expression
a k = silent_symbol (λ j c. is_kind k j)

abbrev pub optional : Expression → Expression
optional p = union p empty

-- a character of these kinds, and its tokens
abbrev pub tells : (Kind → Bool) → (ℕ → List Token) → Expression
tells P f = symbol (λ k c. P k) (λ c. all_said (f c))

abbrev pub told : Kind → Token → Expression
told k t = tells (is_kind k) (λ c. t ∷ [])

-- a character of these kinds, which is refused
abbrev pub refused : (Kind → Bool) → Expression
refused P = symbol (λ k c. P k) (λ c. refuses Restricted ∷ [])

-- S? and [3] S ::= (#x20 | #x9 | #xD | #xA)+
abbrev pub optional_space : Expression
optional_space = star (a kinds.Space)

abbrev pub is_letter : ℕ → Kind → ℕ → Bool
is_letter d k c = not (is_wide k) && c == d

-- these bytes, and then q
abbrev pub word : List ℕ → Expression → Expression
word [] q = q
word (d ∷ ds) q = concat (silent_symbol (is_letter d)) (word ds q)

-- Names: Namespaces in XML 1.0 [7] QName ::= [8] PrefixedName | [9] UnprefixedName, of [4] NCName.

abbrev pub first_character : NameOwner → Expression
first_character r = union (tells is_name_start (λ c. first_name_token r c
    ∷ [])) (tells is_wide_name_start (λ c. spread (first_name_token r) (next_name_token r) (encode_utf8 c)))

abbrev pub later_first : NameOwner → Expression
later_first r = union (tells is_name_start (λ c. next_name_token r c
    ∷ [])) (tells is_wide_name_start (λ c. spread (next_name_token r) (next_name_token r) (encode_utf8 c)))

abbrev pub further_character : NameOwner → Expression
further_character r = union (tells is_name_further (λ c. next_name_token r c
    ∷ [])) (tells is_wide_name_further (λ c. spread (next_name_token r) (next_name_token r) (encode_utf8 c)))

abbrev pub local : NameOwner → Expression
local r = concat (later_first r) (star (further_character r))

abbrev pub colon : NameOwner → Expression
colon r = tells (is_kind kinds.Colon) (λ c. next_name_token r c ∷ [])

abbrev pub qualified_name : NameOwner → Expression
qualified_name r = concat (first_character r) (concat (star (further_character r)) (optional (concat (colon r) (local r))))

-- References: [67] Reference ::= [68] EntityRef | [66] CharRef. Of the former those of XML 1.0, 4.6 alone.

abbrev pub numeric : Context → Expression
numeric p = union (digits Decimal (λ c. all_said (text_token p c ∷ []))) (concat (a kinds.SmallX) (digits Hexadecimal (λ c. all_said (text_token p c ∷ []))))

-- the semicolon after the name of the character c
abbrev pub named : Context → ℕ → Expression
named p c = union (told kinds.Semicolon (text_token p c)) (refused (λ k. is_refusable k && not (is_kind kinds.Semicolon k)))

-- a letter and then q; another letter is refused
abbrev pub expects : Kind → Expression → Expression
expects k q = union (concat (a k) q) (refused (λ j. is_refusable j && not (is_kind k j)))

abbrev pub after_a : Context → Expression
after_a p = union (concat (a kinds.SmallM) (expects kinds.SmallP (named p 38)))
    (union (concat (a kinds.SmallP) (expects kinds.SmallO (expects kinds.SmallS (named p 39))))
    (refused (λ k. is_refusable k && not (is_kind kinds.SmallM k || is_kind kinds.SmallP k))))

abbrev pub is_entity_start : Kind → Bool
is_entity_start k = is_kind kinds.SmallA k || (is_kind kinds.SmallL k || (is_kind kinds.SmallG k || is_kind kinds.SmallQ k))

-- `amp`, `apos`, `lt`, `gt` and `quot`; any other name is refused
abbrev pub entity_reference : Context → Expression
entity_reference p = union (concat (a kinds.SmallA) (after_a p))
    (union (concat (a kinds.SmallL) (expects kinds.SmallT (named p 60)))
    (union (concat (a kinds.SmallG) (expects kinds.SmallT (named p 62)))
    (union (concat (a kinds.SmallQ) (expects kinds.SmallU (expects kinds.SmallO (expects kinds.SmallT (named p 34)))))
    (refused (λ k. is_refusable k && not (is_entity_start k))))))

abbrev pub rest_of_reference : Context → Expression
rest_of_reference p = union (concat (a kinds.Number) (numeric p)) (entity_reference p)

abbrev pub any_reference : Context → Expression
any_reference p = concat (a kinds.Ampersand) (rest_of_reference p)

-- Tags: [40] STag, [44] EmptyElemTag, [42] ETag, [41] Attribute ::= Name Eq AttValue, after their `<`.

-- [25] Eq ::= S? '=' S?, and then q
abbrev pub equals : Expression → Expression
equals q = concat optional_space (concat (a kinds.Equals) (concat optional_space q))

-- white space in a value is a space (XML 1.0, 3.3.3)
abbrev pub value_part : Quote → Expression
value_part q = union (tells (is_value_character q) (λ c. text_token (Value q) c
    ∷ [])) (union (told kinds.Space (text_token (Value q) 32)) (any_reference (Value q)))

abbrev pub quoted : Quote → Expression
quoted q = concat (told (quote q) token.ValueOpens) (concat (star (value_part q)) (told (quote q) token.ValueEnds))

abbrev pub attribute_text : Expression
attribute_text = concat (a kinds.Space) (concat optional_space (concat (qualified_name Attribute) (equals (union (quoted Double) (quoted Single)))))

abbrev pub tag_end : Expression
tag_end = union (told kinds.Greater (token.TagEnds false)) (concat (a kinds.Slash) (told kinds.Greater (token.TagEnds true)))

abbrev pub tag : Expression
tag = concat (qualified_name StartTag) (concat (star attribute_text) (concat optional_space tag_end))

abbrev pub end_tag : Expression
end_tag = concat (a kinds.Slash) (concat (qualified_name EndTag) (concat optional_space (told kinds.Greater token.CloseEnds)))

-- CDATA: [18] CDSect ::= [19] CDStart [20] CData [21] CDEnd, after `<!`. The first `]]>` ends it.

abbrev pub bracket : Token
bracket = token.Word 93

-- up to two brackets or more; those that more follow are words
abbrev pub clump : Expression
clump = concat (star (union (tells is_cdata (λ c. token.Word c ∷ [])) (concat (a kinds.RightBracket) (tells is_cdata (λ c. bracket ∷ token.Word c ∷ [])))))
    (concat (a kinds.RightBracket) (concat (a kinds.RightBracket) (star (told kinds.RightBracket bracket))))

abbrev pub clumps : Expression
clumps = star (concat (tells is_cdata_after (λ c. bracket ∷ bracket ∷ token.Word c ∷ [])) clump)

abbrev pub section : Expression
section = concat (a kinds.LeftBracket) (word (codes "CDATA[") (concat clump (concat clumps (a kinds.Greater))))

-- Content: [43] content ::= CharData? ((element | Reference | CDSect | PI | Comment) CharData?)*.

-- [14] CharData ::= [^<&]* - ([^<&]* ']]>' [^<&]*)
abbrev pub plain : Expression
plain = tells is_plain (λ c. token.Word c ∷ [])

abbrev pub plain_after : Expression
plain_after = tells is_plain_after (λ c. token.Word c ∷ [])

abbrev pub brackets : Expression
brackets = star (told kinds.RightBracket bracket)

-- a character; or a bracket before one; or more brackets before one that is not `>`
abbrev pub run : Expression
run = union plain (concat (told kinds.RightBracket bracket) (union plain (concat (told kinds.RightBracket bracket) (concat brackets plain_after))))

abbrev pub char_data : Expression
char_data = concat (star run) brackets

-- comments, declarations and processing instructions are refused (RFC 6120, 11.1)
abbrev pub rest_of_bang : Expression
rest_of_bang = union section (refused (λ k. not (is_kind kinds.LeftBracket k)))

abbrev pub rest_of_markup : Expression
rest_of_markup = union tag (union end_tag (union (concat (a kinds.Bang) rest_of_bang) (refused (is_kind kinds.Question))))

abbrev pub markup : Expression
markup = concat (a kinds.Less) rest_of_markup

abbrev pub content : Expression
content = concat_of char_data (star (concat (union markup (any_reference Words)) char_data))

-- The beginning: [22] prolog ::= XMLDecl? Misc*, of which only white space is left, and the first tag.

abbrev pub rest_of_first_tag : (Kind → Bool) → Expression
rest_of_first_tag P = concat (union tag (refused P)) content

abbrev pub is_prolog_refused : Kind → Bool
is_prolog_refused k = is_kind kinds.Bang k || is_kind kinds.Question k

-- after the declaration
abbrev pub prolog : Expression
prolog = concat optional_space (concat (a kinds.Less) (rest_of_first_tag is_prolog_refused))

-- [32] SDDecl ::= S 'standalone' Eq (("'" ('yes' | 'no') "'") | ('"' ('yes' | 'no') '"')), then S? '?>'
abbrev pub declaration_end : Expression
declaration_end = concat optional_space (concat (a kinds.Question) (concat (told kinds.Greater token.Declaration) prolog))

abbrev pub choice : Quote → Expression
choice q = union (concat (a kinds.SmallY) (word (codes "es") (concat (a (quote q)) declaration_end)))
    (concat (a kinds.SmallN) (word (codes "o") (concat (a (quote q)) declaration_end)))

abbrev pub in_quotes : (Quote → Expression) → Expression
in_quotes p = union (concat (a (quote Double)) (p Double)) (concat (a (quote Single)) (p Single))

abbrev pub standalone_word : Expression
standalone_word = concat optional_space (concat (a kinds.SmallS) (word (codes "tandalone") (equals (in_quotes choice))))

abbrev pub standalone : Expression
standalone = concat (a kinds.Space) standalone_word

-- [80] EncodingDecl ::= S 'encoding' Eq ('"' EncName '"' | "'" EncName "'"). Its name is UTF-8 in any case; each
-- character that departs from it is refused.
abbrev pub lower : ℕ → ℕ
lower c = cond (nat_le 65 c && nat_le c 90) (c + 32) c

abbrev pub is_either_case : ℕ → Kind → ℕ → Bool
is_either_case d k c = not (is_wide k) && lower c == d

abbrev pub expects_of_charset : (Kind → ℕ → Bool) → Expression → Expression
expects_of_charset P q = union (concat (silent_symbol P) q) (concat (symbol (λ k c. not (P k c)) (λ c. refuses BadEncoding ∷ [])) prolog)

abbrev pub charset : List ℕ → Expression → Expression
charset [] q = q
charset (d ∷ ds) q = expects_of_charset (is_either_case d) (charset ds q)

abbrev pub charset_end : Quote → Expression
charset_end q = expects_of_charset (λ k c. is_kind (quote q) k) (union standalone declaration_end)

abbrev pub charset_value : Quote → Expression
charset_value q = charset (codes "utf-8") (charset_end q)

abbrev pub encoding_word : Expression
encoding_word = concat optional_space (concat (a kinds.SmallE) (word (codes "ncoding") (equals (in_quotes charset_value))))

abbrev pub encoding : Expression
encoding = concat (a kinds.Space) encoding_word

-- [24] VersionInfo ::= S 'version' Eq ("'" VersionNum "'" | '"' VersionNum '"'), [26] VersionNum ::= '1.' [0-9]+
abbrev pub rest_of_minor : Quote → Expression
rest_of_minor q = concat (star (a kinds.Digit)) (concat (a (quote q)) (union encoding (union standalone declaration_end)))

abbrev pub version_value : Quote → Expression
version_value q = word (codes "1.") (concat (a kinds.Digit) (rest_of_minor q))

abbrev pub version_word : Expression
version_word = concat optional_space (concat (a kinds.SmallV) (word (codes "ersion") (equals (in_quotes version_value))))

abbrev pub version : Expression
version = concat (a kinds.Space) version_word

-- [23] XMLDecl ::= '<?xml' VersionInfo EncodingDecl? SDDecl? S? '?>', after its `<`
abbrev pub rest_of_declaration : Expression
rest_of_declaration = concat (a kinds.Question) (word (codes "xml") version)

-- The declaration stands at offset 0 alone: a `?` after another `<` is refused.
abbrev pub document : Expression
document = union (concat (a kinds.Less) rest_of_declaration)
    (union (concat (a kinds.Space) prolog) (concat (a kinds.Less) (rest_of_first_tag (is_kind kinds.Bang))))
