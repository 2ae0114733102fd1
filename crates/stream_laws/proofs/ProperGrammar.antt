-- The lexical grammar tells whole names and characters of XML.
use Rattle.std.proofs.Common.{◌≡◌, ℕ, inl, List, [], ◌∷◌, refl, Bool, true, false, not, codes}
use Rattle.stream_lex.specs.declared.Token.TheVariants as token
use Rattle.stream_lex.specs.declared.LexFault.TheVariants.{BadEncoding}
use Rattle.stream_lex.specs.declared.kinds.Kind.{Kind}
use Rattle.stream_lex.specs.declared.kinds.Kind.TheVariants as kinds
use Rattle.stream_lex.specs.declared.stages.Quote.{Quote}
use Rattle.stream_lex.specs.declared.stages.Quote.TheVariants.{Double, Single}
use Rattle.stream_lex.specs.declared.stages.Context.{Context}
use Rattle.stream_lex.specs.declared.stages.Context.TheVariants.{Words, Value}
use Rattle.stream_lex.specs.declared.stages.NameOwner.TheVariants.{StartTag, EndTag, Attribute}
use Rattle.stream_lex.specs.declared.stages.Base.TheVariants.{Decimal, Hexadecimal}
use Rattle.stream_lex.specs.grammar.Classes.{is_xml}
use Rattle.stream_lex.specs.grammar.Kinds.{kind, is_plain, is_plain_after, is_cdata, is_cdata_after, is_value_character, is_allowed, quote}
use Rattle.stream_lex.specs.grammar.Expressions.{Expression, all_said, concat_of}
use Rattle.stream_lex.specs.grammar.Grammar.{told, text_token, numeric, named, expects, after_a, entity_reference, any_reference, equals}
use Rattle.stream_lex.specs.grammar.Grammar.{value_part, quoted, attribute_text, tag_end, tag, end_tag, bracket, clump, clumps, section}
use Rattle.stream_lex.specs.grammar.Grammar.{plain, plain_after, brackets, run, char_data, markup, content, rest_of_first_tag, prolog}
use Rattle.stream_lex.specs.grammar.Grammar.{declaration_end, choice, in_quotes, standalone, expects_of_charset, is_either_case, charset}
use Rattle.stream_lex.specs.grammar.Grammar.{charset_end, charset_value, encoding, rest_of_minor, version_value, version}
use Rattle.stream_lex.specs.grammar.Grammar.{rest_of_declaration, document}
use Rattle.stream_lex.proofs.Lists.{false-true}
use Rattle.stream_lex.proofs.Derivative.{concat_of-from}
use Rattle.stream_laws.proofs.ProperTokens.{EndsName, may, name_after, Checks, Pass, pass-silent, pass-concat, pass-union}
use Rattle.stream_laws.proofs.ProperTokens.{pass-star, pass-tells, pass-told, pass-refused, pass-refused_symbol, pass-spaces}
use Rattle.stream_laws.proofs.ProperTokens.{pass-word, pass-digits, pass-name, allowed-kind}

pass-join : (p q : Expression) → Pass p → Pass q → Pass (concat_of p q)
pass-join p q a b = λ n e cs ms m. pass-concat p q a b n e cs ms (concat_of-from p q cs ms m)

-- Characters.

plain-allowed : (k : Kind) → is_plain k ≡ true → is_allowed k ≡ true
plain-allowed kinds.Less h = false-true h
plain-allowed kinds.Ampersand h = false-true h
plain-allowed kinds.RightBracket h = false-true h
plain-allowed k h = h

after-allowed : (k : Kind) → is_plain_after k ≡ true → is_allowed k ≡ true
after-allowed kinds.Greater h = false-true h
after-allowed k h = plain-allowed k h

cdata-allowed : (k : Kind) → is_cdata k ≡ true → is_allowed k ≡ true
cdata-allowed kinds.RightBracket h = false-true h
cdata-allowed k h = h

cdata_after-allowed : (k : Kind) → is_cdata_after k ≡ true → is_allowed k ≡ true
cdata_after-allowed kinds.Greater h = false-true h
cdata_after-allowed k h = cdata-allowed k h

value-allowed : (q : Quote) (k : Kind) → is_value_character q k ≡ true → is_allowed k ≡ true
value-allowed q kinds.Less h = false-true h
value-allowed q kinds.Ampersand h = false-true h
value-allowed q kinds.Space h = false-true h
value-allowed Double kinds.Quotation h = false-true h
value-allowed Single kinds.Apostrophe h = false-true h
value-allowed Double k h = h
value-allowed Single k h = h

-- References.

text-may : (p : Context) (c : ℕ) → is_xml c ≡ true → (n : List ℕ) → may n (text_token p c) × (name_after n (text_token p c) ≡ [])
text-may Words c h n = (h, refl)
text-may (Value q) c h n = (h, refl)

text-told : (p : Context) (c : ℕ) → is_xml c ≡ true → (n : List ℕ) → EndsName n → (m : List ℕ) × EndsName m × Checks n (all_said (text_token p c ∷ [])) m
text-told p c h n e = ([], inl refl, text-may p c h n)

pass-numeric : (p : Context) → Pass (numeric p)
pass-numeric p = pass-union _ _ (pass-digits Decimal (λ c. text_token p c ∷ []) (text-told p))
    (pass-concat _ _ (pass-silent _) (pass-digits Hexadecimal (λ c. text_token p c ∷ []) (text-told p)))

pass-named : (p : Context) (c : ℕ) → is_xml c ≡ true → Pass (named p c)
pass-named p c h = pass-union _ _ (pass-told kinds.Semicolon (text_token p c) (λ n e. text-may p c h n)) (pass-refused _)

pass-expects : (k : Kind) (q : Expression) → Pass q → Pass (expects k q)
pass-expects k q h = pass-union _ _ (pass-concat _ q (pass-silent _) h) (pass-refused _)

pass-after_a : (p : Context) → Pass (after_a p)
pass-after_a p =
    pass-union _ _ (pass-concat _ _ (pass-silent _) (pass-expects kinds.SmallP (named p 38) (pass-named p 38 refl)))
    (pass-union _ _ (pass-concat _ _ (pass-silent _)
    (pass-expects kinds.SmallO (expects kinds.SmallS (named p 39)) (pass-expects kinds.SmallS (named p 39) (pass-named p 39 refl)))) (pass-refused _))

pass-entity : (p : Context) → Pass (entity_reference p)
pass-entity p =
    pass-union _ _ (pass-concat _ _ (pass-silent _) (pass-after_a p))
    (pass-union _ _ (pass-concat _ _ (pass-silent _) (pass-expects kinds.SmallT (named p 60) (pass-named p 60 refl)))
    (pass-union _ _ (pass-concat _ _ (pass-silent _) (pass-expects kinds.SmallT (named p 62) (pass-named p 62 refl)))
    (pass-union _ _ (pass-concat _ _ (pass-silent _) (pass-expects kinds.SmallU (expects kinds.SmallO (expects kinds.SmallT (named p 34)))
    (pass-expects kinds.SmallO (expects kinds.SmallT (named p 34)) (pass-expects kinds.SmallT (named p 34) (pass-named p 34 refl))))) (pass-refused _))))

pass-reference : (p : Context) → Pass (any_reference p)
pass-reference p = pass-concat _ _ (pass-silent _) (pass-union _ _ (pass-concat _ _ (pass-silent _) (pass-numeric p)) (pass-entity p))

-- Tags.

pass-equals : (q : Expression) → Pass q → Pass (equals q)
pass-equals q h = pass-concat _ _ pass-spaces (pass-concat _ _ (pass-silent _) (pass-concat _ q pass-spaces h))

pass-value : (q : Quote) → Pass (value_part q)
pass-value q =
    pass-union _ _ (pass-tells (is_value_character q) (λ c. text_token (Value q) c ∷ [])
    (λ c h. text-told (Value q) c (allowed-kind c (value-allowed q (kind c) h))))
    (pass-union _ _ (pass-told kinds.Space (text_token (Value q) 32) (λ n e. text-may (Value q) 32 refl n)) (pass-reference (Value q)))

pass-quoted : (q : Quote) → Pass (quoted q)
pass-quoted q =
    pass-concat _ _ (pass-told (quote q) token.ValueOpens (λ n e. (e, refl)))
    (pass-concat _ _ (pass-star _ (pass-value q)) (pass-told (quote q) token.ValueEnds (λ n e. (tt, refl))))

pass-attribute : Pass attribute_text
pass-attribute = pass-concat _ _ (pass-silent _)
    (pass-concat _ _ pass-spaces (pass-concat _ _ (pass-name Attribute) (pass-equals _ (pass-union _ _ (pass-quoted Double) (pass-quoted Single)))))

pass-tag_end : Pass tag_end
pass-tag_end = pass-union _ _ (pass-told kinds.Greater (token.TagEnds false) (λ n e. (e, refl)))
    (pass-concat _ _ (pass-silent _) (pass-told kinds.Greater (token.TagEnds true) (λ n e. (e, refl))))

pass-tag : Pass tag
pass-tag = pass-concat _ _ (pass-name StartTag) (pass-concat _ _ (pass-star _ pass-attribute) (pass-concat _ _ pass-spaces pass-tag_end))

pass-end : Pass end_tag
pass-end = pass-concat _ _ (pass-silent _)
    (pass-concat _ _ (pass-name EndTag) (pass-concat _ _ pass-spaces (pass-told kinds.Greater token.CloseEnds (λ n e. (e, refl)))))

-- CDATA.

pass-bracket : Pass brackets
pass-bracket = pass-star _ (pass-told kinds.RightBracket bracket (λ n e. (refl, refl)))

pass-clump : Pass clump
pass-clump =
    pass-concat _ _ (pass-star _
    (pass-union _ _ (pass-tells is_cdata (λ c. token.Word c ∷ []) (λ c h n e. ([], inl refl, (allowed-kind c (cdata-allowed (kind c) h), refl))))
    (pass-concat _ _ (pass-silent _)
    (pass-tells is_cdata (λ c. bracket ∷ token.Word c ∷ []) (λ c h n e. ([], inl refl, (refl, (allowed-kind c (cdata-allowed (kind c) h), refl))))))))
    (pass-concat _ _ (pass-silent _) (pass-concat _ _ (pass-silent _) pass-bracket))

pass-clumps : Pass clumps
pass-clumps =
    pass-star _ (pass-concat _ _
    (pass-tells is_cdata_after (λ c. bracket ∷ bracket ∷ token.Word c ∷ [])
    (λ c h n e. ([], inl refl, (refl, (refl, (allowed-kind c (cdata_after-allowed (kind c) h), refl)))))) pass-clump)

pass-section : Pass section
pass-section = pass-concat _ _ (pass-silent _) (pass-word (codes "CDATA[") _ (pass-concat _ _ pass-clump (pass-concat _ _ pass-clumps (pass-silent _))))

-- Content.

pass-plain : Pass plain
pass-plain = pass-tells is_plain (λ c. token.Word c ∷ []) (λ c h n e. ([], inl refl, (allowed-kind c (plain-allowed (kind c) h), refl)))

pass-plain_after : Pass plain_after
pass-plain_after = pass-tells is_plain_after (λ c. token.Word c ∷ []) (λ c h n e. ([], inl refl, (allowed-kind c (after-allowed (kind c) h), refl)))

pass-one_bracket : Pass (told kinds.RightBracket bracket)
pass-one_bracket = pass-told kinds.RightBracket bracket (λ n e. (refl, refl))

pass-run : Pass run
pass-run = pass-union _ _ pass-plain
    (pass-concat _ _ pass-one_bracket (pass-union _ _ pass-plain (pass-concat _ _ pass-one_bracket (pass-concat _ _ pass-bracket pass-plain_after))))

pass-char_data : Pass char_data
pass-char_data = pass-concat _ _ (pass-star _ pass-run) pass-bracket

pass-markup : Pass markup
pass-markup = pass-concat _ _ (pass-silent _)
    (pass-union _ _ pass-tag (pass-union _ _ pass-end
    (pass-union _ _ (pass-concat _ _ (pass-silent _) (pass-union _ _ pass-section (pass-refused _))) (pass-refused _))))

pass-content : Pass content
pass-content = pass-join char_data _ pass-char_data (pass-star _ (pass-concat _ _ (pass-union _ _ pass-markup (pass-reference Words)) pass-char_data))

-- The beginning.

pass-first_tag : (P : Kind → Bool) → Pass (rest_of_first_tag P)
pass-first_tag P = pass-concat _ _ (pass-union _ _ pass-tag (pass-refused P)) pass-content

pass-prolog : Pass prolog
pass-prolog = pass-concat _ _ pass-spaces (pass-concat _ _ (pass-silent _) (pass-first_tag _))

pass-declaration_end : Pass declaration_end
pass-declaration_end = pass-concat _ _ pass-spaces
    (pass-concat _ _ (pass-silent _) (pass-concat _ _ (pass-told kinds.Greater token.Declaration (λ n e. (tt, refl))) pass-prolog))

pass-choice : (q : Quote) → Pass (choice q)
pass-choice q =
    pass-union _ _ (pass-concat _ _ (pass-silent _) (pass-word (codes "es") _ (pass-concat _ _ (pass-silent _) pass-declaration_end)))
    (pass-concat _ _ (pass-silent _) (pass-word (codes "o") _ (pass-concat _ _ (pass-silent _) pass-declaration_end)))

pass-quotes : (p : Quote → Expression) → ((q : Quote) → Pass (p q)) → Pass (in_quotes p)
pass-quotes p h = pass-union _ _ (pass-concat _ (p Double) (pass-silent _) (h Double)) (pass-concat _ (p Single) (pass-silent _) (h Single))

pass-standalone : Pass standalone
pass-standalone = pass-concat _ _ (pass-silent _)
    (pass-concat _ _ pass-spaces (pass-concat _ _ (pass-silent _) (pass-word (codes "tandalone") _ (pass-equals _ (pass-quotes choice pass-choice)))))

pass-of_charset : (P : Kind → ℕ → Bool) (q : Expression) → Pass q → Pass (expects_of_charset P q)
pass-of_charset P q h = pass-union _ _ (pass-concat _ q (pass-silent P) h) (pass-concat _ _ (pass-refused_symbol (λ k c. not (P k c)) BadEncoding) pass-prolog)

pass-charset : (ds : List ℕ) (q : Expression) → Pass q → Pass (charset ds q)
pass-charset [] q h = h
pass-charset (d ∷ ds) q h = pass-of_charset (is_either_case d) (charset ds q) (pass-charset ds q h)

pass-charset_end : (q : Quote) → Pass (charset_end q)
pass-charset_end q = pass-of_charset _ _ (pass-union _ _ pass-standalone pass-declaration_end)

pass-encoding : Pass encoding
pass-encoding =
    pass-concat _ _ (pass-silent _)
    (pass-concat _ _ pass-spaces
    (pass-concat _ _ (pass-silent _)
    (pass-word (codes "ncoding") _ (pass-equals _ (pass-quotes charset_value (λ q. pass-charset (codes "utf-8") (charset_end q) (pass-charset_end q)))))))

pass-minor : (q : Quote) → Pass (rest_of_minor q)
pass-minor q = pass-concat _ _ (pass-star _ (pass-silent _))
    (pass-concat _ _ (pass-silent _) (pass-union _ _ pass-encoding (pass-union _ _ pass-standalone pass-declaration_end)))

pass-version_value : (q : Quote) → Pass (version_value q)
pass-version_value q = pass-word (codes "1.") _ (pass-concat _ _ (pass-silent _) (pass-minor q))

pass-version : Pass version
pass-version = pass-concat _ _ (pass-silent _)
    (pass-concat _ _ pass-spaces
    (pass-concat _ _ (pass-silent _) (pass-word (codes "ersion") _ (pass-equals _ (pass-quotes version_value pass-version_value)))))

pass-declaration : Pass rest_of_declaration
pass-declaration = pass-concat _ _ (pass-silent _) (pass-word (codes "xml") version pass-version)

pub pass-document : Pass document
pass-document = pass-union _ _ (pass-concat _ _ (pass-silent _) pass-declaration)
    (pass-union _ _ (pass-concat _ _ (pass-silent _) pass-prolog) (pass-concat _ _ (pass-silent _) (pass-first_tag _)))
