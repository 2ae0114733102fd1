-- The rest of a text at each stage.
use Rattle.std.specs.Prelude.{ℕ, List, [], ◌∷◌, drop, true}
use Rattle.stream_lex.specs.declared.Token.TheVariants as token
use Rattle.stream_lex.specs.declared.kinds.Kind.TheVariants as kinds
use Rattle.stream_lex.specs.declared.stages.Quote.{Quote}
use Rattle.stream_lex.specs.declared.stages.Quote.TheVariants.{Double, Single}
use Rattle.stream_lex.specs.declared.stages.Context.{Context}
use Rattle.stream_lex.specs.declared.stages.Context.TheVariants.{Words, Value}
use Rattle.stream_lex.specs.declared.stages.NameOwner.{NameOwner}
use Rattle.stream_lex.specs.declared.stages.NameOwner.TheVariants.{StartTag, EndTag, Attribute}
use Rattle.stream_lex.specs.declared.stages.Half.TheVariants.{Prefix, Local}
use Rattle.stream_lex.specs.declared.stages.Brackets.{Brackets}
use Rattle.stream_lex.specs.declared.stages.Brackets.TheVariants.{One, Many}
use Rattle.stream_lex.specs.declared.stages.Base.TheVariants.{Hexadecimal}
use Rattle.stream_lex.specs.declared.stages.EntityName.{EntityName}
use Rattle.stream_lex.specs.declared.stages.EntityName.TheVariants as entity_name
use Rattle.stream_lex.specs.declared.stages.Info.{Info}
use Rattle.stream_lex.specs.declared.stages.Info.TheVariants.{Version, Encoding, Standalone}
use Rattle.stream_lex.specs.declared.stages.Literal.{Literal}
use Rattle.stream_lex.specs.declared.stages.Literal.TheVariants as literal
use Rattle.stream_lex.specs.declared.stages.Stage.{Stage}
use Rattle.stream_lex.specs.declared.stages.Stage.TheVariants as stage
use Rattle.stream_lex.specs.grammar.Kinds.{is_kind, is_cdata, quote}
use Rattle.stream_lex.specs.grammar.Expressions.{all_said, Expression, digits, number, concat, union, star, concat_of}
use Rattle.stream_lex.specs.grammar.Grammar.{a, optional, tells, told, optional_space, word, further_character, local, colon, qualified_name}
use Rattle.stream_lex.specs.grammar.Grammar.{numeric, named, expects, after_a, rest_of_reference, any_reference, value_part, quoted}
use Rattle.stream_lex.specs.grammar.Grammar.{attribute_text, tag_end, text_token, bracket, clump, clumps, plain, plain_after, brackets}
use Rattle.stream_lex.specs.grammar.Grammar.{char_data, rest_of_bang, rest_of_markup, markup, content, rest_of_first_tag, is_prolog_refused}
use Rattle.stream_lex.specs.grammar.Grammar.{prolog, declaration_end, choice, in_quotes, standalone, standalone_word, charset, charset_end}
use Rattle.stream_lex.specs.grammar.Grammar.{charset_value, rest_of_minor, encoding, encoding_word, version, version_word, version_value}
use Rattle.stream_lex.specs.grammar.Grammar.{rest_of_declaration, document}
use Rattle.stream_lex.specs.machine.Machine.{letters}

-- after content
abbrev pub parts : Expression
parts = star (concat (union markup (any_reference Words)) char_data)

-- after brackets in words: where the words go on, and where they end
abbrev pub rest_of_bracketed : Brackets → Expression
rest_of_bracketed One = concat (union plain (concat (told kinds.RightBracket bracket) (concat brackets plain_after))) content
rest_of_bracketed Many = concat brackets (concat plain_after content)

abbrev pub bracketed_end : Expression
bracketed_end = concat brackets parts

abbrev pub tag_space_end : Expression
tag_space_end = concat optional_space (concat tag_end content)

abbrev pub rest_of_tag : Expression
rest_of_tag = concat (star attribute_text) tag_space_end

abbrev pub rest_of_text : Context → Expression
rest_of_text Words = content
rest_of_text (Value q) = concat (star (value_part q)) (concat (told (quote q) token.ValueEnds) rest_of_tag)

abbrev pub rest_of_entity : EntityName → Context → Expression
rest_of_entity entity_name.Empty p = rest_of_reference p
rest_of_entity entity_name.A p = after_a p
rest_of_entity entity_name.Am p = expects kinds.SmallP (named p 38)
rest_of_entity entity_name.Amp p = named p 38
rest_of_entity entity_name.Ap p = expects kinds.SmallO (expects kinds.SmallS (named p 39))
rest_of_entity entity_name.Apo p = expects kinds.SmallS (named p 39)
rest_of_entity entity_name.Apos p = named p 39
rest_of_entity entity_name.L p = expects kinds.SmallT (named p 60)
rest_of_entity entity_name.Lt p = named p 60
rest_of_entity entity_name.G p = expects kinds.SmallT (named p 62)
rest_of_entity entity_name.Gt p = named p 62
rest_of_entity entity_name.Q p = expects kinds.SmallU (expects kinds.SmallO (expects kinds.SmallT (named p 34)))
rest_of_entity entity_name.Qu p = expects kinds.SmallO (expects kinds.SmallT (named p 34))
rest_of_entity entity_name.Quo p = expects kinds.SmallT (named p 34)
rest_of_entity entity_name.Quot p = named p 34

abbrev pub rest_of_end_tag : Expression
rest_of_end_tag = concat optional_space (concat (told kinds.Greater token.CloseEnds) content)

abbrev pub rest_of_value : Expression
rest_of_value = concat optional_space (concat (union (quoted Double) (quoted Single)) rest_of_tag)

abbrev pub rest_of_attribute : Expression
rest_of_attribute = concat optional_space (concat (a kinds.Equals) rest_of_value)

abbrev pub rest_of_name : NameOwner → Expression
rest_of_name StartTag = rest_of_tag
rest_of_name EndTag = rest_of_end_tag
rest_of_name Attribute = rest_of_attribute

abbrev pub cdata_tail : Expression
cdata_tail = concat clumps (concat (a kinds.Greater) content)

abbrev pub rest_of_cdata : Expression
rest_of_cdata = concat_of clump cdata_tail

abbrev pub cdata_two : Expression
cdata_two = concat (star (told kinds.RightBracket bracket)) cdata_tail

-- the declaration
abbrev pub rest_of_info_value : Info → Quote → Expression
rest_of_info_value Version q = version_value q
rest_of_info_value Encoding q = charset_value q
rest_of_info_value Standalone q = choice q

abbrev pub rest_of_info_equals : Info → Expression
rest_of_info_equals i = concat optional_space (in_quotes (rest_of_info_value i))

abbrev pub rest_after_info : Info → Expression
rest_after_info Version = union encoding (union standalone declaration_end)
rest_after_info Encoding = union standalone declaration_end
rest_after_info Standalone = declaration_end

abbrev pub rest_after_info_space : Info → Expression
rest_after_info_space Version = union encoding_word (union standalone_word declaration_end)
rest_after_info_space Encoding = union standalone_word declaration_end
rest_after_info_space Standalone = declaration_end

-- after a fixed word, and from some of its bytes on
abbrev pub rest_of_literal : Literal → Expression
rest_of_literal literal.Xml = version
rest_of_literal (literal.Name i) = concat optional_space (concat (a kinds.Equals) (rest_of_info_equals i))
rest_of_literal (literal.Major q) = concat (a kinds.Digit) (rest_of_minor q)
rest_of_literal (literal.Charset q) = charset_end q
rest_of_literal (literal.Yes q) = concat (a (quote q)) declaration_end
rest_of_literal (literal.No q) = concat (a (quote q)) declaration_end
rest_of_literal literal.Cdata = rest_of_cdata

abbrev pub rest_of_fixed : Literal → List ℕ → Expression
rest_of_fixed (literal.Charset q) ds = charset ds (charset_end q)
rest_of_fixed w ds = word ds (rest_of_literal w)

-- the texts that may still come at a stage
unfoldable pub rest_at : Stage → Expression
rest_at stage.Start = document
rest_at stage.StartLess = union rest_of_declaration (rest_of_first_tag (is_kind kinds.Bang))
rest_at stage.Prolog = prolog
rest_at stage.PrologLess = rest_of_first_tag is_prolog_refused
rest_at (stage.Fixed w at) = rest_of_fixed w (drop at (letters w))
rest_at stage.XmlSeen = version
rest_at stage.XmlSpace = version_word
rest_at (stage.InfoName i) = rest_of_literal (literal.Name i)
rest_at (stage.InfoEquals i) = rest_of_info_equals i
rest_at (stage.MinorFirst q) = rest_of_literal (literal.Major q)
rest_at (stage.Minor q) = rest_of_minor q
rest_at (stage.CharsetSeen q) = charset_end q
rest_at (stage.Choice q) = choice q
rest_at (stage.Chosen q) = concat (a (quote q)) declaration_end
rest_at (stage.InfoEnds i) = rest_after_info i
rest_at (stage.InfoSpace i) = rest_after_info_space i
rest_at stage.DeclarationMark = concat (told kinds.Greater token.Declaration) prolog
rest_at (stage.Text p) = rest_of_text p
rest_at (stage.Bracketed b) = union (rest_of_bracketed b) bracketed_end
rest_at stage.Less = concat rest_of_markup content
rest_at stage.Bang = concat rest_of_bang content
rest_at stage.Cdata = rest_of_cdata
rest_at (stage.CdataBracketed One) = union (concat (tells is_cdata (λ c. bracket ∷ token.Word c ∷ [])) rest_of_cdata) (concat (a kinds.RightBracket) cdata_two)
rest_at (stage.CdataBracketed Many) = cdata_two
rest_at (stage.Reference p l) = concat (rest_of_entity l p) (rest_of_text p)
rest_at (stage.Hash p) = concat (numeric p) (rest_of_text p)
rest_at (stage.HashX p) = concat (digits Hexadecimal (λ c. all_said (text_token p c ∷ []))) (rest_of_text p)
rest_at (stage.Number p base v) = concat (number base (λ c. all_said (text_token p c ∷ [])) v) (rest_of_text p)
rest_at stage.EndTagMark = concat_of (qualified_name EndTag) rest_of_end_tag
rest_at (stage.Name r Prefix) = concat (star (further_character r)) (concat (optional (concat (colon r) (local r))) (rest_of_name r))
rest_at (stage.Name r Local) = concat (star (further_character r)) (rest_of_name r)
rest_at (stage.Colon r) = concat_of (local r) (rest_of_name r)
rest_at stage.InTag = union (concat optional_space (concat_of (qualified_name Attribute) rest_of_attribute)) tag_space_end
rest_at stage.ValueEnded = rest_of_tag
rest_at stage.EmptyTagMark = concat (told kinds.Greater (token.TagEnds true)) content
rest_at stage.AttrNamed = rest_of_attribute
rest_at stage.ValueAwaited = rest_of_value
rest_at stage.EndTagNamed = rest_of_end_tag

-- what would follow what is refused there
unfoldable pub beyond_refusal : Stage → Expression
beyond_refusal (stage.Reference p l) = rest_of_text p
beyond_refusal (stage.Fixed w at) = prolog
beyond_refusal (stage.CharsetSeen q) = prolog
beyond_refusal s = content
