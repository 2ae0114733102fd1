-- What a stage's tokens can be: the stages fall into eight sorts, and each byte leads from one to another by few tokens.
use Rattle.std.proofs.Common.{◌≡◌, ℕ, ◌+◌, ◌*◌, List, [], ◌∷◌, length, get_or, refl, Bool, true, false, not, cond, ◌&&◌, ◌||◌, nat_lt}
use Rattle.std.proofs.lemmas.Bool.{cond_both}
use Rattle.stream_lex.specs.declared.Token.{Token}
use Rattle.stream_lex.specs.declared.Token.TheVariants as token
use Rattle.stream_lex.specs.declared.LexFault.TheVariants.{NotWellFormed}
use Rattle.stream_lex.specs.declared.kinds.Kind.{Kind}
use Rattle.stream_lex.specs.declared.kinds.Kind.TheVariants as kinds
use Rattle.stream_lex.specs.declared.stages.Quote.{Quote}
use Rattle.stream_lex.specs.declared.stages.Quote.TheVariants.{Double, Single}
use Rattle.stream_lex.specs.declared.stages.Context.{Context}
use Rattle.stream_lex.specs.declared.stages.Context.TheVariants.{Words, Value}
use Rattle.stream_lex.specs.declared.stages.NameOwner.{NameOwner}
use Rattle.stream_lex.specs.declared.stages.NameOwner.TheVariants.{StartTag, EndTag, Attribute}
use Rattle.stream_lex.specs.declared.stages.Half.{Half}
use Rattle.stream_lex.specs.declared.stages.Half.TheVariants.{Prefix, Local}
use Rattle.stream_lex.specs.declared.stages.Brackets.{Brackets}
use Rattle.stream_lex.specs.declared.stages.Brackets.TheVariants.{One, Many}
use Rattle.stream_lex.specs.declared.stages.Base.{Base}
use Rattle.stream_lex.specs.declared.stages.Base.TheVariants.{Hexadecimal}
use Rattle.stream_lex.specs.declared.stages.EntityName.{EntityName}
use Rattle.stream_lex.specs.declared.stages.EntityName.TheVariants as entity_name
use Rattle.stream_lex.specs.declared.stages.Info.{Info}
use Rattle.stream_lex.specs.declared.stages.Info.TheVariants.{Version, Encoding, Standalone}
use Rattle.stream_lex.specs.declared.stages.Literal.{Literal}
use Rattle.stream_lex.specs.declared.stages.Literal.TheVariants as literal
use Rattle.stream_lex.specs.declared.stages.Stage.{Stage}
use Rattle.stream_lex.specs.declared.stages.Stage.TheVariants as stage
use Rattle.stream_lex.specs.grammar.Classes.{is_xml}
use Rattle.stream_lex.specs.grammar.Kinds.{is_digit, digit, base_of}
use Rattle.stream_lex.specs.grammar.Grammar.{text_token}
use Rattle.stream_lex.specs.machine.Machine.{Turn, goes, stops, letters, fixed_end, fixed_fault, is_fixed, in_fixed}
use Rattle.stream_lex.specs.machine.Machine.{in_declaration, in_reference, in_number, in_name, in_tag, ascii}
use Rattle.stream_lex.specs.machine.Machine.{yields as tells_and_goes}
use Rattle.stream_grammar.specs.machine.Sorts.{Sort, at_begin, at_prolog, at_content, at_name, at_tag, at_attribute, at_value, at_ending}
use Rattle.stream_grammar.specs.machine.Sorts.{text_sort, fixed_sort, sort}

abbrev pub may_move : Sort → List Token → Sort → Bool
may_move at_begin [] at_begin = true
may_move at_begin [] at_prolog = true
may_move at_begin (token.TagOpens b ∷ []) at_name = true
may_move at_begin (token.Declaration ∷ []) at_prolog = true
may_move at_prolog [] at_prolog = true
may_move at_prolog (token.TagOpens b ∷ []) at_name = true
may_move at_content [] at_content = true
may_move at_content (token.Word c ∷ ts) at_content = may_move at_content ts at_content
may_move at_content (token.TagOpens b ∷ []) at_name = true
may_move at_content (token.CloseOpens b ∷ []) at_ending = true
may_move at_name [] at_tag = true
may_move at_name (token.NameByte b ∷ []) at_name = true
may_move at_name (token.TagEnds e ∷ []) at_content = true
may_move at_tag [] at_tag = true
may_move at_tag (token.AttrOpens b ∷ []) at_attribute = true
may_move at_tag (token.TagEnds e ∷ []) at_content = true
may_move at_attribute [] at_attribute = true
may_move at_attribute (token.AttrByte b ∷ []) at_attribute = true
may_move at_attribute (token.ValueOpens ∷ []) at_value = true
may_move at_value [] at_value = true
may_move at_value (token.Value c ∷ []) at_value = true
may_move at_value (token.ValueEnds ∷ []) at_tag = true
may_move at_ending [] at_ending = true
may_move at_ending (token.NameByte b ∷ []) at_ending = true
may_move at_ending (token.CloseEnds ∷ []) at_content = true
may_move x ts y = false

-- the byte that a name's token has, or c
abbrev pub own_byte : ℕ → List Token → ℕ
own_byte c (token.TagOpens x ∷ ts) = x
own_byte c (token.CloseOpens x ∷ ts) = x
own_byte c (token.NameByte x ∷ ts) = x
own_byte c ts = c

abbrev pub has_name : List Token → Bool
has_name (token.TagOpens x ∷ ts) = true
has_name (token.CloseOpens x ∷ ts) = true
has_name (token.NameByte x ∷ ts) = true
has_name (token.CloseEnds ∷ ts) = true
has_name ts = false

abbrev pub is_opening : List Token → Bool
is_opening (token.TagOpens x ∷ ts) = true
is_opening (token.CloseOpens x ∷ ts) = true
is_opening ts = false

-- the stage of an end tag's name that is like one of a tag's name
abbrev pub twin_stage : Stage → Stage
twin_stage (stage.Name StartTag h) = stage.Name EndTag h
twin_stage (stage.Colon StartTag) = stage.Colon EndTag
twin_stage stage.StartLess = stage.EndTagMark
twin_stage stage.PrologLess = stage.EndTagMark
twin_stage stage.Less = stage.EndTagMark
twin_stage s = s

abbrev pub twin_tokens : List Token → List Token
twin_tokens (token.TagOpens x ∷ ts) = token.CloseOpens x ∷ ts
twin_tokens ts = ts

abbrev pub twin_turn : Turn → Turn
twin_turn (goes t) = goes (twin_stage t)
twin_turn (tells_and_goes ts t) = tells_and_goes (twin_tokens ts) (twin_stage t)
twin_turn (stops f) = stops f

abbrev pub turn_opens : Turn → Bool
turn_opens (tells_and_goes ts t) = is_opening ts
turn_opens t = false

-- u, where t opens a tag
abbrev pub where_opens : Turn → Turn → Turn
where_opens t u = cond (turn_opens t) u (stops NotWellFormed)

abbrev pub turn_own : ℕ → Turn → ℕ
turn_own c (tells_and_goes ts t) = own_byte c ts
turn_own c t = c

abbrev pub turn_moves : Sort → Turn → Bool
turn_moves x (goes t) = may_move x [] (sort t)
turn_moves x (tells_and_goes ts t) = may_move x ts (sort t)
turn_moves x (stops f) = true

-- the end of a tag or of an end tag
abbrev pub is_end : List Token → Bool
is_end (token.TagEnds e ∷ ts) = true
is_end (token.CloseEnds ∷ ts) = true
is_end ts = false

-- the same turn, to words
abbrev pub to_words : Turn → Turn
to_words (tells_and_goes ts t) = tells_and_goes ts (stage.Text Words)
to_words t = t

abbrev pub turn_ends : Turn → Bool
turn_ends (tells_and_goes ts t) = is_end ts
turn_ends t = false

-- u, where t ends a tag or an end tag
abbrev pub where_ends : Turn → Turn → Turn
where_ends t u = cond (turn_ends t) u (stops NotWellFormed)

-- the stages after the `<` of a tag
abbrev pub is_less : Stage → Bool
is_less stage.StartLess = true
is_less stage.PrologLess = true
is_less stage.Less = true
is_less s = false

abbrev pub is_less_kind : Kind → Bool
is_less_kind kinds.Less = true
is_less_kind k = false

abbrev pub to_less : Turn → Bool
to_less (goes t) = is_less t
to_less (tells_and_goes ts t) = is_less t
to_less (stops f) = false

abbrev pub opens : List Token → Bool
opens (token.TagOpens x ∷ ts) = true
opens ts = false

abbrev pub opens_tag : Turn → Bool
opens_tag (tells_and_goes ts t) = opens ts
opens_tag t = false

-- what is known of a turn: its sort, its byte, that the twin of what opens a tag opens an end tag, and where the end of a tag leads; that only
-- a `<` leads to where a tag opens, and that it opens only there
abbrev pub Known : Stage → Kind → ℕ → Turn → Type 0
Known s k c t = (turn_moves (sort s) t ≡ true) × (turn_own c t ≡ c) × (where_opens t (ascii stage.EndTagMark k c) ≡ where_opens t (twin_turn t))
    × (where_ends t (to_words t) ≡ where_ends t t)
    × ((not (to_less t) || is_less_kind k) ≡ true) × ((not (opens_tag t) || is_less s) ≡ true)

moves-Start : (k : Kind) (c : ℕ) → Known stage.Start k c (ascii stage.Start k c)
unfolding ascii in_declaration in_reference in_number in_name in_tag
moves-Start kinds.Space c = (refl, refl, refl, refl, refl, refl)
moves-Start k c = (refl, refl, refl, refl, refl, refl)

moves-StartLess : (k : Kind) (c : ℕ) → Known stage.StartLess k c (ascii stage.StartLess k c)
unfolding ascii in_declaration in_reference in_number in_name in_tag
moves-StartLess kinds.Space c = (refl, refl, refl, refl, refl, refl)
moves-StartLess k c = (refl, refl, refl, refl, refl, refl)

moves-Prolog : (k : Kind) (c : ℕ) → Known stage.Prolog k c (ascii stage.Prolog k c)
unfolding ascii in_declaration in_reference in_number in_name in_tag
moves-Prolog kinds.Space c = (refl, refl, refl, refl, refl, refl)
moves-Prolog k c = (refl, refl, refl, refl, refl, refl)

moves-PrologLess : (k : Kind) (c : ℕ) → Known stage.PrologLess k c (ascii stage.PrologLess k c)
unfolding ascii in_declaration in_reference in_number in_name in_tag
moves-PrologLess kinds.Space c = (refl, refl, refl, refl, refl, refl)
moves-PrologLess k c = (refl, refl, refl, refl, refl, refl)

moves-XmlSeen : (k : Kind) (c : ℕ) → Known stage.XmlSeen k c (ascii stage.XmlSeen k c)
unfolding ascii in_declaration in_reference in_number in_name in_tag
moves-XmlSeen kinds.Space c = (refl, refl, refl, refl, refl, refl)
moves-XmlSeen k c = (refl, refl, refl, refl, refl, refl)

moves-XmlSpace : (k : Kind) (c : ℕ) → Known stage.XmlSpace k c (ascii stage.XmlSpace k c)
unfolding ascii in_declaration in_reference in_number in_name in_tag
moves-XmlSpace kinds.Space c = (refl, refl, refl, refl, refl, refl)
moves-XmlSpace k c = (refl, refl, refl, refl, refl, refl)

moves-DeclarationMark : (k : Kind) (c : ℕ) → Known stage.DeclarationMark k c (ascii stage.DeclarationMark k c)
unfolding ascii in_declaration in_reference in_number in_name in_tag
moves-DeclarationMark kinds.Space c = (refl, refl, refl, refl, refl, refl)
moves-DeclarationMark k c = (refl, refl, refl, refl, refl, refl)

moves-Less : (k : Kind) (c : ℕ) → Known stage.Less k c (ascii stage.Less k c)
unfolding ascii in_declaration in_reference in_number in_name in_tag
moves-Less kinds.Space c = (refl, refl, refl, refl, refl, refl)
moves-Less k c = (refl, refl, refl, refl, refl, refl)

moves-Bang : (k : Kind) (c : ℕ) → Known stage.Bang k c (ascii stage.Bang k c)
unfolding ascii in_declaration in_reference in_number in_name in_tag
moves-Bang kinds.Space c = (refl, refl, refl, refl, refl, refl)
moves-Bang k c = (refl, refl, refl, refl, refl, refl)

moves-Cdata : (k : Kind) (c : ℕ) → Known stage.Cdata k c (ascii stage.Cdata k c)
unfolding ascii in_declaration in_reference in_number in_name in_tag
moves-Cdata kinds.Space c = (refl, refl, refl, refl, refl, refl)
moves-Cdata k c = (refl, refl, refl, refl, refl, refl)

moves-EndTagMark : (k : Kind) (c : ℕ) → Known stage.EndTagMark k c (ascii stage.EndTagMark k c)
unfolding ascii in_declaration in_reference in_number in_name in_tag
moves-EndTagMark kinds.Space c = (refl, refl, refl, refl, refl, refl)
moves-EndTagMark k c = (refl, refl, refl, refl, refl, refl)

moves-InTag : (k : Kind) (c : ℕ) → Known stage.InTag k c (ascii stage.InTag k c)
unfolding ascii in_declaration in_reference in_number in_name in_tag
moves-InTag kinds.Space c = (refl, refl, refl, refl, refl, refl)
moves-InTag k c = (refl, refl, refl, refl, refl, refl)

moves-ValueEnded : (k : Kind) (c : ℕ) → Known stage.ValueEnded k c (ascii stage.ValueEnded k c)
unfolding ascii in_declaration in_reference in_number in_name in_tag
moves-ValueEnded kinds.Space c = (refl, refl, refl, refl, refl, refl)
moves-ValueEnded k c = (refl, refl, refl, refl, refl, refl)

moves-EmptyTagMark : (k : Kind) (c : ℕ) → Known stage.EmptyTagMark k c (ascii stage.EmptyTagMark k c)
unfolding ascii in_declaration in_reference in_number in_name in_tag
moves-EmptyTagMark kinds.Space c = (refl, refl, refl, refl, refl, refl)
moves-EmptyTagMark k c = (refl, refl, refl, refl, refl, refl)

moves-AttrNamed : (k : Kind) (c : ℕ) → Known stage.AttrNamed k c (ascii stage.AttrNamed k c)
unfolding ascii in_declaration in_reference in_number in_name in_tag
moves-AttrNamed kinds.Space c = (refl, refl, refl, refl, refl, refl)
moves-AttrNamed k c = (refl, refl, refl, refl, refl, refl)

moves-ValueAwaited : (k : Kind) (c : ℕ) → Known stage.ValueAwaited k c (ascii stage.ValueAwaited k c)
unfolding ascii in_declaration in_reference in_number in_name in_tag
moves-ValueAwaited kinds.Space c = (refl, refl, refl, refl, refl, refl)
moves-ValueAwaited k c = (refl, refl, refl, refl, refl, refl)

moves-EndTagNamed : (k : Kind) (c : ℕ) → Known stage.EndTagNamed k c (ascii stage.EndTagNamed k c)
unfolding ascii in_declaration in_reference in_number in_name in_tag
moves-EndTagNamed kinds.Space c = (refl, refl, refl, refl, refl, refl)
moves-EndTagNamed k c = (refl, refl, refl, refl, refl, refl)

moves-InfoName : (i : Info) (k : Kind) (c : ℕ) → Known (stage.InfoName i) k c (ascii (stage.InfoName i) k c)
unfolding ascii in_declaration in_reference in_number in_name in_tag
moves-InfoName Version kinds.Space c = (refl, refl, refl, refl, refl, refl)
moves-InfoName Version k c = (refl, refl, refl, refl, refl, refl)
moves-InfoName Encoding kinds.Space c = (refl, refl, refl, refl, refl, refl)
moves-InfoName Encoding k c = (refl, refl, refl, refl, refl, refl)
moves-InfoName Standalone kinds.Space c = (refl, refl, refl, refl, refl, refl)
moves-InfoName Standalone k c = (refl, refl, refl, refl, refl, refl)

moves-InfoEquals : (i : Info) (k : Kind) (c : ℕ) → Known (stage.InfoEquals i) k c (ascii (stage.InfoEquals i) k c)
unfolding ascii in_declaration in_reference in_number in_name in_tag
moves-InfoEquals Version kinds.Space c = (refl, refl, refl, refl, refl, refl)
moves-InfoEquals Version k c = (refl, refl, refl, refl, refl, refl)
moves-InfoEquals Encoding kinds.Space c = (refl, refl, refl, refl, refl, refl)
moves-InfoEquals Encoding k c = (refl, refl, refl, refl, refl, refl)
moves-InfoEquals Standalone kinds.Space c = (refl, refl, refl, refl, refl, refl)
moves-InfoEquals Standalone k c = (refl, refl, refl, refl, refl, refl)

moves-InfoEnds : (i : Info) (k : Kind) (c : ℕ) → Known (stage.InfoEnds i) k c (ascii (stage.InfoEnds i) k c)
unfolding ascii in_declaration in_reference in_number in_name in_tag
moves-InfoEnds Version kinds.Space c = (refl, refl, refl, refl, refl, refl)
moves-InfoEnds Version k c = (refl, refl, refl, refl, refl, refl)
moves-InfoEnds Encoding kinds.Space c = (refl, refl, refl, refl, refl, refl)
moves-InfoEnds Encoding k c = (refl, refl, refl, refl, refl, refl)
moves-InfoEnds Standalone kinds.Space c = (refl, refl, refl, refl, refl, refl)
moves-InfoEnds Standalone k c = (refl, refl, refl, refl, refl, refl)

moves-InfoSpace : (i : Info) (k : Kind) (c : ℕ) → Known (stage.InfoSpace i) k c (ascii (stage.InfoSpace i) k c)
unfolding ascii in_declaration in_reference in_number in_name in_tag
moves-InfoSpace Version kinds.Space c = (refl, refl, refl, refl, refl, refl)
moves-InfoSpace Version k c = (refl, refl, refl, refl, refl, refl)
moves-InfoSpace Encoding kinds.Space c = (refl, refl, refl, refl, refl, refl)
moves-InfoSpace Encoding k c = (refl, refl, refl, refl, refl, refl)
moves-InfoSpace Standalone kinds.Space c = (refl, refl, refl, refl, refl, refl)
moves-InfoSpace Standalone k c = (refl, refl, refl, refl, refl, refl)

moves-MinorFirst : (q : Quote) (k : Kind) (c : ℕ) → Known (stage.MinorFirst q) k c (ascii (stage.MinorFirst q) k c)
unfolding ascii in_declaration in_reference in_number in_name in_tag
moves-MinorFirst Double kinds.Space c = (refl, refl, refl, refl, refl, refl)
moves-MinorFirst Double k c = (refl, refl, refl, refl, refl, refl)
moves-MinorFirst Single kinds.Space c = (refl, refl, refl, refl, refl, refl)
moves-MinorFirst Single k c = (refl, refl, refl, refl, refl, refl)

moves-Minor : (q : Quote) (k : Kind) (c : ℕ) → Known (stage.Minor q) k c (ascii (stage.Minor q) k c)
unfolding ascii in_declaration in_reference in_number in_name in_tag
moves-Minor Double kinds.Space c = (refl, refl, refl, refl, refl, refl)
moves-Minor Double k c = (refl, refl, refl, refl, refl, refl)
moves-Minor Single kinds.Space c = (refl, refl, refl, refl, refl, refl)
moves-Minor Single k c = (refl, refl, refl, refl, refl, refl)

moves-CharsetSeen : (q : Quote) (k : Kind) (c : ℕ) → Known (stage.CharsetSeen q) k c (ascii (stage.CharsetSeen q) k c)
unfolding ascii in_declaration in_reference in_number in_name in_tag
moves-CharsetSeen Double kinds.Space c = (refl, refl, refl, refl, refl, refl)
moves-CharsetSeen Double k c = (refl, refl, refl, refl, refl, refl)
moves-CharsetSeen Single kinds.Space c = (refl, refl, refl, refl, refl, refl)
moves-CharsetSeen Single k c = (refl, refl, refl, refl, refl, refl)

moves-Choice : (q : Quote) (k : Kind) (c : ℕ) → Known (stage.Choice q) k c (ascii (stage.Choice q) k c)
unfolding ascii in_declaration in_reference in_number in_name in_tag
moves-Choice Double kinds.Space c = (refl, refl, refl, refl, refl, refl)
moves-Choice Double k c = (refl, refl, refl, refl, refl, refl)
moves-Choice Single kinds.Space c = (refl, refl, refl, refl, refl, refl)
moves-Choice Single k c = (refl, refl, refl, refl, refl, refl)

moves-Chosen : (q : Quote) (k : Kind) (c : ℕ) → Known (stage.Chosen q) k c (ascii (stage.Chosen q) k c)
unfolding ascii in_declaration in_reference in_number in_name in_tag
moves-Chosen Double kinds.Space c = (refl, refl, refl, refl, refl, refl)
moves-Chosen Double k c = (refl, refl, refl, refl, refl, refl)
moves-Chosen Single kinds.Space c = (refl, refl, refl, refl, refl, refl)
moves-Chosen Single k c = (refl, refl, refl, refl, refl, refl)

moves-Text : (p : Context) (k : Kind) (c : ℕ) → Known (stage.Text p) k c (ascii (stage.Text p) k c)
unfolding ascii in_declaration in_reference in_number in_name in_tag
moves-Text Words kinds.Space c = (refl, refl, refl, refl, refl, refl)
moves-Text Words k c = (refl, refl, refl, refl, refl, refl)
moves-Text (Value Double) kinds.Space c = (refl, refl, refl, refl, refl, refl)
moves-Text (Value Double) k c = (refl, refl, refl, refl, refl, refl)
moves-Text (Value Single) kinds.Space c = (refl, refl, refl, refl, refl, refl)
moves-Text (Value Single) k c = (refl, refl, refl, refl, refl, refl)

moves-Bracketed : (b : Brackets) (k : Kind) (c : ℕ) → Known (stage.Bracketed b) k c (ascii (stage.Bracketed b) k c)
unfolding ascii in_declaration in_reference in_number in_name in_tag
moves-Bracketed One kinds.Space c = (refl, refl, refl, refl, refl, refl)
moves-Bracketed One k c = (refl, refl, refl, refl, refl, refl)
moves-Bracketed Many kinds.Space c = (refl, refl, refl, refl, refl, refl)
moves-Bracketed Many k c = (refl, refl, refl, refl, refl, refl)

moves-CdataBracketed : (b : Brackets) (k : Kind) (c : ℕ) → Known (stage.CdataBracketed b) k c (ascii (stage.CdataBracketed b) k c)
unfolding ascii in_declaration in_reference in_number in_name in_tag
moves-CdataBracketed One kinds.Space c = (refl, refl, refl, refl, refl, refl)
moves-CdataBracketed One k c = (refl, refl, refl, refl, refl, refl)
moves-CdataBracketed Many kinds.Space c = (refl, refl, refl, refl, refl, refl)
moves-CdataBracketed Many k c = (refl, refl, refl, refl, refl, refl)

moves-Reference : (p : Context) (l : EntityName) (k : Kind) (c : ℕ) → Known (stage.Reference p l) k c (ascii (stage.Reference p l) k c)
unfolding ascii in_declaration in_reference in_number in_name in_tag
moves-Reference Words entity_name.Empty kinds.Space c = (refl, refl, refl, refl, refl, refl)
moves-Reference Words entity_name.Empty k c = (refl, refl, refl, refl, refl, refl)
moves-Reference Words entity_name.A kinds.Space c = (refl, refl, refl, refl, refl, refl)
moves-Reference Words entity_name.A k c = (refl, refl, refl, refl, refl, refl)
moves-Reference Words entity_name.Am kinds.Space c = (refl, refl, refl, refl, refl, refl)
moves-Reference Words entity_name.Am k c = (refl, refl, refl, refl, refl, refl)
moves-Reference Words entity_name.Amp kinds.Space c = (refl, refl, refl, refl, refl, refl)
moves-Reference Words entity_name.Amp k c = (refl, refl, refl, refl, refl, refl)
moves-Reference Words entity_name.Ap kinds.Space c = (refl, refl, refl, refl, refl, refl)
moves-Reference Words entity_name.Ap k c = (refl, refl, refl, refl, refl, refl)
moves-Reference Words entity_name.Apo kinds.Space c = (refl, refl, refl, refl, refl, refl)
moves-Reference Words entity_name.Apo k c = (refl, refl, refl, refl, refl, refl)
moves-Reference Words entity_name.Apos kinds.Space c = (refl, refl, refl, refl, refl, refl)
moves-Reference Words entity_name.Apos k c = (refl, refl, refl, refl, refl, refl)
moves-Reference Words entity_name.L kinds.Space c = (refl, refl, refl, refl, refl, refl)
moves-Reference Words entity_name.L k c = (refl, refl, refl, refl, refl, refl)
moves-Reference Words entity_name.Lt kinds.Space c = (refl, refl, refl, refl, refl, refl)
moves-Reference Words entity_name.Lt k c = (refl, refl, refl, refl, refl, refl)
moves-Reference Words entity_name.G kinds.Space c = (refl, refl, refl, refl, refl, refl)
moves-Reference Words entity_name.G k c = (refl, refl, refl, refl, refl, refl)
moves-Reference Words entity_name.Gt kinds.Space c = (refl, refl, refl, refl, refl, refl)
moves-Reference Words entity_name.Gt k c = (refl, refl, refl, refl, refl, refl)
moves-Reference Words entity_name.Q kinds.Space c = (refl, refl, refl, refl, refl, refl)
moves-Reference Words entity_name.Q k c = (refl, refl, refl, refl, refl, refl)
moves-Reference Words entity_name.Qu kinds.Space c = (refl, refl, refl, refl, refl, refl)
moves-Reference Words entity_name.Qu k c = (refl, refl, refl, refl, refl, refl)
moves-Reference Words entity_name.Quo kinds.Space c = (refl, refl, refl, refl, refl, refl)
moves-Reference Words entity_name.Quo k c = (refl, refl, refl, refl, refl, refl)
moves-Reference Words entity_name.Quot kinds.Space c = (refl, refl, refl, refl, refl, refl)
moves-Reference Words entity_name.Quot k c = (refl, refl, refl, refl, refl, refl)
moves-Reference (Value q) entity_name.Empty kinds.Space c = (refl, refl, refl, refl, refl, refl)
moves-Reference (Value q) entity_name.Empty k c = (refl, refl, refl, refl, refl, refl)
moves-Reference (Value q) entity_name.A kinds.Space c = (refl, refl, refl, refl, refl, refl)
moves-Reference (Value q) entity_name.A k c = (refl, refl, refl, refl, refl, refl)
moves-Reference (Value q) entity_name.Am kinds.Space c = (refl, refl, refl, refl, refl, refl)
moves-Reference (Value q) entity_name.Am k c = (refl, refl, refl, refl, refl, refl)
moves-Reference (Value q) entity_name.Amp kinds.Space c = (refl, refl, refl, refl, refl, refl)
moves-Reference (Value q) entity_name.Amp k c = (refl, refl, refl, refl, refl, refl)
moves-Reference (Value q) entity_name.Ap kinds.Space c = (refl, refl, refl, refl, refl, refl)
moves-Reference (Value q) entity_name.Ap k c = (refl, refl, refl, refl, refl, refl)
moves-Reference (Value q) entity_name.Apo kinds.Space c = (refl, refl, refl, refl, refl, refl)
moves-Reference (Value q) entity_name.Apo k c = (refl, refl, refl, refl, refl, refl)
moves-Reference (Value q) entity_name.Apos kinds.Space c = (refl, refl, refl, refl, refl, refl)
moves-Reference (Value q) entity_name.Apos k c = (refl, refl, refl, refl, refl, refl)
moves-Reference (Value q) entity_name.L kinds.Space c = (refl, refl, refl, refl, refl, refl)
moves-Reference (Value q) entity_name.L k c = (refl, refl, refl, refl, refl, refl)
moves-Reference (Value q) entity_name.Lt kinds.Space c = (refl, refl, refl, refl, refl, refl)
moves-Reference (Value q) entity_name.Lt k c = (refl, refl, refl, refl, refl, refl)
moves-Reference (Value q) entity_name.G kinds.Space c = (refl, refl, refl, refl, refl, refl)
moves-Reference (Value q) entity_name.G k c = (refl, refl, refl, refl, refl, refl)
moves-Reference (Value q) entity_name.Gt kinds.Space c = (refl, refl, refl, refl, refl, refl)
moves-Reference (Value q) entity_name.Gt k c = (refl, refl, refl, refl, refl, refl)
moves-Reference (Value q) entity_name.Q kinds.Space c = (refl, refl, refl, refl, refl, refl)
moves-Reference (Value q) entity_name.Q k c = (refl, refl, refl, refl, refl, refl)
moves-Reference (Value q) entity_name.Qu kinds.Space c = (refl, refl, refl, refl, refl, refl)
moves-Reference (Value q) entity_name.Qu k c = (refl, refl, refl, refl, refl, refl)
moves-Reference (Value q) entity_name.Quo kinds.Space c = (refl, refl, refl, refl, refl, refl)
moves-Reference (Value q) entity_name.Quo k c = (refl, refl, refl, refl, refl, refl)
moves-Reference (Value q) entity_name.Quot kinds.Space c = (refl, refl, refl, refl, refl, refl)
moves-Reference (Value q) entity_name.Quot k c = (refl, refl, refl, refl, refl, refl)

moves-Name : (r : NameOwner) (h : Half) (k : Kind) (c : ℕ) → Known (stage.Name r h) k c (ascii (stage.Name r h) k c)
unfolding ascii in_declaration in_reference in_number in_name in_tag
moves-Name StartTag Prefix kinds.Space c = (refl, refl, refl, refl, refl, refl)
moves-Name StartTag Prefix k c = (refl, refl, refl, refl, refl, refl)
moves-Name StartTag Local kinds.Space c = (refl, refl, refl, refl, refl, refl)
moves-Name StartTag Local k c = (refl, refl, refl, refl, refl, refl)
moves-Name EndTag Prefix kinds.Space c = (refl, refl, refl, refl, refl, refl)
moves-Name EndTag Prefix k c = (refl, refl, refl, refl, refl, refl)
moves-Name EndTag Local kinds.Space c = (refl, refl, refl, refl, refl, refl)
moves-Name EndTag Local k c = (refl, refl, refl, refl, refl, refl)
moves-Name Attribute Prefix kinds.Space c = (refl, refl, refl, refl, refl, refl)
moves-Name Attribute Prefix k c = (refl, refl, refl, refl, refl, refl)
moves-Name Attribute Local kinds.Space c = (refl, refl, refl, refl, refl, refl)
moves-Name Attribute Local k c = (refl, refl, refl, refl, refl, refl)

moves-Colon : (r : NameOwner) (k : Kind) (c : ℕ) → Known (stage.Colon r) k c (ascii (stage.Colon r) k c)
unfolding ascii in_declaration in_reference in_number in_name in_tag
moves-Colon StartTag kinds.Space c = (refl, refl, refl, refl, refl, refl)
moves-Colon StartTag k c = (refl, refl, refl, refl, refl, refl)
moves-Colon EndTag kinds.Space c = (refl, refl, refl, refl, refl, refl)
moves-Colon EndTag k c = (refl, refl, refl, refl, refl, refl)
moves-Colon Attribute kinds.Space c = (refl, refl, refl, refl, refl, refl)
moves-Colon Attribute k c = (refl, refl, refl, refl, refl, refl)

moves-Hash : (p : Context) (k : Kind) (c : ℕ) → Known (stage.Hash p) k c (ascii (stage.Hash p) k c)
unfolding ascii in_declaration in_reference in_number in_name in_tag
moves-Hash Words kinds.Space c = (refl, refl, refl, refl, refl, refl)
moves-Hash Words k c = (refl, refl, refl, refl, refl, refl)
moves-Hash (Value q) kinds.Space c = (refl, refl, refl, refl, refl, refl)
moves-Hash (Value q) k c = (refl, refl, refl, refl, refl, refl)

moves-HashX : (p : Context) (k : Kind) (c : ℕ) → Known (stage.HashX p) k c (ascii (stage.HashX p) k c)
unfolding ascii in_declaration in_reference in_number in_name in_tag
moves-HashX Words k c = cond_both (is_digit Hexadecimal k) (goes (stage.Number Words Hexadecimal (digit c))) (stops NotWellFormed)
    (Known (stage.HashX Words) k c) (λ e. (refl, refl, refl, refl, refl, refl)) (λ e. (refl, refl, refl, refl, refl, refl))
moves-HashX (Value q) k c = cond_both (is_digit Hexadecimal k) (goes (stage.Number (Value q) Hexadecimal (digit c))) (stops NotWellFormed)
    (Known (stage.HashX (Value q)) k c) (λ e. (refl, refl, refl, refl, refl, refl)) (λ e. (refl, refl, refl, refl, refl, refl))

moves-grown : (p : Context) (base : Base) (v n : ℕ) (k : Kind) (c : ℕ) (t : Bool) → may_move (text_sort p) [] (text_sort p) ≡ true
    → Known (stage.Number p base v) k c (cond t (goes (stage.Number p base n)) (stops NotWellFormed))
moves-grown p base v n k c true h = (h, refl, refl, refl, refl, refl)
moves-grown p base v n k c false h = (refl, refl, refl, refl, refl, refl)

moves-ended : (p : Context) (base : Base) (v : ℕ) (k : Kind) (c : ℕ) (t : Bool)
    → Known (stage.Number p base v) k c (cond t (tells_and_goes (text_token p v ∷ []) (stage.Text p)) (stops NotWellFormed))
moves-ended Words base v k c true = (refl, refl, refl, refl, refl, refl)
moves-ended (Value q) base v k c true = (refl, refl, refl, refl, refl, refl)
moves-ended p base v k c false = (refl, refl, refl, refl, refl, refl)

pub still-context : (p : Context) → may_move (text_sort p) [] (text_sort p) ≡ true
still-context Words = refl
still-context (Value q) = refl

moves-Number : (p : Context) (base : Base) (v : ℕ) (k : Kind) (c : ℕ) → Known (stage.Number p base v) k c (ascii (stage.Number p base v) k c)
unfolding ascii in_number
moves-Number p base v kinds.Semicolon c = moves-ended p base v kinds.Semicolon c (is_xml v)
moves-Number p base v k c = moves-grown p base v (base_of base * v + digit c) k c (is_digit base k && nat_lt (base_of base * v + digit c) 0x110000)
    (still-context p)

moves-end : (w : Literal) → may_move (fixed_sort w) [] (sort (fixed_end w)) ≡ true
moves-end literal.Xml = refl
moves-end (literal.Name i) = refl
moves-end w = refl

moves-fixed : (w : Literal) → may_move (fixed_sort w) [] (fixed_sort w) ≡ true
moves-fixed literal.Xml = refl
moves-fixed w = refl

moves-less : (w : Literal) (k : Kind) → (not (is_less (fixed_end w)) || is_less_kind k) ≡ true
moves-less literal.Xml k = refl
moves-less (literal.Name i) k = refl
moves-less w k = refl

moves-Fixed : (w : Literal) (at : ℕ) (k : Kind) (c : ℕ) → Known (stage.Fixed w at) k c (ascii (stage.Fixed w at) k c)
unfolding ascii in_fixed
moves-Fixed w at k c =
    cond_both (is_fixed w (get_or (letters w) at 0) c) _ (stops (fixed_fault w)) (Known (stage.Fixed w at) k c)
    (λ e. (
      cond_both (nat_lt (at + 1) (length (letters w))) (stage.Fixed w (at + 1)) (fixed_end w) (λ s. may_move (fixed_sort w) [] (sort s) ≡ true)
          (λ g. moves-fixed w) (λ g. moves-end w),
      refl,
      refl,
      refl,
      cond_both (nat_lt (at + 1) (length (letters w))) (stage.Fixed w (at + 1)) (fixed_end w) (λ s. (not (is_less s) || is_less_kind k) ≡ true) (λ g. refl)
          (λ g. moves-less w k),
      refl,
    ))
    (λ e. (refl, refl, refl, refl, refl, refl))

pub moves-ascii : (s : Stage) (k : Kind) (c : ℕ) → Known s k c (ascii s k c)
moves-ascii (stage.InfoName i) k c = moves-InfoName i k c
moves-ascii (stage.InfoEquals i) k c = moves-InfoEquals i k c
moves-ascii (stage.InfoEnds i) k c = moves-InfoEnds i k c
moves-ascii (stage.InfoSpace i) k c = moves-InfoSpace i k c
moves-ascii (stage.MinorFirst q) k c = moves-MinorFirst q k c
moves-ascii (stage.Minor q) k c = moves-Minor q k c
moves-ascii (stage.CharsetSeen q) k c = moves-CharsetSeen q k c
moves-ascii (stage.Choice q) k c = moves-Choice q k c
moves-ascii (stage.Chosen q) k c = moves-Chosen q k c
moves-ascii (stage.Text p) k c = moves-Text p k c
moves-ascii (stage.Bracketed b) k c = moves-Bracketed b k c
moves-ascii (stage.CdataBracketed b) k c = moves-CdataBracketed b k c
moves-ascii (stage.Reference p l) k c = moves-Reference p l k c
moves-ascii (stage.Name r h) k c = moves-Name r h k c
moves-ascii (stage.Colon r) k c = moves-Colon r k c
moves-ascii (stage.Hash p) k c = moves-Hash p k c
moves-ascii (stage.HashX p) k c = moves-HashX p k c
moves-ascii (stage.Fixed w at) k c = moves-Fixed w at k c
moves-ascii (stage.Number p base v) k c = moves-Number p base v k c
moves-ascii stage.Start k c = moves-Start k c
moves-ascii stage.StartLess k c = moves-StartLess k c
moves-ascii stage.Prolog k c = moves-Prolog k c
moves-ascii stage.PrologLess k c = moves-PrologLess k c
moves-ascii stage.XmlSeen k c = moves-XmlSeen k c
moves-ascii stage.XmlSpace k c = moves-XmlSpace k c
moves-ascii stage.DeclarationMark k c = moves-DeclarationMark k c
moves-ascii stage.Less k c = moves-Less k c
moves-ascii stage.Bang k c = moves-Bang k c
moves-ascii stage.Cdata k c = moves-Cdata k c
moves-ascii stage.EndTagMark k c = moves-EndTagMark k c
moves-ascii stage.InTag k c = moves-InTag k c
moves-ascii stage.ValueEnded k c = moves-ValueEnded k c
moves-ascii stage.EmptyTagMark k c = moves-EmptyTagMark k c
moves-ascii stage.AttrNamed k c = moves-AttrNamed k c
moves-ascii stage.ValueAwaited k c = moves-ValueAwaited k c
moves-ascii stage.EndTagNamed k c = moves-EndTagNamed k c

-- A carriage return does not stand right before a stage that a name's first byte comes to, or in a name.

abbrev pub may_return : Stage → Bool
may_return stage.StartLess = false
may_return stage.PrologLess = false
may_return stage.Less = false
may_return stage.EndTagMark = false
may_return (stage.Name r h) = false
may_return (stage.Colon r) = false
may_return s = true

abbrev pub turn_returns : Turn → Bool
turn_returns (goes t) = may_return t
turn_returns (tells_and_goes ts t) = may_return t && not (has_name ts || is_end ts)
turn_returns (stops f) = true

returns-end : (w : Literal) → may_return (fixed_end w) ≡ true
returns-end literal.Xml = refl
returns-end w = refl

returns-Fixed : (w : Literal) (at : ℕ) → turn_returns (ascii (stage.Fixed w at) kinds.Space 10) ≡ true
unfolding ascii in_fixed
returns-Fixed w at =
    cond_both (is_fixed w (get_or (letters w) at 0) 10) _ (stops (fixed_fault w)) (λ u. turn_returns u ≡ true)
    (λ e. cond_both (nat_lt (at + 1) (length (letters w))) (stage.Fixed w (at + 1)) (fixed_end w) (λ s. may_return s ≡ true) (λ g. refl) (λ g. returns-end w))
    (λ e. refl)

pub returns-space : (s : Stage) → turn_returns (ascii s kinds.Space 10) ≡ true
unfolding ascii in_declaration in_reference in_number in_name in_tag
returns-space (stage.Fixed w at) = returns-Fixed w at
returns-space (stage.InfoName Version) = refl
returns-space (stage.InfoName Encoding) = refl
returns-space (stage.InfoName Standalone) = refl
returns-space (stage.InfoEquals Version) = refl
returns-space (stage.InfoEquals Encoding) = refl
returns-space (stage.InfoEquals Standalone) = refl
returns-space (stage.InfoEnds Version) = refl
returns-space (stage.InfoEnds Encoding) = refl
returns-space (stage.InfoEnds Standalone) = refl
returns-space (stage.InfoSpace Version) = refl
returns-space (stage.InfoSpace Encoding) = refl
returns-space (stage.InfoSpace Standalone) = refl
returns-space (stage.MinorFirst Double) = refl
returns-space (stage.MinorFirst Single) = refl
returns-space (stage.Minor Double) = refl
returns-space (stage.Minor Single) = refl
returns-space (stage.CharsetSeen Double) = refl
returns-space (stage.CharsetSeen Single) = refl
returns-space (stage.Choice Double) = refl
returns-space (stage.Choice Single) = refl
returns-space (stage.Chosen Double) = refl
returns-space (stage.Chosen Single) = refl
returns-space (stage.Text Words) = refl
returns-space (stage.Text (Value Double)) = refl
returns-space (stage.Text (Value Single)) = refl
returns-space (stage.Bracketed One) = refl
returns-space (stage.Bracketed Many) = refl
returns-space (stage.CdataBracketed One) = refl
returns-space (stage.CdataBracketed Many) = refl
returns-space (stage.Reference Words entity_name.Empty) = refl
returns-space (stage.Reference Words entity_name.A) = refl
returns-space (stage.Reference Words entity_name.Am) = refl
returns-space (stage.Reference Words entity_name.Amp) = refl
returns-space (stage.Reference Words entity_name.Ap) = refl
returns-space (stage.Reference Words entity_name.Apo) = refl
returns-space (stage.Reference Words entity_name.Apos) = refl
returns-space (stage.Reference Words entity_name.L) = refl
returns-space (stage.Reference Words entity_name.Lt) = refl
returns-space (stage.Reference Words entity_name.G) = refl
returns-space (stage.Reference Words entity_name.Gt) = refl
returns-space (stage.Reference Words entity_name.Q) = refl
returns-space (stage.Reference Words entity_name.Qu) = refl
returns-space (stage.Reference Words entity_name.Quo) = refl
returns-space (stage.Reference Words entity_name.Quot) = refl
returns-space (stage.Reference (Value q) entity_name.Empty) = refl
returns-space (stage.Reference (Value q) entity_name.A) = refl
returns-space (stage.Reference (Value q) entity_name.Am) = refl
returns-space (stage.Reference (Value q) entity_name.Amp) = refl
returns-space (stage.Reference (Value q) entity_name.Ap) = refl
returns-space (stage.Reference (Value q) entity_name.Apo) = refl
returns-space (stage.Reference (Value q) entity_name.Apos) = refl
returns-space (stage.Reference (Value q) entity_name.L) = refl
returns-space (stage.Reference (Value q) entity_name.Lt) = refl
returns-space (stage.Reference (Value q) entity_name.G) = refl
returns-space (stage.Reference (Value q) entity_name.Gt) = refl
returns-space (stage.Reference (Value q) entity_name.Q) = refl
returns-space (stage.Reference (Value q) entity_name.Qu) = refl
returns-space (stage.Reference (Value q) entity_name.Quo) = refl
returns-space (stage.Reference (Value q) entity_name.Quot) = refl
returns-space (stage.Name StartTag Prefix) = refl
returns-space (stage.Name StartTag Local) = refl
returns-space (stage.Name EndTag Prefix) = refl
returns-space (stage.Name EndTag Local) = refl
returns-space (stage.Name Attribute Prefix) = refl
returns-space (stage.Name Attribute Local) = refl
returns-space (stage.Colon StartTag) = refl
returns-space (stage.Colon EndTag) = refl
returns-space (stage.Colon Attribute) = refl
returns-space (stage.Hash Words) = refl
returns-space (stage.Hash (Value q)) = refl
returns-space (stage.HashX Words) = refl
returns-space (stage.HashX (Value q)) = refl
returns-space (stage.Number p base v) = refl
returns-space stage.Start = refl
returns-space stage.StartLess = refl
returns-space stage.Prolog = refl
returns-space stage.PrologLess = refl
returns-space stage.XmlSeen = refl
returns-space stage.XmlSpace = refl
returns-space stage.DeclarationMark = refl
returns-space stage.Less = refl
returns-space stage.Bang = refl
returns-space stage.Cdata = refl
returns-space stage.EndTagMark = refl
returns-space stage.InTag = refl
returns-space stage.ValueEnded = refl
returns-space stage.EmptyTagMark = refl
returns-space stage.AttrNamed = refl
returns-space stage.ValueAwaited = refl
returns-space stage.EndTagNamed = refl
