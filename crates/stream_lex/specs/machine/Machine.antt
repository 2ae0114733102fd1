-- The same grammar, character by character.
use Rattle.std.specs.Prelude.{ℕ, ◌+◌, ◌*◌, List, [], ◌∷◌, length, get_or, Bool, true, false, cond, ◌==◌, ◌&&◌, nat_lt, codes, encode_utf8}
use Rattle.stream_lex.specs.declared.Token.{Token}
use Rattle.stream_lex.specs.declared.Token.TheVariants as token
use Rattle.stream_lex.specs.declared.LexFault.{LexFault}
use Rattle.stream_lex.specs.declared.LexFault.TheVariants.{NotWellFormed, Restricted, BadEncoding}
use Rattle.stream_lex.specs.declared.kinds.Kind.{Kind}
use Rattle.stream_lex.specs.declared.kinds.Kind.TheVariants as kinds
use Rattle.stream_lex.specs.declared.stages.Quote.{Quote}
use Rattle.stream_lex.specs.declared.stages.Quote.TheVariants.{Double, Single}
use Rattle.stream_lex.specs.declared.stages.Context.{Context}
use Rattle.stream_lex.specs.declared.stages.Context.TheVariants.{Words, Value}
use Rattle.stream_lex.specs.declared.stages.NameOwner.{NameOwner}
use Rattle.stream_lex.specs.declared.stages.NameOwner.TheVariants.{StartTag, EndTag, Attribute}
use Rattle.stream_lex.specs.declared.stages.Half.{Half}
use Rattle.stream_lex.specs.declared.stages.Half.TheVariants.{Prefix, Local}
use Rattle.stream_lex.specs.declared.stages.Brackets.{Brackets}
use Rattle.stream_lex.specs.declared.stages.Brackets.TheVariants.{One, Many}
use Rattle.stream_lex.specs.declared.stages.Base.{Base}
use Rattle.stream_lex.specs.declared.stages.Base.TheVariants.{Decimal, Hexadecimal}
use Rattle.stream_lex.specs.declared.stages.EntityName.{EntityName}
use Rattle.stream_lex.specs.declared.stages.EntityName.TheVariants as entity_name
use Rattle.stream_lex.specs.declared.stages.Info.{Info}
use Rattle.stream_lex.specs.declared.stages.Info.TheVariants.{Version, Encoding, Standalone}
use Rattle.stream_lex.specs.declared.stages.Literal.{Literal}
use Rattle.stream_lex.specs.declared.stages.Literal.TheVariants as literal
use Rattle.stream_lex.specs.declared.stages.Stage.{Stage}
use Rattle.stream_lex.specs.declared.stages.Stage.TheVariants as stage
use Rattle.stream_lex.specs.declared.characters.Allowed.{Allowed}
use Rattle.stream_lex.specs.declared.characters.Allowed.TheVariants as allowed
use Rattle.stream_lex.specs.grammar.Classes.{is_xml}
use Rattle.stream_lex.specs.grammar.Kinds.{is_kind, is_name_start, is_name_further, is_refusable, is_digit, digit, base_of, quote}
use Rattle.stream_lex.specs.grammar.Grammar.{first_name_token, next_name_token, spread, text_token, bracket, lower}

-- What a character does: nothing is told, or these tokens, or no text goes on with it.
pub data Turn : Type 0 where
  goes : Stage → Turn
  yields : List Token → Stage → Turn
  stops : LexFault → Turn

abbrev pub fault : Turn
fault = stops NotWellFormed

-- Fixed words.
abbrev pub letters : Literal → List ℕ
letters literal.Xml = codes "xml"
letters (literal.Name Version) = codes "ersion"
letters (literal.Name Encoding) = codes "ncoding"
letters (literal.Name Standalone) = codes "tandalone"
letters (literal.Major q) = codes "1."
letters (literal.Charset q) = codes "utf-8"
letters (literal.Yes q) = codes "es"
letters (literal.No q) = codes "o"
letters literal.Cdata = codes "CDATA["

abbrev pub fixed_end : Literal → Stage
fixed_end literal.Xml = stage.XmlSeen
fixed_end (literal.Name i) = stage.InfoName i
fixed_end (literal.Major q) = stage.MinorFirst q
fixed_end (literal.Charset q) = stage.CharsetSeen q
fixed_end (literal.Yes q) = stage.Chosen q
fixed_end (literal.No q) = stage.Chosen q
fixed_end literal.Cdata = stage.Cdata

abbrev pub fixed_fault : Literal → LexFault
fixed_fault (literal.Charset q) = BadEncoding
fixed_fault w = NotWellFormed

abbrev pub is_fixed : Literal → ℕ → ℕ → Bool
is_fixed (literal.Charset q) d c = lower c == d
is_fixed w d c = c == d

unfoldable pub in_fixed : Literal → ℕ → ℕ → Turn
in_fixed w at c =
    cond (is_fixed w (get_or (letters w) at 0) c)
    (goes (cond (nat_lt (at + 1) (length (letters w))) (stage.Fixed w (at + 1)) (fixed_end w)))
    (stops (fixed_fault w))

-- The declaration, and white space before the first tag.
abbrev pub after_declared : Info → Kind → Turn
after_declared Version kinds.SmallE = goes (stage.Fixed (literal.Name Encoding) 0)
after_declared Version kinds.SmallS = goes (stage.Fixed (literal.Name Standalone) 0)
after_declared Encoding kinds.SmallS = goes (stage.Fixed (literal.Name Standalone) 0)
after_declared i kinds.Space = goes (stage.InfoSpace i)
after_declared i kinds.Question = goes stage.DeclarationMark
after_declared i k = fault

abbrev pub info_value : Info → Quote → Stage
info_value Version q = stage.Fixed (literal.Major q) 0
info_value Encoding q = stage.Fixed (literal.Charset q) 0
info_value Standalone q = stage.Choice q

abbrev pub quote_seen : Info → Kind → Turn
quote_seen i kinds.Quotation = goes (info_value i Double)
quote_seen i kinds.Apostrophe = goes (info_value i Single)
quote_seen i kinds.Space = goes (stage.InfoEquals i)
quote_seen i k = fault

unfoldable pub in_declaration : Stage → Kind → Turn
in_declaration stage.XmlSeen kinds.Space = goes stage.XmlSpace
in_declaration stage.XmlSpace kinds.Space = goes stage.XmlSpace
in_declaration stage.XmlSpace kinds.SmallV = goes (stage.Fixed (literal.Name Version) 0)
in_declaration (stage.InfoName i) kinds.Space = goes (stage.InfoName i)
in_declaration (stage.InfoName i) kinds.Equals = goes (stage.InfoEquals i)
in_declaration (stage.InfoEquals i) k = quote_seen i k
in_declaration (stage.MinorFirst q) kinds.Digit = goes (stage.Minor q)
in_declaration (stage.Minor q) kinds.Digit = goes (stage.Minor q)
in_declaration (stage.Minor q) k = cond (is_kind (quote q) k) (goes (stage.InfoEnds Version)) fault
in_declaration (stage.CharsetSeen q) k = cond (is_kind (quote q) k) (goes (stage.InfoEnds Encoding)) (stops BadEncoding)
in_declaration (stage.Choice q) kinds.SmallY = goes (stage.Fixed (literal.Yes q) 0)
in_declaration (stage.Choice q) kinds.SmallN = goes (stage.Fixed (literal.No q) 0)
in_declaration (stage.Chosen q) k = cond (is_kind (quote q) k) (goes (stage.InfoEnds Standalone)) fault
in_declaration (stage.InfoEnds i) kinds.SmallE = fault
in_declaration (stage.InfoEnds i) kinds.SmallS = fault
in_declaration (stage.InfoEnds i) k = after_declared i k
in_declaration (stage.InfoSpace i) k = after_declared i k
in_declaration stage.DeclarationMark kinds.Greater = yields (token.Declaration ∷ []) stage.Prolog
in_declaration s k = fault

-- Words and values.
abbrev pub in_words : Kind → ℕ → Turn
in_words kinds.Less c = goes stage.Less
in_words kinds.Ampersand c = goes (stage.Reference Words entity_name.Empty)
in_words kinds.RightBracket c = yields (bracket ∷ []) (stage.Bracketed One)
in_words kinds.Control c = fault
in_words k c = yields (token.Word c ∷ []) (stage.Text Words)

abbrev pub in_brackets : Brackets → Kind → ℕ → Turn
in_brackets b kinds.RightBracket c = yields (bracket ∷ []) (stage.Bracketed Many)
in_brackets Many kinds.Greater c = fault
in_brackets b k c = in_words k c

abbrev pub in_value : Quote → Kind → ℕ → Turn
in_value q kinds.Less c = fault
in_value q kinds.Ampersand c = goes (stage.Reference (Value q) entity_name.Empty)
in_value q kinds.Control c = fault
in_value q kinds.Space c = yields (token.Value 32 ∷ []) (stage.Text (Value q))
in_value Double kinds.Quotation c = yields (token.ValueEnds ∷ []) stage.ValueEnded
in_value Single kinds.Apostrophe c = yields (token.ValueEnds ∷ []) stage.ValueEnded
in_value q k c = yields (token.Value c ∷ []) (stage.Text (Value q))

-- CDATA.
abbrev pub in_cdata : Kind → ℕ → Turn
in_cdata kinds.RightBracket c = goes (stage.CdataBracketed One)
in_cdata kinds.Control c = fault
in_cdata k c = yields (token.Word c ∷ []) stage.Cdata

abbrev pub in_cdata_brackets : Brackets → Kind → ℕ → Turn
in_cdata_brackets b kinds.Control c = fault
in_cdata_brackets One kinds.RightBracket c = goes (stage.CdataBracketed Many)
in_cdata_brackets Many kinds.RightBracket c = yields (bracket ∷ []) (stage.CdataBracketed Many)
in_cdata_brackets Many kinds.Greater c = goes (stage.Text Words)
in_cdata_brackets One k c = yields (bracket ∷ token.Word c ∷ []) stage.Cdata
in_cdata_brackets Many k c = yields (bracket ∷ bracket ∷ token.Word c ∷ []) stage.Cdata

-- References.
abbrev pub unnamed : Kind → Turn
unnamed k = cond (is_refusable k) (stops Restricted) fault

abbrev pub named_by : Context → ℕ → Kind → Turn
named_by p c kinds.Semicolon = yields (text_token p c ∷ []) (stage.Text p)
named_by p c k = unnamed k

unfoldable pub in_reference : Context → EntityName → Kind → Turn
in_reference p entity_name.Empty kinds.Number = goes (stage.Hash p)
in_reference p entity_name.Empty kinds.SmallA = goes (stage.Reference p entity_name.A)
in_reference p entity_name.Empty kinds.SmallL = goes (stage.Reference p entity_name.L)
in_reference p entity_name.Empty kinds.SmallG = goes (stage.Reference p entity_name.G)
in_reference p entity_name.Empty kinds.SmallQ = goes (stage.Reference p entity_name.Q)
in_reference p entity_name.A kinds.SmallM = goes (stage.Reference p entity_name.Am)
in_reference p entity_name.A kinds.SmallP = goes (stage.Reference p entity_name.Ap)
in_reference p entity_name.Am kinds.SmallP = goes (stage.Reference p entity_name.Amp)
in_reference p entity_name.Amp k = named_by p 38 k
in_reference p entity_name.Ap kinds.SmallO = goes (stage.Reference p entity_name.Apo)
in_reference p entity_name.Apo kinds.SmallS = goes (stage.Reference p entity_name.Apos)
in_reference p entity_name.Apos k = named_by p 39 k
in_reference p entity_name.L kinds.SmallT = goes (stage.Reference p entity_name.Lt)
in_reference p entity_name.Lt k = named_by p 60 k
in_reference p entity_name.G kinds.SmallT = goes (stage.Reference p entity_name.Gt)
in_reference p entity_name.Gt k = named_by p 62 k
in_reference p entity_name.Q kinds.SmallU = goes (stage.Reference p entity_name.Qu)
in_reference p entity_name.Qu kinds.SmallO = goes (stage.Reference p entity_name.Quo)
in_reference p entity_name.Quo kinds.SmallT = goes (stage.Reference p entity_name.Quot)
in_reference p entity_name.Quot k = named_by p 34 k
in_reference p l k = unnamed k

unfoldable pub in_number : Context → Base → ℕ → Kind → ℕ → Turn
in_number p base v kinds.Semicolon c = cond (is_xml v) (yields (text_token p v ∷ []) (stage.Text p)) fault
in_number p base v k c =
    cond (is_digit base k && nat_lt (base_of base * v + digit c) 0x110000) (goes (stage.Number p base (base_of base * v + digit c))) fault

abbrev pub in_hash : Context → Kind → ℕ → Turn
in_hash p kinds.Digit c = goes (stage.Number p Decimal (digit c))
in_hash p kinds.SmallX c = goes (stage.HashX p)
in_hash p k c = fault

abbrev pub in_hash_x : Context → Kind → ℕ → Turn
in_hash_x p k c = cond (is_digit Hexadecimal k) (goes (stage.Number p Hexadecimal (digit c))) fault

-- Names and tags.
abbrev pub after_name : NameOwner → Kind → Turn
after_name StartTag kinds.Space = goes stage.InTag
after_name StartTag kinds.Greater = yields (token.TagEnds false ∷ []) (stage.Text Words)
after_name StartTag kinds.Slash = goes stage.EmptyTagMark
after_name EndTag kinds.Space = goes stage.EndTagNamed
after_name EndTag kinds.Greater = yields (token.CloseEnds ∷ []) (stage.Text Words)
after_name Attribute kinds.Space = goes stage.AttrNamed
after_name Attribute kinds.Equals = goes stage.ValueAwaited
after_name r k = fault

abbrev pub after_part : NameOwner → Half → Kind → ℕ → Turn
after_part r Prefix kinds.Colon c = yields (next_name_token r c ∷ []) (stage.Colon r)
after_part r h k c = after_name r k

unfoldable pub in_name : NameOwner → Half → Kind → ℕ → Turn
in_name r h k c = cond (is_name_further k) (yields (next_name_token r c ∷ []) (stage.Name r h)) (after_part r h k c)

abbrev pub in_colon : NameOwner → Kind → ℕ → Turn
in_colon r k c = cond (is_name_start k) (yields (next_name_token r c ∷ []) (stage.Name r Local)) fault

-- where a name may begin, or else t
abbrev pub name_or : NameOwner → Kind → ℕ → Turn → Turn
name_or r k c t = cond (is_name_start k) (yields (first_name_token r c ∷ []) (stage.Name r Prefix)) t

abbrev pub in_tag_end : Kind → Turn
in_tag_end kinds.Greater = yields (token.TagEnds false ∷ []) (stage.Text Words)
in_tag_end kinds.Slash = goes stage.EmptyTagMark
in_tag_end kinds.Space = goes stage.InTag
in_tag_end k = fault

-- after the `<` of the first tag, where a declaration may stand and where not; in content
abbrev pub after_start_less : Kind → Turn
after_start_less kinds.Question = goes (stage.Fixed literal.Xml 0)
after_start_less kinds.Bang = stops Restricted
after_start_less k = fault

abbrev pub after_prolog_less : Kind → Turn
after_prolog_less kinds.Question = stops Restricted
after_prolog_less kinds.Bang = stops Restricted
after_prolog_less k = fault

abbrev pub after_less : Kind → Turn
after_less kinds.Slash = goes stage.EndTagMark
after_less kinds.Bang = goes stage.Bang
after_less kinds.Question = stops Restricted
after_less k = fault

abbrev pub after_equals : Kind → Turn
after_equals kinds.Space = goes stage.ValueAwaited
after_equals kinds.Quotation = yields (token.ValueOpens ∷ []) (stage.Text (Value Double))
after_equals kinds.Apostrophe = yields (token.ValueOpens ∷ []) (stage.Text (Value Single))
after_equals k = fault

unfoldable pub in_tag : Stage → Kind → ℕ → Turn
in_tag stage.Start kinds.Less c = goes stage.StartLess
in_tag stage.Start kinds.Space c = goes stage.Prolog
in_tag stage.StartLess k c = name_or StartTag k c (after_start_less k)
in_tag stage.Prolog kinds.Less c = goes stage.PrologLess
in_tag stage.Prolog kinds.Space c = goes stage.Prolog
in_tag stage.PrologLess k c = name_or StartTag k c (after_prolog_less k)
in_tag stage.Less k c = name_or StartTag k c (after_less k)
in_tag stage.EndTagMark k c = name_or EndTag k c fault
in_tag stage.InTag k c = name_or Attribute k c (in_tag_end k)
in_tag stage.ValueEnded k c = in_tag_end k
in_tag stage.EmptyTagMark kinds.Greater c = yields (token.TagEnds true ∷ []) (stage.Text Words)
in_tag stage.AttrNamed kinds.Space c = goes stage.AttrNamed
in_tag stage.AttrNamed kinds.Equals c = goes stage.ValueAwaited
in_tag stage.ValueAwaited k c = after_equals k
in_tag stage.EndTagNamed kinds.Space c = goes stage.EndTagNamed
in_tag stage.EndTagNamed kinds.Greater c = yields (token.CloseEnds ∷ []) (stage.Text Words)
in_tag s k c = fault

abbrev pub in_bang : Kind → Turn
in_bang kinds.LeftBracket = goes (stage.Fixed literal.Cdata 0)
in_bang k = stops Restricted

-- a character below 128
unfoldable pub ascii : Stage → Kind → ℕ → Turn
ascii (stage.Text Words) k c = in_words k c
ascii (stage.Text (Value q)) k c = in_value q k c
ascii (stage.Name r h) k c = in_name r h k c
ascii (stage.Bracketed b) k c = in_brackets b k c
ascii (stage.Fixed w at) k c = in_fixed w at c
ascii stage.XmlSeen k c = in_declaration stage.XmlSeen k
ascii stage.XmlSpace k c = in_declaration stage.XmlSpace k
ascii (stage.InfoName i) k c = in_declaration (stage.InfoName i) k
ascii (stage.InfoEquals i) k c = in_declaration (stage.InfoEquals i) k
ascii (stage.MinorFirst q) k c = in_declaration (stage.MinorFirst q) k
ascii (stage.Minor q) k c = in_declaration (stage.Minor q) k
ascii (stage.CharsetSeen q) k c = in_declaration (stage.CharsetSeen q) k
ascii (stage.Choice q) k c = in_declaration (stage.Choice q) k
ascii (stage.Chosen q) k c = in_declaration (stage.Chosen q) k
ascii (stage.InfoEnds i) k c = in_declaration (stage.InfoEnds i) k
ascii (stage.InfoSpace i) k c = in_declaration (stage.InfoSpace i) k
ascii stage.DeclarationMark k c = in_declaration stage.DeclarationMark k
ascii stage.Bang k c = in_bang k
ascii stage.Cdata k c = in_cdata k c
ascii (stage.CdataBracketed b) k c = in_cdata_brackets b k c
ascii (stage.Reference p l) k c = in_reference p l k
ascii (stage.Hash p) k c = in_hash p k c
ascii (stage.HashX p) k c = in_hash_x p k c
ascii (stage.Number p base v) k c = in_number p base v k c
ascii (stage.Colon r) k c = in_colon r k c
ascii s k c = in_tag s k c

-- A character from 128 on: which may come, what it tells, where it leads, and its fault where it may not come.
unfoldable pub allowed_at : Stage → Allowed
allowed_at (stage.Text p) = allowed.Any
allowed_at (stage.Bracketed b) = allowed.Any
allowed_at stage.Cdata = allowed.Any
allowed_at (stage.CdataBracketed b) = allowed.Any
allowed_at (stage.Name r h) = allowed.NameFurther
allowed_at (stage.Colon r) = allowed.NameStart
allowed_at stage.StartLess = allowed.NameStart
allowed_at stage.PrologLess = allowed.NameStart
allowed_at stage.Less = allowed.NameStart
allowed_at stage.EndTagMark = allowed.NameStart
allowed_at stage.InTag = allowed.NameStart
allowed_at s = allowed.None

-- told at its end, as a whole; or byte by byte, its first and the others
pub data Voice : Type 0 where
  whole : (ℕ → List Token) → Voice
  by_byte : (ℕ → Token) → (ℕ → Token) → Voice

unfoldable pub voice : Stage → Voice
voice (stage.Text p) = whole (λ c. text_token p c ∷ [])
voice (stage.CdataBracketed One) = whole (λ c. bracket ∷ token.Word c ∷ [])
voice (stage.CdataBracketed Many) = whole (λ c. bracket ∷ bracket ∷ token.Word c ∷ [])
voice (stage.Name r h) = by_byte (next_name_token r) (next_name_token r)
voice (stage.Colon r) = by_byte (next_name_token r) (next_name_token r)
voice stage.StartLess = by_byte (first_name_token StartTag) (next_name_token StartTag)
voice stage.PrologLess = by_byte (first_name_token StartTag) (next_name_token StartTag)
voice stage.Less = by_byte (first_name_token StartTag) (next_name_token StartTag)
voice stage.EndTagMark = by_byte (first_name_token EndTag) (next_name_token EndTag)
voice stage.InTag = by_byte (first_name_token Attribute) (next_name_token Attribute)
voice s = whole (λ c. token.Word c ∷ [])

abbrev pub voiced : Voice → ℕ → List Token
voiced (whole f) c = f c
voiced (by_byte first_character further_character) c = spread first_character further_character (encode_utf8 c)

-- the stage after it
unfoldable pub through : Stage → Stage
through (stage.Bracketed b) = stage.Text Words
through (stage.CdataBracketed b) = stage.Cdata
through (stage.Colon r) = stage.Name r Local
through stage.StartLess = stage.Name StartTag Prefix
through stage.PrologLess = stage.Name StartTag Prefix
through stage.Less = stage.Name StartTag Prefix
through stage.EndTagMark = stage.Name EndTag Prefix
through stage.InTag = stage.Name Attribute Prefix
through s = s

unfoldable pub wide_fault : Stage → LexFault
wide_fault (stage.Reference p l) = Restricted
wide_fault stage.Bang = Restricted
wide_fault (stage.Fixed w at) = fixed_fault w
wide_fault (stage.CharsetSeen q) = BadEncoding
wide_fault s = NotWellFormed

abbrev pub takes_start : Allowed → Bool
takes_start allowed.None = false
takes_start a = true

abbrev pub takes_further : Allowed → Bool
takes_further allowed.NameFurther = true
takes_further allowed.Any = true
takes_further a = false

abbrev pub takes_other : Allowed → Bool
takes_other allowed.Any = true
takes_other a = false

abbrev pub passed : Bool → Stage → ℕ → Turn
passed true s c = yields (voiced (voice s) c) (through s)
passed false s c = stops (wide_fault s)

-- any character
abbrev pub next : Stage → Kind → ℕ → Turn
next s kinds.WideStart c = passed (takes_start (allowed_at s)) s c
next s kinds.WideName c = passed (takes_further (allowed_at s)) s c
next s kinds.WideOther c = passed (takes_other (allowed_at s)) s c
next s kinds.WideRefused c = stops (wide_fault s)
next s k c = ascii s k c
