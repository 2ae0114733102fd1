-- Each stage that is reached has a text, of characters below 128 without line ends.
use Rattle.std.proofs.Common.{◌≡◌, ℕ, zero, suc, eq-eqb, ◌+◌, ◌*◌, ◌<◌, ◌≤◌, inl, inr, List, [], ◌∷◌, ◌++◌, drop, refl, sym}
use Rattle.std.proofs.Common.{ap, ◌∙◌, subst, Bool, true, false, not, ◌&&◌, ◌==◌, nat_lt, arith, codes}
use Rattle.std.proofs.lemmas.Bool.{and_parts, and_from, cases_lt, cond-true, cond-false, ltb-true}
use Rattle.std.proofs.lemmas.Bool.Decides.{nat_tests}
use Rattle.std.specs.Str.{all_scalars}
use lib.Utf8.{scalar}
use Rattle.stream_lex.specs.declared.Token.{Token}
use Rattle.stream_lex.specs.declared.stages.Quote.{Quote}
use Rattle.stream_lex.specs.declared.stages.Quote.TheVariants.{Double, Single}
use Rattle.stream_lex.specs.declared.stages.Context.{Context}
use Rattle.stream_lex.specs.declared.stages.Context.TheVariants.{Words, Value}
use Rattle.stream_lex.specs.declared.stages.NameOwner.{NameOwner}
use Rattle.stream_lex.specs.declared.stages.NameOwner.TheVariants.{StartTag, EndTag, Attribute}
use Rattle.stream_lex.specs.declared.stages.Half.{Half}
use Rattle.stream_lex.specs.declared.stages.Half.TheVariants.{Prefix, Local}
use Rattle.stream_lex.specs.declared.stages.Brackets.{Brackets}
use Rattle.stream_lex.specs.declared.stages.Brackets.TheVariants.{One, Many}
use Rattle.stream_lex.specs.declared.stages.Base.{Base}
use Rattle.stream_lex.specs.declared.stages.Base.TheVariants.{Decimal, Hexadecimal}
use Rattle.stream_lex.specs.declared.stages.EntityName.{EntityName}
use Rattle.stream_lex.specs.declared.stages.EntityName.TheVariants as entity_name
use Rattle.stream_lex.specs.declared.stages.Info.{Info}
use Rattle.stream_lex.specs.declared.stages.Info.TheVariants.{Version, Encoding, Standalone}
use Rattle.stream_lex.specs.declared.stages.Literal.{Literal}
use Rattle.stream_lex.specs.declared.stages.Literal.TheVariants as literal
use Rattle.stream_lex.specs.declared.stages.Stage.{Stage}
use Rattle.stream_lex.specs.declared.stages.Stage.TheVariants as stage
use Rattle.stream_lex.specs.grammar.Classes.{is_xml}
use Rattle.stream_lex.specs.grammar.Kinds.{ascii_kind, kind, is_wide}
use Rattle.stream_lex.specs.grammar.Expressions.{all_said, Expression, silent_symbol, number, concat, value, AreDigits, IsText}
use Rattle.stream_lex.specs.grammar.Grammar.{text_token, lower, word, is_letter, is_either_case, charset, charset_end}
use Rattle.stream_lex.specs.machine.Machine.{Turn, goes, stops, letters, in_fixed, in_declaration, in_reference}
use Rattle.stream_lex.specs.machine.Machine.{in_number, in_name, in_tag, ascii, allowed_at, next}
use Rattle.stream_lex.specs.machine.Machine.{yields as tells_and_goes}
use Rattle.stream_lex.specs.machine.Live.{is_live_stage}
use Rattle.stream_lex.specs.grammar.Reading.{lines}
use Rattle.stream_lex.specs.machine.Rests.{rest_of_literal, rest_at, beyond_refusal, rest_of_text}
use Rattle.stream_lex.proofs.Lists.{false-true, said-append}
use Rattle.stream_lex.proofs.Stepping.{Leaves, step-from}

-- no line ends, and characters
abbrev pub is_clean : List ℕ → Bool
is_clean [] = true
is_clean (c ∷ cs) = (scalar c && (not (c == 10) && not (c == 13))) && is_clean cs

not-true-of : (t : Bool) → not t ≡ true → t ≡ false
not-true-of true e = sym e
not-true-of false e = refl

clean-head : (c : ℕ) (cs : List ℕ) → is_clean (c ∷ cs) ≡ true → (scalar c ≡ true) × ((c == 10) ≡ false) × ((c == 13) ≡ false) × (is_clean cs ≡ true)
clean-head c cs h =
    let p = and_parts (scalar c && (not (c == 10) && not (c == 13))) (is_clean cs) h in
    let q = and_parts (scalar c) (not (c == 10) && not (c == 13)) p.0 in
    let r = and_parts (not (c == 10)) (not (c == 13)) q.1 in
    (q.0, not-true-of (c == 10) r.0, not-true-of (c == 13) r.1, p.1)

pub clean-scalars : (cs : List ℕ) → is_clean cs ≡ true → all_scalars cs ≡ true
clean-scalars [] h = refl
clean-scalars (c ∷ cs) h = let p = clean-head c cs h in and_from _ _ p.0 (clean-scalars cs p.3)

-- a character that is no line end
pub line-plain : (r : Bool) (c : ℕ) (cs : List ℕ) → (c == 10) ≡ false → (c == 13) ≡ false → lines r (c ∷ cs) ≡ c ∷ lines false cs
line-plain true c cs e f = cond-false _ _ _ e ∙ cond-false _ _ _ f
line-plain false c cs e f = cond-false _ _ _ f

pub clean-lines : (r : Bool) (cs : List ℕ) → is_clean cs ≡ true → lines r cs ≡ cs
clean-lines r [] h = refl
clean-lines r (c ∷ cs) h = let p = clean-head c cs h in line-plain r c cs p.1 p.2 ∙ ap (λ (l : List ℕ). c ∷ l) (clean-lines false cs p.3)

clean-append : (cs ds : List ℕ) → is_clean cs ≡ true → is_clean ds ≡ true → is_clean (cs ++ ds) ≡ true
clean-append [] ds h k = k
clean-append (c ∷ cs) ds h k = let p = and_parts (scalar c && (not (c == 10) && not (c == 13))) (is_clean cs) h in and_from _ _ p.0 (clean-append cs ds p.1 k)

-- a text in which nothing is refused
abbrev pub HasReading : Expression → Type 0
HasReading p = (cs : List ℕ) × (ts : List Token) × (is_clean cs ≡ true) × IsText p cs (all_said ts)

-- A way to the end of words.

abbrev leads_on : Turn → (Stage → Bool) → Bool
leads_on (goes t) P = P t
leads_on (tells_and_goes us t) P = P t
leads_on (stops f) P = false

abbrev is_words : Stage → Bool
is_words (stage.Text Words) = true
is_words s = false

abbrev is_way : List ℕ → Stage → Bool
is_way [] s = is_words s
is_way (c ∷ cs) s = is_live_stage s && leads_on (next s (kind c) c) (is_way cs)

words-text : (s : Stage) → is_words s ≡ true → IsText (rest_at s) [] []
unfolding rest_at IsText
words-text (stage.Text Words) h = ([], [], [], [], (0, (refl, refl)), ([], [], [], [], (0, (refl, refl)), (0, (refl, refl)), refl, refl), refl, refl)
words-text s h = false-true h

leads-text : (s : Stage) (t : Turn) (cs : List ℕ) → leads_on t (is_way cs) ≡ true
    → ((u : Stage) → is_way cs u ≡ true → (ts : List Token) × IsText (rest_at u) cs (all_said ts))
    → (ts : List Token) × Leaves s t cs (all_said ts)
leads-text s (goes u) cs h go = let r = go u h in (r.0, (all_said r.0, refl, r.1))
leads-text s (tells_and_goes us u) cs h go = let r = go u h in (us ++ r.0, (all_said r.0, said-append us r.0, r.1))
leads-text s (stops f) cs h go = false-true h

way-text : (cs : List ℕ) (s : Stage) → is_way cs s ≡ true → (ts : List Token) × IsText (rest_at s) cs (all_said ts)
way-text [] s h = ([], words-text s h)
way-text (c ∷ cs) s h =
    let p = and_parts (is_live_stage s) (leads_on (next s (kind c) c) (is_way cs)) h in
    let r = leads-text s (next s (kind c) c) cs p.1 (way-text cs) in
    (r.0, step-from s c cs (all_said r.0) p.0 r.1)

has-way : (cs : List ℕ) (s : Stage) → is_clean cs ≡ true → is_way cs s ≡ true → HasReading (rest_at s)
has-way cs s clean h = let r = way-text cs s h in (cs, r.0, clean, r.1)

text-Prolog : HasReading (rest_at stage.Prolog)
unfolding ascii_kind ascii in_declaration in_reference in_name in_tag in_fixed in_number allowed_at
text-Prolog = has-way (codes "<a>") stage.Prolog refl refl

text-Text : (p : Context) → HasReading (rest_at (stage.Text p))
unfolding ascii_kind ascii in_declaration in_reference in_name in_tag in_fixed in_number allowed_at
text-Text Words = has-way (codes "") (stage.Text Words) refl refl
text-Text (Value Double) = has-way (codes "\">") (stage.Text (Value Double)) refl refl
text-Text (Value Single) = has-way (codes "'>") (stage.Text (Value Single)) refl refl

text-InfoEnds : (i : Info) → HasReading (rest_at (stage.InfoEnds i))
unfolding ascii_kind ascii in_declaration in_reference in_name in_tag in_fixed in_number allowed_at
text-InfoEnds Version = has-way (codes "?><a>") (stage.InfoEnds Version) refl refl
text-InfoEnds Encoding = has-way (codes "?><a>") (stage.InfoEnds Encoding) refl refl
text-InfoEnds Standalone = has-way (codes "?><a>") (stage.InfoEnds Standalone) refl refl

text-InfoSpace : (i : Info) → HasReading (rest_at (stage.InfoSpace i))
unfolding ascii_kind ascii in_declaration in_reference in_name in_tag in_fixed in_number allowed_at
text-InfoSpace Version = has-way (codes "?><a>") (stage.InfoSpace Version) refl refl
text-InfoSpace Encoding = has-way (codes "?><a>") (stage.InfoSpace Encoding) refl refl
text-InfoSpace Standalone = has-way (codes "?><a>") (stage.InfoSpace Standalone) refl refl

text-InfoName : (i : Info) → HasReading (rest_at (stage.InfoName i))
unfolding ascii_kind ascii in_declaration in_reference in_name in_tag in_fixed in_number allowed_at
text-InfoName Version = has-way (codes "='1.0'?><a>") (stage.InfoName Version) refl refl
text-InfoName Encoding = has-way (codes "='utf-8'?><a>") (stage.InfoName Encoding) refl refl
text-InfoName Standalone = has-way (codes "='no'?><a>") (stage.InfoName Standalone) refl refl

text-InfoEquals : (i : Info) → HasReading (rest_at (stage.InfoEquals i))
unfolding ascii_kind ascii in_declaration in_reference in_name in_tag in_fixed in_number allowed_at
text-InfoEquals Version = has-way (codes "'1.0'?><a>") (stage.InfoEquals Version) refl refl
text-InfoEquals Encoding = has-way (codes "'utf-8'?><a>") (stage.InfoEquals Encoding) refl refl
text-InfoEquals Standalone = has-way (codes "'no'?><a>") (stage.InfoEquals Standalone) refl refl

text-MinorFirst : (q : Quote) → HasReading (rest_at (stage.MinorFirst q))
unfolding ascii_kind ascii in_declaration in_reference in_name in_tag in_fixed in_number allowed_at
text-MinorFirst Double = has-way (codes "0\"?><a>") (stage.MinorFirst Double) refl refl
text-MinorFirst Single = has-way (codes "0'?><a>") (stage.MinorFirst Single) refl refl

text-Minor : (q : Quote) → HasReading (rest_at (stage.Minor q))
unfolding ascii_kind ascii in_declaration in_reference in_name in_tag in_fixed in_number allowed_at
text-Minor Double = has-way (codes "\"?><a>") (stage.Minor Double) refl refl
text-Minor Single = has-way (codes "'?><a>") (stage.Minor Single) refl refl

text-CharsetSeen : (q : Quote) → HasReading (rest_at (stage.CharsetSeen q))
unfolding ascii_kind ascii in_declaration in_reference in_name in_tag in_fixed in_number allowed_at
text-CharsetSeen Double = has-way (codes "\"?><a>") (stage.CharsetSeen Double) refl refl
text-CharsetSeen Single = has-way (codes "'?><a>") (stage.CharsetSeen Single) refl refl

text-Choice : (q : Quote) → HasReading (rest_at (stage.Choice q))
unfolding ascii_kind ascii in_declaration in_reference in_name in_tag in_fixed in_number allowed_at
text-Choice Double = has-way (codes "no\"?><a>") (stage.Choice Double) refl refl
text-Choice Single = has-way (codes "no'?><a>") (stage.Choice Single) refl refl

text-Chosen : (q : Quote) → HasReading (rest_at (stage.Chosen q))
unfolding ascii_kind ascii in_declaration in_reference in_name in_tag in_fixed in_number allowed_at
text-Chosen Double = has-way (codes "\"?><a>") (stage.Chosen Double) refl refl
text-Chosen Single = has-way (codes "'?><a>") (stage.Chosen Single) refl refl

text-Start : HasReading (rest_at stage.Start)
unfolding ascii_kind ascii in_declaration in_reference in_name in_tag in_fixed in_number allowed_at
text-Start = has-way (codes "<a>") stage.Start refl refl

text-StartLess : HasReading (rest_at stage.StartLess)
unfolding ascii_kind ascii in_declaration in_reference in_name in_tag in_fixed in_number allowed_at
text-StartLess = has-way (codes "a>") stage.StartLess refl refl

text-PrologLess : HasReading (rest_at stage.PrologLess)
unfolding ascii_kind ascii in_declaration in_reference in_name in_tag in_fixed in_number allowed_at
text-PrologLess = has-way (codes "a>") stage.PrologLess refl refl

text-XmlSeen : HasReading (rest_at stage.XmlSeen)
unfolding ascii_kind ascii in_declaration in_reference in_name in_tag in_fixed in_number allowed_at
text-XmlSeen = has-way (codes " version='1.0'?><a>") stage.XmlSeen refl refl

text-XmlSpace : HasReading (rest_at stage.XmlSpace)
unfolding ascii_kind ascii in_declaration in_reference in_name in_tag in_fixed in_number allowed_at
text-XmlSpace = has-way (codes "version='1.0'?><a>") stage.XmlSpace refl refl

text-DeclarationMark : HasReading (rest_at stage.DeclarationMark)
unfolding ascii_kind ascii in_declaration in_reference in_name in_tag in_fixed in_number allowed_at
text-DeclarationMark = has-way (codes "><a>") stage.DeclarationMark refl refl

text-Less : HasReading (rest_at stage.Less)
unfolding ascii_kind ascii in_declaration in_reference in_name in_tag in_fixed in_number allowed_at
text-Less = has-way (codes "a>") stage.Less refl refl

text-Bang : HasReading (rest_at stage.Bang)
unfolding ascii_kind ascii in_declaration in_reference in_name in_tag in_fixed in_number allowed_at
text-Bang = has-way (codes "[CDATA[]]>") stage.Bang refl refl

text-Cdata : HasReading (rest_at stage.Cdata)
unfolding ascii_kind ascii in_declaration in_reference in_name in_tag in_fixed in_number allowed_at
text-Cdata = has-way (codes "]]>") stage.Cdata refl refl

text-EndTagMark : HasReading (rest_at stage.EndTagMark)
unfolding ascii_kind ascii in_declaration in_reference in_name in_tag in_fixed in_number allowed_at
text-EndTagMark = has-way (codes "a>") stage.EndTagMark refl refl

text-InTag : HasReading (rest_at stage.InTag)
unfolding ascii_kind ascii in_declaration in_reference in_name in_tag in_fixed in_number allowed_at
text-InTag = has-way (codes ">") stage.InTag refl refl

text-ValueEnded : HasReading (rest_at stage.ValueEnded)
unfolding ascii_kind ascii in_declaration in_reference in_name in_tag in_fixed in_number allowed_at
text-ValueEnded = has-way (codes ">") stage.ValueEnded refl refl

text-EmptyTagMark : HasReading (rest_at stage.EmptyTagMark)
unfolding ascii_kind ascii in_declaration in_reference in_name in_tag in_fixed in_number allowed_at
text-EmptyTagMark = has-way (codes ">") stage.EmptyTagMark refl refl

text-AttrNamed : HasReading (rest_at stage.AttrNamed)
unfolding ascii_kind ascii in_declaration in_reference in_name in_tag in_fixed in_number allowed_at
text-AttrNamed = has-way (codes "='1'>") stage.AttrNamed refl refl

text-ValueAwaited : HasReading (rest_at stage.ValueAwaited)
unfolding ascii_kind ascii in_declaration in_reference in_name in_tag in_fixed in_number allowed_at
text-ValueAwaited = has-way (codes "'1'>") stage.ValueAwaited refl refl

text-EndTagNamed : HasReading (rest_at stage.EndTagNamed)
unfolding ascii_kind ascii in_declaration in_reference in_name in_tag in_fixed in_number allowed_at
text-EndTagNamed = has-way (codes ">") stage.EndTagNamed refl refl

text-Reference : (p : Context) (l : EntityName) → HasReading (rest_at (stage.Reference p l))
unfolding ascii_kind ascii in_declaration in_reference in_name in_tag in_fixed in_number allowed_at
text-Reference Words entity_name.Empty = has-way (codes "lt;") (stage.Reference Words entity_name.Empty) refl refl
text-Reference Words entity_name.A = has-way (codes "mp;") (stage.Reference Words entity_name.A) refl refl
text-Reference Words entity_name.Am = has-way (codes "p;") (stage.Reference Words entity_name.Am) refl refl
text-Reference Words entity_name.Amp = has-way (codes ";") (stage.Reference Words entity_name.Amp) refl refl
text-Reference Words entity_name.Ap = has-way (codes "os;") (stage.Reference Words entity_name.Ap) refl refl
text-Reference Words entity_name.Apo = has-way (codes "s;") (stage.Reference Words entity_name.Apo) refl refl
text-Reference Words entity_name.Apos = has-way (codes ";") (stage.Reference Words entity_name.Apos) refl refl
text-Reference Words entity_name.L = has-way (codes "t;") (stage.Reference Words entity_name.L) refl refl
text-Reference Words entity_name.Lt = has-way (codes ";") (stage.Reference Words entity_name.Lt) refl refl
text-Reference Words entity_name.G = has-way (codes "t;") (stage.Reference Words entity_name.G) refl refl
text-Reference Words entity_name.Gt = has-way (codes ";") (stage.Reference Words entity_name.Gt) refl refl
text-Reference Words entity_name.Q = has-way (codes "uot;") (stage.Reference Words entity_name.Q) refl refl
text-Reference Words entity_name.Qu = has-way (codes "ot;") (stage.Reference Words entity_name.Qu) refl refl
text-Reference Words entity_name.Quo = has-way (codes "t;") (stage.Reference Words entity_name.Quo) refl refl
text-Reference Words entity_name.Quot = has-way (codes ";") (stage.Reference Words entity_name.Quot) refl refl
text-Reference (Value Double) entity_name.Empty = has-way (codes "lt;\">") (stage.Reference (Value Double) entity_name.Empty) refl refl
text-Reference (Value Double) entity_name.A = has-way (codes "mp;\">") (stage.Reference (Value Double) entity_name.A) refl refl
text-Reference (Value Double) entity_name.Am = has-way (codes "p;\">") (stage.Reference (Value Double) entity_name.Am) refl refl
text-Reference (Value Double) entity_name.Amp = has-way (codes ";\">") (stage.Reference (Value Double) entity_name.Amp) refl refl
text-Reference (Value Double) entity_name.Ap = has-way (codes "os;\">") (stage.Reference (Value Double) entity_name.Ap) refl refl
text-Reference (Value Double) entity_name.Apo = has-way (codes "s;\">") (stage.Reference (Value Double) entity_name.Apo) refl refl
text-Reference (Value Double) entity_name.Apos = has-way (codes ";\">") (stage.Reference (Value Double) entity_name.Apos) refl refl
text-Reference (Value Double) entity_name.L = has-way (codes "t;\">") (stage.Reference (Value Double) entity_name.L) refl refl
text-Reference (Value Double) entity_name.Lt = has-way (codes ";\">") (stage.Reference (Value Double) entity_name.Lt) refl refl
text-Reference (Value Double) entity_name.G = has-way (codes "t;\">") (stage.Reference (Value Double) entity_name.G) refl refl
text-Reference (Value Double) entity_name.Gt = has-way (codes ";\">") (stage.Reference (Value Double) entity_name.Gt) refl refl
text-Reference (Value Double) entity_name.Q = has-way (codes "uot;\">") (stage.Reference (Value Double) entity_name.Q) refl refl
text-Reference (Value Double) entity_name.Qu = has-way (codes "ot;\">") (stage.Reference (Value Double) entity_name.Qu) refl refl
text-Reference (Value Double) entity_name.Quo = has-way (codes "t;\">") (stage.Reference (Value Double) entity_name.Quo) refl refl
text-Reference (Value Double) entity_name.Quot = has-way (codes ";\">") (stage.Reference (Value Double) entity_name.Quot) refl refl
text-Reference (Value Single) entity_name.Empty = has-way (codes "lt;'>") (stage.Reference (Value Single) entity_name.Empty) refl refl
text-Reference (Value Single) entity_name.A = has-way (codes "mp;'>") (stage.Reference (Value Single) entity_name.A) refl refl
text-Reference (Value Single) entity_name.Am = has-way (codes "p;'>") (stage.Reference (Value Single) entity_name.Am) refl refl
text-Reference (Value Single) entity_name.Amp = has-way (codes ";'>") (stage.Reference (Value Single) entity_name.Amp) refl refl
text-Reference (Value Single) entity_name.Ap = has-way (codes "os;'>") (stage.Reference (Value Single) entity_name.Ap) refl refl
text-Reference (Value Single) entity_name.Apo = has-way (codes "s;'>") (stage.Reference (Value Single) entity_name.Apo) refl refl
text-Reference (Value Single) entity_name.Apos = has-way (codes ";'>") (stage.Reference (Value Single) entity_name.Apos) refl refl
text-Reference (Value Single) entity_name.L = has-way (codes "t;'>") (stage.Reference (Value Single) entity_name.L) refl refl
text-Reference (Value Single) entity_name.Lt = has-way (codes ";'>") (stage.Reference (Value Single) entity_name.Lt) refl refl
text-Reference (Value Single) entity_name.G = has-way (codes "t;'>") (stage.Reference (Value Single) entity_name.G) refl refl
text-Reference (Value Single) entity_name.Gt = has-way (codes ";'>") (stage.Reference (Value Single) entity_name.Gt) refl refl
text-Reference (Value Single) entity_name.Q = has-way (codes "uot;'>") (stage.Reference (Value Single) entity_name.Q) refl refl
text-Reference (Value Single) entity_name.Qu = has-way (codes "ot;'>") (stage.Reference (Value Single) entity_name.Qu) refl refl
text-Reference (Value Single) entity_name.Quo = has-way (codes "t;'>") (stage.Reference (Value Single) entity_name.Quo) refl refl
text-Reference (Value Single) entity_name.Quot = has-way (codes ";'>") (stage.Reference (Value Single) entity_name.Quot) refl refl

text-Hash : (p : Context) → HasReading (rest_at (stage.Hash p))
unfolding ascii_kind ascii in_declaration in_reference in_name in_tag in_fixed in_number allowed_at
text-Hash Words = has-way (codes "65;") (stage.Hash Words) refl refl
text-Hash (Value Double) = has-way (codes "65;\">") (stage.Hash (Value Double)) refl refl
text-Hash (Value Single) = has-way (codes "65;'>") (stage.Hash (Value Single)) refl refl

text-HashX : (p : Context) → HasReading (rest_at (stage.HashX p))
unfolding ascii_kind ascii in_declaration in_reference in_name in_tag in_fixed in_number allowed_at
text-HashX Words = has-way (codes "41;") (stage.HashX Words) refl refl
text-HashX (Value Double) = has-way (codes "41;\">") (stage.HashX (Value Double)) refl refl
text-HashX (Value Single) = has-way (codes "41;'>") (stage.HashX (Value Single)) refl refl

text-Name : (r : NameOwner) (h : Half) → HasReading (rest_at (stage.Name r h))
unfolding ascii_kind ascii in_declaration in_reference in_name in_tag in_fixed in_number allowed_at
text-Name StartTag Prefix = has-way (codes ">") (stage.Name StartTag Prefix) refl refl
text-Name StartTag Local = has-way (codes ">") (stage.Name StartTag Local) refl refl
text-Name EndTag Prefix = has-way (codes ">") (stage.Name EndTag Prefix) refl refl
text-Name EndTag Local = has-way (codes ">") (stage.Name EndTag Local) refl refl
text-Name Attribute Prefix = has-way (codes "='1'>") (stage.Name Attribute Prefix) refl refl
text-Name Attribute Local = has-way (codes "='1'>") (stage.Name Attribute Local) refl refl

text-Colon : (r : NameOwner) → HasReading (rest_at (stage.Colon r))
unfolding ascii_kind ascii in_declaration in_reference in_name in_tag in_fixed in_number allowed_at
text-Colon StartTag = has-way (codes "a>") (stage.Colon StartTag) refl refl
text-Colon EndTag = has-way (codes "a>") (stage.Colon EndTag) refl refl
text-Colon Attribute = has-way (codes "a='1'>") (stage.Colon Attribute) refl refl

text-Bracketed : (b : Brackets) → HasReading (rest_at (stage.Bracketed b))
unfolding ascii_kind ascii in_declaration in_reference in_name in_tag in_fixed in_number allowed_at
text-Bracketed One = has-way (codes "x") (stage.Bracketed One) refl refl
text-Bracketed Many = has-way (codes "x") (stage.Bracketed Many) refl refl

text-CdataBracketed : (b : Brackets) → HasReading (rest_at (stage.CdataBracketed b))
unfolding ascii_kind ascii in_declaration in_reference in_name in_tag in_fixed in_number allowed_at
text-CdataBracketed One = has-way (codes "]>") (stage.CdataBracketed One) refl refl
text-CdataBracketed Many = has-way (codes ">") (stage.CdataBracketed Many) refl refl

-- Numbers: two further digits at most make a character of XML.

both-text : (p q : Expression) → HasReading p → HasReading q → HasReading (concat p q)
unfolding IsText
both-text p q (cs, ts, h, m) (ds, us, k, n) =
    (cs ++ ds, ts ++ us, clean-append cs ds h k, (cs, all_said ts, ds, all_said us, m, n, refl, said-append ts us))

-- the number v, with further digits
number-text : (p : Context) (base : Base) (v : ℕ) (ds : List ℕ) → is_clean (ds ++ 59 ∷ []) ≡ true → AreDigits base ds → is_xml (value base v ds) ≡ true
    → HasReading (number base (λ c. all_said (text_token p c ∷ [])) v)
unfolding IsText ascii_kind
number-text p base v ds clean are x = (ds ++ 59 ∷ [], text_token p (value base v ds) ∷ [], clean, (ds, 59, are, refl, refl, x, refl))

xml-low : (n : ℕ) → 32 ≤ n → n < 55296 → is_xml n ≡ true
xml-low n h k = grind (arith, nat_tests)

xml-high : (n : ℕ) → 65536 ≤ n → n < 0x110000 → is_xml n ≡ true
xml-high n h k = grind (arith, nat_tests)

-- where v is no character of XML, the digit 0 follows, or the digits 0 and 0, or the digit 9
zero-text : (p : Context) (base : Base) (v : ℕ) → 55296 ≤ v → v < 65536 → HasReading (number base (λ c. all_said (text_token p c ∷ [])) v)
unfolding ascii_kind
zero-text p Decimal v h k = number-text p Decimal v (48 ∷ []) refl (refl, tt) (xml-high (10 * v + 0) (omega arith) (omega arith))
zero-text p Hexadecimal v h k = number-text p Hexadecimal v (48 ∷ []) refl (refl, tt) (xml-high (16 * v + 0) (omega arith) (omega arith))

low-text : (p : Context) (base : Base) (v : ℕ) → 1 ≤ v → v < 32 → HasReading (number base (λ c. all_said (text_token p c ∷ [])) v)
unfolding ascii_kind
low-text p Decimal v h k = number-text p Decimal v (48 ∷ 48 ∷ []) refl (refl, (refl, tt)) (xml-low (10 * (10 * v + 0) + 0) (omega arith) (omega arith))
low-text p Hexadecimal v h k = number-text p Hexadecimal v (48 ∷ 48 ∷ []) refl (refl, (refl, tt)) (xml-low (16 * (16 * v + 0) + 0) (omega arith) (omega arith))

nine-text : (p : Context) (base : Base) (v : ℕ) → v ≡ 0 → HasReading (number base (λ c. all_said (text_token p c ∷ [])) v)
unfolding ascii_kind
nine-text p Decimal v e =
    subst (λ (n : ℕ). HasReading (number Decimal (λ c. all_said (text_token p c ∷ [])) n)) (sym e) (number-text p Decimal 0 (57 ∷ []) refl (refl, tt) refl)
nine-text p Hexadecimal v e = subst (λ (n : ℕ). HasReading (number Hexadecimal (λ c. all_said (text_token p c ∷ [])) n)) (sym e)
    (number-text p Hexadecimal 0 (57 ∷ []) refl (refl, tt) refl)

any-number-text : (p : Context) (base : Base) (v : ℕ) → v < 0x110000 → HasReading (number base (λ c. all_said (text_token p c ∷ [])) v)
any-number-text p base v h = elim (cases_lt v 32) [
  | inl a ↦ elim (cases_lt v 1) [ inl b ↦ nine-text p base v (omega arith) | inr b ↦ low-text p base v b a ]
  | inr a ↦ elim (cases_lt v 55296) [
    | inl b ↦ number-text p base v [] refl tt (xml-low v a b)
    | inr b ↦ elim (cases_lt v 65536) [ inl d ↦ zero-text p base v b d | inr d ↦ number-text p base v [] refl tt (xml-high v d h) ]
  ]
]

text-Number : (p : Context) (base : Base) (v : ℕ) → v < 0x110000 → HasReading (rest_at (stage.Number p base v))
unfolding rest_at
text-Number p base v h = both-text (number base (λ c. all_said (text_token p c ∷ [])) v) (rest_of_text p) (any-number-text p base v h) (text-Text p)

-- Fixed words: their own letters.

abbrev is_own : ℕ → Bool
is_own d = (nat_lt d 128 && not (is_wide (ascii_kind d))) && is_clean (d ∷ [])

abbrev is_own_lower : ℕ → Bool
is_own_lower d = is_own d && lower d == d

abbrev every : (ℕ → Bool) → List ℕ → Bool
every P [] = true
every P (d ∷ ds) = P d && every P ds

every-drop : (P : ℕ → Bool) (ds : List ℕ) (n : ℕ) → every P ds ≡ true → every P (drop n ds) ≡ true
every-drop P ds zero h = h
every-drop P [] (suc n) h = h
every-drop P (d ∷ ds) (suc n) h = every-drop P ds n (and_parts (P d) (every P ds) h).1

own-kind : (d : ℕ) → nat_lt d 128 ≡ true → kind d ≡ ascii_kind d
own-kind d h = cond-true _ _ _ h

own-parts : (d : ℕ) → is_own d ≡ true → (not (is_wide (kind d)) ≡ true) × (is_clean (d ∷ []) ≡ true)
own-parts d h =
    let a = and_parts (nat_lt d 128 && not (is_wide (ascii_kind d))) (is_clean (d ∷ [])) h in
    let b = and_parts (nat_lt d 128) (not (is_wide (ascii_kind d))) a.0 in
    (ap (λ k. not (is_wide k)) (own-kind d b.0) ∙ b.1, a.1)

word-text : (ds : List ℕ) (q : Expression) → every is_own ds ≡ true → HasReading q → HasReading (word ds q)
unfolding IsText
word-text [] q h t = t
word-text (d ∷ ds) q h t =
    let a = and_parts (is_own d) (every is_own ds) h in
    let o = own-parts d a.0 in
    let letter : is_letter d (kind d) d ≡ true = and_from _ _ o.0 (eq-eqb d d refl) in
    both-text (silent_symbol (is_letter d)) (word ds q) (d ∷ [], [], o.1, (d, letter, refl, refl)) (word-text ds q a.1 t)

charset-text : (ds : List ℕ) (q : Expression) → every is_own_lower ds ≡ true → HasReading q → HasReading (charset ds q)
unfolding IsText
charset-text [] q h t = t
charset-text (d ∷ ds) q h t =
    let a = and_parts (is_own_lower d) (every is_own_lower ds) h in
    let l = and_parts (is_own d) (lower d == d) a.0 in
    let o = own-parts d l.0 in
    let letter : is_either_case d (kind d) d ≡ true = and_from _ _ o.0 l.1 in
    let r = both-text (silent_symbol (is_either_case d)) (charset ds q) (d ∷ [], [], o.1, (d, letter, refl, refl)) (charset-text ds q a.1 t) in
    (r.0, r.1, r.2, inl r.3)

own-letters : (w : Literal) → every is_own (letters w) ≡ true
unfolding ascii_kind
own-letters literal.Xml = refl
own-letters (literal.Name Version) = refl
own-letters (literal.Name Encoding) = refl
own-letters (literal.Name Standalone) = refl
own-letters w = refl

own-charset : every is_own_lower (codes "utf-8") ≡ true
unfolding ascii_kind
own-charset = refl

literal-text : (w : Literal) → HasReading (rest_of_literal w)
unfolding rest_at
literal-text literal.Xml = text-XmlSeen
literal-text (literal.Name i) = text-InfoName i
literal-text (literal.Major q) = text-MinorFirst q
literal-text (literal.Charset q) = text-CharsetSeen q
literal-text (literal.Yes q) = text-Chosen q
literal-text (literal.No q) = text-Chosen q
literal-text literal.Cdata = text-Cdata

text-Fixed : (w : Literal) (at : ℕ) → HasReading (rest_at (stage.Fixed w at))
unfolding rest_at
text-Fixed (literal.Charset q) at = charset-text (drop at (codes "utf-8")) (charset_end q) (every-drop is_own_lower (codes "utf-8") at own-charset)
    (literal-text (literal.Charset q))
text-Fixed literal.Xml at =
    word-text (drop at (letters literal.Xml)) (rest_of_literal literal.Xml) (every-drop is_own (letters literal.Xml) at (own-letters literal.Xml))
    (literal-text literal.Xml)
text-Fixed w at = word-text (drop at (letters w)) (rest_of_literal w) (every-drop is_own (letters w) at (own-letters w)) (literal-text w)

-- each live stage has a text
pub has-text : (s : Stage) → is_live_stage s ≡ true → HasReading (rest_at s)
has-text (stage.Text p) live = text-Text p
has-text (stage.Bracketed b) live = text-Bracketed b
has-text (stage.CdataBracketed b) live = text-CdataBracketed b
has-text (stage.InfoName i) live = text-InfoName i
has-text (stage.InfoEquals i) live = text-InfoEquals i
has-text (stage.InfoEnds i) live = text-InfoEnds i
has-text (stage.InfoSpace i) live = text-InfoSpace i
has-text (stage.MinorFirst q) live = text-MinorFirst q
has-text (stage.Minor q) live = text-Minor q
has-text (stage.CharsetSeen q) live = text-CharsetSeen q
has-text (stage.Choice q) live = text-Choice q
has-text (stage.Chosen q) live = text-Chosen q
has-text (stage.Reference p l) live = text-Reference p l
has-text (stage.Hash p) live = text-Hash p
has-text (stage.HashX p) live = text-HashX p
has-text (stage.Name r h) live = text-Name r h
has-text (stage.Colon r) live = text-Colon r
has-text (stage.Fixed w at) live = text-Fixed w at
has-text (stage.Number p base v) live = text-Number p base v (ltb-true v 0x110000 live)
has-text stage.Start live = text-Start
has-text stage.StartLess live = text-StartLess
has-text stage.Prolog live = text-Prolog
has-text stage.PrologLess live = text-PrologLess
has-text stage.XmlSeen live = text-XmlSeen
has-text stage.XmlSpace live = text-XmlSpace
has-text stage.DeclarationMark live = text-DeclarationMark
has-text stage.Less live = text-Less
has-text stage.Bang live = text-Bang
has-text stage.Cdata live = text-Cdata
has-text stage.EndTagMark live = text-EndTagMark
has-text stage.InTag live = text-InTag
has-text stage.ValueEnded live = text-ValueEnded
has-text stage.EmptyTagMark live = text-EmptyTagMark
has-text stage.AttrNamed live = text-AttrNamed
has-text stage.ValueAwaited live = text-ValueAwaited
has-text stage.EndTagNamed live = text-EndTagNamed

pub beyond_refusal-text : (s : Stage) → HasReading (beyond_refusal s)
unfolding beyond_refusal rest_at
beyond_refusal-text (stage.Reference p l) = text-Text p
beyond_refusal-text (stage.Fixed w at) = text-Prolog
beyond_refusal-text (stage.CharsetSeen q) = text-Prolog
beyond_refusal-text s = text-Text Words
