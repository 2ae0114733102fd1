-- Each character keeps to the grammar: what may follow it at a stage is what may follow where the machine goes.
use Rattle.std.proofs.Common.{◌≡◌, ℕ, ◌+◌, ◌*◌, ◌<◌, List, [], ◌∷◌, drop, length, get_or, refl, ap, ◌∙◌, Bool, true, false, not, cond, ◌&&◌, nat_lt, arith}
use Rattle.std.proofs.lemmas.Bool.{cond_both, ltb-true, ltb-false}
use Rattle.std.proofs.lemmas.List.{drop_more, drop_all}
use Rattle.stream_lex.specs.declared.LexFault.TheVariants.{NotWellFormed, BadEncoding}
use Rattle.stream_lex.specs.declared.kinds.Kind.{Kind}
use Rattle.stream_lex.specs.declared.kinds.Kind.TheVariants as kinds
use Rattle.stream_lex.specs.declared.stages.Quote.{Quote}
use Rattle.stream_lex.specs.declared.stages.Quote.TheVariants.{Double, Single}
use Rattle.stream_lex.specs.declared.stages.Context.{Context}
use Rattle.stream_lex.specs.declared.stages.Context.TheVariants.{Words, Value}
use Rattle.stream_lex.specs.declared.stages.NameOwner.{NameOwner}
use Rattle.stream_lex.specs.declared.stages.NameOwner.TheVariants.{StartTag, EndTag, Attribute}
use Rattle.stream_lex.specs.declared.stages.Half.{Half}
use Rattle.stream_lex.specs.declared.stages.Half.TheVariants.{Prefix, Local}
use Rattle.stream_lex.specs.declared.stages.Brackets.{Brackets}
use Rattle.stream_lex.specs.declared.stages.Brackets.TheVariants.{One, Many}
use Rattle.stream_lex.specs.declared.stages.Base.{Base}
use Rattle.stream_lex.specs.declared.stages.Base.TheVariants.{Decimal, Hexadecimal}
use Rattle.stream_lex.specs.declared.stages.EntityName.{EntityName}
use Rattle.stream_lex.specs.declared.stages.EntityName.TheVariants as entity_name
use Rattle.stream_lex.specs.declared.stages.Info.{Info}
use Rattle.stream_lex.specs.declared.stages.Info.TheVariants.{Version, Encoding, Standalone}
use Rattle.stream_lex.specs.declared.stages.Literal.{Literal}
use Rattle.stream_lex.specs.declared.stages.Literal.TheVariants as literal
use Rattle.stream_lex.specs.declared.stages.Stage.{Stage}
use Rattle.stream_lex.specs.declared.stages.Stage.TheVariants as stage
use Rattle.stream_lex.specs.grammar.Classes.{is_xml}
use Rattle.stream_lex.specs.grammar.Kinds.{digit, base_of, is_wide}
use Rattle.stream_lex.specs.grammar.Expressions.{Sign, refuses, all_said, Expression, void, empty, yields, number, concat, union, concat_of}
use Rattle.stream_lex.specs.machine.Derivatives.{union_of, derivative}
use Rattle.stream_lex.specs.grammar.Grammar.{text_token, prolog}
use Rattle.stream_lex.specs.machine.Machine.{Turn, goes, stops, letters, fixed_end, fixed_fault, is_fixed, in_fixed, in_declaration, in_reference}
use Rattle.stream_lex.specs.machine.Machine.{in_number, in_name, in_tag, ascii, allowed_at, voice, through, wide_fault, next}
use Rattle.stream_lex.specs.machine.Machine.{yields as tells_and_goes}
use Rattle.stream_lex.specs.machine.Live.{is_live_stage}
use Rattle.stream_lex.specs.machine.Rests.{rest_of_bracketed, bracketed_end, rest_of_text, rest_of_fixed, rest_at, beyond_refusal}

-- what is told, and then what follows a stage
abbrev pub given : List Sign → Stage → Expression
given us (stage.Bracketed b) = union (concat (yields us) (rest_of_bracketed b)) (concat (yields us) bracketed_end)
given us s = concat (yields us) (rest_at s)

-- what a turn says of the characters after it
abbrev pub shown : Stage → Turn → Expression
shown s (goes t) = rest_at t
shown s (tells_and_goes ts t) = given (all_said ts) t
shown s (stops NotWellFormed) = void
shown s (stops f) = concat (yields (refuses f ∷ [])) (beyond_refusal s)

union_of-void : (p : Expression) → union_of p void ≡ p
union_of-void void = refl
union_of-void p = refl

-- Fixed words.

word-so : (t : Bool) (p : Expression) → union_of (concat_of (cond t empty void) p) void ≡ cond t p void
word-so true p = union_of-void p
word-so false p = refl

charset-so : (t : Bool) (p : Expression)
    → union_of (union_of (concat_of (cond t empty void) p) void) (union_of (concat_of (cond (not t) (yields (refuses BadEncoding ∷ [])) void) prolog) void)
    ≡ cond t p (concat (yields (refuses BadEncoding ∷ [])) prolog)
charset-so true p = union_of-void (union_of p void) ∙ union_of-void p
charset-so false p = refl

-- what a letter leaves, of a fixed word with the letters ds after it
abbrev fixed_left : Literal → Bool → List ℕ → Expression
fixed_left (literal.Charset q) t ds = cond t (rest_of_fixed (literal.Charset q) ds) (concat (yields (refuses BadEncoding ∷ [])) prolog)
fixed_left w t ds = cond t (rest_of_fixed w ds) void

abbrev fits : Literal → Kind → ℕ → ℕ → Bool
fits w k d c = not (is_wide k) && is_fixed w d c

fixed-letter : (w : Literal) (k : Kind) (c d : ℕ) (ds : List ℕ) → derivative k c (rest_of_fixed w (d ∷ ds)) ≡ fixed_left w (fits w k d c) ds
fixed-letter (literal.Charset q) k c d ds = charset-so (fits (literal.Charset q) k d c) (rest_of_fixed (literal.Charset q) ds)
fixed-letter w k c d ds = word-so (fits w k d c) (rest_of_fixed w ds)

fixed-end : (w : Literal) → rest_of_fixed w [] ≡ rest_at (fixed_end w)
unfolding rest_at
fixed-end literal.Xml = refl
fixed-end w = refl

fixed-goes : (w : Literal) (at : ℕ) → at < length (letters w)
    → rest_of_fixed w (drop (at + 1) (letters w)) ≡ rest_at (cond (nat_lt (at + 1) (length (letters w))) (stage.Fixed w (at + 1)) (fixed_end w))
unfolding rest_at
fixed-goes w at h =
    cond_both (nat_lt (at + 1) (length (letters w))) (stage.Fixed w (at + 1)) (fixed_end w) (λ s. rest_of_fixed w (drop (at + 1) (letters w)) ≡ rest_at s)
    (λ e. refl) (λ e. ap (λ (l : List ℕ). rest_of_fixed w l) (drop_all (at + 1) (letters w) (let g = ltb-false (at + 1) (length (letters w)) e in omega arith))
    ∙ fixed-end w)

fixed-turn : (w : Literal) (at : ℕ) (t : Bool) (ds : List ℕ) (s : Stage) → rest_of_fixed w ds ≡ rest_at s
    → fixed_left w t ds ≡ shown (stage.Fixed w at) (cond t (goes s) (stops (fixed_fault w)))
unfolding beyond_refusal
fixed-turn literal.Xml at true ds s e = e
fixed-turn literal.Xml at false ds s e = refl
fixed-turn w at true ds s e = e
fixed-turn w at false ds s e = refl

-- Each stage.

keeps-Start : (k : Kind) (c : ℕ) → derivative k c (rest_at stage.Start) ≡ shown stage.Start (next stage.Start k c)
unfolding rest_at beyond_refusal ascii in_declaration in_reference in_number in_name in_tag allowed_at voice through wide_fault
keeps-Start kinds.Space c = refl
keeps-Start k c = refl

keeps-StartLess : (k : Kind) (c : ℕ) → derivative k c (rest_at stage.StartLess) ≡ shown stage.StartLess (next stage.StartLess k c)
unfolding rest_at beyond_refusal ascii in_declaration in_reference in_number in_name in_tag allowed_at voice through wide_fault
keeps-StartLess kinds.Space c = refl
keeps-StartLess k c = refl

keeps-Prolog : (k : Kind) (c : ℕ) → derivative k c (rest_at stage.Prolog) ≡ shown stage.Prolog (next stage.Prolog k c)
unfolding rest_at beyond_refusal ascii in_declaration in_reference in_number in_name in_tag allowed_at voice through wide_fault
keeps-Prolog kinds.Space c = refl
keeps-Prolog k c = refl

keeps-PrologLess : (k : Kind) (c : ℕ) → derivative k c (rest_at stage.PrologLess) ≡ shown stage.PrologLess (next stage.PrologLess k c)
unfolding rest_at beyond_refusal ascii in_declaration in_reference in_number in_name in_tag allowed_at voice through wide_fault
keeps-PrologLess kinds.Space c = refl
keeps-PrologLess k c = refl

keeps-XmlSeen : (k : Kind) (c : ℕ) → derivative k c (rest_at stage.XmlSeen) ≡ shown stage.XmlSeen (next stage.XmlSeen k c)
unfolding rest_at beyond_refusal ascii in_declaration in_reference in_number in_name in_tag allowed_at voice through wide_fault
keeps-XmlSeen kinds.Space c = refl
keeps-XmlSeen k c = refl

keeps-XmlSpace : (k : Kind) (c : ℕ) → derivative k c (rest_at stage.XmlSpace) ≡ shown stage.XmlSpace (next stage.XmlSpace k c)
unfolding rest_at beyond_refusal ascii in_declaration in_reference in_number in_name in_tag allowed_at voice through wide_fault
keeps-XmlSpace kinds.Space c = refl
keeps-XmlSpace k c = refl

keeps-DeclarationMark : (k : Kind) (c : ℕ) → derivative k c (rest_at stage.DeclarationMark) ≡ shown stage.DeclarationMark (next stage.DeclarationMark k c)
unfolding rest_at beyond_refusal ascii in_declaration in_reference in_number in_name in_tag allowed_at voice through wide_fault
keeps-DeclarationMark kinds.Space c = refl
keeps-DeclarationMark k c = refl

keeps-Less : (k : Kind) (c : ℕ) → derivative k c (rest_at stage.Less) ≡ shown stage.Less (next stage.Less k c)
unfolding rest_at beyond_refusal ascii in_declaration in_reference in_number in_name in_tag allowed_at voice through wide_fault
keeps-Less kinds.Space c = refl
keeps-Less k c = refl

keeps-Bang : (k : Kind) (c : ℕ) → derivative k c (rest_at stage.Bang) ≡ shown stage.Bang (next stage.Bang k c)
unfolding rest_at beyond_refusal ascii in_declaration in_reference in_number in_name in_tag allowed_at voice through wide_fault
keeps-Bang kinds.Space c = refl
keeps-Bang k c = refl

keeps-Cdata : (k : Kind) (c : ℕ) → derivative k c (rest_at stage.Cdata) ≡ shown stage.Cdata (next stage.Cdata k c)
unfolding rest_at beyond_refusal ascii in_declaration in_reference in_number in_name in_tag allowed_at voice through wide_fault
keeps-Cdata kinds.Space c = refl
keeps-Cdata k c = refl

keeps-EndTagMark : (k : Kind) (c : ℕ) → derivative k c (rest_at stage.EndTagMark) ≡ shown stage.EndTagMark (next stage.EndTagMark k c)
unfolding rest_at beyond_refusal ascii in_declaration in_reference in_number in_name in_tag allowed_at voice through wide_fault
keeps-EndTagMark kinds.Space c = refl
keeps-EndTagMark k c = refl

keeps-InTag : (k : Kind) (c : ℕ) → derivative k c (rest_at stage.InTag) ≡ shown stage.InTag (next stage.InTag k c)
unfolding rest_at beyond_refusal ascii in_declaration in_reference in_number in_name in_tag allowed_at voice through wide_fault
keeps-InTag kinds.Space c = refl
keeps-InTag k c = refl

keeps-ValueEnded : (k : Kind) (c : ℕ) → derivative k c (rest_at stage.ValueEnded) ≡ shown stage.ValueEnded (next stage.ValueEnded k c)
unfolding rest_at beyond_refusal ascii in_declaration in_reference in_number in_name in_tag allowed_at voice through wide_fault
keeps-ValueEnded kinds.Space c = refl
keeps-ValueEnded k c = refl

keeps-EmptyTagMark : (k : Kind) (c : ℕ) → derivative k c (rest_at stage.EmptyTagMark) ≡ shown stage.EmptyTagMark (next stage.EmptyTagMark k c)
unfolding rest_at beyond_refusal ascii in_declaration in_reference in_number in_name in_tag allowed_at voice through wide_fault
keeps-EmptyTagMark kinds.Space c = refl
keeps-EmptyTagMark k c = refl

keeps-AttrNamed : (k : Kind) (c : ℕ) → derivative k c (rest_at stage.AttrNamed) ≡ shown stage.AttrNamed (next stage.AttrNamed k c)
unfolding rest_at beyond_refusal ascii in_declaration in_reference in_number in_name in_tag allowed_at voice through wide_fault
keeps-AttrNamed kinds.Space c = refl
keeps-AttrNamed k c = refl

keeps-ValueAwaited : (k : Kind) (c : ℕ) → derivative k c (rest_at stage.ValueAwaited) ≡ shown stage.ValueAwaited (next stage.ValueAwaited k c)
unfolding rest_at beyond_refusal ascii in_declaration in_reference in_number in_name in_tag allowed_at voice through wide_fault
keeps-ValueAwaited kinds.Space c = refl
keeps-ValueAwaited k c = refl

keeps-EndTagNamed : (k : Kind) (c : ℕ) → derivative k c (rest_at stage.EndTagNamed) ≡ shown stage.EndTagNamed (next stage.EndTagNamed k c)
unfolding rest_at beyond_refusal ascii in_declaration in_reference in_number in_name in_tag allowed_at voice through wide_fault
keeps-EndTagNamed kinds.Space c = refl
keeps-EndTagNamed k c = refl

keeps-InfoName : (i : Info) (k : Kind) (c : ℕ) → derivative k c (rest_at (stage.InfoName i)) ≡ shown (stage.InfoName i) (next (stage.InfoName i) k c)
unfolding rest_at beyond_refusal ascii in_declaration in_reference in_number in_name in_tag allowed_at voice through wide_fault
keeps-InfoName i kinds.Space c = refl
keeps-InfoName i k c = refl

keeps-InfoEquals : (i : Info) (k : Kind) (c : ℕ) → derivative k c (rest_at (stage.InfoEquals i)) ≡ shown (stage.InfoEquals i) (next (stage.InfoEquals i) k c)
unfolding rest_at beyond_refusal ascii in_declaration in_reference in_number in_name in_tag allowed_at voice through wide_fault
keeps-InfoEquals Version kinds.Space c = refl
keeps-InfoEquals Version k c = refl
keeps-InfoEquals Encoding kinds.Space c = refl
keeps-InfoEquals Encoding k c = refl
keeps-InfoEquals Standalone kinds.Space c = refl
keeps-InfoEquals Standalone k c = refl

keeps-InfoEnds : (i : Info) (k : Kind) (c : ℕ) → derivative k c (rest_at (stage.InfoEnds i)) ≡ shown (stage.InfoEnds i) (next (stage.InfoEnds i) k c)
unfolding rest_at beyond_refusal ascii in_declaration in_reference in_number in_name in_tag allowed_at voice through wide_fault
keeps-InfoEnds Version kinds.Space c = refl
keeps-InfoEnds Version k c = refl
keeps-InfoEnds Encoding kinds.Space c = refl
keeps-InfoEnds Encoding k c = refl
keeps-InfoEnds Standalone kinds.Space c = refl
keeps-InfoEnds Standalone k c = refl

keeps-InfoSpace : (i : Info) (k : Kind) (c : ℕ) → derivative k c (rest_at (stage.InfoSpace i)) ≡ shown (stage.InfoSpace i) (next (stage.InfoSpace i) k c)
unfolding rest_at beyond_refusal ascii in_declaration in_reference in_number in_name in_tag allowed_at voice through wide_fault
keeps-InfoSpace Version kinds.Space c = refl
keeps-InfoSpace Version k c = refl
keeps-InfoSpace Encoding kinds.Space c = refl
keeps-InfoSpace Encoding k c = refl
keeps-InfoSpace Standalone kinds.Space c = refl
keeps-InfoSpace Standalone k c = refl

keeps-MinorFirst : (q : Quote) (k : Kind) (c : ℕ) → derivative k c (rest_at (stage.MinorFirst q)) ≡ shown (stage.MinorFirst q) (next (stage.MinorFirst q) k c)
unfolding rest_at beyond_refusal ascii in_declaration in_reference in_number in_name in_tag allowed_at voice through wide_fault
keeps-MinorFirst Double kinds.Space c = refl
keeps-MinorFirst Double k c = refl
keeps-MinorFirst Single kinds.Space c = refl
keeps-MinorFirst Single k c = refl

keeps-Minor : (q : Quote) (k : Kind) (c : ℕ) → derivative k c (rest_at (stage.Minor q)) ≡ shown (stage.Minor q) (next (stage.Minor q) k c)
unfolding rest_at beyond_refusal ascii in_declaration in_reference in_number in_name in_tag allowed_at voice through wide_fault
keeps-Minor Double kinds.Space c = refl
keeps-Minor Double k c = refl
keeps-Minor Single kinds.Space c = refl
keeps-Minor Single k c = refl

keeps-CharsetSeen : (q : Quote) (k : Kind) (c : ℕ)
    → derivative k c (rest_at (stage.CharsetSeen q)) ≡ shown (stage.CharsetSeen q) (next (stage.CharsetSeen q) k c)
unfolding rest_at beyond_refusal ascii in_declaration in_reference in_number in_name in_tag allowed_at voice through wide_fault
keeps-CharsetSeen Double kinds.Space c = refl
keeps-CharsetSeen Double k c = refl
keeps-CharsetSeen Single kinds.Space c = refl
keeps-CharsetSeen Single k c = refl

keeps-Choice : (q : Quote) (k : Kind) (c : ℕ) → derivative k c (rest_at (stage.Choice q)) ≡ shown (stage.Choice q) (next (stage.Choice q) k c)
unfolding rest_at beyond_refusal ascii in_declaration in_reference in_number in_name in_tag allowed_at voice through wide_fault
keeps-Choice Double kinds.Space c = refl
keeps-Choice Double k c = refl
keeps-Choice Single kinds.Space c = refl
keeps-Choice Single k c = refl

keeps-Chosen : (q : Quote) (k : Kind) (c : ℕ) → derivative k c (rest_at (stage.Chosen q)) ≡ shown (stage.Chosen q) (next (stage.Chosen q) k c)
unfolding rest_at beyond_refusal ascii in_declaration in_reference in_number in_name in_tag allowed_at voice through wide_fault
keeps-Chosen Double kinds.Space c = refl
keeps-Chosen Double k c = refl
keeps-Chosen Single kinds.Space c = refl
keeps-Chosen Single k c = refl

keeps-Text : (p : Context) (k : Kind) (c : ℕ) → derivative k c (rest_at (stage.Text p)) ≡ shown (stage.Text p) (next (stage.Text p) k c)
unfolding rest_at beyond_refusal ascii in_declaration in_reference in_number in_name in_tag allowed_at voice through wide_fault
keeps-Text Words kinds.Space c = refl
keeps-Text Words k c = refl
keeps-Text (Value Double) kinds.Space c = refl
keeps-Text (Value Double) k c = refl
keeps-Text (Value Single) kinds.Space c = refl
keeps-Text (Value Single) k c = refl

keeps-Bracketed : (b : Brackets) (k : Kind) (c : ℕ) → derivative k c (rest_at (stage.Bracketed b)) ≡ shown (stage.Bracketed b) (next (stage.Bracketed b) k c)
unfolding rest_at beyond_refusal ascii in_declaration in_reference in_number in_name in_tag allowed_at voice through wide_fault
keeps-Bracketed One kinds.Space c = refl
keeps-Bracketed One k c = refl
keeps-Bracketed Many kinds.Space c = refl
keeps-Bracketed Many k c = refl

keeps-CdataBracketed : (b : Brackets) (k : Kind) (c : ℕ)
    → derivative k c (rest_at (stage.CdataBracketed b)) ≡ shown (stage.CdataBracketed b) (next (stage.CdataBracketed b) k c)
unfolding rest_at beyond_refusal ascii in_declaration in_reference in_number in_name in_tag allowed_at voice through wide_fault
keeps-CdataBracketed One kinds.Space c = refl
keeps-CdataBracketed One k c = refl
keeps-CdataBracketed Many kinds.Space c = refl
keeps-CdataBracketed Many k c = refl

keeps-Reference : (p : Context) (l : EntityName) (k : Kind) (c : ℕ)
    → derivative k c (rest_at (stage.Reference p l)) ≡ shown (stage.Reference p l) (next (stage.Reference p l) k c)
unfolding rest_at beyond_refusal ascii in_declaration in_reference in_number in_name in_tag allowed_at voice through wide_fault
keeps-Reference p entity_name.Empty kinds.Space c = refl
keeps-Reference p entity_name.Empty k c = refl
keeps-Reference p entity_name.A kinds.Space c = refl
keeps-Reference p entity_name.A k c = refl
keeps-Reference p entity_name.Am kinds.Space c = refl
keeps-Reference p entity_name.Am k c = refl
keeps-Reference p entity_name.Amp kinds.Space c = refl
keeps-Reference p entity_name.Amp k c = refl
keeps-Reference p entity_name.Ap kinds.Space c = refl
keeps-Reference p entity_name.Ap k c = refl
keeps-Reference p entity_name.Apo kinds.Space c = refl
keeps-Reference p entity_name.Apo k c = refl
keeps-Reference p entity_name.Apos kinds.Space c = refl
keeps-Reference p entity_name.Apos k c = refl
keeps-Reference p entity_name.L kinds.Space c = refl
keeps-Reference p entity_name.L k c = refl
keeps-Reference p entity_name.Lt kinds.Space c = refl
keeps-Reference p entity_name.Lt k c = refl
keeps-Reference p entity_name.G kinds.Space c = refl
keeps-Reference p entity_name.G k c = refl
keeps-Reference p entity_name.Gt kinds.Space c = refl
keeps-Reference p entity_name.Gt k c = refl
keeps-Reference p entity_name.Q kinds.Space c = refl
keeps-Reference p entity_name.Q k c = refl
keeps-Reference p entity_name.Qu kinds.Space c = refl
keeps-Reference p entity_name.Qu k c = refl
keeps-Reference p entity_name.Quo kinds.Space c = refl
keeps-Reference p entity_name.Quo k c = refl
keeps-Reference p entity_name.Quot kinds.Space c = refl
keeps-Reference p entity_name.Quot k c = refl

keeps-Hash : (p : Context) (k : Kind) (c : ℕ) → derivative k c (rest_at (stage.Hash p)) ≡ shown (stage.Hash p) (next (stage.Hash p) k c)
unfolding rest_at beyond_refusal ascii in_declaration in_reference in_number in_name in_tag allowed_at voice through wide_fault
keeps-Hash p kinds.Space c = refl
keeps-Hash p k c = refl

keeps-HashX : (p : Context) (k : Kind) (c : ℕ) → derivative k c (rest_at (stage.HashX p)) ≡ shown (stage.HashX p) (next (stage.HashX p) k c)
unfolding rest_at beyond_refusal ascii in_declaration in_reference in_number in_name in_tag allowed_at voice through wide_fault
keeps-HashX p kinds.Space c = refl
keeps-HashX p k c = refl

keeps-Name : (r : NameOwner) (h : Half) (k : Kind) (c : ℕ) → derivative k c (rest_at (stage.Name r h)) ≡ shown (stage.Name r h) (next (stage.Name r h) k c)
unfolding rest_at beyond_refusal ascii in_declaration in_reference in_number in_name in_tag allowed_at voice through wide_fault
keeps-Name StartTag Prefix kinds.Space c = refl
keeps-Name StartTag Prefix k c = refl
keeps-Name StartTag Local kinds.Space c = refl
keeps-Name StartTag Local k c = refl
keeps-Name EndTag Prefix kinds.Space c = refl
keeps-Name EndTag Prefix k c = refl
keeps-Name EndTag Local kinds.Space c = refl
keeps-Name EndTag Local k c = refl
keeps-Name Attribute Prefix kinds.Space c = refl
keeps-Name Attribute Prefix k c = refl
keeps-Name Attribute Local kinds.Space c = refl
keeps-Name Attribute Local k c = refl

keeps-Colon : (r : NameOwner) (k : Kind) (c : ℕ) → derivative k c (rest_at (stage.Colon r)) ≡ shown (stage.Colon r) (next (stage.Colon r) k c)
unfolding rest_at beyond_refusal ascii in_declaration in_reference in_number in_name in_tag allowed_at voice through wide_fault
keeps-Colon r kinds.Space c = refl
keeps-Colon r k c = refl

grows-so : (t : Bool) (p : Context) (base : Base) (n : ℕ)
    → union_of (concat_of (cond t (number base (λ c. all_said (text_token p c ∷ [])) n) void) (rest_of_text p)) void
    ≡ shown (stage.Number p base n) (cond t (goes (stage.Number p base n)) (stops NotWellFormed))
unfolding rest_at
grows-so true p base n = refl
grows-so false p base n = refl

ends-so : (t : Bool) (p : Context) (base : Base) (n : ℕ) → union_of (concat_of (cond t (yields (all_said (text_token p n ∷ []))) void) (rest_of_text p)) void
    ≡ shown (stage.Number p base n) (cond t (tells_and_goes (text_token p n ∷ []) (stage.Text p)) (stops NotWellFormed))
unfolding rest_at
ends-so true p base n = refl
ends-so false p base n = refl

keeps-Number : (p : Context) (base : Base) (v : ℕ) (k : Kind) (c : ℕ)
    → derivative k c (rest_at (stage.Number p base v)) ≡ shown (stage.Number p base v) (next (stage.Number p base v) k c)
unfolding rest_at beyond_refusal ascii in_declaration in_reference in_number in_name in_tag allowed_at voice through wide_fault
keeps-Number p Decimal v kinds.Semicolon c = ends-so (is_xml v) p Decimal v
keeps-Number p Decimal v kinds.Digit c = grows-so (nat_lt (base_of Decimal * v + digit c) 0x110000) p Decimal (base_of Decimal * v + digit c)
keeps-Number p Decimal v k c = refl
keeps-Number p Hexadecimal v kinds.Semicolon c = ends-so (is_xml v) p Hexadecimal v
keeps-Number p Hexadecimal v kinds.Digit c = grows-so (nat_lt (base_of Hexadecimal * v + digit c) 0x110000) p Hexadecimal (base_of Hexadecimal * v + digit c)
keeps-Number p Hexadecimal v kinds.SmallA c = grows-so (nat_lt (base_of Hexadecimal * v + digit c) 0x110000) p Hexadecimal (base_of Hexadecimal * v + digit c)
keeps-Number p Hexadecimal v kinds.SmallE c = grows-so (nat_lt (base_of Hexadecimal * v + digit c) 0x110000) p Hexadecimal (base_of Hexadecimal * v + digit c)
keeps-Number p Hexadecimal v kinds.HexLetter c =
    grows-so (nat_lt (base_of Hexadecimal * v + digit c) 0x110000) p Hexadecimal (base_of Hexadecimal * v + digit c)
keeps-Number p Hexadecimal v k c = refl

kept-Fixed : (w : Literal) (at : ℕ) (k : Kind) (c : ℕ) → at < length (letters w) → derivative k c (rest_at (stage.Fixed w at))
    ≡ shown (stage.Fixed w at)
    (cond (fits w k (get_or (letters w) at 0) c) (goes (cond (nat_lt (at + 1) (length (letters w))) (stage.Fixed w (at + 1)) (fixed_end w)))
    (stops (fixed_fault w)))
unfolding rest_at
kept-Fixed w at k c h =
    ap (λ (l : List ℕ). derivative k c (rest_of_fixed w l)) (drop_more (letters w) at 0 h)
    ∙ (fixed-letter w k c (get_or (letters w) at 0) (drop (at + 1) (letters w))
    ∙ fixed-turn w at (fits w k (get_or (letters w) at 0) c) (drop (at + 1) (letters w))
    (cond (nat_lt (at + 1) (length (letters w))) (stage.Fixed w (at + 1)) (fixed_end w)) (fixed-goes w at h))

keeps-Fixed : (w : Literal) (at : ℕ) (k : Kind) (c : ℕ) → at < length (letters w)
    → derivative k c (rest_at (stage.Fixed w at)) ≡ shown (stage.Fixed w at) (next (stage.Fixed w at) k c)
unfolding rest_at ascii in_fixed allowed_at wide_fault
keeps-Fixed w at kinds.WideStart c h = kept-Fixed w at kinds.WideStart c h
keeps-Fixed w at k c h = kept-Fixed w at k c h

-- What may follow a character at a live stage is what its turn says.
pub keeps : (s : Stage) (k : Kind) (c : ℕ) → is_live_stage s ≡ true → derivative k c (rest_at s) ≡ shown s (next s k c)
keeps (stage.Text p) k c live = keeps-Text p k c
keeps (stage.Name r h) k c live = keeps-Name r h k c
keeps (stage.Bracketed b) k c live = keeps-Bracketed b k c
keeps (stage.Fixed w at) k c live = keeps-Fixed w at k c (ltb-true at (length (letters w)) live)
keeps (stage.InfoName i) k c live = keeps-InfoName i k c
keeps (stage.InfoEquals i) k c live = keeps-InfoEquals i k c
keeps (stage.MinorFirst q) k c live = keeps-MinorFirst q k c
keeps (stage.Minor q) k c live = keeps-Minor q k c
keeps (stage.CharsetSeen q) k c live = keeps-CharsetSeen q k c
keeps (stage.Choice q) k c live = keeps-Choice q k c
keeps (stage.Chosen q) k c live = keeps-Chosen q k c
keeps (stage.InfoEnds i) k c live = keeps-InfoEnds i k c
keeps (stage.InfoSpace i) k c live = keeps-InfoSpace i k c
keeps (stage.CdataBracketed b) k c live = keeps-CdataBracketed b k c
keeps (stage.Reference p l) k c live = keeps-Reference p l k c
keeps (stage.Hash p) k c live = keeps-Hash p k c
keeps (stage.HashX p) k c live = keeps-HashX p k c
keeps (stage.Number p base v) k c live = keeps-Number p base v k c
keeps (stage.Colon r) k c live = keeps-Colon r k c
keeps stage.Start k c live = keeps-Start k c
keeps stage.StartLess k c live = keeps-StartLess k c
keeps stage.Prolog k c live = keeps-Prolog k c
keeps stage.PrologLess k c live = keeps-PrologLess k c
keeps stage.XmlSeen k c live = keeps-XmlSeen k c
keeps stage.XmlSpace k c live = keeps-XmlSpace k c
keeps stage.DeclarationMark k c live = keeps-DeclarationMark k c
keeps stage.Less k c live = keeps-Less k c
keeps stage.Bang k c live = keeps-Bang k c
keeps stage.Cdata k c live = keeps-Cdata k c
keeps stage.EndTagMark k c live = keeps-EndTagMark k c
keeps stage.InTag k c live = keeps-InTag k c
keeps stage.ValueEnded k c live = keeps-ValueEnded k c
keeps stage.EmptyTagMark k c live = keeps-EmptyTagMark k c
keeps stage.AttrNamed k c live = keeps-AttrNamed k c
keeps stage.ValueAwaited k c live = keeps-ValueAwaited k c
keeps stage.EndTagNamed k c live = keeps-EndTagNamed k c
