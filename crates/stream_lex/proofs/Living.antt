-- What a byte leads to is live.
use Rattle.std.proofs.Common.{◌≡◌, ℕ, ◌+◌, ◌-◌, ◌*◌, ◌<◌, ◌≤◌, [], ◌∷◌, length, get_or, refl, ap, ◌∙◌, Bool, true, false, not, cond, ◌&&◌, ◌==◌, nat_lt, arith}
use Rattle.std.proofs.lemmas.Bool.{and_parts, and_from, cond_both, ltb-true, ltb-false, lt-ltb}
use Rattle.stream_lex.specs.declared.kinds.Kind.{Kind}
use Rattle.stream_lex.specs.declared.kinds.Kind.TheVariants as kinds
use Rattle.stream_lex.specs.declared.stages.Quote.{Quote}
use Rattle.stream_lex.specs.declared.stages.Quote.TheVariants.{Double, Single}
use Rattle.stream_lex.specs.declared.stages.Context.{Context}
use Rattle.stream_lex.specs.declared.stages.Context.TheVariants.{Words, Value}
use Rattle.stream_lex.specs.declared.stages.NameOwner.{NameOwner}
use Rattle.stream_lex.specs.declared.stages.NameOwner.TheVariants.{StartTag, EndTag, Attribute}
use Rattle.stream_lex.specs.declared.stages.Half.{Half}
use Rattle.stream_lex.specs.declared.stages.Half.TheVariants.{Prefix, Local}
use Rattle.stream_lex.specs.declared.stages.Brackets.{Brackets}
use Rattle.stream_lex.specs.declared.stages.Brackets.TheVariants.{One, Many}
use Rattle.stream_lex.specs.declared.stages.Base.{Base}
use Rattle.stream_lex.specs.declared.stages.Base.TheVariants.{Hexadecimal}
use Rattle.stream_lex.specs.declared.stages.EntityName.{EntityName}
use Rattle.stream_lex.specs.declared.stages.EntityName.TheVariants as entity_name
use Rattle.stream_lex.specs.declared.stages.Info.{Info}
use Rattle.stream_lex.specs.declared.stages.Info.TheVariants.{Version, Encoding, Standalone}
use Rattle.stream_lex.specs.declared.stages.Literal.{Literal}
use Rattle.stream_lex.specs.declared.stages.Literal.TheVariants as literal
use Rattle.stream_lex.specs.declared.stages.Stage.{Stage}
use Rattle.stream_lex.specs.declared.stages.Stage.TheVariants as stage
use Rattle.stream_lex.specs.declared.LexFault.TheVariants.{NotWellFormed}
use Rattle.stream_lex.specs.declared.stages.State.{State}
use Rattle.stream_lex.specs.declared.characters.Pending.{Pending}
use Rattle.stream_lex.specs.declared.characters.Pending.TheVariants as pending
use Rattle.stream_lex.specs.declared.characters.Reach.{Reach}
use Rattle.stream_lex.specs.declared.characters.Reach.TheVariants.{Whole, Begun, Broken}
use Rattle.stream_lex.specs.grammar.Classes.{CharacterClass, has_between, class_of, is_xml}
use Rattle.stream_lex.specs.grammar.Kinds.{is_digit, digit, base_of, ascii_kind}
use Rattle.stream_lex.specs.machine.Characters.{is_nothing, is_begun, is_between, is_second, is_continuation, reach}
use Rattle.stream_lex.specs.machine.Characters.{reach_first, reach_second, reach_third, reach_fourth}
use Rattle.stream_lex.specs.grammar.Grammar.{text_token}
use Rattle.stream_lex.specs.machine.Machine.{Turn, goes, yields, stops, letters, fixed_end, fixed_fault, is_fixed, in_fixed, in_declaration}
use Rattle.stream_lex.specs.machine.Machine.{in_reference, in_number, in_name, in_tag, ascii, allowed_at, through}
use Rattle.stream_lex.specs.machine.Turns.{Outcome, leads, fails, at, settled, turn_ascii, turn_wide, turn}
use Rattle.stream_lex.specs.machine.Live.{is_live_stage, is_met, is_awaited, is_live}
use Rattle.stream_lex.proofs.Spans.{second-parts, between-true, between-parts, not-false, reach1-two}
use Rattle.stream_lex.proofs.Spans.{reach1-three, reach1-four, reach2-three, reach2-four, reach3-four}

-- whether a turn leads to a live stage
abbrev pub is_live_turn : Turn → Bool
is_live_turn (goes s) = is_live_stage s
is_live_turn (yields us s) = is_live_stage s
is_live_turn (stops f) = true

digit-small : (c : ℕ) → c < 256 → nat_lt (digit c) 0x110000 ≡ true
digit-small c h =
    cond_both (nat_lt c 58) (c - 48) _ (λ n. nat_lt n 0x110000 ≡ true) (λ e. lt-ltb (c - 48) 0x110000 (omega arith))
    (λ f. cond_both (nat_lt c 71) (c - 55) (c - 87) (λ n. nat_lt n 0x110000 ≡ true) (λ e. lt-ltb (c - 55) 0x110000 (omega arith))
    (λ g. lt-ltb (c - 87) 0x110000 (omega arith)))

live-Start : (k : Kind) (c : ℕ) → is_live_turn (ascii stage.Start k c) ≡ true
unfolding ascii in_declaration in_reference in_number in_name in_tag
live-Start kinds.Space c = refl
live-Start k c = refl

live-StartLess : (k : Kind) (c : ℕ) → is_live_turn (ascii stage.StartLess k c) ≡ true
unfolding ascii in_declaration in_reference in_number in_name in_tag
live-StartLess kinds.Space c = refl
live-StartLess k c = refl

live-Prolog : (k : Kind) (c : ℕ) → is_live_turn (ascii stage.Prolog k c) ≡ true
unfolding ascii in_declaration in_reference in_number in_name in_tag
live-Prolog kinds.Space c = refl
live-Prolog k c = refl

live-PrologLess : (k : Kind) (c : ℕ) → is_live_turn (ascii stage.PrologLess k c) ≡ true
unfolding ascii in_declaration in_reference in_number in_name in_tag
live-PrologLess kinds.Space c = refl
live-PrologLess k c = refl

live-XmlSeen : (k : Kind) (c : ℕ) → is_live_turn (ascii stage.XmlSeen k c) ≡ true
unfolding ascii in_declaration in_reference in_number in_name in_tag
live-XmlSeen kinds.Space c = refl
live-XmlSeen k c = refl

live-XmlSpace : (k : Kind) (c : ℕ) → is_live_turn (ascii stage.XmlSpace k c) ≡ true
unfolding ascii in_declaration in_reference in_number in_name in_tag
live-XmlSpace kinds.Space c = refl
live-XmlSpace k c = refl

live-DeclarationMark : (k : Kind) (c : ℕ) → is_live_turn (ascii stage.DeclarationMark k c) ≡ true
unfolding ascii in_declaration in_reference in_number in_name in_tag
live-DeclarationMark kinds.Space c = refl
live-DeclarationMark k c = refl

live-Less : (k : Kind) (c : ℕ) → is_live_turn (ascii stage.Less k c) ≡ true
unfolding ascii in_declaration in_reference in_number in_name in_tag
live-Less kinds.Space c = refl
live-Less k c = refl

live-Bang : (k : Kind) (c : ℕ) → is_live_turn (ascii stage.Bang k c) ≡ true
unfolding ascii in_declaration in_reference in_number in_name in_tag
live-Bang kinds.Space c = refl
live-Bang k c = refl

live-Cdata : (k : Kind) (c : ℕ) → is_live_turn (ascii stage.Cdata k c) ≡ true
unfolding ascii in_declaration in_reference in_number in_name in_tag
live-Cdata kinds.Space c = refl
live-Cdata k c = refl

live-EndTagMark : (k : Kind) (c : ℕ) → is_live_turn (ascii stage.EndTagMark k c) ≡ true
unfolding ascii in_declaration in_reference in_number in_name in_tag
live-EndTagMark kinds.Space c = refl
live-EndTagMark k c = refl

live-InTag : (k : Kind) (c : ℕ) → is_live_turn (ascii stage.InTag k c) ≡ true
unfolding ascii in_declaration in_reference in_number in_name in_tag
live-InTag kinds.Space c = refl
live-InTag k c = refl

live-ValueEnded : (k : Kind) (c : ℕ) → is_live_turn (ascii stage.ValueEnded k c) ≡ true
unfolding ascii in_declaration in_reference in_number in_name in_tag
live-ValueEnded kinds.Space c = refl
live-ValueEnded k c = refl

live-EmptyTagMark : (k : Kind) (c : ℕ) → is_live_turn (ascii stage.EmptyTagMark k c) ≡ true
unfolding ascii in_declaration in_reference in_number in_name in_tag
live-EmptyTagMark kinds.Space c = refl
live-EmptyTagMark k c = refl

live-AttrNamed : (k : Kind) (c : ℕ) → is_live_turn (ascii stage.AttrNamed k c) ≡ true
unfolding ascii in_declaration in_reference in_number in_name in_tag
live-AttrNamed kinds.Space c = refl
live-AttrNamed k c = refl

live-ValueAwaited : (k : Kind) (c : ℕ) → is_live_turn (ascii stage.ValueAwaited k c) ≡ true
unfolding ascii in_declaration in_reference in_number in_name in_tag
live-ValueAwaited kinds.Space c = refl
live-ValueAwaited k c = refl

live-EndTagNamed : (k : Kind) (c : ℕ) → is_live_turn (ascii stage.EndTagNamed k c) ≡ true
unfolding ascii in_declaration in_reference in_number in_name in_tag
live-EndTagNamed kinds.Space c = refl
live-EndTagNamed k c = refl

live-InfoName : (i : Info) (k : Kind) (c : ℕ) → is_live_turn (ascii (stage.InfoName i) k c) ≡ true
unfolding ascii in_declaration in_reference in_number in_name in_tag
live-InfoName i kinds.Space c = refl
live-InfoName i k c = refl

live-InfoEquals : (i : Info) (k : Kind) (c : ℕ) → is_live_turn (ascii (stage.InfoEquals i) k c) ≡ true
unfolding ascii in_declaration in_reference in_number in_name in_tag
live-InfoEquals Version kinds.Space c = refl
live-InfoEquals Version k c = refl
live-InfoEquals Encoding kinds.Space c = refl
live-InfoEquals Encoding k c = refl
live-InfoEquals Standalone kinds.Space c = refl
live-InfoEquals Standalone k c = refl

live-InfoEnds : (i : Info) (k : Kind) (c : ℕ) → is_live_turn (ascii (stage.InfoEnds i) k c) ≡ true
unfolding ascii in_declaration in_reference in_number in_name in_tag
live-InfoEnds Version kinds.Space c = refl
live-InfoEnds Version k c = refl
live-InfoEnds Encoding kinds.Space c = refl
live-InfoEnds Encoding k c = refl
live-InfoEnds Standalone kinds.Space c = refl
live-InfoEnds Standalone k c = refl

live-InfoSpace : (i : Info) (k : Kind) (c : ℕ) → is_live_turn (ascii (stage.InfoSpace i) k c) ≡ true
unfolding ascii in_declaration in_reference in_number in_name in_tag
live-InfoSpace Version kinds.Space c = refl
live-InfoSpace Version k c = refl
live-InfoSpace Encoding kinds.Space c = refl
live-InfoSpace Encoding k c = refl
live-InfoSpace Standalone kinds.Space c = refl
live-InfoSpace Standalone k c = refl

live-MinorFirst : (q : Quote) (k : Kind) (c : ℕ) → is_live_turn (ascii (stage.MinorFirst q) k c) ≡ true
unfolding ascii in_declaration in_reference in_number in_name in_tag
live-MinorFirst Double kinds.Space c = refl
live-MinorFirst Double k c = refl
live-MinorFirst Single kinds.Space c = refl
live-MinorFirst Single k c = refl

live-Minor : (q : Quote) (k : Kind) (c : ℕ) → is_live_turn (ascii (stage.Minor q) k c) ≡ true
unfolding ascii in_declaration in_reference in_number in_name in_tag
live-Minor Double kinds.Space c = refl
live-Minor Double k c = refl
live-Minor Single kinds.Space c = refl
live-Minor Single k c = refl

live-CharsetSeen : (q : Quote) (k : Kind) (c : ℕ) → is_live_turn (ascii (stage.CharsetSeen q) k c) ≡ true
unfolding ascii in_declaration in_reference in_number in_name in_tag
live-CharsetSeen Double kinds.Space c = refl
live-CharsetSeen Double k c = refl
live-CharsetSeen Single kinds.Space c = refl
live-CharsetSeen Single k c = refl

live-Choice : (q : Quote) (k : Kind) (c : ℕ) → is_live_turn (ascii (stage.Choice q) k c) ≡ true
unfolding ascii in_declaration in_reference in_number in_name in_tag
live-Choice Double kinds.Space c = refl
live-Choice Double k c = refl
live-Choice Single kinds.Space c = refl
live-Choice Single k c = refl

live-Chosen : (q : Quote) (k : Kind) (c : ℕ) → is_live_turn (ascii (stage.Chosen q) k c) ≡ true
unfolding ascii in_declaration in_reference in_number in_name in_tag
live-Chosen Double kinds.Space c = refl
live-Chosen Double k c = refl
live-Chosen Single kinds.Space c = refl
live-Chosen Single k c = refl

live-Text : (p : Context) (k : Kind) (c : ℕ) → is_live_turn (ascii (stage.Text p) k c) ≡ true
unfolding ascii in_declaration in_reference in_number in_name in_tag
live-Text Words kinds.Space c = refl
live-Text Words k c = refl
live-Text (Value Double) kinds.Space c = refl
live-Text (Value Double) k c = refl
live-Text (Value Single) kinds.Space c = refl
live-Text (Value Single) k c = refl

live-Bracketed : (b : Brackets) (k : Kind) (c : ℕ) → is_live_turn (ascii (stage.Bracketed b) k c) ≡ true
unfolding ascii in_declaration in_reference in_number in_name in_tag
live-Bracketed One kinds.Space c = refl
live-Bracketed One k c = refl
live-Bracketed Many kinds.Space c = refl
live-Bracketed Many k c = refl

live-CdataBracketed : (b : Brackets) (k : Kind) (c : ℕ) → is_live_turn (ascii (stage.CdataBracketed b) k c) ≡ true
unfolding ascii in_declaration in_reference in_number in_name in_tag
live-CdataBracketed One kinds.Space c = refl
live-CdataBracketed One k c = refl
live-CdataBracketed Many kinds.Space c = refl
live-CdataBracketed Many k c = refl

live-Reference : (p : Context) (l : EntityName) (k : Kind) (c : ℕ) → is_live_turn (ascii (stage.Reference p l) k c) ≡ true
unfolding ascii in_declaration in_reference in_number in_name in_tag
live-Reference p entity_name.Empty kinds.Space c = refl
live-Reference p entity_name.Empty k c = refl
live-Reference p entity_name.A kinds.Space c = refl
live-Reference p entity_name.A k c = refl
live-Reference p entity_name.Am kinds.Space c = refl
live-Reference p entity_name.Am k c = refl
live-Reference p entity_name.Amp kinds.Space c = refl
live-Reference p entity_name.Amp k c = refl
live-Reference p entity_name.Ap kinds.Space c = refl
live-Reference p entity_name.Ap k c = refl
live-Reference p entity_name.Apo kinds.Space c = refl
live-Reference p entity_name.Apo k c = refl
live-Reference p entity_name.Apos kinds.Space c = refl
live-Reference p entity_name.Apos k c = refl
live-Reference p entity_name.L kinds.Space c = refl
live-Reference p entity_name.L k c = refl
live-Reference p entity_name.Lt kinds.Space c = refl
live-Reference p entity_name.Lt k c = refl
live-Reference p entity_name.G kinds.Space c = refl
live-Reference p entity_name.G k c = refl
live-Reference p entity_name.Gt kinds.Space c = refl
live-Reference p entity_name.Gt k c = refl
live-Reference p entity_name.Q kinds.Space c = refl
live-Reference p entity_name.Q k c = refl
live-Reference p entity_name.Qu kinds.Space c = refl
live-Reference p entity_name.Qu k c = refl
live-Reference p entity_name.Quo kinds.Space c = refl
live-Reference p entity_name.Quo k c = refl
live-Reference p entity_name.Quot kinds.Space c = refl
live-Reference p entity_name.Quot k c = refl

live-Name : (r : NameOwner) (h : Half) (k : Kind) (c : ℕ) → is_live_turn (ascii (stage.Name r h) k c) ≡ true
unfolding ascii in_declaration in_reference in_number in_name in_tag
live-Name StartTag Prefix kinds.Space c = refl
live-Name StartTag Prefix k c = refl
live-Name StartTag Local kinds.Space c = refl
live-Name StartTag Local k c = refl
live-Name EndTag Prefix kinds.Space c = refl
live-Name EndTag Prefix k c = refl
live-Name EndTag Local kinds.Space c = refl
live-Name EndTag Local k c = refl
live-Name Attribute Prefix kinds.Space c = refl
live-Name Attribute Prefix k c = refl
live-Name Attribute Local kinds.Space c = refl
live-Name Attribute Local k c = refl

live-Colon : (r : NameOwner) (k : Kind) (c : ℕ) → is_live_turn (ascii (stage.Colon r) k c) ≡ true
unfolding ascii in_declaration in_reference in_number in_name in_tag
live-Colon r kinds.Space c = refl
live-Colon r k c = refl

live-Hash : (p : Context) (k : Kind) (c : ℕ) → c < 256 → is_live_turn (ascii (stage.Hash p) k c) ≡ true
unfolding ascii
live-Hash p kinds.Digit c h = digit-small c h
live-Hash p k c h = refl

live-HashX : (p : Context) (k : Kind) (c : ℕ) → c < 256 → is_live_turn (ascii (stage.HashX p) k c) ≡ true
unfolding ascii
live-HashX p k c h =
    cond_both (is_digit Hexadecimal k) (goes (stage.Number p Hexadecimal (digit c))) (stops NotWellFormed) (λ t. is_live_turn t ≡ true) (λ e. digit-small c h)
    (λ e. refl)

live-grown : (p : Context) (base : Base) (n : ℕ) (t : Bool)
    → is_live_turn (cond (t && nat_lt n 0x110000) (goes (stage.Number p base n)) (stops NotWellFormed)) ≡ true
live-grown p base n t =
    cond_both (t && nat_lt n 0x110000) (goes (stage.Number p base n)) (stops NotWellFormed) (λ u. is_live_turn u ≡ true)
    (λ e. (and_parts t (nat_lt n 0x110000) e).1) (λ e. refl)

live-ended : (p : Context) (v : ℕ) (t : Bool) → is_live_turn (cond t (yields (text_token p v ∷ []) (stage.Text p)) (stops NotWellFormed)) ≡ true
live-ended p v true = refl
live-ended p v false = refl

live-Number : (p : Context) (base : Base) (v : ℕ) (k : Kind) (c : ℕ) → is_live_turn (ascii (stage.Number p base v) k c) ≡ true
unfolding ascii in_number
live-Number p base v kinds.Semicolon c = live-ended p v (is_xml v)
live-Number p base v k c = live-grown p base (base_of base * v + digit c) (is_digit base k)

live-end : (w : Literal) → is_live_stage (fixed_end w) ≡ true
live-end literal.Xml = refl
live-end w = refl

live-Fixed : (w : Literal) (at : ℕ) (k : Kind) (c : ℕ) → is_live_turn (ascii (stage.Fixed w at) k c) ≡ true
unfolding ascii in_fixed
live-Fixed w at k c =
    cond_both (is_fixed w (get_or (letters w) at 0) c) _ (stops (fixed_fault w)) (λ u. is_live_turn u ≡ true)
    (λ e. cond_both (nat_lt (at + 1) (length (letters w))) (stage.Fixed w (at + 1)) (fixed_end w) (λ s. is_live_stage s ≡ true) (λ g. g) (λ g. live-end w))
    (λ e. refl)

pub live-ascii : (s : Stage) (k : Kind) (c : ℕ) → c < 256 → is_live_turn (ascii s k c) ≡ true
live-ascii (stage.Text p) k c h = live-Text p k c
live-ascii (stage.Bracketed b) k c h = live-Bracketed b k c
live-ascii (stage.CdataBracketed b) k c h = live-CdataBracketed b k c
live-ascii (stage.InfoName i) k c h = live-InfoName i k c
live-ascii (stage.InfoEquals i) k c h = live-InfoEquals i k c
live-ascii (stage.InfoEnds i) k c h = live-InfoEnds i k c
live-ascii (stage.InfoSpace i) k c h = live-InfoSpace i k c
live-ascii (stage.MinorFirst q) k c h = live-MinorFirst q k c
live-ascii (stage.Minor q) k c h = live-Minor q k c
live-ascii (stage.CharsetSeen q) k c h = live-CharsetSeen q k c
live-ascii (stage.Choice q) k c h = live-Choice q k c
live-ascii (stage.Chosen q) k c h = live-Chosen q k c
live-ascii (stage.Reference p l) k c h = live-Reference p l k c
live-ascii (stage.Name r part) k c h = live-Name r part k c
live-ascii (stage.Colon r) k c h = live-Colon r k c
live-ascii (stage.Fixed w at) k c h = live-Fixed w at k c
live-ascii (stage.Number p base v) k c h = live-Number p base v k c
live-ascii (stage.Hash p) k c h = live-Hash p k c h
live-ascii (stage.HashX p) k c h = live-HashX p k c h
live-ascii stage.Start k c h = live-Start k c
live-ascii stage.StartLess k c h = live-StartLess k c
live-ascii stage.Prolog k c h = live-Prolog k c
live-ascii stage.PrologLess k c h = live-PrologLess k c
live-ascii stage.XmlSeen k c h = live-XmlSeen k c
live-ascii stage.XmlSpace k c h = live-XmlSpace k c
live-ascii stage.DeclarationMark k c h = live-DeclarationMark k c
live-ascii stage.Less k c h = live-Less k c
live-ascii stage.Bang k c h = live-Bang k c
live-ascii stage.Cdata k c h = live-Cdata k c
live-ascii stage.EndTagMark k c h = live-EndTagMark k c
live-ascii stage.InTag k c h = live-InTag k c
live-ascii stage.ValueEnded k c h = live-ValueEnded k c
live-ascii stage.EmptyTagMark k c h = live-EmptyTagMark k c
live-ascii stage.AttrNamed k c h = live-AttrNamed k c
live-ascii stage.ValueAwaited k c h = live-ValueAwaited k c
live-ascii stage.EndTagNamed k c h = live-EndTagNamed k c

pub live-through : (s : Stage) → is_live_stage s ≡ true → is_live_stage (through s) ≡ true
unfolding through
live-through (stage.Bracketed b) h = refl
live-through s h = h

-- what a reach begins is awaited where the class meets it
abbrev pub Awaited : Reach → Type 0
Awaited (Begun q low high) = (is_begun q ≡ true) × ((C : CharacterClass) → is_awaited C q ≡ has_between C low high)
Awaited r = Unit {0}

between : (a : ℕ) → 194 ≤ a → a ≤ 244 → is_between 194 244 a ≡ true
between a h k = between-true 194 244 a h k

between-wide : (a : ℕ) → 224 ≤ a → a ≤ 244 → is_between 224 244 a ≡ true
between-wide a h k = between-true 224 244 a h k

between-four : (a : ℕ) → 240 ≤ a → a ≤ 244 → is_between 240 244 a ≡ true
between-four a h k = between-true 240 244 a h k

awaited1 : (a : ℕ) → Awaited (reach_first a)
unfolding reach_first
awaited1 a =
    cond_both (is_between 194 223 a) _ _ Awaited
    (λ t. let (h, k) = between-parts 194 223 a t in (between a (omega arith) (omega arith), λ C. ap (is_met C) (reach1-two a h k)))
    (λ f1. cond_both (is_between 224 239 a) _ _ Awaited
    (λ t. let (h, k) = between-parts 224 239 a t in (between a (omega arith) (omega arith), λ C. ap (is_met C) (reach1-three a h k)))
    (λ f2. cond_both (is_between 240 244 a) _ _ Awaited
    (λ t. let (h, k) = between-parts 240 244 a t in (between a (omega arith) (omega arith), λ C. ap (is_met C) (reach1-four a h k)))
    (λ f3. tt)))

awaited2 : (a b : ℕ) → is_begun (pending.One a) ≡ true → Awaited (reach_second a b)
unfolding reach_second
awaited2 a b h =
    let (low, high) = between-parts 194 244 a h in
    cond_both (not (is_second a b)) _ _ Awaited (λ t. tt)
    (λ f. let second = not-false _ f in let s = second-parts a b second in cond_both (nat_lt a 224) _ _ Awaited (λ t. tt)
    (λ f1. let k1 = ltb-false a 224 f1 in cond_both (nat_lt a 240) _ _ Awaited
    (λ t. (and_from _ _ (between-wide a (omega arith) (omega arith)) second, λ C. ap (is_met C) (reach2-three a b k1 (ltb-true a 240 t) s)))
    (λ f2. (and_from _ _ (between-wide a (omega arith) (omega arith)) second, λ C. ap (is_met C) (reach2-four a b (ltb-false a 240 f2) s)))))

awaited3 : (a b c : ℕ) → is_begun (pending.Two a b) ≡ true → Awaited (reach_third a b c)
unfolding reach_third
awaited3 a b c h =
    let hs = and_parts (is_between 224 244 a) (is_second a b) h in
    let (low, high) = between-parts 224 244 a hs.0 in
    cond_both (not (is_continuation c)) _ _ Awaited (λ t. tt)
    (λ f. let tail = not-false _ f in let (tl, th) = between-parts 128 191 c tail in cond_both (nat_lt a 240) _ _ Awaited (λ t. tt)
    (λ f1. (
      and_from _ _ (between-four a (ltb-false a 240 f1) high) (and_from _ _ hs.1 tail),
      λ C. ap (is_met C)
          (reach3-four a b c (ltb-false a 240 f1) tl th),
    )))

awaited4 : (a b c d : ℕ) → Awaited (reach_fourth a b c d)
unfolding reach_fourth
awaited4 a b c d = cond_both (is_continuation d) _ _ Awaited (λ t. tt) (λ f. tt)

pub reach-awaited : (p : Pending) (b : ℕ) → is_begun p ≡ true → Awaited (reach p b)
reach-awaited pending.Nothing b h = awaited1 b
reach-awaited (pending.One a) b h = awaited2 a b h
reach-awaited (pending.Two a c) b h = awaited3 a c b h
reach-awaited (pending.Three a c d) b h = awaited4 a c d b

pub begun-symbol : (a b : ℕ) → is_begun (pending.Two a b) ≡ true → is_begun (pending.One a) ≡ true
begun-symbol a b h = let (low, high) = between-parts 224 244 a (and_parts (is_between 224 244 a) (is_second a b) h).0 in between-true 194 244 a (omega arith)
    high

pub begun-two : (a b c : ℕ) → is_begun (pending.Three a b c) ≡ true → is_begun (pending.Two a b) ≡ true
begun-two a b c h =
    let p = and_parts (is_between 240 244 a) (is_second a b && is_continuation c) h in
    let (low, high) = between-parts 240 244 a p.0 in
    and_from _ _ (between-true 224 244 a (omega arith) high) (and_parts (is_second a b) (is_continuation c) p.1).0

-- the parts of a live state
pub live-parts : (st : State) → is_live st ≡ true
    → (is_live_stage st.stage ≡ true) × (is_begun st.pending ≡ true) × (is_awaited (class_of (allowed_at st.stage)) st.pending ≡ true)
unfolding is_live
live-parts st h =
    let a = and_parts (is_live_stage st.stage) (is_begun st.pending && is_awaited (class_of (allowed_at st.stage)) st.pending) h in
    let b = and_parts (is_begun st.pending) (is_awaited (class_of (allowed_at st.stage)) st.pending) a.1 in
    (a.0, b.0, b.1)

live-at : (s : Stage) (p : Pending) (r : Bool) → is_live_stage s ≡ true → is_begun p ≡ true → is_awaited (class_of (allowed_at s)) p ≡ true
    → is_live (at s p r) ≡ true
unfolding is_live
live-at s p r h k j = and_from _ _ h (and_from _ _ k j)

-- what an outcome leads to is live
abbrev pub LeadsLive : Outcome → Type 0
LeadsLive (leads st us) = is_live st ≡ true
LeadsLive (fails f) = Unit {0}

live-settled : (r : Bool) (t : Turn) → is_live_turn t ≡ true → LeadsLive (settled r t)
live-settled r (goes s) h = live-at s pending.Nothing r h refl refl
live-settled r (yields us s) h = live-at s pending.Nothing r h refl refl
live-settled r (stops f) h = tt

pub live-turn_ascii : (st : State) (b : ℕ) → is_live_stage st.stage ≡ true → b < 256 → LeadsLive (turn_ascii st b)
unfolding turn_ascii
live-turn_ascii st b h small =
    cond_both (st.returned && b == 10) _ _ LeadsLive (λ e. live-at st.stage pending.Nothing false h refl refl)
    (λ f. cond_both (b == 13) _ _ LeadsLive (λ e. live-settled true (ascii st.stage (ascii_kind 10) 10) (live-ascii st.stage (ascii_kind 10) 10 (omega arith)))
    (λ g. live-settled false (ascii st.stage (ascii_kind b) b) (live-ascii st.stage (ascii_kind b) b small)))

pub live-turn_wide : (st : State) (b : ℕ) (r : Reach) → is_live_stage st.stage ≡ true → Awaited r → LeadsLive (turn_wide st b r)
unfolding turn_wide
live-turn_wide st b (Begun q low high) h a =
    cond_both (has_between (class_of (allowed_at st.stage)) low high) _ _ LeadsLive
    (λ e. live-at st.stage q st.returned h a.0 (a.1 (class_of (allowed_at st.stage)) ∙ e)) (λ e. tt)
live-turn_wide st b (Whole n) h a =
    cond_both (has_between (class_of (allowed_at st.stage)) n n) _ _ LeadsLive
    (λ e. live-at (through st.stage) pending.Nothing false (live-through st.stage h) refl refl) (λ e. tt)
live-turn_wide st b Broken h a = tt

pub live-turn : (st : State) (b : ℕ) → is_live st ≡ true → b < 256 → LeadsLive (turn st b)
live-turn st b h small =
    let p = live-parts st h in
    cond_both (is_nothing st.pending && nat_lt b 128) (turn_ascii st b) (turn_wide st b (reach st.pending b)) LeadsLive
    (λ e. live-turn_ascii st b p.0 small) (λ e. live-turn_wide st b (reach st.pending b) p.0 (reach-awaited st.pending b p.1))
