-- Short texts from a stage to the end of a tag or to an end tag: which stages they are for, and those before the first tag.
use Rattle.std.proofs.Common.{◌≡◌, ℕ, zero, suc, ◌<◌, ◌≤◌, ◌++◌, refl, Bool, true, false, nat_lt, arith, codes}
use Rattle.std.proofs.lemmas.Bool.{ltb-true}
use Rattle.stream_lex.specs.declared.stages.Quote.TheVariants.{Double, Single}
use Rattle.stream_lex.specs.declared.stages.Context.TheVariants.{Words, Value}
use Rattle.stream_lex.specs.declared.stages.NameOwner.TheVariants.{StartTag, EndTag, Attribute}
use Rattle.stream_lex.specs.declared.stages.Info.TheVariants.{Version, Encoding, Standalone}
use Rattle.stream_lex.specs.declared.stages.Literal.{Literal}
use Rattle.stream_lex.specs.declared.stages.Literal.TheVariants as literal
use Rattle.stream_lex.specs.declared.stages.Stage.{Stage}
use Rattle.stream_lex.specs.declared.stages.Stage.TheVariants as stage
use Rattle.stream_lex.specs.grammar.Kinds.{ascii_kind}
use Rattle.stream_lex.specs.machine.Machine.{in_fixed, in_declaration, in_reference, in_number, in_name, in_tag, ascii, allowed_at}
use Rattle.stream_lex.specs.machine.Turns.{at, turn_ascii}
use Rattle.stream_lex.specs.machine.Live.{is_live_stage}
use Rattle.stream_lex.proofs.Lists.{false-true}
use Rattle.stream_grammar.specs.grammar.Trees.{declaration_tokens}
use Rattle.stream_grammar.specs.machine.Sorts.{Sort, at_begin, at_prolog, at_content, at_tag, at_attribute, at_value, sort}
use Rattle.stream_grammar.proofs.Twins.{words}
use Rattle.stream_grammar.proofs.Running.{Ways, both, tag_told}

abbrev pub is_begin : Sort → Bool
is_begin at_begin = true
is_begin at_prolog = true
is_begin x = false

abbrev pub is_prolog : Sort → Bool
is_prolog at_prolog = true
is_prolog x = false

abbrev pub is_tag : Sort → Bool
is_tag at_tag = true
is_tag x = false

abbrev pub is_attribute : Sort → Bool
is_attribute at_attribute = true
is_attribute x = false

abbrev pub is_value : Sort → Bool
is_value at_value = true
is_value x = false

abbrev pub is_number : Stage → Bool
is_number (stage.Number p base v) = true
is_number s = false

abbrev pub is_end_mark : Stage → Bool
is_end_mark stage.EndTagMark = true
is_end_mark s = false

abbrev pub is_content : Sort → Bool
is_content at_content = true
is_content x = false

-- Before the first tag.

abbrev pub Begins : Stage → Type 0
Begins s = (d : Bool) × Ways s words (declaration_tokens d ++ tag_told)

pub too-far : (n m : ℕ) → m ≤ n → nat_lt n m ≡ true → ⊥
too-far n m h e = let k : n < m = ltb-true n m e in omega arith

fixed-begins : (i : ℕ) (w : Literal) → is_begin (sort (stage.Fixed w i)) ≡ true → is_live_stage (stage.Fixed w i) ≡ true → Begins (stage.Fixed w i)
unfolding turn_ascii ascii_kind ascii in_fixed in_declaration in_reference in_number in_name in_tag allowed_at
fixed-begins zero literal.Xml h live =
    (true, both (stage.Fixed literal.Xml 0) words (declaration_tokens true ++ tag_told) (codes "xml version='1.0'?><a>") refl refl)
fixed-begins zero (literal.Name Version) h live =
    (true, both (stage.Fixed (literal.Name Version) 0) words (declaration_tokens true ++ tag_told) (codes "ersion='1.0'?><a>") refl refl)
fixed-begins zero (literal.Name Encoding) h live =
    (true, both (stage.Fixed (literal.Name Encoding) 0) words (declaration_tokens true ++ tag_told) (codes "ncoding='utf-8'?><a>") refl refl)
fixed-begins zero (literal.Name Standalone) h live =
    (true, both (stage.Fixed (literal.Name Standalone) 0) words (declaration_tokens true ++ tag_told) (codes "tandalone='no'?><a>") refl refl)
fixed-begins zero (literal.Major Double) h live =
    (true, both (stage.Fixed (literal.Major Double) 0) words (declaration_tokens true ++ tag_told) (codes "1.0\"?><a>") refl refl)
fixed-begins zero (literal.Charset Double) h live =
    (true, both (stage.Fixed (literal.Charset Double) 0) words (declaration_tokens true ++ tag_told) (codes "utf-8\"?><a>") refl refl)
fixed-begins zero (literal.Yes Double) h live =
    (true, both (stage.Fixed (literal.Yes Double) 0) words (declaration_tokens true ++ tag_told) (codes "es\"?><a>") refl refl)
fixed-begins zero (literal.No Double) h live =
    (true, both (stage.Fixed (literal.No Double) 0) words (declaration_tokens true ++ tag_told) (codes "o\"?><a>") refl refl)
fixed-begins zero (literal.Major Single) h live =
    (true, both (stage.Fixed (literal.Major Single) 0) words (declaration_tokens true ++ tag_told) (codes "1.0'?><a>") refl refl)
fixed-begins zero (literal.Charset Single) h live =
    (true, both (stage.Fixed (literal.Charset Single) 0) words (declaration_tokens true ++ tag_told) (codes "utf-8'?><a>") refl refl)
fixed-begins zero (literal.Yes Single) h live =
    (true, both (stage.Fixed (literal.Yes Single) 0) words (declaration_tokens true ++ tag_told) (codes "es'?><a>") refl refl)
fixed-begins zero (literal.No Single) h live =
    (true, both (stage.Fixed (literal.No Single) 0) words (declaration_tokens true ++ tag_told) (codes "o'?><a>") refl refl)
fixed-begins zero literal.Cdata h live = false-true h
fixed-begins (suc zero) literal.Xml h live =
    (true, both (stage.Fixed literal.Xml 1) words (declaration_tokens true ++ tag_told) (codes "ml version='1.0'?><a>") refl refl)
fixed-begins (suc zero) (literal.Name Version) h live =
    (true, both (stage.Fixed (literal.Name Version) 1) words (declaration_tokens true ++ tag_told) (codes "rsion='1.0'?><a>") refl refl)
fixed-begins (suc zero) (literal.Name Encoding) h live =
    (true, both (stage.Fixed (literal.Name Encoding) 1) words (declaration_tokens true ++ tag_told) (codes "coding='utf-8'?><a>") refl refl)
fixed-begins (suc zero) (literal.Name Standalone) h live =
    (true, both (stage.Fixed (literal.Name Standalone) 1) words (declaration_tokens true ++ tag_told) (codes "andalone='no'?><a>") refl refl)
fixed-begins (suc zero) (literal.Major Double) h live =
    (true, both (stage.Fixed (literal.Major Double) 1) words (declaration_tokens true ++ tag_told) (codes ".0\"?><a>") refl refl)
fixed-begins (suc zero) (literal.Charset Double) h live =
    (true, both (stage.Fixed (literal.Charset Double) 1) words (declaration_tokens true ++ tag_told) (codes "tf-8\"?><a>") refl refl)
fixed-begins (suc zero) (literal.Yes Double) h live =
    (true, both (stage.Fixed (literal.Yes Double) 1) words (declaration_tokens true ++ tag_told) (codes "s\"?><a>") refl refl)
fixed-begins (suc zero) (literal.No Double) h live = false-true live
fixed-begins (suc zero) (literal.Major Single) h live =
    (true, both (stage.Fixed (literal.Major Single) 1) words (declaration_tokens true ++ tag_told) (codes ".0'?><a>") refl refl)
fixed-begins (suc zero) (literal.Charset Single) h live =
    (true, both (stage.Fixed (literal.Charset Single) 1) words (declaration_tokens true ++ tag_told) (codes "tf-8'?><a>") refl refl)
fixed-begins (suc zero) (literal.Yes Single) h live =
    (true, both (stage.Fixed (literal.Yes Single) 1) words (declaration_tokens true ++ tag_told) (codes "s'?><a>") refl refl)
fixed-begins (suc zero) (literal.No Single) h live = false-true live
fixed-begins (suc zero) literal.Cdata h live = false-true h
fixed-begins (suc (suc zero)) literal.Xml h live =
    (true, both (stage.Fixed literal.Xml 2) words (declaration_tokens true ++ tag_told) (codes "l version='1.0'?><a>") refl refl)
fixed-begins (suc (suc zero)) (literal.Name Version) h live =
    (true, both (stage.Fixed (literal.Name Version) 2) words (declaration_tokens true ++ tag_told) (codes "sion='1.0'?><a>") refl refl)
fixed-begins (suc (suc zero)) (literal.Name Encoding) h live =
    (true, both (stage.Fixed (literal.Name Encoding) 2) words (declaration_tokens true ++ tag_told) (codes "oding='utf-8'?><a>") refl refl)
fixed-begins (suc (suc zero)) (literal.Name Standalone) h live =
    (true, both (stage.Fixed (literal.Name Standalone) 2) words (declaration_tokens true ++ tag_told) (codes "ndalone='no'?><a>") refl refl)
fixed-begins (suc (suc zero)) (literal.Major Double) h live = false-true live
fixed-begins (suc (suc zero)) (literal.Charset Double) h live =
    (true, both (stage.Fixed (literal.Charset Double) 2) words (declaration_tokens true ++ tag_told) (codes "f-8\"?><a>") refl refl)
fixed-begins (suc (suc zero)) (literal.Yes Double) h live = false-true live
fixed-begins (suc (suc zero)) (literal.No Double) h live = false-true live
fixed-begins (suc (suc zero)) (literal.Major Single) h live = false-true live
fixed-begins (suc (suc zero)) (literal.Charset Single) h live =
    (true, both (stage.Fixed (literal.Charset Single) 2) words (declaration_tokens true ++ tag_told) (codes "f-8'?><a>") refl refl)
fixed-begins (suc (suc zero)) (literal.Yes Single) h live = false-true live
fixed-begins (suc (suc zero)) (literal.No Single) h live = false-true live
fixed-begins (suc (suc zero)) literal.Cdata h live = false-true h
fixed-begins (suc (suc (suc zero))) literal.Xml h live = false-true live
fixed-begins (suc (suc (suc zero))) (literal.Name Version) h live =
    (true, both (stage.Fixed (literal.Name Version) 3) words (declaration_tokens true ++ tag_told) (codes "ion='1.0'?><a>") refl refl)
fixed-begins (suc (suc (suc zero))) (literal.Name Encoding) h live =
    (true, both (stage.Fixed (literal.Name Encoding) 3) words (declaration_tokens true ++ tag_told) (codes "ding='utf-8'?><a>") refl refl)
fixed-begins (suc (suc (suc zero))) (literal.Name Standalone) h live =
    (true, both (stage.Fixed (literal.Name Standalone) 3) words (declaration_tokens true ++ tag_told) (codes "dalone='no'?><a>") refl refl)
fixed-begins (suc (suc (suc zero))) (literal.Major Double) h live = false-true live
fixed-begins (suc (suc (suc zero))) (literal.Charset Double) h live =
    (true, both (stage.Fixed (literal.Charset Double) 3) words (declaration_tokens true ++ tag_told) (codes "-8\"?><a>") refl refl)
fixed-begins (suc (suc (suc zero))) (literal.Yes Double) h live = false-true live
fixed-begins (suc (suc (suc zero))) (literal.No Double) h live = false-true live
fixed-begins (suc (suc (suc zero))) (literal.Major Single) h live = false-true live
fixed-begins (suc (suc (suc zero))) (literal.Charset Single) h live =
    (true, both (stage.Fixed (literal.Charset Single) 3) words (declaration_tokens true ++ tag_told) (codes "-8'?><a>") refl refl)
fixed-begins (suc (suc (suc zero))) (literal.Yes Single) h live = false-true live
fixed-begins (suc (suc (suc zero))) (literal.No Single) h live = false-true live
fixed-begins (suc (suc (suc zero))) literal.Cdata h live = false-true h
fixed-begins (suc (suc (suc (suc zero)))) literal.Xml h live = false-true live
fixed-begins (suc (suc (suc (suc zero)))) (literal.Name Version) h live =
    (true, both (stage.Fixed (literal.Name Version) 4) words (declaration_tokens true ++ tag_told) (codes "on='1.0'?><a>") refl refl)
fixed-begins (suc (suc (suc (suc zero)))) (literal.Name Encoding) h live =
    (true, both (stage.Fixed (literal.Name Encoding) 4) words (declaration_tokens true ++ tag_told) (codes "ing='utf-8'?><a>") refl refl)
fixed-begins (suc (suc (suc (suc zero)))) (literal.Name Standalone) h live =
    (true, both (stage.Fixed (literal.Name Standalone) 4) words (declaration_tokens true ++ tag_told) (codes "alone='no'?><a>") refl refl)
fixed-begins (suc (suc (suc (suc zero)))) (literal.Major Double) h live = false-true live
fixed-begins (suc (suc (suc (suc zero)))) (literal.Charset Double) h live =
    (true, both (stage.Fixed (literal.Charset Double) 4) words (declaration_tokens true ++ tag_told) (codes "8\"?><a>") refl refl)
fixed-begins (suc (suc (suc (suc zero)))) (literal.Yes Double) h live = false-true live
fixed-begins (suc (suc (suc (suc zero)))) (literal.No Double) h live = false-true live
fixed-begins (suc (suc (suc (suc zero)))) (literal.Major Single) h live = false-true live
fixed-begins (suc (suc (suc (suc zero)))) (literal.Charset Single) h live =
    (true, both (stage.Fixed (literal.Charset Single) 4) words (declaration_tokens true ++ tag_told) (codes "8'?><a>") refl refl)
fixed-begins (suc (suc (suc (suc zero)))) (literal.Yes Single) h live = false-true live
fixed-begins (suc (suc (suc (suc zero)))) (literal.No Single) h live = false-true live
fixed-begins (suc (suc (suc (suc zero)))) literal.Cdata h live = false-true h
fixed-begins (suc (suc (suc (suc (suc zero))))) literal.Xml h live = false-true live
fixed-begins (suc (suc (suc (suc (suc zero))))) (literal.Name Version) h live =
    (true, both (stage.Fixed (literal.Name Version) 5) words (declaration_tokens true ++ tag_told) (codes "n='1.0'?><a>") refl refl)
fixed-begins (suc (suc (suc (suc (suc zero))))) (literal.Name Encoding) h live =
    (true, both (stage.Fixed (literal.Name Encoding) 5) words (declaration_tokens true ++ tag_told) (codes "ng='utf-8'?><a>") refl refl)
fixed-begins (suc (suc (suc (suc (suc zero))))) (literal.Name Standalone) h live =
    (true, both (stage.Fixed (literal.Name Standalone) 5) words (declaration_tokens true ++ tag_told) (codes "lone='no'?><a>") refl refl)
fixed-begins (suc (suc (suc (suc (suc zero))))) (literal.Major Double) h live = false-true live
fixed-begins (suc (suc (suc (suc (suc zero))))) (literal.Charset Double) h live = false-true live
fixed-begins (suc (suc (suc (suc (suc zero))))) (literal.Yes Double) h live = false-true live
fixed-begins (suc (suc (suc (suc (suc zero))))) (literal.No Double) h live = false-true live
fixed-begins (suc (suc (suc (suc (suc zero))))) (literal.Major Single) h live = false-true live
fixed-begins (suc (suc (suc (suc (suc zero))))) (literal.Charset Single) h live = false-true live
fixed-begins (suc (suc (suc (suc (suc zero))))) (literal.Yes Single) h live = false-true live
fixed-begins (suc (suc (suc (suc (suc zero))))) (literal.No Single) h live = false-true live
fixed-begins (suc (suc (suc (suc (suc zero))))) literal.Cdata h live = false-true h
fixed-begins (suc (suc (suc (suc (suc (suc zero)))))) literal.Xml h live = false-true live
fixed-begins (suc (suc (suc (suc (suc (suc zero)))))) (literal.Name Version) h live = false-true live
fixed-begins (suc (suc (suc (suc (suc (suc zero)))))) (literal.Name Encoding) h live =
    (true, both (stage.Fixed (literal.Name Encoding) 6) words (declaration_tokens true ++ tag_told) (codes "g='utf-8'?><a>") refl refl)
fixed-begins (suc (suc (suc (suc (suc (suc zero)))))) (literal.Name Standalone) h live =
    (true, both (stage.Fixed (literal.Name Standalone) 6) words (declaration_tokens true ++ tag_told) (codes "one='no'?><a>") refl refl)
fixed-begins (suc (suc (suc (suc (suc (suc zero)))))) (literal.Major Double) h live = false-true live
fixed-begins (suc (suc (suc (suc (suc (suc zero)))))) (literal.Charset Double) h live = false-true live
fixed-begins (suc (suc (suc (suc (suc (suc zero)))))) (literal.Yes Double) h live = false-true live
fixed-begins (suc (suc (suc (suc (suc (suc zero)))))) (literal.No Double) h live = false-true live
fixed-begins (suc (suc (suc (suc (suc (suc zero)))))) (literal.Major Single) h live = false-true live
fixed-begins (suc (suc (suc (suc (suc (suc zero)))))) (literal.Charset Single) h live = false-true live
fixed-begins (suc (suc (suc (suc (suc (suc zero)))))) (literal.Yes Single) h live = false-true live
fixed-begins (suc (suc (suc (suc (suc (suc zero)))))) (literal.No Single) h live = false-true live
fixed-begins (suc (suc (suc (suc (suc (suc zero)))))) literal.Cdata h live = false-true h
fixed-begins (suc (suc (suc (suc (suc (suc (suc zero))))))) literal.Xml h live = false-true live
fixed-begins (suc (suc (suc (suc (suc (suc (suc zero))))))) (literal.Name Version) h live = false-true live
fixed-begins (suc (suc (suc (suc (suc (suc (suc zero))))))) (literal.Name Encoding) h live = false-true live
fixed-begins (suc (suc (suc (suc (suc (suc (suc zero))))))) (literal.Name Standalone) h live =
    (true, both (stage.Fixed (literal.Name Standalone) 7) words (declaration_tokens true ++ tag_told) (codes "ne='no'?><a>") refl refl)
fixed-begins (suc (suc (suc (suc (suc (suc (suc zero))))))) (literal.Major Double) h live = false-true live
fixed-begins (suc (suc (suc (suc (suc (suc (suc zero))))))) (literal.Charset Double) h live = false-true live
fixed-begins (suc (suc (suc (suc (suc (suc (suc zero))))))) (literal.Yes Double) h live = false-true live
fixed-begins (suc (suc (suc (suc (suc (suc (suc zero))))))) (literal.No Double) h live = false-true live
fixed-begins (suc (suc (suc (suc (suc (suc (suc zero))))))) (literal.Major Single) h live = false-true live
fixed-begins (suc (suc (suc (suc (suc (suc (suc zero))))))) (literal.Charset Single) h live = false-true live
fixed-begins (suc (suc (suc (suc (suc (suc (suc zero))))))) (literal.Yes Single) h live = false-true live
fixed-begins (suc (suc (suc (suc (suc (suc (suc zero))))))) (literal.No Single) h live = false-true live
fixed-begins (suc (suc (suc (suc (suc (suc (suc zero))))))) literal.Cdata h live = false-true h
fixed-begins (suc (suc (suc (suc (suc (suc (suc (suc zero)))))))) literal.Xml h live = false-true live
fixed-begins (suc (suc (suc (suc (suc (suc (suc (suc zero)))))))) (literal.Name Version) h live = false-true live
fixed-begins (suc (suc (suc (suc (suc (suc (suc (suc zero)))))))) (literal.Name Encoding) h live = false-true live
fixed-begins (suc (suc (suc (suc (suc (suc (suc (suc zero)))))))) (literal.Name Standalone) h live =
    (true, both (stage.Fixed (literal.Name Standalone) 8) words (declaration_tokens true ++ tag_told) (codes "e='no'?><a>") refl refl)
fixed-begins (suc (suc (suc (suc (suc (suc (suc (suc zero)))))))) (literal.Major Double) h live = false-true live
fixed-begins (suc (suc (suc (suc (suc (suc (suc (suc zero)))))))) (literal.Charset Double) h live = false-true live
fixed-begins (suc (suc (suc (suc (suc (suc (suc (suc zero)))))))) (literal.Yes Double) h live = false-true live
fixed-begins (suc (suc (suc (suc (suc (suc (suc (suc zero)))))))) (literal.No Double) h live = false-true live
fixed-begins (suc (suc (suc (suc (suc (suc (suc (suc zero)))))))) (literal.Major Single) h live = false-true live
fixed-begins (suc (suc (suc (suc (suc (suc (suc (suc zero)))))))) (literal.Charset Single) h live = false-true live
fixed-begins (suc (suc (suc (suc (suc (suc (suc (suc zero)))))))) (literal.Yes Single) h live = false-true live
fixed-begins (suc (suc (suc (suc (suc (suc (suc (suc zero)))))))) (literal.No Single) h live = false-true live
fixed-begins (suc (suc (suc (suc (suc (suc (suc (suc zero)))))))) literal.Cdata h live = false-true h
fixed-begins (suc (suc (suc (suc (suc (suc (suc (suc (suc i))))))))) literal.Xml h live =
    absurd (too-far (suc (suc (suc (suc (suc (suc (suc (suc (suc i))))))))) 3 (omega arith) live)
fixed-begins (suc (suc (suc (suc (suc (suc (suc (suc (suc i))))))))) (literal.Name Version) h live =
    absurd (too-far (suc (suc (suc (suc (suc (suc (suc (suc (suc i))))))))) 6 (omega arith) live)
fixed-begins (suc (suc (suc (suc (suc (suc (suc (suc (suc i))))))))) (literal.Name Encoding) h live =
    absurd (too-far (suc (suc (suc (suc (suc (suc (suc (suc (suc i))))))))) 7 (omega arith) live)
fixed-begins (suc (suc (suc (suc (suc (suc (suc (suc (suc i))))))))) (literal.Name Standalone) h live =
    absurd (too-far (suc (suc (suc (suc (suc (suc (suc (suc (suc i))))))))) 9 (omega arith) live)
fixed-begins (suc (suc (suc (suc (suc (suc (suc (suc (suc i))))))))) (literal.Major Double) h live =
    absurd (too-far (suc (suc (suc (suc (suc (suc (suc (suc (suc i))))))))) 2 (omega arith) live)
fixed-begins (suc (suc (suc (suc (suc (suc (suc (suc (suc i))))))))) (literal.Charset Double) h live =
    absurd (too-far (suc (suc (suc (suc (suc (suc (suc (suc (suc i))))))))) 5 (omega arith) live)
fixed-begins (suc (suc (suc (suc (suc (suc (suc (suc (suc i))))))))) (literal.Yes Double) h live =
    absurd (too-far (suc (suc (suc (suc (suc (suc (suc (suc (suc i))))))))) 2 (omega arith) live)
fixed-begins (suc (suc (suc (suc (suc (suc (suc (suc (suc i))))))))) (literal.No Double) h live =
    absurd (too-far (suc (suc (suc (suc (suc (suc (suc (suc (suc i))))))))) 1 (omega arith) live)
fixed-begins (suc (suc (suc (suc (suc (suc (suc (suc (suc i))))))))) (literal.Major Single) h live =
    absurd (too-far (suc (suc (suc (suc (suc (suc (suc (suc (suc i))))))))) 2 (omega arith) live)
fixed-begins (suc (suc (suc (suc (suc (suc (suc (suc (suc i))))))))) (literal.Charset Single) h live =
    absurd (too-far (suc (suc (suc (suc (suc (suc (suc (suc (suc i))))))))) 5 (omega arith) live)
fixed-begins (suc (suc (suc (suc (suc (suc (suc (suc (suc i))))))))) (literal.Yes Single) h live =
    absurd (too-far (suc (suc (suc (suc (suc (suc (suc (suc (suc i))))))))) 2 (omega arith) live)
fixed-begins (suc (suc (suc (suc (suc (suc (suc (suc (suc i))))))))) (literal.No Single) h live =
    absurd (too-far (suc (suc (suc (suc (suc (suc (suc (suc (suc i))))))))) 1 (omega arith) live)
fixed-begins (suc (suc (suc (suc (suc (suc (suc (suc (suc i))))))))) literal.Cdata h live = false-true h

pub begins-way : (s : Stage) → is_begin (sort s) ≡ true → is_live_stage s ≡ true → Begins s
unfolding turn_ascii ascii_kind ascii in_fixed in_declaration in_reference in_number in_name in_tag allowed_at
begins-way stage.Start h live = (false, both stage.Start words (declaration_tokens false ++ tag_told) (codes "<a>") refl refl)
begins-way stage.StartLess h live = (false, both stage.StartLess words (declaration_tokens false ++ tag_told) (codes "a>") refl refl)
begins-way stage.Prolog h live = (false, both stage.Prolog words (declaration_tokens false ++ tag_told) (codes "<a>") refl refl)
begins-way stage.PrologLess h live = (false, both stage.PrologLess words (declaration_tokens false ++ tag_told) (codes "a>") refl refl)
begins-way stage.XmlSeen h live = (true, both stage.XmlSeen words (declaration_tokens true ++ tag_told) (codes " version='1.0'?><a>") refl refl)
begins-way stage.XmlSpace h live = (true, both stage.XmlSpace words (declaration_tokens true ++ tag_told) (codes "version='1.0'?><a>") refl refl)
begins-way stage.DeclarationMark h live = (true, both stage.DeclarationMark words (declaration_tokens true ++ tag_told) (codes "><a>") refl refl)
begins-way (stage.InfoName Version) h live = (true, both (stage.InfoName Version) words (declaration_tokens true ++ tag_told) (codes "='1.0'?><a>") refl refl)
begins-way (stage.InfoEquals Version) h live =
    (true, both (stage.InfoEquals Version) words (declaration_tokens true ++ tag_told) (codes "'1.0'?><a>") refl refl)
begins-way (stage.InfoEnds Version) h live = (true, both (stage.InfoEnds Version) words (declaration_tokens true ++ tag_told) (codes "?><a>") refl refl)
begins-way (stage.InfoSpace Version) h live = (true, both (stage.InfoSpace Version) words (declaration_tokens true ++ tag_told) (codes "?><a>") refl refl)
begins-way (stage.InfoName Encoding) h live =
    (true, both (stage.InfoName Encoding) words (declaration_tokens true ++ tag_told) (codes "='utf-8'?><a>") refl refl)
begins-way (stage.InfoEquals Encoding) h live =
    (true, both (stage.InfoEquals Encoding) words (declaration_tokens true ++ tag_told) (codes "'utf-8'?><a>") refl refl)
begins-way (stage.InfoEnds Encoding) h live = (true, both (stage.InfoEnds Encoding) words (declaration_tokens true ++ tag_told) (codes "?><a>") refl refl)
begins-way (stage.InfoSpace Encoding) h live = (true, both (stage.InfoSpace Encoding) words (declaration_tokens true ++ tag_told) (codes "?><a>") refl refl)
begins-way (stage.InfoName Standalone) h live =
    (true, both (stage.InfoName Standalone) words (declaration_tokens true ++ tag_told) (codes "='no'?><a>") refl refl)
begins-way (stage.InfoEquals Standalone) h live =
    (true, both (stage.InfoEquals Standalone) words (declaration_tokens true ++ tag_told) (codes "'no'?><a>") refl refl)
begins-way (stage.InfoEnds Standalone) h live = (true, both (stage.InfoEnds Standalone) words (declaration_tokens true ++ tag_told) (codes "?><a>") refl refl)
begins-way (stage.InfoSpace Standalone) h live = (true, both (stage.InfoSpace Standalone) words (declaration_tokens true ++ tag_told) (codes "?><a>") refl refl)
begins-way (stage.MinorFirst Double) h live = (true, both (stage.MinorFirst Double) words (declaration_tokens true ++ tag_told) (codes "0\"?><a>") refl refl)
begins-way (stage.Minor Double) h live = (true, both (stage.Minor Double) words (declaration_tokens true ++ tag_told) (codes "\"?><a>") refl refl)
begins-way (stage.CharsetSeen Double) h live = (true, both (stage.CharsetSeen Double) words (declaration_tokens true ++ tag_told) (codes "\"?><a>") refl refl)
begins-way (stage.Choice Double) h live = (true, both (stage.Choice Double) words (declaration_tokens true ++ tag_told) (codes "no\"?><a>") refl refl)
begins-way (stage.Chosen Double) h live = (true, both (stage.Chosen Double) words (declaration_tokens true ++ tag_told) (codes "\"?><a>") refl refl)
begins-way (stage.MinorFirst Single) h live = (true, both (stage.MinorFirst Single) words (declaration_tokens true ++ tag_told) (codes "0'?><a>") refl refl)
begins-way (stage.Minor Single) h live = (true, both (stage.Minor Single) words (declaration_tokens true ++ tag_told) (codes "'?><a>") refl refl)
begins-way (stage.CharsetSeen Single) h live = (true, both (stage.CharsetSeen Single) words (declaration_tokens true ++ tag_told) (codes "'?><a>") refl refl)
begins-way (stage.Choice Single) h live = (true, both (stage.Choice Single) words (declaration_tokens true ++ tag_told) (codes "no'?><a>") refl refl)
begins-way (stage.Chosen Single) h live = (true, both (stage.Chosen Single) words (declaration_tokens true ++ tag_told) (codes "'?><a>") refl refl)
begins-way (stage.Fixed w i) h live = fixed-begins i w h live
begins-way (stage.Text Words) h live = false-true h
begins-way (stage.Text (Value q)) h live = false-true h
begins-way (stage.Hash Words) h live = false-true h
begins-way (stage.Hash (Value q)) h live = false-true h
begins-way (stage.HashX Words) h live = false-true h
begins-way (stage.HashX (Value q)) h live = false-true h
begins-way (stage.Reference Words l) h live = false-true h
begins-way (stage.Number Words base v) h live = false-true h
begins-way (stage.Reference (Value q) l) h live = false-true h
begins-way (stage.Number (Value q) base v) h live = false-true h
begins-way (stage.Name StartTag u) h live = false-true h
begins-way (stage.Colon StartTag) h live = false-true h
begins-way (stage.Name EndTag u) h live = false-true h
begins-way (stage.Colon EndTag) h live = false-true h
begins-way (stage.Name Attribute u) h live = false-true h
begins-way (stage.Colon Attribute) h live = false-true h
begins-way s h live = false-true h

pub prolog-way : (s : Stage) → is_prolog (sort s) ≡ true → Ways s words tag_told
unfolding turn_ascii ascii_kind ascii in_fixed in_declaration in_reference in_number in_name in_tag allowed_at
prolog-way stage.Prolog h = both stage.Prolog words tag_told (codes "<a>") refl refl
prolog-way stage.PrologLess h = both stage.PrologLess words tag_told (codes "a>") refl refl
prolog-way (stage.Text Words) h = false-true h
prolog-way (stage.Text (Value q)) h = false-true h
prolog-way (stage.Hash Words) h = false-true h
prolog-way (stage.Hash (Value q)) h = false-true h
prolog-way (stage.HashX Words) h = false-true h
prolog-way (stage.HashX (Value q)) h = false-true h
prolog-way (stage.Reference Words l) h = false-true h
prolog-way (stage.Number Words base v) h = false-true h
prolog-way (stage.Reference (Value q) l) h = false-true h
prolog-way (stage.Number (Value q) base v) h = false-true h
prolog-way (stage.Name StartTag u) h = false-true h
prolog-way (stage.Colon StartTag) h = false-true h
prolog-way (stage.Name EndTag u) h = false-true h
prolog-way (stage.Colon EndTag) h = false-true h
prolog-way (stage.Name Attribute u) h = false-true h
prolog-way (stage.Colon Attribute) h = false-true h
prolog-way (stage.Fixed literal.Xml at) h = false-true h
prolog-way (stage.Fixed w at) h = false-true h
prolog-way s h = false-true h
