-- The names that are gathered stay UTF-8 as bytes come, but for the bytes of a character that is not whole yet.
use Rattle.std.proofs.Common.{◌≡◌, ℕ, ◌<◌, List, [], ◌∷◌, ◌++◌, append-nil, append_assoc, refl, sym, ap, ◌∙◌, subst}
use Rattle.std.proofs.Common.{Bool, true, false, ◌&&◌, ◌==◌, nat_lt, arith}
use Rattle.std.proofs.lemmas.Bool.{cond_both, and_parts, and_from, ltb-true, lt-ltb}
use Rattle.std.proofs.lemmas.Str.{IsUtf8-append, IsUtf8-nil, IsUtf8-encode}
use Rattle.stanza_tree.proofs.Utf8Lemmas.{ascii-utf8}
use Rattle.std.specs.Prelude.{IsUtf8, encode_utf8}
use Rattle.stream_lex.specs.declared.Token.{Token}
use Rattle.stream_lex.specs.declared.Token.TheVariants as token
use Rattle.stream_lex.specs.declared.kinds.Kind.{Kind}
use Rattle.stream_lex.specs.declared.kinds.Kind.TheVariants as kinds
use Rattle.stream_lex.specs.declared.stages.Context.TheVariants.{Words, Value}
use Rattle.stream_lex.specs.declared.stages.NameOwner.TheVariants.{StartTag, EndTag, Attribute}
use Rattle.stream_lex.specs.declared.stages.Half.{Half}
use Rattle.stream_lex.specs.declared.stages.Half.TheVariants.{Prefix, Local}
use Rattle.stream_lex.specs.declared.stages.Brackets.TheVariants.{One, Many}
use Rattle.stream_lex.specs.declared.stages.Literal.TheVariants as literal
use Rattle.stream_lex.specs.declared.stages.Stage.{Stage}
use Rattle.stream_lex.specs.declared.stages.Stage.TheVariants as stage
use Rattle.stream_lex.specs.declared.stages.State.{State}
use Rattle.stream_lex.specs.declared.characters.Pending.{Pending}
use Rattle.stream_lex.specs.declared.characters.Pending.TheVariants as pending
use Rattle.stream_lex.specs.declared.characters.Reach.{Reach}
use Rattle.stream_lex.specs.declared.characters.Reach.TheVariants.{Whole, Begun, Broken}
use Rattle.stream_lex.specs.grammar.Classes.{has_between, class_of}
use Rattle.stream_lex.specs.grammar.Kinds.{ascii_kind, is_name_start, is_name_further}
use Rattle.stream_lex.specs.machine.Characters.{bytes_of, is_begun, is_nothing, reach}
use Rattle.stream_lex.specs.machine.Machine.{Turn, goes, stops, fault, ascii, in_name, in_tag, after_part, in_tag_end, after_equals, allowed_at, voice, through}
use Rattle.stream_lex.specs.machine.Machine.{yields as tells_and_goes}
use Rattle.stream_lex.specs.machine.Turns.{Outcome, leads, fails, at, byte_told, end_told, settled, turn_ascii, turn_wide, turn}
use Rattle.stream_lex.proofs.Lists.{false-true}
use Rattle.stream_lex.proofs.ByteSteps.{Spelt, reach-spelt}
use Rattle.stream_lex.proofs.Classing.{class-scalar}
use Rattle.stream_lex.proofs.Living.{Awaited, reach-awaited}
use Rattle.stream_lex.proofs.Spans.{Within, IsRest, reach-starts}
use Rattle.stream_grammar.specs.declared.rules.Rules.{Rules}
use Rattle.stream_grammar.specs.grammar.Trees.{is_space}
use Rattle.stream_grammar.specs.machine.Ends.{told_at, tokens_told}
use Rattle.stream_grammar.specs.machine.Framing.{Frame, open_at, ended, broken, goes_with, placed, frame_next}
use Rattle.stream_grammar.specs.machine.Framing.{settled as framed}
use Rattle.stream_grammar.specs.machine.Nesting.{Nest, inside, lost, nest_all}
use Rattle.stream_grammar.specs.declared.namespaces.Written.{Written}
use Rattle.stream_grammar.specs.grammar.Tags.{Gathered}
use Rattle.stream_grammar.specs.machine.Building.{Building, build_all}
use Rattle.stream_grammar.specs.machine.Sorts.{Sort, at_begin, at_prolog, at_content, at_name, at_tag, at_attribute, at_value, at_ending, sort, sort_of}
use Rattle.stream_grammar.specs.machine.Telling.{are_words}
use Rattle.stream_grammar.specs.machine.Texts.{BeginsText, HaveTextNames, AreGathered, HasTexts, AreNamed}
use Rattle.stream_grammar.proofs.Sorts.{may_move, own_byte, turn_own, turn_moves, moves-ascii}
use Rattle.stream_grammar.proofs.Moving.{begun-sort}

-- A byte more of a name.

-- with the byte, the bytes of a character are a text and then these of another
abbrev Grows : Pending → ℕ → Pending → Type 0
Grows p b q = (text : List ℕ) × IsUtf8 text × (bytes_of p ++ b ∷ [] ≡ text ++ bytes_of q)

grown : (name : List ℕ) (p q : Pending) (b : ℕ) → BeginsText name p → Grows p b q → BeginsText (name ++ b ∷ []) q
grown name p q b (front, is, e) (text, also, k) = (
  front ++ text,
  IsUtf8-append front text is also,
  ap (λ (l : List ℕ). l ++ b ∷ []) e
      ∙ (append_assoc front (bytes_of p) (b ∷ []) ∙ (ap (λ (l : List ℕ). front ++ l) k ∙ sym (append_assoc front text (bytes_of q)))),
)

opened : (b : ℕ) (q : Pending) → Grows pending.Nothing b q → BeginsText (b ∷ []) q
opened b q (text, is, e) = (text, is, e)

-- between two characters all of it is a text
whole : (name : List ℕ) → BeginsText name pending.Nothing → IsUtf8 name
whole name (text, is, e) = subst IsUtf8 (sym (e ∙ append-nil text)) is

named-more : (ws : List Written) (a : Written) → HaveTextNames ws → IsUtf8 a.name → HaveTextNames (ws ++ a ∷ [])
named-more [] a h k = (k, tt)
named-more (x ∷ ws) a (one, more) k = (one, named-more ws a more k)

-- A character below 128.

ascii-grows : (b : ℕ) → b < 128 → Grows pending.Nothing b pending.Nothing
ascii-grows b h = (b ∷ [], ascii-utf8 (b ∷ []) (and_from (nat_lt b 128) true (lt-ltb b 128 h) refl), refl)

-- the byte that the token of an attribute's name has, or c
abbrev attr_byte : ℕ → List Token → ℕ
attr_byte c (token.AttrOpens x ∷ ts) = x
attr_byte c (token.AttrByte x ∷ ts) = x
attr_byte c ts = c

abbrev attr_turn : ℕ → Turn → ℕ
attr_turn c (tells_and_goes ts t) = attr_byte c ts
attr_turn c t = c

abbrev in_a_tag : Sort → Bool
in_a_tag at_tag = true
in_a_tag at_attribute = true
in_a_tag s = false

after-attr : (h : Half) (k : Kind) (c : ℕ) → attr_turn c (after_part Attribute h k c) ≡ c
after-attr Prefix kinds.Space c = refl
after-attr Local kinds.Space c = refl
after-attr h k c = refl

tag-end-attr : (k : Kind) (c : ℕ) → attr_turn c (in_tag_end k) ≡ c
tag-end-attr kinds.Space c = refl
tag-end-attr k c = refl

equals-attr : (k : Kind) (c : ℕ) → attr_turn c (after_equals k) ≡ c
equals-attr kinds.Space c = refl
equals-attr k c = refl

attr-ascii : (s : Stage) (k : Kind) (c : ℕ) → in_a_tag (sort s) ≡ true → attr_turn c (ascii s k c) ≡ c
unfolding ascii in_name in_tag
attr-ascii (stage.Name Attribute h) k c e =
    cond_both (is_name_further k) (tells_and_goes (token.AttrByte c ∷ []) (stage.Name Attribute h)) (after_part Attribute h k c)
    (λ (t : Turn). attr_turn c t ≡ c) (λ y. refl) (λ y. after-attr h k c)
attr-ascii (stage.Colon Attribute) k c e =
    cond_both (is_name_start k) (tells_and_goes (token.AttrByte c ∷ []) (stage.Name Attribute Local)) fault (λ (t : Turn). attr_turn c t ≡ c) (λ y. refl)
    (λ y. refl)
attr-ascii stage.InTag k c e =
    cond_both (is_name_start k) (tells_and_goes (token.AttrOpens c ∷ []) (stage.Name Attribute Prefix)) (in_tag_end k) (λ (t : Turn). attr_turn c t ≡ c)
    (λ y. refl) (λ y. tag-end-attr k c)
attr-ascii stage.ValueEnded k c e = tag-end-attr k c
attr-ascii stage.ValueAwaited k c e = equals-attr k c
attr-ascii stage.EmptyTagMark kinds.Space c e = refl
attr-ascii stage.EmptyTagMark k c e = refl
attr-ascii stage.AttrNamed kinds.Space c e = refl
attr-ascii stage.AttrNamed k c e = refl
attr-ascii (stage.Name StartTag h) k c e = false-true e
attr-ascii (stage.Name EndTag h) k c e = false-true e
attr-ascii (stage.Colon StartTag) k c e = false-true e
attr-ascii (stage.Colon EndTag) k c e = false-true e
attr-ascii (stage.Fixed literal.Cdata i) k c e = false-true e
attr-ascii (stage.Fixed w i) k c e = false-true e
attr-ascii (stage.Text Words) k c e = false-true e
attr-ascii (stage.Text (Value q)) k c e = false-true e
attr-ascii (stage.Reference Words l) k c e = false-true e
attr-ascii (stage.Reference (Value q) l) k c e = false-true e
attr-ascii (stage.Hash Words) k c e = false-true e
attr-ascii (stage.Hash (Value q)) k c e = false-true e
attr-ascii (stage.HashX Words) k c e = false-true e
attr-ascii (stage.HashX (Value q)) k c e = false-true e
attr-ascii (stage.Number Words base v) k c e = false-true e
attr-ascii (stage.Number (Value q) base v) k c e = false-true e
attr-ascii s k c e = false-true e

ascii-step : (x : Sort) (us : List Token) (y : Sort) (c : ℕ) (b : Building) → may_move x us y ≡ true → own_byte c us ≡ c
    → (in_a_tag x ≡ true → attr_byte c us ≡ c) → c < 128
    → AreGathered x pending.Nothing b.tag → AreGathered y pending.Nothing (build_all b us).tag
ascii-step x us at_begin c b h o a low g = tt
ascii-step x us at_prolog c b h o a low g = tt
ascii-step x us at_content c b h o a low g = tt
ascii-step x us at_ending c b h o a low g = tt
ascii-step at_begin (token.TagOpens n ∷ []) at_name c b h o a low g = (opened n pending.Nothing (ascii-grows n (subst (λ (i : ℕ). i < 128) (sym o) low)), tt)
ascii-step at_prolog (token.TagOpens n ∷ []) at_name c b h o a low g = (opened n pending.Nothing (ascii-grows n (subst (λ (i : ℕ). i < 128) (sym o) low)), tt)
ascii-step at_content (token.TagOpens n ∷ []) at_name c b h o a low g = (opened n pending.Nothing (ascii-grows n (subst (λ (i : ℕ). i < 128) (sym o) low)), tt)
ascii-step at_name (token.NameByte n ∷ []) at_name c b h o a low (name, more) =
    (grown b.tag.name pending.Nothing pending.Nothing n name (ascii-grows n (subst (λ (i : ℕ). i < 128) (sym o) low)), more)
ascii-step at_name [] at_tag c b h o a low (name, more) = (whole b.tag.name name, more)
ascii-step at_tag [] at_tag c b h o a low g = g
ascii-step at_tag (token.AttrOpens n ∷ []) at_attribute c b h o a low g =
    (g, opened n pending.Nothing (ascii-grows n (subst (λ (i : ℕ). i < 128) (sym (a refl)) low)))
ascii-step at_attribute [] at_attribute c b h o a low g = g
ascii-step at_attribute (token.AttrByte n ∷ []) at_attribute c b h o a low (tag, name) =
    (tag, grown b.tag.attribute pending.Nothing pending.Nothing n name (ascii-grows n (subst (λ (i : ℕ). i < 128) (sym (a refl)) low)))
ascii-step at_attribute (token.ValueOpens ∷ []) at_value c b h o a low (tag, name) = (tag, whole b.tag.attribute name)
ascii-step at_value [] at_value c b h o a low g = g
ascii-step at_value (token.Value n ∷ []) at_value c b h o a low g = g
ascii-step at_value (token.ValueEnds ∷ []) at_tag c b h o a low ((name, more), last) =
    (name, named-more b.tag.attributes (record { name = b.tag.attribute; value = b.tag.value }) more last)
ascii-step at_begin [] y c b h o a low g = false-true h
ascii-step at_begin (token.TagOpens n ∷ []) y c b h o a low g = false-true h
ascii-step at_begin (token.Declaration ∷ []) y c b h o a low g = false-true h
ascii-step at_prolog [] y c b h o a low g = false-true h
ascii-step at_prolog (token.TagOpens n ∷ []) y c b h o a low g = false-true h
ascii-step at_content [] y c b h o a low g = false-true h
ascii-step at_content (token.Word n ∷ us) y c b h o a low g = false-true h
ascii-step at_content (token.TagOpens n ∷ []) y c b h o a low g = false-true h
ascii-step at_content (token.CloseOpens n ∷ []) y c b h o a low g = false-true h
ascii-step at_name [] y c b h o a low g = false-true h
ascii-step at_name (token.NameByte n ∷ []) y c b h o a low g = false-true h
ascii-step at_name (token.TagEnds e ∷ []) y c b h o a low g = false-true h
ascii-step at_tag [] y c b h o a low g = false-true h
ascii-step at_tag (token.AttrOpens n ∷ []) y c b h o a low g = false-true h
ascii-step at_tag (token.TagEnds e ∷ []) y c b h o a low g = false-true h
ascii-step at_attribute [] y c b h o a low g = false-true h
ascii-step at_attribute (token.AttrByte n ∷ []) y c b h o a low g = false-true h
ascii-step at_attribute (token.ValueOpens ∷ []) y c b h o a low g = false-true h
ascii-step at_value [] y c b h o a low g = false-true h
ascii-step at_value (token.Value n ∷ []) y c b h o a low g = false-true h
ascii-step at_value (token.ValueEnds ∷ []) y c b h o a low g = false-true h
ascii-step at_ending [] y c b h o a low g = false-true h
ascii-step at_ending (token.NameByte n ∷ []) y c b h o a low g = false-true h
ascii-step at_ending (token.CloseEnds ∷ []) y c b h o a low g = false-true h
ascii-step x us y c b h o a low g = false-true h

abbrev Led : Building → Outcome → Type 0
Led b (leads to us) = (is_begun to.pending ≡ true) × AreGathered (sort_of to) to.pending (build_all b us).tag
Led b (fails f) = Unit {0}

settled-led : (s : Stage) (r : Bool) (c : ℕ) (t : Turn) (b : Building) → turn_moves (sort s) t ≡ true → turn_own c t ≡ c
    → (in_a_tag (sort s) ≡ true → attr_turn c t ≡ c) → c < 128
    → AreGathered (sort s) pending.Nothing b.tag → Led b (settled r t)
settled-led s r c (goes t) b h o a low g = (refl, ascii-step (sort s) [] (sort t) c b h o a low g)
settled-led s r c (tells_and_goes ts t) b h o a low g = (refl, ascii-step (sort s) ts (sort t) c b h o a low g)
settled-led s r c (stops f) b h o a low g = tt

low-ten : 10 < 128
low-ten = omega arith

ascii-led : (s : Stage) (r : Bool) (c : ℕ) (b : Building) → nat_lt c 128 ≡ true → AreGathered (sort s) pending.Nothing b.tag
    → Led b (turn_ascii (at s pending.Nothing r) c)
unfolding turn_ascii ascii_kind
ascii-led s r c b low g =
    cond_both (r && c == 10) _ _ (Led b) (λ e. (refl, g))
    (λ f. cond_both (c == 13) _ _ (Led b)
    (λ e. settled-led s true 10 (ascii s kinds.Space 10) b (moves-ascii s kinds.Space 10).0 (moves-ascii s kinds.Space 10).1 (attr-ascii s kinds.Space 10)
    low-ten g)
    (λ e. settled-led s false c (ascii s (ascii_kind c) c) b (moves-ascii s (ascii_kind c) c).0 (moves-ascii s (ascii_kind c) c).1
    (attr-ascii s (ascii_kind c) c) (ltb-true c 128 low) g))

-- A character from 128 on.

-- the first byte of a tag's name; a further byte; the first byte of an attribute's name; a further byte; at most a character
abbrev is_tag_open : List Token → Bool
is_tag_open (token.TagOpens n ∷ []) = true
is_tag_open us = false

abbrev is_close_open : List Token → Bool
is_close_open (token.CloseOpens n ∷ []) = true
is_close_open us = false

abbrev is_name_byte : List Token → Bool
is_name_byte (token.NameByte n ∷ []) = true
is_name_byte us = false

abbrev is_attr_open : List Token → Bool
is_attr_open (token.AttrOpens n ∷ []) = true
is_attr_open us = false

abbrev is_attr_byte : List Token → Bool
is_attr_byte (token.AttrByte n ∷ []) = true
is_attr_byte us = false

abbrev is_of_value : List Token → Bool
is_of_value [] = true
is_of_value (token.Value n ∷ []) = true
is_of_value us = false

-- within a character only a name's bytes are told, one by one; words and values tell it whole
abbrev may_go : Pending → Sort → List Token → Sort → Bool
may_go p at_content us at_content = are_words us
may_go p at_begin us at_name = is_tag_open us && is_nothing p
may_go p at_prolog us at_name = is_tag_open us && is_nothing p
may_go p at_content us at_name = is_tag_open us && is_nothing p
may_go p at_content us at_ending = is_close_open us
may_go p at_tag us at_attribute = is_attr_open us && is_nothing p
may_go p at_name us at_name = is_name_byte us
may_go p at_attribute us at_attribute = is_attr_byte us
may_go p at_value us at_value = is_of_value us
may_go p at_ending us at_ending = is_name_byte us
may_go p x us y = false

abbrev Goes : Stage → Pending → Type 0
Goes s p = (r : Bool) (b low high n : ℕ) → has_between (class_of (allowed_at s)) low high ≡ true
    → ((may_go p (sort_of (at s p r)) (byte_told (voice s) p b) (sort (through s)) ≡ true) × (own_byte b (byte_told (voice s) p b) ≡ b)
    × (attr_byte b (byte_told (voice s) p b) ≡ b))
    × ((may_go p (sort_of (at s p r)) (byte_told (voice s) p b ++ end_told (voice s) n) (sort (through s)) ≡ true)
    × (own_byte b (byte_told (voice s) p b ++ end_told (voice s) n) ≡ b)
    × (attr_byte b (byte_told (voice s) p b ++ end_told (voice s) n) ≡ b))

wide-goes : (s : Stage) (p : Pending) → Goes s p
unfolding allowed_at voice through
wide-goes (stage.Text Words) pending.Nothing = λ r b low high n e. ((refl, refl, refl), (refl, refl, refl))
wide-goes (stage.Text Words) p = λ r b low high n e. ((refl, refl, refl), (refl, refl, refl))
wide-goes (stage.Text (Value q)) pending.Nothing = λ r b low high n e. ((refl, refl, refl), (refl, refl, refl))
wide-goes (stage.Text (Value q)) p = λ r b low high n e. ((refl, refl, refl), (refl, refl, refl))
wide-goes (stage.Bracketed One) pending.Nothing = λ r b low high n e. ((refl, refl, refl), (refl, refl, refl))
wide-goes (stage.Bracketed One) p = λ r b low high n e. ((refl, refl, refl), (refl, refl, refl))
wide-goes (stage.Bracketed Many) pending.Nothing = λ r b low high n e. ((refl, refl, refl), (refl, refl, refl))
wide-goes (stage.Bracketed Many) p = λ r b low high n e. ((refl, refl, refl), (refl, refl, refl))
wide-goes stage.Cdata pending.Nothing = λ r b low high n e. ((refl, refl, refl), (refl, refl, refl))
wide-goes stage.Cdata p = λ r b low high n e. ((refl, refl, refl), (refl, refl, refl))
wide-goes (stage.CdataBracketed One) pending.Nothing = λ r b low high n e. ((refl, refl, refl), (refl, refl, refl))
wide-goes (stage.CdataBracketed One) p = λ r b low high n e. ((refl, refl, refl), (refl, refl, refl))
wide-goes (stage.CdataBracketed Many) pending.Nothing = λ r b low high n e. ((refl, refl, refl), (refl, refl, refl))
wide-goes (stage.CdataBracketed Many) p = λ r b low high n e. ((refl, refl, refl), (refl, refl, refl))
wide-goes stage.StartLess pending.Nothing = λ r b low high n e. ((refl, refl, refl), (refl, refl, refl))
wide-goes stage.StartLess p = λ r b low high n e. ((refl, refl, refl), (refl, refl, refl))
wide-goes stage.PrologLess pending.Nothing = λ r b low high n e. ((refl, refl, refl), (refl, refl, refl))
wide-goes stage.PrologLess p = λ r b low high n e. ((refl, refl, refl), (refl, refl, refl))
wide-goes stage.Less pending.Nothing = λ r b low high n e. ((refl, refl, refl), (refl, refl, refl))
wide-goes stage.Less p = λ r b low high n e. ((refl, refl, refl), (refl, refl, refl))
wide-goes stage.EndTagMark pending.Nothing = λ r b low high n e. ((refl, refl, refl), (refl, refl, refl))
wide-goes stage.EndTagMark p = λ r b low high n e. ((refl, refl, refl), (refl, refl, refl))
wide-goes stage.InTag pending.Nothing = λ r b low high n e. ((refl, refl, refl), (refl, refl, refl))
wide-goes stage.InTag p = λ r b low high n e. ((refl, refl, refl), (refl, refl, refl))
wide-goes (stage.Name StartTag Prefix) pending.Nothing = λ r b low high n e. ((refl, refl, refl), (refl, refl, refl))
wide-goes (stage.Name StartTag Prefix) p = λ r b low high n e. ((refl, refl, refl), (refl, refl, refl))
wide-goes (stage.Name StartTag Local) pending.Nothing = λ r b low high n e. ((refl, refl, refl), (refl, refl, refl))
wide-goes (stage.Name StartTag Local) p = λ r b low high n e. ((refl, refl, refl), (refl, refl, refl))
wide-goes (stage.Name EndTag Prefix) pending.Nothing = λ r b low high n e. ((refl, refl, refl), (refl, refl, refl))
wide-goes (stage.Name EndTag Prefix) p = λ r b low high n e. ((refl, refl, refl), (refl, refl, refl))
wide-goes (stage.Name EndTag Local) pending.Nothing = λ r b low high n e. ((refl, refl, refl), (refl, refl, refl))
wide-goes (stage.Name EndTag Local) p = λ r b low high n e. ((refl, refl, refl), (refl, refl, refl))
wide-goes (stage.Name Attribute Prefix) pending.Nothing = λ r b low high n e. ((refl, refl, refl), (refl, refl, refl))
wide-goes (stage.Name Attribute Prefix) p = λ r b low high n e. ((refl, refl, refl), (refl, refl, refl))
wide-goes (stage.Name Attribute Local) pending.Nothing = λ r b low high n e. ((refl, refl, refl), (refl, refl, refl))
wide-goes (stage.Name Attribute Local) p = λ r b low high n e. ((refl, refl, refl), (refl, refl, refl))
wide-goes (stage.Colon StartTag) pending.Nothing = λ r b low high n e. ((refl, refl, refl), (refl, refl, refl))
wide-goes (stage.Colon StartTag) p = λ r b low high n e. ((refl, refl, refl), (refl, refl, refl))
wide-goes (stage.Colon EndTag) pending.Nothing = λ r b low high n e. ((refl, refl, refl), (refl, refl, refl))
wide-goes (stage.Colon EndTag) p = λ r b low high n e. ((refl, refl, refl), (refl, refl, refl))
wide-goes (stage.Colon Attribute) pending.Nothing = λ r b low high n e. ((refl, refl, refl), (refl, refl, refl))
wide-goes (stage.Colon Attribute) p = λ r b low high n e. ((refl, refl, refl), (refl, refl, refl))
wide-goes s p = λ r b low high n e. false-true e

tag-opened : (p : Pending) (us : List Token) (q : Pending) (c : ℕ) (b : Building) → is_tag_open us ≡ true → is_nothing p ≡ true → own_byte c us ≡ c
    → Grows p c q → AreGathered at_name q (build_all b us).tag
tag-opened pending.Nothing (token.TagOpens n ∷ []) q c b h k o grows = (opened n q (subst (λ (i : ℕ). Grows pending.Nothing i q) (sym o) grows), tt)
tag-opened pending.Nothing us q c b h k o grows = false-true h
tag-opened p us q c b h k o grows = false-true k

tag-more : (p : Pending) (us : List Token) (q : Pending) (c : ℕ) (b : Building) → is_name_byte us ≡ true → own_byte c us ≡ c → Grows p c q
    → AreGathered at_name p b.tag → AreGathered at_name q (build_all b us).tag
tag-more p (token.NameByte n ∷ []) q c b h o grows (name, more) = (grown b.tag.name p q n name (subst (λ (i : ℕ). Grows p i q) (sym o) grows), more)
tag-more p us q c b h o grows g = false-true h

attr-opened : (p : Pending) (us : List Token) (q : Pending) (c : ℕ) (b : Building) → is_attr_open us ≡ true → is_nothing p ≡ true → attr_byte c us ≡ c
    → Grows p c q
    → AreGathered at_tag p b.tag → AreGathered at_attribute q (build_all b us).tag
attr-opened pending.Nothing (token.AttrOpens n ∷ []) q c b h k o grows g = (g, opened n q (subst (λ (i : ℕ). Grows pending.Nothing i q) (sym o) grows))
attr-opened pending.Nothing us q c b h k o grows g = false-true h
attr-opened p us q c b h k o grows g = false-true k

attr-more : (p : Pending) (us : List Token) (q : Pending) (c : ℕ) (b : Building) → is_attr_byte us ≡ true → attr_byte c us ≡ c → Grows p c q
    → AreGathered at_attribute p b.tag → AreGathered at_attribute q (build_all b us).tag
attr-more p (token.AttrByte n ∷ []) q c b h o grows (tag, name) = (tag, grown b.tag.attribute p q n name (subst (λ (i : ℕ). Grows p i q) (sym o) grows))
attr-more p us q c b h o grows g = false-true h

value-more : (p : Pending) (us : List Token) (q : Pending) (b : Building) → is_of_value us ≡ true → AreGathered at_value p b.tag
    → AreGathered at_value q (build_all b us).tag
value-more p [] q b h g = g
value-more p (token.Value n ∷ []) q b h g = g
value-more p us q b h g = false-true h

wide-step : (p : Pending) (x : Sort) (us : List Token) (y : Sort) (q : Pending) (c : ℕ) (b : Building) → may_go p x us y ≡ true → own_byte c us ≡ c
    → attr_byte c us ≡ c → Grows p c q
    → AreGathered x p b.tag → AreGathered y q (build_all b us).tag
wide-step p x us at_begin q c b h o a grows g = tt
wide-step p x us at_prolog q c b h o a grows g = tt
wide-step p x us at_content q c b h o a grows g = tt
wide-step p x us at_ending q c b h o a grows g = tt
wide-step p at_begin us at_name q c b h o a grows g = let (t, k) = and_parts (is_tag_open us) (is_nothing p) h in tag-opened p us q c b t k o grows
wide-step p at_prolog us at_name q c b h o a grows g = let (t, k) = and_parts (is_tag_open us) (is_nothing p) h in tag-opened p us q c b t k o grows
wide-step p at_content us at_name q c b h o a grows g = let (t, k) = and_parts (is_tag_open us) (is_nothing p) h in tag-opened p us q c b t k o grows
wide-step p at_name us at_name q c b h o a grows g = tag-more p us q c b h o grows g
wide-step p at_tag us at_attribute q c b h o a grows g = let (t, k) = and_parts (is_attr_open us) (is_nothing p) h in attr-opened p us q c b t k a grows g
wide-step p at_attribute us at_attribute q c b h o a grows g = attr-more p us q c b h a grows g
wide-step p at_value us at_value q c b h o a grows g = value-more p us q b h g
wide-step p at_begin us at_tag q c b h o a grows g = false-true h
wide-step p x us y q c b h o a grows g = false-true h

-- what is known of where the bytes of a character lead
abbrev IsReached : List ℕ → Reach → Type 0
IsReached bs (Begun q low high) = (is_begun q ≡ true) × (bytes_of q ≡ bs)
IsReached bs (Whole n) = encode_utf8 n ≡ bs
IsReached bs Broken = Unit {0}

reached : (p : Pending) (b : ℕ) (x : Reach) → is_begun p ≡ true → reach p b ≡ x → IsReached (bytes_of p ++ b ∷ []) x
reached p b (Begun q low high) h e = ((subst Awaited e (reach-awaited p b h)).0, (subst (Spelt (bytes_of p ++ b ∷ [])) e (reach-spelt p b)).0)
reached p b (Whole n) h e =
    let (rest, spelt, none) = reach-starts p b n h (subst (λ (x : Reach). Within x n) (sym e) refl) in
    let left : IsRest (Whole n) rest = subst (λ (x : Reach). IsRest x rest) e none in
    spelt ∙ (ap (λ (l : List ℕ). (bytes_of p ++ b ∷ []) ++ l) left ∙ append-nil (bytes_of p ++ b ∷ []))
reached p b Broken h e = tt

wide-led : (s : Stage) (p : Pending) (r : Bool) (c : ℕ) (x : Reach) (b : Building) → IsReached (bytes_of p ++ c ∷ []) x
    → AreGathered (sort_of (at s p r)) p b.tag
    → Led b (turn_wide (at s p r) c x)
unfolding turn_wide
wide-led s p r c (Begun q low high) b (begun, spelt) g =
    cond_both (has_between (class_of (allowed_at s)) low high) _ _ (Led b)
    (λ e. let v = (wide-goes s p r c low high 0 e).0 in (
      begun,
      subst (λ (y : Sort). AreGathered y q (build_all b (byte_told (voice s) p c)).tag) (sym (begun-sort s q r c (bytes_of p) spelt))
          (wide-step p (sort_of (at s p r)) (byte_told (voice s) p c) (sort (through s)) q c b v.0 v.1 v.2 ([], IsUtf8-nil, sym spelt) g),
    ))
    (λ e. tt)
wide-led s p r c (Whole n) b spelt g =
    cond_both (has_between (class_of (allowed_at s)) n n) _ _ (Led b)
    (λ e. let v = (wide-goes s p r c n n n e).1 in (
      refl,
      wide-step p (sort_of (at s p r)) (byte_told (voice s) p c ++ end_told (voice s) n) (sort (through s)) pending.Nothing c b v.0 v.1 v.2
          (encode_utf8 n, IsUtf8-encode n (class-scalar (allowed_at s) n e), sym spelt ∙ sym (append-nil (encode_utf8 n))) g,
    ))
    (λ e. tt)
wide-led s p r c Broken b spelt g = tt

-- Where a byte leads.

turn-led : (s : Stage) (p : Pending) (r : Bool) (c : ℕ) (b : Building) → is_begun p ≡ true → AreGathered (sort_of (at s p r)) p b.tag
    → Led b (turn (at s p r) c)
turn-led s pending.Nothing r c b h g =
    cond_both (nat_lt c 128) (turn_ascii (at s pending.Nothing r) c) (turn_wide (at s pending.Nothing r) c (reach pending.Nothing c)) (Led b)
    (λ e. ascii-led s r c b e g)
    (λ e. wide-led s pending.Nothing r c (reach pending.Nothing c) b (reached pending.Nothing c (reach pending.Nothing c) h refl) g)
turn-led s p r c b h g = wide-led s p r c (reach p c) b (reached p c (reach p c) h refl) g

placed-texts : (r : Rules) (st : State) (n : Nest) (g : Gathered) → is_begun st.pending ≡ true → AreGathered (sort_of st) st.pending g
    → HasTexts (placed r st n) g
placed-texts r st lost g h a = tt
placed-texts r st (inside []) g h a = tt
placed-texts r st n g h a = cond_both (goes_with r st n) (open_at st n) broken (λ (f : Frame). HasTexts f g) (λ e. (h, a)) (λ e. tt)

pub next_texts : (r : Rules) (f : Frame) (c : ℕ) (b : Building) → HasTexts f b.tag → HasTexts (frame_next r f c) (build_all b (told_at f c)).tag
next_texts r (open_at st n) c b (h, g) = by (turn st c) (turn-led st.stage st.pending st.returned c b h g)
  where
    by : (o : Outcome) → Led b o → HasTexts (framed r n o) (build_all b (tokens_told o)).tag
    by (leads to us) (begun, a) = placed-texts r to (nest_all r n us) (build_all b us).tag begun a
    by (fails x) a = tt
next_texts r ended c b h = cond_both (is_space c) ended broken (λ (f : Frame). HasTexts f b.tag) (λ e. tt) (λ e. tt)
next_texts r broken c b h = tt

pub read_texts : (r : Rules) (f g : Frame) (c : ℕ) (b d : Building) → g ≡ frame_next r f c → d ≡ build_all b (told_at f c) → HasTexts f b.tag → HasTexts g d.tag
read_texts r f g c b d e k h =
    subst (λ (x : Frame). HasTexts x d.tag) (sym e) (subst (λ (x : Building). HasTexts (frame_next r f c) x.tag) (sym k) (next_texts r f c b h))

-- Where a tag ends, its names are texts.

ascii-named : (x : Sort) (us : List Token) (y : Sort) (g : Gathered) → may_move x us y ≡ true → AreGathered x pending.Nothing g → AreNamed g us
ascii-named at_name (token.TagEnds e ∷ []) y g h (name, more) = (whole g.name name, more)
ascii-named at_tag (token.TagEnds e ∷ []) y g h a = a
ascii-named x (token.TagEnds e ∷ []) y g h a = false-true h
ascii-named x us y g h a = tt

wide-named : (p : Pending) (x : Sort) (us : List Token) (y : Sort) (g : Gathered) → may_go p x us y ≡ true → AreNamed g us
wide-named p at_begin (token.TagEnds e ∷ []) at_name g h = false-true h
wide-named p at_prolog (token.TagEnds e ∷ []) at_name g h = false-true h
wide-named p at_content (token.TagEnds e ∷ []) at_content g h = false-true h
wide-named p at_name (token.TagEnds e ∷ []) at_name g h = false-true h
wide-named p at_tag (token.TagEnds e ∷ []) at_attribute g h = false-true h
wide-named p at_attribute (token.TagEnds e ∷ []) at_attribute g h = false-true h
wide-named p at_value (token.TagEnds e ∷ []) at_value g h = false-true h
wide-named p at_ending (token.TagEnds e ∷ []) at_ending g h = false-true h
wide-named p x (token.TagEnds e ∷ []) y g h = false-true h
wide-named p x us y g h = tt

abbrev Named : Gathered → Outcome → Type 0
Named g (leads to us) = AreNamed g us
Named g (fails f) = Unit {0}

settled-named : (s : Stage) (r : Bool) (t : Turn) (g : Gathered) → turn_moves (sort s) t ≡ true → AreGathered (sort s) pending.Nothing g → Named g (settled r t)
settled-named s r (goes t) g h a = tt
settled-named s r (tells_and_goes ts t) g h a = ascii-named (sort s) ts (sort t) g h a
settled-named s r (stops f) g h a = tt

ascii-turned : (s : Stage) (r : Bool) (c : ℕ) (g : Gathered) → AreGathered (sort s) pending.Nothing g → Named g (turn_ascii (at s pending.Nothing r) c)
unfolding turn_ascii ascii_kind
ascii-turned s r c g a =
    cond_both (r && c == 10) _ _ (Named g) (λ e. tt)
    (λ f. cond_both (c == 13) _ _ (Named g) (λ e. settled-named s true (ascii s kinds.Space 10) g (moves-ascii s kinds.Space 10).0 a)
    (λ e. settled-named s false (ascii s (ascii_kind c) c) g (moves-ascii s (ascii_kind c) c).0 a))

wide-turned : (s : Stage) (p : Pending) (r : Bool) (c : ℕ) (x : Reach) (g : Gathered) → Named g (turn_wide (at s p r) c x)
unfolding turn_wide
wide-turned s p r c (Begun q low high) g =
    cond_both (has_between (class_of (allowed_at s)) low high) _ _ (Named g)
    (λ e. wide-named p (sort_of (at s p r)) (byte_told (voice s) p c) (sort (through s)) g (wide-goes s p r c low high 0 e).0.0) (λ e. tt)
wide-turned s p r c (Whole n) g =
    cond_both (has_between (class_of (allowed_at s)) n n) _ _ (Named g)
    (λ e. wide-named p (sort_of (at s p r)) (byte_told (voice s) p c ++ end_told (voice s) n) (sort (through s)) g (wide-goes s p r c n n n e).1.0) (λ e. tt)
wide-turned s p r c Broken g = tt

turn-named : (s : Stage) (p : Pending) (r : Bool) (c : ℕ) (g : Gathered) → AreGathered (sort_of (at s p r)) p g → Named g (turn (at s p r) c)
turn-named s pending.Nothing r c g a =
    cond_both (nat_lt c 128) (turn_ascii (at s pending.Nothing r) c) (turn_wide (at s pending.Nothing r) c (reach pending.Nothing c)) (Named g)
    (λ e. ascii-turned s r c g a) (λ e. wide-turned s pending.Nothing r c (reach pending.Nothing c) g)
turn-named s p r c g a = wide-turned s p r c (reach p c) g

pub told_named : (f : Frame) (c : ℕ) (g : Gathered) → HasTexts f g → AreNamed g (told_at f c)
told_named (open_at st n) c g (h, a) = by (turn st c) (turn-named st.stage st.pending st.returned c g a)
  where
    by : (o : Outcome) → Named g o → AreNamed g (tokens_told o)
    by (leads to us) k = k
    by (fails x) k = tt
told_named f c g h = tt
