-- Short texts from a stage in a tag or in content to the end of the tag or to an end tag.
use Rattle.std.proofs.Common.{◌≡◌, ℕ, zero, suc, ◌⊎◌, inl, inr, [], ◌∷◌, refl, sym, Bool, true, false, arith, codes}
use Rattle.stream_lex.specs.declared.Token.TheVariants as token
use Rattle.stream_lex.specs.declared.stages.Quote.{Quote}
use Rattle.stream_lex.specs.declared.stages.Quote.TheVariants.{Double, Single}
use Rattle.stream_lex.specs.declared.stages.Context.TheVariants.{Words, Value}
use Rattle.stream_lex.specs.declared.stages.NameOwner.TheVariants.{StartTag, EndTag, Attribute}
use Rattle.stream_lex.specs.declared.stages.Half.{Half}
use Rattle.stream_lex.specs.declared.stages.Half.TheVariants.{Prefix, Local}
use Rattle.stream_lex.specs.declared.stages.Brackets.TheVariants.{One, Many}
use Rattle.stream_lex.specs.declared.stages.EntityName.TheVariants as entity_name
use Rattle.stream_lex.specs.declared.stages.Literal.TheVariants as literal
use Rattle.stream_lex.specs.declared.stages.Stage.{Stage}
use Rattle.stream_lex.specs.declared.stages.Stage.TheVariants as stage
use Rattle.stream_lex.specs.declared.characters.Pending.TheVariants as pending
use Rattle.stream_lex.specs.grammar.Kinds.{ascii_kind}
use Rattle.stream_lex.specs.machine.Machine.{in_fixed, in_declaration, in_reference, in_number, in_name, in_tag, ascii, allowed_at}
use Rattle.stream_lex.specs.machine.Turns.{leads, at, turn_ascii, turn}
use Rattle.stream_lex.specs.machine.Live.{is_live_stage}
use Rattle.stream_lex.proofs.Lists.{false-true}
use Rattle.stream_grammar.specs.grammar.Trees.{is_space}
use Rattle.stream_grammar.specs.machine.Framing.{stage_to_space}
use Rattle.stream_grammar.specs.machine.Sorts.{sort}
use Rattle.stream_grammar.proofs.Twins.{end_mark, words}
use Rattle.stream_grammar.proofs.Running.{Ways, both}
use Rattle.stream_grammar.proofs.Ways.{is_tag, is_attribute, is_value, is_content, is_number, is_end_mark, too-far}

-- In a tag.

pub name-way : (h : Half) → Ways (stage.Name StartTag h) words (token.TagEnds false ∷ [])
unfolding turn_ascii ascii_kind ascii in_fixed in_declaration in_reference in_number in_name in_tag allowed_at
name-way Prefix = both (stage.Name StartTag Prefix) words (token.TagEnds false ∷ []) (codes ">") refl refl
name-way Local = both (stage.Name StartTag Local) words (token.TagEnds false ∷ []) (codes ">") refl refl

pub name-turn : (h : Half) (r : Bool) → turn (at (stage.Name StartTag h) pending.Nothing r) 62 ≡ leads words (token.TagEnds false ∷ [])
unfolding turn_ascii ascii_kind ascii in_fixed in_declaration in_reference in_number in_name in_tag allowed_at
name-turn Prefix true = refl
name-turn Prefix false = refl
name-turn Local true = refl
name-turn Local false = refl

pub colon-way : (r : Bool) → r ≡ false
    → turn (at (stage.Colon StartTag) pending.Nothing r) 97 ≡ leads (at (stage.Name StartTag Local) pending.Nothing false) (token.NameByte 97 ∷ [])
unfolding turn_ascii ascii_kind ascii in_fixed in_declaration in_reference in_number in_name in_tag allowed_at
colon-way true e = false-true (sym e)
colon-way false e = refl

-- whether the tag is an empty-element tag
abbrev pub ends_empty : Stage → Bool
ends_empty stage.EmptyTagMark = true
ends_empty s = false

pub tag-way : (s : Stage) → is_tag (sort s) ≡ true → Ways s words (token.TagEnds (ends_empty s) ∷ [])
unfolding turn_ascii ascii_kind ascii in_fixed in_declaration in_reference in_number in_name in_tag allowed_at
tag-way stage.InTag h = both stage.InTag words (token.TagEnds false ∷ []) (codes ">") refl refl
tag-way stage.ValueEnded h = both stage.ValueEnded words (token.TagEnds false ∷ []) (codes ">") refl refl
tag-way stage.EmptyTagMark h = both stage.EmptyTagMark words (token.TagEnds true ∷ []) (codes ">") refl refl
tag-way (stage.Text Words) h = false-true h
tag-way (stage.Text (Value q)) h = false-true h
tag-way (stage.Hash Words) h = false-true h
tag-way (stage.Hash (Value q)) h = false-true h
tag-way (stage.HashX Words) h = false-true h
tag-way (stage.HashX (Value q)) h = false-true h
tag-way (stage.Reference Words l) h = false-true h
tag-way (stage.Number Words base v) h = false-true h
tag-way (stage.Reference (Value q) l) h = false-true h
tag-way (stage.Number (Value q) base v) h = false-true h
tag-way (stage.Name StartTag u) h = false-true h
tag-way (stage.Colon StartTag) h = false-true h
tag-way (stage.Name EndTag u) h = false-true h
tag-way (stage.Colon EndTag) h = false-true h
tag-way (stage.Name Attribute u) h = false-true h
tag-way (stage.Colon Attribute) h = false-true h
tag-way (stage.Fixed literal.Xml at) h = false-true h
tag-way (stage.Fixed w at) h = false-true h
tag-way s h = false-true h

abbrev pub AttributeEnds : Stage → Type 0
AttributeEnds s = Ways s words (token.ValueOpens ∷ token.ValueEnds ∷ token.TagEnds false ∷ [])
    ⊎ ((x : ℕ) × Ways s words (token.AttrByte x ∷ token.ValueOpens ∷ token.ValueEnds ∷ token.TagEnds false ∷ []))

pub attribute-way : (s : Stage) → is_attribute (sort s) ≡ true → AttributeEnds s
unfolding turn_ascii ascii_kind ascii in_fixed in_declaration in_reference in_number in_name in_tag allowed_at
attribute-way (stage.Name Attribute Prefix) h =
    inl (both (stage.Name Attribute Prefix) words (token.ValueOpens ∷ token.ValueEnds ∷ token.TagEnds false ∷ []) (codes "=''>") refl refl)
attribute-way (stage.Name Attribute Local) h =
    inl (both (stage.Name Attribute Local) words (token.ValueOpens ∷ token.ValueEnds ∷ token.TagEnds false ∷ []) (codes "=''>") refl refl)
attribute-way stage.AttrNamed h = inl (both stage.AttrNamed words (token.ValueOpens ∷ token.ValueEnds ∷ token.TagEnds false ∷ []) (codes "=''>") refl refl)
attribute-way stage.ValueAwaited h = inl (both stage.ValueAwaited words (token.ValueOpens ∷ token.ValueEnds ∷ token.TagEnds false ∷ []) (codes "''>") refl refl)
attribute-way (stage.Colon Attribute) h =
    inr (97, both (stage.Colon Attribute) words (token.AttrByte 97 ∷ token.ValueOpens ∷ token.ValueEnds ∷ token.TagEnds false ∷ []) (codes "a=''>") refl refl)
attribute-way (stage.Text Words) h = false-true h
attribute-way (stage.Text (Value q)) h = false-true h
attribute-way (stage.Hash Words) h = false-true h
attribute-way (stage.Hash (Value q)) h = false-true h
attribute-way (stage.HashX Words) h = false-true h
attribute-way (stage.HashX (Value q)) h = false-true h
attribute-way (stage.Reference Words l) h = false-true h
attribute-way (stage.Number Words base v) h = false-true h
attribute-way (stage.Reference (Value q) l) h = false-true h
attribute-way (stage.Number (Value q) base v) h = false-true h
attribute-way (stage.Name StartTag u) h = false-true h
attribute-way (stage.Colon StartTag) h = false-true h
attribute-way (stage.Name EndTag u) h = false-true h
attribute-way (stage.Colon EndTag) h = false-true h
attribute-way (stage.Fixed literal.Xml at) h = false-true h
attribute-way (stage.Fixed w at) h = false-true h
attribute-way s h = false-true h

abbrev pub ValueEnds : Stage → Type 0
ValueEnds s = Ways s words (token.ValueEnds ∷ token.TagEnds false ∷ []) ⊎ ((x : ℕ) × Ways s words (token.Value x ∷ token.ValueEnds ∷ token.TagEnds false ∷ []))

pub text-value_way : (q : Quote) → Ways (stage.Text (Value q)) words (token.ValueEnds ∷ token.TagEnds false ∷ [])
unfolding turn_ascii ascii_kind ascii in_fixed in_declaration in_reference in_number in_name in_tag allowed_at
text-value_way Double = both (stage.Text (Value Double)) words (token.ValueEnds ∷ token.TagEnds false ∷ []) (codes "\">") refl refl
text-value_way Single = both (stage.Text (Value Single)) words (token.ValueEnds ∷ token.TagEnds false ∷ []) (codes "'>") refl refl

-- but numbers
pub value-way : (s : Stage) → is_value (sort s) ≡ true → is_number s ≡ false → ValueEnds s
unfolding turn_ascii ascii_kind ascii in_fixed in_declaration in_reference in_number in_name in_tag allowed_at
value-way (stage.Text (Value Double)) h n = inl (both (stage.Text (Value Double)) words (token.ValueEnds ∷ token.TagEnds false ∷ []) (codes "\">") refl refl)
value-way (stage.Reference (Value Double) entity_name.Empty) h n =
    inr (
      60,
      both (stage.Reference (Value Double) entity_name.Empty) words (token.Value 60 ∷ token.ValueEnds ∷ token.TagEnds false ∷ []) (codes "lt;\">") refl
          refl,
    )
value-way (stage.Reference (Value Double) entity_name.A) h n =
    inr (38, both (stage.Reference (Value Double) entity_name.A) words (token.Value 38 ∷ token.ValueEnds ∷ token.TagEnds false ∷ []) (codes "mp;\">") refl refl)
value-way (stage.Reference (Value Double) entity_name.Am) h n =
    inr (38, both (stage.Reference (Value Double) entity_name.Am) words (token.Value 38 ∷ token.ValueEnds ∷ token.TagEnds false ∷ []) (codes "p;\">") refl refl)
value-way (stage.Reference (Value Double) entity_name.Amp) h n =
    inr (38, both (stage.Reference (Value Double) entity_name.Amp) words (token.Value 38 ∷ token.ValueEnds ∷ token.TagEnds false ∷ []) (codes ";\">") refl refl)
value-way (stage.Reference (Value Double) entity_name.Ap) h n =
    inr (
      39,
      both (stage.Reference (Value Double) entity_name.Ap) words (token.Value 39 ∷ token.ValueEnds ∷ token.TagEnds false ∷ []) (codes "os;\">") refl
          refl,
    )
value-way (stage.Reference (Value Double) entity_name.Apo) h n =
    inr (
      39,
      both (stage.Reference (Value Double) entity_name.Apo) words (token.Value 39 ∷ token.ValueEnds ∷ token.TagEnds false ∷ []) (codes "s;\">") refl
          refl,
    )
value-way (stage.Reference (Value Double) entity_name.Apos) h n =
    inr (
      39,
      both (stage.Reference (Value Double) entity_name.Apos) words (token.Value 39 ∷ token.ValueEnds ∷ token.TagEnds false ∷ []) (codes ";\">") refl
          refl,
    )
value-way (stage.Reference (Value Double) entity_name.L) h n =
    inr (60, both (stage.Reference (Value Double) entity_name.L) words (token.Value 60 ∷ token.ValueEnds ∷ token.TagEnds false ∷ []) (codes "t;\">") refl refl)
value-way (stage.Reference (Value Double) entity_name.Lt) h n =
    inr (60, both (stage.Reference (Value Double) entity_name.Lt) words (token.Value 60 ∷ token.ValueEnds ∷ token.TagEnds false ∷ []) (codes ";\">") refl refl)
value-way (stage.Reference (Value Double) entity_name.G) h n =
    inr (62, both (stage.Reference (Value Double) entity_name.G) words (token.Value 62 ∷ token.ValueEnds ∷ token.TagEnds false ∷ []) (codes "t;\">") refl refl)
value-way (stage.Reference (Value Double) entity_name.Gt) h n =
    inr (62, both (stage.Reference (Value Double) entity_name.Gt) words (token.Value 62 ∷ token.ValueEnds ∷ token.TagEnds false ∷ []) (codes ";\">") refl refl)
value-way (stage.Reference (Value Double) entity_name.Q) h n =
    inr (
      34,
      both (stage.Reference (Value Double) entity_name.Q) words (token.Value 34 ∷ token.ValueEnds ∷ token.TagEnds false ∷ []) (codes "uot;\">") refl
          refl,
    )
value-way (stage.Reference (Value Double) entity_name.Qu) h n =
    inr (
      34,
      both (stage.Reference (Value Double) entity_name.Qu) words (token.Value 34 ∷ token.ValueEnds ∷ token.TagEnds false ∷ []) (codes "ot;\">") refl
          refl,
    )
value-way (stage.Reference (Value Double) entity_name.Quo) h n =
    inr (
      34,
      both (stage.Reference (Value Double) entity_name.Quo) words (token.Value 34 ∷ token.ValueEnds ∷ token.TagEnds false ∷ []) (codes "t;\">") refl
          refl,
    )
value-way (stage.Reference (Value Double) entity_name.Quot) h n =
    inr (
      34,
      both (stage.Reference (Value Double) entity_name.Quot) words (token.Value 34 ∷ token.ValueEnds ∷ token.TagEnds false ∷ []) (codes ";\">") refl
          refl,
    )
value-way (stage.Hash (Value Double)) h n =
    inr (32, both (stage.Hash (Value Double)) words (token.Value 32 ∷ token.ValueEnds ∷ token.TagEnds false ∷ []) (codes "32;\">") refl refl)
value-way (stage.HashX (Value Double)) h n =
    inr (32, both (stage.HashX (Value Double)) words (token.Value 32 ∷ token.ValueEnds ∷ token.TagEnds false ∷ []) (codes "20;\">") refl refl)
value-way (stage.Text (Value Single)) h n = inl (both (stage.Text (Value Single)) words (token.ValueEnds ∷ token.TagEnds false ∷ []) (codes "'>") refl refl)
value-way (stage.Reference (Value Single) entity_name.Empty) h n =
    inr (
      60,
      both (stage.Reference (Value Single) entity_name.Empty) words (token.Value 60 ∷ token.ValueEnds ∷ token.TagEnds false ∷ []) (codes "lt;'>") refl
          refl,
    )
value-way (stage.Reference (Value Single) entity_name.A) h n =
    inr (38, both (stage.Reference (Value Single) entity_name.A) words (token.Value 38 ∷ token.ValueEnds ∷ token.TagEnds false ∷ []) (codes "mp;'>") refl refl)
value-way (stage.Reference (Value Single) entity_name.Am) h n =
    inr (38, both (stage.Reference (Value Single) entity_name.Am) words (token.Value 38 ∷ token.ValueEnds ∷ token.TagEnds false ∷ []) (codes "p;'>") refl refl)
value-way (stage.Reference (Value Single) entity_name.Amp) h n =
    inr (38, both (stage.Reference (Value Single) entity_name.Amp) words (token.Value 38 ∷ token.ValueEnds ∷ token.TagEnds false ∷ []) (codes ";'>") refl refl)
value-way (stage.Reference (Value Single) entity_name.Ap) h n =
    inr (39, both (stage.Reference (Value Single) entity_name.Ap) words (token.Value 39 ∷ token.ValueEnds ∷ token.TagEnds false ∷ []) (codes "os;'>") refl refl)
value-way (stage.Reference (Value Single) entity_name.Apo) h n =
    inr (39, both (stage.Reference (Value Single) entity_name.Apo) words (token.Value 39 ∷ token.ValueEnds ∷ token.TagEnds false ∷ []) (codes "s;'>") refl refl)
value-way (stage.Reference (Value Single) entity_name.Apos) h n =
    inr (39, both (stage.Reference (Value Single) entity_name.Apos) words (token.Value 39 ∷ token.ValueEnds ∷ token.TagEnds false ∷ []) (codes ";'>") refl refl)
value-way (stage.Reference (Value Single) entity_name.L) h n =
    inr (60, both (stage.Reference (Value Single) entity_name.L) words (token.Value 60 ∷ token.ValueEnds ∷ token.TagEnds false ∷ []) (codes "t;'>") refl refl)
value-way (stage.Reference (Value Single) entity_name.Lt) h n =
    inr (60, both (stage.Reference (Value Single) entity_name.Lt) words (token.Value 60 ∷ token.ValueEnds ∷ token.TagEnds false ∷ []) (codes ";'>") refl refl)
value-way (stage.Reference (Value Single) entity_name.G) h n =
    inr (62, both (stage.Reference (Value Single) entity_name.G) words (token.Value 62 ∷ token.ValueEnds ∷ token.TagEnds false ∷ []) (codes "t;'>") refl refl)
value-way (stage.Reference (Value Single) entity_name.Gt) h n =
    inr (62, both (stage.Reference (Value Single) entity_name.Gt) words (token.Value 62 ∷ token.ValueEnds ∷ token.TagEnds false ∷ []) (codes ";'>") refl refl)
value-way (stage.Reference (Value Single) entity_name.Q) h n =
    inr (34, both (stage.Reference (Value Single) entity_name.Q) words (token.Value 34 ∷ token.ValueEnds ∷ token.TagEnds false ∷ []) (codes "uot;'>") refl refl)
value-way (stage.Reference (Value Single) entity_name.Qu) h n =
    inr (34, both (stage.Reference (Value Single) entity_name.Qu) words (token.Value 34 ∷ token.ValueEnds ∷ token.TagEnds false ∷ []) (codes "ot;'>") refl refl)
value-way (stage.Reference (Value Single) entity_name.Quo) h n =
    inr (34, both (stage.Reference (Value Single) entity_name.Quo) words (token.Value 34 ∷ token.ValueEnds ∷ token.TagEnds false ∷ []) (codes "t;'>") refl refl)
value-way (stage.Reference (Value Single) entity_name.Quot) h n =
    inr (34, both (stage.Reference (Value Single) entity_name.Quot) words (token.Value 34 ∷ token.ValueEnds ∷ token.TagEnds false ∷ []) (codes ";'>") refl refl)
value-way (stage.Hash (Value Single)) h n =
    inr (32, both (stage.Hash (Value Single)) words (token.Value 32 ∷ token.ValueEnds ∷ token.TagEnds false ∷ []) (codes "32;'>") refl refl)
value-way (stage.HashX (Value Single)) h n =
    inr (32, both (stage.HashX (Value Single)) words (token.Value 32 ∷ token.ValueEnds ∷ token.TagEnds false ∷ []) (codes "20;'>") refl refl)
value-way (stage.Number (Value q) base v) h n = absurd (let bad : true ≡ false = n in cc)
value-way (stage.Text Words) h n = false-true h
value-way (stage.Hash Words) h n = false-true h
value-way (stage.HashX Words) h n = false-true h
value-way (stage.Reference Words l) h n = false-true h
value-way (stage.Number Words base v) h n = false-true h
value-way (stage.Name StartTag u) h n = false-true h
value-way (stage.Colon StartTag) h n = false-true h
value-way (stage.Name EndTag u) h n = false-true h
value-way (stage.Colon EndTag) h n = false-true h
value-way (stage.Name Attribute u) h n = false-true h
value-way (stage.Colon Attribute) h n = false-true h
value-way (stage.Fixed literal.Xml at) h n = false-true h
value-way (stage.Fixed w at) h n = false-true h
value-way s h n = false-true h

-- In content: to an end tag, with at most a space, or with the character of a reference.

abbrev pub ContentEnds : Stage → Type 0
ContentEnds s = Ways s end_mark [] ⊎ ((x : ℕ) × Ways s end_mark (token.Word x ∷ []) × ((is_space x ≡ true) ⊎ (stage_to_space s ≡ false)))

pub words-way : Ways (stage.Text Words) end_mark []
unfolding turn_ascii ascii_kind ascii in_fixed in_declaration in_reference in_number in_name in_tag allowed_at
words-way = both (stage.Text Words) end_mark [] (codes "</") refl refl

cdata-way : (i : ℕ) → is_live_stage (stage.Fixed literal.Cdata i) ≡ true → Ways (stage.Fixed literal.Cdata i) end_mark []
unfolding turn_ascii ascii_kind ascii in_fixed in_declaration in_reference in_number in_name in_tag allowed_at
cdata-way zero live = both (stage.Fixed literal.Cdata 0) end_mark [] (codes "CDATA[]]></") refl refl
cdata-way (suc zero) live = both (stage.Fixed literal.Cdata 1) end_mark [] (codes "DATA[]]></") refl refl
cdata-way (suc (suc zero)) live = both (stage.Fixed literal.Cdata 2) end_mark [] (codes "ATA[]]></") refl refl
cdata-way (suc (suc (suc zero))) live = both (stage.Fixed literal.Cdata 3) end_mark [] (codes "TA[]]></") refl refl
cdata-way (suc (suc (suc (suc zero)))) live = both (stage.Fixed literal.Cdata 4) end_mark [] (codes "A[]]></") refl refl
cdata-way (suc (suc (suc (suc (suc zero))))) live = both (stage.Fixed literal.Cdata 5) end_mark [] (codes "[]]></") refl refl
cdata-way (suc (suc (suc (suc (suc (suc i)))))) live = absurd (too-far (suc (suc (suc (suc (suc (suc i)))))) 6 (omega arith) live)

-- but numbers, and the mark of an end tag
pub content-way : (s : Stage) → is_content (sort s) ≡ true → is_live_stage s ≡ true → is_number s ≡ false → is_end_mark s ≡ false → ContentEnds s
unfolding turn_ascii ascii_kind ascii in_fixed in_declaration in_reference in_number in_name in_tag allowed_at
content-way (stage.Text Words) h live n m = inl (both (stage.Text Words) end_mark [] (codes "</") refl refl)
content-way (stage.Bracketed One) h live n m = inl (both (stage.Bracketed One) end_mark [] (codes "</") refl refl)
content-way (stage.Bracketed Many) h live n m = inl (both (stage.Bracketed Many) end_mark [] (codes "</") refl refl)
content-way stage.Less h live n m = inl (both stage.Less end_mark [] (codes "/") refl refl)
content-way stage.Bang h live n m = inl (both stage.Bang end_mark [] (codes "[CDATA[]]></") refl refl)
content-way stage.Cdata h live n m = inl (both stage.Cdata end_mark [] (codes "]]></") refl refl)
content-way (stage.CdataBracketed One) h live n m = inl (both (stage.CdataBracketed One) end_mark [] (codes "]></") refl refl)
content-way (stage.CdataBracketed Many) h live n m = inl (both (stage.CdataBracketed Many) end_mark [] (codes "></") refl refl)
content-way (stage.Fixed literal.Cdata i) h live n m = inl (cdata-way i live)
content-way (stage.Hash Words) h live n m = inr (32, both (stage.Hash Words) end_mark (token.Word 32 ∷ []) (codes "32;</") refl refl, inl refl)
content-way (stage.HashX Words) h live n m = inr (32, both (stage.HashX Words) end_mark (token.Word 32 ∷ []) (codes "20;</") refl refl, inl refl)
content-way (stage.Reference Words entity_name.Empty) h live n m =
    inr (32, both (stage.Reference Words entity_name.Empty) end_mark (token.Word 32 ∷ []) (codes "#32;</") refl refl, inl refl)
content-way (stage.Reference Words entity_name.A) h live n m =
    inr (38, both (stage.Reference Words entity_name.A) end_mark (token.Word 38 ∷ []) (codes "mp;</") refl refl, inr refl)
content-way (stage.Reference Words entity_name.Am) h live n m =
    inr (38, both (stage.Reference Words entity_name.Am) end_mark (token.Word 38 ∷ []) (codes "p;</") refl refl, inr refl)
content-way (stage.Reference Words entity_name.Amp) h live n m =
    inr (38, both (stage.Reference Words entity_name.Amp) end_mark (token.Word 38 ∷ []) (codes ";</") refl refl, inr refl)
content-way (stage.Reference Words entity_name.Ap) h live n m =
    inr (39, both (stage.Reference Words entity_name.Ap) end_mark (token.Word 39 ∷ []) (codes "os;</") refl refl, inr refl)
content-way (stage.Reference Words entity_name.Apo) h live n m =
    inr (39, both (stage.Reference Words entity_name.Apo) end_mark (token.Word 39 ∷ []) (codes "s;</") refl refl, inr refl)
content-way (stage.Reference Words entity_name.Apos) h live n m =
    inr (39, both (stage.Reference Words entity_name.Apos) end_mark (token.Word 39 ∷ []) (codes ";</") refl refl, inr refl)
content-way (stage.Reference Words entity_name.L) h live n m =
    inr (60, both (stage.Reference Words entity_name.L) end_mark (token.Word 60 ∷ []) (codes "t;</") refl refl, inr refl)
content-way (stage.Reference Words entity_name.Lt) h live n m =
    inr (60, both (stage.Reference Words entity_name.Lt) end_mark (token.Word 60 ∷ []) (codes ";</") refl refl, inr refl)
content-way (stage.Reference Words entity_name.G) h live n m =
    inr (62, both (stage.Reference Words entity_name.G) end_mark (token.Word 62 ∷ []) (codes "t;</") refl refl, inr refl)
content-way (stage.Reference Words entity_name.Gt) h live n m =
    inr (62, both (stage.Reference Words entity_name.Gt) end_mark (token.Word 62 ∷ []) (codes ";</") refl refl, inr refl)
content-way (stage.Reference Words entity_name.Q) h live n m =
    inr (34, both (stage.Reference Words entity_name.Q) end_mark (token.Word 34 ∷ []) (codes "uot;</") refl refl, inr refl)
content-way (stage.Reference Words entity_name.Qu) h live n m =
    inr (34, both (stage.Reference Words entity_name.Qu) end_mark (token.Word 34 ∷ []) (codes "ot;</") refl refl, inr refl)
content-way (stage.Reference Words entity_name.Quo) h live n m =
    inr (34, both (stage.Reference Words entity_name.Quo) end_mark (token.Word 34 ∷ []) (codes "t;</") refl refl, inr refl)
content-way (stage.Reference Words entity_name.Quot) h live n m =
    inr (34, both (stage.Reference Words entity_name.Quot) end_mark (token.Word 34 ∷ []) (codes ";</") refl refl, inr refl)
content-way (stage.Number Words base v) h live n m = absurd (let bad : true ≡ false = n in cc)
content-way stage.EndTagMark h live n m = absurd (let bad : true ≡ false = m in cc)
content-way (stage.Text (Value q)) h live n m = false-true h
content-way (stage.Hash (Value q)) h live n m = false-true h
content-way (stage.HashX (Value q)) h live n m = false-true h
content-way (stage.Reference (Value q) l) h live n m = false-true h
content-way (stage.Number (Value q) base v) h live n m = false-true h
content-way (stage.Name StartTag u) h live n m = false-true h
content-way (stage.Colon StartTag) h live n m = false-true h
content-way (stage.Name EndTag u) h live n m = false-true h
content-way (stage.Colon EndTag) h live n m = false-true h
content-way (stage.Name Attribute u) h live n m = false-true h
content-way (stage.Colon Attribute) h live n m = false-true h
content-way (stage.Fixed literal.Xml at) h live n m = false-true h
content-way (stage.Fixed (literal.Name i) at) h live n m = false-true h
content-way (stage.Fixed w at) h live n m = false-true h
content-way s h live n m = false-true h

-- The name that these texts give their tag may be an end tag's.
pub a-named : turn end_mark 97 ≡ leads (at (stage.Name EndTag Prefix) pending.Nothing false) (token.CloseOpens 97 ∷ [])
unfolding turn_ascii ascii_kind ascii in_fixed in_declaration in_reference in_number in_name in_tag allowed_at
a-named = refl

pub a-ends : turn (at (stage.Name EndTag Prefix) pending.Nothing false) 62 ≡ leads words (token.CloseEnds ∷ [])
unfolding turn_ascii ascii_kind ascii in_fixed in_declaration in_reference in_number in_name in_tag allowed_at
a-ends = refl
