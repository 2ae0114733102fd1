-- Tags of a canonical text: where they lead, and what they tell.
use Rattle.std.proofs.Common.{◌≡◌, ℕ, ◌⊎◌, inl, inr, List, [], ◌∷◌, ◌++◌, map, refl, sym, ap, ◌∙◌, Bool, true, false, codes}
use Rattle.std.specs.List.{AllByRecursion}
use Rattle.std.specs.Prelude.{encode_utf8_all}
use Rattle.stanza_tree.specs.Spelling.{value_text, assigned}
use Rattle.stream_lex.specs.declared.Token.{Token}
use Rattle.stream_lex.specs.declared.Token.TheVariants as token
use Rattle.stream_lex.specs.declared.stages.NameOwner.{NameOwner}
use Rattle.stream_lex.specs.declared.stages.NameOwner.TheVariants.{StartTag, EndTag, Attribute}
use Rattle.stream_lex.specs.declared.stages.Brackets.TheVariants.{One, Many}
use Rattle.stream_lex.specs.declared.stages.Half.{Half}
use Rattle.stream_lex.specs.declared.stages.Half.TheVariants.{Prefix, Local}
use Rattle.stream_lex.specs.declared.stages.Stage.{Stage}
use Rattle.stream_lex.specs.declared.stages.Stage.TheVariants as stage
use Rattle.stream_lex.specs.declared.stages.State.{State}
use Rattle.stream_lex.specs.declared.characters.Pending.TheVariants as pending
use Rattle.stream_lex.specs.grammar.Kinds.{ascii_kind}
use Rattle.stream_lex.specs.grammar.Grammar.{first_name_token, next_name_token, spread}
use Rattle.stream_lex.specs.machine.Machine.{ascii, in_name, in_tag}
use Rattle.stream_lex.specs.machine.Turns.{leads, at, turn, turn_ascii}
use Rattle.stream_grammar.specs.declared.namespaces.Written.{Written}
use Rattle.stream_grammar.specs.grammar.Trees.{RawName, RawAttribute, attribute_tokens, attributes_tokens, end_tokens}
use Rattle.stream_grammar.specs.grammar.Tags.{written}
use Rattle.stream_grammar.specs.grammar.Proper.{IsNcName, IsXmlText}
use Rattle.stream_laws.proofs.RoundTripRuns.{Runs, RunsLast, last-then, runs-none, runs-then, runs-step, runs-one, runs-told, runs-text, between}
use Rattle.stream_laws.proofs.RoundTripNames.{Begins, name-runs, first-byte, less-begins, mark-begins, attribute-begins, colon-begins, spread-more, spread-map}
use Rattle.stream_laws.proofs.RoundTripText.{Gap, plain, bracketed, gap_stage, in_quotes, characters-value}

-- Namespaces in XML 1.0 [7] QName
abbrev pub IsQName : List ℕ → Type 0
IsQName name = IsNcName name ⊎ ((p : List ℕ) × (l : List ℕ) × (name ≡ p ++ (58 ∷ l)) × IsNcName p × IsNcName l)

abbrev pub IsWritten : Written → Type 0
IsWritten a = IsQName a.name × IsXmlText a.value

-- the text of an attribute, and of several
abbrev pub written_one : Written → List ℕ
written_one a = codes " " ++ (a.name ++ assigned a.value)

abbrev pub written_text : List Written → List ℕ
written_text [] = []
written_text (a ∷ more) = written_one a ++ written_text more

pub name-byte : (bytes : List ℕ) → IsNcName bytes → (b : ℕ) × (bs : List ℕ) × (bytes ≡ b ∷ bs)
name-byte bytes (c, cs, is, start, more) = let (b, zs, e) =
    first-byte c in (b, zs ++ encode_utf8_all cs, sym is ∙ ap (λ (l : List ℕ). l ++ encode_utf8_all cs) e)

-- Qualified names.

abbrev opens : ℕ → Token
opens = first_name_token Attribute

abbrev further : ℕ → Token
further = next_name_token Attribute

abbrev QNameRuns : Stage → NameOwner → (ℕ → Token) → List ℕ → Type 0
QNameRuns s r f name = (h : Half) × (b : ℕ) × (bs : List ℕ) × (name ≡ b ∷ bs)
    × Runs (between s) name (between (stage.Name r h)) (spread f (next_name_token r) name)

colon-turn : (r : NameOwner) → turn (between (stage.Name r Prefix)) 58 ≡ leads (between (stage.Colon r)) (next_name_token r 58 ∷ [])
unfolding turn_ascii ascii_kind ascii in_name
colon-turn StartTag = refl
colon-turn EndTag = refl
colon-turn Attribute = refl

qname-runs : (s : Stage) (r : NameOwner) (f : ℕ → Token) (name : List ℕ) → Begins s r f Prefix → IsQName name → QNameRuns s r f name
qname-runs s r f name begins (inl n) =
    let (b, bs, e) = name-byte name n in
    (Prefix, b, bs, e, name-runs s r f Prefix name begins n)
qname-runs s r f name begins (inr (p, l, e, n, m)) =
    let (b, bs, g) = name-byte p n in (
      Local,
      b,
      bs ++ (58 ∷ l),
      e ∙ ap (λ (x : List ℕ). x ++ (58 ∷ l)) g,
      runs-text (sym e) (runs-told
          (ap (λ (x : List Token). spread f (next_name_token r) p ++ (next_name_token r 58 ∷ x)) (spread-map (next_name_token r) l)
          ∙ (spread-more f (next_name_token r) p (58 ∷ l) b bs g ∙ ap (spread f (next_name_token r)) (sym e)))
          (runs-then (name-runs s r f Prefix p begins n)
          (runs-step (colon-turn r) (name-runs (stage.Colon r) r (next_name_token r) Local l (colon-begins r) m)))),
    )

-- Attributes.

-- in a tag: after its name, or after a value
pub data TagAt : Type 0 where
  named_tag : TagAt
  valued : TagAt

abbrev pub tag_stage : TagAt → Stage
tag_stage named_tag = stage.Name StartTag Prefix
tag_stage valued = stage.ValueEnded

space-turn : (t : TagAt) → turn (between (tag_stage t)) 32 ≡ leads (between stage.InTag) []
unfolding turn_ascii ascii_kind ascii in_name in_tag
space-turn named_tag = refl
space-turn valued = refl

quote-opens : (h : Half) → Runs (between (stage.Name Attribute h)) (codes "='") (between in_quotes) (token.ValueOpens ∷ [])
unfolding turn_ascii ascii_kind ascii in_name in_tag
quote-opens Prefix = record { leads_so = refl }
quote-opens Local = record { leads_so = refl }

quote-ends : Runs (between in_quotes) (codes "'") (between stage.ValueEnded) (token.ValueEnds ∷ [])
unfolding turn_ascii ascii_kind ascii in_name in_tag
quote-ends = record { leads_so = refl }

abbrev AttributeRuns : TagAt → Written → Type 0
AttributeRuns t a = (x : RawAttribute) × (written (x ∷ []) ≡ a ∷ [])
    × Runs (between (tag_stage t)) (written_one a) (between (tag_stage valued)) (attribute_tokens x)

attribute-runs : (t : TagAt) (a : Written) → IsWritten a → AttributeRuns t a
attribute-runs t a (q, (cs, is, text)) =
    let (h, b, bs, e, r) = qname-runs stage.InTag Attribute opens a.name attribute-begins q in
    let v = runs-text (ap value_text is) (characters-value cs text) in (
      record { name = (b, bs); value = cs },
      ap (λ (l : List ℕ). record { name = l; value = encode_utf8_all cs } ∷ []) (sym e) ∙ ap (λ (l : List ℕ). record { name = a.name; value = l } ∷ []) is,
      runs-step (space-turn t) (runs-told (ap (λ (l : List ℕ). spread opens further l ++ (token.ValueOpens ∷ (map token.Value cs ++ token.ValueEnds ∷ []))) e)
          (runs-then r (runs-then (quote-opens h) (runs-then v quote-ends)))),
    )

abbrev pub AttributesRun : TagAt → List Written → Type 0
AttributesRun t w = (xs : List RawAttribute) × (written xs ≡ w)
    × ((s : TagAt) × Runs (between (tag_stage t)) (written_text w) (between (tag_stage s)) (attributes_tokens xs))

pub attributes-run : (t : TagAt) (w : List Written) → AllByRecursion IsWritten w → AttributesRun t w
attributes-run t [] e = ([], refl, (t, runs-none))
attributes-run t (a ∷ more) e =
    let (x, f, r) = attribute-runs t a e.0 in
    let (xs, g, (s, q)) = attributes-run valued more e.1 in
    (x ∷ xs, ap (λ (l : List Written). l ++ written xs) f ∙ ap (λ (l : List Written). a ∷ l) g, (s, runs-then r q))

-- Tags.

-- between tags, after a carriage return or not
abbrev pub gap_state : Gap → Bool → State
gap_state g r = at (gap_stage g) pending.Nothing r

pub less-turn : (g : Gap) (r : Bool) → turn (gap_state g r) 60 ≡ leads (between stage.Less) []
unfolding turn_ascii ascii_kind ascii
less-turn plain true = refl
less-turn plain false = refl
less-turn (bracketed One) true = refl
less-turn (bracketed One) false = refl
less-turn (bracketed Many) true = refl
less-turn (bracketed Many) false = refl

abbrev name_tokens : RawName → List Token
name_tokens n = token.TagOpens n.0 ∷ map token.NameByte n.1

-- the name of a start tag, after its `<`
pub start-runs : (g : Gap) (r : Bool) (n : RawName) → IsNcName (n.0 ∷ n.1)
    → Runs (gap_state g r) (60 ∷ n.0 ∷ n.1) (between (tag_stage named_tag)) (name_tokens n)
start-runs g r n is = runs-step (less-turn g r) (name-runs stage.Less StartTag (first_name_token StartTag) Prefix (n.0 ∷ n.1) less-begins is)

pub tag-ends : (t : TagAt) → Runs (between (tag_stage t)) (codes ">") (between (gap_stage plain)) (token.TagEnds false ∷ [])
unfolding turn_ascii ascii_kind ascii in_name in_tag
tag-ends named_tag = record { leads_so = refl }
tag-ends valued = record { leads_so = refl }

pub hollow-ends : (t : TagAt) → RunsLast (between (tag_stage t)) (codes "/>") (between (gap_stage plain)) (token.TagEnds true ∷ [])
unfolding turn_ascii ascii_kind ascii in_name in_tag
hollow-ends named_tag = record {
  front = codes "/";
  byte = 62;
  state = between stage.EmptyTagMark;
  told = [];
  last = token.TagEnds true;
  text = refl;
  way =
      record { leads_so = refl };
  step = refl;
  tokens = refl;
}
hollow-ends valued = record {
  front = codes "/";
  byte = 62;
  state = between stage.EmptyTagMark;
  told = [];
  last = token.TagEnds true;
  text = refl;
  way =
      record { leads_so = refl };
  step = refl;
  tokens = refl;
}

slash-turn : turn (between stage.Less) 47 ≡ leads (between stage.EndTagMark) []
unfolding turn_ascii ascii_kind ascii in_tag
slash-turn = refl

mark-runs : (g : Gap) (r : Bool) → Runs (gap_state g r) (codes "</") (between stage.EndTagMark) []
mark-runs g r = runs-step (less-turn g r) (runs-one slash-turn)

close-turn : (h : Half) → turn (between (stage.Name EndTag h)) 62 ≡ leads (between (gap_stage plain)) (token.CloseEnds ∷ [])
unfolding turn_ascii ascii_kind ascii in_name in_tag
close-turn Prefix = refl
close-turn Local = refl

close-ends : (h : Half) → RunsLast (between (stage.Name EndTag h)) (codes ">") (between (gap_stage plain)) (token.CloseEnds ∷ [])
close-ends h = record {
  front = [];
  byte = 62;
  state = between (stage.Name EndTag h);
  told = [];
  last = token.CloseEnds;
  text = refl;
  way = runs-none;
  step =
      close-turn h;
  tokens = refl;
}

pub end-runs : (g : Gap) (r : Bool) (n : RawName) → IsQName (n.0 ∷ n.1)
    → RunsLast (gap_state g r) (codes "</" ++ ((n.0 ∷ n.1) ++ codes ">")) (between (gap_stage plain)) (end_tokens n)
end-runs g r n is =
    let (h, b, bs, e, q) = qname-runs stage.EndTagMark EndTag (first_name_token EndTag) (n.0 ∷ n.1) mark-begins is in
    last-then (mark-runs g r) (last-then q (close-ends h))
