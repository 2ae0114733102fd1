-- Runs of the names of attributes and of start tags.
use Rattle.std.proofs.Common.{◌≡◌, inl, inr, ℕ, ◌+◌, ◌<◌, List, [], ◌∷◌, ◌++◌, length, append-nil, append_assoc, take, get_or, refl, sym}
use Rattle.std.proofs.Common.{ap, ◌∙◌, subst, Bool, true, false, not, cond, ◌||◌, ◌&&◌, ◌==◌, nat_lt, nat_le, arith}
use Rattle.std.proofs.lemmas.Bool.{and_parts, leb-true, eqb-true, or_cases, agree_below_at}
use Rattle.std.proofs.lemmas.List.{take_more}
use Rattle.stream_lex.specs.declared.Token.TheVariants as token
use Rattle.stream_lex.specs.declared.stages.Half.{Half}
use Rattle.stream_lex.specs.declared.stages.NameOwner.{NameOwner}
use Rattle.stream_lex.specs.declared.stages.NameOwner.TheVariants.{StartTag, Attribute}
use Rattle.stream_lex.specs.declared.stages.Stage.{Stage}
use Rattle.stream_lex.specs.declared.stages.Stage.TheVariants as stage
use Rattle.stream_lex.specs.declared.stages.State.{State}
use Rattle.stream_lex.specs.declared.characters.Pending.TheVariants as pending
use Rattle.stream_lex.specs.grammar.Kinds.{ascii_kind, is_name_further}
use Rattle.stream_lex.specs.grammar.Grammar.{next_name_token}
use Rattle.stream_lex.specs.machine.Machine.{ascii, in_name, after_part}
use Rattle.stream_lex.specs.machine.Machine.{yields as tells_and_goes}
use Rattle.stream_lex.specs.machine.Turns.{leads, at, turn}
use Rattle.stream_grammar.specs.declared.item.Limits.{Limits}
use Rattle.stream_grammar.specs.declared.rules.Rules.{Rules}
use Rattle.stream_grammar.specs.grammar.Trees.{RawName}
use Rattle.stream_grammar.specs.machine.Nesting.{naming, naming_attribute, nest}
use Rattle.stream_grammar.specs.machine.Framing.{Frame, open_at, placed}
use Rattle.stream_grammar.specs.machine.Framing.{settled as framed}
use Rattle.stream_grammar.specs.machine.Ends.{tokens_told}
use Rattle.stream_grammar.specs.machine.Building.{Building}
use Rattle.stream_grammar.specs.grammar.Bounds.{rules_of}
use Rattle.stream_frames.specs.Runs.{is_name_byte, are_plain, is_attribute_stage, is_start_stage}
use Rattle.stream_frames.specs.Runs.{is_between_characters, is_in_attribute_name, is_in_start_name, named_on, Leads}
use Rattle.stream_frames.proofs.RunLemmas.{Quiet, no_bytes_led, more_led, plain-append, implied, turned, between-state}

-- A plain byte goes on with a name.

abbrev fits_name : ℕ → Bool
fits_name b = not (is_name_byte b) || ((is_name_further (ascii_kind b) && nat_lt b 128) && not (b == 13))

name-fits : (b : ℕ) → b < 123 → fits_name b ≡ true
unfolding ascii_kind
name-fits b h = agree_below_at fits_name (λ x. true) 123 b refl h

name-below : (b : ℕ) → is_name_byte b ≡ true → b < 123
name-below b h = elim (or_cases (nat_le 97 b && nat_le b 122 || nat_le 65 b && nat_le b 90) _ h) [
  | inl t ↦ elim (or_cases (nat_le 97 b && nat_le b 122) _ t) [
    | inl u ↦ let e = leb-true b 122 (and_parts (nat_le 97 b) _ u).1 in omega (arith, e)
    | inr u ↦ let e = leb-true b 90 (and_parts (nat_le 65 b) _ u).1 in omega (arith, e)
  ]
  | inr t ↦ elim (or_cases (nat_le 48 b && nat_le b 57) _ t) [
    | inl u ↦ let e = leb-true b 57 (and_parts (nat_le 48 b) _ u).1 in omega (arith, e)
    | inr u ↦ elim (or_cases (b == 45) _ u) [
      | inl v ↦ let e = eqb-true b 45 v in omega (arith, e)
      | inr v ↦ elim (or_cases (b == 46) _ v) [
        | inl w ↦ let e = eqb-true b 46 w in omega (arith, e)
        | inr w ↦ let e = eqb-true b 95 w in omega (arith, e)
      ]
    ]
  ]
]

name-of : (b : ℕ) → is_name_byte b ≡ true → (is_name_further (ascii_kind b) ≡ true) × (nat_lt b 128 ≡ true) × ((b == 13) ≡ false)
name-of b h =
    let p = implied (is_name_byte b) (is_name_further (ascii_kind b) && nat_lt b 128) (b == 13) h (name-fits b (name-below b h)) in
    let q = and_parts (is_name_further (ascii_kind b)) (nat_lt b 128) p.0 in (q.0, q.1, p.1)

abbrev pub name_at : NameOwner → Half → State
name_at owner h = at (stage.Name owner h) pending.Nothing false

ascii-name : (owner : NameOwner) (h : Half) (b : ℕ) → is_name_byte b ≡ true
    → ascii (stage.Name owner h) (ascii_kind b) b ≡ tells_and_goes (next_name_token owner b ∷ []) (stage.Name owner h)
unfolding ascii in_name
ascii-name owner h b e = ap (λ (t : Bool). cond t (tells_and_goes (next_name_token owner b ∷ []) (stage.Name owner h)) (after_part owner h (ascii_kind b) b))
    (name-of b e).0

pub turn-name : (owner : NameOwner) (h : Half) (b : ℕ) → is_name_byte b ≡ true
    → turn (name_at owner h) b ≡ leads (name_at owner h) (next_name_token owner b ∷ [])
turn-name owner h b e = turned (stage.Name owner h) b (next_name_token owner b ∷ []) (name-of b e).1 (name-of b e).2 (ascii-name owner h b e)

pub name_more : (bs : List ℕ) (i d : ℕ) → i < length bs → are_plain is_name_byte (take i bs) ≡ true → is_name_byte (get_or bs i d) ≡ true
    → are_plain is_name_byte (take (i + 1) bs) ≡ true
name_more bs i d h e p = ap (are_plain is_name_byte) (take_more bs i d h) ∙ plain-append is_name_byte (take i bs) (get_or bs i d) e p

-- Of an attribute.

abbrev attribute_in : Half → List RawName → RawName → ℕ → Frame
attribute_in h ms m i = open_at (name_at Attribute h) (naming_attribute ms m i)

attribute-nest : (r : Rules) (ms : List RawName) (m : RawName) (i b : ℕ) → nest r (naming_attribute ms m i) (token.AttrByte b) ≡ naming_attribute ms m i
unfolding nest
attribute-nest r ms m i b = refl

abbrev attributed : Building → List ℕ → Building
attributed b attribute = record b { tag = record b.tag { attribute = attribute } }

attribute-quiet : (l : Limits) (h : Half) (ms : List RawName) (m : RawName) (i : ℕ) (b : Building) (c : ℕ)
    → is_name_byte c ≡ true → Quiet l (attribute_in h ms m i) b c (token.AttrByte c ∷ []) (attribute_in h ms m i) (attributed b (b.tag.attribute ++ c ∷ []))
attribute-quiet l h ms m i b c e = record {
  framed = ap (framed (rules_of l) (naming_attribute ms m i)) (turn-name Attribute h c e)
      ∙ ap (placed (rules_of l) (name_at Attribute h)) (attribute-nest (rules_of l) ms m i c);
  told = ap tokens_told (turn-name Attribute h c e);
  built = refl;
  named = refl;
  unbroken = refl;
  still = refl;
  within = refl;
  same = refl;
}

attribute-run : (xs : List ℕ) (h : Half) (ms : List RawName) (m : RawName) (i : ℕ) (b : Building)
    → are_plain is_name_byte xs ≡ true → Leads (attribute_in h ms m i) b xs (attribute_in h ms m i) (attributed b (b.tag.attribute ++ xs))
attribute-run [] h ms m i b plain =
    no_bytes_led (attribute_in h ms m i) b (attributed b (b.tag.attribute ++ [])) (ap (attributed b) (append-nil b.tag.attribute))
attribute-run (c ∷ xs) h ms m i b plain =
    let p = and_parts (is_name_byte c) (are_plain is_name_byte xs) plain in
    let f : Frame = attribute_in h ms m i in
    let b1 : Building = attributed b (b.tag.attribute ++ c ∷ []) in
    subst (λ (w : List ℕ). Leads f b (c ∷ xs) f (attributed b w)) (append_assoc b.tag.attribute (c ∷ []) xs)
    (more_led f f f b b1 (attributed b ((b.tag.attribute ++ c ∷ []) ++ xs)) c (token.AttrByte c ∷ []) xs (λ l. attribute-quiet l h ms m i b c p.0)
    (attribute-run xs h ms m i b1 p.1))

attribute-state : (st : State) → (is_attribute_stage st.stage && is_between_characters st) ≡ true → (h : Half) × (st ≡ name_at Attribute h)
attribute-state st e =
    let p = and_parts (is_attribute_stage st.stage) (is_between_characters st) e in
    let (h, same) = attribute-stage st.stage p.0 in
    (h, between-state st p.1 ∙ ap (λ (s : Stage). at s pending.Nothing false) same)
  where
    attribute-stage : (s : Stage) → is_attribute_stage s ≡ true → (h : Half) × (s ≡ stage.Name Attribute h)
    attribute-stage (stage.Name Attribute h) e = (h, refl)
    attribute-stage s e = absurd (let bad : false ≡ true = e in cc)

pub attribute_led : (f : Frame) (b c : Building) (xs : List ℕ)
    → is_in_attribute_name f ≡ true → are_plain is_name_byte xs ≡ true → c ≡ record b { tag = record b.tag { attribute = b.tag.attribute ++ xs } }
    → Leads f b xs f c
attribute_led (open_at st (naming_attribute ms m i)) b c xs e plain made =
    let (h, same) = attribute-state st e in
    subst (λ (y : Building). Leads (open_at st (naming_attribute ms m i)) b xs (open_at st (naming_attribute ms m i)) y) (sym made)
    (subst (λ (s : State). Leads (open_at s (naming_attribute ms m i)) b xs (open_at s (naming_attribute ms m i)) (attributed b (b.tag.attribute ++ xs)))
    (sym same) (attribute-run xs h ms m i b plain))
attribute_led f b c xs e plain made = absurd (let bad : false ≡ true = e in cc)

-- Of a start tag: what has come of the name stands in the place too.

abbrev start_in : Half → List RawName → RawName → Frame
start_in h ms m = open_at (name_at StartTag h) (naming ms m)

start-nest : (r : Rules) (ms : List RawName) (m : RawName) (b : ℕ) → nest r (naming ms m) (token.NameByte b) ≡ naming ms (m.0, m.1 ++ b ∷ [])
unfolding nest
start-nest r ms m b = refl

start-placed : (r : Rules) (h : Half) (ms : List RawName) (m : RawName) → placed r (name_at StartTag h) (naming ms m) ≡ start_in h ms m
start-placed r h [] m = refl
start-placed r h (x ∷ ms) m = refl

abbrev pub named : Building → List ℕ → Building
named b name = record b { tag = record b.tag { name = name } }

start-quiet : (l : Limits) (h : Half) (ms : List RawName) (m : RawName) (b : Building) (c : ℕ)
    → is_name_byte c ≡ true → Quiet l (start_in h ms m) b c (token.NameByte c ∷ []) (start_in h ms (m.0, m.1 ++ c ∷ [])) (named b (b.tag.name ++ c ∷ []))
start-quiet l h ms m b c e = record {
  framed = ap (framed (rules_of l) (naming ms m)) (turn-name StartTag h c e)
      ∙ (ap (placed (rules_of l) (name_at StartTag h)) (start-nest (rules_of l) ms m c) ∙ start-placed (rules_of l) h ms (m.0, m.1 ++ c ∷ []));
  told = ap tokens_told (turn-name StartTag h c e);
  built = refl;
  named = refl;
  unbroken = refl;
  still = refl;
  within = refl;
  same = refl;
}

start-run : (xs : List ℕ) (h : Half) (ms : List RawName) (m : RawName) (b : Building) → are_plain is_name_byte xs ≡ true
    → Leads (start_in h ms m) b xs (start_in h ms (m.0, m.1 ++ xs)) (named b (b.tag.name ++ xs))
start-run [] h ms m b plain =
    subst (λ (w : List ℕ). Leads (start_in h ms m) b [] (start_in h ms (m.0, w)) (named b (b.tag.name ++ []))) (sym (append-nil m.1))
    (no_bytes_led (start_in h ms m) b (named b (b.tag.name ++ [])) (ap (named b) (append-nil b.tag.name)))
start-run (c ∷ xs) h ms m b plain =
    let p = and_parts (is_name_byte c) (are_plain is_name_byte xs) plain in
    let m1 : RawName = (m.0, m.1 ++ c ∷ []) in
    let b1 : Building = named b (b.tag.name ++ c ∷ []) in
    subst (λ (w : List ℕ). Leads (start_in h ms m) b (c ∷ xs) (start_in h ms (m.0, m.1 ++ (c ∷ xs))) (named b w)) (append_assoc b.tag.name (c ∷ []) xs)
    (subst (λ (w : List ℕ). Leads (start_in h ms m) b (c ∷ xs) (start_in h ms (m.0, w)) (named b ((b.tag.name ++ c ∷ []) ++ xs))) (append_assoc m.1 (c ∷ []) xs)
    (more_led (start_in h ms m) (start_in h ms m1) (start_in h ms (m.0, (m.1 ++ c ∷ []) ++ xs)) b b1 (named b ((b.tag.name ++ c ∷ []) ++ xs)) c
    (token.NameByte c ∷ []) xs (λ l. start-quiet l h ms m b c p.0) (start-run xs h ms m1 b1 p.1)))

start-state : (st : State) → (is_start_stage st.stage && is_between_characters st) ≡ true → (h : Half) × (st ≡ name_at StartTag h)
start-state st e =
    let p = and_parts (is_start_stage st.stage) (is_between_characters st) e in
    let (h, same) = start-stage st.stage p.0 in
    (h, between-state st p.1 ∙ ap (λ (s : Stage). at s pending.Nothing false) same)
  where
    start-stage : (s : Stage) → is_start_stage s ≡ true → (h : Half) × (s ≡ stage.Name StartTag h)
    start-stage (stage.Name StartTag h) e = (h, refl)
    start-stage s e = absurd (let bad : false ≡ true = e in cc)

pub start_led : (f g : Frame) (b c : Building) (xs : List ℕ)
    → is_in_start_name f ≡ true → are_plain is_name_byte xs ≡ true → g ≡ named_on f xs → c ≡ record b { tag = record b.tag { name = b.tag.name ++ xs } }
    → Leads f b xs g c
start_led (open_at st (naming ms m)) g b c xs e plain placed_on made =
    let (h, same) = start-state st e in
    subst (λ (y : Building). Leads (open_at st (naming ms m)) b xs g y) (sym made)
    (subst (λ (y : Frame). Leads (open_at st (naming ms m)) b xs y (named b (b.tag.name ++ xs))) (sym placed_on)
    (subst (λ (s : State). Leads (open_at s (naming ms m)) b xs (open_at s (naming ms (m.0, m.1 ++ xs))) (named b (b.tag.name ++ xs))) (sym same)
    (start-run xs h ms m b plain)))
start_led f g b c xs e plain placed_on made = absurd (let bad : false ≡ true = e in cc)
