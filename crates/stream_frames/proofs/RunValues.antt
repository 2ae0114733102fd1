-- Runs of the values of attributes.
use Rattle.std.proofs.Common.{◌≡◌, ℕ, ◌+◌, ◌<◌, List, [], ◌∷◌, ◌++◌, length, append-nil, append_assoc, take, get_or, refl}
use Rattle.std.proofs.Common.{inl, inr, encode_utf8, encode_utf8_all, sym, ap, ◌∙◌, subst, Bool, true, false, not, ◌||◌, ◌&&◌, ◌==◌, nat_lt, nat_le}
use Rattle.std.specs.Prelude.{None, Some, if◌then◌else◌}
use Rattle.std.proofs.lemmas.Bool.{and_parts, or_cases, eqb-true, ltb-true, agree_below_at}
use Rattle.std.proofs.lemmas.List.{take_more}
use Rattle.stream_lex.specs.declared.Token.TheVariants as token
use Rattle.stream_lex.specs.declared.kinds.Kind.{Kind}
use Rattle.stream_lex.specs.declared.kinds.Kind.TheVariants as kinds
use Rattle.stream_lex.specs.declared.stages.Context.TheVariants.{Value}
use Rattle.stream_lex.specs.declared.stages.Quote.{Quote}
use Rattle.stream_lex.specs.declared.stages.Quote.TheVariants.{Double, Single}
use Rattle.stream_lex.specs.declared.stages.Stage.{Stage}
use Rattle.stream_lex.specs.declared.stages.Stage.TheVariants as stage
use Rattle.stream_lex.specs.declared.stages.State.{State}
use Rattle.stream_lex.specs.declared.characters.Pending.{Pending}
use Rattle.stream_lex.specs.declared.characters.Pending.TheVariants as pending
use Rattle.stream_lex.specs.grammar.Kinds.{ascii_kind}
use Rattle.stream_lex.specs.machine.Machine.{ascii, in_value}
use Rattle.stream_lex.specs.machine.Machine.{yields as tells_and_goes}
use Rattle.stream_lex.specs.machine.Turns.{leads, at, turn}
use Rattle.stream_lex.proofs.Spans.{encode1}
use Rattle.stream_grammar.specs.declared.item.Limits.{Limits}
use Rattle.stream_grammar.specs.declared.rules.Rules.{Rules}
use Rattle.stream_grammar.specs.grammar.Trees.{RawName}
use Rattle.stream_grammar.specs.machine.Nesting.{nest}
use Rattle.stream_grammar.specs.machine.Nesting.{in_value as valuing}
use Rattle.stream_grammar.specs.machine.Framing.{Frame, open_at, placed}
use Rattle.stream_grammar.specs.machine.Framing.{settled as framed}
use Rattle.stream_grammar.specs.machine.Ends.{tokens_told}
use Rattle.stream_grammar.specs.machine.Building.{Building}
use Rattle.stream_grammar.specs.grammar.Bounds.{rules_of}
use Rattle.stream_frames.specs.Runs.{is_plain_value, is_wide, is_value_character, are_plain, Spells, value_quote, is_between_characters, open_quote, Leads}
use Rattle.stream_frames.proofs.RunLemmas.{Quiet, no_bytes_led, more_led, leads_then, plain-append, implied, turned, between-state}
use Rattle.stream_frames.proofs.WideLemmas.{text_at, wide_led}

-- No plain byte is markup, and white space only where it stands for itself.

abbrev is_value_kind : Quote → Kind → ℕ → Bool
is_value_kind q kinds.Less c = false
is_value_kind q kinds.Ampersand c = false
is_value_kind q kinds.Control c = false
is_value_kind q kinds.Space c = c == 32
is_value_kind Double kinds.Quotation c = false
is_value_kind Single kinds.Apostrophe c = false
is_value_kind q k c = true

value-kind : (q : Quote) (k : Kind) (c : ℕ) → is_value_kind q k c ≡ true → in_value q k c ≡ tells_and_goes (token.Value c ∷ []) (stage.Text (Value q))
value-kind q kinds.Less c h = absurd (let bad : false ≡ true = h in cc)
value-kind q kinds.Ampersand c h = absurd (let bad : false ≡ true = h in cc)
value-kind q kinds.Control c h = absurd (let bad : false ≡ true = h in cc)
value-kind q kinds.Space c h = ap (λ (x : ℕ). tells_and_goes (token.Value x ∷ []) (stage.Text (Value q))) (sym (eqb-true c 32 h))
value-kind Double kinds.Quotation c h = absurd (let bad : false ≡ true = h in cc)
value-kind Single kinds.Apostrophe c h = absurd (let bad : false ≡ true = h in cc)
value-kind Double k c h = refl
value-kind Single k c h = refl

abbrev fits_value : Quote → ℕ → Bool
fits_value q b = not (is_plain_value q b) || (is_value_kind q (ascii_kind b) b && not (b == 13))

value-fits : (q : Quote) (b : ℕ) → b < 128 → fits_value q b ≡ true
unfolding ascii_kind
value-fits Double b h = agree_below_at (fits_value Double) (λ x. true) 128 b refl h
value-fits Single b h = agree_below_at (fits_value Single) (λ x. true) 128 b refl h

value-low : (q : Quote) (b : ℕ) → is_plain_value q b ≡ true → nat_lt b 128 ≡ true
value-low Double b h = (and_parts (nat_le 32 b) (nat_lt b 128) (and_parts (nat_le 32 b && nat_lt b 128) _ h).0).1
value-low Single b h = (and_parts (nat_le 32 b) (nat_lt b 128) (and_parts (nat_le 32 b && nat_lt b 128) _ h).0).1

value-of : (q : Quote) (b : ℕ) → is_plain_value q b ≡ true → (is_value_kind q (ascii_kind b) b ≡ true) × ((b == 13) ≡ false)
value-of q b h = implied (is_plain_value q b) (is_value_kind q (ascii_kind b) b) (b == 13) h (value-fits q b (ltb-true b 128 (value-low q b h)))

abbrev pub value_at : Quote → State
value_at q = at (stage.Text (Value q)) pending.Nothing false

ascii-value : (q : Quote) (b : ℕ) → is_plain_value q b ≡ true
    → ascii (stage.Text (Value q)) (ascii_kind b) b ≡ tells_and_goes (token.Value b ∷ []) (stage.Text (Value q))
unfolding ascii
ascii-value q b h = value-kind q (ascii_kind b) b (value-of q b h).0

turn-value : (q : Quote) (b : ℕ) → is_plain_value q b ≡ true → turn (value_at q) b ≡ leads (value_at q) (token.Value b ∷ [])
turn-value q b h = turned (stage.Text (Value q)) b (token.Value b ∷ []) (value-low q b h) (value-of q b h).1 (ascii-value q b h)

pub value_more : (q : Quote) (bs : List ℕ) (i d : ℕ) → i < length bs → are_plain (is_plain_value q) (take i bs) ≡ true → is_plain_value q (get_or bs i d) ≡ true
    → are_plain (is_plain_value q) (take (i + 1) bs) ≡ true
value_more q bs i d h e p = ap (are_plain (is_plain_value q)) (take_more bs i d h) ∙ plain-append (is_plain_value q) (take i bs) (get_or bs i d) e p

-- In a tag.

abbrev pub value_in : Quote → List RawName → RawName → ℕ → Frame
value_in q ms m i = open_at (value_at q) (valuing ms m i)

value-nest : (r : Rules) (ms : List RawName) (m : RawName) (i b : ℕ) → nest r (valuing ms m i) (token.Value b) ≡ valuing ms m i
unfolding nest
value-nest r ms m i b = refl

-- what is built, with these bytes more of the value
abbrev valued : Building → List ℕ → Building
valued b value = record b { tag = record b.tag { value = value } }

-- the last byte of a character
value-quiet : (l : Limits) (q : Quote) (ms : List RawName) (m : RawName) (i : ℕ) (b : Building) (g : Pending) (byte c : ℕ)
    → turn (at (stage.Text (Value q)) g false) byte ≡ leads (value_at q) (token.Value c ∷ [])
    → Quiet l (text_at (Value q) g (valuing ms m i)) b byte (token.Value c ∷ []) (value_in q ms m i) (valued b (b.tag.value ++ encode_utf8 c))
value-quiet l q ms m i b g byte c e = record {
  framed = ap (framed (rules_of l) (valuing ms m i)) e ∙ ap (placed (rules_of l) (value_at q)) (value-nest (rules_of l) ms m i c);
  told = ap tokens_told e;
  built = refl;
  named = refl;
  unbroken = refl;
  still = refl;
  within = refl;
  same = refl;
}

-- a character
character-led : (q : Quote) (ms : List RawName) (m : RawName) (i : ℕ) (b : Building) (c : ℕ)
    → is_value_character q c ≡ true → Leads (value_in q ms m i) b (encode_utf8 c) (value_in q ms m i) (valued b (b.tag.value ++ encode_utf8 c))
character-led q ms m i b c h =
    let f : Frame = value_in q ms m i in
    let d : Building = valued b (b.tag.value ++ encode_utf8 c) in
    elim (or_cases (is_plain_value q c) (is_wide c) h) [
      | inl plain ↦ subst (λ (xs : List ℕ). Leads f b xs f d) (sym (encode1 c (ltb-true c 128 (value-low q c plain))))
          (more_led f f f b d d c (token.Value c ∷ []) [] (λ l. value-quiet l q ms m i b pending.Nothing c c (turn-value q c plain)) (no_bytes_led f d d refl))
      | inr wide ↦ wide_led (Value q) (valuing ms m i) c b d (record {
        ending = λ l g byte e. value-quiet l q ms m i b g byte c e;
        staying = λ r g. refl;
        within = refl;
      }) wide
    ]

value-run : (cs : List ℕ) (q : Quote) (ms : List RawName) (m : RawName) (i : ℕ) (b : Building) → are_plain (is_value_character q) cs ≡ true
    → Leads (value_in q ms m i) b (encode_utf8_all cs) (value_in q ms m i) (valued b (b.tag.value ++ encode_utf8_all cs))
value-run [] q ms m i b plain = no_bytes_led (value_in q ms m i) b (valued b (b.tag.value ++ [])) (ap (valued b) (append-nil b.tag.value))
value-run (c ∷ cs) q ms m i b plain =
    let p = and_parts (is_value_character q c) (are_plain (is_value_character q) cs) plain in
    let f : Frame = value_in q ms m i in
    let here : List ℕ = encode_utf8 c in
    let more : List ℕ = encode_utf8_all cs in
    let b1 : Building = valued b (b.tag.value ++ here) in
    subst (λ (w : List ℕ). Leads f b (here ++ more) f (valued b w)) (append_assoc b.tag.value here more)
    (leads_then f f f b b1 (valued b ((b.tag.value ++ here) ++ more)) here more (character-led q ms m i b c p.0) (value-run cs q ms m i b1 p.1))

pub value-state : (st : State) (q : Quote) → (if is_between_characters st then value_quote st.stage else None) ≡ Some q → st ≡ value_at q
value-state st q e = by (is_between_characters st) refl e
  where
    value-stage : (s : Stage) (q : Quote) → value_quote s ≡ Some q → s ≡ stage.Text (Value q)
    value-stage (stage.Text (Value q1)) q e = ap (λ (x : Quote). stage.Text (Value x)) (let e1 : Some q1 ≡ Some q = e in cc)
    value-stage s q e = absurd (let bad : None ≡ Some q = e in cc)

    by : (t : Bool) → is_between_characters st ≡ t → (if t then value_quote st.stage else None) ≡ Some q → st ≡ value_at q
    by true h e = between-state st h ∙ ap (λ (s : Stage). at s pending.Nothing false) (value-stage st.stage q e)
    by false h e = absurd (let bad : None ≡ Some q = e in cc)

pub value_led : (f : Frame) (q : Quote) (b c : Building) (xs : List ℕ)
    → open_quote f ≡ Some q → Spells (is_value_character q) xs → c ≡ record b { tag = record b.tag { value = b.tag.value ++ xs } } → Leads f b xs f c
value_led (open_at st (valuing ms m i)) q b c xs h spelt made =
    let f : State → Frame = λ s. open_at s (valuing ms m i) in
    let here : Frame = f (value_at q) in
    subst (λ (y : Building). Leads (f st) b xs (f st) y) (sym made)
    (subst (λ (s : State). Leads (f s) b xs (f s) (valued b (b.tag.value ++ xs))) (sym (value-state st q h))
    (subst (λ (w : List ℕ). Leads here b w here (valued b (b.tag.value ++ w))) spelt.bytes (value-run spelt.text q ms m i b spelt.plain)))
value_led f q b c xs h spelt made = absurd (let bad : None ≡ Some q = h in cc)
