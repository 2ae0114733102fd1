-- Values and words of a canonical text: where they lead, and what they tell.
use Rattle.std.proofs.Common.{◌≡◌, ℕ, ◌<◌, ◌≤◌, ◌⊎◌, inl, inr, List, [], ◌∷◌, ◌++◌, map, refl, sym, ap, ◌∙◌, subst, Bool, true, false, not, arith}
use Rattle.std.proofs.lemmas.Bool.{cases_lt, and_parts, and_from, eqb-true}
use Rattle.std.proofs.lemmas.Bool.Decides.{nat_tests}
use Rattle.std.proofs.lemmas.Grind.{flat_map-append}
use Rattle.std.specs.List.{AllByRecursion}
use Rattle.std.specs.Prelude.{encode_utf8, encode_utf8_all, ◌==◌, ◌||◌, ◌&&◌}
use Rattle.stanza_tree.specs.Spelling.{escaped_in_words, escaped_in_value, words_text, value_text}
use Rattle.stream_lex.specs.declared.Token.TheVariants as token
use Rattle.stream_lex.specs.declared.kinds.Kind.{Kind}
use Rattle.stream_lex.specs.declared.kinds.Kind.TheVariants as kinds
use Rattle.stream_lex.specs.declared.stages.Quote.TheVariants.{Single}
use Rattle.stream_lex.specs.declared.stages.Context.TheVariants.{Words, Value}
use Rattle.stream_lex.specs.declared.stages.Brackets.{Brackets}
use Rattle.stream_lex.specs.declared.stages.Brackets.TheVariants.{One, Many}
use Rattle.stream_lex.specs.declared.stages.Stage.{Stage}
use Rattle.stream_lex.specs.declared.stages.Stage.TheVariants as stage
use Rattle.stream_lex.specs.grammar.Classes.{has_between, characters, is_xml}
use Rattle.stream_lex.specs.grammar.Kinds.{ascii_kind, is_kind, is_plain, is_value_character}
use Rattle.stream_lex.specs.machine.Machine.{yields, ascii, in_reference, in_number, in_tag, in_value, allowed_at, voice, through}
use Rattle.stream_lex.specs.machine.Turns.{settled, turn_ascii}
use Rattle.stream_lex.specs.machine.Live.{is_live}
use Rattle.stream_lex.proofs.Lists.{false-true}
use Rattle.stream_lex.proofs.Spans.{Width, width1, width2, width3, width4, width_of, encode1}
use Rattle.stream_laws.proofs.RoundTripRuns.{Runs, runs-none, runs-then, runs-one, runs-text, between, ascii-turn, wide-runs}
use Rattle.stream_laws.proofs.RoundTripNames.{all_under, under, implied}

-- Bytes from 128 on stand for themselves.

high-words : (b : ℕ) → 128 ≤ b → escaped_in_words b ≡ b ∷ []
unfolding escaped_in_words
high-words b h = grind (arith, nat_tests)

high-value : (b : ℕ) → 128 ≤ b → escaped_in_value b ≡ b ∷ []
unfolding escaped_in_value escaped_in_words
high-value b h = grind (arith, nat_tests)

-- Characters from 128 on.

xml-above : (c : ℕ) → 128 ≤ c → is_xml c ≡ true → has_between characters c c ≡ true
unfolding characters
xml-above c h e = grind (arith, nat_tests, h, e)

abbrev pub AllHigh : List ℕ → Type 0
AllHigh [] = Unit {0}
AllHigh (b ∷ bs) = (128 ≤ b) × AllHigh bs

pub high-bytes : (c : ℕ) → 128 ≤ c → AllHigh (encode_utf8 c)
high-bytes c h = by (width_of c)
  where
    by : Width c → AllHigh (encode_utf8 c)
    by (width1 k e) = absurd (omega arith)
    by (width2 k j e) = subst AllHigh (sym e) (omega arith, (omega arith, tt))
    by (width3 k j e) = subst AllHigh (sym e) (omega arith, (omega arith, (omega arith, tt)))
    by (width4 k e) = subst AllHigh (sym e) (omega arith, (omega arith, (omega arith, (omega arith, tt))))

value-high : (bs : List ℕ) → AllHigh bs → value_text bs ≡ bs
value-high [] a = refl
value-high (b ∷ bs) a = ap (λ (l : List ℕ). l ++ value_text bs) (high-value b a.0) ∙ ap (λ (l : List ℕ). b ∷ l) (value-high bs a.1)

words-high : (bs : List ℕ) → AllHigh bs → words_text bs ≡ bs
words-high [] a = refl
words-high (b ∷ bs) a = ap (λ (l : List ℕ). l ++ words_text bs) (high-words b a.0) ∙ ap (λ (l : List ℕ). b ∷ l) (words-high bs a.1)

-- In a value.

either : (s t : Bool) → (s || t) ≡ true → (s ≡ true) ⊎ (t ≡ true)
either true t e = inl refl
either false t e = inr e

not-is : (t : Bool) → not t ≡ true → t ≡ false
not-is true h = false-true h
not-is false h = refl

abbrev pub in_quotes : Stage
in_quotes = stage.Text (Value Single)

abbrev ValueRuns : ℕ → List ℕ → Type 0
ValueRuns c bs = Runs (between in_quotes) (value_text bs) (between in_quotes) (token.Value c ∷ [])

-- written as a reference
abbrev value_special : ℕ → Bool
value_special c = (c == 39) || ((c == 9) || ((c == 38) || ((c == 60) || ((c == 62) || ((c == 10) || (c == 13))))))

special-value : (c : ℕ) → value_special c ≡ true → ValueRuns c (c ∷ [])
unfolding turn_ascii ascii_kind ascii in_reference in_number in_tag escaped_in_value escaped_in_words
special-value c h =
    first (either (c == 39) _ h)
  where
    at_last : (d : ℕ) → ValueRuns d (d ∷ []) → (c == d) ≡ true → ValueRuns c (c ∷ [])
    at_last d r e = subst (λ (x : ℕ). ValueRuns x (x ∷ [])) (sym (eqb-true c d e)) r

    sixth : ((c == 10) ≡ true) ⊎ ((c == 13) ≡ true) → ValueRuns c (c ∷ [])
    sixth (inl e) = at_last 10 (record { leads_so = refl }) e
    sixth (inr e) = at_last 13 (record { leads_so = refl }) e

    fifth : ((c == 62) ≡ true) ⊎ (((c == 10) || (c == 13)) ≡ true) → ValueRuns c (c ∷ [])
    fifth (inl e) = at_last 62 (record { leads_so = refl }) e
    fifth (inr e) = sixth (either (c == 10) _ e)

    fourth : ((c == 60) ≡ true) ⊎ (((c == 62) || ((c == 10) || (c == 13))) ≡ true) → ValueRuns c (c ∷ [])
    fourth (inl e) = at_last 60 (record { leads_so = refl }) e
    fourth (inr e) = fifth (either (c == 62) _ e)

    third : ((c == 38) ≡ true) ⊎ (((c == 60) || ((c == 62) || ((c == 10) || (c == 13)))) ≡ true) → ValueRuns c (c ∷ [])
    third (inl e) = at_last 38 (record { leads_so = refl }) e
    third (inr e) = fourth (either (c == 60) _ e)

    second : ((c == 9) ≡ true) ⊎ (((c == 38) || ((c == 60) || ((c == 62) || ((c == 10) || (c == 13))))) ≡ true) → ValueRuns c (c ∷ [])
    second (inl e) = at_last 9 (record { leads_so = refl }) e
    second (inr e) = third (either (c == 38) _ e)

    first : ((c == 39) ≡ true) ⊎ (((c == 9) || ((c == 38) || ((c == 60) || ((c == 62) || ((c == 10) || (c == 13)))))) ≡ true) → ValueRuns c (c ∷ [])
    first (inl e) = at_last 39 (record { leads_so = refl }) e
    first (inr e) = second (either (c == 9) _ e)

-- written as it is
plain-value : (c : ℕ) → value_special c ≡ false → escaped_in_value c ≡ c ∷ []
unfolding escaped_in_value escaped_in_words
plain-value c h = grind (arith, nat_tests, h)

value_low : ℕ → Bool
value_low c = not (is_xml c && not (value_special c))
    || ((is_value_character Single (ascii_kind c) || (is_kind kinds.Space (ascii_kind c) && c == 32)) && not (c == 13))

values-low : all_under 128 value_low ≡ true
unfolding value_low ascii_kind
values-low = refl

in_value-plain : (k : Kind) (c : ℕ) → is_value_character Single k ≡ true → in_value Single k c ≡ yields (token.Value c ∷ []) in_quotes
in_value-plain kinds.Less c h = false-true h
in_value-plain kinds.Ampersand c h = false-true h
in_value-plain kinds.Control c h = false-true h
in_value-plain kinds.Space c h = false-true h
in_value-plain kinds.Apostrophe c h = false-true h
in_value-plain k c h = refl

in_value-space : (k : Kind) (c : ℕ) → is_kind kinds.Space k ≡ true → in_value Single k c ≡ yields (token.Value 32 ∷ []) in_quotes
in_value-space kinds.Space c h = refl
in_value-space k c h = false-true h

low-value : (c : ℕ) → c < 128 → is_xml c ≡ true → value_special c ≡ false → ValueRuns c (c ∷ [])
unfolding value_low ascii
low-value c l x s =
    let (a, b) = and_parts (is_value_character Single (ascii_kind c) || (is_kind kinds.Space (ascii_kind c) && c == 32)) (not (c == 13))
    (implied (is_xml c && not (value_special c)) _ (under 128 value_low values-low c l) (and_from _ _ x (ap not s))) in
    runs-text (sym (ap (λ (l : List ℕ). l ++ []) (plain-value c s)))
    (runs-one (ascii-turn in_quotes c l (not-is (c == 13) b) ∙ ap (settled false) (by (either (is_value_character Single (ascii_kind c)) _ a))))
  where
    by : (is_value_character Single (ascii_kind c) ≡ true) ⊎ ((is_kind kinds.Space (ascii_kind c) && c == 32) ≡ true)
        → in_value Single (ascii_kind c) c ≡ yields (token.Value c ∷ []) in_quotes
    by (inl e) = in_value-plain (ascii_kind c) c e
    by (inr e) =
        let (k, f) = and_parts (is_kind kinds.Space (ascii_kind c)) (c == 32) e in
        in_value-space (ascii_kind c) c k ∙ ap (λ (x : ℕ). yields (token.Value x ∷ []) in_quotes) (sym (eqb-true c 32 f))

pub by_test : {P : Type 0} (t : Bool) → (t ≡ true → P) → (t ≡ false → P) → P
by_test true f g = f refl
by_test false f g = g refl

live-value : is_live (between in_quotes) ≡ true
unfolding is_live
live-value = refl

wide-value : (c : ℕ) → 128 ≤ c → is_xml c ≡ true → ValueRuns c (encode_utf8 c)
unfolding allowed_at voice through
wide-value c h x = runs-text (sym (value-high (encode_utf8 c) (high-bytes c h))) (wide-runs in_quotes c live-value h (xml-above c h x))

value-character : (c : ℕ) → is_xml c ≡ true → ValueRuns c (encode_utf8 c)
value-character c x = elim (cases_lt c 128) [
  | inl l ↦ subst (ValueRuns c) (sym (encode1 c l)) (by_test (value_special c) (special-value c) (low-value c l x))
  | inr h ↦ wide-value c h x
]

pub characters-value : (cs : List ℕ) → AllByRecursion (λ c. is_xml c ≡ true) cs
    → Runs (between in_quotes) (value_text (encode_utf8_all cs)) (between in_quotes) (map token.Value cs)
characters-value [] e = runs-none
characters-value (c ∷ cs) e =
    runs-text (sym (flat_map-append escaped_in_value (encode_utf8 c) (encode_utf8_all cs))) (runs-then (value-character c e.0) (characters-value cs e.1))

-- In words.

-- between tags: after a bracket or more, or not
pub data Gap : Type 0 where
  plain : Gap
  bracketed : Brackets → Gap

abbrev pub gap_stage : Gap → Stage
gap_stage plain = stage.Text Words
gap_stage (bracketed b) = stage.Bracketed b

abbrev pub WordsRun : Gap → List ℕ → List ℕ → Type 0
WordsRun g bs cs = (h : Gap) × Runs (between (gap_stage g)) (words_text bs) (between (gap_stage h)) (map token.Word cs)

-- written as a reference
abbrev words_special : ℕ → Bool
words_special c = (c == 38) || ((c == 60) || ((c == 62) || ((c == 10) || (c == 13))))

gap-amp : (g : Gap) → WordsRun g (38 ∷ []) (38 ∷ [])
unfolding turn_ascii ascii_kind ascii in_reference in_number in_tag escaped_in_words
gap-amp plain = (plain, record { leads_so = refl })
gap-amp (bracketed One) = (plain, record { leads_so = refl })
gap-amp (bracketed Many) = (plain, record { leads_so = refl })

gap-less : (g : Gap) → WordsRun g (60 ∷ []) (60 ∷ [])
unfolding turn_ascii ascii_kind ascii in_reference in_number in_tag escaped_in_words
gap-less plain = (plain, record { leads_so = refl })
gap-less (bracketed One) = (plain, record { leads_so = refl })
gap-less (bracketed Many) = (plain, record { leads_so = refl })

gap-greater : (g : Gap) → WordsRun g (62 ∷ []) (62 ∷ [])
unfolding turn_ascii ascii_kind ascii in_reference in_number in_tag escaped_in_words
gap-greater plain = (plain, record { leads_so = refl })
gap-greater (bracketed One) = (plain, record { leads_so = refl })
gap-greater (bracketed Many) = (plain, record { leads_so = refl })

gap-feed : (g : Gap) → WordsRun g (10 ∷ []) (10 ∷ [])
unfolding turn_ascii ascii_kind ascii in_reference in_number in_tag escaped_in_words
gap-feed plain = (plain, record { leads_so = refl })
gap-feed (bracketed One) = (plain, record { leads_so = refl })
gap-feed (bracketed Many) = (plain, record { leads_so = refl })

gap-return : (g : Gap) → WordsRun g (13 ∷ []) (13 ∷ [])
unfolding turn_ascii ascii_kind ascii in_reference in_number in_tag escaped_in_words
gap-return plain = (plain, record { leads_so = refl })
gap-return (bracketed One) = (plain, record { leads_so = refl })
gap-return (bracketed Many) = (plain, record { leads_so = refl })

gap-bracket : (g : Gap) → WordsRun g (93 ∷ []) (93 ∷ [])
unfolding turn_ascii ascii_kind ascii in_reference in_number in_tag escaped_in_words
gap-bracket plain = (bracketed One, record { leads_so = refl })
gap-bracket (bracketed One) = (bracketed Many, record { leads_so = refl })
gap-bracket (bracketed Many) = (bracketed Many, record { leads_so = refl })

special-words : (g : Gap) (c : ℕ) → words_special c ≡ true → WordsRun g (c ∷ []) (c ∷ [])
special-words g c h =
    first (either (c == 38) _ h)
  where
    at_last : (d : ℕ) → WordsRun g (d ∷ []) (d ∷ []) → (c == d) ≡ true → WordsRun g (c ∷ []) (c ∷ [])
    at_last d r e = subst (λ (x : ℕ). WordsRun g (x ∷ []) (x ∷ [])) (sym (eqb-true c d e)) r

    fourth : ((c == 10) ≡ true) ⊎ ((c == 13) ≡ true) → WordsRun g (c ∷ []) (c ∷ [])
    fourth (inl e) = at_last 10 (gap-feed g) e
    fourth (inr e) = at_last 13 (gap-return g) e

    third : ((c == 62) ≡ true) ⊎ (((c == 10) || (c == 13)) ≡ true) → WordsRun g (c ∷ []) (c ∷ [])
    third (inl e) = at_last 62 (gap-greater g) e
    third (inr e) = fourth (either (c == 10) _ e)

    second : ((c == 60) ≡ true) ⊎ (((c == 62) || ((c == 10) || (c == 13))) ≡ true) → WordsRun g (c ∷ []) (c ∷ [])
    second (inl e) = at_last 60 (gap-less g) e
    second (inr e) = third (either (c == 62) _ e)

    first : ((c == 38) ≡ true) ⊎ (((c == 60) || ((c == 62) || ((c == 10) || (c == 13)))) ≡ true) → WordsRun g (c ∷ []) (c ∷ [])
    first (inl e) = at_last 38 (gap-amp g) e
    first (inr e) = second (either (c == 60) _ e)

-- written as it is
plain-words : (c : ℕ) → words_special c ≡ false → escaped_in_words c ≡ c ∷ []
unfolding escaped_in_words
plain-words c h = grind (arith, nat_tests, h)

-- what may follow brackets as well
abbrev is_plain_word : Kind → Bool
is_plain_word kinds.Greater = false
is_plain_word k = is_plain k

words_low : ℕ → Bool
words_low c = not (is_xml c && not (words_special c || (c == 93))) || (is_plain_word (ascii_kind c) && not (c == 13))

all-words_low : all_under 128 words_low ≡ true
unfolding words_low ascii_kind
all-words_low = refl

in_words-plain : (g : Gap) (k : Kind) (c : ℕ) → is_plain_word k ≡ true → ascii (gap_stage g) k c ≡ yields (token.Word c ∷ []) (stage.Text Words)
unfolding ascii
in_words-plain plain kinds.Less c h = false-true h
in_words-plain plain kinds.Ampersand c h = false-true h
in_words-plain plain kinds.RightBracket c h = false-true h
in_words-plain plain kinds.Control c h = false-true h
in_words-plain plain k c h = refl
in_words-plain (bracketed One) kinds.Less c h = false-true h
in_words-plain (bracketed One) kinds.Ampersand c h = false-true h
in_words-plain (bracketed One) kinds.RightBracket c h = false-true h
in_words-plain (bracketed One) kinds.Control c h = false-true h
in_words-plain (bracketed One) k c h = refl
in_words-plain (bracketed Many) kinds.Less c h = false-true h
in_words-plain (bracketed Many) kinds.Ampersand c h = false-true h
in_words-plain (bracketed Many) kinds.RightBracket c h = false-true h
in_words-plain (bracketed Many) kinds.Control c h = false-true h
in_words-plain (bracketed Many) kinds.Greater c h = false-true h
in_words-plain (bracketed Many) k c h = refl

low-words : (g : Gap) (c : ℕ) → c < 128 → is_xml c ≡ true → (words_special c || (c == 93)) ≡ false → WordsRun g (c ∷ []) (c ∷ [])
unfolding words_low
low-words g c l x s =
    let (a, b) = and_parts (is_plain_word (ascii_kind c)) (not (c == 13))
    (implied (is_xml c && not (words_special c || (c == 93))) _ (under 128 words_low all-words_low c l) (and_from _ _ x (ap not s))) in (
      plain,
      runs-text (sym (ap (λ (l : List ℕ). l ++ []) (plain-words c (or-left (words_special c) (c == 93) s))))
          (runs-one (ascii-turn (gap_stage g) c l (not-is (c == 13) b) ∙ ap (settled false) (in_words-plain g (ascii_kind c) c a))),
    )
  where
    or-left : (s t : Bool) → (s || t) ≡ false → s ≡ false
    or-left true t e = false-true (sym e)
    or-left false t e = refl

live-gap : (g : Gap) → is_live (between (gap_stage g)) ≡ true
unfolding is_live
live-gap plain = refl
live-gap (bracketed b) = refl

wide-gap : (g : Gap) (c : ℕ) → 128 ≤ c → has_between characters c c ≡ true
    → Runs (between (gap_stage g)) (encode_utf8 c) (between (stage.Text Words)) (token.Word c ∷ [])
unfolding allowed_at voice through
wide-gap plain c h x = wide-runs (stage.Text Words) c (live-gap plain) h x
wide-gap (bracketed One) c h x = wide-runs (stage.Bracketed One) c (live-gap (bracketed One)) h x
wide-gap (bracketed Many) c h x = wide-runs (stage.Bracketed Many) c (live-gap (bracketed Many)) h x

wide-words : (g : Gap) (c : ℕ) → 128 ≤ c → is_xml c ≡ true → WordsRun g (encode_utf8 c) (c ∷ [])
wide-words g c h x = (plain, runs-text (sym (words-high (encode_utf8 c) (high-bytes c h))) (by g))
  where
    by : (g : Gap) → Runs (between (gap_stage g)) (encode_utf8 c) (between (stage.Text Words)) (token.Word c ∷ [])
    by g = wide-gap g c h (xml-above c h x)

word-character : (g : Gap) (c : ℕ) → is_xml c ≡ true → WordsRun g (encode_utf8 c) (c ∷ [])
word-character g c x = elim (cases_lt c 128) [
  | inl l ↦ subst (λ (l : List ℕ). WordsRun g l (c ∷ [])) (sym (encode1 c l))
      (by_test (words_special c || (c == 93)) (λ e. special_or (either (words_special c) (c == 93) e)) (low-words g c l x))
  | inr h ↦ wide-words g c h x
]
  where
    special_or : (words_special c ≡ true) ⊎ ((c == 93) ≡ true) → WordsRun g (c ∷ []) (c ∷ [])
    special_or (inl e) = special-words g c e
    special_or (inr e) = subst (λ (x : ℕ). WordsRun g (x ∷ []) (x ∷ [])) (sym (eqb-true c 93 e)) (gap-bracket g)

pub characters-words : (g : Gap) (cs : List ℕ) → AllByRecursion (λ c. is_xml c ≡ true) cs → WordsRun g (encode_utf8_all cs) cs
characters-words g [] e = (g, runs-none)
characters-words g (c ∷ cs) e =
    let (h, r) = word-character g c e.0 in
    let (i, t) = characters-words h cs e.1 in
    (i, runs-text (sym (flat_map-append escaped_in_words (encode_utf8 c) (encode_utf8_all cs))) (runs-then r t))
