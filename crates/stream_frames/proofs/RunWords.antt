-- Runs of words.
use Rattle.std.proofs.Common.{◌≡◌, ℕ, ◌+◌, ◌<◌, List, [], ◌∷◌, ◌++◌, length, append-nil, append_assoc, take, get_or, refl, sym, ap}
use Rattle.std.proofs.Common.{inl, inr, encode_utf8, encode_utf8_all, ◌∙◌, subst, Bool, true, false, not, cond, ◌||◌, ◌&&◌, ◌==◌, nat_lt, nat_le}
use Rattle.std.proofs.lemmas.Bool.{and_parts, or_cases, ltb-true, agree_below_at}
use Rattle.std.proofs.lemmas.List.{take_more}
use Rattle.stream_lex.specs.declared.Token.TheVariants as token
use Rattle.stream_lex.specs.declared.kinds.Kind.{Kind}
use Rattle.stream_lex.specs.declared.kinds.Kind.TheVariants as kinds
use Rattle.stream_lex.specs.declared.stages.Context.TheVariants.{Words}
use Rattle.stream_lex.specs.declared.stages.Stage.{Stage}
use Rattle.stream_lex.specs.declared.stages.Stage.TheVariants as stage
use Rattle.stream_lex.specs.declared.stages.State.{State}
use Rattle.stream_lex.specs.declared.characters.Pending.{Pending}
use Rattle.stream_lex.specs.declared.characters.Pending.TheVariants as pending
use Rattle.stream_lex.specs.grammar.Kinds.{ascii_kind}
use Rattle.stream_lex.specs.machine.Machine.{ascii, in_words}
use Rattle.stream_lex.specs.machine.Machine.{yields as tells_and_goes}
use Rattle.stream_lex.specs.machine.Turns.{leads, at, turn}
use Rattle.stream_lex.proofs.Spans.{encode1}
use Rattle.stream_grammar.specs.declared.item.Limits.{Limits}
use Rattle.stream_grammar.specs.declared.rules.Rules.{Rules}
use Rattle.stream_grammar.specs.grammar.Trees.{RawName, is_space}
use Rattle.stream_grammar.specs.machine.Nesting.{inside, lost, nest}
use Rattle.stream_grammar.specs.machine.Framing.{Frame, open_at, placed}
use Rattle.stream_grammar.specs.machine.Framing.{settled as framed}
use Rattle.stream_grammar.specs.machine.Ends.{tokens_told}
use Rattle.stream_grammar.specs.machine.Building.{Building, Opened, worded_in}
use Rattle.stream_grammar.specs.grammar.Bounds.{rules_of}
use Rattle.stream_frames.specs.Runs.{is_plain_word, is_wide, is_word_character, are_plain, Spells, is_words_stage, is_between_characters, is_in_words}
use Rattle.stream_frames.specs.Runs.{has_opened, Leads}
use Rattle.stream_frames.proofs.RunLemmas.{Quiet, no_bytes_led, more_led, leads_then, plain-append, implied, turned, between-state}
use Rattle.stream_frames.proofs.WideLemmas.{text_at, wide_led}

-- No plain byte is markup.

abbrev is_word_kind : Kind → Bool
is_word_kind kinds.Less = false
is_word_kind kinds.Ampersand = false
is_word_kind kinds.RightBracket = false
is_word_kind kinds.Control = false
is_word_kind k = true

word-kind : (k : Kind) (c : ℕ) → is_word_kind k ≡ true → in_words k c ≡ tells_and_goes (token.Word c ∷ []) (stage.Text Words)
word-kind kinds.Less c h = absurd (let bad : false ≡ true = h in cc)
word-kind kinds.Ampersand c h = absurd (let bad : false ≡ true = h in cc)
word-kind kinds.RightBracket c h = absurd (let bad : false ≡ true = h in cc)
word-kind kinds.Control c h = absurd (let bad : false ≡ true = h in cc)
word-kind k c h = refl

abbrev fits_words : ℕ → Bool
fits_words b = not (is_plain_word b) || (is_word_kind (ascii_kind b) && not (b == 13))

word-fits : (b : ℕ) → b < 128 → fits_words b ≡ true
unfolding ascii_kind
word-fits b h = agree_below_at fits_words (λ x. true) 128 b refl h

word-low : (b : ℕ) → is_plain_word b ≡ true → nat_lt b 128 ≡ true
word-low b h = (and_parts (nat_le 32 b) (nat_lt b 128) (and_parts (nat_le 32 b && nat_lt b 128) _ h).0).1

word-of : (b : ℕ) → is_plain_word b ≡ true → (is_word_kind (ascii_kind b) ≡ true) × ((b == 13) ≡ false)
word-of b h = implied (is_plain_word b) (is_word_kind (ascii_kind b)) (b == 13) h (word-fits b (ltb-true b 128 (word-low b h)))

abbrev words_at : State
words_at = at (stage.Text Words) pending.Nothing false

ascii-word : (b : ℕ) → is_plain_word b ≡ true → ascii (stage.Text Words) (ascii_kind b) b ≡ tells_and_goes (token.Word b ∷ []) (stage.Text Words)
unfolding ascii
ascii-word b h = word-kind (ascii_kind b) b (word-of b h).0

turn-word : (b : ℕ) → is_plain_word b ≡ true → turn words_at b ≡ leads words_at (token.Word b ∷ [])
turn-word b h = turned (stage.Text Words) b (token.Word b ∷ []) (word-low b h) (word-of b h).1 (ascii-word b h)

pub word_more : (bs : List ℕ) (i d : ℕ) → i < length bs → are_plain is_plain_word (take i bs) ≡ true → is_plain_word (get_or bs i d) ≡ true
    → are_plain is_plain_word (take (i + 1) bs) ≡ true
word_more bs i d h e p = ap (are_plain is_plain_word) (take_more bs i d h) ∙ plain-append is_plain_word (take i bs) (get_or bs i d) e p

-- In an element of the stream's.

abbrev words_in : RawName → RawName → List RawName → Frame
words_in m x ms = open_at words_at (inside (m ∷ x ∷ ms))

word-nest : (r : Rules) (m x : RawName) (ms : List RawName) (b : ℕ) → nest r (inside (m ∷ x ∷ ms)) (token.Word b) ≡ inside (m ∷ x ∷ ms)
unfolding nest
word-nest r m x ms b = ap (λ (t : Bool). cond t (inside (m ∷ x ∷ ms)) lost) (or-true (is_space b))
  where
    or-true : (t : Bool) → (t || true) ≡ true
    or-true true = refl
    or-true false = refl

-- what is built, with these words
abbrev worded : Building → List ℕ → Building
worded b words = record b { words = words }

-- the last byte of a character
word-quiet : (l : Limits) (m x : RawName) (ms : List RawName) (b : Building) (o : Opened) (os : List Opened) (g : Pending) (byte c : ℕ)
    → b.opened ≡ o ∷ os → turn (at (stage.Text Words) g false) byte ≡ leads words_at (token.Word c ∷ [])
    → Quiet l (text_at Words g (inside (m ∷ x ∷ ms))) b byte (token.Word c ∷ []) (words_in m x ms) (worded b (b.words ++ encode_utf8 c))
word-quiet l m x ms b o os g byte c opens e = record {
  framed = ap (framed (rules_of l) (inside (m ∷ x ∷ ms))) e ∙ ap (placed (rules_of l) words_at) (word-nest (rules_of l) m x ms c);
  told = ap tokens_told e;
  built = ap (λ (ps : List Opened). worded_in ps c b) opens;
  named = refl;
  unbroken = refl;
  still = refl;
  within = refl;
  same = refl;
}

-- a character
word-led : (m x : RawName) (ms : List RawName) (b : Building) (o : Opened) (os : List Opened) (c : ℕ)
    → b.opened ≡ o ∷ os → is_word_character c ≡ true → Leads (words_in m x ms) b (encode_utf8 c) (words_in m x ms) (worded b (b.words ++ encode_utf8 c))
word-led m x ms b o os c opens h =
    let f : Frame = words_in m x ms in
    let d : Building = worded b (b.words ++ encode_utf8 c) in
    elim (or_cases (is_plain_word c) (is_wide c) h) [
      | inl plain ↦ subst (λ (xs : List ℕ). Leads f b xs f d) (sym (encode1 c (ltb-true c 128 (word-low c plain))))
          (more_led f f f b d d c (token.Word c ∷ []) []
          (λ l. word-quiet l m x ms b o os pending.Nothing c c opens (turn-word c plain)) (no_bytes_led f d d refl))
      | inr wide ↦ wide_led Words (inside (m ∷ x ∷ ms)) c b d (record {
        ending = λ l g byte e. word-quiet l m x ms b o os g byte c opens e;
        staying = λ r g. refl;
        within = refl;
      }) wide
    ]

words-run : (cs : List ℕ) (m x : RawName) (ms : List RawName) (b : Building) (o : Opened) (os : List Opened) → b.opened ≡ o ∷ os
    → are_plain is_word_character cs ≡ true → Leads (words_in m x ms) b (encode_utf8_all cs) (words_in m x ms) (worded b (b.words ++ encode_utf8_all cs))
words-run [] m x ms b o os opens plain = no_bytes_led (words_in m x ms) b (worded b (b.words ++ [])) (ap (worded b) (append-nil b.words))
words-run (c ∷ cs) m x ms b o os opens plain =
    let p = and_parts (is_word_character c) (are_plain is_word_character cs) plain in
    let f : Frame = words_in m x ms in
    let here : List ℕ = encode_utf8 c in
    let more : List ℕ = encode_utf8_all cs in
    let b1 : Building = worded b (b.words ++ here) in
    subst (λ (w : List ℕ). Leads f b (here ++ more) f (worded b w)) (append_assoc b.words here more)
    (leads_then f f f b b1 (worded b ((b.words ++ here) ++ more)) here more (word-led m x ms b o os c opens p.0) (words-run cs m x ms b1 o os opens p.1))

words-opened : (m x : RawName) (ms : List RawName) (b : Building) (os : List Opened) (xs : List ℕ)
    → b.opened ≡ os → has_opened os ≡ true → Spells is_word_character xs → Leads (words_in m x ms) b xs (words_in m x ms) (worded b (b.words ++ xs))
words-opened m x ms b [] xs e h spelt = absurd (let bad : false ≡ true = h in cc)
words-opened m x ms b (o ∷ os) xs e h spelt =
    let f : Frame = words_in m x ms in
    subst (λ (w : List ℕ). Leads f b w f (worded b (b.words ++ w))) spelt.bytes (words-run spelt.text m x ms b o os e spelt.plain)

words-state : (st : State) → (is_words_stage st.stage && is_between_characters st) ≡ true → st ≡ words_at
words-state st h =
    let p = and_parts (is_words_stage st.stage) (is_between_characters st) h in between-state st p.1
    ∙ ap (λ (s : Stage). at s pending.Nothing false) (words-stage st.stage p.0)
  where
    words-stage : (s : Stage) → is_words_stage s ≡ true → s ≡ stage.Text Words
    words-stage (stage.Text Words) h = refl
    words-stage s h = absurd (let bad : false ≡ true = h in cc)

pub words_led : (f : Frame) (b c : Building) (xs : List ℕ)
    → is_in_words f ≡ true → has_opened b.opened ≡ true → Spells is_word_character xs → c ≡ record b { words = b.words ++ xs } → Leads f b xs f c
words_led (open_at st (inside (m ∷ x ∷ ms))) b c xs h opens spelt made =
    let f : State → Frame = λ s. open_at s (inside (m ∷ x ∷ ms)) in
    subst (λ (y : Building). Leads (f st) b xs (f st) y) (sym made)
    (subst (λ (s : State). Leads (f s) b xs (f s) (worded b (b.words ++ xs))) (sym (words-state st h)) (words-opened m x ms b b.opened xs refl opens spelt))
words_led f b c xs h opens spelt made = absurd (let bad : false ≡ true = h in cc)
