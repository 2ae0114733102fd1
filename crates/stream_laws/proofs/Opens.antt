-- A header or a top element is open from the byte after its `<`.
use Rattle.std.proofs.Common.{◌≡◌, ℕ, ◌<◌, inl, inr, List, [], ◌∷◌, ◌++◌, refl, sym, ap, ◌∙◌, subst, Bool, true, false, not, cond, ◌&&◌, ◌||◌, ◌==◌, nat_lt}
use Rattle.std.proofs.lemmas.Bool.{cond_both, and_parts, ltb-true, eqb-true}
use Rattle.stream_lex.specs.declared.Token.{Token}
use Rattle.stream_lex.specs.declared.Token.TheVariants as token
use Rattle.stream_lex.specs.declared.stages.Context.TheVariants.{Words, Value}
use Rattle.stream_lex.specs.declared.stages.NameOwner.TheVariants.{StartTag, EndTag, Attribute}
use Rattle.stream_lex.specs.declared.stages.Brackets.TheVariants.{One, Many}
use Rattle.stream_lex.specs.declared.stages.Stage.{Stage}
use Rattle.stream_lex.specs.declared.stages.Stage.TheVariants as stage
use Rattle.stream_lex.specs.declared.stages.State.{State}
use Rattle.stream_lex.specs.declared.characters.Pending.{Pending}
use Rattle.stream_lex.specs.declared.characters.Pending.TheVariants as pending
use Rattle.stream_lex.specs.declared.characters.Reach.{Reach}
use Rattle.stream_lex.specs.declared.characters.Reach.TheVariants.{Whole, Begun, Broken}
use Rattle.stream_lex.specs.grammar.Classes.{has_between, class_of}
use Rattle.stream_lex.specs.grammar.Kinds.{ascii_kind}
use Rattle.stream_lex.specs.machine.Characters.{bytes_of, is_nothing, reach}
use Rattle.stream_lex.specs.machine.Machine.{Turn, goes, stops, ascii, allowed_at, voice, through}
use Rattle.stream_lex.specs.machine.Machine.{yields as tells_and_goes}
use Rattle.stream_lex.specs.machine.Turns.{Outcome, leads, fails, at, byte_told, end_told, settled, turn_ascii, turn_wide, turn}
use Rattle.stream_lex.proofs.Lists.{false-true, cons_not_nil}
use Rattle.stream_lex.proofs.ByteSteps.{Spelt, reach-spelt}
use Rattle.stream_grammar.specs.declared.rules.Rules.{Rules}
use Rattle.stream_grammar.specs.grammar.Trees.{RawName}
use Rattle.stream_grammar.specs.machine.Nesting.{Nest, start, declared, inside, naming, in_tag, naming_attribute, in_value, closing}
use Rattle.stream_grammar.specs.machine.Nesting.{lost, may_stand, before_root, in_content, nest, nest_all}
use Rattle.stream_grammar.specs.machine.Framing.{Frame, open_at, ended, broken, placed, frame_next}
use Rattle.stream_grammar.specs.machine.Framing.{settled as frame_settled}
use Rattle.stream_grammar.specs.machine.Ends.{in_item_nest, in_item}
use Rattle.stream_grammar.specs.machine.Telling.{are_words, is_few}
use Rattle.stream_laws.proofs.RoundTripNames.{all_under, under, implied}
use Rattle.stream_grammar.proofs.Sorts.{is_less, is_less_kind, opens, to_less, opens_tag, moves-ascii, may_return}
use Rattle.stream_grammar.proofs.Moving.{calm, calm-was}
use Rattle.stream_grammar.proofs.Few.{turn-few}
use Rattle.stream_grammar.proofs.Following.{Sound}
use Rattle.stream_laws.proofs.LastTold.{Placed, placed-cases}

-- right after the `<` of a tag
abbrev pub after_less : State → Bool
after_less st = is_nothing st.pending && is_less st.stage

-- what is known of a byte
abbrev pub IsOpening : State → ℕ → Outcome → Type 0
IsOpening st b (leads to us) = (after_less to ≡ true → b ≡ 60) × (opens us ≡ true → after_less st ≡ true)
IsOpening st b (fails f) = Unit {0}

-- A character below 128.

less_low : ℕ → Bool
less_low c = not (is_less_kind (ascii_kind c)) || c == 60

all-less_low : all_under 128 less_low ≡ true
unfolding less_low ascii_kind
all-less_low = refl

kind-less : (b : ℕ) → b < 128 → is_less_kind (ascii_kind b) ≡ true → b ≡ 60
unfolding less_low
kind-less b low h = eqb-true b 60 (implied _ (b == 60) (under 128 less_low all-less_low b low) h)

less-returns : (s : Stage) → is_less s ≡ true → may_return s ≡ true → ⊥
less-returns stage.StartLess h k = false-true k
less-returns stage.PrologLess h k = false-true k
less-returns stage.Less h k = false-true k
less-returns s h k = false-true h

settled-opening : (s : Stage) (r r1 : Bool) (b : ℕ) (t : Turn) → (to_less t ≡ true → b ≡ 60) → (opens_tag t ≡ true → is_less s ≡ true)
    → IsOpening (at s pending.Nothing r) b (settled r1 t)
settled-opening s r r1 b (goes t) h k = (h, λ e. false-true e)
settled-opening s r r1 b (tells_and_goes us t) h k = (h, k)
settled-opening s r r1 b (stops f) h k = tt

ascii-opening : (s : Stage) (r : Bool) (b : ℕ) → b < 128 → calm (at s pending.Nothing r) ≡ true
    → IsOpening (at s pending.Nothing r) b (turn_ascii (at s pending.Nothing r) b)
unfolding turn_ascii
ascii-opening s r b low h =
    cond_both (r && b == 10) _ _ (IsOpening (at s pending.Nothing r) b)
    (λ e. (λ l. absurd (less-returns s l (calm-was r s h (and_parts r (b == 10) e).0)), λ l. false-true l))
    (λ f. cond_both (b == 13) _ _ (IsOpening (at s pending.Nothing r) b)
    (λ e. let known = moves-ascii s (ascii_kind 10) 10 in settled-opening s r true b (ascii s (ascii_kind 10) 10)
    (λ l. absurd (space-less (implied _ _ known.4 l))) (λ l. implied _ _ known.5 l))
    (λ g. let known = moves-ascii s (ascii_kind b) b in settled-opening s r false b (ascii s (ascii_kind b) b) (λ l. kind-less b low (implied _ _ known.4 l))
    (λ l. implied _ _ known.5 l)))
  where
    space-less : is_less_kind (ascii_kind 10) ≡ true → ⊥
    space-less e = let bad : false ≡ true = ap (λ (x : ℕ). x == 60) (kind-less 10 (ltb-true 10 128 refl) e) in false-true bad

-- A character from 128 on.

no-less : (s : Stage) → is_less (through s) ≡ true → ⊥
unfolding through
no-less (stage.Bracketed b) h = false-true h
no-less (stage.CdataBracketed b) h = false-true h
no-less (stage.Colon r) h = false-true h
no-less stage.StartLess h = false-true h
no-less stage.PrologLess h = false-true h
no-less stage.Less h = false-true h
no-less stage.EndTagMark h = false-true h
no-less stage.InTag h = false-true h
no-less s h = false-true h

abbrev IsSilent : Stage → Pending → Type 0
IsSilent s p = (b n : ℕ) → (opens (byte_told (voice s) p b) ≡ true → (is_nothing p && is_less s) ≡ true)
    × (opens (byte_told (voice s) p b ++ end_told (voice s) n) ≡ true → (is_nothing p && is_less s) ≡ true)

silent : (s : Stage) (p : Pending) → IsSilent s p
unfolding voice
silent stage.StartLess pending.Nothing = λ b n. (λ e. refl, λ e. refl)
silent stage.StartLess p = λ b n. (λ e. false-true e, λ e. false-true e)
silent stage.PrologLess pending.Nothing = λ b n. (λ e. refl, λ e. refl)
silent stage.PrologLess p = λ b n. (λ e. false-true e, λ e. false-true e)
silent stage.Less pending.Nothing = λ b n. (λ e. refl, λ e. refl)
silent stage.Less p = λ b n. (λ e. false-true e, λ e. false-true e)
silent stage.EndTagMark pending.Nothing = λ b n. (λ e. false-true e, λ e. false-true e)
silent stage.EndTagMark p = λ b n. (λ e. false-true e, λ e. false-true e)
silent stage.InTag pending.Nothing = λ b n. (λ e. false-true e, λ e. false-true e)
silent stage.InTag p = λ b n. (λ e. false-true e, λ e. false-true e)
silent (stage.Name StartTag h) pending.Nothing = λ b n. (λ e. false-true e, λ e. false-true e)
silent (stage.Name StartTag h) p = λ b n. (λ e. false-true e, λ e. false-true e)
silent (stage.Name EndTag h) pending.Nothing = λ b n. (λ e. false-true e, λ e. false-true e)
silent (stage.Name EndTag h) p = λ b n. (λ e. false-true e, λ e. false-true e)
silent (stage.Name Attribute h) pending.Nothing = λ b n. (λ e. false-true e, λ e. false-true e)
silent (stage.Name Attribute h) p = λ b n. (λ e. false-true e, λ e. false-true e)
silent (stage.Colon StartTag) pending.Nothing = λ b n. (λ e. false-true e, λ e. false-true e)
silent (stage.Colon StartTag) p = λ b n. (λ e. false-true e, λ e. false-true e)
silent (stage.Colon EndTag) pending.Nothing = λ b n. (λ e. false-true e, λ e. false-true e)
silent (stage.Colon EndTag) p = λ b n. (λ e. false-true e, λ e. false-true e)
silent (stage.Colon Attribute) pending.Nothing = λ b n. (λ e. false-true e, λ e. false-true e)
silent (stage.Colon Attribute) p = λ b n. (λ e. false-true e, λ e. false-true e)
silent (stage.Text Words) p = λ b n. (λ e. false-true e, λ e. false-true e)
silent (stage.Text (Value q)) p = λ b n. (λ e. false-true e, λ e. false-true e)
silent (stage.CdataBracketed One) p = λ b n. (λ e. false-true e, λ e. false-true e)
silent (stage.CdataBracketed Many) p = λ b n. (λ e. false-true e, λ e. false-true e)
silent s p = λ b n. (λ e. false-true e, λ e. false-true e)

begun-not : (q p : Pending) (b : ℕ) (l : Bool) → bytes_of q ≡ bytes_of p ++ b ∷ [] → (is_nothing q && l) ≡ true → ⊥
begun-not pending.Nothing p b l e h = no-end (bytes_of p) b (sym e)
  where
    no-end : (bs : List ℕ) (b : ℕ) → bs ++ b ∷ [] ≡ [] → ⊥
    no-end [] b e = cons_not_nil b [] e
    no-end (x ∷ bs) b e = cons_not_nil x (bs ++ b ∷ []) e
begun-not (pending.One x) p b l e h = false-true h
begun-not (pending.Two x y) p b l e h = false-true h
begun-not (pending.Three x y z) p b l e h = false-true h

wide-opening : (s : Stage) (p : Pending) (r : Bool) (b : ℕ) (x : Reach) → Spelt (bytes_of p ++ b ∷ []) x → IsOpening (at s p r) b (turn_wide (at s p r) b x)
unfolding turn_wide
wide-opening s p r b (Begun q low high) spelt =
    cond_both (has_between (class_of (allowed_at s)) low high) _ _ (IsOpening (at s p r) b)
    (λ e. (λ l. absurd (begun-not q p b (is_less s) spelt.0 l), (silent s p b 0).0)) (λ e. tt)
wide-opening s p r b (Whole n) spelt =
    cond_both (has_between (class_of (allowed_at s)) n n) _ _ (IsOpening (at s p r) b) (λ e. (λ l. absurd (no-less s l), (silent s p b n).1)) (λ e. tt)
wide-opening s p r b Broken spelt = tt

pub turn-opening : (st : State) (b : ℕ) → calm st ≡ true → IsOpening st b (turn st b)
turn-opening st b h = led st.stage st.pending st.returned b h
  where
    led : (s : Stage) (p : Pending) (r : Bool) (b : ℕ) → calm (at s p r) ≡ true → IsOpening (at s p r) b (turn (at s p r) b)
    led s pending.Nothing r b h =
        cond_both (nat_lt b 128) (turn_ascii (at s pending.Nothing r) b) (turn_wide (at s pending.Nothing r) b (reach pending.Nothing b))
        (IsOpening (at s pending.Nothing r) b)
        (λ e. ascii-opening s r b (ltb-true b 128 e) h) (λ e. wide-opening s pending.Nothing r b (reach pending.Nothing b) (reach-spelt pending.Nothing b))
    led s p r b h = wide-opening s p r b (reach p b) (reach-spelt p b)

-- The nesting.

cond-none : (t : Bool) (n : Nest) → in_item_nest n ≡ false → in_item_nest (cond t n lost) ≡ true → ⊥
cond-none true n h k = let bad : true ≡ false = sym k ∙ h in cc
cond-none false n h k = false-true k

root-opens : (t : Token) → in_item_nest (before_root t) ≡ true → opens (t ∷ []) ≡ true
root-opens (token.TagOpens b) h = refl
root-opens t h = false-true h

content-opens : (r : Rules) (m : RawName) (t : Token) → in_item_nest (in_content r m [] t) ≡ true → opens (t ∷ []) ≡ true
content-opens r m (token.TagOpens b) h = refl
content-opens r m (token.Word c) h = absurd (cond-none (may_stand r [] c) (inside (m ∷ [])) refl h)
content-opens r m (token.CloseOpens b) h = absurd (cond-none (b == m.0) (closing [] m.1) refl h)
content-opens r m t h = false-true h

one-opens : (r : Rules) (n : Nest) (t : Token) → in_item_nest n ≡ false → in_item_nest (nest r n t) ≡ true → opens (t ∷ []) ≡ true
unfolding nest
one-opens r start token.Declaration h k = false-true k
one-opens r start t h k = root-opens t k
one-opens r declared t h k = root-opens t k
one-opens r (inside []) t h k = false-true k
one-opens r (inside (m ∷ [])) t h k = content-opens r m t k
one-opens r (inside (m ∷ x ∷ st)) t h k = absurd (let bad : true ≡ false = h in cc)
one-opens r (naming st n) t h k = absurd (let bad : true ≡ false = h in cc)
one-opens r (in_tag st n i) t h k = absurd (let bad : true ≡ false = h in cc)
one-opens r (naming_attribute st n i) t h k = absurd (let bad : true ≡ false = h in cc)
one-opens r (in_value st n i) t h k = absurd (let bad : true ≡ false = h in cc)
one-opens r (closing (x ∷ st) m) t h k = absurd (let bad : true ≡ false = h in cc)
one-opens r (closing [] []) token.CloseEnds h k = false-true k
one-opens r (closing [] []) t h k = false-true k
one-opens r (closing [] (x ∷ m)) (token.NameByte y) h k = absurd (cond-none (y == x) (closing [] m) refl k)
one-opens r (closing [] (x ∷ m)) t h k = false-true k
one-opens r lost t h k = false-true k

word-stays : (r : Rules) (n : Nest) (c : ℕ) → in_item_nest n ≡ false → in_item_nest (nest r n (token.Word c)) ≡ false
word-stays r n c h = by (in_item_nest (nest r n (token.Word c))) refl
  where
    by : (t : Bool) → in_item_nest (nest r n (token.Word c)) ≡ t → t ≡ false
    by false e = refl
    by true e = false-true (one-opens r n (token.Word c) h e)

words-stay : (r : Rules) (us : List Token) (n : Nest) → are_words us ≡ true → in_item_nest n ≡ false → in_item_nest (nest_all r n us) ≡ false
words-stay r [] n w h = h
words-stay r (token.Word c ∷ us) n w h = words-stay r us (nest r n (token.Word c)) w (word-stays r n c h)
words-stay r (u ∷ us) n w h = false-true w

pub few-opens : (r : Rules) (n : Nest) (us : List Token) → is_few us ≡ true → in_item_nest n ≡ false → in_item_nest (nest_all r n us) ≡ true → opens us ≡ true
few-opens r n [] f h k = absurd (let bad : true ≡ false = sym k ∙ h in cc)
few-opens r n (t ∷ []) f h k = one-opens r n t h k
few-opens r n (t ∷ u ∷ us) f h k = absurd (let bad : true ≡ false = sym k ∙ words-stay r (t ∷ u ∷ us) n f h in cc)

-- Frames.

abbrev pub AfterLess : Frame → Type 0
AfterLess (open_at st n) = after_less st ≡ true
AfterLess f = ⊥

pub placed-item : (r : Rules) (s : State) (k : Nest) → in_item (placed r s k) ≡ true → in_item_nest k ≡ true
placed-item r s k h = by (placed-cases r s k)
  where
    same : (f : Frame) → placed r s k ≡ f → in_item f ≡ true
    same f e = ap in_item (sym e) ∙ h

    by : Placed r s k → in_item_nest k ≡ true
    by (inl o) = same (open_at s k) o
    by (inr (inl (o, is))) = false-true (same ended o)
    by (inr (inr o)) = false-true (same broken o)

-- a byte after which a header or top element is open, and before which none was, comes after a `<`
pub opens-after : (r : Rules) (f : Frame) (b : ℕ) → Sound r f → in_item f ≡ false → in_item (frame_next r f b) ≡ true → AfterLess f
opens-after r (open_at st n) b s h k = by (turn st b) refl k (turn-opening st b s.calm_is)
  where
    by : (o : Outcome) → turn st b ≡ o → in_item (frame_settled r n o) ≡ true → IsOpening st b o → after_less st ≡ true
    by (leads to us) e k l = l.1 (few-opens r n us (turn-few st to b us e) h (placed-item r to (nest_all r n us) k))
    by (fails f) e k l = false-true k
opens-after r ended b s h k = absurd (cond_both _ ended broken (λ (f : Frame). in_item f ≡ true → ⊥) (λ e x. false-true x) (λ e x. false-true x) k)
opens-after r broken b s h k = false-true k

placed-less : (r : Rules) (s : State) (k : Nest) → AfterLess (placed r s k) → after_less s ≡ true
placed-less r s k h = by (placed-cases r s k)
  where
    by : Placed r s k → after_less s ≡ true
    by (inl o) = subst AfterLess o h
    by (inr (inl (o, is))) = absurd (subst AfterLess o h)
    by (inr (inr o)) = absurd (subst AfterLess o h)

-- and that byte is a `<`
pub less-before : (r : Rules) (f : Frame) (b : ℕ) → Sound r f → AfterLess (frame_next r f b) → b ≡ 60
less-before r (open_at st n) b s h = by (turn st b) refl h (turn-opening st b s.calm_is)
  where
    by : (o : Outcome) → turn st b ≡ o → AfterLess (frame_settled r n o) → IsOpening st b o → b ≡ 60
    by (leads to us) e k l = l.0 (placed-less r to (nest_all r n us) k)
    by (fails f) e k l = absurd k
less-before r ended b s h = absurd (cond_both _ ended broken (λ (f : Frame). AfterLess f → ⊥) (λ e x. x) (λ e x. x) h)
less-before r broken b s h = absurd h
