-- Markup that ends no tag.
use Rattle.std.proofs.Common.{◌≡◌, inl, inr, ℕ, ◌+◌, ◌-◌, ◌<◌, List, [], ◌∷◌, length, take, drop, get_or, refl, sym, ap}
use Rattle.std.proofs.Common.{◌∙◌, subst, Bool, true, false, not, cond, ◌||◌, ◌&&◌, ◌==◌, nat_lt, nat_le, arith}
use Rattle.std.specs.Prelude.{Option, None, Some, if◌then◌else◌}
use Rattle.std.specs.Option.{is_some}
use Rattle.std.proofs.lemmas.Bool.{and_parts, and_right, leb-true, eqb-true, agree_below_at, or_cases}
use Rattle.std.proofs.lemmas.List.{take_more, take_rest}
use Rattle.std.proofs.Math.Seq.{take-add}
use Rattle.stream_lex.specs.declared.Token.{Token}
use Rattle.stream_lex.specs.declared.Token.TheVariants as token
use Rattle.stream_lex.specs.declared.characters.Pending.TheVariants as pending
use Rattle.stream_lex.specs.declared.stages.Context.TheVariants.{Words, Value}
use Rattle.stream_lex.specs.declared.stages.Half.TheVariants.{Prefix, Local}
use Rattle.stream_lex.specs.declared.stages.NameOwner.{NameOwner}
use Rattle.stream_lex.specs.declared.stages.NameOwner.TheVariants.{StartTag, EndTag, Attribute}
use Rattle.stream_lex.specs.declared.stages.Quote.{Quote}
use Rattle.stream_lex.specs.declared.stages.Quote.TheVariants.{Double, Single}
use Rattle.stream_lex.specs.declared.stages.Stage.{Stage}
use Rattle.stream_lex.specs.declared.stages.Stage.TheVariants as stage
use Rattle.stream_lex.specs.declared.stages.State.{State}
use Rattle.stream_lex.specs.grammar.Grammar.{first_name_token}
use Rattle.stream_lex.specs.grammar.Kinds.{ascii_kind, is_name_start}
use Rattle.stream_lex.specs.machine.Machine.{Turn, ascii, in_name, in_tag_end, after_less}
use Rattle.stream_lex.specs.machine.Machine.{yields as tells_and_goes}
use Rattle.stream_lex.specs.machine.Machine.{in_tag as in_tag_turn}
use Rattle.stream_lex.specs.machine.Machine.{fault as turn_fault}
use Rattle.stream_lex.specs.machine.Turns.{leads, at, turn, turn_ascii}
use Rattle.stream_grammar.specs.declared.rules.Rules.{Rules}
use Rattle.stream_grammar.specs.grammar.Trees.{RawName}
use Rattle.stream_grammar.specs.machine.Nesting.{Nest, inside, naming, in_tag, naming_attribute, in_value as valuing, closing, lost, nest}
use Rattle.stream_grammar.specs.machine.Framing.{Frame, open_at, placed}
use Rattle.stream_grammar.specs.machine.Framing.{settled as framed}
use Rattle.stream_grammar.specs.machine.Ends.{tokens_told, in_item_nest}
use Rattle.stream_grammar.specs.machine.Building.{Building, build, tag_judged}
use Rattle.stream_grammar.specs.machine.Gathering.{gather}
use Rattle.stream_grammar.specs.grammar.Bounds.{rules_of}
use Rattle.stream_frames.specs.Markup.{LeadsBy, only_at, after_part, silent_stage, may_be_silent, is_silent, stage_or, silenced, is_name_head}
use Rattle.stream_frames.specs.Markup.{is_less, is_end_mark, is_in_tag, is_value_awaited, quote_byte, quote_of, closes_by, now_closing, awaits_value}
use Rattle.stream_frames.specs.Markup.{now_in_value, now_in_tag, begins_by, now_naming, attributed_by, now_attributed}
use Rattle.stream_frames.specs.Runs.{is_between_characters, open_quote, Leads}
use Rattle.stream_frames.proofs.RunLemmas.{none_led, mark_led, led_by, led_then, implied, turned_to, between-state}
use Rattle.stream_frames.proofs.RunValues.{value_at, value-state}

abbrev pub stage_at : Stage → State
stage_at s = at s pending.Nothing false

pub state_at : (st : State) (s : Stage) → is_between_characters st ≡ true → st.stage ≡ s → st ≡ stage_at s
state_at st s h e = between-state st h ∙ ap stage_at e

-- Bytes that tell nothing.

only-turn : (s u t : Stage) (b k : ℕ) → turn (stage_at s) k ≡ leads (stage_at u) [] → only_at k u b ≡ Some t → turn (stage_at s) b ≡ leads (stage_at t) []
only-turn s u t b k e h = by (b == k) refl h
  where
    by : (x : Bool) → (b == k) ≡ x → (if x then Some u else None) ≡ Some t → turn (stage_at s) b ≡ leads (stage_at t) []
    by true is h = ap (λ (i : ℕ). turn (stage_at s) i) (eqb-true b k is) ∙ (e ∙ ap (λ (v : Stage). leads (stage_at v) []) (let e1 : Some u ≡ Some t = h in cc))
    by false is h = absurd (let bad : None ≡ Some t = h in cc)

part-turn : (s t : Stage) (b : ℕ) → turn (stage_at s) 32 ≡ leads (stage_at stage.InTag) [] → turn (stage_at s) 47 ≡ leads (stage_at stage.EmptyTagMark) []
    → after_part b ≡ Some t → turn (stage_at s) b ≡ leads (stage_at t) []
part-turn s t b e1 e2 h = by (b == 32) refl h
  where
    by : (x : Bool) → (b == 32) ≡ x → (if x then Some stage.InTag else if b == 47 then Some stage.EmptyTagMark else None) ≡ Some t
        → turn (stage_at s) b ≡ leads (stage_at t) []
    by true is h = ap (λ (i : ℕ). turn (stage_at s) i) (eqb-true b 32 is)
        ∙ (e1 ∙ ap (λ (v : Stage). leads (stage_at v) []) (let e : Some stage.InTag ≡ Some t = h in cc))
    by false is h = only-turn s stage.EmptyTagMark t b 47 e2 h

less-slash : turn (stage_at stage.Less) 47 ≡ leads (stage_at stage.EndTagMark) []
unfolding turn_ascii ascii_kind ascii in_tag_turn
less-slash = refl

pub words-less : turn (stage_at (stage.Text Words)) 60 ≡ leads (stage_at stage.Less) []
unfolding turn_ascii ascii_kind ascii
words-less = refl

start-space : (h : _) → turn (stage_at (stage.Name StartTag h)) 32 ≡ leads (stage_at stage.InTag) []
unfolding turn_ascii ascii_kind ascii in_name
start-space Prefix = refl
start-space Local = refl

start-slash : (h : _) → turn (stage_at (stage.Name StartTag h)) 47 ≡ leads (stage_at stage.EmptyTagMark) []
unfolding turn_ascii ascii_kind ascii in_name
start-slash Prefix = refl
start-slash Local = refl

attribute-equals : (h : _) → turn (stage_at (stage.Name Attribute h)) 61 ≡ leads (stage_at stage.ValueAwaited) []
unfolding turn_ascii ascii_kind ascii in_name
attribute-equals Prefix = refl
attribute-equals Local = refl

ended-space : turn (stage_at stage.ValueEnded) 32 ≡ leads (stage_at stage.InTag) []
unfolding turn_ascii ascii_kind ascii in_tag_turn
ended-space = refl

ended-slash : turn (stage_at stage.ValueEnded) 47 ≡ leads (stage_at stage.EmptyTagMark) []
unfolding turn_ascii ascii_kind ascii in_tag_turn
ended-slash = refl

tag-slash : turn (stage_at stage.InTag) 47 ≡ leads (stage_at stage.EmptyTagMark) []
unfolding turn_ascii ascii_kind ascii in_tag_turn
tag-slash = refl

silent-turn : (s t : Stage) (b : ℕ) → silent_stage s b ≡ Some t → turn (stage_at s) b ≡ leads (stage_at t) []
silent-turn (stage.Text Words) t b h = only-turn (stage.Text Words) stage.Less t b 60 words-less h
silent-turn stage.Less t b h = only-turn stage.Less stage.EndTagMark t b 47 less-slash h
silent-turn (stage.Name StartTag i) t b h = part-turn (stage.Name StartTag i) t b (start-space i) (start-slash i) h
silent-turn (stage.Name Attribute i) t b h = only-turn (stage.Name Attribute i) stage.ValueAwaited t b 61 (attribute-equals i) h
silent-turn stage.ValueEnded t b h = part-turn stage.ValueEnded t b ended-space ended-slash h
silent-turn stage.InTag t b h = only-turn stage.InTag stage.EmptyTagMark t b 47 tag-slash h
silent-turn s t b h = absurd (let bad : None ≡ Some t = h in cc)

some-of : (s : Stage) (o : Option Stage) → is_some o ≡ true → o ≡ Some (stage_or s o)
some-of s None h = absurd (let bad : false ≡ true = h in cc)
some-of s (Some t) h = refl

-- where whatever the state is this nesting goes on and is in an item
silent-open : (r : Rules) (st : State) (n : Nest) (byte : ℕ) (b : Building) → is_between_characters st ≡ true → is_some (silent_stage st.stage byte) ≡ true
    → ((r : Rules) (u : State) → placed r u n ≡ open_at u n) → in_item_nest n ≡ true → LeadsBy r (open_at st n) b (byte ∷ []) (silenced (open_at st n) byte) b
silent-open r st n byte b between is goes within =
    let t : Stage = stage_or st.stage (silent_stage st.stage byte) in
    let turns : turn (stage_at st.stage) byte ≡ leads (stage_at t) [] = silent-turn st.stage t byte (some-of st.stage (silent_stage st.stage byte) is) in
    subst (λ (x : State). LeadsBy r (open_at x n) b (byte ∷ []) (open_at (stage_at t) n) b) (sym (between-state st between))
    (mark_led r (open_at (stage_at st.stage) n) (open_at (stage_at t) n) b b byte [] (λ l by. record {
      framed = ap (framed (rules_of l) n) turns ∙ goes (rules_of l) (stage_at t);
      told = ap tokens_told turns;
      built = refl;
      named = refl;
      unbroken = refl;
      still = refl;
      within = within;
      same = refl;
    }))

silent-by : (r : Rules) (st : State) (n : Nest) (byte : ℕ) (b : Building)
    → ((may_be_silent n && is_between_characters st) && is_some (silent_stage st.stage byte)) ≡ true
    → ((r : Rules) (u : State) → placed r u n ≡ open_at u n) → in_item_nest n ≡ true → LeadsBy r (open_at st n) b (byte ∷ []) (silenced (open_at st n) byte) b
silent-by r st n byte b h goes within =
    let p = and_parts (may_be_silent n && is_between_characters st) (is_some (silent_stage st.stage byte)) h in
    let q = and_parts (may_be_silent n) (is_between_characters st) p.0 in silent-open r st n byte b q.1 p.1 goes within

silent-at : (r : Rules) (f : Frame) (byte : ℕ) (b : Building) → is_silent f byte ≡ true → LeadsBy r f b (byte ∷ []) (silenced f byte) b
silent-at r (open_at st (inside (m ∷ x ∷ ms))) byte b h = silent-by r st (inside (m ∷ x ∷ ms)) byte b h (λ r u. refl) refl
silent-at r (open_at st (naming (x ∷ ms) m)) byte b h = silent-by r st (naming (x ∷ ms) m) byte b h (λ r u. refl) refl
silent-at r (open_at st (in_tag (x ∷ ms) m i)) byte b h = silent-by r st (in_tag (x ∷ ms) m i) byte b h (λ r u. refl) refl
silent-at r (open_at st (naming_attribute ms m i)) byte b h = silent-by r st (naming_attribute ms m i) byte b h (λ r u. refl) refl
silent-at r f byte b h = absurd (let bad : false ≡ true = h in cc)

pub silent_led : (r : Rules) (f g : Frame) (byte : ℕ) → is_silent f byte ≡ true → g ≡ silenced f byte → (b : Building) → LeadsBy r f b (byte ∷ []) g b
silent_led r f g byte h is b = subst (λ (x : Frame). LeadsBy r f b (byte ∷ []) x b) (sym is) (silent-at r f byte b h)

-- The first byte of a name.

abbrev fits_head : ℕ → Bool
fits_head b = not (is_name_head b) || ((is_name_start (ascii_kind b) && nat_lt b 128) && not (b == 13))

head-fits : (b : ℕ) → b < 123 → fits_head b ≡ true
unfolding ascii_kind
head-fits b h = agree_below_at fits_head (λ x. true) 123 b refl h

head-below : (b : ℕ) → is_name_head b ≡ true → b < 123
head-below b h = elim (or_cases (nat_le 97 b && nat_le b 122) _ h) [
  | inl u ↦ let e = leb-true b 122 (and_parts (nat_le 97 b) _ u).1 in omega (arith, e)
  | inr t ↦ elim (or_cases (nat_le 65 b && nat_le b 90) _ t) [
    | inl u ↦ let e = leb-true b 90 (and_parts (nat_le 65 b) _ u).1 in omega (arith, e)
    | inr u ↦ let e = eqb-true b 95 u in omega (arith, e)
  ]
]

head-of : (b : ℕ) → is_name_head b ≡ true → (is_name_start (ascii_kind b) ≡ true) × (nat_lt b 128 ≡ true) × ((b == 13) ≡ false)
head-of b h =
    let p = implied (is_name_head b) (is_name_start (ascii_kind b) && nat_lt b 128) (b == 13) h (head-fits b (head-below b h)) in
    let q = and_parts (is_name_start (ascii_kind b)) (nat_lt b 128) p.0 in (q.0, q.1, p.1)

head-turn : (s : Stage) (owner : NameOwner) (b : ℕ) (other : Turn) → is_name_head b ≡ true
    → ascii s (ascii_kind b) b ≡ cond (is_name_start (ascii_kind b)) (tells_and_goes (first_name_token owner b ∷ []) (stage.Name owner Prefix)) other
    → turn (stage_at s) b ≡ leads (stage_at (stage.Name owner Prefix)) (first_name_token owner b ∷ [])
head-turn s owner b other h e =
    turned_to s (stage.Name owner Prefix) b (first_name_token owner b ∷ []) (head-of b h).1 (head-of b h).2
    (e ∙ ap (λ (t : Bool). cond t (tells_and_goes (first_name_token owner b ∷ []) (stage.Name owner Prefix)) other) (head-of b h).0)

less-head : (b : ℕ) → is_name_head b ≡ true → turn (stage_at stage.Less) b ≡ leads (stage_at (stage.Name StartTag Prefix)) (token.TagOpens b ∷ [])
unfolding ascii in_tag_turn
less-head b h = head-turn stage.Less StartTag b (after_less (ascii_kind b)) h refl

mark-head : (b : ℕ) → is_name_head b ≡ true → turn (stage_at stage.EndTagMark) b ≡ leads (stage_at (stage.Name EndTag Prefix)) (token.CloseOpens b ∷ [])
unfolding ascii in_tag_turn
mark-head b h = head-turn stage.EndTagMark EndTag b turn_fault h refl

tag-head : (b : ℕ) → is_name_head b ≡ true → turn (stage_at stage.InTag) b ≡ leads (stage_at (stage.Name Attribute Prefix)) (token.AttrOpens b ∷ [])
unfolding ascii in_tag_turn
tag-head b h = head-turn stage.InTag Attribute b (in_tag_end (ascii_kind b)) h refl

less-is : (s : Stage) → is_less s ≡ true → s ≡ stage.Less
less-is stage.Less h = refl
less-is s h = absurd (let bad : false ≡ true = h in cc)

end-mark-is : (s : Stage) → is_end_mark s ≡ true → s ≡ stage.EndTagMark
end-mark-is stage.EndTagMark h = refl
end-mark-is s h = absurd (let bad : false ≡ true = h in cc)

in-tag-is : (s : Stage) → is_in_tag s ≡ true → s ≡ stage.InTag
in-tag-is stage.InTag h = refl
in-tag-is s h = absurd (let bad : false ≡ true = h in cc)

awaited-is : (s : Stage) → is_value_awaited s ≡ true → s ≡ stage.ValueAwaited
awaited-is stage.ValueAwaited h = refl
awaited-is s h = absurd (let bad : false ≡ true = h in cc)

-- a byte that tells one token
pub told_led : (r : Rules) (st s : State) (n m : Nest) (byte : ℕ) (t : Token) (b c : Building)
    → turn st byte ≡ leads s (t ∷ []) → nest r n t ≡ m → placed r s m ≡ open_at s m → in_item_nest m ≡ true → build b t ≡ c → tag_judged b t ≡ None
    → c.item ≡ b.item
    → LeadsBy r (open_at st n) b (byte ∷ []) (open_at s m) c
told_led r st s n m byte t b c turns nests goes within made judged same =
    mark_led r (open_at st n) (open_at s m) b c byte (t ∷ []) (λ l by. record {
      framed = ap (λ (x : Rules). framed x n (turn st byte)) by ∙ (ap (framed r n) turns ∙ (ap (placed r s) nests ∙ goes));
      told = ap tokens_told turns;
      built = made;
      named = judged;
      unbroken = refl;
      still = refl;
      within = within;
      same = same;
    })

-- The name of an end tag.

closing-nest : (r : Rules) (m x : RawName) (ms : List RawName) (b : ℕ) → (b == m.0) ≡ true
    → nest r (inside (m ∷ x ∷ ms)) (token.CloseOpens b) ≡ closing (x ∷ ms) m.1
unfolding nest
closing-nest r m x ms b e = ap (λ (t : Bool). cond t (closing (x ∷ ms) m.1) lost) e

closing-placed : (r : Rules) (x : RawName) (ms : List RawName) (left : List ℕ)
    → placed r (stage_at (stage.Name EndTag Prefix)) (closing (x ∷ ms) left) ≡ open_at (stage_at (stage.Name EndTag Prefix)) (closing (x ∷ ms) left)
closing-placed r x ms [] = refl
closing-placed r x ms (c ∷ left) = refl

closing-at : (r : Rules) (f : Frame) (byte : ℕ) (b : Building) → closes_by f byte ≡ true → LeadsBy r f b (byte ∷ []) (now_closing f) b
closing-at r (open_at st (inside (m ∷ x ∷ ms))) byte b h =
    let p = and_parts (is_end_mark st.stage && is_between_characters st) (nat_lt 1 (length (m ∷ x ∷ ms)) && ((byte == m.0) && is_name_head byte)) h in
    let q = and_parts (is_end_mark st.stage) (is_between_characters st) p.0 in
    let u = and_parts (byte == m.0) (is_name_head byte) (and_parts (nat_lt 1 (length (m ∷ x ∷ ms))) ((byte == m.0) && is_name_head byte) p.1).1 in
    subst (λ (y : State). LeadsBy r (open_at y (inside (m ∷ x ∷ ms))) b (byte ∷ []) (open_at (stage_at (stage.Name EndTag Prefix)) (closing (x ∷ ms) m.1)) b)
    (sym (state_at st stage.EndTagMark q.1 (end-mark-is st.stage q.0)))
    (told_led r (stage_at stage.EndTagMark) (stage_at (stage.Name EndTag Prefix)) (inside (m ∷ x ∷ ms)) (closing (x ∷ ms) m.1) byte (token.CloseOpens byte) b b
    (mark-head byte u.1) (closing-nest r m x ms byte u.0) (closing-placed r x ms m.1) refl refl refl refl)
closing-at r (open_at st (inside [])) byte b h = absurd (let bad : false ≡ true = sym (and_right (is_end_mark st.stage && is_between_characters st) false refl)
    ∙ h in cc)
closing-at r (open_at st (inside (m ∷ []))) byte b h =
    absurd (let bad : false ≡ true = sym (and_right (is_end_mark st.stage && is_between_characters st) false refl) ∙ h in cc)
closing-at r f byte b h = absurd (let bad : false ≡ true = h in cc)

pub closing_led : (r : Rules) (f g : Frame) (byte : ℕ) → closes_by f byte ≡ true → g ≡ now_closing f → (b : Building) → LeadsBy r f b (byte ∷ []) g b
closing_led r f g byte h is b = subst (λ (x : Frame). LeadsBy r f b (byte ∷ []) x b) (sym is) (closing-at r f byte b h)

-- The quote before a value.

opens-single : turn (stage_at stage.ValueAwaited) 39 ≡ leads (stage_at (stage.Text (Value Single))) (token.ValueOpens ∷ [])
unfolding turn_ascii ascii_kind ascii in_tag_turn
opens-single = refl

opens-double : turn (stage_at stage.ValueAwaited) 34 ≡ leads (stage_at (stage.Text (Value Double))) (token.ValueOpens ∷ [])
unfolding turn_ascii ascii_kind ascii in_tag_turn
opens-double = refl

opens-turn : (b : ℕ) (q : Quote) → quote_of b ≡ Some q → turn (stage_at stage.ValueAwaited) b ≡ leads (stage_at (stage.Text (Value q))) (token.ValueOpens ∷ [])
opens-turn b q h = by (b == 39) refl h
  where
    at-quote : (k : ℕ) (u : Quote) → b ≡ k → turn (stage_at stage.ValueAwaited) k ≡ leads (stage_at (stage.Text (Value u))) (token.ValueOpens ∷ [])
        → Some u ≡ Some q → turn (stage_at stage.ValueAwaited) b ≡ leads (stage_at (stage.Text (Value q))) (token.ValueOpens ∷ [])
    at-quote k u is e h = ap (λ (i : ℕ). turn (stage_at stage.ValueAwaited) i) is
        ∙ (e ∙ ap (λ (v : Quote). leads (stage_at (stage.Text (Value v))) (token.ValueOpens ∷ [])) (let e1 : Some u ≡ Some q = h in cc))

    double : (x : Bool) → (b == 34) ≡ x → (if x then Some Double else None) ≡ Some q
        → turn (stage_at stage.ValueAwaited) b ≡ leads (stage_at (stage.Text (Value q))) (token.ValueOpens ∷ [])
    double true is h = at-quote 34 Double (eqb-true b 34 is) opens-double h
    double false is h = absurd (let bad : None ≡ Some q = h in cc)

    by : (x : Bool) → (b == 39) ≡ x → (if x then Some Single else if b == 34 then Some Double else None) ≡ Some q
        → turn (stage_at stage.ValueAwaited) b ≡ leads (stage_at (stage.Text (Value q))) (token.ValueOpens ∷ [])
    by true is h = at-quote 39 Single (eqb-true b 39 is) opens-single h
    by false is h = double (b == 34) refl h

value-nest : (r : Rules) (ms : List RawName) (m : RawName) (i : ℕ) → nest r (naming_attribute ms m i) token.ValueOpens ≡ valuing ms m i
unfolding nest
value-nest r ms m i = refl

value-at : (r : Rules) (f : Frame) (q : Quote) (byte : ℕ) (b : Building) → awaits_value f ≡ true → quote_of byte ≡ Some q
    → LeadsBy r f b (byte ∷ []) (now_in_value f q) b
value-at r (open_at st (naming_attribute ms m i)) q byte b h is =
    let p = and_parts (is_value_awaited st.stage) (is_between_characters st) h in
    subst (λ (y : State). LeadsBy r (open_at y (naming_attribute ms m i)) b (byte ∷ []) (open_at (value_at q) (valuing ms m i)) b)
    (sym (state_at st stage.ValueAwaited p.1 (awaited-is st.stage p.0)))
    (told_led r (stage_at stage.ValueAwaited) (value_at q) (naming_attribute ms m i) (valuing ms m i) byte token.ValueOpens b b (opens-turn byte q is)
    (value-nest r ms m i) refl refl refl refl refl)
value-at r f q byte b h is = absurd (let bad : false ≡ true = h in cc)

pub value_opened_led : (r : Rules) (f g : Frame) (q : Quote) (byte : ℕ) → awaits_value f ≡ true → quote_of byte ≡ Some q → g ≡ now_in_value f q → (b : Building)
    → LeadsBy r f b (byte ∷ []) g b
value_opened_led r f g q byte h e is b = subst (λ (x : Frame). LeadsBy r f b (byte ∷ []) x b) (sym is) (value-at r f q byte b h e)

-- The quote after it.

ends-turn : (q : Quote) → turn (value_at q) (quote_byte q) ≡ leads (stage_at stage.ValueEnded) (token.ValueEnds ∷ [])
unfolding turn_ascii ascii_kind ascii
ends-turn Double = refl
ends-turn Single = refl

ended-nest : (r : Rules) (ms : List RawName) (m : RawName) (i : ℕ) → nest r (valuing ms m i) token.ValueEnds ≡ in_tag ms m i
unfolding nest
ended-nest r ms m i = refl

ended-placed : (r : Rules) (ms : List RawName) (m : RawName) (i : ℕ)
    → placed r (stage_at stage.ValueEnded) (in_tag ms m i) ≡ open_at (stage_at stage.ValueEnded) (in_tag ms m i)
ended-placed r [] m i = refl
ended-placed r (x ∷ ms) m i = refl

ended-at : (r : Rules) (f : Frame) (q : Quote) (b : Building) → open_quote f ≡ Some q
    → LeadsBy r f b (quote_byte q ∷ []) (now_in_tag f) (record b { tag = gather b.tag token.ValueEnds })
ended-at r (open_at st (valuing ms m i)) q b h =
    subst (λ (y : State). LeadsBy r (open_at y (valuing ms m i)) b (quote_byte q ∷ []) (open_at (stage_at stage.ValueEnded) (in_tag ms m i))
    (record b { tag = gather b.tag token.ValueEnds })) (sym (value-state st q h))
    (told_led r (value_at q) (stage_at stage.ValueEnded) (valuing ms m i) (in_tag ms m i) (quote_byte q) token.ValueEnds b
    (record b { tag = gather b.tag token.ValueEnds }) (ends-turn q) (ended-nest r ms m i) (ended-placed r ms m i) refl refl refl refl)
ended-at r f q b h = absurd (let bad : None ≡ Some q = h in cc)

pub value_ended_led : (r : Rules) (f g : Frame) (q : Quote) (byte : ℕ) (b c : Building)
    → open_quote f ≡ Some q → byte ≡ quote_byte q → g ≡ now_in_tag f → c ≡ record b { tag = gather b.tag token.ValueEnds } → LeadsBy r f b (byte ∷ []) g c
value_ended_led r f g q byte b c h e is made =
    subst (λ (x : ℕ). LeadsBy r f b (x ∷ []) g c) (sym e)
    (subst (λ (x : Building). LeadsBy r f b (quote_byte q ∷ []) g x) (sym made)
    (subst (λ (x : Frame). LeadsBy r f b (quote_byte q ∷ []) x (record b { tag = gather b.tag token.ValueEnds })) (sym is) (ended-at r f q b h)))

-- The name of a start tag.

begun-nest : (r : Rules) (m : RawName) (ms : List RawName) (b : ℕ) → nat_lt (length ms) r.depth ≡ true
    → nest r (inside (m ∷ ms)) (token.TagOpens b) ≡ naming (m ∷ ms) (b, [])
unfolding nest
begun-nest r m ms b e = ap (λ (t : Bool). cond t (naming (m ∷ ms) (b, [])) lost) e

begun-at : (r : Rules) (f : Frame) (byte : ℕ) (b : Building) → begins_by r f byte ≡ true
    → LeadsBy r f b (byte ∷ []) (now_naming f byte) (record b { tag = gather b.tag (token.TagOpens byte) })
begun-at r (open_at st (inside (m ∷ ms))) byte b h =
    let p = and_parts (is_less st.stage && is_between_characters st) (nat_le (length (m ∷ ms)) r.depth && is_name_head byte) h in
    let q = and_parts (is_less st.stage) (is_between_characters st) p.0 in
    let u = and_parts (nat_le (length (m ∷ ms)) r.depth) (is_name_head byte) p.1 in
    subst (λ (y : State). LeadsBy r (open_at y (inside (m ∷ ms))) b (byte ∷ []) (open_at (stage_at (stage.Name StartTag Prefix)) (naming (m ∷ ms) (byte, [])))
    (record b { tag = gather b.tag (token.TagOpens byte) })) (sym (state_at st stage.Less q.1 (less-is st.stage q.0)))
    (told_led r (stage_at stage.Less) (stage_at (stage.Name StartTag Prefix)) (inside (m ∷ ms)) (naming (m ∷ ms) (byte, [])) byte (token.TagOpens byte) b
    (record b { tag = gather b.tag (token.TagOpens byte) })
    (less-head byte u.1) (begun-nest r m ms byte u.0) refl refl refl refl refl)
begun-at r (open_at st (inside [])) byte b h = absurd (let bad : false ≡ true = sym (and_right (is_less st.stage && is_between_characters st) false refl)
    ∙ h in cc)
begun-at r f byte b h = absurd (let bad : false ≡ true = h in cc)

pub tag_begun_led : (r : Rules) (f g : Frame) (byte : ℕ) (b c : Building)
    → begins_by r f byte ≡ true → g ≡ now_naming f byte → c ≡ record b { tag = record { name = byte ∷ []; attributes = []; attribute = []; value = [] } }
    → LeadsBy r f b (byte ∷ []) g c
tag_begun_led r f g byte b c h is made =
    subst (λ (x : Building). LeadsBy r f b (byte ∷ []) g x) (sym made)
    (subst (λ (x : Frame). LeadsBy r f b (byte ∷ []) x (record b { tag = gather b.tag (token.TagOpens byte) })) (sym is) (begun-at r f byte b h))

-- The name of an attribute.

first-nest : (r : Rules) (ms : List RawName) (m : RawName) (b : ℕ) → nat_lt 0 r.attributes ≡ true
    → nest r (naming ms m) (token.AttrOpens b) ≡ naming_attribute ms m 1
unfolding nest
first-nest r ms m b e = ap (λ (t : Bool). cond t (naming_attribute ms m 1) lost) e

next-nest : (r : Rules) (ms : List RawName) (m : RawName) (i b : ℕ) → nat_lt i r.attributes ≡ true
    → nest r (in_tag ms m i) (token.AttrOpens b) ≡ naming_attribute ms m (i + 1)
unfolding nest
next-nest r ms m i b e = ap (λ (t : Bool). cond t (naming_attribute ms m (i + 1)) lost) e

-- after so many attributes
attributed-in : (r : Rules) (st : State) (n : Nest) (ms : List RawName) (m : RawName) (i j byte : ℕ) (b : Building)
    → ((is_in_tag st.stage && is_between_characters st) && (nat_lt i r.attributes && is_name_head byte)) ≡ true
    → (nat_lt i r.attributes ≡ true → nest r n (token.AttrOpens byte) ≡ naming_attribute ms m j)
    → LeadsBy r (open_at st n) b (byte ∷ []) (open_at (stage_at (stage.Name Attribute Prefix)) (naming_attribute ms m j))
    (record b { tag = gather b.tag (token.AttrOpens byte) })
attributed-in r st n ms m i j byte b h nests =
    let p = and_parts (is_in_tag st.stage && is_between_characters st) (nat_lt i r.attributes && is_name_head byte) h in
    let q = and_parts (is_in_tag st.stage) (is_between_characters st) p.0 in
    let u = and_parts (nat_lt i r.attributes) (is_name_head byte) p.1 in
    subst (λ (y : State). LeadsBy r (open_at y n) b (byte ∷ []) (open_at (stage_at (stage.Name Attribute Prefix)) (naming_attribute ms m j))
    (record b { tag = gather b.tag (token.AttrOpens byte) })) (sym (state_at st stage.InTag q.1 (in-tag-is st.stage q.0)))
    (told_led r (stage_at stage.InTag) (stage_at (stage.Name Attribute Prefix)) n (naming_attribute ms m j) byte (token.AttrOpens byte) b
    (record b { tag = gather b.tag (token.AttrOpens byte) })
    (tag-head byte u.1) (nests u.0) refl refl refl refl refl)

attributed-at : (r : Rules) (f : Frame) (byte : ℕ) (b : Building) → attributed_by r f byte ≡ true
    → LeadsBy r f b (byte ∷ []) (now_attributed f) (record b { tag = gather b.tag (token.AttrOpens byte) })
attributed-at r (open_at st (naming ms m)) byte b h = attributed-in r st (naming ms m) ms m 0 1 byte b h (first-nest r ms m byte)
attributed-at r (open_at st (in_tag ms m i)) byte b h = attributed-in r st (in_tag ms m i) ms m i (i + 1) byte b h (next-nest r ms m i byte)
attributed-at r f byte b h = absurd (let bad : false ≡ true = h in cc)

pub attribute_begun_led : (r : Rules) (f g : Frame) (byte : ℕ) (b c : Building)
    → attributed_by r f byte ≡ true → g ≡ now_attributed f → c ≡ record b { tag = record b.tag { attribute = byte ∷ []; value = [] } }
    → LeadsBy r f b (byte ∷ []) g c
attribute_begun_led r f g byte b c h is made =
    subst (λ (x : Building). LeadsBy r f b (byte ∷ []) g x) (sym made)
    (subst (λ (x : Frame). LeadsBy r f b (byte ∷ []) x (record b { tag = gather b.tag (token.AttrOpens byte) })) (sym is) (attributed-at r f byte b h))

-- Runs and markup, one after another.

pub nothing_led_by : (r : Rules) (f g : Frame) (b c : Building) (bytes : List ℕ) → g ≡ f → c ≡ b → LeadsBy r f b (take 0 bytes) g c
nothing_led_by r f g b c bytes e1 e2 = led_by r f g b c (take 0 bytes) (none_led f g b c bytes e1 e2)

pub mark_then : (r s : Rules) (f g h : Frame) (b c d : Building) (bs : List ℕ) (i x : ℕ) → s ≡ r → LeadsBy r f b (take i bs) g c → i < length bs
    → LeadsBy s g c (get_or bs i x ∷ []) h d → LeadsBy r f b (take (i + 1) bs) h d
mark_then r s f g h b c d bs i x same led fits more =
    subst (λ (xs : List ℕ). LeadsBy r f b xs h d) (sym (take_more bs i x fits))
    (led_then r f g h b c d (take i bs) (get_or bs i x ∷ []) led (subst (λ (y : Rules). LeadsBy y g c (get_or bs i x ∷ []) h d) same more))

pub run_then : (r : Rules) (f g f1 h : Frame) (b c c1 d : Building) (bs : List ℕ) (i n : ℕ) → LeadsBy r f b (take i bs) g c → f1 ≡ g → c1 ≡ c
    → Leads f1 c1 (take n (take (length bs - i) (drop i bs))) h d → LeadsBy r f b (take (i + n) bs) h d
run_then r f g f1 h b c c1 d bs i n led e1 e2 more =
    let here : Leads g c (take n (drop i bs)) h d =
    subst (λ (xs : List ℕ). Leads g c (take n xs) h d) (take_rest bs i)
    (subst (λ (x : Frame). Leads x c (take n (take (length bs - i) (drop i bs))) h d) e1
    (subst (λ (x : Building). Leads f1 x (take n (take (length bs - i) (drop i bs))) h d) e2 more)) in
    subst (λ (xs : List ℕ). LeadsBy r f b xs h d) (sym (take-add i n bs))
    (led_then r f g h b c d (take i bs) (take n (drop i bs)) led (led_by r g h c d (take n (drop i bs)) here))
