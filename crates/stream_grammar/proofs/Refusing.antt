-- Where the frame is broken although the lexical grammar goes on: what the text tells next is refused by the nesting.
use Rattle.std.proofs.Common.{◌≡◌, ℕ, zero, suc, ◌+◌, ◌*◌, ◌-◌, ◌<◌, ◌≤◌, ◌⊎◌, inl, inr, List, [], ◌∷◌, ◌++◌, refl, sym, ap, ◌∙◌}
use Rattle.std.proofs.Common.{subst, Bool, true, false, not, cond, ◌&&◌, ◌||◌, ◌==◌, nat_lt, nat_le, arith}
use Rattle.std.proofs.lemmas.Bool.{cond_both, eqb-true, ltb-true, ltb-false, cases_lt, false_from_ne_true}
use Rattle.std.proofs.lemmas.Bool.Decides.{nat_tests}
use Rattle.stream_lex.specs.declared.Token.{Token}
use Rattle.stream_lex.specs.declared.Token.TheVariants as token
use Rattle.stream_lex.specs.declared.LexFault.{LexFault}
use Rattle.stream_lex.specs.declared.LexFault.TheVariants.{Restricted}
use Rattle.stream_lex.specs.declared.kinds.Kind.{Kind}
use Rattle.stream_lex.specs.declared.kinds.Kind.TheVariants as kinds
use Rattle.stream_lex.specs.declared.stages.Context.TheVariants.{Words, Value}
use Rattle.stream_lex.specs.declared.stages.NameOwner.TheVariants.{StartTag, EndTag, Attribute}
use Rattle.stream_lex.specs.declared.stages.Brackets.TheVariants.{One, Many}
use Rattle.stream_lex.specs.declared.stages.Base.{Base}
use Rattle.stream_lex.specs.declared.stages.Base.TheVariants.{Decimal, Hexadecimal}
use Rattle.stream_lex.specs.declared.stages.EntityName.{EntityName}
use Rattle.stream_lex.specs.declared.stages.EntityName.TheVariants as entity_name
use Rattle.stream_lex.specs.declared.stages.Stage.{Stage}
use Rattle.stream_lex.specs.declared.stages.Stage.TheVariants as stage
use Rattle.stream_lex.specs.declared.stages.State.{State}
use Rattle.stream_lex.specs.declared.characters.Pending.{Pending}
use Rattle.stream_lex.specs.declared.characters.Pending.TheVariants as pending
use Rattle.stream_lex.specs.grammar.Classes.{has_between, class_of, name_starts, name_characters, characters}
use Rattle.stream_lex.specs.grammar.Kinds.{ascii_kind, wide_kind, kind, is_kind, is_digit, digit, base_of, is_refusable}
use Rattle.stream_lex.specs.declared.characters.Reach.{Reach}
use Rattle.stream_lex.specs.declared.characters.Reach.TheVariants.{Whole, Begun, Broken}
use Rattle.stream_lex.specs.declared.stages.Brackets.{Brackets}
use Rattle.stream_lex.specs.machine.Characters.{is_begun, is_nothing, reach_first, reach_second, reach_third}
use Rattle.stream_lex.specs.grammar.Expressions.{Sign, says, refuses, all_said, Expression, concat, union, silent_symbol, value, AreDigits, Times, IsText}
use Rattle.stream_lex.specs.grammar.Grammar.{a, told, refused, named, expects, content}
use Rattle.stream_lex.specs.machine.Machine.{allowed_at, voice, through, wide_fault, passed}
use Rattle.stream_lex.specs.machine.Turns.{at}
use Rattle.stream_lex.specs.machine.Live.{is_live_stage, is_met, is_awaited, is_live}
use Rattle.stream_lex.specs.machine.Rests.{rest_at, rest_of_entity}
use Rattle.stream_lex.specs.grammar.Reading.{lines}
use Rattle.stream_lex.specs.machine.Leading.{heard, Left}
use Rattle.stream_lex.proofs.Lists.{false-true, true-false, says-refuses, says-head, says-tail}
use Rattle.stream_lex.proofs.Numbers.{value-grows}
use Rattle.stream_lex.proofs.Spans.{between-parts}
use Rattle.stream_lex.proofs.Classing.{high-next}
use Rattle.stream_lex.proofs.Stepping.{Leaves, step-to}
use Rattle.stream_lex.proofs.ByteSteps.{First, first_character-in, high-line, left-plain}
use Rattle.stream_lex.proofs.Living.{begun-symbol, begun-two, live-parts}
use Rattle.stream_grammar.specs.grammar.Trees.{is_space}
use Rattle.stream_grammar.specs.machine.Framing.{begins_space, stage_to_space, comes_to_space, is_empty_mark, is_after_end_name}
use Rattle.stream_grammar.specs.machine.Sorts.{Sort, at_content}
use Rattle.stream_grammar.specs.machine.Sorts.{sort_of}

-- tokens before other signs
pub said-split : (us ts : List Token) (ns : List Sign) → all_said ts ≡ all_said us ++ ns → (vs : List Token) × (ts ≡ us ++ vs) × (ns ≡ all_said vs)
said-split [] ts ns e = (ts, refl, sym e)
said-split (u ∷ us) [] ns e = absurd (let bad : [] ≡ says u ∷ (all_said us ++ ns) = e in cc)
said-split (u ∷ us) (t ∷ ts) ns e =
    let (vs, f, g) = said-split us ts ns (says-tail t u (all_said ts) (all_said us ++ ns) e) in
    (vs, ap (λ (x : Token). x ∷ ts) (says-head t u (all_said ts) (all_said us ++ ns) e) ∙ ap (λ (l : List Token). u ∷ l) f, g)

-- The next token.

abbrev Next : Token → List Token → Type 0
Next t ts = (us : List Token) × (ts ≡ t ∷ us)

next-of : (t : Token) (ts : List Token) (ns : List Sign) → all_said ts ≡ says t ∷ ns → Next t ts
next-of t ts ns e = let (vs, f, g) = said-split (t ∷ []) ts ns e in (vs, f)

mark-at : (s : Stage) (p : Pending) (r : Bool) (text : List ℕ) (ts : List Token) → is_empty_mark s ≡ true → Left (at s p r) text (all_said ts)
    → Next (token.TagEnds true) ts
unfolding rest_at IsText voice
mark-at stage.EmptyTagMark p r text ts e (cs, sc, enc, (xs, us, ys, vs, (c, k, is, told), n, f, g)) =
    next-of (token.TagEnds true) ts vs (g ∙ ap (λ (l : List Sign). l ++ vs) told)
mark-at s p r text ts e l = false-true e

pub mark-tells : (st : State) (text : List ℕ) (ts : List Token) → is_empty_mark st.stage ≡ true → Left st text (all_said ts) → Next (token.TagEnds true) ts
mark-tells st text ts e l = mark-at st.stage st.pending st.returned text ts e l

silent-times : (P : Kind → ℕ → Bool) (n : ℕ) (cs : List ℕ) (ms : List Sign) → Times (IsText (silent_symbol P)) n cs ms → ms ≡ []
unfolding IsText
silent-times P zero cs ms (e, f) = f
silent-times P (suc n) cs ms (c, xs, us, ys, vs, (d, k, is, told), more, e, f) = f ∙ (ap (λ (l : List Sign). l ++ vs) told ∙ silent-times P n ys vs more)

named-at : (s : Stage) (p : Pending) (r : Bool) (text : List ℕ) (ts : List Token) → is_after_end_name s ≡ true → Left (at s p r) text (all_said ts)
    → Next token.CloseEnds ts
unfolding rest_at IsText voice
named-at stage.EndTagNamed p r text ts e (cs, sc, enc, (xs, us, ys, vs, (i, spaces), (xs1, us1, ys1, vs1, (c, k, is, told), n, f1, g1), f, g)) =
    next-of token.CloseEnds ts vs1 (g
    ∙ (ap (λ (l : List Sign). l ++ vs) (silent-times (λ j d. is_kind kinds.Space j) i xs us spaces) ∙ (g1 ∙ ap (λ (l : List Sign). l ++ vs1) told)))
named-at s p r text ts e l = false-true e

pub named-tells : (st : State) (text : List ℕ) (ts : List Token) → is_after_end_name st.stage ≡ true → Left st text (all_said ts) → Next token.CloseEnds ts
named-tells st text ts e l = named-at st.stage st.pending st.returned text ts e l

-- Words other than white space.

-- the signs begin with such, or with a refusal
abbrev Speaks : List Sign → Type 0
Speaks ms = ((c : ℕ) × (ns : List Sign) × (is_space c ≡ false) × (ms ≡ says (token.Word c) ∷ ns)) ⊎ ((f : LexFault) × (ns : List Sign) × (ms ≡ refuses f ∷ ns))

abbrev Speaking : Expression → Type 0
Speaking p = (cs : List ℕ) (ms : List Sign) → IsText p cs ms → Speaks ms

speaks-front : (us vs : List Sign) → Speaks us → Speaks (us ++ vs)
speaks-front us vs (inl (c, ns, e, f)) = inl (c, ns ++ vs, e, ap (λ (l : List Sign). l ++ vs) f)
speaks-front us vs (inr (g, ns, f)) = inr (g, ns ++ vs, ap (λ (l : List Sign). l ++ vs) f)

speaking-front : (p q : Expression) → Speaking p → Speaking (concat p q)
unfolding IsText
speaking-front p q h cs ms (xs, us, ys, vs, m, n, e, f) = subst Speaks (sym f) (speaks-front us vs (h xs us m))

speaking-after : (k : Kind) (q : Expression) → Speaking q → Speaking (concat (a k) q)
unfolding IsText
speaking-after k q h cs ms (xs, us, ys, vs, (c, i, is, told), n, e, f) = subst Speaks (sym (f ∙ ap (λ (l : List Sign). l ++ vs) told)) (h ys vs n)

speaking-union : (p q : Expression) → Speaking p → Speaking q → Speaking (union p q)
unfolding IsText
speaking-union p q h k cs ms (inl m) = h cs ms m
speaking-union p q h k cs ms (inr m) = k cs ms m

speaking-refused : (P : Kind → Bool) → Speaking (refused P)
unfolding IsText
speaking-refused P cs ms (c, i, is, told) = inr (Restricted, [], told)

speaking-named : (c : ℕ) → is_space c ≡ false → Speaking (named Words c)
unfolding IsText
speaking-named c e cs ms (inl (d, i, is, told)) = inl (c, [], e, told)
speaking-named c e cs ms (inr (d, i, is, told)) = inr (Restricted, [], told)

speaking-expects : (k : Kind) (q : Expression) → Speaking q → Speaking (expects k q)
speaking-expects k q h = speaking-union (concat (a k) q) (refused (λ j. is_refusable j && not (is_kind k j))) (speaking-after k q h) (speaking-refused _)

speaking-entity : (l : EntityName) → stage_to_space (stage.Reference Words l) ≡ false → Speaking (rest_of_entity l Words)
speaking-entity entity_name.Empty h = absurd (let bad : true ≡ false = h in cc)
speaking-entity entity_name.A h =
    speaking-union _ _ (speaking-after kinds.SmallM _ (speaking-expects kinds.SmallP _ (speaking-named 38 refl)))
    (speaking-union _ _ (speaking-after kinds.SmallP _ (speaking-expects kinds.SmallO _ (speaking-expects kinds.SmallS _ (speaking-named 39 refl))))
    (speaking-refused _))
speaking-entity entity_name.Am h = speaking-expects kinds.SmallP _ (speaking-named 38 refl)
speaking-entity entity_name.Amp h = speaking-named 38 refl
speaking-entity entity_name.Ap h = speaking-expects kinds.SmallO _ (speaking-expects kinds.SmallS _ (speaking-named 39 refl))
speaking-entity entity_name.Apo h = speaking-expects kinds.SmallS _ (speaking-named 39 refl)
speaking-entity entity_name.Apos h = speaking-named 39 refl
speaking-entity entity_name.L h = speaking-expects kinds.SmallT _ (speaking-named 60 refl)
speaking-entity entity_name.Lt h = speaking-named 60 refl
speaking-entity entity_name.G h = speaking-expects kinds.SmallT _ (speaking-named 62 refl)
speaking-entity entity_name.Gt h = speaking-named 62 refl
speaking-entity entity_name.Q h = speaking-expects kinds.SmallU _ (speaking-expects kinds.SmallO _ (speaking-expects kinds.SmallT _ (speaking-named 34 refl)))
speaking-entity entity_name.Qu h = speaking-expects kinds.SmallO _ (speaking-expects kinds.SmallT _ (speaking-named 34 refl))
speaking-entity entity_name.Quo h = speaking-expects kinds.SmallT _ (speaking-named 34 refl)
speaking-entity entity_name.Quot h = speaking-named 34 refl

-- Digits.

abbrev Bounded : ℕ → Kind → Type 0
Bounded d k = (base : Base) → is_digit base k ≡ true → digit d < base_of base

not-digit : (d : ℕ) (k : Kind) → is_digit Hexadecimal k ≡ false → is_digit Decimal k ≡ false → Bounded d k
not-digit d k h g Decimal e = absurd (true-false e g)
not-digit d k h g Hexadecimal e = absurd (true-false e h)

hex-digit : (d : ℕ) (k : Kind) → is_digit Decimal k ≡ false → digit d < 16 → Bounded d k
hex-digit d k g h Decimal e = absurd (true-false e g)
hex-digit d k g h Hexadecimal e = h

digit-of : (d n : ℕ) → d ≡ n → digit n < 16 → digit d < 16
digit-of d n e h = subst (λ (x : ℕ). digit x < 16) (sym e) h

decimal-digit : (d : ℕ) → 48 ≤ d → d ≤ 57 → digit d < 10
decimal-digit d h k = cond_both (nat_lt d 58) (d - 48) (cond (nat_lt d 71) (d - 55) (d - 87)) (λ (n : ℕ). n < 10) (λ e. omega arith)
    (λ e. absurd (let g = ltb-false d 58 e in omega arith))

upper-digit : (d : ℕ) → 65 ≤ d → d ≤ 70 → digit d < 16
upper-digit d h k =
    cond_both (nat_lt d 58) (d - 48) (cond (nat_lt d 71) (d - 55) (d - 87)) (λ (n : ℕ). n < 16) (λ e. absurd (let g = ltb-true d 58 e in omega arith))
    (λ e. cond_both (nat_lt d 71) (d - 55) (d - 87) (λ (n : ℕ). n < 16) (λ f. omega arith) (λ f. absurd (let g = ltb-false d 71 f in omega arith)))

lower-digit : (d : ℕ) → 98 ≤ d → d ≤ 102 → digit d < 16
lower-digit d h k =
    cond_both (nat_lt d 58) (d - 48) (cond (nat_lt d 71) (d - 55) (d - 87)) (λ (n : ℕ). n < 16) (λ e. absurd (let g = ltb-true d 58 e in omega arith))
    (λ e. cond_both (nat_lt d 71) (d - 55) (d - 87) (λ (n : ℕ). n < 16) (λ f. absurd (let g = ltb-true d 71 f in omega arith)) (λ f. omega arith))

letter-digit : (d : ℕ) → ((nat_le 65 d && nat_le d 70) || (nat_le 98 d && nat_le d 102)) ≡ true → digit d < 16
letter-digit d h = elim (cases_lt d 71) [
  | inl low ↦ upper-digit d (grind (arith, nat_tests)) (omega arith)
  | inr high ↦ lower-digit d (grind (arith, nat_tests)) (grind (arith, nat_tests))
]

plain-digit : (b : ℕ) → (nat_le 48 b && nat_le b 57) ≡ true → Bounded b kinds.Digit
plain-digit b e Decimal k = decimal-digit b (grind (arith, nat_tests)) (grind (arith, nat_tests))
plain-digit b e Hexadecimal k = let h : digit b < 10 = decimal-digit b (grind (arith, nat_tests)) (grind (arith, nat_tests)) in omega arith

bounded-ascii : (b : ℕ) → Bounded b (ascii_kind b)
unfolding ascii_kind
bounded-ascii b =
    cond_both ((b == 32) || ((b == 9) || ((b == 10) || (b == 13)))) _ _ (Bounded b) (λ e. not-digit b kinds.Space refl refl)
    (λ f33. cond_both (b == 33) _ _ (Bounded b) (λ e. not-digit b kinds.Bang refl refl)
    (λ f34. cond_both (b == 34) _ _ (Bounded b) (λ e. not-digit b kinds.Quotation refl refl)
    (λ f35. cond_both (b == 35) _ _ (Bounded b) (λ e. not-digit b kinds.Number refl refl)
    (λ f38. cond_both (b == 38) _ _ (Bounded b) (λ e. not-digit b kinds.Ampersand refl refl)
    (λ f39. cond_both (b == 39) _ _ (Bounded b) (λ e. not-digit b kinds.Apostrophe refl refl)
    (λ f47. cond_both (b == 47) _ _ (Bounded b) (λ e. not-digit b kinds.Slash refl refl)
    (λ f58. cond_both (b == 58) _ _ (Bounded b) (λ e. not-digit b kinds.Colon refl refl)
    (λ f59. cond_both (b == 59) _ _ (Bounded b) (λ e. not-digit b kinds.Semicolon refl refl)
    (λ f60. cond_both (b == 60) _ _ (Bounded b) (λ e. not-digit b kinds.Less refl refl)
    (λ f61. cond_both (b == 61) _ _ (Bounded b) (λ e. not-digit b kinds.Equals refl refl)
    (λ f62. cond_both (b == 62) _ _ (Bounded b) (λ e. not-digit b kinds.Greater refl refl)
    (λ f63. cond_both (b == 63) _ _ (Bounded b) (λ e. not-digit b kinds.Question refl refl)
    (λ f91. cond_both (b == 91) _ _ (Bounded b) (λ e. not-digit b kinds.LeftBracket refl refl)
    (λ f93. cond_both (b == 93) _ _ (Bounded b) (λ e. not-digit b kinds.RightBracket refl refl)
    (λ f97. cond_both (b == 97) _ _ (Bounded b) (λ e. hex-digit b kinds.SmallA refl (digit-of b 97 (eqb-true b 97 e) (omega arith)))
    (λ f101. cond_both (b == 101) _ _ (Bounded b) (λ e. hex-digit b kinds.SmallE refl (digit-of b 101 (eqb-true b 101 e) (omega arith)))
    (λ f103. cond_both (b == 103) _ _ (Bounded b) (λ e. not-digit b kinds.SmallG refl refl)
    (λ f108. cond_both (b == 108) _ _ (Bounded b) (λ e. not-digit b kinds.SmallL refl refl)
    (λ f109. cond_both (b == 109) _ _ (Bounded b) (λ e. not-digit b kinds.SmallM refl refl)
    (λ f110. cond_both (b == 110) _ _ (Bounded b) (λ e. not-digit b kinds.SmallN refl refl)
    (λ f111. cond_both (b == 111) _ _ (Bounded b) (λ e. not-digit b kinds.SmallO refl refl)
    (λ f112. cond_both (b == 112) _ _ (Bounded b) (λ e. not-digit b kinds.SmallP refl refl)
    (λ f113. cond_both (b == 113) _ _ (Bounded b) (λ e. not-digit b kinds.SmallQ refl refl)
    (λ f115. cond_both (b == 115) _ _ (Bounded b) (λ e. not-digit b kinds.SmallS refl refl)
    (λ f116. cond_both (b == 116) _ _ (Bounded b) (λ e. not-digit b kinds.SmallT refl refl)
    (λ f117. cond_both (b == 117) _ _ (Bounded b) (λ e. not-digit b kinds.SmallU refl refl)
    (λ f118. cond_both (b == 118) _ _ (Bounded b) (λ e. not-digit b kinds.SmallV refl refl)
    (λ f120. cond_both (b == 120) _ _ (Bounded b) (λ e. not-digit b kinds.SmallX refl refl)
    (λ f121. cond_both (b == 121) _ _ (Bounded b) (λ e. not-digit b kinds.SmallY refl refl)
    (λ g1. cond_both ((nat_le 65 b && nat_le b 70) || (nat_le 98 b && nat_le b 102)) _ _ (Bounded b) (λ e. hex-digit b kinds.HexLetter refl (letter-digit b e))
    (λ g2. cond_both ((nat_le 71 b && nat_le b 90) || ((nat_le 104 b && nat_le b 122) || (b == 95))) _ _ (Bounded b) (λ e. not-digit b kinds.Letter refl refl)
    (λ g3. cond_both (nat_le 48 b && nat_le b 57) _ _ (Bounded b) (λ e. plain-digit b e)
    (λ g4. cond_both ((b == 45) || (b == 46)) _ _ (Bounded b) (λ e. not-digit b kinds.Mark refl refl)
    (λ g5. cond_both (nat_le b 31) _ _ (Bounded b) (λ e. not-digit b kinds.Control refl refl)
    (λ g6. not-digit b kinds.Plain refl refl)))))))))))))))))))))))))))))))))))

bounded-wide : (c : ℕ) → Bounded c (wide_kind c)
unfolding wide_kind
bounded-wide c =
    cond_both (has_between name_starts c c) _ _ (Bounded c) (λ e. not-digit c kinds.WideStart refl refl)
    (λ f. cond_both (has_between name_characters c c) _ _ (Bounded c) (λ e. not-digit c kinds.WideName refl refl)
    (λ g. cond_both (has_between characters c c) _ _ (Bounded c) (λ e. not-digit c kinds.WideOther refl refl) (λ h. not-digit c kinds.WideRefused refl refl)))

digit-bound : (base : Base) (d : ℕ) → is_digit base (kind d) ≡ true → digit d < base_of base
digit-bound base d h = cond_both (nat_lt d 128) (ascii_kind d) (wide_kind d) (Bounded d) (λ e. bounded-ascii d) (λ e. bounded-wide d) base h

one-decimal : (v x : ℕ) → x < 10 → is_space (10 * v + x) ≡ true → begins_space Decimal v ≡ true
one-decimal v x h k = grind (arith, nat_tests)

one-hexadecimal : (v x : ℕ) → x < 16 → is_space (16 * v + x) ≡ true → begins_space Hexadecimal v ≡ true
one-hexadecimal v x h k = grind (arith, nat_tests)

space-low : (w : ℕ) → is_space w ≡ true → w ≤ 32
space-low w h = grind (arith, nat_tests)

zero-decimal : (v : ℕ) → v ≡ 0 → begins_space Decimal v ≡ true
zero-decimal v e = subst (λ (x : ℕ). begins_space Decimal x ≡ true) (sym e) refl

zero-hexadecimal : (v : ℕ) → v ≡ 0 → begins_space Hexadecimal v ≡ true
zero-hexadecimal v e = subst (λ (x : ℕ). begins_space Hexadecimal x ≡ true) (sym e) refl

none-decimal : (v : ℕ) → is_space v ≡ true → begins_space Decimal v ≡ true
none-decimal v h = grind (arith, nat_tests)

none-hexadecimal : (v : ℕ) → is_space v ≡ true → begins_space Hexadecimal v ≡ true
none-hexadecimal v h = grind (arith, nat_tests)

digits-space : (base : Base) (v : ℕ) (ds : List ℕ) → AreDigits base ds → is_space (value base v ds) ≡ true → begins_space base v ≡ true
digits-space Decimal v [] are h = none-decimal v h
digits-space Hexadecimal v [] are h = none-hexadecimal v h
digits-space Decimal v (d ∷ []) are h = one-decimal v (digit d) (digit-bound Decimal d are.0) h
digits-space Hexadecimal v (d ∷ []) are h = one-hexadecimal v (digit d) (digit-bound Hexadecimal d are.0) h
digits-space Decimal v (d ∷ e ∷ ds) are h =
    let low : value Decimal v (d ∷ e ∷ ds) ≤ 32 = space-low (value Decimal v (d ∷ e ∷ ds)) h in
    let grows : 10 * (10 * v + digit d) + digit e ≤ value Decimal v (d ∷ e ∷ ds) = value-grows Decimal (10 * (10 * v + digit d) + digit e) ds in
    zero-decimal v (omega arith)
digits-space Hexadecimal v (d ∷ e ∷ ds) are h =
    let low : value Hexadecimal v (d ∷ e ∷ ds) ≤ 32 = space-low (value Hexadecimal v (d ∷ e ∷ ds)) h in
    let grows : 16 * (16 * v + digit d) + digit e ≤ value Hexadecimal v (d ∷ e ∷ ds) = value-grows Hexadecimal (16 * (16 * v + digit d) + digit e) ds in
    zero-hexadecimal v (omega arith)

number-speaks : (base : Base) (v : ℕ) (cs : List ℕ) (ms : List Sign) → begins_space base v ≡ false → IsText (rest_at (stage.Number Words base v)) cs ms
    → Speaks ms
unfolding rest_at IsText
number-speaks base v cs ms h (xs, us, ys, vs, (ds, e, are, semi, is, xml, told), n, f, g) =
    inl (
      value base v ds,
      vs,
      false_from_ne_true (is_space (value base v ds)) (λ k. true-false (digits-space base v ds are k) h),
      g
          ∙ ap (λ (l : List Sign). l ++ vs) told,
    )

reference-speaks : (l : EntityName) (cs : List ℕ) (ms : List Sign) → stage_to_space (stage.Reference Words l) ≡ false
    → IsText (rest_at (stage.Reference Words l)) cs ms → Speaks ms
unfolding rest_at
reference-speaks l cs ms h m = speaking-front (rest_of_entity l Words) content (speaking-entity l h) cs ms m

-- A character from 128 on.

wide-space : (n : ℕ) → 128 ≤ n → is_space n ≡ false
wide-space n h = grind (arith, nat_tests)

abbrev Worded : Stage → Type 0
Worded s = (n : ℕ) (t : Bool) (cs : List ℕ) (ms : List Sign) → is_space n ≡ false → Leaves s (passed t s n) cs ms → Speaks ms

worded-text : Worded (stage.Text Words)
unfolding voice through wide_fault
worded-text n true cs ms h (ns, e, m) = inl (n, ns, h, e)
worded-text n false cs ms h m = absurd m

worded-bracketed : (b : Brackets) → Worded (stage.Bracketed b)
unfolding voice through wide_fault
worded-bracketed b n true cs ms h (ns, e, m) = inl (n, ns, h, e)
worded-bracketed b n false cs ms h m = absurd m

worded-cdata : Worded stage.Cdata
unfolding voice through wide_fault
worded-cdata n true cs ms h (ns, e, m) = inl (n, ns, h, e)
worded-cdata n false cs ms h m = absurd m

worded-cdata_bracketed : (b : Brackets) → Worded (stage.CdataBracketed b)
unfolding voice through wide_fault
worded-cdata_bracketed One n true cs ms h (ns, e, m) = inl (93, says (token.Word n) ∷ ns, refl, e)
worded-cdata_bracketed Many n true cs ms h (ns, e, m) = inl (93, says (token.Word 93) ∷ (says (token.Word n) ∷ ns), refl, e)
worded-cdata_bracketed b n false cs ms h m = absurd m

wide-speaks : (s : Stage) (p : Pending) (r : Bool) (b : ℕ) (text cs : List ℕ) (ms : List Sign) → Worded s → is_live_stage s ≡ true → First p b text cs
    → IsText (rest_at s) (lines r cs) ms → Speaks ms
wide-speaks s p r b text cs ms w live f m =
    let m1 : IsText (rest_at s) (f.n ∷ lines false f.es) ms = subst (λ (l : List ℕ). IsText (rest_at s) l ms) (ap (lines r) f.is
    ∙ high-line r f.n f.es f.high) m in
    w f.n (has_between (class_of (allowed_at s)) f.n f.n) (lines false f.es) ms (wide-space f.n f.high)
    (subst (λ t. Leaves s t (lines false f.es) ms) (high-next s f.n f.high) (step-to s f.n (lines false f.es) ms live m1))

abbrev Unheard : Stage → Type 0
Unheard s = (bs : List ℕ) → heard (voice s) bs ≡ []

-- within a character of words
within-speaks : (s : Stage) (p : Pending) (r : Bool) (text : List ℕ) (ms : List Sign) → Worded s → Unheard s → is_live_stage s ≡ true → is_begun p ≡ true
    → is_nothing p ≡ false → Left (at s p r) text ms → Speaks ms
within-speaks s pending.Nothing r text ms w u live begun h l = absurd (let bad : true ≡ false = h in cc)
within-speaks s (pending.One x) r text ms w u live begun h (cs, sc, enc, m) =
    let f = first_character-in pending.Nothing x text cs refl (λ e. let k = (between-parts 194 244 x begun).0 in omega arith) sc enc in
    wide-speaks s pending.Nothing r x text cs ms w live f (subst (λ (l : List Token). IsText (rest_at s) (lines r cs) (all_said l ++ ms)) (u (x ∷ [])) m)
within-speaks s (pending.Two x y) r text ms w u live begun h (cs, sc, enc, m) =
    let f = first_character-in (pending.One x) y text cs (begun-symbol x y begun) (λ e. absurd (let bad : x ∷ [] ≡ [] = e in cc)) sc enc in
    wide-speaks s (pending.One x) r y text cs ms w live f (subst (λ (l : List Token). IsText (rest_at s) (lines r cs) (all_said l ++ ms)) (u (x ∷ y ∷ [])) m)
within-speaks s (pending.Three x y z) r text ms w u live begun h (cs, sc, enc, m) =
    let f = first_character-in (pending.Two x y) z text cs (begun-two x y z begun) (λ e. absurd (let bad : x ∷ y ∷ [] ≡ [] = e in cc)) sc enc in
    wide-speaks s (pending.Two x y) r z text cs ms w live f
    (subst (λ (l : List Token). IsText (rest_at s) (lines r cs) (all_said l ++ ms)) (u (x ∷ y ∷ z ∷ [])) m)

speaks-token : (ts : List Token) → Speaks (all_said ts) → (c : ℕ) × (is_space c ≡ false) × Next (token.Word c) ts
speaks-token ts (inl (c, ns, e, f)) = (c, e, next-of (token.Word c) ts ns f)
speaks-token [] (inr (g, ns, f)) = absurd (let bad : [] ≡ refuses g ∷ ns = f in cc)
speaks-token (t ∷ ts) (inr (g, ns, f)) = absurd (says-refuses t g (all_said ts) ns f)

is_content : Sort → Bool
is_content at_content = true
is_content x = false

unheard-text : Unheard (stage.Text Words)
unfolding voice
unheard-text bs = refl

unheard-bracketed : (b : Brackets) → Unheard (stage.Bracketed b)
unfolding voice
unheard-bracketed b bs = refl

unheard-cdata : Unheard stage.Cdata
unfolding voice
unheard-cdata bs = refl

unheard-cdata_bracketed : (b : Brackets) → Unheard (stage.CdataBracketed b)
unfolding voice
unheard-cdata_bracketed One bs = refl
unheard-cdata_bracketed Many bs = refl

no-met : (r : Reach) → is_met [] r ≡ true → ⊥
no-met (Begun q low high) e = let bad : false ≡ true = e in cc
no-met (Whole n) e = let bad : false ≡ true = e in cc
no-met Broken e = let bad : false ≡ true = e in cc

no-wait : (p : Pending) → is_awaited [] p ≡ true → is_nothing p ≡ false → ⊥
no-wait pending.Nothing e h = let bad : true ≡ false = h in cc
no-wait (pending.One x) e h = no-met (reach_first x) e
no-wait (pending.Two x y) e h = no-met (reach_second x y) e
no-wait (pending.Three x y z) e h = no-met (reach_third x y z) e

gap-at : (s : Stage) (p : Pending) (r : Bool) (text : List ℕ) (ms : List Sign) → is_content (sort_of (at s p r)) ≡ true → is_live_stage s ≡ true
    → is_begun p ≡ true → is_awaited (class_of (allowed_at s)) p ≡ true
    → (is_nothing p && stage_to_space s) ≡ false → Left (at s p r) text ms → Speaks ms
unfolding is_content allowed_at through
gap-at (stage.Reference Words l) pending.Nothing r text ms k live begun waits h left =
    let (cs, sc, e, m) = left-plain (stage.Reference Words l) r text ms left in reference-speaks l (lines r cs) ms h m
gap-at (stage.Number Words base v) pending.Nothing r text ms k live begun waits h left =
    let (cs, sc, e, m) = left-plain (stage.Number Words base v) r text ms left in number-speaks base v (lines r cs) ms h m
gap-at (stage.Text c) pending.Nothing r text ms k live begun waits h left = absurd (let bad : true ≡ false = h in cc)
gap-at (stage.Hash c) pending.Nothing r text ms k live begun waits h left = absurd (let bad : true ≡ false = h in cc)
gap-at (stage.HashX c) pending.Nothing r text ms k live begun waits h left = absurd (let bad : true ≡ false = h in cc)
gap-at (stage.Bracketed b) pending.Nothing r text ms k live begun waits h left = absurd (let bad : true ≡ false = h in cc)
gap-at stage.Less pending.Nothing r text ms k live begun waits h left = absurd (let bad : true ≡ false = h in cc)
gap-at stage.Bang pending.Nothing r text ms k live begun waits h left = absurd (let bad : true ≡ false = h in cc)
gap-at stage.Cdata pending.Nothing r text ms k live begun waits h left = absurd (let bad : true ≡ false = h in cc)
gap-at (stage.CdataBracketed b) pending.Nothing r text ms k live begun waits h left = absurd (let bad : true ≡ false = h in cc)
gap-at stage.EndTagMark pending.Nothing r text ms k live begun waits h left = absurd (let bad : true ≡ false = h in cc)
gap-at (stage.Fixed w i) pending.Nothing r text ms k live begun waits h left = absurd (let bad : true ≡ false = h in cc)
gap-at (stage.Reference (Value q) l) pending.Nothing r text ms k live begun waits h left = false-true k
gap-at (stage.Number (Value q) base v) pending.Nothing r text ms k live begun waits h left = false-true k
gap-at s pending.Nothing r text ms k live begun waits h left = absurd (let bad : true ≡ false = h in cc)
gap-at (stage.Text Words) (pending.One x) r text ms k live begun waits h left =
    within-speaks (stage.Text Words) (pending.One x) r text ms worded-text unheard-text live begun refl left
gap-at (stage.Bracketed b) (pending.One x) r text ms k live begun waits h left =
    within-speaks (stage.Bracketed b) (pending.One x) r text ms (worded-bracketed b) (unheard-bracketed b) live begun refl left
gap-at stage.Cdata (pending.One x) r text ms k live begun waits h left =
    within-speaks stage.Cdata (pending.One x) r text ms worded-cdata unheard-cdata live begun refl left
gap-at (stage.CdataBracketed b) (pending.One x) r text ms k live begun waits h left =
    within-speaks (stage.CdataBracketed b) (pending.One x) r text ms (worded-cdata_bracketed b) (unheard-cdata_bracketed b) live begun refl left
gap-at (stage.Text (Value q)) (pending.One x) r text ms k live begun waits h left = false-true k
gap-at (stage.Name StartTag u) (pending.One x) r text ms k live begun waits h left = false-true k
gap-at (stage.Colon StartTag) (pending.One x) r text ms k live begun waits h left = false-true k
gap-at (stage.Name EndTag u) (pending.One x) r text ms k live begun waits h left = false-true k
gap-at (stage.Colon EndTag) (pending.One x) r text ms k live begun waits h left = false-true k
gap-at (stage.Name Attribute u) (pending.One x) r text ms k live begun waits h left = false-true k
gap-at (stage.Colon Attribute) (pending.One x) r text ms k live begun waits h left = false-true k
gap-at stage.StartLess (pending.One x) r text ms k live begun waits h left = false-true k
gap-at stage.PrologLess (pending.One x) r text ms k live begun waits h left = false-true k
gap-at stage.Less (pending.One x) r text ms k live begun waits h left = false-true k
gap-at stage.EndTagMark (pending.One x) r text ms k live begun waits h left = false-true k
gap-at stage.InTag (pending.One x) r text ms k live begun waits h left = false-true k
gap-at s (pending.One x) r text ms k live begun waits h left = absurd (no-wait (pending.One x) waits refl)
gap-at (stage.Text Words) (pending.Two x y) r text ms k live begun waits h left =
    within-speaks (stage.Text Words) (pending.Two x y) r text ms worded-text unheard-text live begun refl left
gap-at (stage.Bracketed b) (pending.Two x y) r text ms k live begun waits h left =
    within-speaks (stage.Bracketed b) (pending.Two x y) r text ms (worded-bracketed b) (unheard-bracketed b) live begun refl left
gap-at stage.Cdata (pending.Two x y) r text ms k live begun waits h left =
    within-speaks stage.Cdata (pending.Two x y) r text ms worded-cdata unheard-cdata live begun refl left
gap-at (stage.CdataBracketed b) (pending.Two x y) r text ms k live begun waits h left =
    within-speaks (stage.CdataBracketed b) (pending.Two x y) r text ms (worded-cdata_bracketed b) (unheard-cdata_bracketed b) live begun refl left
gap-at (stage.Text (Value q)) (pending.Two x y) r text ms k live begun waits h left = false-true k
gap-at (stage.Name StartTag u) (pending.Two x y) r text ms k live begun waits h left = false-true k
gap-at (stage.Colon StartTag) (pending.Two x y) r text ms k live begun waits h left = false-true k
gap-at (stage.Name EndTag u) (pending.Two x y) r text ms k live begun waits h left = false-true k
gap-at (stage.Colon EndTag) (pending.Two x y) r text ms k live begun waits h left = false-true k
gap-at (stage.Name Attribute u) (pending.Two x y) r text ms k live begun waits h left = false-true k
gap-at (stage.Colon Attribute) (pending.Two x y) r text ms k live begun waits h left = false-true k
gap-at stage.StartLess (pending.Two x y) r text ms k live begun waits h left = false-true k
gap-at stage.PrologLess (pending.Two x y) r text ms k live begun waits h left = false-true k
gap-at stage.Less (pending.Two x y) r text ms k live begun waits h left = false-true k
gap-at stage.EndTagMark (pending.Two x y) r text ms k live begun waits h left = false-true k
gap-at stage.InTag (pending.Two x y) r text ms k live begun waits h left = false-true k
gap-at s (pending.Two x y) r text ms k live begun waits h left = absurd (no-wait (pending.Two x y) waits refl)
gap-at (stage.Text Words) (pending.Three x y z) r text ms k live begun waits h left =
    within-speaks (stage.Text Words) (pending.Three x y z) r text ms worded-text unheard-text live begun refl left
gap-at (stage.Bracketed b) (pending.Three x y z) r text ms k live begun waits h left =
    within-speaks (stage.Bracketed b) (pending.Three x y z) r text ms (worded-bracketed b) (unheard-bracketed b) live begun refl left
gap-at stage.Cdata (pending.Three x y z) r text ms k live begun waits h left =
    within-speaks stage.Cdata (pending.Three x y z) r text ms worded-cdata unheard-cdata live begun refl left
gap-at (stage.CdataBracketed b) (pending.Three x y z) r text ms k live begun waits h left =
    within-speaks (stage.CdataBracketed b) (pending.Three x y z) r text ms (worded-cdata_bracketed b) (unheard-cdata_bracketed b) live begun refl left
gap-at (stage.Text (Value q)) (pending.Three x y z) r text ms k live begun waits h left = false-true k
gap-at (stage.Name StartTag u) (pending.Three x y z) r text ms k live begun waits h left = false-true k
gap-at (stage.Colon StartTag) (pending.Three x y z) r text ms k live begun waits h left = false-true k
gap-at (stage.Name EndTag u) (pending.Three x y z) r text ms k live begun waits h left = false-true k
gap-at (stage.Colon EndTag) (pending.Three x y z) r text ms k live begun waits h left = false-true k
gap-at (stage.Name Attribute u) (pending.Three x y z) r text ms k live begun waits h left = false-true k
gap-at (stage.Colon Attribute) (pending.Three x y z) r text ms k live begun waits h left = false-true k
gap-at stage.StartLess (pending.Three x y z) r text ms k live begun waits h left = false-true k
gap-at stage.PrologLess (pending.Three x y z) r text ms k live begun waits h left = false-true k
gap-at stage.Less (pending.Three x y z) r text ms k live begun waits h left = false-true k
gap-at stage.EndTagMark (pending.Three x y z) r text ms k live begun waits h left = false-true k
gap-at stage.InTag (pending.Three x y z) r text ms k live begun waits h left = false-true k
gap-at s (pending.Three x y z) r text ms k live begun waits h left = absurd (no-wait (pending.Three x y z) waits refl)

pub gap-tells : (st : State) (text : List ℕ) (ts : List Token) → sort_of st ≡ at_content → is_live st ≡ true → comes_to_space st ≡ false
    → Left st text (all_said ts) → (c : ℕ) × (is_space c ≡ false) × Next (token.Word c) ts
unfolding is_content
gap-tells st text ts k live h l =
    let (a1, b1, c1) = live-parts st live in speaks-token ts (gap-at st.stage st.pending st.returned text (all_said ts) (ap is_content k) a1 b1 c1 h l)
