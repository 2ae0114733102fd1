-- The expression for character data says what XML 1.0 [14] says.
use Rattle.std.proofs.Common.{◌≡◌, ℕ, append_assoc, nat_le, List, [], ◌∷◌, ◌++◌, inl, inr, refl, sym, ap, ◌∙◌}
use Rattle.std.proofs.Common.{subst, Bool, true, false, cond, ◌||◌, ◌&&◌, ◌==◌, nat_lt}
use Rattle.std.proofs.lemmas.Bool.{cond_both, eqb-true}
use Rattle.stream_lex.specs.declared.Token.TheVariants as token
use Rattle.stream_lex.specs.declared.kinds.Kind.{Kind}
use Rattle.stream_lex.specs.declared.kinds.Kind.TheVariants as kinds
use Rattle.stream_lex.specs.grammar.Classes.{has_between, characters, name_starts, name_characters}
use Rattle.stream_lex.specs.grammar.Kinds.{ascii_kind, wide_kind, kind, is_kind, is_plain}
use Rattle.stream_lex.specs.grammar.Expressions.{Sign, says, Expression, void, yields, concat, union, IsText}
use Rattle.stream_lex.specs.machine.Derivatives.{derivative}
use Rattle.stream_lex.specs.grammar.Grammar.{told, bracket, plain, plain_after, brackets, char_data}
use Rattle.stream_lex.specs.grammar.Words.{AreWords, HasSectionEnd, worded}
use Rattle.stream_lex.proofs.Lists.{false-true}
use Rattle.stream_lex.proofs.Derivative.{derivative-to, derivative-from, empty_part-to}

-- brackets right before: none, one, two and more
data Seen : Type 0 where
  zero_seen : Seen
  one_seen : Seen
  two_seen : Seen

abbrev more_seen : Seen → Seen
more_seen zero_seen = one_seen
more_seen s = two_seen

-- after so many brackets: where the words go on, and the whole
abbrev on_after : Seen → Expression
on_after zero_seen = char_data
on_after one_seen = concat (union plain (concat (told kinds.RightBracket bracket) (concat brackets plain_after))) char_data
on_after two_seen = concat brackets (concat plain_after char_data)

abbrev left_after : Seen → Expression
left_after zero_seen = char_data
left_after s = union (on_after s) brackets

-- what a kind does after so many brackets
data Next : Type 0 where
  stop : Next
  go : Seen → Next

abbrev next_seen : Seen → Kind → Next
next_seen two_seen kinds.Greater = stop
next_seen s kinds.Less = stop
next_seen s kinds.Ampersand = stop
next_seen s kinds.Control = stop
next_seen s kinds.WideRefused = stop
next_seen s kinds.RightBracket = go (more_seen s)
next_seen s k = go zero_seen

abbrev word_of : Kind → ℕ → List Sign
word_of kinds.RightBracket c = says bracket ∷ []
word_of k c = says (token.Word c) ∷ []

abbrev after_next : Next → List Sign → Expression
after_next stop us = void
after_next (go zero_seen) us = concat (yields us) char_data
after_next (go s) us = union (concat (yields us) (on_after s)) (concat (yields us) brackets)

keeps-words : (s : Seen) (k : Kind) (c : ℕ) → derivative k c (left_after s) ≡ after_next (next_seen s k) (word_of k c)
keeps-words zero_seen kinds.Space c = refl
keeps-words zero_seen k c = refl
keeps-words one_seen kinds.Space c = refl
keeps-words one_seen k c = refl
keeps-words two_seen kinds.Space c = refl
keeps-words two_seen k c = refl

-- the characters that may follow so many brackets
abbrev MayFollow : Next → (Seen → Type 0) → Type 0
MayFollow stop P = ⊥
MayFollow (go s) P = P s

abbrev Follows : List ℕ → Seen → Type 0
Follows [] s = Unit {0}
Follows (c ∷ cs) s = MayFollow (next_seen s (kind c)) (Follows cs)

abbrev words_so : List ℕ → List Sign
words_so [] = []
words_so (c ∷ cs) = word_of (kind c) c ++ words_so cs

none-left : (s : Seen) (ms : List Sign) → IsText (left_after s) [] ms → ms ≡ []
unfolding IsText
none-left zero_seen ms m = (empty_part-to char_data [] ms refl m).1
none-left one_seen ms m = (empty_part-to (left_after one_seen) [] ms refl m).1
none-left two_seen ms m = (empty_part-to (left_after two_seen) [] ms refl m).1

cut-told : (us : List Sign) (p : Expression) (cs : List ℕ) (ms : List Sign) → IsText (concat (yields us) p) cs ms
    → (ns : List Sign) × (ms ≡ us ++ ns) × IsText p cs ns
unfolding IsText
cut-told us p cs ms (xs, ws, ys, vs, k, n, e, f) =
    (vs, f ∙ ap (λ (l : List Sign). l ++ vs) k.1, subst (λ (l : List ℕ). IsText p l vs) (sym (e ∙ ap (λ (l : List ℕ). l ++ ys) k.0)) n)

cut-next : (n : Next) (us : List Sign) (cs : List ℕ) (ms : List Sign) → IsText (after_next n us) cs ms
    → MayFollow n (λ s. (ns : List Sign) × (ms ≡ us ++ ns) × IsText (left_after s) cs ns)
unfolding IsText
cut-next stop us cs ms m = absurd m
cut-next (go zero_seen) us cs ms m = cut-told us char_data cs ms m
cut-next (go one_seen) us cs ms (inl m) = let r = cut-told us (on_after one_seen) cs ms m in (r.0, r.1, inl r.2)
cut-next (go one_seen) us cs ms (inr m) = let r = cut-told us brackets cs ms m in (r.0, r.1, inr r.2)
cut-next (go two_seen) us cs ms (inl m) = let r = cut-told us (on_after two_seen) cs ms m in (r.0, r.1, inl r.2)
cut-next (go two_seen) us cs ms (inr m) = let r = cut-told us brackets cs ms m in (r.0, r.1, inr r.2)

join-next : (s : Seen) (us ns : List Sign) (cs : List ℕ) → IsText (left_after s) cs ns → IsText (after_next (go s) us) cs (us ++ ns)
unfolding IsText
join-next zero_seen us ns cs m = ([], us, cs, ns, (refl, refl), m, refl, refl)
join-next one_seen us ns cs (inl m) = inl ([], us, cs, ns, (refl, refl), m, refl, refl)
join-next one_seen us ns cs (inr m) = inr ([], us, cs, ns, (refl, refl), m, refl, refl)
join-next two_seen us ns cs (inl m) = inl ([], us, cs, ns, (refl, refl), m, refl, refl)
join-next two_seen us ns cs (inr m) = inr ([], us, cs, ns, (refl, refl), m, refl, refl)

words-rest : (n : Next) (us : List Sign) (cs : List ℕ) (ms : List Sign)
    → ((s : Seen) (ns : List Sign) → IsText (left_after s) cs ns → Follows cs s × (ns ≡ words_so cs))
    → MayFollow n (λ s. (ns : List Sign) × (ms ≡ us ++ ns) × IsText (left_after s) cs ns) → MayFollow n (Follows cs) × (ms ≡ us ++ words_so cs)
words-rest stop us cs ms h m = absurd m
words-rest (go s) us cs ms h (ns, e, m) = let r = h s ns m in (r.0, e ∙ ap (λ (l : List Sign). us ++ l) r.1)

text-follows : (cs : List ℕ) (s : Seen) (ms : List Sign) → IsText (left_after s) cs ms → Follows cs s × (ms ≡ words_so cs)
text-follows [] s ms m = (tt, none-left s ms m)
text-follows (c ∷ cs) s ms m =
    words-rest (next_seen s (kind c)) (word_of (kind c) c) cs ms (λ t ns k. text-follows cs t ns k)
    (cut-next (next_seen s (kind c)) (word_of (kind c) c) cs ms
    (subst (λ (p : Expression). IsText p cs ms) (keeps-words s (kind c) c) (derivative-to (left_after s) c cs ms m)))

empty-text : (s : Seen) → IsText (left_after s) [] []
unfolding IsText
empty-text zero_seen = ([], [], [], [], (0, (refl, refl)), (0, (refl, refl)), refl, refl)
empty-text one_seen = inr (0, (refl, refl))
empty-text two_seen = inr (0, (refl, refl))

follows-next : (n : Next) (us : List Sign) (cs : List ℕ) → ((s : Seen) → Follows cs s → IsText (left_after s) cs (words_so cs)) → MayFollow n (Follows cs)
    → IsText (after_next n us) cs (us ++ words_so cs)
follows-next stop us cs h m = absurd m
follows-next (go s) us cs h m = join-next s us (words_so cs) cs (h s m)

follows-text : (cs : List ℕ) (s : Seen) → Follows cs s → IsText (left_after s) cs (words_so cs)
follows-text [] s h = empty-text s
follows-text (c ∷ cs) s h =
    derivative-from (left_after s) c cs (word_of (kind c) c ++ words_so cs)
    (subst (λ (p : Expression). IsText p cs (word_of (kind c) c ++ words_so cs)) (sym (keeps-words s (kind c) c))
    (follows-next (next_seen s (kind c)) (word_of (kind c) c) cs (follows-text cs) h))

-- The characters by their numbers.

skip : (j : Kind) (t : Bool) (k l : Kind) → is_kind j k ≡ false → is_kind j (cond t k l) ≡ true → is_kind j l ≡ true
skip j true k l n h = false-true (sym n ∙ h)
skip j false k l n h = h

hit : (j : Kind) (t : Bool) (l : Kind) → is_kind j (cond t j l) ≡ true → (is_kind j l ≡ true → ⊥) → t ≡ true
hit j true l h no_more = refl
hit j false l h no_more = absurd (no_more h)

ascii-bracket : (c : ℕ) → is_kind kinds.RightBracket (ascii_kind c) ≡ true → (c == 93) ≡ true
unfolding ascii_kind
ascii-bracket c h = hit kinds.RightBracket (c == 93) _
    (skip kinds.RightBracket (c == 91) kinds.LeftBracket _ refl
    (skip kinds.RightBracket (c == 63) kinds.Question _ refl
    (skip kinds.RightBracket (c == 62) kinds.Greater _ refl
    (skip kinds.RightBracket (c == 61) kinds.Equals _ refl
    (skip kinds.RightBracket (c == 60) kinds.Less _ refl
    (skip kinds.RightBracket (c == 59) kinds.Semicolon _ refl
    (skip kinds.RightBracket (c == 58) kinds.Colon _ refl
    (skip kinds.RightBracket (c == 47) kinds.Slash _ refl
    (skip kinds.RightBracket (c == 39) kinds.Apostrophe _ refl
    (skip kinds.RightBracket (c == 38) kinds.Ampersand _ refl
    (skip kinds.RightBracket (c == 35) kinds.Number _ refl
    (skip kinds.RightBracket (c == 34) kinds.Quotation _ refl
    (skip kinds.RightBracket (c == 33) kinds.Bang _ refl
    (skip kinds.RightBracket ((c == 32) || ((c == 9) || ((c == 10) || (c == 13)))) kinds.Space _ refl h))))))))))))))
    (λ r. false-true (skip kinds.RightBracket (nat_le c 31) kinds.Control _ refl
    (skip kinds.RightBracket ((c == 45) || (c == 46)) kinds.Mark _ refl
    (skip kinds.RightBracket (nat_le 48 c && nat_le c 57) kinds.Digit _ refl
    (skip kinds.RightBracket ((nat_le 71 c && nat_le c 90) || ((nat_le 104 c && nat_le c 122) || (c == 95))) kinds.Letter _ refl
    (skip kinds.RightBracket ((nat_le 65 c && nat_le c 70) || (nat_le 98 c && nat_le c 102)) kinds.HexLetter _ refl
    (skip kinds.RightBracket (c == 121) kinds.SmallY _ refl
    (skip kinds.RightBracket (c == 120) kinds.SmallX _ refl
    (skip kinds.RightBracket (c == 118) kinds.SmallV _ refl
    (skip kinds.RightBracket (c == 117) kinds.SmallU _ refl
    (skip kinds.RightBracket (c == 116) kinds.SmallT _ refl
    (skip kinds.RightBracket (c == 115) kinds.SmallS _ refl
    (skip kinds.RightBracket (c == 113) kinds.SmallQ _ refl
    (skip kinds.RightBracket (c == 112) kinds.SmallP _ refl
    (skip kinds.RightBracket (c == 111) kinds.SmallO _ refl
    (skip kinds.RightBracket (c == 110) kinds.SmallN _ refl
    (skip kinds.RightBracket (c == 109) kinds.SmallM _ refl
    (skip kinds.RightBracket (c == 108) kinds.SmallL _ refl
    (skip kinds.RightBracket (c == 103) kinds.SmallG _ refl
    (skip kinds.RightBracket (c == 101) kinds.SmallE _ refl (skip kinds.RightBracket (c == 97) kinds.SmallA _ refl r)))))))))))))))))))))

ascii-greater : (c : ℕ) → is_kind kinds.Greater (ascii_kind c) ≡ true → (c == 62) ≡ true
unfolding ascii_kind
ascii-greater c h = hit kinds.Greater (c == 62) _
    (skip kinds.Greater (c == 61) kinds.Equals _ refl
    (skip kinds.Greater (c == 60) kinds.Less _ refl
    (skip kinds.Greater (c == 59) kinds.Semicolon _ refl
    (skip kinds.Greater (c == 58) kinds.Colon _ refl
    (skip kinds.Greater (c == 47) kinds.Slash _ refl
    (skip kinds.Greater (c == 39) kinds.Apostrophe _ refl
    (skip kinds.Greater (c == 38) kinds.Ampersand _ refl
    (skip kinds.Greater (c == 35) kinds.Number _ refl
    (skip kinds.Greater (c == 34) kinds.Quotation _ refl
    (skip kinds.Greater (c == 33) kinds.Bang _ refl (skip kinds.Greater ((c == 32) || ((c == 9) || ((c == 10) || (c == 13)))) kinds.Space _ refl h)))))))))))
    (λ r. false-true (skip kinds.Greater (nat_le c 31) kinds.Control _ refl
    (skip kinds.Greater ((c == 45) || (c == 46)) kinds.Mark _ refl
    (skip kinds.Greater (nat_le 48 c && nat_le c 57) kinds.Digit _ refl
    (skip kinds.Greater ((nat_le 71 c && nat_le c 90) || ((nat_le 104 c && nat_le c 122) || (c == 95))) kinds.Letter _ refl
    (skip kinds.Greater ((nat_le 65 c && nat_le c 70) || (nat_le 98 c && nat_le c 102)) kinds.HexLetter _ refl
    (skip kinds.Greater (c == 121) kinds.SmallY _ refl
    (skip kinds.Greater (c == 120) kinds.SmallX _ refl
    (skip kinds.Greater (c == 118) kinds.SmallV _ refl
    (skip kinds.Greater (c == 117) kinds.SmallU _ refl
    (skip kinds.Greater (c == 116) kinds.SmallT _ refl
    (skip kinds.Greater (c == 115) kinds.SmallS _ refl
    (skip kinds.Greater (c == 113) kinds.SmallQ _ refl
    (skip kinds.Greater (c == 112) kinds.SmallP _ refl
    (skip kinds.Greater (c == 111) kinds.SmallO _ refl
    (skip kinds.Greater (c == 110) kinds.SmallN _ refl
    (skip kinds.Greater (c == 109) kinds.SmallM _ refl
    (skip kinds.Greater (c == 108) kinds.SmallL _ refl
    (skip kinds.Greater (c == 103) kinds.SmallG _ refl
    (skip kinds.Greater (c == 101) kinds.SmallE _ refl
    (skip kinds.Greater (c == 97) kinds.SmallA _ refl
    (skip kinds.Greater (c == 93) kinds.RightBracket _ refl
    (skip kinds.Greater (c == 91) kinds.LeftBracket _ refl (skip kinds.Greater (c == 63) kinds.Question _ refl r))))))))))))))))))))))))

wide-bracket : (c : ℕ) → is_kind kinds.RightBracket (wide_kind c) ≡ true → ⊥
unfolding wide_kind
wide-bracket c h = false-true
    (skip kinds.RightBracket (has_between characters c c) kinds.WideOther _ refl
    (skip kinds.RightBracket (has_between name_characters c c) kinds.WideName _ refl
    (skip kinds.RightBracket (has_between name_starts c c) kinds.WideStart _ refl h)))

wide-greater : (c : ℕ) → is_kind kinds.Greater (wide_kind c) ≡ true → ⊥
unfolding wide_kind
wide-greater c h = false-true
    (skip kinds.Greater (has_between characters c c) kinds.WideOther _ refl
    (skip kinds.Greater (has_between name_characters c c) kinds.WideName _ refl (skip kinds.Greater (has_between name_starts c c) kinds.WideStart _ refl h)))

kind-bracket : (c : ℕ) → is_kind kinds.RightBracket (kind c) ≡ true → c ≡ 93
kind-bracket c h =
    cond_both (nat_lt c 128) (ascii_kind c) (wide_kind c) (λ k. is_kind kinds.RightBracket k ≡ true → c ≡ 93)
    (λ e g. eqb-true c 93 (ascii-bracket c g)) (λ e g. absurd (wide-bracket c g)) h

kind-greater : (c : ℕ) → is_kind kinds.Greater (kind c) ≡ true → c ≡ 62
kind-greater c h =
    cond_both (nat_lt c 128) (ascii_kind c) (wide_kind c) (λ k. is_kind kinds.Greater k ≡ true → c ≡ 62)
    (λ e g. eqb-true c 62 (ascii-greater c g)) (λ e g. absurd (wide-greater c g)) h

word-is : (k : Kind) (c : ℕ) → (is_kind kinds.RightBracket k ≡ true → c ≡ 93) → word_of k c ≡ says (token.Word c) ∷ []
word-is kinds.RightBracket c h = ap (λ (n : ℕ). says (token.Word n) ∷ []) (sym (h refl))
word-is k c h = refl

same-words : (cs : List ℕ) → words_so cs ≡ worded cs
same-words [] = refl
same-words (c ∷ cs) =
    ap (λ (l : List Sign). l ++ words_so cs) (word-is (kind c) c (kind-bracket c)) ∙ ap (λ (l : List Sign). says (token.Word c) ∷ l) (same-words cs)

-- From brackets to the section's end.

abbrev is_word : Kind → Bool
is_word k = is_plain k || is_kind kinds.RightBracket k

may-word : (s : Seen) (k : Kind) (P : Seen → Type 0) → MayFollow (next_seen s k) P → (is_word k ≡ true) × ((t : Seen) × P t)
may-word zero_seen kinds.Less P m = absurd m
may-word zero_seen kinds.Ampersand P m = absurd m
may-word zero_seen kinds.Control P m = absurd m
may-word zero_seen kinds.WideRefused P m = absurd m
may-word zero_seen kinds.RightBracket P m = (refl, (one_seen, m))
may-word zero_seen k P m = (refl, (zero_seen, m))
may-word one_seen kinds.Less P m = absurd m
may-word one_seen kinds.Ampersand P m = absurd m
may-word one_seen kinds.Control P m = absurd m
may-word one_seen kinds.WideRefused P m = absurd m
may-word one_seen kinds.RightBracket P m = (refl, (two_seen, m))
may-word one_seen k P m = (refl, (zero_seen, m))
may-word two_seen kinds.Greater P m = absurd m
may-word two_seen kinds.Less P m = absurd m
may-word two_seen kinds.Ampersand P m = absurd m
may-word two_seen kinds.Control P m = absurd m
may-word two_seen kinds.WideRefused P m = absurd m
may-word two_seen kinds.RightBracket P m = (refl, (two_seen, m))
may-word two_seen k P m = (refl, (zero_seen, m))

words-are : (cs : List ℕ) (s : Seen) → Follows cs s → AreWords cs
words-are [] s h = tt
words-are (c ∷ cs) s h = let (is, (t, m)) = may-word s (kind c) (Follows cs) h in (is, words-are cs t m)

no-end : (xs ys : List ℕ) (s : Seen) → Follows (xs ++ (93 ∷ 93 ∷ 62 ∷ ys)) s → ⊥
unfolding ascii_kind
no-end [] ys zero_seen h = h
no-end [] ys one_seen h = h
no-end [] ys two_seen h = h
no-end (x ∷ xs) ys s h = let (is, (t, m)) = may-word s (kind x) (Follows (xs ++ (93 ∷ 93 ∷ 62 ∷ ys))) h in no-end xs ys t m

-- the brackets right before
abbrev lead : Seen → List ℕ
lead zero_seen = []
lead one_seen = 93 ∷ []
lead two_seen = 93 ∷ 93 ∷ []

later-end : (ps cs : List ℕ) → HasSectionEnd cs → HasSectionEnd (ps ++ cs)
later-end ps cs (xs, ys, f) = (ps ++ xs, ys, ap (λ (l : List ℕ). ps ++ l) f ∙ sym (append_assoc ps xs (93 ∷ 93 ∷ 62 ∷ ys)))

abbrev Free : List ℕ → Type 0
Free cs = HasSectionEnd cs → ⊥

bracket-is : (c : ℕ) → kind c ≡ kinds.RightBracket → c ≡ 93
bracket-is c e = kind-bracket c (ap (λ (k : Kind). is_kind kinds.RightBracket k) e)

greater-is : (c : ℕ) → kind c ≡ kinds.Greater → c ≡ 62
greater-is c e = kind-greater c (ap (λ (k : Kind). is_kind kinds.Greater k) e)

goes-on : (s : Seen) (k : Kind) (c : ℕ) (cs : List ℕ) → kind c ≡ k → is_word k ≡ true → Free (lead s ++ (c ∷ cs))
    → ((t : Seen) → Free (lead t ++ cs) → Follows cs t) → MayFollow (next_seen s k) (Follows cs)
goes-on zero_seen kinds.Less c cs e a free h = false-true a
goes-on zero_seen kinds.Ampersand c cs e a free h = false-true a
goes-on zero_seen kinds.Control c cs e a free h = false-true a
goes-on zero_seen kinds.WideRefused c cs e a free h = false-true a
goes-on zero_seen kinds.RightBracket c cs e a free h = h one_seen (λ x. free (subst (λ (n : ℕ). HasSectionEnd (n ∷ cs)) (sym (bracket-is c e)) x))
goes-on zero_seen k c cs e a free h = h zero_seen (λ x. free (later-end (c ∷ []) cs x))
goes-on one_seen kinds.Less c cs e a free h = false-true a
goes-on one_seen kinds.Ampersand c cs e a free h = false-true a
goes-on one_seen kinds.Control c cs e a free h = false-true a
goes-on one_seen kinds.WideRefused c cs e a free h = false-true a
goes-on one_seen kinds.RightBracket c cs e a free h = h two_seen (λ x. free (subst (λ (n : ℕ). HasSectionEnd (93 ∷ n ∷ cs)) (sym (bracket-is c e)) x))
goes-on one_seen k c cs e a free h = h zero_seen (λ x. free (later-end (93 ∷ c ∷ []) cs x))
goes-on two_seen kinds.Greater c cs e a free h = free (subst (λ (n : ℕ). HasSectionEnd (93 ∷ 93 ∷ n ∷ cs)) (sym (greater-is c e)) ([], cs, refl))
goes-on two_seen kinds.Less c cs e a free h = false-true a
goes-on two_seen kinds.Ampersand c cs e a free h = false-true a
goes-on two_seen kinds.Control c cs e a free h = false-true a
goes-on two_seen kinds.WideRefused c cs e a free h = false-true a
goes-on two_seen kinds.RightBracket c cs e a free h =
    h two_seen (λ x. free (subst (λ (n : ℕ). HasSectionEnd (93 ∷ 93 ∷ n ∷ cs)) (sym (bracket-is c e)) (later-end (93 ∷ []) (93 ∷ 93 ∷ cs) x)))
goes-on two_seen k c cs e a free h = h zero_seen (λ x. free (later-end (93 ∷ 93 ∷ c ∷ []) cs x))

follows-from : (cs : List ℕ) (s : Seen) → AreWords cs → Free (lead s ++ cs) → Follows cs s
follows-from [] s a free = tt
follows-from (c ∷ cs) s a free = goes-on s (kind c) c cs refl a.0 free (λ t. follows-from cs t a.1)

-- In both directions.

pub words-to : (cs : List ℕ) (ms : List Sign) → IsText char_data cs ms → AreWords cs × (HasSectionEnd cs → ⊥) × (ms ≡ worded cs)
words-to cs ms m =
    let r = text-follows cs zero_seen ms m in
    (words-are cs zero_seen r.0, λ (xs, ys, e). no-end xs ys zero_seen (subst (λ (l : List ℕ). Follows l zero_seen) e r.0), r.1 ∙ same-words cs)

pub words-from : (cs : List ℕ) → AreWords cs → (HasSectionEnd cs → ⊥) → IsText char_data cs (worded cs)
words-from cs a free = subst (IsText char_data cs) (same-words cs) (follows-text cs zero_seen (follows-from cs zero_seen a free))
