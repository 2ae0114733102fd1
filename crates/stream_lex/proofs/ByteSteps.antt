-- What one byte does to what is left, in both directions.
use Rattle.std.proofs.Common.{◌≡◌, ℕ, eq-eqb, ◌<◌, ◌≤◌, List, [], ◌∷◌, ◌++◌, inl, inr, map, refl, sym, ap, ◌∙◌, subst, append_assoc, Bool}
use Rattle.std.proofs.Common.{true, false, not, ◌&&◌, ◌==◌, nat_lt, arith, IsUtf8, encode_utf8, encode_utf8_all}
use Rattle.std.proofs.lemmas.Bool.{and_parts, and_from, cond_both, cond-true, cond-false, cases_lt, ne_eqb, eqb-true, ltb-true, ltb-false, false_from_ne_true}
use Rattle.std.proofs.lemmas.List.{append-nil}
use Rattle.std.proofs.lemmas.Str.{cons_from_encodes}
use Rattle.std.specs.Str.{all_scalars}
use Rattle.std.specs.Char.{IsScalar}
use lib.Utf8.{scalar, scalar_cases, low_scalar}
use Rattle.stream_lex.specs.declared.Token.{Token}
use Rattle.stream_lex.specs.declared.LexFault.{LexFault}
use Rattle.stream_lex.specs.declared.LexFault.TheVariants.{NotWellFormed, Restricted, BadEncoding}
use Rattle.stream_lex.specs.declared.stages.Stage.{Stage}
use Rattle.stream_lex.specs.declared.stages.Stage.TheVariants as stage
use Rattle.stream_lex.specs.declared.stages.State.{State}
use Rattle.stream_lex.specs.declared.characters.Pending.{Pending}
use Rattle.stream_lex.specs.declared.characters.Pending.TheVariants as pending
use Rattle.stream_lex.specs.declared.characters.Reach.{Reach}
use Rattle.stream_lex.specs.declared.characters.Reach.TheVariants.{Whole, Begun, Broken}
use Rattle.stream_lex.specs.grammar.Classes.{has_between, class_of, scalar_values}
use Rattle.stream_lex.specs.grammar.Kinds.{ascii_kind}
use Rattle.stream_lex.specs.machine.Characters.{bytes_of, is_begun, is_between, is_second, is_continuation, reach}
use Rattle.stream_lex.specs.machine.Characters.{reach_first, reach_second, reach_third, reach_fourth}
use Rattle.stream_lex.specs.grammar.Expressions.{Sign, refuses, all_said, IsText}
use Rattle.stream_lex.specs.grammar.Grammar.{spread}
use Rattle.stream_lex.specs.machine.Machine.{Turn, goes, stops, ascii, allowed_at, Voice, whole, by_byte, voice, voiced, through, wide_fault, passed}
use Rattle.stream_lex.specs.machine.Machine.{yields as tells_and_goes}
use Rattle.stream_lex.specs.machine.Turns.{Outcome, leads, fails, at, byte_told, end_told, settled, turn_ascii, fault_of, turn_wide, turn}
use Rattle.stream_lex.specs.machine.Live.{is_live_stage, is_met, is_awaited, is_live}
use Rattle.stream_lex.specs.machine.Rests.{rest_at, beyond_refusal}
use Rattle.stream_lex.specs.grammar.Reading.{lines}
use Rattle.stream_lex.specs.machine.Leading.{heard, Left}
use Rattle.stream_lex.proofs.Lists.{same_head, cons_not_nil, false-true, true-false, says-refuses, says-tail, said-append}
use Rattle.stream_lex.proofs.Spans.{Within, IsRest, encode1, reach-within, reach-starts, between-parts}
use Rattle.stream_lex.proofs.Classing.{has_between-of, has_between-has, proper-scalars, scalars-low, scalars-are}
use Rattle.stream_lex.proofs.Classing.{scalars-all, class-low, class-scalar, ascii-next, high-next}
use Rattle.stream_lex.proofs.Stepping.{Told, Leaves, step-to, step-from}
use Rattle.stream_lex.proofs.Ending.{beyond_refusal-text, line-plain, clean-lines, clean-scalars}
use Rattle.stream_lex.proofs.Living.{live-parts}

-- A byte leads from a state to another and tells these tokens.
pub record Goes (st : State) (b : ℕ) (us : List Token) (to : State) : Type 0 where
  pub rest : (more : List ℕ) (ms : List Sign) → Left st (b ∷ more) ms → (ns : List Sign) × (ms ≡ all_said us ++ ns) × Left to more ns
  pub text : (more : List ℕ) (ns : List Sign) → Left to more ns → Left st (b ∷ more) (all_said us ++ ns)
  pub utf8 : (more : List ℕ) → IsUtf8 (bytes_of st.pending ++ (b ∷ more)) → IsUtf8 (bytes_of to.pending ++ more)
  pub utf8_text : (more : List ℕ) → IsUtf8 (bytes_of to.pending ++ more) → IsUtf8 (bytes_of st.pending ++ (b ∷ more))

-- these signs begin with a refusal of this kind; of the kind `NotWellFormed` there is none
abbrev pub IsRefused : LexFault → List Sign → Type 0
IsRefused NotWellFormed ms = ⊥
IsRefused f ms = (ns : List Sign) × (ms ≡ refuses f ∷ ns)

abbrev pub HasRefused : LexFault → State → ℕ → Type 0
HasRefused NotWellFormed st b = Unit {0}
HasRefused f st b = (more : List ℕ) × (ns : List Sign) × Left st (b ∷ more) (refuses f ∷ ns)

-- the byte is UTF-8 and refused so
pub record Refuses (st : State) (b : ℕ) (f : LexFault) : Type 0 where
  pub refused : (more : List ℕ) (ms : List Sign) → Left st (b ∷ more) ms → IsRefused f ms
  pub shown : HasRefused f st b
  pub utf8 : (more : List ℕ) × IsUtf8 (bytes_of st.pending ++ (b ∷ more))

-- the byte is refused, or it is not UTF-8
pub data Fails (st : State) (b : ℕ) (f : LexFault) : Type 0 where
  refusing : Refuses st b f → Fails st b f
  undecodable : f ≡ BadEncoding → ((more : List ℕ) → IsUtf8 (bytes_of st.pending ++ (b ∷ more)) → ⊥) → Fails st b f

abbrev pub Does : State → ℕ → Outcome → Type 0
Does st b (leads to us) = Goes st b us to
Does st b (fails f) = Fails st b f

-- Between characters.

heard-nil : (v : Voice) → heard v [] ≡ []
heard-nil (whole f) = refl
heard-nil (by_byte first_character further_character) = refl

-- what is left between two characters
abbrev pub Plain : Stage → Bool → List ℕ → List Sign → Type 0
Plain s r more ms = (cs : List ℕ) × (all_scalars cs ≡ true) × (encode_utf8_all cs ≡ more) × IsText (rest_at s) (lines r cs) ms

pub left-plain : (s : Stage) (r : Bool) (more : List ℕ) (ms : List Sign) → Left (at s pending.Nothing r) more ms → Plain s r more ms
left-plain s r more ms (cs, sc, e, m) = (cs, sc, e, subst (λ (l : List Token). IsText (rest_at s) (lines r cs) (all_said l ++ ms)) (heard-nil (voice s)) m)

pub plain-left : (s : Stage) (r : Bool) (more : List ℕ) (ms : List Sign) → Plain s r more ms → Left (at s pending.Nothing r) more ms
plain-left s r more ms (cs, sc, e, m) =
    (cs, sc, e, subst (λ (l : List Token). IsText (rest_at s) (lines r cs) (all_said l ++ ms)) (sym (heard-nil (voice s))) m)

-- the first character of a text, by its bytes
first_character-of : (n : ℕ) (q more cs : List ℕ) → encode_utf8 n ≡ q → all_scalars cs ≡ true → encode_utf8_all cs ≡ q ++ more
    → (es : List ℕ) × (cs ≡ n ∷ es) × (encode_utf8_all es ≡ more) × (all_scalars es ≡ true)
first_character-of n q more cs eq sc e =
    let (es, same, rest) = cons_from_encodes cs more n (e ∙ sym (ap (λ (l : List ℕ). l ++ more) eq)) in
    (es, same, rest, (and_parts (scalar n) (all_scalars es) (subst (λ (l : List ℕ). all_scalars l ≡ true) same sc)).1)

ascii-scalar : (b : ℕ) → b < 128 → scalar b ≡ true
ascii-scalar b h = low_scalar b (omega arith)

-- a byte that is one character, which stands for the character c
single-step : (s : Stage) (r0 r : Bool) (b c : ℕ) (us : List Token) (u : Stage) → b < 128
    → ((cs : List ℕ) → lines r0 (b ∷ cs) ≡ c ∷ lines r cs)
    → ((cs : List ℕ) (ms : List Sign) → IsText (rest_at s) (c ∷ cs) ms → Told (all_said us) (rest_at u) cs ms)
    → ((cs : List ℕ) (ms : List Sign) → Told (all_said us) (rest_at u) cs ms → IsText (rest_at s) (c ∷ cs) ms)
    → Goes (at s pending.Nothing r0) b us (at u pending.Nothing r)
single-step s r0 r b c us u low line to from = record {
  rest = λ more ms l.
      let (cs, sc, e, m) = left-plain s r0 (b ∷ more) ms l in
      let (es, same, enc, scs) = first_character-of b (b ∷ []) more cs (encode1 b low) sc e in
      let t = to (lines r es) ms (subst (λ (l1 : List ℕ). IsText (rest_at s) l1 ms) (ap (lines r0) same ∙ line es) m) in
      (t.0, t.1, plain-left u r more t.0 (es, scs, enc, t.2));
  text = λ more ns l.
      let (es, sc, e, m) = left-plain u r more ns l in
      plain-left s r0 (b ∷ more) (all_said us ++ ns) (
        b ∷ es,
        and_from _ _ (ascii-scalar b low) sc,
        ap (λ (l1 : List ℕ). l1 ++ encode_utf8_all es) (encode1 b low) ∙ ap (λ (l1 : List ℕ). b ∷ l1) e,
        subst (λ (l1 : List ℕ). IsText (rest_at s) l1 (all_said us ++ ns)) (sym (line es)) (from (lines r es) (all_said us ++ ns) (ns, refl, m)),
      );
  utf8 = λ more h.
      let (es, same, enc, scs) = first_character-of b (b ∷ []) more h.0 (encode1 b low) h.1.0 h.1.1 in (es, (scs, enc));
  utf8_text = λ more h. (
    b ∷ h.0,
    (
      and_from _ _ (ascii-scalar b low) h.1.0,
      ap (λ (l1 : List ℕ). l1 ++ encode_utf8_all h.0) (encode1 b low)
          ∙ ap (λ (l1 : List ℕ). b ∷ l1) h.1.1,
    ),
  );
}

-- the signs of a refused text
leaves-refused : (s : Stage) (f : LexFault) (cs : List ℕ) (ms : List Sign) → Leaves s (stops f) cs ms → IsRefused f ms
leaves-refused s NotWellFormed cs ms l = l
leaves-refused s Restricted cs ms (ns, e, m) = (ns, e)
leaves-refused s BadEncoding cs ms (ns, e, m) = (ns, e)

-- a text that is refused after the character, of a kind other than `NotWellFormed`
leaves-shown : (s : Stage) (f : LexFault) (cs : List ℕ) (ns : List Sign) → IsText (beyond_refusal s) cs ns → (f ≡ NotWellFormed → ⊥)
    → Leaves s (stops f) cs (refuses f ∷ ns)
leaves-shown s NotWellFormed cs ns m h = absurd (h refl)
leaves-shown s Restricted cs ns m h = (ns, refl, m)
leaves-shown s BadEncoding cs ns m h = (ns, refl, m)

has-shown : (f : LexFault) (st : State) (b : ℕ) → ((f ≡ NotWellFormed → ⊥) → (more : List ℕ) × (ns : List Sign) × Left st (b ∷ more) (refuses f ∷ ns))
    → HasRefused f st b
has-shown NotWellFormed st b h = tt
has-shown Restricted st b h = h (λ e. let bad : Restricted ≡ NotWellFormed = e in cc)
has-shown BadEncoding st b h = h (λ e. let bad : BadEncoding ≡ NotWellFormed = e in cc)

single-stop : (s : Stage) (r0 r : Bool) (b c : ℕ) (f : LexFault) → b < 128
    → ((cs : List ℕ) → lines r0 (b ∷ cs) ≡ c ∷ lines r cs)
    → ((cs : List ℕ) (ms : List Sign) → IsText (rest_at s) (c ∷ cs) ms → Leaves s (stops f) cs ms)
    → ((cs : List ℕ) (ms : List Sign) → Leaves s (stops f) cs ms → IsText (rest_at s) (c ∷ cs) ms)
    → Refuses (at s pending.Nothing r0) b f
single-stop s r0 r b c f low line to from = record {
  refused = λ more ms l.
      let (cs, sc, e, m) = left-plain s r0 (b ∷ more) ms l in
      let (es, same, enc, scs) = first_character-of b (b ∷ []) more cs (encode1 b low) sc e in
      leaves-refused s f (lines r es) ms (to (lines r es) ms (subst (λ (l1 : List ℕ). IsText (rest_at s) l1 ms) (ap (lines r0) same ∙ line es) m));
  shown = has-shown f (at s pending.Nothing r0) b (λ other.
      let (es, ts, clean, m) = beyond_refusal-text s in (
        encode_utf8_all es,
        all_said ts,
        plain-left s r0 (b ∷ encode_utf8_all es) (refuses f ∷ all_said ts) (
          b ∷ es,
          and_from _ _ (ascii-scalar b low) (clean-scalars es clean),
          ap (λ (l1 : List ℕ). l1 ++ encode_utf8_all es) (encode1 b low),
          subst (λ (l1 : List ℕ). IsText (rest_at s) l1 (refuses f ∷ all_said ts)) (sym (line es ∙ ap (λ (l1 : List ℕ). c ∷ l1) (clean-lines r es clean)))
              (from es (refuses f ∷ all_said ts) (leaves-shown s f es (all_said ts) m other)),
        ),
      ));
  utf8 = ([], (b ∷ [], (and_from _ _ (ascii-scalar b low) refl, ap (λ (l1 : List ℕ). l1 ++ []) (encode1 b low))));
}

-- a turn of a character
turn-does : (s : Stage) (r0 r : Bool) (b c : ℕ) (t : Turn) → b < 128
    → ((cs : List ℕ) → lines r0 (b ∷ cs) ≡ c ∷ lines r cs)
    → ((cs : List ℕ) (ms : List Sign) → IsText (rest_at s) (c ∷ cs) ms → Leaves s t cs ms)
    → ((cs : List ℕ) (ms : List Sign) → Leaves s t cs ms → IsText (rest_at s) (c ∷ cs) ms)
    → Does (at s pending.Nothing r0) b (settled r t)
turn-does s r0 r b c (goes u) low line to from = single-step s r0 r b c [] u low line to from
turn-does s r0 r b c (tells_and_goes us u) low line to from = single-step s r0 r b c us u low line to from
turn-does s r0 r b c (stops f) low line to from = refusing (single-stop s r0 r b c f low line to from)

ascii-does : (s : Stage) (r0 r : Bool) (b c : ℕ) → is_live_stage s ≡ true → b < 128 → c < 128
    → ((cs : List ℕ) → lines r0 (b ∷ cs) ≡ c ∷ lines r cs)
    → Does (at s pending.Nothing r0) b (settled r (ascii s (ascii_kind c) c))
ascii-does s r0 r b c live low lowc line =
    turn-does s r0 r b c (ascii s (ascii_kind c) c) low line
    (λ cs ms m. subst (λ (t : Turn). Leaves s t cs ms) (ascii-next s c lowc) (step-to s c cs ms live m))
    (λ cs ms l. step-from s c cs ms live (subst (λ (t : Turn). Leaves s t cs ms) (sym (ascii-next s c lowc)) l))

-- a line feed that belongs to the carriage return before it
feed-goes : (s : Stage) (b : ℕ) → b ≡ 10 → Goes (at s pending.Nothing true) b [] (at s pending.Nothing false)
feed-goes s b e =
    let low : b < 128 = omega arith in
    let line : (cs : List ℕ) → lines true (b ∷ cs) ≡ lines false cs = λ cs. cond-true (b == 10) _ _ (eq-eqb b 10 e) in record {
      rest = λ more ms l.
          let (cs, sc, en, m) = left-plain s true (b ∷ more) ms l in
          let (es, same, enc, scs) = first_character-of b (b ∷ []) more cs (encode1 b low) sc en in
          (ms, refl, plain-left s false more ms (es, scs, enc, subst (λ (l1 : List ℕ). IsText (rest_at s) l1 ms) (ap (lines true) same ∙ line es) m));
      text = λ more ns l.
          let (es, sc, en, m) = left-plain s false more ns l in
          plain-left s true (b ∷ more) ns (
            b ∷ es,
            and_from _ _ (ascii-scalar b low) sc,
            ap (λ (l1 : List ℕ). l1 ++ encode_utf8_all es) (encode1 b low) ∙ ap (λ (l1 : List ℕ). b ∷ l1) en,
            subst (λ (l1 : List ℕ). IsText (rest_at s) l1 ns) (sym (line es)) m,
          );
      utf8 = λ more h. let (es, same, enc, scs) = first_character-of b (b ∷ []) more h.0 (encode1 b low) h.1.0 h.1.1 in (es, (scs, enc));
      utf8_text = λ more h. (
        b ∷ h.0,
        (
          and_from _ _ (ascii-scalar b low) h.1.0,
          ap (λ (l1 : List ℕ). l1 ++ encode_utf8_all h.0) (encode1 b low)
              ∙ ap (λ (l1 : List ℕ). b ∷ l1) h.1.1,
        ),
      );
    }

return-line : (r0 : Bool) (b : ℕ) (cs : List ℕ) → (r0 && b == 10) ≡ false → b ≡ 13 → lines r0 (b ∷ cs) ≡ 10 ∷ lines true cs
return-line r0 b cs f e = cond-false (r0 && b == 10) _ _ f ∙ cond-true (b == 13) _ _ (eq-eqb b 13 e)

plain-line : (r0 : Bool) (b : ℕ) (cs : List ℕ) → (r0 && b == 10) ≡ false → (b == 13) ≡ false → lines r0 (b ∷ cs) ≡ b ∷ lines false cs
plain-line r0 b cs f g = cond-false (r0 && b == 10) _ _ f ∙ cond-false (b == 13) _ _ g

feed-does : (s : Stage) (r0 : Bool) (b : ℕ) → (r0 && b == 10) ≡ true → Does (at s pending.Nothing r0) b (leads (at s pending.Nothing false) [])
feed-does s true b h = feed-goes s b (eqb-true b 10 h)
feed-does s false b h = false-true h

turn_ascii-does : (s : Stage) (r0 : Bool) (b : ℕ) → is_live_stage s ≡ true → b < 128 → Does (at s pending.Nothing r0) b (turn_ascii (at s pending.Nothing r0) b)
unfolding turn_ascii
turn_ascii-does s r0 b live low =
    cond_both (r0 && b == 10) _ _ (Does (at s pending.Nothing r0) b) (feed-does s r0 b)
    (λ f. cond_both (b == 13) _ _ (Does (at s pending.Nothing r0) b)
    (λ e. ascii-does s r0 true b 10 live low (omega arith) (λ cs. return-line r0 b cs f (eqb-true b 13 e)))
    (λ g. ascii-does s r0 false b b live low low (λ cs. plain-line r0 b cs f g)))

-- Characters of several bytes.

-- the bytes of a reach
abbrev pub Spelt : List ℕ → Reach → Type 0
Spelt bs (Begun q low high) = (bytes_of q ≡ bs) × (low ≤ high)
Spelt bs r = Unit {0}

spelt1 : (a : ℕ) → Spelt (a ∷ []) (reach_first a)
unfolding reach_first
spelt1 a =
    cond_both (is_between 194 223 a) _ _ (Spelt (a ∷ [])) (λ t. (refl, omega arith))
    (λ f1. cond_both (is_between 224 239 a) _ _ (Spelt (a ∷ [])) (λ t. let (h, k) = between-parts 224 239 a t in (refl, omega arith))
    (λ f2. cond_both (is_between 240 244 a) _ _ (Spelt (a ∷ [])) (λ t. let (h, k) = between-parts 240 244 a t in (refl, omega arith)) (λ f3. tt)))

spelt2 : (a b : ℕ) → Spelt (a ∷ b ∷ []) (reach_second a b)
unfolding reach_second
spelt2 a b =
    cond_both (not (is_second a b)) _ _ (Spelt (a ∷ b ∷ [])) (λ t. tt)
    (λ f. cond_both (nat_lt a 224) _ _ (Spelt (a ∷ b ∷ [])) (λ t. tt)
    (λ f1. cond_both (nat_lt a 240) _ _ (Spelt (a ∷ b ∷ [])) (λ t. (refl, omega arith)) (λ f2. (refl, omega arith))))

spelt3 : (a b c : ℕ) → Spelt (a ∷ b ∷ c ∷ []) (reach_third a b c)
unfolding reach_third
spelt3 a b c =
    cond_both (not (is_continuation c)) _ _ (Spelt (a ∷ b ∷ c ∷ [])) (λ t. tt)
    (λ f. cond_both (nat_lt a 240) _ _ (Spelt (a ∷ b ∷ c ∷ [])) (λ t. tt) (λ f1. (refl, omega arith)))

spelt4 : (a b c d : ℕ) → Spelt (a ∷ b ∷ c ∷ d ∷ []) (reach_fourth a b c d)
unfolding reach_fourth
spelt4 a b c d = cond_both (is_continuation d) _ _ (Spelt (a ∷ b ∷ c ∷ d ∷ [])) (λ t. tt) (λ f. tt)

pub reach-spelt : (p : Pending) (b : ℕ) → Spelt (bytes_of p ++ b ∷ []) (reach p b)
reach-spelt pending.Nothing b = spelt1 b
reach-spelt (pending.One a) b = spelt2 a b
reach-spelt (pending.Two a c) b = spelt3 a c b
reach-spelt (pending.Three a c d) b = spelt4 a c d b

grouped : (p : Pending) (b : ℕ) (more : List ℕ) → (bytes_of p ++ b ∷ []) ++ more ≡ bytes_of p ++ (b ∷ more)
grouped p b more = append_assoc (bytes_of p) (b ∷ []) more

-- such bytes begin no character below 128
not-low : (p : Pending) (b n : ℕ) (ys zs : List ℕ) → is_begun p ≡ true → (bytes_of p ≡ [] → 128 ≤ b) → encode_utf8 n ++ ys ≡ bytes_of p ++ (b ∷ zs) → n < 128
    → ⊥
not-low pending.Nothing b n ys zs h k e low =
    let same : n ≡ b = same_head n b ys zs (ap (λ (l : List ℕ). l ++ ys) (sym (encode1 n low)) ∙ e) in let high = k refl in omega arith
not-low (pending.One a) b n ys zs h k e low =
    let same : n ≡ a = same_head n a ys (b ∷ zs) (ap (λ (l : List ℕ). l ++ ys) (sym (encode1 n low)) ∙ e) in let (x, y) =
    between-parts 194 244 a h in omega arith
not-low (pending.Two a c) b n ys zs h k e low =
    let same : n ≡ a = same_head n a ys (c ∷ b ∷ zs) (ap (λ (l : List ℕ). l ++ ys) (sym (encode1 n low)) ∙ e) in let (x, y) =
    between-parts 224 244 a (and_parts (is_between 224 244 a) (is_second a c) h).0 in omega arith
not-low (pending.Three a c d) b n ys zs h k e low =
    let same : n ≡ a = same_head n a ys (c ∷ d ∷ b ∷ zs) (ap (λ (l : List ℕ). l ++ ys) (sym (encode1 n low)) ∙ e) in let (x, y) =
    between-parts 240 244 a (and_parts (is_between 240 244 a) (is_second a c && is_continuation d) h).0 in omega arith

-- the first character of a text that begins so
pub record First (p : Pending) (b : ℕ) (more cs : List ℕ) : Type 0 where
  pub n : ℕ
  pub es : List ℕ
  pub is : cs ≡ n ∷ es
  pub scalar_is : IsScalar n
  pub high : 128 ≤ n
  pub within : Within (reach p b) n
  pub bytes : encode_utf8 n ++ encode_utf8_all es ≡ bytes_of p ++ (b ∷ more)

no-bytes : (p : Pending) (b : ℕ) (more : List ℕ) → [] ≡ bytes_of p ++ (b ∷ more) → ⊥
no-bytes pending.Nothing b more e = cons_not_nil b more (sym e)
no-bytes (pending.One a) b more e = cons_not_nil a (b ∷ more) (sym e)
no-bytes (pending.Two a c) b more e = cons_not_nil a (c ∷ b ∷ more) (sym e)
no-bytes (pending.Three a c d) b more e = cons_not_nil a (c ∷ d ∷ b ∷ more) (sym e)

scalar-top : (n : ℕ) → IsScalar n → n < 1114112
scalar-top n s = elim (scalar_cases n s) [ inl k ↦ omega arith | inr k ↦ k.1 ]

pub first_character-in : (p : Pending) (b : ℕ) (more cs : List ℕ) → is_begun p ≡ true → (bytes_of p ≡ [] → 128 ≤ b) → all_scalars cs ≡ true
    → encode_utf8_all cs ≡ bytes_of p ++ (b ∷ more) → First p b more cs
first_character-in p b more [] h k sc e = absurd (no-bytes p b more e)
first_character-in p b more (n ∷ es) h k sc e =
    let s = and_parts (scalar n) (all_scalars es) sc in record {
      n = n;
      es = es;
      is = refl;
      scalar_is = s.0;
      high = elim (cases_lt n 128) [ inl low ↦ absurd (not-low p b n (encode_utf8_all es) more h k e low) | inr high ↦ high ];
      within = reach-within p b n (encode_utf8_all es) more h k (scalar-top n s.0) e;
      bytes = e;
    }

pub high-line : (r : Bool) (n : ℕ) (cs : List ℕ) → 128 ≤ n → lines r (n ∷ cs) ≡ n ∷ lines false cs
high-line r n cs h = line-plain r n cs (ne_eqb n 10 (λ e. omega arith)) (ne_eqb n 13 (λ e. omega arith))

-- where some character from 128 on may come, one that may not is a fault of no other kind
plain-fault : (s : Stage) (low high : ℕ) → has_between (class_of (allowed_at s)) low high ≡ true → wide_fault s ≡ NotWellFormed
unfolding allowed_at wide_fault
plain-fault (stage.Text p) low high h = refl
plain-fault (stage.Bracketed b) low high h = refl
plain-fault stage.Cdata low high h = refl
plain-fault (stage.CdataBracketed b) low high h = refl
plain-fault (stage.Name r j) low high h = refl
plain-fault (stage.Colon r) low high h = refl
plain-fault stage.StartLess low high h = refl
plain-fault stage.PrologLess low high h = refl
plain-fault stage.Less low high h = refl
plain-fault stage.EndTagMark low high h = refl
plain-fault stage.InTag low high h = refl
plain-fault s low high h = false-true h

-- what a character of several bytes tells, and what its bytes tell

pub voiced-more : (v : Voice) (p : Pending) (b : ℕ) → heard v (bytes_of p ++ b ∷ []) ≡ heard v (bytes_of p) ++ byte_told v p b
voiced-more (whole f) p b = refl
voiced-more (by_byte first_character further_character) pending.Nothing b = refl
voiced-more (by_byte first_character further_character) (pending.One a) b = refl
voiced-more (by_byte first_character further_character) (pending.Two a c) b = refl
voiced-more (by_byte first_character further_character) (pending.Three a c d) b = refl

map-more : (f : ℕ → Token) (xs ys : List ℕ) → map f (xs ++ ys) ≡ map f xs ++ map f ys
map-more f [] ys = refl
map-more f (x ∷ xs) ys = ap (λ (l : List Token). f x ∷ l) (map-more f xs ys)

-- the tokens of the bytes bs, and of those after them
abbrev pub heard_on : Voice → ℕ → List ℕ → List Token
heard_on (whole f) n rest = f n
heard_on (by_byte first_character further_character) n rest = map further_character rest

voiced-cut : (v : Voice) (n a : ℕ) (bs rest : List ℕ) → encode_utf8 n ≡ (a ∷ bs) ++ rest → voiced v n ≡ heard v (a ∷ bs) ++ heard_on v n rest
voiced-cut (whole f) n a bs rest e = refl
voiced-cut (by_byte first_character further_character) n a bs rest e = ap (spread first_character further_character) e
    ∙ ap (λ (l : List Token). first_character a ∷ l) (map-more further_character bs rest)

front : (v : Voice) (p : Pending) (b n : ℕ) (rest : List ℕ) → encode_utf8 n ≡ (bytes_of p ++ b ∷ []) ++ rest
    → voiced v n ≡ heard v (bytes_of p ++ b ∷ []) ++ heard_on v n rest
front v pending.Nothing b n rest e = voiced-cut v n b [] rest e
front v (pending.One a) b n rest e = voiced-cut v n a (b ∷ []) rest e
front v (pending.Two a c) b n rest e = voiced-cut v n a (c ∷ b ∷ []) rest e
front v (pending.Three a c d) b n rest e = voiced-cut v n a (c ∷ d ∷ b ∷ []) rest e

pub voiced-split : (v : Voice) (p : Pending) (b n : ℕ) (rest : List ℕ) → encode_utf8 n ≡ (bytes_of p ++ b ∷ []) ++ rest
    → voiced v n ≡ heard v (bytes_of p) ++ (byte_told v p b ++ heard_on v n rest)
voiced-split v p b n rest e = front v p b n rest e
    ∙ (ap (λ (l : List Token). l ++ heard_on v n rest) (voiced-more v p b) ∙ append_assoc (heard v (bytes_of p)) (byte_told v p b) (heard_on v n rest))

voiced-whole : (v : Voice) (p : Pending) (b n : ℕ) → encode_utf8 n ≡ bytes_of p ++ b ∷ []
    → voiced v n ≡ heard v (bytes_of p) ++ (byte_told v p b ++ end_told v n)
voiced-whole (whole f) p b n e = refl
voiced-whole (by_byte first_character further_character) p b n e =
    ap (spread first_character further_character) e
    ∙ (voiced-more (by_byte first_character further_character) p b
    ∙ ap (λ (l : List Token). heard (by_byte first_character further_character) (bytes_of p) ++ l)
    (sym (append-nil (byte_told (by_byte first_character further_character) p b))))

-- what follows the same tokens
same-derivative : (ts : List Token) (xs ys : List Sign) → all_said ts ++ xs ≡ all_said ts ++ ys → xs ≡ ys
same-derivative [] xs ys e = e
same-derivative (t ∷ ts) xs ys e = same-derivative ts xs ys (says-tail t t (all_said ts ++ xs) (all_said ts ++ ys) e)

pub said-three : (us vs ws : List Token) (ns : List Sign) → all_said (us ++ (vs ++ ws)) ++ ns ≡ all_said us ++ (all_said vs ++ (all_said ws ++ ns))
said-three us vs ws ns =
    ap (λ (l : List Sign). l ++ ns) (said-append us (vs ++ ws) ∙ ap (λ (l : List Sign). all_said us ++ l) (said-append vs ws))
    ∙ (append_assoc (all_said us) (all_said vs ++ all_said ws) ns ∙ ap (λ (l : List Sign). all_said us ++ l) (append_assoc (all_said vs) (all_said ws) ns))

pub said-two : (us vs : List Token) (ns : List Sign) → all_said (us ++ vs) ++ ns ≡ all_said us ++ (all_said vs ++ ns)
said-two us vs ns = ap (λ (l : List Sign). l ++ ns) (said-append us vs) ∙ append_assoc (all_said us) (all_said vs) ns

-- what a character from 128 on leaves, where it may come and where not
wide-leaves : (s : Stage) (n : ℕ) (cs : List ℕ) (ms : List Sign) → is_live_stage s ≡ true → 128 ≤ n → has_between (class_of (allowed_at s)) n n ≡ true
    → IsText (rest_at s) (n ∷ cs) ms → Told (all_said (voiced (voice s) n)) (rest_at (through s)) cs ms
wide-leaves s n cs ms live h e m =
    subst (λ (t : Bool). Leaves s (passed t s n) cs ms) e (subst (λ (t : Turn). Leaves s t cs ms) (high-next s n h) (step-to s n cs ms live m))

pub wide-text : (s : Stage) (n : ℕ) (cs : List ℕ) (ms : List Sign) → is_live_stage s ≡ true → 128 ≤ n → has_between (class_of (allowed_at s)) n n ≡ true
    → Told (all_said (voiced (voice s) n)) (rest_at (through s)) cs ms → IsText (rest_at s) (n ∷ cs) ms
wide-text s n cs ms live h e m =
    step-from s n cs ms live (subst (λ (t : Turn). Leaves s t cs ms) (sym (high-next s n h)) (subst (λ (t : Bool). Leaves s (passed t s n) cs ms) (sym e) m))

wide-stops : (s : Stage) (n : ℕ) (cs : List ℕ) (ms : List Sign) → is_live_stage s ≡ true → 128 ≤ n → has_between (class_of (allowed_at s)) n n ≡ false
    → IsText (rest_at s) (n ∷ cs) ms → Leaves s (stops (wide_fault s)) cs ms
wide-stops s n cs ms live h e m =
    subst (λ (t : Bool). Leaves s (passed t s n) cs ms) e (subst (λ (t : Turn). Leaves s t cs ms) (high-next s n h) (step-to s n cs ms live m))

wide-refused : (s : Stage) (n : ℕ) (cs : List ℕ) (ms : List Sign) → is_live_stage s ≡ true → 128 ≤ n → has_between (class_of (allowed_at s)) n n ≡ false
    → Leaves s (stops (wide_fault s)) cs ms → IsText (rest_at s) (n ∷ cs) ms
wide-refused s n cs ms live h e l =
    step-from s n cs ms live (subst (λ (t : Turn). Leaves s t cs ms) (sym (high-next s n h)) (subst (λ (t : Bool). Leaves s (passed t s n) cs ms) (sym e) l))

-- A byte after which the character is not whole.

begun-told : (s : Stage) (p q : Pending) (b : ℕ) (more cs : List ℕ) (low high : ℕ) (r0 : Bool) (ms : List Sign) → is_live_stage s ≡ true → is_begun p ≡ true
    → has_between (class_of (allowed_at s)) low high ≡ true → (f : First p b more cs)
    → (t : Bool) → has_between (class_of (allowed_at s)) f.n f.n ≡ t
    → IsText (rest_at s) (lines r0 cs) (all_said (heard (voice s) (bytes_of p)) ++ ms)
    → (ns : List Sign) × (ms ≡ all_said (byte_told (voice s) p b) ++ ns)
begun-told s p q b more cs low high r0 ms live begun met f true e m =
    let m1 : IsText (rest_at s) (f.n ∷ lines false f.es) (all_said (heard (voice s) (bytes_of p)) ++ ms) =
    subst (λ (l : List ℕ). IsText (rest_at s) l (all_said (heard (voice s) (bytes_of p)) ++ ms)) (ap (lines r0) f.is ∙ high-line r0 f.n f.es f.high) m in
    let (ns, same, m2) = wide-leaves s f.n (lines false f.es) (all_said (heard (voice s) (bytes_of p)) ++ ms) live f.high e m1 in
    let (rest, enc, left) = reach-starts p b f.n begun f.within in
    let cut : all_said (heard (voice s) (bytes_of p)) ++ ms ≡ all_said (heard (voice s) (bytes_of p))
    ++ (all_said (byte_told (voice s) p b) ++ (all_said (heard_on (voice s) f.n rest) ++ ns)) =
    same ∙ (ap (λ (l : List Token). all_said l ++ ns) (voiced-split (voice s) p b f.n rest enc)
    ∙ said-three (heard (voice s) (bytes_of p)) (byte_told (voice s) p b) (heard_on (voice s) f.n rest) ns) in
    (all_said (heard_on (voice s) f.n rest) ++ ns, same-derivative (heard (voice s) (bytes_of p)) ms _ cut)
begun-told s p q b more cs low high r0 ms live begun met f false e m =
    let m1 : IsText (rest_at s) (f.n ∷ lines false f.es) (all_said (heard (voice s) (bytes_of p)) ++ ms) =
    subst (λ (l : List ℕ). IsText (rest_at s) l (all_said (heard (voice s) (bytes_of p)) ++ ms)) (ap (lines r0) f.is ∙ high-line r0 f.n f.es f.high) m in
    let bad : Leaves s (stops NotWellFormed) (lines false f.es) (all_said (heard (voice s) (bytes_of p)) ++ ms) =
    subst (λ (k : LexFault). Leaves s (stops k) (lines false f.es) (all_said (heard (voice s) (bytes_of p)) ++ ms)) (plain-fault s low high met)
    (wide-stops s f.n (lines false f.es) (all_said (heard (voice s) (bytes_of p)) ++ ms) live f.high e m1) in
    absurd bad

begun-goes : (s : Stage) (p q : Pending) (r0 : Bool) (b low high : ℕ) → is_live_stage s ≡ true → is_begun p ≡ true → (bytes_of p ≡ [] → 128 ≤ b)
    → bytes_of q ≡ bytes_of p ++ b ∷ [] → has_between (class_of (allowed_at s)) low high ≡ true
    → Goes (at s p r0) b (byte_told (voice s) p b) (at s q r0)
begun-goes s p q r0 b low high live begun k spelt met =
    let longer : (more : List ℕ) → bytes_of p ++ (b ∷ more) ≡ bytes_of q ++ more = λ more. sym (grouped p b more)
    ∙ ap (λ (l : List ℕ). l ++ more) (sym spelt) in
    let hears : heard (voice s) (bytes_of q) ≡ heard (voice s) (bytes_of p) ++ byte_told (voice s) p b = ap (heard (voice s)) spelt
    ∙ voiced-more (voice s) p b in record {
      rest = λ more ms l.
          let (cs, sc, e, m) = l in
          let f = first_character-in p b more cs begun k sc e in
          let (ns, same) = begun-told s p q b more cs low high r0 ms live begun met f (has_between (class_of (allowed_at s)) f.n f.n) refl m in (
            ns,
            same,
            (
              cs,
              sc,
              e ∙ longer more,
              subst (λ (l1 : List Sign). IsText (rest_at s) (lines r0 cs) l1)
                  (ap (λ (l1 : List Sign). all_said (heard (voice s) (bytes_of p)) ++ l1) same
                  ∙ (sym (said-two (heard (voice s) (bytes_of p)) (byte_told (voice s) p b) ns) ∙ ap (λ (l1 : List Token). all_said l1 ++ ns) (sym hears)))
                  m,
            ),
          );
      text = λ more ns l.
          let (cs, sc, e, m) = l in (
            cs,
            sc,
            e ∙ sym (longer more),
            subst (λ (l1 : List Sign). IsText (rest_at s) (lines r0 cs) l1)
                (ap (λ (l1 : List Token). all_said l1 ++ ns) hears ∙ said-two (heard (voice s) (bytes_of p)) (byte_told (voice s) p b) ns) m,
          );
      utf8 = λ more h. subst IsUtf8 (longer more) h;
      utf8_text = λ more h. subst IsUtf8 (sym (longer more)) h;
    }

-- The last byte of a character.

whole-goes : (s : Stage) (p : Pending) (r0 : Bool) (b n : ℕ) → is_live_stage s ≡ true → encode_utf8 n ≡ bytes_of p ++ b ∷ []
    → has_between (class_of (allowed_at s)) n n ≡ true
    → Goes (at s p r0) b (byte_told (voice s) p b ++ end_told (voice s) n) (at (through s) pending.Nothing false)
whole-goes s p r0 b n live enc met =
    let high : 128 ≤ n = class-low (allowed_at s) n met in
    let us : List Token = byte_told (voice s) p b ++ end_told (voice s) n in
    let hs : List Token = heard (voice s) (bytes_of p) in
    let tells : voiced (voice s) n ≡ hs ++ us = voiced-whole (voice s) p b n enc in
    let longer : (more : List ℕ) → (bytes_of p ++ b ∷ []) ++ more ≡ bytes_of p ++ (b ∷ more) = λ more. grouped p b more in record {
      rest = λ more ms l.
          let (cs, sc, e, m) = l in
          let (es, same, en, scs) = first_character-of n (bytes_of p ++ b ∷ []) more cs enc sc (e ∙ sym (longer more)) in
          let m1 : IsText (rest_at s) (n ∷ lines false es) (all_said hs ++ ms) =
          subst (λ (l1 : List ℕ). IsText (rest_at s) l1 (all_said hs ++ ms)) (ap (lines r0) same ∙ high-line r0 n es high) m in
          let (ns, told, m2) = wide-leaves s n (lines false es) (all_said hs ++ ms) live high met m1 in
          let cut : all_said hs ++ ms ≡ all_said hs ++ (all_said us ++ ns) = told ∙ (ap (λ (l1 : List Token). all_said l1 ++ ns) tells ∙ said-two hs us ns) in
          (ns, same-derivative hs ms (all_said us ++ ns) cut, plain-left (through s) false more ns (es, scs, en, m2));
      text = λ more ns l.
          let (es, sc, e, m) = left-plain (through s) false more ns l in
          let told : all_said hs ++ (all_said us ++ ns) ≡ all_said (voiced (voice s) n) ++ ns = sym (said-two hs us ns)
          ∙ ap (λ (l1 : List Token). all_said l1 ++ ns) (sym tells) in (
            n ∷ es,
            and_from _ _ (class-scalar (allowed_at s) n met) sc,
            ap (λ (l1 : List ℕ). l1 ++ encode_utf8_all es) enc ∙ (ap (λ (l1 : List ℕ). (bytes_of p ++ b ∷ []) ++ l1) e ∙ longer more),
            subst (λ (l1 : List ℕ). IsText (rest_at s) l1 (all_said hs ++ (all_said us ++ ns))) (sym (high-line r0 n es high))
                (wide-text s n (lines false es) (all_said hs ++ (all_said us ++ ns)) live high met (ns, told, m)),
          );
      utf8 = λ more h.
          let (es, same, en, scs) = first_character-of n (bytes_of p ++ b ∷ []) more h.0 enc h.1.0 (h.1.1 ∙ sym (longer more)) in (es, (scs, en));
      utf8_text = λ more h. (
        n ∷ h.0,
        (
          and_from _ _ (class-scalar (allowed_at s) n met) h.1.0,
          ap (λ (l1 : List ℕ). l1 ++ encode_utf8_all h.0) enc
              ∙ (ap (λ (l1 : List ℕ). (bytes_of p ++ b ∷ []) ++ l1) h.1.1 ∙ longer more),
        ),
      );
    }

-- A byte that begins no character that may come.

-- the signs of a refusal do not follow tokens
no-tokens : (hs : List Token) (f : LexFault) (ns ms : List Sign) → all_said hs ++ ms ≡ refuses f ∷ ns → ms ≡ refuses f ∷ ns
no-tokens [] f ns ms e = e
no-tokens (t ∷ ts) f ns ms e = absurd (says-refuses t f (all_said ts ++ ms) ns e)

refused-derivative : (f : LexFault) (hs : List Token) (ms : List Sign) → IsRefused f (all_said hs ++ ms) → IsRefused f ms
refused-derivative NotWellFormed hs ms r = r
refused-derivative Restricted hs ms (ns, e) = (ns, no-tokens hs Restricted ns ms e)
refused-derivative BadEncoding hs ms (ns, e) = (ns, no-tokens hs BadEncoding ns ms e)

-- after some bytes of a character the fault is of no other kind
met-fault : (s : Stage) (r : Reach) → is_met (class_of (allowed_at s)) r ≡ true → wide_fault s ≡ NotWellFormed
met-fault s (Begun q low high) h = plain-fault s low high h
met-fault s (Whole n) h = false-true h
met-fault s Broken h = false-true h

-- the state's own bytes, where the fault is of another kind
void-heard : (s : Stage) (p : Pending) → is_awaited (class_of (allowed_at s)) p ≡ true → (wide_fault s ≡ NotWellFormed → ⊥) → heard (voice s) (bytes_of p) ≡ []
void-heard s pending.Nothing h other = heard-nil (voice s)
void-heard s (pending.One a) h other = absurd (other (met-fault s (reach_first a) h))
void-heard s (pending.Two a b) h other = absurd (other (met-fault s (reach_second a b) h))
void-heard s (pending.Three a b c) h other = absurd (other (met-fault s (reach_third a b c) h))

-- what bytes that begin the characters from low to high are known to be
pub record Spans (p : Pending) (b low high : ℕ) : Type 0 where
  pub ordered : low ≤ high
  pub only : (n : ℕ) → Within (reach p b) n → (low ≤ n) × (n ≤ high)
  pub each : (n : ℕ) → low ≤ n → n ≤ high → Within (reach p b) n

not-met : (s : Stage) (n low high : ℕ) → has_between (class_of (allowed_at s)) low high ≡ false → low ≤ n → n ≤ high
    → has_between (class_of (allowed_at s)) n n ≡ false
not-met s n low high void h k =
    false_from_ne_true (has_between (class_of (allowed_at s)) n n) (λ e. true-false (has_between-of (class_of (allowed_at s)) n low high e h k) void)

wide-refuses : (s : Stage) (p : Pending) (r0 : Bool) (b low high : ℕ) → is_live_stage s ≡ true → is_begun p ≡ true
    → is_awaited (class_of (allowed_at s)) p ≡ true
    → (bytes_of p ≡ [] → 128 ≤ b) → Spans p b low high → has_between (class_of (allowed_at s)) low high ≡ false → has_between scalar_values low high ≡ true
    → Refuses (at s p r0) b (wide_fault s)
wide-refuses s p r0 b low high live begun waits k span void some =
    let (n, above, below, is) = has_between-has scalar_values low high proper-scalars span.ordered some in
    let (rest, enc, left) = reach-starts p b n begun (span.each n above below) in
    let high_n : 128 ≤ n = scalars-low n is in
    let spelt : (es : List ℕ) → encode_utf8_all (n ∷ es) ≡ bytes_of p ++ (b ∷ (rest ++ encode_utf8_all es)) =
    λ es. ap (λ (l : List ℕ). l ++ encode_utf8_all es) enc
    ∙ (append_assoc (bytes_of p ++ b ∷ []) rest (encode_utf8_all es) ∙ grouped p b (rest ++ encode_utf8_all es)) in record {
      refused = λ more ms l.
          let (cs, sc, e, m) = l in
          let f = first_character-in p b more cs begun k sc e in
          let (a1, b1) = span.only f.n f.within in
          let hs : List Token = heard (voice s) (bytes_of p) in
          refused-derivative (wide_fault s) hs ms (leaves-refused s (wide_fault s) (lines false f.es) (all_said hs ++ ms)
          (wide-stops s f.n (lines false f.es) (all_said hs ++ ms) live f.high (not-met s f.n low high void a1 b1)
          (subst (λ (l1 : List ℕ). IsText (rest_at s) l1 (all_said hs ++ ms)) (ap (lines r0) f.is ∙ high-line r0 f.n f.es f.high) m)));
      shown = has-shown (wide_fault s) (at s p r0) b (λ other.
          let (es, ts, clean, m) = beyond_refusal-text s in (
            rest ++ encode_utf8_all es,
            all_said ts,
            (
              n ∷ es,
              and_from _ _ (scalars-are n is) (clean-scalars es clean),
              spelt es,
              subst (λ (l1 : List Token). IsText (rest_at s) (lines r0 (n ∷ es)) (all_said l1 ++ (refuses (wide_fault s) ∷ all_said ts)))
                  (sym (void-heard s p waits other))
                  (subst (λ (l1 : List ℕ). IsText (rest_at s) l1 (refuses (wide_fault s) ∷ all_said ts))
                  (sym (high-line r0 n es high_n ∙ ap (λ (l1 : List ℕ). n ∷ l1) (clean-lines false es clean)))
                  (wide-refused s n es (refuses (wide_fault s) ∷ all_said ts) live high_n (not-met s n low high void above below)
                  (leaves-shown s (wide_fault s) es (all_said ts) m other))),
            ),
          ));
      utf8 = (rest ++ encode_utf8_all [], (n ∷ [], (and_from _ _ (scalars-are n is) refl, spelt [])));
    }

wide-undecodable : (s : Stage) (p : Pending) (r0 : Bool) (b low high : ℕ) → is_begun p ≡ true → (bytes_of p ≡ [] → 128 ≤ b) → Spans p b low high
    → has_between scalar_values low high ≡ false → (more : List ℕ) → IsUtf8 (bytes_of p ++ (b ∷ more)) → ⊥
wide-undecodable s p r0 b low high begun k span void more h =
    let f = first_character-in p b more h.0 begun k h.1.0 h.1.1 in
    let (a1, b1) = span.only f.n f.within in
    true-false (has_between-of scalar_values f.n low high (scalars-all f.n f.scalar_is f.high) a1 b1) void

wide-fails : (s : Stage) (p : Pending) (r0 : Bool) (b low high : ℕ) → is_live_stage s ≡ true → is_begun p ≡ true → is_awaited (class_of (allowed_at s)) p ≡ true
    → (bytes_of p ≡ [] → 128 ≤ b) → Spans p b low high → has_between (class_of (allowed_at s)) low high ≡ false → Fails (at s p r0) b (fault_of s low high)
wide-fails s p r0 b low high live begun waits k span void =
    cond_both (has_between scalar_values low high) (wide_fault s) BadEncoding (Fails (at s p r0) b)
    (λ some. refusing (wide-refuses s p r0 b low high live begun waits k span void some))
    (λ nothing. undecodable refl (wide-undecodable s p r0 b low high begun k span nothing))

wide-does : (s : Stage) (p : Pending) (r0 : Bool) (b : ℕ) (r : Reach) → reach p b ≡ r → is_live_stage s ≡ true → is_begun p ≡ true
    → is_awaited (class_of (allowed_at s)) p ≡ true
    → (bytes_of p ≡ [] → 128 ≤ b) → Does (at s p r0) b (turn_wide (at s p r0) b r)
unfolding turn_wide
wide-does s p r0 b (Begun q low high) e live begun waits k =
    let spelt : Spelt (bytes_of p ++ b ∷ []) (Begun q low high) = subst (Spelt (bytes_of p ++ b ∷ [])) e (reach-spelt p b) in
    let span : Spans p b low high = record {
      ordered = spelt.1;
      only = λ n w. subst (λ (x : Reach). Within x n) e w;
      each = λ n h j. subst (λ (x : Reach). Within x n) (sym e) (h, j);
    } in
    cond_both (has_between (class_of (allowed_at s)) low high) _ _ (Does (at s p r0) b)
    (λ met. begun-goes s p q r0 b low high live begun k spelt.0 met)
    (λ void. wide-fails s p r0 b low high live begun waits k span void)
wide-does s p r0 b (Whole n) e live begun waits k =
    let here : Within (reach p b) n = subst (λ (x : Reach). Within x n) (sym e) refl in
    let (rest, enc, left) = reach-starts p b n begun here in
    let nothing : rest ≡ [] = subst (λ (x : Reach). IsRest x rest) e left in
    let whole_enc : encode_utf8 n ≡ bytes_of p ++ b ∷ [] = enc
    ∙ (ap (λ (l : List ℕ). (bytes_of p ++ b ∷ []) ++ l) nothing ∙ append-nil (bytes_of p ++ b ∷ [])) in
    let span : Spans p b n n = record {
      ordered = omega arith;
      only = λ m w. let same : m ≡ n = subst (λ (x : Reach). Within x m) e w in (omega arith, omega arith);
      each = λ m h j. let same : m ≡ n = omega arith in subst (λ (x : Reach). Within x m) (sym e) same;
    } in
    cond_both (has_between (class_of (allowed_at s)) n n) _ _ (Does (at s p r0) b)
    (λ met. whole-goes s p r0 b n live whole_enc met)
    (λ void. wide-fails s p r0 b n n live begun waits k span void)
wide-does s p r0 b Broken e live begun waits k =
    undecodable refl (λ more h. let f = first_character-in p b more h.0 begun k h.1.0 h.1.1 in subst (λ (x : Reach). Within x f.n) e f.within)

does-at : (s : Stage) (p : Pending) (r0 : Bool) (b : ℕ) → is_live_stage s ≡ true → is_begun p ≡ true → is_awaited (class_of (allowed_at s)) p ≡ true
    → Does (at s p r0) b (turn (at s p r0) b)
does-at s pending.Nothing r0 b live begun waits =
    cond_both (nat_lt b 128) (turn_ascii (at s pending.Nothing r0) b) (turn_wide (at s pending.Nothing r0) b (reach pending.Nothing b))
    (Does (at s pending.Nothing r0) b)
    (λ e. turn_ascii-does s r0 b live (ltb-true b 128 e))
    (λ f. wide-does s pending.Nothing r0 b (reach pending.Nothing b) refl live begun waits (λ e. ltb-false b 128 f))
does-at s (pending.One a) r0 b live begun waits =
    wide-does s (pending.One a) r0 b (reach (pending.One a) b) refl live begun waits (λ e. absurd (cons_not_nil a [] e))
does-at s (pending.Two a c) r0 b live begun waits =
    wide-does s (pending.Two a c) r0 b (reach (pending.Two a c) b) refl live begun waits (λ e. absurd (cons_not_nil a (c ∷ []) e))
does-at s (pending.Three a c d) r0 b live begun waits =
    wide-does s (pending.Three a c d) r0 b (reach (pending.Three a c d) b) refl live begun waits (λ e. absurd (cons_not_nil a (c ∷ d ∷ []) e))

-- What a byte does at a live state is its outcome.
pub does : (st : State) (b : ℕ) → is_live st ≡ true → Does st b (turn st b)
does st b live = let p = live-parts st live in does-at st.stage st.pending st.returned b p.0 p.1 p.2
