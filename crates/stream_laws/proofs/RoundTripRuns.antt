-- Runs over parts of a text, one after the other; and over one character.
use Rattle.std.proofs.Common.{◌≡◌, ℕ, ◌<◌, ◌≤◌, inl, inr, List, [], ◌∷◌, ◌++◌, refl, sym, ap, ◌∙◌, subst, append_assoc, append-nil, true, false, arith}
use Rattle.std.proofs.lemmas.Bool.{cond-true, cond-false, lt-ltb, le-ltb}
use Rattle.std.specs.Char.{IsScalar}
use Rattle.std.specs.Prelude.{encode_utf8, ◌==◌}
use lib.Utf8.{scalar_cases}
use Rattle.stream_lex.specs.declared.Token.{Token}
use Rattle.stream_lex.specs.declared.stages.Stage.{Stage}
use Rattle.stream_lex.specs.declared.stages.State.{State}
use Rattle.stream_lex.specs.declared.characters.Pending.{Pending}
use Rattle.stream_lex.specs.declared.characters.Pending.TheVariants as pending
use Rattle.stream_lex.specs.declared.characters.Reach.{Reach}
use Rattle.stream_lex.specs.declared.characters.Reach.TheVariants.{Whole, Begun, Broken}
use Rattle.stream_lex.specs.grammar.Classes.{has_between, class_of}
use Rattle.stream_lex.specs.grammar.Kinds.{ascii_kind}
use Rattle.stream_lex.specs.machine.Characters.{bytes_of, is_begun, reach}
use Rattle.stream_lex.specs.machine.Machine.{Voice, whole, by_byte, voice, voiced, through, allowed_at, ascii}
use Rattle.stream_lex.specs.machine.Turns.{Outcome, leads, fails, at, byte_told, end_told, settled, turn_ascii, turn_wide, turn}
use Rattle.stream_lex.specs.machine.Live.{is_live}
use Rattle.stream_lex.specs.machine.Leading.{heard}
use Rattle.stream_lex.proofs.Lists.{same_tail, cons_not_nil}
use Rattle.stream_lex.proofs.Spans.{Within, IsRest, Width, width1, width2, width3, width4, width_of, reach-within, reach-starts}
use Rattle.stream_lex.proofs.Classing.{has_between-of, class-scalar}
use Rattle.stream_lex.proofs.ByteSteps.{Spelt, reach-spelt, heard_on, voiced-split}
use Rattle.stream_lex.proofs.Living.{LeadsLive, live-parts}
use Rattle.stream_grammar.proofs.Following.{any-live}
use Rattle.stream_grammar.proofs.Running.{then_run, run_on, run}

-- One part and then another.

then-then : (us vs : List Token) (o : Outcome) → then_run us (then_run vs o) ≡ then_run (us ++ vs) o
then-then us vs (leads t ws) = ap (leads t) (sym (append_assoc us vs ws))
then-then us vs (fails f) = refl

then-on : (us : List Token) (o : Outcome) (g : State → Outcome) → then_run us (run_on o g) ≡ run_on (then_run us o) g
then-on us (leads t vs) g = then-then us vs (g t)
then-on us (fails f) g = refl

then-nothing : (o : Outcome) → then_run [] o ≡ o
then-nothing (leads t ws) = refl
then-nothing (fails f) = refl

pub run-append : (bs cs : List ℕ) (st : State) → run st (bs ++ cs) ≡ run_on (run st bs) (λ s. run s cs)
run-append [] cs st = sym (then-nothing (run st cs))
run-append (b ∷ bs) cs st = by (λ s. run-append bs cs s) (turn st b)
  where
    by : ((s : State) → run s (bs ++ cs) ≡ run_on (run s bs) (λ s. run s cs)) → (o : Outcome)
        → run_on o (λ s. run s (bs ++ cs)) ≡ run_on (run_on o (λ s. run s bs)) (λ s. run s cs)
    by go (leads s us) = ap (then_run us) (go s) ∙ then-on us (run s bs) (λ s. run s cs)
    by go (fails f) = refl

pub record Runs (st : State) (bs : List ℕ) (to : State) (us : List Token) : Type 0 where
  pub leads_so : run st bs ≡ leads to us

pub runs-none : {st : State} → Runs st [] st []
runs-none = record { leads_so = refl }

pub runs-then : {st s to : State} {bs cs : List ℕ} {us vs : List Token} → Runs st bs s us → Runs s cs to vs → Runs st (bs ++ cs) to (us ++ vs)
runs-then {st} {s} {to} {bs} {cs} {us} {vs} e f =
    record { leads_so = run-append bs cs st ∙ (ap (λ (o : Outcome). run_on o (λ s. run s cs)) e.leads_so ∙ ap (then_run us) f.leads_so) }

pub runs-step : {st s to : State} {b : ℕ} {bs : List ℕ} {us vs : List Token} → turn st b ≡ leads s us → Runs s bs to vs → Runs st (b ∷ bs) to (us ++ vs)
runs-step {st} {s} {to} {b} {bs} {us} {vs} e f = record { leads_so = ap (λ (o : Outcome). run_on o (λ s. run s bs)) e ∙ ap (then_run us) f.leads_so }

pub runs-one : {st s : State} {b : ℕ} {us : List Token} → turn st b ≡ leads s us → Runs st (b ∷ []) s us
runs-one {st} {s} {b} {us} e = subst (Runs st (b ∷ []) s) (append-nil us) (runs-step e runs-none)

pub runs-told : {st to : State} {bs : List ℕ} {us vs : List Token} → us ≡ vs → Runs st bs to us → Runs st bs to vs
runs-told {st} {to} {bs} e f = subst (Runs st bs to) e f

pub runs-text : {st to : State} {bs cs : List ℕ} {us : List Token} → bs ≡ cs → Runs st bs to us → Runs st cs to us
runs-text {st} {to} {us = us} e f = subst (λ (l : List ℕ). Runs st l to us) e f

-- A part whose last byte tells a token.
pub record RunsLast (st : State) (bs : List ℕ) (to : State) (us : List Token) : Type 0 where
  pub front : List ℕ
  pub byte : ℕ
  pub state : State
  pub told : List Token
  pub last : Token
  pub text : front ++ byte ∷ [] ≡ bs
  pub way : Runs st front state told
  pub step : turn state byte ≡ leads to (last ∷ [])
  pub tokens : told ++ last ∷ [] ≡ us

pub runs-last : {st to : State} {bs : List ℕ} {us : List Token} → RunsLast st bs to us → Runs st bs to us
runs-last l = runs-text l.text (runs-told l.tokens (runs-then l.way (runs-one l.step)))

pub last-then : {st s to : State} {bs cs : List ℕ} {us vs : List Token} → Runs st bs s us → RunsLast s cs to vs → RunsLast st (bs ++ cs) to (us ++ vs)
last-then {bs = bs} {us = us} r l = record {
  front = bs ++ l.front;
  byte = l.byte;
  state = l.state;
  told = us ++ l.told;
  last = l.last;
  text = append_assoc bs l.front (l.byte ∷ []) ∙ ap (λ (x : List ℕ). bs ++ x) l.text;
  way = runs-then r l.way;
  step = l.step;
  tokens = append_assoc us l.told (l.last ∷ []) ∙ ap (λ (x : List Token). us ++ x) l.tokens;
}

pub last-told : {st to : State} {bs : List ℕ} {us vs : List Token} → us ≡ vs → RunsLast st bs to us → RunsLast st bs to vs
last-told {st} {to} {bs} e l = subst (RunsLast st bs to) e l

pub last-text : {st to : State} {bs cs : List ℕ} {us : List Token} → bs ≡ cs → RunsLast st bs to us → RunsLast st cs to us
last-text {st} {to} {us = us} e l = subst (λ (x : List ℕ). RunsLast st x to us) e l

-- between two characters, after no carriage return
abbrev pub between : Stage → State
between s = at s pending.Nothing false

-- A character below 128.

pub ascii-turn : (s : Stage) (c : ℕ) → c < 128 → (c == 13) ≡ false → turn (between s) c ≡ settled false (ascii s (ascii_kind c) c)
unfolding turn_ascii
ascii-turn s c low e = cond-true _ _ _ (lt-ltb c 128 low) ∙ cond-false _ _ _ e

-- A character from 128 on.

cancel : (xs ys zs : List ℕ) → xs ++ ys ≡ xs ++ zs → ys ≡ zs
cancel [] ys zs e = e
cancel (x ∷ xs) ys zs e = cancel xs ys zs (same_tail x x (xs ++ ys) (xs ++ zs) e)

wide-turn : (s : Stage) (p : Pending) (b : ℕ) → (bytes_of p ≡ [] → 128 ≤ b) → turn (at s p false) b ≡ turn_wide (at s p false) b (reach p b)
wide-turn s pending.Nothing b h = cond-false _ _ _ (le-ltb b 128 (h refl))
wide-turn s (pending.One x) b h = refl
wide-turn s (pending.Two x y) b h = refl
wide-turn s (pending.Three x y z) b h = refl

end-told : (v : Voice) (n : ℕ) → end_told v n ≡ heard_on v n []
end-told (whole f) n = refl
end-told (by_byte f g) n = refl

not-empty : (p : Pending) (b : ℕ) (bs : List ℕ) → bytes_of p ≡ bs ++ b ∷ [] → bytes_of p ≡ [] → ⊥
not-empty p b [] e f = cons_not_nil b [] (sym e ∙ f)
not-empty p b (x ∷ bs) e f = cons_not_nil x (bs ++ b ∷ []) (sym e ∙ f)

heard-byte : (v : Voice) (p q : Pending) (b : ℕ) (n z : ℕ) (zs : List ℕ) → bytes_of q ≡ bytes_of p ++ b ∷ []
    → byte_told v q z ++ heard_on v n zs ≡ heard_on v n (z ∷ zs)
heard-byte (whole f) p q b n z zs e = refl
heard-byte (by_byte f g) p pending.Nothing b n z zs e = absurd (not-empty pending.Nothing b (bytes_of p) e refl)
heard-byte (by_byte f g) p (pending.One x) b n z zs e = refl
heard-byte (by_byte f g) p (pending.Two x y) b n z zs e = refl
heard-byte (by_byte f g) p (pending.Three x y w) b n z zs e = refl

abbrev RestRuns : List ℕ → Stage → Pending → ℕ → ℕ → Type 0
RestRuns zs s p b n = is_live (at s p false) ≡ true → (bytes_of p ≡ [] → 128 ≤ b) → encode_utf8 n ≡ bytes_of p ++ (b ∷ zs)
    → Runs (at s p false) (b ∷ zs) (between (through s)) (byte_told (voice s) p b ++ heard_on (voice s) n zs)

-- the last byte of a character, or the next one
abbrev GoesOn : List ℕ → Stage → ℕ → Type 0
GoesOn [] s n = Unit {0}
GoesOn (z ∷ zs) s n = (q : Pending) → RestRuns zs s q z n

reach-runs : (zs : List ℕ) (s : Stage) (p : Pending) (b n : ℕ) → has_between (class_of (allowed_at s)) n n ≡ true → GoesOn zs s n → (x : Reach) → reach p b ≡ x
    → Within x n → IsRest x zs
    → Spelt (bytes_of p ++ b ∷ []) x → RestRuns zs s p b n
unfolding turn_wide
reach-runs [] s p b n allowed go (Whole m) f w none spelt live high e =
    runs-one (wide-turn s p b high
    ∙ (ap (turn_wide (at s p false) b) f ∙ (cond-true _ _ _ (subst (λ (x : ℕ). has_between (class_of (allowed_at s)) x x ≡ true) w allowed)
    ∙ ap (λ (l : List Token). leads (between (through s)) (byte_told (voice s) p b ++ l)) (ap (end_told (voice s)) (sym w) ∙ end-told (voice s) n))))
reach-runs (z ∷ zs) s p b n allowed go (Whole m) f w none spelt live high e = absurd (cons_not_nil z zs none)
reach-runs [] s p b n allowed go (Begun q low top) f w (z, zs, none) spelt live high e = absurd (cons_not_nil z zs (sym none))
reach-runs (z ∷ zs) s p b n allowed go (Begun q low top) f w some spelt live high e =
    let step : turn (at s p false) b ≡ leads (at s q false) (byte_told (voice s) p b) =
    wide-turn s p b high ∙ (ap (turn_wide (at s p false) b) f ∙ cond-true _ _ _ (has_between-of (class_of (allowed_at s)) n low top allowed w.0 w.1)) in
    let longer : bytes_of q ≡ bytes_of p ++ b ∷ [] = spelt.0 in
    runs-told (ap (λ (l : List Token). byte_told (voice s) p b ++ l) (heard-byte (voice s) p q b n z zs longer))
    (runs-step step (go q (subst LeadsLive step (any-live (at s p false) b live)) (λ g. absurd (not-empty q b (bytes_of p) longer g))
    (e ∙ (sym (append_assoc (bytes_of p) (b ∷ []) (z ∷ zs)) ∙ ap (λ (l : List ℕ). l ++ (z ∷ zs)) (sym longer)))))
reach-runs zs s p b n allowed go Broken f w none spelt live high e = absurd w

rest-runs : (zs : List ℕ) (s : Stage) (p : Pending) (b n : ℕ) → n < 1114112 → has_between (class_of (allowed_at s)) n n ≡ true → GoesOn zs s n
    → RestRuns zs s p b n
rest-runs zs s p b n top allowed go live high e =
    let begun : is_begun p ≡ true = (live-parts (at s p false) live).1 in
    let within : Within (reach p b) n = reach-within p b n [] zs begun high top (append-nil (encode_utf8 n) ∙ e) in
    let (rest, same, is) = reach-starts p b n begun within in
    let left : rest ≡ zs = sym (cancel (bytes_of p ++ b ∷ []) zs rest (append_assoc (bytes_of p) (b ∷ []) zs ∙ (sym e ∙ same))) in
    reach-runs zs s p b n allowed go (reach p b) refl within (subst (IsRest (reach p b)) left is) (reach-spelt p b) live high e

all-runs : (zs : List ℕ) (s : Stage) (n : ℕ) → n < 1114112 → has_between (class_of (allowed_at s)) n n ≡ true → (p : Pending) (b : ℕ) → RestRuns zs s p b n
all-runs [] s n top allowed p b = rest-runs [] s p b n top allowed tt
all-runs (z ∷ zs) s n top allowed p b = rest-runs (z ∷ zs) s p b n top allowed (λ q. all-runs zs s n top allowed q z)

-- the first byte of such a character
pub high-first : (c : ℕ) → 128 ≤ c → (b : ℕ) × (zs : List ℕ) × (encode_utf8 c ≡ b ∷ zs) × (128 ≤ b)
high-first c h = by (width_of c)
  where
    by : Width c → (b : ℕ) × (zs : List ℕ) × (encode_utf8 c ≡ b ∷ zs) × (128 ≤ b)
    by (width1 k e) = absurd (omega arith)
    by (width2 k j e) = (_, _, e, omega arith)
    by (width3 k j e) = (_, _, e, omega arith)
    by (width4 k e) = (_, _, e, omega arith)

scalar-top : (n : ℕ) → IsScalar n → n < 1114112
scalar-top n s = elim (scalar_cases n s) [ inl k ↦ omega arith | inr k ↦ k.1 ]

pub wide-runs : (s : Stage) (c : ℕ) → is_live (between s) ≡ true → 128 ≤ c → has_between (class_of (allowed_at s)) c c ≡ true
    → Runs (between s) (encode_utf8 c) (between (through s)) (voiced (voice s) c)
wide-runs s c live h allowed =
    let (b, zs, e, k) = high-first c h in
    let top : c < 1114112 = scalar-top c (class-scalar (allowed_at s) c allowed) in
    runs-text (sym e) (runs-told (sym (nothing-heard (voice s)) ∙ sym (voiced-split (voice s) pending.Nothing b c zs e))
    (all-runs zs s c top allowed pending.Nothing b live (λ g. k) e))
  where
    nothing-heard : {us : List Token} (v : Voice) → heard v [] ++ us ≡ us
    nothing-heard (whole f) = refl
    nothing-heard (by_byte f g) = refl
