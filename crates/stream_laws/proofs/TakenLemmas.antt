-- How many bytes of a piece are taken, in the words of the grammar.
use Rattle.std.proofs.Common.{◌≡◌, ℕ, ◌+◌, ◌<◌, ◌⊎◌, inl, inr, List, [], ◌∷◌, ◌++◌, length, refl, sym, ap, ◌∙◌}
use Rattle.std.proofs.Common.{subst, append-nil, Bool, true, false, not, ◌||◌, arith}
use Rattle.std.specs.Prelude.{Option, Some, None, if◌then◌else◌}
use Rattle.stream_lex.proofs.Lists.{same_head, same_tail, cons_not_nil, false-true}
use Rattle.stream_grammar.specs.declared.FrameFault.{FrameFault}
use Rattle.stream_grammar.specs.declared.item.Item.{Item}
use Rattle.stream_grammar.specs.declared.item.Limits.{Limits}
use Rattle.stream_grammar.specs.grammar.Parts.{AreFaultless, IsFault}
use Rattle.stream_grammar.specs.machine.Reading.{Reading, reads, stopped, first_reading, reading_next, is_stopped, is_ready}
use Rattle.stream_grammar.specs.machine.Reading.{is_none, is_done, handed, taken, taken_reading, waiting, went}
use Rattle.stream_grammar.specs.grammar.Takes.{IsStop, HasNoStop, IsTaken}
use Rattle.stream_laws.proofs.Judged.{none-some}
use Rattle.stream_laws.proofs.Waiting.{item_waits}
use Rattle.stream_laws.proofs.HandedOut.{item_given}
use Rattle.stream_laws.proofs.FirstFaults.{fault_waits, none_waits}
use Rattle.stream_laws.proofs.Faultless.{cons-after, faultless_goes}
use Rattle.stream_laws.proofs.OneFault.{place_stops}
use Rattle.stream_laws.proofs.ItemListLemmas.{one-more}

-- Readings.

pub handed-ready : (s : Reading) → is_ready s ≡ true → handed s ≡ s
handed-ready (stopped f k) h = refl
handed-ready (reads f b n k) h = none b.item h refl
  where
    none : (i : Option Item) → is_none i ≡ true → b.item ≡ i → reads f (record b { item = None }) n k ≡ reads f b n k
    none None h e = ap (λ (i : Option Item). reads f (record b { item = i }) n k) (sym e)
    none (Some i) h e = false-true h

pub going-ready : (s : Reading) → is_done s ≡ false → is_ready s ≡ true
going-ready (stopped f k) h = refl
going-ready (reads f b n k) h = by (is_none b.item) h
  where
    by : (t : Bool) → (false || not t) ≡ false → t ≡ true
    by true h = refl
    by false h = false-true (sym h)

pub going-none : (s : Reading) → is_done s ≡ false → (is_stopped s ≡ false) × (waiting s ≡ None)
going-none (stopped f k) h = false-true (sym h)
going-none (reads f b n k) h = (refl, by b.item h)
  where
    by : (i : Option Item) → (false || not (is_none i)) ≡ false → i ≡ None
    by None h = refl
    by (Some i) h = false-true (sym h)

-- after a byte a reading is done where the byte ends an item or has a fault
abbrev Done : Reading → Type 0
Done s = ((f : FrameFault) × (k : ℕ) × (s ≡ stopped f k)) ⊎ ((is_stopped s ≡ false) × ((i : Item) × (waiting s ≡ Some i)))

done-is : (s : Reading) → is_done s ≡ true → Done s
done-is (stopped f k) h = inl (f, k, refl)
done-is (reads f b n k) h = inr (refl, by b.item h)
  where
    by : (i : Option Item) → (false || not (is_none i)) ≡ true → (x : Item) × (i ≡ Some x)
    by None h = false-true h
    by (Some i) h = (i, refl)

-- Stops.

stop-is : (l : Limits) (before : List ℕ) (b : ℕ) → is_stopped (went l first_reading before) ≡ false → is_done (went l first_reading (before ++ b ∷ [])) ≡ true
    → IsStop l before b
stop-is l before b o h = by (done-is (went l first_reading (before ++ b ∷ [])) h)
  where
    by : Done (went l first_reading (before ++ b ∷ [])) → IsStop l before b
    by (inl (f, k, e)) = inr (f, (fault_waits l before b f k o e).0.1)
    by (inr (on, (i, e))) = inl (i, item_waits l before b i on e)

no-stop : (l : Limits) (before : List ℕ) (b : ℕ) → is_stopped (went l first_reading before) ≡ false → is_done (went l first_reading (before ++ b ∷ [])) ≡ false
    → IsStop l before b → ⊥
no-stop l before b o h (inl (i, is)) = let (on, none) = going-none (went l first_reading (before ++ b ∷ [])) h in none-some i (sym none
    ∙ item_given l before b i on is)
no-stop l before b o h (inr (f, is)) = none_waits l before b f (going-none (went l first_reading (before ++ b ∷ [])) h).0 (o, is)

-- One byte more before the piece.

head-free : (l : Limits) (before piece : List ℕ) (b : ℕ) → (IsStop l before b → ⊥) → HasNoStop l (before ++ b ∷ []) piece → HasNoStop l before (b ∷ piece)
head-free l before piece b never more = λ xs ys c e is. by xs ys c e is
  where
    by : (xs ys : List ℕ) (c : ℕ) → b ∷ piece ≡ xs ++ (c ∷ ys) → IsStop l (before ++ xs) c → ⊥
    by [] ys c e is = never (subst (IsStop l before) (sym (same_head b c piece ys e)) (subst (λ (z : List ℕ). IsStop l z c) (append-nil before) is))
    by (x ∷ xs) ys c e is =
        let here : before ++ (x ∷ xs) ≡ (before ++ b ∷ []) ++ xs = ap (λ (z : ℕ). before ++ (z ∷ xs)) (sym (same_head b x piece (xs ++ (c ∷ ys)) e))
        ∙ sym (cons-after before xs b) in
        more xs ys c (same_tail b x piece (xs ++ (c ∷ ys)) e) (subst (λ (z : List ℕ). IsStop l z c) here is)

one-before : (l : Limits) (before piece : List ℕ) (b n : ℕ) → (IsStop l before b → ⊥) → IsTaken l (before ++ b ∷ []) piece n
    → IsTaken l before (b ∷ piece) (1 + n)
one-before l before piece b n never (inl (free, is)) =
    inl (head-free l before piece b never free, (let e : 1 + n ≡ length (b ∷ piece) = omega (arith, is) in e))
one-before l before piece b n never (inr (xs, c, ys, e, free, is, number)) = inr (
  b ∷ xs,
  c,
  ys,
  ap (λ (z : List ℕ). b ∷ z) e,
  head-free l before xs b never free,
  subst (λ (z : List ℕ). IsStop l z c) (cons-after before xs b) is,
  (let e : 1 + n ≡ length (b ∷ xs) + 1 = omega (arith, number) in e),
)

none-in-nil : (l : Limits) (before : List ℕ) → HasNoStop l before []
none-in-nil l before = λ xs ys b e is. by xs ys b e
  where
    by : (xs ys : List ℕ) (b : ℕ) → [] ≡ xs ++ (b ∷ ys) → ⊥
    by [] ys b e = cons_not_nil b ys (sym e)
    by (x ∷ xs) ys b e = cons_not_nil x (xs ++ (b ∷ ys)) (sym e)

taken-is : (piece : List ℕ) (l : Limits) (before : List ℕ) (s : Reading) → s ≡ handed (went l first_reading before)
    → is_stopped (went l first_reading before) ≡ false → IsTaken l before piece (taken_reading l s piece)
taken-is [] l before s e o = inl (none-in-nil l before, refl)
taken-is (b ∷ bs) l before s e o = by (is_done (reading_next l s b)) refl (λ t h k. taken-is bs l (before ++ b ∷ []) t h k)
  where
    next : reading_next l s b ≡ went l first_reading (before ++ b ∷ [])
    next = ap (λ (x : Reading). reading_next l x b) e ∙ one-more l before b

    by : (t : Bool) → is_done (reading_next l s b) ≡ t
        → ((u : Reading) → u ≡ handed (went l first_reading (before ++ b ∷ [])) → is_stopped (went l first_reading (before ++ b ∷ [])) ≡ false
        → IsTaken l (before ++ b ∷ []) bs (taken_reading l u bs))
        → IsTaken l before (b ∷ bs) (if t then 1 else 1 + taken_reading l (reading_next l s b) bs)
    by true h go = inr (
      [],
      b,
      bs,
      refl,
      none-in-nil l before,
      subst (λ (z : List ℕ). IsStop l z b) (sym (append-nil before)) (stop-is l before b o (ap is_done (sym next) ∙ h)),
      refl,
    )
    by false h go =
        let on : is_done (went l first_reading (before ++ b ∷ [])) ≡ false = ap is_done (sym next) ∙ h in
        let same : reading_next l s b ≡ handed (went l first_reading (before ++ b ∷ [])) = next
        ∙ sym (handed-ready (went l first_reading (before ++ b ∷ [])) (going-ready (went l first_reading (before ++ b ∷ [])) on)) in
        one-before l before bs b (taken_reading l (reading_next l s b) bs) (no-stop l before b o on)
        (go (reading_next l s b) same (going-none (went l first_reading (before ++ b ∷ [])) on).0)

handed-goes : (s : Reading) → is_stopped s ≡ false → is_stopped (handed s) ≡ false
handed-goes (reads f b n k) h = refl
handed-goes (stopped f k) h = h

taken-going : (l : Limits) (s : Reading) (piece : List ℕ) → is_stopped s ≡ false → taken l s piece ≡ taken_reading l s piece
taken-going l (reads f b n k) piece h = refl
taken-going l (stopped f k) piece h = false-true (sym h)

pub piece_taken : (l : Limits) (before piece : List ℕ) → AreFaultless l before → IsTaken l before piece (taken l (handed (went l first_reading before)) piece)
piece_taken l before piece none =
    let on : is_stopped (went l first_reading before) ≡ false = faultless_goes l before none in
    subst (IsTaken l before piece) (sym (taken-going l (handed (went l first_reading before)) piece (handed-goes (went l first_reading before) on)))
    (taken-is piece l before (handed (went l first_reading before)) refl on)

pub faulty_taken : (l : Limits) (before piece : List ℕ) (k : ℕ) (f : FrameFault) → IsFault l before k f
    → taken l (handed (went l first_reading before)) piece ≡ length piece
faulty_taken l before piece k f is = ap (λ (s : Reading). taken l (handed s) piece) (place_stops l before k f is)

-- There is one such number.

abbrev FirstStop : List ℕ → ℕ → List ℕ → ℕ → Type 0
FirstStop xs b us c = (xs ≡ us) ⊎ (((zs : List ℕ) × (us ≡ xs ++ (b ∷ zs))) ⊎ ((zs : List ℕ) × (xs ≡ us ++ (c ∷ zs))))

first-stop : (xs us ys vs : List ℕ) (b c : ℕ) → xs ++ (b ∷ ys) ≡ us ++ (c ∷ vs) → FirstStop xs b us c
first-stop [] [] ys vs b c e = inl refl
first-stop [] (u ∷ us) ys vs b c e = inr (inl (us, ap (λ (z : ℕ). z ∷ us) (sym (same_head b u ys (us ++ (c ∷ vs)) e))))
first-stop (x ∷ xs) [] ys vs b c e = inr (inr (xs, ap (λ (z : ℕ). z ∷ xs) (same_head x c (xs ++ (b ∷ ys)) vs e)))
first-stop (x ∷ xs) (u ∷ us) ys vs b c e =
    more (same_head x u (xs ++ (b ∷ ys)) (us ++ (c ∷ vs)) e) (first-stop xs us ys vs b c (same_tail x u (xs ++ (b ∷ ys)) (us ++ (c ∷ vs)) e))
  where
    more : x ≡ u → FirstStop xs b us c → FirstStop (x ∷ xs) b (u ∷ us) c
    more h (inl p) = inl (ap (λ (z : ℕ). z ∷ xs) h ∙ ap (λ (z : List ℕ). u ∷ z) p)
    more h (inr (inl (zs, p))) = inr (inl (zs, ap (λ (z : List ℕ). u ∷ z) p ∙ ap (λ (z : ℕ). z ∷ (xs ++ (b ∷ zs))) (sym h)))
    more h (inr (inr (zs, p))) = inr (inr (zs, ap (λ (z : List ℕ). x ∷ z) p ∙ ap (λ (z : ℕ). z ∷ (us ++ (c ∷ zs))) h))

pub one_number : (l : Limits) (before piece : List ℕ) (n m : ℕ) → IsTaken l before piece n → IsTaken l before piece m → n ≡ m
one_number l before piece n m (inl (free, is)) (inl (none, too)) = is ∙ sym too
one_number l before piece n m (inl (free, is)) (inr (xs, b, ys, e, none, stop, too)) = absurd (free xs ys b e stop)
one_number l before piece n m (inr (xs, b, ys, e, none, stop, is)) (inl (free, too)) = absurd (free xs ys b e stop)
one_number l before piece n m (inr (xs, b, ys, e, none, stop, is)) (inr (us, c, vs, h, free, last, too)) = is
    ∙ (ap (λ (z : List ℕ). length z + 1) (by (first-stop xs us ys vs b c (sym e ∙ h))) ∙ sym too)
  where
    by : FirstStop xs b us c → xs ≡ us
    by (inl p) = p
    by (inr (inl (zs, p))) = absurd (free xs zs b p stop)
    by (inr (inr (zs, p))) = absurd (none us zs c p last)

-- of a piece that has bytes, one at least
pub some_taken : (l : Limits) (before piece : List ℕ) (n : ℕ) → IsTaken l before piece n → 0 < length piece → 0 < n
some_taken l before piece n (inl (free, is)) h = let e : 0 < n = omega (arith, is, h) in e
some_taken l before piece n (inr (xs, b, ys, e, free, stop, is)) h = let e : 0 < n = omega (arith, is) in e
