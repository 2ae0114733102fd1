-- A reading counts the bytes of a header or top element from its `<`.
use Rattle.std.proofs.Common.{◌≡◌, ℕ, suc, ◌+◌, ◌≤◌, ◌⊎◌, inl, inr, List, [], ◌∷◌, ◌++◌, length, refl, sym, ap}
use Rattle.std.proofs.Common.{◌∙◌, subst, append_assoc, append-nil, Bool, true, false, arith}
use Rattle.std.proofs.lemmas.Bool.{and_parts, leb-true, le-leb}
use Rattle.std.proofs.lemmas.List.{length-append}
use Rattle.std.specs.Prelude.{Option, Some, None, if◌then◌else◌, ◌||◌, ◌&&◌, nat_le}
use Rattle.stream_lex.proofs.Lists.{false-true}
use Rattle.stream_grammar.specs.declared.FrameFault.{FrameFault}
use Rattle.stream_grammar.specs.declared.item.Limits.{Limits}
use Rattle.stream_grammar.specs.declared.rules.Rules.{Rules}
use Rattle.stream_grammar.specs.machine.Framing.{Frame, frame_next, frame_after, first_frame}
use Rattle.stream_grammar.specs.machine.Ends.{told_at, in_item, is_open}
use Rattle.stream_grammar.specs.machine.Building.{Building, build_all}
use Rattle.stream_grammar.specs.machine.Reading.{Reading, reads, stopped, concluded, byte_judged, went, is_past, extent_after}
use Rattle.stream_grammar.specs.grammar.Bounds.{rules_of, told_number}
use Rattle.stream_grammar.proofs.Whole.{first-sound}
use Rattle.stream_grammar.proofs.Following.{Sound, after-sound}
use Rattle.stream_laws.proofs.Handing.{clear, stopped-went}
use Rattle.stream_laws.proofs.StandingWhole.{frames-more}
use Rattle.stream_laws.proofs.Opens.{AfterLess, opens-after, less-before}

-- What is open, by frames.

abbrev pub IsOpenAt : Rules → List ℕ → Type 0
IsOpenAt r bytes = is_open r bytes ≡ true

abbrev pub IsOpenSince : Rules → List ℕ → List ℕ → Type 0
IsOpenSince r xs ys = (IsOpenAt r (xs ++ 60 ∷ []) → ⊥) × ((us vs : List ℕ) → ys ≡ us ++ vs → (us ≡ [] → ⊥) → IsOpenAt r (xs ++ (60 ∷ us)))

abbrev pub IsPastAt : Limits → List ℕ → ℕ → Type 0
IsPastAt l bytes byte = (IsOpenAt (rules_of l) bytes ⊎ IsOpenAt (rules_of l) (bytes ++ byte ∷ []))
    × ((xs : List ℕ) × (ys : List ℕ) × (bytes ≡ xs ++ (60 ∷ ys)) × IsOpenSince (rules_of l) xs ys × (l.bytes ≤ length (60 ∷ ys)))

-- The count, as a fold over the bytes.

abbrev pub extent : Rules → Frame → ℕ → List ℕ → ℕ
extent r f n [] = n
extent r f n (b ∷ bs) = extent r (frame_next r f b) (extent_after (frame_next r f b) n) bs

abbrev pub HasExtent : Rules → Frame → ℕ → List ℕ → Reading → Type 0
HasExtent r f0 n0 bytes (stopped f k) = Unit {0}
HasExtent r f0 n0 bytes (reads f b n k) = n ≡ extent r f0 n0 bytes

extent-back : (r : Rules) (f0 : Frame) (n0 b : ℕ) (bs : List ℕ) (s : Reading) → HasExtent r (frame_next r f0 b) (extent_after (frame_next r f0 b) n0) bs s
    → HasExtent r f0 n0 (b ∷ bs) s
extent-back r f0 n0 b bs (stopped f k) h = tt
extent-back r f0 n0 b bs (reads f c n k) h = h

pub went-extent : (bytes : List ℕ) (l : Limits) (f0 : Frame) (b0 : Building) (n0 k0 : ℕ) → HasExtent (rules_of l) f0 n0 bytes (went l (reads f0 b0 n0 k0) bytes)
went-extent [] l f0 b0 n0 k0 = refl
went-extent (b ∷ bs) l f0 b0 n0 k0 = by (byte_judged l f0 (clear b0) n0 b) (λ f1 b1 n k. went-extent bs l f1 b1 n k)
  where
    by : (o : Option FrameFault) → ((f1 : Frame) (b1 : Building) (n k : ℕ) → HasExtent (rules_of l) f1 n bs (went l (reads f1 b1 n k) bs))
        → HasExtent (rules_of l) f0 n0 (b ∷ bs)
        (went l (concluded o (reads (frame_next (rules_of l) f0 b) (build_all (clear b0) (told_at f0 b)) (extent_after (frame_next (rules_of l) f0 b) n0)
        (told_number (k0 + 1))) (told_number (k0 + 1))) bs)
    by None go = extent-back (rules_of l) f0 n0 b bs _
        (go (frame_next (rules_of l) f0 b) (build_all (clear b0) (told_at f0 b)) (extent_after (frame_next (rules_of l) f0 b) n0) (told_number (k0 + 1)))
    by (Some f) go = subst (HasExtent (rules_of l) f0 n0 (b ∷ bs)) (sym (stopped-went l f (told_number (k0 + 1)) bs)) tt

extent-more : (r : Rules) (f : Frame) (n : ℕ) (xs ys : List ℕ) → extent r f n (xs ++ ys) ≡ extent r (frame_after r f xs) (extent r f n xs) ys
extent-more r f n [] ys = refl
extent-more r f n (x ∷ xs) ys = extent-more r (frame_next r f x) (extent_after (frame_next r f x) n) xs ys

after-open : (f : Frame) (n : ℕ) → in_item f ≡ true → extent_after f n ≡ n + 1
after-open f n h = ap (λ (t : Bool). if t then n + 1 else 1) h

after-none : (f : Frame) (n : ℕ) → in_item f ≡ false → extent_after f n ≡ 1
after-none f n h = ap (λ (t : Bool). if t then n + 1 else 1) h

-- open with each of the bytes
abbrev AllOpen : Rules → Frame → List ℕ → Type 0
AllOpen r f ys = (us vs : List ℕ) → ys ≡ us ++ vs → (us ≡ [] → ⊥) → in_item (frame_after r f us) ≡ true

no-nil : {X : Type 0} (x : X) (xs : List X) → x ∷ xs ≡ [] → ⊥
no-nil x xs e = cc

grows : (ys : List ℕ) (r : Rules) (f : Frame) (n : ℕ) → AllOpen r f ys → extent r f n ys ≡ n + length ys
grows [] r f n h = (let e : n ≡ n + 0 = omega arith in e)
grows (y ∷ ys) r f n h =
    let one : extent_after (frame_next r f y) n ≡ n + 1 = after-open (frame_next r f y) n (h (y ∷ []) ys refl (λ e. no-nil y [] e)) in
    ap (λ (m : ℕ). extent r (frame_next r f y) m ys) one
    ∙ (grows ys r (frame_next r f y) (n + 1) (λ us vs e some. h (y ∷ us) vs (ap (λ (l : List ℕ). y ∷ l) e) (λ k. no-nil y us k))
    ∙ (let g : (n + 1) + length ys ≡ n + suc (length ys) = omega arith in g))

-- Where the last count began.

abbrev IsBegun : Rules → List ℕ → ℕ → Type 0
IsBegun r bytes n = (xs : List ℕ) × (y : ℕ) × (ys : List ℕ) × (bytes ≡ xs ++ (y ∷ ys)) × (n ≡ length (y ∷ ys))
    × (in_item (frame_after r first_frame (xs ++ y ∷ [])) ≡ false)
    × ((us vs : List ℕ) → ys ≡ us ++ vs → (us ≡ [] → ⊥) → in_item (frame_after r first_frame (xs ++ (y ∷ us))) ≡ true)

abbrev IsCounted : Rules → List ℕ → ℕ → Type 0
IsCounted r bytes n = ((bytes ≡ []) × (n ≡ 0)) ⊎ IsBegun r bytes n

pub after-last : (r : Rules) (xs : List ℕ) (b : ℕ) → frame_after r first_frame (xs ++ b ∷ []) ≡ frame_next r (frame_after r first_frame xs) b
after-last r xs b = frames-more r first_frame xs (b ∷ [])

pub sound-at : (r : Rules) (xs : List ℕ) → Sound r (frame_after r first_frame xs)
sound-at r xs = after-sound r first_frame xs (first-sound r)

-- before anything no tag opens
never-first : (r : Rules) (b : ℕ) → in_item (frame_after r first_frame (b ∷ [])) ≡ true → ⊥
never-first r b h = false-true (opens-after r first_frame b (first-sound r) refl h)

-- a front of a list, or of all with one more
front-or : (ys us vs : List ℕ) (b : ℕ) → ys ++ b ∷ [] ≡ us ++ vs → ((ws : List ℕ) × (ys ≡ us ++ ws)) ⊎ (us ≡ ys ++ b ∷ [])
front-or ys [] vs b e = inl (ys, refl)
front-or [] (u ∷ us) vs b e = inr (by us e)
  where
    by : (us : List ℕ) → b ∷ [] ≡ u ∷ (us ++ vs) → u ∷ us ≡ b ∷ []
    by [] e = let f : b ∷ [] ≡ u ∷ vs = e in cc
    by (x ∷ xs) e = absurd (let f : b ∷ [] ≡ u ∷ (x ∷ (xs ++ vs)) = e in cc)
front-or (y ∷ ys) (u ∷ us) vs b e = by (heads e) (front-or ys us vs b (tails e))
  where
    heads : y ∷ (ys ++ b ∷ []) ≡ u ∷ (us ++ vs) → y ≡ u
    heads e = cc

    tails : y ∷ (ys ++ b ∷ []) ≡ u ∷ (us ++ vs) → ys ++ b ∷ [] ≡ us ++ vs
    tails e = cc

    by : y ≡ u → ((ws : List ℕ) × (ys ≡ us ++ ws)) ⊎ (us ≡ ys ++ b ∷ []) → ((ws : List ℕ) × (y ∷ ys ≡ u ∷ (us ++ ws))) ⊎ (u ∷ us ≡ y ∷ (ys ++ b ∷ []))
    by h (inl (ws, g)) = inl (ws, ap (λ (l : List ℕ). y ∷ l) g ∙ ap (λ (x : ℕ). x ∷ (us ++ ws)) h)
    by h (inr g) = inr (ap (λ (l : List ℕ). u ∷ l) g ∙ ap (λ (x : ℕ). x ∷ (ys ++ b ∷ [])) (sym h))

no-front : (us vs : List ℕ) → [] ≡ us ++ vs → us ≡ []
no-front [] vs e = refl
no-front (u ∷ us) vs e = absurd (no-nil u (us ++ vs) (sym e))

counted-next : (r : Rules) (bytes : List ℕ) (b n : ℕ) → IsCounted r bytes n
    → IsCounted r (bytes ++ b ∷ []) (extent_after (frame_after r first_frame (bytes ++ b ∷ [])) n)
counted-next r bytes b n c = by (in_item (frame_after r first_frame (bytes ++ b ∷ []))) refl
  where
    f1 : Frame
    f1 = frame_after r first_frame (bytes ++ b ∷ [])

    opened : in_item f1 ≡ true → IsCounted r bytes n → IsBegun r (bytes ++ b ∷ []) (extent_after f1 n)
    opened h (inl (none, zero_so)) = absurd (never-first r b (ap (λ (l : List ℕ). in_item (frame_after r first_frame (l ++ b ∷ []))) (sym none) ∙ h))
    opened h (inr (xs, y, ys, split, long, low, each)) =
        let longer : bytes ++ b ∷ [] ≡ xs ++ (y ∷ (ys ++ b ∷ [])) = ap (λ (l : List ℕ). l ++ b ∷ []) split ∙ append_assoc xs (y ∷ ys) (b ∷ []) in (
          xs,
          y,
          ys ++ b ∷ [],
          longer,
          after-open f1 n h ∙ (ap (λ (m : ℕ). m + 1) long ∙ one-more ys),
          low,
          λ us vs e some. all us vs some (front-or ys us vs b e) longer,
        )
      where
        one-more : (ys : List ℕ) → suc (length ys) + 1 ≡ suc (length (ys ++ b ∷ []))
        one-more ys = let e : length (ys ++ b ∷ []) ≡ length ys + 1 = length-append ys (b ∷ []) in omega (arith, e)

        all : (us vs : List ℕ) → (us ≡ [] → ⊥) → ((ws : List ℕ) × (ys ≡ us ++ ws)) ⊎ (us ≡ ys ++ b ∷ []) → bytes ++ b ∷ [] ≡ xs ++ (y ∷ (ys ++ b ∷ []))
            → in_item (frame_after r first_frame (xs ++ (y ∷ us))) ≡ true
        all us vs some (inl (ws, g)) longer = each us ws g some
        all us vs some (inr g) longer = ap (λ (l : List ℕ). in_item (frame_after r first_frame (xs ++ (y ∷ l)))) g
            ∙ (ap (λ (l : List ℕ). in_item (frame_after r first_frame l)) (sym longer) ∙ h)

    by : (t : Bool) → in_item f1 ≡ t → IsCounted r (bytes ++ b ∷ []) (extent_after f1 n)
    by true h = inr (opened h c)
    by false h = inr (bytes, b, [], refl, after-none f1 n h, h, λ us vs e some. absurd (some (no-front us vs e)))

counted-all : (bs : List ℕ) (r : Rules) (bytes : List ℕ) (n : ℕ) → IsCounted r bytes n
    → IsCounted r (bytes ++ bs) (extent r (frame_after r first_frame bytes) n bs)
counted-all [] r bytes n c = subst (λ (l : List ℕ). IsCounted r l n) (sym (append-nil bytes)) c
counted-all (b ∷ bs) r bytes n c =
    let f1 : frame_after r first_frame (bytes ++ b ∷ []) ≡ frame_next r (frame_after r first_frame bytes) b = after-last r bytes b in
    let m : ℕ = extent_after (frame_after r first_frame (bytes ++ b ∷ [])) n in
    subst (λ (l : List ℕ). IsCounted r l (extent r (frame_after r first_frame bytes) n (b ∷ bs))) (append_assoc bytes (b ∷ []) bs)
    (subst (IsCounted r ((bytes ++ b ∷ []) ++ bs)) (ap (λ (f : Frame). extent r f (extent_after f n) bs) f1)
    (counted-all bs r (bytes ++ b ∷ []) m (counted-next r bytes b n c)))

counted : (r : Rules) (bytes : List ℕ) → IsCounted r bytes (extent r first_frame 0 bytes)
counted r bytes = counted-all bytes r [] 0 (inl (refl, refl))

-- The limit.

is-less : (r : Rules) (xs : List ℕ) (y c : ℕ) → in_item (frame_after r first_frame (xs ++ y ∷ [])) ≡ false
    → in_item (frame_after r first_frame ((xs ++ y ∷ []) ++ c ∷ [])) ≡ true → y ≡ 60
is-less r xs y c low high =
    let after : AfterLess (frame_after r first_frame (xs ++ y ∷ [])) =
    opens-after r (frame_after r first_frame (xs ++ y ∷ [])) c (sound-at r (xs ++ y ∷ [])) low (ap in_item (sym (after-last r (xs ++ y ∷ []) c)) ∙ high) in
    less-before r (frame_after r first_frame xs) y (sound-at r xs) (subst AfterLess (after-last r xs y) after)

-- the byte before what is open is a `<`
begun-less : (r : Rules) (xs : List ℕ) (y : ℕ) (ys : List ℕ) (byte : ℕ) → in_item (frame_after r first_frame (xs ++ y ∷ [])) ≡ false
    → ((us vs : List ℕ) → ys ≡ us ++ vs → (us ≡ [] → ⊥) → in_item (frame_after r first_frame (xs ++ (y ∷ us))) ≡ true)
    → IsOpenAt r (xs ++ (y ∷ ys)) ⊎ IsOpenAt r ((xs ++ (y ∷ ys)) ++ byte ∷ []) → y ≡ 60
begun-less r xs y [] byte low each (inl h) = let bad : true ≡ false = sym h ∙ low in false-true (sym bad)
begun-less r xs y [] byte low each (inr h) = is-less r xs y byte low h
begun-less r xs y (c ∷ ys) byte low each o =
    is-less r xs y c low (ap (λ (l : List ℕ). in_item (frame_after r first_frame l)) (append_assoc xs (y ∷ []) (c ∷ []))
    ∙ each (c ∷ []) ys refl (λ e. no-nil c [] e))

not-true : (t : Bool) → t ≡ false → t ≡ true → ⊥
not-true t e f = false-true (sym e ∙ f)

-- what is open began with a `<`
pub open_since : (r : Rules) (bytes : List ℕ) → IsOpenAt r bytes → (xs : List ℕ) × (ys : List ℕ) × (bytes ≡ xs ++ (60 ∷ ys)) × IsOpenSince r xs ys
open_since r bytes h = by (counted r bytes)
  where
    by : IsCounted r bytes (extent r first_frame 0 bytes) → (xs : List ℕ) × (ys : List ℕ) × (bytes ≡ xs ++ (60 ∷ ys)) × IsOpenSince r xs ys
    by (inl (none, z)) = false-true (ap (λ (x : List ℕ). in_item (frame_after r first_frame x)) (sym none) ∙ h)
    by (inr (xs, y, ys, split, size, low, each)) =
        let less : y ≡ 60 = begun-less r xs y ys 0 low each (inl (subst (IsOpenAt r) split h)) in (
          xs,
          ys,
          split ∙ ap (λ (x : ℕ). xs ++ (x ∷ ys)) less,
          (
            λ k. not-true _ low (ap (λ (x : ℕ). in_item (frame_after r first_frame (xs ++ x ∷ []))) less
                ∙ k),
            λ us vs q some. ap (λ (x : ℕ). in_item (frame_after r first_frame (xs ++ (x ∷ us)))) (sym less) ∙ each us vs q some,
          ),
        )

or-open : (s t : Bool) → (s || t) ≡ true → (s ≡ true) ⊎ (t ≡ true)
or-open true t e = inl refl
or-open false t e = inr e

pub past-is : (l : Limits) (bytes : List ℕ) (byte n : ℕ) (f : Frame) → f ≡ frame_after (rules_of l) first_frame bytes
    → n ≡ extent (rules_of l) first_frame 0 bytes → is_past l f (frame_next (rules_of l) f byte) n ≡ true → IsPastAt l bytes byte
past-is l bytes byte n f e g h = by (counted r bytes) opened
  where
    r : Rules
    r = rules_of l

    long : l.bytes ≤ extent r first_frame 0 bytes
    long = subst (λ (m : ℕ). l.bytes ≤ m) g (leb-true l.bytes n (and_parts (in_item f || in_item (frame_next r f byte)) (nat_le l.bytes n) h).1)

    opened : IsOpenAt r bytes ⊎ IsOpenAt r (bytes ++ byte ∷ [])
    opened = elim (or-open (in_item f) (in_item (frame_next r f byte)) (and_parts (in_item f || in_item (frame_next r f byte)) (nat_le l.bytes n) h).0) [
      | inl k ↦ inl (ap in_item (sym e) ∙ k)
      | inr k ↦ inr (ap in_item (after-last r bytes byte ∙ ap (λ (x : Frame). frame_next r x byte) (sym e)) ∙ k)
    ]

    none-open : bytes ≡ [] → IsOpenAt r bytes ⊎ IsOpenAt r (bytes ++ byte ∷ []) → ⊥
    none-open none (inl k) = false-true (ap (λ (x : List ℕ). in_item (frame_after r first_frame x)) (sym none) ∙ k)
    none-open none (inr k) = never-first r byte (ap (λ (x : List ℕ). in_item (frame_after r first_frame (x ++ byte ∷ []))) (sym none) ∙ k)

    by : IsCounted r bytes (extent r first_frame 0 bytes) → IsOpenAt r bytes ⊎ IsOpenAt r (bytes ++ byte ∷ []) → IsPastAt l bytes byte
    by (inl (none, z)) o = absurd (none-open none o)
    by (inr (xs, y, ys, split, size, low, each)) o =
        let less : y ≡ 60 = begun-less r xs y ys byte low each (subst (λ (x : List ℕ). IsOpenAt r x ⊎ IsOpenAt r (x ++ byte ∷ [])) split o) in (
          o,
          (
            xs,
            ys,
            split ∙ ap (λ (x : ℕ). xs ++ (x ∷ ys)) less,
            (
              λ k. not-true _ low (ap (λ (x : ℕ). in_item (frame_after r first_frame (xs ++ x ∷ []))) less
                  ∙ k),
              λ us vs q some. ap (λ (x : ℕ). in_item (frame_after r first_frame (xs ++ (x ∷ us)))) (sym less) ∙ each us vs q some,
            ),
            subst (λ (m : ℕ). l.bytes ≤ m) size long,
          ),
        )

false-from : (t : Bool) → (t ≡ true → ⊥) → t ≡ false
false-from true h = absurd (h refl)
false-from false h = refl

both-true : (s t : Bool) → s ≡ true → t ≡ true → (s && t) ≡ true
both-true true t e f = f
both-true false t e f = false-true e

or-true : (s t : Bool) → (s ≡ true) ⊎ (t ≡ true) → (s || t) ≡ true
or-true true t h = refl
or-true false t (inl e) = false-true e
or-true false t (inr e) = e

pub is-past : (l : Limits) (bytes : List ℕ) (byte n : ℕ) (f : Frame) → f ≡ frame_after (rules_of l) first_frame bytes
    → n ≡ extent (rules_of l) first_frame 0 bytes → IsPastAt l bytes byte → is_past l f (frame_next (rules_of l) f byte) n ≡ true
is-past l bytes byte n f e g (o, (xs, ys, split, (low, each), long)) =
    let r : Rules = rules_of l in
    let at_xs : Frame = frame_after r first_frame xs in
    let none : in_item (frame_next r at_xs 60) ≡ false = false-from (in_item (frame_next r at_xs 60)) (λ k. low (ap in_item (after-last r xs 60) ∙ k)) in
    let count : extent r first_frame 0 bytes ≡ suc (length ys) =
    ap (extent r first_frame 0) split
    ∙ (extent-more r first_frame 0 xs (60 ∷ ys)
    ∙ (ap (λ (m : ℕ). extent r (frame_next r at_xs 60) m ys) (after-none (frame_next r at_xs 60) (extent r first_frame 0 xs) none)
    ∙ (grows ys r (frame_next r at_xs 60) 1 (λ us vs q some. ap in_item (sym (frames-more r first_frame xs (60 ∷ us))) ∙ each us vs q some)
    ∙ (let h : 1 + length ys ≡ suc (length ys) = omega arith in h)))) in
    let size : l.bytes ≤ n = subst (λ (m : ℕ). l.bytes ≤ m) (sym (g ∙ count)) long in
    both-true (in_item f || in_item (frame_next r f byte)) (nat_le l.bytes n) (or-true (in_item f) (in_item (frame_next r f byte)) (elim o [
      | inl k ↦ inl (ap in_item e ∙ k)
      | inr k ↦ inr (ap in_item (ap (λ (x : Frame). frame_next r x byte) e ∙ sym (after-last r bytes byte)) ∙ k)
    ])) (le-leb l.bytes n size)
