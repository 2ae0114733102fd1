-- What may follow a first byte is what `derivative` says, so `matches` tells the texts.
use Rattle.std.proofs.Common.{◌≡◌, ℕ, zero, suc, List, [], ◌∷◌, ◌++◌, ◌⊎◌, inl, inr, refl, sym, ap, subst, arith, Bool, true, false, cond}
use Rattle.scram_core.specs.Expressions.{Class, has, Expression, void, empty, byte, up_to, concat, union, star, Times, IsText}
use Rattle.scram_core.specs.Matching.{is_nullable, derivative, matches}
use Rattle.scram_core.proofs.Lists.{same_head, same_tail, cons_not_nil, false-true, nil_parts, Cut, inside}
use Rattle.scram_core.proofs.Lists.{before, cut, both, each, either, first_holds, second_holds}

-- The text without bytes.

pub nullable-to : (p : Expression) → IsText p [] → is_nullable p ≡ true
unfolding IsText
nullable-to void m = absurd m
nullable-to empty m = refl
nullable-to (byte C) (c, h, e) = absurd (cons_not_nil c [] (sym e))
nullable-to (up_to n C) m = refl
nullable-to (concat p q) (xs, ys, m, k, e) =
    let two = nil_parts xs ys (sym e) in
    both (is_nullable p) (is_nullable q) (nullable-to p (subst (IsText p) two.0 m)) (nullable-to q (subst (IsText q) two.1 k))
nullable-to (union p q) (inl m) = first_holds (is_nullable p) (is_nullable q) (nullable-to p m)
nullable-to (union p q) (inr m) = second_holds (is_nullable p) (is_nullable q) (nullable-to q m)
nullable-to (star p) m = refl

union-nullable : (p q : Expression) → (is_nullable p ≡ true → IsText p []) → (is_nullable q ≡ true → IsText q [])
    → (is_nullable p ≡ true) ⊎ (is_nullable q ≡ true) → IsText p [] ⊎ IsText q []
union-nullable p q f g (inl h) = inl (f h)
union-nullable p q f g (inr h) = inr (g h)

pub nullable-from : (p : Expression) → is_nullable p ≡ true → IsText p []
unfolding IsText
nullable-from void h = false-true h
nullable-from empty h = refl
nullable-from (byte C) h = false-true h
nullable-from (up_to n C) h = (omega arith, tt)
nullable-from (concat p q) h =
    let two = each (is_nullable p) (is_nullable q) h in ([], [], nullable-from p two.0, nullable-from q two.1, refl)
nullable-from (union p q) h = union-nullable p q (nullable-from p) (nullable-from q) (either (is_nullable p) (is_nullable q) h)
nullable-from (star p) h = (0, refl)

-- One byte of a class.

cond-to : (t : Bool) (p : Expression) (bs : List ℕ) → t ≡ true → IsText p bs → IsText (cond t p void) bs
cond-to true p bs h m = m
cond-to false p bs h m = false-true h

cond-from : (t : Bool) (p : Expression) (bs : List ℕ) → IsText (cond t p void) bs → (t ≡ true) × IsText p bs
unfolding IsText
cond-from true p bs m = (refl, m)
cond-from false p bs m = absurd m

-- Two texts after one another.

abbrev stepped : Bool → Expression → Expression → Expression
stepped t d e = elim t [ true ↦ union d e | false ↦ d ]

stepped-first : (t : Bool) (d e : Expression) (bs : List ℕ) → IsText d bs → IsText (stepped t d e) bs
unfolding IsText
stepped-first true d e bs m = inl m
stepped-first false d e bs m = m

stepped-second : (t : Bool) (d e : Expression) (bs : List ℕ) → t ≡ true → IsText e bs → IsText (stepped t d e) bs
unfolding IsText
stepped-second true d e bs h m = inr m
stepped-second false d e bs h m = false-true h

stepped-from : (t : Bool) (d e : Expression) (bs : List ℕ) → IsText (stepped t d e) bs → IsText d bs ⊎ ((t ≡ true) × IsText e bs)
unfolding IsText
stepped-from true d e bs (inl m) = inl m
stepped-from true d e bs (inr m) = inr (refl, m)
stepped-from false d e bs m = inl m

-- a rule for p at the byte c, in both directions
abbrev Leads : ℕ → Expression → Type 0
Leads c p = (bs : List ℕ) → IsText p (c ∷ bs) → IsText (derivative c p) bs

abbrev Follows : ℕ → Expression → Type 0
Follows c p = (bs : List ℕ) → IsText (derivative c p) bs → IsText p (c ∷ bs)

concat-to : (p q : Expression) (c : ℕ) (cs xs ys : List ℕ) → Leads c p → Leads c q → IsText p xs → IsText q ys → Cut c cs xs ys
    → IsText (stepped (is_nullable p) (concat (derivative c p) q) (derivative c q)) cs
unfolding IsText
concat-to p q c cs xs ys hp hq m n (inside zs e f) =
    stepped-first (is_nullable p) (concat (derivative c p) q) (derivative c q) cs (zs, ys, hp zs (subst (IsText p) e m), n, f)
concat-to p q c cs xs ys hp hq m n (before e f) =
    stepped-second (is_nullable p) (concat (derivative c p) q) (derivative c q) cs (nullable-to p (subst (IsText p) e m)) (hq cs (subst (IsText q) f n))

concat-from : (p q : Expression) (c : ℕ) (cs : List ℕ) → Follows c p → Follows c q
    → IsText (concat (derivative c p) q) cs ⊎ ((is_nullable p ≡ true) × IsText (derivative c q) cs) → IsText (concat p q) (c ∷ cs)
unfolding IsText
concat-from p q c cs hp hq (inl (xs, ys, m, n, e)) = (c ∷ xs, ys, hp xs m, n, ap (λ (l : List ℕ). c ∷ l) e)
concat-from p q c cs hp hq (inr (h, m)) = ([], c ∷ cs, nullable-from p h, hq cs m, refl)

union-from : (p q : Expression) (c : ℕ) (cs : List ℕ) → Follows c p → Follows c q
    → IsText (derivative c p) cs ⊎ IsText (derivative c q) cs → IsText (union p q) (c ∷ cs)
unfolding IsText
union-from p q c cs hp hq (inl m) = inl (hp cs m)
union-from p q c cs hp hq (inr m) = inr (hq cs m)

times-to : (p Q : Expression) (n c : ℕ) (cs : List ℕ) → ((xs : List ℕ) → IsText p (c ∷ xs) → IsText Q xs)
    → Times (IsText p) n (c ∷ cs) → IsText (concat Q (star p)) cs
unfolding IsText
times-to p Q zero c cs h e = absurd (cons_not_nil c cs e)
times-to p Q (suc n) c cs h (d, xs, ys, m, k, e) =
    (xs, ys, h xs (subst (λ (l : ℕ). IsText p (l ∷ xs)) (sym (same_head c d cs (xs ++ ys) e)) m), (n, k), same_tail c d cs (xs ++ ys) e)

times-from : (p Q : Expression) (c : ℕ) (cs : List ℕ) → ((xs : List ℕ) → IsText Q xs → IsText p (c ∷ xs))
    → IsText (concat Q (star p)) cs → IsText (star p) (c ∷ cs)
unfolding IsText
times-from p Q c cs h (xs, ys, m, (n, k), e) = (suc n, (c, xs, ys, h xs m, k, ap (λ (l : List ℕ). c ∷ l) e))

pub derivative-to : (p : Expression) (c : ℕ) (cs : List ℕ) → IsText p (c ∷ cs) → IsText (derivative c p) cs
unfolding IsText
derivative-to void c cs m = m
derivative-to empty c cs m = absurd (cons_not_nil c cs m)
derivative-to (byte C) c cs (d, h, e) =
    cond-to (has C c) empty cs (subst (λ (l : ℕ). has C l ≡ true) (sym (same_head c d cs [] e)) h) (same_tail c d cs [] e)
derivative-to (up_to zero C) c cs (h, m) = absurd (omega arith)
derivative-to (up_to (suc n) C) c cs (h, m) = cond-to (has C c) (up_to n C) cs m.0 (omega arith, m.1)
derivative-to (concat p q) c cs (xs, ys, m, n, e) = concat-to p q c cs xs ys (derivative-to p c) (derivative-to q c) m n (cut c cs xs ys e)
derivative-to (union p q) c cs (inl m) = inl (derivative-to p c cs m)
derivative-to (union p q) c cs (inr m) = inr (derivative-to q c cs m)
derivative-to (star p) c cs (n, m) = times-to p (derivative c p) n c cs (derivative-to p c) m

up_to-from : (n : ℕ) (C : Class) (c : ℕ) (cs : List ℕ) → (has C c ≡ true) × IsText (up_to n C) cs → IsText (up_to (suc n) C) (c ∷ cs)
unfolding IsText
up_to-from n C c cs (h, (k, m)) = (omega arith, (h, m))

byte-from : (C : Class) (c : ℕ) (cs : List ℕ) → (has C c ≡ true) × IsText empty cs → IsText (byte C) (c ∷ cs)
unfolding IsText
byte-from C c cs (h, e) = (c, h, ap (λ (l : List ℕ). c ∷ l) e)

pub derivative-from : (p : Expression) (c : ℕ) (cs : List ℕ) → IsText (derivative c p) cs → IsText p (c ∷ cs)
unfolding IsText
derivative-from void c cs m = m
derivative-from empty c cs m = absurd m
derivative-from (byte C) c cs m = byte-from C c cs (cond-from (has C c) empty cs m)
derivative-from (up_to zero C) c cs m = absurd m
derivative-from (up_to (suc n) C) c cs m = up_to-from n C c cs (cond-from (has C c) (up_to n C) cs m)
derivative-from (concat p q) c cs m =
    concat-from p q c cs (derivative-from p c) (derivative-from q c)
    (stepped-from (is_nullable p) (concat (derivative c p) q) (derivative c q) cs m)
derivative-from (union p q) c cs m = union-from p q c cs (derivative-from p c) (derivative-from q c) m
derivative-from (star p) c cs m = times-from p (derivative c p) c cs (derivative-from p c) m

-- The texts are those that match.

pub matches-to : (p : Expression) (bs : List ℕ) → IsText p bs → matches p bs ≡ true
matches-to p [] m = nullable-to p m
matches-to p (b ∷ bs) m = matches-to (derivative b p) bs (derivative-to p b bs m)

pub matches-from : (p : Expression) (bs : List ℕ) → matches p bs ≡ true → IsText p bs
matches-from p [] h = nullable-from p h
matches-from p (b ∷ bs) h = derivative-from p b bs (matches-from (derivative b p) bs h)
