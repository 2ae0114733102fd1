-- The bytes of the texts of an expression.
use Rattle.std.proofs.Common.{◌≡◌, ℕ, zero, suc, ◌<◌, List, [], ◌∷◌, ◌++◌, ◌⊎◌, inl, inr, refl, sym, subst}
use Rattle.std.proofs.Common.{arith, Bool, true, false, not, ◌&&◌, ◌||◌, nat_lt, nat_le}
use Rattle.std.proofs.lemmas.Bool.{ltb-true, leb-true}
use Rattle.std.specs.List.{list_all}
use Rattle.scram_core.specs.Expressions.{Class, has, Expression, void, empty, byte, up_to, concat, union, star, AreOf, Times, IsText}
use Rattle.scram_core.proofs.Lists.{each, both, either, false-true}
use Rattle.scram_core.proofs.Keeping.{all_below, below-all}

-- whether each byte of a class is below n
abbrev pub tops : ℕ → Class → Bool
tops n [] = true
tops n (r ∷ rs) = nat_lt r.1 n && tops n rs

low-either : (n : ℕ) (r : ℕ × ℕ) (rs : Class) (c : ℕ) → (nat_lt r.1 n ≡ true) × (tops n rs ≡ true)
    → (nat_le r.0 c && nat_le c r.1 ≡ true) ⊎ (has rs c ≡ true) → (tops n rs ≡ true → has rs c ≡ true → c < n) → c < n
low-either n r rs c h (inl k) f =
    let top = ltb-true r.1 n h.0 in
    let within = leb-true c r.1 (each (nat_le r.0 c) (nat_le c r.1) k).1 in omega arith
low-either n r rs c h (inr k) f = f h.1 k

pub low : (n : ℕ) (C : Class) (c : ℕ) → tops n C ≡ true → has C c ≡ true → c < n
low n [] c h k = false-true k
low n (r ∷ rs) c h k = low-either n r rs c (each (nat_lt r.1 n) (tops n rs) h) (either (nat_le r.0 c && nat_le c r.1) (has rs c) k) (low n rs c)

-- whether each byte of each text passes
abbrev pub passes : (ℕ → Bool) → Expression → Bool
passes f void = true
passes f empty = true
passes f (byte C) = tops 256 C && all_below 256 (λ b. not (has C b) || f b)
passes f (up_to n C) = tops 256 C && all_below 256 (λ b. not (has C b) || f b)
passes f (concat p q) = passes f p && passes f q
passes f (union p q) = passes f p && passes f q
passes f (star p) = passes f p

pub passed : (s t : Bool) → not s || t ≡ true → s ≡ true → t ≡ true
passed true t h k = h
passed false t h k = false-true k

class-passes : (f : ℕ → Bool) (C : Class) (c : ℕ) → tops 256 C && all_below 256 (λ b. not (has C b) || f b) ≡ true → has C c ≡ true → f c ≡ true
class-passes f C c h k =
    let two = each (tops 256 C) (all_below 256 (λ b. not (has C b) || f b)) h in
    passed (has C c) (f c) (below-all 256 (λ b. not (has C b) || f b) two.1 c (low 256 C c two.0 k)) k

all-append : (f : ℕ → Bool) (xs ys : List ℕ) → list_all f xs ≡ true → list_all f ys ≡ true → list_all f (xs ++ ys) ≡ true
all-append f [] ys h k = k
all-append f (x ∷ xs) ys h k =
    let two = each (f x) (list_all f xs) h in both (f x) (list_all f (xs ++ ys)) two.0 (all-append f xs ys two.1 k)

all-class : (f : ℕ → Bool) (C : Class) (bs : List ℕ) → tops 256 C && all_below 256 (λ b. not (has C b) || f b) ≡ true → AreOf C bs → list_all f bs ≡ true
all-class f C [] h m = refl
all-class f C (b ∷ bs) h m = both (f b) (list_all f bs) (class-passes f C b h m.0) (all-class f C bs h m.1)

all-times : (f : ℕ → Bool) (P : List ℕ → Type 0) (n : ℕ) (bs : List ℕ) → ((xs : List ℕ) → P xs → list_all f xs ≡ true) → Times P n bs → list_all f bs ≡ true
all-times f P zero bs g e = subst (λ (l : List ℕ). list_all f l ≡ true) (sym e) refl
all-times f P (suc n) bs g (c, xs, ys, m, k, e) =
    subst (λ (l : List ℕ). list_all f l ≡ true) (sym e) (all-append f (c ∷ xs) ys (g (c ∷ xs) m) (all-times f P n ys g k))

pub passes-text : (f : ℕ → Bool) (p : Expression) (bs : List ℕ) → passes f p ≡ true → IsText p bs → list_all f bs ≡ true
unfolding IsText
passes-text f void bs h m = absurd m
passes-text f empty bs h m = subst (λ (l : List ℕ). list_all f l ≡ true) (sym m) refl
passes-text f (byte C) bs h (c, k, e) = subst (λ (l : List ℕ). list_all f l ≡ true) (sym e) (both (f c) true (class-passes f C c h k) refl)
passes-text f (up_to n C) bs h m = all-class f C bs h m.1
passes-text f (concat p q) bs h (xs, ys, m, n, e) =
    let two = each (passes f p) (passes f q) h in
    subst (λ (l : List ℕ). list_all f l ≡ true) (sym e) (all-append f xs ys (passes-text f p xs two.0 m) (passes-text f q ys two.1 n))
passes-text f (union p q) bs h (inl m) = passes-text f p bs (each (passes f p) (passes f q) h).0 m
passes-text f (union p q) bs h (inr m) = passes-text f q bs (each (passes f p) (passes f q) h).1 m
passes-text f (star p) bs h (n, m) = all-times f (IsText p) n bs (λ xs. passes-text f p xs h) m
