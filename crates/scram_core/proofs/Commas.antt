-- Where the commas of a text stand.
use Rattle.std.proofs.Common.{◌≡◌, ℕ, zero, suc, List, [], ◌∷◌, ◌++◌, inl, inr, drop, refl, sym, ap, ◌∙◌, subst}
use Rattle.std.proofs.Common.{Bool, true, false, not, ◌&&◌, ◌||◌, ◌==◌, if◌then◌else◌}
use Rattle.std.proofs.lemmas.Bool.{eqb-true}
use Rattle.scram_core.specs.Expressions.{Class, has, Expression, void, empty, byte, up_to, concat, union, star, AreOf, Times, IsText}
use Rattle.scram_core.specs.Attributes.{before_comma, after_comma, has_comma, before_last_comma}
use Rattle.scram_core.proofs.Lists.{each, false-true, true-false, second_holds}

-- Tests.

chosen : {X : Type 0} (t : Bool) (x y : X) → t ≡ false → (if t then x else y) ≡ y
chosen true x y h = true-false h
chosen false x y h = refl

neither : (s t : Bool) → s || t ≡ false → (s ≡ false) × (t ≡ false)
neither true t h = true-false h
neither false t h = (refl, h)

nor : (s t : Bool) → s ≡ false → t ≡ false → s || t ≡ false
nor true t h k = h
nor false t h k = k

by_test : (C : Class) (c : ℕ) (t : Bool) → c == 44 ≡ t → not (has C 44) ≡ true → has C c ≡ true → t ≡ false
by_test C c true e h k =
    let same : has C 44 ≡ true = subst (λ (n : ℕ). has C n ≡ true) (eqb-true c 44 e) k in
    false-true (subst (λ (t : Bool). not t ≡ true) same h)
by_test C c false e h k = refl

-- a byte that passes is not a comma, if a comma does not pass
not_comma : (C : Class) (c : ℕ) → not (has C 44) ≡ true → has C c ≡ true → c == 44 ≡ false
not_comma C c h k = by_test C c (c == 44) refl h k

-- No byte of an expression is a comma.

abbrev pub lacks : Expression → Bool
lacks void = true
lacks empty = true
lacks (byte C) = not (has C 44)
lacks (up_to n C) = not (has C 44)
lacks (concat p q) = lacks p && lacks q
lacks (union p q) = lacks p && lacks q
lacks (star p) = lacks p

pub no_comma-append : (xs ys : List ℕ) → has_comma xs ≡ false → has_comma ys ≡ false → has_comma (xs ++ ys) ≡ false
no_comma-append [] ys h k = k
no_comma-append (x ∷ xs) ys h k =
    let two = neither (x == 44) (has_comma xs) h in
    nor (x == 44) (has_comma (xs ++ ys)) two.0 (no_comma-append xs ys two.1 k)

pub of_class : (C : Class) (bs : List ℕ) → not (has C 44) ≡ true → AreOf C bs → has_comma bs ≡ false
of_class C [] h m = refl
of_class C (b ∷ bs) h m = nor (b == 44) (has_comma bs) (not_comma C b h m.0) (of_class C bs h m.1)

of_times : (P : List ℕ → Type 0) (n : ℕ) (bs : List ℕ) → ((xs : List ℕ) → P xs → has_comma xs ≡ false) → Times P n bs → has_comma bs ≡ false
of_times P zero bs f e = subst (λ (l : List ℕ). has_comma l ≡ false) (sym e) refl
of_times P (suc n) bs f (c, xs, ys, m, k, e) =
    subst (λ (l : List ℕ). has_comma l ≡ false) (sym e) (no_comma-append (c ∷ xs) ys (f (c ∷ xs) m) (of_times P n ys f k))

pub lacks-text : (p : Expression) (bs : List ℕ) → lacks p ≡ true → IsText p bs → has_comma bs ≡ false
unfolding IsText
lacks-text void bs h m = absurd m
lacks-text empty bs h m = subst (λ (l : List ℕ). has_comma l ≡ false) (sym m) refl
lacks-text (byte C) bs h (c, k, e) = subst (λ (l : List ℕ). has_comma l ≡ false) (sym e) (nor (c == 44) false (not_comma C c h k) refl)
lacks-text (up_to n C) bs h m = of_class C bs h m.1
lacks-text (concat p q) bs h (xs, ys, m, n, e) =
    let two = each (lacks p) (lacks q) h in
    subst (λ (l : List ℕ). has_comma l ≡ false) (sym e) (no_comma-append xs ys (lacks-text p xs two.0 m) (lacks-text q ys two.1 n))
lacks-text (union p q) bs h (inl m) = lacks-text p bs (each (lacks p) (lacks q) h).0 m
lacks-text (union p q) bs h (inr m) = lacks-text q bs (each (lacks p) (lacks q) h).1 m
lacks-text (star p) bs h (n, m) = of_times (IsText p) n bs (λ xs. lacks-text p xs h) m

-- What stands before and after the first comma.

pub before-first : (xs ys : List ℕ) → has_comma xs ≡ false → before_comma (xs ++ 44 ∷ ys) ≡ xs
before-first [] ys h = refl
before-first (x ∷ xs) ys h =
    let two = neither (x == 44) (has_comma xs) h in
    chosen (x == 44) [] (x ∷ before_comma (xs ++ 44 ∷ ys)) two.0 ∙ ap (λ (l : List ℕ). x ∷ l) (before-first xs ys two.1)

pub after-first : (xs ys : List ℕ) → has_comma xs ≡ false → after_comma (xs ++ 44 ∷ ys) ≡ ys
after-first [] ys h = refl
after-first (x ∷ xs) ys h =
    let two = neither (x == 44) (has_comma xs) h in
    chosen (x == 44) (xs ++ 44 ∷ ys) (after_comma (xs ++ 44 ∷ ys)) two.0 ∙ after-first xs ys two.1

pub before-all : (xs : List ℕ) → has_comma xs ≡ false → before_comma xs ≡ xs
before-all [] h = refl
before-all (x ∷ xs) h =
    let two = neither (x == 44) (has_comma xs) h in
    chosen (x == 44) [] (x ∷ before_comma xs) two.0 ∙ ap (λ (l : List ℕ). x ∷ l) (before-all xs two.1)

no_comma-cond : (t : Bool) (x : ℕ) (ys : List ℕ) → has_comma ys ≡ false → (x == 44) ≡ t → has_comma (if t then [] else x ∷ ys) ≡ false
no_comma-cond true x ys h e = refl
no_comma-cond false x ys h e = nor (x == 44) (has_comma ys) e h

pub no_comma-before : (xs : List ℕ) → has_comma (before_comma xs) ≡ false
no_comma-before [] = refl
no_comma-before (x ∷ xs) = no_comma-cond (x == 44) x (before_comma xs) (no_comma-before xs) refl

pub no_comma-drop : (xs : List ℕ) → has_comma xs ≡ false → has_comma (drop 2 xs) ≡ false
no_comma-drop [] h = refl
no_comma-drop (x ∷ []) h = refl
no_comma-drop (x ∷ y ∷ xs) h = (neither (y == 44) (has_comma xs) (neither (x == 44) (y == 44 || has_comma xs) h).1).1

-- What stands before the last comma.

comma-append : (xs ys : List ℕ) → has_comma (xs ++ 44 ∷ ys) ≡ true
comma-append [] ys = refl
comma-append (x ∷ xs) ys = second_holds (x == 44) (has_comma (xs ++ 44 ∷ ys)) (comma-append xs ys)

pub before-last : (xs ys : List ℕ) → has_comma ys ≡ false → before_last_comma (xs ++ 44 ∷ ys) ≡ xs
before-last [] ys h = ap (λ (t : Bool). if t then 44 ∷ before_last_comma ys else []) h
before-last (x ∷ xs) ys h =
    ap (λ (t : Bool). if t then x ∷ before_last_comma (xs ++ 44 ∷ ys) else []) (comma-append xs ys)
    ∙ ap (λ (l : List ℕ). x ∷ l) (before-last xs ys h)
