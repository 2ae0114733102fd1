-- Expressions without parts that have no text or only the one without bytes, grouped to the right: two that are the
-- same in this form have the same texts.
use Rattle.std.proofs.Common.{◌≡◌, ℕ, zero, suc, List, [], ◌∷◌, ◌++◌, inl, inr, refl, sym, ap, ◌∙◌, subst, append_assoc, Bool, true, false, ◌==◌, ◌&&◌}
use Rattle.std.proofs.lemmas.Bool.{eqb-true}
use Rattle.scram_core.specs.Expressions.{Class, Expression, void, empty, byte, up_to, concat, union, star, Times, IsText}
use Rattle.scram_core.proofs.Lists.{false-true, each}

abbrev pub concat_of : Expression → Expression → Expression
concat_of void q = void
concat_of empty q = q
concat_of (concat p r) q = concat_of p (concat_of r q)
concat_of p q = concat p q

abbrev pub union_of : Expression → Expression → Expression
union_of void q = q
union_of p void = p
union_of (union p r) q = union_of p (union_of r q)
union_of p q = union p q

abbrev pub normal : Expression → Expression
normal (concat p q) = concat_of (normal p) (normal q)
normal (union p q) = union_of (normal p) (normal q)
normal (star p) = star (normal p)
normal p = p

-- what the texts of one are, those of the other are
abbrev pub Within : Expression → Expression → Type 0
Within p q = (bs : List ℕ) → IsText p bs → IsText q bs

-- Concatenation.

concat-within : (p q r s : Expression) → Within p r → Within q s → Within (concat p q) (concat r s)
unfolding IsText
concat-within p q r s f g bs (xs, ys, m, n, e) = (xs, ys, f xs m, g ys n, e)

left-group : (p q r : Expression) → Within (concat p (concat q r)) (concat (concat p q) r)
unfolding IsText
left-group p q r bs (xs, ys, m, (us, vs, k, n, f), e) =
    (xs ++ us, vs, (xs, us, m, k, refl), n, e ∙ (ap (λ (l : List ℕ). xs ++ l) f ∙ sym (append_assoc xs us vs)))

right-group : (p q r : Expression) → Within (concat (concat p q) r) (concat p (concat q r))
unfolding IsText
right-group p q r bs (xs, ys, (us, vs, m, k, f), n, e) =
    (us, vs ++ ys, m, (vs, ys, k, n, refl), e ∙ (ap (λ (l : List ℕ). l ++ ys) f ∙ append_assoc us vs ys))

same : (p : Expression) → Within p p
same p bs m = m

concat_of-to : (p q : Expression) → Within (concat p q) (concat_of p q)
unfolding IsText
concat_of-to void q bs (xs, ys, m, n, e) = absurd m
concat_of-to empty q bs (xs, ys, m, n, e) = subst (IsText q) (sym (e ∙ ap (λ (l : List ℕ). l ++ ys) m)) n
concat_of-to (concat p r) q bs m =
    concat_of-to p (concat_of r q) bs (concat-within p (concat r q) p (concat_of r q) (same p) (concat_of-to r q) bs (right-group p r q bs m))
concat_of-to p q bs m = m

concat_of-from : (p q : Expression) → Within (concat_of p q) (concat p q)
unfolding IsText
concat_of-from void q bs m = absurd m
concat_of-from empty q bs m = ([], bs, refl, m, refl)
concat_of-from (concat p r) q bs m =
    left-group p r q bs (concat-within p (concat_of r q) p (concat r q) (same p) (concat_of-from r q) bs (concat_of-from p (concat_of r q) bs m))
concat_of-from p q bs m = m

-- Alternatives.

union-within : (p q r s : Expression) → Within p r → Within q s → Within (union p q) (union r s)
unfolding IsText
union-within p q r s f g bs (inl m) = inl (f bs m)
union-within p q r s f g bs (inr m) = inr (g bs m)

union-left : (p q r : Expression) → Within (union p (union q r)) (union (union p q) r)
unfolding IsText
union-left p q r bs (inl m) = inl (inl m)
union-left p q r bs (inr (inl m)) = inl (inr m)
union-left p q r bs (inr (inr m)) = inr m

union-right : (p q r : Expression) → Within (union (union p q) r) (union p (union q r))
unfolding IsText
union-right p q r bs (inl (inl m)) = inl m
union-right p q r bs (inl (inr m)) = inr (inl m)
union-right p q r bs (inr m) = inr (inr m)

union_of-to : (p q : Expression) → Within (union p q) (union_of p q)
unfolding IsText
union_of-to void q bs (inl m) = absurd m
union_of-to void q bs (inr m) = m
union_of-to p void bs (inl m) = m
union_of-to p void bs (inr m) = absurd m
union_of-to (union p r) q bs m =
    union_of-to p (union_of r q) bs (union-within p (union r q) p (union_of r q) (same p) (union_of-to r q) bs (union-right p r q bs m))
union_of-to p q bs m = m

union_of-from : (p q : Expression) → Within (union_of p q) (union p q)
unfolding IsText
union_of-from void q bs m = inr m
union_of-from p void bs m = inl m
union_of-from (union p r) q bs m =
    union-left p r q bs (union-within p (union_of r q) p (union r q) (same p) (union_of-from r q) bs (union_of-from p (union_of r q) bs m))
union_of-from p q bs m = m

-- Repetition.

times-within : (P Q : List ℕ → Type 0) → ((bs : List ℕ) → P bs → Q bs) → (n : ℕ) (bs : List ℕ) → Times P n bs → Times Q n bs
times-within P Q f zero bs e = e
times-within P Q f (suc n) bs (c, xs, ys, m, k, e) = (c, xs, ys, f (c ∷ xs) m, times-within P Q f n ys k, e)

star-within : (p q : Expression) → Within p q → Within (star p) (star q)
unfolding IsText
star-within p q f bs (n, m) = (n, times-within (IsText p) (IsText q) f n bs m)

-- The form has the same texts.

pub normal-to : (p : Expression) → Within p (normal p)
normal-to (concat p q) bs m =
    concat_of-to (normal p) (normal q) bs (concat-within p q (normal p) (normal q) (normal-to p) (normal-to q) bs m)
normal-to (union p q) bs m =
    union_of-to (normal p) (normal q) bs (union-within p q (normal p) (normal q) (normal-to p) (normal-to q) bs m)
normal-to (star p) bs m = star-within p (normal p) (normal-to p) bs m
normal-to p bs m = m

pub normal-from : (p : Expression) → Within (normal p) p
normal-from (concat p q) bs m =
    concat-within (normal p) (normal q) p q (normal-from p) (normal-from q) bs (concat_of-from (normal p) (normal q) bs m)
normal-from (union p q) bs m =
    union-within (normal p) (normal q) p q (normal-from p) (normal-from q) bs (union_of-from (normal p) (normal q) bs m)
normal-from (star p) bs m = star-within (normal p) p (normal-from p) bs m
normal-from p bs m = m

-- Whether two expressions are the same.

abbrev pub are_runs : Class → Class → Bool
are_runs [] [] = true
are_runs (r ∷ rs) (s ∷ ss) = (r.0 == s.0 && r.1 == s.1) && are_runs rs ss
are_runs rs ss = false

abbrev pub is_same : Expression → Expression → Bool
is_same void void = true
is_same empty empty = true
is_same (byte C) (byte D) = are_runs C D
is_same (up_to n C) (up_to m D) = n == m && are_runs C D
is_same (concat p q) (concat r s) = is_same p r && is_same q s
is_same (union p q) (union r s) = is_same p r && is_same q s
is_same (star p) (star q) = is_same p q
is_same p q = false

pub runs-same : (C D : Class) → are_runs C D ≡ true → C ≡ D
runs-same [] [] h = refl
runs-same [] (s ∷ ss) h = false-true h
runs-same (r ∷ rs) [] h = false-true h
runs-same (r ∷ rs) (s ∷ ss) h =
    let two = each (r.0 == s.0 && r.1 == s.1) (are_runs rs ss) h in
    let ends = each (r.0 == s.0) (r.1 == s.1) two.0 in
    let one : r ≡ s = λ i. (eqb-true r.0 s.0 ends.0 i, eqb-true r.1 s.1 ends.1 i) in
    λ i. one i ∷ runs-same rs ss two.1 i

pub same-is : (p q : Expression) → is_same p q ≡ true → p ≡ q
same-is void void h = refl
same-is empty empty h = refl
same-is (byte C) (byte D) h = ap byte (runs-same C D h)
same-is (up_to n C) (up_to m D) h =
    let two = each (n == m) (are_runs C D) h in λ i. up_to (eqb-true n m two.0 i) (runs-same C D two.1 i)
same-is (concat p q) (concat r s) h = let two = each (is_same p r) (is_same q s) h in λ i. concat (same-is p r two.0 i) (same-is q s two.1 i)
same-is (union p q) (union r s) h = let two = each (is_same p r) (is_same q s) h in λ i. union (same-is p r two.0 i) (same-is q s two.1 i)
same-is (star p) (star q) h = ap star (same-is p q h)
same-is p q h = false-true h

-- Whether two expressions have the same form.
abbrev pub is_alike : Expression → Expression → Bool
is_alike p q = is_same (normal p) (normal q)

pub alike-within : (p q : Expression) → is_alike p q ≡ true → Within p q
alike-within p q h bs m = normal-from q bs (subst (λ (r : Expression). IsText r bs) (same-is (normal p) (normal q) h) (normal-to p bs m))

pub alike-back : (p q : Expression) → is_alike p q ≡ true → Within q p
alike-back p q h bs m = normal-from p bs (subst (λ (r : Expression). IsText r bs) (sym (same-is (normal p) (normal q) h)) (normal-to q bs m))
