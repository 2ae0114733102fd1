-- What may follow a first character is what `after` says.
use Rattle.std.proofs.Common.{◌≡◌, ℕ, zero, suc, ◌+◌, ◌*◌, ◌<◌, List, [], ◌∷◌, ◌++◌, ◌⊎◌, inl, inr, refl, sym, ap, ◌∙◌}
use Rattle.std.proofs.Common.{subst, append_assoc, Bool, true, false, cond, ◌&&◌, nat_lt, arith}
use Rattle.std.proofs.lemmas.Bool.{and_parts, and_from, lt-ltb}
use Rattle.stream_lex.specs.declared.kinds.Kind.{Kind}
use Rattle.stream_lex.specs.declared.kinds.Kind.TheVariants as kinds
use Rattle.stream_lex.specs.declared.stages.Base.{Base}
use Rattle.stream_lex.specs.declared.stages.Base.TheVariants.{Decimal, Hexadecimal}
use Rattle.stream_lex.specs.grammar.Classes.{is_xml}
use Rattle.stream_lex.specs.grammar.Kinds.{kind, is_digit, digit, base_of}
use Rattle.stream_lex.specs.grammar.Expressions.{Sign, Expression, void, empty, yields, silent_symbol, symbol, digits, number, concat_of}
use Rattle.stream_lex.specs.grammar.Expressions.{concat, union, star, value, IsNumber, Times, IsText}
use Rattle.stream_lex.specs.machine.Derivatives.{union_of, empty_part, derivative}
use Rattle.stream_lex.proofs.Lists.{same_head, same_tail, cons_not_nil, false-true, nil_parts, moved, Cut, within, before, cut}
use Rattle.stream_lex.proofs.Numbers.{xml-bound, value-grows}

pub concat_of-to : (p q : Expression) (cs : List ℕ) (ms : List Sign) → IsText (concat p q) cs ms → IsText (concat_of p q) cs ms
unfolding IsText
concat_of-to void q cs ms (xs, us, ys, vs, m, n, e, f) = absurd m
concat_of-to empty q cs ms (xs, us, ys, vs, m, n, e, f) =
    moved (IsText q) ys cs vs ms (sym (e ∙ ap (λ (l : List ℕ). l ++ ys) m.0)) (sym (f ∙ ap (λ (l : List Sign). l ++ vs) m.1)) n
concat_of-to (concat p r) q cs ms (xs, us, ys, vs, (zs1, us1, zs2, us2, m, k, e1, f1), n, e, f) =
    concat_of-to p (concat_of r q) cs ms (
      zs1,
      us1,
      zs2 ++ ys,
      us2 ++ vs,
      m,
      concat_of-to r q (zs2 ++ ys) (us2 ++ vs) (zs2, us2, ys, vs, k, n, refl, refl),
      e ∙ (ap (λ (l : List ℕ). l ++ ys) e1 ∙ append_assoc zs1 zs2 ys),
      f ∙ (ap (λ (l : List Sign). l ++ vs) f1 ∙ append_assoc us1 us2 vs),
    )
concat_of-to p q cs ms m = m

regrouped : (p r q : Expression) (cs : List ℕ) (ms : List Sign)
    → ((xs : List ℕ) (us : List Sign) → IsText (concat_of r q) xs us → IsText (concat r q) xs us)
    → IsText (concat p (concat_of r q)) cs ms → IsText (concat (concat p r) q) cs ms
unfolding IsText
regrouped p r q cs ms back (xs, us, ys, vs, m, k, e, f) =
    let (zs1, us1, zs2, us2, k1, n, e1, f1) = back ys vs k in (
      xs ++ zs1,
      us ++ us1,
      zs2,
      us2,
      (xs, us, zs1, us1, m, k1, refl, refl),
      n,
      e ∙ (ap (λ (l : List ℕ). xs ++ l) e1 ∙ sym (append_assoc xs zs1 zs2)),
      f ∙ (ap (λ (l : List Sign). us ++ l) f1 ∙ sym (append_assoc us us1 us2)),
    )

pub concat_of-from : (p q : Expression) (cs : List ℕ) (ms : List Sign) → IsText (concat_of p q) cs ms → IsText (concat p q) cs ms
unfolding IsText
concat_of-from void q cs ms m = absurd m
concat_of-from empty q cs ms m = ([], [], cs, ms, (refl, refl), m, refl, refl)
concat_of-from (concat p r) q cs ms m = regrouped p r q cs ms (concat_of-from r q) (concat_of-from p (concat_of r q) cs ms m)
concat_of-from p q cs ms m = m

pub union_of-to : (p q : Expression) (cs : List ℕ) (ms : List Sign) → IsText p cs ms ⊎ IsText q cs ms → IsText (union_of p q) cs ms
unfolding IsText
union_of-to void q cs ms (inl m) = absurd m
union_of-to void q cs ms (inr m) = m
union_of-to p void cs ms (inl m) = m
union_of-to p void cs ms (inr m) = absurd m
union_of-to p q cs ms m = m

pub union_of-from : (p q : Expression) (cs : List ℕ) (ms : List Sign) → IsText (union_of p q) cs ms → IsText p cs ms ⊎ IsText q cs ms
unfolding IsText
union_of-from void q cs ms m = inr m
union_of-from p void cs ms m = inl m
union_of-from p q cs ms m = m

-- the text without characters
pub empty_part-to : (p : Expression) (cs : List ℕ) (ms : List Sign) → cs ≡ [] → IsText p cs ms → IsText (empty_part p) [] ms
unfolding IsText
empty_part-to void cs ms h m = m
empty_part-to empty cs ms h m = (refl, m.1)
empty_part-to (yields us) cs ms h m = (refl, m.1)
empty_part-to (silent_symbol P) cs ms h (c, k, e, f) = absurd (cons_not_nil c [] (sym e ∙ h))
empty_part-to (symbol P g) cs ms h (c, k, e, f) = absurd (cons_not_nil c [] (sym e ∙ h))
empty_part-to (digits base g) cs ms h (d, ds, k, e, m) = absurd (cons_not_nil d ds (sym e ∙ h))
empty_part-to (number base g v) cs ms h (ds, e, k, s, a, x, f) = let two = nil_parts ds (e ∷ []) (sym a ∙ h) in absurd (cons_not_nil e [] two.1)
empty_part-to (concat p q) cs ms h (xs, us, ys, vs, m, n, e, f) =
    let two = nil_parts xs ys (sym e ∙ h) in
    concat_of-to (empty_part p) (empty_part q) [] ms ([], us, [], vs, empty_part-to p xs us two.0 m, empty_part-to q ys vs two.1 n, refl, f)
empty_part-to (union p q) cs ms h (inl m) = union_of-to (empty_part p) (empty_part q) [] ms (inl (empty_part-to p cs ms h m))
empty_part-to (union p q) cs ms h (inr m) = union_of-to (empty_part p) (empty_part q) [] ms (inr (empty_part-to q cs ms h m))
empty_part-to (star p) cs ms h (zero, (e, f)) = (refl, f)
empty_part-to (star p) cs ms h (suc n, (c, xs, us, ys, vs, m, k, e, f)) = absurd (cons_not_nil _ _ (sym e ∙ h))

abbrev IsSilent : Expression → Type 0
IsSilent p = (xs : List ℕ) (us : List Sign) → IsText (empty_part p) xs us → (xs ≡ []) × IsText p [] us

empty_part-concat : (p q : Expression) (cs : List ℕ) (ms : List Sign) → IsSilent p → IsSilent q
    → IsText (concat (empty_part p) (empty_part q)) cs ms → (cs ≡ []) × IsText (concat p q) [] ms
unfolding IsText
empty_part-concat p q cs ms hp hq (xs, us, ys, vs, m, n, e, f) =
    let k = hp xs us m in
    let j = hq ys vs n in
    (e ∙ (ap (λ (l : List ℕ). l ++ ys) k.0 ∙ j.0), ([], us, [], vs, k.1, j.1, refl, f))

empty_part-union : (p q : Expression) (cs : List ℕ) (ms : List Sign) → IsSilent p → IsSilent q
    → IsText (empty_part p) cs ms ⊎ IsText (empty_part q) cs ms → (cs ≡ []) × IsText (union p q) [] ms
unfolding IsText
empty_part-union p q cs ms hp hq (inl m) = let k = hp cs ms m in (k.0, inl k.1)
empty_part-union p q cs ms hp hq (inr m) = let k = hq cs ms m in (k.0, inr k.1)

pub empty_part-from : (p : Expression) (cs : List ℕ) (ms : List Sign) → IsText (empty_part p) cs ms → (cs ≡ []) × IsText p [] ms
unfolding IsText
empty_part-from void cs ms m = absurd m
empty_part-from empty cs ms m = (m.0, (refl, m.1))
empty_part-from (yields us) cs ms m = (m.0, (refl, m.1))
empty_part-from (silent_symbol P) cs ms m = absurd m
empty_part-from (symbol P f) cs ms m = absurd m
empty_part-from (digits base f) cs ms m = absurd m
empty_part-from (number base f v) cs ms m = absurd m
empty_part-from (concat p q) cs ms m =
    empty_part-concat p q cs ms (empty_part-from p) (empty_part-from q) (concat_of-from (empty_part p) (empty_part q) cs ms m)
empty_part-from (union p q) cs ms m = empty_part-union p q cs ms (empty_part-from p) (empty_part-from q) (union_of-from (empty_part p) (empty_part q) cs ms m)
empty_part-from (star p) cs ms m = (m.0, (0, (refl, m.1)))

-- tests
pub cond-to : (t : Bool) (p : Expression) (cs : List ℕ) (ms : List Sign) → t ≡ true → IsText p cs ms → IsText (cond t p void) cs ms
cond-to true p cs ms h m = m
cond-to false p cs ms h m = false-true h

pub cond-from : (t : Bool) (p : Expression) (cs : List ℕ) (ms : List Sign) → IsText (cond t p void) cs ms → (t ≡ true) × IsText p cs ms
unfolding IsText
cond-from true p cs ms m = (refl, m)
cond-from false p cs ms m = absurd m

-- numbers
derivative-digit : (base : Base) (f : ℕ → List Sign) (v c : ℕ) (k : Kind) → is_digit base k ≡ true
    → derivative k c (number base f v) ≡ cond (is_digit base k && nat_lt (base_of base * v + digit c) 0x110000) (number base f (base_of base * v + digit c))
    void
derivative-digit Decimal f v c kinds.Semicolon h = false-true h
derivative-digit Hexadecimal f v c kinds.Semicolon h = false-true h
derivative-digit Decimal f v c k h = refl
derivative-digit Hexadecimal f v c k h = refl

number-to : (base : Base) (f : ℕ → List Sign) (v c : ℕ) (cs : List ℕ) (ms : List Sign) → IsNumber base f v (c ∷ cs) ms
    → IsText (derivative (kind c) c (number base f v)) cs ms
unfolding IsText
number-to base f v c cs ms ([], e, are, s, a, x, g) =
    let same : c ≡ e = same_head c e cs [] a in
    subst (λ (k : Kind). IsText (derivative k c (number base f v)) cs ms) (sym (ap kind same ∙ s))
    (cond-to (is_xml v) (yields (f v)) cs ms x (same_tail c e cs [] a, g))
number-to base f v c cs ms (d ∷ ds, e, are, s, a, x, g) =
    let same : c ≡ d = same_head c d cs (ds ++ e ∷ []) a in
    let small : base_of base * v + digit d < 0x110000 = let low = value-grows base (base_of base * v + digit d) ds in let high =
    xml-bound (value base (base_of base * v + digit d) ds) x in omega arith in
    let is : is_digit base (kind c) ≡ true = subst (λ (n : ℕ). is_digit base (kind n) ≡ true) (sym same) are.0 in
    let grown : IsText (number base f (base_of base * v + digit c)) cs ms =
    subst (λ (n : ℕ). IsText (number base f (base_of base * v + digit n)) cs ms) (sym same) (ds, e, are.1, s, same_tail c d cs (ds ++ e ∷ []) a, x, g) in
    subst (λ (p : Expression). IsText p cs ms) (sym (derivative-digit base f v c (kind c) is))
    (cond-to (is_digit base (kind c) && nat_lt (base_of base * v + digit c) 0x110000) (number base f (base_of base * v + digit c)) cs ms
    (and_from _ _ is (lt-ltb _ _ (subst (λ (n : ℕ). base_of base * v + digit n < 0x110000) (sym same) small))) grown)

number-ends : (base : Base) (f : ℕ → List Sign) (v c : ℕ) (cs : List ℕ) (ms : List Sign) → kind c ≡ kinds.Semicolon
    → IsText (cond (is_xml v) (yields (f v)) void) cs ms → IsNumber base f v (c ∷ cs) ms
unfolding IsText
number-ends base f v c cs ms e m =
    let r = cond-from (is_xml v) (yields (f v)) cs ms m in
    ([], c, tt, e, ap (λ (l : List ℕ). c ∷ l) r.1.0, r.0, r.1.1)

number-grows : (base : Base) (f : ℕ → List Sign) (v c : ℕ) (cs : List ℕ) (ms : List Sign) (k : Kind) → kind c ≡ k
    → IsText (cond (is_digit base k && nat_lt (base_of base * v + digit c) 0x110000) (number base f (base_of base * v + digit c)) void) cs ms
    → IsNumber base f v (c ∷ cs) ms
unfolding IsText
number-grows base f v c cs ms k e m =
    let r = cond-from (is_digit base k && nat_lt (base_of base * v + digit c) 0x110000) (number base f (base_of base * v + digit c)) cs ms m in
    let (ds, s, are, h, a, x, g) = r.1 in
    (c ∷ ds, s, (subst (λ (j : Kind). is_digit base j ≡ true) (sym e) (and_parts _ _ r.0).0, are), h, ap (λ (l : List ℕ). c ∷ l) a, x, g)

number-from : (base : Base) (f : ℕ → List Sign) (v c : ℕ) (cs : List ℕ) (ms : List Sign) (k : Kind) → kind c ≡ k
    → IsText (derivative k c (number base f v)) cs ms → IsNumber base f v (c ∷ cs) ms
number-from base f v c cs ms kinds.Semicolon e m = number-ends base f v c cs ms e m
number-from base f v c cs ms k e m = number-grows base f v c cs ms k e m

-- a first character of two texts after one another
concat-to : (p q : Expression) (c : ℕ) (cs : List ℕ) (ms : List Sign) (xs : List ℕ) (us : List Sign) (ys : List ℕ) (vs : List Sign)
    → ((zs : List ℕ) (ws : List Sign) → IsText p (c ∷ zs) ws → IsText (derivative (kind c) c p) zs ws)
    → ((zs : List ℕ) (ws : List Sign) → IsText q (c ∷ zs) ws → IsText (derivative (kind c) c q) zs ws)
    → IsText p xs us → IsText q ys vs → ms ≡ us ++ vs → Cut c cs xs ys
    → IsText (concat_of (derivative (kind c) c p) q) cs ms ⊎ IsText (concat_of (empty_part p) (derivative (kind c) c q)) cs ms
unfolding IsText
concat-to p q c cs ms xs us ys vs hp hq m n f (within zs e1 e2) =
    inl (concat_of-to (derivative (kind c) c p) q cs ms (zs, us, ys, vs, hp zs us (subst (λ (l : List ℕ). IsText p l us) e1 m), n, e2, f))
concat-to p q c cs ms xs us ys vs hp hq m n f (before e1 e2) =
    inr (concat_of-to (empty_part p) (derivative (kind c) c q) cs ms
    ([], us, cs, vs, empty_part-to p xs us e1 m, hq cs vs (subst (λ (l : List ℕ). IsText q l vs) e2 n), refl, f))

concat-from : (p q : Expression) (c : ℕ) (cs : List ℕ) (ms : List Sign)
    → ((zs : List ℕ) (ws : List Sign) → IsText (derivative (kind c) c p) zs ws → IsText p (c ∷ zs) ws)
    → ((zs : List ℕ) (ws : List Sign) → IsText (derivative (kind c) c q) zs ws → IsText q (c ∷ zs) ws)
    → IsText (concat_of (derivative (kind c) c p) q) cs ms ⊎ IsText (concat_of (empty_part p) (derivative (kind c) c q)) cs ms
    → IsText (concat p q) (c ∷ cs) ms
unfolding IsText
concat-from p q c cs ms hp hq (inl m) =
    let (xs, us, ys, vs, k, n, e, f) = concat_of-from (derivative (kind c) c p) q cs ms m in
    (c ∷ xs, us, ys, vs, hp xs us k, n, ap (λ (l : List ℕ). c ∷ l) e, f)
concat-from p q c cs ms hp hq (inr m) =
    let (xs, us, ys, vs, k, n, e, f) = concat_of-from (empty_part p) (derivative (kind c) c q) cs ms m in
    let s = empty_part-from p xs us k in
    ([], us, c ∷ ys, vs, s.1, hq ys vs n, ap (λ (l : List ℕ). c ∷ l) (e ∙ ap (λ (l : List ℕ). l ++ ys) s.0), f)

union-from : (p q : Expression) (c : ℕ) (cs : List ℕ) (ms : List Sign)
    → ((zs : List ℕ) (ws : List Sign) → IsText (derivative (kind c) c p) zs ws → IsText p (c ∷ zs) ws)
    → ((zs : List ℕ) (ws : List Sign) → IsText (derivative (kind c) c q) zs ws → IsText q (c ∷ zs) ws)
    → IsText (derivative (kind c) c p) cs ms ⊎ IsText (derivative (kind c) c q) cs ms
    → IsText (union p q) (c ∷ cs) ms
unfolding IsText
union-from p q c cs ms hp hq (inl m) = inl (hp cs ms m)
union-from p q c cs ms hp hq (inr m) = inr (hq cs ms m)

times-to : (p : Expression) (n c : ℕ) (cs : List ℕ) (ms : List Sign) (Q : Expression) → ((xs : List ℕ) (us : List Sign) → IsText p (c ∷ xs) us → IsText Q xs us)
    → Times (IsText p) n (c ∷ cs) ms → IsText (concat Q (star p)) cs ms
unfolding IsText
times-to p zero c cs ms Q h (e, f) = absurd (cons_not_nil _ _ e)
times-to p (suc n) c cs ms Q h (d, xs, us, ys, vs, m, k, e, f) =
    (xs, us, ys, vs, h xs us (subst (λ (l : ℕ). IsText p (l ∷ xs) us) (sym (same_head c d cs (xs ++ ys) e)) m), (n, k), same_tail c d cs (xs ++ ys) e, f)

times-from : (p : Expression) (c : ℕ) (cs : List ℕ) (ms : List Sign)
    → ((zs : List ℕ) (ws : List Sign) → IsText (derivative (kind c) c p) zs ws → IsText p (c ∷ zs) ws)
    → IsText (concat (derivative (kind c) c p) (star p)) cs ms → IsText (star p) (c ∷ cs) ms
unfolding IsText
times-from p c cs ms h (xs, us, ys, vs, m, (n, k), e, f) =
    (suc n, (c, xs, us, ys, vs, h xs us m, k, ap (λ (l : List ℕ). c ∷ l) e, f))

pub derivative-to : (p : Expression) (c : ℕ) (cs : List ℕ) (ms : List Sign) → IsText p (c ∷ cs) ms → IsText (derivative (kind c) c p) cs ms
unfolding IsText
derivative-to void c cs ms m = m
derivative-to empty c cs ms m = absurd (cons_not_nil _ _ m.0)
derivative-to (yields us) c cs ms m = absurd (cons_not_nil _ _ m.0)
derivative-to (silent_symbol P) c cs ms (d, k, e, f) =
    let same : c ≡ d = same_head c d cs [] e in
    cond-to (P (kind c) c) empty cs ms (subst (λ (l : ℕ). P (kind l) l ≡ true) (sym same) k) (same_tail c d cs [] e, f)
derivative-to (symbol P g) c cs ms (d, k, e, f) =
    let same : c ≡ d = same_head c d cs [] e in
    cond-to (P (kind c) c) (yields (g c)) cs ms (subst (λ (l : ℕ). P (kind l) l ≡ true) (sym same) k) (same_tail c d cs [] e, f ∙ ap g (sym same))
derivative-to (digits base g) c cs ms (d, ds, k, e, m) =
    let same : c ≡ d = same_head c d cs ds e in
    cond-to (is_digit base (kind c)) (number base g (digit c)) cs ms (subst (λ (l : ℕ). is_digit base (kind l) ≡ true) (sym same) k)
    (subst (λ (l : ℕ). IsNumber base g (digit l) cs ms) (sym same) (subst (λ (l : List ℕ). IsNumber base g (digit d) l ms) (sym (same_tail c d cs ds e)) m))
derivative-to (number base g v) c cs ms m = number-to base g v c cs ms m
derivative-to (concat p q) c cs ms (xs, us, ys, vs, m, n, e, f) =
    union_of-to (concat_of (derivative (kind c) c p) q) (concat_of (empty_part p) (derivative (kind c) c q)) cs ms
    (concat-to p q c cs ms xs us ys vs (derivative-to p c) (derivative-to q c) m n f (cut c cs xs ys e))
derivative-to (union p q) c cs ms (inl m) = union_of-to (derivative (kind c) c p) (derivative (kind c) c q) cs ms (inl (derivative-to p c cs ms m))
derivative-to (union p q) c cs ms (inr m) = union_of-to (derivative (kind c) c p) (derivative (kind c) c q) cs ms (inr (derivative-to q c cs ms m))
derivative-to (star p) c cs ms (n, m) =
    concat_of-to (derivative (kind c) c p) (star p) cs ms (times-to p n c cs ms (derivative (kind c) c p) (derivative-to p c) m)

pub derivative-from : (p : Expression) (c : ℕ) (cs : List ℕ) (ms : List Sign) → IsText (derivative (kind c) c p) cs ms → IsText p (c ∷ cs) ms
unfolding IsText
derivative-from void c cs ms m = m
derivative-from empty c cs ms m = absurd m
derivative-from (yields us) c cs ms m = absurd m
derivative-from (silent_symbol P) c cs ms m =
    let r = cond-from (P (kind c) c) empty cs ms m in
    (c, r.0, ap (λ (l : List ℕ). c ∷ l) r.1.0, r.1.1)
derivative-from (symbol P g) c cs ms m =
    let r = cond-from (P (kind c) c) (yields (g c)) cs ms m in
    (c, r.0, ap (λ (l : List ℕ). c ∷ l) r.1.0, r.1.1)
derivative-from (digits base g) c cs ms m =
    let r = cond-from (is_digit base (kind c)) (number base g (digit c)) cs ms m in
    (c, cs, r.0, refl, r.1)
derivative-from (number base g v) c cs ms m = number-from base g v c cs ms (kind c) refl m
derivative-from (concat p q) c cs ms m =
    concat-from p q c cs ms (derivative-from p c) (derivative-from q c)
    (union_of-from (concat_of (derivative (kind c) c p) q) (concat_of (empty_part p) (derivative (kind c) c q)) cs ms m)
derivative-from (union p q) c cs ms m =
    union-from p q c cs ms (derivative-from p c) (derivative-from q c) (union_of-from (derivative (kind c) c p) (derivative (kind c) c q) cs ms m)
derivative-from (star p) c cs ms m = times-from p c cs ms (derivative-from p c) (concat_of-from (derivative (kind c) c p) (star p) cs ms m)
