-- The parts between commas are the productions of the grammar.
use Rattle.std.proofs.Common.{◌≡◌, ℕ, zero, suc, ◌+◌, ◌≤◌, List, [], ◌∷◌, ◌++◌, ◌⊎◌, inl, inr, length, drop, refl, sym, ap, ◌∙◌}
use Rattle.std.proofs.Common.{subst, arith, append_assoc, append-nil, true, false, ◌&&◌, nat_le, codes}
use Rattle.std.proofs.lemmas.Bool.{leb-true}
use Rattle.scram_core.specs.Expressions.{has, Expression, concat, star, Times, IsText}
use Rattle.scram_core.specs.Grammar.{a, optional, comma, gs2_cbind_flag, authzid, address, gs2_header, saslname, username, printable_text}
use Rattle.scram_core.specs.Grammar.{nonce, attr_val, extensions, base64, channel_binding, proof, client_first_message_bare}
use Rattle.scram_core.specs.Grammar.{client_first_message, client_final_message_without_proof, client_final_message}
use Rattle.scram_core.specs.Attributes.{before_comma, after_comma, has_comma, before_last_comma, flag_of, authzid_of, bare_of, without_proof, proof_of}
use Rattle.scram_core.specs.Parts.{HasFirstParts, HasLastParts}
use Rattle.scram_core.proofs.Lists.{each, either, false-true}
use Rattle.scram_core.proofs.Normal.{alike-within}
use Rattle.scram_core.proofs.Commas.{lacks, lacks-text, before-first, after-first, before-all, before-last}

-- the one text of a byte
same_bounds : (b c : ℕ) → has ((b, b) ∷ []) c ≡ true → c ≡ b
same_bounds b c h = elim (either (nat_le b c && nat_le c b) false h) [
  | inl k ↦ (let two = each (nat_le b c) (nat_le c b) k in
      let low : b ≤ c = leb-true b c two.0 in
      let high : c ≤ b = leb-true c b two.1 in omega arith)
  | inr k ↦ false-true k
]

pub byte-is : (b : ℕ) (bs : List ℕ) → IsText (a b) bs → bs ≡ b ∷ []
unfolding IsText
byte-is b bs (c, h, e) = e ∙ ap (λ (n : ℕ). n ∷ []) (same_bounds b c h)

-- a text with a first comma
pub record IsSplit (p q : Expression) (t : List ℕ) : Type 0 where
  pub front : IsText p (before_comma t)
  pub back : IsText q (after_comma t)
  pub whole : t ≡ before_comma t ++ 44 ∷ after_comma t

pub split : (p q : Expression) (t : List ℕ) → lacks p ≡ true → IsText (concat p (concat comma q)) t → IsSplit p q t
unfolding IsText
split p q t h (xs, ys, m, (us, vs, k, n, f), e) =
    let w : t ≡ xs ++ 44 ∷ vs = e ∙ ap (λ (l : List ℕ). xs ++ l) (f ∙ ap (λ (l : List ℕ). l ++ vs) (byte-is 44 us k)) in
    let none : has_comma xs ≡ false = lacks-text p xs h m in
    let b : before_comma t ≡ xs = ap before_comma w ∙ before-first xs vs none in
    let c : after_comma t ≡ vs = ap after_comma w ∙ after-first xs vs none in
    record {
      front = subst (IsText p) (sym b) m;
      back = subst (IsText q) (sym c) n;
      whole = w ∙ (ap (λ (l : List ℕ). l ++ 44 ∷ vs) (sym b) ∙ ap (λ (l : List ℕ). before_comma t ++ 44 ∷ l) (sym c));
    }

-- an attribute: its letter, `=` and its value
pub attribute : (b c : ℕ) (p : Expression) (t : List ℕ) → IsText (concat (a b) (concat (a c) p)) t → (t ≡ b ∷ c ∷ drop 2 t) × IsText p (drop 2 t)
unfolding IsText
attribute b c p t (xs, ys, m, (us, vs, k, n, f), e) =
    let w : t ≡ b ∷ c ∷ vs = e
    ∙ (ap (λ (l : List ℕ). l ++ ys) (byte-is b xs m) ∙ ap (λ (l : List ℕ). b ∷ l) (f ∙ ap (λ (l : List ℕ). l ++ vs) (byte-is c us k))) in
    let d : drop 2 t ≡ vs = ap (λ (l : List ℕ). drop 2 l) w in
    (w ∙ ap (λ (l : List ℕ). b ∷ c ∷ l) (sym d), subst (IsText p) (sym d) n)

-- a text that is none or begins with a comma
pub data Ends (t : List ℕ) : Type 0 where
  nothing : t ≡ [] → Ends t
  comma_first : (r : List ℕ) → t ≡ 44 ∷ r → Ends t

heads : (x y : ℕ) (xs ys : List ℕ) → x ∷ xs ≡ y ∷ ys → x ≡ y
heads x y xs ys e = cc

begins_comma : (q : Expression) (c : ℕ) (xs : List ℕ) → IsText (concat comma q) (c ∷ xs) → c ≡ 44
unfolding IsText
begins_comma q c xs (us, vs, m, n, e) = heads c 44 xs vs (e ∙ ap (λ (l : List ℕ). l ++ vs) (byte-is 44 us m))

times-ends : (q : Expression) (n : ℕ) (t : List ℕ) → Times (IsText (concat comma q)) n t → Ends t
times-ends q zero t e = nothing e
times-ends q (suc n) t (c, xs, ys, m, k, e) = comma_first (xs ++ ys) (e ∙ ap (λ (b : ℕ). b ∷ (xs ++ ys)) (begins_comma q c xs m))

star-ends : (q : Expression) (t : List ℕ) → IsText (star (concat comma q)) t → Ends t
unfolding IsText
star-ends q t (n, m) = times-ends q n t m

before-ends : (p : Expression) (xs ys : List ℕ) → lacks p ≡ true → IsText p xs → Ends ys → IsText p (before_comma (xs ++ ys))
before-ends p xs ys h m (nothing e) =
    subst (IsText p) (sym (ap (λ (l : List ℕ). before_comma (xs ++ l)) e ∙ (ap before_comma (append-nil xs) ∙ before-all xs (lacks-text p xs h m)))) m
before-ends p xs ys h m (comma_first r e) =
    subst (IsText p) (sym (ap (λ (l : List ℕ). before_comma (xs ++ l)) e ∙ before-first xs r (lacks-text p xs h m))) m

pub front-of : (p q : Expression) (t : List ℕ) → lacks p ≡ true → ((ys : List ℕ) → IsText q ys → Ends ys) → IsText (concat p q) t → IsText p (before_comma t)
unfolding IsText
front-of p q t h f (xs, ys, m, n, e) = subst (λ (l : List ℕ). IsText p (before_comma l)) (sym e) (before-ends p xs ys h m (f ys n))

joined : (r : Expression) (t xs ys : List ℕ) → Ends xs → IsText (concat comma r) ys → t ≡ xs ++ ys → Ends t
unfolding IsText
joined r t xs ys (nothing e) (us, vs, m, n, f) w =
    comma_first vs (w ∙ (ap (λ (l : List ℕ). l ++ ys) e ∙ (f ∙ ap (λ (l : List ℕ). l ++ vs) (byte-is 44 us m))))
joined r t xs ys (comma_first z e) n w = comma_first (z ++ ys) (w ∙ ap (λ (l : List ℕ). l ++ ys) e)

after-extensions : (r : Expression) (t : List ℕ) → IsText (concat extensions (concat comma r)) t → Ends t
unfolding IsText
after-extensions r t (xs, ys, m, n, e) = joined r t xs ys (star-ends attr_val xs m) n e

-- The first text.

abbrev after_flag : Expression
after_flag = concat (optional authzid) (concat comma client_first_message_bare)

first-split : (t : List ℕ) → IsText client_first_message t → IsSplit gs2_cbind_flag after_flag t
first-split t m =
    split gs2_cbind_flag after_flag t refl (alike-within client_first_message (concat gs2_cbind_flag (concat comma after_flag)) refl t m)

authzid-split : (t : List ℕ) → IsText client_first_message t → IsSplit (optional authzid) client_first_message_bare (after_comma t)
authzid-split t m = split (optional authzid) client_first_message_bare (after_comma t) refl (first-split t m).back

bare-split : (t : List ℕ) → IsText client_first_message_bare t → IsSplit username (concat (nonce 255) extensions) t
bare-split t m = split username (concat (nonce 255) extensions) t refl m

authzid-form : (t : List ℕ) → IsText (optional authzid) t → (t ≡ []) ⊎ ((t ≡ codes "a=" ++ drop 2 t) × IsText address (drop 2 t))
unfolding IsText
authzid-form t (inl m) = inr (attribute 97 61 address t m)
authzid-form t (inr m) = inl m

regroup : (f z : List ℕ) → ((f ++ 44 ∷ []) ++ z) ++ 44 ∷ [] ≡ f ++ 44 ∷ (z ++ 44 ∷ [])
regroup f z = append_assoc (f ++ 44 ∷ []) z (44 ∷ []) ∙ append_assoc f (44 ∷ []) (z ++ 44 ∷ [])

header-text : (f z : List ℕ) → IsText gs2_cbind_flag f → IsText (optional authzid) z → IsText gs2_header (f ++ codes "," ++ z ++ codes ",")
unfolding IsText
header-text f z m n =
    (f, 44 ∷ (z ++ 44 ∷ []), m, (44 ∷ [], z ++ 44 ∷ [], (44, refl, refl), (z, 44 ∷ [], n, (44, refl, refl), refl), refl), regroup f z)

first-whole : (t u : List ℕ) → t ≡ before_comma t ++ 44 ∷ u → u ≡ before_comma u ++ 44 ∷ after_comma u
    → t ≡ (((before_comma t ++ 44 ∷ []) ++ before_comma u) ++ 44 ∷ []) ++ after_comma u
first-whole t u e f =
    e ∙ (ap (λ (l : List ℕ). before_comma t ++ 44 ∷ l) f
    ∙ sym (ap (λ (l : List ℕ). l ++ after_comma u) (regroup (before_comma t) (before_comma u))
    ∙ (append_assoc (before_comma t) (44 ∷ (before_comma u ++ 44 ∷ [])) (after_comma u)
    ∙ ap (λ (l : List ℕ). before_comma t ++ 44 ∷ l) (append_assoc (before_comma u) (44 ∷ []) (after_comma u)))))

pub first-parts : (t : List ℕ) → IsText client_first_message t → HasFirstParts t
first-parts t m =
    let one = first-split t m in
    let two = authzid-split t m in
    let three = bare-split (bare_of t) two.back in
    record {
      whole = first-whole t (after_comma t) one.whole two.whole;
      flag = one.front;
      authzid = authzid-form (authzid_of t) two.front;
      header = header-text (flag_of t) (authzid_of t) one.front two.front;
      bare = two.back;
      name = (attribute 110 61 saslname (before_comma (bare_of t)) three.front).1;
      nonce = (attribute 114 61 (printable_text 255) (before_comma (after_comma (bare_of t)))
          (front-of (nonce 255) extensions (after_comma (bare_of t)) refl (star-ends attr_val) three.back)).1;
    }

-- The last text.

abbrev after_binding : Expression
after_binding = concat (nonce 511) (concat extensions (concat comma proof))

binding-split : (t : List ℕ) → IsText client_final_message t → IsSplit channel_binding after_binding t
binding-split t m =
    split channel_binding after_binding t refl (alike-within client_final_message (concat channel_binding (concat comma after_binding)) refl t m)

one_more : (n : ℕ) → suc n + 3 ≡ suc (n + 3)
one_more n = omega arith

drop-past : (xs : List ℕ) (b c d : ℕ) (ys : List ℕ) → drop (length xs + 3) (xs ++ b ∷ c ∷ d ∷ ys) ≡ ys
drop-past [] b c d ys = refl
drop-past (x ∷ xs) b c d ys =
    ap (λ (n : ℕ). drop n (x ∷ (xs ++ b ∷ c ∷ d ∷ ys))) (one_more (length xs)) ∙ drop-past xs b c d ys

-- a text of the form of a last one, by the part before its last comma and the proof
cut-last : (t xs ys : List ℕ) → IsText client_final_message t → IsText client_final_message_without_proof xs → IsText proof ys
    → t ≡ xs ++ 44 ∷ ys → HasLastParts t
cut-last t xs ys m front value e =
    let one = binding-split t m in
    let two = attribute 112 61 base64 ys value in
    let b : without_proof t ≡ xs = ap before_last_comma e ∙ before-last xs ys (lacks-text proof ys refl value) in
    let w : t ≡ xs ++ 44 ∷ 112 ∷ 61 ∷ drop 2 ys = e ∙ ap (λ (l : List ℕ). xs ++ 44 ∷ l) two.0 in
    let p : proof_of t ≡ drop 2 ys =
    ap (λ (l : List ℕ). drop (length l + 3) t) b ∙ (ap (λ (l : List ℕ). drop (length xs + 3) l) w ∙ drop-past xs 44 112 61 (drop 2 ys)) in
    record {
      whole = w ∙ (ap (λ (l : List ℕ). l ++ 44 ∷ 112 ∷ 61 ∷ drop 2 ys) (sym b)
          ∙ (ap (λ (l : List ℕ). without_proof t ++ 44 ∷ 112 ∷ 61 ∷ l) (sym p) ∙ sym (append_assoc (without_proof t) (44 ∷ 112 ∷ 61 ∷ []) (proof_of t))));
      front = subst (IsText client_final_message_without_proof) (sym b) front;
      binding = (attribute 99 61 base64 (before_comma t) one.front).1;
      nonce = (attribute 114 61 (printable_text 511) (before_comma (after_comma t))
          (front-of (nonce 511) (concat extensions (concat comma proof)) (after_comma t) refl (after-extensions proof) one.back)).1;
      proof = subst (IsText base64) (sym p) two.1;
    }

pub last-parts : (t : List ℕ) → IsText client_final_message t → HasLastParts t
unfolding IsText
last-parts t (xs, ys, m, (us, vs, k, n, f), e) =
    cut-last t xs vs (xs, ys, m, (us, vs, k, n, f), e) m n (e ∙ ap (λ (l : List ℕ). xs ++ l) (f ∙ ap (λ (l : List ℕ). l ++ vs) (byte-is 44 us k)))
