-- Names with and without their escapes.
use Rattle.std.proofs.Common.{◌≡◌, ℕ, zero, suc, List, [], ◌∷◌, ◌++◌, inl, inr, refl, sym, ap, ◌∙◌, subst, Bool, true, false, not, ◌&&◌, ◌==◌, if◌then◌else◌}
use Rattle.std.proofs.lemmas.Bool.{eqb-true}
use Rattle.std.specs.List.{list_all}
use Rattle.scram_core.specs.Expressions.{empty, Times, IsText}
use Rattle.scram_core.specs.Grammar.{word, value_safe_char, name_char, saslname}
use Rattle.scram_core.specs.Attributes.{escaped, unescaped}
use Rattle.scram_core.proofs.Lists.{each, false-true}
use Rattle.scram_core.proofs.Parts.{byte-is}
use Rattle.scram_core.proofs.Classes.{passes-text}

-- A byte that stands for itself.

abbrev is_plain : ℕ → Bool
is_plain b = not (b == 44) && not (b == 61)

not-so : (t : Bool) → not t ≡ true → t ≡ false
not-so true h = false-true h
not-so false h = refl

unescape-plain : (b : ℕ) (bs : List ℕ) → b == 61 ≡ false → unescaped (b ∷ bs) ≡ b ∷ unescaped bs
unescape-plain b [] h = refl
unescape-plain b (c ∷ []) h = refl
unescape-plain b (c ∷ d ∷ bs) h =
    ap (λ (t : Bool). if t && (c == 50 && d == 67) then 44 ∷ unescaped bs
    else if t && (c == 51 && d == 68) then 61 ∷ unescaped bs else b ∷ unescaped (c ∷ d ∷ bs)) h

escape-plain : (b : ℕ) (bs : List ℕ) → b == 44 ≡ false → b == 61 ≡ false → escaped (b ∷ bs) ≡ b ∷ escaped bs
escape-plain b bs h k =
    ap (λ (t : Bool). if t then 61 ∷ 50 ∷ 67 ∷ escaped bs else if b == 61 then 61 ∷ 51 ∷ 68 ∷ escaped bs else b ∷ escaped bs) h
    ∙ ap (λ (t : Bool). if t then 61 ∷ 51 ∷ 68 ∷ escaped bs else b ∷ escaped bs) k

-- An escape, or a byte for itself.

unescape-escape-of : (b : ℕ) (bs : List ℕ) (s t : Bool) → b == 44 ≡ s → b == 61 ≡ t → unescaped (escaped bs) ≡ bs
    → unescaped (if s then 61 ∷ 50 ∷ 67 ∷ escaped bs else if t then 61 ∷ 51 ∷ 68 ∷ escaped bs else b ∷ escaped bs) ≡ b ∷ bs
unescape-escape-of b bs true t h k e = ap (λ (l : List ℕ). 44 ∷ l) e ∙ ap (λ (n : ℕ). n ∷ bs) (sym (eqb-true b 44 h))
unescape-escape-of b bs false true h k e = ap (λ (l : List ℕ). 61 ∷ l) e ∙ ap (λ (n : ℕ). n ∷ bs) (sym (eqb-true b 61 k))
unescape-escape-of b bs false false h k e = unescape-plain b (escaped bs) k ∙ ap (λ (l : List ℕ). b ∷ l) e

pub unescape-escape : (bs : List ℕ) → unescaped (escaped bs) ≡ bs
unescape-escape [] = refl
unescape-escape (b ∷ bs) = unescape-escape-of b bs (b == 44) (b == 61) refl refl (unescape-escape bs)

-- A text of a name.

-- what a part of it stands for
pub record Stands (xs : List ℕ) : Type 0 where
  pub plain : List ℕ
  pub away : (ys : List ℕ) → unescaped (xs ++ ys) ≡ plain ++ unescaped ys
  pub back : (ys : List ℕ) → escaped (plain ++ ys) ≡ xs ++ escaped ys

away-plain : (xs : List ℕ) → list_all is_plain xs ≡ true → (ys : List ℕ) → unescaped (xs ++ ys) ≡ xs ++ unescaped ys
away-plain [] h ys = refl
away-plain (x ∷ xs) h ys =
    let two = each (is_plain x) (list_all is_plain xs) h in
    let tests = each (not (x == 44)) (not (x == 61)) two.0 in
    unescape-plain x (xs ++ ys) (not-so (x == 61) tests.1) ∙ ap (λ (l : List ℕ). x ∷ l) (away-plain xs two.1 ys)

back-plain : (xs : List ℕ) → list_all is_plain xs ≡ true → (ys : List ℕ) → escaped (xs ++ ys) ≡ xs ++ escaped ys
back-plain [] h ys = refl
back-plain (x ∷ xs) h ys =
    let two = each (is_plain x) (list_all is_plain xs) h in
    let tests = each (not (x == 44)) (not (x == 61)) two.0 in
    escape-plain x (xs ++ ys) (not-so (x == 44) tests.0) (not-so (x == 61) tests.1) ∙ ap (λ (l : List ℕ). x ∷ l) (back-plain xs two.1 ys)

plain-stands : (xs : List ℕ) → list_all is_plain xs ≡ true → Stands xs
plain-stands xs h = record { plain = xs; away = away-plain xs h; back = back-plain xs h }

comma-stands : Stands (61 ∷ 50 ∷ 67 ∷ [])
comma-stands = record { plain = 44 ∷ []; away = λ ys. refl; back = λ ys. refl }

equals-stands : Stands (61 ∷ 51 ∷ 68 ∷ [])
equals-stands = record { plain = 61 ∷ []; away = λ ys. refl; back = λ ys. refl }

three-of : (b c d : ℕ) (xs : List ℕ) → IsText (word (b ∷ c ∷ d ∷ []) empty) xs → xs ≡ b ∷ c ∷ d ∷ []
unfolding IsText
three-of b c d xs (us, ys, k, (vs, zs, l, (ws, e, m, n, f), g), h) =
    h ∙ (ap (λ (i : List ℕ). i ++ ys) (byte-is b us k) ∙ ap (λ (i : List ℕ). b ∷ i)
    (g ∙ (ap (λ (i : List ℕ). i ++ zs) (byte-is c vs l) ∙ ap (λ (i : List ℕ). c ∷ i)
    (f ∙ (ap (λ (i : List ℕ). i ++ e) (byte-is d ws m) ∙ ap (λ (i : List ℕ). d ∷ i) n)))))

char-stands : (xs : List ℕ) → IsText name_char xs → Stands xs
unfolding IsText
char-stands xs (inl m) = plain-stands xs (passes-text is_plain value_safe_char xs refl m)
char-stands xs (inr (inl m)) = subst Stands (sym (three-of 61 50 67 xs m)) comma-stands
char-stands xs (inr (inr m)) = subst Stands (sym (three-of 61 51 68 xs m)) equals-stands

-- a part, and then a name that comes back
back-again : (t xs ys : List ℕ) → Stands xs → escaped (unescaped ys) ≡ ys → t ≡ xs ++ ys → escaped (unescaped t) ≡ t
back-again t xs ys h e f =
    ap (λ (l : List ℕ). escaped (unescaped l)) f ∙ (ap escaped (h.away ys) ∙ (h.back (unescaped ys) ∙ (ap (λ (l : List ℕ). xs ++ l) e ∙ sym f)))

times-back : (n : ℕ) (t : List ℕ) → Times (IsText name_char) n t → escaped (unescaped t) ≡ t
times-back zero t e = ap (λ (l : List ℕ). escaped (unescaped l)) e ∙ sym e
times-back (suc n) t (c, xs, ys, m, k, e) = back-again t (c ∷ xs) ys (char-stands (c ∷ xs) m) (times-back n ys k) e

pub escape-unescape : (t : List ℕ) → IsText saslname t → escaped (unescaped t) ≡ t
unfolding IsText
escape-unescape t (xs, ys, m, (n, k), e) = back-again t xs ys (char-stands xs m) (times-back n ys k) e
