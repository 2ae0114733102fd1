-- What `refused_at` finds, and that it finds nothing where the part is fit.
use Rattle.std.proofs.Common.{◌≡◌, ℕ, zero, suc, ◌+◌, ◌≤◌, Bool, true, false, cond, not, ◌&&◌, ◌==◌, List, [], ◌∷◌, ◌++◌, length, take, chars}
use Rattle.std.proofs.Common.{encode_utf8_all, Some, None, IsUtf8, refl, ap, subst, ◌∙◌, arith, length-append, length-take, eqb-true}
use Rattle.std.proofs.Math.Seq.{take-length}
use Rattle.std.proofs.lemmas.Bool.{cond-true, cond-false, and_parts, and_from, eq-eqb}
use Rattle.std.proofs.lemmas.Str.{IsUtf8-nil, IsUtf8-from_is_utf8, is_utf8-from_IsUtf8, utf8_valid_len_le, utf8_valid_len-IsUtf8}
use Rattle.std.proofs.lemmas.Str.{encodes-chars, chars-nil, chars_past_char, length-encode, len_utf8_bounds}
use Rattle.std.specs.Char.{encode_utf8, len_utf8}
use Rattle.std.specs.List.{list_all}
use Rattle.std.specs.Str.{is_utf8}
use Rattle.std.specs.Str.Lossy.{valid_len_up_to, utf8_valid_len}
use Rattle.jid_core.specs.declared.fault.Which.{Which}
use Rattle.jid_core.specs.Preparation.{is_refused, fit_len, front_chars, unless_all, refused_at, is_fit}

module _ (p : ℕ → Bool) where
  fit_len-le : (cs : List ℕ) → fit_len p cs ≤ length (encode_utf8_all cs)
  fit_len-le [] = omega arith
  fit_len-le (c ∷ cs) = here (p c) (fit_len-le cs)
    where
      here : (b : Bool) → fit_len p cs ≤ length (encode_utf8_all cs) → cond b 0 (len_utf8 c + fit_len p cs) ≤ length (encode_utf8_all (c ∷ cs))
      here true h = omega arith
      here false h = omega (arith, length-append (encode_utf8 c) (encode_utf8_all cs), length-encode c)

  passing : (cs : List ℕ) → fit_len p cs ≡ length (encode_utf8_all cs) → list_all (λ c. not (p c)) cs ≡ true
  passing [] h = refl
  passing (c ∷ cs) h = here (passing cs) (p c) h
    where
      here : (fit_len p cs ≡ length (encode_utf8_all cs) → list_all (λ x. not (p x)) cs ≡ true) → (b : Bool)
          → cond b 0 (len_utf8 c + fit_len p cs) ≡ length (encode_utf8_all (c ∷ cs)) → (not b && list_all (λ x. not (p x)) cs) ≡ true
      here rest true h = absurd (omega (arith, length-append (encode_utf8 c) (encode_utf8_all cs), length-encode c, (len_utf8_bounds c).0))
      here rest false h = rest (omega (arith, length-append (encode_utf8 c) (encode_utf8_all cs), length-encode c))

  fit_len-passing : (cs : List ℕ) → list_all (λ c. not (p c)) cs ≡ true → fit_len p cs ≡ length (encode_utf8_all cs)
  fit_len-passing [] h = refl
  fit_len-passing (c ∷ cs) h = here (fit_len-passing cs) (p c) h
    where
      here : (list_all (λ x. not (p x)) cs ≡ true → fit_len p cs ≡ length (encode_utf8_all cs)) → (b : Bool) → (not b && list_all (λ x. not (p x)) cs) ≡ true
          → cond b 0 (len_utf8 c + fit_len p cs) ≡ length (encode_utf8_all (c ∷ cs))
      here rest true h = absurd (let z : false ≡ true = h in cc)
      here rest false h = omega (arith, rest h, length-append (encode_utf8 c) (encode_utf8_all cs), length-encode c)

front-up_to : (bs : List ℕ) (n : ℕ) → is_utf8 (take (valid_len_up_to bs n) bs) ≡ true
front-up_to bs zero = is_utf8-from_IsUtf8 [] IsUtf8-nil
front-up_to bs (suc n) = here (front-up_to bs n) (is_utf8 (take (suc n) bs)) refl
  where
    here : is_utf8 (take (valid_len_up_to bs n) bs) ≡ true → (b : Bool) → is_utf8 (take (suc n) bs) ≡ b
        → is_utf8 (take (cond b (suc n) (valid_len_up_to bs n)) bs) ≡ true
    here rest true e = e
    here rest false e = rest

-- the longest front that is UTF-8 is UTF-8
pub IsUtf8-front : (bs : List ℕ) → IsUtf8 (take (utf8_valid_len bs) bs)
unfolding utf8_valid_len
IsUtf8-front bs = IsUtf8-from_is_utf8 _ (front-up_to bs (length bs))

length-front : (bs : List ℕ) → length (encode_utf8_all (front_chars bs)) ≡ utf8_valid_len bs
length-front bs = ap length (encodes-chars _ (IsUtf8-front bs)) ∙ omega (arith, length-take (utf8_valid_len bs) bs, utf8_valid_len_le bs)

place-none : (n : ℕ) (bs : List ℕ) → unless_all n bs ≡ None → n ≡ length bs
place-none n bs h = here (n == length bs) refl h
  where
    here : (b : Bool) → (n == length bs) ≡ b → cond b None (Some n) ≡ None → n ≡ length bs
    here true e h = eqb-true n (length bs) e
    here false e h = absurd (cc)

-- where all is UTF-8, the front is the whole
pub whole-front : (bs : List ℕ) → utf8_valid_len bs ≡ length bs → take (utf8_valid_len bs) bs ≡ bs
whole-front bs e = ap (λ n. take n bs) e ∙ take-length bs

pub is_fit-from_none : (which : Which) (bs : List ℕ) → refused_at which bs ≡ None → is_fit which bs ≡ true
is_fit-from_none which bs h =
    let all : fit_len (is_refused which) (front_chars bs) ≡ length bs = place-none _ bs h in
    let less = fit_len-le (is_refused which) (front_chars bs) in
    let len : utf8_valid_len bs ≡ length bs = omega (arith, utf8_valid_len_le bs, length-front bs) in
    let same = whole-front bs len in
    and_from _ _ (is_utf8-from_IsUtf8 bs (subst IsUtf8 same (IsUtf8-front bs)))
    (subst (λ xs. list_all (λ c. not (is_refused which c)) (chars xs) ≡ true) same
    (passing (is_refused which) (front_chars bs) (omega (arith, length-front bs))))

pub IsUtf8-is_fit : (which : Which) (bs : List ℕ) → is_fit which bs ≡ true → IsUtf8 bs
IsUtf8-is_fit which bs h = IsUtf8-from_is_utf8 bs (and_parts (is_utf8 bs) _ h).0

pub refused_at-fit : (which : Which) (bs : List ℕ) → is_fit which bs ≡ true → refused_at which bs ≡ None
refused_at-fit which bs h =
    let text = IsUtf8-is_fit which bs h in
    let same : front_chars bs ≡ chars bs = ap chars (whole-front bs (utf8_valid_len-IsUtf8 bs text)) in
    let all : fit_len (is_refused which) (front_chars bs) ≡ length bs =
    ap (fit_len (is_refused which)) same ∙ fit_len-passing (is_refused which) (chars bs) (and_parts (is_utf8 bs) _ h).1 ∙ ap length (encodes-chars bs text) in
    cond-true _ None _ (eq-eqb _ _ all)

-- ---- one character after the other

module _ (p : ℕ → Bool) (bs rest : List ℕ) (c : ℕ) (text : IsUtf8 bs) (e : bs ≡ encode_utf8 c ++ rest) where
  pub fit_len-refused : p c ≡ true → fit_len p (chars bs) ≡ 0
  fit_len-refused h = ap (fit_len p) (chars_past_char bs rest c text e) ∙ cond-true (p c) 0 _ h

  pub fit_len-more : p c ≡ false → fit_len p (chars bs) ≡ len_utf8 c + fit_len p (chars rest)
  fit_len-more h = ap (fit_len p) (chars_past_char bs rest c text e) ∙ cond-false (p c) 0 _ h

pub fit_len-end : (p : ℕ → Bool) (bs : List ℕ) → length bs ≡ 0 → fit_len p (chars bs) ≡ 0
fit_len-end p [] h = ap (fit_len p) chars-nil
fit_len-end p (b ∷ bs) h = absurd (omega arith)

-- where the front's characters are all, the front is all
pub front-is_all : (which : Which) (bs : List ℕ) → fit_len (is_refused which) (front_chars bs) ≡ length bs → take (utf8_valid_len bs) bs ≡ bs
front-is_all which bs all = whole-front bs (omega (arith, fit_len-le (is_refused which) (front_chars bs), utf8_valid_len_le bs, length-front bs))
