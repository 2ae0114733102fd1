-- Bytes that are one character from 128 on.
use Rattle.std.proofs.Common.{◌≡◌, ℕ, ◌+◌, ◌-◌, ◌*◌, ◌/◌, ◌%◌, ◌<◌, ◌≤◌, inl, inr, List, [], ◌∷◌, append-nil, refl, ap, ◌∙◌}
use Rattle.std.proofs.Common.{true, ◌&&◌, nat_le, arith, encode_utf8}
use Rattle.std.proofs.lemmas.Bool.{and_from, and_parts, cases_lt}
use Rattle.std.proofs.lemmas.Bool.Decides.{nat_tests}
use Rattle.stream_lex.specs.grammar.Classes.{characters}
use Rattle.stream_lex.specs.machine.Characters.{is_between}
use Rattle.stream_lex.proofs.Spans.{encode2, encode3, encode4, between-parts}
use Rattle.stream_frames.specs.Runs.{Spells, is_wide}

-- The class.

wide-low : (n : ℕ) → 128 ≤ n → n < 55296 → is_wide n ≡ true
unfolding characters
wide-low n h k = grind (arith, nat_tests, h, k)

wide-high : (n : ℕ) → 57344 ≤ n → n < 65534 → is_wide n ≡ true
unfolding characters
wide-high n h k = grind (arith, nat_tests, h, k)

wide-far : (n : ℕ) → 65536 ≤ n → n < 1114112 → is_wide n ≡ true
unfolding characters
wide-far n h k = grind (arith, nat_tests, h, k)

one-spells : (n : ℕ) (xs : List ℕ) → is_wide n ≡ true → encode_utf8 n ≡ xs → Spells is_wide xs
one-spells n xs h e = record { text = n ∷ []; plain = and_from _ _ h refl; bytes = append-nil (encode_utf8 n) ∙ e }

-- Two bytes.

two-of : (a b n : ℕ) → 194 ≤ a → a ≤ 223 → 128 ≤ b → b ≤ 191 → n ≡ 64 * (a - 192) + (b - 128) → Spells is_wide (a ∷ b ∷ [])
two-of a b n a1 a2 b1 b2 e =
    let ea : 192 + n / 64 ≡ a = omega arith in
    let eb : 128 + n % 64 ≡ b = omega arith in
    one-spells n (a ∷ b ∷ []) (wide-low n (omega arith) (omega arith))
    (encode2 n (omega arith) (omega arith) ∙ (ap (λ (x : ℕ). x ∷ (128 + n % 64) ∷ []) ea ∙ ap (λ (x : ℕ). a ∷ x ∷ []) eb))

pub two_spell : (a b : ℕ) → ((nat_le 194 a && nat_le a 223) && (nat_le 128 b && nat_le b 191)) ≡ true → Spells is_wide (a ∷ b ∷ [])
two_spell a b h =
    let p = and_parts (is_between 194 223 a) (is_between 128 191 b) h in
    let (a1, a2) = between-parts 194 223 a p.0 in
    let (b1, b2) = between-parts 128 191 b p.1 in two-of a b (64 * (a - 192) + (b - 128)) a1 a2 b1 b2 refl

-- Three bytes: no overlong form, no surrogate, and neither U+FFFE nor U+FFFF.

pub record AreThree (a b c : ℕ) : Type 0 where
  pub first_low : 224 ≤ a
  pub first_high : a ≤ 239
  pub second_low : 128 ≤ b
  pub second_high : b ≤ 191
  pub third_low : 128 ≤ c
  pub third_high : c ≤ 191
  pub long : a ≡ 224 → 160 ≤ b
  pub scalar : a ≡ 237 → b ≤ 159
  pub allowed : a ≡ 239 → b ≡ 191 → c ≤ 189

three-long : (a b c n : ℕ) → AreThree a b c → n ≡ 4096 * (a - 224) + 64 * (b - 128) + (c - 128) → 2048 ≤ n
three-long a b c n h e =
    let a1 = h.first_low in
    let b1 = h.second_low in elim (cases_lt 224 a) [ inl k ↦ omega arith | inr k ↦ let is : a ≡ 224 = omega arith in let f = h.long is in omega arith ]

three-wide : (a b c n : ℕ) → AreThree a b c → n ≡ 4096 * (a - 224) + 64 * (b - 128) + (c - 128) → 2048 ≤ n → is_wide n ≡ true
three-wide a b c n h e low =
    let a1 = h.first_low in
    let a2 = h.first_high in
    let b1 = h.second_low in
    let b2 = h.second_high in
    let c1 = h.third_low in
    let c2 = h.third_high in
    elim (cases_lt n 55296) [
      | inl k ↦ wide-low n (omega arith) k
      | inr k ↦ elim (cases_lt a 238) [
        | inl j ↦ let is : a ≡ 237 = omega arith in let s = h.scalar is in absurd (omega arith)
        | inr j ↦ elim (cases_lt n 65534) [
          | inl m ↦ wide-high n (omega arith) m
          | inr m ↦ let is : a ≡ 239 = omega arith in let also : b ≡ 191 = omega arith in let l = h.allowed is also in absurd (omega arith)
        ]
      ]
    ]

same-three : (x y z a b c : ℕ) → x ≡ a → y ≡ b → z ≡ c → x ∷ y ∷ z ∷ [] ≡ a ∷ b ∷ c ∷ []
same-three x y z a b c e f g = ap (λ (n : ℕ). n ∷ y ∷ z ∷ []) e ∙ (ap (λ (n : ℕ). a ∷ n ∷ z ∷ []) f ∙ ap (λ (n : ℕ). a ∷ b ∷ n ∷ []) g)

three-of : (a b c n : ℕ) → AreThree a b c → n ≡ 4096 * (a - 224) + 64 * (b - 128) + (c - 128) → Spells is_wide (a ∷ b ∷ c ∷ [])
three-of a b c n h e =
    let a1 = h.first_low in
    let a2 = h.first_high in
    let b1 = h.second_low in
    let b2 = h.second_high in
    let c1 = h.third_low in
    let c2 = h.third_high in
    let low = three-long a b c n h e in
    let ea : 224 + n / 4096 ≡ a = omega arith in
    let eb : 128 + (n / 64) % 64 ≡ b = omega arith in
    let ec : 128 + n % 64 ≡ c = omega arith in
    one-spells n (a ∷ b ∷ c ∷ []) (three-wide a b c n h e low) (encode3 n low (omega arith) ∙ same-three _ _ _ a b c ea eb ec)

pub three_spell : (a b c : ℕ) → AreThree a b c → Spells is_wide (a ∷ b ∷ c ∷ [])
three_spell a b c h = three-of a b c (4096 * (a - 224) + 64 * (b - 128) + (c - 128)) h refl

-- Four bytes: no overlong form, and none past U+10FFFF.

pub record AreFour (a b c d : ℕ) : Type 0 where
  pub first_low : 240 ≤ a
  pub first_high : a ≤ 244
  pub second_low : 128 ≤ b
  pub second_high : b ≤ 191
  pub third_low : 128 ≤ c
  pub third_high : c ≤ 191
  pub fourth_low : 128 ≤ d
  pub fourth_high : d ≤ 191
  pub long : a ≡ 240 → 144 ≤ b
  pub scalar : a ≡ 244 → b ≤ 143

four-long : (a b c d n : ℕ) → AreFour a b c d → n ≡ 262144 * (a - 240) + 4096 * (b - 128) + 64 * (c - 128) + (d - 128) → 65536 ≤ n
four-long a b c d n h e =
    let a1 = h.first_low in
    let b1 = h.second_low in elim (cases_lt 240 a) [ inl k ↦ omega arith | inr k ↦ let is : a ≡ 240 = omega arith in let f = h.long is in omega arith ]

four-short : (a b c d n : ℕ) → AreFour a b c d → n ≡ 262144 * (a - 240) + 4096 * (b - 128) + 64 * (c - 128) + (d - 128) → n < 1114112
four-short a b c d n h e =
    let a2 = h.first_high in
    let b2 = h.second_high in
    let c2 = h.third_high in
    let d2 = h.fourth_high in elim (cases_lt a 244) [ inl k ↦ omega arith | inr k ↦ let is : a ≡ 244 = omega arith in let l = h.scalar is in omega arith ]

same-four : (w x y z a b c d : ℕ) → w ≡ a → x ≡ b → y ≡ c → z ≡ d → w ∷ x ∷ y ∷ z ∷ [] ≡ a ∷ b ∷ c ∷ d ∷ []
same-four w x y z a b c d e f g h = ap (λ (n : ℕ). n ∷ x ∷ y ∷ z ∷ []) e ∙ ap (λ (l : List ℕ). a ∷ l) (same-three x y z b c d f g h)

four-of : (a b c d n : ℕ) → AreFour a b c d → n ≡ 262144 * (a - 240) + 4096 * (b - 128) + 64 * (c - 128) + (d - 128) → Spells is_wide (a ∷ b ∷ c ∷ d ∷ [])
four-of a b c d n h e =
    let a1 = h.first_low in
    let a2 = h.first_high in
    let b1 = h.second_low in
    let b2 = h.second_high in
    let c1 = h.third_low in
    let c2 = h.third_high in
    let d1 = h.fourth_low in
    let d2 = h.fourth_high in
    let low = four-long a b c d n h e in
    let ea : 240 + n / 262144 ≡ a = omega arith in
    let eb : 128 + (n / 4096) % 64 ≡ b = omega arith in
    let ec : 128 + (n / 64) % 64 ≡ c = omega arith in
    let ed : 128 + n % 64 ≡ d = omega arith in
    one-spells n (a ∷ b ∷ c ∷ d ∷ []) (wide-far n low (four-short a b c d n h e)) (encode4 n low ∙ same-four _ _ _ _ a b c d ea eb ec ed)

pub four_spell : (a b c d : ℕ) → AreFour a b c d → Spells is_wide (a ∷ b ∷ c ∷ d ∷ [])
four_spell a b c d h = four-of a b c d (262144 * (a - 240) + 4096 * (b - 128) + 64 * (c - 128) + (d - 128)) h refl
