-- The characters whose bytes begin so are those that `reach` says.
use Rattle.std.proofs.Common.{◌≡◌, ℕ, ◌+◌, ◌-◌, ◌*◌, ◌/◌, ◌%◌, ◌<◌, ◌≤◌, inl, inr, max, min, List, [], ◌∷◌, ◌++◌, refl}
use Rattle.std.proofs.Common.{sym, ap, ◌∙◌, subst, Bool, true, false, not, nat_lt, nat_le, arith}
use Rattle.std.proofs.lemmas.Bool.{and_parts, and_from, cases_lt, cond-true, cond-false, cond_both, le-leb, leb-true, lt-ltb, ltb-true, ltb-false, le-ltb}
use Rattle.std.proofs.lemmas.Bool.Decides.{nat_tests}
use Rattle.std.specs.Prelude.{encode_utf8}
use lib.Utf8.{encode}
use Rattle.stream_lex.specs.declared.characters.Pending.{Pending}
use Rattle.stream_lex.specs.declared.characters.Pending.TheVariants as pending
use Rattle.stream_lex.specs.declared.characters.Reach.{Reach}
use Rattle.stream_lex.specs.declared.characters.Reach.TheVariants.{Whole, Begun, Broken}
use Rattle.stream_lex.specs.machine.Characters.{bytes_of, is_between, is_continuation, is_second, is_begun, reach_first}
use Rattle.stream_lex.specs.machine.Characters.{reach_second, reach_third, reach_fourth, reach}
use Rattle.stream_lex.proofs.Lists.{same_head, same_tail, false-true}

-- the character is one of those that a reach says
abbrev pub Within : Reach → ℕ → Type 0
Within (Whole n) c = c ≡ n
Within (Begun p low high) c = (low ≤ c) × (c ≤ high)
Within Broken c = ⊥

-- what is left of a character after its bytes so far
abbrev pub IsRest : Reach → List ℕ → Type 0
IsRest (Whole n) rest = rest ≡ []
IsRest (Begun p low high) rest = (b : ℕ) × (bs : List ℕ) × (rest ≡ b ∷ bs)
IsRest Broken rest = ⊥

-- Encodings by their length.

pub encode1 : (c : ℕ) → c < 128 → encode_utf8 c ≡ c ∷ []
unfolding encode
encode1 c h = cond-true _ _ _ (lt-ltb c 128 h)

pub encode2 : (c : ℕ) → 128 ≤ c → c < 2048 → encode_utf8 c ≡ (192 + c / 64) ∷ (128 + c % 64) ∷ []
unfolding encode
encode2 c h k = cond-false _ _ _ (le-ltb c 128 h) ∙ cond-true _ _ _ (lt-ltb c 2048 k)

pub encode3 : (c : ℕ) → 2048 ≤ c → c < 65536 → encode_utf8 c ≡ (224 + c / 4096) ∷ (128 + (c / 64) % 64) ∷ (128 + c % 64) ∷ []
unfolding encode
encode3 c h k = cond-false _ _ _ (le-ltb c 128 (omega arith)) ∙ (cond-false _ _ _ (le-ltb c 2048 h) ∙ cond-true _ _ _ (lt-ltb c 65536 k))

pub encode4 : (c : ℕ) → 65536 ≤ c → encode_utf8 c ≡ (240 + c / 262144) ∷ (128 + (c / 4096) % 64) ∷ (128 + (c / 64) % 64) ∷ (128 + c % 64) ∷ []
unfolding encode
encode4 c h = cond-false _ _ _ (le-ltb c 128 (omega arith)) ∙ (cond-false _ _ _ (le-ltb c 2048 (omega arith)) ∙ cond-false _ _ _ (le-ltb c 65536 h))

-- how long an encoding is, and its bytes
pub data Width (c : ℕ) : Type 0 where
  width1 : c < 128 → encode_utf8 c ≡ c ∷ [] → Width c
  width2 : 128 ≤ c → c < 2048 → encode_utf8 c ≡ (192 + c / 64) ∷ (128 + c % 64) ∷ [] → Width c
  width3 : 2048 ≤ c → c < 65536 → encode_utf8 c ≡ (224 + c / 4096) ∷ (128 + (c / 64) % 64) ∷ (128 + c % 64) ∷ [] → Width c
  width4 : 65536 ≤ c → encode_utf8 c ≡ (240 + c / 262144) ∷ (128 + (c / 4096) % 64) ∷ (128 + (c / 64) % 64) ∷ (128 + c % 64) ∷ [] → Width c

pub width_of : (c : ℕ) → Width c
width_of c = elim (cases_lt c 128) [
  | inl h ↦ width1 h (encode1 c h)
  | inr h ↦ elim (cases_lt c 2048) [
    | inl k ↦ width2 h k (encode2 c h k)
    | inr k ↦ elim (cases_lt c 65536) [
      | inl j ↦ width3 k j (encode3 c k j)
      | inr j ↦ width4 j (encode4 c j)
    ]
  ]
]

-- Tests.

pub between-true : (low high b : ℕ) → low ≤ b → b ≤ high → is_between low high b ≡ true
between-true low high b h k = and_from _ _ (le-leb low b h) (le-leb b high k)

pub between-parts : (low high b : ℕ) → is_between low high b ≡ true → (low ≤ b) × (b ≤ high)
between-parts low high b t = let p = and_parts (nat_le low b) (nat_le b high) t in (leb-true low b p.0, leb-true b high p.1)

between-above : (low high b : ℕ) → high < b → is_between low high b ≡ false
between-above low high b h = grind (arith, nat_tests)

-- what is said of the second byte
abbrev pub IsSecond : ℕ → ℕ → Type 0
IsSecond a b = (128 ≤ b) × (b ≤ 191) × (a ≡ 224 → 160 ≤ b) × (a ≡ 240 → 144 ≤ b) × (a ≡ 244 → b ≤ 143)

second-true : (a b : ℕ) → IsSecond a b → is_second a b ≡ true
second-true a b h = grind (arith, nat_tests, h.0, h.1, h.2, h.3, h.4)

pub second-parts : (a b : ℕ) → is_second a b ≡ true → IsSecond a b
second-parts a b h = (
  grind (arith, nat_tests, h),
  grind (arith, nat_tests, h),
  λ e. grind (arith, nat_tests, h, e),
  λ e. grind (arith, nat_tests, h, e),
  λ e.
      grind (arith, nat_tests, h, e),
)

-- What each reach is, by its first byte.

pub reach1-two : (a : ℕ) → 194 ≤ a → a ≤ 223 → reach_first a ≡ Begun (pending.One a) (64 * (a - 192)) (64 * (a - 192) + 63)
unfolding reach_first
reach1-two a h k = cond-true _ _ _ (between-true 194 223 a h k)

pub reach1-three : (a : ℕ) → 224 ≤ a → a ≤ 239 → reach_first a ≡ Begun (pending.One a) (max (4096 * (a - 224)) 2048) (4096 * (a - 224) + 4095)
unfolding reach_first
reach1-three a h k = cond-false _ _ _ (between-above 194 223 a (omega arith)) ∙ cond-true _ _ _ (between-true 224 239 a h k)

pub reach1-four : (a : ℕ) → 240 ≤ a → a ≤ 244
    → reach_first a ≡ Begun (pending.One a) (max (262144 * (a - 240)) 65536) (min (262144 * (a - 240) + 262143) 1114111)
unfolding reach_first
reach1-four a h k = cond-false _ _ _ (between-above 194 223 a (omega arith))
    ∙ (cond-false _ _ _ (between-above 224 239 a (omega arith)) ∙ cond-true _ _ _ (between-true 240 244 a h k))

not-true : (t : Bool) → t ≡ true → not t ≡ false
not-true true e = refl
not-true false e = false-true e

reach2-two : (a b : ℕ) → a < 224 → IsSecond a b → reach_second a b ≡ Whole (64 * (a - 192) + (b - 128))
unfolding reach_second
reach2-two a b h s = cond-false _ _ _ (not-true _ (second-true a b s)) ∙ cond-true _ _ _ (lt-ltb a 224 h)

pub reach2-three : (a b : ℕ) → 224 ≤ a → a < 240 → IsSecond a b
    → reach_second a b ≡ Begun (pending.Two a b) (4096 * (a - 224) + 64 * (b - 128)) (4096 * (a - 224) + 64 * (b - 128) + 63)
unfolding reach_second
reach2-three a b h k s = cond-false _ _ _ (not-true _ (second-true a b s)) ∙ (cond-false _ _ _ (le-ltb a 224 h) ∙ cond-true _ _ _ (lt-ltb a 240 k))

pub reach2-four : (a b : ℕ) → 240 ≤ a → IsSecond a b
    → reach_second a b ≡ Begun (pending.Two a b) (262144 * (a - 240) + 4096 * (b - 128)) (262144 * (a - 240) + 4096 * (b - 128) + 4095)
unfolding reach_second
reach2-four a b h s = cond-false _ _ _ (not-true _ (second-true a b s)) ∙ (cond-false _ _ _ (le-ltb a 224 (omega arith)) ∙ cond-false _ _ _ (le-ltb a 240 h))

reach3-three : (a b c : ℕ) → a < 240 → 128 ≤ c → c ≤ 191 → reach_third a b c ≡ Whole (4096 * (a - 224) + 64 * (b - 128) + (c - 128))
unfolding reach_third
reach3-three a b c h k j = cond-false _ _ _ (not-true _ (between-true 128 191 c k j)) ∙ cond-true _ _ _ (lt-ltb a 240 h)

pub reach3-four : (a b c : ℕ) → 240 ≤ a → 128 ≤ c → c ≤ 191 → reach_third a b c
    ≡ Begun (pending.Three a b c) (262144 * (a - 240) + 4096 * (b - 128) + 64 * (c - 128)) (262144 * (a - 240) + 4096 * (b - 128) + 64 * (c - 128) + 63)
unfolding reach_third
reach3-four a b c h k j = cond-false _ _ _ (not-true _ (between-true 128 191 c k j)) ∙ cond-false _ _ _ (le-ltb a 240 h)

reach4 : (a b c d : ℕ) → 128 ≤ d → d ≤ 191 → reach_fourth a b c d ≡ Whole (262144 * (a - 240) + 4096 * (b - 128) + 64 * (c - 128) + (d - 128))
unfolding reach_fourth
reach4 a b c d h k = cond-true _ _ _ (between-true 128 191 d h k)

-- A character whose bytes begin so is within the reach.

in1 : (n a : ℕ) (xs ys zs : List ℕ) → n < 1114112 → encode_utf8 n ≡ xs → xs ++ ys ≡ a ∷ zs → 128 ≤ a → Width n → Within (reach_first a) n
in1 n a xs ys zs top ex e h (width1 k w) = let ea : n ≡ a = same_head n a ys zs (ap (λ (l : List ℕ). l ++ ys) (sym w ∙ ex) ∙ e) in absurd (omega arith)
in1 n a xs ys zs top ex e h (width2 k j w) =
    let ea : 192 + n / 64 ≡ a = same_head _ a _ zs (ap (λ (l : List ℕ). l ++ ys) (sym w ∙ ex) ∙ e) in
    subst (λ (r : Reach). Within r n) (sym (reach1-two a (omega arith) (omega arith))) (omega arith, omega arith)
in1 n a xs ys zs top ex e h (width3 k j w) =
    let ea : 224 + n / 4096 ≡ a = same_head _ a _ zs (ap (λ (l : List ℕ). l ++ ys) (sym w ∙ ex) ∙ e) in
    subst (λ (r : Reach). Within r n) (sym (reach1-three a (omega arith) (omega arith))) (omega arith, omega arith)
in1 n a xs ys zs top ex e h (width4 k w) =
    let ea : 240 + n / 262144 ≡ a = same_head _ a _ zs (ap (λ (l : List ℕ). l ++ ys) (sym w ∙ ex) ∙ e) in
    subst (λ (r : Reach). Within r n) (sym (reach1-four a (omega arith) (omega arith))) (omega arith, omega arith)

-- the first two bytes of an encoding
two_of : (x y a b : ℕ) (xs ys : List ℕ) → x ∷ y ∷ xs ≡ a ∷ b ∷ ys → (x ≡ a) × (y ≡ b) × (xs ≡ ys)
two_of x y a b xs ys e =
    let t = same_tail x a (y ∷ xs) (b ∷ ys) e in
    (same_head x a (y ∷ xs) (b ∷ ys) e, same_head y b xs ys t, same_tail y b xs ys t)

in2 : (n a b : ℕ) (ys zs : List ℕ) → n < 1114112 → encode_utf8 n ++ ys ≡ a ∷ b ∷ zs → 194 ≤ a → Width n → Within (reach_second a b) n
in2 n a b ys zs top e h (width1 k w) = let ea : n ≡ a = same_head n a ys (b ∷ zs) (ap (λ (l : List ℕ). l ++ ys) (sym w) ∙ e) in absurd (omega arith)
in2 n a b ys zs top e h (width2 k j w) =
    let (ea, eb, er) = two_of _ _ a b _ zs (ap (λ (l : List ℕ). l ++ ys) (sym w) ∙ e) in
    let is : n ≡ 64 * (a - 192) + (b - 128) = omega arith in
    subst (λ (r : Reach). Within r n)
    (sym (reach2-two a b (omega arith) (omega arith, omega arith, λ f. absurd (omega arith), λ f. absurd (omega arith), λ f. absurd (omega arith)))) is
in2 n a b ys zs top e h (width3 k j w) =
    let (ea, eb, er) = two_of _ _ a b _ _ (ap (λ (l : List ℕ). l ++ ys) (sym w) ∙ e) in
    subst (λ (r : Reach). Within r n)
    (sym (reach2-three a b (omega arith) (omega arith) (omega arith, omega arith, λ f. omega arith, λ f. absurd (omega arith), λ f. absurd (omega arith))))
    (omega arith, omega arith)
in2 n a b ys zs top e h (width4 k w) =
    let (ea, eb, er) = two_of _ _ a b _ _ (ap (λ (l : List ℕ). l ++ ys) (sym w) ∙ e) in
    subst (λ (r : Reach). Within r n)
    (sym (reach2-four a b (omega arith) (omega arith, omega arith, λ f. absurd (omega arith), λ f. omega arith, λ f. omega arith)))
    (omega arith, omega arith)

in3 : (n a b c : ℕ) (ys zs : List ℕ) → n < 1114112 → encode_utf8 n ++ ys ≡ a ∷ b ∷ c ∷ zs → 224 ≤ a → Width n → Within (reach_third a b c) n
in3 n a b c ys zs top e h (width1 k w) = let ea : n ≡ a = same_head n a ys (b ∷ c ∷ zs) (ap (λ (l : List ℕ). l ++ ys) (sym w) ∙ e) in absurd (omega arith)
in3 n a b c ys zs top e h (width2 k j w) =
    let (ea, eb, er) = two_of _ _ a b _ (c ∷ zs) (ap (λ (l : List ℕ). l ++ ys) (sym w) ∙ e) in absurd (omega arith)
in3 n a b c ys zs top e h (width3 k j w) =
    let (ea, eb, er) = two_of _ _ a b _ (c ∷ zs) (ap (λ (l : List ℕ). l ++ ys) (sym w) ∙ e) in
    let ec : 128 + n % 64 ≡ c = same_head _ c _ zs er in
    let is : n ≡ 4096 * (a - 224) + 64 * (b - 128) + (c - 128) = omega arith in
    subst (λ (r : Reach). Within r n) (sym (reach3-three a b c (omega arith) (omega arith) (omega arith))) is
in3 n a b c ys zs top e h (width4 k w) =
    let (ea, eb, er) = two_of _ _ a b _ (c ∷ zs) (ap (λ (l : List ℕ). l ++ ys) (sym w) ∙ e) in
    let ec : 128 + (n / 64) % 64 ≡ c = same_head _ c _ zs er in
    subst (λ (r : Reach). Within r n) (sym (reach3-four a b c (omega arith) (omega arith) (omega arith))) (omega arith, omega arith)

in4 : (n a b c d : ℕ) (ys zs : List ℕ) → encode_utf8 n ++ ys ≡ a ∷ b ∷ c ∷ d ∷ zs → 240 ≤ a → Width n → Within (reach_fourth a b c d) n
in4 n a b c d ys zs e h (width1 k w) = let ea : n ≡ a = same_head n a ys (b ∷ c ∷ d ∷ zs) (ap (λ (l : List ℕ). l ++ ys) (sym w) ∙ e) in absurd (omega arith)
in4 n a b c d ys zs e h (width2 k j w) =
    let (ea, eb, er) = two_of _ _ a b _ (c ∷ d ∷ zs) (ap (λ (l : List ℕ). l ++ ys) (sym w) ∙ e) in absurd (omega arith)
in4 n a b c d ys zs e h (width3 k j w) =
    let (ea, eb, er) = two_of _ _ a b _ (c ∷ d ∷ zs) (ap (λ (l : List ℕ). l ++ ys) (sym w) ∙ e) in absurd (omega arith)
in4 n a b c d ys zs e h (width4 k w) =
    let (ea, eb, er) = two_of _ _ a b _ (c ∷ d ∷ zs) (ap (λ (l : List ℕ). l ++ ys) (sym w) ∙ e) in
    let (ec, ed, es) = two_of _ _ c d _ zs er in
    let is : n ≡ 262144 * (a - 240) + 4096 * (b - 128) + 64 * (c - 128) + (d - 128) = omega arith in
    subst (λ (r : Reach). Within r n) (sym (reach4 a b c d (omega arith) (omega arith))) is

pub reach-within : (p : Pending) (b n : ℕ) (ys zs : List ℕ) → is_begun p ≡ true → (bytes_of p ≡ [] → 128 ≤ b) → n < 1114112
    → encode_utf8 n ++ ys ≡ bytes_of p ++ (b ∷ zs) → Within (reach p b) n
reach-within pending.Nothing b n ys zs t h top e = in1 n b (encode_utf8 n) ys zs top refl e (h refl) (width_of n)
reach-within (pending.One a) b n ys zs t h top e = in2 n a b ys zs top e (between-parts 194 244 a t).0 (width_of n)
reach-within (pending.Two a b1) b n ys zs t h top e = in3 n a b1 b ys zs top e (between-parts 224 244 a (and_parts (is_between 224 244 a) _ t).0).0 (width_of n)
reach-within (pending.Three a b1 b2) b n ys zs t h top e =
    in4 n a b1 b2 b ys zs e (between-parts 240 244 a (and_parts (is_between 240 244 a) _ t).0).0 (width_of n)

-- A character within the reach has bytes that begin so.

abbrev Starts : List ℕ → Reach → Type 0
Starts bs r = (n : ℕ) → Within r n → (rest : List ℕ) × (encode_utf8 n ≡ bs ++ rest) × IsRest r rest

of1 : (a : ℕ) → Starts (a ∷ []) (reach_first a)
unfolding reach_first
of1 a =
    cond_both (is_between 194 223 a) _ _ (Starts (a ∷ []))
    (λ t n w. let p = between-parts 194 223 a t in let ea : 192 + n / 64 ≡ a = omega arith in
    ((128 + n % 64) ∷ [], encode2 n (omega arith) (omega arith) ∙ ap (λ (x : ℕ). x ∷ (128 + n % 64) ∷ []) ea, (_, _, refl)))
    (λ f1. cond_both (is_between 224 239 a) _ _ (Starts (a ∷ []))
    (λ t n w. let p = between-parts 224 239 a t in let ea : 224 + n / 4096 ≡ a = omega arith in (
      (128 + (n / 64) % 64) ∷ (128 + n % 64) ∷ [],
      encode3 n (omega arith) (omega arith)
          ∙ ap (λ (x : ℕ). x ∷ (128 + (n / 64) % 64) ∷ (128 + n % 64) ∷ []) ea,
      (_, _, refl),
    ))
    (λ f2. cond_both (is_between 240 244 a) _ _ (Starts (a ∷ []))
    (λ t n w. let p = between-parts 240 244 a t in let ea : 240 + n / 262144 ≡ a = omega arith in (
      (128 + (n / 4096) % 64) ∷ (128 + (n / 64) % 64) ∷ (128 + n % 64) ∷ [],
      encode4 n (omega arith)
          ∙ ap (λ (x : ℕ). x ∷ (128 + (n / 4096) % 64) ∷ (128 + (n / 64) % 64) ∷ (128 + n % 64) ∷ []) ea,
      (_, _, refl),
    ))
    (λ f3 n w. absurd w)))

same-two : (x y a b : ℕ) (xs : List ℕ) → x ≡ a → y ≡ b → x ∷ y ∷ xs ≡ a ∷ b ∷ xs
same-two x y a b xs e f = ap (λ (m : ℕ). m ∷ y ∷ xs) e ∙ ap (λ (m : ℕ). a ∷ m ∷ xs) f

pub not-false : (t : Bool) → not t ≡ false → t ≡ true
not-false true e = refl
not-false false e = false-true (sym e)

-- no overlong form
second-low3 : (a b n : ℕ) → IsSecond a b → 224 ≤ a → 4096 * (a - 224) + 64 * (b - 128) ≤ n → 2048 ≤ n
second-low3 a b n s h k = elim (cases_lt 224 a) [ inl j ↦ omega arith | inr j ↦ let t = s.2 (omega arith) in omega arith ]

second-low4 : (a b n : ℕ) → IsSecond a b → 240 ≤ a → 262144 * (a - 240) + 4096 * (b - 128) ≤ n → 65536 ≤ n
second-low4 a b n s h k = elim (cases_lt 240 a) [ inl j ↦ omega arith | inr j ↦ let t = s.3 (omega arith) in omega arith ]

of2 : (a b : ℕ) → is_begun (pending.One a) ≡ true → Starts (a ∷ b ∷ []) (reach_second a b)
unfolding reach_second
of2 a b h =
    let q = between-parts 194 244 a h in
    cond_both (not (is_second a b)) _ _ (Starts (a ∷ b ∷ []))
    (λ t n w. absurd w)
    (λ f. let s = second-parts a b (not-false _ f) in
    cond_both (nat_lt a 224) _ _ (Starts (a ∷ b ∷ []))
    (λ t n w. let k = ltb-true a 224 t in let ea : 192 + n / 64 ≡ a = omega arith in let eb : 128 + n % 64 ≡ b = omega arith in
    ([], encode2 n (omega arith) (omega arith) ∙ same-two _ _ a b [] ea eb, refl))
    (λ f1. let k1 = ltb-false a 224 f1 in cond_both (nat_lt a 240) _ _ (Starts (a ∷ b ∷ []))
    (λ t n w. let k = ltb-true a 240 t in let low = second-low3 a b n s (omega arith) w.0 in let ea : 224 + n / 4096 ≡ a =
    omega arith in let eb : 128 + (n / 64) % 64 ≡ b = omega arith in
    ((128 + n % 64) ∷ [], encode3 n low (omega arith) ∙ same-two _ _ a b _ ea eb, (_, _, refl)))
    (λ f2 n w. let k2 = ltb-false a 240 f2 in let low = second-low4 a b n s (omega arith) w.0 in let ea : 240 + n / 262144 ≡ a =
    omega arith in let eb : 128 + (n / 4096) % 64 ≡ b = omega arith in
    ((128 + (n / 64) % 64) ∷ (128 + n % 64) ∷ [], encode4 n low ∙ same-two _ _ a b _ ea eb, (_, _, refl)))))

of3 : (a b c : ℕ) → is_begun (pending.Two a b) ≡ true → Starts (a ∷ b ∷ c ∷ []) (reach_third a b c)
unfolding reach_third
of3 a b c h =
    let hs = and_parts (is_between 224 244 a) (is_second a b) h in
    let q = between-parts 224 244 a hs.0 in
    let s = second-parts a b hs.1 in
    cond_both (not (is_continuation c)) _ _ (Starts (a ∷ b ∷ c ∷ []))
    (λ t n w. absurd w)
    (λ f. let j = between-parts 128 191 c (not-false _ f) in
    cond_both (nat_lt a 240) _ _ (Starts (a ∷ b ∷ c ∷ []))
    (λ t n w. let k = ltb-true a 240 t in let low = second-low3 a b n s (omega arith) (omega arith) in let ea : 224 + n / 4096 ≡ a =
    omega arith in let eb : 128 + (n / 64) % 64 ≡ b = omega arith in let ec : 128 + n % 64 ≡ c = omega arith in
    ([], encode3 n low (omega arith) ∙ (same-two _ _ a b _ ea eb ∙ ap (λ (m : ℕ). a ∷ b ∷ m ∷ []) ec), refl))
    (λ f2 n w. let k2 = ltb-false a 240 f2 in let low = second-low4 a b n s (omega arith) (omega arith) in let ea : 240 + n / 262144 ≡ a =
    omega arith in let eb : 128 + (n / 4096) % 64 ≡ b = omega arith in let ec : 128 + (n / 64) % 64 ≡ c = omega arith in
    ((128 + n % 64) ∷ [], encode4 n low ∙ (same-two _ _ a b _ ea eb ∙ ap (λ (m : ℕ). a ∷ b ∷ m ∷ (128 + n % 64) ∷ []) ec), (_, _, refl))))

of4 : (a b c d : ℕ) → is_begun (pending.Three a b c) ≡ true → Starts (a ∷ b ∷ c ∷ d ∷ []) (reach_fourth a b c d)
unfolding reach_fourth
of4 a b c d h =
    let hs = and_parts (is_between 240 244 a) _ h in
    let ht = and_parts (is_second a b) (is_continuation c) hs.1 in
    let q = between-parts 240 244 a hs.0 in
    let s = second-parts a b ht.0 in
    let j = between-parts 128 191 c ht.1 in
    cond_both (is_continuation d) _ _ (Starts (a ∷ b ∷ c ∷ d ∷ []))
    (λ t n w. let i = between-parts 128 191 d t in let low = second-low4 a b n s (omega arith) (omega arith) in let ea : 240 + n / 262144 ≡ a =
    omega arith in let eb : 128 + (n / 4096) % 64 ≡ b = omega arith in let ec : 128 + (n / 64) % 64 ≡ c = omega arith in let ed : 128 + n % 64 ≡ d =
    omega arith in
    ([], encode4 n low ∙ (same-two _ _ a b _ ea eb ∙ ap (λ (l : List ℕ). a ∷ b ∷ l) (same-two _ _ c d [] ec ed)), refl))
    (λ f n w. absurd w)

pub reach-starts : (p : Pending) (b n : ℕ) → is_begun p ≡ true → Within (reach p b) n
    → (rest : List ℕ) × (encode_utf8 n ≡ (bytes_of p ++ b ∷ []) ++ rest) × IsRest (reach p b) rest
reach-starts pending.Nothing b n h w = of1 b n w
reach-starts (pending.One a) b n h w = of2 a b h n w
reach-starts (pending.Two a b1) b n h w = of3 a b1 b h n w
reach-starts (pending.Three a b1 b2) b n h w = of4 a b1 b2 b h n w
