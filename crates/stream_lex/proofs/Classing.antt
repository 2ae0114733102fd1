-- Classes of characters, and the kinds of characters from 128 on.
use Rattle.std.proofs.Common.{◌≡◌, ℕ, ◌<◌, ◌≤◌, inl, inr, max, [], ◌∷◌, refl, sym, ap, ◌∙◌, Bool, true, false, cond, ◌&&◌, ◌||◌, nat_lt, nat_le, ◌==◌, arith}
use Rattle.std.proofs.lemmas.Bool.{and_parts, and_from, or_cases, or_left, or_right, cond_both, cond-true, cond-false, le-leb, leb-true, lt-ltb, le-ltb}
use Rattle.std.proofs.lemmas.Bool.Decides.{nat_tests}
use Rattle.std.specs.Char.{IsScalar}
use lib.Utf8.{scalar_cases}
use Rattle.stream_lex.specs.declared.characters.Allowed.{Allowed}
use Rattle.stream_lex.specs.declared.characters.Allowed.TheVariants as allowed
use Rattle.stream_lex.specs.declared.kinds.Kind.{Kind}
use Rattle.stream_lex.specs.declared.kinds.Kind.TheVariants as kinds
use Rattle.stream_lex.specs.declared.stages.Stage.{Stage}
use Rattle.stream_lex.specs.grammar.Classes.{CharacterClass, has_between, characters, name_starts, name_characters, scalar_values, class_of}
use Rattle.stream_lex.specs.grammar.Kinds.{ascii_kind, wide_kind, kind, is_wide}
use Rattle.stream_lex.specs.machine.Machine.{ascii, allowed_at, takes_start, takes_further, takes_other, passed, next}
use Rattle.stream_lex.proofs.Lists.{false-true}

two : (a b c d : ℕ) → (nat_le a b && nat_le c d) ≡ true → (a ≤ b) × (c ≤ d)
two a b c d t = let p = and_parts (nat_le a b) (nat_le c d) t in (leb-true a b p.0, leb-true c d p.1)

-- A class meets the numbers from low to high where it has one of them.

pub has_between-of : (C : CharacterClass) (c low high : ℕ) → has_between C c c ≡ true → low ≤ c → c ≤ high → has_between C low high ≡ true
has_between-of [] c low high m a b = m
has_between-of (run ∷ runs) c low high m a b = elim (or_cases (nat_le run.0 c && nat_le c run.1) (has_between runs c c) m) [
  | inl t ↦ let (h, k) = two run.0 c c run.1 t in or_left _ _ (and_from _ _ (le-leb run.0 high (omega arith)) (le-leb low run.1 (omega arith)))
  | inr t ↦ or_right _ _ (has_between-of runs c low high t a b)
]

-- no run is empty
abbrev pub has_no_empty_run : CharacterClass → Bool
has_no_empty_run [] = true
has_no_empty_run (run ∷ runs) = nat_le run.0 run.1 && has_no_empty_run runs

pub has_between-has : (C : CharacterClass) (low high : ℕ) → has_no_empty_run C ≡ true → low ≤ high → has_between C low high ≡ true
    → (c : ℕ) × (low ≤ c) × (c ≤ high) × (has_between C c c ≡ true)
has_between-has [] low high s a m = false-true m
has_between-has (run ∷ runs) low high s a m =
    let q = and_parts (nat_le run.0 run.1) (has_no_empty_run runs) s in
    elim (or_cases (nat_le run.0 high && nat_le low run.1) (has_between runs low high) m) [
      | inl t ↦ let (h, k) = two run.0 high low run.1 t in let j = leb-true run.0 run.1 q.0 in (
        max low run.0,
        omega arith,
        omega arith,
        or_left _ _
            (and_from _ _ (le-leb run.0 (max low run.0) (omega arith)) (le-leb (max low run.0) run.1 (omega arith))),
      )
      | inr t ↦ let r = has_between-has runs low high q.1 a t in (r.0, r.1, r.2, or_right _ _ r.3)
    ]

-- each run of a class lies in a run of another
abbrev lies : ℕ × ℕ → CharacterClass → Bool
lies run [] = false
lies run (other ∷ others) = (nat_le other.0 run.0 && nat_le run.1 other.1) || lies run others

abbrev is_inside : CharacterClass → CharacterClass → Bool
is_inside [] D = true
is_inside (run ∷ runs) D = lies run D && is_inside runs D

lies-has_between : (run : ℕ × ℕ) (D : CharacterClass) (c : ℕ) → lies run D ≡ true → run.0 ≤ c → c ≤ run.1 → has_between D c c ≡ true
lies-has_between run [] c m a b = m
lies-has_between run (other ∷ others) c m a b = elim (or_cases (nat_le other.0 run.0 && nat_le run.1 other.1) (lies run others) m) [
  | inl t ↦ let (h, k) = two other.0 run.0 run.1 other.1 t in or_left _ _ (and_from _ _ (le-leb other.0 c (omega arith)) (le-leb c other.1 (omega arith)))
  | inr t ↦ or_right _ _ (lies-has_between run others c t a b)
]

inside : (C D : CharacterClass) (c : ℕ) → is_inside C D ≡ true → has_between C c c ≡ true → has_between D c c ≡ true
inside [] D c i m = false-true m
inside (run ∷ runs) D c i m =
    let q = and_parts (lies run D) (is_inside runs D) i in
    elim (or_cases (nat_le run.0 c && nat_le c run.1) (has_between runs c c) m) [
      | inl t ↦ let (h, k) = two run.0 c c run.1 t in lies-has_between run D c q.0 h k
      | inr t ↦ inside runs D c q.1 t
    ]

starts-inside : (c : ℕ) → has_between name_starts c c ≡ true → has_between name_characters c c ≡ true
unfolding name_starts name_characters
starts-inside c m = inside name_starts name_characters c refl m

names-inside : (c : ℕ) → has_between name_characters c c ≡ true → has_between characters c c ≡ true
unfolding name_starts name_characters characters
names-inside c m = inside name_characters characters c refl m

class-inside : (a : Allowed) (c : ℕ) → has_between (class_of a) c c ≡ true → has_between scalar_values c c ≡ true
unfolding name_starts name_characters characters scalar_values
class-inside allowed.None c m = false-true m
class-inside allowed.NameStart c m = inside name_starts scalar_values c refl m
class-inside allowed.NameFurther c m = inside name_characters scalar_values c refl m
class-inside allowed.Any c m = inside characters scalar_values c refl m

pub proper-class : (a : Allowed) → has_no_empty_run (class_of a) ≡ true
unfolding name_starts name_characters characters
proper-class allowed.None = refl
proper-class allowed.NameStart = refl
proper-class allowed.NameFurther = refl
proper-class allowed.Any = refl

pub proper-scalars : has_no_empty_run scalar_values ≡ true
unfolding scalar_values
proper-scalars = refl

pub scalars-low : (c : ℕ) → has_between scalar_values c c ≡ true → 128 ≤ c
unfolding scalar_values
scalars-low c m = grind (arith, nat_tests, m)

pub scalars-are : (c : ℕ) → has_between scalar_values c c ≡ true → IsScalar c
unfolding scalar_values
scalars-are c m = grind (arith, nat_tests, m)

pub scalars-all : (c : ℕ) → IsScalar c → 128 ≤ c → has_between scalar_values c c ≡ true
unfolding scalar_values
scalars-all c s h = elim (scalar_cases c s) [
  | inl k ↦ or_left _ _ (and_from _ _ (le-leb 0x80 c h) (le-leb c 0xD7FF (omega arith)))
  | inr k ↦ or_right _ _ (or_left _ _ (and_from _ _ (le-leb 0xE000 c k.0) (le-leb c 0x10FFFF (omega arith))))
]

pub class-low : (a : Allowed) (c : ℕ) → has_between (class_of a) c c ≡ true → 128 ≤ c
class-low a c m = scalars-low c (class-inside a c m)

pub class-scalar : (a : Allowed) (c : ℕ) → has_between (class_of a) c c ≡ true → IsScalar c
class-scalar a c m = scalars-are c (class-inside a c m)

-- The kind of a character says in which classes it is.

abbrev Same : Bool → Allowed → ℕ → Type 0
Same t a c = t ≡ has_between (class_of a) c c

same-start : (a : Allowed) (c : ℕ) → has_between name_starts c c ≡ true → Same (takes_start a) a c
same-start allowed.None c m = refl
same-start allowed.NameStart c m = sym m
same-start allowed.NameFurther c m = sym (starts-inside c m)
same-start allowed.Any c m = sym (names-inside c (starts-inside c m))

same-further_character : (a : Allowed) (c : ℕ) → has_between name_starts c c ≡ false → has_between name_characters c c ≡ true → Same (takes_further a) a c
same-further_character allowed.None c n m = refl
same-further_character allowed.NameStart c n m = sym n
same-further_character allowed.NameFurther c n m = sym m
same-further_character allowed.Any c n m = sym (names-inside c m)

same-other : (a : Allowed) (c : ℕ) → has_between name_starts c c ≡ false → has_between name_characters c c ≡ false → has_between characters c c ≡ true
    → Same (takes_other a) a c
same-other allowed.None c n k m = refl
same-other allowed.NameStart c n k m = sym n
same-other allowed.NameFurther c n k m = sym k
same-other allowed.Any c n k m = sym m

same-void : (a : Allowed) (c : ℕ) → has_between name_starts c c ≡ false → has_between name_characters c c ≡ false → has_between characters c c ≡ false
    → Same false a c
same-void allowed.None c n k m = refl
same-void allowed.NameStart c n k m = sym n
same-void allowed.NameFurther c n k m = sym k
same-void allowed.Any c n k m = sym m

-- what a character from 128 on does
pub wide-next : (s : Stage) (c : ℕ) → next s (wide_kind c) c ≡ passed (has_between (class_of (allowed_at s)) c c) s c
unfolding wide_kind
wide-next s c =
    let P : Kind → Type 0 = λ k. next s k c ≡ passed (has_between (class_of (allowed_at s)) c c) s c in
    cond_both (has_between name_starts c c) kinds.WideStart _ P
    (λ e1. ap (λ (t : Bool). passed t s c) (same-start (allowed_at s) c e1))
    (λ n1. cond_both (has_between name_characters c c) kinds.WideName _ P
    (λ e2. ap (λ (t : Bool). passed t s c) (same-further_character (allowed_at s) c n1 e2))
    (λ n2. cond_both (has_between characters c c) kinds.WideOther kinds.WideRefused P
    (λ e3. ap (λ (t : Bool). passed t s c) (same-other (allowed_at s) c n1 n2 e3))
    (λ n3. ap (λ (t : Bool). passed t s c) (same-void (allowed_at s) c n1 n2 n3))))

-- the kinds of characters below 128 are the others
union-way : (t : Bool) (j k : Kind) → is_wide j ≡ false → is_wide k ≡ false → is_wide (cond t j k) ≡ false
union-way true j k h g = h
union-way false j k h g = g

ascii-narrow : (c : ℕ) → is_wide (ascii_kind c) ≡ false
unfolding ascii_kind
ascii-narrow c = union-way ((c == 32) || ((c == 9) || ((c == 10) || (c == 13)))) kinds.Space _ refl
    (union-way (c == 33) kinds.Bang _ refl
    (union-way (c == 34) kinds.Quotation _ refl
    (union-way (c == 35) kinds.Number _ refl
    (union-way (c == 38) kinds.Ampersand _ refl
    (union-way (c == 39) kinds.Apostrophe _ refl
    (union-way (c == 47) kinds.Slash _ refl
    (union-way (c == 58) kinds.Colon _ refl
    (union-way (c == 59) kinds.Semicolon _ refl
    (union-way (c == 60) kinds.Less _ refl
    (union-way (c == 61) kinds.Equals _ refl
    (union-way (c == 62) kinds.Greater _ refl
    (union-way (c == 63) kinds.Question _ refl
    (union-way (c == 91) kinds.LeftBracket _ refl
    (union-way (c == 93) kinds.RightBracket _ refl
    (union-way (c == 97) kinds.SmallA _ refl
    (union-way (c == 101) kinds.SmallE _ refl
    (union-way (c == 103) kinds.SmallG _ refl
    (union-way (c == 108) kinds.SmallL _ refl
    (union-way (c == 109) kinds.SmallM _ refl
    (union-way (c == 110) kinds.SmallN _ refl
    (union-way (c == 111) kinds.SmallO _ refl
    (union-way (c == 112) kinds.SmallP _ refl
    (union-way (c == 113) kinds.SmallQ _ refl
    (union-way (c == 115) kinds.SmallS _ refl
    (union-way (c == 116) kinds.SmallT _ refl
    (union-way (c == 117) kinds.SmallU _ refl
    (union-way (c == 118) kinds.SmallV _ refl
    (union-way (c == 120) kinds.SmallX _ refl
    (union-way (c == 121) kinds.SmallY _ refl
    (union-way ((nat_le 65 c && nat_le c 70) || (nat_le 98 c && nat_le c 102)) kinds.HexLetter _ refl
    (union-way ((nat_le 71 c && nat_le c 90) || ((nat_le 104 c && nat_le c 122) || (c == 95))) kinds.Letter _ refl
    (union-way (nat_le 48 c && nat_le c 57) kinds.Digit _ refl
    (union-way ((c == 45) || (c == 46)) kinds.Mark _ refl
    (union-way (nat_le c 31) kinds.Control _ refl
    (refl)))))))))))))))))))))))))))))))))))

pub narrow-next : (s : Stage) (k : Kind) (c : ℕ) → is_wide k ≡ false → next s k c ≡ ascii s k c
narrow-next s kinds.WideStart c h = false-true (sym h)
narrow-next s kinds.WideName c h = false-true (sym h)
narrow-next s kinds.WideOther c h = false-true (sym h)
narrow-next s kinds.WideRefused c h = false-true (sym h)
narrow-next s k c h = refl

-- what a character below 128 does
pub ascii-next : (s : Stage) (c : ℕ) → c < 128 → next s (kind c) c ≡ ascii s (ascii_kind c) c
ascii-next s c h = ap (λ (k : Kind). next s k c) (cond-true (nat_lt c 128) (ascii_kind c) (wide_kind c) (lt-ltb c 128 h))
    ∙ narrow-next s (ascii_kind c) c (ascii-narrow c)

-- and one from 128 on
pub high-next : (s : Stage) (c : ℕ) → 128 ≤ c → next s (kind c) c ≡ passed (has_between (class_of (allowed_at s)) c c) s c
high-next s c h = ap (λ (k : Kind). next s k c) (cond-false (nat_lt c 128) (ascii_kind c) (wide_kind c) (le-ltb c 128 h)) ∙ wide-next s c
