-- Characters from 128 on, byte by byte (RFC 3629, 3 and 4).
use Rattle.std.specs.Prelude.{ℕ, ◌+◌, ◌*◌, ◌-◌, List, [], ◌∷◌, Bool, true, false, ◌&&◌, not, nat_le, nat_lt, ◌==◌, max, min, if◌then◌else◌}
use Rattle.stream_lex.specs.declared.characters.Pending.{Pending}
use Rattle.stream_lex.specs.declared.characters.Pending.TheVariants as pending
use Rattle.stream_lex.specs.declared.characters.Reach.{Reach}
use Rattle.stream_lex.specs.declared.characters.Reach.TheVariants.{Whole, Begun, Broken}

abbrev pub bytes_of : Pending → List ℕ
bytes_of pending.Nothing = []
bytes_of (pending.One a) = a ∷ []
bytes_of (pending.Two a b) = a ∷ b ∷ []
bytes_of (pending.Three a b c) = a ∷ b ∷ c ∷ []

abbrev pub is_nothing : Pending → Bool
is_nothing pending.Nothing = true
is_nothing p = false

abbrev pub is_between : ℕ → ℕ → ℕ → Bool
is_between low high b = nat_le low b && nat_le b high

-- 10xxxxxx
abbrev pub is_continuation : ℕ → Bool
is_continuation b = is_between 128 191 b

-- the second byte, after the first: no overlong form, no surrogate beyond what the class leaves out, nothing past 10FFFF
abbrev pub is_second : ℕ → ℕ → Bool
is_second a b = is_between (if a == 224 then 160 else (if a == 240 then 144 else 128)) (if a == 244 then 143 else 191) b

-- whether the bytes begin a character
abbrev pub is_begun : Pending → Bool
is_begun pending.Nothing = true
is_begun (pending.One a) = is_between 194 244 a
is_begun (pending.Two a b) = is_between 224 244 a && is_second a b
is_begun (pending.Three a b c) = is_between 240 244 a && (is_second a b && is_continuation c)

unfoldable pub reach_first : ℕ → Reach
reach_first a =
    if is_between 194 223 a then Begun (pending.One a) (64 * (a - 192)) (64 * (a - 192) + 63)
    else if is_between 224 239 a then Begun (pending.One a) (max (4096 * (a - 224)) 2048) (4096 * (a - 224) + 4095)
    else if is_between 240 244 a then Begun (pending.One a) (max (262144 * (a - 240)) 65536) (min (262144 * (a - 240) + 262143) 1114111)
    else Broken

unfoldable pub reach_second : ℕ → ℕ → Reach
reach_second a b =
    if not (is_second a b) then Broken
    else if nat_lt a 224 then Whole (64 * (a - 192) + (b - 128))
    else if nat_lt a 240 then Begun (pending.Two a b) (4096 * (a - 224) + 64 * (b - 128)) (4096 * (a - 224) + 64 * (b - 128) + 63)
    else Begun (pending.Two a b) (262144 * (a - 240) + 4096 * (b - 128)) (262144 * (a - 240) + 4096 * (b - 128) + 4095)

unfoldable pub reach_third : ℕ → ℕ → ℕ → Reach
reach_third a b c =
    if not (is_continuation c) then Broken
    else if nat_lt a 240 then Whole (4096 * (a - 224) + 64 * (b - 128) + (c - 128))
    else Begun (pending.Three a b c) (262144 * (a - 240) + 4096 * (b - 128) + 64 * (c - 128)) (262144 * (a - 240) + 4096 * (b - 128) + 64 * (c - 128) + 63)

unfoldable pub reach_fourth : ℕ → ℕ → ℕ → ℕ → Reach
reach_fourth a b c d =
    if is_continuation d then Whole (262144 * (a - 240) + 4096 * (b - 128) + 64 * (c - 128) + (d - 128))
    else Broken

-- what a further byte says
abbrev pub reach : Pending → ℕ → Reach
reach pending.Nothing a = reach_first a
reach (pending.One a) b = reach_second a b
reach (pending.Two a b) c = reach_third a b c
reach (pending.Three a b c) d = reach_fourth a b c d
