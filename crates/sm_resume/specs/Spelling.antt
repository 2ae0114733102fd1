-- How a resumption id is spelt. XEP-0198, 3, leaves the text of an id to the server; here it is the
-- number of the session, a dash, and the digits that make it hard to guess.
use Rattle.std.specs.Prelude.{◌≡◌, ◌≢◌, ℕ, ◌/◌, ◌%◌, ◌^◌, ◌<◌, ◌≤◌, ◌⊎◌, nat_lt, ◌&&◌, List, [], ◌∷◌, ◌++◌, length, slice_index}
use Rattle.std.specs.Prelude.{bytes_eq, Option, Some, None, if◌then◌else◌}
use Rattle.std.specs.Char.{digit_char}
use Rattle.std.specs.Fmt.{decimal}
use Rattle.std.specs.Str.Parse.{digits_value}
use Rattle.sm_resume.specs.declared.id.ResumeId.{ResumeId}

-- Sixteen bytes.
pub record AreDigits (digits : List ℕ) : Type 0 where
  pub count : length digits ≡ 16
  pub bytes : (k : ℕ) → slice_index digits k < 256

-- A number of 64 bits, and sixteen bytes.
pub record IsResumeId (id : ResumeId) : Type 0 where
  pub session : id.session < 2 ^ 64
  pub digits : AreDigits id.digits

-- Two hexadecimal digits for each byte, the higher half first; the letters are lower-case.
unfoldable pub hexadecimal : List ℕ → List ℕ
hexadecimal [] = []
hexadecimal (byte ∷ bytes) = digit_char (byte / 16) ∷ digit_char (byte % 16) ∷ hexadecimal bytes

-- The session number in decimal without leading zeros, a dash (45), and the hexadecimal digits.
unfoldable pub spelling : ResumeId → List ℕ
spelling id = decimal id.session ++ 45 ∷ hexadecimal id.digits

-- The number below 2^64 that is written so in decimal, without leading zeros.
unfoldable pub number_of : List ℕ → Option ℕ
number_of text =
    if nat_lt (digits_value 10 text) (2 ^ 64) && bytes_eq (decimal (digits_value 10 text)) text then Some (digits_value 10 text) else None

-- A byte that ids are spelt with: the dash, a decimal digit (48 to 57) or a letter from a to f (97 to
-- 102).
abbrev pub IsIdByte : ℕ → Type 0
IsIdByte byte = (byte ≡ 45) ⊎ (((48 ≤ byte) × (byte ≤ 57)) ⊎ ((97 ≤ byte) × (byte ≤ 102)))

-- A text that begins neither with a plus (43) nor with a zero (48) that more digits follow.
pub record IsPlain (text : List ℕ) : Type 0 where
  pub no_plus : slice_index text 0 ≢ 43
  pub no_zero : slice_index text 0 ≡ 48 → length text ≡ 1
