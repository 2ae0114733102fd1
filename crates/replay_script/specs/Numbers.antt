-- Numbers and bytes as a script writes them.
use Rattle.std.specs.Prelude.{ℕ, ◌+◌, ◌*◌, ◌^◌, ◌==◌, nat_lt, Bool, not, ◌&&◌, List, [], ◌∷◌, length}
use Rattle.std.specs.Prelude.{bytes_eq, Option, Some, None, Result, Ok, Err, if◌then◌else◌}
use Rattle.std.specs.List.{list_all, list_any}
use Rattle.std.specs.Char.{digit_value, is_ascii_uppercase}
use Rattle.std.specs.Fmt.{decimal}
use Rattle.std.specs.Str.Parse.{digits_value}
use Rattle.hex.specs.Hex.{decode_of}
use Rattle.hex.specs.declared.error.FromHexError.{FromHexError}
use Rattle.sm_resume.specs.Spelling.{hexadecimal, number_of}
use Rattle.sm_resume.specs.declared.id.ResumeId.{ResumeId}
use Rattle.std.specs.Option.{option_and_then}
use Rattle.jid_core.specs.Cuts.{before, after}

abbrev pub below : ℕ → Option ℕ → Option ℕ
below most None = None
below most (Some n) = if nat_lt n most then Some n else None

-- the number of a line for a connection, of which there are at most 1024
abbrev pub line_number_of : List ℕ → Option ℕ
line_number_of text = below 1024 (number_of text)

-- a count of stanzas, modulo 2^32 (XEP-0198, 4)
abbrev pub count_in : List ℕ → Option ℕ
count_in text = below (2 ^ 32) (number_of text)

-- the byte of each two hexadecimal digits, the higher half first
abbrev pub paired : List ℕ → List ℕ
paired [] = []
paired (high ∷ []) = []
paired (high ∷ low ∷ more) = (digit_value high * 16 + digit_value low) ∷ paired more

abbrev pub are_dice : List ℕ → Bool
are_dice bytes = (length bytes == 16) && list_all (λ b. nat_lt b 256) bytes

-- the sixteen bytes that are written so, as 32 lower-case hexadecimal digits
unfoldable pub dice_of : List ℕ → Option (List ℕ)
dice_of text = if are_dice (paired text) && bytes_eq (hexadecimal (paired text)) text then Some (paired text) else None

-- an id by its number and its bytes, where both were read
abbrev pub id_by : Option ℕ → Option (List ℕ) → Option ResumeId
id_by None digits = None
id_by (Some session) None = None
id_by (Some session) (Some digits) = Some (record { session = session; digits = digits })

-- the id that is written so: its number, a dash (45) and its sixteen bytes
abbrev pub id_spelt : List ℕ → Option ResumeId
id_spelt text = option_and_then (λ rest. id_by (number_of (before 45 text)) (dice_of rest)) (after 45 text)

abbrev pub decoded : Result (List ℕ) FromHexError → Option (List ℕ)
decoded (Ok bytes) = Some bytes
decoded (Err fault) = None

-- at least one byte, and no upper-case letter
abbrev pub may_be_bytes : List ℕ → Bool
may_be_bytes text = nat_lt 0 (length text) && not (list_any is_ascii_uppercase text)

-- HEX: one or more bytes, each as two hexadecimal digits, whose letters are lower-case
abbrev pub bytes_of : List ℕ → Option (List ℕ)
bytes_of text = if may_be_bytes text then decoded (decode_of text) else None
