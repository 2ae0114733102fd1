-- The bytes that ids are spelt with.
use Rattle.std.proofs.Common.{◌≡◌, ℕ, suc, ◌+◌, ◌/◌, ◌%◌, ◌<◌, Bool, true, false, cond, nat_lt, List, [], ◌∷◌, get_or, All, inl, inr, arith, refl}
use Rattle.std.proofs.lemmas.Bool.{ltb-false, ltb-true}
use Rattle.std.proofs.lemmas.Fmt.{digits_decimal}
use Rattle.std.proofs.lemmas.List.Elements.{All-append, All-cons, All-nil}
use Rattle.std.proofs.lemmas.Str.Parse.{digit_from_value, numerals_by_value, tells_digits}
use Rattle.std.specs.Char.{digit_char}
use Rattle.std.specs.Fmt.{decimal}
use Rattle.std.specs.Str.Parse.{AllDigits}
use Rattle.sm_resume.specs.Spelling.{IsIdByte, IsResumeId, hexadecimal, spelling}
use Rattle.sm_resume.specs.declared.id.ResumeId.{ResumeId}

All-digits : (text : List ℕ) → AllDigits 10 text → All IsIdByte text
All-digits [] are = All-nil IsIdByte
All-digits (digit ∷ text) are =
    All-cons IsIdByte digit text (inr (inl (digit_from_value digit are.0))) (All-digits text are.1)

IsIdByte-digit_char : (half : ℕ) → half < 16 → IsIdByte (digit_char half)
IsIdByte-digit_char half small = cases (nat_lt half 10) refl
  where
    cases : (b : Bool) → nat_lt half 10 ≡ b → IsIdByte (cond b (48 + half) (87 + half))
    cases true test = inr (inl (omega arith, omega (arith, ltb-true half 10 test)))
    cases false test = inr (inr (omega (arith, ltb-false half 10 test), omega arith))

All-hexadecimal : (bytes : List ℕ) → ((k : ℕ) → get_or bytes k 0 < 256)
    → All IsIdByte (hexadecimal bytes)
unfolding hexadecimal
All-hexadecimal [] small = All-nil IsIdByte
All-hexadecimal (byte ∷ bytes) small =
    let first : byte < 256 = small 0 in
    All-cons IsIdByte (digit_char (byte / 16)) (digit_char (byte % 16) ∷ hexadecimal bytes) (IsIdByte-digit_char (byte / 16) (omega arith))
    (All-cons IsIdByte (digit_char (byte % 16)) (hexadecimal bytes) (IsIdByte-digit_char (byte % 16) (omega arith))
    (All-hexadecimal bytes (λ k. small (suc k))))

pub All-spelling : (id : ResumeId) → IsResumeId id → All IsIdByte (spelling id)
unfolding spelling
All-spelling id is =
    let own = numerals_by_value (AllDigits 10) tells_digits in
    All-append IsIdByte (decimal id.session) (45 ∷ hexadecimal id.digits)
    (All-digits (decimal id.session) (digits_decimal own id.session is.session))
    (All-cons IsIdByte 45 (hexadecimal id.digits) (inl refl) (All-hexadecimal id.digits is.digits.bytes))
