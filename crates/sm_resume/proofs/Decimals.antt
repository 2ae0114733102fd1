-- Numbers of 64 bits and their decimal texts.
use Rattle.std.proofs.Common.{◌≡◌, ℕ, zero, suc, ◌^◌, ◌<◌, List, [], ◌∷◌, length, get_or, Result, Ok, Err, IfSome, arith, refl, sym, ap, ◌∙◌}
use Rattle.std.proofs.lemmas.Fmt.{IsAscii-decimal, decimal-digits_value, decimal_digit, first_decimal}
use Rattle.std.proofs.lemmas.Str.{IsUtf8-from_ascii}
use Rattle.std.proofs.lemmas.Str.Parse.{numerals_by_value, parse_plain, tells_digits}
use Rattle.std.specs.Fmt.{decimal}
use Rattle.std.specs.Result.{result_ok}
use Rattle.std.specs.Str.{IsUtf8}
use Rattle.std.specs.Str.Parse.{AllDigits, ParsesUnsigned}
use Rattle.sm_resume.specs.Spelling.{IsPlain}

-- The decimal text of a number has no plus and no leading zero.
pub IsPlain-decimal : (n : ℕ) → n < 2 ^ 64 → IsPlain (decimal n)
IsPlain-decimal zero fits =
    let one : decimal 0 ≡ 48 ∷ [] = decimal_digit 0 (omega arith) in
    record {
      no_plus = λ plus. absurd (omega (arith, ap (λ text. get_or text 0 0) one, plus));
      no_zero = λ _. ap length one;
    }
IsPlain-decimal (suc n) fits =
    let first = first_decimal (suc n) (omega arith) fits in
    record {
      no_plus = λ plus. absurd (omega (arith, first, plus));
      no_zero = λ leading. absurd (omega (arith, first, leading));
    }

pub IsUtf8-decimal : (n : ℕ) → n < 2 ^ 64 → IsUtf8 (decimal n)
IsUtf8-decimal n fits = IsUtf8-from_ascii (decimal n) (IsAscii-decimal n fits)

-- A plain text from which a number is parsed is its decimal text.
pub decimal-parsed : {E : Type 0} (text : List ℕ) (r : Result ℕ E) (n : ℕ) → IsPlain text
    → ParsesUnsigned 64 10 text r → r ≡ Ok n → decimal n ≡ text
decimal-parsed {E} text (Err e) n plain parses is = cc
decimal-parsed {E} text (Ok m) n plain parses is =
    let own = numerals_by_value (AllDigits 10) tells_digits in
    let value = parse_plain own {E = E} 64 text (Ok m) parses plain.no_plus in
    let same : m ≡ n = cc in
    ap decimal (sym same ∙ value.1)
    ∙ decimal-digits_value own text value.0.0 value.0.1 plain.no_zero value.0.2

-- What is read of a plain text, if anything, is a number whose decimal text it is.
pub decimal-read : {E : Type 0} (text : List ℕ) (r : Result ℕ E) → IsPlain text
    → ParsesUnsigned 64 10 text r → IfSome (result_ok r) (λ n. decimal n ≡ text)
decimal-read {E} text (Err e) plain parses = tt
decimal-read {E} text (Ok n) plain parses = decimal-parsed {E = E} text (Ok n) n plain parses refl
