-- A number that is parsed of digits is the one that they write, up to the most rows.
use Rattle.std.proofs.Common.{◌≡◌, refl, sym, ap, ◌∙◌, arith, ℕ, ◌<◌, ◌^◌, List, [], ◌∷◌, length, true, ◌&&◌, Result, Ok, Err}
use Rattle.std.specs.Prelude.{min}
use Rattle.std.proofs.lemmas.Grind.{common_steps}
use Rattle.std.proofs.lemmas.Str.Parse.{numerals_by_value, parse_digits, tells_all_ascii_digits}
use Rattle.std.specs.Char.{is_ascii_digit}
use Rattle.std.specs.List.{list_all}
use Rattle.std.specs.Result.{result_unwrap_or, OkIff}
use Rattle.std.specs.Str.{all_ascii_digits}
use Rattle.std.specs.Str.Parse.{ParsesUnsigned, digits_value}

-- two words for the test of all bytes
all_digits : (text : List ℕ) → list_all is_ascii_digit text ≡ all_ascii_digits text
all_digits [] = refl
all_digits (b ∷ more) = ap (λ rest. is_ascii_digit b && rest) (all_digits more)

by_cases : {E : Type 0} (text : List ℕ) (r : Result ℕ E) → 0 < length text
    → OkIff r ((0 < length text) × (digits_value 10 text < 2 ^ 32)) (digits_value 10 text) → min (result_unwrap_or r 50) 50 ≡ min (digits_value 10 text) 50
by_cases text (Ok n) some value = grind (arith, common_steps)
by_cases text (Err e) some value = grind (arith, common_steps)

pub most_parsed : {E : Type 0} (text : List ℕ) (r : Result ℕ E) → list_all is_ascii_digit text ≡ true → 0 < length text
    → ParsesUnsigned 32 10 text r → min (result_unwrap_or r 50) 50 ≡ min (digits_value 10 text) 50
most_parsed {E} text r digits some parses =
    let own = numerals_by_value (λ ds. all_ascii_digits ds ≡ true) tells_all_ascii_digits in
    by_cases text r some (parse_digits own {E = E} 32 text r parses (sym (all_digits text) ∙ digits))
