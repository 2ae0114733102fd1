-- A number that is parsed of a text is the priority that it writes.
use Rattle.std.proofs.Common.{◌≡◌, ◌≢◌, refl, sym, ap, subst, eqb-true, get_or, ◌∙◌, arith, ℕ, ℤ, ◌<◌, ◌≤◌, ◌==◌, ◌^◌, List, [], ◌∷◌, length}
use Rattle.std.proofs.Common.{Bool, true, false, ◌&&◌, Result, Ok, Err, Option, Some, None, pos, neg_ℤ, if◌then◌else◌}
use Rattle.std.proofs.lemmas.Bool.{eqb-false}
use Rattle.std.proofs.lemmas.Grind.{common_steps}
use Rattle.std.proofs.lemmas.Str.Parse.{numerals_by_value, parse_signed_minus, parse_signed_plain, tells_all_ascii_digits}
use Rattle.std.specs.Char.{is_ascii_digit}
use Rattle.std.specs.Int.{w8}
use Rattle.std.specs.List.{list_all}
use Rattle.std.specs.Result.{result_ok, OkIff}
use Rattle.std.specs.Str.{all_ascii_digits}
use Rattle.std.specs.Str.Parse.{ParsesSigned, digits_value}
use Rattle.presence_core.specs.Priorities.{has_plus, is_number, negative, not_negative, priority_of}

-- two words for the test of all bytes
all_digits : (text : List ℕ) → list_all is_ascii_digit text ≡ all_ascii_digits text
all_digits [] = refl
all_digits (b ∷ more) = ap (λ rest. is_ascii_digit b && rest) (all_digits more)

-- it is one where there is a digit and the value fits
fits : {E : Type 0} (most : ℕ) (digits : List ℕ) (v : ℤ) (r : Result ℤ E)
    → OkIff r ((all_ascii_digits digits ≡ true) × (0 < length digits) × (digits_value 10 digits ≤ most)) v
    → result_ok r ≡ (if is_number most digits then Some v else None)
fits most digits v (Ok n) is = grind (arith, common_steps, all_digits digits)
fits most digits v (Err e) is = grind (arith, common_steps, all_digits digits)

after_minus : {E : Type 0} (more : List ℕ) (r : Result ℤ E) → ParsesSigned w8 10 (45 ∷ more) r → result_ok r ≡ negative more
after_minus {E} more r parses =
    let own = numerals_by_value (λ ds. all_ascii_digits ds ≡ true) tells_all_ascii_digits in
    fits 128 more (neg_ℤ (pos (digits_value 10 more))) r (parse_signed_minus own {E = E} w8 (45 ∷ more) r parses refl)

without_minus : {E : Type 0} (text : List ℕ) (r : Result ℤ E) → get_or text 0 0 ≢ 43 → get_or text 0 0 ≢ 45 → ParsesSigned w8 10 text r
    → result_ok r ≡ not_negative text
without_minus {E} text r plus minus parses =
    let own = numerals_by_value (λ ds. all_ascii_digits ds ≡ true) tells_all_ascii_digits in
    below text r (parse_signed_plain own {E = E} w8 text r parses plus minus)
  where
    below : {E : Type 0} (digits : List ℕ) (r : Result ℤ E)
        → OkIff r ((all_ascii_digits digits ≡ true) × (0 < length digits) × (digits_value 10 digits < 128)) (pos (digits_value 10 digits))
        → result_ok r ≡ not_negative digits
    below digits (Ok n) is = grind (arith, common_steps, all_digits digits)
    below digits (Err e) is = grind (arith, common_steps, all_digits digits)

by_first : {E : Type 0} (b : ℕ) (more : List ℕ) (is_minus : Bool) (r : Result ℤ E) → b == 45 ≡ is_minus → b == 43 ≡ false
    → ParsesSigned w8 10 (b ∷ more) r → result_ok r ≡ (if is_minus then negative more else not_negative (b ∷ more))
by_first b more true r is plain parses = minus b (eqb-true b 45 is) r parses
  where
    minus : {E : Type 0} (b : ℕ) → b ≡ 45 → (r : Result ℤ E) → ParsesSigned w8 10 (b ∷ more) r → result_ok r ≡ negative more
    minus b is r parses = after_minus more r (subst (λ b. ParsesSigned w8 10 (b ∷ more) r) is parses)
by_first b more false r is plain parses = without_minus (b ∷ more) r (eqb-false b 43 plain) (eqb-false b 45 is) parses

pub priority_parsed : {E : Type 0} (text : List ℕ) (r : Result ℤ E) → has_plus text ≡ false → ParsesSigned w8 10 text r → result_ok r ≡ priority_of text
priority_parsed [] r plain parses = without_minus [] r (λ e. omega (arith, e)) (λ e. omega (arith, e)) parses
priority_parsed (b ∷ more) r plain parses = by_first b more (b == 45) r refl plain parses
