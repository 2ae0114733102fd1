-- What a text of digits is read as.
use Rattle.std.proofs.Common.{◌≡◌, ℕ, ◌<◌, ◌≤◌, ◌^◌, Bool, true, false, ◌&&◌, List, [], ◌∷◌, length, nat_lt, nat_le, Some, None}
use Rattle.std.proofs.Common.{true≢false, refl, sym, ap, ◌∙◌, arith, cond, zero, suc, le-leb, leb-true, ltb-true, lt-ltb}
use Rattle.std.specs.Prelude.{Ok, Err}
use Rattle.std.specs.Char.{is_ascii_digit}
use Rattle.std.specs.List.{list_all}
use Rattle.std.specs.Str.{IsAscii, IsUtf8, all_ascii_digits}
use Rattle.std.proofs.lemmas.Str.{IsUtf8-from_ascii}
use Rattle.std.specs.Str.Parse.{ParsesUnsigned, digits_value}
use Rattle.std.proofs.lemmas.Str.Parse.{IsNumeralModel, numerals_by_value, tells_all_ascii_digits, parse_digits}
use Rattle.serve_words.specs.Options.{are_digits, is_between, number}

same : (text : List ℕ) → list_all is_ascii_digit text ≡ all_ascii_digits text
same [] = refl
same (c ∷ cs) = ap (λ t. is_ascii_digit c && t) (same cs)

model : IsNumeralModel (λ ds. all_ascii_digits ds ≡ true) (digits_value 10)
model = numerals_by_value (λ ds. all_ascii_digits ds ≡ true) tells_all_ascii_digits

both : (a b : Bool) → a && b ≡ true → (a ≡ true) × (b ≡ true)
both true b e = (refl, e)
both false b e = absurd (true≢false (sym e))

none : (b : Bool) (n : ℕ) → (b ≡ true → ⊥) → None ≡ cond b (Some n) None
none true n no-way = absurd (no-way refl)
none false n no-way = refl

ascii : (text : List ℕ) → list_all is_ascii_digit text ≡ true → IsAscii text
ascii [] e i = omega arith
ascii (c ∷ cs) e zero = let b = both (nat_le 48 c) (nat_le c 57) (both (is_ascii_digit c) _ e).0 in omega (arith, leb-true c 57 b.1)
ascii (c ∷ cs) e (suc i) = ascii cs (both (is_ascii_digit c) (list_all is_ascii_digit cs) e).1 i

pub digits_utf8 : (text : List ℕ) → list_all is_ascii_digit text ≡ true → IsUtf8 text
digits_utf8 text e = IsUtf8-from_ascii text (ascii text e)

-- a text of digits that is read as v is the number v, where it may be
settled : (E : Type 0) (text : List ℕ) (v least most : ℕ) → ParsesUnsigned {E = E} 64 10 text (Ok v) → list_all is_ascii_digit text ≡ true
    → number least most text ≡ cond (is_between least most v) (Some v) None
settled E text v least most parsed digits =
    let p = parse_digits model {E = E} 64 text (Ok v) parsed (sym (same text) ∙ digits) in
    let are : are_digits text ≡ true = ap (λ t. t && list_all is_ascii_digit text) (lt-ltb 0 (length text) p.0.0) ∙ digits in
    ap (λ t. cond (t && is_between least most (digits_value 10 text)) (Some (digits_value 10 text)) None) are
    ∙ ap (λ n. cond (is_between least most n) (Some n) None) (sym p.1)

pub number_in : (E : Type 0) (text : List ℕ) (v least most : ℕ) → ParsesUnsigned {E = E} 64 10 text (Ok v) → list_all is_ascii_digit text ≡ true → least ≤ v
    → v ≤ most
    → number least most text ≡ Some v
number_in E text v least most parsed digits low high =
    settled E text v least most parsed digits ∙ ap (λ t. cond (t && nat_le v most) (Some v) None) (le-leb least v low)
    ∙ ap (λ t. cond t (Some v) None) (le-leb v most high)

pub number_low : (E : Type 0) (text : List ℕ) (v least most : ℕ) → ParsesUnsigned {E = E} 64 10 text (Ok v) → list_all is_ascii_digit text ≡ true → v < least
    → number least most text ≡ None
number_low E text v least most parsed digits low =
    settled E text v least most parsed digits ∙ sym (none (is_between least most v) v (λ e. omega (arith, leb-true least v (both (nat_le least v) _ e).0, low)))

pub number_high : (E : Type 0) (text : List ℕ) (v least most : ℕ) → ParsesUnsigned {E = E} 64 10 text (Ok v) → list_all is_ascii_digit text ≡ true → most < v
    → number least most text ≡ None
number_high E text v least most parsed digits high =
    settled E text v least most parsed digits
    ∙ sym (none (is_between least most v) v (λ e. omega (arith, leb-true v most (both (nat_le least v) (nat_le v most) e).1, high)))

pub number_err : (E : Type 0) (text : List ℕ) (fault : E) (least most : ℕ) → ParsesUnsigned {E = E} 64 10 text (Err fault) → list_all is_ascii_digit text ≡ true
    → most < 2 ^ 64
    → number least most text ≡ None
number_err E text fault least most parsed digits fits =
    sym (none (are_digits text && is_between least most (digits_value 10 text)) (digits_value 10 text) (λ e.
    let b = both (are_digits text) _ e in
    let c = both (nat_lt 0 (length text)) _ b.0 in
    let d = both (nat_le least (digits_value 10 text)) (nat_le (digits_value 10 text) most) b.1 in
    parse_digits model {E = E} 64 text (Err fault) parsed (sym (same text)
    ∙ digits) (ltb-true 0 (length text) c.0, omega (arith, leb-true (digits_value 10 text) most d.1, fits))))
