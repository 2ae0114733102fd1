-- A number is read exactly where a text spells it.
use Rattle.std.proofs.Common.{◌≡◌, ℕ, ◌^◌, ◌<◌, nat_lt, List, Bool, true, false, ◌&&◌, bytes_eq, Option, Some, None, IfSome, refl, sym, ap, subst, ◌∙◌}
use Rattle.std.proofs.lemmas.Bool.{cond-true, lt-ltb, ltb-true}
use Rattle.std.proofs.lemmas.Option.{cond_some}
use Rattle.std.proofs.lemmas.Slice.Eq.{bytes_eq-Decides}
use Rattle.std.proofs.lemmas.Fmt.{digits_value-decimal}
use Rattle.std.proofs.lemmas.Str.Parse.{numerals_by_value, tells_digits}
use Rattle.std.specs.Fmt.{decimal}
use Rattle.std.specs.Str.Parse.{AllDigits, digits_value}
use Rattle.sm_resume.specs.Spelling.{number_of}

both : (a b : Bool) → a ≡ true → b ≡ true → (a && b) ≡ true
both true b p q = q
both false b p q = absurd (cc)

parts : (a b : Bool) → (a && b) ≡ true → (a ≡ true) × (b ≡ true)
parts true b h = (refl, h)
parts false b h = absurd (cc)

-- nothing, where something would be absurd
none-is : {X : Type 0} (o : Option X) → ((x : X) → o ≡ Some x → ⊥) → None ≡ o
none-is None never = refl
none-is (Some x) never = absurd (never x refl)

value-decimal : (n : ℕ) → n < 2 ^ 64 → digits_value 10 (decimal n) ≡ n
value-decimal n low = digits_value-decimal (numerals_by_value (AllDigits 10) tells_digits) n low

pub number-found : (text : List ℕ) (n : ℕ) → n < 2 ^ 64 → decimal n ≡ text → number_of text ≡ Some n
unfolding number_of
number-found text n low is =
    let value : digits_value 10 text ≡ n = ap (digits_value 10) (sym is) ∙ value-decimal n low in
    let small : nat_lt (digits_value 10 text) (2 ^ 64) ≡ true = lt-ltb (digits_value 10 text) (2 ^ 64) (subst (λ (m : ℕ). m < 2 ^ 64) (sym value) low) in
    let same : bytes_eq (decimal (digits_value 10 text)) text ≡ true = (bytes_eq-Decides (decimal (digits_value 10 text)) text).1 (ap decimal value ∙ is) in
    cond-true (nat_lt (digits_value 10 text) (2 ^ 64) && bytes_eq (decimal (digits_value 10 text)) text) (Some (digits_value 10 text)) None
    (both (nat_lt (digits_value 10 text) (2 ^ 64)) (bytes_eq (decimal (digits_value 10 text)) text) small same)
    ∙ ap Some value

pub number-spelt : (text : List ℕ) (n : ℕ) → number_of text ≡ Some n → (n < 2 ^ 64) × (decimal n ≡ text)
unfolding number_of
number-spelt text n h =
    let found = cond_some (nat_lt (digits_value 10 text) (2 ^ 64) && bytes_eq (decimal (digits_value 10 text)) text) (digits_value 10 text) n h in
    let tests = parts (nat_lt (digits_value 10 text) (2 ^ 64)) (bytes_eq (decimal (digits_value 10 text)) text) found.0 in (
      subst (λ (m : ℕ). m < 2 ^ 64) found.1 (ltb-true (digits_value 10 text) (2 ^ 64) tests.0),
      ap decimal (sym found.1) ∙ (bytes_eq-Decides (decimal (digits_value 10 text)) text).0 tests.1,
    )

pub number-read : (text : List ℕ) (r : Option ℕ) → IfSome r (λ n. n < 2 ^ 64) → IfSome r (λ n. decimal n ≡ text)
    → ((n : ℕ) → n < 2 ^ 64 → decimal n ≡ text → r ≡ Some n) → r ≡ number_of text
number-read text (Some n) low spelt found = sym (number-found text n low spelt)
number-read text None low spelt found = none-is (number_of text) (λ n h. let is = number-spelt text n h in let e = found n is.0 is.1 in absurd (cc))
