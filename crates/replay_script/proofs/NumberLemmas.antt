-- Numbers and dice are read exactly where a text spells them.
use Rattle.std.proofs.Common.{◌≡◌, ℕ, zero, suc, ◌+◌, ◌*◌, ◌/◌, ◌%◌, ◌^◌, ◌<◌, ◌==◌, nat_lt, List, [], ◌∷◌, length, get_or, Bool, true}
use Rattle.std.proofs.Common.{false, ◌&&◌, bytes_eq, Option, Some, None, IfSome, arith, refl, sym, ap, subst, ◌∙◌}
use Rattle.std.proofs.lemmas.Bool.{cond-true, lt-ltb, ltb-true, eq-eqb, eqb-true}
use Rattle.std.proofs.lemmas.Option.{cond_some}
use Rattle.std.proofs.lemmas.Slice.Eq.{bytes_eq-Decides}
use Rattle.std.proofs.lemmas.Fmt.{digits_value-decimal}
use Rattle.std.proofs.lemmas.Str.{digit_value-digit_char}
use Rattle.std.proofs.lemmas.Str.Parse.{numerals_by_value, tells_digits}
use Rattle.std.specs.Char.{digit_char, digit_value}
use Rattle.std.specs.Fmt.{decimal}
use Rattle.std.specs.List.{list_all}
use Rattle.std.specs.Str.Parse.{AllDigits, digits_value}
use Rattle.sm_resume.specs.Spelling.{AreDigits, hexadecimal}
use Rattle.hex.specs.Hex.{decode_of}
use Rattle.std.specs.Prelude.{Ok}
use Rattle.replay_script.specs.Numbers.{paired, are_dice, dice_of, may_be_bytes, decoded, bytes_of}

both : (a b : Bool) → a ≡ true → b ≡ true → (a && b) ≡ true
both true b p q = q
both false b p q = absurd (cc)

parts : (a b : Bool) → (a && b) ≡ true → (a ≡ true) × (b ≡ true)
parts true b h = (refl, h)
parts false b h = absurd (cc)

-- nothing, where something would be absurd
pub none-is : {X : Type 0} (o : Option X) → ((x : X) → o ≡ Some x → ⊥) → None ≡ o
none-is None never = refl
none-is (Some x) never = absurd (never x refl)

-- bytes below 256 are those that their digits pair to
paired-hexadecimal : (bytes : List ℕ) → ((k : ℕ) → get_or bytes k 0 < 256) → paired (hexadecimal bytes) ≡ bytes
unfolding hexadecimal
paired-hexadecimal [] small = refl
paired-hexadecimal (b ∷ more) small =
    let low = small 0 in
    let high = digit_value-digit_char (b / 16) (omega (arith, low)) in
    let last = digit_value-digit_char (b % 16) (omega arith) in
    let value : digit_value (digit_char (b / 16)) * 16 + digit_value (digit_char (b % 16)) ≡ b = omega (arith, high, last) in
    ap (λ n. n ∷ paired (hexadecimal more)) value ∙ ap (λ rest. b ∷ rest) (paired-hexadecimal more (λ k. small (suc k)))

all-below : (bytes : List ℕ) → ((k : ℕ) → get_or bytes k 0 < 256) → list_all (λ b. nat_lt b 256) bytes ≡ true
all-below [] small = refl
all-below (b ∷ more) small = both (nat_lt b 256) (list_all (λ x. nat_lt x 256) more) (lt-ltb b 256 (small 0)) (all-below more (λ k. small (suc k)))

below-all : (bytes : List ℕ) → list_all (λ b. nat_lt b 256) bytes ≡ true → (k : ℕ) → get_or bytes k 0 < 256
below-all [] all k = omega arith
below-all (b ∷ more) all zero = ltb-true b 256 (parts (nat_lt b 256) (list_all (λ x. nat_lt x 256) more) all).0
below-all (b ∷ more) all (suc k) = below-all more (parts (nat_lt b 256) (list_all (λ x. nat_lt x 256) more) all).1 k

dice-tests : (bytes : List ℕ) → AreDigits bytes → are_dice bytes ≡ true
dice-tests bytes are = both (length bytes == 16) (list_all (λ b. nat_lt b 256) bytes) (eq-eqb (length bytes) 16 are.count) (all-below bytes are.bytes)

tests-dice : (bytes : List ℕ) → are_dice bytes ≡ true → AreDigits bytes
tests-dice bytes h =
    let both = parts (length bytes == 16) (list_all (λ b. nat_lt b 256) bytes) h in
    record { count = eqb-true (length bytes) 16 both.0; bytes = below-all bytes both.1 }

pub dice-found : (text dice : List ℕ) → AreDigits dice → hexadecimal dice ≡ text → dice_of text ≡ Some dice
unfolding dice_of
dice-found text dice are is =
    let value : paired text ≡ dice = ap paired (sym is) ∙ paired-hexadecimal dice are.bytes in
    let fit : are_dice (paired text) ≡ true = ap are_dice value ∙ dice-tests dice are in
    let same : bytes_eq (hexadecimal (paired text)) text ≡ true = (bytes_eq-Decides (hexadecimal (paired text)) text).1 (ap hexadecimal value ∙ is) in
    cond-true (are_dice (paired text) && bytes_eq (hexadecimal (paired text)) text) (Some (paired text)) None
    (both (are_dice (paired text)) (bytes_eq (hexadecimal (paired text)) text) fit same)
    ∙ ap Some value

pub dice-spelt : (text dice : List ℕ) → dice_of text ≡ Some dice → AreDigits dice × (hexadecimal dice ≡ text)
unfolding dice_of
dice-spelt text dice h =
    let found = cond_some (are_dice (paired text) && bytes_eq (hexadecimal (paired text)) text) (paired text) dice h in
    let tests = parts (are_dice (paired text)) (bytes_eq (hexadecimal (paired text)) text) found.0 in (
      subst AreDigits found.1 (tests-dice (paired text) tests.0),
      ap hexadecimal (sym found.1) ∙ (bytes_eq-Decides (hexadecimal (paired text)) text).0 tests.1,
    )

pub dice-read : (text : List ℕ) (r : Option (List ℕ)) → IfSome r (λ dice. AreDigits dice × (hexadecimal dice ≡ text))
    → ((dice : List ℕ) → AreDigits dice → hexadecimal dice ≡ text → r ≡ Some dice) → r ≡ dice_of text
dice-read text (Some dice) spelt found = sym (dice-found text dice spelt.0 spelt.1)
dice-read text None spelt found = none-is (dice_of text) (λ dice h. let is = dice-spelt text dice h in let e = found dice is.0 is.1 in absurd (cc))

pub bytes_read : (text bytes : List ℕ) → may_be_bytes text ≡ true → decode_of text ≡ Ok bytes → bytes_of text ≡ Some bytes
bytes_read text bytes may are = cond-true (may_be_bytes text) (decoded (decode_of text)) None may ∙ ap decoded are
