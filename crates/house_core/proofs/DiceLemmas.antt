-- The dice's digits are a resource.
use Rattle.std.proofs.Common.{◌≡◌, ℕ, suc, ◌/◌, ◌%◌, ◌<◌, List, [], ◌∷◌, length, get_or, Bool, true, Ok, Err, Result, refl, sym, ◌∙◌, arith}
use Rattle.std.specs.List.{list_all}
use Rattle.std.proofs.lemmas.Bool.Decides.{nat_tests}
use Rattle.jid_core.specs.AsciiParts.{is_resource_byte}
use Rattle.jid_core.specs.Preparation.{resource_of, IsCause}
use Rattle.jid_core.specs.declared.fault.JidFault.{JidFault}
use Rattle.jid_core.specs.declared.fault.JidFault.TheVariants.{NoMemory, Empty, Long, Bad}
use Rattle.jid_core.proofs.PreparationLemmas.{resource_of_short}
use Rattle.std.specs.Char.{digit_char}
use Rattle.sm_resume.specs.Spelling.{hexadecimal}
use Rattle.sm_resume.proofs.Digits.{length-hexadecimal}

digit-printable : (n : ℕ) → n < 16 → is_resource_byte (digit_char n) ≡ true
digit-printable n low = grind (arith, nat_tests)

two-more : (p : ℕ → Bool) (x y : ℕ) (xs : List ℕ) → p x ≡ true → p y ≡ true → list_all p xs ≡ true → list_all p (x ∷ y ∷ xs) ≡ true
two-more p x y xs px py all = rw (px, py, all) refl

all-printable : (bytes : List ℕ) → ((i : ℕ) → get_or bytes i 0 < 256) → list_all is_resource_byte (hexadecimal bytes) ≡ true
unfolding hexadecimal
all-printable [] fits = refl
all-printable (b ∷ bytes) fits =
    let small : b < 256 = fits 0 in
    two-more is_resource_byte (digit_char (b / 16)) (digit_char (b % 16)) (hexadecimal bytes) (digit-printable (b / 16) (omega arith))
    (digit-printable (b % 16) (omega arith))
    (all-printable bytes (λ i. fits (suc i)))

pub resource_of-hex : (bytes : List ℕ) → length bytes ≡ 16 → ((i : ℕ) → get_or bytes i 0 < 256)
    → resource_of (hexadecimal bytes) ≡ Ok (hexadecimal bytes)
resource_of-hex bytes sixteen fits =
    resource_of_short (hexadecimal bytes) (omega (arith, sixteen, length-hexadecimal bytes)) (all-printable bytes fits)
    (omega (arith, sixteen, length-hexadecimal bytes))

-- what is read has no fault but want of memory
pub cause-read : {A : Type 0} (read : Result A JidFault) (value : A) (fault : JidFault) → read ≡ Ok value → IsCause read fault → fault ≡ NoMemory
cause-read read value NoMemory e cause = refl
cause-read read value (Empty which) e cause = absurd (let z : Ok value ≡ Err (Empty which) = sym e ∙ cause in cc)
cause-read read value (Long which) e cause = absurd (let z : Ok value ≡ Err (Long which) = sym e ∙ cause in cc)
cause-read read value (Bad which place) e cause = absurd (let z : Ok value ≡ Err (Bad which place) = sym e ∙ cause in cc)

-- a text is read as one part
pub read-once : {A : Type 0} (read : Result A JidFault) (one other : A) → read ≡ Ok one → read ≡ Ok other → one ≡ other
read-once read one other e f = let z : Ok one ≡ Ok other = sym e ∙ f in cc
