-- The parts of a spelling: the session number, the dash and the digits.
use Rattle.std.proofs.Common.{refl, ◌≡◌, ℕ, ◌+◌, ◌-◌, ◌<◌, List, [], ◌∷◌, ◌++◌, length, take, drop, get_or, Some, unwrap_or, arith, sym, ap, ◌∙◌, length-append}
use Rattle.std.proofs.lemmas.Grind.{common_steps}
use Rattle.std.proofs.lemmas.Fmt.{decimal_injective}
use Rattle.std.specs.Fmt.{decimal}
use Rattle.sm_resume.specs.declared.id.ResumeId.{ResumeId}
use Rattle.sm_resume.specs.Spelling.{IsResumeId, hexadecimal, spelling}
use Rattle.sm_resume.proofs.Digits.{hexadecimal_injective, length-hexadecimal}

-- All behind the first byte, as the code writes it.
pub behind_first : (xs : List ℕ) → take (length xs - 1) (drop 1 xs) ≡ drop 1 xs
behind_first xs = grind (arith, common_steps)

-- An id is its number and its digits.
pub same_id : (id other : ResumeId) → Some id.session ≡ Some other.session
    → Some id.digits ≡ Some other.digits → id ≡ other
same_id id other session digits =
    let with_session : ℕ → ResumeId = λ n. record { session = n; digits = id.digits } in
    let with_digits : List ℕ → ResumeId = λ ds. record { session = other.session; digits = ds } in
    ap with_session (ap (λ n. unwrap_or n 0) session) ∙ ap with_digits (ap (λ ds. unwrap_or ds []) digits)

-- The number stands before the place `start`, and the dash and the digits from there on.
pub record HasParts (id : ResumeId) (bytes : List ℕ) (start : ℕ) : Type 0 where
  pub number : decimal id.session ≡ take start bytes
  pub tail : drop start bytes ≡ 45 ∷ hexadecimal id.digits

take_front : (xs ys : List ℕ) (n : ℕ) → n ≡ length xs → take n (xs ++ ys) ≡ xs
take_front xs ys n same = grind (arith, common_steps)

drop_front : (xs ys : List ℕ) (n : ℕ) → n ≡ length xs → drop n (xs ++ ys) ≡ ys
drop_front xs ys n same = grind (arith, common_steps)

-- A spelling has 33 bytes behind its number.
pub length-spelling : (id : ResumeId) → IsResumeId id
    → length (spelling id) ≡ length (decimal id.session) + 33
unfolding spelling
length-spelling id is =
    length-append (decimal id.session) (45 ∷ hexadecimal id.digits)
    ∙ omega (arith, is.digits.count, length-hexadecimal id.digits)

-- A text that spells an id has its parts.
pub parts : (id : ResumeId) (bytes : List ℕ) (start : ℕ) → IsResumeId id → spelling id ≡ bytes
    → start ≡ length bytes - 33 → HasParts id bytes start
unfolding spelling
parts id bytes start is spelt place =
    let number = decimal id.session in
    let tail = 45 ∷ hexadecimal id.digits in
    let size : length bytes ≡ length number + 33 = sym (ap length spelt) ∙ length-spelling id is in
    let same : start ≡ length number = omega arith in
    record {
      number = sym (take_front number tail start same) ∙ ap (take start) spelt;
      tail = sym (ap (drop start) spelt) ∙ drop_front number tail start same;
    }

-- Two ids are never spelt alike.
pub spelling_injective : (id other : ResumeId) → IsResumeId id → IsResumeId other
    → spelling id ≡ spelling other → id ≡ other
spelling_injective id other is others same =
    let text = spelling other in
    let start = length text - 33 in
    let mine = parts id text start is same refl in
    let its = parts other text start others refl refl in
    let session = decimal_injective id.session other.session is.session others.session
    (mine.number ∙ sym its.number) in
    let digits = hexadecimal_injective id.digits other.digits is.digits others.digits
    (ap (drop 1) (sym mine.tail ∙ its.tail)) in
    same_id id other (ap Some session) (ap Some digits)

-- Parts make a spelling.
pub spelling_of_parts : (id : ResumeId) (bytes : List ℕ) (start : ℕ)
    → decimal id.session ≡ take start bytes → start < length bytes
    → get_or (drop start bytes) 0 0 ≡ 45
    → hexadecimal id.digits ≡ drop 1 (drop start bytes) → spelling id ≡ bytes
unfolding spelling
spelling_of_parts id bytes start front some dash back = grind (arith, common_steps)
