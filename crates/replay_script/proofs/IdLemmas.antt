-- The id of a session is read exactly where a text spells it.
use Rattle.std.proofs.Common.{◌≡◌, ℕ, ◌≤◌, ◌==◌, List, [], ◌∷◌, ◌++◌, Bool, true, false, cond, Option, Some, None, IfSome, arith, refl, sym, ap, ◌∙◌}
use Rattle.std.proofs.lemmas.Bool.{cond-false, eqb-true, ne_eqb}
use Rattle.std.proofs.lemmas.Fmt.{digits_decimal}
use Rattle.std.proofs.lemmas.Str.Parse.{digit_from_value, numerals_by_value, tells_digits}
use Rattle.std.specs.Fmt.{decimal}
use Rattle.std.specs.Str.Parse.{AllDigits}
use Rattle.std.specs.Option.{option_and_then}
use Rattle.jid_core.specs.Cuts.{before, after}
use Rattle.sm_resume.specs.declared.id.ResumeId.{ResumeId}
use Rattle.sm_resume.specs.Spelling.{IsResumeId, hexadecimal, spelling}
use Rattle.sm_resume.specs.Spelling.{number_of}
use Rattle.replay_script.specs.Numbers.{dice_of, id_by, id_spelt}
use Rattle.sm_resume.proofs.Numbers.{number-found, number-spelt}
use Rattle.replay_script.proofs.NumberLemmas.{none-is, dice-found, dice-spelt}

-- no digit is a dash
no-dash : (d : ℕ) → (48 ≤ d) × (d ≤ 57) → (d == 45) ≡ false
no-dash d r = ne_eqb d 45 (λ e. omega (arith, r.0, e))

before-dash : (number rest : List ℕ) → AllDigits 10 number → before 45 (number ++ 45 ∷ rest) ≡ number
before-dash [] rest are = refl
before-dash (d ∷ ds) rest are =
    cond-false (d == 45) [] (d ∷ before 45 (ds ++ 45 ∷ rest)) (no-dash d (digit_from_value d are.0)) ∙ ap (λ xs. d ∷ xs) (before-dash ds rest are.1)

after-dash : (number rest : List ℕ) → AllDigits 10 number → after 45 (number ++ 45 ∷ rest) ≡ Some rest
after-dash [] rest are = refl
after-dash (d ∷ ds) rest are =
    cond-false (d == 45) (Some (ds ++ 45 ∷ rest)) (after 45 (ds ++ 45 ∷ rest)) (no-dash d (digit_from_value d are.0)) ∙ after-dash ds rest are.1

-- what is cut at a byte is joined by it
joined : (c : ℕ) (bs rest : List ℕ) → after c bs ≡ Some rest → before c bs ++ c ∷ rest ≡ bs
joined c [] rest h = absurd (cc)
joined c (b ∷ bs) rest h = byte (b == c) refl h (joined c bs rest)
  where
    byte : (d : Bool) → (b == c) ≡ d → cond d (Some bs) (after c bs) ≡ Some rest → (after c bs ≡ Some rest → before c bs ++ c ∷ rest ≡ bs)
        → cond d [] (b ∷ before c bs) ++ c ∷ rest ≡ b ∷ bs
    byte true e h is = let head : b ≡ c = eqb-true b c e in let tail : bs ≡ rest = cc in ap (λ x. x ∷ rest) (sym head) ∙ ap (λ xs. b ∷ xs) (sym tail)
    byte false e h is = ap (λ xs. b ∷ xs) (is h)

id-found : (text : List ℕ) (id : ResumeId) → IsResumeId id → spelling id ≡ text → id_spelt text ≡ Some id
unfolding spelling
id-found text id is spelt =
    let digits = digits_decimal (numerals_by_value (AllDigits 10) tells_digits) id.session is.session in
    let rest = hexadecimal id.digits in
    let cut : after 45 text ≡ Some rest = ap (after 45) (sym spelt) ∙ after-dash (decimal id.session) rest digits in
    let front : before 45 text ≡ decimal id.session = ap (before 45) (sym spelt) ∙ before-dash (decimal id.session) rest digits in
    let number : number_of (before 45 text) ≡ Some id.session = ap number_of front ∙ number-found (decimal id.session) id.session is.session refl in
    let dice : dice_of rest ≡ Some id.digits = dice-found rest id.digits is.digits refl in
    ap (option_and_then (λ r. id_by (number_of (before 45 text)) (dice_of r))) cut
    ∙ ap (λ n. id_by n (dice_of rest)) number
    ∙ ap (id_by (Some id.session)) dice

-- an id that was put together has its parts
id-parts : (n : Option ℕ) (ds : Option (List ℕ)) (id : ResumeId) → id_by n ds ≡ Some id → (n ≡ Some id.session) × (ds ≡ Some id.digits)
id-parts None ds id h = absurd (cc)
id-parts (Some n) None id h = absurd (cc)
id-parts (Some n) (Some ds) id h = (ap session_in h, ap digits_in h)
  where
    session_in : Option ResumeId → Option ℕ
    session_in None = None
    session_in (Some x) = Some x.session

    digits_in : Option ResumeId → Option (List ℕ)
    digits_in None = None
    digits_in (Some x) = Some x.digits

id-rest : (text rest : List ℕ) (id : ResumeId) → after 45 text ≡ Some rest → id_by (number_of (before 45 text)) (dice_of rest) ≡ Some id
    → IsResumeId id × (spelling id ≡ text)
unfolding spelling
id-rest text rest id cut h =
    let parts = id-parts (number_of (before 45 text)) (dice_of rest) id h in
    let number = number-spelt (before 45 text) id.session parts.0 in
    let dice = dice-spelt rest id.digits parts.1 in (
      record { session = number.0; digits = dice.0 },
      ap (λ front. front ++ 45 ∷ hexadecimal id.digits) number.1 ∙ ap (λ back. before 45 text ++ 45 ∷ back) dice.1 ∙ joined 45 text rest cut,
    )

id-spelt : (text : List ℕ) (id : ResumeId) → id_spelt text ≡ Some id → IsResumeId id × (spelling id ≡ text)
id-spelt text id h = cut (after 45 text) refl h
  where
    cut : (o : Option (List ℕ)) → after 45 text ≡ o → option_and_then (λ r. id_by (number_of (before 45 text)) (dice_of r)) o ≡ Some id
        → IsResumeId id × (spelling id ≡ text)
    cut None is h = absurd (cc)
    cut (Some rest) is h = id-rest text rest id is h

pub id_read : (text : List ℕ) (r : Option ResumeId) → IfSome r (λ id. IsResumeId id × (spelling id ≡ text))
    → ((id : ResumeId) → IsResumeId id → spelling id ≡ text → r ≡ Some id) → r ≡ id_spelt text
id_read text (Some id) spelt found = sym (id-found text id spelt.0 spelt.1)
id_read text None spelt found = none-is (id_spelt text) (λ id h. let is = id-spelt text id h in let e = found id is.0 is.1 in absurd (cc))
