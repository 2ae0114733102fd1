-- Each answer fits a pull.
use Rattle.std.proofs.Common.{◌≡◌, ℕ, ◌<◌, ◌≤◌, ◌^◌, ◌+◌, ◌∷◌, ◌∙◌, Bool, true, false, List, length, arith}
use Rattle.std.proofs.lemmas.Fmt.{length-decimal-le}
use Rattle.std.proofs.lemmas.Grind.{common_steps}
use Rattle.sm_counters.specs.Numbers.{count_of}
use Rattle.sm_resume.specs.Spelling.{hexadecimal, spelling}
use Rattle.sm_resume.specs.declared.id.ResumeId.{ResumeId}
use Rattle.sm_resume.proofs.Digits.{length-hexadecimal}
use Rattle.std.specs.Fmt.{decimal}
use Rattle.std.proofs.lemmas.List.{length-append}
use Rattle.house_model.specs.Steps.{id_if}
use Rattle.house_model.specs.declared.answer.Answer.TheVariants.{Counted, Enabled}
use Rattle.house_model.specs.Answers.{answer_text}

pub counted_short : (h : ℕ) → h < 2 ^ 32 → length (answer_text (Counted h)) ≤ 524288
counted_short h low =
    let number = length-decimal-le 10 h (omega arith) (omega (arith, low)) (omega (arith, low)) in
    grind (arith, common_steps, number)

pub counted_fits : (h n : ℕ) → h ≡ count_of n → length (answer_text (Counted h)) ≤ 524288
counted_fits h n is = counted_short h (omega (arith, is))

pub spelling_length : (id : ResumeId) → length id.digits ≡ 16 → length (spelling id) ≡ length (decimal id.session) + 33
unfolding spelling
spelling_length id count =
    length-append (decimal id.session) (45 ∷ hexadecimal id.digits) ∙ omega (arith, count, length-hexadecimal id.digits)

pub enabled_fits : (wants : Bool) (s : ℕ) (dice : List ℕ) → s < 2 ^ 64 → length dice ≡ 16 → length (answer_text (Enabled (id_if wants s dice))) ≤ 524288
enabled_fits false s dice low digits = omega arith
enabled_fits true s dice low digits =
    let id : ResumeId = record { session = s; digits = dice } in
    let number = length-decimal-le 20 s (omega arith) (omega (arith, low)) low in
    let seconds = length-decimal-le 3 300 (omega arith) (omega arith) (omega arith) in
    let all = spelling_length id digits in
    grind (arith, common_steps, number, seconds, all)
