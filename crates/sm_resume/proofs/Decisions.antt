-- A decision by counts is one by true numbers.
use Rattle.std.proofs.Common.{◌≡◌, ℕ, ◌+◌, ◌-◌, ◌*◌, ◌/◌, ◌^◌, ◌<◌, ◌≤◌, Option, Some, None, arith, sym, ap, ◌∙◌}
use Rattle.std.specs.Option.{option_map}
use Rattle.std.specs.Prelude.{not, if◌then◌else◌}
use Rattle.std.specs.Str.{bytes_eq}
use Rattle.sm_counters.specs.Numbers.{count_of, distance, number}
use Rattle.sm_counters.proofs.CountLaws.{number-wrapped}
use Rattle.sm_resume.specs.Resumption.{HasCounts, decision, decision_of, resumed_at}
use Rattle.sm_resume.specs.declared.decision.Decision.{Decision}
use Rattle.sm_resume.specs.declared.decision.Facts.{Facts}
use Rattle.sm_resume.specs.declared.id.ResumeId.{ResumeId}
use Rattle.sm_resume.specs.declared.decision.Decision.TheVariants.{Ended, NotYours, Take, TooHigh, Unknown}

-- What is found in a window is resumed at the same place in the window that lies some wraps further.
resumed_at-wrapped : (a q h wraps : ℕ) (o : Option ℕ)
    → resumed_at (a + wraps * 2 ^ 32) (q + wraps * 2 ^ 32) h (option_map (λ n. n + wraps * 2 ^ 32) o)
    ≡ resumed_at a q h o
resumed_at-wrapped a q h wraps (Some n) =
    let place : n + wraps * 2 ^ 32 - (a + wraps * 2 ^ 32) ≡ n - a = omega arith in
    ap Take place
resumed_at-wrapped a q h wraps None =
    let kept : count_of (a + wraps * 2 ^ 32) ≡ count_of a = omega arith in
    let sent : count_of (q + wraps * 2 ^ 32) ≡ count_of q = omega arith in
    ap (λ k. TooHigh h k (count_of (q + wraps * 2 ^ 32))) kept ∙ ap (TooHigh h (count_of a)) sent

-- The same of a window from a count on, which lies whole wraps below that of its number.
pub resumed_at-counts : (kept sent a q h : ℕ) → kept ≡ count_of a → sent ≡ count_of q → a ≤ q
    → q < a + 2 ^ 32 → h < 2 ^ 32
    → resumed_at kept (kept + distance kept sent) h (number kept (kept + distance kept sent) h)
    ≡ resumed_at a q h (number a q h)
resumed_at-counts kept sent a q h first second order narrow fits =
    let wraps = a / 2 ^ 32 in
    let end = kept + distance kept sent in
    let from : kept + wraps * 2 ^ 32 ≡ a = omega arith in
    let to : end + wraps * 2 ^ 32 ≡ q = omega arith in
    let moved = number-wrapped kept end h wraps (omega arith) fits in
    sym (resumed_at-wrapped kept end h wraps (number kept end h))
    ∙ (sym (ap (resumed_at (kept + wraps * 2 ^ 32) (end + wraps * 2 ^ 32) h) moved)
    ∙ (ap (λ (n : ℕ). resumed_at n (end + wraps * 2 ^ 32) h (number n (end + wraps * 2 ^ 32) h)) from
    ∙ ap (λ (n : ℕ). resumed_at a n h (number a n h)) to))

-- The counts decide as the numbers that they stand for.
pub decision-counts : (id : ResumeId) (known : Facts) (a q h : ℕ) → HasCounts known a q → h < 2 ^ 32
    → decision id (Some known) h ≡ decision_of id known a q h
decision-counts id known a q h has fits =
    let last = resumed_at-counts known.kept known.sent a q h has.kept has.sent has.order has.narrow fits in
    let cases : Decision → Decision = λ last.
    if not (bytes_eq known.digits id.digits) then Unknown
    else if not known.yours then NotYours
    else if known.ended then Ended
    else last in
    ap cases last
