-- Parts of a text, and the days of jiff as they are counted from the first of the year -10000.
use Rattle.std.proofs.Common.{◌≡◌, ◌≢◌, ℕ, suc, pos, ◌+◌, ◌+ℤ◌, List, [], ◌∷◌, length, take, drop, true, false, refl, ap, ◌∙◌, arith}
use Rattle.std.proofs.lemmas.Bool.Decides.{nat_tests}
use Rattle.std.proofs.lemmas.Grind.{common_steps}
use Rattle.std.proofs.lemmas.List.{take_min, drop_min}
use Rattle.std.specs.Prelude.{Some, min}
use Rattle.jiff.specs.Types.{Date}
use Rattle.jiff.specs.Words.{IsDate, IsYmd, epoch_day}
use Rattle.jiff_core.specs.Calendar.{day_count}
use Rattle.jiff_core.proofs.CalendarLemmas.{days_from_civil-day_count}
use Rattle.jiff_core.proofs.SignedLemmas.{signed_arith}
use Rattle.mam_wire.specs.Moments.{day_number, has_form, is_date, stamp_by, stamp_value, zone_place}

pub day_counted : (d : Date) (n : ℕ) → epoch_day d +ℤ pos 4371587 ≡ pos n → n + 366 ≡ day_count d.year d.month d.day
day_counted d n is = omega (arith, signed_arith, is, days_from_civil-day_count d.year d.month d.day)

date_is : (year month day : ℕ) → IsDate (pos year) (pos month) (pos day) → is_date year month day ≡ true
date_is year month day is = grind (arith, signed_arith, nat_tests, is)

same_number : (n m : ℕ) → pos n ≡ pos m → n ≡ m
same_number n m is = omega (arith, signed_arith, is)

-- the day of a date that the calendar has
pub day_is : (year month day : ℕ) (d : Date) (n : ℕ) → IsDate (pos year) (pos month) (pos day) → IsYmd (pos year) (pos month) (pos day) d
    → n ≡ day_count d.year d.month d.day → Some n ≡ day_number year month day
day_is year month day d n is parts counted =
    rw (date_is year month day is)
    (ap Some (counted ∙ rw parts.0 (rw (same_number d.month month parts.1) (rw (same_number d.day day parts.2) refl))))

-- what has a form is as long
pub form_unlike : (form text : List ℕ) → length form ≢ length text → false ≡ has_form form text
form_unlike [] [] not = absurd (not refl)
form_unlike [] (b ∷ text) not = refl
form_unlike (f ∷ form) [] not = refl
form_unlike (f ∷ form) (b ∷ text) not = grind (arith, common_steps, form_unlike form text (λ e. not (ap suc e)))

-- a text that is cut where its parts end
pub stamp_parts : (text front rest fraction zone : List ℕ) (n p : ℕ) → n ≡ min 19 (length text) → front ≡ take n text → rest ≡ drop n text
    → p ≡ zone_place rest → fraction ≡ take p rest → zone ≡ drop p rest → stamp_by front fraction zone ≡ stamp_value text
stamp_parts text front rest fraction zone n p at begins ends place before after =
    let f : front ≡ take 19 text = begins ∙ ap (λ (k : ℕ). take k text) at ∙ take_min 19 text in
    let r : rest ≡ drop 19 text = ends ∙ ap (λ (k : ℕ). drop k text) at ∙ drop_min 19 text in
    rw f (rw before (rw after (rw place (rw r (refl {a = stamp_value text})))))
