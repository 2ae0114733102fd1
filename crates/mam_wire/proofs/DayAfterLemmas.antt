-- The date so many days after the first of 1970.
use Rattle.std.proofs.Common.{◌≡◌, ℕ, zero, suc, pos, ◌+◌, ◌<◌, ◌≤◌, ◌-ℤ◌}
use Rattle.std.proofs.Common.{inl, inr, Bool, true, false, refl, ap, sym, ◌∙◌, arith}
use Rattle.std.specs.Prelude.{nat_lt, unsigned_abs, if◌then◌else◌}
use Rattle.std.specs.Int.{IsInRange}
use Rattle.std.proofs.lemmas.Bool.{cases_order}
use Rattle.std.proofs.lemmas.Grind.{common_steps}
use Rattle.jiff_core.specs.Calendar.{day_count, days_from_civil, days_in_month}
use Rattle.jiff_core.proofs.CalendarLemmas.{days_in_month_bounds}
use Rattle.jiff_core.proofs.DateLemmas.{days_from_civil-day, days_from_civil-max, days_from_civil-next_month, days_from_civil-next_year, epoch_day_injective}
use Rattle.jiff_core.proofs.SignedLemmas.{signed_arith}
use Rattle.jiff.specs.Types.{Date}
use Rattle.jiff.specs.Words.{epoch_day}
use Rattle.mam_wire.specs.Stamps.{Day, day_after, next_day}

-- a date of the calendar, so many days after the first of 1970
pub record IsAfter (n : ℕ) (d : Day) : Type 0 where
  pub year : d.year ≤ 9999
  pub month : IsInRange 1 12 d.month
  pub day : IsInRange 1 (days_in_month (pos d.year) d.month) d.day
  pub at : days_from_civil (pos d.year) d.month d.day ≡ pos n

lt-of : (a b : ℕ) → nat_lt a b ≡ true → a < b
lt-of a b is = grind (arith, common_steps)

le-of : (a b : ℕ) → nat_lt a b ≡ false → b ≤ a
le-of a b is = grind (arith, common_steps)

minus-self : (n : ℕ) → pos n -ℤ pos n ≡ pos 0
minus-self n = omega (arith, signed_arith)

first : IsAfter 0 (record { year = 1970; month = 1; day = 1 })
unfolding days_from_civil
first = record {
  year = omega arith;
  month = (omega arith, omega arith);
  day = (omega arith, omega arith);
  at = minus-self (day_count (pos 1970) 1 1);
}

module _ (n : ℕ) (d : Day) (is : IsAfter n d) (few : n < 2932896) where
  in-month : d.day < days_in_month (pos d.year) d.month → IsAfter (suc n) (record d { day = d.day + 1 })
  in-month less = record {
    year = is.year;
    month = is.month;
    day = (omega arith, omega (arith, less));
    at =
        let step = days_from_civil-day (pos d.year) d.month d.day (d.day + 1) is.day.0 (omega arith) in
        let at = is.at in
        omega (arith, signed_arith, step, at);
  }

  next-month : d.day ≡ days_in_month (pos d.year) d.month → d.month < 12 → IsAfter (suc n) (record d { month = d.month + 1; day = 1 })
  next-month last less = record {
    year = is.year;
    month = (omega arith, omega (arith, less));
    day = (omega arith, let bounds = days_in_month_bounds (pos d.year) (d.month + 1) in omega (arith, bounds));
    at =
        let step = days_from_civil-next_month (pos d.year) d.month d.day is.month.0 last in
        let at = is.at in
        omega (arith, signed_arith, step, at);
  }

  next-year : d.month ≡ 12 → d.day ≡ 31 → IsAfter (suc n) (record { year = d.year + 1; month = 1; day = 1 })
  next-year month day =
      let last : days_from_civil (pos d.year) 12 31 ≡ pos n = rw (← month) (rw (← day) is.at) in
      let old : d.year ≤ 9999 = is.year in
      let within : d.year + 1 ≤ 9999 = by (d.year) old last in
      record {
        year = within;
        month = (omega arith, omega arith);
        day = (omega arith, omega arith);
        at =
            let step = days_from_civil-next_year (pos d.year) (pos (d.year + 1)) (omega (arith, signed_arith)) (omega (arith, signed_arith)) in
            omega (arith, signed_arith, step, last);
      } where
        by : (y : ℕ) → y ≤ 9999 → days_from_civil (pos y) 12 31 ≡ pos n → y + 1 ≤ 9999
        by y le at =
            elim (cases_order y 9999) [
              | inl same ↦ absurd
                  (let top : days_from_civil (pos y) 12 31 ≡ pos 2932896 = rw same days_from_civil-max in omega (arith, signed_arith, at, top, few))
              | inr (inl less) ↦ omega (arith, less)
              | inr (inr more) ↦ absurd (omega (arith, le, more))
            ]

next : (n : ℕ) (d : Day) → IsAfter n d → n < 2932896 → IsAfter (suc n) (next_day d)
next n d is few = by (nat_lt d.day (days_in_month (pos d.year) d.month)) refl (nat_lt d.month 12) refl where
  by : (b : Bool) → nat_lt d.day (days_in_month (pos d.year) d.month) ≡ b → (c : Bool) → nat_lt d.month 12 ≡ c
      → IsAfter (suc n) (if b then record d { day = d.day + 1 }
      else if c then record d { month = d.month + 1; day = 1 } else record { year = d.year + 1; month = 1; day = 1 })
  by true less c e = in-month n d is few (lt-of d.day (days_in_month (pos d.year) d.month) less)
  by false not true less =
      let past = le-of d.day (days_in_month (pos d.year) d.month) not in
      let within = is.day.1 in
      next-month n d is few (omega (arith, past, within)) (lt-of d.month 12 less)
  by false not false e =
      let past = le-of d.day (days_in_month (pos d.year) d.month) not in
      let within = is.day.1 in
      let end = le-of d.month 12 e in
      let most = is.month.1 in
      let month : d.month ≡ 12 = omega (arith, end, most) in
      let long : days_in_month (pos d.year) d.month ≡ 31 = rw month refl in
      next-year n d is few month (omega (arith, past, within, long))

after : (n : ℕ) → n < 2932897 → IsAfter n (day_after n)
unfolding day_after
after zero few = first
after (suc n) few = next n (day_after n) (after n (omega (arith, few))) (omega (arith, few))

-- it is the date of that day
pub date-same : (n : ℕ) (date : Date) → n < 2932897 → epoch_day date ≡ pos n
    → (unsigned_abs date.year ≡ (day_after n).year) × (date.month ≡ (day_after n).month) × (date.day ≡ (day_after n).day)
date-same n date few at =
    let is = after n few in
    let year = is.year in
    let other : Date = record {
      year = pos (day_after n).year;
      month = (day_after n).month;
      day = (day_after n).day;
      year_in = (omega (arith, signed_arith), omega (arith, signed_arith, year));
      month_in = is.month;
      day_in = is.day;
    } in
    let same = epoch_day_injective date other (at ∙ sym is.at) in
    (ap unsigned_abs same.0, same.1, same.2)
