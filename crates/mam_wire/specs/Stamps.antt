-- Moments as they are written (XEP-0082, 3.2).
use Rattle.std.specs.Prelude.{ℕ, zero, suc, pos, ◌+◌, ◌≡◌, ◌/◌, ◌%◌, nat_lt, min, List, [], ◌∷◌, ◌++◌, codes, if◌then◌else◌}
use Rattle.jiff_core.specs.Calendar.{days_in_month}
use Rattle.jiff.specs.Words.{epoch_day}
use Rattle.jiff.specs.Types.{Date}

abbrev pub digit : ℕ → ℕ
digit n = 48 + n % 10

abbrev pub two : ℕ → List ℕ
two n = digit (n / 10) ∷ digit n ∷ []

abbrev pub three : ℕ → List ℕ
three n = digit (n / 100) ∷ two n

abbrev pub four : ℕ → List ℕ
four n = digit (n / 1000) ∷ three n

-- `YYYY-MM-DDThh:mm:ss.mmmZ`
abbrev pub stamp_of : (year month day : ℕ) → (of_day : ℕ) → List ℕ
stamp_of year month day of_day =
    four year ++ codes "-" ++ two month ++ codes "-" ++ two day ++ codes "T" ++ two (of_day / 3600000) ++ codes ":" ++ two (of_day / 60000 % 60)
    ++ codes ":" ++ two (of_day / 1000 % 60) ++ codes "." ++ three (of_day % 1000) ++ codes "Z"

-- the end of the year 9999, in milliseconds since 1970; what is later counts as that
abbrev pub counted : ℕ → ℕ
counted moment = min moment 253402300799999

-- the date of the moment's day, in the Gregorian calendar
pub record IsStamp (moment : ℕ) (text : List ℕ) : Type 0 where
  pub date : Date
  pub year : ℕ
  pub in_year : date.year ≡ pos year
  pub on_day : epoch_day date ≡ pos (counted moment / 86400000)
  pub spelt : text ≡ stamp_of year date.month date.day (counted moment % 86400000)

-- The same, with the date counted on from the first of 1970.

-- a date of the Gregorian calendar
pub record Day : Type 0 where
  pub year : ℕ
  pub month : ℕ
  pub day : ℕ

-- the next day is the next of the month, or the first of the next month, or the first of the next year
abbrev pub next_day : Day → Day
next_day d =
    if nat_lt d.day (days_in_month (pos d.year) d.month) then record d { day = d.day + 1 }
    else if nat_lt d.month 12 then record d { month = d.month + 1; day = 1 }
    else record { year = d.year + 1; month = 1; day = 1 }

unfoldable pub day_after : (days : ℕ) → Day
day_after zero = record { year = 1970; month = 1; day = 1 }
day_after (suc days) = next_day (day_after days)

abbrev pub stamp_on : Day → (of_day : ℕ) → List ℕ
stamp_on d of_day = stamp_of d.year d.month d.day of_day

-- how a moment is written
unfoldable pub stamp_text : (moment : ℕ) → List ℕ
stamp_text moment = stamp_on (day_after (counted moment / 86400000)) (counted moment % 86400000)
