-- Moments as they are read (XEP-0082, 3.2): `YYYY-MM-DDThh:mm:ss`, a fraction of the second or none, and `Z` or an offset.
use Rattle.std.specs.Prelude.{ℕ, pos, ◌+◌, ◌-◌, ◌*◌, ◌==◌, nat_le, nat_lt, min, List, [], ◌∷◌, length, take, drop, slice_get, Bool, true, false, ◌&&◌, ◌||◌}
use Rattle.std.specs.Prelude.{codes, bytes_eq, Option, Some, None, unwrap_or, if◌then◌else◌}
use Rattle.std.specs.Char.{is_ascii_digit}
use Rattle.std.specs.List.{list_all}
use Rattle.std.specs.Option.{option_map}
use Rattle.jiff_core.specs.Calendar.{day_count, days_in_month}
use Rattle.mam_wire.specs.Stamps.{counted}

-- What stands at a place of a text.

-- a digit; where there is none it counts as 0
abbrev pub digit_at : List ℕ → (place : ℕ) → ℕ
digit_at text place = min (unwrap_or (slice_get text place) 48 - 48) 9

abbrev pub two_at : List ℕ → (place : ℕ) → ℕ
two_at text place = digit_at text place * 10 + digit_at text (place + 1)

abbrev pub four_at : List ℕ → (place : ℕ) → ℕ
four_at text place = two_at text place * 100 + two_at text (place + 2)

-- in a form a zero stands for any digit, and each other byte for itself
abbrev pub fits_in : (form byte : ℕ) → Bool
fits_in form byte = if form == 48 then is_ascii_digit byte else byte == form

abbrev pub has_form : (form text : List ℕ) → Bool
has_form [] [] = true
has_form [] (byte ∷ text) = false
has_form (f ∷ form) [] = false
has_form (f ∷ form) (byte ∷ text) = fits_in f byte && has_form form text

-- A date and a time of the day.

-- a date of the Gregorian calendar
abbrev pub is_date : (year month day : ℕ) → Bool
is_date year month day = nat_le 1 month && nat_le month 12 && nat_le 1 day && nat_le day (days_in_month (pos year) month)

-- the days from the first of the year -10000 to such a date
abbrev pub day_number : (year month day : ℕ) → Option ℕ
day_number year month day = if is_date year month day then Some (day_count (pos year) month day) else None

abbrev pub day_in : (front : List ℕ) → Option ℕ
day_in front = day_number (four_at front 0) (two_at front 5) (two_at front 8)

-- a time of the day, without its seconds
abbrev pub is_clock : (hour minute : ℕ) → Bool
is_clock hour minute = nat_lt hour 24 && nat_lt minute 60

-- the date and the time up to its seconds
abbrev pub is_front : List ℕ → Bool
is_front front =
    has_form (codes "0000-00-00T00:00:00") front && is_clock (two_at front 11) (two_at front 14) && nat_lt (two_at front 17) 60

-- in milliseconds since the day's beginning
abbrev pub clock : (hour minute : ℕ) → ℕ
clock hour minute = hour * 3600000 + minute * 60000

-- A fraction of the second: nothing, or a point and 1 to 9 digits.

abbrev pub is_fraction : List ℕ → Bool
is_fraction [] = true
is_fraction (point ∷ digits) = point == 46 && nat_le 1 (length digits) && nat_le (length digits) 9 && list_all is_ascii_digit digits

-- in milliseconds; digits past them are cut
abbrev pub thousandths : List ℕ → ℕ
thousandths fraction = digit_at fraction 1 * 100 + digit_at fraction 2 * 10 + digit_at fraction 3

-- A zone: `Z`, or by how much its clocks are ahead of UTC or behind it.

abbrev pub is_behind : List ℕ → Bool
is_behind zone = has_form (codes "-00:00") zone

abbrev pub is_offset : List ℕ → Bool
is_offset zone = (has_form (codes "+00:00") zone || is_behind zone) && is_clock (two_at zone 1) (two_at zone 4)

abbrev pub is_zone : List ℕ → Bool
is_zone zone = bytes_eq zone (codes "Z") || is_offset zone

-- `Z` has no digits at these places
abbrev pub offset : List ℕ → ℕ
offset zone = clock (two_at zone 1) (two_at zone 4)

-- what is so many milliseconds by a zone's clocks, in UTC
abbrev pub in_utc : (zone : List ℕ) → ℕ → ℕ
in_utc zone local = if is_behind zone then local + offset zone else local - offset zone

-- A stamp.

abbrev pub is_stamp : (front fraction zone : List ℕ) → Bool
is_stamp front fraction zone = is_front front && is_fraction fraction && is_zone zone

-- milliseconds from the first of the year -10000 on, by the zone's clocks
abbrev pub local : (front fraction : List ℕ) → (days : ℕ) → ℕ
local front fraction days =
    days * 86400000 + clock (two_at front 11) (two_at front 14) + two_at front 17 * 1000 + thousandths fraction

-- milliseconds since 1970; what is before counts as 0, and what is past the year 9999 as its end
abbrev pub since_1970 : ℕ → ℕ
since_1970 moment = counted (moment - day_count (pos 1970) 1 1 * 86400000)

abbrev pub stamp_by : (front fraction zone : List ℕ) → Option ℕ
stamp_by front fraction zone =
    if is_stamp front fraction zone then option_map (λ days. since_1970 (in_utc zone (local front fraction days))) (day_in front) else None

-- the zone is a `Z` at the end, or else the last six bytes
abbrev pub zone_length : List ℕ → ℕ
zone_length rest = if bytes_eq (drop (length rest - 1) rest) (codes "Z") then 1 else 6

abbrev pub zone_place : List ℕ → ℕ
zone_place rest = length rest - zone_length rest

-- the first 19 bytes are the date and the time, and the fraction stands between them and the zone
abbrev pub stamp_value : List ℕ → Option ℕ
stamp_value text =
    stamp_by (take 19 text) (take (zone_place (drop 19 text)) (drop 19 text)) (drop (zone_place (drop 19 text)) (drop 19 text))
