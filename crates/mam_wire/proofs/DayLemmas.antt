-- The date of a day that is counted from the first of 1970 on.
use Rattle.std.proofs.Common.{◌≡◌, ◌⊎◌, inl, inr, ℕ, ℤ, pos, ◌<◌, ◌+ℤ◌, ◌-ℤ◌, ◌≤ℤ◌, refl, arith}
use Rattle.std.specs.Prelude.{negsuc, unsigned_abs}
use Rattle.jiff_core.specs.Calendar.{day_count, days_from_civil}
use Rattle.jiff_core.proofs.DateLemmas.{IsEarlier, cases_date, epoch_day-lt}
use Rattle.jiff.specs.Types.{Date}
use Rattle.jiff.specs.Words.{IsEpochDay, epoch_day}
use Rattle.mam_wire.specs.Stamps.{stamp_of}
use Rattle.jiff.proofs.SpanFacts.{signed_arith}

pos-same : (a b : ℕ) → pos a ≡ pos b → a ≡ b
pos-same a b is = omega (arith, signed_arith, is)

minus-self : (n : ℕ) → pos n -ℤ pos n ≡ pos 0
minus-self n = omega (arith, signed_arith)

pub first-day : (d : Date) → d.year ≡ pos 1970 → pos d.month ≡ pos 1 → pos d.day ≡ pos 1 → epoch_day d ≡ pos 0
unfolding days_from_civil
first-day d y m k = rw y (rw (pos-same d.month 1 m) (rw (pos-same d.day 1 k) (minus-self (day_count (pos 1970) 1 1))))

pub day-in : (a : Date) (n : ℕ) → epoch_day a ≡ pos 0 → n < 2932897 → IsEpochDay (epoch_day a +ℤ pos n)
day-in a n is few = (omega (arith, signed_arith, is, few), omega (arith, signed_arith, is, few))

pub day-is : (a : Date) (n : ℕ) → epoch_day a ≡ pos 0 → epoch_day a +ℤ pos n ≡ pos n
day-is a n is = omega (arith, signed_arith, is)

-- its year isn't before 1970
pub not-before : (a d : Date) (n : ℕ) → a.year ≡ pos 1970 → epoch_day a ≡ pos 0 → epoch_day d ≡ pos n → pos 1970 ≤ℤ d.year
not-before a d n from first at = by (cases_date a d) where
  by : IsEarlier a d ⊎ (IsEarlier d a ⊎ ((a.year ≡ d.year) × (a.month ≡ d.month) × (a.day ≡ d.day))) → pos 1970 ≤ℤ d.year
  by (inl (inl less)) = omega (arith, signed_arith, from, less)
  by (inl (inr (same, later))) = omega (arith, signed_arith, from, same)
  by (inr (inl earlier)) = absurd (omega (arith, signed_arith, epoch_day-lt d a earlier, first, at))
  by (inr (inr same)) = let year = same.0 in omega (arith, signed_arith, from, year)

pub abs-is : (z : ℤ) → pos 1970 ≤ℤ z → z ≡ pos (unsigned_abs z)
abs-is (pos n) more = refl
abs-is (negsuc n) more = absurd (omega (arith, signed_arith, more))

pub stamp-same : (y y' m m' d d' t t' : ℕ) → y ≡ y' → m ≡ m' → d ≡ d' → t ≡ t' → stamp_of y m d t ≡ stamp_of y' m' d' t'
stamp-same y y' m m' d d' t t' a b c e = rw a (rw b (rw c (rw e refl)))
