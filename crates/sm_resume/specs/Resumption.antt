-- What a resumption is answered (XEP-0198, 5).
use Rattle.std.specs.Prelude.{◌≡◌, ℕ, ◌+◌, ◌-◌, ◌^◌, ◌<◌, ◌≤◌, not, Option, Some, None, if◌then◌else◌}
use Rattle.std.specs.Str.{bytes_eq}
use Rattle.sm_counters.specs.Numbers.{count_of, distance, number}
use Rattle.sm_resume.specs.declared.id.ResumeId.{ResumeId}
use Rattle.sm_resume.specs.declared.decision.Facts.{Facts}
use Rattle.sm_resume.specs.declared.decision.Decision.{Decision}
use Rattle.sm_resume.specs.declared.decision.Decision.TheVariants.{Take, Unknown, NotYours, Ended, TooHigh}

-- Some numbers a of entries acknowledged and q of entries sent that the known counts stand for.
pub record HasCounts (known : Facts) (a q : ℕ) : Type 0 where
  pub kept : known.kept ≡ count_of a
  pub sent : known.sent ≡ count_of q
  pub order : a ≤ q
  pub narrow : q < a + 2 ^ 32

-- Where a entries were acknowledged and q were sent: the session goes on at the number from a to q that
-- has the client's count h, which acknowledges so many more entries; where there is no such number the
-- count is too high.
abbrev pub resumed_at : ℕ → ℕ → ℕ → Option ℕ → Decision
resumed_at a q h (Some n) = Take (n - a)
resumed_at a q h None = TooHigh h (count_of a) (count_of q)

-- The first case that fits is the answer: the id has other digits; the session is another user's; it
-- has ended; the client's count decides.
abbrev pub decision_of : ResumeId → Facts → ℕ → ℕ → ℕ → Decision
decision_of id known a q h =
    if not (bytes_eq known.digits id.digits) then Unknown
    else if not known.yours then NotYours
    else if known.ended then Ended
    else resumed_at a q h (number a q h)

-- The same by the counts alone: the first is taken for the number that it is, and the other for the
-- next number from there that has it. Where no session is known the answer is Unknown.
abbrev pub decision : ResumeId → Option Facts → ℕ → Decision
decision id None h = Unknown
decision id (Some known) h =
    decision_of id known known.kept (known.kept + distance known.kept known.sent) h
