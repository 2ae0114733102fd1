-- What a queue stands for: the whole list of a session's stanzas, with true numbers. Its counts go
-- round at 2^32 as often as they like.
use Rattle.std.specs.Prelude.{◌≡◌, ℕ, ◌+◌, ◌-◌, ◌≤◌, List, length, drop, Option, Some, None, Result, Ok, Err}
use Rattle.std.specs.Option.{option_map}
use Rattle.stanza_tree.specs.declared.frame.Entry.{Entry}
use Rattle.sm_counters.specs.Numbers.{count_of, number}
use Rattle.sm_queue.specs.Queues.{Queue}
use Rattle.sm_queue.specs.declared.queue.TooHigh.{TooHigh}

-- Of all the stanzas, those before `kept` are done with and those before `sent` were sent; the count
-- began at `base`.
pub record StandsFor (all : List Entry) (base kept sent : ℕ) (q : Queue) : Type 0 where
  pub began : base ≤ kept
  pub in_order : kept ≤ sent
  pub within : sent ≤ length all
  pub rest : q.waiting ≡ drop kept all
  pub given : q.given ≡ sent - kept
  pub counted : q.kept ≡ count_of (kept - base)

-- how many stanzas after `kept` the count h acknowledges
abbrev pub IsPlaceOf : (base kept sent h : ℕ) → Option ℕ → Type 0
IsPlaceOf base kept sent h place =
    place ≡ option_map (λ n. n - (kept - base)) (number (kept - base) (sent - base) h)

-- the refusal of a count, which tells the counts of what is kept and of what was sent
abbrev pub too_high : (base kept sent h : ℕ) → TooHigh
too_high base kept sent h = record { h = h; kept = count_of (kept - base); sent = count_of (sent - base) }

-- XEP-0198, 4: the stanzas up to the number that has the client's count are acknowledged; where none
-- has it, nothing changes
abbrev pub AcksUpTo : Option ℕ → List Entry → (base kept sent h : ℕ) → Queue → Queue → Result Unit TooHigh → Type 0
AcksUpTo (Some n) all base kept sent h old new result =
    (result ≡ Ok tt) × StandsFor all base (base + n) sent new
AcksUpTo None all base kept sent h old new result =
    (result ≡ Err (too_high base kept sent h)) × (new ≡ old)

abbrev pub Acks : List Entry → (base kept sent h : ℕ) → Queue → Queue → Result Unit TooHigh → Type 0
Acks all base kept sent h old new result =
    AcksUpTo (number (kept - base) (sent - base) h) all base kept sent h old new result

-- XEP-0198, 5: likewise, and the stanzas after that number are sent again
abbrev pub RewindsTo : Option ℕ → List Entry → (base kept sent h : ℕ) → Queue → Queue → Result Unit TooHigh → Type 0
RewindsTo (Some n) all base kept sent h old new result =
    (result ≡ Ok tt) × StandsFor all base (base + n) (base + n) new
RewindsTo None all base kept sent h old new result =
    (result ≡ Err (too_high base kept sent h)) × (new ≡ old)

abbrev pub Rewinds : List Entry → (base kept sent h : ℕ) → Queue → Queue → Result Unit TooHigh → Type 0
Rewinds all base kept sent h old new result =
    RewindsTo (number (kept - base) (sent - base) h) all base kept sent h old new result
