-- What a link tells.
use Rattle.std.specs.Prelude.{◌≡◌, ℕ, ◌<◌, ◌≤◌, min, true, false, List, [], ◌∷◌, length, take, drop}
use Rattle.outside.specs.declared.link.Heard.{Heard}
use Rattle.outside.specs.declared.link.Heard.TheVariants as heard
use Rattle.outside.specs.declared.link.Sent.{Sent}
use Rattle.outside.specs.declared.link.Sent.TheVariants as sent
use Rattle.outside.specs.Tapes.{Mark, Tape, has_room, noted, silent}
use Rattle.outside.specs.Tapes as mark
use Rattle.outside.specs.Plans.{Plan, raised, fails_next, called, failed}

-- at least one byte is heard, and no more than there is room for
abbrev pub HeardFits : Heard → List ℕ → Type 0
HeardFits (heard.Bytes n) buffer = (0 < n) × (n ≤ length buffer)
HeardFits heard.Quiet buffer = Unit {0}
HeardFits heard.End buffer = Unit {0}
HeardFits heard.Failed buffer = Unit {0}

-- at least one byte is taken, and no more than there are
abbrev pub SentFits : Sent → List ℕ → Type 0
SentFits (sent.Taken n) from = (0 < n) × (n ≤ length from)
SentFits sent.Later from = Unit {0}
SentFits sent.Failed from = Unit {0}

-- the mark of a reading
abbrev pub mark_heard : Heard → List ℕ → Mark
mark_heard (heard.Bytes n) buffer = mark.Heard (take n buffer)
mark_heard heard.Quiet buffer = mark.Quiet
mark_heard heard.End buffer = mark.End
mark_heard heard.Failed buffer = mark.Failed

-- the mark of a sending: none where no byte could be taken then
abbrev pub marks_sent : Sent → List ℕ → List Mark
marks_sent (sent.Taken n) from = mark.Said (take n from) ∷ []
marks_sent sent.Later from = []
marks_sent sent.Failed from = mark.Failed ∷ []

-- the count of Laters after a sending
abbrev pub laters_after : Sent → ℕ → ℕ
laters_after sent.Later laters = raised laters
laters_after (sent.Taken n) laters = laters
laters_after sent.Failed laters = laters

-- a script of readings: each gives its bytes, and one without bytes is quiet

-- what is left of a reading goes before the others
abbrev pub before : List ℕ → List (List ℕ) → List (List ℕ)
before [] readings = readings
before (b ∷ bs) readings = (b ∷ bs) ∷ readings

-- how many bytes come next through a buffer for so many
abbrev pub coming : List (List ℕ) → ℕ → ℕ
coming [] most = 0
coming (bytes ∷ readings) most = min (length bytes) most

-- what comes next through a buffer, and what is left then: after the script's end the link has ended
abbrev pub Gives : List (List ℕ) → List (List ℕ) → Heard → List ℕ → Type 0
Gives [] now result buffer = (result ≡ heard.End) × (now ≡ [])
Gives ([] ∷ readings) now result buffer = (result ≡ heard.Quiet) × (now ≡ readings)
Gives ((b ∷ bs) ∷ readings) now result buffer =
    (result ≡ heard.Bytes (min (length (b ∷ bs)) (length buffer)))
    × (take (length (b ∷ bs)) buffer ≡ take (length buffer) (b ∷ bs))
    × (now ≡ before (drop (length buffer) (b ∷ bs)) readings)

-- how many bytes the mark of a reading has
abbrev pub count_heard : Heard → ℕ
count_heard (heard.Bytes n) = n
count_heard heard.Quiet = 0
count_heard heard.End = 0
count_heard heard.Failed = 0

-- the count of Ends after a reading
abbrev pub ends_after : Heard → ℕ → ℕ
ends_after heard.End ends = raised ends
ends_after (heard.Bytes n) ends = ends
ends_after heard.Quiet ends = ends
ends_after heard.Failed ends = ends

-- a link in memory: its plan, and that of its sendings, of which those that are to fail by it are answered Later; the readings to come,
-- the most that a sending takes, its tape and its count of Ends
pub record LinkState : Type 0 where
  pub plan : Plan
  pub sendings : Plan
  pub left : List (List ℕ)
  pub piece : ℕ
  pub tape : Tape
  pub ends : ℕ

-- after a call that failed by the plan
abbrev pub broken : LinkState → LinkState
broken v = record v { plan = failed v.plan; tape = noted v.tape mark.Failed 0 }

-- after a call that failed for want of room
abbrev pub overrun : LinkState → LinkState
overrun v = record v { plan = failed v.plan; tape = silent v.tape }

-- a reading that the script gave
abbrev pub Hears : LinkState → LinkState → Heard → List ℕ → Type 0
Hears v w result buffer =
    Gives v.left w.left result buffer
    × (w ≡ record v {
      plan = called v.plan;
      left = w.left;
      ends = ends_after result v.ends;
      tape = noted v.tape (mark_heard result buffer) (count_heard result);
    })

-- what a reading through this buffer comes to
abbrev pub Recvs : LinkState → LinkState → Heard → List ℕ → Type 0
Recvs v w result buffer =
    (fails_next v.plan ≡ true → (result ≡ heard.Failed) × (w ≡ broken v))
    × (fails_next v.plan ≡ false → has_room v.tape (coming v.left (length buffer)) ≡ false
    → (result ≡ heard.Failed) × (w ≡ overrun v))
    × (fails_next v.plan ≡ false → has_room v.tape (coming v.left (length buffer)) ≡ true → Hears v w result buffer)

-- after a sending that was answered Later
abbrev pub postponed : LinkState → LinkState
postponed v = record v { plan = called v.plan; sendings = failed v.sendings }

-- so many bytes were taken
abbrev pub Says : LinkState → LinkState → Sent → List ℕ → ℕ → Type 0
Says v w result from n =
    (result ≡ sent.Taken n)
    × (w ≡ record v { plan = called v.plan; sendings = called v.sendings; tape = noted v.tape (mark.Said (take n from)) n })

-- what a sending of these bytes comes to
abbrev pub Sends : LinkState → LinkState → Sent → List ℕ → Type 0
Sends v w result from =
    (fails_next v.plan ≡ true → (result ≡ sent.Failed) × (w ≡ broken v))
    × (fails_next v.plan ≡ false → fails_next v.sendings ≡ true → (result ≡ sent.Later) × (w ≡ postponed v))
    × (fails_next v.plan ≡ false → fails_next v.sendings ≡ false → has_room v.tape (min (length from) v.piece) ≡ false
    → (result ≡ sent.Failed) × (w ≡ overrun v))
    × (fails_next v.plan ≡ false → fails_next v.sendings ≡ false → has_room v.tape (min (length from) v.piece) ≡ true
    → Says v w result from (min (length from) v.piece))

-- a link that never fails: the readings to come, and its count of Ends
pub record CleanLinkState : Type 0 where
  pub left : List (List ℕ)
  pub ends : ℕ
