-- What a source and a sink tell.
use Rattle.std.specs.Prelude.{◌≡◌, ℕ, ◌+◌, ◌-◌, ◌^◌, true, false, nat_le, List, [], ◌∷◌, ◌++◌, ◌<◌, ◌≤◌, length, min, take, drop, Some, None, Option}
use Rattle.outside.specs.Plans.{Plan, called, failed, fails_next}
use Rattle.outside.specs.declared.bytes.Got.{Got}
use Rattle.outside.specs.declared.bytes.Got.TheVariants as got
use Rattle.outside.specs.declared.bytes.Put.{Put}
use Rattle.outside.specs.declared.bytes.Put.TheVariants as put

-- a source in memory: its plan, the bytes that are left, and the most that a reading gives
pub record SourceState : Type 0 where
  pub plan : Plan
  pub left : List ℕ
  pub piece : ℕ

-- a sink in memory: its plan, what it took, where it tells it, the most that a writing takes, and the room for more
pub record SinkState : Type 0 where
  pub plan : Plan
  pub took : Option (List ℕ)
  pub piece : ℕ
  pub room : ℕ

-- a count of faults rose, or stands at its greatest number
abbrev pub Rose : ℕ → ℕ → Type 0
Rose before now = min (before + 1) (2 ^ 64 - 1) ≤ now

-- where what is left is told, what was read is its front
abbrev pub Front : Option (List ℕ) → Option (List ℕ) → List ℕ → Type 0
Front None now read = now ≡ None
Front (Some old) now read = (rest : List ℕ) × (old ≡ read ++ rest) × (now ≡ Some rest)

-- where what is left is told, there is nothing
abbrev pub Ended : Option (List ℕ) → Option (List ℕ) → Type 0
Ended None now = now ≡ None
Ended (Some old) now = (old ≡ []) × (now ≡ Some [])

abbrev pub Reads : Option (List ℕ) → Option (List ℕ) → Got → List ℕ → Type 0
Reads old now (got.Bytes n) buffer = (0 < n) × (n ≤ length buffer) × Front old now (take n buffer)
Reads old now got.End buffer = Ended old now
Reads old now got.Failed buffer = now ≡ old

-- the count of a source never falls, and rose where it failed
abbrev pub ReadFaults : ℕ → ℕ → Got → Type 0
ReadFaults before now (got.Bytes n) = before ≤ now
ReadFaults before now got.End = before ≤ now
ReadFaults before now got.Failed = (before ≤ now) × Rose before now

-- where what was taken is told, these bytes came last
abbrev pub Added : Option (List ℕ) → Option (List ℕ) → List ℕ → Type 0
Added None now bytes = now ≡ None
Added (Some old) now bytes = now ≡ Some (old ++ bytes)

-- what is told is as before, or nothing is told any more
abbrev pub StillTold : Option (List ℕ) → Option (List ℕ) → Type 0
StillTold old None = Unit {0}
StillTold old (Some now) = old ≡ Some now

abbrev pub Writes : Option (List ℕ) → Option (List ℕ) → Put → List ℕ → Type 0
Writes old now (put.Taken n) from = (0 < n) × (n ≤ length from) × Added old now (take n from)
Writes old now put.Failed from = StillTold old now

abbrev pub WriteFaults : ℕ → ℕ → Put → Type 0
WriteFaults before now (put.Taken n) = before ≤ now
WriteFaults before now put.Failed = (before ≤ now) × Rose before now

-- so many bytes were read
abbrev pub Gets : SourceState → SourceState → Got → List ℕ → ℕ → Type 0
Gets v w result buffer n =
    (result ≡ got.Bytes n) × (take n buffer ≡ take n v.left) × (w ≡ record v { plan = called v.plan; left = drop n v.left })

-- what a reading that wasn't to fail comes to
abbrev pub GetsNext : List ℕ → SourceState → SourceState → Got → List ℕ → Type 0
GetsNext [] v w result buffer = (result ≡ got.End) × (w ≡ record v { plan = called v.plan })
GetsNext (b ∷ bs) v w result buffer = Gets v w result buffer (min (min (length v.left) (length buffer)) v.piece)

-- what a reading of a source in memory comes to
abbrev pub SourceReads : SourceState → SourceState → Got → List ℕ → Type 0
SourceReads v w result buffer =
    (fails_next v.plan ≡ true → (result ≡ got.Failed) × (w ≡ record v { plan = failed v.plan }))
    × (fails_next v.plan ≡ false → GetsNext v.left v w result buffer)

-- these bytes at the end, where it is told
abbrev pub and_more : Option (List ℕ) → List ℕ → Option (List ℕ)
and_more None bytes = None
and_more (Some old) bytes = Some (old ++ bytes)

-- so many bytes were taken
abbrev pub Takes : SinkState → SinkState → Put → List ℕ → ℕ → Type 0
Takes v w result from n =
    (result ≡ put.Taken n)
    × (w ≡ record v { plan = called v.plan; took = and_more v.took (take n from); room = v.room - n })

-- what a writing to a sink in memory comes to
abbrev pub SinkWrites : SinkState → SinkState → Put → List ℕ → Type 0
SinkWrites v w result from =
    (fails_next v.plan ≡ true → (result ≡ put.Failed) × (w ≡ record v { plan = failed v.plan }))
    × (fails_next v.plan ≡ false → nat_le (min (length from) v.piece) v.room ≡ false
    → (result ≡ put.Failed) × (w ≡ record v { plan = failed v.plan; took = None }))
    × (fails_next v.plan ≡ false → nat_le (min (length from) v.piece) v.room ≡ true
    → Takes v w result from (min (length from) v.piece))
