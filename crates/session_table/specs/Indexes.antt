-- What the code goes by to find a session without looking at all of them: places in the order of the numbers, which are
-- left empty where a session was taken away, the moments of the places, and the first session of each user's hash,
-- from which each leads to the next.
use Rattle.std.specs.Prelude.{◌≡◌, ◌<◌, ◌≤◌, ◌+◌, ℕ, zero, suc, nat_eq, nat_le, Bool, true, false, is_some, length, List, [], ◌∷◌, Option, Some, None, option_map}
use Rattle.std.specs.Prelude.{if◌then◌else◌, ⊤, ◌≢◌}
use Rattle.std.specs.Map.{lookup}
use Rattle.hash_keys.specs.declared.key.HashKey.{HashKey}
use Rattle.session_table.specs.declared.slots.Slot.{Slot}
use Rattle.session_table.specs.Hashes.{user_hash}
use Rattle.session_table.specs.Sessions.{SessionRecord}
use Rattle.session_table.specs.Waking.{wake_of}

abbrev pub Slots : Type 0
Slots = List (ℕ × Slot)

-- a session before others, where it is there
abbrev pub before : ℕ → Option SessionRecord → List (ℕ × SessionRecord) → List (ℕ × SessionRecord)
before number None more = more
before number (Some s) more = (number, s) ∷ more

-- the sessions that are there
abbrev pub present : Slots → List (ℕ × SessionRecord)
present [] = []
present (e ∷ more) = before e.0 e.1.session (present more)

-- the session at a place that may be missing
abbrev pub session_in : Option Slot → Option SessionRecord
session_in None = None
session_in (Some slot) = slot.session

-- the numbers rise from one place to the next, from above `last`, and none is above `made`
abbrev pub Climbs : ℕ → Slots → ℕ → Type 0
Climbs last [] made = last ≤ made
Climbs last (e ∷ more) made = (last < e.0) × Climbs e.0 more made

-- at this place there is this number with this slot
abbrev pub IsAt : (place number : ℕ) → Slot → Slots → Type 0
IsAt place number slot [] = ⊥
IsAt zero number slot (e ∷ more) = (e.0 ≡ number) × (e.1 ≡ slot)
IsAt (suc place) number slot (e ∷ more) = IsAt place number slot more

-- the place of a number, or none where it has none
abbrev pub IsPlaceOf : ℕ → Slots → Option ℕ → Type 0
IsPlaceOf number slots None = lookup (nat_eq number) slots ≡ None
IsPlaceOf number slots (Some place) = (slot : Slot) × IsAt place number slot slots

-- what becomes of a slot
abbrev pub with_change : (SessionRecord → SessionRecord) → Slot → Slot
with_change change slot = record slot { session = option_map change slot.session }

abbrev pub leading_to : Option ℕ → Slot → Slot
leading_to next slot = record slot { next = next }

abbrev pub emptied : Slot → Slot
emptied slot = record slot { session = None; next = None }

-- the moment of a place
abbrev pub wake_in : Option SessionRecord → Option ℕ
wake_in None = None
wake_in (Some s) = wake_of s.state s.deadline

-- there are no moments
abbrev pub AreNone : List (Option ℕ) → Type 0
AreNone [] = ⊤
AreNone (m ∷ more) = (m ≡ None) × AreNone more

-- these are the moments of the places, and there may be room for more
abbrev pub AreWakes : Slots → List (Option ℕ) → Type 0
AreWakes [] ms = AreNone ms
AreWakes (e ∷ more) [] = ⊥
AreWakes (e ∷ more) (m ∷ ms) = (m ≡ wake_in e.1.session) × AreWakes more ms

-- whether a session of this hash is at a place
abbrev pub has_hash : HashKey → ℕ → Option SessionRecord → Bool
has_hash key hash None = false
has_hash key hash (Some s) = nat_eq hash (user_hash key s.address.local)

-- the first session of a hash
abbrev pub first_of : HashKey → ℕ → Slots → Option ℕ
first_of key hash [] = None
first_of key hash (e ∷ more) = if has_hash key hash e.1.session then Some e.0 else first_of key hash more

-- each session leads to the next one of its hash
abbrev pub AreLinked : HashKey → Slots → Type 0
AreLinked key [] = ⊤
AreLinked key (e ∷ more) = ((hash : ℕ) → has_hash key hash e.1.session ≡ true → e.1.next ≡ first_of key hash more) × AreLinked key more

-- the heads are the first sessions of the hashes, and the sessions of a hash can be gone through from there
pub record AreChained (key : HashKey) (slots : Slots) (heads : List (ℕ × ℕ)) (made : ℕ) : Type 0 where
  pub climbs : Climbs 0 slots made
  pub linked : AreLinked key slots
  pub firsts : (hash : ℕ) → lookup (nat_eq hash) heads ≡ first_of key hash slots

-- what is true of every table
pub record IsIndexed (key : HashKey) (slots : Slots) (wakes : List (Option ℕ)) (heads : List (ℕ × ℕ)) (made there : ℕ) : Type 0 where
  pub chained : AreChained key slots heads made
  pub moments : AreWakes slots wakes
  pub counted : there ≡ length (present slots)

-- the last of the sessions of a hash, or one that is not the first of them
abbrev pub EndsAt : HashKey → ℕ → Option ℕ → Slots → Type 0
EndsAt key hash None slots = ⊤
EndsAt key hash (Some number) slots =
    (place : ℕ) × (slot : Slot) × IsAt place number slot slots × (has_hash key hash slot.session ≡ true) × (first_of key hash slots ≢ Some number)

-- the place of the session of a hash that leads there
abbrev pub IsLink : HashKey → ℕ → Option ℕ → Slots → ℕ → Type 0
IsLink key hash next slots place =
    (number : ℕ) × (slot : Slot) × IsAt place number slot slots × (has_hash key hash slot.session ≡ true) × (slot.next ≡ next)

-- it, or none where no session has the hash
abbrev pub IsLinkOrNone : HashKey → ℕ → Option ℕ → Slots → Option ℕ → Type 0
IsLinkOrNone key hash next slots None = first_of key hash slots ≡ None
IsLinkOrNone key hash next slots (Some place) = IsLink key hash next slots place

-- the places from a number on
abbrev pub from_number : ℕ → Slots → Slots
from_number n [] = []
from_number n (e ∷ more) = if nat_le n e.0 then e ∷ more else from_number n more

-- those from the next session on, where there is one
abbrev pub from : Option ℕ → Slots → Slots
from None slots = []
from (Some n) slots = from_number n slots

-- the same numbers and sessions, which may lead elsewhere
abbrev pub AreRelinked : Slots → Slots → Type 0
AreRelinked [] [] = ⊤
AreRelinked [] (f ∷ rest) = ⊥
AreRelinked (e ∷ more) [] = ⊥
AreRelinked (e ∷ more) (f ∷ rest) = (f.0 ≡ e.0) × (f.1.session ≡ e.1.session) × AreRelinked more rest

-- the next session of a hash is there, or none is left
abbrev pub IsNext : HashKey → ℕ → Slots → Option ℕ → Type 0
IsNext key hash slots None = ⊤
IsNext key hash slots (Some number) = (place : ℕ) × (slot : Slot) × IsAt place number slot slots × (has_hash key hash slot.session ≡ true)

-- the sessions of a user's hash can be gone through from there
pub record IsOnWay (local : Option (List ℕ)) (slots : Slots) (next : Option ℕ) : Type 0 where
  pub key : HashKey
  pub made : ℕ
  pub climbs : Climbs 0 slots made
  pub linked : AreLinked key slots
  pub stands : IsNext key (user_hash key local) slots next

-- whether there is a session at a place
abbrev pub is_filled : ℕ × Slot → Bool
is_filled e = is_some e.1.session
