-- The numbers that counts stand for. XEP-0198, 4: a count begins at zero and is raised by one for each
-- stanza; it is an unsigned integer of 32 bits, and from 2^32 - 1 it goes back to zero.
use Rattle.std.specs.Prelude.{◌≡◌, ℕ, zero, suc, ◌+◌, ◌-◌, ◌%◌, ◌^◌, ◌≤◌, ◌==◌, Option, Some, None, if◌then◌else◌}

-- The count of so many stanzas.
abbrev pub count_of : ℕ → ℕ
count_of n = n % 2 ^ 32

-- n lies from a to q, and has the count h.
pub record IsNumber (a q h n : ℕ) : Type 0 where
  pub low : a ≤ n
  pub high : n ≤ q
  pub count : count_of n ≡ h

-- The first of so many numbers, from a on, with the count h.
unfoldable pub number_among : ℕ → ℕ → ℕ → Option ℕ
number_among a h zero = None
number_among a h (suc many) =
    if count_of a == h then Some a else number_among (suc a) h many

-- The number from a to q with the count h, or none. Where q is less than 2^32 above a there is at
-- most one.
unfoldable pub number : ℕ → ℕ → ℕ → Option ℕ
number a q h = number_among a h (suc q - a)

-- How far a count has to be raised from another to reach it.
abbrev pub distance : ℕ → ℕ → ℕ
distance from to = (to + (2 ^ 32 - from)) % 2 ^ 32
