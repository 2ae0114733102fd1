-- What a house was opened with. No turn changes it, so it can be read off the house at any time.
use Rattle.std.specs.Prelude.{ℕ, List}
use Rattle.jid_core.specs.Addresses.{Address}
use Rattle.house_model.specs.declared.limits.Limits.{Limits}
use Rattle.house_model.specs.States.{House, State, opening_with}

pub record OpeningRecord : Type 0 where
  pub domain : Address
  pub users : List (List ℕ)
  pub workers : ℕ  -- how many lines there are
  pub limits : Limits  -- how many sessions there may be

abbrev pub opening_of : {T : Type 0} → House T → OpeningRecord
opening_of k = record { domain = k.head.domain; users = k.head.users; workers = k.head.workers; limits = k.head.limits }

-- the state of a house that was opened so, before its first event
abbrev pub opening_from : OpeningRecord → State
opening_from r = opening_with r.limits r.domain r.users r.workers
