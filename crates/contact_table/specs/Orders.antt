-- A list of users that is found by hash.
use Rattle.std.specs.Prelude.{ℕ, List, [], ◌∷◌, ◌++◌, Bool, true, false, not, bytes_eq, if◌then◌else◌}
use Rattle.std.specs.List.{filter, list_any}

pub record OrderRecord : Type 0 where
  pub users : List (List ℕ)
  pub spare : ℕ  -- for how many more there is memory

-- a user that is to be there and isn't comes last; one that isn't to be there goes
abbrev pub with_user : List ℕ → Bool → List (List ℕ) → List (List ℕ)
with_user u true us = if list_any (bytes_eq u) us then us else us ++ u ∷ []
with_user u false us = filter (λ v. not (bytes_eq u v)) us
