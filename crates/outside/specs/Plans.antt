-- Which calls of a memory form fail.
use Rattle.std.specs.Prelude.{ℕ, ◌+◌, ◌-◌, ◌^◌, ◌==◌, min, List, Bool}
use Rattle.std.specs.List.{list_any}

-- the next number of a count that stays at 2^64 - 1 once it is there
abbrev pub raised : ℕ → ℕ
raised n = min (n + 1) (2 ^ 64 - 1)

-- the numbers of the calls that are to fail, how many calls there were, and how many faults
pub record Plan : Type 0 where
  pub fails : List ℕ
  pub calls : ℕ
  pub faults : ℕ

abbrev pub planned : List ℕ → Plan
planned fails = record { fails = fails; calls = 0; faults = 0 }

-- whether the next call is to fail: its number, from 1, is on the list
abbrev pub fails_next : Plan → Bool
fails_next p = list_any (λ n. n == raised p.calls) p.fails

-- after a call that was answered
abbrev pub called : Plan → Plan
called p = record p { calls = raised p.calls }

-- after a call that failed
abbrev pub failed : Plan → Plan
failed p = record p { calls = raised p.calls; faults = raised p.faults }
