-- Counts of faults.
use Rattle.std.proofs.Common.{◌≡◌, ℕ, ◌≤◌, arith}
use Rattle.std.specs.Prelude.{Result, Ok, Err, IfErr}
use Rattle.outside.specs.Devices.{Rose}
use Rattle.script_play.specs.declared.status.Status.{Status}
use Rattle.script_play.specs.declared.status.Status.TheVariants as status

-- a source that never fails
pub never : Rose 0 0 → ⊥
never rose = omega (arith, rose)

-- a fault since a later count is one since an earlier count
pub read-before : {X : Type 0} (a b n : ℕ) (r : Result X Status) → a ≤ b → IfErr r (λ s. s ≡ status.ReadFault → Rose b n)
    → IfErr r (λ s. s ≡ status.ReadFault → Rose a n)
read-before a b n (Ok x) less rose = tt
read-before a b n (Err s) less rose = λ is. later less (rose is)
  where
    later : a ≤ b → Rose b n → Rose a n
    later less rose = omega (arith, less, rose)
