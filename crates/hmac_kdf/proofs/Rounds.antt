-- One round more of `Hi`.
use Rattle.std.proofs.Common.{◌≡◌, ℕ, zero, suc, ◌+◌, ◌<◌, List, arith, refl, add-one}
use Rattle.hmac_kdf.specs.Hi.{exclusive_or, hi, u_of}

pub u_of_next : (mac : List ℕ → List ℕ → List ℕ) (str salt : List ℕ) (i : ℕ)
    → u_of mac str salt (i + 1) ≡ mac str (u_of mac str salt i)
unfolding u_of
u_of_next mac str salt i = rw (add-one i)

pub hi_one : (mac : List ℕ → List ℕ → List ℕ) (str salt : List ℕ)
    → hi mac str salt 1 ≡ u_of mac str salt 1
unfolding hi
hi_one mac str salt = refl

pub hi_next : (mac : List ℕ → List ℕ → List ℕ) (str salt : List ℕ) (i : ℕ) → 0 < i
    → hi mac str salt (i + 1) ≡ exclusive_or (hi mac str salt i) (u_of mac str salt (i + 1))
unfolding hi
hi_next mac str salt zero some = absurd (omega arith)
hi_next mac str salt (suc i) some = rw (add-one (suc i))

-- What a step of the rounds is proved by.
pub ruleset one_round_more = (u_of_next, hi_one, hi_next)
