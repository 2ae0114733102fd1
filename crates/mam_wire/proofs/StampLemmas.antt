-- Stamps: how long they are, and one of them.
use Rattle.std.proofs.Common.{◌≡◌, ℕ, length, codes, refl}
use Rattle.mam_wire.specs.Stamps.{day_after, stamp_text}

pub stamp_length : (moment : ℕ) → length (stamp_text moment) ≡ 24
unfolding stamp_text
stamp_length moment = refl

twenty-seconds : stamp_text 20000 ≡ codes "1970-01-01T00:00:20.000Z"
unfolding stamp_text day_after
twenty-seconds = refl
