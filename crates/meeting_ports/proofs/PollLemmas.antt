-- The places of a poller with one link.
use Rattle.std.proofs.Common.{◌≡◌, ℕ, zero, suc, false, refl}
use Rattle.meeting_ports.specs.Meetings.{PollerCounts, takes}

pub none_taken : (v : PollerCounts) (k : ℕ) → v.taken ≡ false → takes v k ≡ false
none_taken v zero free = free
none_taken v (suc k) free = refl
