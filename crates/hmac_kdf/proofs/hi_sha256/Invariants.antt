use Rattle.std.proofs.Common.{◌≡◌}
use Rattle.sha2.specs.Sha256.{sha256}
use Rattle.hmac_kdf.specs.Hi.{hi, u_of}
use Rattle.hmac_kdf.specs.Hmac.{hmac}
use Rattle.hmac_kdf.specs.Keyed.{IsKeyed256}
use Rattle.hmac_kdf.proofs.hi_sha256.Given as goal

-- After so many rounds, the last U and the sum of them all.
abbrev pub invariant-loop-round : goal.invariant-loop-round
invariant-loop-round l = record {
  keyed : IsKeyed256 l.keyed l.password;
  last : l.u ≡ u_of (hmac sha256) l.password l.salt l._round;
  sum : l.sum ≡ hi (hmac sha256) l.password l.salt l._round;
}
