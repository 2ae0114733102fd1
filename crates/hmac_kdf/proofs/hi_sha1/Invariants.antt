use Rattle.std.proofs.Common.{◌≡◌}
use Rattle.sha1.specs.Sha1.{sha1}
use Rattle.hmac_kdf.specs.Hi.{hi, u_of}
use Rattle.hmac_kdf.specs.Hmac.{hmac}
use Rattle.hmac_kdf.specs.Keyed.{IsKeyed1}
use Rattle.hmac_kdf.proofs.hi_sha1.Given as goal

-- After so many rounds, the last U and the sum of them all.
abbrev pub invariant-loop-round : goal.invariant-loop-round
invariant-loop-round l = record {
  keyed : IsKeyed1 l.keyed l.password;
  last : l.u ≡ u_of (hmac sha1) l.password l.salt l._round;
  sum : l.sum ≡ hi (hmac sha1) l.password l.salt l._round;
}
