use Rattle.std.proofs.Common.{◌≡◌, ◌+◌, ◌^◌, drop, map, min, sum}
use Rattle.muc_admin.specs.Listings.{counted}
use Rattle.muc_admin.proofs.listing.is_too_large.Given as goal

abbrev pub invariant-loop-x : goal.invariant-loop-x
invariant-loop-x l = min (l.sum + sum (map counted (drop l.x-index l.known))) (2 ^ 63) ≡ min (sum (map counted l.known)) (2 ^ 63)
