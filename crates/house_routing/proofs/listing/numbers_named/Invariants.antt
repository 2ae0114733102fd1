use Rattle.std.proofs.Common.{◌≡◌, ◌++◌, drop}
use Rattle.std.specs.Prelude.{flat_map}
use Rattle.house_routing.specs.Listings.{is_named_by, numbers_by}
use Rattle.house_routing.proofs.listing.numbers_named.Given as goal

abbrev pub invariant-loop-address : goal.invariant-loop-address
invariant-loop-address l =
    l.numbers.items ++ flat_map (λ a. numbers_by (is_named_by a) l.world.table.sessions) (drop l.address-index l.addresses)
    ≡ flat_map (λ a. numbers_by (is_named_by a) l.fn.world.table.sessions) l.fn.addresses
