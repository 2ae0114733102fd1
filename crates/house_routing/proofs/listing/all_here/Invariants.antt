use Rattle.std.proofs.Common.{◌≡◌, ◌++◌, drop}
use Rattle.std.specs.Prelude.{flat_map}
use Rattle.session_table.specs.Tables.{session_of}
use Rattle.house_routing.specs.Listings.{here_in}
use Rattle.house_routing.proofs.listing.all_here.Given as goal

abbrev pub invariant-loop-number : goal.invariant-loop-number
invariant-loop-number l =
    l.found.items ++ flat_map (λ s. here_in s (session_of s l.world.table)) (drop l.number-index l.numbers)
    ≡ flat_map (λ s. here_in s (session_of s l.fn.world.table)) l.fn.numbers
