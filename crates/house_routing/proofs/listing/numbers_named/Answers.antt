use Rattle.std.proofs.Common.{arith}
use Rattle.house_routing.proofs.NamedLemmas.{named_once}
use Rattle.house_routing.proofs.listing.numbers_named.Goals as goal

pub returns : goal.returns
returns c =
    let t = c.args.world.now.table in
    named_once c.args.addresses.now t.made t.sessions c.loop-address.address-index c.loop-address.numbers.items c.sort_unstable.new.self.items
    c.dedup.new.self.items
    c.session.ensures.rises (omega (arith, c.loop-address-test.false)) c.loop-address.invariant c.sort_unstable.ensures.permutation
    c.sort_unstable.ensures.sorted c.dedup.ensures.filtered
