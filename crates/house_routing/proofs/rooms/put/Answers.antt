use Rattle.std.proofs.Common.{◌≡◌, ◌∙◌, arith}
use Rattle.std.specs.List.{insert}
use Rattle.house_model.specs.RoomLookups.{stay_in}
use Rattle.house_routing.specs.Placings.{place_in}
use Rattle.house_routing.proofs.PlaceLemmas.{place_within, placed_is}
use Rattle.house_routing.proofs.rooms.put.Goals as goal

pub insert-requires : goal.insert-requires
insert-requires c =
    let within = place_within c.args.s c.stay_in.result c.as_slice.result.now in
    omega (arith, within, c.place_in-place.ensures, c.as_slice.ensures.len)

pub returns : goal.returns
returns c =
    let items = c.args.rooms.now.items in
    let place : c.place_in-place.result ≡ place_in c.args.s (stay_in c.args.s c.args.h.now) items =
    c.place_in-place.ensures ∙ (λ i. place_in c.args.s (c.stay_in.ensures i) (c.as_slice.ensures.value i)) in
    c.in_ok-insert.ensures.items
    ∙ ((λ i. insert items (place i) (c.in_ok-copy.ensures i)) ∙ placed_is c.args.s c.args.h.now items)
