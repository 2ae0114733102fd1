use Rattle.std.proofs.Common.{List, position, set, sym, ap, ◌∙◌, arith}
use Rattle.muc_service.specs.Rooms.{Hosted}
use Rattle.muc_service.proofs.PlaceLemmas.{counted_at, counted_none, is_room, items_at}
use Rattle.muc_service.proofs.changing.count.Goals as goal

pub count-requires : goal.count-requires
count-requires c =
    let most = items_at c.args.n c.in-Some.place c.index_mut.result.now c.args.hosted.now.items
    (ap (λ (hs : List Hosted). position (is_room c.args.n) hs) (sym c.as_slice.ensures.value) ∙ (sym c.place_of.ensures ∙ c.in-Some.is))
    c.index_mut.ensures.value in
    omega (arith, most, c.requires)

pub returns-in-Some : goal.returns-in-Some
returns-in-Some c =
    ap (λ (h : Hosted). set c.args.hosted.now.items c.in-Some.place h) c.count.ensures
    ∙ counted_at c.args.n c.in-Some.place c.index_mut.result.now c.args.hosted.now.items
    (ap (λ (hs : List Hosted). position (is_room c.args.n) hs) (sym c.as_slice.ensures.value) ∙ (sym c.place_of.ensures ∙ c.in-Some.is))
    c.index_mut.ensures.value

pub returns-in_default : goal.returns-in_default
returns-in_default c =
    counted_none c.args.n c.args.hosted.now.items
    (ap (λ (hs : List Hosted). position (is_room c.args.n) hs) (sym c.as_slice.ensures.value) ∙ (sym c.place_of.ensures ∙ c.in_default.is))
