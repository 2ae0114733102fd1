use Rattle.std.proofs.Common.{List, position, set, sym, ap, ◌∙◌}
use Rattle.muc_service.specs.Rooms.{Hosted, enters}
use Rattle.muc_service.proofs.PlaceLemmas.{changed_at, changed_none, is_room}
use Rattle.muc_service.proofs.changing.enter.Goals as goal

pub returns-in_ok-enter_at : goal.returns-in_ok-enter_at
returns-in_ok-enter_at c =
    ap (λ (h : Hosted). set c.args.hosted.now.items c.in-Some.place h) c.in_ok-enter_at.ensures
    ∙ changed_at c.args.n c.in-Some.place (enters c.args.seat.now c.args.nick.now c.args.role) c.index_mut.result.now c.args.hosted.now.items
    (ap (λ (hs : List Hosted). position (is_room c.args.n) hs) (sym c.as_slice.ensures.value) ∙ (sym c.place_of.ensures ∙ c.in-Some.is))
    c.index_mut.ensures.value

pub returns-in_default : goal.returns-in_default
returns-in_default c =
    changed_none c.args.n (enters c.args.seat.now c.args.nick.now c.args.role) c.args.hosted.now.items
    (ap (λ (hs : List Hosted). position (is_room c.args.n) hs) (sym c.as_slice.ensures.value) ∙ (sym c.place_of.ensures ∙ c.in_default.is))
