use Rattle.std.proofs.Common.{◌≡◌, ◌++◌, drop, not}
use Rattle.std.specs.List.{filter}
use Rattle.muc_room.specs.Seats.{has_seat}
use Rattle.muc_room.proofs.state.all_but.Given as goal

abbrev pub invariant-loop-occupant : goal.invariant-loop-occupant
invariant-loop-occupant l =
    l.kept.items ++ filter (λ o. not (has_seat l.fn.session o)) (drop l.occupant-index l.occupants)
    ≡ filter (λ o. not (has_seat l.fn.session o)) l.fn.occupants
