use Rattle.std.proofs.Common.{◌≡◌, ◌++◌, drop, map, not}
use Rattle.std.specs.List.{filter}
use Rattle.muc_room.specs.Entries.{opening, openings}
use Rattle.muc_room.specs.Seats.{has_nick}
use Rattle.muc_room.proofs.entry.push_openings.Given as goal

abbrev pub invariant-loop-occupant : goal.invariant-loop-occupant
invariant-loop-occupant l =
    l.effects.items ++ map (opening l.fn.room l.fn.stay l.fn.who l.fn.role) (filter (λ o. not (has_nick l.fn.nick o)) (drop l.occupant-index l.occupant-items))
    ≡ l.fn.effects.items ++ openings l.fn.room l.fn.stay l.fn.who l.fn.role l.fn.nick
