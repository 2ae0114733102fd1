use Rattle.std.proofs.Common.{◌≡◌, ◌++◌, drop, map}
use Rattle.muc_room.specs.Histories.{history, told_again}
use Rattle.muc_room.proofs.histories.push_history.Given as goal

abbrev pub invariant-loop-message : goal.invariant-loop-message
invariant-loop-message l =
    l.effects.items ++ map (told_again l.fn.room l.fn.stay l.fn.who) (drop l.message-index l.past)
    ≡ l.fn.effects.items ++ history l.fn.room l.fn.stay l.fn.who l.fn.past
