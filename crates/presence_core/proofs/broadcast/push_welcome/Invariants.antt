use Rattle.std.proofs.Common.{◌≡◌, ◌++◌, drop, map}
use Rattle.presence_core.specs.Broadcasts.{asked_by, shown_to}
use Rattle.presence_core.proofs.broadcast.push_welcome.Given as goal

abbrev pub invariant-loop-presence : goal.invariant-loop-presence
invariant-loop-presence l =
    l.effects.items ++ map (shown_to l.fn.who) (drop l.presence-index l.shown) ≡ l.fn.effects.items ++ map (shown_to l.fn.who) l.fn.shown

abbrev pub invariant-loop-from : goal.invariant-loop-from
invariant-loop-from l =
    l.effects.items ++ map (asked_by l.fn.who) (drop l.from-index l.asking)
    ≡ l.fn.effects.items ++ (map (shown_to l.fn.who) l.fn.shown ++ map (asked_by l.fn.who) l.fn.asking)
