use Rattle.std.proofs.Common.{◌≡◌, ◌+◌, ◌^◌, drop, map, min}
use Rattle.std.specs.List.{sum}
use Rattle.stanza_model.specs.RosterLimits.{counted}
use Rattle.roster_book.specs.Refusals.{others, text_after}
use Rattle.roster_book.proofs.refusal.has_too_much_text.Given as goal

abbrev pub invariant-loop-other : goal.invariant-loop-other
invariant-loop-other l =
    min (l.sum + sum (map counted (others l.contact.address (drop l.other-index l.contacts)))) (2 ^ 63)
    ≡ min (text_after l.contacts l.contact) (2 ^ 63)
