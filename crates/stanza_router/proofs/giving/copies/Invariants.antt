use Rattle.std.proofs.Common.{◌≡◌, ◌++◌, map, drop}
use Rattle.std.specs.Option.{option_copied}
use Rattle.jid_core.specs.Addresses.{address_text}
use Rattle.stanza_router.specs.Messages.{addressed, queued_as}
use Rattle.stanza_router.proofs.giving.copies.Given as goal

abbrev pub invariant-loop-other : goal.invariant-loop-other
invariant-loop-other l = record {
  to : l.to ≡ address_text (addressed l.fn.who (option_copied l.fn.to));
  rest : l.rest ≡ l.fn.rest;
  made : l.effects.items ++ map (queued_as l.fn.who (option_copied l.fn.to) l.fn.rest) (drop l.other-index l.others)
      ≡ map (queued_as l.fn.who (option_copied l.fn.to) l.fn.rest) l.others;
}
