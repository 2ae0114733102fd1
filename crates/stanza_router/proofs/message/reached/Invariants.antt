use Rattle.std.proofs.Common.{◌≡◌, ◌++◌, map, drop}
use Rattle.std.specs.List.{filter}
use Rattle.stanza_router.specs.Messages.{is_reached}
use Rattle.stanza_router.proofs.message.reached.Given as goal

abbrev pub invariant-loop-h : goal.invariant-loop-h
invariant-loop-h l = record {
  made : l.numbers.items ++ map (λ h. h.session) (filter is_reached (drop l.h-index l.sessions))
      ≡ map (λ h. h.session) (filter is_reached l.sessions);
}
