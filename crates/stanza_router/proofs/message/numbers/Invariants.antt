use Rattle.std.proofs.Common.{◌≡◌, ◌++◌, map, drop}
use Rattle.stanza_router.proofs.message.numbers.Given as goal

abbrev pub invariant-loop-h : goal.invariant-loop-h
invariant-loop-h l = record {
  made : l.numbers.items ++ map (λ h. h.session) (drop l.h-index l.sessions) ≡ map (λ h. h.session) l.sessions;
}
