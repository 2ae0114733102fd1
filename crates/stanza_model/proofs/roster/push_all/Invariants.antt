use Rattle.std.proofs.Common.{◌≡◌, ◌++◌, drop}
use Rattle.stanza_model.specs.Rosters.{pushes}
use Rattle.stanza_model.proofs.roster.push_all.Given as goal

abbrev pub invariant-loop-h : goal.invariant-loop-h
invariant-loop-h l = l.effects.items ++ pushes (drop l.h-index l.sessions) l.item ≡ l.initial.effects.items ++ pushes l.sessions l.item
