use Rattle.std.proofs.Common.{◌<◌, ◌-◌, ◌^◌, take}
use Rattle.std.specs.Prelude.{All}
use Rattle.house_routing.proofs.rosters.count.Given as goal

abbrev pub invariant-loop-h : goal.invariant-loop-h
invariant-loop-h l = All (λ x. x.pushes < 2 ^ 64 - 2) (take l.h-index l.sessions)
