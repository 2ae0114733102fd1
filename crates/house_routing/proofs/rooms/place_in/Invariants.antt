use Rattle.std.proofs.Common.{◌≡◌, ◌+◌, ◌≤◌, drop}
use Rattle.house_routing.specs.Placings.{place_in}
use Rattle.house_routing.proofs.rooms.place_in.Given as goal

abbrev pub invariant-loop-h : goal.invariant-loop-h
invariant-loop-h l = record {
  most : l.place ≤ l.h-index;
  all : l.place + place_in l.s l.stay (drop l.h-index l.rooms) ≡ place_in l.s l.stay l.rooms;
}
