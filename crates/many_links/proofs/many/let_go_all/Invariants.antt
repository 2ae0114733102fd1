use Rattle.std.proofs.Common.{◌≡◌, ℕ, List, length, map}
use Rattle.std.specs.Prelude.{All, Option}
use Rattle.outside.specs.declared.poller.Rung.{Rung}
use Rattle.many_links.specs.declared.place.Place.{Place}
use Rattle.many_links.specs.Ringing.{AllRang}
use Rattle.many_links.specs.Visits.{AllHeld, AllStand, FreeBefore, Links, Spot, Tapes, spot_of}
use Rattle.many_links.proofs.many.let_go_all.Given as goal

abbrev pub invariant-loop-k : goal.invariant-loop-k
invariant-loop-k g l = record {
  pass : All (λ (p : Place g.row.D-Pass.Denot g.row.P-Link.Denot g.row.C.Denot g.row.I.Denot). g.D.Desk.came_from l.desk p.pass) l.places.items;
  places : g.P.Poller.places l.poller ≡ length l.places.items;
  count : length l.places.items ≡ length l.fn.places.items;
  held : AllHeld l.accounts (g.P.Poller.taken l.poller) (map (spot_of g.row.D-Pass.Denot g.row.P-Link.Denot g.row.C.Denot g.row.I.Denot g.D.Desk.line g.D.Desk.seen
      g.D.Desk.marked g.P.Link.Link.tape g.P.Link.Link.faults g.P.Link.Link.ends g.C.Clock.told g.I.Dice.drawn g.I.Dice.faults) l.places.items);
  stand : (olds : List Spot) (tapes : Tapes) (links : Links) → length olds ≡ length l.fn.places.items
      → AllStand (g.D.Desk.opening l.desk).head.domain.domain l.accounts olds tapes links
      (map (spot_of g.row.D-Pass.Denot g.row.P-Link.Denot g.row.C.Denot g.row.I.Denot g.D.Desk.line g.D.Desk.seen g.D.Desk.marked g.P.Link.Link.tape
      g.P.Link.Link.faults g.P.Link.Link.ends g.C.Clock.told g.I.Dice.drawn g.I.Dice.faults) l.fn.places.items) (g.P.Poller.tapes l.fn.poller)
      (g.P.Poller.came l.fn.poller)
      → AllStand (g.D.Desk.opening l.desk).head.domain.domain l.accounts olds tapes links
      (map (spot_of g.row.D-Pass.Denot g.row.P-Link.Denot g.row.C.Denot g.row.I.Denot g.D.Desk.line g.D.Desk.seen g.D.Desk.marked g.P.Link.Link.tape
      g.P.Link.Link.faults g.P.Link.Link.ends g.C.Clock.told g.I.Dice.drawn g.I.Dice.faults) l.places.items) (g.P.Poller.tapes l.poller) (g.P.Poller.came l.poller);
  rings : (olds : List Spot) (rung : Option (List Rung)) → length olds ≡ length l.fn.places.items
      → AllRang olds rung
      (map (spot_of g.row.D-Pass.Denot g.row.P-Link.Denot g.row.C.Denot g.row.I.Denot g.D.Desk.line g.D.Desk.seen g.D.Desk.marked g.P.Link.Link.tape
      g.P.Link.Link.faults g.P.Link.Link.ends g.C.Clock.told g.I.Dice.drawn g.I.Dice.faults) l.fn.places.items) (g.P.Poller.rung l.fn.poller)
      → AllRang olds rung
      (map (spot_of g.row.D-Pass.Denot g.row.P-Link.Denot g.row.C.Denot g.row.I.Denot g.D.Desk.line g.D.Desk.seen g.D.Desk.marked g.P.Link.Link.tape
      g.P.Link.Link.faults g.P.Link.Link.ends g.C.Clock.told g.I.Dice.drawn g.I.Dice.faults) l.places.items) (g.P.Poller.rung l.poller);
  free : FreeBefore l.k (map (spot_of g.row.D-Pass.Denot g.row.P-Link.Denot g.row.C.Denot g.row.I.Denot g.D.Desk.line g.D.Desk.seen g.D.Desk.marked
      g.P.Link.Link.tape g.P.Link.Link.faults g.P.Link.Link.ends g.C.Clock.told g.I.Dice.drawn g.I.Dice.faults) l.places.items);
  quota : g.P.Poller.quota l.poller ≡ g.P.Poller.quota l.fn.poller;
  came : (j : ℕ) → g.P.Poller.came l.poller j ≡ g.P.Poller.came l.fn.poller j;
  links : g.P.Poller.links l.poller ≡ g.P.Poller.links l.fn.poller;
  faults : g.P.Poller.faults l.poller ≡ g.P.Poller.faults l.fn.poller;
}
