use Rattle.std.proofs.Common.{◌≡◌, ◌≤◌, [], length, map}
use Rattle.std.specs.Prelude.{All}
use Rattle.conn_serve.specs.Shifts.{IsWithin}
use Rattle.many_links.specs.declared.place.Place.{Place}
use Rattle.many_links.specs.Ringing.{AllRang}
use Rattle.many_links.specs.Visits.{AddsUp, AllHeld, AllStand, spot_of}
use Rattle.many_links.proofs.many.serve_many.Given as goal

abbrev pub invariant-loop : goal.invariant-loop
invariant-loop g l = record {
  can_next : (goal.iterator-loop g).can_next l.iterator';
  is_finite : (goal.iterator-loop g).is_finite l.iterator';
  said : l.said ≡ [];
  pass : All (λ (p : Place g.row.D-Pass.Denot g.row.P-Link.Denot g.row.C.Denot g.row.I.Denot). g.D.Desk.came_from l.desk p.pass) l.places.items;
  places : g.P.Poller.places l.poller ≡ length l.places.items;
  count : length l.places.items ≡ length l.fn.places.items;
  held : AllHeld l.accounts (g.P.Poller.taken l.poller) (map (spot_of g.row.D-Pass.Denot g.row.P-Link.Denot g.row.C.Denot g.row.I.Denot g.D.Desk.line g.D.Desk.seen
      g.D.Desk.marked g.P.Link.Link.tape g.P.Link.Link.faults g.P.Link.Link.ends g.C.Clock.told g.I.Dice.drawn g.I.Dice.faults) l.places.items);
  stand : AllStand (g.D.Desk.opening l.desk).head.domain.domain l.accounts
      (map (spot_of g.row.D-Pass.Denot g.row.P-Link.Denot g.row.C.Denot g.row.I.Denot g.D.Desk.line g.D.Desk.seen g.D.Desk.marked g.P.Link.Link.tape
      g.P.Link.Link.faults g.P.Link.Link.ends g.C.Clock.told g.I.Dice.drawn g.I.Dice.faults) l.fn.places.items) (g.P.Poller.tapes l.fn.poller)
      (g.P.Poller.came l.fn.poller)
      (map (spot_of g.row.D-Pass.Denot g.row.P-Link.Denot g.row.C.Denot g.row.I.Denot g.D.Desk.line g.D.Desk.seen g.D.Desk.marked g.P.Link.Link.tape
      g.P.Link.Link.faults g.P.Link.Link.ends g.C.Clock.told g.I.Dice.drawn g.I.Dice.faults) l.places.items) (g.P.Poller.tapes l.poller) (g.P.Poller.came l.poller);
  rings : AllRang
      (map (spot_of g.row.D-Pass.Denot g.row.P-Link.Denot g.row.C.Denot g.row.I.Denot g.D.Desk.line g.D.Desk.seen g.D.Desk.marked g.P.Link.Link.tape
      g.P.Link.Link.faults g.P.Link.Link.ends g.C.Clock.told g.I.Dice.drawn g.I.Dice.faults) l.fn.places.items) (g.P.Poller.rung l.fn.poller)
      (map (spot_of g.row.D-Pass.Denot g.row.P-Link.Denot g.row.C.Denot g.row.I.Denot g.D.Desk.line g.D.Desk.seen g.D.Desk.marked g.P.Link.Link.tape
      g.P.Link.Link.faults g.P.Link.Link.ends g.C.Clock.told g.I.Dice.drawn g.I.Dice.faults) l.places.items) (g.P.Poller.rung l.poller);
  quota : g.P.Poller.quota l.poller ≡ g.P.Poller.quota l.fn.poller;
  within : IsWithin (g.P.Poller.quota l.fn.poller) (g.P.Poller.links l.fn.poller) → IsWithin (g.P.Poller.quota l.poller) (g.P.Poller.links l.poller);
  sum : AddsUp (g.P.Poller.places l.fn.poller) (g.P.Poller.came l.fn.poller) (g.P.Poller.links l.fn.poller)
      → AddsUp (g.P.Poller.places l.poller) (g.P.Poller.came l.poller) (g.P.Poller.links l.poller);
  kept : g.P.Poller.faults l.fn.poller ≤ g.P.Poller.faults l.poller;
}
