use Rattle.std.proofs.Common.{◌≡◌, ◌++◌, ap, refl, sym, ◌∙◌, map}
use Rattle.std.specs.Prelude.{None}
use Rattle.std.proofs.lemmas.List.{length-map}
use Rattle.std.proofs.lemmas.List.Elements.{All-weaker}
use Rattle.house_model.specs.Promises.{Safe}
use Rattle.conn_serve.proofs.Leaving.{is_safe}
use Rattle.many_links.specs.declared.place.Place.{Place}
use Rattle.many_links.specs.Visits.{AllFree, open_of, spot_of}
use Rattle.many_links.proofs.Placing.{all_free_held, all_served, free_places, none_served}
use Rattle.many_links.proofs.Polling.{ends_on, kept_same, least, most, within_same}
use Rattle.many_links.proofs.Ringing.{none_rang}
use Rattle.many_links.proofs.Summing.{adds_none}
use Rattle.many_links.proofs.many.serve_many.Goals as goal

pub loop-init : goal.loop-init
loop-init g c =
    let f = (spot_of g.row.D-Pass.Denot g.row.P-Link.Denot g.row.C.Denot g.row.I.Denot g.D.Desk.line g.D.Desk.seen g.D.Desk.marked g.P.Link.Link.tape
    g.P.Link.Link.faults g.P.Link.Link.ends g.C.Clock.told g.I.Dice.drawn g.I.Dice.faults) in
    let free : AllFree (map f c.args.places.now.items)
    = free_places f (λ (p : Place g.row.D-Pass.Denot g.row.P-Link.Denot g.row.C.Denot g.row.I.Denot). p.busy ≡ None)
    (λ p none. ap (open_of g.row.P-Link.Denot g.P.Link.Link.tape g.P.Link.Link.faults g.P.Link.Link.ends) none)
    c.args.places.now.items c.requires.busy in
    record {
      can_next = tt;
      is_finite = tt;
      said = c.requires.said;
      pass = c.requires.pass;
      places = c.requires.places;
      count = refl;
      held = all_free_held c.args.accounts.now _ _ free c.requires.none;
      stand = none_served (g.D.Desk.opening c.args.desk.now).head.domain.domain c.args.accounts.now _ _ _ free;
      rings = none_rang _ _ free;
      quota = refl;
      within = λ w. w;
      sum = λ s. s;
      kept = least _;
    }

pub loop-preserved : goal.loop-preserved
loop-preserved g c = record {
  can_next = tt;
  is_finite = tt;
  said = c.in-None-serve_next.ensures.said;
  pass = c.in-None-serve_next.ensures.pass;
  places = c.in-None-serve_next.ensures.places;
  count = c.in-None-serve_next.ensures.count ∙ c.loop.invariant.count;
  held = c.in-None-serve_next.ensures.held;
  stand = c.in-None-serve_next.ensures.stand _ _ _ (length-map _ _ ∙ sym c.loop.invariant.count) c.loop.invariant.stand;
  rings = c.in-None-serve_next.ensures.rings _ _ (length-map _ _ ∙ sym c.loop.invariant.count) c.loop.invariant.rings;
  quota = c.in-None-serve_next.ensures.quota ∙ c.loop.invariant.quota;
  within = λ w. c.in-None-serve_next.ensures.within (c.loop.invariant.within w);
  sum = λ s. c.in-None-serve_next.ensures.sum (c.loop.invariant.sum s);
  kept = most _ _ _ c.loop.invariant.kept c.in-None-serve_next.ensures.kept;
}

pub returns-in-Some-serve_next-clause-count : goal.returns-in-Some-serve_next-clause-count
returns-in-Some-serve_next-clause-count g c = c.let_go_all.ensures.count ∙ (c.in-Some-serve_next.ensures.count ∙ c.loop.invariant.count)

pub returns-in-Some-serve_next-clause-served : goal.returns-in-Some-serve_next-clause-served
returns-in-Some-serve_next-clause-served g c =
    let same = c.in-Some-serve_next.ensures.count ∙ c.loop.invariant.count in
    all_served (g.D.Desk.opening c.args.desk.now).head.domain.domain c.args.accounts.now _ _ _ _ _ _
    (length-map _ _ ∙ (sym (c.let_go_all.ensures.count ∙ same) ∙ sym (length-map _ _))) c.let_go_all.ensures.free
    (c.let_go_all.ensures.stand _ _ _ (length-map _ _ ∙ sym same)
    (c.in-Some-serve_next.ensures.stand _ _ _ (length-map _ _ ∙ sym c.loop.invariant.count) c.loop.invariant.stand))

pub returns-in-Some-serve_next-clause-rings : goal.returns-in-Some-serve_next-clause-rings
returns-in-Some-serve_next-clause-rings g c =
    let same = c.in-Some-serve_next.ensures.count ∙ c.loop.invariant.count in
    c.let_go_all.ensures.rings _ _ (length-map _ _ ∙ sym same)
    (c.in-Some-serve_next.ensures.rings _ _ (length-map _ _ ∙ sym c.loop.invariant.count) c.loop.invariant.rings)

pub returns-in-Some-serve_next-clause-quota : goal.returns-in-Some-serve_next-clause-quota
returns-in-Some-serve_next-clause-quota g c = c.let_go_all.ensures.quota ∙ (c.in-Some-serve_next.ensures.quota ∙ c.loop.invariant.quota)

pub returns-in-Some-serve_next-clause-within : goal.returns-in-Some-serve_next-clause-within
returns-in-Some-serve_next-clause-within g c = λ w.
    within_same _ _ _ _ c.let_go_all.ensures.quota c.let_go_all.ensures.links (c.in-Some-serve_next.ensures.within (c.loop.invariant.within w))

pub returns-in-Some-serve_next-clause-places : goal.returns-in-Some-serve_next-clause-places
returns-in-Some-serve_next-clause-places g c =
    c.let_go_all.ensures.places ∙ (c.let_go_all.ensures.count ∙ (c.in-Some-serve_next.ensures.count ∙ (c.loop.invariant.count ∙ sym c.requires.places)))

pub returns-in-Some-serve_next-clause-sum : goal.returns-in-Some-serve_next-clause-sum
returns-in-Some-serve_next-clause-sum g c = λ s.
    adds_none _ _ _ _ _ _ (c.let_go_all.ensures.places ∙ (c.let_go_all.ensures.count ∙ sym c.in-Some-serve_next.ensures.places))
    c.let_go_all.ensures.came c.let_go_all.ensures.links (c.in-Some-serve_next.ensures.sum (c.loop.invariant.sum s))

pub returns-in-Some-serve_next-clause-kept : goal.returns-in-Some-serve_next-clause-kept
returns-in-Some-serve_next-clause-kept g c =
    kept_same _ _ _ (most _ _ _ c.loop.invariant.kept c.in-Some-serve_next.ensures.kept) c.let_go_all.ensures.faults

pub returns-in-Some-serve_next-clause-ends : goal.returns-in-Some-serve_next-clause-ends
returns-in-Some-serve_next-clause-ends g c =
    ends_on c.in-Some-serve_next.ended _ _ _ _ _ _ _ _ c.loop.invariant.kept c.let_go_all.ensures.quota c.let_go_all.ensures.links c.let_go_all.ensures.faults
    c.in-Some-serve_next.ensures.ends

pub returns-in-Some-serve_next-clause-safe : goal.returns-in-Some-serve_next-clause-safe
returns-in-Some-serve_next-clause-safe g c =
    All-weaker (λ (p : Place g.row.D-Pass.Denot g.row.P-Link.Denot g.row.C.Denot g.row.I.Denot). g.D.Desk.came_from c.args.desk.now p.pass)
    (λ (p : Place g.row.D-Pass.Denot g.row.P-Link.Denot g.row.C.Denot g.row.I.Denot). ∥ Safe (g.D.Desk.opening c.args.desk.now)
    (g.D.Desk.earlier c.args.desk.now ++ g.D.Desk.seen p.pass) ∥₁)
    (λ p came. is_safe _ _ (g.met.D.Desk.opens c.args.desk.now) (g.met.D.Desk.legal c.args.desk.now p.pass came)) _ c.let_go_all.ensures.pass
