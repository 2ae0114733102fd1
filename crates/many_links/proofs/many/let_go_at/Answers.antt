use Rattle.std.proofs.Common.{ℕ, ap, refl, sym, ◌∙◌}
use Rattle.std.proofs.lemmas.List.{length-set}
use Rattle.std.proofs.lemmas.List.Elements.{All-set}
use Rattle.many_links.specs.declared.place.Place.{Place}
use Rattle.many_links.specs.Visits.{is_taken, spot_of}
use Rattle.many_links.proofs.Placing.{free_before, free_held, held_at}
use Rattle.many_links.proofs.Placing.{place_held, stands_back, stands_on}
use Rattle.many_links.proofs.Polling.{all_at}
use Rattle.many_links.proofs.Ringing.{rang_on}
use Rattle.many_links.proofs.many.let_go_at.Goals as goal

pub let_go-requires-clause-pass : goal.let_go-requires-clause-pass
let_go-requires-clause-pass g c = all_at (λ (p : Place g.row.D-Pass.Denot g.row.P-Link.Denot g.row.C.Denot g.row.I.Denot). g.D.Desk.came_from c.args.desk.now p.pass)
    c.args.places.now.items c.args.k c.index_mut-place.result.now c.requires.place c.index_mut-place.ensures.value c.requires.pass

pub let_go-requires-clause-open_at : goal.let_go-requires-clause-open_at
let_go-requires-clause-open_at g c =
    (held_at c.args.accounts.now (spot_of g.row.D-Pass.Denot g.row.P-Link.Denot g.row.C.Denot g.row.I.Denot g.D.Desk.line g.D.Desk.seen g.D.Desk.marked
    g.P.Link.Link.tape g.P.Link.Link.faults g.P.Link.Link.ends g.C.Clock.told g.I.Dice.drawn g.I.Dice.faults) c.args.places.now.items _ c.args.k
    c.index_mut-place.result.now c.requires.place c.index_mut-place.ensures.value c.requires.held).open_at

pub give_back-requires : goal.give_back-requires
give_back-requires g c =
    (held_at c.args.accounts.now (spot_of g.row.D-Pass.Denot g.row.P-Link.Denot g.row.C.Denot g.row.I.Denot g.D.Desk.line g.D.Desk.seen g.D.Desk.marked
    g.P.Link.Link.tape g.P.Link.Link.faults g.P.Link.Link.ends g.C.Clock.told g.I.Dice.drawn g.I.Dice.faults) c.args.places.now.items _ c.args.k
    c.index_mut-place.result.now c.requires.place c.index_mut-place.ensures.value c.requires.held).known ∙ c.in-Some.ensures.attended.2

pub returns-in-Some : goal.returns-in-Some
returns-in-Some g c =
    let f = (spot_of g.row.D-Pass.Denot g.row.P-Link.Denot g.row.C.Denot g.row.I.Denot g.D.Desk.line g.D.Desk.seen g.D.Desk.marked g.P.Link.Link.tape
    g.P.Link.Link.faults g.P.Link.Link.ends g.C.Clock.told g.I.Dice.drawn g.I.Dice.faults) in
    let held = held_at c.args.accounts.now f c.args.places.now.items _ c.args.k c.index_mut-place.result.now c.requires.place c.index_mut-place.ensures.value
    c.requires.held in
    record {
      pass = All-set (λ (p : Place g.row.D-Pass.Denot g.row.P-Link.Denot g.row.C.Denot g.row.I.Denot). g.D.Desk.came_from c.args.desk.now p.pass)
          c.args.places.now.items c.args.k c.let_go.new.place c.let_go.ensures.pass c.requires.pass;
      places = c.give_back.ensures.places ∙ (c.requires.places ∙ sym (length-set c.args.places.now.items c.args.k c.let_go.new.place));
      count = length-set c.args.places.now.items c.args.k c.let_go.new.place;
      held = place_held c.args.accounts.now f c.args.places.now.items _ _ c.args.k c.let_go.new.place
          (free_held c.args.accounts.now _ (f c.let_go.new.place) c.give_back.ensures.back.free c.let_go.ensures.free) c.give_back.ensures.back.others c.requires.held;
      stand = λ olds tapes links same all.
          stands_back (λ (n : ℕ). n) (g.D.Desk.opening c.args.desk.now).head.domain.domain c.args.accounts.now f olds c.args.places.now.items tapes links _ _ _ _
          c.args.k c.index_mut-place.result.now c.let_go.new.place
          (g.P.Link.Link.tape c.in-Some.link) c.requires.place c.index_mut-place.ensures.value same c.in-Some.ensures.attended.0 c.give_back.ensures.tape
          c.give_back.ensures.tapes
          (c.give_back.ensures.back.came c.args.k) (λ j apart. c.give_back.ensures.back.came j) all;
      rings = λ olds rung same all.
          rang_on f olds c.args.places.now.items c.args.k c.index_mut-place.result.now c.let_go.new.place rung _ _ c.requires.place
          c.index_mut-place.ensures.value same c.give_back.ensures.rung c.let_go.ensures.asked c.let_go.ensures.free all;
      free = free_before f c.args.places.now.items c.args.k c.let_go.new.place c.requires.place c.let_go.ensures.free;
      quota = c.give_back.ensures.quota;
      came = c.give_back.ensures.back.came;
      links = c.give_back.ensures.back.links;
      faults = c.give_back.ensures.faults;
    }

pub returns-in-None : goal.returns-in-None
returns-in-None g c =
    let f = (spot_of g.row.D-Pass.Denot g.row.P-Link.Denot g.row.C.Denot g.row.I.Denot g.D.Desk.line g.D.Desk.seen g.D.Desk.marked g.P.Link.Link.tape
    g.P.Link.Link.faults g.P.Link.Link.ends g.C.Clock.told g.I.Dice.drawn g.I.Dice.faults) in
    let held = held_at c.args.accounts.now f c.args.places.now.items _ c.args.k c.index_mut-place.result.now c.requires.place c.index_mut-place.ensures.value
    c.requires.held in
    record {
      pass = All-set (λ (p : Place g.row.D-Pass.Denot g.row.P-Link.Denot g.row.C.Denot g.row.I.Denot). g.D.Desk.came_from c.args.desk.now p.pass)
          c.args.places.now.items c.args.k c.let_go.new.place c.let_go.ensures.pass c.requires.pass;
      places = c.requires.places ∙ sym (length-set c.args.places.now.items c.args.k c.let_go.new.place);
      count = length-set c.args.places.now.items c.args.k c.let_go.new.place;
      held = place_held c.args.accounts.now f c.args.places.now.items _ _ c.args.k c.let_go.new.place
          (free_held c.args.accounts.now _ (f c.let_go.new.place)
          (held.known ∙ (sym c.in-None.ensures.attended.1 ∙ ap is_taken c.let_go.ensures.free)) c.let_go.ensures.free) (λ j apart. refl) c.requires.held;
      stand = λ olds tapes links same all.
          stands_on (λ (n : ℕ). n) (g.D.Desk.opening c.args.desk.now).head.domain.domain c.args.accounts.now f olds c.args.places.now.items tapes links _ _ _ _
          c.args.k c.index_mut-place.result.now c.let_go.new.place
          c.requires.place c.index_mut-place.ensures.value same c.in-None.ensures.attended.0 (λ j. refl) refl (λ j apart. refl) all;
      rings = λ olds rung same all.
          rang_on f olds c.args.places.now.items c.args.k c.index_mut-place.result.now c.let_go.new.place rung _ _ c.requires.place
          c.index_mut-place.ensures.value same refl c.let_go.ensures.asked c.let_go.ensures.free all;
      free = free_before f c.args.places.now.items c.args.k c.let_go.new.place c.requires.place c.let_go.ensures.free;
      quota = refl;
      came = λ j. refl;
      links = refl;
      faults = refl;
    }
