use Rattle.std.proofs.Common.{◌<◌, ℕ, List, refl, subst, sym, ◌∙◌, map}
use Rattle.std.specs.Prelude.{Option}
use Rattle.std.proofs.lemmas.List.{length-set}
use Rattle.std.proofs.lemmas.List.Elements.{All-set}
use Rattle.outside.specs.declared.poller.Rung.TheVariants.{New, Ready, Shut, Failed}
use Rattle.outside.specs.Doors.{TakesBack}
use Rattle.outside.specs.Plans.{raised}
use Rattle.outside.specs.Tapes.{Mark}
use Rattle.conn_serve.proofs.Attending.{within_more}
use Rattle.many_links.specs.declared.place.Place.{Place}
use Rattle.many_links.specs.Visits.{spot_of}
use Rattle.many_links.proofs.Placing.{free_held, held_at}
use Rattle.many_links.proofs.Placing.{others_same, place_held, places_held, places_stand, stands_back, stands_on}
use Rattle.many_links.proofs.Polling.{all_at, kept_same, no_line, reached_same, within_same}
use Rattle.many_links.proofs.Ringing.{comes_new, comes_ready, new_apart, rang_at, rang_nowhere, ready_apart}
use Rattle.many_links.proofs.Summing.{adds_none, adds_one}
use Rattle.many_links.proofs.many.serve_next.Goals as goal

pub take_up-requires-clause-pass : goal.take_up-requires-clause-pass
take_up-requires-clause-pass g c =
    all_at (λ (p : Place g.row.D-Pass.Denot g.row.P-Link.Denot g.row.C.Denot g.row.I.Denot). g.D.Desk.came_from c.args.desk.now p.pass) c.args.places.now.items
    c.in-New.k c.index_mut-place.result.now
    (subst (λ (n : ℕ). c.in-New.k < n) c.requires.places c.in-New.ensures.rings.place) c.index_mut-place.ensures.value c.requires.pass

pub take_up-requires-clause-free : goal.take_up-requires-clause-free
take_up-requires-clause-free g c =
    let f = (spot_of g.row.D-Pass.Denot g.row.P-Link.Denot g.row.C.Denot g.row.I.Denot g.D.Desk.line g.D.Desk.seen g.D.Desk.marked g.P.Link.Link.tape
    g.P.Link.Link.faults g.P.Link.Link.ends g.C.Clock.told g.I.Dice.drawn g.I.Dice.faults) in
    let rings = c.in-New.ensures.rings in
    let held = held_at c.args.accounts.now f c.args.places.now.items _ c.in-New.k c.index_mut-place.result.now
    (subst (λ (n : ℕ). c.in-New.k < n) c.requires.places rings.place) c.index_mut-place.ensures.value c.requires.held in
    no_line g.row.P-Link.Denot g.P.Link.Link.tape g.P.Link.Link.faults g.P.Link.Link.ends c.index_mut-place.result.now.busy (sym held.known ∙ rings.free)

pub give_back-requires : goal.give_back-requires
give_back-requires g c = c.in-New.ensures.rings.takes

pub attend-requires-clause-pass : goal.attend-requires-clause-pass
attend-requires-clause-pass g c =
    all_at (λ (p : Place g.row.D-Pass.Denot g.row.P-Link.Denot g.row.C.Denot g.row.I.Denot). g.D.Desk.came_from c.args.desk.now p.pass) c.args.places.now.items
    c.in-Ready.k c.index_mut-place-in-Ready.result.now
    (subst (λ (n : ℕ). c.in-Ready.k < n) c.requires.places c.in-Ready.ensures.rings.0) c.index_mut-place-in-Ready.ensures.value c.requires.pass

pub attend-requires-clause-open_at : goal.attend-requires-clause-open_at
attend-requires-clause-open_at g c =
    (held_at c.args.accounts.now (spot_of g.row.D-Pass.Denot g.row.P-Link.Denot g.row.C.Denot g.row.I.Denot g.D.Desk.line g.D.Desk.seen g.D.Desk.marked
    g.P.Link.Link.tape g.P.Link.Link.faults g.P.Link.Link.ends g.C.Clock.told g.I.Dice.drawn g.I.Dice.faults) c.args.places.now.items _ c.in-Ready.k
    c.index_mut-place-in-Ready.result.now
    (subst (λ (n : ℕ). c.in-Ready.k < n) c.requires.places c.in-Ready.ensures.rings.0) c.index_mut-place-in-Ready.ensures.value c.requires.held).open_at

pub give_back-requires-in-Some-attend : goal.give_back-requires-in-Some-attend
give_back-requires-in-Some-attend g c = c.in-Ready.ensures.rings.2.taken c.in-Ready.k ∙ c.in-Ready.ensures.rings.1

pub returns-in-Some : goal.returns-in-Some
returns-in-Some g c =
    let f = (spot_of g.row.D-Pass.Denot g.row.P-Link.Denot g.row.C.Denot g.row.I.Denot g.D.Desk.line g.D.Desk.seen g.D.Desk.marked g.P.Link.Link.tape
    g.P.Link.Link.faults g.P.Link.Link.ends g.C.Clock.told g.I.Dice.drawn g.I.Dice.faults) in
    let rings = c.in-New.ensures.rings in
    let less = subst (λ (n : ℕ). c.in-New.k < n) c.requires.places rings.place in
    let held = held_at c.args.accounts.now f c.args.places.now.items _ c.in-New.k c.index_mut-place.result.now less c.index_mut-place.ensures.value c.requires.held in
    record {
      pass = All-set (λ (p : Place g.row.D-Pass.Denot g.row.P-Link.Denot g.row.C.Denot g.row.I.Denot). g.D.Desk.came_from c.args.desk.now p.pass)
          c.args.places.now.items c.in-New.k c.take_up.new.place c.take_up.ensures.pass c.requires.pass;
      places = c.give_back.ensures.places ∙ (c.wait.ensures.places ∙ (c.requires.places ∙ sym (length-set c.args.places.now.items c.in-New.k c.take_up.new.place)));
      count = length-set c.args.places.now.items c.in-New.k c.take_up.new.place;
      held = place_held c.args.accounts.now f c.args.places.now.items _ _ c.in-New.k c.take_up.new.place
          (free_held c.args.accounts.now _ (f c.take_up.new.place) c.give_back.ensures.back.free c.in-Some.ensures.taken_up.1)
          (λ j apart. c.give_back.ensures.back.others j apart ∙ rings.others j apart) c.requires.held;
      stand = λ olds tapes links same all.
          stands_back raised (g.D.Desk.opening c.args.desk.now).head.domain.domain c.args.accounts.now f olds c.args.places.now.items tapes links _ _ _ _ c.in-New.k
          c.index_mut-place.result.now c.take_up.new.place
          (g.P.Link.Link.tape c.in-Some.link) less c.index_mut-place.ensures.value same c.in-Some.ensures.taken_up.0
          (subst (λ (t : Option (List (List Mark))). TakesBack t (g.P.Link.Link.tape c.in-Some.link) (g.P.Poller.tapes c.give_back.new.poller c.in-New.k))
          (c.wait.ensures.tapes c.in-New.k)
          c.give_back.ensures.tape)
          (λ j apart. c.give_back.ensures.tapes j apart ∙ c.wait.ensures.tapes j) (c.give_back.ensures.back.came c.in-New.k ∙ rings.counted)
          (λ j apart. c.give_back.ensures.back.came j ∙ rings.others_came j apart) all;
      rings = λ olds rung same all.
          rang_at f olds c.args.places.now.items c.in-New.k c.index_mut-place.result.now c.take_up.new.place (New c.in-New.k) rung _ _ _ less
          c.index_mut-place.ensures.value same c.in-New.ensures.rung c.give_back.ensures.rung (new_apart c.in-New.k)
          (comes_new c.in-New.k (f c.index_mut-place.result.now) (f c.take_up.new.place) c.take_up.ensures.asked) all;
      said = c.requires.said;
      quota = c.give_back.ensures.quota ∙ c.wait.ensures.quota;
      within = λ w. within_more _ _ _ _ (c.give_back.ensures.quota ∙ c.wait.ensures.quota) (c.give_back.ensures.back.links ∙ rings.links) rings.more;
      sum = λ s. adds_one _ _ c.in-New.k _ _ _ _ (c.give_back.ensures.places ∙ c.wait.ensures.places) rings.place
          (c.give_back.ensures.back.came c.in-New.k ∙ rings.counted)
          (λ j apart. c.give_back.ensures.back.came j ∙ rings.others_came j apart) (c.give_back.ensures.back.links ∙ rings.links) s;
      kept = kept_same _ _ _ c.wait.ensures.kept c.give_back.ensures.faults;
      one = (c.in-New.k, others_same f c.args.places.now.items c.in-New.k c.take_up.new.place);
      ends = tt;
    }

pub returns-in-None : goal.returns-in-None
returns-in-None g c =
    let f = (spot_of g.row.D-Pass.Denot g.row.P-Link.Denot g.row.C.Denot g.row.I.Denot g.D.Desk.line g.D.Desk.seen g.D.Desk.marked g.P.Link.Link.tape
    g.P.Link.Link.faults g.P.Link.Link.ends g.C.Clock.told g.I.Dice.drawn g.I.Dice.faults) in
    let rings = c.in-New.ensures.rings in
    let less = subst (λ (n : ℕ). c.in-New.k < n) c.requires.places rings.place in
    let held = held_at c.args.accounts.now f c.args.places.now.items _ c.in-New.k c.index_mut-place.result.now less c.index_mut-place.ensures.value c.requires.held in
    record {
      pass = All-set (λ (p : Place g.row.D-Pass.Denot g.row.P-Link.Denot g.row.C.Denot g.row.I.Denot). g.D.Desk.came_from c.args.desk.now p.pass)
          c.args.places.now.items c.in-New.k c.take_up.new.place c.take_up.ensures.pass c.requires.pass;
      places = c.wait.ensures.places ∙ (c.requires.places ∙ sym (length-set c.args.places.now.items c.in-New.k c.take_up.new.place));
      count = length-set c.args.places.now.items c.in-New.k c.take_up.new.place;
      held = place_held c.args.accounts.now f c.args.places.now.items _ _ c.in-New.k c.take_up.new.place
          (record { known = rings.takes ∙ sym c.in-None.ensures.taken_up.1; open_at = c.take_up.ensures.open_at }) rings.others c.requires.held;
      stand = λ olds tapes links same all.
          stands_on raised (g.D.Desk.opening c.args.desk.now).head.domain.domain c.args.accounts.now f olds c.args.places.now.items tapes links _ _ _ _ c.in-New.k
          c.index_mut-place.result.now c.take_up.new.place less c.index_mut-place.ensures.value same
          c.in-None.ensures.taken_up.0 c.wait.ensures.tapes rings.counted rings.others_came all;
      rings = λ olds rung same all.
          rang_at f olds c.args.places.now.items c.in-New.k c.index_mut-place.result.now c.take_up.new.place (New c.in-New.k) rung _ _ _ less
          c.index_mut-place.ensures.value same c.in-New.ensures.rung refl (new_apart c.in-New.k)
          (comes_new c.in-New.k (f c.index_mut-place.result.now) (f c.take_up.new.place) c.take_up.ensures.asked) all;
      said = c.requires.said;
      quota = c.wait.ensures.quota;
      within = λ w. within_more _ _ _ _ c.wait.ensures.quota rings.links rings.more;
      sum = λ s. adds_one _ _ c.in-New.k _ _ _ _ c.wait.ensures.places rings.place rings.counted rings.others_came rings.links s;
      kept = c.wait.ensures.kept;
      one = (c.in-New.k, others_same f c.args.places.now.items c.in-New.k c.take_up.new.place);
      ends = tt;
    }

pub returns-in-Some-attend : goal.returns-in-Some-attend
returns-in-Some-attend g c =
    let f = (spot_of g.row.D-Pass.Denot g.row.P-Link.Denot g.row.C.Denot g.row.I.Denot g.D.Desk.line g.D.Desk.seen g.D.Desk.marked g.P.Link.Link.tape
    g.P.Link.Link.faults g.P.Link.Link.ends g.C.Clock.told g.I.Dice.drawn g.I.Dice.faults) in
    let rings = c.in-Ready.ensures.rings in
    let less = subst (λ (n : ℕ). c.in-Ready.k < n) c.requires.places rings.0 in
    let held = held_at c.args.accounts.now f c.args.places.now.items _ c.in-Ready.k c.index_mut-place-in-Ready.result.now less
    c.index_mut-place-in-Ready.ensures.value c.requires.held in
    record {
      pass = All-set (λ (p : Place g.row.D-Pass.Denot g.row.P-Link.Denot g.row.C.Denot g.row.I.Denot). g.D.Desk.came_from c.args.desk.now p.pass)
          c.args.places.now.items c.in-Ready.k c.attend.new.place c.attend.ensures.pass c.requires.pass;
      places = c.give_back-in-Some-attend.ensures.places ∙ (c.wait.ensures.places ∙
          (c.requires.places ∙ sym (length-set c.args.places.now.items c.in-Ready.k c.attend.new.place)));
      count = length-set c.args.places.now.items c.in-Ready.k c.attend.new.place;
      held = place_held c.args.accounts.now f c.args.places.now.items _ _ c.in-Ready.k c.attend.new.place
          (free_held c.args.accounts.now _ (f c.attend.new.place) c.give_back-in-Some-attend.ensures.back.free c.in-Some-attend.ensures.attended.1)
          (λ j apart. c.give_back-in-Some-attend.ensures.back.others j apart ∙ rings.2.taken j) c.requires.held;
      stand = λ olds tapes links same all.
          stands_back (λ (n : ℕ). n) (g.D.Desk.opening c.args.desk.now).head.domain.domain c.args.accounts.now f olds c.args.places.now.items tapes links _ _ _ _
          c.in-Ready.k c.index_mut-place-in-Ready.result.now c.attend.new.place
          (g.P.Link.Link.tape c.in-Some-attend.link) less c.index_mut-place-in-Ready.ensures.value same c.in-Some-attend.ensures.attended.0
          (subst (λ (t : Option (List (List Mark))). TakesBack t (g.P.Link.Link.tape c.in-Some-attend.link)
          (g.P.Poller.tapes c.give_back-in-Some-attend.new.poller c.in-Ready.k)) (c.wait.ensures.tapes c.in-Ready.k)
          c.give_back-in-Some-attend.ensures.tape)
          (λ j apart. c.give_back-in-Some-attend.ensures.tapes j apart ∙ c.wait.ensures.tapes j)
          (c.give_back-in-Some-attend.ensures.back.came c.in-Ready.k ∙ rings.2.came c.in-Ready.k)
          (λ j apart. c.give_back-in-Some-attend.ensures.back.came j ∙ rings.2.came j) all;
      rings = λ olds rung same all.
          rang_at f olds c.args.places.now.items c.in-Ready.k c.index_mut-place-in-Ready.result.now c.attend.new.place (Ready c.in-Ready.k) rung _ _ _ less
          c.index_mut-place-in-Ready.ensures.value same c.in-Ready.ensures.rung c.give_back-in-Some-attend.ensures.rung (ready_apart c.in-Ready.k)
          (comes_ready c.in-Ready.k (f c.index_mut-place-in-Ready.result.now) (f c.attend.new.place) (sym held.known ∙ rings.1) c.attend.ensures.round) all;
      said = c.attend.ensures.said;
      quota = c.give_back-in-Some-attend.ensures.quota ∙ c.wait.ensures.quota;
      within = λ w. within_same _ _ _ _ (c.give_back-in-Some-attend.ensures.quota ∙ c.wait.ensures.quota)
          (c.give_back-in-Some-attend.ensures.back.links ∙ rings.2.links) w;
      sum = λ s. adds_none _ _ _ _ _ _ (c.give_back-in-Some-attend.ensures.places ∙ c.wait.ensures.places)
          (λ j. c.give_back-in-Some-attend.ensures.back.came j ∙ rings.2.came j)
          (c.give_back-in-Some-attend.ensures.back.links ∙ rings.2.links) s;
      kept = kept_same _ _ _ c.wait.ensures.kept c.give_back-in-Some-attend.ensures.faults;
      one = (c.in-Ready.k, others_same f c.args.places.now.items c.in-Ready.k c.attend.new.place);
      ends = tt;
    }

pub returns-in-None-attend : goal.returns-in-None-attend
returns-in-None-attend g c =
    let f = (spot_of g.row.D-Pass.Denot g.row.P-Link.Denot g.row.C.Denot g.row.I.Denot g.D.Desk.line g.D.Desk.seen g.D.Desk.marked g.P.Link.Link.tape
    g.P.Link.Link.faults g.P.Link.Link.ends g.C.Clock.told g.I.Dice.drawn g.I.Dice.faults) in
    let rings = c.in-Ready.ensures.rings in
    let less = subst (λ (n : ℕ). c.in-Ready.k < n) c.requires.places rings.0 in
    let held = held_at c.args.accounts.now f c.args.places.now.items _ c.in-Ready.k c.index_mut-place-in-Ready.result.now less
    c.index_mut-place-in-Ready.ensures.value c.requires.held in
    record {
      pass = All-set (λ (p : Place g.row.D-Pass.Denot g.row.P-Link.Denot g.row.C.Denot g.row.I.Denot). g.D.Desk.came_from c.args.desk.now p.pass)
          c.args.places.now.items c.in-Ready.k c.attend.new.place c.attend.ensures.pass c.requires.pass;
      places = c.wait.ensures.places ∙ (c.requires.places ∙ sym (length-set c.args.places.now.items c.in-Ready.k c.attend.new.place));
      count = length-set c.args.places.now.items c.in-Ready.k c.attend.new.place;
      held = place_held c.args.accounts.now f c.args.places.now.items _ _ c.in-Ready.k c.attend.new.place
          (record { known = rings.2.taken c.in-Ready.k ∙ (held.known ∙ sym c.in-None-attend.ensures.attended.1); open_at = c.attend.ensures.open_at })
          (λ j apart. rings.2.taken j) c.requires.held;
      stand = λ olds tapes links same all.
          stands_on (λ (n : ℕ). n) (g.D.Desk.opening c.args.desk.now).head.domain.domain c.args.accounts.now f olds c.args.places.now.items tapes links _ _ _ _
          c.in-Ready.k c.index_mut-place-in-Ready.result.now c.attend.new.place less c.index_mut-place-in-Ready.ensures.value same
          c.in-None-attend.ensures.attended.0 c.wait.ensures.tapes (rings.2.came c.in-Ready.k) (λ j apart. rings.2.came j) all;
      rings = λ olds rung same all.
          rang_at f olds c.args.places.now.items c.in-Ready.k c.index_mut-place-in-Ready.result.now c.attend.new.place (Ready c.in-Ready.k) rung _ _ _ less
          c.index_mut-place-in-Ready.ensures.value same c.in-Ready.ensures.rung refl (ready_apart c.in-Ready.k)
          (comes_ready c.in-Ready.k (f c.index_mut-place-in-Ready.result.now) (f c.attend.new.place) (sym held.known ∙ rings.1) c.attend.ensures.round) all;
      said = c.attend.ensures.said;
      quota = c.wait.ensures.quota;
      within = λ w. within_same _ _ _ _ c.wait.ensures.quota rings.2.links w;
      sum = λ s. adds_none _ _ _ _ _ _ c.wait.ensures.places rings.2.came rings.2.links s;
      kept = c.wait.ensures.kept;
      one = (c.in-Ready.k, others_same f c.args.places.now.items c.in-Ready.k c.attend.new.place);
      ends = tt;
    }

pub returns-in-Shut : goal.returns-in-Shut
returns-in-Shut g c =
    let f = (spot_of g.row.D-Pass.Denot g.row.P-Link.Denot g.row.C.Denot g.row.I.Denot g.D.Desk.line g.D.Desk.seen g.D.Desk.marked g.P.Link.Link.tape
    g.P.Link.Link.faults g.P.Link.Link.ends g.C.Clock.told g.I.Dice.drawn g.I.Dice.faults) in
    let same = c.in-Shut.ensures.rings.2 in
    record {
      pass = c.requires.pass;
      places = c.wait.ensures.places ∙ c.requires.places;
      count = refl;
      held = places_held c.args.accounts.now (map f c.args.places.now.items) _ _ same.taken c.requires.held;
      stand = λ olds tapes links wide all.
          places_stand (g.D.Desk.opening c.args.desk.now).head.domain.domain c.args.accounts.now olds (map f c.args.places.now.items) tapes links _ _ _ _
          c.wait.ensures.tapes same.came all;
      rings = λ olds rung same all. rang_nowhere olds (map f c.args.places.now.items) Shut rung _ _ c.in-Shut.ensures.rung (λ k. refl) all;
      said = c.requires.said;
      quota = c.wait.ensures.quota;
      within = λ w. within_same _ _ _ _ c.wait.ensures.quota same.links w;
      sum = λ s. adds_none _ _ _ _ _ _ c.wait.ensures.places same.came same.links s;
      kept = c.wait.ensures.kept;
      one = (0, λ j apart. refl);
      ends = reached_same _ _ _ _ c.wait.ensures.quota c.in-Shut.ensures.rings.2.links c.in-Shut.ensures.rings.0;
    }

pub returns-in-Failed : goal.returns-in-Failed
returns-in-Failed g c =
    let f = (spot_of g.row.D-Pass.Denot g.row.P-Link.Denot g.row.C.Denot g.row.I.Denot g.D.Desk.line g.D.Desk.seen g.D.Desk.marked g.P.Link.Link.tape
    g.P.Link.Link.faults g.P.Link.Link.ends g.C.Clock.told g.I.Dice.drawn g.I.Dice.faults) in
    let same = c.in-Failed.ensures.rings in
    record {
      pass = c.requires.pass;
      places = c.wait.ensures.places ∙ c.requires.places;
      count = refl;
      held = places_held c.args.accounts.now (map f c.args.places.now.items) _ _ same.taken c.requires.held;
      stand = λ olds tapes links wide all.
          places_stand (g.D.Desk.opening c.args.desk.now).head.domain.domain c.args.accounts.now olds (map f c.args.places.now.items) tapes links _ _ _ _
          c.wait.ensures.tapes same.came all;
      rings = λ olds rung same all. rang_nowhere olds (map f c.args.places.now.items) Failed rung _ _ c.in-Failed.ensures.rung (λ k. refl) all;
      said = c.requires.said;
      quota = c.wait.ensures.quota;
      within = λ w. within_same _ _ _ _ c.wait.ensures.quota same.links w;
      sum = λ s. adds_none _ _ _ _ _ _ c.wait.ensures.places same.came same.links s;
      kept = c.wait.ensures.kept;
      one = (0, λ j apart. refl);
      ends = c.in-Failed.ensures.cause refl;
    }
