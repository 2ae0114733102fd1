use Rattle.std.proofs.Common.{arith, refl, sym, ◌∙◌}
use Rattle.many_links.proofs.many.let_go_all.Goals as goal

pub loop-k-init : goal.loop-k-init
loop-k-init g c = record {
  pass = c.requires.pass;
  places = c.requires.places;
  count = refl;
  held = c.requires.held;
  stand = λ olds tapes links same all. all;
  rings = λ olds rung same all. all;
  free = λ k below. absurd (omega (arith, below));
  quota = refl;
  came = λ j. refl;
  links = refl;
  faults = refl;
}

pub loop-k-preserved : goal.loop-k-preserved
loop-k-preserved g c = record {
  pass = c.let_go_at.ensures.pass;
  places = c.let_go_at.ensures.places;
  count = c.let_go_at.ensures.count ∙ c.loop-k.invariant.count;
  held = c.let_go_at.ensures.held;
  stand = λ olds tapes links same all.
      c.let_go_at.ensures.stand olds tapes links (same ∙ sym c.loop-k.invariant.count) (c.loop-k.invariant.stand olds tapes links same all);
  rings = λ olds rung same all.
      c.let_go_at.ensures.rings olds rung (same ∙ sym c.loop-k.invariant.count) (c.loop-k.invariant.rings olds rung same all);
  free = c.let_go_at.ensures.free c.loop-k.invariant.free;
  quota = c.let_go_at.ensures.quota ∙ c.loop-k.invariant.quota;
  came = λ j. c.let_go_at.ensures.came j ∙ c.loop-k.invariant.came j;
  links = c.let_go_at.ensures.links ∙ c.loop-k.invariant.links;
  faults = c.let_go_at.ensures.faults ∙ c.loop-k.invariant.faults;
}
