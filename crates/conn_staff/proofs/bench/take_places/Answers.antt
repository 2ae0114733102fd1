use Rattle.std.proofs.Common.{arith, refl}
use Rattle.std.specs.Prelude.{None, ◌≡◌}
use Rattle.conn_staff.specs.Workers.{source_of}
use Rattle.conn_staff.proofs.Steps.{fewer, gained, one_more}
use Rattle.conn_staff.proofs.bench.take_places.Goals as goal

pub loop-clock-preserved : goal.loop-clock-preserved
loop-clock-preserved g c =
    let inv = c.loop-clock.invariant in
    let source = c.in-Some.ensures.steps.0 in
    let pass = c.in-Some-next.ensures.cases.0 in
    let more = c.push_reserved.ensures.items in
    let sources = fewer _ _ _ _ source in
    let passes = fewer _ _ _ _ pass in
    let len = c.push_reserved.ensures.len in
    let kept = c.push_reserved.ensures.capacity in
    record {
      can_next = tt;
      is_finite = tt;
      enough = omega (arith, inv.enough, sources, passes);
      passes = gained _ _ (λ p. p.pass) _ _ _ _ _ _ more pass inv.passes;
      sources = gained _ _ source_of _ _ _ _ _ _ more source inv.sources;
      busy = one_more _ (λ p. p.busy ≡ None) _ _ _ more inv.busy refl;
      room = omega (arith, inv.room, sources, len, kept);
    }
