use Rattle.std.proofs.Common.{◌<◌, ◌^◌, arith}
use Rattle.replay_script.specs.DrillSections.{tallies_in}
use Rattle.replay_script.specs.declared.drill_section.Section.{Section}
use Rattle.replay_script.proofs.DrillEvents.{first_if}
use Rattle.replay_script.proofs.drill_events.first_event.Goals as goal

pub returns : goal.returns
returns c =
    let s : Section = c.args.section.now in
    let low : s.client < 8 = omega (arith, c.number.ensures.number, c.number.ensures.small) in
    let small : s.round < 2 ^ 64 = omega (arith, c.round.ensures, c.round.type_inv) in
    first_if (tallies_in c.args.tallies.now) s.client s.round s.moment s.drawn s.task c.event_of.result low small c.event_of.ensures
