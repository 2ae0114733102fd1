use Rattle.std.proofs.Common.{◌++◌, Option, Some, sym, subst}
use Rattle.replay_script.specs.DrillSections.{orders_if, tallies_in, to_come}
use Rattle.replay_script.specs.DrillStands.{IsNextBy}
use Rattle.replay_script.specs.declared.drill.Drill.{Drill}
use Rattle.replay_script.specs.declared.drill_section.Section.{Section}
use Rattle.replay_script.proofs.DrillEvents.{is_next}
use Rattle.replay_script.proofs.drill.Drill.event.Goals as goal

pub returns : goal.returns
returns c =
    let d : Drill = c.args.self.now in
    let s : Section = c.in-Some.section in
    subst (λ (o : Option Section). IsNextBy (tallies_in d.tallies) (orders_if o ++ to_come d.schedule) (Some c.in_ok-event.event)) (sym c.in-Some.is)
    (is_next (tallies_in d.tallies) s.client s.round s.moment s.drawn s.task (to_come d.schedule) c.in_ok-event.event c.in_ok-event.ensures)
