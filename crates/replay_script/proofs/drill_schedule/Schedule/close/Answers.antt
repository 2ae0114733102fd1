use Rattle.std.proofs.Common.{◌+◌, ◌++◌, ap, ◌∙◌}
use Rattle.replay_script.specs.DrillSections.{last_moment, orders_by, to_come}
use Rattle.replay_script.specs.declared.drill_schedule.Schedule.{Schedule}
use Rattle.replay_script.specs.declared.drill_section.Task.TheVariants as task
use Rattle.replay_script.proofs.DrillOrders.{close_comes}
use Rattle.replay_script.proofs.drill_schedule.Schedule.close.Goals as goal

pub returns : goal.returns
returns c =
    let s : Schedule = c.args.self.now in
    let after : Schedule = record s { closed = s.closed + 1 } in
    ap (λ i. orders_by i 0 c.last_moment.result 0 task.CloseLine ++ to_come after) c.of-client.ensures
    ∙ ap (λ t. orders_by s.closed 0 t 0 task.CloseLine ++ to_come after) c.last_moment.ensures
    ∙ close_comes s.entered s.rounds s.played s.drawn s.pulled s.closed (last_moment s) c.requires.0 c.requires.1 c.requires.2 c.requires.3
