use Rattle.std.proofs.Common.{◌+◌, ◌++◌, map, drop, ap, ◌∙◌}
use Rattle.house_model.specs.declared.event.Event.TheVariants.{CloseLine}
use Rattle.replay_script.specs.DrillSections.{last_moment, orders_by, to_come}
use Rattle.replay_script.specs.Drills.{Do, clients}
use Rattle.replay_script.specs.declared.drill_schedule.Schedule.{Schedule}
use Rattle.replay_script.specs.declared.drill_section.Task.TheVariants as task
use Rattle.replay_script.proofs.DrillOrders.{pull_comes}
use Rattle.replay_script.proofs.drill_schedule.Schedule.pull.Goals as goal

pub returns : goal.returns
returns c =
    let s : Schedule = c.args.self.now in
    let after : Schedule = record s { pulled = s.pulled + 1 } in
    ap (λ i. orders_by i 0 c.last_moment.result 0 task.PullAll ++ to_come after) c.of-client.ensures
    ∙ ap (λ t. orders_by s.pulled 0 t 0 task.PullAll ++ to_come after) c.last_moment.ensures
    ∙ pull_comes s.entered s.rounds s.played s.drawn s.pulled (last_moment s) (map (λ i. Do (CloseLine i (last_moment s))) (drop s.closed clients))
    c.requires.0 c.requires.1 c.requires.2
