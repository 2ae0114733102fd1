use Rattle.std.proofs.Common.{◌+◌, ◌-◌, ◌++◌, map, drop, ap, ◌∙◌}
use Rattle.house_model.specs.declared.event.Event.TheVariants.{CloseLine}
use Rattle.replay_script.specs.DrillSections.{last_moment, orders_by, to_come}
use Rattle.replay_script.specs.Drills.{Do, PullAll, clients, rounds}
use Rattle.replay_script.specs.declared.drill_schedule.Schedule.{Schedule}
use Rattle.replay_script.specs.declared.drill_section.Task.TheVariants as task
use Rattle.replay_script.proofs.DrillOrders.{start_comes}
use Rattle.replay_script.proofs.drill_schedule.Schedule.start.Goals as goal

pub returns : goal.returns
returns c =
    let s : Schedule = c.args.self.now in
    ap (λ i. orders_by i 0 0 0 task.Open ++ to_come (record s { entered = s.entered + 1 })) c.of-client.ensures
    ∙ start_comes s.entered (rounds (s.rounds - s.played) (s.played + 1) s.drawn)
    (map (λ i. PullAll i (last_moment s)) (drop s.pulled clients) ++ map (λ i. Do (CloseLine i (last_moment s))) (drop s.closed clients)) c.requires
