use Rattle.std.proofs.Common.{◌+◌, ◌++◌, map, drop, ap, ◌∙◌}
use Rattle.house_model.specs.declared.event.Event.TheVariants.{CloseLine}
use Rattle.replay_script.specs.DrillSections.{last_moment, orders_in, to_come}
use Rattle.replay_script.specs.Drills.{Do, Order, PullAll, clients}
use Rattle.std.specs.Prelude.{List}
use Rattle.replay_script.specs.declared.drill_schedule.Schedule.{Schedule}
use Rattle.replay_script.proofs.DrillOrders.{round_comes}
use Rattle.replay_script.proofs.drill_schedule.Schedule.round.Goals as goal

pub returns : goal.returns
returns c =
    let s : Schedule = c.args.self.now in
    let now : List Order = orders_in c.section_of_round-section.result in
    ap (λ x. now ++ to_come (record s { played = s.played + 1; drawn = x })) c.after_round-self.ensures
    ∙ round_comes s.entered s.rounds s.played s.drawn now
    (map (λ i. PullAll i (last_moment s)) (drop s.pulled clients) ++ map (λ i. Do (CloseLine i (last_moment s))) (drop s.closed clients))
    c.requires.0 c.requires.1 c.section_of_round-section.ensures
