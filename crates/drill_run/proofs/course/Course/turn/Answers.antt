use Rattle.std.proofs.Common.{rules}
use Rattle.house_core.specs.Houses.{held}
use Rattle.replay_script.specs.DrillStands.{stand_of}
use Rattle.drill_run.proofs.Goings.{goes_on}
use Rattle.drill_run.proofs.course.Course.turn.Goals as goal

pub returns-in_ok-take-in-Some : goal.returns-in_ok-take-in-Some
returns-in_ok-take-in-Some c = λ n key number going.
    goes_on n key (held c.args.self.now.house) (stand_of c.args.self.now.drill) c.args.self.now.last c.args.self.now.frame.items c.args.self.now.counts
    number going (held c.take.new.self.house) (stand_of c.take.new.self.drill) c.in-Some.event c.take.new.self.last c.take.new.self.frame.items
    c.take.new.self.counts (search rules) (search rules) c.in_ok-take-in-Some.ensures.history (search rules)
