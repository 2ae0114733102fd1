use Rattle.std.proofs.Common.{ℕ}
use Rattle.house_core.specs.Houses.{held}
use Rattle.replay_script.specs.DrillStands.{stand_of}
use Rattle.drill_run.specs.Courses.{Going}
use Rattle.drill_run.proofs.course.Course.run.Given as goal

abbrev pub invariant-loop-number : goal.invariant-loop-number
invariant-loop-number l =
    (key : ℕ)
    → Going l.n key (held l.fn.self.house) (stand_of l.fn.self.drill) l.fn.self.last l.fn.self.frame.items l.fn.self.counts 0
    → Going l.n key (held l.self.house) (stand_of l.self.drill) l.self.last l.self.frame.items l.self.counts l._number
