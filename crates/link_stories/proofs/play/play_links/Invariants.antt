use Rattle.hall.specs.Halls.{CameFrom}
use Rattle.link_stories.proofs.play.play_links.Given as goal

abbrev pub invariant-loop-link : goal.invariant-loop-link
invariant-loop-link g l = CameFrom l.hall l.pass
