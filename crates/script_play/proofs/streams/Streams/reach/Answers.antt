use Rattle.std.proofs.Common.{ap, ◌∙◌}
use Rattle.script_play.specs.Streams.{framers_of}
use Rattle.script_play.proofs.StreamLemmas.{place_more}
use Rattle.script_play.proofs.streams.Streams.reach.Goals as goal

pub loop-self-preserved : goal.loop-self-preserved
loop-self-preserved c = record { kept = ap framers_of c.in_ok-push.ensures.items ∙ (place_more c.loop-self.self.places.items ∙ c.loop-self.invariant.kept) }
