use Rattle.std.proofs.Common.{ap, ◌∙◌}
use Rattle.stream_grammar.specs.machine.Building.{Building}
use Rattle.stream_grammar.specs.machine.Framing.{first_frame}
use Rattle.stream_grammar.specs.machine.Reading.{reads}
use Rattle.stream_frames.specs.Tracking.{Tracked}
use Rattle.stream_frames.specs.Works.{work_of}
use Rattle.stream_frames.proofs.StandLemmas.{begun}
use Rattle.stream_frames.proofs.framer.Framer.new.Goals as goal

pub returns-clause-grammar : goal.returns-clause-grammar
returns-clause-grammar c =
    begun _ (ap (λ (x : Tracked). reads x.frame (work_of c.new-2.result) 0 0) c.new.ensures ∙ ap (λ (b : Building). reads first_frame b 0 0) c.new-2.ensures)
