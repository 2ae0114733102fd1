use Rattle.std.proofs.Common.{subst}
use Rattle.std.specs.Prelude.{IfNone}
use Rattle.std.specs.declared.option.Option.{Option}
use Rattle.stream_lex.specs.declared.LexFault.{LexFault}
use Rattle.stream_lex.specs.machine.Turns.{turn}
use Rattle.stream_lex.specs.machine.Leading.{IsTurned}
use Rattle.stream_frames.proofs.TrackLemmas.{turned_few}
use Rattle.stream_frames.proofs.tracker.Tracker.lex.Goals as goal

pub returns-in-Open-clause-few : goal.returns-in-Open-clause-few
returns-in-Open-clause-few c =
    turned_few c.at-lex.result.state c.step-lexed.new.self.state c.args.byte c.step-lexed.result
    (subst (λ (o : Option LexFault). IfNone o
    (IsTurned c.at-lex.result.state (turn c.at-lex.result.state c.args.byte) c.step-lexed.new.self.state c.step-lexed.result)) c.at-lex.ensures.fault
    c.step-lexed.ensures.moves)
