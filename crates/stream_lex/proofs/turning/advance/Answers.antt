use Rattle.std.proofs.Common.{arith}
use Rattle.stream_lex.specs.machine.Characters.{reach}
use Rattle.stream_lex.specs.machine.Turns.{turn_ascii, turn_wide}
use Rattle.stream_lex.proofs.Living.{live-parts, live-turn_ascii, live-turn_wide, reach-awaited}
use Rattle.stream_lex.proofs.Standing.{turned-live}
use Rattle.stream_lex.proofs.turning.advance.Goals as goal

pub turn_on_ascii-requires : goal.turn_on_ascii-requires
turn_on_ascii-requires c = (live-parts c.args.state c.requires).0

pub turn_on_wide-requires : goal.turn_on_wide-requires
turn_on_wide-requires c = (live-parts c.args.state c.requires).1

pub returns-in-Nothing-clause-live : goal.returns-in-Nothing-clause-live
returns-in-Nothing-clause-live c =
    turned-live c.args.state c.turn_on_ascii.result.0 c.args.byte (turn_ascii c.args.state c.args.byte) c.turn_on_ascii.result.1 c.requires
    (live-turn_ascii c.args.state c.args.byte (live-parts c.args.state c.requires).0 (omega (arith, c.if-byte-lt128.true))) c.turn_on_ascii.ensures

pub returns-in_default-clause-live : goal.returns-in_default-clause-live
returns-in_default-clause-live c =
    let p = live-parts c.args.state c.requires in
    turned-live c.args.state c.turn_on_wide.result.0 c.args.byte (turn_wide c.args.state c.args.byte (reach c.args.state.pending c.args.byte))
    c.turn_on_wide.result.1 c.requires
    (live-turn_wide c.args.state c.args.byte (reach c.args.state.pending c.args.byte) p.0 (reach-awaited c.args.state.pending c.args.byte p.1))
    c.turn_on_wide.ensures
