use Rattle.std.proofs.Common.{rules}
use Rattle.script_play.proofs.Takings.{moves_run}
use Rattle.script_play.proofs.lines.Reader.take_run.Goals as goal

pub returns-clause-moves : goal.returns-clause-moves
returns-clause-moves c =
    let inside = c.self.inside in
    search (
      rules,
      moves_run inside.piece inside.from inside.to c.run_length-count.result inside.given c.args.line.now.items c.run_length-count.ensures.fits
          c.run_length-count.ensures.plain,
    )
