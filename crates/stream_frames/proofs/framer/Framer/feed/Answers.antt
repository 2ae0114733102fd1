use Rattle.std.proofs.Common.{rules}
use Rattle.stream_frames.proofs.StandLemmas.{fed_stands, short_stands}
use Rattle.stream_frames.proofs.framer.Framer.feed.Goals as goal

pub returns-clause-grammar : goal.returns-clause-grammar
returns-clause-grammar c =
    fed_stands c.args.self.now _ c.args.piece.now c.read-taken.result c.requires (search rules) c.read-taken.ensures.taken (search rules)

pub returns-clause-short_grammar : goal.returns-clause-short_grammar
returns-clause-short_grammar c =
    short_stands c.args.self.now _ c.args.piece.now c.read-taken.result c.requires (search rules) c.read-taken.ensures.short (search rules)
