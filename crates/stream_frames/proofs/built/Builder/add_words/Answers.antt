use Rattle.std.proofs.Common.{sym}
use Rattle.stream_frames.specs.Builds.{building}
use Rattle.stream_frames.proofs.BuildLemmas.{no_words, opened_none}
use Rattle.stream_frames.proofs.built.Builder.add_words.Goals as goal

pub returns-then-is_none : goal.returns-then-is_none
returns-then-is_none c = sym
    (no_words c.args.told.now (building c.args.self.now) (opened_none c.args.self.now.innermost c.args.self.now.others.items c.if-is_none.ensures)
    c.requires.words)
