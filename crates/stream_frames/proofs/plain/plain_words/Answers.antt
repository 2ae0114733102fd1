use Rattle.std.proofs.Common.{rules, ◌+◌}
use Rattle.stream_frames.proofs.PlainLemmas.{words_then, wide_word_then}
use Rattle.stream_frames.proofs.plain.plain_words.Goals as goal

pub loop-at-preserved : goal.loop-at-preserved
loop-at-preserved c = record {
  within = search rules;
  plain = wide_word_then c.args.bytes.now (c.loop-at.at + c.low_words-at.result) c.wide_length-wide.result
      (words_then c.args.bytes.now c.loop-at.at c.low_words-at.result c.loop-at.invariant.plain c.low_words-at.ensures.plain)
      c.wide_length-wide.ensures.wide;
}
