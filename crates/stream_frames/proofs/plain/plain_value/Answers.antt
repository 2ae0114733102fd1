use Rattle.std.proofs.Common.{rules, ◌+◌}
use Rattle.stream_frames.proofs.PlainLemmas.{value_then, wide_value_then}
use Rattle.stream_frames.proofs.plain.plain_value.Goals as goal

pub loop-at-preserved : goal.loop-at-preserved
loop-at-preserved c = record {
  within = search rules;
  plain = wide_value_then c.args.quote c.args.bytes.now (c.loop-at.at + c.low_value-at.result) c.wide_length-wide.result
      (value_then c.args.quote c.args.bytes.now c.loop-at.at c.low_value-at.result c.loop-at.invariant.plain c.low_value-at.ensures.plain)
      c.wide_length-wide.ensures.wide;
}
