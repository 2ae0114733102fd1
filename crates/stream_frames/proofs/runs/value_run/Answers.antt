use Rattle.std.proofs.Common.{sym, ◌∙◌}
use Rattle.stream_frames.specs.Builds.{building}
use Rattle.stream_frames.proofs.PlainLemmas.{value_utf8}
use Rattle.stream_frames.proofs.RunValues.{value_led}
use Rattle.stream_frames.proofs.runs.value_run.Goals as goal

pub add_plain_value-requires : goal.add_plain_value-requires
add_plain_value-requires c = value_utf8 c.in-Some.quote _ c.plain_value-count.ensures.plain

pub returns-clause-run : goal.returns-clause-run
returns-clause-run c =
    value_led c.args.tracker.now.frame c.in-Some.quote (building c.args.builder.now) (building c.add_plain_value.new.self) _ (sym c.open_quote.ensures
    ∙ c.in-Some.is) c.plain_value-count.ensures.plain
    (c.add_plain_value.ensures.added c.if-not-add_plain_value.false)
