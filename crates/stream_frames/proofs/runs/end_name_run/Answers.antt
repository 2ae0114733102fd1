use Rattle.std.proofs.Common.{sym, ap, ◌∙◌}
use Rattle.stream_frames.specs.Builds.{building}
use Rattle.stream_frames.specs.Tracking.{Tracked}
use Rattle.stream_frames.proofs.RunEnds.{end_led}
use Rattle.stream_frames.proofs.runs.end_name_run.Goals as goal

pub returns-clause-run : goal.returns-clause-run
returns-clause-run c =
    end_led c.args.tracker.now.frame c.add_end_name.new.tracker.frame (building c.args.builder.now) (building c.add_end_name.new.self) c.add_end_name.result
    c.plain_name-count.result c.args.bytes.now
    (sym c.is_in_end_name.ensures ∙ c.if-not-is_in_end_name.false) c.plain_name-count.ensures.plain c.plain_name-count.ensures.fits c.add_end_name.ensures.fits
    c.add_end_name.ensures.same
    (ap (λ (x : Tracked). x.frame) c.add_end_name.ensures.tracked) c.add_end_name.ensures.added
