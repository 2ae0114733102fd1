use Rattle.std.proofs.Common.{sym, ap, ◌∙◌}
use Rattle.stream_frames.specs.Tracking.{Tracked}
use Rattle.stream_frames.proofs.MarkupLemmas.{closing_led}
use Rattle.stream_frames.proofs.markup.end_name_mark.Goals as goal

pub returns-clause-read : goal.returns-clause-read
returns-clause-read c h b =
    closing_led c.args.tracker.now.rules c.args.tracker.now.frame c.begin_end_name.new.self.frame c.args.byte (sym c.begin_end_name.ensures.closes
    ∙ h) (ap (λ (x : Tracked). x.frame) (c.begin_end_name.ensures.read h)) b
