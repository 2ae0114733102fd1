use Rattle.std.proofs.Common.{sym, ap, ◌∙◌}
use Rattle.stream_frames.specs.Tracking.{Tracked}
use Rattle.stream_frames.proofs.MarkupLemmas.{value_opened_led}
use Rattle.stream_frames.proofs.markup.value_open_mark.Goals as goal

pub returns-in-Some-clause-read : goal.returns-in-Some-clause-read
returns-in-Some-clause-read c h b =
    value_opened_led c.args.tracker.now.rules c.args.tracker.now.frame c.begin_value.new.self.frame c.in-Some.quote c.args.byte
    (sym c.begin_value.ensures.awaits ∙ h) (sym c.quote_of.ensures ∙ c.in-Some.is)
    (ap (λ (x : Tracked). x.frame) (c.begin_value.ensures.read h)) b
