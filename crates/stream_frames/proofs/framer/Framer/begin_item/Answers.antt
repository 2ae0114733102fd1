use Rattle.std.proofs.Common.{◌≡◌, true, false, sym, ap, ◌∙◌, rules}
use Rattle.stream_grammar.specs.declared.item.Limits.{Limits}
use Rattle.stream_grammar.specs.machine.Reading.{Reading, is_done, reading_next}
use Rattle.stream_frames.specs.Fed.{Fed}
use Rattle.stream_frames.specs.Markup.{begins_item, now_begun}
use Rattle.stream_frames.specs.Works.{work_of}
use Rattle.stream_frames.proofs.ItemLemmas.{begun_reading}
use Rattle.stream_frames.proofs.framer.Framer.begin_item.Goals as goal

pub returns-clause-read : goal.returns-clause-read
returns-clause-read c h =
    let going : is_done c.args.self.now.reading ≡ false = search rules in
    let begins : begins_item c.self.inside.tracker.frame c.args.byte ≡ true = search rules in
    let begun : c.begin_item.new.self.frame ≡ now_begun c.self.inside.tracker.frame = search rules in
    ap (λ (x : Reading). record { limits = c.self.inside.limits; reading = x })
    (begun_reading c.self.inside.fault c.self.inside.limits c.args.self.now.reading c.self.inside.tracker.frame c.begin_item.new.self.frame
    (work_of c.self.inside.work) c.self.inside.extent c.self.inside.offset c.args.byte c.saturating_add-self-inside.result
    (sym (ap (λ (x : Fed). x.reading) c.self.view_is)) going begins begun c.saturating_add-self-inside.ensures)
    ∙ ap (λ (l : Limits). record { limits = l; reading = reading_next l c.args.self.now.reading c.args.byte }) (ap (λ (x : Fed). x.limits) c.self.view_is)
