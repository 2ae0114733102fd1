use Rattle.std.proofs.Common.{◌≡◌, sym, ap, ◌∙◌, rules}
use Rattle.stream_lex.specs.declared.Token.TheVariants as token
use Rattle.stream_grammar.specs.machine.Building.{Building}
use Rattle.stream_grammar.specs.machine.Gathering.{gather}
use Rattle.stream_frames.specs.Builds.{building}
use Rattle.stream_frames.specs.Markup.{quote_byte}
use Rattle.stream_frames.specs.Tracking.{Tracked}
use Rattle.stream_frames.proofs.MarkupLemmas.{value_ended_led}
use Rattle.stream_frames.proofs.markup.value_end_mark.Goals as goal

pub returns-clause-read : goal.returns-clause-read
returns-clause-read c h =
    let same : c.args.byte ≡ quote_byte c.in-Some.quote = search (rules) in
    value_ended_led c.args.tracker.now.rules c.args.tracker.now.frame c.end_value.new.self.frame c.in-Some.quote c.args.byte (building c.args.builder.now)
    (building c.end_value-2.new.self) (sym c.open_quote.ensures ∙ c.in-Some.is) same
    (ap (λ (x : Tracked). x.frame) c.end_value.ensures) (c.end_value-2.ensures
    ∙ ap (λ (x : Building). record x { tag = gather x.tag token.ValueEnds }) c.reserve_attribute.ensures.kept)
