use Rattle.std.proofs.Common.{◌≡◌, true, refl, ap, ◌∙◌, rules}
use Rattle.std.specs.Prelude.{None}
use Rattle.stream_lex.specs.declared.Token.TheVariants as token
use Rattle.stream_grammar.specs.machine.Building.{tag_judged}
use Rattle.stream_frames.specs.Builds.{building, hollow_by}
use Rattle.stream_frames.specs.Markup.{hollows_by, now_hollow}
use Rattle.stream_frames.specs.Runs.{has_opened}
use Rattle.stream_frames.proofs.EndLemmas.{hollow_led}
use Rattle.stream_frames.proofs.markup.hollow_end_mark.Goals as goal

pub returns-clause-read : goal.returns-clause-read
returns-clause-read c h =
    let hollows : hollows_by c.args.tracker.now.frame c.args.byte ≡ true = search rules in
    let opened : has_opened (building c.args.builder.now).opened ≡ true = search rules in
    let judged : tag_judged (building c.args.builder.now) (token.TagEnds true) ≡ None = search rules in
    let hollow : c.end_hollow.new.self.frame ≡ now_hollow c.args.tracker.now.frame = search rules in
    hollow_led c.args.tracker.now.rules c.args.tracker.now.frame c.end_hollow.new.self.frame c.args.byte (building c.args.builder.now)
    (building c.end_hollow-2.new.self) hollows opened judged hollow
    (c.end_hollow-2.ensures ∙ (ap (hollow_by c.in-Ok.resolved) c.in-Ok.ensures.kept ∙ c.in-Ok.ensures.hollow (building c.args.builder.now) refl))
