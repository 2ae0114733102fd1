use Rattle.std.proofs.Common.{◌≡◌, true, false, not, length, ◌==◌, refl, ap, ◌∙◌, rules}
use Rattle.std.specs.Prelude.{None}
use Rattle.stream_lex.specs.declared.Token.TheVariants as token
use Rattle.stream_grammar.specs.machine.Building.{tag_judged}
use Rattle.stream_frames.specs.Builds.{building, begun_by}
use Rattle.stream_frames.specs.Markup.{enters_by, now_entered}
use Rattle.stream_frames.proofs.EndLemmas.{entered_led}
use Rattle.stream_frames.proofs.markup.start_end_mark.Goals as goal

pub returns-clause-read : goal.returns-clause-read
returns-clause-read c h =
    let enters : enters_by c.args.tracker.now.frame c.args.byte ≡ true = search rules in
    let headed : not (length (building c.args.builder.now).layers == 0) ≡ true = search rules in
    let judged : tag_judged (building c.args.builder.now) (token.TagEnds false) ≡ None = search rules in
    let entered : c.enter.new.self.frame ≡ now_entered c.args.tracker.now.frame = search rules in
    entered_led c.args.tracker.now.rules c.args.tracker.now.frame c.enter.new.self.frame c.args.byte (building c.args.builder.now)
    (building c.end_start.new.self) enters headed judged entered
    (c.end_start.ensures ∙ (ap (begun_by c.in-Ok.beginning) c.in-Ok.ensures.kept ∙ c.in-Ok.ensures.begun (building c.args.builder.now) refl))
