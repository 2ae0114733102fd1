use Rattle.std.proofs.Common.{◌≡◌, ◌+◌, ◌≤◌, min, take, length, ap, sym, subst, ◌∙◌, arith, rules}
use Rattle.std.proofs.lemmas.List.{length-take}
use Rattle.stream_grammar.specs.declared.rules.Rules.{Rules}
use Rattle.stream_grammar.specs.grammar.Bounds.{rules_of}
use Rattle.stream_frames.specs.Fed.{Fed}
use Rattle.stream_frames.specs.Markup.{LeadsBy}
use Rattle.stream_frames.specs.Works.{work_of}
use Rattle.stream_frames.proofs.RunLemmas.{run_skipped}
use Rattle.stream_frames.proofs.framer.Framer.skip_run.Goals as goal

pub returns-clause-run : goal.returns-clause-run
returns-clause-run c =
    let long : length (take c.min.result c.args.rest.now) ≡ min c.min.result (length c.args.rest.now) = length-take c.min.result c.args.rest.now in
    let fits : c.work_run-count.result ≤ length (take c.min.result c.args.rest.now) = c.work_run-count.ensures.fits in
    let most : c.self.inside.limits.bytes ≡ c.args.self.now.limits.bytes = ap (λ (x : Fed). x.limits.bytes) c.self.view_is in
    let short : c.self.inside.extent + c.work_run-count.result ≤ c.args.self.now.limits.bytes =
    omega (arith, long, fits, most, c.min.ensures, c.if-self-bytes.false) in
    let same : c.self.inside.tracker.rules ≡ rules_of c.args.self.now.limits = c.self.invariant.0 ∙ ap (λ (x : Fed). rules_of x.limits) c.self.view_is in
    run_skipped c.self.inside.fault c.args.self.now.limits c.args.self.now.reading c.self.inside.tracker.frame c.work_run-count.new.tracker.frame
    (work_of c.self.inside.work) (work_of c.work_run-count.new.work)
    c.self.inside.extent c.self.inside.offset c.saturating_add-self-inside.result c.work_run-count.result c.min.result c.args.rest.now
    (sym c.is_some.ensures ∙ c.if-is_some.false) (sym (ap (λ (x : Fed). x.reading) c.self.view_is)) c.requires fits (search rules) short
    c.saturating_add-self-inside.ensures
    (subst (λ (r : Rules). LeadsBy r c.self.inside.tracker.frame (work_of c.self.inside.work) (take c.work_run-count.result (take c.min.result c.args.rest.now))
    c.work_run-count.new.tracker.frame (work_of c.work_run-count.new.work)) same c.work_run-count.ensures.run)
