use Rattle.std.proofs.Common.{rules, ◌∷◌, [], ℕ, sym, subst}
use Rattle.sm_resume.specs.declared.decision.Decision.TheVariants.{Take, TooHigh}
use Rattle.sm_resume.specs.declared.decision.Cause.TheVariants as cause
use Rattle.house_model.specs.Effects.{At, Close}
use Rattle.house_world.specs.Worlds.{Did, seen}
use Rattle.house_core.proofs.DecideLemmas.{answered_is, goes_counts, goes_handles}
use Rattle.house_core.proofs.TakeLemmas.{asked, high_ends, inward_fits, take_ends}
use Rattle.house_core.proofs.resuming.take_up.Goals as goal

pub resume-count-requires-clause-counts : goal.resume-count-requires-clause-counts
resume-count-requires-clause-counts c =
    goes_counts c.args.world.now c.args.user.now c.args.domain.now.domain c.args.h c.in-Take.n c.args.id.now c.requires.tied c.facts-facts.ensures.narrow
    (search rules)

pub resume-count-requires-clause-handled : goal.resume-count-requires-clause-handled
resume-count-requires-clause-handled c =
    goes_handles c.args.world.now c.args.user.now c.args.domain.now.domain c.args.h c.in-Take.n c.args.id.now c.requires.tied c.facts-facts.ensures.narrow
    (search rules)

pub say-requires-clause-short : goal.say-requires-clause-short
say-requires-clause-short c =
    inward_fits c.resume-count.result ((seen c.args.world.now).sessions c.args.id.now.session).traffic c.args.id.now c.resume-count.ensures.count
    (search rules) (search rules)

pub returns-in-Take : goal.returns-in-Take
returns-in-Take c =
    let a = c.args.world.now in
    let id = c.args.id.now in
    take_ends (asked c.args.user.now c.args.domain.now.domain c.args.w c.args.conn c.args.h id (seen a)) a c.resume-count.new.self c.say.new.self
    c.args.w c.args.conn id.session c.args.h c.in-Take.n c.resume-count.result id ((seen a).sessions id.session).traffic
    (answered_is a c.args.user.now c.args.domain.now.domain c.args.w c.args.conn c.args.h id (Take c.in-Take.n) c.requires.tied c.facts-facts.ensures.narrow
    (search rules))
    c.resume-count.ensures.count c.resume-count.ensures.did c.say.ensures

pub returns-in-TooHigh : goal.returns-in-TooHigh
returns-in-TooHigh c =
    let a = c.args.world.now in
    let id = c.args.id.now in
    high_ends (asked c.args.user.now c.args.domain.now.domain c.args.w c.args.conn c.args.h id (seen a)) a c.close_free.new.self
    c.args.w c.args.conn id.session c.args.h c.in-TooHigh.h c.in-TooHigh.kept c.in-TooHigh.sent id ((seen a).sessions id.session).traffic
    (answered_is a c.args.user.now c.args.domain.now.domain c.args.w c.args.conn c.args.h id (TooHigh c.in-TooHigh.h c.in-TooHigh.kept c.in-TooHigh.sent)
    c.requires.tied c.facts-facts.ensures.narrow (search rules))
    (subst (λ (m : ℕ). Did (At c.args.w (Close m (cause.TooHigh c.in-TooHigh.h c.in-TooHigh.kept c.in-TooHigh.sent)) ∷ []) 0 a c.close_free.new.self)
    (sym c.requires.conn) c.close_free.ensures)
