use Rattle.std.proofs.Common.{sym, ap, ◌∙◌}
use Rattle.house_model.specs.declared.event.Event.TheVariants.{Pull}
use Rattle.house_model.specs.Gate.{gate}
use Rattle.house_world.specs.Worlds.{seen}
use Rattle.house_core.proofs.PullLemmas.{holds_gives, knows_gives, stop_gives, waits_gives}
use Rattle.house_core.proofs.pulling.pull.Goals as goal

pub returns-in-Stop-clause-gives : goal.returns-in-Stop-clause-gives
returns-in-Stop-clause-gives c = λ k t world now.
    let e = Pull c.args.w t in
    stop_gives k e (gate k e) c.in-Stop.reply c.args.world.now c.check.new.world c.args.out.now.items (c.in-Stop.ensures.passes k world now)

pub returns-in-Holds-clause-gives : goal.returns-in-Holds-clause-gives
returns-in-Holds-clause-gives c = λ k t world now.
    let e = Pull c.args.w t in
    let passes = c.in-Holds.ensures.passes k world now in
    holds_gives k c.args.w t (gate k e) c.give.result c.args.world.now c.check.new.world c.give.new.world c.args.out.now.items c.give.new.out.items world
    passes.1
    c.in-Holds.conn c.in-Holds.session passes.0 (c.give.ensures.gives k (world ∙ ap seen (sym passes.1)) now)

pub returns-in-Knows-clause-gives : goal.returns-in-Knows-clause-gives
returns-in-Knows-clause-gives c = λ k t world now.
    let e = Pull c.args.w t in
    let passes = c.in-Knows.ensures.passes k world now in
    knows_gives k c.args.w t (gate k e) c.give-in-Knows.result c.args.world.now c.check.new.world c.give-in-Knows.new.world c.args.out.now.items
    c.give-in-Knows.new.out.items world passes.1
    c.in-Knows.conn c.in-Knows.user passes.0 (c.give-in-Knows.ensures.gives k (world ∙ ap seen (sym passes.1)) now)

pub returns-in-Waits-clause-gives : goal.returns-in-Waits-clause-gives
returns-in-Waits-clause-gives c = λ k t world now.
    let e = Pull c.args.w t in
    let passes = c.in-Waits.ensures.passes k world now in
    waits_gives k c.args.w t (gate k e) c.give-in-Waits.result c.args.world.now c.check.new.world c.give-in-Waits.new.world c.args.out.now.items
    c.give-in-Waits.new.out.items world passes.1
    passes.0 (c.give-in-Waits.ensures.gives k (world ∙ ap seen (sym passes.1)) now)

pub give-requires-clause-small : goal.give-requires-clause-small
give-requires-clause-small c = c.check.ensures.few 18446744073709551614 c.requires.small

pub give-requires-in-Knows-clause-small : goal.give-requires-in-Knows-clause-small
give-requires-in-Knows-clause-small c = c.check.ensures.few 18446744073709551614 c.requires.small

pub give-requires-in-Waits-clause-small : goal.give-requires-in-Waits-clause-small
give-requires-in-Waits-clause-small c = c.check.ensures.few 18446744073709551614 c.requires.small
