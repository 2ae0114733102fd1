use Rattle.std.proofs.Common.{arith}
use Rattle.std.specs.Option.{option_copied}
use Rattle.house_routing.proofs.ShownLemmas.{shown_done}
use Rattle.house_routing.proofs.archives.push_shown.Goals as goal

pub returns : goal.returns
returns c =
    shown_done c.requires.follow.0 c.args.who.now (option_copied c.args.from) c.args.query.now.queryid c.args.rows.now c.args.query.now.filter
    c.args.query.now.ask c.args.page.now c.requires.follow.1 c.requires.page _ c.loop-id.id-index (omega (arith, c.loop-id-test.false))
    c.args.effects.now.items c.loop-id.effects.items c.loop-id.invariant
