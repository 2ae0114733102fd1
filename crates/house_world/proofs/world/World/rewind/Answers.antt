use Rattle.std.proofs.Common.{◌-◌, ◌^◌, arith, sym, ap, ◌∙◌}
use Rattle.std.specs.Option.{option_copied_mut}
use Rattle.session_table.proofs.ListLemmas.{owned, with_session_changed, written}
use Rattle.session_table.specs.Tables.{with_session}
use Rattle.house_world.specs.Worlds.{rewound, rewound_to}
use Rattle.house_world.proofs.OwnLemmas.{own_handled, own_sent}
use Rattle.house_world.proofs.world.World.rewind.Goals as goal

pub rewind-requires-clause-handled : goal.rewind-requires-clause-handled
rewind-requires-clause-handled c =
    let own = c.in-Some.own.now in
    let at = owned c.args.s c.args.self.now.table c.in-Some.own.now c.own_mut.ensures.rises
    (sym (ap option_copied_mut c.in-Some.is) ∙ c.own_mut.ensures.there) in
    (own_handled c.args.s c.args.self.now.table own at c.args.h c.args.n c.requires.handled).0

pub rewind-requires-clause-within : goal.rewind-requires-clause-within
rewind-requires-clause-within c =
    let own = c.in-Some.own.now in
    let at = owned c.args.s c.args.self.now.table c.in-Some.own.now c.own_mut.ensures.rises
    (sym (ap option_copied_mut c.in-Some.is) ∙ c.own_mut.ensures.there) in
    (own_handled c.args.s c.args.self.now.table own at c.args.h c.args.n c.requires.handled).1

pub rewind-requires-clause-small : goal.rewind-requires-clause-small
rewind-requires-clause-small c =
    let own = c.in-Some.own.now in
    let at = owned c.args.s c.args.self.now.table c.in-Some.own.now c.own_mut.ensures.rises
    (sym (ap option_copied_mut c.in-Some.is) ∙ c.own_mut.ensures.there) in
    omega (arith, own_sent c.args.s c.args.self.now.table own at (2 ^ 64 - 2) c.requires.small)

pub returns-in-Some-clause-table : goal.returns-in-Some-clause-table
returns-in-Some-clause-table c =
    let a = c.args.self.now in
    let s = c.args.s in
    let own = c.in-Some.own.now in
    let at = owned c.args.s c.args.self.now.table c.in-Some.own.now c.own_mut.ensures.rises
    (sym (ap option_copied_mut c.in-Some.is) ∙ c.own_mut.ensures.there) in
    let w = c.rewind.new.own in
    let is = written at.whole own w (rewound c.args.n) at.lent c.rewind.ensures in
    sym (at.ends w) ∙ (ap (with_session s a.table) is
    ∙ with_session_changed s (rewound_to c.args.n) a.table at.whole c.own_mut.ensures.rises at.there)
