use Rattle.std.proofs.Common.{◌+◌, ◌-◌, ◌^◌, [], ◌∷◌, arith, sym, ap, ◌∙◌}
use Rattle.std.specs.Option.{option_copied_mut}
use Rattle.session_table.specs.Sessions.{OwnRecord, with_own}
use Rattle.session_table.proofs.ListLemmas.{owned, written}
use Rattle.house_model.specs.Effects.{On}
use Rattle.house_model.specs.Sessions.{Act}
use Rattle.house_world.proofs.DeedLemmas.{act_did}
use Rattle.house_world.proofs.OwnLemmas.{own_acted, own_did, own_spare}
use Rattle.house_world.proofs.ReadyLemmas.{spare_acted}
use Rattle.house_world.proofs.world.World.act.Goals as goal

pub act-requires : goal.act-requires
act-requires c =
    let own = c.in-Some.own.now in
    let at = owned c.args.s c.args.self.now.table c.in-Some.own.now c.own_mut.ensures.rises
    (sym (ap option_copied_mut c.in-Some.is) ∙ c.own_mut.ensures.there) in
    omega (arith, own_acted c.args.s c.args.self.now.table own at (2 ^ 64 - 2) c.requires.small)

pub returns-in-Some-clause-did : goal.returns-in-Some-clause-did
returns-in-Some-clause-did c = λ stanza.
    let a = c.args.self.now in
    let s = c.args.s in
    let own = c.in-Some.own.now in
    let at = owned c.args.s c.args.self.now.table c.in-Some.own.now c.own_mut.ensures.rises
    (sym (ap option_copied_mut c.in-Some.is) ∙ c.own_mut.ensures.there) in
    let w = c.act.new.own in
    let is = written at.whole own w (λ (o : OwnRecord). record o { acted = o.acted + 1 }) at.lent c.act.ensures in
    own_did a s own w at (On s (Act stanza) ∷ []) 1
    (act_did a s at.whole c.requires.tied c.requires.held at.there (with_own w at.whole) is stanza)

pub returns-in-Some-clause-room : goal.returns-in-Some-clause-room
returns-in-Some-clause-room c = λ n r has.
    let a = c.args.self.now in
    let s = c.args.s in
    let own = c.in-Some.own.now in
    let at = owned c.args.s c.args.self.now.table c.in-Some.own.now c.own_mut.ensures.rises
    (sym (ap option_copied_mut c.in-Some.is) ∙ c.own_mut.ensures.there) in
    let w = c.act.new.own in
    let is = written at.whole own w (λ (o : OwnRecord). record o { acted = o.acted + 1 }) at.lent c.act.ensures in
    own_spare a s own w at n r (spare_acted s n r a.table at.whole (with_own w at.whole) at.there is has)
