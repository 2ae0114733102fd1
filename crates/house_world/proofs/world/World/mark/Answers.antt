use Rattle.std.proofs.Common.{◌-◌, ◌^◌, [], ◌∷◌, arith, sym, ap, ◌∙◌}
use Rattle.std.specs.Option.{option_copied_mut}
use Rattle.session_table.specs.Sessions.{OwnRecord, with_own}
use Rattle.session_table.proofs.ListLemmas.{owned, written}
use Rattle.house_model.specs.Effects.{On}
use Rattle.house_model.specs.Sessions.{Pull}
use Rattle.house_world.specs.Worlds.{given_next}
use Rattle.house_world.proofs.HandLemmas.{mark_did}
use Rattle.house_world.proofs.OwnLemmas.{own_did, own_next, own_sent}
use Rattle.house_world.proofs.world.World.mark.Goals as goal

pub mark-requires-clause-next : goal.mark-requires-clause-next
mark-requires-clause-next c =
    let own = c.in-Some.own.now in
    let at = owned c.args.s c.args.self.now.table c.in-Some.own.now c.own_mut.ensures.rises
    (sym (ap option_copied_mut c.in-Some.is) ∙ c.own_mut.ensures.there) in
    own_next c.args.s c.args.self.now.table own at c.requires.next

pub mark-requires-clause-small : goal.mark-requires-clause-small
mark-requires-clause-small c =
    let own = c.in-Some.own.now in
    let at = owned c.args.s c.args.self.now.table c.in-Some.own.now c.own_mut.ensures.rises
    (sym (ap option_copied_mut c.in-Some.is) ∙ c.own_mut.ensures.there) in
    omega (arith, own_sent c.args.s c.args.self.now.table own at (2 ^ 64 - 2) c.requires.small)

pub returns-in-Some : goal.returns-in-Some
returns-in-Some c =
    let a = c.args.self.now in
    let s = c.args.s in
    let own = c.in-Some.own.now in
    let at = owned c.args.s c.args.self.now.table c.in-Some.own.now c.own_mut.ensures.rises
    (sym (ap option_copied_mut c.in-Some.is) ∙ c.own_mut.ensures.there) in
    let w = c.mark.new.own in
    let is = written at.whole own w (λ (o : OwnRecord). given_next o.counts o) at.lent c.mark.ensures in
    own_did a s own w at (On s Pull ∷ []) 1
    (mark_did a s at.whole c.requires.tied c.requires.held at.there (with_own w at.whole) (c.requires.next at.whole at.there) is)
