use Rattle.std.proofs.Common.{◌+◌, ◌-◌, ◌^◌, [], ◌∷◌, arith, sym, ap, ◌∙◌}
use Rattle.std.specs.Option.{option_copied_mut}
use Rattle.session_table.specs.Sessions.{OwnRecord, with_own}
use Rattle.session_table.proofs.ListLemmas.{owned, written}
use Rattle.house_model.specs.Effects.{On}
use Rattle.house_model.specs.Sessions.{Request}
use Rattle.house_world.proofs.DeedLemmas.{request_did}
use Rattle.house_world.proofs.OwnLemmas.{own_did, own_given, own_sent}
use Rattle.house_world.proofs.world.World.request.Goals as goal

pub ask-requires-clause-given : goal.ask-requires-clause-given
ask-requires-clause-given c =
    let own = c.in-Some.own.now in
    let at = owned c.args.s c.args.self.now.table c.in-Some.own.now c.own_mut.ensures.rises
    (sym (ap option_copied_mut c.in-Some.is) ∙ c.own_mut.ensures.there) in
    own_given c.args.s c.args.self.now.table own at c.requires.tied

pub ask-requires-clause-small : goal.ask-requires-clause-small
ask-requires-clause-small c =
    let own = c.in-Some.own.now in
    let at = owned c.args.s c.args.self.now.table c.in-Some.own.now c.own_mut.ensures.rises
    (sym (ap option_copied_mut c.in-Some.is) ∙ c.own_mut.ensures.there) in
    omega (arith, own_sent c.args.s c.args.self.now.table own at (2 ^ 64 - 2) c.requires.small)

pub returns-in-Some : goal.returns-in-Some
returns-in-Some c =
    let a = c.args.self.now in
    let s = c.args.s in
    let own = c.in-Some.own.now in
    let at = owned c.args.s c.args.self.now.table c.in-Some.own.now c.own_mut.ensures.rises
    (sym (ap option_copied_mut c.in-Some.is) ∙ c.own_mut.ensures.there) in
    let w = c.ask.new.own in
    let is = written at.whole own w (λ (o : OwnRecord). record o { asked_at = o.given_up + o.queue.given }) at.lent c.ask.ensures in
    own_did a s own w at (On s Request ∷ []) 0
    (request_did a s at.whole c.requires.tied c.requires.held at.there (with_own w at.whole) (c.requires.counts at.whole at.there) is)
