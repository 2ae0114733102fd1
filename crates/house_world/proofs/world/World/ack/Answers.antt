use Rattle.std.proofs.Common.{◌+◌, ◌-◌, ◌^◌, [], ◌∷◌, arith, sym, ap, ◌∙◌}
use Rattle.std.specs.Option.{option_copied_mut}
use Rattle.session_table.specs.Sessions.{OwnRecord, with_own}
use Rattle.session_table.proofs.ListLemmas.{owned, written}
use Rattle.sm_queue.specs.Queues.{without}
use Rattle.house_model.specs.Effects.{On}
use Rattle.house_model.specs.Sessions.{Ack}
use Rattle.house_world.proofs.HandLemmas.{ack_did}
use Rattle.house_world.proofs.OwnLemmas.{own_did, own_handled, own_sent}
use Rattle.house_world.proofs.world.World.ack.Goals as goal

pub handle-requires-clause-handled : goal.handle-requires-clause-handled
handle-requires-clause-handled c =
    let own = c.in-Some.own.now in
    let at = owned c.args.s c.args.self.now.table c.in-Some.own.now c.own_mut.ensures.rises
    (sym (ap option_copied_mut c.in-Some.is) ∙ c.own_mut.ensures.there) in
    (own_handled c.args.s c.args.self.now.table own at c.args.h c.args.n c.requires.handled).0

pub handle-requires-clause-within : goal.handle-requires-clause-within
handle-requires-clause-within c =
    let own = c.in-Some.own.now in
    let at = owned c.args.s c.args.self.now.table c.in-Some.own.now c.own_mut.ensures.rises
    (sym (ap option_copied_mut c.in-Some.is) ∙ c.own_mut.ensures.there) in
    (own_handled c.args.s c.args.self.now.table own at c.args.h c.args.n c.requires.handled).1

pub handle-requires-clause-small : goal.handle-requires-clause-small
handle-requires-clause-small c =
    let own = c.in-Some.own.now in
    let at = owned c.args.s c.args.self.now.table c.in-Some.own.now c.own_mut.ensures.rises
    (sym (ap option_copied_mut c.in-Some.is) ∙ c.own_mut.ensures.there) in
    omega (arith, own_sent c.args.s c.args.self.now.table own at (2 ^ 64 - 2) c.requires.small)

pub returns-in-Some : goal.returns-in-Some
returns-in-Some c =
    let a = c.args.self.now in
    let s = c.args.s in
    let own = c.in-Some.own.now in
    let at = owned c.args.s c.args.self.now.table c.in-Some.own.now c.own_mut.ensures.rises
    (sym (ap option_copied_mut c.in-Some.is) ∙ c.own_mut.ensures.there) in
    let n = c.args.n in
    let w = c.handle.new.own in
    let is = written at.whole own w (λ (o : OwnRecord). record o { queue = without n o.queue; given_up = o.given_up + n }) at.lent c.handle.ensures in
    let handled = c.requires.handled at.whole at.there in
    own_did a s own w at (On s (Ack c.args.h) ∷ []) 0
    (ack_did a s at.whole c.requires.tied c.requires.held at.there (with_own w at.whole) c.args.h n (c.requires.counts at.whole at.there)
    handled.0 handled.1 is)
