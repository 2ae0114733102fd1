use Rattle.std.proofs.Common.{◌+◌, ◌-◌, ◌^◌, [], ◌∷◌, true, arith, sym, ap, ◌∙◌}
use Rattle.std.specs.Option.{option_copied_mut}
use Rattle.session_table.specs.Sessions.{OwnRecord, with_own}
use Rattle.session_table.proofs.ListLemmas.{owned, written}
use Rattle.sm_queue.specs.Queues.{counted_anew}
use Rattle.house_model.specs.Effects.{On}
use Rattle.house_model.specs.Sessions.{Enable}
use Rattle.house_world.proofs.DeedLemmas.{enable_did}
use Rattle.house_world.proofs.OwnLemmas.{own_did, own_given, own_sent}
use Rattle.house_world.proofs.world.World.enable.Goals as goal

pub begin-requires-clause-given : goal.begin-requires-clause-given
begin-requires-clause-given c =
    let own = c.in-Some.own.now in
    let at = owned c.args.s c.args.self.now.table c.in-Some.own.now c.own_mut.ensures.rises
    (sym (ap option_copied_mut c.in-Some.is) ∙ c.own_mut.ensures.there) in
    own_given c.args.s c.args.self.now.table own at c.requires.tied

pub begin-requires-clause-small : goal.begin-requires-clause-small
begin-requires-clause-small c =
    let own = c.in-Some.own.now in
    let at = owned c.args.s c.args.self.now.table c.in-Some.own.now c.own_mut.ensures.rises
    (sym (ap option_copied_mut c.in-Some.is) ∙ c.own_mut.ensures.there) in
    omega (arith, own_sent c.args.s c.args.self.now.table own at (2 ^ 64 - 2) c.requires.small)

pub returns-in-Some-clause-did : goal.returns-in-Some-clause-did
returns-in-Some-clause-did c =
    let a = c.args.self.now in
    let s = c.args.s in
    let own = c.in-Some.own.now in
    let at = owned c.args.s c.args.self.now.table c.in-Some.own.now c.own_mut.ensures.rises
    (sym (ap option_copied_mut c.in-Some.is) ∙ c.own_mut.ensures.there) in
    let w = c.begin.new.own in
    let f = λ (o : OwnRecord). record o {
      given_up = o.given_up + o.queue.given;
      queue = counted_anew o.queue;
      asked_at = o.given_up + o.queue.given;
      base_in = o.acted;
      counts = true;
      resume_id = c.args.id;
    } in
    own_did a s own w at (On s (Enable c.args.id) ∷ []) 0
    (enable_did a s at.whole c.requires.tied c.requires.held at.there (with_own w at.whole) c.args.id (c.requires.counts at.whole at.there)
    (written at.whole own w f at.lent c.begin.ensures))
