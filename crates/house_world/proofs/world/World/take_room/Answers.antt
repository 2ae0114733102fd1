use Rattle.std.proofs.Common.{◌≤◌, [], sym, ap, subst, ◌∙◌}
use Rattle.std.specs.Option.{option_copied_mut}
use Rattle.session_table.specs.Sessions.{OwnRecord, with_own}
use Rattle.session_table.proofs.ListLemmas.{owned, written}
use Rattle.house_world.proofs.ActLemmas.{held_still, on_ok, roomy_did}
use Rattle.house_world.proofs.OwnLemmas.{own_did, own_held, own_spare}
use Rattle.house_world.proofs.ReadyLemmas.{spare_here, spare_roomy}
use Rattle.house_world.proofs.world.World.take_room.Goals as goal

pub returns-in-Some-clause-room : goal.returns-in-Some-clause-room
returns-in-Some-clause-room c =
    let a = c.args.self.now in
    let s = c.args.s in
    let own = c.in-Some.own.now in
    let at = owned c.args.s c.args.self.now.table c.in-Some.own.now c.own_mut.ensures.rises
    (sym (ap option_copied_mut c.in-Some.is) ∙ c.own_mut.ensures.there) in
    let w = c.reserve.new.own in
    on_ok c.reserve.result
    (λ has. own_spare a s own w at c.args.entries s (spare_here s c.args.entries a.table at.whole (with_own w at.whole) at.there has))
    c.reserve.ensures.spare

pub returns-in-Some-clause-keeps : goal.returns-in-Some-clause-keeps
returns-in-Some-clause-keeps c = λ n r has.
    let a = c.args.self.now in
    let s = c.args.s in
    let own = c.in-Some.own.now in
    let at = owned c.args.s c.args.self.now.table c.in-Some.own.now c.own_mut.ensures.rises
    (sym (ap option_copied_mut c.in-Some.is) ∙ c.own_mut.ensures.there) in
    let w = c.reserve.new.own in
    let is = written at.whole own w (λ (o : OwnRecord). record o { queue = record o.queue { room = w.queue.room } }) at.lent c.reserve.ensures.same in
    let more = subst (λ (o : OwnRecord). o.queue.room ≤ w.queue.room) at.lent c.reserve.ensures.keeps in
    own_spare a s own w at n r (spare_roomy s n r a.table at.whole (with_own w at.whole) at.there more is has)

pub returns-in-Some-clause-same : goal.returns-in-Some-clause-same
returns-in-Some-clause-same c =
    let a = c.args.self.now in
    let s = c.args.s in
    let own = c.in-Some.own.now in
    let at = owned c.args.s c.args.self.now.table c.in-Some.own.now c.own_mut.ensures.rises
    (sym (ap option_copied_mut c.in-Some.is) ∙ c.own_mut.ensures.there) in
    let w = c.reserve.new.own in
    let is = written at.whole own w (λ (o : OwnRecord). record o { queue = record o.queue { room = w.queue.room } }) at.lent c.reserve.ensures.same in
    own_did a s own w at [] 0 (roomy_did a s w.queue.room at.whole c.requires.tied at.there (with_own w at.whole) is)

pub returns-in-Some-clause-held : goal.returns-in-Some-clause-held
returns-in-Some-clause-held c = λ v n held.
    let a = c.args.self.now in
    let s = c.args.s in
    let own = c.in-Some.own.now in
    let at = owned c.args.s c.args.self.now.table c.in-Some.own.now c.own_mut.ensures.rises
    (sym (ap option_copied_mut c.in-Some.is) ∙ c.own_mut.ensures.there) in
    let w = c.reserve.new.own in
    let is = written at.whole own w (λ (o : OwnRecord). record o { queue = record o.queue { room = w.queue.room } }) at.lent c.reserve.ensures.same in
    own_held a s own w at v n (held_still s v n a.table at.whole (with_own w at.whole) w.queue.room at.there is held)
