use Rattle.std.proofs.Common.{◌≡◌, [], ◌∷◌, Option, refl, sym, ap, subst, ◌∙◌}
use Rattle.std.specs.Prelude.{◌<◌, ◌-◌, ◌==◌, true, if◌then◌else◌, IsSomeAnd}
use Rattle.std.specs.Option.{option_copied_mut}
use Rattle.sm_queue.specs.Queues.{has_room, pushed, spare}
use Rattle.session_table.specs.declared.life.Life.TheVariants.{Live}
use Rattle.session_table.specs.Sessions.{OwnRecord, SessionRecord, with_own}
use Rattle.session_table.proofs.ListLemmas.{owned, written}
use Rattle.house_model.specs.Effects.{On}
use Rattle.house_model.specs.Sessions.{Push}
use Rattle.house_world.proofs.OwnLemmas.{own_did, own_spare, own_stays}
use Rattle.house_world.proofs.PartLemmas.{push_did}
use Rattle.house_world.proofs.ReadyLemmas.{spare_pushed}
use Rattle.house_world.proofs.StayLemmas.{stays_with}
use Rattle.house_world.proofs.world.World.queue.Goals as goal

pub add-requires-clause-spare : goal.add-requires-clause-spare
add-requires-clause-spare c =
    let own = c.in-Some.own.now in
    let at = owned c.args.s c.args.self.now.table c.in-Some.own.now c.own_mut.ensures.rises
    (sym (ap option_copied_mut c.in-Some.is) ∙ c.own_mut.ensures.there) in
    subst (λ (o : OwnRecord). 0 < spare o.queue) (sym at.lent) (c.requires.spare at.whole at.there)

pub add-requires-clause-room : goal.add-requires-clause-room
add-requires-clause-room c =
    let own = c.in-Some.own.now in
    let at = owned c.args.s c.args.self.now.table c.in-Some.own.now c.own_mut.ensures.rises
    (sym (ap option_copied_mut c.in-Some.is) ∙ c.own_mut.ensures.there) in
    subst (λ (o : OwnRecord). has_room o.queue.waiting c.args.entry ≡ true) (sym at.lent) (c.requires.room at.whole at.there)

pub returns-in-Some-clause-did : goal.returns-in-Some-clause-did
returns-in-Some-clause-did c =
    let a = c.args.self.now in
    let s = c.args.s in
    let own = c.in-Some.own.now in
    let at = owned c.args.s c.args.self.now.table c.in-Some.own.now c.own_mut.ensures.rises
    (sym (ap option_copied_mut c.in-Some.is) ∙ c.own_mut.ensures.there) in
    let w = c.add.new.own in
    let is = written at.whole own w (λ (o : OwnRecord). record o { queue = pushed c.args.entry o.queue }) at.lent c.add.ensures in
    let live = subst (λ (o : Option SessionRecord). IsSomeAnd o (λ y. y.state ≡ Live)) at.there c.requires.live in
    own_did a s own w at (On s (Push c.args.entry) ∷ []) 0
    (push_did a s at.whole c.requires.tied at.there (with_own w at.whole) c.args.entry live
    (c.requires.room at.whole at.there) c.requires.short is)

pub returns-in-Some-clause-queues : goal.returns-in-Some-clause-queues
returns-in-Some-clause-queues c = λ n r has.
    let a = c.args.self.now in
    let s = c.args.s in
    let own = c.in-Some.own.now in
    let at = owned c.args.s c.args.self.now.table c.in-Some.own.now c.own_mut.ensures.rises
    (sym (ap option_copied_mut c.in-Some.is) ∙ c.own_mut.ensures.there) in
    let w = c.add.new.own in
    let is = written at.whole own w (λ (o : OwnRecord). record o { queue = pushed c.args.entry o.queue }) at.lent c.add.ensures in
    own_spare a s own w at (n - (if r == s then 1 else 0)) r
    (spare_pushed s n r a.table at.whole (with_own w at.whole) c.args.entry at.there is has)

pub returns-in-Some-clause-stays : goal.returns-in-Some-clause-stays
returns-in-Some-clause-stays c =
    let a = c.args.self.now in
    let s = c.args.s in
    let own = c.in-Some.own.now in
    let at = owned c.args.s c.args.self.now.table c.in-Some.own.now c.own_mut.ensures.rises
    (sym (ap option_copied_mut c.in-Some.is) ∙ c.own_mut.ensures.there) in
    let w = c.add.new.own in
    own_stays a s own w at (stays_with a s at.whole (with_own w at.whole) at.there refl)
