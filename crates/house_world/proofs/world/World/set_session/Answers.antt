use Rattle.std.proofs.Common.{[], ◌∷◌, refl, sym, ap, ◌∙◌}
use Rattle.std.specs.Option.{option_copied_mut}
use Rattle.session_table.specs.Sessions.{with_own}
use Rattle.session_table.proofs.ListLemmas.{not_owned, owned, written}
use Rattle.house_model.specs.Steps.{set}
use Rattle.house_world.specs.Marks.{set_by}
use Rattle.house_world.proofs.MarkLemmas.{set_did, set_gone, spare_set}
use Rattle.house_world.proofs.OwnLemmas.{own_did, own_spare, own_stays}
use Rattle.house_world.proofs.StayLemmas.{stays_with}
use Rattle.house_world.proofs.world.World.set_session.Goals as goal

pub returns-in-Some-clause-did : goal.returns-in-Some-clause-did
returns-in-Some-clause-did c =
    let a = c.args.self.now in
    let s = c.args.s in
    let own = c.in-Some.own.now in
    let at = owned c.args.s c.args.self.now.table c.in-Some.own.now c.own_mut.ensures.rises
    (sym (ap option_copied_mut c.in-Some.is) ∙ c.own_mut.ensures.there) in
    let w = c.mark.new.own in
    let is = written at.whole own w (set_by c.args.change) at.lent c.mark.ensures in
    own_did a s own w at (set c.args.change ∷ []) 0
    (set_did a s at.whole c.requires.tied at.there (with_own w at.whole) c.args.change c.requires.named c.requires.short c.know_change.ensures is)

pub returns-in-Some-clause-room : goal.returns-in-Some-clause-room
returns-in-Some-clause-room c = λ n r has.
    let a = c.args.self.now in
    let s = c.args.s in
    let own = c.in-Some.own.now in
    let at = owned c.args.s c.args.self.now.table c.in-Some.own.now c.own_mut.ensures.rises
    (sym (ap option_copied_mut c.in-Some.is) ∙ c.own_mut.ensures.there) in
    let w = c.mark.new.own in
    let is = written at.whole own w (set_by c.args.change) at.lent c.mark.ensures in
    own_spare a s own w at n r (spare_set s n r a.table at.whole (with_own w at.whole) c.args.change at.there is has)

pub returns-in-Some-clause-stays : goal.returns-in-Some-clause-stays
returns-in-Some-clause-stays c =
    let a = c.args.self.now in
    let s = c.args.s in
    let own = c.in-Some.own.now in
    let at = owned c.args.s c.args.self.now.table c.in-Some.own.now c.own_mut.ensures.rises
    (sym (ap option_copied_mut c.in-Some.is) ∙ c.own_mut.ensures.there) in
    let w = c.mark.new.own in
    own_stays a s own w at (stays_with a s at.whole (with_own w at.whole) at.there refl)

pub returns-in-None-clause-did : goal.returns-in-None-clause-did
returns-in-None-clause-did c =
    let none = not_owned c.args.s c.args.self.now.table (sym (ap option_copied_mut c.in-None.is) ∙ c.own_mut.ensures.there) in
    set_gone c.args.self.now c.args.s c.args.change c.requires.tied c.requires.named none
