use Rattle.std.proofs.Common.{Some, None, sym, ap, ◌∙◌, refl, if◌then◌else◌}
use Rattle.archive_table.specs.Tables.{archives_of}
use Rattle.house_model.specs.Lookups.{if_it_goes_on}
use Rattle.house_world.specs.Worlds.{seen}
use Rattle.house_world.proofs.ActLemmas.{some_kept}
use Rattle.house_world.proofs.AtLemmas.{at_is}
use Rattle.house_routing.proofs.listing.live_at.Goals as goal

pub returns-in-Some-clause-live : goal.returns-in-Some-clause-live
returns-in-Some-clause-live c =
    let a = c.args.world.now in
    let at = at_is (some_kept (seen a) 0) c.args.address.now a.table a.answers.items a.book.book a.rooms
    (archives_of a.archives) c.requires.tied c.session.ensures.rises refl
    ∙ sym c.at.ensures.number in
    sym (ap (if_it_goes_on (seen a)) (at ∙ c.in-Some.is)
    ∙ ap (λ b. if b then Some c.in-Some.s else None) (sym c.is_live.ensures ∙ c.if-is_live.true))

pub returns-in_default-clause-live : goal.returns-in_default-clause-live
returns-in_default-clause-live c =
    let a = c.args.world.now in
    let at = at_is (some_kept (seen a) 0) c.args.address.now a.table a.answers.items a.book.book a.rooms
    (archives_of a.archives) c.requires.tied c.session.ensures.rises refl
    ∙ sym c.at.ensures.number in
    sym (ap (if_it_goes_on (seen a)) (at ∙ c.in-Some.is)
    ∙ ap (λ b. if b then Some c.in-Some.s else None) (sym c.is_live.ensures ∙ c.if-is_live.false))

pub returns-in_default-2-clause-live : goal.returns-in_default-2-clause-live
returns-in_default-2-clause-live c =
    let a = c.args.world.now in
    let at = at_is (some_kept (seen a) 0) c.args.address.now a.table a.answers.items a.book.book a.rooms
    (archives_of a.archives) c.requires.tied c.session.ensures.rises refl
    ∙ sym c.at.ensures.number in
    sym (ap (if_it_goes_on (seen a)) (at ∙ c.in_default.is))
