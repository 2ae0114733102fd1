use Rattle.std.proofs.Common.{◌≡◌, Bool, true, false, codes, sym, subst, ◌∙◌, if◌then◌else◌}
use Rattle.std.specs.Prelude.{IfOk}
use Rattle.stanza_model.specs.Rosters.{roster_space}
use Rattle.stanza_router.specs.declared.places.Place.TheVariants.{Account}
use Rattle.roster_book.specs.Requests.{roster_get}
use Rattle.mam_wire.specs.Answers.{mam_space}
use Rattle.house_model.specs.Archives.{archived_of}
use Rattle.house_model.specs.Requests.{gets, queries, sets}
use Rattle.house_model.specs.Routing.{Scene, own_contacts, roster_changed, to_server}
use Rattle.house_world.specs.Worlds.{seen}
use Rattle.house_routing.proofs.rosters.to_account.Goals as goal

pub returns-then-sets : goal.returns-then-sets
returns-then-sets c = λ users moment.
    let o : Scene = record { domain = c.args.domain.now; users = users; world = seen c.args.world.now; moment = moment } in
    let own = c.args.own.now in
    let who = c.args.who.now in
    let st = c.args.stanza.now in
    let gotten : gets roster_space (codes "query") st ≡ false = sym c.gets.ensures ∙ c.if-gets.false in
    let set : sets roster_space (codes "query") st ≡ true = sym c.sets.ensures ∙ c.if-sets.true in
    subst (λ (b : Bool). IfOk c.roster_changed.result (λ effects. effects.items
    ≡ (if b then roster_get (own_contacts o own) who st
    else (if sets roster_space (codes "query") st then roster_changed o own who st
    else (if queries mam_space st then archived_of o.world.archives own who st else to_server who st Account))))) (sym gotten)
    (subst (λ (b : Bool). IfOk c.roster_changed.result (λ effects. effects.items
    ≡ (if b then roster_changed o own who st else (if queries mam_space st then archived_of o.world.archives own who st else to_server who st Account)))) (sym set)
    (c.roster_changed.ensures users moment))
