use Rattle.std.proofs.Common.{◌≡◌, List, ℕ, Option, sym, ap, subst, ◌∙◌}
use Rattle.std.specs.Prelude.{IfOk}
use Rattle.std.specs.Option.{option_copied}
use Rattle.subscription_pairs.specs.Changes.{removal}
use Rattle.subscription_pairs.specs.Users.{User}
use Rattle.house_model.specs.Presences.{party}
use Rattle.house_model.specs.Routing.{parted}
use Rattle.house_world.specs.Worlds.{seen}
use Rattle.house_routing.proofs.RosterLemmas.{party_is}
use Rattle.house_routing.proofs.rosters.parted.Goals as goal

pub returns : goal.returns
returns c = λ users moment.
    let domain = c.args.domain.now in
    let world = seen c.args.world.now in
    let own = c.args.own.now in
    let user = c.in-Some.user.now in
    let mine : c.party.result ≡ party domain world own =
    c.party.ensures ∙ party_is domain c.args.world.now.book.domain world own c.in_ok-mine.mine.bare c.in_ok-mine.mine.sessions.items
    c.in_ok-mine.mine.presences.items c.in_ok-mine.ensures.bare c.requires.domain c.in_ok-mine.ensures.sessions
    c.in_ok-mine.ensures.presences in
    let theirs : c.party-2.result ≡ party domain world user =
    c.party-2.ensures ∙ party_is domain c.args.world.now.book.domain world user c.in_ok-theirs.theirs.bare c.in_ok-theirs.theirs.sessions.items
    c.in_ok-theirs.theirs.presences.items c.in_ok-theirs.ensures.bare c.requires.domain c.in_ok-theirs.ensures.sessions
    c.in_ok-theirs.ensures.presences in
    subst (λ (u : Option (List ℕ)). IfOk c.removal.result (λ effects. effects.items
    ≡ parted (record { domain = domain; users = users; world = world; moment = moment }) own u)) (sym (ap option_copied c.in-Some.is))
    (subst (λ (x : User). IfOk c.removal.result (λ effects. effects.items ≡ removal x (party domain world user))) mine
    (subst (λ (y : User). IfOk c.removal.result (λ effects. effects.items ≡ removal c.party.result y)) theirs c.removal.ensures))
