use Rattle.std.proofs.Common.{◌≡◌, List, ℕ, Option, ap, subst, ◌∙◌}
use Rattle.std.specs.Prelude.{IfOk}
use Rattle.std.specs.Option.{option_and_then}
use Rattle.jid_core.specs.Addresses.{Address}
use Rattle.contact_table.specs.Books.{bare_of, contacts_of, local_user}
use Rattle.roster_book.specs.Requests.{removed_by}
use Rattle.house_routing.proofs.rosters.user_removed.Goals as goal

pub returns : goal.returns
returns c = λ users moment.
    let domain = c.args.domain.now in
    subst (λ (a : Option Address). IfOk c.user_at.result (λ user. user ≡ option_and_then (local_user domain) a))
    (c.as_ref.ensures.value
    ∙ (c.in_ok-address.ensures
    ∙ ap (λ (d : List ℕ). removed_by (bare_of domain c.args.own.now) (contacts_of d c.args.world.now.book.book c.args.own.now) c.args.stanza.now)
    c.requires.domain))
    c.user_at.ensures
