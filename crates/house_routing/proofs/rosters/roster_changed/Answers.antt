use Rattle.std.proofs.Common.{rules, ◌≡◌, ◌++◌, ℕ, List, Option, ap, ◌∙◌}
use Rattle.jid_core.specs.Addresses.{Address}
use Rattle.stanza_model.specs.declared.effect.Effect.{Effect}
use Rattle.stanza_model.specs.declared.here.Here.{Here}
use Rattle.stanza_model.specs.declared.shared.Contact.{Contact}
use Rattle.contact_table.specs.Books.{bare_of, contacts_of}
use Rattle.roster_book.specs.Requests.{roster_set}
use Rattle.house_model.specs.Routing.{Scene, own_contacts, parted, user_removed}
use Rattle.house_world.specs.Worlds.{seen}
use Rattle.house_routing.proofs.rosters.roster_changed.Goals as goal

pub returns : goal.returns
returns c = λ users moment.
    let domain = c.args.domain.now in
    let own = c.args.own.now in
    let who : Here = c.args.who.now in
    let st = c.args.stanza.now in
    let o : Scene = record { domain = domain; users = users; world = seen c.args.world.now; moment = moment } in
    let more : List Effect = c.in_ok-more.more.items in
    let appended : c.append.new.self.items ≡ c.in_ok-effects.effects.items ++ more = search rules in
    let removed = c.as_ref.ensures.value ∙ c.in_ok-removed.ensures users moment in
    appended
    ∙ (ap (λ (es : List Effect). es ++ more) (c.in_ok-effects.ensures users moment ∙ ap (λ (u : Option (List ℕ)). parted o own u) removed)
    ∙ ap (λ (es : List Effect). parted o own (user_removed o own st) ++ es)
    (c.in_ok-more.ensures
    ∙ (ap (λ (b : Address). roster_set b c.contacts.result.now who c.as_slice.result.now st) c.in_ok-member.ensures.bare
    ∙ (ap (λ (cs : List Contact). roster_set (bare_of domain own) cs who c.as_slice.result.now st)
    (c.contacts.ensures ∙ ap (λ (d : List ℕ). contacts_of d c.args.world.now.book.book own) c.requires.domain)
    ∙ ap (λ (hs : List Here). roster_set (bare_of domain own) (own_contacts o own) who hs st)
    (c.as_slice.ensures.value ∙ c.in_ok-member.ensures.sessions)))))
