use Rattle.std.proofs.Common.{Some, None, ap, ◌∙◌}
use Rattle.contact_table.specs.Books.{bare_of, contacts_of}
use Rattle.contact_table.specs.Tables.{book_after}
use Rattle.contact_table.proofs.KeepLemmas.{owner_by, told_by}
use Rattle.contact_table.proofs.book.Book.roster.Goals as goal

pub returns-in-Some-clause-contacts : goal.returns-in-Some-clause-contacts
returns-in-Some-clause-contacts c =
    ap (λ s. s.contacts)
    (told_by c.self.inside.domain c.bytes.result.now c.args.user.now (book_after c.self.inside.log.entries) c.self.inside.folders.entries
    (Some c.in-Some.folder.now)
    c.bytes.ensures.bytes c.in-Some.ensures.value c.self.invariant)
    ∙ ap (λ b. contacts_of b.domain b.book c.args.user.now) c.self.view_is

pub returns-in-Some-clause-owner : goal.returns-in-Some-clause-owner
returns-in-Some-clause-owner c =
    owner_by c.self.inside.domain c.bytes.result.now c.args.user.now (book_after c.self.inside.log.entries) c.self.inside.folders.entries
    c.in-Some.folder.now c.bytes.ensures.bytes c.in-Some.ensures.value c.self.invariant
    ∙ ap (λ b. bare_of b.domain c.args.user.now) c.self.view_is

pub returns-in-None-clause-contacts : goal.returns-in-None-clause-contacts
returns-in-None-clause-contacts c =
    ap (λ s. s.contacts)
    (told_by c.self.inside.domain c.bytes.result.now c.args.user.now (book_after c.self.inside.log.entries) c.self.inside.folders.entries None
    c.bytes.ensures.bytes c.in-None.ensures.value c.self.invariant)
    ∙ ap (λ b. contacts_of b.domain b.book c.args.user.now) c.self.view_is
