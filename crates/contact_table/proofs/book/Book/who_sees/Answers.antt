use Rattle.std.proofs.Common.{Some, None, ap, ◌∙◌}
use Rattle.contact_table.specs.Books.{who_sees}
use Rattle.contact_table.specs.Tables.{book_after}
use Rattle.contact_table.proofs.KeepLemmas.{told_by}
use Rattle.contact_table.proofs.book.Book.who_sees.Goals as goal

pub returns-in-Some : goal.returns-in-Some
returns-in-Some c =
    ap (λ s. s.who_sees)
    (told_by c.self.inside.domain c.bytes.result.now c.args.user.now (book_after c.self.inside.log.entries) c.self.inside.folders.entries
    (Some c.in-Some.folder.now)
    c.bytes.ensures.bytes c.in-Some.ensures.value c.self.invariant)
    ∙ ap (λ b. who_sees b.book c.args.user.now) c.self.view_is

pub returns-in-None : goal.returns-in-None
returns-in-None c =
    ap (λ s. s.who_sees)
    (told_by c.self.inside.domain c.bytes.result.now c.args.user.now (book_after c.self.inside.log.entries) c.self.inside.folders.entries None
    c.bytes.ensures.bytes c.in-None.ensures.value c.self.invariant)
    ∙ ap (λ b. who_sees b.book c.args.user.now) c.self.view_is
