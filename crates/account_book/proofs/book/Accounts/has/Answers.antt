use Rattle.std.proofs.Common.{◌∙◌, ap, map}
use Rattle.account_book.specs.Entries.{entry_of}
use Rattle.account_book.specs.Lines.{has_name}
use Rattle.account_book.proofs.BookLemmas.{names-have}
use Rattle.account_book.proofs.book.Accounts.has.Goals as goal

pub returns : goal.returns
returns c =
    c.contains.ensures ∙ names-have (λ k. k.items) c.args.name.now c.self.inside.names.keys c.self.inside.accounts.items c.self.invariant.0
    ∙ ap (λ book. has_name (map entry_of book.accounts) c.args.name.now) c.self.view_is
