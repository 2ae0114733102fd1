use Rattle.std.proofs.Common.{rules, ◌≡◌, ◌++◌, ◌∷◌, [], ◌∙◌, sym, ap, map, subst, length, ◌<◌}
use Rattle.std.specs.List.{list_all}
use Rattle.jid_core.specs.Names.{are_distinct}
use Rattle.jid_core.specs.Preparation.{is_local}
use Rattle.account_book.specs.Lists.{names_of}
use Rattle.account_book.proofs.BookLemmas.{name-added, names-joined, all-local, all-differ, one-more}
use Rattle.account_book.specs.Entries.{entry_of}
use Rattle.account_book.specs.Lines.{has_name}
use Rattle.account_book.proofs.book.Accounts.with.Goals as goal

pub invariant_of-book : goal.invariant_of-book
invariant_of-book c =
    let fresh = ap (λ book. has_name (map entry_of book.accounts) c.args.account.name) c.book.view_is ∙ c.requires.new in
    let keys = name-added (λ k. k.items) c.in_ok-name.name c.book.inside.names.keys c.insert.new.self.keys c.args.account.name c.book.inside.accounts.items
    c.book.invariant.0 (search rules)
    fresh (search rules) in
    let pushed : c.push.new.self.items ≡ c.book.inside.accounts.items ++ c.args.account ∷ [] = search rules in (
      ap (λ ks. map (λ k. k.items) ks) keys
          ∙ names-joined (λ k. k.items) c.in_ok-name.name c.book.inside.names.keys c.args.account c.book.inside.accounts.items c.book.invariant.0 (search rules)
          ∙ ap names_of (sym pushed),
      ap (λ accounts. list_all is_local (names_of accounts)) pushed ∙ all-local c.book.inside.accounts.items c.args.account c.book.invariant.1 c.requires.local,
      ap (λ accounts. are_distinct (names_of accounts)) pushed ∙ all-differ c.book.inside.accounts.items c.args.account c.book.invariant.2 fresh,
      one-more c.book.inside.accounts.items c.args.account c.push.new.self.items pushed
          (subst (λ book. length book.accounts < 65536) (sym c.book.view_is) c.requires.few),
    )
