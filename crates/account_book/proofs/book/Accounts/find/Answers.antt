use Rattle.std.proofs.Common.{rules, ◌∙◌, sym, ap}
use Rattle.std.specs.List.{slice_get}
use Rattle.account_book.specs.Lists.{named}
use Rattle.account_book.proofs.BookLemmas.{got, named-own, name-found, name-missing}
use Rattle.account_book.proofs.book.Accounts.find.Goals as goal

pub returns-in_err-place-clause-named : goal.returns-in_err-place-clause-named
returns-in_err-place-clause-named c =
    (search rules) ∙ sym (name-missing (λ k. k.items) c.args.name.now c.self.inside.names.keys c.self.inside.accounts.items c.self.invariant.0 (search rules))
    ∙ ap (λ book. named c.args.name.now book.accounts) c.self.view_is

pub returns-clause-named : goal.returns-clause-named
returns-clause-named c =
    got (λ x. x.now) c.get.result c.deref.result.now c.in_ok-place.place c.get.ensures.lookup.0 c.get.ensures.lookup.1
    ∙ ap (λ xs. slice_get xs c.in_ok-place.place) c.deref.ensures.value
    ∙ name-found (λ k. k.items) c.args.name.now c.self.inside.names.keys c.self.inside.accounts.items c.in_ok-place.place c.self.invariant.0 (search rules)
    ∙ ap (λ book. named c.args.name.now book.accounts) c.self.view_is

pub returns-clause-own : goal.returns-clause-own
returns-clause-own c = named-own (λ x. x.now) c.get.result c.args.name.now c.args.self.now.accounts (returns-clause-named c)
