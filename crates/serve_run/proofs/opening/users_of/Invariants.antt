use Rattle.std.proofs.Common.{◌≡◌, ◌++◌, drop}
use Rattle.account_book.specs.Lists.{names_of}
use Rattle.serve_run.proofs.opening.users_of.Given as goal

abbrev pub invariant-loop-account : goal.invariant-loop-account
invariant-loop-account l = l.users.items ++ names_of (drop l.account-index l.account-items) ≡ names_of l.accounts.accounts
