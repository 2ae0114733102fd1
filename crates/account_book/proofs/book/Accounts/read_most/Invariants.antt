use Rattle.std.proofs.Common.{◌≡◌, length, map}
use Rattle.account_book.specs.Entries.{entry_of}
use Rattle.account_book.specs.Lists.{lines_of, entries_after, entries_within}
use Rattle.account_book.proofs.book.Accounts.read_most.Given as goal

abbrev pub invariant-loop-rest : goal.invariant-loop-rest
invariant-loop-rest l = record {
  entries : entries_after l.fn.most (map entry_of l.book.accounts) (lines_of l.rest) ≡ entries_within l.fn.most l.fn.bytes;
  secret : l.book.secret ≡ l.fn.secret;
}

abbrev pub decreases-loop-rest : goal.decreases-loop-rest
decreases-loop-rest l = length l.rest
