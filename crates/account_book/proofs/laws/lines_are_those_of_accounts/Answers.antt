use Rattle.account_book.proofs.WrittenLemmas.{line-written}
use Rattle.account_book.proofs.ReadLemmas.{line-spelt}
use Rattle.account_book.proofs.laws.lines_are_those_of_accounts.Goals as goal

pub returns-clause-written : goal.returns-clause-written
returns-clause-written c = line-written

pub returns-clause-spelt : goal.returns-clause-spelt
returns-clause-spelt c = line-spelt
