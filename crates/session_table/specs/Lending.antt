-- What a session and the table end as, once what was lent of a session comes back.
use Rattle.std.specs.Prelude.{ℕ, Option}
use Rattle.std.specs.Borrow.{Fml, Lends, LendsIf, MutBor}
use Rattle.session_table.specs.Sessions.{OwnRecord, SessionRecord, with_own}
use Rattle.session_table.specs.Tables.{TableRecord, changed}
use Rattle.session_table.specs.contracts.session.Own.{the_row as own_row}
use Rattle.session_table.specs.contracts.session.Session.{the_row as session_row}
use Rattle.session_table.specs.contracts.table.Table.{the_row as table_row}

-- its owner has what was left, and all else is as before
abbrev pub LendsItsOwn : MutBor SessionRecord → MutBor OwnRecord → Fml
LendsItsOwn s r = Lends session_row own_row s r (λ own. with_own own s.now)

-- the owner of session s has what was left, and all else is as before
abbrev pub LendsOwn : MutBor TableRecord → ℕ → Option (MutBor OwnRecord) → Fml
LendsOwn t s r = LendsIf table_row own_row t r (λ own. changed s (with_own own) t.now) t.now
