-- The changes of a session that the table sees to.
use Rattle.session_table.specs.declared.session.Change.{Change}
use Rattle.session_table.specs.declared.session.Change.TheVariants.{Held, Left, Ended}
use Rattle.session_table.specs.Sessions.{SessionRecord, ended, held_by, left_until}

abbrev pub change_of : Change → SessionRecord → SessionRecord
change_of (Held w) = held_by w
change_of (Left deadline) = left_until deadline
change_of (Ended cause) = ended cause
