-- The numbers of the statuses.
use Rattle.std.specs.Prelude.{ℕ}
use Rattle.script_play.specs.declared.status.Status.{Status}
use Rattle.script_play.specs.declared.status.Status.TheVariants as status

abbrev pub number_of : Status → ℕ
number_of status.Done = 0
number_of status.Usage = 2
number_of (status.Accounts line) = 3
number_of (status.Script line) = 4
number_of status.ReadFault = 5
number_of status.WriteFault = 6
number_of status.ListenFault = 7
number_of status.NoMemory = 8
