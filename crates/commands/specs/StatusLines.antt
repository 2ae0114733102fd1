-- What people are told of how a run ended.
use Rattle.std.specs.Prelude.{ℕ, List, [], ◌++◌, codes}
use Rattle.std.specs.Fmt.{decimal}
use Rattle.script_play.specs.declared.status.Status.{Status}
use Rattle.script_play.specs.declared.status.Status.TheVariants as status

-- a line of text
abbrev pub told : List ℕ → List ℕ
told words = codes "xmppd: " ++ words ++ codes "\n"

-- nothing of a run that did its work, and of every other a line
abbrev pub status_line : Status → List ℕ
status_line status.Done = []
status_line status.Usage = told (codes "bad words")
status_line (status.Accounts line) = told (codes "accounts line " ++ decimal line)
status_line (status.Script line) = told (codes "script line " ++ decimal line)
status_line status.ReadFault = told (codes "read fault")
status_line status.WriteFault = told (codes "write fault")
status_line status.ListenFault = told (codes "listen fault")
status_line status.NoMemory = told (codes "no memory")
