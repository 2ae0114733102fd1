-- What operations make of a session, once a test is done or a place is looked up.
use Rattle.std.specs.Prelude.{ℕ, [], ◌∷◌, ◌++◌, Option, Bool, if◌then◌else◌}
use Rattle.stanza_tree.specs.declared.frame.Entry.{Entry}
use Rattle.sm_account.specs.Sessions.{Core, ended, pulled, resumed}
use Rattle.sm_account.specs.Connections.{Session, carries, opens}

abbrev pub pushed_if : {S : Type 0} → Core S → Entry → Bool → Core S
pushed_if s e room = if room then record s { queued = s.queued ++ e ∷ [] } else ended s

abbrev pub with_core : {S : Type 0} → Session S → Core S → Session S
with_core s core = record { core = core; trace = s.trace }

abbrev pub pulled_by : {S : Type 0} → Session S → Option Entry → Session S
pulled_by s o = record { core = pulled s.core o; trace = carries s.trace o }

abbrev pub resumed_by : {S : Type 0} → Session S → ℕ → Option ℕ → Session S
resumed_by s c o = record { core = resumed s.core c o; trace = opens s.trace c o }
