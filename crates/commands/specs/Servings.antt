-- How `serve` ends.
use Rattle.std.specs.Prelude.{◌≡◌, ℕ, List, ◌++◌, Option, Some, Err}
use Rattle.account_book.specs.declared.fault.LineKind.{LineKind}
use Rattle.script_play.specs.Runs.{Front}
use Rattle.script_play.specs.declared.status.Status.{Status}
use Rattle.script_play.specs.declared.status.Status.TheVariants as status
use Rattle.serve_run.specs.declared.serving.Serving.{Serving}
use Rattle.serve_run.specs.Services.{ListeningFailed, ReadsList, Served, Tally, Unserved, entries_for}

-- How `serve` ends, of a source that had `left` bytes and has `left_now`, ports that told this, and a sink. At the end of a run it writes the line that
-- tells how many connections came and how many turns the house took; a sink that fails took a front of it, and at any other end nothing is written. A list
-- of accounts is refused at its first line at fault. Where what listens failed the server served until each poller shut or failed, or it served nothing. What
-- listened before the end came is given back.
abbrev pub Concluded : Serving → (left left_now : Option (List ℕ)) → (ports now_ports : Tally) → (took took_now : Option (List ℕ)) → Status → Type 0
Concluded w left left_now ports now_ports took took_now status.Done =
    (list : List ℕ) × (line : List ℕ) × ReadsList w.sessions left left_now list
    × Served w list ports now_ports line
    × ((taken : List ℕ) → took ≡ Some taken → took_now ≡ Some (taken ++ line))
Concluded w left left_now ports now_ports took took_now status.WriteFault =
    (list : List ℕ) × (line : List ℕ) × ReadsList w.sessions left left_now list
    × Served w list ports now_ports line
    × ((taken : List ℕ) → took ≡ Some taken → Front taken line took_now)
Concluded w left left_now ports now_ports took took_now (status.Accounts n) =
    ((list : List ℕ) × ReadsList w.sessions left left_now list × ((kind : LineKind) × (entries_for w.sessions list ≡ Err (n, kind)))
    × Unserved w ports now_ports) × (took_now ≡ took)
Concluded w left left_now ports now_ports took took_now status.ListenFault =
    ((list : List ℕ) × ReadsList w.sessions left left_now list × ListeningFailed w list ports now_ports)
    × (took_now ≡ took)
Concluded w left left_now ports now_ports took took_now status.ReadFault = took_now ≡ took
Concluded w left left_now ports now_ports took took_now status.NoMemory = took_now ≡ took
Concluded w left left_now ports now_ports took took_now status.Usage = ⊥
Concluded w left left_now ports now_ports took took_now (status.Script line) = ⊥
