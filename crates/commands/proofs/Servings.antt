-- How `serve` ends.
use Rattle.std.proofs.Common.{◌≡◌, ◌≢◌, ◌≤◌, ℕ, List, ◌++◌, length, Some, Ok, Err, refl, sym, ap, subst, true≢false, is_some, ◌∙◌}
use Rattle.std.specs.Prelude.{◌⊎◌, Option}
use Rattle.account_book.specs.Entries.{Entry}
use Rattle.account_book.specs.declared.fault.LineKind.{LineKind}
use Rattle.script_play.specs.Runs.{Front}
use Rattle.script_play.specs.declared.status.Status.{Status}
use Rattle.script_play.specs.declared.status.Status.TheVariants as status
use Rattle.serve_run.specs.declared.serving.Serving.{Serving}
use Rattle.serve_run.specs.Limits.{most_list}
use Rattle.serve_run.specs.Services.{ListeningFailed, ReadsList, Served, Tally, Unserved, entries_for}
use Rattle.serve_run.proofs.Endings.{ends_served}
use Rattle.serve_words.specs.Options.{IsRefusal}
use Rattle.commands.specs.Commands.{Serve, Task}
use Rattle.commands.specs.Servings.{Concluded}

-- what is known of the end of a run
record Ended (w : Serving) (left left_now : Option (List ℕ)) (ports now_ports : Tally) (took took_now : Option (List ℕ)) (s : Status) : Type 0 where
  served : s ≡ status.Done → (list : List ℕ) × (line : List ℕ) × ReadsList w.sessions left left_now list
      × Served w list ports now_ports line
      × ((taken : List ℕ) → took ≡ Some taken → took_now ≡ Some (taken ++ line))
  cut : s ≡ status.WriteFault → (list : List ℕ) × (line : List ℕ) × ReadsList w.sessions left left_now list
      × Served w list ports now_ports line
      × ((taken : List ℕ) → took ≡ Some taken → Front taken line took_now)
  silent : s ≢ status.Done → s ≢ status.WriteFault → took_now ≡ took
  accounts : (n : ℕ) → s ≡ status.Accounts n → (list : List ℕ) × ReadsList w.sessions left left_now list × ((kind : LineKind) × (entries_for w.sessions list ≡ Err (n, kind)))
      × Unserved w ports now_ports
  failed : s ≡ status.ListenFault → (list : List ℕ) × ReadsList w.sessions left left_now list
      × ListeningFailed w list ports now_ports
  usage : s ≢ status.Usage
  script : (n : ℕ) → s ≢ status.Script n

concluded : (w : Serving) (left left_now : Option (List ℕ)) (ports now_ports : Tally) (took took_now : Option (List ℕ)) (s : Status)
    → Ended w left left_now ports now_ports took took_now s → Concluded w left left_now ports now_ports took took_now s
concluded w left left_now ports now_ports took took_now status.Done e = e.served refl
concluded w left left_now ports now_ports took took_now status.WriteFault e = e.cut refl
concluded w left left_now ports now_ports took took_now (status.Accounts n) e = (
  e.accounts n refl,
  e.silent (λ is. absurd (let k : status.Accounts n ≡ status.Done = is in cc)) (λ is. absurd (let k : status.Accounts n ≡ status.WriteFault = is in cc)),
)
concluded w left left_now ports now_ports took took_now status.ReadFault e =
    e.silent (λ is. absurd (let k : status.ReadFault ≡ status.Done = is in cc)) (λ is. absurd (let k : status.ReadFault ≡ status.WriteFault = is in cc))
concluded w left left_now ports now_ports took took_now status.ListenFault e = (
  e.failed refl,
  e.silent (λ is. absurd (let k : status.ListenFault ≡ status.Done = is in cc)) (λ is. absurd (let k : status.ListenFault ≡ status.WriteFault = is in cc)),
)
concluded w left left_now ports now_ports took took_now status.NoMemory e =
    e.silent (λ is. absurd (let k : status.NoMemory ≡ status.Done = is in cc)) (λ is. absurd (let k : status.NoMemory ≡ status.WriteFault = is in cc))
concluded w left left_now ports now_ports took took_now status.Usage e = absurd (e.usage refl)
concluded w left left_now ports now_ports took took_now (status.Script n) e = absurd (e.script n refl)

same-wanted : (v w : Serving) → Some (Serve v) ≡ Some (Serve w) → v ≡ w
same-wanted v w e = cc

-- by the words that were read
pub as_asked : (task : Option Task) (v w : Serving) (left left_now : Option (List ℕ)) (ports now_ports : Tally) (took took_now : Option (List ℕ)) (s : Status)
    → task ≡ Some (Serve v)
    → (s ≡ status.Done → (list : List ℕ) × (line : List ℕ) × ReadsList v.sessions left left_now list
    × Served v list ports now_ports line
    × ((taken : List ℕ) → took ≡ Some taken → took_now ≡ Some (taken ++ line)))
    → (s ≡ status.WriteFault → (list : List ℕ) × (line : List ℕ) × ReadsList v.sessions left left_now list
    × Served v list ports now_ports line
    × ((taken : List ℕ) → took ≡ Some taken → Front taken line took_now))
    → (s ≢ status.Done → s ≢ status.WriteFault → took_now ≡ took)
    → ((n : ℕ) → s ≡ status.Accounts n → (list : List ℕ) × ReadsList v.sessions left left_now list × ((kind : LineKind) × (entries_for v.sessions list ≡ Err (n, kind)))
    × Unserved v ports now_ports)
    → (s ≡ status.ListenFault → (list : List ℕ) × ReadsList v.sessions left left_now list
    × ListeningFailed v list ports now_ports)
    → (s ≢ status.Usage) → ((n : ℕ) → s ≢ status.Script n) → task ≡ Some (Serve w) → Concluded w left left_now ports now_ports took took_now s
as_asked task v w left left_now ports now_ports took took_now s read served cut silent accounts failed usage script asked =
    subst (λ (x : Serving). Concluded x left left_now ports now_ports took took_now s) (same-wanted v w (sym read ∙ asked))
    (concluded v left left_now ports now_ports took took_now s
    (record { served = served; cut = cut; silent = silent; accounts = accounts; failed = failed; usage = usage; script = script }))

-- no words were read
pub serve_unread : (task : Option Task) (w : Serving) (left left_now : Option (List ℕ)) (ports now_ports : Tally) (took : Option (List ℕ)) (s : Status)
    → IsRefusal task s → task ≡ Some (Serve w) → Concluded w left left_now ports now_ports took took s
serve_unread task w left left_now ports now_ports took status.NoMemory refused is = refl
serve_unread task w left left_now ports now_ports took status.Usage refused is = absurd (true≢false (ap is_some (sym is) ∙ ap is_some refused))
serve_unread task w left left_now ports now_ports took status.Done refused is = absurd refused
serve_unread task w left left_now ports now_ports took (status.Accounts n) refused is = absurd refused
serve_unread task w left left_now ports now_ports took (status.Script n) refused is = absurd refused
serve_unread task w left left_now ports now_ports took status.ReadFault refused is = absurd refused
serve_unread task w left left_now ports now_ports took status.WriteFault refused is = absurd refused
serve_unread task w left left_now ports now_ports took status.ListenFault refused is = absurd refused

-- a list of accounts without a fault, where nothing fails
pub ends_concluded : (w : Serving) (bytes now : List ℕ) (entries : List Entry) (ports now_ports : Tally) (took took_now : Option (List ℕ)) (s : Status)
    → length bytes ≤ most_list w.sessions → entries_for w.sessions bytes ≡ Ok entries → Concluded w (Some bytes) (Some now) ports now_ports took took_now s
    → (s ≡ status.ReadFault → ⊥) → (s ≡ status.WriteFault → ⊥) → (s ≡ status.ListenFault → ⊥) → (s ≡ status.Done) ⊎ (s ≡ status.NoMemory)
ends_concluded w bytes now entries ports now_ports took took_now s short valid how read written listened =
    ends_served w.sessions bytes now entries s short valid (λ n is. let a = (by-status (status.Accounts n) is).0 in (a.0, a.1, a.2)) read written listened (λ is. by-status status.Usage is)
    (λ n is. by-status (status.Script n) is)
  where
    by-status : (t : Status) → s ≡ t → Concluded w (Some bytes) (Some now) ports now_ports took took_now t
    by-status t is = subst (λ (x : Status). Concluded w (Some bytes) (Some now) ports now_ports took took_now x) is how
