-- The lines of a session that goes alone are those of the history.
use Rattle.std.proofs.Common.{◌≡◌, inl, inr, ℕ, List, [], true, sym, ap, ◌∙◌, subst}
use Rattle.stanza_model.specs.declared.stanza.Stanza.{Stanza}
use Rattle.sm_account.specs.Sessions as one
use Rattle.sm_account.specs.Sessions.{Core}
use Rattle.sm_account.specs.Connections.{Connection, connections}
use Rattle.sm_account.specs.Logs as log
use Rattle.sm_account.specs.Logs.{Given, Taken, log_of, latest_first, entries_of, stanzas_of, numbers, AreDistinct, AllAre}
use Rattle.sm_account.proofs.Histories.{start_all_are, start_acted, start_told}
use Rattle.house_model.specs.States.{State}
use Rattle.house_model.specs.Histories.{Turn, after, Legal, IsOpening}
use Rattle.house_model.specs.Bridge.{core_of, ops_of, alone_of}
use Rattle.house_model.specs.Lines.{told, given, taken, done, asked, joined, lines, carried, arrivals, acted, asks}
use Rattle.house_model.proofs.TurnLaws.{starts_sound}
use Rattle.house_model.proofs.Cores.{starts_unmade, alone_core}
use Rattle.house_model.proofs.Told.{Tells, Hears, TurnIs, told_is}
use Rattle.house_model.proofs.Hearing.{given_turn}
use Rattle.house_model.proofs.Taking.{taken_turn, done_turn, asked_turn}
use Rattle.house_model.proofs.Joining.{one_joins, joined_turn}
use Rattle.house_model.proofs.Labelling.{start_labels, start_few}
use Rattle.house_model.proofs.Joins.{lines_good}

-- a log of the whole history
pub log_is : {A : Type 0} (f : Tells A) (g : Hears A) (o : State) (h : List Turn) (k : ℕ) → TurnIs f g k → IsOpening o
    → Legal o h → told g o h ≡ log_of f one.unmade (ops_of k o h)
log_is f g o h k each starts legal =
    told_is f g k each o h (starts_sound o starts) legal
    ∙ ap (λ (s : Core Stanza). log_of f s (ops_of k o h)) (starts_unmade o k starts)

pub joined_log : (o : State) (h : List Turn) (k : ℕ) → IsOpening o → Legal o h
    → lines o h k ≡ log_of one_joins one.unmade (ops_of k o h)
joined_log o h k starts legal = log_is one_joins (joined k) o h k (joined_turn k) starts legal

pub lines_apart : (o : State) (h : List Turn) (k : ℕ) → IsOpening o → Legal o h
    → AreDistinct (latest_first (lines o h k) [])
lines_apart o h k starts legal = (lines_good o h k starts legal).apart

pub numbers_apart : (o : State) (h : List Turn) (k : ℕ) → IsOpening o → Legal o h
    → AreDistinct (numbers (connections (alone_of k o h).trace))
numbers_apart o h k starts legal = elim (start_few (ops_of k o h)) [
  | inl p ↦ subst AreDistinct (sym p) (tt, tt)
  | inr p ↦ subst AreDistinct
      (sym (p ∙ ap (λ (ns : List ℕ). latest_first ns []) (sym (joined_log o h k starts legal))))
      (lines_apart o h k starts legal)
]

pub counts_alone : (o : State) (h : List Turn) (k : ℕ) → IsOpening o → ((after o h).world.sessions k).counts ≡ true
    → (alone_of k o h).core.counts ≡ true
counts_alone o h k starts counts = ap (λ (s : Core Stanza). s.counts) (sym (alone_core o h k starts)) ∙ counts

pub lines_are : (o : State) (h : List Turn) (s : ℕ) → IsOpening o → Legal o h
    → ((after o h).world.sessions s).counts ≡ true
    → numbers (connections (alone_of s o h).trace) ≡ latest_first (lines o h s) []
lines_are o h s starts legal counts =
    start_labels (ops_of s o h) (counts_alone o h s starts counts)
    ∙ ap (λ (ns : List ℕ). latest_first ns []) (sym (joined_log o h s starts legal))

pub shares_are : (o : State) (h : List Turn) (s : ℕ) → IsOpening o → Legal o h
    → AllAre (carried o h s) (arrivals o h s) (connections (alone_of s o h).trace)
shares_are o h s starts legal =
    let cs : List (Connection Stanza) = connections (alone_of s o h).trace in
    subst (λ (gs : List Given). AllAre (λ c. entries_of c gs) (arrivals o h s) cs)
    (sym (log_is log.gives (given s) o h s (given_turn s) starts legal))
    (subst (λ (ts : List (Taken Stanza)).
    AllAre (λ c. entries_of c (log_of log.gives one.unmade (ops_of s o h))) (λ c. stanzas_of c ts) cs)
    (sym (log_is log.takes (taken s) o h s (taken_turn s) starts legal))
    (start_all_are (ops_of s o h) (numbers_apart o h s starts legal)))

pub acted_are : (o : State) (h : List Turn) (s : ℕ) → IsOpening o → Legal o h
    → one.acted (core_of ((after o h).world.sessions s)) ≡ acted o h s
acted_are o h s starts legal =
    ap one.acted (alone_core o h s starts)
    ∙ (start_acted (ops_of s o h) ∙ sym (log_is log.does (done s) o h s (done_turn s) starts legal))

pub asks_are : (o : State) (h : List Turn) (s : ℕ) → IsOpening o → Legal o h
    → (alone_of s o h).trace.told ≡ latest_first (asks o h s) []
asks_are o h s starts legal =
    start_told (ops_of s o h)
    ∙ ap (λ (ns : List ℕ). latest_first ns []) (sym (log_is log.answers (asked s) o h s (asked_turn s) starts legal))
