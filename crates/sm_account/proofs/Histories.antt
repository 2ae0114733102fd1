-- What a session's operations told, from the start on.
use Rattle.std.proofs.Common.{◌≡◌, List, [], refl, ap, ◌∙◌, subst}
use Rattle.sm_account.specs.Sessions as one
use Rattle.sm_account.specs.Sessions.{Hold, Held, Away, Ended, Core, Op, acted, core_if}
use Rattle.sm_account.specs.Connections.{Connection, connections, start, run}
use Rattle.sm_account.proofs.Labels.{labels}
use Rattle.sm_account.proofs.Shares.{all_are}
use Rattle.sm_account.specs.Logs.{Given, Taken, log_of, gives, takes, does, answers, latest_first, all_carried}
use Rattle.sm_account.specs.Logs.{all_arrived, entries_of, stanzas_of, AreDistinct, AllAre}
use Rattle.sm_account.proofs.Places.{unmade_in_order}
use Rattle.sm_account.proofs.Grows.{core_of_run}
use Rattle.sm_account.proofs.Done.{run_acted, run_told}
use Rattle.sm_account.proofs.Logs.{run_given, run_taken}

pub start_given : {S : Type 0} (ops : List (Op S))
    → all_carried (connections (run start ops).trace) ≡ log_of gives one.unmade ops
start_given ops = run_given start ops (λ is. (refl, refl)) (λ d is. absurd (cc))

pub start_taken : {S : Type 0} (ops : List (Op S))
    → all_arrived (connections (run start ops).trace) ≡ log_of takes one.unmade ops
start_taken ops = run_taken start ops (λ is. (refl, refl)) (λ d is. absurd (cc))

pub start_all_are : {S : Type 0} (ops : List (Op S)) → AreDistinct (labels (run start ops).trace)
    → AllAre (λ c. entries_of c (log_of gives one.unmade ops)) (λ c. stanzas_of c (log_of takes one.unmade ops))
    (connections (run start ops).trace)
start_all_are {S = S} ops apart =
    let cs : List (Connection S) = connections (run start ops).trace in
    subst (λ (gs : List Given). AllAre (λ c. entries_of c gs) (λ c. stanzas_of c (log_of takes one.unmade ops)) cs)
    (start_given ops)
    (subst (λ (ts : List (Taken S)). AllAre (λ c. entries_of c (all_carried cs)) (λ c. stanzas_of c ts) cs)
    (start_taken ops) (all_are cs apart))

pub start_acted : {S : Type 0} (ops : List (Op S)) → acted (run start ops).core ≡ log_of does one.unmade ops
start_acted ops = ap acted (core_of_run start ops) ∙ run_acted one.unmade ops unmade_in_order

pub start_told : {S : Type 0} (ops : List (Op S))
    → (run start ops).trace.told ≡ latest_first (log_of answers one.unmade ops) []
start_told ops = run_told start ops
