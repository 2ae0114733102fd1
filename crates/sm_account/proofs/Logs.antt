-- What a session's connections carried, and what arrived on them, is what its operations told.
use Rattle.std.proofs.Common.{◌≡◌, ℕ, List, [], ◌∷◌, ◌++◌, Option, Some, None, Bool, true, false, refl, sym, ap, ◌∙◌, append_assoc, append-nil, true≢false}
use Rattle.stanza_tree.specs.declared.frame.Entry.{Entry}
use Rattle.sm_queue.specs.Queues.{has_room}
use Rattle.sm_account.specs.Sessions as one
use Rattle.sm_account.specs.Sessions.{Hold, Held, Away, Core, Op, core_if, core_step, core_run}
use Rattle.sm_account.specs.Connections as past
use Rattle.sm_account.specs.Connections.{Trace, Session, connections, trace_if, step_if, step, run}
use Rattle.sm_account.specs.Logs.{Given, Taken, log_of, given_of, gives_if, gives, takes_if, takes, carried_on, all_carried, arrived_on, all_arrived}
use Rattle.sm_account.proofs.Steps.{pushed_if}

-- a log of some operations and then others
pub log_append : {S A : Type 0} (tell : Core S → Op S → List A) (s : Core S) (xs ys : List (Op S))
    → log_of tell s (xs ++ ys) ≡ log_of tell s xs ++ log_of tell (core_run s xs) ys
log_append tell s [] ys = refl
log_append {A = A} tell s (x ∷ xs) ys =
    ap (λ (l : List A). tell s x ++ l) (log_append tell (core_step s x) xs ys)
    ∙ sym (append_assoc (tell s x) (log_of tell (core_step s x) xs) (log_of tell (core_run (core_step s x) xs) ys))

-- a session that counts goes on counting
pushed_counts : {S : Type 0} (s : Core S) (e : Entry) (b : Bool) → s.counts ≡ true
    → (pushed_if s e b).counts ≡ true
pushed_counts s e true is = is
pushed_counts s e false is = is

pulled_counts : {S : Type 0} (s : Core S) (o : Option Entry) → s.counts ≡ true → (one.pulled s o).counts ≡ true
pulled_counts s None is = is
pulled_counts s (Some e) is = is

acknowledged_counts : {S : Type 0} (s : Core S) (o : Option ℕ) → s.counts ≡ true → (one.acknowledged s o).counts ≡ true
acknowledged_counts s None is = is
acknowledged_counts s (Some n) is = is

resumed_counts : {S : Type 0} (s : Core S) (c : ℕ) (o : Option ℕ) → s.counts ≡ true → (one.resumed s c o).counts ≡ true
resumed_counts s c None is = is
resumed_counts s c (Some n) is = is

pub counts_stay : {S : Type 0} (m : Hold) (op : Op S) (s : Core S) → s.counts ≡ true
    → (core_if true m s op).counts ≡ true
counts_stay (Held d) (one.Push e) s is = pushed_counts s e (has_room (one.waiting s) e) is
counts_stay Away (one.Push e) s is = pushed_counts s e (has_room (one.waiting s) e) is
counts_stay (Held d) one.Pull s is = pulled_counts s (one.next_entry s) is
counts_stay (Held d) one.Request s is = is
counts_stay (Held d) (one.Ack h) s is = acknowledged_counts s (one.named s h) is
counts_stay (Held d) (one.Act x) s is = is
counts_stay (Held d) one.Drop s is = is
counts_stay (Held d) (one.Resume c h) s is = resumed_counts s c (one.named s h) is
counts_stay Away (one.Resume c h) s is = resumed_counts s c (one.named s h) is
counts_stay (Held d) one.End s is = is
counts_stay Away one.End s is = is
counts_stay m op s is = is

-- nothing went over a connection before the session counted
abbrev pub IsBare : {S : Type 0} → Session S → Type 0
IsBare s = s.core.counts ≡ false → (s.trace.present.carried ≡ []) × (s.trace.present.arrived ≡ [])

bare_if : {S : Type 0} (b : Bool) (m : Hold) (op : Op S) (s : Session S) → s.core.counts ≡ b → IsBare s
    → IsBare (step_if b m s op)
bare_if true m op s is bare after = absurd (true≢false (sym (counts_stay m op s.core is) ∙ after))
bare_if false Away (one.Begin c) s is bare after = bare is
bare_if false m op s is bare after = bare is

-- the present connection is the one that holds the session
abbrev pub IsNumbered : {S : Type 0} → Session S → Type 0
IsNumbered s = (d : ℕ) → s.core.hold ≡ Held d → s.trace.present.number ≡ d

pushed_hold : {S : Type 0} (s : Core S) (e : Entry) (d : ℕ) (b : Bool)
    → (pushed_if s e b).hold ≡ Held d → s.hold ≡ Held d
pushed_hold s e d true is = is
pushed_hold s e d false is = absurd (cc)

uncounted_hold : {S : Type 0} (s : Core S) (o : Option Entry) (d : ℕ) → (one.pulled_uncounted s o).hold ≡ Held d
    → s.hold ≡ Held d
uncounted_hold s None d is = is
uncounted_hold s (Some e) d is = is

acknowledged_hold : {S : Type 0} (s : Core S) (o : Option ℕ) (d : ℕ) → (one.acknowledged s o).hold ≡ Held d
    → s.hold ≡ Held d
acknowledged_hold s None d is = absurd (cc)
acknowledged_hold s (Some n) d is = is

pulled_number : {S : Type 0} (s : Session S) (o : Option Entry) (d : ℕ) → IsNumbered s
    → (one.pulled s.core o).hold ≡ Held d → (past.carries s.trace o).present.number ≡ d
pulled_number s None d num is = num d is
pulled_number s (Some e) d num is = num d is

resumed_number : {S : Type 0} (s : Session S) (c : ℕ) (o : Option ℕ) (d : ℕ) → IsNumbered s
    → (one.resumed s.core c o).hold ≡ Held d → (past.opens s.trace c o).present.number ≡ d
resumed_number s c None d num is = num d is
resumed_number s c (Some n) d num is = cc

pub numbered_if : {S : Type 0} (b : Bool) (m : Hold) (op : Op S) (s : Session S) → s.core.hold ≡ m → IsNumbered s
    → IsNumbered (step_if b m s op)
numbered_if false Away (one.Begin c) s m num d is = cc
numbered_if true (Held v) (one.Push e) s m num d is =
    num d (pushed_hold s.core e d (has_room (one.waiting s.core) e) is)
numbered_if false (Held v) (one.Push e) s m num d is =
    num d (pushed_hold s.core e d (has_room (one.waiting s.core) e) is)
numbered_if true Away (one.Push e) s m num d is = num d (pushed_hold s.core e d (has_room (one.waiting s.core) e) is)
numbered_if false (Held v) one.Pull s m num d is = num d (uncounted_hold s.core (one.next_entry s.core) d is)
numbered_if true (Held v) one.Pull s m num d is = pulled_number s (one.next_entry s.core) d num is
numbered_if true (Held v) one.Request s m num d is = num d is
numbered_if false (Held v) one.Enable s m num d is = num d is
numbered_if true (Held v) (one.Ack h) s m num d is = num d (acknowledged_hold s.core (one.named s.core h) d is)
numbered_if true (Held v) one.Ask s m num d is = num d is
numbered_if true (Held v) (one.Act x) s m num d is = num d is
numbered_if false (Held v) (one.Act x) s m num d is = num d is
numbered_if true (Held v) (one.Short x) s m num d is = num d is
numbered_if true (Held v) one.Drop s m num d is = absurd (cc)
numbered_if false (Held v) one.Drop s m num d is = absurd (cc)
numbered_if true (Held v) (one.Resume c h) s m num d is = resumed_number s c (one.named s.core h) d num is
numbered_if true Away (one.Resume c h) s m num d is = resumed_number s c (one.named s.core h) d num is
numbered_if true (Held v) one.End s m num d is = absurd (cc)
numbered_if false (Held v) one.End s m num d is = absurd (cc)
numbered_if true Away one.End s m num d is = absurd (cc)
numbered_if true m op s at num d is = num d is
numbered_if false m op s at num d is = num d is

pub bare_step : {S : Type 0} (op : Op S) (s : Session S) → IsBare s → IsBare (step s op)
bare_step op s bare = bare_if s.core.counts s.core.hold op s refl bare

pub numbered_step : {S : Type 0} (op : Op S) (s : Session S) → IsNumbered s → IsNumbered (step s op)
numbered_step op s num = numbered_if s.core.counts s.core.hold op s refl num

-- entries, connection by connection
carried_more : (c : ℕ) (e : Entry) (es : List Entry)
    → carried_on c (es ++ e ∷ []) ≡ carried_on c es ++ record { connection = c; entry = e } ∷ []
carried_more c e [] = refl
carried_more c e (x ∷ xs) = ap (λ (l : List Given). record { connection = c; entry = x } ∷ l) (carried_more c e xs)

carries_given : {S : Type 0} (t : Trace S) (d : ℕ) (o : Option Entry) → t.present.number ≡ d
    → all_carried (connections (past.carries t o)) ≡ all_carried (connections t) ++ given_of d o
carries_given t d None is = sym (append-nil _)
carries_given t d (Some e) is = rw (← is) (
    ap (λ (l : List Given). all_carried t.earlier ++ l) (carried_more t.present.number e t.present.carried)
    ∙ sym (append_assoc (all_carried t.earlier) (carried_on t.present.number t.present.carried)
    (given_of t.present.number (Some e)))
    )

opens_given : {S : Type 0} (t : Trace S) (c : ℕ) (o : Option ℕ)
    → all_carried (connections (past.opens t c o)) ≡ all_carried (connections t) ++ []
opens_given t c None = sym (append-nil _)
opens_given t c (Some n) = refl

step_given : {S : Type 0} (b : Bool) (m : Hold) (op : Op S) (s : Session S) → (b ≡ false → s.trace.present.carried ≡ [])
    → s.core.hold ≡ m → IsNumbered s
    → all_carried (connections (trace_if b m s.core s.trace op))
    ≡ all_carried (connections s.trace) ++ gives_if b m s.core op
step_given true (Held d) one.Pull s bare is num = carries_given s.trace d (one.next_entry s.core) (num d is)
step_given true (Held d) (one.Resume c h) s bare is num = opens_given s.trace c (one.named s.core h)
step_given true Away (one.Resume c h) s bare is num = opens_given s.trace c (one.named s.core h)
step_given false Away (one.Begin c) s bare is num = rw (bare refl) (sym (append-nil _))
step_given true (Held d) (one.Begin c) s bare is num = sym (append-nil _)
step_given true (Held d) (one.Push e) s bare is num = sym (append-nil _)
step_given true (Held d) one.Request s bare is num = sym (append-nil _)
step_given true (Held d) one.Enable s bare is num = sym (append-nil _)
step_given true (Held d) (one.Ack h) s bare is num = sym (append-nil _)
step_given true (Held d) one.Ask s bare is num = sym (append-nil _)
step_given true (Held d) (one.Act x) s bare is num = sym (append-nil _)
step_given true (Held d) (one.Short x) s bare is num = sym (append-nil _)
step_given true (Held d) one.Drop s bare is num = sym (append-nil _)
step_given true (Held d) one.End s bare is num = sym (append-nil _)
step_given b m op s bare is num = sym (append-nil _)

pub run_given : {S : Type 0} (s : Session S) (ops : List (Op S)) → IsBare s → IsNumbered s
    → all_carried (connections (run s ops).trace) ≡ all_carried (connections s.trace) ++ log_of gives s.core ops
run_given s [] bare num = sym (append-nil _)
run_given s (op ∷ ops) bare num =
    run_given (step s op) ops (bare_step op s bare) (numbered_step op s num)
    ∙ (ap (λ (l : List Given). l ++ log_of gives (core_step s.core op) ops)
    (step_given s.core.counts s.core.hold op s (λ is. (bare is).0) refl num)
    ∙ append_assoc (all_carried (connections s.trace)) (gives s.core op) (log_of gives (core_step s.core op) ops))

-- stanzas, connection by connection
arrived_more : {S : Type 0} (c : ℕ) (x : S) (xs : List S)
    → arrived_on c (xs ++ x ∷ []) ≡ arrived_on c xs ++ record { connection = c; stanza = x } ∷ []
arrived_more c x [] = refl
arrived_more {S = S} c x (y ∷ ys) =
    ap (λ (l : List (Taken S)). record { connection = c; stanza = y } ∷ l) (arrived_more c x ys)

carries_taken : {S : Type 0} (t : Trace S) (o : Option Entry)
    → all_arrived (connections (past.carries t o)) ≡ all_arrived (connections t) ++ []
carries_taken t None = sym (append-nil _)
carries_taken t (Some e) = sym (append-nil _)

opens_taken : {S : Type 0} (t : Trace S) (c : ℕ) (o : Option ℕ)
    → all_arrived (connections (past.opens t c o)) ≡ all_arrived (connections t) ++ []
opens_taken t c None = sym (append-nil _)
opens_taken t c (Some n) = refl

arrives_taken : {S : Type 0} (t : Trace S) (d : ℕ) (x : S) (b : Bool) → t.present.number ≡ d
    → all_arrived (connections (past.arrives t x b))
    ≡ all_arrived (connections t) ++ record { connection = d; stanza = x } ∷ []
arrives_taken {S = S} t d x b is = rw (← is) (
    ap (λ (l : List (Taken S)). all_arrived t.earlier ++ l) (arrived_more t.present.number x t.present.arrived)
    ∙ sym (append_assoc (all_arrived t.earlier) (arrived_on t.present.number t.present.arrived)
    (record { connection = t.present.number; stanza = x } ∷ []))
    )

step_taken : {S : Type 0} (b : Bool) (m : Hold) (op : Op S) (s : Session S) → (b ≡ false → s.trace.present.arrived ≡ [])
    → s.core.hold ≡ m → IsNumbered s
    → all_arrived (connections (trace_if b m s.core s.trace op)) ≡ all_arrived (connections s.trace) ++ takes_if b m op
step_taken true (Held d) one.Pull s bare is num = carries_taken s.trace (one.next_entry s.core)
step_taken true (Held d) (one.Resume c h) s bare is num = opens_taken s.trace c (one.named s.core h)
step_taken true Away (one.Resume c h) s bare is num = opens_taken s.trace c (one.named s.core h)
step_taken false Away (one.Begin c) s bare is num = rw (bare refl) (sym (append-nil _))
step_taken true (Held d) (one.Act x) s bare is num = arrives_taken s.trace d x s.trace.present.short (num d is)
step_taken true (Held d) (one.Short x) s bare is num = arrives_taken s.trace d x true (num d is)
step_taken true (Held d) (one.Begin c) s bare is num = sym (append-nil _)
step_taken true (Held d) (one.Push e) s bare is num = sym (append-nil _)
step_taken true (Held d) one.Request s bare is num = sym (append-nil _)
step_taken true (Held d) one.Enable s bare is num = sym (append-nil _)
step_taken true (Held d) (one.Ack h) s bare is num = sym (append-nil _)
step_taken true (Held d) one.Ask s bare is num = sym (append-nil _)
step_taken true (Held d) one.Drop s bare is num = sym (append-nil _)
step_taken true (Held d) one.End s bare is num = sym (append-nil _)
step_taken b m op s bare is num = sym (append-nil _)

pub run_taken : {S : Type 0} (s : Session S) (ops : List (Op S)) → IsBare s → IsNumbered s
    → all_arrived (connections (run s ops).trace) ≡ all_arrived (connections s.trace) ++ log_of takes s.core ops
run_taken s [] bare num = sym (append-nil _)
run_taken {S = S} s (op ∷ ops) bare num =
    run_taken (step s op) ops (bare_step op s bare) (numbered_step op s num)
    ∙ (ap (λ (l : List (Taken S)). l ++ log_of takes (core_step s.core op) ops)
    (step_taken s.core.counts s.core.hold op s (λ is. (bare is).1) refl num)
    ∙ append_assoc (all_arrived (connections s.trace)) (takes s.core op) (log_of takes (core_step s.core op) ops))
