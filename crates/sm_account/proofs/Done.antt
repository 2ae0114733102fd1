-- What a session has acted on, and what its client was told, is what its operations told.
use Rattle.std.proofs.Common.{◌≡◌, ℕ, ◌≤◌, List, [], ◌∷◌, ◌++◌, length, Option, Some, None, Bool, true, false, refl, sym, ap, ◌∙◌, append_assoc, append-nil}
use Rattle.std.proofs.Math.Seq.{drop-length}
use Rattle.std.proofs.lemmas.List.{drop-append-le}
use Rattle.stanza_tree.specs.declared.frame.Entry.{Entry}
use Rattle.sm_queue.specs.Queues.{has_room}
use Rattle.sm_account.specs.Sessions as one
use Rattle.sm_account.specs.Sessions.{Hold, Held, Away, Ended, Core, Op, acted, acted_if, core_if, core_step, core_run}
use Rattle.sm_account.specs.Connections as past
use Rattle.sm_account.specs.Connections.{Trace, Session, trace_if, step, run}
use Rattle.sm_account.specs.Places.{IsInOrder}
use Rattle.sm_account.specs.Logs.{log_of, does_if, does, answers_if, answers, latest_first}
use Rattle.sm_account.proofs.Steps.{pushed_if}
use Rattle.sm_account.proofs.Places.{step_in_order}

pushed_acted : {S : Type 0} (s : Core S) (e : Entry) (b : Bool)
    → acted (pushed_if s e b) ≡ acted s
pushed_acted s e true = refl
pushed_acted s e false = refl

uncounted_acted : {S : Type 0} (s : Core S) (o : Option Entry) → acted (one.pulled_uncounted s o) ≡ acted s
uncounted_acted s None = refl
uncounted_acted s (Some e) = refl

pulled_acted : {S : Type 0} (s : Core S) (o : Option Entry) → acted (one.pulled s o) ≡ acted s
pulled_acted s None = refl
pulled_acted s (Some e) = refl

acknowledged_acted : {S : Type 0} (s : Core S) (o : Option ℕ) → acted (one.acknowledged s o) ≡ acted s
acknowledged_acted s None = refl
acknowledged_acted s (Some n) = refl

resumed_acted : {S : Type 0} (s : Core S) (c : ℕ) (o : Option ℕ) → acted (one.resumed s c o) ≡ acted s
resumed_acted s c None = refl
resumed_acted s c (Some n) = refl

enabled_acted : {S : Type 0} (s : Core S) → s.counts ≡ false → acted (one.enabled s) ≡ acted s
enabled_acted {S = S} s is = drop-length s.acts ∙ sym (ap (λ (b : Bool). acted_if b s.base_in s.acts) is)

-- a stanza more
counted_acted : {S : Type 0} (s : Core S) (x : S) → s.counts ≡ true → s.base_in ≤ length s.acts
    → acted (one.acted_on s x) ≡ acted s ++ x ∷ []
counted_acted s x is low =
    ap (λ (b : Bool). acted_if b s.base_in (s.acts ++ x ∷ [])) is
    ∙ (drop-append-le s.base_in s.acts (x ∷ []) low
    ∙ ap (λ (b : Bool). acted_if b s.base_in s.acts ++ x ∷ []) (sym is))

before_acted : {S : Type 0} (s : Core S) (x : S) → s.counts ≡ false → acted (one.acted_on s x) ≡ acted s
before_acted s x is =
    ap (λ (b : Bool). acted_if b s.base_in (s.acts ++ x ∷ [])) is
    ∙ ap (λ (b : Bool). acted_if b s.base_in s.acts) (sym is)

no_more : {S : Type 0} (xs ys : List S) → ys ≡ xs → ys ≡ xs ++ []
no_more xs ys e = e ∙ sym (append-nil xs)

step_acted : {S : Type 0} (b : Bool) (m : Hold) (op : Op S) (s : Core S) → s.counts ≡ b → s.base_in ≤ length s.acts
    → acted (core_if b m s op) ≡ acted s ++ does_if b m op
step_acted false Away (one.Begin c) s is low = no_more _ _ refl
step_acted true (Held d) (one.Push e) s is low = no_more _ _ (pushed_acted s e (has_room (one.waiting s) e))
step_acted false (Held d) (one.Push e) s is low = no_more _ _ (pushed_acted s e (has_room (one.waiting s) e))
step_acted true Away (one.Push e) s is low = no_more _ _ (pushed_acted s e (has_room (one.waiting s) e))
step_acted true (Held d) one.Pull s is low = no_more _ _ (pulled_acted s (one.next_entry s))
step_acted false (Held d) one.Pull s is low = no_more _ _ (uncounted_acted s (one.next_entry s))
step_acted true (Held d) one.Request s is low = no_more _ _ refl
step_acted false (Held d) one.Enable s is low = no_more _ _ (enabled_acted s is)
step_acted true (Held d) (one.Ack h) s is low = no_more _ _ (acknowledged_acted s (one.named s h))
step_acted true (Held d) (one.Act x) s is low = counted_acted s x is low
step_acted false (Held d) (one.Act x) s is low = no_more _ _ (before_acted s x is)
step_acted true (Held d) one.Drop s is low = no_more _ _ refl
step_acted false (Held d) one.Drop s is low = no_more _ _ refl
step_acted true (Held d) (one.Resume c h) s is low = no_more _ _ (resumed_acted s c (one.named s h))
step_acted true Away (one.Resume c h) s is low = no_more _ _ (resumed_acted s c (one.named s h))
step_acted true (Held d) one.End s is low = no_more _ _ refl
step_acted false (Held d) one.End s is low = no_more _ _ refl
step_acted true Away one.End s is low = no_more _ _ refl
step_acted true (Held d) (one.Begin c) s is low = no_more _ _ refl
step_acted true (Held d) one.Enable s is low = no_more _ _ refl
step_acted true (Held d) one.Ask s is low = no_more _ _ refl
step_acted true (Held d) (one.Short x) s is low = no_more _ _ refl
step_acted true m op s is low = no_more _ _ refl
step_acted false m op s is low = no_more _ _ refl

pub run_acted : {S : Type 0} (s : Core S) (ops : List (Op S)) → IsInOrder s
    → acted (core_run s ops) ≡ acted s ++ log_of does s ops
run_acted s [] o = sym (append-nil (acted s))
run_acted {S = S} s (op ∷ ops) o =
    run_acted (core_step s op) ops (step_in_order op s o)
    ∙ (ap (λ (l : List S). l ++ log_of does (core_step s op) ops) (step_acted s.counts s.hold op s refl o.base_in)
    ∙ append_assoc (acted s) (does s op) (log_of does (core_step s op) ops))

-- what Asks were told, the latest first
latest_append : {A : Type 0} (xs ys zs : List A) → latest_first (xs ++ ys) zs ≡ latest_first ys (latest_first xs zs)
latest_append [] ys zs = refl
latest_append (x ∷ xs) ys zs = latest_append xs ys (x ∷ zs)

carries_told : {S : Type 0} (t : Trace S) (o : Option Entry) → (past.carries t o).told ≡ t.told
carries_told t None = refl
carries_told t (Some e) = refl

opens_told : {S : Type 0} (t : Trace S) (c : ℕ) (o : Option ℕ) → (past.opens t c o).told ≡ t.told
opens_told t c None = refl
opens_told t c (Some n) = refl

step_told : {S : Type 0} (b : Bool) (m : Hold) (op : Op S) (s : Session S)
    → (trace_if b m s.core s.trace op).told ≡ latest_first (answers_if b m s.core op) s.trace.told
step_told true (Held d) one.Pull s = carries_told s.trace (one.next_entry s.core)
step_told true (Held d) (one.Resume c h) s = opens_told s.trace c (one.named s.core h)
step_told true Away (one.Resume c h) s = opens_told s.trace c (one.named s.core h)
step_told false Away (one.Begin c) s = refl
step_told true (Held d) one.Ask s = refl
step_told true (Held d) (one.Act x) s = refl
step_told true (Held d) (one.Short x) s = refl
step_told true (Held d) (one.Begin c) s = refl
step_told true (Held d) (one.Push e) s = refl
step_told true (Held d) one.Request s = refl
step_told true (Held d) one.Enable s = refl
step_told true (Held d) (one.Ack h) s = refl
step_told true (Held d) one.Drop s = refl
step_told true (Held d) one.End s = refl
step_told b m op s = refl

pub run_told : {S : Type 0} (s : Session S) (ops : List (Op S))
    → (run s ops).trace.told ≡ latest_first (log_of answers s.core ops) s.trace.told
run_told s [] = refl
run_told s (op ∷ ops) =
    run_told (step s op) ops
    ∙ (ap (latest_first (log_of answers (core_step s.core op) ops)) (step_told s.core.counts s.core.hold op s)
    ∙ sym (latest_append (answers s.core op) (log_of answers (core_step s.core op) ops) s.trace.told))
