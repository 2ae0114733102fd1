-- What a session is after some operations, and that its queue only grows.
use Rattle.std.proofs.Common.{◌≡◌, ℕ, List, [], ◌∷◌, ◌++◌, Option, Some, None, Bool, true, false, refl, sym, subst}
use Rattle.stanza_tree.specs.declared.frame.Entry.{Entry}
use Rattle.sm_queue.specs.Queues.{has_room}
use Rattle.sm_account.specs.Prefixes.{IsPrefixOf}
use Rattle.sm_account.specs.Sessions as one
use Rattle.sm_account.specs.Sessions.{Hold, Held, Away, Ended, Core, Op, core_if, core_step, core_run}
use Rattle.sm_account.specs.Connections.{Session, start, step, run}
use Rattle.sm_account.specs.Places.{IsInOrder}
use Rattle.sm_account.proofs.Places.{run_in_order, unmade_in_order}
use Rattle.sm_account.proofs.Lists.{further, itself}
use Rattle.sm_account.proofs.Steps.{pushed_if}

pub core_of_run : {S : Type 0} (s : Session S) (ops : List (Op S)) → (run s ops).core ≡ core_run s.core ops
core_of_run s [] = refl
core_of_run s (op ∷ ops) = core_of_run (step s op) ops

pub run_append : {S : Type 0} (s : Session S) (xs ys : List (Op S)) → run s (xs ++ ys) ≡ run (run s xs) ys
run_append s [] ys = refl
run_append s (x ∷ xs) ys = run_append (step s x) xs ys

pub core_run_append : {S : Type 0} (s : Core S) (xs ys : List (Op S)) → core_run s (xs ++ ys) ≡ core_run (core_run s xs) ys
core_run_append s [] ys = refl
core_run_append s (x ∷ xs) ys = core_run_append (core_step s x) xs ys

-- the queue only grows
pushed_grows : {S : Type 0} (s : Core S) (e : Entry) (b : Bool)
    → IsPrefixOf s.queued (pushed_if s e b).queued
pushed_grows s e true = (e ∷ [], refl)
pushed_grows s e false = itself s.queued

uncounted_grows : {S : Type 0} (s : Core S) (o : Option Entry) → IsPrefixOf s.queued (one.pulled_uncounted s o).queued
uncounted_grows s None = itself s.queued
uncounted_grows s (Some e) = itself s.queued

pulled_grows : {S : Type 0} (s : Core S) (o : Option Entry) → IsPrefixOf s.queued (one.pulled s o).queued
pulled_grows s None = itself s.queued
pulled_grows s (Some e) = itself s.queued

acknowledged_grows : {S : Type 0} (s : Core S) (o : Option ℕ) → IsPrefixOf s.queued (one.acknowledged s o).queued
acknowledged_grows s None = itself s.queued
acknowledged_grows s (Some n) = itself s.queued

resumed_grows : {S : Type 0} (s : Core S) (c : ℕ) (o : Option ℕ) → IsPrefixOf s.queued (one.resumed s c o).queued
resumed_grows s c None = itself s.queued
resumed_grows s c (Some n) = itself s.queued

queue_grows : {S : Type 0} (b : Bool) (m : Hold) (s : Core S) (op : Op S)
    → IsPrefixOf s.queued (core_if b m s op).queued
queue_grows false Away s (one.Begin c) = itself s.queued
queue_grows true (Held d) s (one.Push e) = pushed_grows s e (has_room (one.waiting s) e)
queue_grows false (Held d) s (one.Push e) = pushed_grows s e (has_room (one.waiting s) e)
queue_grows true Away s (one.Push e) = pushed_grows s e (has_room (one.waiting s) e)
queue_grows false (Held d) s one.Pull = uncounted_grows s (one.next_entry s)
queue_grows true (Held d) s one.Pull = pulled_grows s (one.next_entry s)
queue_grows true (Held d) s one.Request = itself s.queued
queue_grows false (Held d) s one.Enable = itself s.queued
queue_grows true (Held d) s (one.Ack h) = acknowledged_grows s (one.named s h)
queue_grows true (Held d) s (one.Act x) = itself s.queued
queue_grows false (Held d) s (one.Act x) = itself s.queued
queue_grows true (Held d) s one.Drop = itself s.queued
queue_grows false (Held d) s one.Drop = itself s.queued
queue_grows true (Held d) s (one.Resume c h) = resumed_grows s c (one.named s h)
queue_grows true Away s (one.Resume c h) = resumed_grows s c (one.named s h)
queue_grows true (Held d) s one.End = itself s.queued
queue_grows false (Held d) s one.End = itself s.queued
queue_grows true Away s one.End = itself s.queued
queue_grows true m s op = itself s.queued
queue_grows false m s op = itself s.queued

pub run_grows : {S : Type 0} (s : Session S) (ops : List (Op S)) → IsPrefixOf s.core.queued (run s ops).core.queued
run_grows s [] = itself s.core.queued
run_grows s (op ∷ ops) =
    further _ _ _ (queue_grows s.core.counts s.core.hold s.core op) (run_grows (step s op) ops)

pub start_in_order : {S : Type 0} (ops : List (Op S)) → IsInOrder (run start ops).core
start_in_order ops = subst IsInOrder (sym (core_of_run start ops)) (run_in_order one.unmade ops unmade_in_order)
