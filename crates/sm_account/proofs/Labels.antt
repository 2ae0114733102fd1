-- The numbers of a session's connections, and which operations add one.
use Rattle.std.proofs.Common.{◌≡◌, ◌⊎◌, inl, inr, ℕ, List, ◌∷◌, Option, Some, None, Bool, true, false, refl, true≢false}
use Rattle.stanza_tree.specs.declared.frame.Entry.{Entry}
use Rattle.sm_account.specs.Sessions as one
use Rattle.sm_account.specs.Sessions.{Hold, Held, Away, Ended, Core, Op, acted, core_if}
use Rattle.sm_account.specs.Connections as past
use Rattle.sm_account.specs.Connections.{Connection, Trace, Session, connections, start, trace_if, run}
use Rattle.sm_account.specs.Logs.{numbers}

-- operations by which a connection comes to hold the session
abbrev pub joins : {S : Type 0} → Op S → Bool
joins (one.Begin c) = true
joins (one.Resume c h) = true
joins op = false

abbrev pub labels : {S : Type 0} → Trace S → List ℕ
labels t = numbers (connections t)

carries_labels : {S : Type 0} (t : Trace S) (o : Option Entry) → labels (past.carries t o) ≡ labels t
carries_labels t None = refl
carries_labels t (Some e) = refl

pub labels_if : {S : Type 0} (b : Bool) (m : Hold) (op : Op S) (s : Session S) → joins op ≡ false
    → labels (trace_if b m s.core s.trace op) ≡ labels s.trace
labels_if b m (one.Begin c) s is = absurd (true≢false is)
labels_if b m (one.Resume c h) s is = absurd (true≢false is)
labels_if true (Held d) one.Pull s is = carries_labels s.trace (one.next_entry s.core)
labels_if true (Held d) one.Ask s is = refl
labels_if true (Held d) (one.Act x) s is = refl
labels_if true (Held d) (one.Short x) s is = refl
labels_if true (Held d) (one.Push e) s is = refl
labels_if true (Held d) one.Request s is = refl
labels_if true (Held d) one.Enable s is = refl
labels_if true (Held d) (one.Ack h) s is = refl
labels_if true (Held d) one.Drop s is = refl
labels_if true (Held d) one.End s is = refl
labels_if true Away op s is = refl
labels_if true Ended op s is = refl
labels_if false (Held d) op s is = refl
labels_if false Ended op s is = refl
labels_if false Away (one.Push e) s is = refl
labels_if false Away one.Pull s is = refl
labels_if false Away one.Request s is = refl
labels_if false Away one.Enable s is = refl
labels_if false Away (one.Ack h) s is = refl
labels_if false Away one.Ask s is = refl
labels_if false Away (one.Act x) s is = refl
labels_if false Away (one.Short x) s is = refl
labels_if false Away one.Drop s is = refl
labels_if false Away one.End s is = refl

-- a resumption that goes on, and one that doesn't
abbrev pub Joins : {S : Type 0} → Core S → Trace S → Trace S → ℕ → Type 0
Joins core old new c = (labels new ≡ labels old) ⊎ ((labels new ≡ c ∷ labels old) × (core.hold ≡ Held c))

resumed_labels : {S : Type 0} (s : Session S) (c : ℕ) (o : Option ℕ)
    → Joins (one.resumed s.core c o) s.trace (past.opens s.trace c o) c
resumed_labels s c None = inl refl
resumed_labels s c (Some n) = inr (refl, refl)

pub resume_labels : {S : Type 0} (b : Bool) (m : Hold) (s : Session S) (c h : ℕ)
    → Joins (core_if b m s.core (one.Resume c h)) s.trace (trace_if b m s.core s.trace (one.Resume c h)) c
resume_labels true (Held d) s c h = resumed_labels s c (one.named s.core h)
resume_labels true Away s c h = resumed_labels s c (one.named s.core h)
resume_labels true Ended s c h = inl refl
resume_labels false (Held d) s c h = inl refl
resume_labels false Away s c h = inl refl
resume_labels false Ended s c h = inl refl
