-- The numbers of a session's connections are those by which its operations say that it came to be held.
use Rattle.std.proofs.Common.{◌≡◌, ◌⊎◌, inl, inr, ℕ, List, [], ◌∷◌, ◌++◌, Option, Some, None, Bool, true, false, refl, sym, ap, ◌∙◌, subst, true≢false}
use Rattle.stanza_tree.specs.declared.frame.Entry.{Entry}
use Rattle.stanza_model.specs.declared.stanza.Stanza.{Stanza}
use Rattle.sm_queue.specs.Queues.{has_room}
use Rattle.sm_account.specs.Sessions as one
use Rattle.sm_account.specs.Sessions.{Core, core_step}
use Rattle.sm_account.specs.Connections as alone
use Rattle.sm_account.specs.Connections.{trace_if}
use Rattle.sm_account.specs.Logs.{log_of, latest_first}
use Rattle.sm_account.proofs.Steps.{pushed_if}
use Rattle.sm_account.proofs.Logs.{counts_stay}
use Rattle.sm_account.proofs.Labels.{labels, labels_if}
use Rattle.house_model.proofs.Joining.{one_named, one_joins_if, one_joins}

-- a session that was not begun
abbrev IsIdle : Bool → one.Hold → Type 0
IsIdle b m = (b ≡ false) × (m ≡ one.Away)

pushed_live : (has : Bool) (v : ℕ) (s : Core Stanza) (e : Entry) → s.hold ≡ one.Held v
    → (pushed_if s e has).hold ≡ one.Away → ⊥
pushed_live true v s e held away = let bad : one.Held v ≡ one.Away = sym held ∙ away in cc
pushed_live false v s e held away = cc

pulled_live : (o : Option Entry) (v : ℕ) (s : Core Stanza) → s.hold ≡ one.Held v
    → (one.pulled_uncounted s o).hold ≡ one.Away → ⊥
pulled_live None v s held away = let bad : one.Held v ≡ one.Away = sym held ∙ away in cc
pulled_live (Some e) v s held away = let bad : one.Held v ≡ one.Away = sym held ∙ away in cc

stays_live : (b : Bool) (m : one.Hold) (op : one.Op Stanza) (s : Core Stanza) → s.counts ≡ b → s.hold ≡ m
    → (IsIdle b m → ⊥) → (one.core_if b m s op).counts ≡ false → (one.core_if b m s op).hold ≡ one.Away → ⊥
stays_live true m op s counts hold live uncounted away = true≢false (sym (counts_stay m op s counts) ∙ uncounted)
stays_live false one.Away op s counts hold live uncounted away = live (refl, refl)
stays_live false one.Ended (one.Begin w) s counts hold live uncounted away =
    let bad : one.Ended ≡ one.Away = sym hold ∙ away in cc
stays_live false one.Ended op s counts hold live uncounted away = let bad : one.Ended ≡ one.Away = sym hold ∙ away in cc
stays_live false (one.Held v) (one.Push e) s counts hold live uncounted away =
    pushed_live (has_room (one.waiting s) e) v s e hold away
stays_live false (one.Held v) one.Pull s counts hold live uncounted away =
    pulled_live (one.next_entry s) v s hold away
stays_live false (one.Held v) one.Enable s counts hold live uncounted away = true≢false uncounted
stays_live false (one.Held v) one.End s counts hold live uncounted away = let bad : one.Ended ≡ one.Away = away in cc
stays_live false (one.Held v) one.Drop s counts hold live uncounted away = let bad : one.Ended ≡ one.Away = away in cc
stays_live false (one.Held v) op s counts hold live uncounted away =
    let bad : one.Held v ≡ one.Away = sym hold ∙ away in cc

-- the numbers, the latest first: none yet, or these
abbrev Labelled : alone.Session Stanza → List ℕ → Type 0
Labelled s ls = (IsIdle s.core.counts s.core.hold × (s.trace.earlier ≡ []) × (ls ≡ []))
    ⊎ ((labels s.trace ≡ ls) × (IsIdle s.core.counts s.core.hold → ⊥))

named_labels : (s : alone.Session Stanza) (c : ℕ) (o : Option ℕ)
    → labels (alone.opens s.trace c o) ≡ latest_first (one_named c o) (labels s.trace)
named_labels s c None = refl
named_labels s c (Some n) = refl

live_labels : (b : Bool) (m : one.Hold) (op : one.Op Stanza) (s : alone.Session Stanza) → (IsIdle b m → ⊥)
    → labels (trace_if b m s.core s.trace op) ≡ latest_first (one_joins_if b m s.core op) (labels s.trace)
live_labels false one.Away op s live = absurd (live (refl, refl))
live_labels true (one.Held v) (one.Resume c h) s live = named_labels s c (one.named s.core h)
live_labels true one.Away (one.Resume c h) s live = named_labels s c (one.named s.core h)
live_labels true (one.Held v) (one.Begin c) s live = refl
live_labels true (one.Held v) one.Pull s live = labels_if true (one.Held v) one.Pull s refl
live_labels true (one.Held v) op s live = refl
live_labels true one.Away op s live = refl
live_labels true one.Ended op s live = refl
live_labels false (one.Held v) op s live = refl
live_labels false one.Ended op s live = refl

idle_labels : (op : one.Op Stanza) (s : alone.Session Stanza) (ls : List ℕ) → IsIdle s.core.counts s.core.hold
    → s.trace.earlier ≡ [] → ls ≡ []
    → Labelled (alone.step_if false one.Away s op) (latest_first (one_joins_if false one.Away s.core op) ls)
idle_labels (one.Begin w) s ls idle first none =
    inr (rw (first, none) refl, λ bad. (let other : one.Held w ≡ one.Away = bad.1 in cc))
idle_labels op s ls idle first none = inl (idle, first, none)

label_step : (b : Bool) (m : one.Hold) (op : one.Op Stanza) (s : alone.Session Stanza) (ls : List ℕ)
    → s.core.counts ≡ b → s.core.hold ≡ m → Labelled s ls
    → Labelled (alone.step_if b m s op) (latest_first (one_joins_if b m s.core op) ls)
label_step b m op s ls counts hold (inl p) =
    subst (λ (x : Bool). Labelled (alone.step_if x m s op) (latest_first (one_joins_if x m s.core op) ls))
    (sym p.0.0 ∙ counts)
    (subst (λ (x : one.Hold). Labelled (alone.step_if false x s op) (latest_first (one_joins_if false x s.core op) ls))
    (sym p.0.1 ∙ hold) (idle_labels op s ls p.0 p.1 p.2))
label_step b m op s ls counts hold (inr p) = inr (
  live_labels b m op s (λ e. p.1 (counts ∙ e.0, hold ∙ e.1)) ∙ ap (latest_first (one_joins_if b m s.core op)) p.0,
  λ e. stays_live b m op s.core counts hold (λ d. p.1 (counts ∙ d.0, hold ∙ d.1)) e.0 e.1,
)

pub latest_append : (xs ys zs : List ℕ) → latest_first (xs ++ ys) zs ≡ latest_first ys (latest_first xs zs)
latest_append [] ys zs = refl
latest_append (x ∷ xs) ys zs = latest_append xs ys (x ∷ zs)

run_labels : (s : alone.Session Stanza) (ops : List (one.Op Stanza)) (ls : List ℕ) → Labelled s ls
    → Labelled (alone.run s ops) (latest_first (log_of one_joins s.core ops) ls)
run_labels s [] ls l = l
run_labels s (op ∷ ops) ls l =
    subst (Labelled (alone.run (alone.step s op) ops))
    (sym (latest_append (one_joins s.core op) (log_of one_joins (core_step s.core op) ops) ls))
    (run_labels (alone.step s op) ops (latest_first (one_joins s.core op) ls)
    (label_step s.core.counts s.core.hold op s ls refl refl l))

counted_labels : (s : alone.Session Stanza) (ls : List ℕ) → s.core.counts ≡ true → Labelled s ls
    → labels s.trace ≡ ls
counted_labels s ls counts (inl p) = absurd (true≢false (sym counts ∙ p.0.0))
counted_labels s ls counts (inr p) = p.0

pub start_labels : (ops : List (one.Op Stanza)) → (alone.after ops).core.counts ≡ true
    → labels (alone.after ops).trace ≡ latest_first (log_of one_joins one.unmade ops) []
start_labels ops counts =
    counted_labels (alone.after ops) _ counts (run_labels alone.start ops [] (inl ((refl, refl), refl, refl)))

-- where it was not begun, it has one connection
abbrev AreFew : alone.Session Stanza → List ℕ → Type 0
AreFew s ls = (labels s.trace ≡ s.trace.present.number ∷ []) ⊎ (labels s.trace ≡ ls)

few_labels : (s : alone.Session Stanza) (ls : List ℕ) → Labelled s ls → AreFew s ls
few_labels s ls (inl p) = inl (rw p.1 refl)
few_labels s ls (inr p) = inr p.0

pub start_few : (ops : List (one.Op Stanza))
    → (labels (alone.after ops).trace ≡ (alone.after ops).trace.present.number ∷ [])
    ⊎ (labels (alone.after ops).trace ≡ latest_first (log_of one_joins one.unmade ops) [])
start_few ops = few_labels (alone.after ops) _ (run_labels alone.start ops [] (inl ((refl, refl), refl, refl)))
