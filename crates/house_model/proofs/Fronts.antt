-- What a session that goes alone gives while it doesn't count is the front of its queue.
use Rattle.std.proofs.Common.{◌≡◌, ℕ, zero, suc, ◌+◌, List, [], ◌∷◌, ◌++◌, take, Option, Some, None, Bool, true, false}
use Rattle.std.proofs.Common.{refl, sym, ap, ◌∙◌, append_assoc, append-nil, true≢false, arith}
use Rattle.std.specs.Prelude.{map, slice_get}
use Rattle.std.proofs.lemmas.List.{map-append, take-append-le}
use Rattle.stanza_tree.specs.declared.frame.Entry.{Entry}
use Rattle.stanza_tree.specs.Entries.{frame}
use Rattle.stanza_model.specs.declared.stanza.Stanza.{Stanza}
use Rattle.sm_queue.specs.Queues.{has_room}
use Rattle.sm_account.specs.Sessions as one
use Rattle.sm_account.specs.Sessions.{Core, core_if, core_step, core_run}
use Rattle.sm_account.specs.Logs.{log_of}
use Rattle.sm_account.specs.Places.{IsInOrder}
use Rattle.sm_account.proofs.Places.{step_in_order, unmade_in_order}
use Rattle.sm_account.proofs.Steps.{pushed_if}
use Rattle.house_model.proofs.Ears.{tells, IsQuiet}
use Rattle.house_model.proofs.Told.{Tells}
use Rattle.house_model.proofs.Hearing.{pull_ear}

-- the frame that a Pull gives while the session doesn't count
abbrev pub frames_of : Option Entry → List (List ℕ)
frames_of None = []
frames_of (Some e) = frame e ∷ []

abbrev pub shows_if : Bool → one.Hold → Core Stanza → one.Op Stanza → List (List ℕ)
shows_if false (one.Held c) s one.Pull = frames_of (one.next_entry s)
shows_if b m s op = []

abbrev pub shows : Tells (List ℕ)
shows s op = shows_if s.counts s.hold s op

shows_else : (b : Bool) (m : one.Hold) (s : Core Stanza) (op : one.Op Stanza) → tells pull_ear op ≡ false → shows_if b m s op ≡ []
shows_else b m s one.Pull is = absurd (true≢false is)
shows_else false (one.Held c) s op is = refl
shows_else false one.Away s op is = refl
shows_else false one.Ended s op is = refl
shows_else true m s op is = refl

pub shows_quiet : IsQuiet pull_ear shows
shows_quiet s op is = shows_else s.counts s.hold s op is

-- the frames of the queue up to what was sent, or up to where the session began to count
abbrev pub front_if : Bool → (queued : List Entry) → (sent base_out : ℕ) → List (List ℕ)
front_if false queued sent base_out = map frame (take sent queued)
front_if true queued sent base_out = map frame (take base_out queued)

abbrev pub front : Core Stanza → List (List ℕ)
front s = front_if s.counts s.queued s.sent s.base_out

take_suc : {A : Type 0} (xs : List A) (n : ℕ) (x : A) → slice_get xs n ≡ Some x → take (suc n) xs ≡ take n xs ++ x ∷ []
take_suc [] n x is = absurd (cc)
take_suc {A = A} (y ∷ ys) zero x is = ap (λ (z : A). z ∷ []) (let same : Some y ≡ Some x = is in cc)
take_suc {A = A} (y ∷ ys) (suc n) x is = ap (λ (l : List A). y ∷ l) (take_suc ys n x is)

take_more : {A : Type 0} (xs : List A) (n : ℕ) (x : A) → slice_get xs n ≡ Some x → take (n + 1) xs ≡ take n xs ++ x ∷ []
take_more {A = A} xs n x is = let e : n + 1 ≡ suc n = omega arith in ap (λ (k : ℕ). take k xs) e ∙ take_suc xs n x is

abbrev at : Bool → one.Hold → Core Stanza → Core Stanza
at b m s = record s { counts = b; hold = m }

-- nothing is given
still : (xs ys : List (List ℕ)) → ys ≡ xs → ys ≡ xs ++ []
still xs ys same = same ∙ sym (append-nil xs)

pushed_if_front : (b : Bool) (s : Core Stanza) (e : Entry) → IsInOrder s
    → front_if b (s.queued ++ e ∷ []) s.sent s.base_out ≡ front_if b s.queued s.sent s.base_out
pushed_if_front true s e o =
    ap (map frame) (take-append-le s.base_out s.queued (e ∷ []) (omega (arith, o.queue.began, o.queue.in_order, o.queue.within)))
pushed_if_front false s e o = ap (map frame) (take-append-le s.sent s.queued (e ∷ []) o.queue.within)

pushed_front : (has b : Bool) (m : one.Hold) (s : Core Stanza) (e : Entry) → IsInOrder s
    → front (pushed_if (at b m s) e has) ≡ front (at b m s) ++ []
pushed_front true b m s e o = still _ _ (pushed_if_front b s e o)
pushed_front false b m s e o = still _ _ refl

given_front : (n : Option Entry) (m : one.Hold) (s : Core Stanza) → slice_get s.queued s.sent ≡ n
    → front (one.pulled_uncounted (at false m s) n) ≡ front (at false m s) ++ frames_of n
given_front None m s is = still _ _ refl
given_front (Some e) m s is =
    ap (map frame) (take_more s.queued s.sent e is) ∙ map-append frame (take s.sent s.queued) (e ∷ [])

pulled_front : (n : Option Entry) (m : one.Hold) (s : Core Stanza) → front (one.pulled (at true m s) n) ≡ front (at true m s) ++ []
pulled_front None m s = still _ _ refl
pulled_front (Some e) m s = still _ _ refl

acked_front : (n : Option ℕ) (m : one.Hold) (s : Core Stanza) → front (one.acknowledged (at true m s) n) ≡ front (at true m s) ++ []
acked_front None m s = still _ _ refl
acked_front (Some n) m s = still _ _ refl

resumed_front : (n : Option ℕ) (c : ℕ) (m : one.Hold) (s : Core Stanza) → front (one.resumed (at true m s) c n) ≡ front (at true m s) ++ []
resumed_front None c m s = still _ _ refl
resumed_front (Some n) c m s = still _ _ refl

step_if_front : (b : Bool) (m : one.Hold) (s : Core Stanza) (op : one.Op Stanza) → IsInOrder s
    → front (core_if b m (at b m s) op) ≡ front (at b m s) ++ shows_if b m (at b m s) op
step_if_front true (one.Held d) s (one.Push e) o = pushed_front (has_room (one.waiting s) e) true (one.Held d) s e o
step_if_front false (one.Held d) s (one.Push e) o = pushed_front (has_room (one.waiting s) e) false (one.Held d) s e o
step_if_front true one.Away s (one.Push e) o = pushed_front (has_room (one.waiting s) e) true one.Away s e o
step_if_front false (one.Held d) s one.Pull o = given_front (one.next_entry s) (one.Held d) s refl
step_if_front true (one.Held d) s one.Pull o = pulled_front (one.next_entry s) (one.Held d) s
step_if_front true (one.Held d) s (one.Ack h) o = acked_front (one.named s h) (one.Held d) s
step_if_front true (one.Held d) s (one.Resume c h) o = resumed_front (one.named s h) c (one.Held d) s
step_if_front true one.Away s (one.Resume c h) o = resumed_front (one.named s h) c one.Away s
step_if_front false one.Away s (one.Begin c) o = still _ _ refl
step_if_front false (one.Held d) s op o = still _ _ refl
step_if_front false one.Away s op o = still _ _ refl
step_if_front false one.Ended s op o = still _ _ refl
step_if_front true (one.Held d) s op o = still _ _ refl
step_if_front true one.Away s op o = still _ _ refl
step_if_front true one.Ended s op o = still _ _ refl

run_front : (s : Core Stanza) (ops : List (one.Op Stanza)) → IsInOrder s → front (core_run s ops) ≡ front s ++ log_of shows s ops
run_front s [] o = still _ _ refl
run_front s (op ∷ ops) o =
    run_front (core_step s op) ops (step_in_order op s o)
    ∙ (ap (λ (l : List (List ℕ)). l ++ log_of shows (core_step s op) ops) (step_if_front s.counts s.hold s op o)
    ∙ append_assoc (front s) (shows s op) (log_of shows (core_step s op) ops))

-- all that a session gives before it counts is the front of its queue
pub all_front : (ops : List (one.Op Stanza)) → log_of shows one.unmade ops ≡ front (core_run one.unmade ops)
all_front ops = sym (run_front one.unmade ops unmade_in_order)
