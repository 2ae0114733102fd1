-- Each operation keeps the places of a session in order and its queue within the limits.
use Rattle.std.proofs.Common.{◌≡◌, zero, suc, List, [], ◌∷◌, ◌++◌, Option, Some, None, Bool, true, false, refl, le_refl, length-append, length-drop, arith}
use Rattle.std.specs.Prelude.{ℕ, ◌+◌, ◌-◌, ◌^◌, ◌<◌, ◌≤◌, length, drop, ◌&&◌, nat_lt, nat_le}
use Rattle.std.proofs.lemmas.Bool.{ltb-true, leb-true}
use Rattle.std.proofs.lemmas.List.{drop-append-le}
use Rattle.std.proofs.lemmas.List.Sums.{sum_by-append}
use Rattle.std.proofs.lemmas.Option.{slice_get_within}
use Rattle.stanza_tree.specs.declared.frame.Entry.{Entry}
use Rattle.stanza_tree.specs.Entries.{frame}
use Rattle.sm_counters.specs.Numbers.{count_of, number}
use Rattle.sm_counters.proofs.CountLaws.{number-some, number-is}
use Rattle.sm_queue.specs.Queues.{frames_length, has_room, most_bytes, most_waiting}
use Rattle.sm_queue.proofs.WholeLemmas.{frames_of_cons}
use Rattle.sm_account.specs.Sessions as one
use Rattle.sm_account.specs.Sessions.{Hold, Held, Away, Ended, Core, Op, core_if, core_step, core_run}
use Rattle.sm_account.proofs.Steps.{pushed_if}
use Rattle.sm_account.specs.Places.{QueueIsInOrder, IsInOrder}

-- less waits from a later place on
pub less_waits : (a b : ℕ) (es : List Entry) → a ≤ b → frames_length (drop b es) ≤ frames_length (drop a es)
less_waits zero zero es later = le_refl (frames_length es)
less_waits zero (suc b) [] later = omega arith
less_waits zero (suc b) (e ∷ es) later =
    let all : frames_length (e ∷ es) ≡ length (frame e) + frames_length es = frames_of_cons e es in
    let fewer : frames_length (drop b es) ≤ frames_length es = less_waits 0 b es (omega arith) in
    omega arith
less_waits (suc a) zero es later = omega arith
less_waits (suc a) (suc b) [] later = omega arith
less_waits (suc a) (suc b) (e ∷ es) later = less_waits a b es (omega arith)

-- the entries before a later place are done with
moved : (queued : List Entry) (kept sent asked_at base place : ℕ) → QueueIsInOrder queued kept sent asked_at base
    → kept ≤ place → place ≤ sent → QueueIsInOrder queued place sent asked_at base
moved queued kept sent asked_at base place q low high = record {
  began = omega (arith, q.began);
  in_order = high;
  asked = q.asked;
  within = q.within;
  few =
      let now : length (drop place queued) ≡ length queued - place = length-drop place queued in
      let was : length (drop kept queued) ≡ length queued - kept = length-drop kept queued in
      omega (arith, q.few);
  small =
      let less : frames_length (drop place queued) ≤ frames_length (drop kept queued) =
      less_waits kept place queued low in
      omega (arith, q.small);
}

both : (a b : Bool) → (a && b) ≡ true → (a ≡ true) × (b ≡ true)
both true true is = (refl, refl)
both true false is = absurd (cc)
both false b is = absurd (cc)

longer : (queued : List Entry) (kept sent asked_at base : ℕ) (e : Entry) → has_room (drop kept queued) e ≡ true
    → QueueIsInOrder queued kept sent asked_at base → QueueIsInOrder (queued ++ e ∷ []) kept sent asked_at base
longer queued kept sent asked_at base e room q =
    let rest : drop kept (queued ++ e ∷ []) ≡ drop kept queued ++ e ∷ [] =
    drop-append-le kept queued (e ∷ []) (omega (arith, q.in_order, q.within)) in
    let limits =
    both (nat_lt (length (drop kept queued)) most_waiting)
    (nat_le (frames_length (drop kept queued) + length (frame e)) most_bytes) room in
    let few = ltb-true _ _ limits.0 in
    let small = leb-true _ _ limits.1 in
    let sum : frames_length (drop kept queued ++ e ∷ []) ≡ frames_length (drop kept queued) + frames_length (e ∷ []) =
    sum_by-append (λ e. length (frame e)) (drop kept queued) (e ∷ []) in
    let one : frames_length (e ∷ []) ≡ length (frame e) + 0 = frames_of_cons e [] in
    record {
      began = q.began;
      in_order = q.in_order;
      asked = q.asked;
      within = simp length-append (omega (arith, q.within));
      few = rw rest (simp length-append (omega arith));
      small = rw rest (omega arith);
    }

-- what a count names lies from what is done with to what was sent
pub named_within : (kept sent base h n : ℕ) → base ≤ kept → number (kept - base) (sent - base) h ≡ Some n
    → (kept ≤ base + n) × (n ≤ sent - base)
named_within kept sent base h n began is =
    let at = number-some (kept - base) (sent - base) h n is in
    (omega (arith, at.low), at.high)

pushed : {S : Type 0} (s : Core S) (e : Entry) (b : Bool) → has_room (one.waiting s) e ≡ b → IsInOrder s
    → IsInOrder (pushed_if s e b)
pushed s e true room o =
    record { queue = longer s.queued s.kept s.sent s.asked_at s.base_out e room o.queue; base_in = o.base_in }
pushed s e false room o = record { queue = o.queue; base_in = o.base_in }

pulled_uncounted : {S : Type 0} (s : Core S) (o : Option Entry) → one.next_entry s ≡ o → IsInOrder s
    → IsInOrder (one.pulled_uncounted s o)
pulled_uncounted s None is o = o
pulled_uncounted s (Some e) is o = record {
  queue =
      let more = slice_get_within s.queued s.sent e is in
      let q : QueueIsInOrder s.queued s.kept (s.sent + 1) s.asked_at s.base_out = record {
        began = o.queue.began;
        in_order = omega (arith, o.queue.in_order);
        asked = omega (arith, o.queue.asked);
        within = omega arith;
        few = o.queue.few;
        small = o.queue.small;
      } in
      moved s.queued s.kept (s.sent + 1) s.asked_at s.base_out (s.sent + 1) q
      (omega (arith, o.queue.in_order)) (le_refl (s.sent + 1));
  base_in = o.base_in;
}

pulled : {S : Type 0} (s : Core S) (o : Option Entry) → one.next_entry s ≡ o → IsInOrder s → IsInOrder (one.pulled s o)
pulled s None is o = o
pulled s (Some e) is o = record {
  queue =
      let more = slice_get_within s.queued s.sent e is in
      record {
        began = o.queue.began;
        in_order = omega (arith, o.queue.in_order);
        asked = omega (arith, o.queue.asked);
        within = omega arith;
        few = o.queue.few;
        small = o.queue.small;
      };
  base_in = o.base_in;
}

requested : {S : Type 0} (s : Core S) → IsInOrder s → IsInOrder (one.requested s)
requested s o = record {
  queue = record {
    began = o.queue.began;
    in_order = o.queue.in_order;
    asked = le_refl s.sent;
    within = o.queue.within;
    few = o.queue.few;
    small = o.queue.small;
  };
  base_in = o.base_in;
}

enabled : {S : Type 0} (s : Core S) → IsInOrder s → IsInOrder (one.enabled s)
enabled s o =
    let q = moved s.queued s.kept s.sent s.asked_at s.base_out s.sent o.queue o.queue.in_order (le_refl s.sent) in
    record {
      queue = record {
        began = le_refl s.sent;
        in_order = le_refl s.sent;
        asked = le_refl s.sent;
        within = q.within;
        few = q.few;
        small = q.small;
      };
      base_in = le_refl (length s.acts);
    }

acknowledged : {S : Type 0} (s : Core S) (h : ℕ) (o : Option ℕ) → one.named s h ≡ o → IsInOrder s
    → IsInOrder (one.acknowledged s o)
acknowledged s h None is o = record { queue = o.queue; base_in = o.base_in }
acknowledged s h (Some n) is o =
    let at = named_within s.kept s.sent s.base_out h n o.queue.began is in
    record {
      queue =
          moved s.queued s.kept s.sent s.asked_at s.base_out (s.base_out + n) o.queue at.0
          (omega (arith, at.1, o.queue.began, o.queue.in_order));
      base_in = o.base_in;
    }

resumed : {S : Type 0} (s : Core S) (c h : ℕ) (o : Option ℕ) → one.named s h ≡ o → IsInOrder s
    → IsInOrder (one.resumed s c o)
resumed s c h None is o = o
resumed s c h (Some n) is o =
    let at = named_within s.kept s.sent s.base_out h n o.queue.began is in
    let q =
    moved s.queued s.kept s.sent s.asked_at s.base_out (s.base_out + n) o.queue at.0
    (omega (arith, at.1, o.queue.began, o.queue.in_order)) in
    record {
      queue = record {
        began = q.began;
        in_order = le_refl (s.base_out + n);
        asked = le_refl (s.base_out + n);
        within = omega (arith, q.in_order, q.within);
        few = q.few;
        small = q.small;
      };
      base_in = o.base_in;
    }

acted_on : {S : Type 0} (s : Core S) (x : S) → IsInOrder s → IsInOrder (one.acted_on s x)
acted_on s x o = record { queue = o.queue; base_in = simp length-append (omega (arith, o.base_in)) }

at_hold : {S : Type 0} (s : Core S) (m : Hold) → IsInOrder s → IsInOrder (record s { hold = m })
at_hold s m o = record { queue = o.queue; base_in = o.base_in }

step_if : {S : Type 0} (b : Bool) (m : Hold) (op : Op S) (s : Core S) → IsInOrder s → IsInOrder (core_if b m s op)
step_if false Away (one.Begin c) s o = at_hold s (Held c) o
step_if true (Held d) (one.Push e) s o = pushed s e _ refl o
step_if false (Held d) (one.Push e) s o = pushed s e _ refl o
step_if true Away (one.Push e) s o = pushed s e _ refl o
step_if false (Held d) one.Pull s o = pulled_uncounted s _ refl o
step_if true (Held d) one.Pull s o = pulled s _ refl o
step_if true (Held d) one.Request s o = requested s o
step_if false (Held d) one.Enable s o = enabled s o
step_if true (Held d) (one.Ack h) s o = acknowledged s h _ refl o
step_if true (Held d) (one.Act x) s o = acted_on s x o
step_if false (Held d) (one.Act x) s o = acted_on s x o
step_if true (Held d) one.Drop s o = at_hold s Away o
step_if false (Held d) one.Drop s o = at_hold s Ended o
step_if true (Held d) (one.Resume c h) s o = resumed s c h _ refl o
step_if true Away (one.Resume c h) s o = resumed s c h _ refl o
step_if true (Held d) one.End s o = at_hold s Ended o
step_if false (Held d) one.End s o = at_hold s Ended o
step_if true Away one.End s o = at_hold s Ended o
step_if true m op s o = o
step_if false m op s o = o

pub step_in_order : {S : Type 0} (op : Op S) (s : Core S) → IsInOrder s → IsInOrder (core_step s op)
step_in_order op s o = step_if s.counts s.hold op s o

pub unmade_in_order : {S : Type 0} → IsInOrder {S = S} one.unmade
unmade_in_order = record {
  queue =
      record {
        began = omega arith;
        in_order = omega arith;
        asked = omega arith;
        within = omega arith;
        few = omega arith;
        small = omega arith;
      };
  base_in = omega arith;
}

pub run_in_order : {S : Type 0} (s : Core S) (ops : List (Op S)) → IsInOrder s → IsInOrder (core_run s ops)
run_in_order s [] o = o
run_in_order s (op ∷ ops) o = run_in_order (core_step s op) ops (step_in_order op s o)

-- so the count of a number names it
pub names_it : (queued : List Entry) (kept sent asked_at base n h : ℕ) → QueueIsInOrder queued kept sent asked_at base
    → kept - base ≤ n → n ≤ sent - base → count_of n ≡ h → number (kept - base) (sent - base) h ≡ Some n
names_it queued kept sent asked_at base n h q low high count =
    let wait : length (drop kept queued) ≡ length queued - kept = length-drop kept queued in
    let near : sent - base < (kept - base) + 2 ^ 32 = omega (arith, q.began, q.in_order, q.within, q.few) in
    number-is (kept - base) (sent - base) h n near (record { low = low; high = high; count = count })
