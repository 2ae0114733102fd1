-- The places of a traffic stay in their order, whatever happens to the session.
use Rattle.std.proofs.Common.{◌≡◌, ℕ, ◌+◌, ◌-◌, ◌<◌, ◌≤◌, ◌&&◌, [], ◌∷◌, length, drop, Option, Some, None, Bool, true}
use Rattle.std.proofs.Common.{false, refl, sym, true≢false, length-append, length-drop, arith}
use Rattle.std.specs.Prelude.{slice_get, ⊤}
use Rattle.std.proofs.lemmas.Bool.{ltb-true}
use Rattle.std.proofs.lemmas.Option.{slice_get_within}
use Rattle.stanza_tree.specs.declared.frame.Entry.{Entry}
use Rattle.stanza_model.specs.declared.stanza.Stanza.{Stanza}
use Rattle.sm_counters.proofs.CountLaws.{number-some}
use Rattle.sm_queue.specs.Queues.{has_room, most_waiting}
use Rattle.house_model.specs.Sessions.{Hold, Held, Away, Ended, Rest, Op, Push, Pull, Request, Enable, Ack, Act}
use Rattle.house_model.specs.Sessions.{Drop, Resume, End, Part, pushed, acked, resumed, step_if}
use Rattle.house_model.specs.Traffic.{Traffic, Ordered, whole, waiting, queue, give, give_up, ask, enable, handled, ack, resume, act}

pub none_ordered : Ordered whole.none
none_ordered =
    record {
      base = omega arith;
      kept = omega arith;
      sent = omega arith;
      few = omega arith;
      asked = omega arith;
      acted = omega arith;
    }

first_true : (x y : Bool) → (x && y) ≡ true → x ≡ true
first_true true y is = refl
first_true false y is = absurd (true≢false (sym is))

room_left : (t : Traffic) (e : Entry) → has_room (waiting t) e ≡ true → length t.queued < t.kept + most_waiting
room_left t e has =
    let few : length (drop t.kept t.queued) < most_waiting = ltb-true _ _ (first_true _ _ has) in
    omega (arith, few, length-drop t.kept t.queued)

queue_ordered : (t : Traffic) (e : Entry) → has_room (waiting t) e ≡ true → Ordered t → Ordered (queue t e)
queue_ordered t e has o = record {
  base = o.base;
  kept = o.kept;
  sent = omega (arith, length-append t.queued (e ∷ []), o.sent);
  few = omega (arith, length-append t.queued (e ∷ []), room_left t e has);
  asked = o.asked;
  acted = o.acted;
}

give_ordered : (t : Traffic) (x : Option Entry) → slice_get t.queued t.sent ≡ x → Ordered t → Ordered (give t x)
give_ordered t None is o = o
give_ordered t (Some e) is o =
    let within : t.sent < length t.queued = slice_get_within t.queued t.sent e is in
    record {
      base = o.base;
      kept = omega (arith, o.kept);
      sent = omega arith;
      few = o.few;
      asked = omega (arith, o.asked);
      acted = o.acted;
    }

give_up_ordered : (t : Traffic) (x : Option Entry) → slice_get t.queued t.sent ≡ x → Ordered t → Ordered (give_up t x)
give_up_ordered t None is o = o
give_up_ordered t (Some e) is o =
    let within : t.sent < length t.queued = slice_get_within t.queued t.sent e is in
    record {
      base = omega (arith, o.base, o.kept);
      kept = omega arith;
      sent = omega arith;
      few = omega (arith, o.few, o.kept);
      asked = omega (arith, o.asked);
      acted = o.acted;
    }

ask_ordered : (t : Traffic) → Ordered t → Ordered (ask t)
ask_ordered t o =
    record { base = o.base; kept = o.kept; sent = o.sent; few = o.few; asked = omega arith; acted = o.acted }

enable_ordered : (t : Traffic) → Ordered t → Ordered (enable t)
enable_ordered t o = record {
  base = omega arith;
  kept = omega arith;
  sent = o.sent;
  few = omega (arith, o.few, o.kept);
  asked = omega arith;
  acted = omega arith;
}

act_ordered : (t : Traffic) (x : Stanza) → Ordered t → Ordered (act t x)
act_ordered t x o = record {
  base = o.base;
  kept = o.kept;
  sent = o.sent;
  few = o.few;
  asked = o.asked;
  acted = omega (arith, length-append t.acts (x ∷ []), o.acted);
}

-- a number that was given
abbrev IsGiven : Traffic → Option ℕ → Type 0
IsGiven t None = ⊤
IsGiven t (Some n) = (t.kept ≤ t.base_out + n) × (t.base_out + n ≤ t.sent)

given_by : (t : Traffic) (h : ℕ) (n : Option ℕ) → handled t h ≡ n → Ordered t → IsGiven t n
given_by t h None is o = tt
given_by t h (Some n) is o =
    let found = number-some (t.kept - t.base_out) (t.sent - t.base_out) h n is in
    (omega (arith, found.low, o.base), omega (arith, found.high, o.base, o.kept))

given : (t : Traffic) (h : ℕ) → Ordered t → IsGiven t (handled t h)
given t h o = given_by t h (handled t h) refl o

abbrev IsOrdered : Option Traffic → Type 0
IsOrdered None = ⊤
IsOrdered (Some t) = Ordered t

ack_ordered : (t : Traffic) (n : Option ℕ) → IsGiven t n → Ordered t → IsOrdered (ack t n)
ack_ordered t None g o = tt
ack_ordered t (Some n) g o = record {
  base = omega arith;
  kept = g.1;
  sent = o.sent;
  few = omega (arith, g.0, o.few);
  asked = o.asked;
  acted = o.acted;
}

resume_ordered : (t : Traffic) (n : Option ℕ) → IsGiven t n → Ordered t → IsOrdered (resume t n)
resume_ordered t None g o = tt
resume_ordered t (Some n) g o = record {
  base = omega arith;
  kept = omega arith;
  sent = omega (arith, g.1, o.sent);
  few = omega (arith, g.0, o.few);
  asked = omega arith;
  acted = o.acted;
}

pushed_ordered : (has b : Bool) (m : Hold) (t : Traffic) (r : Rest) (e : Entry) → has_room (waiting t) e ≡ has
    → Ordered t
    → Ordered (pushed whole has b m t r e).traffic
pushed_ordered true b m t r e has o = queue_ordered t e has o
pushed_ordered false b m t r e has o = o

acked_ordered : (u : Option Traffic) (m : Hold) (t : Traffic) (r : Rest) (h : ℕ) → IsOrdered u → Ordered t
    → Ordered (acked whole u m t r h).traffic
acked_ordered None m t r h p o = o
acked_ordered (Some u) m t r h p o = p

resumed_ordered : (u : Option Traffic) (m : Hold) (t : Traffic) (r : Rest) (w c : ℕ) → IsOrdered u → Ordered t
    → Ordered (resumed u m t r w c).traffic
resumed_ordered None m t r w c p o = o
resumed_ordered (Some u) m t r w c p o = p

pub step_ordered : (b : Bool) (m : Hold) (t : Traffic) (r : Rest) (op : Op) → Ordered t
    → Ordered (step_if whole b m t r op).traffic
step_ordered b (Held v d) t r (Push e) o = pushed_ordered (has_room (waiting t) e) b (Held v d) t r e refl o
step_ordered true Away t r (Push e) o = pushed_ordered (has_room (waiting t) e) true Away t r e refl o
step_ordered b (Held v d) t r (End cause) o = o
step_ordered true Away t r (End cause) o = o
step_ordered false (Held v d) t r Pull o = give_up_ordered t (slice_get t.queued t.sent) refl o
step_ordered true (Held v d) t r Pull o = give_ordered t (slice_get t.queued t.sent) refl o
step_ordered true (Held v d) t r Request o = ask_ordered t o
step_ordered false (Held v d) t r (Enable id) o = enable_ordered t o
step_ordered true (Held v d) t r (Ack h) o =
    acked_ordered (ack t (handled t h)) (Held v d) t r h (ack_ordered t (handled t h) (given t h o) o) o
step_ordered b (Held v d) t r (Act x) o = act_ordered t x o
step_ordered false (Held v d) t r (Drop deadline) o = o
step_ordered true (Held v d) t r (Drop deadline) o = o
step_ordered true (Held v d) t r (Resume w c h) o =
    resumed_ordered (resume t (handled t h)) (Held v d) t r w c (resume_ordered t (handled t h) (given t h o) o) o
step_ordered true Away t r (Resume w c h) o =
    resumed_ordered (resume t (handled t h)) Away t r w c (resume_ordered t (handled t h) (given t h o) o) o
step_ordered b (Ended cause) t r Part o = o
step_ordered b m t r op o = o
