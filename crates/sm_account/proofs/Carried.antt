-- What a connection carries after a resumption is the queue from the client's count on.
use Rattle.std.proofs.Common.{◌≡◌, ◌⊎◌, inl, inr, List, [], ◌∷◌, ◌++◌, Option, Some, None, Bool, true, false, refl, sym}
use Rattle.std.proofs.Common.{ap, ◌∙◌, subst, append_assoc, length-append, take-append-drop, arith}
use Rattle.std.proofs.Math.Seq.{drop-append_seam}
use Rattle.std.proofs.lemmas.Grind.{common_steps}
use Rattle.std.specs.Prelude.{ℕ, ◌+◌, ◌≤◌, length, take, drop, slice_get}
use Rattle.stanza_tree.specs.declared.frame.Entry.{Entry}
use Rattle.sm_queue.specs.Queues.{has_room}
use Rattle.sm_account.specs.Prefixes.{IsPrefixOf}
use Rattle.sm_account.specs.Sessions as one
use Rattle.sm_account.specs.Sessions.{Hold, Held, Away, Ended, Core, Op, core_if, core_step, core_run}
use Rattle.sm_account.specs.Connections.{Connection, Session, CarriesFrom, connections, start, step_if, step, run}
use Rattle.sm_account.proofs.Places.{named_within}
use Rattle.sm_account.proofs.Lists.{further, itself, next_after}
use Rattle.sm_account.proofs.Steps.{pulled_by, pushed_if, resumed_by, with_core}
use Rattle.sm_account.proofs.Whole.{extends}
use Rattle.sm_account.proofs.Grows.{run_append, run_grows, start_in_order}

-- what is carried is the queue from this place up to what was sent
record Runs (place : ℕ) (queued : List Entry) (sent : ℕ) (carried : List Entry) : Type 0 where
  pub before : List Entry
  pub rest : List Entry
  pub whole : queued ≡ before ++ (carried ++ rest)
  pub place_is : place ≡ length before
  pub sent_is : sent ≡ place + length carried

begins : (place : ℕ) (queued : List Entry) → place ≤ length queued → Runs place queued place []
begins place queued low = record {
  before = take place queued;
  rest = drop place queued;
  whole = sym (take-append-drop place queued);
  place_is = grind (arith, common_steps);
  sent_is = omega arith;
}

module _ {place : ℕ} {queued : List Entry} {sent : ℕ} {carried : List Entry} (r : Runs place queued sent carried) where
  queue_more : (e : Entry) → Runs place (queued ++ e ∷ []) sent carried
  queue_more e = record {
    before = r.before;
    rest = r.rest ++ e ∷ [];
    whole = rw r.whole (simp append_assoc);
    place_is = r.place_is;
    sent_is = r.sent_is;
  }

  carry_first : (e : Entry) (es : List Entry) → r.rest ≡ e ∷ es → Runs place queued (sent + 1) (carried ++ e ∷ [])
  carry_first e es first = record {
    before = r.before;
    rest = es;
    whole = r.whole ∙ rw first (simp append_assoc);
    place_is = r.place_is;
    sent_is = simp length-append (omega (arith, r.sent_is));
  }

  carry_more : (e : Entry) → slice_get queued sent ≡ Some e → Runs place queued (sent + 1) (carried ++ e ∷ [])
  carry_more e is =
      let front : List Entry = r.before ++ carried in
      let long : sent ≡ length front = simp length-append (omega (arith, r.sent_is, r.place_is)) in
      let split : queued ≡ front ++ r.rest = r.whole ∙ simp append_assoc in
      let tail = next_after queued front r.rest sent e split long is in
      carry_first e tail.0 tail.1

  is_run : IsPrefixOf carried (drop place queued)
  is_run = (r.rest, sym (rw (r.whole, r.place_is) (drop-append_seam r.before _)))

  still_run : (more : List Entry) → IsPrefixOf queued more → IsPrefixOf carried (drop place more)
  still_run more (q, e) =
      let split : more ≡ r.before ++ (carried ++ (r.rest ++ q)) =
      sym e ∙ (ap (λ (l : List Entry). l ++ q) r.whole ∙ simp append_assoc) in
      (r.rest ++ q, sym (rw (split, r.place_is) (drop-append_seam r.before _)))

module _ {S : Type 0} (place number : ℕ) (before : List (Connection S)) where
  -- the connection still holds the session, or held it last
  abbrev IsOn : Session S → Type 0
  IsOn s =
      (s.core.counts ≡ true)
      × (s.trace.earlier ≡ before)
      × (s.trace.present.number ≡ number)
      × Runs place s.core.queued s.core.sent s.trace.present.carried

  -- another one was opened
  abbrev IsLeft : Session S → Session S → Type 0
  IsLeft s t = (t.trace.earlier ≡ s.trace.present ∷ s.trace.earlier) × IsPrefixOf s.core.queued t.core.queued

  abbrev Next : Session S → Session S → Type 0
  Next s t = IsOn t ⊎ IsLeft s t

  pushed : (s : Session S) (e : Entry) (b : Bool) → IsOn s
      → Next s (with_core s (pushed_if s.core e b))
  pushed s e true (counts, same, is, r) = inl (counts, same, is, queue_more r e)
  pushed s e false on = inl on

  pulled : (s : Session S) (o : Option Entry) → one.next_entry s.core ≡ o → IsOn s
      → Next s (pulled_by s o)
  pulled s None at on = inl on
  pulled s (Some e) at (counts, same, is, r) = inl (counts, same, is, carry_more r e at)

  acknowledged : (s : Session S) (o : Option ℕ) → IsOn s
      → Next s (with_core s (one.acknowledged s.core o))
  acknowledged s None on = inl on
  acknowledged s (Some n) on = inl on

  resumed : (s : Session S) (c : ℕ) (o : Option ℕ) → IsOn s
      → Next s (resumed_by s c o)
  resumed s c None on = inl on
  resumed s c (Some n) on = inr (refl, itself s.core.queued)

  next_if : (m : Hold) (s : Session S) (op : Op S) → IsOn s → Next s (step_if true m s op)
  next_if (Held d) s (one.Push e) on = pushed s e (has_room (one.waiting s.core) e) on
  next_if Away s (one.Push e) on = pushed s e (has_room (one.waiting s.core) e) on
  next_if (Held d) s one.Pull on = pulled s (one.next_entry s.core) refl on
  next_if (Held d) s one.Request on = inl on
  next_if (Held d) s (one.Ack h) on = acknowledged s (one.named s.core h) on
  next_if (Held d) s one.Ask on = inl on
  next_if (Held d) s (one.Act x) on = inl on
  next_if (Held d) s (one.Short x) on = inl on
  next_if (Held d) s one.Drop on = inl on
  next_if (Held d) s (one.Resume c h) on = resumed s c (one.named s.core h) on
  next_if Away s (one.Resume c h) on = resumed s c (one.named s.core h) on
  next_if (Held d) s one.End on = inl on
  next_if Away s one.End on = inl on
  next_if m s op on = inl on

  next_is : (b : Bool) (s : Session S) (op : Op S) → s.core.counts ≡ b → IsOn s → Next s (step_if b s.core.hold s op)
  next_is true s op is on = next_if s.core.hold s op on
  next_is false s op is on = let bad : true ≡ false = sym on.0 ∙ is in cc

  left : (s t : Session S) (more : List (Op S)) → IsOn s → IsLeft s t → CarriesFrom place number before (run t more)
  left s t more (counts, same, is, r) (earlier, grows) =
      let x = extends t more in
      record {
        newer = x.newer ++ x.same ∷ [];
        one = s.trace.present;
        all =
            x.all
            ∙ (ap (λ (cs : List (Connection S)). x.newer ++ (x.same ∷ cs))
            (earlier ∙ ap (λ (cs : List (Connection S)). s.trace.present ∷ cs) same)
            ∙ sym (append_assoc x.newer (x.same ∷ []) (s.trace.present ∷ before)));
        is_it = is;
        carries = still_run r _ (further _ _ _ grows (run_grows t more));
      }

  carried : (s : Session S) (more : List (Op S)) → IsOn s → CarriesFrom place number before (run s more)
  carried s [] (counts, same, is, r) = record {
    newer = [];
    one = s.trace.present;
    all = ap (λ (cs : List (Connection S)). s.trace.present ∷ cs) same;
    is_it = is;
    carries = is_run r;
  }
  carried s (op ∷ more) on = elim (next_is s.core.counts s op refl on) [
    | inl still ↦ carried (step s op) more still
    | inr gone ↦ left s (step s op) more on gone
  ]

-- a resumption that goes on
pub resumes : {S : Type 0} (b : Bool) (m : Hold) (s : Session S) (c h n : ℕ) → b ≡ true → (m ≡ Ended → ⊥)
    → one.named s.core h ≡ Some n
    → step_if b m s (one.Resume c h) ≡ resumed_by s c (Some n)
resumes true (Held d) s c h n b live is = rw is refl
resumes true Away s c h n b live is = rw is refl
resumes true Ended s c h n b live is = absurd (live refl)
resumes false m s c h n b live is = absurd (cc)

pub carries_from : {S : Type 0} (ops more : List (Op S)) (c h n : ℕ) → (run start ops).core.counts ≡ true
    → ((run start ops).core.hold ≡ Ended → ⊥)
    → one.named (run start ops).core h ≡ Some n
    → CarriesFrom ((run start ops).core.base_out + n) c (connections (run start ops).trace)
    (run start (ops ++ one.Resume c h ∷ more))
carries_from {S = S} ops more c h n counts live is =
    let s : Session S = run start ops in
    let o = start_in_order ops in
    let at = named_within s.core.kept s.core.sent s.core.base_out h n o.queue.began is in
    let low : s.core.base_out + n ≤ length s.core.queued =
    omega (arith, at.1, o.queue.began, o.queue.in_order, o.queue.within) in
    let after =
    carried (s.core.base_out + n) c (connections s.trace) (resumed_by s c (Some n)) more
    (counts, refl, refl, begins (s.core.base_out + n) s.core.queued low) in
    subst (CarriesFrom (s.core.base_out + n) c (connections s.trace))
    (sym (run_append start ops (one.Resume c h ∷ more)
    ∙ ap (λ (t : Session S). run t more) (resumes s.core.counts s.core.hold s c h n counts live is)))
    after
