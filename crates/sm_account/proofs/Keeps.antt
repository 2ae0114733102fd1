-- What holds of a session and an account after each operation.
use Rattle.std.proofs.Common.{◌≡◌, ◌⊎◌, inl, inr, ℕ, ◌+◌, ◌≤◌, List, [], ◌∷◌, length, Option, Some, None, Bool, true, false, refl, sym, ◌∙◌, subst, arith}
use Rattle.stanza_tree.specs.declared.frame.Entry.{Entry}
use Rattle.sm_counters.specs.Numbers.{count_of}
use Rattle.sm_queue.specs.Queues.{has_room}
use Rattle.sm_account.specs.Sessions as one
use Rattle.sm_account.specs.Sessions.{Hold, Held, Away, Core, Op}
use Rattle.sm_account.specs.Connections.{Connection, Session, start, step_if, step, run}
use Rattle.sm_account.specs.Accounts.{Account, Acks, total, present_place, total_handled}
use Rattle.sm_account.specs.Places.{IsInOrder}
use Rattle.sm_account.proofs.Steps.{pulled_by, pushed_if, resumed_by, with_core}
use Rattle.sm_account.proofs.Places.{names_it, step_in_order}
use Rattle.sm_account.proofs.Follows.{IsWithin, GoesOnIf, Meets, Follows}
use Rattle.sm_account.proofs.Outward as out
use Rattle.sm_account.proofs.Outward.{Outward}
use Rattle.sm_account.proofs.Inward as inn
use Rattle.sm_account.proofs.Inward.{Inward}

-- a session that never counted
pub record NeverCounted {S : Type 0} (kept sent : ℕ) (present : Connection S) (earlier : List (Connection S))
    (told : List ℕ) (said : ℕ) : Type 0 where
  pub carried : present.carried ≡ []
  pub arrived : present.arrived ≡ []
  pub whole : present.short ≡ false
  pub alone : earlier ≡ []
  pub untold : told ≡ []
  pub level : kept ≡ sent
  pub silent : said ≡ 0

abbrev pub Uncounted : {S : Type 0} → Session S → ℕ → Type 0
Uncounted s said =
    (s.core.counts ≡ false) × NeverCounted s.core.kept s.core.sent s.trace.present s.trace.earlier s.trace.told said

-- a session that counts
abbrev pub Counted : {S : Type 0} → Account S → Session S → ℕ → Type 0
Counted a s said =
    (s.core.counts ≡ true)
    × Outward a.handles s.core.queued s.core.kept s.core.sent s.core.base_out
    s.trace.present.carried s.trace.earlier said
    × Inward a.stanzas a.begins s.core.acts s.core.base_in (present_place s)
    s.trace.present.arrived s.trace.present.short s.trace.told

abbrev pub Keeps : {S : Type 0} → Account S → Session S → ℕ → Type 0
Keeps a s said = Uncounted s said ⊎ Counted a s said

-- the number that a count names, where the client may say it
pub names : {S : Type 0} (a : Account S) (s : Session S) (said v h : ℕ) → IsInOrder s.core → Counted a s said → said ≤ v
    → v ≤ total a.handles s.trace.earlier + length s.trace.present.carried → count_of v ≡ h
    → one.named s.core h ≡ Some v
names a s said v h o (counts, out, inn) rising low count =
    names_it s.core.queued s.core.kept s.core.sent s.core.asked_at s.core.base_out v h o.queue
    (omega (arith, out.kept_is, out.base_is)) (omega (arith, out.sent_is, out.base_is)) count

module _ {S : Type 0} (a : Account S) (s : Session S) (said : ℕ) where
  uncounted_pushed : (e : Entry) (b : Bool) → Uncounted s said
      → Keeps a (with_core s (pushed_if s.core e b)) said
  uncounted_pushed e true f = inl f
  uncounted_pushed e false f = inl f

  uncounted_pulled : (o : Option Entry) → Uncounted s said → Keeps a (with_core s (one.pulled_uncounted s.core o)) said
  uncounted_pulled None f = inl f
  uncounted_pulled (Some e) (counts, f) = inl (
    counts,
    record {
      carried = f.carried;
      arrived = f.arrived;
      whole = f.whole;
      alone = f.alone;
      untold = f.untold;
      level = refl;
      silent = f.silent;
    },
  )

  uncounted_enabled : a.begins 0 ≡ 0 → IsInOrder s.core → Uncounted s said → Keeps a (with_core s (one.enabled s.core)) said
  uncounted_enabled first o (counts, f) = inr (
    refl,
    rw (f.carried, f.alone, f.silent) (out.starts a.handles s.core.queued s.core.sent o.queue.within),
    rw (f.arrived, f.whole, f.alone, f.untold) (inn.starts a.stanzas a.begins s.core.acts first),
  )

  uncounted_begun : (c : ℕ) → Uncounted s said → Keeps a (step_if false Away s (one.Begin c)) said
  uncounted_begun c (counts, f) = inl (
    counts,
    record {
      carried = f.carried;
      arrived = f.arrived;
      whole = f.whole;
      alone = f.alone;
      untold = f.untold;
      level = f.level;
      silent = f.silent;
    },
  )

  uncounted_keeps : (m : Hold) (op : Op S) → a.begins 0 ≡ 0 → IsInOrder s.core → Uncounted s said
      → Keeps a (step_if false m s op) said
  uncounted_keeps Away (one.Begin c) first o f = uncounted_begun c f
  uncounted_keeps (Held d) (one.Push e) first o f = uncounted_pushed e (has_room (one.waiting s.core) e) f
  uncounted_keeps (Held d) one.Pull first o f = uncounted_pulled (one.next_entry s.core) f
  uncounted_keeps (Held d) one.Enable first o f = uncounted_enabled first o f
  uncounted_keeps (Held d) (one.Act x) first o f = inl f
  uncounted_keeps (Held d) one.Drop first o f = inl f
  uncounted_keeps (Held d) one.End first o f = inl f
  uncounted_keeps m op first o f = inl f

  counted_pushed : (e : Entry) (b : Bool) → Counted a s said
      → Counted a (with_core s (pushed_if s.core e b)) said
  counted_pushed e true (counts, o, i) = (counts, out.pushes o e, i)
  counted_pushed e false k = k

  counted_pulled : (o : Option Entry) → one.next_entry s.core ≡ o → Counted a s said
      → Counted a (pulled_by s o) said
  counted_pulled None is k = k
  counted_pulled (Some e) is (counts, o, i) = (counts, out.pulls o e is, i)

  counted_acknowledged : (h v : ℕ) → IsInOrder s.core → Counted a s said → Acks a s said h v
      → Counted a (with_core s (one.acknowledged s.core (one.named s.core h))) v
  counted_acknowledged h v in_order (counts, o, i) says =
      let is : one.named s.core h ≡ Some v =
      names a s said v h in_order (counts, o, i) says.rising says.carried says.count in
      rw is (counts, out.says o v says.carried says.handled, i)

  counted_resumed : (c h v : ℕ) (o : Option ℕ) → one.named s.core h ≡ o → IsInOrder s.core → Counted a s said
      → GoesOnIf a s said h v o
      → Counted a (resumed_by s c o) v
  counted_resumed c h v None is in_order k e = rw e k
  counted_resumed c h v (Some n) is in_order (counts, o, i) (within, r, e) =
      let says : one.named s.core h ≡ Some (total_handled a s) =
      names a s said (total_handled a s) h in_order (counts, o, i) o.said_handled (omega (arith, within)) r.count in
      let same : n ≡ total_handled a s = cc in
      rw (same, e) (
        counts,
        out.opens s.trace.present o within,
        subst (λ (j : ℕ). Inward a.stanzas a.begins s.core.acts s.core.base_in j [] false s.trace.told) (omega arith)
            (inn.opens i (a.lowest (present_place s)) (a.highest (present_place s)) r.known r.near r.sent.0 r.begins),
      )

  counted_keeps : (m : Hold) (op : Op S) (v : ℕ) → IsInOrder s.core → Counted a s said → Meets true m a s said op v
      → Counted a (step_if true m s op) v
  counted_keeps (Held d) (one.Push x) v in_order k e = rw e (counted_pushed x (has_room (one.waiting s.core) x) k)
  counted_keeps Away (one.Push x) v in_order k e = rw e (counted_pushed x (has_room (one.waiting s.core) x) k)
  counted_keeps (Held d) one.Pull v in_order k e = rw e (counted_pulled (one.next_entry s.core) refl k)
  counted_keeps (Held d) one.Request v in_order k e = rw e k
  counted_keeps (Held d) (one.Ack h) v in_order k says = counted_acknowledged h v in_order k says
  counted_keeps (Held d) one.Ask v in_order (counts, o, i) e = rw (e, counts) (refl, o, inn.tells i)
  counted_keeps (Held d) (one.Act x) v in_order (counts, o, i) (e, n) = rw e (counts, o, inn.acts_on i x n.next n.whole)
  counted_keeps (Held d) (one.Short x) v in_order (counts, o, i) (e, n) = rw e (counts, o, inn.refuses i x n.whole)
  counted_keeps (Held d) one.Drop v in_order k e = rw e k
  counted_keeps (Held d) (one.Resume c h) v in_order k r = counted_resumed c h v (one.named s.core h) refl in_order k r
  counted_keeps Away (one.Resume c h) v in_order k r = counted_resumed c h v (one.named s.core h) refl in_order k r
  counted_keeps (Held d) one.End v in_order k e = rw e k
  counted_keeps Away one.End v in_order k e = rw e k
  counted_keeps m op v in_order k e = rw e k

  uncounted_same : (m : Hold) (op : Op S) (v : ℕ) → Meets false m a s said op v → v ≡ said
  uncounted_same m op v e = e

  keeps_if : (b : Bool) (op : Op S) (v : ℕ) → a.begins 0 ≡ 0 → s.core.counts ≡ b → IsInOrder s.core → Keeps a s said
      → Meets b s.core.hold a s said op v → Keeps a (step_if b s.core.hold s op) v
  keeps_if false op v first is in_order (inl f) e =
      rw (uncounted_same s.core.hold op v e) (uncounted_keeps s.core.hold op first in_order f)
  keeps_if false op v first is in_order (inr k) e = let bad : true ≡ false = sym k.0 ∙ is in cc
  keeps_if true op v first is in_order (inl f) e = let bad : true ≡ false = sym is ∙ f.0 in cc
  keeps_if true op v first is in_order (inr k) e = inr (counted_keeps s.core.hold op v in_order k e)

-- what holds at the end
pub record AtEnd {S : Type 0} (a : Account S) (s : Session S) : Type 0 where
  pub said : ℕ
  pub in_order : IsInOrder s.core
  pub keeps : Keeps a s said
  pub within : IsWithin a s

pub runs : {S : Type 0} (a : Account S) (s : Session S) (said : ℕ) (ops : List (Op S)) → a.begins 0 ≡ 0
    → IsInOrder s.core → Keeps a s said
    → Follows a s said ops → AtEnd a (run s ops)
runs a s said [] first o k within = record { said = said; in_order = o; keeps = k; within = within }
runs a s said (op ∷ ops) first o k (v, meets, rest) =
    runs a (step s op) v ops first (step_in_order op s.core o)
    (keeps_if a s said s.core.counts op v first refl o k meets) rest

pub starts : {S : Type 0} (a : Account S) → Keeps a start 0
starts a =
    inl (
      refl,
      record {
        carried = refl;
        arrived = refl;
        whole = refl;
        alone = refl;
        untold = refl;
        level = refl;
        silent = refl;
      },
    )
