-- Stanzas are given to a session's client, and acknowledged.
use Rattle.std.proofs.Common.{◌≡◌, ℕ, zero, suc, ◌+◌, ◌-◌, ◌<◌, ◌≤◌, List, [], ◌∷◌, Bool, true, false, length}
use Rattle.std.proofs.Common.{drop, Option, Some, None, refl, sym, ap, subst, ◌∙◌, arith}
use Rattle.std.specs.Prelude.{slice_get}
use Rattle.std.specs.Option.{option_map}
use Rattle.std.proofs.lemmas.Option.{same_Some}
use Rattle.stanza_tree.specs.declared.frame.Entry.{Entry}
use Rattle.sm_queue.specs.Queues as queues
use Rattle.sm_queue.specs.Queues.{acknowledged}
use Rattle.session_table.specs.declared.life.Life.TheVariants.{Live}
use Rattle.session_table.specs.Sessions.{SessionRecord, own_of, with_own}
use Rattle.session_table.specs.Tables.{conn_of, line_of, session_of, with_session}
use Rattle.sm_resume.specs.declared.decision.Cause.{Cause}
use Rattle.house_model.specs.declared.reply.Reply.TheVariants as reply
use Rattle.house_model.specs.Numbered.{put}
use Rattle.house_model.specs.Steps.{ack_reply, acks}
use Rattle.house_model.specs.Sessions.{Hold, Held, Op, Ack, End, Pull, Rest, Session, session, acked, step_if, session_step}
use Rattle.house_model.specs.Traffic.{KeptTraffic, brief, without, kept_ack, kept_handled, kept_give, kept_give_up}
use Rattle.house_model.specs.Effects.{On, settled}
use Rattle.house_world.specs.declared.world.World as code
use Rattle.house_world.specs.Views.{traffic_of, rest_of, session_by}
use Rattle.house_world.specs.Wholes.{IsSession, IsHeldBy, IsTied}
use Rattle.house_world.specs.Worlds.{Did, Ends, IsHeld, given_next, seen}
use Rattle.house_world.proofs.OffLemmas.{there}
use Rattle.house_world.proofs.ReadLemmas.{held_is, seen_with}
use Rattle.house_world.proofs.DeedLemmas.{held_at, all_drop}
use Rattle.house_world.proofs.WorldLemmas.{held_did}

le_drop : {A : Type 0} (n g : ℕ) (xs : List A) → g ≤ length xs → g - n ≤ length (drop n xs)
le_drop zero g xs low = omega (arith, low)
le_drop (suc n) g [] low = omega (arith, low)
le_drop (suc n) g (x ∷ xs) low = (let rest = le_drop n (g - 1) xs (omega (arith, low)) in omega (arith, rest))

some_at : {A : Type 0} (xs : List A) (i : ℕ) → i < length xs → (e : A) × (slice_get xs i ≡ Some e)
some_at [] i low = absurd (omega (arith, low))
some_at (x ∷ xs) zero low = (x, refl)
some_at (x ∷ xs) (suc i) low = some_at xs i (omega (arith, low))

ack_kept : (k : KeptTraffic) (n : ℕ) (o : Option ℕ) → option_map (λ m. m - k.count) o ≡ Some n → kept_ack k o ≡ Some (without n k)
ack_kept k n None is = absurd (let z : ◌≡◌ {A = Option ℕ} None (Some n) = is in cc)
ack_kept k n (Some m) is = ap (λ j. Some (without j k)) (same_Some (m - k.count) n is)

module _ (a : code.World) (s : ℕ) (x : SessionRecord) (tied : IsTied a.table) (held : IsHeld s a.table) (at : session_of s a.table ≡ Some x) where
  abbrev ready : IsSession x
  ready = tied.each s x at

  abbrev by : (w : ℕ) × (x.state ≡ Live) × (x.holder ≡ Some w)
  by = held_at s a.table x held at

  abbrev hold : Hold
  hold = Held by.0 (conn_of (line_of by.0 a.table))

  abbrev k : KeptTraffic
  k = traffic_of x

  abbrev r : Rest
  r = rest_of x

  abbrev done : ℕ → SessionRecord
  done n = record x { queue = queues.without n x.queue; given_up = x.given_up + n }

  pub ack_did : (y : SessionRecord) (h n : ℕ) → x.counts ≡ true → acknowledged h x.queue ≡ Some n → n ≤ x.queue.given → y ≡ done n
      → Did (On s (Ack h) ∷ []) 0 a (record a { table = with_session s a.table y })
  ack_did y h n counts handled low is =
      subst (λ (z : SessionRecord). Did (On s (Ack h) ∷ []) 0 a (record a { table = with_session s a.table z })) (sym is)
      (held_did a s by.0 x (done n) (Ack h) at by.1 by.2 refl refl
      (ap (λ (b : Bool). session b hold (traffic_of (done n)) r) counts
      ∙ (ap (λ (o : Option KeptTraffic). acked brief o hold k r h) (sym (ack_kept k n (kept_handled k h) handled))
      ∙ sym (ap (λ (b : Bool). step_if brief b hold k r (Ack h)) counts))) 0 tied
      (record {
        given = le_drop n x.queue.given x.queue.waiting ready.given;
        asked = (let old = ready.asked in omega (arith, old));
        base_in = ready.base_in;
        short = all_drop _ n x.queue.waiting ready.short;
        away = ready.away;
        known = ready.known;
        shown = ready.shown;
        pushes = ready.pushes;
        address = ready.address;
      })
      (λ turns few. (let sent = few.sent s x at in let acted = few.acted s x at in (omega (arith, sent, low), omega (arith, acted)))))

  mark_by : (b : Bool) (more : x.queue.given < length x.queue.waiting) → x.counts ≡ b
      → Did (On s Pull ∷ []) 1 a (record a { table = with_session s a.table (with_own (given_next b (own_of x)) x) })
  mark_by true more counts =
      let next = some_at x.queue.waiting x.queue.given more in
      held_did a s by.0 x (with_own (given_next true (own_of x)) x) Pull at by.1 by.2 refl refl
      (ap (λ (b : Bool). session b hold (traffic_of (with_own (given_next true (own_of x)) x)) r) counts
      ∙ (ap (λ (o : Option Entry). session true hold (kept_give k o) r) (sym next.1)
      ∙ sym (ap (λ (b : Bool). step_if brief b hold k r Pull) counts))) 1 tied
      (record {
        given = omega (arith, more);
        asked = (let old = ready.asked in omega (arith, old));
        base_in = ready.base_in;
        short = ready.short;
        away = ready.away;
        known = ready.known;
        shown = ready.shown;
        pushes = ready.pushes;
        address = ready.address;
      })
      (λ turns few. (let sent = few.sent s x at in let acted = few.acted s x at in (omega (arith, sent), omega (arith, acted))))
  mark_by false more counts =
      let next = some_at x.queue.waiting x.queue.given more in
      held_did a s by.0 x (with_own (given_next false (own_of x)) x) Pull at by.1 by.2 refl refl
      (ap (λ (b : Bool). session b hold (traffic_of (with_own (given_next false (own_of x)) x)) r) counts
      ∙ (ap (λ (o : Option Entry). session false hold (kept_give_up k o) r) (sym next.1)
      ∙ sym (ap (λ (b : Bool). step_if brief b hold k r Pull) counts))) 1 tied
      (record {
        given = omega arith;
        asked = (let old = ready.asked in omega (arith, old));
        base_in = ready.base_in;
        short = all_drop _ (x.queue.given + 1) x.queue.waiting ready.short;
        away = ready.away;
        known = ready.known;
        shown = ready.shown;
        pushes = ready.pushes;
        address = ready.address;
      })
      (λ turns few. (let sent = few.sent s x at in let acted = few.acted s x at in (omega (arith, sent), omega (arith, acted))))

  pub mark_did : (y : SessionRecord) → x.queue.given < length x.queue.waiting → y ≡ with_own (given_next x.counts (own_of x)) x
      → Did (On s Pull ∷ []) 1 a (record a { table = with_session s a.table y })
  mark_did y more is =
      subst (λ (z : SessionRecord). Did (On s Pull ∷ []) 1 a (record a { table = with_session s a.table z })) (sym is)
      (mark_by x.counts more refl)

-- a count that is too high ends the session
none_kept : (f : ℕ → ℕ) (o : Option ℕ) → option_map f o ≡ None → o ≡ None
none_kept f None is = refl
none_kept f (Some m) is = absurd (let z : Some (f m) ≡ None = is in cc)

pub did_same : (a b : code.World) (s n : ℕ) (op op' : Op) → session_step brief ((seen a).sessions s) op ≡ session_step brief ((seen a).sessions s) op'
    → Did (On s op ∷ []) n a b → Did (On s op' ∷ []) n a b
did_same a b s n op op' same did = record {
  world =
      did.world
      ∙ ap (λ (y : Session KeptTraffic). record (seen a) {
        lines = settled s ((seen a).sessions s).hold y.hold (seen a).lines;
        sessions = put s y (seen a).sessions;
      }) same;
  tied = did.tied;
  known = did.known;
  few = did.few;
  lines = did.lines;
  answered = did.answered;
  kept = did.kept;
}

module _ (a : code.World) (w s h : ℕ) (tied : IsTied a.table) (held : IsHeldBy w s a.table) where
  abbrev who : (x : SessionRecord) × (session_of s a.table ≡ Some x) × ((x.state ≡ Live) × (x.holder ≡ Some w))
  who = there (λ (x : SessionRecord). (x.state ≡ Live) × (x.holder ≡ Some w)) (session_of s a.table) held

  abbrev z : SessionRecord
  z = who.0

  abbrev m : Hold
  m = Held w (conn_of (line_of w a.table))

  abbrev mine : Session KeptTraffic
  mine = (seen a).sessions s

  is_mine : mine ≡ session z.counts m (traffic_of z) (rest_of z)
  is_mine = ap (session_by a.table.lines) who.1 ∙ seen_with z a.table.lines m (held_is z.state z.holder a.table.lines w who.2.0 who.2.1)

  none_here : ((x : SessionRecord) → session_of s a.table ≡ Some x → None ≡ acknowledged h x.queue) → brief.ack mine.traffic h ≡ None
  none_here none =
      ap (λ (y : Session KeptTraffic). brief.ack y.traffic h) is_mine
      ∙ ap (λ (o : Option ℕ). kept_ack (traffic_of z) o) (none_kept (λ j. j - z.queue.kept) (kept_handled (traffic_of z) h) (sym (none z who.1)))

  pub refused_ends : (b : code.World) (cause : Cause) → mine.counts ≡ true
      → ((x : SessionRecord) → session_of s a.table ≡ Some x → None ≡ acknowledged h x.queue)
      → cause ≡ brief.too_high mine.traffic h → Did (On s (End cause) ∷ []) 0 a b
      → Ends (acks mine.counts s h mine.traffic) 0 (reply.Over cause) a b
  refused_ends b cause counts none is did =
      let c' : z.counts ≡ true = sym (ap (λ (y : Session KeptTraffic). y.counts) is_mine) ∙ counts in
      let full : mine ≡ session true m (traffic_of z) (rest_of z) = is_mine ∙ ap (λ (t : Bool). session t m (traffic_of z) (rest_of z)) c' in
      let low : kept_ack (traffic_of z) (kept_handled (traffic_of z) h) ≡ None = sym (ap (λ (y : Session KeptTraffic). brief.ack y.traffic h) full)
      ∙ none_here none in
      let why : cause ≡ brief.too_high (traffic_of z) h = is ∙ ap (λ (y : Session KeptTraffic). brief.too_high y.traffic h) full in
      let same : session_step brief mine (End cause) ≡ session_step brief mine (Ack h) =
      (λ i. session_step brief (full i) (End (why i)))
      ∙ (ap (λ (o : Option KeptTraffic). acked brief o m (traffic_of z) (rest_of z) h) (sym low)
      ∙ sym (ap (λ (y : Session KeptTraffic). session_step brief y (Ack h)) full)) in
      subst (λ (t : Bool). Ends (acks t s h mine.traffic) 0 (reply.Over cause) a b) (sym counts)
      (record {
        answer = (λ i. ack_reply (sym (none_here none) i) (is i));
        did = did_same a b s 0 (End cause) (Ack h) same did;
      })

  some_here : (n : ℕ) → ((x : SessionRecord) → session_of s a.table ≡ Some x → Some n ≡ acknowledged h x.queue)
      → brief.ack mine.traffic h ≡ Some (without n (traffic_of z))
  some_here n some =
      ap (λ (y : Session KeptTraffic). brief.ack y.traffic h) is_mine
      ∙ ack_kept (traffic_of z) n (kept_handled (traffic_of z) h) (sym (some z who.1))

  pub taken_ends : (b : code.World) (n : ℕ) → mine.counts ≡ true
      → ((x : SessionRecord) → session_of s a.table ≡ Some x → Some n ≡ acknowledged h x.queue)
      → Did (On s (Ack h) ∷ []) 0 a b
      → Ends (acks mine.counts s h mine.traffic) 0 reply.Done a b
  taken_ends b n counts some did =
      subst (λ (t : Bool). Ends (acks t s h mine.traffic) 0 reply.Done a b) (sym counts)
      (record {
        answer = sym (ap (λ (o : Option KeptTraffic). ack_reply o (brief.too_high mine.traffic h)) (some_here n some));
        did = did;
      })
