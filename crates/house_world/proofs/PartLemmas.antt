-- Sessions that are pushed to, and end.
use Rattle.std.proofs.Common.{◌≡◌, ℕ, ◌+◌, ◌≤◌, Bool, true, false, List, [], ◌∷◌, ◌++◌, length, Option, Some, None, refl, sym, ap, subst, ◌∙◌, arith}
use Rattle.std.specs.List.{AllByRecursion}
use Rattle.std.proofs.lemmas.List.{length-append}
use Rattle.stanza_tree.specs.declared.frame.Entry.{Entry}
use Rattle.stanza_tree.specs.Entries.{frame}
use Rattle.sm_resume.specs.declared.decision.Cause.{Cause}
use Rattle.sm_queue.specs.Queues as queues
use Rattle.sm_queue.specs.Queues.{has_room}
use Rattle.session_table.specs.declared.life.Life.{Life}
use Rattle.session_table.specs.declared.life.Life.TheVariants.{Live, Over}
use Rattle.session_table.specs.declared.line.Line as stage
use Rattle.session_table.specs.Sessions.{SessionRecord, ended}
use Rattle.session_table.specs.Tables.{TableRecord, changed, conn_of, line_of, session_of, with_session}
use Rattle.archive_table.specs.Tables.{archives_of}
use Rattle.house_model.specs.Numbered.{put}
use Rattle.house_model.specs.Sessions.{Hold, Held, Away, Ended, Op, Push, End, Rest, Session, session, gone, over, pushed, step_if, session_step}
use Rattle.house_model.specs.Traffic.{KeptTraffic, brief, nothing_kept, kept_queue}
use Rattle.house_model.specs.States.{Line}
use Rattle.house_model.specs.Effects.{On, settled}
use Rattle.house_world.specs.declared.world.World as code
use Rattle.house_world.specs.Views.{hold_by, traffic_of, rest_of, session_by, sessions_of, lines_of}
use Rattle.house_world.specs.Wholes.{IsSession, IsTied, IsFew}
use Rattle.house_world.specs.Worlds.{Did, seen}
use Rattle.house_world.proofs.ReadLemmas.{away_is, held_is, seen_with, sessions_put}
use Rattle.house_world.proofs.TiedLemmas.{few_changed, few_with, tied_with}
use Rattle.house_world.proofs.LeavingLemmas.{tied_away}
use Rattle.house_world.proofs.EndLemmas.{ended_ready}
use Rattle.house_world.proofs.WorldLemmas.{moved_same}
use Rattle.house_world.proofs.DidLemmas.{did_none, put_same}
use Rattle.house_world.proofs.BookLemmas.{book_same}

-- an operation that changes nothing
pub same_did : (a : code.World) (s : ℕ) (x : SessionRecord) (m : Hold) (op : Op) → IsTied a.table → session_of s a.table ≡ Some x
    → hold_by x.state x.holder a.table.lines ≡ m → ((ls : ℕ → Line) → settled s m m ls ≡ ls)
    → step_if brief x.counts m (traffic_of x) (rest_of x) op ≡ session x.counts m (traffic_of x) (rest_of x)
    → Did (On s op ∷ []) 0 a a
same_did a s x m op tied at hold stays is =
    let t = a.table in
    let ls = lines_of t a.answers.items in
    let y = session x.counts m (traffic_of x) (rest_of x) in
    let before : sessions_of t s ≡ y = ap (session_by t.lines) at ∙ seen_with x t.lines m hold in
    let step : session_step brief (sessions_of t s) op ≡ y = ap (λ (o : Session KeptTraffic). session_step brief o op) before ∙ is in
    let none = did_none a tied in
    record {
      world = λ i. record {
        opened = t.opened;
        book = a.book.book;
        rooms = a.rooms;
        archives = archives_of a.archives;
        lines = sym ((λ j. settled s (before j).hold (step j).hold ls) ∙ stays ls) i;
        made = t.made;
        sessions = sym (put_same s (session_step brief (sessions_of t s) op) (sessions_of t) (step ∙ sym before)) i;
      };
      tied = tied;
      known = none.known;
      few = none.few;
      lines = refl;
      answered = refl;
      kept = book_same;
    }

-- a session that is not there
pub gone_same : (a : code.World) (s : ℕ) (op : Op) → IsTied a.table → session_of s a.table ≡ None
    → session_step brief (gone nothing_kept) op ≡ gone nothing_kept → Did (On s op ∷ []) 0 a a
gone_same a s op tied none is =
    let t = a.table in
    let ls = lines_of t a.answers.items in
    let before : sessions_of t s ≡ gone nothing_kept = ap (session_by t.lines) none in
    let step : session_step brief (sessions_of t s) op ≡ gone nothing_kept = ap (λ (o : Session KeptTraffic). session_step brief o op) before ∙ is in
    let same = did_none a tied in
    record {
      world = λ i. record {
        opened = t.opened;
        book = a.book.book;
        rooms = a.rooms;
        archives = archives_of a.archives;
        lines = sym (λ j. settled s (before j).hold (step j).hold ls) i;
        made = t.made;
        sessions = sym (put_same s (session_step brief (sessions_of t s) op) (sessions_of t) (step ∙ sym before)) i;
      };
      tied = tied;
      known = same.known;
      few = same.few;
      lines = refl;
      answered = refl;
      kept = book_same;
    }

pub gone_did : (a : code.World) (s : ℕ) (entry : Entry) → IsTied a.table → session_of s a.table ≡ None → Did (On s (Push entry) ∷ []) 0 a a
gone_did a s entry tied none = gone_same a s (Push entry) tied none refl

-- a session that goes on where it was, at a line or away
module _ (a : code.World) (s : ℕ) (x y : SessionRecord) (m : Hold) (op : Op) (at : session_of s a.table ≡ Some x)
    (hold : hold_by x.state x.holder a.table.lines ≡ m) (state' : y.state ≡ x.state) (holder' : y.holder ≡ x.holder)
    (stays : (ls : ℕ → Line) → settled s m m ls ≡ ls)
    (is : session y.counts m (traffic_of y) (rest_of y) ≡ step_if brief x.counts m (traffic_of x) (rest_of x) op) where
  abbrev t : TableRecord
  t = a.table

  abbrev ls : ℕ → Line
  ls = lines_of a.table a.answers.items

  live_before : sessions_of t s ≡ session x.counts m (traffic_of x) (rest_of x)
  live_before = ap (session_by t.lines) at ∙ seen_with x t.lines m hold

  live_after : session_by t.lines (Some y) ≡ session y.counts m (traffic_of y) (rest_of y)
  live_after = seen_with y t.lines m ((λ i. hold_by (state' i) (holder' i) t.lines) ∙ hold)

  live_step : session_step brief (sessions_of t s) op ≡ session y.counts m (traffic_of y) (rest_of y)
  live_step = ap (λ (o : Session KeptTraffic). session_step brief o op) live_before ∙ sym is

  live_lines : settled s (sessions_of t s).hold (session_step brief (sessions_of t s) op).hold ls ≡ ls
  live_lines = (λ i. settled s (live_before i).hold (live_step i).hold ls) ∙ stays ls

  live_session : sessions_of (with_session s t y) ≡ put s (session_step brief (sessions_of t s) op) (sessions_of t)
  live_session = sessions_put t (λ _. y) s x at ∙ ap (λ (o : Session KeptTraffic). put s o (sessions_of t)) (live_after ∙ sym live_step)

  pub live_did : (more : ℕ) → IsTied a.table → IsSession y
      → ((turns : ℕ) → IsFew turns a.table → (y.given_up + y.queue.given ≤ turns + more) × (y.acted ≤ turns + more))
      → Did (On s op ∷ []) more a (record a { table = with_session s a.table y })
  live_did more tied ready numbers = record {
    world = λ i. record {
      opened = t.opened;
      book = a.book.book;
      rooms = a.rooms;
      archives = archives_of a.archives;
      lines = sym live_lines i;
      made = t.made;
      sessions = live_session i;
    };
    tied = tied_with s t x y tied at state' holder' ready;
    known = λ many users. users;
    few = λ turns few. (let now = numbers turns few in few_with s turns (turns + more) t x y few at (omega arith) now.0 now.1);
    lines = refl;
    answered = refl;
    kept = book_same;
  }

-- an entry is queued
all_snoc : {A : Type 0} (P : A → Type 0) (xs : List A) (x : A) → AllByRecursion P xs → P x → AllByRecursion P (xs ++ x ∷ [])
all_snoc P [] x all last = (last, tt)
all_snoc P (y ∷ xs) x all last = (all.0, all_snoc P xs x all.1 last)

push_held : (b : Bool) (v d : ℕ) (k : KeptTraffic) (r : Rest) (e : Entry) → has_room k.waiting e ≡ true
    → session b (Held v d) (kept_queue k e) r ≡ step_if brief b (Held v d) k r (Push e)
push_held true v d k r e room = sym (ap (λ (o : Bool). pushed brief o true (Held v d) k r e) room)
push_held false v d k r e room = sym (ap (λ (o : Bool). pushed brief o false (Held v d) k r e) room)

push_away : (b : Bool) (k : KeptTraffic) (r : Rest) (e : Entry) → b ≡ true → has_room k.waiting e ≡ true
    → session b Away (kept_queue k e) r ≡ step_if brief b Away k r (Push e)
push_away true k r e counts room = sym (ap (λ (o : Bool). pushed brief o true Away k r e) room)
push_away false k r e counts room = absurd (cc)

full_held : (b : Bool) (v d : ℕ) (k : KeptTraffic) (r : Rest) (e : Entry) → has_room k.waiting e ≡ false
    → step_if brief b (Held v d) k r (End (brief.overfull k)) ≡ step_if brief b (Held v d) k r (Push e)
full_held true v d k r e room = sym (ap (λ (o : Bool). pushed brief o true (Held v d) k r e) room)
full_held false v d k r e room = sym (ap (λ (o : Bool). pushed brief o false (Held v d) k r e) room)

full_away : (b : Bool) (k : KeptTraffic) (r : Rest) (e : Entry) → b ≡ true → has_room k.waiting e ≡ false
    → step_if brief b Away k r (End (brief.overfull k)) ≡ step_if brief b Away k r (Push e)
full_away true k r e counts room = sym (ap (λ (o : Bool). pushed brief o true Away k r e) room)
full_away false k r e counts room = absurd (cc)

pub end_away : (b : Bool) (k : KeptTraffic) (r : Rest) (cause : Cause) → b ≡ true → over b k r cause ≡ step_if brief b Away k r (End cause)
end_away true k r cause counts = refl
end_away false k r cause counts = absurd (cc)

pub end_again : (b : Bool) (c : Cause) (k : KeptTraffic) (r : Rest) (cause : Cause) → step_if brief b (Ended c) k r (End cause) ≡ session b (Ended c) k r
end_again true c k r cause = refl
end_again false c k r cause = refl

push_over : (b : Bool) (c : Cause) (k : KeptTraffic) (r : Rest) (e : Entry) → step_if brief b (Ended c) k r (Push e) ≡ session b (Ended c) k r
push_over true c k r e = refl
push_over false c k r e = refl

pub over_is : (l : Life) (h : Option ℕ) (ls : List stage.Line) (c : Cause) → l ≡ Over c → hold_by l h ls ≡ Ended c
over_is l h ls c is = ap (λ k. hold_by k h ls) is

module _ (a : code.World) (s : ℕ) (x : SessionRecord) (tied : IsTied a.table) (at : session_of s a.table ≡ Some x) where
  abbrev ready : IsSession x
  ready = tied.each s x at

  abbrev k : KeptTraffic
  k = traffic_of x

  abbrev r : Rest
  r = rest_of x

  pub push_over_did : (c : Cause) (entry : Entry) → x.state ≡ Over c → Did (On s (Push entry) ∷ []) 0 a a
  push_over_did c entry is =
      same_did a s x (Ended c) (Push entry) tied at (over_is x.state x.holder a.table.lines c is) (λ ls. refl) (push_over x.counts c k r entry)

  pub end_over_did : (c cause : Cause) → x.state ≡ Over c → Did (On s (End cause) ∷ []) 0 a a
  end_over_did c cause is =
      same_did a s x (Ended c) (End cause) tied at (over_is x.state x.holder a.table.lines c is) (λ ls. refl) (end_again x.counts c k r cause)

  abbrev longer : Entry → SessionRecord
  longer e = record x { queue = queues.pushed e x.queue }

  longer_ready : (e : Entry) → length (frame e) ≤ 524288 → IsSession (longer e)
  longer_ready e short = record {
    given = (let all = length-append x.queue.waiting (e ∷ []) in let old = ready.given in omega (arith, all, old));
    asked = ready.asked;
    base_in = ready.base_in;
    short = all_snoc _ x.queue.waiting e ready.short short;
    away = ready.away;
    known = ready.known;
    shown = ready.shown;
    pushes = ready.pushes;
    address = ready.address;
  }

  push_by : (h : Option ℕ) (e : Entry) → x.holder ≡ h → x.state ≡ Live → has_room x.queue.waiting e ≡ true → length (frame e) ≤ 524288
      → Did (On s (Push e) ∷ []) 0 a (record a { table = with_session s a.table (longer e) })
  push_by None e none live room short =
      live_did a s x (longer e) Away (Push e) at (away_is x.state x.holder a.table.lines live none) refl refl (λ ls. refl)
      (push_away x.counts k r e (ready.away live none) room) 0 tied (longer_ready e short)
      (λ turns few. (let sent = few.sent s x at in let acted = few.acted s x at in (omega (arith, sent), omega (arith, acted))))
  push_by (Some w) e held live room short =
      let c = conn_of (line_of w a.table) in
      live_did a s x (longer e) (Held w c) (Push e) at (held_is x.state x.holder a.table.lines w live held) refl refl
      (moved_same s w c) (push_held x.counts w c k r e room) 0 tied (longer_ready e short)
      (λ turns few. (let sent = few.sent s x at in let acted = few.acted s x at in (omega (arith, sent), omega (arith, acted))))

  pub push_did : (y : SessionRecord) (e : Entry) → x.state ≡ Live → has_room x.queue.waiting e ≡ true → length (frame e) ≤ 524288
      → y ≡ longer e → Did (On s (Push e) ∷ []) 0 a (record a { table = with_session s a.table y })
  push_did y e live room short is =
      subst (λ (z : SessionRecord). Did (On s (Push e) ∷ []) 0 a (record a { table = with_session s a.table z })) (sym is)
      (push_by x.holder e refl live room short)

  -- the queue is full
  full_by : (h : Option ℕ) (e : Entry) → x.holder ≡ h → x.state ≡ Live → has_room x.queue.waiting e ≡ false
      → session_step brief (sessions_of a.table s) (End (brief.overfull k)) ≡ session_step brief (sessions_of a.table s) (Push e)
  full_by None e none live room =
      let before : sessions_of a.table s ≡ session x.counts Away k r =
      ap (session_by a.table.lines) at ∙ seen_with x a.table.lines Away (away_is x.state x.holder a.table.lines live none) in
      ap (λ (o : Session KeptTraffic). session_step brief o (End (brief.overfull k))) before
      ∙ (full_away x.counts k r e (ready.away live none) room
      ∙ sym (ap (λ (o : Session KeptTraffic). session_step brief o (Push e)) before))
  full_by (Some w) e held live room =
      let c = conn_of (line_of w a.table) in
      let before : sessions_of a.table s ≡ session x.counts (Held w c) k r =
      ap (session_by a.table.lines) at ∙ seen_with x a.table.lines (Held w c) (held_is x.state x.holder a.table.lines w live held) in
      ap (λ (o : Session KeptTraffic). session_step brief o (End (brief.overfull k))) before
      ∙ (full_held x.counts w c k r e room
      ∙ sym (ap (λ (o : Session KeptTraffic). session_step brief o (Push e)) before))

  pub full_is : (e : Entry) → x.state ≡ Live → has_room x.queue.waiting e ≡ false
      → session_step brief ((seen a).sessions s) (End (brief.overfull k)) ≡ session_step brief ((seen a).sessions s) (Push e)
  full_is e live room = full_by x.holder e refl live room

  -- a session that is away ends
  pub end_away_did : (b : TableRecord) (cause : Cause) → x.state ≡ Live → x.holder ≡ None → b ≡ changed s (ended cause) a.table
      → Did (On s (End cause) ∷ []) 0 a (record a { table = b })
  end_away_did b cause live none is =
      subst (λ (t : TableRecord). Did (On s (End cause) ∷ []) 0 a (record a { table = t })) (sym is)
      (let t = a.table in
      let ls = lines_of t a.answers.items in
      let before : sessions_of t s ≡ session x.counts Away k r =
      ap (session_by t.lines) at ∙ seen_with x t.lines Away (away_is x.state x.holder t.lines live none) in
      let step : session_step brief (sessions_of t s) (End cause) ≡ over x.counts k r cause =
      ap (λ (o : Session KeptTraffic). session_step brief o (End cause)) before ∙ sym (end_away x.counts k r cause (ready.away live none)) in
      record {
        world = λ i. record {
          opened = t.opened;
          book = a.book.book;
          rooms = a.rooms;
          archives = archives_of a.archives;
          lines = sym (λ j. settled s (before j).hold (step j).hold ls) i;
          made = t.made;
          sessions = (sessions_put t (ended cause) s x at ∙ ap (λ (o : Session KeptTraffic). put s o (sessions_of t)) (sym step)) i;
        };
        tied = tied_away s (ended cause) t x tied at none refl (ended_ready cause x ready);
        known = λ many users. users;
        few = λ turns few. (let sent = few.sent s x at in let acted = few.acted s x at in
            few_changed s turns (turns + 0) (ended cause) t x few at (omega arith) (omega (arith, sent)) (omega (arith, acted)));
        lines = refl;
        answered = refl;
        kept = book_same;
      })
