-- What the world is, once a session that was held has left its line.
use Rattle.std.proofs.Common.{◌≡◌, inl, inr, ℕ, ◌+◌, ◌<◌, ◌≤◌, ◌==◌, List, [], Bool, true, false, length, get_or, set}
use Rattle.std.proofs.Common.{Option, Some, None, refl, sym, ap, subst, ◌∙◌, arith, if◌then◌else◌}
use Rattle.std.specs.Prelude.{IsSomeAnd}
use Rattle.std.proofs.lemmas.List.{length-set}
use Rattle.sm_resume.specs.declared.decision.Cause.{Cause}
use Rattle.session_table.specs.declared.life.Life.TheVariants as life
use Rattle.session_table.specs.declared.line.Line as stage
use Rattle.session_table.specs.declared.line.Line.TheVariants.{Empty, Logged}
use Rattle.session_table.specs.Sessions.{SessionRecord}
use Rattle.session_table.specs.Tables.{TableRecord, conn_of, line_of, session_of, changed, with_line}
use Rattle.archive_table.specs.Tables.{archives_of}
use Rattle.house_model.specs.Numbered.{put}
use Rattle.house_model.specs.Sessions.{Hold, Held, Op, End, Rest, Session, session, over, step_if, session_step}
use Rattle.house_model.specs.Traffic.{KeptTraffic, brief}
use Rattle.house_model.specs.States.{Line}
use Rattle.house_model.specs.Effects.{Effect, On, settled, apply, apply_all}
use Rattle.house_world.specs.Keeping.{Keeps}
use Rattle.house_world.specs.declared.world.World as code
use Rattle.house_world.specs.Views.{hold_by, traffic_of, rest_of, session_by, sessions_of, lines_of, world_of}
use Rattle.house_world.specs.Wholes.{IsSession, IsFreeLine, IsTied}
use Rattle.house_world.specs.Worlds.{seen, Did}
use Rattle.house_world.proofs.ReadLemmas.{held_is, seen_with, sessions_put, sessions_line, lines_put, place_set}
use Rattle.house_world.proofs.TiedLemmas.{IsUnbound, few_changed}
use Rattle.house_world.proofs.LeavingLemmas.{free_after, tied_off}

put_twice_at : {A : Type 0} (w x : ℕ) (p q : A) (f : ℕ → A) (b : Bool) → (if b then p else (if b then q else f x)) ≡ (if b then p else f x)
put_twice_at w x p q f true = refl
put_twice_at w x p q f false = refl

pub put_twice : {A : Type 0} (w : ℕ) (p q : A) (f : ℕ → A) → put w p (put w q f) ≡ put w p f
put_twice w p q f = λ i x. put_twice_at w x p q f (x == w) i

pub end_is : (b : Bool) (v d : ℕ) (k : KeptTraffic) (r : Rest) (cause : Cause) → over b k r cause ≡ step_if brief b (Held v d) k r (End cause)
end_is true v d k r cause = refl
end_is false v d k r cause = refl

-- who is there
pub there : {A : Type 0} (P : A → Type 0) (o : Option A) → IsSomeAnd o P → (x : A) × (o ≡ Some x) × P x
there P None is = absurd is
there P (Some x) is = (x, refl, is)

module _ (a : code.World) (w s : ℕ) (x : SessionRecord) (f : SessionRecord → SessionRecord) (op : Op)
    (tied : IsTied a.table) (low : w < length a.table.lines) (answered : length a.answers.items ≡ length a.table.lines)
    (at : session_of s a.table ≡ Some x) (live : x.state ≡ life.Live) (holder : x.holder ≡ Some w) (left : (f x).holder ≡ None)
    (is : session_by a.table.lines (Some (f x)) ≡ step_if brief x.counts (Held w (conn_of (line_of w a.table))) (traffic_of x) (rest_of x) op) where
  abbrev t : TableRecord
  t = a.table

  abbrev c : ℕ
  c = conn_of (line_of w a.table)

  abbrev ls : ℕ → Line
  ls = lines_of a.table a.answers.items

  pub before : sessions_of t s ≡ session x.counts (Held w c) (traffic_of x) (rest_of x)
  before = ap (session_by t.lines) at ∙ seen_with x t.lines (Held w c) (held_is x.state x.holder t.lines w live holder)

  pub stepped : session_by t.lines (Some (f x)) ≡ session_step brief (sessions_of t s) op
  stepped = is ∙ sym (ap (λ (o : Session KeptTraffic). session_step brief o op) before)

  pub off_free : IsFreeLine w (changed s f t)
  off_free = free_after w s f t x tied at holder left

  off_sessions : (l : stage.Line) → sessions_of (with_line w l (changed s f t)) ≡ put s (session_step brief (sessions_of t s) op) (sessions_of t)
  off_sessions l =
      sessions_line (changed s f t) w l low (λ n y at' live' holder'. absurd (off_free n y at' holder'))
      ∙ (sessions_put t f s x at
      ∙ ap (λ (o : Session KeptTraffic). put s o (sessions_of t)) stepped)

  pub off_world : (l : stage.Line)
      → world_of (with_line w l (changed s f t)) (set a.answers.items w []) a.book.book a.rooms (archives_of a.archives)
      ≡ record (apply brief (seen a) (On s op)) { lines = put w (record { stage = l; answers = [] }) ls }
  off_world l = λ i. record {
    opened = t.opened;
    book = a.book.book;
    rooms = a.rooms;
    archives = archives_of a.archives;
    lines = lines_put (changed s f t) a.answers.items w l [] low (omega (arith, low, answered)) i;
    made = t.made;
    sessions = off_sessions l i;
  }

  -- how the lines are settled, where the session was held and is held so
  pub off_lines : (L : Line) (n : Hold) → hold_by (f x).state (f x).holder t.lines ≡ n → settled s (Held w c) n ls ≡ put w L ls
      → (apply brief (seen a) (On s op)).lines ≡ put w L ls
  off_lines L n now settles =
      (λ i. settled s (before i).hold (sym stepped i).hold ls)
      ∙ (ap (λ (m : Hold). settled s (Held w c) m ls) now ∙ settles)

  pub off_did : (l : stage.Line) (b : code.World) (es : List Effect) (more : ℕ) → IsUnbound l → ((d u : ℕ) → l ≡ Logged d u → ⊥) → IsSession (f x)
      → (f x).given_up + (f x).queue.given ≡ x.given_up + x.queue.given → (f x).acted ≡ x.acted
      → b.table.lines ≡ set t.lines w l → b.table.sessions ≡ (changed s f t).sessions → b.table.made ≡ t.made → b.table.opened ≤ t.opened + more
      → length b.answers.items ≡ length a.answers.items → Keeps a.book b.book
      → seen b ≡ apply_all brief (seen a) es
      → Did es more a b
  off_did l b es more unbound unlogged ready sent acted lines sessions made opened answers kept world = record {
    world = world;
    tied = (let old = tied_off w s f l t x tied low at holder left ready unbound in record {
      bound = λ v d n at'. subst
          (λ (es : List (ℕ × SessionRecord)). IsSomeAnd (session_of n (record t { sessions = es })) (λ z. (z.state ≡ life.Live) × (z.holder ≡ Some v)))
          (sym sessions)
          (old.bound v d n (ap (λ (xs : List stage.Line). get_or xs v Empty) (sym lines) ∙ at'));
      holds = λ n v y at' holder'.
          let was = old.holds n v y (ap (λ (es : List (ℕ × SessionRecord)). session_of n (record t { sessions = es })) (sym sessions) ∙ at') holder' in
          (was.0, (was.1.0, ap (λ (xs : List stage.Line). get_or xs v Empty) lines ∙ was.1.1));
      each = λ n y at'. old.each n y (ap (λ (es : List (ℕ × SessionRecord)). session_of n (record t { sessions = es })) (sym sessions) ∙ at');
    });
    known = λ many users v d u at'. elim (place_set t.lines w v l Empty low) [
      | inl p ↦ absurd (unlogged d u (sym p.1 ∙ (ap (λ (xs : List stage.Line). get_or xs v Empty) (sym lines) ∙ at')))
      | inr p ↦ users v d u (sym p.1 ∙ (ap (λ (xs : List stage.Line). get_or xs v Empty) (sym lines) ∙ at'))
    ];
    few = λ turns few.
        let was = few.sent s x at in
        let did = few.acted s x at in
        let old = few_changed s turns (turns + more) f t x few at (omega arith) (omega (arith, was, sent)) (omega (arith, did, acted)) in
        record {
          opened = omega (arith, few.opened, opened);
          made = omega (arith, few.made, made);
          sent = λ n y at'. old.sent n y (ap (λ (es : List (ℕ × SessionRecord)). session_of n (record t { sessions = es })) (sym sessions) ∙ at');
          acted = λ n y at'. old.acted n y (ap (λ (es : List (ℕ × SessionRecord)). session_of n (record t { sessions = es })) (sym sessions) ∙ at');
        };
    lines = ap length lines ∙ length-set t.lines w l;
    answered = answers;
    kept = kept;
  }
