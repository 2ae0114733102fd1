-- What is kept of the world follows what effects do to the world.
use Rattle.std.proofs.Common.{◌≡◌, ℕ, ◌+◌, List, [], ◌∷◌, Option, Some, None, Bool, true, false, eqb, refl, sym, ap, ◌∙◌, if◌then◌else◌}
use Rattle.stanza_tree.specs.declared.frame.Entry.{Entry}
use Rattle.house_model.specs.Numbered.{put}
use Rattle.house_model.specs.Sessions.{Hold, Held, Away, Ended, Gone, Rest, Session, Op, Push, Pull, Request, Enable, Ack, Act, Drop, Resume}
use Rattle.house_model.specs.Sessions.{End, Part, session, over, pushed, acked, resumed, step_if, session_step, begun}
use Rattle.house_model.specs.Traffic.{Traffic, KeptTraffic, Ordered, whole, brief, keep_traffic}
use Rattle.house_model.specs.States.{Line, World, keep_by, keep_session, keep_world}
use Rattle.house_model.specs.Effects.{Effect, Open, At, Begin, On, Note, Hosts, Files, settled, touch, apply, apply_all}
use Rattle.house_model.proofs.TrafficLemmas as traffic
use Rattle.house_model.proofs.TrafficLemmas.{keep_option}
use Rattle.house_model.proofs.OrderLemmas.{none_ordered, step_ordered}

pushed_held : (has b : Bool) (v d : ℕ) (t : Traffic) (r : Rest) (e : Entry) → Ordered t
    → keep_session (pushed whole has b (Held v d) t r e) ≡ pushed brief has b (Held v d) (keep_traffic t) r e
pushed_held true b v d t r e o = ap (λ (k : KeptTraffic). session b (Held v d) k r) (traffic.queue_kept t e o)
pushed_held false b v d t r e o = ap (over b (keep_traffic t) r) (traffic.overfull_kept t o)

pushed_away : (has b : Bool) (t : Traffic) (r : Rest) (e : Entry) → Ordered t
    → keep_session (pushed whole has b Away t r e) ≡ pushed brief has b Away (keep_traffic t) r e
pushed_away true b t r e o = ap (λ (k : KeptTraffic). session b Away k r) (traffic.queue_kept t e o)
pushed_away false b t r e o = ap (over b (keep_traffic t) r) (traffic.overfull_kept t o)

acked_held : (u : Option Traffic) (v d : ℕ) (t : Traffic) (r : Rest) (h : ℕ) → Ordered t
    → keep_session (acked whole u (Held v d) t r h) ≡ acked brief (keep_option u) (Held v d) (keep_traffic t) r h
acked_held None v d t r h o = ap (over true (keep_traffic t) r) (traffic.too_high_kept t h o)
acked_held (Some u) v d t r h o = refl

resumed_held : (u : Option Traffic) (v d : ℕ) (t : Traffic) (r : Rest) (w c : ℕ)
    → keep_session (resumed u (Held v d) t r w c) ≡ resumed (keep_option u) (Held v d) (keep_traffic t) r w c
resumed_held None v d t r w c = refl
resumed_held (Some u) v d t r w c = refl

resumed_away : (u : Option Traffic) (t : Traffic) (r : Rest) (w c : ℕ)
    → keep_session (resumed u Away t r w c) ≡ resumed (keep_option u) Away (keep_traffic t) r w c
resumed_away None t r w c = refl
resumed_away (Some u) t r w c = refl

pub step_kept : (b : Bool) (m : Hold) (t : Traffic) (r : Rest) (op : Op) → Ordered t
    → keep_session (step_if whole b m t r op) ≡ session_step brief (keep_by b m t r) op
step_kept b (Held v d) t r (Push e) o = pushed_held (whole.has_room t e) b v d t r e o
step_kept true Away t r (Push e) o = pushed_away (whole.has_room t e) true t r e o
step_kept b (Held v d) t r (End cause) o = refl
step_kept true Away t r (End cause) o = refl
step_kept false (Held v d) t r Pull o =
    ap (λ (k : KeptTraffic). session false (Held v d) k r) (traffic.give_up_kept t o)
step_kept true (Held v d) t r Pull o = ap (λ (k : KeptTraffic). session true (Held v d) k r) (traffic.give_kept t o)
step_kept true (Held v d) t r Request o = ap (λ (k : KeptTraffic). session true (Held v d) k r) (traffic.ask_kept t o)
step_kept false (Held v d) t r (Enable id) o =
    ap (λ (k : KeptTraffic). session true (Held v d) k (record r { resume_id = id })) (traffic.enable_kept t o)
step_kept true (Held v d) t r (Ack h) o =
    acked_held (whole.ack t h) v d t r h o
    ∙ ap (λ (k : Option KeptTraffic). acked brief k (Held v d) (keep_traffic t) r h) (traffic.ack_kept t h o)
step_kept b (Held v d) t r (Act x) o = ap (λ (k : KeptTraffic). session b (Held v d) k r) (traffic.act_kept t x)
step_kept false (Held v d) t r (Drop deadline) o = refl
step_kept true (Held v d) t r (Drop deadline) o = refl
step_kept true (Held v d) t r (Resume w c h) o =
    resumed_held (whole.resume t h) v d t r w c
    ∙ ap (λ (k : Option KeptTraffic). resumed k (Held v d) (keep_traffic t) r w c) (traffic.resume_kept t h o)
step_kept true Away t r (Resume w c h) o =
    resumed_away (whole.resume t h) t r w c
    ∙ ap (λ (k : Option KeptTraffic). resumed k Away (keep_traffic t) r w c) (traffic.resume_kept t h o)
step_kept b (Ended cause) t r Part o = refl
step_kept b m t r op o = refl

-- who holds what is kept: of a session that departed nothing is, as of one that is away
abbrev kept_hold : Hold → Hold
kept_hold (Held w c) = Held w c
kept_hold Away = Away
kept_hold (Ended cause) = Ended cause
kept_hold Gone = Away

hold_kept : (b : Bool) (m : Hold) (t : Traffic) (r : Rest) → (keep_by b m t r).hold ≡ kept_hold m
hold_kept b (Held w c) t r = refl
hold_kept b Away t r = refl
hold_kept b (Ended cause) t r = refl
hold_kept b Gone t r = refl

settled_kept : (s : ℕ) (m n : Hold) (ls : ℕ → Line) → settled s m n ls ≡ settled s (kept_hold m) (kept_hold n) ls
settled_kept s (Held w c) (Held v d) ls = refl
settled_kept s (Held w c) (Ended cause) ls = refl
settled_kept s (Held w c) Away ls = refl
settled_kept s (Held w c) Gone ls = refl
settled_kept s Away (Held v d) ls = refl
settled_kept s (Ended cause) (Held v d) ls = refl
settled_kept s Gone (Held v d) ls = refl
settled_kept s Away Away ls = refl
settled_kept s Away Gone ls = refl
settled_kept s Away (Ended cause) ls = refl
settled_kept s Gone Away ls = refl
settled_kept s Gone Gone ls = refl
settled_kept s Gone (Ended cause) ls = refl
settled_kept s (Ended cause) Away ls = refl
settled_kept s (Ended cause) Gone ls = refl
settled_kept s (Ended cause) (Ended other) ls = refl

keep_if : (b : Bool) (x y : Session Traffic)
    → keep_session (if b then x else y) ≡ (if b then keep_session x else keep_session y)
keep_if true x y = refl
keep_if false x y = refl

put_kept : (k : ℕ) (x : Session Traffic) (f : ℕ → Session Traffic) (s : ℕ)
    → keep_session (put k x f s) ≡ put k (keep_session x) (λ (i : ℕ). keep_session (f i)) s
put_kept k x f s = keep_if (eqb s k) x (f s)

abbrev pub AreOrdered : World Traffic → Type 0
AreOrdered world = (s : ℕ) → Ordered (world.sessions s).traffic

module _ (s : ℕ) (op : Op) (world : World Traffic) (o : Ordered (world.sessions s).traffic) where
  abbrev old : Session Traffic
  old = world.sessions s

  abbrev new : Session Traffic
  new = session_step whole old op

  stepped : keep_session new ≡ session_step brief (keep_session old) op
  stepped = step_kept old.counts old.hold old.traffic old.rest op o

  lines_kept : settled s old.hold new.hold world.lines
      ≡ settled s (keep_session old).hold (session_step brief (keep_session old) op).hold world.lines
  lines_kept =
      settled_kept s old.hold new.hold world.lines
      ∙ (ap (λ (m : Hold). settled s m (kept_hold new.hold) world.lines)
      (sym (hold_kept old.counts old.hold old.traffic old.rest))
      ∙ ap (λ (n : Hold). settled s (keep_session old).hold n world.lines)
      (sym (ap (λ (x : Session KeptTraffic). x.hold) (sym stepped) ∙ hold_kept new.counts new.hold new.traffic new.rest)))

  sessions_kept : (k : ℕ)
      → keep_session (put s new world.sessions k)
      ≡ put s (session_step brief (keep_session old) op) (λ (i : ℕ). keep_session (world.sessions i)) k
  sessions_kept k =
      put_kept s new world.sessions k
      ∙ ap (λ (x : Session KeptTraffic). put s x (λ (i : ℕ). keep_session (world.sessions i)) k) stepped

  touch_kept : keep_world (touch whole s op world) ≡ touch brief s op (keep_world world)
  touch_kept = λ i. record {
    opened = world.opened;
    lines = lines_kept i;
    made = world.made;
    sessions = λ (k : ℕ). sessions_kept k i;
    book = world.book;
    rooms = world.rooms;
    archives = world.archives;
  }

pub apply_kept : (world : World Traffic) (e : Effect) → AreOrdered world
    → keep_world (apply whole world e) ≡ apply brief (keep_world world) e
apply_kept world (Open w) o = refl
apply_kept world (At w op) o = refl
apply_kept world (Begin w c a) o = λ i. record {
  opened = world.opened;
  lines = (apply whole world (Begin w c a)).lines;
  made = world.made + 1;
  sessions = λ (k : ℕ). put_kept (world.made + 1) (begun whole w c a) world.sessions k i;
  book = world.book;
  rooms = world.rooms;
  archives = world.archives;
}
apply_kept world (Note change) o = refl
apply_kept world (Hosts x) o = refl
apply_kept world (Files filing) o = refl
apply_kept world (On s op) o = touch_kept s op world (o s)

put_ordered : (b : Bool) (x y : Session Traffic) → Ordered x.traffic → Ordered y.traffic
    → Ordered (if b then x else y).traffic
put_ordered true x y p q = p
put_ordered false x y p q = q

pub apply_ordered : (world : World Traffic) (e : Effect) → AreOrdered world → AreOrdered (apply whole world e)
apply_ordered world (Open w) o s = o s
apply_ordered world (At w op) o s = o s
apply_ordered world (Note change) o s = o s
apply_ordered world (Hosts x) o s = o s
apply_ordered world (Files filing) o s = o s
apply_ordered world (Begin w c a) o s =
    put_ordered (eqb s (world.made + 1)) (begun whole w c a) (world.sessions s) none_ordered (o s)
apply_ordered world (On k op) o s =
    put_ordered (eqb s k) (session_step whole (world.sessions k) op) (world.sessions s)
    (step_ordered (world.sessions k).counts (world.sessions k).hold (world.sessions k).traffic (world.sessions k).rest
    op (o k))
    (o s)

pub all_kept : (world : World Traffic) (es : List Effect) → AreOrdered world
    → keep_world (apply_all whole world es) ≡ apply_all brief (keep_world world) es
all_kept world [] o = refl
all_kept world (e ∷ es) o =
    all_kept (apply whole world e) es (apply_ordered world e o)
    ∙ ap (λ (k : World KeptTraffic). apply_all brief k es) (apply_kept world e o)
