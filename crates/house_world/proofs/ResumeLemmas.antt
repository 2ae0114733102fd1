-- The world, once a session goes on at another line.
use Rattle.std.proofs.Common.{◌≡◌, ◌⊎◌, inl, inr, ℕ, zero, suc, ◌+◌, ◌-◌, ◌<◌, ◌≤◌, ◌==◌, ◌&&◌, cond, Bool, true, false, List, []}
use Rattle.std.proofs.Common.{◌∷◌, length, get_or, set, Option, Some, None, refl, sym, ap, subst, ◌∙◌, arith}
use Rattle.std.specs.Prelude.{IsSomeAnd}
use Rattle.std.specs.Option.{option_map}
use Rattle.std.specs.Vec.{with_item}
use Rattle.std.proofs.lemmas.Bool.{eq-eqb, ne_eqb}
use Rattle.std.proofs.lemmas.Bool.Decides.{eqb_tells}
use Rattle.std.proofs.lemmas.List.{length-set, get_or-set_same, get_or-set_other}
use Rattle.std.proofs.lemmas.Option.{same_Some}
use Rattle.sm_queue.specs.Queues.{acknowledged}
use Rattle.sm_resume.specs.declared.decision.Cause.TheVariants.{Moved}
use Rattle.session_table.specs.declared.life.Life.{Life}
use Rattle.session_table.specs.declared.life.Life.TheVariants as life
use Rattle.session_table.specs.declared.line.Line as stage
use Rattle.session_table.specs.declared.line.Line.TheVariants.{Empty, Logged, Bound, Over}
use Rattle.session_table.specs.Sessions.{SessionRecord, held_by}
use Rattle.session_table.specs.Tables.{IsLive, TableRecord, Rises, attached, changed, conn_of, is_logged, line_ended, line_of, session_of}
use Rattle.session_table.specs.Tables as tables
use Rattle.session_table.proofs.ListLemmas.{rises_changed}
use Rattle.session_table.proofs.NumberLemmas.{lookup_changed}
use Rattle.archive_table.specs.Tables.{archives_of}
use Rattle.house_model.specs.declared.answer.Answer.{Answer}
use Rattle.house_model.specs.Numbered.{put}
use Rattle.house_model.specs.Sessions.{Hold, Held, Away, Resume, Rest, Session, session, resumed, step_if, session_step}
use Rattle.house_model.specs.Traffic.{KeptTraffic, brief, kept_handled, kept_resume, without}
use Rattle.house_model.specs.States.{Line}
use Rattle.house_model.specs.Effects.{On, bound_line, moved_if, over_line, settled}
use Rattle.house_model.proofs.PutLemmas.{put_is}
use Rattle.house_world.specs.declared.world.World as code
use Rattle.house_world.specs.Views.{hold_by, traffic_of, rest_of, session_by, sessions_of, lines_of}
use Rattle.house_world.specs.Wholes.{IsSession, IsFreeLine, IsTied, IsFew, AreUsers}
use Rattle.house_world.specs.Worlds.{Did, rewound_to}
use Rattle.house_world.proofs.DidLemmas.{did_beside}
use Rattle.house_world.proofs.BeginLemmas.{logged_free, logged_unbound}
use Rattle.house_world.proofs.DeedLemmas.{all_drop}
use Rattle.house_world.proofs.LeavingLemmas.{free_holds, two_held}
use Rattle.house_world.proofs.ReadLemmas.{away_is, held_is, lines_put, lines_staged, seen_with}
use Rattle.house_world.proofs.TiedLemmas.{IsUnbound, changed_else, changed_here}
use Rattle.house_world.proofs.BookLemmas.{book_same}

-- a line where a session is bound is there
pub bound_low : (ls : List stage.Line) (v c s : ℕ) → get_or ls v Empty ≡ Bound c s → v < length ls
bound_low [] v c s is = absurd (let z : Empty ≡ Bound c s = is in cc)
bound_low (l ∷ ls) zero c s is = omega arith
bound_low (l ∷ ls) (suc v) c s is = (let rest = bound_low ls v c s is in omega (arith, rest))

-- whether a line is the holder
is_holder : (o : Option ℕ) (v : ℕ) → (o ≡ Some v) ⊎ (o ≡ Some v → ⊥)
is_holder None v = inr (λ e. (let z : ◌≡◌ {A = Option ℕ} None (Some v) = e in cc))
is_holder (Some u) v = elim (eqb_tells u v) [
  | inl p ↦ inl (ap Some p.1)
  | inr p ↦ inr (λ e. p.1 (same_Some u v e))
]

-- sessions whose lines have the same connections
hold_lines : (l : Life) (h : Option ℕ) (ls ms : List stage.Line)
    → ((v : ℕ) → l ≡ life.Live → h ≡ Some v → conn_of (get_or ms v Empty) ≡ conn_of (get_or ls v Empty)) → hold_by l h ms ≡ hold_by l h ls
hold_lines (life.Over cause) h ls ms same = refl
hold_lines life.Live None ls ms same = refl
hold_lines life.Live (Some v) ls ms same = ap (Held v) (same v refl refl)

session_lines : (o : Option SessionRecord) (ls ms : List stage.Line)
    → ((x : SessionRecord) (v : ℕ) → o ≡ Some x → x.state ≡ life.Live → x.holder ≡ Some v → conn_of (get_or ms v Empty) ≡ conn_of (get_or ls v Empty))
    → session_by ms o ≡ session_by ls o
session_lines None ls ms same = refl
session_lines (Some x) ls ms same =
    ap (λ (m : Hold). session x.counts m (traffic_of x) (rest_of x)) (hold_lines x.state x.holder ls ms (λ v live at. same x v refl live at))

-- session s, which was x, is z at line w, which was logged in; the line that held it is no session's
module _ (a b : code.World) (w s c : ℕ) (x z : SessionRecord) (tied : IsTied a.table) (at : session_of s a.table ≡ Some x)
    (logged : is_logged (line_of w a.table) ≡ true) (own : session_of s b.table ≡ Some z)
    (others : (n : ℕ) → (n ≡ s → ⊥) → session_of n b.table ≡ session_of n a.table)
    (state : z.state ≡ life.Live) (holder : z.holder ≡ Some w) (here : line_of w b.table ≡ Bound c s)
    (left : (v : ℕ) → (v ≡ w → ⊥) → x.holder ≡ Some v → IsUnbound (line_of v b.table) × ((d u : ℕ) → line_of v b.table ≡ Logged d u → ⊥))
    (same : (v : ℕ) → (v ≡ w → ⊥) → (x.holder ≡ Some v → ⊥) → line_of v b.table ≡ line_of v a.table) where
  -- the line of another session
  else_line : (n v : ℕ) (y : SessionRecord) → (n ≡ s → ⊥) → session_of n a.table ≡ Some y → y.holder ≡ Some v
      → line_of v b.table ≡ line_of v a.table
  else_line n v y other is holds =
      same v (λ e. logged_free w a.table tied logged n y is (holds ∙ ap Some e))
      (λ e. other (two_held v a.table s n x y tied at e is holds))

  moved_tied : IsSession z → IsTied b.table
  moved_tied ready = record {
    bound = λ v d n is. elim (eqb_tells v w) [
      | inl p ↦ (
          let both : Bound c s ≡ Bound d n = sym here ∙ (ap (λ (k : ℕ). line_of k b.table) (sym p.1) ∙ is) in
          let number : s ≡ n = (cc) in
          subst (λ (o : Option SessionRecord). IsSomeAnd o (λ y. (y.state ≡ life.Live) × (y.holder ≡ Some v)))
          (sym own ∙ ap (λ (k : ℕ). session_of k b.table) number) (state, holder ∙ ap Some (sym p.1)))
      | inr p ↦ elim (is_holder x.holder v) [
        | inl q ↦ absurd ((left v p.1 q).0 d n is)
        | inr q ↦ (
            let old = tied.bound v d n (sym (same v p.1 q) ∙ is) in
            let other : n ≡ s → ⊥ = (λ e.
            let mine : IsSomeAnd (Some x) (λ y. (y.state ≡ life.Live) × (y.holder ≡ Some v)) =
            subst (λ (o : Option SessionRecord). IsSomeAnd o (λ y. (y.state ≡ life.Live) × (y.holder ≡ Some v)))
            (ap (λ (k : ℕ). session_of k a.table) e ∙ at) old in
            q mine.1) in
            subst (λ (o : Option SessionRecord). IsSomeAnd o (λ y. (y.state ≡ life.Live) × (y.holder ≡ Some v))) (sym (others n other)) old)
      ]
    ];
    holds = λ n v y is holds. elim (eqb_tells n s) [
      | inl p ↦ (
          let one : z ≡ y = same_Some z y (sym own ∙ (ap (λ (k : ℕ). session_of k b.table) (sym p.1) ∙ is)) in
          let place : w ≡ v = same_Some w v (sym holder ∙ (ap (λ (u : SessionRecord). u.holder) one ∙ holds)) in (
            ap (λ (u : SessionRecord). u.state) (sym one) ∙ state,
            (c, ap (λ (k : ℕ). line_of k b.table) (sym place) ∙ (here ∙ ap (Bound c) (sym p.1))),
          ))
      | inr p ↦ (
          let is' : session_of n a.table ≡ Some y = sym (others n p.1) ∙ is in
          let old = tied.holds n v y is' holds in
          (old.0, (old.1.0, else_line n v y p.1 is' holds ∙ old.1.1)))
    ];
    each = λ n y is. elim (eqb_tells n s) [
      | inl p ↦ subst IsSession (same_Some z y (sym own ∙ (ap (λ (k : ℕ). session_of k b.table) (sym p.1) ∙ is))) ready
      | inr p ↦ tied.each n y (sym (others n p.1) ∙ is)
    ];
  }

  moved_known : (many : ℕ) → AreUsers many a.table → AreUsers many b.table
  moved_known many users v d u is = elim (eqb_tells v w) [
    | inl p ↦ absurd (
        let both : Bound c s ≡ Logged d u = sym here ∙ (ap (λ (k : ℕ). line_of k b.table) (sym p.1) ∙ is) in
        cc)
    | inr p ↦ elim (is_holder x.holder v) [
      | inl q ↦ absurd ((left v p.1 q).1 d u is)
      | inr q ↦ users v d u (sym (same v p.1 q) ∙ is)
    ]
  ]

  moved_few : (turns : ℕ) → b.table.opened ≡ a.table.opened → b.table.made ≡ a.table.made → IsFew turns a.table
      → z.given_up + z.queue.given ≤ turns → z.acted ≤ turns → IsFew (turns + 0) b.table
  moved_few turns opened made few sent acted = record {
    opened = omega (arith, opened, few.opened);
    made = omega (arith, made, few.made);
    sent = λ n y is. elim (eqb_tells n s) [
      | inl p ↦ subst (λ (u : SessionRecord). u.given_up + u.queue.given ≤ turns + 0)
          (same_Some z y (sym own ∙ (ap (λ (k : ℕ). session_of k b.table) (sym p.1) ∙ is))) (omega (arith, sent))
      | inr p ↦ (let old = few.sent n y (sym (others n p.1) ∙ is) in omega (arith, old))
    ];
    acted = λ n y is. elim (eqb_tells n s) [
      | inl p ↦ subst (λ (u : SessionRecord). u.acted ≤ turns + 0)
          (same_Some z y (sym own ∙ (ap (λ (k : ℕ). session_of k b.table) (sym p.1) ∙ is))) (omega (arith, acted))
      | inr p ↦ (let old = few.acted n y (sym (others n p.1) ∙ is) in omega (arith, old))
    ];
  }

  moved_at : (o : Session KeptTraffic) → session_by b.table.lines (Some z) ≡ o → (n : ℕ) → sessions_of b.table n ≡ put s o (sessions_of a.table) n
  moved_at o is n = elim (put_is s o (sessions_of a.table) n) [
    | inl p ↦ ap (λ (k : ℕ). sessions_of b.table k) p.0 ∙ (ap (session_by b.table.lines) own ∙ (is ∙ sym p.1))
    | inr p ↦
        ap (session_by b.table.lines) (others n p.0)
        ∙ (session_lines (session_of n a.table) a.table.lines b.table.lines (λ y v is' live holds. ap conn_of (else_line n v y p.0 is' holds))
        ∙ sym p.1)
  ]

-- what the session becomes
abbrev now_at : ℕ → ℕ → SessionRecord → SessionRecord
now_at w n x = held_by w (rewound_to n x)

resume_kept : (k : KeptTraffic) (n : ℕ) (o : Option ℕ) → option_map (λ m. m - k.count) o ≡ Some n
    → kept_resume k o ≡ Some (record (without n k) { given = 0; asked_at = k.given_up + n })
resume_kept k n None is = absurd (let z : ◌≡◌ {A = Option ℕ} None (Some n) = is in cc)
resume_kept k n (Some m) is = ap (λ j. Some (record (without j k) { given = 0; asked_at = k.given_up + j })) (same_Some (m - k.count) n is)

resume_held : (b : Bool) (v d w c h : ℕ) (k u : KeptTraffic) (r : Rest) → b ≡ true → kept_resume k (kept_handled k h) ≡ Some u
    → session b (Held w c) u (record r { deadline = None }) ≡ step_if brief b (Held v d) k r (Resume w c h)
resume_held true v d w c h k u r counts is = sym (ap (λ (o : Option KeptTraffic). resumed o (Held v d) k r w c) is)
resume_held false v d w c h k u r counts is = absurd (cc)

resume_away : (b : Bool) (w c h : ℕ) (k u : KeptTraffic) (r : Rest) → b ≡ true → kept_resume k (kept_handled k h) ≡ Some u
    → session b (Held w c) u (record r { deadline = None }) ≡ step_if brief b Away k r (Resume w c h)
resume_away true w c h k u r counts is = sym (ap (λ (o : Option KeptTraffic). resumed o Away k r w c) is)
resume_away false w c h k u r counts is = absurd (cc)

put_swap : {A : Type 0} (v w : ℕ) (p q : A) (f : ℕ → A) → (v ≡ w → ⊥) → put v p (put w q f) ≡ put w q (put v p f)
put_swap v w p q f apart = λ i x. by x i
  where
    by : (x : ℕ) → put v p (put w q f) x ≡ put w q (put v p f) x
    by x = elim (put_is v p (put w q f) x) [
      | inl e ↦ elim (put_is w q (put v p f) x) [
        | inl g ↦ absurd (apart (sym e.0 ∙ g.0))
        | inr g ↦ elim (put_is v p f x) [
          | inl k ↦ e.1 ∙ (sym k.1 ∙ sym g.1)
          | inr k ↦ absurd (k.0 e.0)
        ]
      ]
      | inr e ↦ elim (put_is w q (put v p f) x) [
        | inl g ↦ elim (put_is w q f x) [
          | inl k ↦ e.1 ∙ (k.1 ∙ sym g.1)
          | inr k ↦ absurd (k.0 g.0)
        ]
        | inr g ↦ elim (put_is w q f x) [
          | inl k ↦ absurd (g.0 k.0)
          | inr k ↦ elim (put_is v p f x) [
            | inl j ↦ absurd (e.0 j.0)
            | inr j ↦ e.1 ∙ (k.1 ∙ (sym j.1 ∙ sym g.1))
          ]
        ]
      ]
    ]

module _ (a : code.World) (w s h n : ℕ) (x : SessionRecord) (tied : IsTied a.table) (low : w < length a.table.lines)
    (answered : length a.answers.items ≡ length a.table.lines)
    (at : session_of s a.table ≡ Some x) (live : x.state ≡ life.Live) (counts : x.counts ≡ true)
    (logged : is_logged (line_of w a.table) ≡ true)
    (handled : acknowledged h x.queue ≡ Some n) (within : n ≤ x.queue.given) where
  abbrev t : TableRecord
  t = a.table

  abbrev c : ℕ
  c = conn_of (line_of w a.table)

  abbrev ls : ℕ → Line
  ls = lines_of a.table a.answers.items

  abbrev k : KeptTraffic
  k = traffic_of x

  abbrev r : Rest
  r = rest_of x

  abbrev z : SessionRecord
  z = now_at w n x

  abbrev t2 : TableRecord
  t2 = attached s w (changed s (rewound_to n) a.table)

  z_ready : IsSession z
  z_ready = (let old = tied.each s x at in record {
    given = omega arith;
    asked = omega arith;
    base_in = old.base_in;
    short = all_drop _ n x.queue.waiting old.short;
    away = λ on none. absurd (let e : ◌≡◌ {A = Option ℕ} (Some w) None = none in cc);
    known = old.known;
    shown = old.shown;
    pushes = old.pushes;
    address = old.address;
  })

  t2_own : session_of s t2 ≡ Some z
  t2_own = changed_here s (held_by w) (changed s (rewound_to n) t) (rewound_to n x) (changed_here s (rewound_to n) t x at)

  t2_else : (m : ℕ) → (m ≡ s → ⊥) → session_of m t2 ≡ session_of m t
  t2_else m other = changed_else s m (held_by w) (changed s (rewound_to n) t) other ∙ changed_else s m (rewound_to n) t other

  t2_here : line_of w t2 ≡ Bound c s
  t2_here = get_or-set_same t.lines w (Bound c s) Empty low

  resume_step : kept_resume k (kept_handled k h) ≡ Some (traffic_of z)
  resume_step = resume_kept k n (kept_handled k h) handled

  after_is : (ms : List stage.Line) → get_or ms w Empty ≡ Bound c s
      → session_by ms (Some z) ≡ session x.counts (Held w c) (traffic_of z) (record r { deadline = None })
  after_is ms is = seen_with z ms (Held w c) (held_is x.state (Some w) ms w live refl ∙ ap (λ (l : stage.Line). Held w (conn_of l)) is)

  z_numbers : (turns : ℕ) → IsFew turns t → (z.given_up + z.queue.given ≤ turns) × (z.acted ≤ turns)
  z_numbers turns few = (let sent = few.sent s x at in let acted = few.acted s x at in (omega (arith, sent, within), omega (arith, acted)))

  -- it was away
  away_did : (b : TableRecord) → b ≡ t2 → x.holder ≡ None → Did (On s (Resume w c h) ∷ []) 0 a (record a { table = b })
  away_did b is none = subst (λ (u : TableRecord). Did (On s (Resume w c h) ∷ []) 0 a (record a { table = u })) (sym is) (
      let d : code.World = record a { table = t2 } in
      let left : (v : ℕ) → (v ≡ w → ⊥) → x.holder ≡ Some v → IsUnbound (line_of v t2) × ((e u : ℕ) → line_of v t2 ≡ Logged e u → ⊥) =
      (λ v apart holds. absurd (let e : ◌≡◌ {A = Option ℕ} None (Some v) = sym none ∙ holds in cc)) in
      let same : (v : ℕ) → (v ≡ w → ⊥) → (x.holder ≡ Some v → ⊥) → line_of v t2 ≡ line_of v t =
      (λ v apart not. get_or-set_other t.lines w v (Bound c s) Empty apart) in
      let before : sessions_of t s ≡ session x.counts Away k r =
      ap (session_by t.lines) at ∙ seen_with x t.lines Away (away_is x.state x.holder t.lines live none) in
      let step : session_step brief (sessions_of t s) (Resume w c h) ≡ session x.counts (Held w c) (traffic_of z) (record r { deadline = None }) =
      ap (λ (o : Session KeptTraffic). session_step brief o (Resume w c h)) before ∙ sym (resume_away x.counts w c h k (traffic_of z) r counts resume_step) in
      record {
        world = λ i. record {
          opened = t.opened;
          book = a.book.book;
          rooms = a.rooms;
          archives = archives_of a.archives;
          lines = (lines_staged t a.answers.items w (Bound c s) low ∙ sym (λ j. settled s (before j).hold (step j).hold ls)) i;
          made = t.made;
          sessions = λ m. moved_at a d w s c x z tied at logged t2_own t2_else live refl t2_here left same
              (session_step brief (sessions_of t s) (Resume w c h)) (after_is t2.lines t2_here ∙ sym step) m i;
        };
        tied = moved_tied a d w s c x z tied at logged t2_own t2_else live refl t2_here left same z_ready;
        known = moved_known a d w s c x z tied at logged t2_own t2_else live refl t2_here left same;
        few = λ turns few. (let numbers = z_numbers turns few in
            moved_few a d w s c x z tied at logged t2_own t2_else live refl t2_here left same turns refl refl few numbers.0 numbers.1);
        lines = length-set t.lines w (Bound c s);
        answered = refl;
        kept = book_same;
      })

  pub resume_away_did : (b : TableRecord) (conn : ℕ) → b ≡ t2 → conn ≡ c → x.holder ≡ None → (q : code.World) → q.answers ≡ a.answers → q.book ≡ a.book
      → q.rooms ≡ a.rooms → q.archives ≡ a.archives
      → Did (On s (Resume w conn h) ∷ []) 0 a (record q { table = b })
  resume_away_did b conn is conn' none q same kept hosts files =
      subst (λ z. Did (On s (Resume w conn h) ∷ []) 0 a (record q { table = b; answers = q.answers; book = z })) (sym kept)
      (subst (λ z. Did (On s (Resume w conn h) ∷ []) 0 a (record q { table = b; answers = q.answers; book = a.book; rooms = z })) (sym hosts)
      (subst (λ z. Did (On s (Resume w conn h) ∷ []) 0 a (record q { table = b; answers = q.answers; book = a.book; rooms = a.rooms; archives = z })) (sym files)
      (subst (λ vs. Did (On s (Resume w conn h) ∷ []) 0 a (record a { table = b; answers = vs; stirred = q.stirred })) (sym same)
      (did_beside (On s (Resume w conn h) ∷ []) 0 a (record a { table = b }) q.stirred
      (subst (λ (m : ℕ). Did (On s (Resume w m h) ∷ []) 0 a (record a { table = b })) (sym conn') (away_did b is none))))))

  -- another line held it
  module _ (v : ℕ) (holds : x.holder ≡ Some v) where
    was : (d : ℕ) × (line_of v a.table ≡ Bound d s)
    was = (tied.holds s v x at holds).1

    pub v_apart : v ≡ w → ⊥
    v_apart e = logged_unbound (line_of w a.table) logged was.0 s (ap (λ (m : ℕ). line_of m a.table) (sym e) ∙ was.1)

    v_same : line_of v t2 ≡ line_of v t
    v_same = get_or-set_other t.lines w v (Bound c s) Empty v_apart

    abbrev d : ℕ
    d = conn_of (line_of v a.table)

    abbrev o : stage.Line
    o = Over (conn_of (line_of v a.table)) (Moved (conn_of (line_of w a.table)))

    abbrev t3 : TableRecord
    t3 = record t2 { lines = set t2.lines v o }

    v_low : v < length t.lines
    v_low = bound_low t.lines v was.0 s was.1

    v_free : IsFreeLine v t2
    v_free m y is holder = elim (eqb_tells m s) [
      | inl p ↦ (
          let one : z ≡ y = same_Some z y (sym t2_own ∙ (ap (λ (j : ℕ). session_of j t2) (sym p.1) ∙ is)) in
          v_apart (same_Some v w (sym holder ∙ ap (λ (u : SessionRecord). u.holder) (sym one))))
      | inr p ↦ p.1 (two_held v t s m x y tied at holds (sym (t2_else m p.1) ∙ is) holder)
    ]

    pub moved_holds : (b : TableRecord) → b ≡ t2 → Rises 0 t.sessions t.made → tables.holds v b ≡ false
    moved_holds b is rises =
        ap (tables.holds v) is
        ∙ free_holds v t2 (rises_changed s 0 t.made (held_by w) (changed s (rewound_to n) t).sessions
        (rises_changed s 0 t.made (rewound_to n) t.sessions rises)) v_free

    pub moved_low : (b : TableRecord) → b ≡ t2 → v < length b.lines
    moved_low b is =
        let many : length b.lines ≡ length t.lines = ap (λ (u : TableRecord). length u.lines) is ∙ length-set t.lines w (Bound c s) in
        let low' = v_low in
        omega (arith, many, low')

    moved_did : (b e : TableRecord) (now : List Answer) (conn : ℕ) → e ≡ t2 → conn ≡ c → b ≡ line_ended v (Moved conn) e → now ≡ []
        → Did (On s (Resume w c h) ∷ []) 0 a (record a { table = b; answers = with_item a.answers v now })
    moved_did b e now conn was' conn' is empty =
        let all : b ≡ t3 = is ∙ ((λ i. line_ended v (Moved (conn' i)) (was' i))
        ∙ (λ i. record t2 { lines = set t2.lines v (Over (conn_of (v_same i)) (Moved c)) })) in
        subst (λ (u : TableRecord). Did (On s (Resume w c h) ∷ []) 0 a (record a { table = u; answers = with_item a.answers v now })) (sym all) (
        let f : code.World = record a { table = t3; answers = with_item a.answers v now } in
        let low2 : v < length t2.lines = moved_low t2 refl in
        let here : line_of w t3 ≡ Bound c s = get_or-set_other t2.lines v w o Empty (λ e. v_apart (sym e)) ∙ t2_here in
        let at_v : line_of v t3 ≡ o = get_or-set_same t2.lines v o Empty low2 in
        let left : (u : ℕ) → (u ≡ w → ⊥) → x.holder ≡ Some u → IsUnbound (line_of u t3) × ((j g : ℕ) → line_of u t3 ≡ Logged j g → ⊥) =
        (λ u apart held.
        let one : u ≡ v = same_Some u v (sym held ∙ holds) in
        let over : line_of u t3 ≡ o = ap (λ (m : ℕ). line_of m t3) one ∙ at_v in
        ((λ j g is'. (let p : o ≡ Bound j g = sym over ∙ is' in cc)), (λ j g is'. (let p : o ≡ Logged j g = sym over ∙ is' in cc)))) in
        let same : (u : ℕ) → (u ≡ w → ⊥) → (x.holder ≡ Some u → ⊥) → line_of u t3 ≡ line_of u t =
        (λ u apart not. get_or-set_other t2.lines v u o Empty (λ e. not (holds ∙ ap Some (sym e))) ∙ get_or-set_other t.lines w u (Bound c s) Empty apart) in
        let before : sessions_of t s ≡ session x.counts (Held v d) k r =
        ap (session_by t.lines) at ∙ seen_with x t.lines (Held v d) (held_is x.state x.holder t.lines v live holds) in
        let step : session_step brief (sessions_of t s) (Resume w c h) ≡ session x.counts (Held w c) (traffic_of z) (record r { deadline = None }) =
        ap (λ (p : Session KeptTraffic). session_step brief p (Resume w c h)) before
        ∙ sym (resume_held x.counts v d w c h k (traffic_of z) r counts resume_step) in
        let settles : settled s (Held v d) (Held w c) ls ≡ put w (bound_line c s (ls w)) (put v (over_line d (Moved c)) ls) =
        ap (λ (p : Bool). moved_if (p && (d == c)) s v d w c ls) (ne_eqb v w v_apart) in
        record {
          world = λ i. record {
            opened = t.opened;
            book = a.book.book;
            rooms = a.rooms;
            archives = archives_of a.archives;
            lines = ((λ j. lines_of t3 (set a.answers.items v (empty j)))
                ∙ (lines_put t2 a.answers.items v o [] low2 (omega (arith, low2, answered, length-set t.lines w (Bound c s)))
                ∙ (ap (put v (over_line d (Moved c))) (lines_staged t a.answers.items w (Bound c s) low)
                ∙ (put_swap v w (over_line d (Moved c)) (bound_line c s (ls w)) ls v_apart
                ∙ sym ((λ j. settled s (before j).hold (step j).hold ls) ∙ settles))))) i;
            made = t.made;
            sessions = λ m. moved_at a f w s c x z tied at logged t2_own t2_else live refl here left same
                (session_step brief (sessions_of t s) (Resume w c h)) (after_is t3.lines here ∙ sym step) m i;
          };
          tied = moved_tied a f w s c x z tied at logged t2_own t2_else live refl here left same z_ready;
          known = moved_known a f w s c x z tied at logged t2_own t2_else live refl here left same;
          few = λ turns few. (let numbers = z_numbers turns few in
              moved_few a f w s c x z tied at logged t2_own t2_else live refl here left same turns refl refl few numbers.0 numbers.1);
          lines = length-set t2.lines v o ∙ length-set t.lines w (Bound c s);
          answered = length-set a.answers.items v now;
          kept = book_same;
        })

    pub resume_moved_did : (b e : TableRecord) (now : List Answer) (conn : ℕ) → e ≡ t2 → conn ≡ c → b ≡ line_ended v (Moved conn) e → now ≡ []
        → (q : code.World) → q.answers ≡ a.answers → q.book ≡ a.book → q.rooms ≡ a.rooms → q.archives ≡ a.archives
        → Did (On s (Resume w conn h) ∷ []) 0 a (record q { table = b; answers = with_item q.answers v now })
    resume_moved_did b e now conn was' conn' is empty q same' kept hosts files =
        subst (λ z. Did (On s (Resume w conn h) ∷ []) 0 a (record q { table = b; answers = with_item q.answers v now; book = z })) (sym kept)
        (subst (λ z. Did (On s (Resume w conn h) ∷ []) 0 a (record q { table = b; answers = with_item q.answers v now; book = a.book; rooms = z })) (sym hosts)
        (subst (λ z. Did (On s (Resume w conn h) ∷ []) 0 a
        (record q { table = b; answers = with_item q.answers v now; book = a.book; rooms = a.rooms; archives = z })) (sym files)
        (subst (λ vs. Did (On s (Resume w conn h) ∷ []) 0 a (record a { table = b; answers = with_item vs v now; stirred = q.stirred })) (sym same')
        (did_beside (On s (Resume w conn h) ∷ []) 0 a (record a { table = b; answers = with_item a.answers v now }) q.stirred
        (subst (λ (m : ℕ). Did (On s (Resume w m h) ∷ []) 0 a (record a { table = b; answers = with_item a.answers v now })) (sym conn')
        (moved_did b e now conn was' conn' is empty))))))

pub live_now : (s : ℕ) (t : TableRecord) (x : SessionRecord) → session_of s t ≡ Some x → IsLive s t → x.state ≡ life.Live
live_now s t x at live = (let is : IsSomeAnd (Some x) (λ y. y.state ≡ life.Live) =
    subst (λ (o : Option SessionRecord). IsSomeAnd o (λ y. y.state ≡ life.Live)) at live in is)

live_by : (o : Option SessionRecord) (n : ℕ) → IsSomeAnd o (λ y. y.state ≡ life.Live) → IsSomeAnd (option_map (rewound_to n) o) (λ y. y.state ≡ life.Live)
live_by None n live = live
live_by (Some x) n live = live

pub live_then : (s n : ℕ) (t : TableRecord) → IsLive s t → IsLive s (changed s (rewound_to n) t)
live_then s n t live =
    subst (λ (o : Option SessionRecord). IsSomeAnd o (λ y. y.state ≡ life.Live))
    (sym (lookup_changed s s (rewound_to n) t.sessions
    ∙ ap (λ (b : Bool). cond b (option_map (rewound_to n) (session_of s t)) (session_of s t)) (eq-eqb s s refl)))
    (live_by (session_of s t) n live)
