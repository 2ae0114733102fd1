-- The world, once the next session is held at a line.
use Rattle.std.proofs.Common.{◌≡◌, ◌⊎◌, inl, inr, ℕ, ◌+◌, ◌<◌, ◌≤◌, cond, Bool, true, false, [], ◌∷◌, length}
use Rattle.std.proofs.Common.{get_or, Option, Some, None, refl, sym, ap, subst, ◌∙◌, arith}
use Rattle.std.specs.Prelude.{IsSomeAnd}
use Rattle.std.proofs.lemmas.Bool.Decides.{eqb_tells}
use Rattle.std.proofs.lemmas.List.{length-set, get_or-set_same}
use Rattle.std.proofs.lemmas.Option.{same_Some}
use Rattle.jid_core.specs.Addresses.{Address}
use Rattle.session_table.specs.declared.life.Life.TheVariants.{Live}
use Rattle.session_table.specs.declared.line.Line as stage
use Rattle.session_table.specs.declared.line.Line.TheVariants.{Empty, Logged, Bound}
use Rattle.session_table.specs.Sessions.{SessionRecord}
use Rattle.session_table.specs.Sessions as table
use Rattle.session_table.specs.Tables.{TableRecord, Rises, bound, conn_of, is_logged, line_of, session_of}
use Rattle.session_table.proofs.ListLemmas.{number_is_new}
use Rattle.session_table.proofs.NumberLemmas.{lookup_added}
use Rattle.house_model.specs.Numbered.{put}
use Rattle.house_model.specs.Sessions.{Held, Session, begun}
use Rattle.house_model.specs.Traffic.{KeptTraffic, brief}
use Rattle.house_model.specs.Effects.{Begin}
use Rattle.house_model.proofs.PutLemmas.{put_is}
use Rattle.house_world.specs.declared.world.World as code
use Rattle.house_world.specs.Views.{session_by, sessions_of}
use Rattle.house_model.specs.Fitting.{IsShortAddress}
use Rattle.house_world.specs.Wholes.{IsSession, IsFreeLine, IsTied, IsFew}
use Rattle.house_world.specs.Worlds.{Did, seen}
use Rattle.house_world.proofs.ReadLemmas.{lines_staged, place_set, sessions_line}
use Rattle.house_world.proofs.TiedLemmas.{IsUnbound, line_free}
use Rattle.house_world.proofs.BookLemmas.{book_same}

-- a line that is logged in is no session's
pub logged_unbound : (l : stage.Line) → is_logged l ≡ true → IsUnbound l
logged_unbound l logged = λ d s is. (
    let z : false ≡ true = ap is_logged (sym is) ∙ logged in
    cc)

pub logged_free : (w : ℕ) (t : TableRecord) → IsTied t → is_logged (line_of w t) ≡ true → IsFreeLine w t
logged_free w t tied logged = line_free w t tied (logged_unbound (line_of w t) logged)

begun_ready : (n : ℕ) (address : Address) (w : ℕ) → IsShortAddress address → IsSession (table.begun n address w)
begun_ready n address w short = record {
  given = omega arith;
  asked = omega arith;
  base_in = omega arith;
  short = tt;
  away = λ live none. absurd (let z : ◌≡◌ {A = Option ℕ} (Some w) None = none in cc);
  known = λ some. absurd (let z : false ≡ true = some in cc);
  shown = tt;
  pushes = omega arith;
  address = short;
}

module _ (a : code.World) (w spare : ℕ) (address : Address) (tied : IsTied a.table) (low : w < length a.table.lines)
    (logged : is_logged (line_of w a.table) ≡ true) (rises : Rises 0 a.table.sessions a.table.made) (short : IsShortAddress address) where
  abbrev t : TableRecord
  t = a.table

  abbrev c : ℕ
  c = conn_of (line_of w a.table)

  abbrev s : ℕ
  s = a.table.made + 1

  abbrev l : stage.Line
  l = Bound (conn_of (line_of w a.table)) (a.table.made + 1)

  abbrev x : SessionRecord
  x = table.begun (a.table.made + 1) address w

  abbrev u : TableRecord
  u = record (bound w address a.table) { spare = spare }

  -- the session of a number is the new one, or was there
  begun_at : (n : ℕ) → ((n ≡ s) × (session_of n u ≡ Some x)) ⊎ ((n ≡ s → ⊥) × (session_of n u ≡ session_of n t))
  begun_at n = elim (eqb_tells s n) [
    | inl p ↦ inl (sym p.1, lookup_added n 0 t.made x t.sessions rises ∙ ap (λ (b : Bool). cond b (Some x) (session_of n t)) p.0)
    | inr p ↦ inr (
      λ e. p.1 (sym e),
      lookup_added n 0 t.made x t.sessions rises ∙ ap (λ (b : Bool). cond b (Some x) (session_of n t)) p.0,
    )
  ]

  none_yet : session_of s t ≡ None
  none_yet = number_is_new 0 t.made s t.sessions rises (omega arith)

  here : session_by u.lines (Some x) ≡ begun brief w c address
  here = ap (λ (y : stage.Line). record (begun brief w c address) { hold = Held w (conn_of y) }) (get_or-set_same t.lines w l Empty low)

  seen_at : (n : ℕ) → sessions_of u n ≡ put s (begun brief w c address) (sessions_of t) n
  seen_at n = elim (put_is s (begun brief w c address) (sessions_of t) n) [
    | inl p ↦ elim (begun_at n) [
      | inl q ↦ ap (session_by u.lines) q.1 ∙ (here ∙ sym p.1)
      | inr q ↦ absurd (q.0 p.0)
    ]
    | inr p ↦ elim (begun_at n) [
      | inl q ↦ absurd (p.0 q.0)
      | inr q ↦ ap (session_by u.lines) q.1
          ∙ (ap (λ (f : ℕ → Session KeptTraffic). f n) (sessions_line t w l low (λ k y at live holder. refl))
          ∙ sym p.1)
    ]
  ]

  begun_tied : IsTied u
  begun_tied = record {
    bound = λ v d n is. elim (place_set t.lines w v l Empty low) [
      | inl p ↦ (
          let same : l ≡ Bound d n = sym p.1 ∙ is in
          let number : s ≡ n = (cc) in
          elim (begun_at n) [
            | inl q ↦ subst (λ (o : Option SessionRecord). IsSomeAnd o (λ z. (z.state ≡ Live) × (z.holder ≡ Some v))) (sym q.1) (refl, ap Some (sym p.0))
            | inr q ↦ absurd (q.0 (sym number))
          ])
      | inr p ↦ (
          let old = tied.bound v d n (sym p.1 ∙ is) in
          elim (begun_at n) [
            | inl q ↦ absurd (subst (λ (o : Option SessionRecord). IsSomeAnd o (λ z. (z.state ≡ Live) × (z.holder ≡ Some v)))
                (ap (λ (k : ℕ). session_of k t) q.0 ∙ none_yet) old)
            | inr q ↦ subst (λ (o : Option SessionRecord). IsSomeAnd o (λ z. (z.state ≡ Live) × (z.holder ≡ Some v))) (sym q.1) old
          ])
    ];
    holds = λ n v y is holder. elim (begun_at n) [
      | inl q ↦ (
          let same : x ≡ y = same_Some x y (sym q.1 ∙ is) in
          let place : w ≡ v = same_Some w v (ap (λ (z : SessionRecord). z.holder) same ∙ holder) in (
            ap (λ (z : SessionRecord). z.state) (sym same),
            (c, ap (λ (k : ℕ). get_or u.lines k Empty) (sym place) ∙ (get_or-set_same t.lines w l Empty low ∙ ap (Bound c) (sym q.0))),
          ))
      | inr q ↦ (
          let old = tied.holds n v y (sym q.1 ∙ is) holder in
          elim (place_set t.lines w v l Empty low) [
            | inl p ↦ absurd (logged_free w t tied logged n y (sym q.1 ∙ is) (holder ∙ ap Some p.0))
            | inr p ↦ (old.0, (old.1.0, p.1 ∙ old.1.1))
          ])
    ];
    each = λ n y is. elim (begun_at n) [
      | inl q ↦ subst IsSession (same_Some x y (sym q.1 ∙ is)) (begun_ready s address w short)
      | inr q ↦ tied.each n y (sym q.1 ∙ is)
    ];
  }

  begun_few : (turns : ℕ) → IsFew turns t → IsFew (turns + 1) u
  begun_few turns few = record {
    opened = omega (arith, few.opened);
    made = omega (arith, few.made);
    sent = λ n y is. elim (begun_at n) [
      | inl q ↦ subst (λ (z : SessionRecord). z.given_up + z.queue.given ≤ turns + 1) (same_Some x y (sym q.1 ∙ is)) (omega arith)
      | inr q ↦ (let old = few.sent n y (sym q.1 ∙ is) in omega (arith, old))
    ];
    acted = λ n y is. elim (begun_at n) [
      | inl q ↦ subst (λ (z : SessionRecord). z.acted ≤ turns + 1) (same_Some x y (sym q.1 ∙ is)) (omega arith)
      | inr q ↦ (let old = few.acted n y (sym q.1 ∙ is) in omega (arith, old))
    ];
  }

  pub begin_did : (b : TableRecord) → b ≡ u → Did (Begin w c address ∷ []) 1 a (record a { table = b })
  begin_did b is = subst (λ (k : TableRecord). Did (Begin w c address ∷ []) 1 a (record a { table = k })) (sym is) (record {
    world = λ i. record (seen a) {
      lines = lines_staged t a.answers.items w l low i;
      made = s;
      sessions = λ n. seen_at n i;
    };
    tied = begun_tied;
    known = λ many users v d n at. elim (place_set t.lines w v l Empty low) [
      | inl p ↦ absurd (let z : l ≡ Logged d n = sym p.1 ∙ at in cc)
      | inr p ↦ users v d n (sym p.1 ∙ at)
    ];
    few = begun_few;
    lines = length-set t.lines w l;
    answered = refl;
    kept = book_same;
  })
