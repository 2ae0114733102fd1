-- Sessions that have ended, and depart.
use Rattle.std.proofs.Common.{◌≡◌, ◌⊎◌, inl, inr, ℕ, cond, Bool, true, false, List, [], ◌∷◌, Option, Some, None, refl, sym, ap, subst, ◌∙◌, arith}
use Rattle.std.specs.Prelude.{IsSomeAnd, is_some}
use Rattle.std.proofs.lemmas.Bool.Decides.{eqb_tells}
use Rattle.sm_resume.specs.declared.decision.Cause.{Cause}
use Rattle.session_table.specs.declared.life.Life.{Life}
use Rattle.session_table.specs.declared.life.Life.TheVariants.{Live, Over}
use Rattle.session_table.specs.declared.line.Line as stage
use Rattle.session_table.specs.declared.line.Line.TheVariants.{Logged, Bound}
use Rattle.session_table.specs.Sessions.{SessionRecord}
use Rattle.session_table.specs.Tables.{TableRecord, Rises, conn_of, line_of, session_of, without}
use Rattle.session_table.proofs.NumberLemmas.{lookup_removed}
use Rattle.archive_table.specs.Tables.{archives_of}
use Rattle.house_model.specs.Numbered.{put}
use Rattle.house_model.specs.Sessions.{Held, Away, Ended, End, Part, Rest, Session, session, gone, step_if, session_step}
use Rattle.house_model.specs.Traffic.{KeptTraffic, brief, nothing_kept}
use Rattle.house_model.specs.States.{Line, World}
use Rattle.house_model.specs.Effects.{On, over_line, settled}
use Rattle.house_model.proofs.PutLemmas.{put_is, put_here, put_else}
use Rattle.house_world.specs.declared.world.World as code
use Rattle.house_world.specs.Views.{hold_by, traffic_of, rest_of, session_by, sessions_of}
use Rattle.house_world.specs.Wholes.{IsTied}
use Rattle.house_world.specs.Worlds.{Did, KeepsLogged, seen}
use Rattle.house_world.proofs.ReadLemmas.{away_is, held_is, seen_with}
use Rattle.house_world.proofs.OffLemmas.{end_is}
use Rattle.house_world.proofs.PartLemmas.{end_again, end_away, over_is}
use Rattle.house_world.proofs.BookLemmas.{book_same}

pub some_of : {A : Type 0} (o : Option A) → is_some o ≡ true → (x : A) × (o ≡ Some x)
some_of None is = absurd (cc)
some_of (Some x) is = (x, refl)

-- it is there, and over
pub over_there : (ls : List stage.Line) (o : Option SessionRecord) (c : Cause) → (session_by ls o).hold ≡ Ended c
    → (y : SessionRecord) × (o ≡ Some y) × (y.state ≡ Over c)
over_there ls None c is = absurd (let z : Away ≡ Ended c = is in cc)
over_there ls (Some y) c is = (y, refl, by y.state y.holder is)
  where
    by : (l : Life) (h : Option ℕ) → hold_by l h ls ≡ Ended c → l ≡ Over c
    by (Over d) h is = (cc)
    by Live None is = absurd (cc)
    by Live (Some w) is = absurd (cc)

abbrev IsEnded : (b : Session KeptTraffic) → Cause → Type 0
IsEnded b cause = (c : Cause) × ((session_step brief b (End cause)).hold ≡ Ended c)

ends_by : (a : code.World) (s : ℕ) (x : SessionRecord) (cause : Cause) (l : Life) (h : Option ℕ) → IsTied a.table → session_of s a.table ≡ Some x
    → x.state ≡ l → x.holder ≡ h → IsEnded (sessions_of a.table s) cause
ends_by a s x cause (Over c) h tied at state holder =
    let before : sessions_of a.table s ≡ session x.counts (Ended c) (traffic_of x) (rest_of x) =
    ap (session_by a.table.lines) at ∙ seen_with x a.table.lines (Ended c) (over_is x.state x.holder a.table.lines c state) in (
      c,
      ap (λ (o : Session KeptTraffic). (session_step brief o (End cause)).hold) before
          ∙ ap (λ (o : Session KeptTraffic). o.hold) (end_again x.counts c (traffic_of x) (rest_of x) cause),
    )
ends_by a s x cause Live None tied at state holder =
    let before : sessions_of a.table s ≡ session x.counts Away (traffic_of x) (rest_of x) =
    ap (session_by a.table.lines) at ∙ seen_with x a.table.lines Away (away_is x.state x.holder a.table.lines state holder) in (
      cause,
      ap (λ (o : Session KeptTraffic). (session_step brief o (End cause)).hold) before
          ∙ ap (λ (o : Session KeptTraffic). o.hold) (sym (end_away x.counts (traffic_of x) (rest_of x) cause ((tied.each s x at).away state holder))),
    )
ends_by a s x cause Live (Some w) tied at state holder =
    let d = conn_of (line_of w a.table) in
    let before : sessions_of a.table s ≡ session x.counts (Held w d) (traffic_of x) (rest_of x) =
    ap (session_by a.table.lines) at ∙ seen_with x a.table.lines (Held w d) (held_is x.state x.holder a.table.lines w state holder) in (
      cause,
      ap (λ (o : Session KeptTraffic). (session_step brief o (End cause)).hold) before
          ∙ ap (λ (o : Session KeptTraffic). o.hold) (sym (end_is x.counts w d (traffic_of x) (rest_of x) cause)),
    )

pub over_after : (a b : code.World) (s : ℕ) (x : SessionRecord) (cause : Cause) → IsTied a.table → session_of s a.table ≡ Some x
    → Did (On s (End cause) ∷ []) 0 a b → (c : Cause) × (y : SessionRecord) × (session_of s b.table ≡ Some y) × (y.state ≡ Over c)
over_after a b s x cause tied at did =
    let ends = ends_by a s x cause x.state x.holder tied at refl refl in
    let now : (sessions_of b.table s).hold ≡ Ended ends.0 =
    ap (λ (o : World KeptTraffic). (o.sessions s).hold) did.world
    ∙ (ap (λ (o : Session KeptTraffic). o.hold) (put_here s (session_step brief (sessions_of a.table s) (End cause)) (sessions_of a.table)) ∙ ends.1) in
    let there = over_there b.table.lines (session_of s b.table) ends.0 now in
    (ends.0, there.0, there.1, there.2)

-- the lines on which nobody has a session are as before
keeps_same : (a b : code.World) → (seen b).lines ≡ (seen a).lines → KeepsLogged a b
keeps_same a b same = λ v c u at.
    let now = ap (λ (f : ℕ → Line). f v) same in
    (ap (λ (l : Line). l.stage) now ∙ at, ap (λ (l : Line). l.answers) now)

keeps_put : (a b : code.World) (w : ℕ) (L : Line) → (seen b).lines ≡ put w L (seen a).lines
    → ((c u : ℕ) → line_of w a.table ≡ Logged c u → ⊥) → KeepsLogged a b
keeps_put a b w L same unlogged = λ v c u at.
    let other : v ≡ w → ⊥ = (λ e. unlogged c u (ap (λ (k : ℕ). line_of k a.table) (sym e) ∙ at)) in
    let now : (seen b).lines v ≡ (seen a).lines v = ap (λ (f : ℕ → Line). f v) same ∙ put_else w L (seen a).lines v other in
    (ap (λ (l : Line). l.stage) now ∙ at, ap (λ (l : Line). l.answers) now)

keeps_by : (a b : code.World) (s : ℕ) (x : SessionRecord) (cause : Cause) (l : Life) (h : Option ℕ) → IsTied a.table → session_of s a.table ≡ Some x
    → x.state ≡ l → x.holder ≡ h → Did (On s (End cause) ∷ []) 0 a b → KeepsLogged a b
keeps_by a b s x cause (Over c) h tied at state holder did =
    let ends = ends_by a s x cause (Over c) h tied at state holder in
    let before : (sessions_of a.table s).hold ≡ Ended c =
    ap (λ (o : Option SessionRecord). (session_by a.table.lines o).hold) at ∙ over_is x.state x.holder a.table.lines c state in
    keeps_same a b (ap (λ (o : World KeptTraffic). o.lines) did.world ∙ (λ i. settled s (before i) (ends.1 i) (seen a).lines))
keeps_by a b s x cause Live None tied at state holder did =
    let ends = ends_by a s x cause Live None tied at state holder in
    let before : (sessions_of a.table s).hold ≡ Away =
    ap (λ (o : Option SessionRecord). (session_by a.table.lines o).hold) at ∙ away_is x.state x.holder a.table.lines state holder in
    keeps_same a b (ap (λ (o : World KeptTraffic). o.lines) did.world ∙ (λ i. settled s (before i) (ends.1 i) (seen a).lines))
keeps_by a b s x cause Live (Some w) tied at state holder did =
    let ends = ends_by a s x cause Live (Some w) tied at state holder in
    let d = conn_of (line_of w a.table) in
    let before : (sessions_of a.table s).hold ≡ Held w d =
    ap (λ (o : Option SessionRecord). (session_by a.table.lines o).hold) at ∙ held_is x.state x.holder a.table.lines w state holder in
    let bound = (tied.holds s w x at holder).1 in
    keeps_put a b w (over_line d ends.0) (ap (λ (o : World KeptTraffic). o.lines) did.world ∙ (λ i. settled s (before i) (ends.1 i) (seen a).lines))
    (λ c u is. (let z : Bound bound.0 s ≡ Logged c u = sym bound.1 ∙ is in cc))

pub end_keeps : (a b : code.World) (s : ℕ) (x : SessionRecord) (cause : Cause) → IsTied a.table → session_of s a.table ≡ Some x
    → Did (On s (End cause) ∷ []) 0 a b → KeepsLogged a b
end_keeps a b s x cause tied at did = keeps_by a b s x cause x.state x.holder tied at refl refl did

-- it departs
module _ (a : code.World) (s spare : ℕ) (c : Cause) (x : SessionRecord) (tied : IsTied a.table) (rises : Rises 0 a.table.sessions a.table.made)
    (at : session_of s a.table ≡ Some x) (state : x.state ≡ Over c) where
  abbrev was : TableRecord
  was = a.table

  abbrev now : TableRecord
  now = record (without s a.table) { spare = spare }

  left_at : (n : ℕ) → ((n ≡ s) × (session_of n now ≡ None)) ⊎ ((n ≡ s → ⊥) × (session_of n now ≡ session_of n was))
  left_at n = elim (eqb_tells s n) [
    | inl p ↦ inl (sym p.1, lookup_removed s n 0 was.made was.sessions rises ∙ ap (λ (b : Bool). cond b None (session_of n was)) p.0)
    | inr p ↦ inr (λ e. p.1 (sym e), lookup_removed s n 0 was.made was.sessions rises ∙ ap (λ (b : Bool). cond b None (session_of n was)) p.0)
  ]

  there_still : (n : ℕ) (y : SessionRecord) → session_of n now ≡ Some y → session_of n was ≡ Some y
  there_still n y is = elim (left_at n) [
    | inl p ↦ absurd (let z : ◌≡◌ {A = Option SessionRecord} None (Some y) = sym p.1 ∙ is in cc)
    | inr p ↦ sym p.1 ∙ is
  ]

  part_before : sessions_of was s ≡ session x.counts (Ended c) (traffic_of x) (rest_of x)
  part_before = ap (session_by was.lines) at ∙ seen_with x was.lines (Ended c) (over_is x.state x.holder was.lines c state)

  parts : (b : Bool) (k : KeptTraffic) (r : Rest) → step_if brief b (Ended c) k r Part ≡ gone nothing_kept
  parts true k r = refl
  parts false k r = refl

  part_step : session_step brief (sessions_of was s) Part ≡ gone nothing_kept
  part_step = ap (λ (o : Session KeptTraffic). session_step brief o Part) part_before ∙ parts x.counts (traffic_of x) (rest_of x)

  part_at : (n : ℕ) → sessions_of now n ≡ put s (session_step brief (sessions_of was s) Part) (sessions_of was) n
  part_at n = elim (put_is s (session_step brief (sessions_of was s) Part) (sessions_of was) n) [
    | inl p ↦ elim (left_at n) [
      | inl q ↦ ap (session_by was.lines) q.1 ∙ (sym part_step ∙ sym p.1)
      | inr q ↦ absurd (q.0 p.0)
    ]
    | inr p ↦ elim (left_at n) [
      | inl q ↦ absurd (p.0 q.0)
      | inr q ↦ ap (session_by was.lines) q.1 ∙ sym p.1
    ]
  ]

  part_tied : IsTied now
  part_tied = record {
    bound = λ v d n is.
        let old = tied.bound v d n is in
        elim (left_at n) [
          | inl q ↦ absurd (
              let kept : IsSomeAnd (Some x) (λ z. (z.state ≡ Live) × (z.holder ≡ Some v)) =
              subst (λ (o : Option SessionRecord). IsSomeAnd o (λ z. (z.state ≡ Live) × (z.holder ≡ Some v)))
              (ap (λ (k : ℕ). session_of k was) q.0 ∙ at) old in
              let z : Over c ≡ Live = sym state ∙ kept.0 in
              cc)
          | inr q ↦ subst (λ (o : Option SessionRecord). IsSomeAnd o (λ z. (z.state ≡ Live) × (z.holder ≡ Some v))) (sym q.1) old
        ];
    holds = λ n v y is holder. tied.holds n v y (there_still n y is) holder;
    each = λ n y is. tied.each n y (there_still n y is);
  }

  pub part_did : (b : TableRecord) → b ≡ now → Did (On s Part ∷ []) 0 a (record a { table = b })
  part_did b is = subst (λ (k : TableRecord). Did (On s Part ∷ []) 0 a (record a { table = k })) (sym is) (record {
    world = λ i. record {
      opened = was.opened;
      book = a.book.book;
      rooms = a.rooms;
      archives = archives_of a.archives;
      lines = sym (λ j. settled s (part_before j).hold (part_step j).hold (seen a).lines) i;
      made = was.made;
      sessions = λ n. part_at n i;
    };
    tied = part_tied;
    known = λ many users. users;
    few = λ turns few. record {
      opened = omega (arith, few.opened);
      made = omega (arith, few.made);
      sent = λ n y is. (let old = few.sent n y (there_still n y is) in omega (arith, old));
      acted = λ n y is. (let old = few.acted n y (there_still n y is) in omega (arith, old));
    };
    lines = refl;
    answered = refl;
    kept = book_same;
  })
