-- What effects on sessions leave as it is.
use Rattle.std.proofs.Common.{◌≡◌, inl, inr, ℕ, List, [], ◌∷◌, Option, Some, None, refl, sym, ap, subst, ◌∙◌}
use Rattle.std.specs.Prelude.{IsSomeAnd, is_some, true}
use Rattle.std.proofs.lemmas.Bool.Decides.{eqb_tells}
use Rattle.sm_resume.specs.declared.decision.Cause.{Cause}
use Rattle.session_table.specs.declared.life.Life.TheVariants.{Over}
use Rattle.session_table.specs.declared.line.Line as stage
use Rattle.session_table.specs.Sessions.{SessionRecord}
use Rattle.session_table.specs.Tables.{TableRecord, session_of, with_session}
use Rattle.house_model.specs.Effects.{On}
use Rattle.house_model.specs.Lookups.{is_there}
use Rattle.house_model.specs.Sessions.{End, Ended, Session, session_step}
use Rattle.house_model.specs.Traffic.{KeptTraffic, brief}
use Rattle.house_model.specs.States.{World}
use Rattle.house_model.proofs.PutLemmas.{put_else}
use Rattle.house_world.specs.declared.world.World as code
use Rattle.house_world.specs.Views.{session_by, sessions_of}
use Rattle.house_world.specs.Wholes.{IsTied}
use Rattle.house_world.specs.Worlds.{Did, IsOver, Stays}
use Rattle.house_world.proofs.AtLemmas.{there_is}
use Rattle.house_world.proofs.DepartLemmas.{end_keeps, over_after, over_there, some_of}
use Rattle.house_world.proofs.OffLemmas.{there}
use Rattle.house_world.proofs.PartLemmas.{over_is}
use Rattle.house_world.proofs.TiedLemmas.{changed_else, changed_here}

pub stays_same : (a : code.World) → Stays a a
stays_same a = record { logged = λ w c u at. (at, refl); there = λ n is. is; over = λ n is. is; spare = refl }

pub stays_then : (a b c : code.World) → Stays a b → Stays b c → Stays a c
stays_then a b c one two = record {
  logged = λ w d u at.
      let first = one.logged w d u at in
      let second = two.logged w d u first.0 in
      (second.0, second.1 ∙ first.1);
  there = λ n is. two.there n (one.there n is);
  over = λ n is. two.over n (one.over n is);
  spare = two.spare ∙ one.spare;
}

-- a session is another one, of the same state
is_with : (s n : ℕ) (t : TableRecord) (x y : SessionRecord) → session_of s t ≡ Some x → is_some (session_of n t) ≡ true
    → is_some (session_of n (with_session s t y)) ≡ true
is_with s n t x y at is = elim (eqb_tells n s) [
  | inl p ↦ ap (λ (k : ℕ). is_some (session_of k (with_session s t y))) p.1 ∙ ap (λ (o : Option SessionRecord). is_some o) (changed_here s (λ _. y) t x at)
  | inr p ↦ ap (λ (o : Option SessionRecord). is_some o) (changed_else s n (λ _. y) t p.1) ∙ is
]

over_with : (s n : ℕ) (t : TableRecord) (x y : SessionRecord) → session_of s t ≡ Some x → y.state ≡ x.state → IsOver n t
    → IsOver n (with_session s t y)
over_with s n t x y at same is = elim (eqb_tells n s) [
  | inl p ↦
      let was = subst (λ (o : Option SessionRecord). IsSomeAnd o (λ z. (cause : Cause) × (z.state ≡ Over cause)))
      (ap (λ (k : ℕ). session_of k t) p.1 ∙ at) is in
      subst (λ (o : Option SessionRecord). IsSomeAnd o (λ z. (cause : Cause) × (z.state ≡ Over cause)))
      (sym (ap (λ (k : ℕ). session_of k (with_session s t y)) p.1 ∙ changed_here s (λ _. y) t x at)) (was.0, same ∙ was.1)
  | inr p ↦ subst (λ (o : Option SessionRecord). IsSomeAnd o (λ z. (cause : Cause) × (z.state ≡ Over cause)))
      (sym (changed_else s n (λ _. y) t p.1)) is
]

pub stays_with : (a : code.World) (s : ℕ) (x y : SessionRecord) → session_of s a.table ≡ Some x → y.state ≡ x.state
    → Stays a (record a { table = with_session s a.table y })
stays_with a s x y at same = record {
  logged = λ w c u at. (at, refl);
  there = λ n is. is_with s n a.table x y at is;
  over = λ n is. over_with s n a.table x y at same is;
  spare = refl;
}

-- a session is as it was
there_by : (ls : List stage.Line) (o : Option SessionRecord) → is_there (session_by ls o) ≡ true → is_some o ≡ true
there_by ls None is = is
there_by ls (Some x) is = refl

pub there_kept : (a b : code.World) (n : ℕ) → IsTied a.table → sessions_of b.table n ≡ sessions_of a.table n
    → is_some (session_of n a.table) ≡ true → is_some (session_of n b.table) ≡ true
there_kept a b n tied same is =
    let who = some_of (session_of n a.table) is in
    there_by b.table.lines (session_of n b.table)
    (ap is_there same ∙ (ap (λ (o : Option SessionRecord). is_there (session_by a.table.lines o)) who.1
    ∙ there_is who.0 a.table.lines (tied.each n who.0 who.1)))

over_kept : (a b : code.World) (n : ℕ) → sessions_of b.table n ≡ sessions_of a.table n → IsOver n a.table → IsOver n b.table
over_kept a b n same is =
    let who = there (λ (x : SessionRecord). (cause : Cause) × (x.state ≡ Over cause)) (session_of n a.table) is in
    let held : (sessions_of b.table n).hold ≡ Ended who.2.0 =
    ap (λ (o : Session KeptTraffic). o.hold) same
    ∙ (ap (λ (o : Option SessionRecord). (session_by a.table.lines o).hold) who.1
    ∙ over_is who.0.state who.0.holder a.table.lines who.2.0 who.2.1) in
    let now = over_there b.table.lines (session_of n b.table) who.2.0 held in
    subst (λ (o : Option SessionRecord). IsSomeAnd o (λ z. (cause : Cause) × (z.state ≡ Over cause))) (sym now.1) (who.2.0, now.2)

-- a session ends
pub ended_over : (a b : code.World) (s : ℕ) (x : SessionRecord) (cause : Cause) → IsTied a.table → session_of s a.table ≡ Some x
    → Did (On s (End cause) ∷ []) 0 a b → IsOver s b.table
ended_over a b s x cause tied at did =
    let over = over_after a b s x cause tied at did in
    subst (λ (o : Option SessionRecord). IsSomeAnd o (λ z. (c : Cause) × (z.state ≡ Over c))) (sym over.2) (over.0, over.3)

pub stays_ended : (a b : code.World) (s : ℕ) (x : SessionRecord) (cause : Cause) → IsTied a.table → session_of s a.table ≡ Some x
    → Did (On s (End cause) ∷ []) 0 a b → b.table.spare ≡ a.table.spare → Stays a b
stays_ended a b s x cause tied at did spare =
    let over = over_after a b s x cause tied at did in
    let same : (n : ℕ) → (n ≡ s → ⊥) → sessions_of b.table n ≡ sessions_of a.table n =
    λ n other. ap (λ (o : World KeptTraffic). o.sessions n) did.world
    ∙ put_else s (session_step brief (sessions_of a.table s) (End cause)) (sessions_of a.table) n other in
    record {
      logged = end_keeps a b s x cause tied at did;
      there = λ n is. elim (eqb_tells n s) [
        | inl p ↦ ap (λ (k : ℕ). is_some (session_of k b.table)) p.1 ∙ ap (λ (o : Option SessionRecord). is_some o) over.2
        | inr p ↦ there_kept a b n tied (same n p.1) is
      ];
      over = λ n is. elim (eqb_tells n s) [
        | inl p ↦ subst (λ (k : ℕ). IsOver k b.table) (sym p.1) (ended_over a b s x cause tied at did)
        | inr p ↦ over_kept a b n (same n p.1) is
      ];
      spare = spare;
    }
