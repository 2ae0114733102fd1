-- What a departure makes of sessions and lines: its own session is gone, and the connection that held it is over.
use Rattle.std.proofs.Common.{◌≡◌, ◌⊎◌, inl, inr, ℕ, List, [], ◌∷◌, ◌++◌, map, Bool, true, false, refl, sym, ap, ◌∙◌, true≢false}
use Rattle.stanza_model.specs.declared.effect.Effect as stanza
use Rattle.stanza_model.specs.declared.effect.Effect.TheVariants.{Queue, Set}
use Rattle.stanza_model.specs.declared.effect.Effect.TheVariants as effect
use Rattle.stanza_model.specs.declared.effect.Change.TheVariants as change
use Rattle.sm_resume.specs.declared.decision.Cause.{Cause}
use Rattle.session_table.specs.declared.line.Line.TheVariants.{Bound, Over}
use Rattle.house_model.specs.Sessions.{Hold, Held, Away, Ended, Gone, Rest, Session, End, Part, step_if, session_step}
use Rattle.house_model.specs.Traffic.{Traffic, whole}
use Rattle.house_model.specs.States.{Line, World}
use Rattle.house_model.specs.Effects.{Effect, On, settled, apply, apply_all}
use Rattle.house_model.specs.Lookups.{is_there_by}
use Rattle.house_model.specs.Steps.{effect_of}
use Rattle.house_model.proofs.PutLemmas.{put_here, put_else}
use Rattle.house_model.proofs.SoundLemmas.{same_or_not}
use Rattle.house_model.proofs.FitLemmas.{IsMatched, matched_on}
use Rattle.house_model.proofs.Joins.{apply_append}
use Rattle.house_model.proofs.MildEffects.{AllMild, AllMildTo, all_mild_to, mild_to_append, all_treat, ended_stays}
use Rattle.house_model.proofs.MildLines.{Crowds, Runs, all_run, settled_over}

-- what comes of a stanza is mild
pub queued_mild : (es : List stanza.Effect) → AllMild (map effect_of es)
queued_mild [] = tt
queued_mild (Queue s to rest origin ∷ more) = (tt, queued_mild more)
queued_mild (Set (change.WantsRoster s) ∷ more) = (tt, queued_mild more)
queued_mild (Set (change.Pushed s pushes) ∷ more) = (tt, queued_mild more)
queued_mild (Set (change.Contact user address name groups) ∷ more) = (tt, queued_mild more)
queued_mild (Set (change.NoContact user address) ∷ more) = (tt, queued_mild more)
queued_mild (Set (change.Sees a b now) ∷ more) = (tt, queued_mild more)
queued_mild (Set (change.Asked a b now) ∷ more) = (tt, queued_mild more)
queued_mild (Set (change.Available s stanza priority) ∷ more) = (tt, queued_mild more)
queued_mild (Set (change.Unavailable s) ∷ more) = (tt, queued_mild more)
queued_mild (Set (change.Directed s addresses) ∷ more) = (tt, queued_mild more)
queued_mild (effect.Broadcast n item ∷ more) = (tt, queued_mild more)
queued_mild (effect.Enter n s address nick role ∷ more) = (tt, queued_mild more)
queued_mild (effect.Leave n s ∷ more) = (tt, queued_mild more)
queued_mild (effect.Keep user peer text moment ∷ more) = (tt, queued_mild more)
queued_mild (Set (change.RoomMade n address owner) ∷ more) = (tt, queued_mild more)
queued_mild (Set (change.RoomGone n) ∷ more) = (tt, queued_mild more)
queued_mild (Set (change.Unlocked n) ∷ more) = (tt, queued_mild more)
queued_mild (Set (change.Configured n config) ∷ more) = (tt, queued_mild more)
queued_mild (Set (change.Affiliated n address a) ∷ more) = (tt, queued_mild more)
queued_mild (Set (change.RoleSet n s role) ∷ more) = (tt, queued_mild more)
queued_mild (Set (change.Renamed n s nick) ∷ more) = (tt, queued_mild more)
queued_mild (Set (change.OccupantShown n s presence) ∷ more) = (tt, queued_mild more)
queued_mild (Set (change.Subject n text stamp) ∷ more) = (tt, queued_mild more)
queued_mild (Set (change.RoomRow n peer text moment) ∷ more) = (tt, queued_mild more)

-- the session's own operations

end_over : (b : Bool) (m : Hold) (t : Traffic) (r : Rest) (cause : Cause) → is_there_by m b ≡ true
    → (c : Cause) × ((step_if whole b m t r (End cause)).hold ≡ Ended c)
end_over true (Held v d) t r cause there = (cause, refl)
end_over false (Held v d) t r cause there = (cause, refl)
end_over true Away t r cause there = (cause, refl)
end_over false Away t r cause there = absurd (true≢false (sym there))
end_over true (Ended c) t r cause there = (c, refl)
end_over false (Ended c) t r cause there = (c, refl)
end_over b Gone t r cause there = absurd (true≢false (sym there))

over_parts : (b : Bool) (t : Traffic) (r : Rest) (c : Cause) → (step_if whole b (Ended c) t r Part).hold ≡ Gone
over_parts true t r c = refl
over_parts false t r c = refl

part_gone : (x : Session Traffic) (c : Cause) → x.hold ≡ Ended c → (session_step whole x Part).hold ≡ Gone
part_gone x c is = ap (λ (m : Hold). (step_if whole x.counts m x.traffic x.rest Part).hold) is ∙ over_parts x.counts x.traffic x.rest c

end_lines : (i : ℕ) (b : Bool) (m : Hold) (t : Traffic) (r : Rest) (cause : Cause) (ls : ℕ → Line) (w : ℕ)
    → ((settled i m (step_if whole b m t r (End cause)).hold ls w).stage ≡ (ls w).stage)
    ⊎ ((c : ℕ) × (m ≡ Held w c) × ((settled i m (step_if whole b m t r (End cause)).hold ls w).stage ≡ Over c cause))
end_lines i true (Held v d) t r cause ls w = settled_over i (Held v d) cause ls w
end_lines i false (Held v d) t r cause ls w = settled_over i (Held v d) cause ls w
end_lines i true Away t r cause ls w = inl refl
end_lines i false Away t r cause ls w = inl refl
end_lines i true (Ended c) t r cause ls w = inl refl
end_lines i false (Ended c) t r cause ls w = inl refl
end_lines i true Gone t r cause ls w = inl refl
end_lines i false Gone t r cause ls w = inl refl

abbrev between_them : ℕ → Cause → List Effect → List Effect
between_them i cause es = (On i (End cause) ∷ es) ++ On i Part ∷ []

module _ (world : World Traffic) (i : ℕ) (cause : Cause) (es : List Effect) (mild : AllMild es) where
  abbrev ends : World Traffic
  ends = apply whole world (On i (End cause))

  abbrev told : World Traffic
  told = apply_all whole ends es

  abbrev IsThere : Type 0
  IsThere = is_there_by (world.sessions i).hold (world.sessions i).counts ≡ true

  last : apply_all whole world (between_them i cause es) ≡ apply whole told (On i Part)
  last = apply_append world (On i (End cause) ∷ es) (On i Part ∷ [])

  told_over : IsThere → (c : Cause) × ((told.sessions i).hold ≡ Ended c)
  told_over there =
      let x : Session Traffic = world.sessions i in
      let over : (c : Cause) × ((session_step whole x (End cause)).hold ≡ Ended c) = end_over x.counts x.hold x.traffic x.rest cause there in (
        over.0,
        ended_stays ends es i over.0 (all_treat es ends i (all_mild_to i es mild))
            (ap (λ (y : Session Traffic). y.hold) (put_here i (session_step whole x (End cause)) world.sessions) ∙ over.1),
      )

  pub departed_gone : IsThere → ((apply_all whole world (between_them i cause es)).sessions i).hold ≡ Gone
  departed_gone there =
      let over : (c : Cause) × ((told.sessions i).hold ≡ Ended c) = told_over there in
      ap (λ (z : World Traffic). (z.sessions i).hold) last
      ∙ (ap (λ (y : Session Traffic). y.hold) (put_here i (session_step whole (told.sessions i) Part) told.sessions)
      ∙ part_gone (told.sessions i) over.0 over.1)

  pub departed_mild : (s : ℕ) → (s ≡ i → ⊥) → AllMildTo s (between_them i cause es)
  departed_mild s ne =
      mild_to_append s (On i (End cause) ∷ es) (On i Part ∷ []) (inr ne, all_mild_to s es mild) (inr ne, tt)

  -- the last of them changes no line
  last_lines : IsThere → (w : ℕ) → (apply_all whole world (between_them i cause es)).lines w ≡ told.lines w
  last_lines there w =
      let over : (c : Cause) × ((told.sessions i).hold ≡ Ended c) = told_over there in
      let x : Session Traffic = told.sessions i in
      ap (λ (z : World Traffic). z.lines w) last
      ∙ (ap (λ (n : Hold). settled i x.hold n told.lines w) (part_gone x over.0 over.1)
      ∙ ap (λ (m : Hold). settled i m Gone told.lines w) over.1)

  -- a line whose session is the one that departs
  pub record Lets (w : ℕ) : Type 0 where
    pub conn : ℕ
    pub held : (world.sessions i).hold ≡ Held w conn
    pub over : ((apply_all whole world (between_them i cause es)).lines w).stage ≡ Over conn cause

  abbrev pub Departs : ℕ → Type 0
  Departs w = Runs world (between_them i cause es) w ⊎ Lets w

  ends_matched : IsMatched world → IsMatched ends
  ends_matched m = matched_on world (On i (End cause)) tt m

  crowd_out : IsThere → (w : ℕ) → Crowds ends es w → Crowds world (between_them i cause es) w
  crowd_out there w c = elim (same_or_not c.session i) as (λ _. Crowds world (between_them i cause es) w) [
    | inl e ↦ absurd (
        let x : Session Traffic = world.sessions i in
        let over : (k : Cause) × ((session_step whole x (End cause)).hold ≡ Ended k) = end_over x.counts x.hold x.traffic x.rest cause there in
        let now : (ends.sessions i).hold ≡ Ended over.0 =
        ap (λ (y : Session Traffic). y.hold) (put_here i (session_step whole x (End cause)) world.sessions) ∙ over.1 in
        let held : (ends.sessions i).hold ≡ Held w c.conn = ap (λ (k : ℕ). (ends.sessions k).hold) (sym e) ∙ c.held in
        let bad : Ended over.0 ≡ Held w c.conn = sym now ∙ held in
        cc)
    | inr ne ↦ record {
      session = c.session;
      conn = c.conn;
      kept = c.kept;
      queued = c.queued;
      held = ap (λ (y : Session Traffic). y.hold)
          (sym (put_else i (session_step whole (world.sessions i) (End cause)) world.sessions c.session ne)) ∙ c.held;
      ended = ap (λ (z : World Traffic). (z.sessions c.session).hold) last
          ∙ (ap (λ (y : Session Traffic). y.hold) (put_else i (session_step whole (told.sessions i) Part) told.sessions c.session ne) ∙ c.ended);
      over = ap (λ (l : Line). l.stage) (last_lines there w) ∙ c.over;
    }
  ]

  pub departed_lines : IsMatched world → IsThere → (w : ℕ) → Departs w
  departed_lines m there w =
      let x : Session Traffic = world.sessions i in
      let m1 : IsMatched ends = ends_matched m in
      elim (end_lines i x.counts x.hold x.traffic x.rest cause world.lines w) as (λ _. Departs w) [
        | inl same ↦ elim (all_run es ends w mild m1) as (λ _. Departs w) [
          | inl more ↦ inl (inl (ap (λ (l : Line). l.stage) (last_lines there w) ∙ (more ∙ same)))
          | inr c ↦ inl (inr (crowd_out there w c))
        ]
        | inr p ↦ elim (all_run es ends w mild m1) as (λ _. Departs w) [
          | inl more ↦ inr (record {
            conn = p.0;
            held = p.1;
            over = ap (λ (l : Line). l.stage) (last_lines there w) ∙ (more ∙ p.2);
          })
          | inr c ↦ absurd (let bad : Over p.0 cause ≡ Bound c.conn c.session = sym p.2 ∙ m1.back c.session w c.conn c.held in cc)
        ]
      ]
