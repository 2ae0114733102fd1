-- What an account tells of the house's turns is what it tells of the operations of a session that goes alone.
use Rattle.std.proofs.Common.{◌≡◌, inl, inr, ℕ, List, [], ◌∷◌, Option, Some, None, Bool, true, false, eqb, refl, sym, ap, ◌∙◌, subst, true≢false, if◌then◌else◌}
use Rattle.std.proofs.lemmas.Bool.{eqb-true}
use Rattle.std.specs.Prelude.{map}
use Rattle.stanza_model.specs.declared.stanza.Stanza.{Stanza}
use Rattle.sm_resume.specs.declared.id.ResumeId.{ResumeId}
use Rattle.session_table.specs.declared.line.Line as stage
use Rattle.session_table.specs.declared.line.Line.TheVariants.{Empty, Fresh, Logged, Bound, Over}
use Rattle.sm_account.specs.Sessions as one
use Rattle.sm_account.specs.Sessions.{Core}
use Rattle.sm_account.specs.Connections as alone
use Rattle.sm_account.specs.Connections.{run}
use Rattle.sm_account.specs.Accounts as past
use Rattle.sm_account.specs.Accounts.{Account, OperationFits}
use Rattle.muc_service.specs.Casting.{cast}
use Rattle.house_model.specs.declared.event.Event.{Event}
use Rattle.house_model.specs.declared.event.Event.TheVariants as event
use Rattle.house_model.specs.declared.reply.Reply.{Reply}
use Rattle.house_model.specs.declared.reply.Reply.TheVariants as reply
use Rattle.house_model.specs.Sessions.{Hold, Held, Away, Ended, Gone, Session, Act}
use Rattle.house_model.specs.Traffic.{KeptTraffic, whole}
use Rattle.house_model.specs.States.{State, Kept, keep}
use Rattle.house_model.specs.Effects.{On, apply}
use Rattle.house_model.specs.Gate.{Verdict, to_act, gate_at}
use Rattle.house_model.specs.Routing.{effects}
use Rattle.house_model.specs.Steps.{effect_of, acks, body, verdict, turn}
use Rattle.house_model.specs.Histories.{Outcome, Made, Short, Turn, IsOutcome, after, Legal, IsOpening}
use Rattle.house_model.specs.Bridge.{hold_of, core_of, effects_ops, short_at, turn_ops, alone_of}
use Rattle.house_model.specs.Lines.{shorts}
use Rattle.house_model.specs.Resuming.{is_live}
use Rattle.house_model.specs.Accounts as house
use Rattle.house_model.proofs.TurnLaws.{always_sound}
use Rattle.house_model.proofs.Cores.{alone_core}
use Rattle.house_model.proofs.Quiet.{is_deaf, verdict_plain, queued_plain}
use Rattle.house_model.proofs.Told.{core_held}
use Rattle.house_model.proofs.Hearing.{kept_held}
use Rattle.house_model.proofs.Resumes.{finds_counts, finds_live}
use Rattle.house_model.proofs.Shorts.{not_short}
use Rattle.house_model.proofs.AccountLines.{acks_are, resumes_are, total_same, present_number}
use Rattle.house_model.proofs.Muted.{client_ear, Lead, lead_both, effects_muted}
use Rattle.house_model.proofs.ResumeCases.{resume_cases, unread_mute}
use Rattle.house_model.proofs.Joins.{GoesOn}

-- an operation fits, by whether the session counts and what holds it
fits_by : (b c : Bool) (m n : one.Hold) (a : Account Stanza) (x : alone.Session Stanza) (said : ℕ)
    (op : one.Op Stanza) (v : ℕ) → b ≡ c → m ≡ n → OperationFits c n a x said op v → OperationFits b m a x said op v
fits_by b c m n a x said op v counts hold fits =
    subst (λ (k : Bool). OperationFits k m a x said op v) (sym counts)
    (subst (λ (h : one.Hold). OperationFits c h a x said op v) (sym hold) fits)

resume_fits : (b : Bool) (m : Hold) (a : Account Stanza) (x : alone.Session Stanza) (said c count v n : ℕ) → b ≡ true
    → is_live m ≡ true → one.named x.core count ≡ Some n → past.Resumes a x count × (v ≡ past.total_handled a x)
    → OperationFits b (hold_of m) a x said (one.Resume c count) v
resume_fits true (Held w d) a x said c count v n counts live has fits =
    subst (λ (k : Option ℕ). past.ResumesIf a x said count v k) (sym has) fits
resume_fits true Away a x said c count v n counts live has fits =
    subst (λ (k : Option ℕ). past.ResumesIf a x said count v k) (sym has) fits
resume_fits true (Ended cause) a x said c count v n counts live has fits = absurd (true≢false (sym live))
resume_fits true Gone a x said c count v n counts live has fits = absurd (true≢false (sym live))
resume_fits false m a x said c count v n counts live has fits = absurd (true≢false (sym counts))

else_of : (P E : Type 0) (a : Account Stanza) (o : State) (h : List Turn) (s : ℕ) (mine counts : Bool)
    → (mine ≡ true → counts ≡ false) → house.WhereCounted a o h s mine counts P E → E
else_of P E a o h s true true none fits = absurd (true≢false (none refl))
else_of P E a o h s true false none fits = fits
else_of P E a o h s false true none fits = fits
else_of P E a o h s false false none fits = fits

module _ (a : Account Stanza) (o : State) (g : List Turn) (s : ℕ) (starts : IsOpening o) (legal : Legal o g) where
  abbrev st : State
  st = after o g

  abbrev x : alone.Session Stanza
  x = alone_of s o g

  core : core_of (st.world.sessions s) ≡ x.core
  core = alone_core o g s starts

  held_here : (w c i : ℕ) → (st.world.lines w).stage ≡ Bound c i → s ≡ i → x.core.hold ≡ one.Held c
  held_here w c i is same =
      ap (λ (y : Core Stanza). y.hold) (sym core)
      ∙ subst (λ (k : ℕ). (core_of (st.world.sessions k)).hold ≡ one.Held c) (sym same)
      (core_held st w c i (always_sound o g starts) is)

  -- what is heard of a line that holds the session
  heard_lead : (P : Type 0) (mine : Bool) (w c i said v : ℕ) (op : one.Op Stanza) → eqb s i ≡ mine
      → (st.world.lines w).stage ≡ Bound c i
      → house.WhereCounted a o g s mine (st.world.sessions s).counts P (v ≡ said)
      → (P → (st.world.sessions s).counts ≡ true → x.core.hold ≡ one.Held c
      → OperationFits true (one.Held c) a x said op v)
      → (v ≡ said → OperationFits false (one.Held c) a x said op v)
      → Lead a x said (if mine then op ∷ [] else []) v
  heard_lead P false w c i said v op same is fits counted uncounted = fits
  heard_lead P true w c i said v op same is fits counted uncounted = by_counts (st.world.sessions s).counts refl fits
    where
      held : x.core.hold ≡ one.Held c
      held = held_here w c i is (eqb-true s i same)

      counts_is : (b : Bool) → (st.world.sessions s).counts ≡ b → x.core.counts ≡ b
      counts_is b counts = ap (λ (y : Core Stanza). y.counts) (sym core) ∙ counts

      by_counts : (b : Bool) → (st.world.sessions s).counts ≡ b → house.WhereCounted a o g s true b P (v ≡ said)
          → Lead a x said (op ∷ []) v
      by_counts true counts fits = (
        v,
        fits_by x.core.counts true x.core.hold (one.Held c) a x said op v (counts_is true counts) held
            (counted fits counts held),
        refl,
      )
      by_counts false counts fits = (
        v,
        fits_by x.core.counts false x.core.hold (one.Held c) a x said op v (counts_is false counts) held
            (uncounted fits),
        refl,
      )

  -- Ack
  acks_lead : (b : Bool) (w c i said count v : ℕ) (t : KeptTraffic) → (st.world.lines w).stage ≡ Bound c i
      → (st.world.sessions i).counts ≡ b
      → house.WhereCounted a o g s (eqb s i) (st.world.sessions s).counts (house.Acks a o g s c said count v) (v ≡ said)
      → Lead a x said (effects_ops s st.world (acks b i count t).effects) v
  acks_lead false w c i said count v t is counts fits =
      else_of (house.Acks a o g s c said count v) (v ≡ said) a o g s (eqb s i) (st.world.sessions s).counts
      (λ same. ap (λ (k : ℕ). (st.world.sessions k).counts) (eqb-true s i same) ∙ counts) fits
  acks_lead true w c i said count v t is counts fits =
      lead_both a x said v v (if eqb s i then one.Ack count ∷ [] else []) []
      (heard_lead (house.Acks a o g s c said count v) (eqb s i) w c i said v (one.Ack count) refl is fits
      (λ k counted held. acks_are a o g s starts legal counted c said count v held k) (λ e. e))
      refl

  stage_ack : (w said count v : ℕ) (kept : Kept) (l : stage.Line) → (st.world.lines w).stage ≡ l
      → ((c i : ℕ) → l ≡ Bound c i → (kept.world.sessions i).counts ≡ (st.world.sessions i).counts)
      → house.WhereHeld a o g s (λ c. house.Acks a o g s c said count v) (v ≡ said) l
      → Lead a x said (effects_ops s st.world
      (body kept (event.Ack w count) (gate_at to_act kept w (st.world.lines w) l)).effects) v
  stage_ack w said count v kept Empty is same fits = fits
  stage_ack w said count v kept (Over c cause) is same fits = fits
  stage_ack w said count v kept (Fresh c) is same fits = fits
  stage_ack w said count v kept (Logged c u) is same fits = fits
  stage_ack w said count v kept (Bound c i) is same fits =
      acks_lead (kept.world.sessions i).counts w c i said count v (kept.world.sessions i).traffic is
      (sym (same c i refl)) fits

  -- Act
  whole_is : (c said v : ℕ) → (v ≡ said) × house.IsWhole a o g s c → (st.world.sessions s).counts ≡ true
      → x.core.hold ≡ one.Held c → past.Arrives x said v
  whole_is c said v fits counted held = (
    fits.0,
    not_short o g s starts legal (λ among. fits.1
        (subst (λ (n : ℕ). past.IsOneOf n (shorts o g s)) (present_number a o g s starts legal counted c held) among)),
  )

  stage_act : (w : ℕ) (y : Stanza) (t said v : ℕ) (kept : Kept) (l : stage.Line) → (st.world.lines w).stage ≡ l
      → house.WhereHeld a o g s (λ c. (v ≡ said) × house.IsWhole a o g s c) (v ≡ said) l
      → Lead a x said (effects_ops s st.world
      (body kept (event.Act w y t) (gate_at to_act kept w (st.world.lines w) l)).effects) v
  stage_act w y t said v kept Empty is fits = fits
  stage_act w y t said v kept (Over c cause) is fits = fits
  stage_act w y t said v kept (Fresh c) is fits = fits
  stage_act w y t said v kept (Logged c u) is fits = fits
  stage_act w y t said v kept (Bound c i) is fits =
      lead_both a x said v v (if eqb s i then one.Act y ∷ [] else [])
      (effects_ops s (apply whole st.world (On i (Act y)))
      (map effect_of (cast kept.world.rooms (effects kept i y))))
      (heard_lead ((v ≡ said) × house.IsWhole a o g s c) (eqb s i) w c i said v (one.Act y) refl is fits
      (λ k counted held. whole_is c said v k counted held) (λ e. e))
      (effects_muted a (run x (if eqb s i then one.Act y ∷ [] else [])) v s (apply whole st.world (On i (Act y)))
      (map effect_of (cast kept.world.rooms (effects kept i y)))
      (queued_plain client_ear (cast kept.world.rooms (effects kept i y))))

  stage_short : (w : ℕ) (y : Stanza) (said v : ℕ) (l : stage.Line) → (st.world.lines w).stage ≡ l
      → house.WhereHeld a o g s (λ c. (v ≡ said) × house.IsWhole a o g s c) (v ≡ said) l
      → Lead a x said (short_at s y l) v
  stage_short w y said v Empty is fits = fits
  stage_short w y said v (Over c cause) is fits = fits
  stage_short w y said v (Fresh c) is fits = fits
  stage_short w y said v (Logged c u) is fits = fits
  stage_short w y said v (Bound c i) is fits =
      heard_lead ((v ≡ said) × house.IsWhole a o g s c) (eqb s i) w c i said v (one.Short y) refl is fits
      (λ k counted held. whole_is c said v k counted held) (λ e. e)

  -- Resume
  not_resumed : (w : ℕ) (id : ResumeId) (count t said v : ℕ) (r : Reply) (text : List ℕ) → (r ≡ reply.Resumed → ⊥)
      → house.TurnFits a o g s said (event.Resume w (Some id) count t) (Made r text) v → v ≡ said
  not_resumed w id count t said v reply.Resumed text other fits = absurd (other refl)
  not_resumed w id count t said v r text other fits = fits

  resumed_lead : (mine : Bool) (w c u said count v : ℕ) (id : ResumeId) (d : Verdict) → GoesOn st w c u id count d
      → eqb s id.session ≡ mine
      → house.WhereMine a o g s mine (house.Resumes a o g s count × (v ≡ house.total_handled a o g s)) (v ≡ said)
      → Lead a x said (if mine then one.Resume c count ∷ [] else []) v
  resumed_lead false w c u said count v id d k same fits = fits
  resumed_lead true w c u said count v id d k same fits = (
    v,
    subst (λ (y : Core Stanza). OperationFits y.counts y.hold a x said (one.Resume c count) v) core
        (resume_fits (st.world.sessions s).counts (st.world.sessions s).hold a x said c count v k.n counts live
        (ap (λ (y : Core Stanza). one.named y count) (sym core)
        ∙ subst (λ (j : ℕ). one.named (core_of (st.world.sessions j)) count ≡ Some k.n) (sym at) k.has) (
          resumes_are a o g s starts legal counts count fits.0,
          fits.1 ∙ sym (total_same a o g s starts legal counts),
        )),
    refl,
  )
    where
      at : s ≡ id.session
      at = eqb-true s id.session same

      counts : (st.world.sessions s).counts ≡ true
      counts = ap (λ (j : ℕ). (st.world.sessions j).counts) at
          ∙ finds_counts st id u (st.world.sessions id.session) k.found

      live : is_live (st.world.sessions s).hold ≡ true
      live = ap (λ (j : ℕ). is_live (st.world.sessions j).hold) at
          ∙ finds_live st id u (st.world.sessions id.session) k.found

  resume_lead : (w : ℕ) (id : ResumeId) (count t said v : ℕ) (r : Reply) (text : List ℕ)
      → IsOutcome st (event.Resume w (Some id) count t) (Made r text)
      → house.TurnFits a o g s said (event.Resume w (Some id) count t) (Made r text) v
      → Lead a x said (turn_ops s st (event.Resume w (Some id) count t) (Made r text)) v
  resume_lead w id count t said v r text is fits =
      elim (resume_cases st w id count t (always_sound o g starts)) [
        | inl mute ↦ subst (Lead a x said (turn_ops s st (event.Resume w (Some id) count t) (Made r text)))
            (sym (not_resumed w id count t said v r text (λ e. mute.1 (sym is.0 ∙ e)) fits))
            (effects_muted a x said s st.world _ mute.0)
        | inr on ↦ subst (λ (d : Verdict). Lead a x said (effects_ops s st.world d.effects) v) (sym on.3.is)
            (lead_both a x said v v (if eqb s id.session then one.Resume on.0 count ∷ [] else []) []
            (resumed_lead (eqb s id.session) w on.0 on.1 said count v id _ on.3 refl
            (subst (λ (q : Reply). house.TurnFits a o g s said (event.Resume w (Some id) count t) (Made q text) v)
            (is.0 ∙ on.2) fits))
            refl)
      ]

  -- one turn
  quiet_lead : (e : Event) (r : Reply) (text : List ℕ) (said v : ℕ) → is_deaf client_ear e ≡ true → v ≡ said
      → Lead a x said (turn_ops s st e (Made r text)) v
  quiet_lead e r text said v deaf same =
      subst (Lead a x said (turn_ops s st e (Made r text))) (sym same)
      (effects_muted a x said s st.world (verdict (keep (turn e st)) e).effects
      (verdict_plain client_ear (keep (turn e st)) e deaf))

  pub turn_lead : (e : Event) (outcome : Outcome) (said v : ℕ) → IsOutcome st e outcome
      → house.TurnFits a o g s said e outcome v → Lead a x said (turn_ops s st e outcome) v
  turn_lead (event.Ack w count) (Made r text) said v is fits =
      stage_ack w said count v (keep (turn (event.Ack w count) st)) (st.world.lines w).stage refl
      (λ c i held. ap (λ (y : Session KeptTraffic). y.counts) (kept_held st w c i (always_sound o g starts) held)) fits
  turn_lead (event.Act w y t) (Made r text) said v is fits =
      stage_act w y t said v (keep (turn (event.Act w y t) st)) (st.world.lines w).stage refl fits
  turn_lead (event.Act w y t) Short said v is fits = stage_short w y said v (st.world.lines w).stage refl fits
  turn_lead (event.Resume w (Some id) count t) (Made r text) said v is fits =
      resume_lead w id count t said v r text is fits
  turn_lead (event.Resume w None count t) (Made r text) said v is fits =
      subst (Lead a x said (turn_ops s st (event.Resume w None count t) (Made r text))) (sym fits)
      (effects_muted a x said s st.world _ (unread_mute (keep (turn (event.Resume w None count t) st)) w count t))
  turn_lead (event.Resume w None count t) Short said v is fits = fits
  turn_lead (event.Resume w (Some id) count t) Short said v is fits = fits
  turn_lead e (Made r text) said v is fits = quiet_lead e r text said v refl fits
  turn_lead e Short said v is fits = fits
