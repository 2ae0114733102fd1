-- No two sessions that are there have one address, so the one that an address is that of is found by it.
use Rattle.std.proofs.Common.{◌≡◌, inl, inr, ℕ, zero, suc, ◌+◌, ◌<◌, ◌≤◌, List, [], ◌∷◌, ◌++◌, map, Option, Some, None, Bool, true, false}
use Rattle.std.proofs.Common.{refl, sym, ap, ◌∙◌, subst, true≢false, if◌then◌else◌, arith}
use Rattle.std.proofs.lemmas.Bool.{and_from, cases_lt}
use Rattle.jid_core.specs.Addresses.{Address, address_text, same_address}
use Rattle.jid_core.proofs.AddressLemmas.{same_address-equal}
use Rattle.session_table.proofs.FirstLemmas.{same_address_itself}
use Rattle.stanza_model.specs.declared.effect.Effect as stanza
use Rattle.sm_resume.specs.declared.decision.Cause.{Cause}
use Rattle.sm_resume.specs.declared.decision.Cause.TheVariants.{Flood, Replaced}
use Rattle.muc_service.specs.Casting.{cast}
use Rattle.house_model.specs.declared.answer.Answer.TheVariants as answer
use Rattle.house_model.specs.declared.event.Event.{Event}
use Rattle.house_model.specs.declared.event.Event.TheVariants as event
use Rattle.house_model.specs.Numbered.{least, or_here}
use Rattle.house_model.specs.Sessions.{Hold, Held, Away, Ended, Gone, Rest, Session, Op, Part, End, begun, step_if, session_step}
use Rattle.house_model.specs.Traffic.{Traffic, whole}
use Rattle.house_model.specs.States.{World, State, Kept, keep, keep_by, keep_session, keep_world}
use Rattle.house_model.specs.Effects.{Effect, Open, At, Begin, On, Note, Hosts, Files, Say, Close, apply, apply_all}
use Rattle.house_model.specs.Gate.{most_answers, to_bind, left}
use Rattle.house_model.specs.Lookups.{goes_on, if_it_goes_on, is_at, is_there, is_there_by, live_at, session_at, session_in}
use Rattle.house_model.specs.Routing.{departure}
use Rattle.house_model.specs.Sound.{Sound}
use Rattle.house_model.specs.Stays.{takes, takes_entries}
use Rattle.house_model.specs.Steps.{replaces, binds, has_place, bound_address, departs, effect_of, resource_or, verdict, turn}
use Rattle.house_model.specs.Histories.{Outcome, Made, Short, Turn, next, next_by, after, IsOpening}
use Rattle.house_model.proofs.DeliverySteps.{IsStill, all_stay, stanza_mild}
use Rattle.house_model.proofs.Ears.{Ear, IsPlain, AllPlain, plain_append}
use Rattle.house_model.proofs.GateLemmas.{gate_leads}
use Rattle.house_model.proofs.HousedTurns.{then_applied}
use Rattle.house_model.proofs.InHouse.{HasNoZero, next_no_zero}
use Rattle.house_model.proofs.Partings.{least_passes}
use Rattle.house_model.proofs.PutLemmas.{put_here, put_is}
use Rattle.house_model.proofs.QueueSteps.{session_tells}
use Rattle.house_model.proofs.Quiet.{is_deaf, left_plain, replaces_plain, verdict_plain}
use Rattle.house_model.proofs.Resumes.{and_left, and_right}
use Rattle.house_model.proofs.StayLemmas.{put_both}
use Rattle.house_model.proofs.StayLists.{kept_address}
use Rattle.house_model.proofs.TurnLaws.{next_sound, starts_sound}

abbrev pub there : Session Traffic → Bool
there x = is_there_by x.hold x.counts

abbrev pub AreApart : World Traffic → Type 0
AreApart world = (q r : ℕ) → there (world.sessions q) ≡ true → there (world.sessions r) ≡ true
    → (world.sessions q).rest.address ≡ (world.sessions r).rest.address → q ≡ r

-- What happens to a session that is made already: it isn't there unless it was, and has its address.

pub record Fades (x y : Session Traffic) : Type 0 where
  pub was : there y ≡ true → there x ≡ true
  pub address : y.rest.address ≡ x.rest.address

step_was : (b : Bool) (m : Hold) (t : Traffic) (r : Rest) (op : Op) → there (step_if whole b m t r op) ≡ true → is_there_by m b ≡ true
step_was b (Held v d) t r op is = refl
step_was true Away t r op is = refl
step_was false Away t r Part is = is
step_was false Away t r op is = is
step_was b (Ended cause) t r op is = refl
step_was true Gone t r Part is = is
step_was true Gone t r op is = is
step_was false Gone t r Part is = is
step_was false Gone t r op is = is

session_fades : (x : Session Traffic) (op : Op) → Fades x (session_step whole x op)
session_fades x op = record { was = step_was x.counts x.hold x.traffic x.rest op; address = (session_tells x op).address }

same_fades : (x : Session Traffic) → Fades x x
same_fades x = record { was = λ is. is; address = refl }

abbrev begin_ear : Ear
begin_ear = record { pull = false; act = false; ask = false; ack = false; enable = false; begin = true; resume = false; part = false }

abbrev AllFade : World Traffic → World Traffic → Type 0
AllFade world new = (r : ℕ) → Fades (world.sessions r) (new.sessions r)

effect_fades : (world : World Traffic) (e : Effect) → IsPlain begin_ear e → AllFade world (apply whole world e)
effect_fades world (Begin w c a) plain = absurd (true≢false (sym plain))
effect_fades world (Open w) plain = λ r. same_fades (world.sessions r)
effect_fades world (At w op) plain = λ r. same_fades (world.sessions r)
effect_fades world (Note change) plain = λ r. same_fades (world.sessions r)
effect_fades world (Hosts x) plain = λ r. same_fades (world.sessions r)
effect_fades world (Files filing) plain = λ r. same_fades (world.sessions r)
effect_fades world (On i op) plain =
    put_both (λ j (y : Session Traffic). Fades (world.sessions j) y) i (session_step whole (world.sessions i) op) world.sessions
    (session_fades (world.sessions i) op) (λ j other. same_fades (world.sessions j))

then_fades : (x y z : Session Traffic) → Fades x y → Fades y z → Fades x z
then_fades x y z first rest = record { was = λ is. first.was (rest.was is); address = rest.address ∙ first.address }

all_fade : (es : List Effect) (world : World Traffic) → AllPlain begin_ear es → AllFade world (apply_all whole world es)
all_fade [] world plain r = same_fades (world.sessions r)
all_fade (e ∷ es) world plain r =
    then_fades (world.sessions r) ((apply whole world e).sessions r) ((apply_all whole world (e ∷ es)).sessions r)
    (effect_fades world e plain.0 r) (all_fade es (apply whole world e) plain.1 r)

fade_apart : (world new : World Traffic) → AllFade world new → AreApart world → AreApart new
fade_apart world new fades apart q r q_there r_there same =
    apart q r ((fades q).was q_there) ((fades r).was r_there) (sym (fades q).address ∙ (same ∙ (fades r).address))

-- A session that is made has an address that no other has.

abbrev IsFree : World Traffic → Address → Type 0
IsFree world a = (r : ℕ) → there (world.sessions r) ≡ true → (world.sessions r).rest.address ≡ a → ⊥

begin_apart : (world : World Traffic) (w c : ℕ) (a : Address) → AreApart world → IsFree world a → AreApart (apply whole world (Begin w c a))
begin_apart world w c a apart free q r q_there r_there same =
    elim (put_is (world.made + 1) (begun whole w c a) world.sessions q) [
      | inl p ↦ elim (put_is (world.made + 1) (begun whole w c a) world.sessions r) [
        | inl s ↦ p.0 ∙ sym s.0
        | inr s ↦ absurd (free r (ap there (sym s.1) ∙ r_there)
            (ap (λ (y : Session Traffic). y.rest.address) (sym s.1) ∙ (sym same ∙ ap (λ (y : Session Traffic). y.rest.address) p.1)))
      ]
      | inr p ↦ elim (put_is (world.made + 1) (begun whole w c a) world.sessions r) [
        | inl s ↦ absurd (free q (ap there (sym p.1) ∙ q_there)
            (ap (λ (y : Session Traffic). y.rest.address) (sym p.1) ∙ (same ∙ ap (λ (y : Session Traffic). y.rest.address) s.1)))
        | inr s ↦ apart q r (ap there (sym p.1) ∙ q_there) (ap there (sym s.1) ∙ r_there)
            (ap (λ (y : Session Traffic). y.rest.address) (sym p.1) ∙ (same ∙ ap (λ (y : Session Traffic). y.rest.address) s.1))
      ]
    ]

-- the one that departs is there no more

step_ends : (b : Bool) (m : Hold) (t : Traffic) (r : Rest) (cause : Cause) → is_there_by m b ≡ true
    → (c : Cause) × ((step_if whole b m t r (End cause)).hold ≡ Ended c)
step_ends true (Held v d) t r cause is = (cause, refl)
step_ends false (Held v d) t r cause is = (cause, refl)
step_ends true Away t r cause is = (cause, refl)
step_ends false Away t r cause is = absurd (true≢false (sym is))
step_ends true (Ended c) t r cause is = (c, refl)
step_ends false (Ended c) t r cause is = (c, refl)
step_ends true Gone t r cause is = absurd (true≢false (sym is))
step_ends false Gone t r cause is = absurd (true≢false (sym is))

step_parts : (b : Bool) (m : Hold) (t : Traffic) (r : Rest) (c : Cause) → m ≡ Ended c → there (step_if whole b m t r Part) ≡ false
step_parts b (Held v d) t r c is = absurd (cc)
step_parts b Away t r c is = absurd (cc)
step_parts b Gone t r c is = absurd (cc)
step_parts true (Ended d) t r c is = refl
step_parts false (Ended d) t r c is = refl

departs_there : (world : World Traffic) (s : ℕ) (cause : Cause) → there (world.sessions s) ≡ true
    → there ((apply_all whole world (departs (keep_world world) s cause)).sessions s) ≡ false
departs_there world s cause is =
    ap (λ (w : World Traffic). there (w.sessions s)) (then_applied world (On s (End cause) ∷ map effect_of told) (On s Part ∷ []))
    ∙ (ap there (put_here s (session_step whole (told_of.sessions s) Part) told_of.sessions)
    ∙ step_parts (told_of.sessions s).counts (told_of.sessions s).hold (told_of.sessions s).traffic (told_of.sessions s).rest ends.0 over.over)
  where
    told : List stanza.Effect
    told = cast world.rooms (departure (keep_world world) s)

    ended : World Traffic
    ended = apply whole world (On s (End cause))

    told_of : World Traffic
    told_of = apply_all whole ended (map effect_of told)

    ends : (c : Cause) × ((session_step whole (world.sessions s) (End cause)).hold ≡ Ended c)
    ends = step_ends (world.sessions s).counts (world.sessions s).hold (world.sessions s).traffic (world.sessions s).rest cause is

    over : IsStill (ended.sessions s) (told_of.sessions s) ends.0
    over =
        all_stay (map effect_of told) ended s (stanza_mild told) ends.0
        (ap (λ (y : Session Traffic). y.hold) (put_here s (session_step whole (world.sessions s) (End cause)) world.sessions) ∙ ends.1)

-- looking for an address

none_here : (o : Option ℕ) (b : Bool) (n : ℕ) → or_here o b n ≡ None → (o ≡ None) × (b ≡ false)
none_here (Some s) b n is = absurd (cc)
none_here None true n is = absurd (cc)
none_here None false n is = (refl, refl)

least_none : (n : ℕ) (test : ℕ → Bool) (r : ℕ) → least n test ≡ None → 0 < r → r ≤ n → test r ≡ false
least_none zero test r is above low = absurd (omega (arith, above, low))
least_none (suc n) test r is above low =
    let both : (least n test ≡ None) × (test (suc n) ≡ false) = none_here (least n test) (test (suc n)) (suc n) is in
    elim (cases_lt n r) [
      | inl up ↦ ap test (omega (arith, up, low)) ∙ both.1
      | inr few ↦ least_none n test r both.0 above few
    ]

pub kept_there : (b : Bool) (m : Hold) (t : Traffic) (r : Rest) → is_there (keep_by b m t r) ≡ is_there_by m b
kept_there b (Held w c) t r = refl
kept_there b Away t r = refl
kept_there b (Ended cause) t r = refl
kept_there b Gone t r = refl

pub takes_there : (b : Bool) (m : Hold) → takes b m ≡ true → is_there_by m b ≡ true
takes_there b (Held w c) is = refl
takes_there true Away is = refl
takes_there false Away is = is
takes_there b (Ended cause) is = absurd (true≢false (sym is))
takes_there b Gone is = absurd (true≢false (sym is))

module _ (world : World Traffic) (sound : Sound world) (zero_is : HasNoZero world) where
  there_stays : (r : ℕ) → there (world.sessions r) ≡ true → (world.sessions r).hold ≡ Gone → ⊥
  there_stays r is gone = true≢false (sym is ∙ ap (λ (m : Hold). is_there_by m (world.sessions r).counts) gone)

  there_made : (r : ℕ) → there (world.sessions r) ≡ true → (0 < r) × (r ≤ world.made)
  there_made r is = (above, made) where
    above : 0 < r
    above = elim (cases_lt 0 r) [
      | inl low ↦ low
      | inr none ↦ absurd (
          let at : r ≡ 0 = omega (arith, none) in
          true≢false (sym is ∙ (ap (λ (i : ℕ). there (world.sessions i)) at ∙ ap there zero_is)))
    ]

    made : r ≤ world.made
    made = elim (cases_lt world.made r) [
      | inl later ↦ absurd (true≢false (sym is ∙ ap there (sound.later r later)))
      | inr low ↦ low
    ]

  -- one that is there is at its address
  there_at : (r : ℕ) (a : Address) → there (world.sessions r) ≡ true → (world.sessions r).rest.address ≡ a → is_at a ((keep_world world).sessions r) ≡ true
  there_at r a is same =
      let x : Session Traffic = world.sessions r in
      and_from (is_there (keep_session x)) (same_address (keep_session x).rest.address a)
      (kept_there x.counts x.hold x.traffic x.rest ∙ is)
      (ap (λ (b : Address). same_address b a) (kept_address world r (there_stays r is) ∙ same) ∙ same_address_itself a)

  pub at_there : (s : ℕ) (a : Address) → is_at a ((keep_world world).sessions s) ≡ true
      → (there (world.sessions s) ≡ true) × ((world.sessions s).rest.address ≡ a)
  at_there s a at =
      let x : Session Traffic = world.sessions s in
      let is : there x ≡ true =
      sym (kept_there x.counts x.hold x.traffic x.rest) ∙ and_left (is_there (keep_session x)) (same_address (keep_session x).rest.address a) at in (
        is,
        sym (kept_address world s (there_stays s is))
            ∙ same_address-equal (keep_session x).rest.address a (and_right (is_there (keep_session x)) (same_address (keep_session x).rest.address a) at),
      )

  -- after the session of an address was replaced, there is none
  replaced_free : (k : Kept) (a : Address) → k.world ≡ keep_world world → AreApart world → (o : Option ℕ) → session_in (keep_world world) a ≡ o
      → IsFree (apply_all whole world (replaces k o)) a
  replaced_free k a same apart None at r is here =
      let made : (0 < r) × (r ≤ world.made) = there_made r is in
      true≢false (sym (there_at r a is here) ∙ least_none world.made (λ s. is_at a ((keep_world world).sessions s)) r at made.0 made.1)
  replaced_free k a same apart (Some s) at r is here =
      let first : (there (world.sessions s) ≡ true) × ((world.sessions s).rest.address ≡ a) =
      at_there s a (least_passes world.made (λ n. is_at a ((keep_world world).sessions n)) s at) in
      let fades : Fades (world.sessions r) ((apply_all whole world (replaces k (Some s))).sessions r) =
      all_fade (replaces k (Some s)) world (replaces_plain begin_ear k (Some s) refl) r in
      let one : r ≡ s = apart r s (fades.was is) first.0 (sym fades.address ∙ (here ∙ sym first.1)) in
      let gone : there ((apply_all whole world (replaces k (Some s))).sessions s) ≡ false =
      ap (λ (w : World _). there ((apply_all whole world (departs w s (Replaced (k.world.made + 1)))).sessions s)) same
      ∙ departs_there world s (Replaced (k.world.made + 1)) first.0 in
      true≢false (sym is ∙ (ap (λ (j : ℕ). there ((apply_all whole world (replaces k (Some s))).sessions j)) one ∙ gone))

  -- a session that takes entries is the one that its address finds
  takes_goes : (b : Bool) (m : Hold) (t : Traffic) (r : Rest) → takes b m ≡ true → goes_on (keep_by b m t r).hold ≡ true
  takes_goes b (Held w c) t r is = refl
  takes_goes b Away t r is = refl
  takes_goes b (Ended cause) t r is = absurd (true≢false (sym is))
  takes_goes b Gone t r is = absurd (true≢false (sym is))

  found_alone : (r : ℕ) (a : Address) → AreApart world → there (world.sessions r) ≡ true → (world.sessions r).rest.address ≡ a → (o : Option ℕ)
      → session_in (keep_world world) a ≡ o → o ≡ Some r
  found_alone r a apart is here None at =
      let made : (0 < r) × (r ≤ world.made) = there_made r is in
      absurd (true≢false (sym (there_at r a is here) ∙ least_none world.made (λ s. is_at a ((keep_world world).sessions s)) r at made.0 made.1))
  found_alone r a apart is here (Some s) at =
      let first : (there (world.sessions s) ≡ true) × ((world.sessions s).rest.address ≡ a) =
      at_there s a (least_passes world.made (λ n. is_at a ((keep_world world).sessions n)) s at) in
      ap Some (apart s r first.0 is (first.1 ∙ sym here))

  pub address_finds : (r : ℕ) (a : Address) → AreApart world → takes_entries (world.sessions r) ≡ true → (world.sessions r).rest.address ≡ a
      → live_at (keep_world world) a ≡ Some r
  address_finds r a apart is here =
      let x : Session Traffic = world.sessions r in
      ap (if_it_goes_on (keep_world world))
      (found_alone r a apart (takes_there x.counts x.hold is) here (session_in (keep_world world) a) refl)
      ∙ ap (λ (b : Bool). if b then Some r else None) (takes_goes x.counts x.hold x.traffic x.rest is)

-- Turns.

module _ (st : State) (e : Event) (sound : Sound st.world) (zero_is : HasNoZero st.world) (apart : AreApart st.world) where
  abbrev kept : Kept
  kept = keep (turn e st)

  abbrev Keeps : List Effect → Type 0
  Keeps es = AreApart (apply_all whole st.world es)

  plain_keeps : (es : List Effect) → AllPlain begin_ear es → Keeps es
  plain_keeps es plain = fade_apart st.world (apply_all whole st.world es) (all_fade es st.world plain) apart

  binds_keeps : (has : Bool) (w c : ℕ) (a : Address) (id : List ℕ) → Keeps (binds has kept w c a id).effects
  binds_keeps false w c a id = plain_keeps (binds false kept w c a id).effects (tt, tt)
  binds_keeps true w c a id =
      let first : List Effect = replaces kept (session_at kept a) in
      let later : World Traffic = apply_all whole st.world first in
      subst AreApart (sym (then_applied st.world first (Begin w c a ∷ At w (Say (answer.Bound id (address_text a))) ∷ [])))
      (begin_apart later w c a (plain_keeps first (replaces_plain begin_ear kept (session_at kept a) refl))
      (replaced_free st.world sound zero_is kept a refl apart (session_at kept a) refl))

deaf_keeps : (st : State) (e : Event) → AreApart st.world → is_deaf begin_ear e ≡ true
    → AreApart (apply_all whole st.world (verdict (keep (turn e st)) e).effects)
deaf_keeps st e apart deaf =
    fade_apart st.world (apply_all whole st.world (verdict (keep (turn e st)) e).effects)
    (all_fade (verdict (keep (turn e st)) e).effects st.world (verdict_plain begin_ear (keep (turn e st)) e deaf)) apart

verdict_keeps : (st : State) (e : Event) → Sound st.world → HasNoZero st.world → AreApart st.world
    → AreApart (apply_all whole st.world (verdict (keep (turn e st)) e).effects)
verdict_keeps st (event.Bind w id resource t dice) sound zero_is apart =
    let e : Event = event.Bind w id resource t dice in
    let k : Kept = keep (turn e st) in
    gate_leads (λ v. AreApart (apply_all whole st.world v.effects)) k e to_bind w (k.world.lines w) (k.world.lines w).stage
    (λ r. apart)
    (λ c. plain_keeps st e sound zero_is apart (left k (k.world.lines w).stage ++ At w (Close c (Flood most_answers)) ∷ [])
    (plain_append begin_ear (left k (k.world.lines w).stage) (At w (Close c (Flood most_answers)) ∷ [])
    (left_plain begin_ear k (k.world.lines w).stage) (tt, tt)))
    (λ c is. apart)
    (λ c u is. binds_keeps st e sound zero_is apart (has_place k (bound_address k u (resource_or dice resource))) w c
    (bound_address k u (resource_or dice resource)) id)
    (λ c s is. apart)
verdict_keeps st e sound zero_is apart = deaf_keeps st e apart refl

next_apart : (st : State) (e : Event) (o : Outcome) → Sound st.world → HasNoZero st.world → AreApart st.world → AreApart (next_by st e o).world
next_apart st e (Made reply text) sound zero_is apart = verdict_keeps st e sound zero_is apart
next_apart st e Short sound zero_is apart = apart

then_apart : (st : State) (h : List Turn) → Sound st.world → HasNoZero st.world → AreApart st.world → AreApart (after st h).world
then_apart st [] sound zero_is apart = apart
then_apart st (x ∷ more) sound zero_is apart =
    then_apart (next st x) more (next_sound st x sound) (next_no_zero st x.event x.outcome zero_is)
    (next_apart st x.event x.outcome sound zero_is apart)

pub apart_after : (o : State) (h : List Turn) → IsOpening o → AreApart (after o h).world
apart_after o h starts =
    then_apart o h (starts_sound o starts) (ap (λ (st : State). st.world.sessions 0) starts.4)
    (subst (λ (st : State). AreApart st.world) (sym starts.4) (λ q r (is : false ≡ true). absurd (true≢false (sym is))))
