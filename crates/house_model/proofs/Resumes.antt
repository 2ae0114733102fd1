-- A Resume that is asked in turn, read off the whole state.
use Rattle.std.proofs.Common.{◌≡◌, ℕ, [], ◌∷◌, ◌++◌, length, Option, Some, None, Bool, true, false, refl, sym, ap, ◌∙◌, true≢false}
use Rattle.std.specs.Prelude.{nat_le, ◌&&◌}
use Rattle.std.proofs.lemmas.Bool.{lt-leb}
use Rattle.sm_resume.specs.declared.id.ResumeId.{ResumeId}
use Rattle.session_table.specs.declared.line.Line.TheVariants.{Logged}
use Rattle.house_model.specs.declared.answer.Answer.TheVariants as answer
use Rattle.house_model.specs.declared.event.Event.TheVariants as event
use Rattle.house_model.specs.declared.reply.Reply.TheVariants as reply
use Rattle.house_model.specs.Sessions.{Hold, Held, Away, Ended, Gone, Rest, Session, session}
use Rattle.house_model.specs.Traffic as traffic
use Rattle.house_model.specs.Traffic.{Traffic, KeptTraffic, Ordered, whole, keep_traffic, handled}
use Rattle.house_model.specs.States.{Line, State, Kept, keep, keep_by}
use Rattle.house_model.specs.Effects.{At, Say, apply_all}
use Rattle.house_model.specs.Gate.{Verdict, does, Knows, most_answers, to_manage, gate_at, flooded}
use Rattle.house_model.specs.Steps.{has_id, is_known, takes, resumes_by, resumes, body, verdict, turn}
use Rattle.house_model.specs.Histories.{step}
use Rattle.house_model.specs.Sound.{Sound}
use Rattle.house_model.specs.Resuming.{InTurn, is_live, is_of_user, IsNotFound}
use Rattle.house_model.proofs.PutLemmas.{put_here}
use Rattle.house_model.proofs.TrafficLemmas as kept
use Rattle.house_model.proofs.TrafficLemmas.{keep_option}

-- whether a session has this id, is this user's, and may be resumed
abbrev pub finds : State → ResumeId → ℕ → Session Traffic → Bool
finds st id u s = is_live s.hold && (s.counts && (has_id s.rest.resume_id id && is_of_user st u s))

abbrev pub not_found : ℕ → Verdict
not_found w = does reply.Done (At w (Say answer.NotFound) ∷ [])

-- what is decided, from the whole traffic
abbrev pub taken_if : Bool → Option Traffic → (w c s h : ℕ) → ResumeId → Traffic → Verdict
taken_if true o w c s h id t = takes (keep_option o) w c s h id (keep_traffic t)
taken_if false o w c s h id t = not_found w

held_by : (b : Bool) (v d w c s h : ℕ) (id : ResumeId) (t : Traffic) → Ordered t
    → resumes_by b (Held v d) w c s h id (keep_traffic t) ≡ taken_if b (whole.resume t h) w c s h id t
held_by true v d w c s h id t o =
    ap (λ (u : Option KeptTraffic). takes u w c s h id (keep_traffic t)) (sym (kept.resume_kept t h o))
held_by false v d w c s h id t o = refl

away_by : (b : Bool) (w c s h : ℕ) (id : ResumeId) (t : Traffic) → Ordered t
    → resumes_by b Away w c s h id (keep_traffic t) ≡ taken_if b (whole.resume t h) w c s h id t
away_by true w c s h id t o =
    ap (λ (u : Option KeptTraffic). takes u w c s h id (keep_traffic t)) (sym (kept.resume_kept t h o))
away_by false w c s h id t o = refl

ended_by : (b : Bool) (m : Hold) (w c s h : ℕ) (id : ResumeId) (t : KeptTraffic) → is_live m ≡ false
    → resumes_by b m w c s h id t ≡ not_found w
ended_by true (Ended cause) w c s h id t is = refl
ended_by true Gone w c s h id t is = refl
ended_by true (Held v d) w c s h id t is = absurd (true≢false is)
ended_by true Away w c s h id t is = absurd (true≢false is)
ended_by false m w c s h id t is = refl

pub decided : (st : State) (id : ResumeId) (u w c s h : ℕ) (b : Bool) (m : Hold) (t : Traffic) (r : Rest) → Ordered t
    → resumes_by (is_known (keep st) id u (keep_by b m t r)) (keep_by b m t r).hold w c s h id (keep_by b m t r).traffic
    ≡ taken_if (finds st id u (session b m t r)) (whole.resume t h) w c s h id t
decided st id u w c s h b (Held v d) t r o =
    held_by (b && (has_id r.resume_id id && is_of_user st u (session b (Held v d) t r))) v d w c s h id t o
decided st id u w c s h b Away t r o =
    away_by (b && (has_id r.resume_id id && is_of_user st u (session b Away t r))) w c s h id t o
decided st id u w c s h b (Ended cause) t r o = ended_by _ (Ended cause) w c s h id (keep_traffic t) refl
decided st id u w c s h b Gone t r o = refl

-- the gate lets it through
gate_is : (k : Kept) (w c u : ℕ) (l : Line) → l.stage ≡ Logged c u → nat_le most_answers (length l.answers) ≡ false
    → gate_at to_manage k w l l.stage ≡ Knows c u
gate_is k w c u l is few =
    ap (gate_at to_manage k w l) is ∙ ap (λ (b : Bool). flooded b k w c (Logged c u) (Knows c u)) few

pub verdict_is : (st : State) (w c u : ℕ) (id : Option ResumeId) (h t : ℕ) → InTurn st w c u
    → verdict (keep (turn (event.Resume w id h t) st)) (event.Resume w id h t)
    ≡ resumes (keep (turn (event.Resume w id h t) st)) w c u id h
verdict_is st w c u id h t is =
    ap (body (keep (turn (event.Resume w id h t) st)) (event.Resume w id h t))
    (gate_is (keep (turn (event.Resume w id h t) st)) w c u (st.world.lines w) is.logged
    (lt-leb most_answers (length (st.world.lines w).answers) is.few))

abbrev pub decision : State → (w c u : ℕ) → ResumeId → ℕ → Bool → Verdict
decision st w c u id h b =
    taken_if b (whole.resume (st.world.sessions id.session).traffic h) w c id.session h id
    (st.world.sessions id.session).traffic

pub found_is : (st : State) (w c u : ℕ) (id : ResumeId) (h t : ℕ) → Sound st.world → InTurn st w c u
    → verdict (keep (turn (event.Resume w (Some id) h t) st)) (event.Resume w (Some id) h t)
    ≡ decision st w c u id h (finds st id u (st.world.sessions id.session))
found_is st w c u id h t o is =
    verdict_is st w c u (Some id) h t is
    ∙ decided (turn (event.Resume w (Some id) h t) st) id u w c id.session h
    (st.world.sessions id.session).counts (st.world.sessions id.session).hold
    (st.world.sessions id.session).traffic (st.world.sessions id.session).rest (o.ordered id.session)

-- it fails
said_here : (st : State) (w : ℕ) (v : Verdict) → v ≡ not_found w
    → ((apply_all whole st.world v.effects).lines w).answers ≡ (st.world.lines w).answers ++ answer.NotFound ∷ []
said_here st w v is =
    ap (λ (x : Verdict). ((apply_all whole st.world x.effects).lines w).answers) is
    ∙ ap (λ (l : Line). l.answers) (put_here w _ st.world.lines)

pub unread_fails : (st : State) (w c u h t : ℕ) → InTurn st w c u
    → IsNotFound st w (step st (event.Resume w None h t))
unread_fails st w c u h t is = record {
  done = ap (λ (v : Verdict). v.reply) (verdict_is st w c u None h t is);
  answers = said_here st w (verdict (keep (turn (event.Resume w None h t) st)) (event.Resume w None h t))
      (verdict_is st w c u None h t is);
}

pub unfound_fails : (st : State) (w c u : ℕ) (id : ResumeId) (h t : ℕ) → Sound st.world → InTurn st w c u
    → finds st id u (st.world.sessions id.session) ≡ false
    → IsNotFound st w (step st (event.Resume w (Some id) h t))
unfound_fails st w c u id h t o is none =
    let at : verdict (keep (turn (event.Resume w (Some id) h t) st)) (event.Resume w (Some id) h t) ≡ not_found w =
    found_is st w c u id h t o is ∙ ap (decision st w c u id h) none in
    record {
      done = ap (λ (v : Verdict). v.reply) at;
      answers = said_here st w (verdict (keep (turn (event.Resume w (Some id) h t) st)) (event.Resume w (Some id) h t)) at;
    }

-- its count is too high
pub high_is : (st : State) (w c u : ℕ) (id : ResumeId) (h t : ℕ) → Sound st.world → InTurn st w c u
    → finds st id u (st.world.sessions id.session) ≡ true → handled (st.world.sessions id.session).traffic h ≡ None
    → (step st (event.Resume w (Some id) h t)).reply ≡ reply.Over (whole.too_high (st.world.sessions id.session).traffic h)
high_is st w c u id h t o is found none =
    let x : Traffic = (st.world.sessions id.session).traffic in
    ap (λ (v : Verdict). v.reply) (found_is st w c u id h t o is ∙ ap (decision st w c u id h) found)
    ∙ (ap (λ (n : Option ℕ). (takes (keep_option (traffic.resume x n)) w c id.session h id (keep_traffic x)).reply) none
    ∙ ap reply.Over (sym (kept.too_high_kept x h (o.ordered id.session))))

-- it goes on
pub effects_are : (st : State) (w c u : ℕ) (id : ResumeId) (h t n : ℕ) → Sound st.world → InTurn st w c u
    → finds st id u (st.world.sessions id.session) ≡ true → handled (st.world.sessions id.session).traffic h ≡ Some n
    → verdict (keep (turn (event.Resume w (Some id) h t) st)) (event.Resume w (Some id) h t)
    ≡ takes (keep_option (traffic.resume (st.world.sessions id.session).traffic (Some n))) w c id.session h id
    (keep_traffic (st.world.sessions id.session).traffic)
effects_are st w c u id h t n o is found has =
    let x : Traffic = (st.world.sessions id.session).traffic in
    found_is st w c u id h t o is
    ∙ (ap (decision st w c u id h) found
    ∙ ap (λ (n : Option ℕ). takes (keep_option (traffic.resume x n)) w c id.session h id (keep_traffic x)) has)

pub resumed_is : (st : State) (w c u : ℕ) (id : ResumeId) (h t n : ℕ) → Sound st.world → InTurn st w c u
    → finds st id u (st.world.sessions id.session) ≡ true → handled (st.world.sessions id.session).traffic h ≡ Some n
    → (step st (event.Resume w (Some id) h t)).reply ≡ reply.Resumed
resumed_is st w c u id h t n o is found has =
    ap (λ (v : Verdict). v.reply) (effects_are st w c u id h t n o is found has)

pub and_left : (a b : Bool) → (a && b) ≡ true → a ≡ true
and_left true b is = refl
and_left false b is = absurd (true≢false (sym is))

pub and_right : (a b : Bool) → (a && b) ≡ true → b ≡ true
and_right true b is = is
and_right false b is = absurd (true≢false (sym is))

pub finds_live : (st : State) (id : ResumeId) (u : ℕ) (s : Session Traffic) → finds st id u s ≡ true
    → is_live s.hold ≡ true
finds_live st id u s found = and_left (is_live s.hold) _ found

pub finds_counts : (st : State) (id : ResumeId) (u : ℕ) (s : Session Traffic) → finds st id u s ≡ true → s.counts ≡ true
finds_counts st id u s found = and_left _ _ (and_right (is_live s.hold) _ found)
