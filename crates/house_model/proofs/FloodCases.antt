-- The ninth answer that a connection asks for, and the other ways in which a line is left.
use Rattle.std.proofs.Common.{◌≡◌, ℕ, List, [], ◌∷◌, ◌++◌, length, Option, Some, Bool, true, false}
use Rattle.std.proofs.Common.{refl, sym, ap, ◌∙◌, true≢false}
use Rattle.std.specs.Prelude.{◌&&◌, nat_le}
use Rattle.std.proofs.lemmas.Bool.{leb-true, le-leb}
use Rattle.sm_resume.specs.declared.decision.Cause.{Cause}
use Rattle.sm_resume.specs.declared.decision.Cause.TheVariants.{Flood}
use Rattle.session_table.specs.declared.line.Line as stage
use Rattle.session_table.specs.declared.line.Line.TheVariants.{Empty, Fresh, Logged, Bound, Over}
use Rattle.house_model.specs.declared.event.Event.{Event}
use Rattle.house_model.specs.declared.event.Event.TheVariants as event
use Rattle.house_model.specs.declared.reply.Reply.TheVariants as reply
use Rattle.house_model.specs.Traffic.{Traffic, whole}
use Rattle.house_model.specs.States.{Line, World, State, Kept, keep}
use Rattle.house_model.specs.Effects.{Effect, At, Close, over_line, apply_all}
use Rattle.house_model.specs.Gate.{Verdict, Stop, Waits, Knows, Holds, Needs, to_bind, to_manage, to_ask, most_answers, is_full}
use Rattle.house_model.specs.Gate.{left, flooded, ready, gate_at}
use Rattle.house_model.specs.Steps.{body, verdict, turn}
use Rattle.house_model.specs.Histories.{step, line_of}
use Rattle.house_model.specs.Losses.{IsFlooded, IsCut, can_ask}
use Rattle.house_model.specs.Closings.{conn_at, stage_before, stage_after}
use Rattle.house_model.proofs.PutLemmas.{put_here}
use Rattle.house_model.proofs.FitLemmas.{IsMatched}
use Rattle.house_model.proofs.GateLemmas.{flood}
use Rattle.house_model.proofs.Resumes.{and_left, and_right}
use Rattle.house_model.proofs.TurnCases as turned
use Rattle.house_model.proofs.TurnCases.{Fate, IsSaid, IsNotOver, Turned, effects_now, not_said, suits}
use Rattle.house_model.proofs.Joins.{apply_append}
use Rattle.house_model.proofs.LossCases.{cut_turn}

-- What can ask is what the gate lets ask.

bind_asks : (w : ℕ) (id : List ℕ) (resource : Option (List ℕ)) (t : ℕ) (dice : List ℕ) (g : stage.Line)
    → can_ask (event.Bind w id resource t dice) g ≡ suits to_bind g
bind_asks w id resource t dice Empty = refl
bind_asks w id resource t dice (Fresh c) = refl
bind_asks w id resource t dice (Logged c u) = refl
bind_asks w id resource t dice (Bound c s) = refl
bind_asks w id resource t dice (Over c cause) = refl

enable_asks : (w : ℕ) (wants : Bool) (dice : List ℕ) (g : stage.Line) → can_ask (event.Enable w wants dice) g ≡ suits to_manage g
enable_asks w wants dice Empty = refl
enable_asks w wants dice (Fresh c) = refl
enable_asks w wants dice (Logged c u) = refl
enable_asks w wants dice (Bound c s) = refl
enable_asks w wants dice (Over c cause) = refl

resume_asks : (w : ℕ) (id : _) (h t : ℕ) (g : stage.Line) → can_ask (event.Resume w id h t) g ≡ suits to_manage g
resume_asks w id h t Empty = refl
resume_asks w id h t (Fresh c) = refl
resume_asks w id h t (Logged c u) = refl
resume_asks w id h t (Bound c s) = refl
resume_asks w id h t (Over c cause) = refl

ask_asks : (w : ℕ) (g : stage.Line) → can_ask (event.Ask w) g ≡ suits to_ask g
ask_asks w Empty = refl
ask_asks w (Fresh c) = refl
ask_asks w (Logged c u) = refl
ask_asks w (Bound c s) = refl
ask_asks w (Over c cause) = refl

-- what is asked of the gate, where it asks for an answer
abbrev pub Asks : Event → Needs → Type 0
Asks e n = (g : stage.Line) → n.answers ≡ true → can_ask e g ≡ suits n g

pub bind_can : (w : ℕ) (id : List ℕ) (resource : Option (List ℕ)) (t : ℕ) (dice : List ℕ) → Asks (event.Bind w id resource t dice) to_bind
bind_can w id resource t dice g is = bind_asks w id resource t dice g

pub enable_can : (w : ℕ) (wants : Bool) (dice : List ℕ) → Asks (event.Enable w wants dice) to_manage
enable_can w wants dice g is = enable_asks w wants dice g

pub resume_can : (w : ℕ) (id : _) (h t : ℕ) → Asks (event.Resume w id h t) to_manage
resume_can w id h t g is = resume_asks w id h t g

pub ask_can : (w : ℕ) → Asks (event.Ask w) to_ask
ask_can w g is = ask_asks w g

-- one that asks for none is never full
pub asks_none : (e : Event) (n : Needs) → n.answers ≡ false → Asks e n
asks_none e n none g is = absurd (true≢false (sym is ∙ none))

-- The gate floods where it does.

pub gate_flooded : (st : State) (e : Event) (n : Needs) → Asks e n → suits n (stage_before st (line_of e)) ≡ true
    → is_full n (st.world.lines (line_of e)) ≡ true → IsFlooded st e (line_of e)
gate_flooded st e n asks suit full =
    let l : Line = st.world.lines (line_of e) in
    record {
      line = refl;
      asks = asks l.stage (and_left n.answers (nat_le most_answers (length l.answers)) full) ∙ suit;
      full = leb-true most_answers (length l.answers) (and_right n.answers (nat_le most_answers (length l.answers)) full);
    }

gate_floods : (k : Kept) (n : Needs) (w : ℕ) (l : Line) (g : stage.Line) → suits n g ≡ true → is_full n l ≡ true
    → (c : ℕ) × (conn_at g ≡ Some c) × (gate_at n k w l g ≡ Stop (flood k w c g))
gate_floods k n w l Empty suit full = absurd (true≢false (sym suit))
gate_floods k n w l (Over c cause) suit full = absurd (true≢false (sym suit))
gate_floods k n w l (Fresh c) suit full = (
  c,
  refl,
  ap (λ (b : Bool). ready b (flooded (is_full n l) k w c (Fresh c) Waits)) suit ∙ ap (λ (b : Bool). flooded b k w c (Fresh c) Waits) full,
)
gate_floods k n w l (Logged c u) suit full = (
  c,
  refl,
  ap (λ (b : Bool). ready b (flooded (is_full n l) k w c (Logged c u) (Knows c u))) suit
      ∙ ap (λ (b : Bool). flooded b k w c (Logged c u) (Knows c u)) full,
)
gate_floods k n w l (Bound c s) suit full = (
  c,
  refl,
  ap (λ (b : Bool). ready b (flooded (is_full n l) k w c (Bound c s) (Holds c s))) suit
      ∙ ap (λ (b : Bool). flooded b k w c (Bound c s) (Holds c s)) full,
)

-- the verdict on a ninth answer
abbrev pub Floods : State → Event → ℕ → Type 0
Floods st e w = (c : ℕ) × (conn_at (stage_before st w) ≡ Some c) × (verdict (keep (turn e st)) e ≡ flood (keep (turn e st)) w c (stage_before st w))

module _ (st : State) (e : Event) (w : ℕ) (f : IsFlooded st e w) where
  by_needs : (n : Needs) → n.answers ≡ true → ((g : stage.Line) → can_ask e g ≡ suits n g)
      → (v : ℕ) → v ≡ w → verdict (keep (turn e st)) e ≡ body (keep (turn e st)) e (gate_at n (keep (turn e st)) v (st.world.lines v) (st.world.lines v).stage)
      → Floods st e w
  by_needs n answers asks v at is =
      let k : Kept = keep (turn e st) in
      let l : Line = st.world.lines w in
      let full : is_full n l ≡ true = ap (λ (b : Bool). b && nat_le most_answers (length l.answers)) answers ∙ le-leb most_answers (length l.answers) f.full in
      let p : (c : ℕ) × (conn_at l.stage ≡ Some c) × (gate_at n k w l l.stage ≡ Stop (flood k w c l.stage)) =
      gate_floods k n w l l.stage (sym (asks l.stage) ∙ f.asks) full in (
        p.0,
        p.1,
        is ∙ (ap (λ (x : ℕ). body k e (gate_at n k x (st.world.lines x) (st.world.lines x).stage)) at
            ∙ (ap (body k e) p.2 ∙ stopped k (flood k w p.0 l.stage))),
      ) where
        stopped : (k : Kept) (v : Verdict) → body k e (Stop v) ≡ v
        stopped k v = refl

pub flooded_is : (st : State) (e : Event) (w : ℕ) → IsFlooded st e w → Floods st e w
flooded_is st (event.Bind v id resource t dice) w f =
    by_needs st (event.Bind v id resource t dice) w f to_bind refl (bind_asks v id resource t dice) v f.line refl
flooded_is st (event.Enable v wants dice) w f = by_needs st (event.Enable v wants dice) w f to_manage refl (enable_asks v wants dice) v f.line refl
flooded_is st (event.Resume v id h t) w f = by_needs st (event.Resume v id h t) w f to_manage refl (resume_asks v id h t) v f.line refl
flooded_is st (event.Ask v) w f = by_needs st (event.Ask v) w f to_ask refl (ask_asks v) v f.line refl
flooded_is st (event.OpenLine v) w f = absurd (true≢false (sym f.asks))
flooded_is st (event.Login v user) w f = absurd (true≢false (sym f.asks))
flooded_is st (event.Act v x t) w f = absurd (true≢false (sym f.asks))
flooded_is st (event.Ack v h) w f = absurd (true≢false (sym f.asks))
flooded_is st (event.Pull v t) w f = absurd (true≢false (sym f.asks))
flooded_is st (event.DropLine v t) w f = absurd (true≢false (sym f.asks))
flooded_is st (event.CloseLine v t) w f = absurd (true≢false (sym f.asks))
flooded_is st (event.Sweep v t) w f = absurd (true≢false (sym f.asks))

-- an event that the gate checks is no loss but by a flood
abbrev pub CutByFlood : State → Event → Type 0
CutByFlood st e = (w : ℕ) → IsFlooded st e w → IsCut st e w

-- the line that is closed last
pub closed_line : (st : State) (e : Event) (w c : ℕ) (cause : Cause) (es : List Effect) → effects_now st e ≡ es ++ At w (Close c cause) ∷ []
    → stage_after st e w ≡ Over c cause
closed_line st e w c cause es is =
    ap (λ (l : List Effect). ((apply_all whole st.world l).lines w).stage) is
    ∙ (ap (λ (z : World Traffic). (z.lines w).stage) (apply_append st.world es (At w (Close c cause) ∷ []))
    ∙ ap (λ (l : Line). l.stage) (put_here w (over_line c cause) (apply_all whole st.world es).lines))

-- a reply that says a cause, where a line is closed for this cause
pub closed_said : (st : State) (e : Event) (c : ℕ) (cause : Cause) → (step st e).reply ≡ reply.Over cause → stage_after st e (line_of e) ≡ Over c cause
    → IsSaid st e
closed_said st e c cause says over other r =
    let both : reply.Over cause ≡ reply.Over other = sym says ∙ r in
    let same : cause ≡ other = cc in
    (c, over ∙ ap (Over c) same)

-- The turn of a flood.
pub flood_turn : (st : State) (e : Event) → IsMatched st.world → IsCut st e (line_of e) → (c : ℕ) → conn_at (stage_before st (line_of e)) ≡ Some c
    → IsFlooded st e (line_of e)
    → verdict (keep (turn e st)) e ≡ flood (keep (turn e st)) (line_of e) c (stage_before st (line_of e)) → Turned st e
flood_turn st e m cut c conn f is =
    let w : ℕ = line_of e in
    let es : List Effect = left (keep (turn e st)) (stage_before st w) in
    let over : stage_after st e w ≡ Over c (Flood most_answers) = closed_line st e w c (Flood most_answers) es (ap (λ (v : Verdict). v.effects) is) in
    cut_turn st e w m (At w (Close c (Flood most_answers))) refl cut
    (λ world at. turned.closes c (Flood most_answers) conn over (refl, f))
    (closed_said st e c (Flood most_answers) (ap (λ (v : Verdict). v.reply) is) over)
    (ap (λ (v : Verdict). v.effects) is)
