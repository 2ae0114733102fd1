-- One want of a flow, and what answers it.
use Rattle.std.proofs.Common.{◌≡◌, ℕ, ◌+◌, ◌≤◌, List, [], ◌∷◌, ◌++◌, length, false, Option, Some, None, refl, sym, ap, subst, append_assoc, arith, ◌∙◌}
use Rattle.std.proofs.lemmas.List.{append-nil}
use Rattle.outside.specs.Tapes.{Mark, Tells}
use Rattle.account_book.specs.Lists.{Book}
use Rattle.house_model.specs.Histories.{Turn}
use Rattle.turn_lock.specs.Histories.{StartsWith}
use Rattle.house_model.specs.declared.event.Event.{Event}
use Rattle.house_model.specs.declared.event.Event.TheVariants as event
use Rattle.conn_asks.specs.declared.ended.Ended.{Ended}
use Rattle.conn_asks.specs.declared.ended.Ended.TheVariants as ended
use Rattle.conn_asks.specs.Texts.{failure_text}
use Rattle.conn_flow.specs.declared.phase.Phase.{Phase}
use Rattle.conn_flow.specs.declared.phase.Phase.TheVariants.{Resting, Heard, Saying, Refusing, Drawing, Drawn, Entering, Entered, LoggingIn}
use Rattle.conn_flow.specs.declared.phase.Phase.TheVariants.{LoggedIn, PullingOnce, Pulling, Sweeping, Parting, Left}
use Rattle.conn_flow.specs.declared.talk.Talk.{Talk}
use Rattle.conn_flow.specs.declared.want.Want.{Want}
use Rattle.conn_flow.specs.Moves.{Move, Hears, Waits, Hangs, Fails, Takes, Says, Sends, Enters, Draws, Stops}
use Rattle.conn_flow.specs.Duties.{Site}
use Rattle.conn_flow.specs.Following.{GoesOn}
use Rattle.conn_flow.specs.Flows.{IsGoing, IsLoaded, IsThere, IsWish, State, ToAwait, ToDraw, ToFinish, ToSay, ToSubmit, Wants}
use Rattle.conn_flow.specs.Flows.{event_wish, last_text, login_wish, parting_wish, wish, wish_of, wished}
use Rattle.flow_laws.specs.Standing.{IsServed, Place, duty}
use Rattle.flow_laws.specs.Steps.{AreTakes, Comes, ends_at, handling, says_at, wishes_at}
use Rattle.conn_serve.specs.declared.turn.Next.{Next}
use Rattle.conn_serve.specs.Rounds.{Turned}
use Rattle.conn_serve.specs.Serving.{Came, Finished, Grew, IsAt, Moved, Tale, has, is_fail, is_hang, is_no_dice}
use Rattle.conn_serve.proofs.Growing.{grew_nothing, tells_nothing}
use Rattle.conn_serve.proofs.Laws as L
use Rattle.conn_serve.proofs.Listening.{grew_same, one, stops}
use Rattle.conn_serve.proofs.Passing.{turned_after}
use Rattle.conn_serve.proofs.Sending.{calm, same}
use Rattle.conn_serve.proofs.Standing.{duty_moment, wished_moment}

-- handling an item needs no count to rise

no_fail : (ms : List Move) → AreTakes ms → has is_fail ms ≡ false
no_fail [] h = refl
no_fail (Takes ∷ ms) h = no_fail ms h
no_fail (Hears bytes t ∷ ms) h = absurd h
no_fail (Waits t ∷ ms) h = absurd h
no_fail (Hangs t ∷ ms) h = absurd h
no_fail (Fails t ∷ ms) h = absurd h
no_fail (Says text ∷ ms) h = absurd h
no_fail (Sends bytes ∷ ms) h = absurd h
no_fail (Enters turn ∷ ms) h = absurd h
no_fail (Draws dice ∷ ms) h = absurd h
no_fail (Stops x ∷ ms) h = absurd h

no_hang : (ms : List Move) → AreTakes ms → has is_hang ms ≡ false
no_hang [] h = refl
no_hang (Takes ∷ ms) h = no_hang ms h
no_hang (Hears bytes t ∷ ms) h = absurd h
no_hang (Waits t ∷ ms) h = absurd h
no_hang (Hangs t ∷ ms) h = absurd h
no_hang (Fails t ∷ ms) h = absurd h
no_hang (Says text ∷ ms) h = absurd h
no_hang (Sends bytes ∷ ms) h = absurd h
no_hang (Enters turn ∷ ms) h = absurd h
no_hang (Draws dice ∷ ms) h = absurd h
no_hang (Stops x ∷ ms) h = absurd h

no_stop : (ms : List Move) → AreTakes ms → has is_no_dice ms ≡ false
no_stop [] h = refl
no_stop (Takes ∷ ms) h = no_stop ms h
no_stop (Hears bytes t ∷ ms) h = absurd h
no_stop (Waits t ∷ ms) h = absurd h
no_stop (Hangs t ∷ ms) h = absurd h
no_stop (Fails t ∷ ms) h = absurd h
no_stop (Says text ∷ ms) h = absurd h
no_stop (Sends bytes ∷ ms) h = absurd h
no_stop (Enters turn ∷ ms) h = absurd h
no_stop (Draws dice ∷ ms) h = absurd h
no_stop (Stops x ∷ ms) h = absurd h

abbrev comes_grew : (o : Site) (a : Tale) (p : Place) (s : State) (c : Comes o p s) → Grew o a (duty o p) a (duty o c.to)
comes_grew o a p s c = record {
  moves = c.moves;
  through = c.through;
  tape = subst (λ (x : List Mark). Tells Mark a.told.tape a.told.tape x) (sym c.silent.marks_none) (tells_nothing Mark a.told.tape);
  turns_are = subst (λ (x : List Turn). a.told.turns ≡ a.told.turns ++ x) (sym c.silent.turns_none) (sym (append-nil _));
  moments_are = subst (λ (x : List ℕ). Tells ℕ a.told.moments a.told.moments x) (sym c.silent.moments_none) (tells_nothing ℕ a.told.moments);
  drawn = subst (λ (x : List (List ℕ)). Tells (List ℕ) a.told.drawn a.told.drawn x) (sym c.silent.draws_none) (tells_nothing (List ℕ) a.told.drawn);
  counted = calm c.moves a.counts a.counts (no_fail c.moves c.silent.takes) (no_hang c.moves c.silent.takes) (no_stop c.moves c.silent.takes)
      (same a.counts.faults) (same a.counts.ends) (same a.counts.dice);
}

-- What was handled before a want.

pub record Handled (o : Site) (p : Place) (ahead owed : List ℕ) (want : Want) (flow : State) : Type 0 where
  pub to : Place
  pub served : IsServed o to
  pub ahead_is : to.ahead ≡ ahead
  pub owes : to.owed ≡ owed
  pub grew : (a : Tale) → Grew o a (duty o p) a (duty o to)
  pub enough : (a : Tale) → handling p.flow.talk.phase ≤ length (grew a).moves
  pub wishes : IsWish want (wish_of to.flow)
  pub now : flow ≡ wishes_at to.flow

handled_here : (o : Site) (p : Place) (want : Want) (flow' : State) → IsServed o p → Wants o.accounts p.flow want flow'
    → Handled o p p.ahead p.owed want flow'
handled_here o p want flow' h w =
    let c : Comes o p w.0 = L.handles o p w.0 h w.1 in
    record {
      to = c.to;
      served = c.served;
      ahead_is = c.ahead_is;
      owes = c.owed_is;
      grew = λ a. comes_grew o a p w.0 c;
      enough = λ a. c.counted;
      wishes = subst (λ (s : State). IsWish want (wish_of s)) (sym c.flow_is) w.2;
      now = w.3 ∙ ap wishes_at (sym c.flow_is);
    }

pub handled : (o : Site) (p : Place) (flow : State) (ahead owed : List ℕ) (accounts : Book) (want : Want) (flow' : State)
    → IsAt o p flow ahead owed → o.accounts ≡ accounts → Wants accounts flow want flow' → Handled o p ahead owed want flow'
handled o p flow ahead owed accounts want flow' at accounts_are w =
    subst (λ (x : List ℕ). Handled o p x owed want flow') at.ahead_is
    (subst (λ (x : List ℕ). Handled o p p.ahead x want flow') at.owed_is
    (handled_here o p want flow' at.served
    (subst (λ (b : Book). Wants b p.flow want flow') (sym accounts_are) (subst (λ (s : State). Wants accounts s want flow') (sym at.flow_is) w))))

-- what answers a want goes on from there
pub answered : (o : Site) (a b : Tale) (p : Place) (flow : State) (ahead owed : List ℕ) (want : Want) (flow1 flow' : State) (ahead' owed' : List ℕ)
    (result : Next) (h : Handled o p ahead owed want flow1) → p.flow ≡ flow → Turned 1 o a (duty o h.to) b flow' ahead' owed' result
    → Turned (handling flow.talk.phase + 1) o a (duty o p) b flow' ahead' owed' result
answered o a b p flow ahead owed want flow1 flow' ahead' owed' result h is turned =
    subst (λ (s : State). Turned (handling s.talk.phase + 1) o a (duty o p) b flow' ahead' owed' result) is
    (turned_after o a a b (duty o p) (duty o h.to) flow' ahead' owed' (handling p.flow.talk.phase) 1 result (h.grew a) (h.enough a) turned)

-- Where nothing is handed over the flow is as it was.

no_wait_event : (e : Option Event) → IsThere e → event_wish e ≡ ToAwait → ⊥
no_wait_event (Some e) there w = cc
no_wait_event None there w = absurd there

no_wait_login : (n : ℕ) (user : Option (List ℕ)) → IsThere user → login_wish n user ≡ ToAwait → ⊥
no_wait_login n (Some user) there w = cc
no_wait_login n None there w = absurd there

no_wait_end : (text : Option (List ℕ)) (x : Ended) → parting_wish text x ≡ ToAwait → ⊥
no_wait_end (Some text) x w = cc
no_wait_end None x w = cc

waits_same : (s : Talk) (p : Phase) → IsLoaded s p → wish s p ≡ ToAwait → wished s p ≡ s
waits_same s Resting loaded w = refl
waits_same s Heard loaded w = refl
waits_same s (Drawn dice) loaded w = refl
waits_same s (Entered pulls) loaded w = refl
waits_same s LoggedIn loaded w = refl
waits_same s Entering loaded w = absurd (no_wait_event s.event loaded w)
waits_same s LoggingIn loaded w = absurd (no_wait_login s.line s.user loaded w)
waits_same s (Parting x) loaded w = absurd (no_wait_end (last_text s x) x w)
waits_same s Saying loaded w = absurd (let d : ToSay s.text ≡ ToAwait = w in cc)
waits_same s (Refusing f) loaded w = absurd (let d : ToSay (failure_text f) ≡ ToAwait = w in cc)
waits_same s Drawing loaded w = absurd (let d : ToDraw ≡ ToAwait = w in cc)
waits_same s PullingOnce loaded w = absurd (let d : ToSubmit (event.Pull s.line s.moment) ≡ ToAwait = w in cc)
waits_same s Pulling loaded w = absurd (let d : ToSubmit (event.Pull s.line s.moment) ≡ ToAwait = w in cc)
waits_same s Sweeping loaded w = absurd (let d : ToSubmit (event.Sweep s.line s.moment) ≡ ToAwait = w in cc)
waits_same s (Left x) loaded w = absurd (let d : ToFinish x ≡ ToAwait = w in cc)

no_draw_event : (e : Option Event) → event_wish e ≡ ToDraw → ⊥
no_draw_event (Some e) w = cc
no_draw_event None w = cc

no_draw_login : (n : ℕ) (user : Option (List ℕ)) → login_wish n user ≡ ToDraw → ⊥
no_draw_login n (Some user) w = cc
no_draw_login n None w = cc

no_draw_end : (text : Option (List ℕ)) (x : Ended) → parting_wish text x ≡ ToDraw → ⊥
no_draw_end (Some text) x w = cc
no_draw_end None x w = cc

draws_same : (s : Talk) (p : Phase) → wish s p ≡ ToDraw → wished s p ≡ s
draws_same s Drawing w = refl
draws_same s Entering w = absurd (no_draw_event s.event w)
draws_same s LoggingIn w = absurd (no_draw_login s.line s.user w)
draws_same s (Parting x) w = absurd (no_draw_end (last_text s x) x w)
draws_same s Resting w = refl
draws_same s Heard w = refl
draws_same s (Drawn dice) w = refl
draws_same s (Entered pulls) w = refl
draws_same s LoggedIn w = refl
draws_same s PullingOnce w = refl
draws_same s Pulling w = refl
draws_same s Sweeping w = refl
draws_same s (Left x) w = refl
draws_same s Saying w = absurd (let d : ToSay s.text ≡ ToDraw = w in cc)
draws_same s (Refusing f) w = absurd (let d : ToSay (failure_text f) ≡ ToDraw = w in cc)

pub waits_at : (o : Site) (p : Place) (flow : State) → IsServed o p → wish_of p.flow ≡ ToAwait → flow ≡ wishes_at p.flow → flow ≡ p.flow
waits_at o p flow h w now = now ∙ ap (λ (s : Talk). record p.flow { talk = s }) (waits_same p.flow.talk p.flow.talk.phase h.loaded w)

pub draws_at : (p : Place) (flow : State) → wish_of p.flow ≡ ToDraw → flow ≡ wishes_at p.flow → flow ≡ p.flow
draws_at p flow w now = now ∙ ap (λ (s : Talk). record p.flow { talk = s }) (draws_same p.flow.talk p.flow.talk.phase w)

-- What is said is owed.

pub says_then : (o : Site) (a : Tale) (p : Place) (ahead owed owed' : List ℕ) (want : Want) (flow' : State) (text : List ℕ)
    (h : Handled o p ahead owed want flow') → wish_of h.to.flow ≡ ToSay text → owed' ≡ owed ++ text → Moved 1 o a (duty o h.to) a flow' ahead owed'
says_then o a p ahead owed owed' want flow' text h w grown =
    let q : Place = says_at h.to text in
    let law : GoesOn o (duty o h.to) (Says text) (duty o q) × IsServed o q = L.says o h.to text h.served w in
    record {
      came = record {
        to = q;
        at = record {
          flow_is = sym h.now;
          ahead_is = h.ahead_is;
          owed_is = ap (λ (x : List ℕ). x ++ text) h.owes ∙ sym grown;
          served = law.1;
        };
        grew = one o a a (duty o h.to) (duty o q) (Says text) law.0 (tells_nothing Mark a.told.tape) (sym (append-nil _))
            (tells_nothing ℕ a.told.moments) (tells_nothing (List ℕ) a.told.drawn)
            (calm (Says text ∷ []) a.counts a.counts refl refl refl (same a.counts.faults) (same a.counts.ends) (same a.counts.dice));
      };
      enough = omega arith;
    }

no_end : {text : List ℕ} {x : Ended} → ToSay text ≡ ToFinish x → ⊥
no_end e = cc

-- or there was no memory for it
pub says_none : (o : Site) (a : Tale) (p : Place) (ahead owed : List ℕ) (want : Want) (flow' : State) (text : List ℕ) (t : ℕ)
    (h : Handled o p ahead owed want flow') → wish_of h.to.flow ≡ ToSay text → t ≡ flow'.talk.moment → Finished o a (duty o h.to) a ended.NoMemory t
says_none o a p ahead owed want flow' text t h w now =
    stops o a (duty o h.to) t (L.wants_on o h.to (λ x end. no_end (sym w ∙ end)))
    (duty_moment o h.to ∙ sym (now ∙ ap (λ (s : State). s.talk.moment) h.now ∙ wished_moment h.to.flow.talk h.to.flow.talk.phase))

-- The flow is over.

pub over_now : (o : Site) (a : Tale) (p : Place) (ahead owed : List ℕ) (want : Want) (flow' : State) (x : Ended)
    (h : Handled o p ahead owed want flow') → wish_of h.to.flow ≡ ToFinish x → Came o a (duty o h.to) a flow' ahead owed × (wish_of flow' ≡ ToFinish x)
over_now o a p ahead owed want flow' x h w =
    let law : (duty o (ends_at h.to) ≡ duty o h.to) × IsServed o (ends_at h.to) × (wish_of (ends_at h.to).flow ≡ ToFinish x) = L.over o h.to x h.served w in (
      record {
        to = ends_at h.to;
        at = record { flow_is = sym h.now; ahead_is = h.ahead_is; owed_is = h.owes; served = law.1 };
        grew = grew_same o a (duty o (ends_at h.to)) (duty o h.to) law.0;
      },
      ap wish_of h.now ∙ law.2,
    )

pub short_of_memory : (o : Site) (a : Tale) (p : Place) (flow : State) (ahead owed : List ℕ) (t : ℕ) → IsAt o p flow ahead owed
    → IsGoing flow.talk flow.talk.phase → t ≡ flow.talk.moment → Finished o a (duty o p) a ended.NoMemory t
short_of_memory o a p flow ahead owed t at going now =
    stops o a (duty o p) t (L.goes o p (subst (λ (s : State). IsGoing s.talk s.talk.phase) (sym at.flow_is) going))
    (duty_moment o p ∙ ap (λ (s : State). s.talk.moment) at.flow_is ∙ sym now)

-- where it waits, and nothing is left to be heard
abbrev pub rests_here : (o : Site) (a : Tale) (p : Place) (flow : State) (ahead owed : List ℕ) → IsAt o p flow ahead owed → Came o a
    (duty o p) a flow ahead owed
rests_here o a p flow ahead owed at = record { to = p; at = at; grew = grew_nothing o a (duty o p) }

pub starts_both : (x y z : List Turn) → StartsWith y x → StartsWith z y → StartsWith z x
starts_both x y z p q = (p.0 ++ q.0, q.1 ∙ ap (λ (l : List Turn). l ++ q.0) p.1 ∙ append_assoc x p.0 q.0)

pub starts_same : (x : List Turn) → StartsWith x x
starts_same x = ([], sym (append-nil x))

pub said : (owed : List ℕ) {owed' text slice : List ℕ} → owed' ≡ owed ++ slice → slice ≡ text → owed' ≡ owed ++ text
said owed is same = is ∙ ap (λ (x : List ℕ). owed ++ x) same
