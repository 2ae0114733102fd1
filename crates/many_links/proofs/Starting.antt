-- A connection begins, and ends that goes on no more.
use Rattle.std.proofs.Common.{◌≡◌, ◌≢◌, ℕ, List, [], sym, subst, ap, ◌∙◌}
use Rattle.std.specs.Prelude.{Result, Ok, Err}
use Rattle.account_book.specs.Lists.{Book}
use Rattle.conn_asks.specs.declared.ended.Ended.{Ended}
use Rattle.conn_asks.specs.declared.ended.Ended.TheVariants as ended
use Rattle.conn_flow.specs.declared.want.Want.{Want}
use Rattle.conn_flow.specs.declared.want.Want.TheVariants as want
use Rattle.conn_flow.specs.Duties.{Duty, Site}
use Rattle.conn_flow.specs.Flows.{State, ToAwait, ToDraw, ToFinish, ToSay, ToSubmit, Wants, wish_of}
use Rattle.flow_laws.specs.Standing.{Place, duty}
use Rattle.conn_serve.specs.declared.round.Conn.{Conn}
use Rattle.conn_serve.specs.declared.turn.End.{End}
use Rattle.conn_serve.specs.Serving.{Came, Finished, Grew, IsAt, Tale}
use Rattle.conn_serve.proofs.Growing.{finished_after}
use Rattle.conn_serve.proofs.Laws as L
use Rattle.conn_serve.proofs.Leaving.{concluded_after}
use Rattle.conn_serve.proofs.Listening.{stops}
use Rattle.conn_serve.proofs.Passing.{came_after, ends_here, lost_rest}
use Rattle.conn_serve.proofs.Standing.{duty_moment, wished_moment}
use Rattle.conn_serve.proofs.Turning.{Handled, handled, over_now, rests_here}
use Rattle.many_links.specs.Beginning.{EndsWanting, Named}

-- what comes after the house was told
pub named_after : (o : Site) (a b c : Tale) (u v : Duty) (result : Result Conn End) → Grew o a u b v → Named o b v c result → Named o a u c result
named_after o a b c u v (Ok conn) grew h = came_after grew h
named_after o a b c u v (Err end) grew h = concluded_after o a b c u v end grew h

-- what was left by an earlier round stays unsaid
pub unsaid : (o : Site) (a : Tale) (p : Place) (flow : State) (ahead owed : List ℕ) (t : ℕ) → IsAt o p flow ahead owed → owed ≢ []
    → t ≡ flow.talk.moment → Finished o a (duty o p) a ended.NoMemory t
unsaid o a p flow ahead owed t at some now = lost_rest o a a (duty o p) flow ahead owed t (rests_here o a p flow ahead owed at) some now

stops_wanting : (o : Site) (a : Tale) (p : Place) (ahead owed : List ℕ) (w : Want) (flow' : State) (t : ℕ) (h : Handled o p ahead owed w flow')
    → ((x : Ended) → wish_of h.to.flow ≡ ToFinish x → ⊥) → t ≡ flow'.talk.moment → Finished o a (duty o p) a ended.NoMemory t
stops_wanting o a p ahead owed w flow' t h other now =
    finished_after (h.grew a)
    (stops o a (duty o h.to) t (L.wants_on o h.to other)
    (duty_moment o h.to ∙ sym (now ∙ ap (λ (s : State). s.talk.moment) h.now ∙ wished_moment h.to.flow.talk h.to.flow.talk.phase)))

noticed_so : (o : Site) (a : Tale) (p : Place) (ahead owed : List ℕ) (w : Want) (flow' : State) (x : Ended) (t : ℕ) → Handled o p ahead owed w flow'
    → EndsWanting w x → owed ≡ [] → t ≡ flow'.talk.moment → Finished o a (duty o p) a x t
noticed_so o a p ahead owed (want.Say text) flow' x t h is none now =
    subst (λ (y : Ended). Finished o a (duty o p) a y t) (sym is)
    (stops_wanting o a p ahead owed (want.Say text) flow' t h
    (λ y e. absurd (let d : ToSay text.items ≡ ToFinish y = sym h.wishes ∙ e in cc)) now)
noticed_so o a p ahead owed (want.Submit event) flow' x t h is none now =
    subst (λ (y : Ended). Finished o a (duty o p) a y t) (sym is)
    (stops_wanting o a p ahead owed (want.Submit event) flow' t h
    (λ y e. absurd (let d : ToSubmit event ≡ ToFinish y = sym h.wishes ∙ e in cc)) now)
noticed_so o a p ahead owed want.NeedDice flow' x t h is none now =
    subst (λ (y : Ended). Finished o a (duty o p) a y t) (sym is)
    (stops_wanting o a p ahead owed want.NeedDice flow' t h
    (λ y e. absurd (let d : ToDraw ≡ ToFinish y = sym h.wishes ∙ e in cc)) now)
noticed_so o a p ahead owed want.Await flow' x t h is none now =
    subst (λ (y : Ended). Finished o a (duty o p) a y t) (sym is)
    (stops_wanting o a p ahead owed want.Await flow' t h
    (λ y e. absurd (let d : ToAwait ≡ ToFinish y = sym h.wishes ∙ e in cc)) now)
noticed_so o a p ahead owed (want.Finish y) flow' x t h is none now =
    let over : Came o a (duty o h.to) a flow' ahead owed × (wish_of flow' ≡ ToFinish y) = over_now o a p ahead owed (want.Finish y) flow' y h h.wishes in
    subst (λ (z : Ended). Finished o a (duty o p) a z t) (sym is)
    (finished_after (h.grew a) (ends_here o a a (duty o h.to) flow' ahead owed y t over.0 none over.1 now))

-- a flow that is asked for no more
pub noticed : (o : Site) (a : Tale) (p : Place) (flow : State) (ahead owed : List ℕ) (accounts : Book) (w : Want) (flow' : State) (x : Ended) (t : ℕ)
    → IsAt o p flow ahead owed → o.accounts ≡ accounts → Wants accounts flow w flow' → EndsWanting w x → owed ≡ [] → t ≡ flow'.talk.moment
    → Finished o a (duty o p) a x t
noticed o a p flow ahead owed accounts w flow' x t at accounts_are wants is none now =
    noticed_so o a p ahead owed w flow' x t (handled o p flow ahead owed accounts w flow' at accounts_are wants) is none now
