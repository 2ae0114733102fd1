-- What a place's duty shows of the place.
use Rattle.std.proofs.Common.{◌≡◌, ℕ, List, [], ◌∷◌, Option, Some, None, true, refl, sym, subst, ap, ◌∙◌}
use Rattle.conn_asks.specs.declared.stage.Purpose.{Purpose}
use Rattle.conn_asks.specs.declared.stage.Purpose.TheVariants.{Challenge, Bind, Enable}
use Rattle.conn_flow.specs.declared.phase.Phase.{Phase}
use Rattle.conn_flow.specs.declared.phase.Phase.TheVariants.{Resting, Heard, Saying, Refusing, Drawing, Drawn, Entering, Entered, LoggingIn}
use Rattle.conn_flow.specs.declared.phase.Phase.TheVariants.{LoggedIn, PullingOnce, Pulling, Sweeping, Parting, Left}
use Rattle.conn_flow.specs.declared.talk.Talk.{Talk}
use Rattle.conn_flow.specs.Duties.{Due, Duty, Site}
use Rattle.conn_flow.specs.Following.{goes_on}
use Rattle.conn_flow.specs.Flows.{State, wished}
use Rattle.flow_laws.specs.Standing.{IsServed, Place, drew_if, duty, duty_at, idle, known}
use Rattle.flow_laws.proofs.Places.{end_due_same}
use Rattle.conn_serve.specs.Serving.{IsAt}

-- what is owed and the moment are the place's

drew_keeps : (o : Site) (v : Duty) (purpose : Option Purpose) (dice : List ℕ) (rest : List Due) → (drew_if o v purpose dice rest).moment ≡ v.moment
drew_keeps o v (Some (Challenge m first)) dice rest = refl
drew_keeps o v (Some (Bind id resource)) dice rest = refl
drew_keeps o v (Some (Enable resume)) dice rest = refl
drew_keeps o v None dice rest = refl

drew_owes : (o : Site) (v : Duty) (purpose : Option Purpose) (dice : List ℕ) (rest : List Due) → (drew_if o v purpose dice rest).owed ≡ v.owed
drew_owes o v (Some (Challenge m first)) dice rest = refl
drew_owes o v (Some (Bind id resource)) dice rest = refl
drew_owes o v (Some (Enable resume)) dice rest = refl
drew_owes o v None dice rest = refl

drew_owing : (o : Site) (v : Duty) (purpose : Option Purpose) (dice : List ℕ) (rest : List Due) (owed : List ℕ)
    → record (drew_if o v purpose dice rest) { owed = owed } ≡ drew_if o (record v { owed = owed }) purpose dice rest
drew_owing o v (Some (Challenge m first)) dice rest owed = refl
drew_owing o v (Some (Bind id resource)) dice rest owed = refl
drew_owing o v (Some (Enable resume)) dice rest owed = refl
drew_owing o v None dice rest owed = refl

moment_at : (o : Site) (s : Talk) (stream front ahead owed : List ℕ) (p : Phase) → (duty_at o s stream front ahead owed p).moment ≡ s.moment
moment_at o s stream front ahead owed (Drawn dice) = drew_keeps o _ s.purpose dice _
moment_at o s stream front ahead owed Resting = refl
moment_at o s stream front ahead owed Heard = refl
moment_at o s stream front ahead owed Saying = refl
moment_at o s stream front ahead owed (Refusing f) = refl
moment_at o s stream front ahead owed Drawing = refl
moment_at o s stream front ahead owed Entering = refl
moment_at o s stream front ahead owed (Entered pulls) = refl
moment_at o s stream front ahead owed LoggingIn = refl
moment_at o s stream front ahead owed LoggedIn = refl
moment_at o s stream front ahead owed PullingOnce = refl
moment_at o s stream front ahead owed Pulling = refl
moment_at o s stream front ahead owed Sweeping = refl
moment_at o s stream front ahead owed (Parting x) = refl
moment_at o s stream front ahead owed (Left x) = refl

pub duty_moment : (o : Site) (p : Place) → (duty o p).moment ≡ p.flow.talk.moment
duty_moment o p = moment_at o p.flow.talk p.stream p.front p.ahead p.owed p.flow.talk.phase

owed_at : (o : Site) (s : Talk) (stream front ahead owed : List ℕ) (p : Phase) → (duty_at o s stream front ahead owed p).owed ≡ owed
owed_at o s stream front ahead owed (Drawn dice) = drew_owes o _ s.purpose dice _
owed_at o s stream front ahead owed Resting = refl
owed_at o s stream front ahead owed Heard = refl
owed_at o s stream front ahead owed Saying = refl
owed_at o s stream front ahead owed (Refusing f) = refl
owed_at o s stream front ahead owed Drawing = refl
owed_at o s stream front ahead owed Entering = refl
owed_at o s stream front ahead owed (Entered pulls) = refl
owed_at o s stream front ahead owed LoggingIn = refl
owed_at o s stream front ahead owed LoggedIn = refl
owed_at o s stream front ahead owed PullingOnce = refl
owed_at o s stream front ahead owed Pulling = refl
owed_at o s stream front ahead owed Sweeping = refl
owed_at o s stream front ahead owed (Parting x) = refl
owed_at o s stream front ahead owed (Left x) = refl

pub duty_owes : (o : Site) (p : Place) → (duty o p).owed ≡ p.owed
duty_owes o p = owed_at o p.flow.talk p.stream p.front p.ahead p.owed p.flow.talk.phase

-- what a flow wants leaves the moment

pub wished_moment : (s : Talk) (p : Phase) → (wished s p).moment ≡ s.moment
wished_moment s Saying = refl
wished_moment s (Refusing f) = refl
wished_moment s Drawing = refl
wished_moment s Entering = refl
wished_moment s LoggingIn = refl
wished_moment s (Parting x) = refl
wished_moment s Resting = refl
wished_moment s Heard = refl
wished_moment s (Drawn dice) = refl
wished_moment s (Entered pulls) = refl
wished_moment s LoggedIn = refl
wished_moment s PullingOnce = refl
wished_moment s Pulling = refl
wished_moment s Sweeping = refl
wished_moment s (Left x) = refl

-- after all was sent

owing_at : (o : Site) (s : Talk) (stream front ahead owed other : List ℕ) (p : Phase)
    → record (duty_at o s stream front ahead owed p) { owed = other } ≡ duty_at o s stream front ahead other p
owing_at o s stream front ahead owed other (Drawn dice) = drew_owing o _ s.purpose dice _ other
owing_at o s stream front ahead owed other (Parting x) =
    ap (λ (due : List Due). known s stream other due) (end_due_same o (known s stream other []) [] owed x)
owing_at o s stream front ahead owed other Resting = refl
owing_at o s stream front ahead owed other Heard = refl
owing_at o s stream front ahead owed other Saying = refl
owing_at o s stream front ahead owed other (Refusing f) = refl
owing_at o s stream front ahead owed other Drawing = refl
owing_at o s stream front ahead owed other Entering = refl
owing_at o s stream front ahead owed other (Entered pulls) = refl
owing_at o s stream front ahead owed other LoggingIn = refl
owing_at o s stream front ahead owed other LoggedIn = refl
owing_at o s stream front ahead owed other PullingOnce = refl
owing_at o s stream front ahead owed other Pulling = refl
owing_at o s stream front ahead owed other Sweeping = refl
owing_at o s stream front ahead owed other (Left x) = refl

pub duty_owing : (o : Site) (p : Place) (owed : List ℕ) → record (duty o p) { owed = owed } ≡ duty o (record p { owed = owed })
duty_owing o p owed = owing_at o p.flow.talk p.stream p.front p.ahead p.owed owed p.flow.talk.phase

pub served_owing : (o : Site) (p : Place) (owed : List ℕ) → IsServed o p → IsServed o (record p { owed = owed })
served_owing o p owed h = record {
  told = h.told;
  loaded = h.loaded;
  event_fits = h.event_fits;
  purpose_fits = h.purpose_fits;
  line = h.line;
  domain = h.domain;
  limits_are = h.limits_are;
  more = h.more;
  read = h.read;
  all = h.all;
  timed = h.timed;
}

pub owing : (o : Site) (p : Place) (flow : State) (ahead owed other : List ℕ) → IsAt o p flow ahead owed → IsAt o (record p { owed = other }) flow ahead other
owing o p flow ahead owed other at =
    record { flow_is = at.flow_is; ahead_is = at.ahead_is; owed_is = refl; served = served_owing o p other at.served }

-- where a flow rests

resting : (o : Site) (s : Talk) (stream front ahead owed : List ℕ) (p : Phase) → p ≡ Resting → (duty_at o s stream front ahead owed p).due ≡ idle ahead
resting o s stream front ahead owed p is = subst (λ (x : Phase). (duty_at o s stream front ahead owed x).due ≡ idle ahead) (sym is) refl

pub rests_due : (o : Site) (p : Place) → p.flow.talk.phase ≡ Resting → (duty o p).due ≡ idle p.ahead
rests_due o p is = resting o p.flow.talk p.stream p.front p.ahead p.owed p.flow.talk.phase is

pub rests_none : (o : Site) (p : Place) → p.flow.talk.phase ≡ Resting → p.ahead ≡ [] → (duty o p).due ≡ []
rests_none o p is none = rests_due o p is ∙ ap idle none

idle_goes : (ahead : List ℕ) → goes_on (idle ahead) ≡ true
idle_goes [] = refl
idle_goes (b ∷ bytes) = refl

pub rests_goes : (o : Site) (p : Place) → p.flow.talk.phase ≡ Resting → goes_on (duty o p).due ≡ true
rests_goes o p is = ap goes_on (rests_due o p is) ∙ idle_goes p.ahead
