-- A place by its parts.
use Rattle.std.proofs.Common.{◌≡◌, ℕ, List, [], ◌∷◌, refl, subst, Bool, true, false, Option, Some, None}
use Rattle.std.specs.Prelude.{if◌then◌else◌}
use Rattle.stream_frames.specs.Fed.{Fed}
use Rattle.stream_grammar.specs.machine.Reading.{Reading}
use Rattle.stream_grammar.specs.declared.item.Limits.{Limits}
use Rattle.account_book.specs.Lists.{Book}
use Rattle.house_model.specs.declared.event.Event.{Event}
use Rattle.conn_asks.specs.declared.ended.Ended.{Ended}
use Rattle.conn_asks.specs.declared.ended.Ended.TheVariants as ended
use Rattle.conn_asks.specs.declared.stage.Purpose.{Purpose}
use Rattle.conn_asks.specs.declared.stream_error.StreamError.{StreamError}
use Rattle.conn_asks.specs.StreamErrors.{error_of}
use Rattle.conn_flow.specs.declared.phase.Phase.{Phase}
use Rattle.conn_flow.specs.declared.phase.Phase.TheVariants.{PullingOnce}
use Rattle.conn_flow.specs.declared.talk.Talk.{Talk}
use Rattle.stream_frames.specs.Limits.{limits}
use Rattle.conn_flow.specs.Duties.{Site, Due, PullsOnce, Duty, end_due, error_due}
use Rattle.conn_flow.specs.Following.{rest_due}
use Rattle.conn_flow.specs.Flows.{IsLoaded, handled_phase, IsToldAll}
use Rattle.flow_laws.specs.Standing.{Place, IsAllHeard, IsDone, IsFit, IsFitFor, IsReadAt, IsServed, IsTimed, duty_at, is_some_byte, known}

-- the site that a flow knows
abbrev pub site : Talk → Book → Site
site s accounts = record { line = s.line; domain = s.domain; accounts = accounts }

abbrev pub place : Fed → Talk → Phase → List ℕ → List ℕ → List ℕ → List ℕ → Place
place f s p stream front ahead owed =
    record { flow = record { fed = f; talk = record s { phase = p } }; stream = stream; front = front; ahead = ahead; owed = owed }

-- what is shown of a place by its parts
pub bring : (P : Site → Place → Type 0) (o : Site) (p : Place) → IsServed o p
    → P (site p.flow.talk o.accounts) (place p.flow.fed p.flow.talk p.flow.talk.phase p.stream p.front p.ahead p.owed) → P o p
bring P o p h k =
    let at : site p.flow.talk o.accounts ≡ o = λ i. record { line = h.line i; domain = h.domain i; accounts = o.accounts } in
    subst (λ (x : Site). P x p) at k

-- What holds of a place whatever its phase is.

pub record Stands (o : Site) (most : Limits) (line : ℕ) (domain : List ℕ) (event : Option Event) (purpose : Option Purpose) (more : Bool)
    (heard moment : ℕ) (ahead : List ℕ) : Type 0 where
  pub event_fits : IsFit o.line event
  pub purpose_fits : IsFitFor purpose
  pub line_is : line ≡ o.line
  pub domain_is : domain ≡ o.domain
  pub limits_are : most ≡ limits
  pub more_is : more ≡ is_some_byte ahead
  pub timed : IsTimed ahead heard moment

abbrev pub StandsAt : Site → Fed → Talk → List ℕ → Type 0
StandsAt o f s ahead = Stands o f.limits s.line s.domain s.event s.purpose s.more s.heard s.moment ahead

pub stands : (o : Site) (p : Place) → IsServed o p → StandsAt o p.flow.fed p.flow.talk p.ahead
stands o p h = record {
  event_fits = h.event_fits;
  purpose_fits = h.purpose_fits;
  line_is = h.line;
  domain_is = h.domain;
  limits_are = h.limits_are;
  more_is = h.more;
  timed = h.timed;
}

-- with another event, and with another purpose

pub with_event : (o : Site) (f : Fed) (s : Talk) (ahead : List ℕ) (e : Option Event) → IsFit o.line e → StandsAt o f s ahead
    → StandsAt o f (record s { event = e }) ahead
with_event o f s ahead e fits h = record {
  event_fits = fits;
  purpose_fits = h.purpose_fits;
  line_is = h.line_is;
  domain_is = h.domain_is;
  limits_are = h.limits_are;
  more_is = h.more_is;
  timed = h.timed;
}

pub with_purpose : (o : Site) (f : Fed) (s : Talk) (ahead : List ℕ) (x : Option Purpose) → IsFitFor x → StandsAt o f s ahead
    → StandsAt o f (record s { purpose = x }) ahead
with_purpose o f s ahead x fits h = record {
  event_fits = h.event_fits;
  purpose_fits = fits;
  line_is = h.line_is;
  domain_is = h.domain_is;
  limits_are = h.limits_are;
  more_is = h.more_is;
  timed = h.timed;
}

-- What a phase asks of a place.

pub record Suits (reading : Reading) (s : Talk) (stream front ahead : List ℕ) (p : Phase) : Type 0 where
  pub told : IsToldAll p
  pub loaded : IsLoaded s p
  pub read : IsReadAt p reading stream front ahead
  pub all : IsAllHeard p ahead

pub served : (o : Site) (p : Place) → StandsAt o p.flow.fed p.flow.talk p.ahead
    → Suits p.flow.fed.reading p.flow.talk p.stream p.front p.ahead p.flow.talk.phase → IsServed o p
served o p h k = record {
  told = k.told;
  loaded = k.loaded;
  event_fits = h.event_fits;
  purpose_fits = h.purpose_fits;
  line = h.line_is;
  domain = h.domain_is;
  limits_are = h.limits_are;
  more = h.more_is;
  read = k.read;
  all = k.all;
  timed = h.timed;
}

-- After an item.

pub handled_suits : (reading : Reading) (s : Talk) (stream front ahead : List ℕ) (more : Bool) → more ≡ is_some_byte ahead → IsDone reading stream front
    → Suits reading s stream front ahead (handled_phase more)
handled_suits reading s stream front ahead true e done = record { told = tt; loaded = tt; read = done; all = tt }
handled_suits reading s stream front [] false e done = record { told = tt; loaded = tt; read = done; all = refl }
handled_suits reading s stream front (b ∷ bytes) false e done = absurd (let bad : false ≡ true = e in cc)

pub handled_due : (o : Site) (s : Talk) (stream front ahead owed : List ℕ) (more : Bool) → more ≡ is_some_byte ahead
    → duty_at o s stream front ahead owed (handled_phase more) ≡ known s stream owed (rest_due ahead)
handled_due o s stream front [] owed true e = absurd (let bad : true ≡ false = e in cc)
handled_due o s stream front [] owed false e = refl
handled_due o s stream front (b ∷ bytes) owed true e = refl
handled_due o s stream front (b ∷ bytes) owed false e = absurd (let bad : false ≡ true = e in cc)

-- and after an event

pub entered_suits : (reading : Reading) (s : Talk) (stream front ahead : List ℕ) (pulls more : Bool) → more ≡ is_some_byte ahead → IsDone reading stream front
    → Suits reading s stream front ahead (if pulls then PullingOnce else handled_phase more)
entered_suits reading s stream front ahead true more e done = record { told = tt; loaded = tt; read = done; all = tt }
entered_suits reading s stream front ahead false more e done = handled_suits reading s stream front ahead more e done

pub entered_due : (o : Site) (s : Talk) (stream front ahead owed : List ℕ) (pulls more : Bool) → more ≡ is_some_byte ahead
    → duty_at o s stream front ahead owed (if pulls then PullingOnce else handled_phase more)
    ≡ known s stream owed (if pulls then PullsOnce ∷ rest_due ahead else rest_due ahead)
entered_due o s stream front ahead owed true more e = refl
entered_due o s stream front ahead owed false more e = handled_due o s stream front ahead owed more e

-- What is due at an end speaks of the stream's header alone.

error_due_same : (o : Site) (v : Duty) (due : List Due) (owed : List ℕ) (e : Option StreamError) (x : Ended)
    → error_due o (record v { due = due; owed = owed }) e x ≡ error_due o v e x
error_due_same o v due owed None x = refl
error_due_same o v due owed (Some e) x = refl

pub end_due_same : (o : Site) (v : Duty) (due : List Due) (owed : List ℕ) (x : Ended) → end_due o (record v { due = due; owed = owed }) x ≡ end_due o v x
end_due_same o v due owed ended.Closed = refl
end_due_same o v due owed (ended.Over cause) = error_due_same o v due owed (error_of (ended.Over cause)) (ended.Over cause)
end_due_same o v due owed ended.Hung = refl
end_due_same o v due owed ended.LinkFault = refl
end_due_same o v due owed ended.DiceFault = refl
end_due_same o v due owed (ended.Broken f k) = refl
end_due_same o v due owed (ended.BadHeader f) = refl
end_due_same o v due owed (ended.BadItem f n) = refl
end_due_same o v due owed ended.ThirdFailure = refl
end_due_same o v due owed (ended.Idle t) = refl
end_due_same o v due owed ended.Spent = refl
end_due_same o v due owed ended.NoMemory = refl
