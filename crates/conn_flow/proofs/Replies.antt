-- A reply leaves a flow as it may stand.
use Rattle.std.proofs.Common.{◌≡◌, Bool, true, false, Option, Some, None, if◌then◌else◌}
use Rattle.stream_grammar.specs.machine.Reading.{Reading, is_ready}
use Rattle.house_model.specs.declared.reply.Reply.{Reply}
use Rattle.house_model.specs.declared.reply.Reply.TheVariants as reply
use Rattle.conn_flow.specs.declared.phase.Phase.{Phase}
use Rattle.conn_flow.specs.declared.phase.Phase.TheVariants.{Resting, Heard, Saying, Refusing, Drawing, Drawn, Entering, Entered, LoggingIn}
use Rattle.conn_flow.specs.declared.phase.Phase.TheVariants.{LoggedIn, PullingOnce, Pulling, Sweeping, Parting, Left}
use Rattle.conn_flow.specs.declared.talk.Talk.{Talk}
use Rattle.conn_flow.specs.Flows.{IsLoaded, IsReadyAt, IsThere, IsTold, IsToldAll, handled_phase, logged_by, told_at}

abbrev Stands : Talk → Phase → Reading → Type 0
Stands s p reading = IsReadyAt p reading × IsLoaded s p

handled_stands : (s : Talk) (more : Bool) (reading : Reading) → is_ready reading ≡ true → Stands s (handled_phase more) reading
handled_stands s true reading h = (h, tt)
handled_stands s false reading h = (h, tt)

entered_stands : (s : Talk) (pulls more : Bool) (reading : Reading) → is_ready reading ≡ true
    → Stands s (if pulls then PullingOnce else handled_phase more) reading
entered_stands s true more reading h = (h, tt)
entered_stands s false more reading h = handled_stands s more reading h

logged_stands : (s : Talk) (user : Option _) (reading : Reading) → IsThere user → is_ready reading ≡ true
    → Stands (logged_by s user) (logged_by s user).phase reading
logged_stands s (Some user) reading there h = (h, tt)
logged_stands s None reading there h = absurd there

nothing_stands : (s : Talk) (due : Bool) (reading : Reading) → is_ready reading ≡ true → Stands s (if due then Sweeping else Resting) reading
nothing_stands s true reading h = (h, tt)
nothing_stands s false reading h = (h, tt)

-- what the reply to an event makes of it
told_stands : (s : Talk) (p : Phase) (r : Reply) (reading : Reading) → IsTold p → IsLoaded s p → is_ready reading ≡ true
    → Stands (told_at s p r) (told_at s p r).phase reading
told_stands s (Entered pulls) (reply.Over cause) reading told loaded h = (h, tt)
told_stands s (Entered pulls) (reply.Opened n) reading told loaded h = entered_stands (told_at s (Entered pulls) (reply.Opened n)) pulls s.more reading h
told_stands s (Entered pulls) reply.Done reading told loaded h = entered_stands (told_at s (Entered pulls) reply.Done) pulls s.more reading h
told_stands s (Entered pulls) reply.Bound reading told loaded h = entered_stands (told_at s (Entered pulls) reply.Bound) pulls s.more reading h
told_stands s (Entered pulls) reply.Resumed reading told loaded h = entered_stands (told_at s (Entered pulls) reply.Resumed) pulls s.more reading h
told_stands s (Entered pulls) reply.Frame reading told loaded h = entered_stands (told_at s (Entered pulls) reply.Frame) pulls s.more reading h
told_stands s (Entered pulls) (reply.Nothing due) reading told loaded h = entered_stands (told_at s (Entered pulls) (reply.Nothing due)) pulls s.more reading h
told_stands s (Entered pulls) (reply.Swept n) reading told loaded h = entered_stands (told_at s (Entered pulls) (reply.Swept n)) pulls s.more reading h
told_stands s (Entered pulls) reply.Absent reading told loaded h = entered_stands (told_at s (Entered pulls) reply.Absent) pulls s.more reading h
told_stands s (Entered pulls) reply.Unready reading told loaded h = entered_stands (told_at s (Entered pulls) reply.Unready) pulls s.more reading h
told_stands s (Entered pulls) reply.NoUser reading told loaded h = entered_stands (told_at s (Entered pulls) reply.NoUser) pulls s.more reading h
told_stands s LoggedIn (reply.Over cause) reading told loaded h = (h, tt)
told_stands s LoggedIn (reply.Opened n) reading told loaded h = (h, tt)
told_stands s LoggedIn reply.Done reading told loaded h = logged_stands s s.user reading loaded h
told_stands s LoggedIn reply.Bound reading told loaded h = (h, tt)
told_stands s LoggedIn reply.Resumed reading told loaded h = (h, tt)
told_stands s LoggedIn reply.Frame reading told loaded h = (h, tt)
told_stands s LoggedIn (reply.Nothing due) reading told loaded h = (h, tt)
told_stands s LoggedIn (reply.Swept n) reading told loaded h = (h, tt)
told_stands s LoggedIn reply.Absent reading told loaded h = (h, tt)
told_stands s LoggedIn reply.Unready reading told loaded h = (h, tt)
told_stands s LoggedIn reply.NoUser reading told loaded h = (h, tt)
told_stands s PullingOnce (reply.Over cause) reading told loaded h = (h, tt)
told_stands s PullingOnce (reply.Opened n) reading told loaded h = handled_stands (told_at s PullingOnce (reply.Opened n)) s.more reading h
told_stands s PullingOnce reply.Done reading told loaded h = handled_stands (told_at s PullingOnce reply.Done) s.more reading h
told_stands s PullingOnce reply.Bound reading told loaded h = handled_stands (told_at s PullingOnce reply.Bound) s.more reading h
told_stands s PullingOnce reply.Resumed reading told loaded h = handled_stands (told_at s PullingOnce reply.Resumed) s.more reading h
told_stands s PullingOnce reply.Frame reading told loaded h = handled_stands (told_at s PullingOnce reply.Frame) s.more reading h
told_stands s PullingOnce (reply.Nothing due) reading told loaded h = handled_stands (told_at s PullingOnce (reply.Nothing due)) s.more reading h
told_stands s PullingOnce (reply.Swept n) reading told loaded h = handled_stands (told_at s PullingOnce (reply.Swept n)) s.more reading h
told_stands s PullingOnce reply.Absent reading told loaded h = handled_stands (told_at s PullingOnce reply.Absent) s.more reading h
told_stands s PullingOnce reply.Unready reading told loaded h = handled_stands (told_at s PullingOnce reply.Unready) s.more reading h
told_stands s PullingOnce reply.NoUser reading told loaded h = handled_stands (told_at s PullingOnce reply.NoUser) s.more reading h
told_stands s Pulling (reply.Over cause) reading told loaded h = (h, tt)
told_stands s Pulling (reply.Opened n) reading told loaded h = (h, tt)
told_stands s Pulling reply.Done reading told loaded h = (h, tt)
told_stands s Pulling reply.Bound reading told loaded h = (h, tt)
told_stands s Pulling reply.Resumed reading told loaded h = (h, tt)
told_stands s Pulling reply.Frame reading told loaded h = (h, tt)
told_stands s Pulling (reply.Nothing due) reading told loaded h = nothing_stands (told_at s Pulling (reply.Nothing due)) due reading h
told_stands s Pulling (reply.Swept n) reading told loaded h = (h, tt)
told_stands s Pulling reply.Absent reading told loaded h = (h, tt)
told_stands s Pulling reply.Unready reading told loaded h = (h, tt)
told_stands s Pulling reply.NoUser reading told loaded h = (h, tt)
told_stands s Sweeping r reading told loaded h = (h, tt)
told_stands s Resting r reading told loaded h = absurd told
told_stands s Heard r reading told loaded h = absurd told
told_stands s Saying r reading told loaded h = absurd told
told_stands s (Refusing f) r reading told loaded h = absurd told
told_stands s Drawing r reading told loaded h = absurd told
told_stands s (Drawn dice) r reading told loaded h = absurd told
told_stands s Entering r reading told loaded h = absurd told
told_stands s LoggingIn r reading told loaded h = absurd told
told_stands s (Parting x) r reading told loaded h = absurd told
told_stands s (Left x) r reading told loaded h = absurd told

was_ready : (p : Phase) (reading : Reading) → IsTold p → IsReadyAt p reading → is_ready reading ≡ true
was_ready (Entered pulls) reading told h = h
was_ready LoggedIn reading told h = h
was_ready PullingOnce reading told h = h
was_ready Pulling reading told h = h
was_ready Sweeping reading told h = h
was_ready Resting reading told h = absurd told
was_ready Heard reading told h = absurd told
was_ready Saying reading told h = absurd told
was_ready (Refusing f) reading told h = absurd told
was_ready Drawing reading told h = absurd told
was_ready (Drawn dice) reading told h = absurd told
was_ready Entering reading told h = absurd told
was_ready LoggingIn reading told h = absurd told
was_ready (Parting x) reading told h = absurd told
was_ready (Left x) reading told h = absurd told

pub told_keeps : (s s' : Talk) (r : Reply) (reading : Reading) → IsTold s.phase → IsReadyAt s.phase reading → IsLoaded s s.phase
    → s' ≡ told_at s s.phase r → Stands s' s'.phase reading
told_keeps s s' r reading told ready loaded is =
    rw is (told_stands s s.phase r reading told loaded (was_ready s.phase reading told ready))

-- and no event waits for its reply any more

handled_told : (more : Bool) → IsToldAll (handled_phase more)
handled_told true = tt
handled_told false = tt

entered_told : (pulls more : Bool) → IsToldAll (if pulls then PullingOnce else handled_phase more)
entered_told true more = tt
entered_told false more = handled_told more

logged_told : (s : Talk) (user : Option _) → IsThere user → IsToldAll (logged_by s user).phase
logged_told s (Some user) there = tt
logged_told s None there = absurd there

nothing_told : (due : Bool) → IsToldAll (if due then Sweeping else Resting)
nothing_told true = tt
nothing_told false = tt

pub told_all : (s : Talk) (p : Phase) (r : Reply) → IsTold p → IsLoaded s p → IsToldAll (told_at s p r).phase
told_all s (Entered pulls) (reply.Over cause) told loaded = tt
told_all s (Entered pulls) (reply.Opened n) told loaded = entered_told pulls s.more
told_all s (Entered pulls) reply.Done told loaded = entered_told pulls s.more
told_all s (Entered pulls) reply.Bound told loaded = entered_told pulls s.more
told_all s (Entered pulls) reply.Resumed told loaded = entered_told pulls s.more
told_all s (Entered pulls) reply.Frame told loaded = entered_told pulls s.more
told_all s (Entered pulls) (reply.Nothing due) told loaded = entered_told pulls s.more
told_all s (Entered pulls) (reply.Swept n) told loaded = entered_told pulls s.more
told_all s (Entered pulls) reply.Absent told loaded = entered_told pulls s.more
told_all s (Entered pulls) reply.Unready told loaded = entered_told pulls s.more
told_all s (Entered pulls) reply.NoUser told loaded = entered_told pulls s.more
told_all s LoggedIn (reply.Over cause) told loaded = tt
told_all s LoggedIn (reply.Opened n) told loaded = tt
told_all s LoggedIn reply.Done told loaded = logged_told s s.user loaded
told_all s LoggedIn reply.Bound told loaded = tt
told_all s LoggedIn reply.Resumed told loaded = tt
told_all s LoggedIn reply.Frame told loaded = tt
told_all s LoggedIn (reply.Nothing due) told loaded = tt
told_all s LoggedIn (reply.Swept n) told loaded = tt
told_all s LoggedIn reply.Absent told loaded = tt
told_all s LoggedIn reply.Unready told loaded = tt
told_all s LoggedIn reply.NoUser told loaded = tt
told_all s PullingOnce (reply.Over cause) told loaded = tt
told_all s PullingOnce (reply.Opened n) told loaded = handled_told s.more
told_all s PullingOnce reply.Done told loaded = handled_told s.more
told_all s PullingOnce reply.Bound told loaded = handled_told s.more
told_all s PullingOnce reply.Resumed told loaded = handled_told s.more
told_all s PullingOnce reply.Frame told loaded = handled_told s.more
told_all s PullingOnce (reply.Nothing due) told loaded = handled_told s.more
told_all s PullingOnce (reply.Swept n) told loaded = handled_told s.more
told_all s PullingOnce reply.Absent told loaded = handled_told s.more
told_all s PullingOnce reply.Unready told loaded = handled_told s.more
told_all s PullingOnce reply.NoUser told loaded = handled_told s.more
told_all s Pulling (reply.Over cause) told loaded = tt
told_all s Pulling (reply.Opened n) told loaded = tt
told_all s Pulling reply.Done told loaded = tt
told_all s Pulling reply.Bound told loaded = tt
told_all s Pulling reply.Resumed told loaded = tt
told_all s Pulling reply.Frame told loaded = tt
told_all s Pulling (reply.Nothing due) told loaded = nothing_told due
told_all s Pulling (reply.Swept n) told loaded = tt
told_all s Pulling reply.Absent told loaded = tt
told_all s Pulling reply.Unready told loaded = tt
told_all s Pulling reply.NoUser told loaded = tt
told_all s Sweeping r told loaded = tt
told_all s Resting r told loaded = absurd told
told_all s Heard r told loaded = absurd told
told_all s Saying r told loaded = absurd told
told_all s (Refusing f) r told loaded = absurd told
told_all s Drawing r told loaded = absurd told
told_all s (Drawn dice) r told loaded = absurd told
told_all s Entering r told loaded = absurd told
told_all s LoggingIn r told loaded = absurd told
told_all s (Parting x) r told loaded = absurd told
told_all s (Left x) r told loaded = absurd told
