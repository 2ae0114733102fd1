-- What the replies to events make of a place.
use Rattle.std.proofs.Common.{◌≡◌, ℕ, List, [], ◌++◌, refl, ap, true, false, Option, Some, None}
use Rattle.std.specs.Prelude.{if◌then◌else◌}
use Rattle.stream_frames.specs.Fed.{Fed}
use Rattle.stream_grammar.specs.machine.Reading.{Reading}
use Rattle.account_book.specs.Lists.{Book}
use Rattle.house_model.specs.Histories.{made}
use Rattle.house_model.specs.declared.event.Event.{Event}
use Rattle.house_model.specs.declared.reply.Reply.{Reply}
use Rattle.house_model.specs.declared.reply.Reply.TheVariants as reply
use Rattle.conn_asks.specs.declared.ended.Ended.{Ended}
use Rattle.conn_asks.specs.declared.ended.Ended.TheVariants as ended
use Rattle.conn_flow.specs.declared.phase.Phase.TheVariants.{Entering, Entered, LoggingIn, PullingOnce, Pulling}
use Rattle.conn_flow.specs.declared.talk.Talk.{Talk}
use Rattle.conn_flow.specs.Moves.{Enters}
use Rattle.conn_flow.specs.Duties.{Site, Due, Duty, answered, answered_login, ends, followed, follows, pulled, pulled_once}
use Rattle.conn_flow.specs.Following.{GoesOn, rest_due}
use Rattle.conn_flow.specs.Flows.{ToFinish, ToSay, ToSubmit, handled_phase, parting_wish, told_at, wish_of, wished}
use Rattle.flow_laws.specs.Standing.{IsDone, IsServed, Place, duty, duty_at, idle, is_some_byte, known}
use Rattle.flow_laws.specs.Steps.{enters_at}
use Rattle.flow_laws.proofs.Places.{StandsAt, Suits, end_due_same, entered_due, entered_suits, handled_due}
use Rattle.flow_laws.proofs.Places.{handled_suits, place, served, site, stands, with_event}

abbrev pub IsEntered : Event → Reply → List ℕ → Site → Place → Type 0
IsEntered e r text o p =
    IsServed o p → wish_of p.flow ≡ ToSubmit e
    → GoesOn o (duty o p) (Enters (made e r text)) (duty o (enters_at p r text)) × IsServed o (enters_at p r text)

pub same_event : {x y : Event} → ToSubmit x ≡ ToSubmit y → y ≡ x
same_event e = cc

-- an end submits nothing

pub last_submits_none : (text : Option (List ℕ)) (x : Ended) (y : Event) → parting_wish text x ≡ ToSubmit y → ⊥
last_submits_none None x y w = let k : ToFinish x ≡ ToSubmit y = w in cc
last_submits_none (Some text) x y w = let k : ToSay text ≡ ToSubmit y = w in cc

-- The event that an item asked for.

abbrev pub entering_at : Fed → Talk → List ℕ → List ℕ → List ℕ → List ℕ → Event → Place
entering_at f s stream front ahead owed x = place f (record s { event = Some x }) Entering stream front ahead owed

abbrev pub entered_by : Talk → Event → Reply → Talk
entered_by s x r = told_at (wished (record s { event = Some x; phase = Entering }) Entering) (Entered (follows x)) r

over_due : (o : Site) (v : Duty) (owed : List ℕ) (x : Ended)
    → record (ends o (record v { due = []; owed = owed }) x) { owed = owed } ≡ record (ends o v x) { owed = owed }
over_due o v owed x = ap (λ (due : List Due). record v { due = due; owed = owed }) (end_due_same o v [] owed x)

entered_so : (a : Book) (s : Talk) (stream front ahead text : List ℕ) (x : Event) (r : Reply) → s.more ≡ is_some_byte ahead
    → duty_at (site s a) (entered_by s x r) stream front ahead text (if follows x then PullingOnce else handled_phase s.more)
    ≡ known (entered_by s x r) stream text (followed x (rest_due ahead))
entered_so a s stream front ahead text x r e = entered_due (site s a) (entered_by s x r) stream front ahead text (follows x) s.more e

entering_due : (a : Book) (f : Fed) (s : Talk) (stream front ahead owed text : List ℕ) (x : Event) (r : Reply)
    → IsServed (site s a) (entering_at f s stream front ahead owed x)
    → duty (site s a) (enters_at (entering_at f s stream front ahead owed x) r text)
    ≡ record (answered (site s a) (duty (site s a) (entering_at f s stream front ahead owed x)) (Some r) (followed x (rest_due ahead))) { owed = owed ++ text }
entering_due a f s stream front ahead owed text x (reply.Opened n) h = entered_so a s stream front ahead (owed ++ text) x (reply.Opened n) h.more
entering_due a f s stream front ahead owed text x reply.Done h = entered_so a s stream front ahead (owed ++ text) x reply.Done h.more
entering_due a f s stream front ahead owed text x reply.Bound h = entered_so a s stream front ahead (owed ++ text) x reply.Bound h.more
entering_due a f s stream front ahead owed text x reply.Resumed h = entered_so a s stream front ahead (owed ++ text) x reply.Resumed h.more
entering_due a f s stream front ahead owed text x reply.Frame h = entered_so a s stream front ahead (owed ++ text) x reply.Frame h.more
entering_due a f s stream front ahead owed text x (reply.Nothing due) h = entered_so a s stream front ahead (owed ++ text) x (reply.Nothing due) h.more
entering_due a f s stream front ahead owed text x (reply.Swept n) h = entered_so a s stream front ahead (owed ++ text) x (reply.Swept n) h.more
entering_due a f s stream front ahead owed text x (reply.Over cause) h =
    over_due (site s a) (duty (site s a) (entering_at f s stream front ahead owed x)) (owed ++ text) (ended.Over cause)
entering_due a f s stream front ahead owed text x reply.Absent h = entered_so a s stream front ahead (owed ++ text) x reply.Absent h.more
entering_due a f s stream front ahead owed text x reply.Unready h = entered_so a s stream front ahead (owed ++ text) x reply.Unready h.more
entering_due a f s stream front ahead owed text x reply.NoUser h = entered_so a s stream front ahead (owed ++ text) x reply.NoUser h.more

entered_suit : (s : Talk) (reading : Reading) (stream front ahead : List ℕ) (x : Event) (r : Reply) → s.more ≡ is_some_byte ahead
    → IsDone reading stream front → Suits reading (entered_by s x r) stream front ahead (if follows x then PullingOnce else handled_phase s.more)
entered_suit s reading stream front ahead x r e done = entered_suits reading (entered_by s x r) stream front ahead (follows x) s.more e done

entering_suits : (s : Talk) (reading : Reading) (stream front ahead : List ℕ) (x : Event) (r : Reply) → s.more ≡ is_some_byte ahead
    → IsDone reading stream front → Suits reading (entered_by s x r) stream front ahead (entered_by s x r).phase
entering_suits s reading stream front ahead x (reply.Opened n) e done = entered_suit s reading stream front ahead x (reply.Opened n) e done
entering_suits s reading stream front ahead x reply.Done e done = entered_suit s reading stream front ahead x reply.Done e done
entering_suits s reading stream front ahead x reply.Bound e done = entered_suit s reading stream front ahead x reply.Bound e done
entering_suits s reading stream front ahead x reply.Resumed e done = entered_suit s reading stream front ahead x reply.Resumed e done
entering_suits s reading stream front ahead x reply.Frame e done = entered_suit s reading stream front ahead x reply.Frame e done
entering_suits s reading stream front ahead x (reply.Nothing due) e done = entered_suit s reading stream front ahead x (reply.Nothing due) e done
entering_suits s reading stream front ahead x (reply.Swept n) e done = entered_suit s reading stream front ahead x (reply.Swept n) e done
entering_suits s reading stream front ahead x (reply.Over cause) e done = record { told = tt; loaded = tt; read = tt; all = tt }
entering_suits s reading stream front ahead x reply.Absent e done = entered_suit s reading stream front ahead x reply.Absent e done
entering_suits s reading stream front ahead x reply.Unready e done = entered_suit s reading stream front ahead x reply.Unready e done
entering_suits s reading stream front ahead x reply.NoUser e done = entered_suit s reading stream front ahead x reply.NoUser e done

-- what a reply changes of a talk is none of what stands
entering_stands : (o : Site) (f : Fed) (s : Talk) (ahead : List ℕ) (x : Event) (r : Reply) → StandsAt o f (record s { event = None }) ahead
    → StandsAt o f (entered_by s x r) ahead
entering_stands o f s ahead x (reply.Opened n) h = h
entering_stands o f s ahead x reply.Done h = h
entering_stands o f s ahead x reply.Bound h = h
entering_stands o f s ahead x reply.Resumed h = h
entering_stands o f s ahead x reply.Frame h = h
entering_stands o f s ahead x (reply.Nothing due) h = h
entering_stands o f s ahead x (reply.Swept n) h = h
entering_stands o f s ahead x (reply.Over cause) h = h
entering_stands o f s ahead x reply.Absent h = h
entering_stands o f s ahead x reply.Unready h = h
entering_stands o f s ahead x reply.NoUser h = h

pub entering : (a : Book) (f : Fed) (s : Talk) (stream front ahead owed : List ℕ) (x : Option Event) (e : Event) (r : Reply) (text : List ℕ)
    → IsEntered e r text (site s a) (place f (record s { event = x }) Entering stream front ahead owed)
entering a f s stream front ahead owed None e r text h w = absurd h.loaded
entering a f s stream front ahead owed (Some x) e r text h w =
    let p : Place = entering_at f s stream front ahead owed x in (
      (
        answered (site s a) (duty (site s a) p) (Some r) (followed x (rest_due ahead)),
        (same_event w, refl),
        entering_due a f s stream front ahead owed text x r h,
      ),
      served (site s a) (enters_at p r text)
          (entering_stands (site s a) f s ahead x r (with_event (site s a) f (record s { event = Some x }) ahead None tt (stands (site s a) p h)))
          (entering_suits s f.reading stream front ahead x r h.more h.read),
    )

-- A login.

abbrev pub logging_at : Fed → Talk → List ℕ → List ℕ → List ℕ → List ℕ → List ℕ → Place
logging_at f s stream front ahead owed user = place f (record s { user = Some user }) LoggingIn stream front ahead owed

logging_due : (a : Book) (f : Fed) (s : Talk) (stream front ahead owed text user : List ℕ) (r : Reply)
    → duty (site s a) (enters_at (logging_at f s stream front ahead owed user) r text)
    ≡ record (answered_login (site s a) (duty (site s a) (logging_at f s stream front ahead owed user)) user s.text (Some r)
    (rest_due ahead)) { owed = owed ++ text }
logging_due a f s stream front ahead owed text user (reply.Opened n) = refl
logging_due a f s stream front ahead owed text user reply.Done = refl
logging_due a f s stream front ahead owed text user reply.Bound = refl
logging_due a f s stream front ahead owed text user reply.Resumed = refl
logging_due a f s stream front ahead owed text user reply.Frame = refl
logging_due a f s stream front ahead owed text user (reply.Nothing due) = refl
logging_due a f s stream front ahead owed text user (reply.Swept n) = refl
logging_due a f s stream front ahead owed text user (reply.Over cause) =
    over_due (site s a) (duty (site s a) (logging_at f s stream front ahead owed user)) (owed ++ text) (ended.Over cause)
logging_due a f s stream front ahead owed text user reply.Absent = refl
logging_due a f s stream front ahead owed text user reply.Unready = refl
logging_due a f s stream front ahead owed text user reply.NoUser = refl

logging_served : (a : Book) (f : Fed) (s : Talk) (stream front ahead owed text user : List ℕ) (r : Reply)
    → IsServed (site s a) (logging_at f s stream front ahead owed user)
    → IsServed (site s a) (enters_at (logging_at f s stream front ahead owed user) r text)
logging_served a f s stream front ahead owed text user (reply.Opened n) h =
    served (site s a) (enters_at (logging_at f s stream front ahead owed user) (reply.Opened n) text)
    (stands (site s a) (logging_at f s stream front ahead owed user) h)
    (record { told = tt; loaded = tt; read = h.read; all = tt })
logging_served a f s stream front ahead owed text user reply.Done h =
    served (site s a) (enters_at (logging_at f s stream front ahead owed user) reply.Done text)
    (stands (site s a) (logging_at f s stream front ahead owed user) h)
    (record { told = tt; loaded = tt; read = record { none = h.read.none; read = record { at = refl; ready = refl; goes = refl } }; all = tt })
logging_served a f s stream front ahead owed text user reply.Bound h =
    served (site s a) (enters_at (logging_at f s stream front ahead owed user) reply.Bound text)
    (stands (site s a) (logging_at f s stream front ahead owed user) h)
    (record { told = tt; loaded = tt; read = h.read; all = tt })
logging_served a f s stream front ahead owed text user reply.Resumed h =
    served (site s a) (enters_at (logging_at f s stream front ahead owed user) reply.Resumed text)
    (stands (site s a) (logging_at f s stream front ahead owed user) h)
    (record { told = tt; loaded = tt; read = h.read; all = tt })
logging_served a f s stream front ahead owed text user reply.Frame h =
    served (site s a) (enters_at (logging_at f s stream front ahead owed user) reply.Frame text)
    (stands (site s a) (logging_at f s stream front ahead owed user) h)
    (record { told = tt; loaded = tt; read = h.read; all = tt })
logging_served a f s stream front ahead owed text user (reply.Nothing due) h =
    served (site s a) (enters_at (logging_at f s stream front ahead owed user) (reply.Nothing due) text)
    (stands (site s a) (logging_at f s stream front ahead owed user) h)
    (record { told = tt; loaded = tt; read = h.read; all = tt })
logging_served a f s stream front ahead owed text user (reply.Swept n) h =
    served (site s a) (enters_at (logging_at f s stream front ahead owed user) (reply.Swept n) text)
    (stands (site s a) (logging_at f s stream front ahead owed user) h)
    (record { told = tt; loaded = tt; read = h.read; all = tt })
logging_served a f s stream front ahead owed text user (reply.Over cause) h =
    served (site s a) (enters_at (logging_at f s stream front ahead owed user) (reply.Over cause) text)
    (stands (site s a) (logging_at f s stream front ahead owed user) h)
    (record { told = tt; loaded = tt; read = tt; all = tt })
logging_served a f s stream front ahead owed text user reply.Absent h =
    served (site s a) (enters_at (logging_at f s stream front ahead owed user) reply.Absent text)
    (stands (site s a) (logging_at f s stream front ahead owed user) h)
    (record { told = tt; loaded = tt; read = h.read; all = tt })
logging_served a f s stream front ahead owed text user reply.Unready h =
    served (site s a) (enters_at (logging_at f s stream front ahead owed user) reply.Unready text)
    (stands (site s a) (logging_at f s stream front ahead owed user) h)
    (record { told = tt; loaded = tt; read = h.read; all = tt })
logging_served a f s stream front ahead owed text user reply.NoUser h =
    served (site s a) (enters_at (logging_at f s stream front ahead owed user) reply.NoUser text)
    (stands (site s a) (logging_at f s stream front ahead owed user) h)
    (record { told = tt; loaded = tt; read = h.read; all = tt })

pub logging : (a : Book) (f : Fed) (s : Talk) (stream front ahead owed : List ℕ) (x : Option (List ℕ)) (e : Event) (r : Reply) (text : List ℕ)
    → IsEntered e r text (site s a) (place f (record s { user = x }) LoggingIn stream front ahead owed)
logging a f s stream front ahead owed None e r text h w = absurd h.loaded
logging a f s stream front ahead owed (Some user) e r text h w =
    let p : Place = logging_at f s stream front ahead owed user in (
      (
        answered_login (site s a) (duty (site s a) p) user s.text (Some r) (rest_due ahead),
        (same_event w, refl),
        logging_due a f s stream front ahead owed text user r,
      ),
      logging_served a f s stream front ahead owed text user r h,
    )

-- A pull after an event.

abbrev pub once_at : Fed → Talk → List ℕ → List ℕ → List ℕ → List ℕ → Place
once_at f s stream front ahead owed = place f s PullingOnce stream front ahead owed

abbrev once_by : Talk → Reply → Talk
once_by s r = told_at (record s { phase = PullingOnce }) PullingOnce r

once_so : (a : Book) (s : Talk) (stream front ahead text : List ℕ) (r : Reply) → s.more ≡ is_some_byte ahead
    → duty_at (site s a) (once_by s r) stream front ahead text (handled_phase s.more) ≡ known (once_by s r) stream text (rest_due ahead)
once_so a s stream front ahead text r e = handled_due (site s a) (once_by s r) stream front ahead text s.more e

once_suit : (s : Talk) (reading : Reading) (stream front ahead : List ℕ) (r : Reply) → s.more ≡ is_some_byte ahead → IsDone reading stream front
    → Suits reading (once_by s r) stream front ahead (handled_phase s.more)
once_suit s reading stream front ahead r e done = handled_suits reading (once_by s r) stream front ahead s.more e done

pub once_due : (a : Book) (f : Fed) (s : Talk) (stream front ahead owed text : List ℕ) (r : Reply) → s.more ≡ is_some_byte ahead
    → duty (site s a) (enters_at (once_at f s stream front ahead owed) r text)
    ≡ record (pulled_once (site s a) (duty (site s a) (once_at f s stream front ahead owed)) (Some r) (rest_due ahead)) { owed = owed ++ text }
once_due a f s stream front ahead owed text (reply.Opened n) e = once_so a s stream front ahead (owed ++ text) (reply.Opened n) e
once_due a f s stream front ahead owed text reply.Done e = once_so a s stream front ahead (owed ++ text) reply.Done e
once_due a f s stream front ahead owed text reply.Bound e = once_so a s stream front ahead (owed ++ text) reply.Bound e
once_due a f s stream front ahead owed text reply.Resumed e = once_so a s stream front ahead (owed ++ text) reply.Resumed e
once_due a f s stream front ahead owed text reply.Frame e = once_so a s stream front ahead (owed ++ text) reply.Frame e
once_due a f s stream front ahead owed text (reply.Nothing due) e = once_so a s stream front ahead (owed ++ text) (reply.Nothing due) e
once_due a f s stream front ahead owed text (reply.Swept n) e = once_so a s stream front ahead (owed ++ text) (reply.Swept n) e
once_due a f s stream front ahead owed text (reply.Over cause) e =
    over_due (site s a) (duty (site s a) (once_at f s stream front ahead owed)) (owed ++ text) (ended.Over cause)
once_due a f s stream front ahead owed text reply.Absent e = once_so a s stream front ahead (owed ++ text) reply.Absent e
once_due a f s stream front ahead owed text reply.Unready e = once_so a s stream front ahead (owed ++ text) reply.Unready e
once_due a f s stream front ahead owed text reply.NoUser e = once_so a s stream front ahead (owed ++ text) reply.NoUser e

pub once_served : (a : Book) (f : Fed) (s : Talk) (stream front ahead owed text : List ℕ) (r : Reply)
    → IsServed (site s a) (once_at f s stream front ahead owed)
    → IsServed (site s a) (enters_at (once_at f s stream front ahead owed) r text)
once_served a f s stream front ahead owed text (reply.Opened n) h =
    served (site s a) (enters_at (once_at f s stream front ahead owed) (reply.Opened n) text) (stands (site s a) (once_at f s stream front ahead owed) h)
    (once_suit s f.reading stream front ahead (reply.Opened n) h.more h.read)
once_served a f s stream front ahead owed text reply.Done h =
    served (site s a) (enters_at (once_at f s stream front ahead owed) reply.Done text) (stands (site s a) (once_at f s stream front ahead owed) h)
    (once_suit s f.reading stream front ahead reply.Done h.more h.read)
once_served a f s stream front ahead owed text reply.Bound h =
    served (site s a) (enters_at (once_at f s stream front ahead owed) reply.Bound text) (stands (site s a) (once_at f s stream front ahead owed) h)
    (once_suit s f.reading stream front ahead reply.Bound h.more h.read)
once_served a f s stream front ahead owed text reply.Resumed h =
    served (site s a) (enters_at (once_at f s stream front ahead owed) reply.Resumed text) (stands (site s a) (once_at f s stream front ahead owed) h)
    (once_suit s f.reading stream front ahead reply.Resumed h.more h.read)
once_served a f s stream front ahead owed text reply.Frame h =
    served (site s a) (enters_at (once_at f s stream front ahead owed) reply.Frame text) (stands (site s a) (once_at f s stream front ahead owed) h)
    (once_suit s f.reading stream front ahead reply.Frame h.more h.read)
once_served a f s stream front ahead owed text (reply.Nothing due) h =
    served (site s a) (enters_at (once_at f s stream front ahead owed) (reply.Nothing due) text) (stands (site s a) (once_at f s stream front ahead owed) h)
    (once_suit s f.reading stream front ahead (reply.Nothing due) h.more h.read)
once_served a f s stream front ahead owed text (reply.Swept n) h =
    served (site s a) (enters_at (once_at f s stream front ahead owed) (reply.Swept n) text) (stands (site s a) (once_at f s stream front ahead owed) h)
    (once_suit s f.reading stream front ahead (reply.Swept n) h.more h.read)
once_served a f s stream front ahead owed text (reply.Over cause) h =
    served (site s a) (enters_at (once_at f s stream front ahead owed) (reply.Over cause) text) (stands (site s a) (once_at f s stream front ahead owed) h)
    (record { told = tt; loaded = tt; read = tt; all = tt })
once_served a f s stream front ahead owed text reply.Absent h =
    served (site s a) (enters_at (once_at f s stream front ahead owed) reply.Absent text) (stands (site s a) (once_at f s stream front ahead owed) h)
    (once_suit s f.reading stream front ahead reply.Absent h.more h.read)
once_served a f s stream front ahead owed text reply.Unready h =
    served (site s a) (enters_at (once_at f s stream front ahead owed) reply.Unready text) (stands (site s a) (once_at f s stream front ahead owed) h)
    (once_suit s f.reading stream front ahead reply.Unready h.more h.read)
once_served a f s stream front ahead owed text reply.NoUser h =
    served (site s a) (enters_at (once_at f s stream front ahead owed) reply.NoUser text) (stands (site s a) (once_at f s stream front ahead owed) h)
    (once_suit s f.reading stream front ahead reply.NoUser h.more h.read)

-- The pulls after a reading.

abbrev pub pulling_at : Fed → Talk → List ℕ → List ℕ → List ℕ → List ℕ → Place
pulling_at f s stream front ahead owed = place f s Pulling stream front ahead owed

pub pulling_due : (a : Book) (f : Fed) (s : Talk) (stream front ahead owed text : List ℕ) (r : Reply) → ahead ≡ []
    → duty (site s a) (enters_at (pulling_at f s stream front ahead owed) r text)
    ≡ record (pulled (site s a) (duty (site s a) (pulling_at f s stream front ahead owed)) (Some r)) { owed = owed ++ text }
pulling_due a f s stream front ahead owed text (reply.Opened n) e = ap (λ (x : List ℕ). known s stream (owed ++ text) (idle x)) e
pulling_due a f s stream front ahead owed text reply.Done e = ap (λ (x : List ℕ). known s stream (owed ++ text) (idle x)) e
pulling_due a f s stream front ahead owed text reply.Bound e = ap (λ (x : List ℕ). known s stream (owed ++ text) (idle x)) e
pulling_due a f s stream front ahead owed text reply.Resumed e = ap (λ (x : List ℕ). known s stream (owed ++ text) (idle x)) e
pulling_due a f s stream front ahead owed text reply.Frame e = refl
pulling_due a f s stream front ahead owed text (reply.Nothing true) e = refl
pulling_due a f s stream front ahead owed text (reply.Nothing false) e = ap (λ (x : List ℕ). known s stream (owed ++ text) (idle x)) e
pulling_due a f s stream front ahead owed text (reply.Swept n) e = ap (λ (x : List ℕ). known s stream (owed ++ text) (idle x)) e
pulling_due a f s stream front ahead owed text (reply.Over cause) e =
    over_due (site s a) (duty (site s a) (pulling_at f s stream front ahead owed)) (owed ++ text) (ended.Over cause)
pulling_due a f s stream front ahead owed text reply.Absent e = ap (λ (x : List ℕ). known s stream (owed ++ text) (idle x)) e
pulling_due a f s stream front ahead owed text reply.Unready e = ap (λ (x : List ℕ). known s stream (owed ++ text) (idle x)) e
pulling_due a f s stream front ahead owed text reply.NoUser e = ap (λ (x : List ℕ). known s stream (owed ++ text) (idle x)) e

pub pulling_served : (a : Book) (f : Fed) (s : Talk) (stream front ahead owed text : List ℕ) (r : Reply)
    → IsServed (site s a) (pulling_at f s stream front ahead owed)
    → IsServed (site s a) (enters_at (pulling_at f s stream front ahead owed) r text)
pulling_served a f s stream front ahead owed text (reply.Opened n) h =
    served (site s a) (enters_at (pulling_at f s stream front ahead owed) (reply.Opened n) text) (stands (site s a) (pulling_at f s stream front ahead owed) h)
    (record { told = tt; loaded = tt; read = h.read; all = tt })
pulling_served a f s stream front ahead owed text reply.Done h =
    served (site s a) (enters_at (pulling_at f s stream front ahead owed) reply.Done text) (stands (site s a) (pulling_at f s stream front ahead owed) h)
    (record { told = tt; loaded = tt; read = h.read; all = tt })
pulling_served a f s stream front ahead owed text reply.Bound h =
    served (site s a) (enters_at (pulling_at f s stream front ahead owed) reply.Bound text) (stands (site s a) (pulling_at f s stream front ahead owed) h)
    (record { told = tt; loaded = tt; read = h.read; all = tt })
pulling_served a f s stream front ahead owed text reply.Resumed h =
    served (site s a) (enters_at (pulling_at f s stream front ahead owed) reply.Resumed text) (stands (site s a) (pulling_at f s stream front ahead owed) h)
    (record { told = tt; loaded = tt; read = h.read; all = tt })
pulling_served a f s stream front ahead owed text reply.Frame h =
    served (site s a) (enters_at (pulling_at f s stream front ahead owed) reply.Frame text) (stands (site s a) (pulling_at f s stream front ahead owed) h)
    (record { told = tt; loaded = tt; read = h.read; all = h.all })
pulling_served a f s stream front ahead owed text (reply.Nothing true) h =
    served (site s a) (enters_at (pulling_at f s stream front ahead owed) (reply.Nothing true) text) (stands (site s a)
    (pulling_at f s stream front ahead owed) h)
    (record { told = tt; loaded = tt; read = h.read; all = h.all })
pulling_served a f s stream front ahead owed text (reply.Nothing false) h =
    served (site s a) (enters_at (pulling_at f s stream front ahead owed) (reply.Nothing false) text) (stands (site s a)
    (pulling_at f s stream front ahead owed) h)
    (record { told = tt; loaded = tt; read = h.read; all = tt })
pulling_served a f s stream front ahead owed text (reply.Swept n) h =
    served (site s a) (enters_at (pulling_at f s stream front ahead owed) (reply.Swept n) text) (stands (site s a) (pulling_at f s stream front ahead owed) h)
    (record { told = tt; loaded = tt; read = h.read; all = tt })
pulling_served a f s stream front ahead owed text (reply.Over cause) h =
    served (site s a) (enters_at (pulling_at f s stream front ahead owed) (reply.Over cause) text) (stands (site s a)
    (pulling_at f s stream front ahead owed) h)
    (record { told = tt; loaded = tt; read = tt; all = tt })
pulling_served a f s stream front ahead owed text reply.Absent h =
    served (site s a) (enters_at (pulling_at f s stream front ahead owed) reply.Absent text) (stands (site s a) (pulling_at f s stream front ahead owed) h)
    (record { told = tt; loaded = tt; read = h.read; all = tt })
pulling_served a f s stream front ahead owed text reply.Unready h =
    served (site s a) (enters_at (pulling_at f s stream front ahead owed) reply.Unready text) (stands (site s a) (pulling_at f s stream front ahead owed) h)
    (record { told = tt; loaded = tt; read = h.read; all = tt })
pulling_served a f s stream front ahead owed text reply.NoUser h =
    served (site s a) (enters_at (pulling_at f s stream front ahead owed) reply.NoUser text) (stands (site s a) (pulling_at f s stream front ahead owed) h)
    (record { told = tt; loaded = tt; read = h.read; all = tt })
