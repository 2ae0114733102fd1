-- What a flow would say is due.
use Rattle.std.proofs.Common.{◌≡◌, ℕ, List, [], ◌∷◌, ◌++◌, refl, Bool, true, false, Option, Some, None}
use Rattle.std.specs.Prelude.{if◌then◌else◌, nat_lt}
use Rattle.stream_frames.specs.Fed.{Fed}
use Rattle.stream_grammar.specs.machine.Reading.{Reading}
use Rattle.account_book.specs.Lists.{Book}
use Rattle.house_model.specs.declared.event.Event.{Event}
use Rattle.house_model.specs.declared.event.Event.TheVariants as event
use Rattle.conn_asks.specs.declared.ended.Ended.{Ended}
use Rattle.conn_asks.specs.declared.ended.Ended.TheVariants as ended
use Rattle.conn_asks.specs.declared.stream_error.StreamError.{StreamError}
use Rattle.conn_asks.specs.StreamErrors.{error_of}
use Rattle.conn_flow.specs.declared.phase.Phase.{Phase}
use Rattle.conn_flow.specs.declared.phase.Phase.TheVariants.{Resting, Heard, Saying, Refusing, Drawing, Drawn, Entering, Entered, LoggingIn}
use Rattle.conn_flow.specs.declared.phase.Phase.TheVariants.{LoggedIn, PullingOnce, Pulling, Sweeping, Parting, Left}
use Rattle.conn_flow.specs.declared.talk.Talk.{Talk}
use Rattle.conn_flow.specs.Moves.{Says}
use Rattle.conn_flow.specs.Duties.{Site, Due, Leaves, end_due, error_due}
use Rattle.conn_flow.specs.Following.{GoesOn, SaysDue, rest_due}
use Rattle.conn_flow.specs.Flows.{ToAwait, ToDraw, ToFinish, ToSay, ToSubmit, error_said, event_wish}
use Rattle.conn_flow.specs.Flows.{handled_phase, last_text, login_wish, parting_wish, wish_of, wished}
use Rattle.flow_laws.specs.Standing.{IsDone, IsServed, Place, duty, duty_at, is_some_byte, known}
use Rattle.flow_laws.specs.Steps.{says_at}
use Rattle.flow_laws.proofs.Places.{Suits, handled_due, handled_suits, place, served, site, stands}

abbrev pub IsSaid : List ℕ → Site → Place → Type 0
IsSaid text o p = IsServed o p → wish_of p.flow ≡ ToSay text → GoesOn o (duty o p) (Says text) (duty o (says_at p text)) × IsServed o (says_at p text)

same_text : {x y : List ℕ} → ToSay x ≡ ToSay y → y ≡ x
same_text e = cc

-- a flow that is to submit an event says nothing

event_silent : (e : Option Event) (text : List ℕ) → event_wish e ≡ ToSay text → ⊥
event_silent (Some e) text w = let k : ToSubmit e ≡ ToSay text = w in cc
event_silent None text w = let k : ToAwait ≡ ToSay text = w in cc

login_silent : (line : ℕ) (user : Option (List ℕ)) (text : List ℕ) → login_wish line user ≡ ToSay text → ⊥
login_silent line (Some user) text w = let k : ToSubmit (event.Login line user) ≡ ToSay text = w in cc
login_silent line None text w = let k : ToAwait ≡ ToSay text = w in cc

-- a failure, which may be the third

refused_due : (o : Site) (s : Talk) (stream front ahead owed : List ℕ) (few more : Bool) → more ≡ is_some_byte ahead
    → duty_at o s stream front ahead owed (if few then handled_phase more else Parting ended.ThirdFailure)
    ≡ known s stream owed (if few then rest_due ahead else end_due o (known s stream owed []) ended.ThirdFailure)
refused_due o s stream front ahead owed true more e = handled_due o s stream front ahead owed more e
refused_due o s stream front ahead owed false more e = refl

refused_suits : (reading : Reading) (s : Talk) (stream front ahead : List ℕ) (few more : Bool) → more ≡ is_some_byte ahead → IsDone reading stream front
    → Suits reading s stream front ahead (if few then handled_phase more else Parting ended.ThirdFailure)
refused_suits reading s stream front ahead true more e done = handled_suits reading s stream front ahead more e done
refused_suits reading s stream front ahead false more e done = record { told = tt; loaded = tt; read = tt; all = tt }

-- the last text

error_goes : (a : Book) (s : Talk) (stream owed : List ℕ) (due : List Due) (e : Option StreamError) (x : Ended) (text : List ℕ)
    → parting_wish (error_said s e) x ≡ ToSay text
    → SaysDue (known s stream owed due) (error_due (site s a) (known s stream owed []) e x) text (known s stream (owed ++ text) (Leaves x ∷ []))
error_goes a s stream owed due None x text w = absurd (let k : ToFinish x ≡ ToSay text = w in cc)
error_goes a s stream owed due (Some e) x text w = (same_text w, refl)

last_goes : (a : Book) (s : Talk) (stream owed : List ℕ) (due : List Due) (x : Ended) (text : List ℕ)
    → parting_wish (last_text s x) x ≡ ToSay text
    → SaysDue (known s stream owed due) (end_due (site s a) (known s stream owed []) x) text (known s stream (owed ++ text) (Leaves x ∷ []))
last_goes a s stream owed due ended.Closed text w = (same_text w, refl)
last_goes a s stream owed due (ended.Over cause) text w = error_goes a s stream owed due (error_of (ended.Over cause)) (ended.Over cause) text w
last_goes a s stream owed due ended.Hung text w = error_goes a s stream owed due (error_of ended.Hung) ended.Hung text w
last_goes a s stream owed due ended.LinkFault text w = error_goes a s stream owed due (error_of ended.LinkFault) ended.LinkFault text w
last_goes a s stream owed due ended.DiceFault text w = error_goes a s stream owed due (error_of ended.DiceFault) ended.DiceFault text w
last_goes a s stream owed due (ended.Broken f k) text w = error_goes a s stream owed due (error_of (ended.Broken f k)) (ended.Broken f k) text w
last_goes a s stream owed due (ended.BadHeader f) text w = error_goes a s stream owed due (error_of (ended.BadHeader f)) (ended.BadHeader f) text w
last_goes a s stream owed due (ended.BadItem f n) text w = error_goes a s stream owed due (error_of (ended.BadItem f n)) (ended.BadItem f n) text w
last_goes a s stream owed due ended.ThirdFailure text w = error_goes a s stream owed due (error_of ended.ThirdFailure) ended.ThirdFailure text w
last_goes a s stream owed due (ended.Idle t) text w = error_goes a s stream owed due (error_of (ended.Idle t)) (ended.Idle t) text w
last_goes a s stream owed due ended.Spent text w = error_goes a s stream owed due (error_of ended.Spent) ended.Spent text w
last_goes a s stream owed due ended.NoMemory text w = error_goes a s stream owed due (error_of ended.NoMemory) ended.NoMemory text w

pub says_now : (a : Book) (f : Fed) (s : Talk) (p : Phase) (stream front ahead owed text : List ℕ) → IsSaid text (site s a)
    (place f s p stream front ahead owed)
says_now a f s Saying stream front ahead owed text h w =
    let now : Talk = wished (record s { phase = Saying }) Saying in (
      (same_text w, handled_due (site s a) now stream front ahead (owed ++ text) s.more h.more),
      served (site s a) (says_at (place f s Saying stream front ahead owed) text) (stands (site s a) (place f s Saying stream front ahead owed) h)
          (handled_suits f.reading now stream front ahead s.more h.more h.read),
    )
says_now a f s (Refusing fail) stream front ahead owed text h w =
    let now : Talk = wished (record s { phase = Refusing fail }) (Refusing fail) in (
      (same_text w, refused_due (site s a) now stream front ahead (owed ++ text) (nat_lt s.failures 3) s.more h.more),
      served (site s a) (says_at (place f s (Refusing fail) stream front ahead owed) text)
          (stands (site s a) (place f s (Refusing fail) stream front ahead owed) h)
          (refused_suits f.reading now stream front ahead (nat_lt s.failures 3) s.more h.more h.read),
    )
says_now a f s (Parting x) stream front ahead owed text h w = (
  last_goes a s stream owed (end_due (site s a) (known s stream owed []) x) x text w,
  served (site s a) (says_at (place f s (Parting x) stream front ahead owed) text) (stands (site s a) (place f s (Parting x) stream front ahead owed) h)
      (record { told = tt; loaded = tt; read = tt; all = tt }),
)
says_now a f s Resting stream front ahead owed text h w = absurd (let k : ToAwait ≡ ToSay text = w in cc)
says_now a f s Heard stream front ahead owed text h w = absurd (let k : ToAwait ≡ ToSay text = w in cc)
says_now a f s Drawing stream front ahead owed text h w = absurd (let k : ToDraw ≡ ToSay text = w in cc)
says_now a f s (Drawn dice) stream front ahead owed text h w = absurd (let k : ToAwait ≡ ToSay text = w in cc)
says_now a f s Entering stream front ahead owed text h w = absurd (event_silent s.event text w)
says_now a f s (Entered pulls) stream front ahead owed text h w = absurd (let k : ToAwait ≡ ToSay text = w in cc)
says_now a f s LoggingIn stream front ahead owed text h w = absurd (login_silent s.line s.user text w)
says_now a f s LoggedIn stream front ahead owed text h w = absurd (let k : ToAwait ≡ ToSay text = w in cc)
says_now a f s PullingOnce stream front ahead owed text h w = absurd (let k : ToSubmit (event.Pull s.line s.moment) ≡ ToSay text = w in cc)
says_now a f s Pulling stream front ahead owed text h w = absurd (let k : ToSubmit (event.Pull s.line s.moment) ≡ ToSay text = w in cc)
says_now a f s Sweeping stream front ahead owed text h w = absurd (let k : ToSubmit (event.Sweep s.line s.moment) ≡ ToSay text = w in cc)
says_now a f s (Left x) stream front ahead owed text h w = absurd (let k : ToFinish x ≡ ToSay text = w in cc)
