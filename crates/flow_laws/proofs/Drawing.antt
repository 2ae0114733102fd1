-- The random bytes that a flow needs are due.
use Rattle.std.proofs.Common.{◌≡◌, ℕ, List, length, refl, true, Option, Some, None}
use Rattle.stream_frames.specs.Fed.{Fed}
use Rattle.account_book.specs.Lists.{Book}
use Rattle.house_model.specs.declared.event.Event.{Event}
use Rattle.house_model.specs.declared.event.Event.TheVariants as event
use Rattle.conn_asks.specs.declared.ended.Ended.{Ended}
use Rattle.conn_asks.specs.declared.stage.Purpose.{Purpose}
use Rattle.conn_asks.specs.declared.stage.Purpose.TheVariants.{Challenge, Bind, Enable}
use Rattle.conn_asks.specs.Texts.{failure_text}
use Rattle.conn_flow.specs.declared.phase.Phase.{Phase}
use Rattle.conn_flow.specs.declared.phase.Phase.TheVariants.{Resting, Heard, Saying, Refusing, Drawing, Drawn, Entering, Entered, LoggingIn}
use Rattle.conn_flow.specs.declared.phase.Phase.TheVariants.{LoggedIn, PullingOnce, Pulling, Sweeping, Parting, Left}
use Rattle.conn_flow.specs.declared.talk.Talk.{Talk}
use Rattle.conn_flow.specs.Moves.{Draws}
use Rattle.conn_flow.specs.Duties.{Site, Due}
use Rattle.conn_flow.specs.Following.{GoesOn, draws_next, rest_due}
use Rattle.conn_flow.specs.Flows.{IsLoaded, IsThere, ToAwait, ToDraw, ToFinish, ToSay, ToSubmit, event_wish, last_text, login_wish, parting_wish, wish, wish_of}
use Rattle.flow_laws.specs.Standing.{IsServed, Place, duty, duty_at, purpose_due}
use Rattle.flow_laws.specs.Steps.{gives_at}
use Rattle.flow_laws.proofs.Places.{place, served, site, stands}

abbrev pub IsDrawn : List ℕ → Site → Place → Type 0
IsDrawn dice o p =
    IsServed o p → length dice ≡ 18 → wish_of p.flow ≡ ToDraw → GoesOn o (duty o p) (Draws dice) (duty o (gives_at p dice)) × IsServed o (gives_at p dice)

-- elsewhere no random bytes are needed

event_draws_none : (e : Option Event) → event_wish e ≡ ToDraw → ⊥
event_draws_none (Some e) w = let k : ToSubmit e ≡ ToDraw = w in cc
event_draws_none None w = let k : ToAwait ≡ ToDraw = w in cc

login_draws_none : (line : ℕ) (user : Option (List ℕ)) → login_wish line user ≡ ToDraw → ⊥
login_draws_none line (Some user) w = let k : ToSubmit (event.Login line user) ≡ ToDraw = w in cc
login_draws_none line None w = let k : ToAwait ≡ ToDraw = w in cc

last_draws_none : (text : Option (List ℕ)) (x : Ended) → parting_wish text x ≡ ToDraw → ⊥
last_draws_none (Some text) x w = let k : ToSay text ≡ ToDraw = w in cc
last_draws_none None x w = let k : ToFinish x ≡ ToDraw = w in cc

drawing : (a : Book) (f : Fed) (s : Talk) (stream front ahead owed : List ℕ) (x : Option Purpose) (dice : List ℕ)
    → IsDrawn dice (site s a) (place f (record s { purpose = x }) Drawing stream front ahead owed)
drawing a f s stream front ahead owed None dice h long w = absurd h.loaded
drawing a f s stream front ahead owed (Some (Challenge m first)) dice h long w =
    let p : Place = place f (record s { purpose = Some (Challenge m first) }) Drawing stream front ahead owed in (
      (long, refl),
      served (site s a) (gives_at p dice) (stands (site s a) p h) (record { told = tt; loaded = tt; read = h.read; all = tt }),
    )
drawing a f s stream front ahead owed (Some (Bind id resource)) dice h long w =
    let p : Place = place f (record s { purpose = Some (Bind id resource) }) Drawing stream front ahead owed in (
      (long, refl),
      served (site s a) (gives_at p dice) (stands (site s a) p h) (record { told = tt; loaded = tt; read = h.read; all = tt }),
    )
drawing a f s stream front ahead owed (Some (Enable resume)) dice h long w =
    let p : Place = place f (record s { purpose = Some (Enable resume) }) Drawing stream front ahead owed in (
      (long, refl),
      served (site s a) (gives_at p dice) (stands (site s a) p h) (record { told = tt; loaded = tt; read = h.read; all = tt }),
    )

pub draws_now : (a : Book) (f : Fed) (s : Talk) (p : Phase) (stream front ahead owed dice : List ℕ) → IsDrawn dice (site s a)
    (place f s p stream front ahead owed)
draws_now a f s Drawing stream front ahead owed dice h long w = drawing a f s stream front ahead owed s.purpose dice h long w
draws_now a f s Resting stream front ahead owed dice h long w = absurd (let k : ToAwait ≡ ToDraw = w in cc)
draws_now a f s Heard stream front ahead owed dice h long w = absurd (let k : ToAwait ≡ ToDraw = w in cc)
draws_now a f s Saying stream front ahead owed dice h long w = absurd (let k : ToSay s.text ≡ ToDraw = w in cc)
draws_now a f s (Refusing fail) stream front ahead owed dice h long w = absurd (let k : ToSay (failure_text fail) ≡ ToDraw = w in cc)
draws_now a f s (Drawn drawn) stream front ahead owed dice h long w = absurd (let k : ToAwait ≡ ToDraw = w in cc)
draws_now a f s Entering stream front ahead owed dice h long w = absurd (event_draws_none s.event w)
draws_now a f s (Entered pulls) stream front ahead owed dice h long w = absurd (let k : ToAwait ≡ ToDraw = w in cc)
draws_now a f s LoggingIn stream front ahead owed dice h long w = absurd (login_draws_none s.line s.user w)
draws_now a f s LoggedIn stream front ahead owed dice h long w = absurd (let k : ToAwait ≡ ToDraw = w in cc)
draws_now a f s PullingOnce stream front ahead owed dice h long w = absurd (let k : ToSubmit (event.Pull s.line s.moment) ≡ ToDraw = w in cc)
draws_now a f s Pulling stream front ahead owed dice h long w = absurd (let k : ToSubmit (event.Pull s.line s.moment) ≡ ToDraw = w in cc)
draws_now a f s Sweeping stream front ahead owed dice h long w = absurd (let k : ToSubmit (event.Sweep s.line s.moment) ≡ ToDraw = w in cc)
draws_now a f s (Parting x) stream front ahead owed dice h long w = absurd (last_draws_none (last_text s x) x w)
draws_now a f s (Left x) stream front ahead owed dice h long w = absurd (let k : ToFinish x ≡ ToDraw = w in cc)

next_purpose : (x : Option Purpose) (rest : List Due) → IsThere x → draws_next (purpose_due x rest) ≡ true
next_purpose (Some x) rest there = refl
next_purpose None rest there = absurd there

pub draws_due_now : (o : Site) (s : Talk) (p : Phase) (stream front ahead owed : List ℕ) → IsLoaded s p → wish s p ≡ ToDraw
    → draws_next (duty_at o s stream front ahead owed p).due ≡ true
draws_due_now o s Drawing stream front ahead owed there w = next_purpose s.purpose (rest_due ahead) there
draws_due_now o s Resting stream front ahead owed there w = absurd (let k : ToAwait ≡ ToDraw = w in cc)
draws_due_now o s Heard stream front ahead owed there w = absurd (let k : ToAwait ≡ ToDraw = w in cc)
draws_due_now o s Saying stream front ahead owed there w = absurd (let k : ToSay s.text ≡ ToDraw = w in cc)
draws_due_now o s (Refusing fail) stream front ahead owed there w = absurd (let k : ToSay (failure_text fail) ≡ ToDraw = w in cc)
draws_due_now o s (Drawn dice) stream front ahead owed there w = absurd (let k : ToAwait ≡ ToDraw = w in cc)
draws_due_now o s Entering stream front ahead owed there w = absurd (event_draws_none s.event w)
draws_due_now o s (Entered pulls) stream front ahead owed there w = absurd (let k : ToAwait ≡ ToDraw = w in cc)
draws_due_now o s LoggingIn stream front ahead owed there w = absurd (login_draws_none s.line s.user w)
draws_due_now o s LoggedIn stream front ahead owed there w = absurd (let k : ToAwait ≡ ToDraw = w in cc)
draws_due_now o s PullingOnce stream front ahead owed there w = absurd (let k : ToSubmit (event.Pull s.line s.moment) ≡ ToDraw = w in cc)
draws_due_now o s Pulling stream front ahead owed there w = absurd (let k : ToSubmit (event.Pull s.line s.moment) ≡ ToDraw = w in cc)
draws_due_now o s Sweeping stream front ahead owed there w = absurd (let k : ToSubmit (event.Sweep s.line s.moment) ≡ ToDraw = w in cc)
draws_due_now o s (Parting x) stream front ahead owed there w = absurd (last_draws_none (last_text s x) x w)
draws_due_now o s (Left x) stream front ahead owed there w = absurd (let k : ToFinish x ≡ ToDraw = w in cc)
