-- A flow ends where leaving is due, and goes on elsewhere.
use Rattle.std.proofs.Common.{◌≡◌, ℕ, List, [], ◌∷◌, refl, sym, ap, true, Option, Some, None, ◌∙◌}
use Rattle.stream_frames.specs.Fed.{Fed}
use Rattle.account_book.specs.Lists.{Book}
use Rattle.house_model.specs.declared.event.Event.{Event}
use Rattle.house_model.specs.declared.event.Event.TheVariants as event
use Rattle.conn_asks.specs.declared.ended.Ended.{Ended}
use Rattle.conn_asks.specs.declared.ended.Ended.TheVariants as ended
use Rattle.conn_asks.specs.declared.stage.Purpose.{Purpose}
use Rattle.conn_asks.specs.declared.stage.Purpose.TheVariants.{Challenge, Bind, Enable}
use Rattle.conn_asks.specs.declared.stream_error.StreamError.{StreamError}
use Rattle.conn_asks.specs.StreamErrors.{error_of}
use Rattle.conn_asks.specs.Texts.{close_tag, failure_text}
use Rattle.conn_flow.specs.declared.phase.Phase.{Phase}
use Rattle.conn_flow.specs.declared.phase.Phase.TheVariants.{Resting, Heard, Saying, Refusing, Drawing, Drawn, Entering, Entered, LoggingIn}
use Rattle.conn_flow.specs.declared.phase.Phase.TheVariants.{LoggedIn, PullingOnce, Pulling, Sweeping, Parting, Left}
use Rattle.conn_flow.specs.declared.talk.Talk.{Talk}
use Rattle.conn_flow.specs.Duties.{Site, Due, Duty, Leaves, end_due, error_due}
use Rattle.conn_flow.specs.Following.{goes_on, rest_due}
use Rattle.conn_flow.specs.Flows.{IsGoing, IsThere, ToAwait, ToDraw, ToFinish, ToSay, ToSubmit, error_said}
use Rattle.conn_flow.specs.Flows.{event_wish, last_text, login_wish, parting_wish, wish, wish_of}
use Rattle.flow_laws.specs.Standing.{IsServed, Place, drew_if, duty, duty_at, event_due, idle, known, login_due, purpose_due}
use Rattle.flow_laws.specs.Steps.{ends_at}
use Rattle.flow_laws.proofs.Places.{place, served, site, stands}

same_end : {x y : Ended} → ToFinish x ≡ ToFinish y → x ≡ y
same_end e = cc

event_ends_none : (e : Option Event) (y : Ended) → event_wish e ≡ ToFinish y → ⊥
event_ends_none (Some e) y w = let k : ToSubmit e ≡ ToFinish y = w in cc
event_ends_none None y w = let k : ToAwait ≡ ToFinish y = w in cc

login_ends_none : (line : ℕ) (user : Option (List ℕ)) (y : Ended) → login_wish line user ≡ ToFinish y → ⊥
login_ends_none line (Some user) y w = let k : ToSubmit (event.Login line user) ≡ ToFinish y = w in cc
login_ends_none line None y w = let k : ToAwait ≡ ToFinish y = w in cc

-- where no text is last

leaves : {x y : Ended} → x ≡ y → Leaves x ∷ [] ≡ Leaves y ∷ []
leaves e = ap (λ (x : Ended). Leaves x ∷ []) e

error_leaves : (o : Site) (s : Talk) (v : Duty) (e : Option StreamError) (x y : Ended) → parting_wish (error_said s e) x ≡ ToFinish y
    → error_due o v e x ≡ Leaves y ∷ []
error_leaves o s v None x y w = leaves (same_end w)
error_leaves o s v (Some e) x y w = absurd (no_said w)
  where
    no_said : {text : List ℕ} → ToSay text ≡ ToFinish y → ⊥
    no_said k = cc

last_leaves : (o : Site) (s : Talk) (v : Duty) (x y : Ended) → parting_wish (last_text s x) x ≡ ToFinish y → end_due o v x ≡ Leaves y ∷ []
last_leaves o s v ended.Closed y w = absurd (let k : ToSay close_tag ≡ ToFinish y = w in cc)
last_leaves o s v ended.Hung y w = error_leaves o s v (error_of ended.Hung) ended.Hung y w
last_leaves o s v ended.LinkFault y w = error_leaves o s v (error_of ended.LinkFault) ended.LinkFault y w
last_leaves o s v ended.DiceFault y w = error_leaves o s v (error_of ended.DiceFault) ended.DiceFault y w
last_leaves o s v (ended.Broken g k) y w = error_leaves o s v (error_of (ended.Broken g k)) (ended.Broken g k) y w
last_leaves o s v (ended.BadHeader g) y w = error_leaves o s v (error_of (ended.BadHeader g)) (ended.BadHeader g) y w
last_leaves o s v (ended.BadItem g k) y w = error_leaves o s v (error_of (ended.BadItem g k)) (ended.BadItem g k) y w
last_leaves o s v ended.ThirdFailure y w = error_leaves o s v (error_of ended.ThirdFailure) ended.ThirdFailure y w
last_leaves o s v (ended.Idle t) y w = error_leaves o s v (error_of (ended.Idle t)) (ended.Idle t) y w
last_leaves o s v (ended.Over cause) y w = error_leaves o s v (error_of (ended.Over cause)) (ended.Over cause) y w
last_leaves o s v ended.Spent y w = error_leaves o s v (error_of ended.Spent) ended.Spent y w
last_leaves o s v ended.NoMemory y w = error_leaves o s v (error_of ended.NoMemory) ended.NoMemory y w

pub ends_now : (o : Site) (s : Talk) (p : Phase) (stream front ahead owed : List ℕ) (y : Ended) → wish s p ≡ ToFinish y
    → (duty_at o s stream front ahead owed p).due ≡ Leaves y ∷ []
ends_now o s (Parting x) stream front ahead owed y w = last_leaves o s (known s stream owed []) x y w
ends_now o s (Left x) stream front ahead owed y w = leaves (same_end w)
ends_now o s Resting stream front ahead owed y w = absurd (let k : ToAwait ≡ ToFinish y = w in cc)
ends_now o s Heard stream front ahead owed y w = absurd (let k : ToAwait ≡ ToFinish y = w in cc)
ends_now o s Saying stream front ahead owed y w = absurd (let k : ToSay s.text ≡ ToFinish y = w in cc)
ends_now o s (Refusing fail) stream front ahead owed y w = absurd (let k : ToSay (failure_text fail) ≡ ToFinish y = w in cc)
ends_now o s Drawing stream front ahead owed y w = absurd (let k : ToDraw ≡ ToFinish y = w in cc)
ends_now o s (Drawn dice) stream front ahead owed y w = absurd (let k : ToAwait ≡ ToFinish y = w in cc)
ends_now o s Entering stream front ahead owed y w = absurd (event_ends_none s.event y w)
ends_now o s (Entered pulls) stream front ahead owed y w = absurd (let k : ToAwait ≡ ToFinish y = w in cc)
ends_now o s LoggingIn stream front ahead owed y w = absurd (login_ends_none s.line s.user y w)
ends_now o s LoggedIn stream front ahead owed y w = absurd (let k : ToAwait ≡ ToFinish y = w in cc)
ends_now o s PullingOnce stream front ahead owed y w = absurd (let k : ToSubmit (event.Pull s.line s.moment) ≡ ToFinish y = w in cc)
ends_now o s Pulling stream front ahead owed y w = absurd (let k : ToSubmit (event.Pull s.line s.moment) ≡ ToFinish y = w in cc)
ends_now o s Sweeping stream front ahead owed y w = absurd (let k : ToSubmit (event.Sweep s.line s.moment) ≡ ToFinish y = w in cc)

-- A flow that is over stays so.

parting_end : (text : Option (List ℕ)) (x y : Ended) → parting_wish text x ≡ ToFinish y → x ≡ y
parting_end (Some text) x y w = absurd (let k : ToSay text ≡ ToFinish y = w in cc)
parting_end None x y w = same_end w

abbrev pub IsOver : Ended → Site → Place → Type 0
IsOver y o p =
    IsServed o p → wish_of p.flow ≡ ToFinish y → (duty o (ends_at p) ≡ duty o p) × IsServed o (ends_at p) × (wish_of (ends_at p).flow ≡ ToFinish y)

pub overs_now : (a : Book) (f : Fed) (s : Talk) (p : Phase) (stream front ahead owed : List ℕ) (y : Ended)
    → IsOver y (site s a) (place f s p stream front ahead owed)
overs_now a f s (Left x) stream front ahead owed y h w = (refl, h, w)
overs_now a f s (Parting x) stream front ahead owed y h w =
    let is : x ≡ y = parting_end (last_text s x) x y w in (
      ap (λ (due : List Due). known s stream owed due) (leaves is ∙ sym (last_leaves (site s a) s (known s stream owed []) x y w)),
      served (site s a) (ends_at (place f s (Parting x) stream front ahead owed)) (stands (site s a) (place f s (Parting x) stream front ahead owed) h)
          (record { told = tt; loaded = tt; read = tt; all = tt }),
      ap ToFinish is,
    )
overs_now a f s Resting stream front ahead owed y h w = absurd (let k : ToAwait ≡ ToFinish y = w in cc)
overs_now a f s Heard stream front ahead owed y h w = absurd (let k : ToAwait ≡ ToFinish y = w in cc)
overs_now a f s Saying stream front ahead owed y h w = absurd (let k : ToSay s.text ≡ ToFinish y = w in cc)
overs_now a f s (Refusing fail) stream front ahead owed y h w = absurd (let k : ToSay (failure_text fail) ≡ ToFinish y = w in cc)
overs_now a f s Drawing stream front ahead owed y h w = absurd (let k : ToDraw ≡ ToFinish y = w in cc)
overs_now a f s (Drawn dice) stream front ahead owed y h w = absurd (let k : ToAwait ≡ ToFinish y = w in cc)
overs_now a f s Entering stream front ahead owed y h w = absurd (event_ends_none s.event y w)
overs_now a f s (Entered pulls) stream front ahead owed y h w = absurd (let k : ToAwait ≡ ToFinish y = w in cc)
overs_now a f s LoggingIn stream front ahead owed y h w = absurd (login_ends_none s.line s.user y w)
overs_now a f s LoggedIn stream front ahead owed y h w = absurd (let k : ToAwait ≡ ToFinish y = w in cc)
overs_now a f s PullingOnce stream front ahead owed y h w = absurd (let k : ToSubmit (event.Pull s.line s.moment) ≡ ToFinish y = w in cc)
overs_now a f s Pulling stream front ahead owed y h w = absurd (let k : ToSubmit (event.Pull s.line s.moment) ≡ ToFinish y = w in cc)
overs_now a f s Sweeping stream front ahead owed y h w = absurd (let k : ToSubmit (event.Sweep s.line s.moment) ≡ ToFinish y = w in cc)

-- where memory may be wanting

error_goes_on : (o : Site) (s : Talk) (v : Duty) (e : Option StreamError) (x : Ended) → IsThere (error_said s e) → goes_on (error_due o v e x) ≡ true
error_goes_on o s v (Some e) x there = refl
error_goes_on o s v None x there = absurd there

last_goes_on : (o : Site) (s : Talk) (v : Duty) (x : Ended) → IsThere (last_text s x) → goes_on (end_due o v x) ≡ true
last_goes_on o s v ended.Closed there = refl
last_goes_on o s v ended.Hung there = error_goes_on o s v (error_of ended.Hung) ended.Hung there
last_goes_on o s v ended.LinkFault there = error_goes_on o s v (error_of ended.LinkFault) ended.LinkFault there
last_goes_on o s v ended.DiceFault there = error_goes_on o s v (error_of ended.DiceFault) ended.DiceFault there
last_goes_on o s v (ended.Broken g k) there = error_goes_on o s v (error_of (ended.Broken g k)) (ended.Broken g k) there
last_goes_on o s v (ended.BadHeader g) there = error_goes_on o s v (error_of (ended.BadHeader g)) (ended.BadHeader g) there
last_goes_on o s v (ended.BadItem g k) there = error_goes_on o s v (error_of (ended.BadItem g k)) (ended.BadItem g k) there
last_goes_on o s v ended.ThirdFailure there = error_goes_on o s v (error_of ended.ThirdFailure) ended.ThirdFailure there
last_goes_on o s v (ended.Idle t) there = error_goes_on o s v (error_of (ended.Idle t)) (ended.Idle t) there
last_goes_on o s v (ended.Over cause) there = error_goes_on o s v (error_of (ended.Over cause)) (ended.Over cause) there
last_goes_on o s v ended.Spent there = error_goes_on o s v (error_of ended.Spent) ended.Spent there
last_goes_on o s v ended.NoMemory there = error_goes_on o s v (error_of ended.NoMemory) ended.NoMemory there

rest_goes_on : (ahead : List ℕ) → goes_on (rest_due ahead) ≡ true
rest_goes_on [] = refl
rest_goes_on (b ∷ bytes) = refl

idle_goes_on : (ahead : List ℕ) → goes_on (idle ahead) ≡ true
idle_goes_on [] = refl
idle_goes_on (b ∷ bytes) = refl

purpose_goes_on : (x : Option Purpose) (ahead : List ℕ) → goes_on (purpose_due x (rest_due ahead)) ≡ true
purpose_goes_on (Some x) ahead = refl
purpose_goes_on None ahead = rest_goes_on ahead

event_goes_on : (x : Option Event) (ahead : List ℕ) → goes_on (event_due x (rest_due ahead)) ≡ true
event_goes_on (Some x) ahead = refl
event_goes_on None ahead = rest_goes_on ahead

login_goes_on : (x : Option (List ℕ)) (text ahead : List ℕ) → goes_on (login_due x text (rest_due ahead)) ≡ true
login_goes_on (Some x) text ahead = refl
login_goes_on None text ahead = rest_goes_on ahead

drew_goes_on : (o : Site) (s : Talk) (stream owed : List ℕ) (x : Option Purpose) (dice : List ℕ) (rest : List Due)
    → goes_on (drew_if o (known s stream owed []) x dice rest).due ≡ true
drew_goes_on o s stream owed (Some (Challenge m first)) dice rest = refl
drew_goes_on o s stream owed (Some (Bind id resource)) dice rest = refl
drew_goes_on o s stream owed (Some (Enable resume)) dice rest = refl
drew_goes_on o s stream owed None dice rest = refl

pub goes_on_now : (o : Site) (s : Talk) (p : Phase) (stream front ahead owed : List ℕ) → IsGoing s p
    → goes_on (duty_at o s stream front ahead owed p).due ≡ true
goes_on_now o s Resting stream front ahead owed h = idle_goes_on ahead
goes_on_now o s Heard stream front ahead owed h = refl
goes_on_now o s Saying stream front ahead owed h = refl
goes_on_now o s (Refusing f) stream front ahead owed h = refl
goes_on_now o s Drawing stream front ahead owed h = purpose_goes_on s.purpose ahead
goes_on_now o s (Drawn dice) stream front ahead owed h = drew_goes_on o s stream owed s.purpose dice (rest_due ahead)
goes_on_now o s Entering stream front ahead owed h = event_goes_on s.event ahead
goes_on_now o s (Entered pulls) stream front ahead owed h = refl
goes_on_now o s LoggingIn stream front ahead owed h = login_goes_on s.user s.text ahead
goes_on_now o s LoggedIn stream front ahead owed h = refl
goes_on_now o s PullingOnce stream front ahead owed h = refl
goes_on_now o s Pulling stream front ahead owed h = refl
goes_on_now o s Sweeping stream front ahead owed h = refl
goes_on_now o s (Parting x) stream front ahead owed h = last_goes_on o s (known s stream owed []) x h
goes_on_now o s (Left x) stream front ahead owed h = absurd h

-- a flow that wants anything but its end goes on

last_going : (text : Option (List ℕ)) (x : Ended) → ((y : Ended) → parting_wish text x ≡ ToFinish y → ⊥) → IsThere text
last_going (Some text) x none = tt
last_going None x none = none x refl

pub going_now : (s : Talk) (p : Phase) → ((y : Ended) → wish s p ≡ ToFinish y → ⊥) → IsGoing s p
going_now s Resting none = tt
going_now s Heard none = tt
going_now s Saying none = tt
going_now s (Refusing f) none = tt
going_now s Drawing none = tt
going_now s (Drawn dice) none = tt
going_now s Entering none = tt
going_now s (Entered pulls) none = tt
going_now s LoggingIn none = tt
going_now s LoggedIn none = tt
going_now s PullingOnce none = tt
going_now s Pulling none = tt
going_now s Sweeping none = tt
going_now s (Parting x) none = last_going (last_text s x) x none
going_now s (Left x) none = none x refl
