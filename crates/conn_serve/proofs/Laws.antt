-- The laws of a flow at a place.
use Rattle.std.proofs.Common.{◌≡◌, ◌≢◌, ℕ, List, [], ◌∷◌, length, false, true, subst, sym}
use Rattle.house_model.specs.Histories.{MayBeShort, made, short}
use Rattle.house_model.specs.declared.event.Event.{Event}
use Rattle.house_model.specs.declared.reply.Reply.{Reply}
use Rattle.conn_asks.specs.declared.ended.Ended.{Ended}
use Rattle.conn_flow.specs.declared.phase.Phase.TheVariants.{Resting}
use Rattle.conn_flow.specs.Moves.{Hears, Waits, Hangs, Says, Enters, Draws}
use Rattle.conn_flow.specs.Duties.{Leaves, Site}
use Rattle.conn_flow.specs.Following.{GoesOn, draws_next, enters_next, goes_on}
use Rattle.conn_flow.specs.Flows.{IsGoing, Prepares, State, is_late, ToDraw, ToFinish, ToSay, ToSubmit, wish_of}
use Rattle.flow_laws.specs.Standing.{IsFit, IsFitAt, IsServed, Place, duty}
use Rattle.flow_laws.specs.Steps.{Comes, ends_at, enters_at, gives_at, hangs_at, hears_at, lates_at, says_at, shorts_at, waits_at}
use Rattle.flow_laws.proofs.Answering.{IsEntered}
use Rattle.flow_laws.proofs.Drawing.{IsDrawn, draws_due_now, draws_now}
use Rattle.flow_laws.proofs.Ending.{IsOver, ends_now, goes_on_now, going_now, overs_now}
use Rattle.flow_laws.proofs.Handling.{IsHandled, handles_now}
use Rattle.flow_laws.proofs.Places.{bring}
use Rattle.flow_laws.proofs.Reading.{AreHeard, AreHeardOn, AreLate, IsHung, IsQuiet, bring_idle, bring_rest}
use Rattle.flow_laws.proofs.Reading.{hangs_now, hears_now, hears_on_now, lates_now, waits_now}
use Rattle.flow_laws.proofs.Saying.{IsSaid, says_now}
use Rattle.flow_laws.proofs.Submitting.{IsShorted, enters_due_now, enters_now, meets_now, shorts_now}

pub hears : (o : Site) (p : Place) (t : ℕ) (bytes : List ℕ) → IsServed o p → p.flow.talk.phase ≡ Resting → p.ahead ≡ [] → p.owed ≡ [] → bytes ≢ []
    → is_late p.flow.talk t ≡ false → GoesOn o (duty o p) (Hears bytes t) (duty o (hears_at p t bytes)) × IsServed o (hears_at p t bytes)
hears o p t bytes h at none owes some early =
    bring_idle (AreHeard bytes t o) p at none owes (hears_now o p.flow.fed p.flow.talk p.stream p.front bytes t) h some early

pub lates : (o : Site) (p : Place) (t : ℕ) (bytes : List ℕ) → IsServed o p → p.flow.talk.phase ≡ Resting → p.ahead ≡ [] → p.owed ≡ [] → bytes ≢ []
    → is_late p.flow.talk t ≡ true → GoesOn o (duty o p) (Hears bytes t) (duty o (lates_at p t)) × IsServed o (lates_at p t)
lates o p t bytes h at none owes some late =
    bring_idle (AreLate bytes t o) p at none owes (lates_now o p.flow.fed p.flow.talk p.stream p.front bytes t) h some late

pub hears_on : (o : Site) (p : Place) → IsServed o p → p.flow.talk.phase ≡ Resting → p.ahead ≢ []
    → (duty o (hears_at p p.flow.talk.moment p.ahead) ≡ duty o p) × IsServed o (hears_at p p.flow.talk.moment p.ahead)
hears_on o p h at some = bring_rest (AreHeardOn o) p at (hears_on_now o p.flow.fed p.flow.talk p.stream p.front p.ahead p.owed) h some

pub waits : (o : Site) (p : Place) (t : ℕ) → IsServed o p → p.flow.talk.phase ≡ Resting → p.ahead ≡ [] → p.owed ≡ []
    → GoesOn o (duty o p) (Waits t) (duty o (waits_at p t)) × IsServed o (waits_at p t)
waits o p t h at none owes = bring_idle (IsQuiet t o) p at none owes (waits_now o p.flow.fed p.flow.talk p.stream p.front t) h

pub hangs : (o : Site) (p : Place) (t : ℕ) → IsServed o p → p.flow.talk.phase ≡ Resting → p.ahead ≡ [] → p.owed ≡ []
    → GoesOn o (duty o p) (Hangs t) (duty o (hangs_at p t)) × IsServed o (hangs_at p t)
hangs o p t h at none owes = bring_idle (IsHung t o) p at none owes (hangs_now o p.flow.fed p.flow.talk p.stream p.front t) h

pub handles : (o : Site) (p : Place) (s : State) → IsServed o p → Prepares o.accounts p.flow p.flow.talk.phase s → Comes o p s
handles o p s h prepared =
    bring (IsHandled s) o p h (handles_now o.accounts p.flow.fed p.flow.talk p.flow.talk.phase p.stream p.front p.ahead p.owed s) h prepared

pub says : (o : Site) (p : Place) (text : List ℕ) → IsServed o p → wish_of p.flow ≡ ToSay text
    → GoesOn o (duty o p) (Says text) (duty o (says_at p text)) × IsServed o (says_at p text)
says o p text h w =
    bring (IsSaid text) o p h (says_now o.accounts p.flow.fed p.flow.talk p.flow.talk.phase p.stream p.front p.ahead p.owed text) h w

pub enters : (o : Site) (p : Place) (e : Event) (r : Reply) (text : List ℕ) → IsServed o p → wish_of p.flow ≡ ToSubmit e
    → GoesOn o (duty o p) (Enters (made e r text)) (duty o (enters_at p r text)) × IsServed o (enters_at p r text)
enters o p e r text h w =
    bring (IsEntered e r text) o p h (enters_now o.accounts p.flow.fed p.flow.talk p.flow.talk.phase p.stream p.front p.ahead p.owed e r text) h w

pub shorts : (o : Site) (p : Place) (e : Event) → IsServed o p → MayBeShort e → wish_of p.flow ≡ ToSubmit e
    → GoesOn o (duty o p) (Enters (short e)) (duty o (shorts_at p)) × IsServed o (shorts_at p)
shorts o p e h may w =
    bring (IsShorted e) o p h (shorts_now o.accounts p.flow.fed p.flow.talk p.flow.talk.phase p.stream p.front p.ahead p.owed e) h may w

pub fits : (o : Site) (p : Place) (e : Event) → IsServed o p → wish_of p.flow ≡ ToSubmit e → IsFitAt o.line e
fits o p e h w =
    subst (λ (line : ℕ). IsFitAt line e) h.line
    (meets_now p.flow.talk p.flow.talk.phase e (subst (λ (line : ℕ). IsFit line p.flow.talk.event) (sym h.line) h.event_fits) w)

pub enters_due : (o : Site) (p : Place) (e : Event) → wish_of p.flow ≡ ToSubmit e → enters_next (duty o p).due ≡ true
enters_due o p e w = enters_due_now o p.flow.talk p.flow.talk.phase p.stream p.front p.ahead p.owed e w

pub draws : (o : Site) (p : Place) (dice : List ℕ) → IsServed o p → length dice ≡ 18 → wish_of p.flow ≡ ToDraw
    → GoesOn o (duty o p) (Draws dice) (duty o (gives_at p dice)) × IsServed o (gives_at p dice)
draws o p dice h long w =
    bring (IsDrawn dice) o p h (draws_now o.accounts p.flow.fed p.flow.talk p.flow.talk.phase p.stream p.front p.ahead p.owed dice) h long w

pub draws_due : (o : Site) (p : Place) → IsServed o p → wish_of p.flow ≡ ToDraw → draws_next (duty o p).due ≡ true
draws_due o p h w = draws_due_now o p.flow.talk p.flow.talk.phase p.stream p.front p.ahead p.owed h.loaded w

pub ends : (o : Site) (p : Place) (x : Ended) → wish_of p.flow ≡ ToFinish x → (duty o p).due ≡ Leaves x ∷ []
ends o p x w = ends_now o p.flow.talk p.flow.talk.phase p.stream p.front p.ahead p.owed x w

pub goes : (o : Site) (p : Place) → IsGoing p.flow.talk p.flow.talk.phase → goes_on (duty o p).due ≡ true
goes o p going = goes_on_now o p.flow.talk p.flow.talk.phase p.stream p.front p.ahead p.owed going

pub over : (o : Site) (p : Place) (x : Ended) → IsServed o p → wish_of p.flow ≡ ToFinish x
    → (duty o (ends_at p) ≡ duty o p) × IsServed o (ends_at p) × (wish_of (ends_at p).flow ≡ ToFinish x)
over o p x h w = bring (IsOver x) o p h (overs_now o.accounts p.flow.fed p.flow.talk p.flow.talk.phase p.stream p.front p.ahead p.owed x) h w

-- a flow that doesn't want its end goes on
pub wants_on : (o : Site) (p : Place) → ((x : Ended) → wish_of p.flow ≡ ToFinish x → ⊥) → goes_on (duty o p).due ≡ true
wants_on o p none = goes o p (going_now p.flow.talk p.flow.talk.phase none)
