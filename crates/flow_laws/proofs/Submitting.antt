-- What a flow submits is due, whatever the house answers.
use Rattle.std.proofs.Common.{◌≡◌, ℕ, List, [], refl, sym, ap, subst, true, Option, Some, None, ◌∙◌}
use Rattle.std.proofs.lemmas.List.{append-nil}
use Rattle.stream_frames.specs.Fed.{Fed}
use Rattle.account_book.specs.Lists.{Book}
use Rattle.house_model.specs.Histories.{MayBeShort, short}
use Rattle.house_model.specs.declared.event.Event.{Event}
use Rattle.house_model.specs.declared.reply.Reply.{Reply}
use Rattle.conn_asks.specs.Texts.{failure_text}
use Rattle.conn_flow.specs.declared.phase.Phase.{Phase}
use Rattle.conn_flow.specs.declared.phase.Phase.TheVariants.{Resting, Heard, Saying, Refusing, Drawing, Drawn, Entering, Entered, LoggingIn}
use Rattle.conn_flow.specs.declared.phase.Phase.TheVariants.{LoggedIn, PullingOnce, Pulling, Sweeping, Parting, Left}
use Rattle.conn_flow.specs.declared.talk.Talk.{Talk}
use Rattle.conn_flow.specs.Moves.{Enters}
use Rattle.conn_flow.specs.Duties.{Site, Due, answered, followed, pulled, pulled_once, swept}
use Rattle.conn_flow.specs.Following.{GoesOn, enters_next, rest_due}
use Rattle.conn_flow.specs.Flows.{ToAwait, ToDraw, ToFinish, ToSay, ToSubmit, event_wish, last_text, login_wish, wish, wish_of}
use Rattle.flow_laws.specs.Standing.{IsFit, IsFitAt, IsServed, Place, duty, duty_at, event_due, idle, known, login_due}
use Rattle.flow_laws.specs.Steps.{enters_at, shorts_at}
use Rattle.flow_laws.proofs.Places.{place, served, site, stands, with_event}
use Rattle.flow_laws.proofs.Answering.{IsEntered, entering, last_submits_none, logging, once_due, once_served, pulling_due, pulling_served, same_event}

pub enters_now : (a : Book) (f : Fed) (s : Talk) (p : Phase) (stream front ahead owed : List ℕ) (e : Event) (r : Reply) (text : List ℕ)
    → IsEntered e r text (site s a) (place f s p stream front ahead owed)
enters_now a f s Entering stream front ahead owed e r text h w = entering a f s stream front ahead owed s.event e r text h w
enters_now a f s LoggingIn stream front ahead owed e r text h w = logging a f s stream front ahead owed s.user e r text h w
enters_now a f s PullingOnce stream front ahead owed e r text h w = (
  (
    pulled_once (site s a) (duty (site s a) (place f s PullingOnce stream front ahead owed)) (Some r) (rest_due ahead),
    (same_event w, refl),
    once_due a f s stream front ahead owed text r h.more,
  ),
  once_served a f s stream front ahead owed text r h,
)
enters_now a f s Pulling stream front ahead owed e r text h w = (
  (
    pulled (site s a) (duty (site s a) (place f s Pulling stream front ahead owed)) (Some r),
    (same_event w, refl),
    pulling_due a f s stream front ahead owed text r h.all,
  ),
  pulling_served a f s stream front ahead owed text r h,
)
enters_now a f s Sweeping stream front ahead owed e r text h w = (
  (swept (duty (site s a) (place f s Sweeping stream front ahead owed)) (Some r), (same_event w, refl), refl),
  served (site s a) (enters_at (place f s Sweeping stream front ahead owed) r text) (stands (site s a) (place f s Sweeping stream front ahead owed) h)
      (record { told = tt; loaded = tt; read = h.read; all = h.all }),
)
enters_now a f s Resting stream front ahead owed e r text h w = absurd (let k : ToAwait ≡ ToSubmit e = w in cc)
enters_now a f s Heard stream front ahead owed e r text h w = absurd (let k : ToAwait ≡ ToSubmit e = w in cc)
enters_now a f s Saying stream front ahead owed e r text h w = absurd (let k : ToSay s.text ≡ ToSubmit e = w in cc)
enters_now a f s (Refusing fail) stream front ahead owed e r text h w = absurd (let k : ToSay (failure_text fail) ≡ ToSubmit e = w in cc)
enters_now a f s Drawing stream front ahead owed e r text h w = absurd (let k : ToDraw ≡ ToSubmit e = w in cc)
enters_now a f s (Drawn dice) stream front ahead owed e r text h w = absurd (let k : ToAwait ≡ ToSubmit e = w in cc)
enters_now a f s (Entered pulls) stream front ahead owed e r text h w = absurd (let k : ToAwait ≡ ToSubmit e = w in cc)
enters_now a f s LoggedIn stream front ahead owed e r text h w = absurd (let k : ToAwait ≡ ToSubmit e = w in cc)
enters_now a f s (Parting x) stream front ahead owed e r text h w = absurd (last_submits_none (last_text s x) x e w)
enters_now a f s (Left x) stream front ahead owed e r text h w = absurd (let k : ToFinish x ≡ ToSubmit e = w in cc)

-- The house found no memory.

abbrev pub IsShorted : Event → Site → Place → Type 0
IsShorted e o p =
    IsServed o p → MayBeShort e → wish_of p.flow ≡ ToSubmit e
    → GoesOn o (duty o p) (Enters (short e)) (duty o (shorts_at p)) × IsServed o (shorts_at p)

short_entering : (a : Book) (f : Fed) (s : Talk) (stream front ahead owed : List ℕ) (x : Option Event) (e : Event)
    → IsShorted e (site s a) (place f (record s { event = x }) Entering stream front ahead owed)
short_entering a f s stream front ahead owed None e h m w = absurd h.loaded
short_entering a f s stream front ahead owed (Some x) e h m w =
    let p : Place = place f (record s { event = Some x }) Entering stream front ahead owed in (
      (
        answered (site s a) (duty (site s a) p) None (followed x (rest_due ahead)),
        (same_event w, refl),
        ap (λ (y : List ℕ). record (answered (site s a) (duty (site s a) p) None (followed x (rest_due ahead))) { owed = y }) (sym (append-nil owed)),
      ),
      served (site s a) (shorts_at p) (with_event (site s a) f (record s { event = Some x }) ahead None tt (stands (site s a) p h))
          (record { told = tt; loaded = tt; read = tt; all = tt }),
    )

no_short_login : (line : ℕ) (user : Option (List ℕ)) (e : Event) → MayBeShort e → login_wish line user ≡ ToSubmit e → ⊥
no_short_login line (Some user) e m w = subst MayBeShort (same_event w) m
no_short_login line None e m w = let k : ToAwait ≡ ToSubmit e = w in cc

pub shorts_now : (a : Book) (f : Fed) (s : Talk) (p : Phase) (stream front ahead owed : List ℕ) (e : Event)
    → IsShorted e (site s a) (place f s p stream front ahead owed)
shorts_now a f s Entering stream front ahead owed e h m w = short_entering a f s stream front ahead owed s.event e h m w
shorts_now a f s LoggingIn stream front ahead owed e h m w = absurd (no_short_login s.line s.user e m w)
shorts_now a f s PullingOnce stream front ahead owed e h m w = absurd (subst MayBeShort (same_event w) m)
shorts_now a f s Pulling stream front ahead owed e h m w = absurd (subst MayBeShort (same_event w) m)
shorts_now a f s Sweeping stream front ahead owed e h m w = (
  (
    swept (duty (site s a) (place f s Sweeping stream front ahead owed)) None,
    (same_event w, refl),
    ap (λ (x : List ℕ). known s stream owed (idle x)) h.all ∙ ap (λ (x : List ℕ). known s stream x []) (sym (append-nil owed)),
  ),
  served (site s a) (shorts_at (place f s Sweeping stream front ahead owed)) (stands (site s a) (place f s Sweeping stream front ahead owed) h)
      (record { told = tt; loaded = tt; read = h.read; all = tt }),
)
shorts_now a f s Resting stream front ahead owed e h m w = absurd (let k : ToAwait ≡ ToSubmit e = w in cc)
shorts_now a f s Heard stream front ahead owed e h m w = absurd (let k : ToAwait ≡ ToSubmit e = w in cc)
shorts_now a f s Saying stream front ahead owed e h m w = absurd (let k : ToSay s.text ≡ ToSubmit e = w in cc)
shorts_now a f s (Refusing fail) stream front ahead owed e h m w = absurd (let k : ToSay (failure_text fail) ≡ ToSubmit e = w in cc)
shorts_now a f s Drawing stream front ahead owed e h m w = absurd (let k : ToDraw ≡ ToSubmit e = w in cc)
shorts_now a f s (Drawn dice) stream front ahead owed e h m w = absurd (let k : ToAwait ≡ ToSubmit e = w in cc)
shorts_now a f s (Entered pulls) stream front ahead owed e h m w = absurd (let k : ToAwait ≡ ToSubmit e = w in cc)
shorts_now a f s LoggedIn stream front ahead owed e h m w = absurd (let k : ToAwait ≡ ToSubmit e = w in cc)
shorts_now a f s (Parting x) stream front ahead owed e h m w = absurd (last_submits_none (last_text s x) x e w)
shorts_now a f s (Left x) stream front ahead owed e h m w = absurd (let k : ToFinish x ≡ ToSubmit e = w in cc)

-- What is submitted meets the conditions of the house.

meets_event : (line : ℕ) (x : Option Event) (e : Event) → IsFit line x → event_wish x ≡ ToSubmit e → IsFitAt line e
meets_event line (Some x) e fits w = subst (IsFitAt line) (sym (same_event w)) fits
meets_event line None e fits w = absurd (let k : ToAwait ≡ ToSubmit e = w in cc)

meets_login : (line : ℕ) (user : Option (List ℕ)) (e : Event) → login_wish line user ≡ ToSubmit e → IsFitAt line e
meets_login line (Some user) e w = subst (IsFitAt line) (sym (same_event w)) (tt, refl)
meets_login line None e w = absurd (let k : ToAwait ≡ ToSubmit e = w in cc)

pub meets_now : (s : Talk) (p : Phase) (e : Event) → IsFit s.line s.event → wish s p ≡ ToSubmit e → IsFitAt s.line e
meets_now s Entering e fits w = meets_event s.line s.event e fits w
meets_now s LoggingIn e fits w = meets_login s.line s.user e w
meets_now s PullingOnce e fits w = subst (IsFitAt s.line) (sym (same_event w)) (tt, refl)
meets_now s Pulling e fits w = subst (IsFitAt s.line) (sym (same_event w)) (tt, refl)
meets_now s Sweeping e fits w = subst (IsFitAt s.line) (sym (same_event w)) (tt, refl)
meets_now s Resting e fits w = absurd (let k : ToAwait ≡ ToSubmit e = w in cc)
meets_now s Heard e fits w = absurd (let k : ToAwait ≡ ToSubmit e = w in cc)
meets_now s Saying e fits w = absurd (let k : ToSay s.text ≡ ToSubmit e = w in cc)
meets_now s (Refusing fail) e fits w = absurd (let k : ToSay (failure_text fail) ≡ ToSubmit e = w in cc)
meets_now s Drawing e fits w = absurd (let k : ToDraw ≡ ToSubmit e = w in cc)
meets_now s (Drawn dice) e fits w = absurd (let k : ToAwait ≡ ToSubmit e = w in cc)
meets_now s (Entered pulls) e fits w = absurd (let k : ToAwait ≡ ToSubmit e = w in cc)
meets_now s LoggedIn e fits w = absurd (let k : ToAwait ≡ ToSubmit e = w in cc)
meets_now s (Parting x) e fits w = absurd (last_submits_none (last_text s x) x e w)
meets_now s (Left x) e fits w = absurd (let k : ToFinish x ≡ ToSubmit e = w in cc)

-- An event is due.

next_event : (x : Option Event) (rest : List Due) (e : Event) → event_wish x ≡ ToSubmit e → enters_next (event_due x rest) ≡ true
next_event (Some x) rest e w = refl
next_event None rest e w = absurd (let k : ToAwait ≡ ToSubmit e = w in cc)

next_login : (line : ℕ) (user : Option (List ℕ)) (text : List ℕ) (rest : List Due) (e : Event) → login_wish line user ≡ ToSubmit e
    → enters_next (login_due user text rest) ≡ true
next_login line (Some user) text rest e w = refl
next_login line None text rest e w = absurd (let k : ToAwait ≡ ToSubmit e = w in cc)

pub enters_due_now : (o : Site) (s : Talk) (p : Phase) (stream front ahead owed : List ℕ) (e : Event) → wish s p ≡ ToSubmit e
    → enters_next (duty_at o s stream front ahead owed p).due ≡ true
enters_due_now o s Entering stream front ahead owed e w = next_event s.event (rest_due ahead) e w
enters_due_now o s LoggingIn stream front ahead owed e w = next_login s.line s.user s.text (rest_due ahead) e w
enters_due_now o s PullingOnce stream front ahead owed e w = refl
enters_due_now o s Pulling stream front ahead owed e w = refl
enters_due_now o s Sweeping stream front ahead owed e w = refl
enters_due_now o s Resting stream front ahead owed e w = absurd (let k : ToAwait ≡ ToSubmit e = w in cc)
enters_due_now o s Heard stream front ahead owed e w = absurd (let k : ToAwait ≡ ToSubmit e = w in cc)
enters_due_now o s Saying stream front ahead owed e w = absurd (let k : ToSay s.text ≡ ToSubmit e = w in cc)
enters_due_now o s (Refusing fail) stream front ahead owed e w = absurd (let k : ToSay (failure_text fail) ≡ ToSubmit e = w in cc)
enters_due_now o s Drawing stream front ahead owed e w = absurd (let k : ToDraw ≡ ToSubmit e = w in cc)
enters_due_now o s (Drawn dice) stream front ahead owed e w = absurd (let k : ToAwait ≡ ToSubmit e = w in cc)
enters_due_now o s (Entered pulls) stream front ahead owed e w = absurd (let k : ToAwait ≡ ToSubmit e = w in cc)
enters_due_now o s LoggedIn stream front ahead owed e w = absurd (let k : ToAwait ≡ ToSubmit e = w in cc)
enters_due_now o s (Parting x) stream front ahead owed e w = absurd (last_submits_none (last_text s x) x e w)
enters_due_now o s (Left x) stream front ahead owed e w = absurd (let k : ToFinish x ≡ ToSubmit e = w in cc)
