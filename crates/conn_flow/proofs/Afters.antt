-- What a flow waits for after a want.
use Rattle.std.proofs.Common.{◌≡◌, ℕ, List, Bool, true, false, Option, Some, None, Result, Ok, Err, IfOk, refl, sym, subst, ◌∙◌, ap, if◌then◌else◌, nat_lt}
use Rattle.account_book.specs.Lists.{Book}
use Rattle.house_model.specs.declared.event.Event.{Event}
use Rattle.house_model.specs.declared.event.Event.TheVariants as event
use Rattle.stream_grammar.specs.machine.Reading.{waiting}
use Rattle.stream_grammar.specs.declared.item.Item.{Item}
use Rattle.conn_asks.specs.declared.asked.Asked.{Asked}
use Rattle.conn_asks.specs.declared.asked.Asked.TheVariants as asked
use Rattle.conn_asks.specs.declared.ended.Ended.{Ended}
use Rattle.conn_asks.specs.declared.ended.Ended.TheVariants as ended
use Rattle.conn_asks.specs.declared.stage.Purpose.{Purpose}
use Rattle.conn_asks.specs.declared.stage.Purpose.TheVariants.{Challenge, Bind, Enable}
use Rattle.conn_asks.specs.Texts.{failure_text}
use Rattle.conn_flow.specs.declared.phase.Phase.{Phase}
use Rattle.conn_flow.specs.declared.phase.Phase.TheVariants.{Resting, Heard, Saying, Refusing, Drawing, Drawn, Entering, Entered, LoggingIn}
use Rattle.conn_flow.specs.declared.phase.Phase.TheVariants.{LoggedIn, PullingOnce, Pulling, Sweeping, Parting, Left}
use Rattle.conn_flow.specs.declared.talk.Talk.{Talk}
use Rattle.conn_flow.specs.declared.want.Want.{Want}
use Rattle.conn_flow.specs.declared.want.Want.TheVariants.{Say, Submit, NeedDice, Await, Finish}
use Rattle.conn_flow.specs.Flows.{IsAfter, IsLoaded, IsThere, IsTold, IsToldAll, Prepares, State, Takes, ToAwait, ToDraw}
use Rattle.conn_flow.specs.Flows.{ToFinish, ToSay, ToSubmit, Wants, Wish, asked_by, counted, drawn_if, event_wish, handled_phase}
use Rattle.conn_flow.specs.Flows.{last_text, login_wish, parting_wish, wish, wish_of, wished}

-- none of these is the wait for more
abbrev Speaks : Wish → Type 0
Speaks wish = wish ≡ ToAwait → ⊥

says : (text : List ℕ) → Speaks (ToSay text)
says text e = absurd cc

submits : (e : Event) → Speaks (ToSubmit e)
submits x e = absurd cc

draws : Speaks ToDraw
draws e = absurd cc

finishes : (x : Ended) → Speaks (ToFinish x)
finishes x e = absurd cc

parts : (text : Option (List ℕ)) (x : Ended) → Speaks (parting_wish text x)
parts (Some text) x = says text
parts None x = finishes x

enters : (e : Option Event) → IsThere e → Speaks (event_wish e)
enters (Some e) there = submits e
enters None there = absurd there

logs_in : (w : ℕ) (user : Option (List ℕ)) → IsThere user → Speaks (login_wish w user)
logs_in w (Some user) there = submits (event.Login w user)
logs_in w None there = absurd there

asked_speaks : (s : Talk) (a : Asked) → Speaks (wish (asked_by s a) (asked_by s a).phase)
asked_speaks s asked.Header = says _
asked_speaks s (asked.Invite m) = says _
asked_speaks s (asked.Fail f) = says _
asked_speaks s (asked.LogIn user success) = submits _
asked_speaks s (asked.Draw purpose) = draws
asked_speaks s (asked.RefuseResource id) = says _
asked_speaks s (asked.Submit e) = submits e
asked_speaks s (asked.End x) = parts (last_text (asked_by s (asked.End x)) x) x

drawn_speaks : (accounts : Book) (s : Talk) (dice : List ℕ) (purpose : Option Purpose) → IsThere purpose
    → Speaks (wish (drawn_if accounts s dice purpose) (drawn_if accounts s dice purpose).phase)
drawn_speaks accounts s dice (Some (Challenge m first)) there = says _
drawn_speaks accounts s dice (Some (Bind id resource)) there = submits _
drawn_speaks accounts s dice (Some (Enable resume)) there = submits _
drawn_speaks accounts s dice None there = absurd there

takes_speaks : (s : Talk) (i : Option Item) (s' : Talk) → Takes s i s' → Speaks (wish s' s'.phase)
takes_speaks s (Some i) s' takes = subst (λ (x : Talk). Speaks (wish x x.phase)) (sym takes.2) (asked_speaks (counted s) takes.0)
takes_speaks s None s' takes = subst (λ (x : Talk). Speaks (wish x x.phase)) (sym takes) (submits _)

same_wish : (s mid : State) (p : Phase) → s.talk.phase ≡ p → mid ≡ s → wish_of mid ≡ wish s.talk p
same_wish s mid p at is = ap wish_of is ∙ ap (wish s.talk) at

-- nothing was handled first, and the flow speaks
stays : (s mid : State) (p : Phase) → s.talk.phase ≡ p → mid ≡ s → Speaks (wish s.talk p) → Speaks (wish_of mid)
stays s mid p at is speaks = subst Speaks (sym (same_wish s mid p at is)) speaks

awaits_at : (accounts : Book) (s mid : State) (p : Phase) → s.talk.phase ≡ p → IsToldAll p → IsLoaded s.talk p → Prepares accounts s p mid
    → wish_of mid ≡ ToAwait → s.talk.phase ≡ Resting
awaits_at accounts s mid Resting at told loaded prepares w = at
awaits_at accounts s mid Heard at told loaded prepares w = absurd (takes_speaks s.talk (waiting s.fed.reading) mid.talk prepares.0 w)
awaits_at accounts s mid (Drawn dice) at told loaded prepares w =
    absurd (subst (λ (x : Talk). Speaks (wish x x.phase)) (sym prepares.0) (drawn_speaks accounts s.talk dice s.talk.purpose loaded) w)
awaits_at accounts s mid (Entered pulls) at told loaded prepares w = absurd told
awaits_at accounts s mid LoggedIn at told loaded prepares w = absurd told
awaits_at accounts s mid Saying at told loaded prepares w = absurd (stays s mid Saying at prepares (says s.talk.text) w)
awaits_at accounts s mid (Refusing f) at told loaded prepares w = absurd (stays s mid (Refusing f) at prepares (says (failure_text f)) w)
awaits_at accounts s mid Drawing at told loaded prepares w = absurd (stays s mid Drawing at prepares draws w)
awaits_at accounts s mid Entering at told loaded prepares w = absurd (stays s mid Entering at prepares (enters s.talk.event loaded) w)
awaits_at accounts s mid LoggingIn at told loaded prepares w = absurd (stays s mid LoggingIn at prepares (logs_in s.talk.line s.talk.user loaded) w)
awaits_at accounts s mid PullingOnce at told loaded prepares w = absurd (stays s mid PullingOnce at prepares (submits (event.Pull s.talk.line s.talk.moment)) w)
awaits_at accounts s mid Pulling at told loaded prepares w = absurd (stays s mid Pulling at prepares (submits (event.Pull s.talk.line s.talk.moment)) w)
awaits_at accounts s mid Sweeping at told loaded prepares w = absurd (stays s mid Sweeping at prepares (submits (event.Sweep s.talk.line s.talk.moment)) w)
awaits_at accounts s mid (Parting x) at told loaded prepares w = absurd (stays s mid (Parting x) at prepares (parts (last_text s.talk x) x) w)
awaits_at accounts s mid (Left x) at told loaded prepares w = absurd (stays s mid (Left x) at prepares (finishes x) w)

pub awaits : (accounts : Book) (s mid : State) → IsLoaded s.talk s.talk.phase → Prepares accounts s s.talk.phase mid → wish_of mid ≡ ToAwait
    → IsToldAll s.talk.phase → s.talk.phase ≡ Resting
awaits accounts s mid loaded prepares w told = awaits_at accounts s mid s.talk.phase refl told loaded prepares w

-- a flow that rests handles nothing first
pub rests_on : (accounts : Book) (s mid : State) → Prepares accounts s s.talk.phase mid → s.talk.phase ≡ Resting → mid ≡ s
rests_on accounts s mid prepares rest = subst (λ (p : Phase). Prepares accounts s p mid) rest prepares

-- what was submitted has a reply to come
no_event : (text : List ℕ) (e : Event) → ToSay text ≡ ToSubmit e → ⊥
no_event text e w = cc

no_end : (text : Option (List ℕ)) (x : Ended) (e : Event) → parting_wish text x ≡ ToSubmit e → ⊥
no_end (Some text) x e w = cc
no_end None x e w = cc

submitted : (s : Talk) (p : Phase) (e : Event) → s.phase ≡ p → wish s p ≡ ToSubmit e → IsTold (wished s p).phase
submitted s Entering e at w = tt
submitted s LoggingIn e at w = tt
submitted s PullingOnce e at w = subst IsTold (sym at) tt
submitted s Pulling e at w = subst IsTold (sym at) tt
submitted s Sweeping e at w = subst IsTold (sym at) tt
submitted s Saying e at w = absurd (no_event s.text e w)
submitted s (Refusing f) e at w = absurd (no_event (failure_text f) e w)
submitted s Drawing e at w = absurd (let d : ToDraw ≡ ToSubmit e = w in cc)
submitted s (Parting x) e at w = absurd (no_end (last_text s x) x e w)
submitted s (Left x) e at w = absurd (let d : ToFinish x ≡ ToSubmit e = w in cc)
submitted s Resting e at w = absurd (let d : ToAwait ≡ ToSubmit e = w in cc)
submitted s Heard e at w = absurd (let d : ToAwait ≡ ToSubmit e = w in cc)
submitted s (Drawn dice) e at w = absurd (let d : ToAwait ≡ ToSubmit e = w in cc)
submitted s (Entered pulls) e at w = absurd (let d : ToAwait ≡ ToSubmit e = w in cc)
submitted s LoggedIn e at w = absurd (let d : ToAwait ≡ ToSubmit e = w in cc)

pub no_draw_event : (e : Option Event) → event_wish e ≡ ToDraw → ⊥
no_draw_event (Some e) w = cc
no_draw_event None w = cc

pub no_draw_login : (w : ℕ) (user : Option (List ℕ)) → login_wish w user ≡ ToDraw → ⊥
no_draw_login n (Some user) w = cc
no_draw_login n None w = cc

pub no_draw_end : (text : Option (List ℕ)) (x : Ended) → parting_wish text x ≡ ToDraw → ⊥
no_draw_end (Some text) x w = cc
no_draw_end None x w = cc

needs : (s : Talk) (p : Phase) → s.phase ≡ p → wish s p ≡ ToDraw → (wished s p).phase ≡ Drawing
needs s Drawing at w = at
needs s Entering at w = absurd (no_draw_event s.event w)
needs s LoggingIn at w = absurd (no_draw_login s.line s.user w)
needs s PullingOnce at w = absurd (let d : ToSubmit (event.Pull s.line s.moment) ≡ ToDraw = w in cc)
needs s Pulling at w = absurd (let d : ToSubmit (event.Pull s.line s.moment) ≡ ToDraw = w in cc)
needs s Sweeping at w = absurd (let d : ToSubmit (event.Sweep s.line s.moment) ≡ ToDraw = w in cc)
needs s Saying at w = absurd (let d : ToSay s.text ≡ ToDraw = w in cc)
needs s (Refusing f) at w = absurd (let d : ToSay (failure_text f) ≡ ToDraw = w in cc)
needs s (Parting x) at w = absurd (no_draw_end (last_text s x) x w)
needs s (Left x) at w = absurd (let d : ToFinish x ≡ ToDraw = w in cc)
needs s Resting at w = absurd (let d : ToAwait ≡ ToDraw = w in cc)
needs s Heard at w = absurd (let d : ToAwait ≡ ToDraw = w in cc)
needs s (Drawn dice) at w = absurd (let d : ToAwait ≡ ToDraw = w in cc)
needs s (Entered pulls) at w = absurd (let d : ToAwait ≡ ToDraw = w in cc)
needs s LoggedIn at w = absurd (let d : ToAwait ≡ ToDraw = w in cc)

-- after a text no event waits for its reply
handled_told : (more : Bool) → IsToldAll (handled_phase more)
handled_told true = tt
handled_told false = tt

refused_told : (few more : Bool) (x : Ended) → IsToldAll (if few then handled_phase more else Parting x)
refused_told true more x = handled_told more
refused_told false more x = tt

pub no_event_text : (e : Option Event) (text : List ℕ) → event_wish e ≡ ToSay text → ⊥
no_event_text (Some e) text w = cc
no_event_text None text w = cc

pub no_login_text : (n : ℕ) (user : Option (List ℕ)) (text : List ℕ) → login_wish n user ≡ ToSay text → ⊥
no_login_text n (Some user) text w = cc
no_login_text n None text w = cc

said : (s : Talk) (p : Phase) (text : List ℕ) → wish s p ≡ ToSay text → IsToldAll (wished s p).phase
said s Saying text w = handled_told s.more
said s (Refusing f) text w = refused_told (nat_lt s.failures 3) s.more ended.ThirdFailure
said s (Parting x) text w = tt
said s Entering text w = absurd (no_event_text s.event text w)
said s LoggingIn text w = absurd (no_login_text s.line s.user text w)
said s Drawing text w = absurd (let d : ToDraw ≡ ToSay text = w in cc)
said s PullingOnce text w = absurd (let d : ToSubmit (event.Pull s.line s.moment) ≡ ToSay text = w in cc)
said s Pulling text w = absurd (let d : ToSubmit (event.Pull s.line s.moment) ≡ ToSay text = w in cc)
said s Sweeping text w = absurd (let d : ToSubmit (event.Sweep s.line s.moment) ≡ ToSay text = w in cc)
said s (Left x) text w = absurd (let d : ToFinish x ≡ ToSay text = w in cc)
said s Resting text w = absurd (let d : ToAwait ≡ ToSay text = w in cc)
said s Heard text w = absurd (let d : ToAwait ≡ ToSay text = w in cc)
said s (Drawn dice) text w = absurd (let d : ToAwait ≡ ToSay text = w in cc)
said s (Entered pulls) text w = absurd (let d : ToAwait ≡ ToSay text = w in cc)
said s LoggedIn text w = absurd (let d : ToAwait ≡ ToSay text = w in cc)

-- what the flow waits for after each want
pub waits_after : (accounts : Book) (s : State) (want : Want) (s' : State) → IsLoaded s.talk s.talk.phase → Wants accounts s want s'
    → IsAfter s.talk.phase want s'.talk.phase
waits_after accounts s (Say text) s' loaded h =
    subst (λ (x : State). IsToldAll x.talk.phase) (sym h.3) (said h.0.talk h.0.talk.phase text.items h.2)
waits_after accounts s (Finish x) s' loaded h = tt
waits_after accounts s (Submit e) s' loaded h =
    subst (λ (x : State). IsTold x.talk.phase) (sym h.3) (submitted h.0.talk h.0.talk.phase e refl h.2)
waits_after accounts s NeedDice s' loaded h =
    subst (λ (x : State). x.talk.phase ≡ Drawing) (sym h.3) (needs h.0.talk h.0.talk.phase refl h.2)
waits_after accounts s Await s' loaded h = λ told.
    let was : s.talk.phase ≡ Resting = awaits accounts s h.0 loaded h.1 h.2 told in
    let rest : h.0.talk.phase ≡ Resting = ap (λ (x : State). x.talk.phase) (rests_on accounts s h.0 h.1 was) ∙ was in
    subst (λ (x : State). x.talk.phase ≡ Resting) (sym h.3) (subst (λ (p : Phase). (wished h.0.talk p).phase ≡ Resting) (sym rest) rest)

pub waits_then : (accounts : Book) (s : State) {E : Type 0} (r : Result Want E) (s' : State) → IsLoaded s.talk s.talk.phase
    → IfOk r (λ (want : Want). Wants accounts s want s') → IfOk r (λ (want : Want). IsAfter s.talk.phase want s'.talk.phase)
waits_then accounts s (Ok want) s' loaded h = waits_after accounts s want s' loaded h
waits_then accounts s (Err e) s' loaded h = tt
