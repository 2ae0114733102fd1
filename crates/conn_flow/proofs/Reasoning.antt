-- Why a flow wants what it wants.
use Rattle.std.proofs.Common.{◌≡◌, ℕ, List, Bool, true, false, Option, Some, None, refl, sym, subst, ◌∙◌, ap, inl, inr, if◌then◌else◌, nat_lt}
use Rattle.std.specs.Prelude.{◌↔◌}
use Rattle.account_book.specs.Lists.{Book}
use Rattle.house_model.specs.declared.event.Event.TheVariants as event
use Rattle.stream_grammar.specs.machine.Reading.{Reading, is_ready, waiting}
use Rattle.stream_grammar.specs.declared.item.Item.{Item}
use Rattle.conn_asks.specs.declared.asked.Asked.{Asked}
use Rattle.conn_asks.specs.declared.asked.Asked.TheVariants as asked
use Rattle.conn_asks.specs.declared.ended.Ended.{Ended}
use Rattle.conn_asks.specs.declared.ended.Ended.TheVariants as ended
use Rattle.conn_asks.specs.declared.stage.Purpose.{Purpose}
use Rattle.conn_asks.specs.declared.stage.Purpose.TheVariants.{Challenge, Bind, Enable}
use Rattle.conn_asks.specs.Texts.{failure_text}
use Rattle.conn_asks.specs.Asking.{Asks}
use Rattle.conn_flow.specs.declared.phase.Phase.{Phase}
use Rattle.conn_flow.specs.declared.phase.Phase.TheVariants.{Resting, Heard, Saying, Refusing, Drawing, Drawn, Entering, Entered, LoggingIn}
use Rattle.conn_flow.specs.declared.phase.Phase.TheVariants.{LoggedIn, PullingOnce, Pulling, Sweeping, Parting, Left}
use Rattle.conn_flow.specs.declared.talk.Talk.{Talk}
use Rattle.conn_flow.specs.declared.want.Want.{Want}
use Rattle.conn_flow.specs.declared.want.Want.TheVariants.{Say, Submit, NeedDice, Await, Finish}
use Rattle.conn_flow.specs.Flows.{IsAfter, IsLoaded, IsReadyAt, IsThere, IsToldAll, IsWish, Prepares, State, Takes, ToAwait, ToDraw, ToFinish, ToSay}
use Rattle.conn_flow.specs.Flows.{ToSubmit, Wants, Wish, asked_by, counted, drawn_if, handled_phase, last_text}
use Rattle.conn_flow.specs.Flows.{wish, wish_of, wished}
use Rattle.conn_flow.specs.Reasons.{EndsBy, Finishes, FinishesOwn, IsIdle, IsOwnIf, NeedsDice, RestsBy, end_at}
use Rattle.conn_flow.proofs.Afters.{awaits, no_draw_end, no_draw_event, no_draw_login, no_event_text, no_login_text, rests_on, waits_after}
use Rattle.conn_flow.proofs.Ends.{ends_after, finishes_after, finishes_own, own_after}

-- A want is what is wished.

only_awaits : (want : Want) → IsWish want ToAwait → want ≡ Await
only_awaits Await is = refl
only_awaits (Say text) is = absurd (let d : ToAwait ≡ ToSay text.items = is in cc)
only_awaits (Submit e) is = absurd (let d : ToAwait ≡ ToSubmit e = is in cc)
only_awaits NeedDice is = absurd (let d : ToAwait ≡ ToDraw = is in cc)
only_awaits (Finish x) is = absurd (let d : ToAwait ≡ ToFinish x = is in cc)

only_draws : (want : Want) → IsWish want ToDraw → want ≡ NeedDice
only_draws NeedDice is = refl
only_draws (Say text) is = absurd (let d : ToDraw ≡ ToSay text.items = is in cc)
only_draws (Submit e) is = absurd (let d : ToDraw ≡ ToSubmit e = is in cc)
only_draws Await is = absurd (let d : ToDraw ≡ ToAwait = is in cc)
only_draws (Finish x) is = absurd (let d : ToDraw ≡ ToFinish x = is in cc)

-- Waiting.

ready_at : (p : Phase) (reading : Reading) → p ≡ Resting → IsReadyAt p reading → is_ready reading ≡ true
ready_at p reading rest ready = subst (λ (q : Phase). IsReadyAt q reading) rest ready

idle_of : (accounts : Book) (s mid : State) → IsLoaded s.talk s.talk.phase → IsReadyAt s.talk.phase s.fed.reading
    → Prepares accounts s s.talk.phase mid → wish_of mid ≡ ToAwait → IsToldAll s.talk.phase → IsIdle s
idle_of accounts s mid loaded ready prepares w told =
    let rest : s.talk.phase ≡ Resting = awaits accounts s mid loaded prepares w told in (rest, ready_at s.talk.phase s.fed.reading rest ready)

await_of : (accounts : Book) (s mid : State) (want : Want) → Prepares accounts s s.talk.phase mid → IsWish want (wish_of mid) → IsIdle s → want ≡ Await
await_of accounts s mid want prepares is idle =
    let same : mid ≡ s = rests_on accounts s mid prepares idle.0 in
    let w : wish_of mid ≡ ToAwait = ap wish_of same ∙ ap (λ (p : Phase). wish s.talk p) idle.0 in
    only_awaits want (subst (λ (y : Wish). IsWish want y) w is)

awaits_after : (accounts : Book) (s : State) (want : Want) (s' : State) → IsLoaded s.talk s.talk.phase → IsReadyAt s.talk.phase s.fed.reading
    → Wants accounts s want s' → IsToldAll s.talk.phase → (want ≡ Await) ↔ IsIdle s
awaits_after accounts s want s' loaded ready h told = (
  λ (is : want ≡ Await). idle_of accounts s h.0 loaded ready h.1 (subst (λ (y : Want). IsWish y (wish_of h.0)) is h.2) told,
  λ (idle : IsIdle s). await_of accounts s h.0 want h.1 h.2 idle,
)

-- After it nothing is to be done.

abbrev RestsAs : Talk → Phase → Wish → Type 0
RestsAs s p ToAwait = p ≡ Resting
RestsAs s p (ToSay text) = (s.more ≡ true) × (end_at s.phase ≡ None)
RestsAs s p w = ⊥

handled_more : (more : Bool) → handled_phase more ≡ Resting → more ≡ true
handled_more true is = refl
handled_more false is = absurd (let d : Pulling ≡ Resting = is in cc)

refused_more : (few more : Bool) (x : Ended) → (if few then handled_phase more else Parting x) ≡ Resting → more ≡ true
refused_more true more x is = handled_more more is
refused_more false more x is = absurd (let d : Parting x ≡ Resting = is in cc)

rests_as : (s : Talk) (p : Phase) → s.phase ≡ p → (wished s p).phase ≡ Resting → RestsAs (wished s p) p (wish s p)
rests_as s Resting at is = refl
rests_as s Heard at is = sym at ∙ is
rests_as s (Drawn dice) at is = sym at ∙ is
rests_as s (Entered pulls) at is = sym at ∙ is
rests_as s LoggedIn at is = sym at ∙ is
rests_as s Saying at is = (handled_more s.more is, ap (λ (q : Phase). end_at q) is)
rests_as s (Refusing f) at is = (refused_more (nat_lt s.failures 3) s.more ended.ThirdFailure is, ap (λ (q : Phase). end_at q) is)
rests_as s Entering at is = absurd (let d : (wished s Entering).phase ≡ Resting = is in cc)
rests_as s LoggingIn at is = absurd (let d : LoggedIn ≡ Resting = is in cc)
rests_as s (Parting x) at is = absurd (let d : Left x ≡ Resting = is in cc)
rests_as s Drawing at is = absurd (let d : Drawing ≡ Resting = sym at ∙ is in cc)
rests_as s PullingOnce at is = absurd (let d : PullingOnce ≡ Resting = sym at ∙ is in cc)
rests_as s Pulling at is = absurd (let d : Pulling ≡ Resting = sym at ∙ is in cc)
rests_as s Sweeping at is = absurd (let d : Sweeping ≡ Resting = sym at ∙ is in cc)
rests_as s (Left x) at is = absurd (let d : Left x ≡ Resting = sym at ∙ is in cc)

-- what rests once its item or its random bytes are handled awaited no reply
told_before : (accounts : Book) (s mid : State) (p : Phase) → s.talk.phase ≡ p → Prepares accounts s p mid → mid.talk.phase ≡ Resting → IsToldAll p
told_before accounts s mid Heard at prepares rest = tt
told_before accounts s mid (Drawn dice) at prepares rest = tt
told_before accounts s mid p at prepares rest =
    subst (λ (q : Phase). IsToldAll q) (sym rest ∙ ap (λ (x : State). x.talk.phase) (let same : mid ≡ s = prepares in same) ∙ at) tt

rests_by : (before : Phase) (s : Talk) (p : Phase) (want : Want) (w : Wish) → IsWish want w → RestsAs s p w → (p ≡ Resting → IsToldAll before)
    → RestsBy before s want
rests_by before s p Await w is h told = told (subst (λ (y : Wish). RestsAs s p y) is h)
rests_by before s p (Say text) w is h told = subst (λ (y : Wish). RestsAs s p y) is h
rests_by before s p (Submit e) w is h told = subst (λ (y : Wish). RestsAs s p y) is h
rests_by before s p NeedDice w is h told = subst (λ (y : Wish). RestsAs s p y) is h
rests_by before s p (Finish x) w is h told = subst (λ (y : Wish). RestsAs s p y) is h

rests_then : (accounts : Book) (s : State) (want : Want) (s' : State) → Wants accounts s want s' → s'.talk.phase ≡ Resting
    → RestsBy s.talk.phase s'.talk want
rests_then accounts s want s' h =
    subst (λ (x : State). x.talk.phase ≡ Resting → RestsBy s.talk.phase x.talk want) (sym h.3)
    (λ rest. rests_by s.talk.phase (wished h.0.talk h.0.talk.phase) h.0.talk.phase want (wish_of h.0) h.2
    (rests_as h.0.talk h.0.talk.phase refl rest) (told_before accounts s h.0 s.talk.phase refl h.1))

-- and back

abbrev IsSaid : Wish → Type 0
IsSaid (ToSay text) = Unit {0}
IsSaid w = ⊥

some_none : {x : Ended} → Some x ≡ None → ⊥
some_none is = cc

refused_rests : (few more : Bool) (x : Ended) → more ≡ true → end_at (if few then handled_phase more else Parting x) ≡ None
    → (if few then handled_phase more else Parting x) ≡ Resting
refused_rests true more x is none = ap handled_phase is
refused_rests false more x is none = absurd (some_none none)

said_rests : (s : Talk) (p : Phase) (text : List ℕ) → wish s p ≡ ToSay text → (wished s p).more ≡ true → end_at (wished s p).phase ≡ None
    → (wished s p).phase ≡ Resting
said_rests s Saying text w more none = ap handled_phase more
said_rests s (Refusing f) text w more none = refused_rests (nat_lt s.failures 3) s.more ended.ThirdFailure more none
said_rests s (Parting x) text w more none = absurd (some_none none)
said_rests s Entering text w more none = absurd (no_event_text s.event text w)
said_rests s LoggingIn text w more none = absurd (no_login_text s.line s.user text w)
said_rests s p text w more none = absurd (subst (λ (y : Wish). IsSaid y) (sym w) tt)

rests_back : (accounts : Book) (s : State) (want : Want) (s' : State) → Wants accounts s want s' → IsAfter s.talk.phase want s'.talk.phase
    → RestsBy s.talk.phase s'.talk want → s'.talk.phase ≡ Resting
rests_back accounts s Await s' h after told = after told
rests_back accounts s (Say text) s' h after said =
    subst (λ (x : State). RestsBy s.talk.phase x.talk (Say text) → x.talk.phase ≡ Resting) (sym h.3)
    (λ by. said_rests h.0.talk h.0.talk.phase text.items h.2 by.0 by.1) said
rests_back accounts s (Submit e) s' h after said = absurd said
rests_back accounts s NeedDice s' h after said = absurd said
rests_back accounts s (Finish x) s' h after said = absurd said

pub rests_after : (accounts : Book) (s : State) (want : Want) (s' : State) → Wants accounts s want s' → IsAfter s.talk.phase want s'.talk.phase
    → (s'.talk.phase ≡ Resting) ↔ RestsBy s.talk.phase s'.talk want
rests_after accounts s want s' h after = (
  λ (rest : s'.talk.phase ≡ Resting). rests_then accounts s want s' h rest,
  λ (by : RestsBy s.talk.phase s'.talk want). rests_back accounts s want s' h after by,
)

-- Random bytes.

abbrev IsDrawing : Phase → Type 0
IsDrawing Drawing = Unit {0}
IsDrawing p = ⊥

draws_only : (s : Talk) (p : Phase) → wish s p ≡ ToDraw → p ≡ Drawing
draws_only s Drawing w = refl
draws_only s Entering w = absurd (no_draw_event s.event w)
draws_only s LoggingIn w = absurd (no_draw_login s.line s.user w)
draws_only s (Parting x) w = absurd (no_draw_end (last_text s x) x w)
draws_only s PullingOnce w = absurd (let d : ToSubmit (event.Pull s.line s.moment) ≡ ToDraw = w in cc)
draws_only s Pulling w = absurd (let d : ToSubmit (event.Pull s.line s.moment) ≡ ToDraw = w in cc)
draws_only s Sweeping w = absurd (let d : ToSubmit (event.Sweep s.line s.moment) ≡ ToDraw = w in cc)
draws_only s Saying w = absurd (let d : ToSay s.text ≡ ToDraw = w in cc)
draws_only s (Refusing f) w = absurd (let d : ToSay (failure_text f) ≡ ToDraw = w in cc)
draws_only s (Left x) w = absurd (let d : ToFinish x ≡ ToDraw = w in cc)
draws_only s Resting w = absurd (let d : ToAwait ≡ ToDraw = w in cc)
draws_only s Heard w = absurd (let d : ToAwait ≡ ToDraw = w in cc)
draws_only s (Drawn dice) w = absurd (let d : ToAwait ≡ ToDraw = w in cc)
draws_only s (Entered pulls) w = absurd (let d : ToAwait ≡ ToDraw = w in cc)
draws_only s LoggedIn w = absurd (let d : ToAwait ≡ ToDraw = w in cc)

draw_of : (s : Talk) (a : Asked) → (asked_by s a).phase ≡ Drawing → (purpose : Purpose) × (a ≡ asked.Draw purpose)
draw_of s (asked.Draw purpose) is = (purpose, refl)
draw_of s asked.Header is = absurd (subst (λ (q : Phase). IsDrawing q) (sym is) tt)
draw_of s (asked.Invite m) is = absurd (subst (λ (q : Phase). IsDrawing q) (sym is) tt)
draw_of s (asked.Fail f) is = absurd (subst (λ (q : Phase). IsDrawing q) (sym is) tt)
draw_of s (asked.LogIn user success) is = absurd (subst (λ (q : Phase). IsDrawing q) (sym is) tt)
draw_of s (asked.RefuseResource id) is = absurd (subst (λ (q : Phase). IsDrawing q) (sym is) tt)
draw_of s (asked.Submit e) is = absurd (subst (λ (q : Phase). IsDrawing q) (sym is) tt)
draw_of s (asked.End x) is = absurd (subst (λ (q : Phase). IsDrawing q) (sym is) tt)

drawn_no_more : (accounts : Book) (s : Talk) (dice : List ℕ) (x : Option Purpose) → IsThere x → (drawn_if accounts s dice x).phase ≡ Drawing → ⊥
drawn_no_more accounts s dice (Some (Challenge m first)) there is = subst (λ (q : Phase). IsDrawing q) (sym is) tt
drawn_no_more accounts s dice (Some (Bind id resource)) there is = subst (λ (q : Phase). IsDrawing q) (sym is) tt
drawn_no_more accounts s dice (Some (Enable resume)) there is = subst (λ (q : Phase). IsDrawing q) (sym is) tt
drawn_no_more accounts s dice None there is = there

asks_dice : (s : State) (i : Option Item) (to : Talk) → s.talk.phase ≡ Heard → waiting s.fed.reading ≡ i → Takes s.talk i to → to.phase ≡ Drawing
    → (s' : State) → s'.talk ≡ to → NeedsDice s s'
asks_dice s (Some i) to at waits (a, asks, is) draws s' same =
    let by : to ≡ asked_by (counted s.talk) a = is in
    let d : (purpose : Purpose) × (a ≡ asked.Draw purpose) = draw_of (counted s.talk) a (ap (λ (x : Talk). x.phase) (sym by) ∙ draws) in
    inr (
      i,
      d.0,
      at,
      waits,
      subst (λ (y : Asked). Asks s.talk.line s.talk.domain (counted s.talk).number s.talk.moment s.talk.stage i y) d.1 asks,
      same ∙ by ∙ ap (λ (y : Asked). asked_by (counted s.talk) y) d.1,
    )
asks_dice s None to at waits is draws s' same =
    absurd (subst (λ (q : Phase). IsDrawing q) (sym draws ∙ ap (λ (x : Talk). x.phase) (let by : to ≡ record s.talk { phase = Pulling } = is in by)) tt)

drew_before : (s mid s' : State) → mid ≡ s → mid.talk.phase ≡ Drawing → NeedsDice s s'
drew_before s mid s' is draws = inl (ap (λ (x : State). x.talk.phase) (sym is) ∙ draws)

needs_at : (accounts : Book) (s mid : State) (p : Phase) → s.talk.phase ≡ p → IsLoaded s.talk p → Prepares accounts s p mid
    → mid.talk.phase ≡ Drawing → (s' : State) → s'.talk ≡ mid.talk → NeedsDice s s'
needs_at accounts s mid Heard at loaded prepares draws s' same = asks_dice s (waiting s.fed.reading) mid.talk at refl prepares.0 draws s' same
needs_at accounts s mid (Drawn dice) at loaded prepares draws s' same =
    absurd (drawn_no_more accounts s.talk dice s.talk.purpose loaded (ap (λ (x : Talk). x.phase) (sym prepares.0) ∙ draws))
needs_at accounts s mid Resting at loaded prepares draws s' same = drew_before s mid s' prepares draws
needs_at accounts s mid Saying at loaded prepares draws s' same = drew_before s mid s' prepares draws
needs_at accounts s mid (Refusing f) at loaded prepares draws s' same = drew_before s mid s' prepares draws
needs_at accounts s mid Drawing at loaded prepares draws s' same = drew_before s mid s' prepares draws
needs_at accounts s mid Entering at loaded prepares draws s' same = drew_before s mid s' prepares draws
needs_at accounts s mid (Entered pulls) at loaded prepares draws s' same = drew_before s mid s' prepares draws
needs_at accounts s mid LoggingIn at loaded prepares draws s' same = drew_before s mid s' prepares draws
needs_at accounts s mid LoggedIn at loaded prepares draws s' same = drew_before s mid s' prepares draws
needs_at accounts s mid PullingOnce at loaded prepares draws s' same = drew_before s mid s' prepares draws
needs_at accounts s mid Pulling at loaded prepares draws s' same = drew_before s mid s' prepares draws
needs_at accounts s mid Sweeping at loaded prepares draws s' same = drew_before s mid s' prepares draws
needs_at accounts s mid (Parting x) at loaded prepares draws s' same = drew_before s mid s' prepares draws
needs_at accounts s mid (Left x) at loaded prepares draws s' same = drew_before s mid s' prepares draws

needs_of : (accounts : Book) (s mid s' : State) → IsLoaded s.talk s.talk.phase → Prepares accounts s s.talk.phase mid → wish_of mid ≡ ToDraw
    → s' ≡ record mid { talk = wished mid.talk mid.talk.phase } → NeedsDice s s'
needs_of accounts s mid s' loaded prepares w is =
    let draws : mid.talk.phase ≡ Drawing = draws_only mid.talk mid.talk.phase w in
    needs_at accounts s mid s.talk.phase refl loaded prepares draws s'
    (ap (λ (x : State). x.talk) is ∙ ap (λ (q : Phase). wished mid.talk q) draws)

handled_draws_none : (more : Bool) → IsDrawing (handled_phase more) → ⊥
handled_draws_none true is = is
handled_draws_none false is = is

refused_draws_none : (few more : Bool) (x : Ended) → IsDrawing (if few then handled_phase more else Parting x) → ⊥
refused_draws_none true more x is = handled_draws_none more is
refused_draws_none false more x is = is

is_drawing : (p : Phase) → p ≡ Drawing → IsDrawing p
is_drawing p is = subst (λ (q : Phase). IsDrawing q) (sym is) tt

wished_draws : (s : Talk) (p : Phase) → s.phase ≡ p → (wished s p).phase ≡ Drawing → p ≡ Drawing
wished_draws s Saying at is = absurd (handled_draws_none s.more (is_drawing (handled_phase s.more) is))
wished_draws s (Refusing f) at is =
    absurd (refused_draws_none (nat_lt s.failures 3) s.more ended.ThirdFailure
    (is_drawing (if nat_lt s.failures 3 then handled_phase s.more else Parting ended.ThirdFailure) is))
wished_draws s Entering at is = absurd (is_drawing (wished s Entering).phase is)
wished_draws s LoggingIn at is = absurd (is_drawing LoggedIn is)
wished_draws s (Parting x) at is = absurd (is_drawing (Left x) is)
wished_draws s Resting at is = sym at ∙ is
wished_draws s Heard at is = sym at ∙ is
wished_draws s Drawing at is = refl
wished_draws s (Drawn dice) at is = sym at ∙ is
wished_draws s (Entered pulls) at is = sym at ∙ is
wished_draws s LoggedIn at is = sym at ∙ is
wished_draws s PullingOnce at is = sym at ∙ is
wished_draws s Pulling at is = sym at ∙ is
wished_draws s Sweeping at is = sym at ∙ is
wished_draws s (Left x) at is = sym at ∙ is

draws_at : (accounts : Book) (s mid s' : State) → Prepares accounts s s.talk.phase mid → s' ≡ record mid { talk = wished mid.talk mid.talk.phase }
    → NeedsDice s s' → wish_of mid ≡ ToDraw
draws_at accounts s mid s' prepares is (inl at) =
    let same : mid ≡ s = subst (λ (p : Phase). Prepares accounts s p mid) at prepares in
    ap wish_of same ∙ ap (λ (p : Phase). wish s.talk p) at
draws_at accounts s mid s' prepares is (inr asks) =
    let to : s'.talk.phase ≡ Drawing = ap (λ (x : Talk). x.phase) asks.5 in
    let draws : mid.talk.phase ≡ Drawing = wished_draws mid.talk mid.talk.phase refl (ap (λ (x : State). x.talk.phase) (sym is) ∙ to) in
    ap (λ (p : Phase). wish mid.talk p) draws

dice_after : (accounts : Book) (s : State) (want : Want) (s' : State) → IsLoaded s.talk s.talk.phase → Wants accounts s want s'
    → (want ≡ NeedDice) ↔ NeedsDice s s'
dice_after accounts s want s' loaded h = (
  λ (is : want ≡ NeedDice). needs_of accounts s h.0 s' loaded h.1 (subst (λ (y : Want). IsWish y (wish_of h.0)) is h.2) h.3,
  λ (needs : NeedsDice s s'). only_draws want (subst (λ (y : Wish). IsWish want y) (draws_at accounts s h.0 s' h.1 h.3 needs) h.2),
)

-- All of it, for a flow that stands as it may.

pub record Reasoned (s : State) (want : Want) (s' : State) : Type 0 where
  pub awaits : IsToldAll s.talk.phase → (want ≡ Await) ↔ IsIdle s
  pub rests : (s'.talk.phase ≡ Resting) ↔ RestsBy s.talk.phase s'.talk want
  pub dice : (want ≡ NeedDice) ↔ NeedsDice s s'
  pub finishes : Finishes s.talk.phase want (end_at s'.talk.phase)
  pub ends : EndsBy (end_at s.talk.phase) (end_at s'.talk.phase)
  pub own : FinishesOwn want
  pub owns : IsOwnIf (end_at s'.talk.phase)

pub reasoned : (accounts : Book) (was s : State) (want : Want) (s' : State) → was ≡ s → IsReadyAt was.talk.phase was.fed.reading
    → IsLoaded was.talk was.talk.phase → IsOwnIf (end_at was.talk.phase) → Wants accounts was want s' → Reasoned s want s'
reasoned accounts was s want s' same ready loaded own h =
    let finishes : Finishes was.talk.phase want (end_at s'.talk.phase) = finishes_after accounts was want s' h in
    let owns : IsOwnIf (end_at s'.talk.phase) = own_after accounts was want s' h own in
    subst (λ (x : State). Reasoned x want s') same (record {
      awaits = awaits_after accounts was want s' loaded ready h;
      rests = rests_after accounts was want s' h (waits_after accounts was want s' loaded h);
      dice = dice_after accounts was want s' loaded h;
      finishes = finishes;
      ends = ends_after accounts was want s' h;
      own = finishes_own was.talk.phase want (end_at s'.talk.phase) finishes owns;
      owns = owns;
    })

pub ready_anywhere : (p : Phase) (reading : Reading) → is_ready reading ≡ true → IsReadyAt p reading
ready_anywhere Heard reading h = tt
ready_anywhere p reading h = h
