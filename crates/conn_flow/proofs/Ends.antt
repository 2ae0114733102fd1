-- The end that stands after a want.
use Rattle.std.proofs.Common.{◌≡◌, ℕ, List, Bool, true, false, Option, Some, None, refl, sym, subst, ap, ◌∙◌, if◌then◌else◌, nat_lt}
use Rattle.account_book.specs.Lists.{Book}
use Rattle.house_model.specs.declared.event.Event.{Event}
use Rattle.stream_grammar.specs.machine.Reading.{waiting}
use Rattle.stream_grammar.specs.declared.item.Item.{Item}
use Rattle.conn_asks.specs.declared.asked.Asked.{Asked}
use Rattle.conn_asks.specs.declared.asked.Asked.TheVariants as asked
use Rattle.conn_asks.specs.declared.ended.Ended.{Ended}
use Rattle.conn_asks.specs.declared.ended.Ended.TheVariants as ended
use Rattle.conn_asks.specs.declared.stage.Purpose.{Purpose}
use Rattle.conn_asks.specs.declared.stage.Purpose.TheVariants.{Challenge, Bind, Enable}
use Rattle.conn_flow.specs.declared.phase.Phase.{Phase}
use Rattle.conn_flow.specs.declared.phase.Phase.TheVariants.{Resting, Heard, Saying, Refusing, Drawing, Drawn, Entering, Entered, LoggingIn}
use Rattle.conn_flow.specs.declared.phase.Phase.TheVariants.{LoggedIn, PullingOnce, Pulling, Sweeping, Parting, Left}
use Rattle.conn_flow.specs.declared.talk.Talk.{Talk}
use Rattle.conn_flow.specs.declared.want.Want.{Want}
use Rattle.conn_flow.specs.declared.want.Want.TheVariants.{Say, Submit, NeedDice, Await, Finish}
use Rattle.conn_flow.specs.Flows.{IsWish, Prepares, State, Takes, ToFinish, ToSay, Wants, Wish, asked_by, counted}
use Rattle.conn_flow.specs.Flows.{drawn_if, event_wish, handled_phase, last_text, login_wish, parting_wish, wish, wish_of, wished}
use Rattle.conn_flow.specs.Reasons.{EndsBy, Finishes, FinishesOwn, IsByItem, IsOwn, IsOwnIf, SpeaksOn, end_at}
use Rattle.conn_flow.proofs.ItemEnds.{IsAskedEnd, IsItemEnd, asks_ends}

-- What is handled first, and a want, make none but by an item.

handled_end : (more : Bool) → EndsBy None (end_at (handled_phase more))
handled_end true = tt
handled_end false = tt

refused_end : (few more : Bool) → EndsBy None (end_at (if few then handled_phase more else Parting ended.ThirdFailure))
refused_end true more = handled_end more
refused_end false more = tt

wished_ends : (s : Talk) (p : Phase) → s.phase ≡ p → EndsBy (end_at p) (end_at (wished s p).phase)
wished_ends s Saying at = handled_end s.more
wished_ends s (Refusing f) at = refused_end (nat_lt s.failures 3) s.more
wished_ends s Entering at = tt
wished_ends s LoggingIn at = tt
wished_ends s (Parting x) at = refl
wished_ends s (Left x) at = ap (λ (q : Phase). end_at q) at
wished_ends s Resting at = subst (λ (q : Phase). EndsBy None (end_at q)) (sym at) tt
wished_ends s Heard at = subst (λ (q : Phase). EndsBy None (end_at q)) (sym at) tt
wished_ends s Drawing at = subst (λ (q : Phase). EndsBy None (end_at q)) (sym at) tt
wished_ends s (Drawn dice) at = subst (λ (q : Phase). EndsBy None (end_at q)) (sym at) tt
wished_ends s (Entered pulls) at = subst (λ (q : Phase). EndsBy None (end_at q)) (sym at) tt
wished_ends s LoggedIn at = subst (λ (q : Phase). EndsBy None (end_at q)) (sym at) tt
wished_ends s PullingOnce at = subst (λ (q : Phase). EndsBy None (end_at q)) (sym at) tt
wished_ends s Pulling at = subst (λ (q : Phase). EndsBy None (end_at q)) (sym at) tt
wished_ends s Sweeping at = subst (λ (q : Phase). EndsBy None (end_at q)) (sym at) tt

ends_then : (a b c : Option Ended) → EndsBy a b → EndsBy b c → EndsBy a c
ends_then (Some x) b c h k = subst (λ (e : Option Ended). EndsBy e c) h k
ends_then None None c h k = k
ends_then None (Some x) c h k = subst (λ (e : Option Ended). EndsBy None e) (sym k) h

by_item : (x : Ended) → IsItemEnd x → IsByItem x
by_item ended.Closed h = tt
by_item (ended.Broken f k) h = tt
by_item (ended.BadHeader f) h = tt
by_item (ended.BadItem f n) h = tt
by_item x h = absurd h

asked_end : (s : Talk) (a : Asked) → IsAskedEnd a → EndsBy None (end_at (asked_by s a).phase)
asked_end s (asked.End x) h = by_item x h
asked_end s asked.Header h = tt
asked_end s (asked.Invite m) h = tt
asked_end s (asked.Fail f) h = tt
asked_end s (asked.LogIn user success) h = tt
asked_end s (asked.Draw purpose) h = tt
asked_end s (asked.RefuseResource id) h = tt
asked_end s (asked.Submit e) h = tt

takes_end : (s : Talk) (i : Option Item) (s' : Talk) → Takes s i s' → EndsBy None (end_at s'.phase)
takes_end s (Some i) s' takes =
    subst (λ (x : Talk). EndsBy None (end_at x.phase)) (sym takes.2) (asked_end (counted s) takes.0 (asks_ends _ _ _ _ _ i takes.0 takes.1))
takes_end s None s' takes = subst (λ (x : Talk). EndsBy None (end_at x.phase)) (sym takes) tt

drawn_end : (accounts : Book) (s : Talk) (dice : List ℕ) (x : Option Purpose) → s.phase ≡ Drawn dice
    → EndsBy None (end_at (drawn_if accounts s dice x).phase)
drawn_end accounts s dice (Some (Challenge m first)) at = tt
drawn_end accounts s dice (Some (Bind id resource)) at = tt
drawn_end accounts s dice (Some (Enable resume)) at = tt
drawn_end accounts s dice None at = subst (λ (q : Phase). EndsBy None (end_at q)) (sym at) tt

same_end : (s mid : State) (p : Phase) → s.talk.phase ≡ p → mid ≡ s → EndsBy (end_at p) (end_at p) → EndsBy (end_at p) (end_at mid.talk.phase)
same_end s mid p at is h =
    subst (λ (x : State). EndsBy (end_at p) (end_at x.talk.phase)) (sym is) (subst (λ (q : Phase). EndsBy (end_at p) (end_at q)) (sym at) h)

prepares_end : (accounts : Book) (s mid : State) (p : Phase) → s.talk.phase ≡ p → Prepares accounts s p mid → EndsBy (end_at p) (end_at mid.talk.phase)
prepares_end accounts s mid Heard at prepares = takes_end s.talk (waiting s.fed.reading) mid.talk prepares.0
prepares_end accounts s mid (Drawn dice) at prepares =
    subst (λ (x : Talk). EndsBy None (end_at x.phase)) (sym prepares.0) (drawn_end accounts s.talk dice s.talk.purpose at)
prepares_end accounts s mid (Parting x) at prepares = same_end s mid (Parting x) at prepares refl
prepares_end accounts s mid (Left x) at prepares = same_end s mid (Left x) at prepares refl
prepares_end accounts s mid Resting at prepares = same_end s mid Resting at prepares tt
prepares_end accounts s mid Saying at prepares = same_end s mid Saying at prepares tt
prepares_end accounts s mid (Refusing f) at prepares = same_end s mid (Refusing f) at prepares tt
prepares_end accounts s mid Drawing at prepares = same_end s mid Drawing at prepares tt
prepares_end accounts s mid Entering at prepares = same_end s mid Entering at prepares tt
prepares_end accounts s mid (Entered pulls) at prepares = same_end s mid (Entered pulls) at prepares tt
prepares_end accounts s mid LoggingIn at prepares = same_end s mid LoggingIn at prepares tt
prepares_end accounts s mid LoggedIn at prepares = same_end s mid LoggedIn at prepares tt
prepares_end accounts s mid PullingOnce at prepares = same_end s mid PullingOnce at prepares tt
prepares_end accounts s mid Pulling at prepares = same_end s mid Pulling at prepares tt
prepares_end accounts s mid Sweeping at prepares = same_end s mid Sweeping at prepares tt

pub ends_after : (accounts : Book) (s : State) (want : Want) (s' : State) → Wants accounts s want s' → EndsBy (end_at s.talk.phase) (end_at s'.talk.phase)
ends_after accounts s want s' h =
    subst (λ (x : State). EndsBy (end_at s.talk.phase) (end_at x.talk.phase)) (sym h.3)
    (ends_then (end_at s.talk.phase) (end_at h.0.talk.phase) (end_at (wished h.0.talk h.0.talk.phase).phase)
    (prepares_end accounts s h.0 s.talk.phase refl h.1) (wished_ends h.0.talk h.0.talk.phase refl))

-- so an end of its own stays one

item_own : (x : Ended) → IsByItem x → IsOwn x
item_own ended.Closed h = tt
item_own (ended.Broken f k) h = tt
item_own (ended.BadHeader f) h = tt
item_own (ended.BadItem f n) h = tt
item_own ended.ThirdFailure h = tt
item_own x h = absurd h

own_by : (a b : Option Ended) → IsOwnIf a → EndsBy a b → IsOwnIf b
own_by (Some x) b own h = subst (λ (e : Option Ended). IsOwnIf e) (sym h) own
own_by None (Some x) own h = item_own x h
own_by None None own h = tt

pub own_after : (accounts : Book) (s : State) (want : Want) (s' : State) → Wants accounts s want s' → IsOwnIf (end_at s.talk.phase)
    → IsOwnIf (end_at s'.talk.phase)
own_after accounts s want s' h own = own_by (end_at s.talk.phase) (end_at s'.talk.phase) own (ends_after accounts s want s' h)

-- A flow finishes where an end stands and nothing is to be said.

abbrev FinishesAs : Wish → Option Ended → Type 0
FinishesAs (ToFinish x) end = end ≡ Some x
FinishesAs (ToSay text) end = Unit {0}
FinishesAs wish end = end ≡ None

parting_finishes : (text : Option (List ℕ)) (x : Ended) → FinishesAs (parting_wish text x) (Some x)
parting_finishes (Some text) x = tt
parting_finishes None x = refl

event_finishes : (e : Option Event) → FinishesAs (event_wish e) None
event_finishes (Some e) = refl
event_finishes None = refl

login_finishes : (w : ℕ) (user : Option (List ℕ)) → FinishesAs (login_wish w user) None
login_finishes w (Some user) = refl
login_finishes w None = refl

wish_finishes : (s : Talk) (p : Phase) → s.phase ≡ p → FinishesAs (wish s p) (end_at (wished s p).phase)
wish_finishes s Saying at = tt
wish_finishes s (Refusing f) at = tt
wish_finishes s Entering at = event_finishes s.event
wish_finishes s LoggingIn at = login_finishes s.line s.user
wish_finishes s (Parting x) at = parting_finishes (last_text s x) x
wish_finishes s (Left x) at = ap (λ (q : Phase). end_at q) at
wish_finishes s Resting at = ap (λ (q : Phase). end_at q) at
wish_finishes s Heard at = ap (λ (q : Phase). end_at q) at
wish_finishes s Drawing at = ap (λ (q : Phase). end_at q) at
wish_finishes s (Drawn dice) at = ap (λ (q : Phase). end_at q) at
wish_finishes s (Entered pulls) at = ap (λ (q : Phase). end_at q) at
wish_finishes s LoggedIn at = ap (λ (q : Phase). end_at q) at
wish_finishes s PullingOnce at = ap (λ (q : Phase). end_at q) at
wish_finishes s Pulling at = ap (λ (q : Phase). end_at q) at
wish_finishes s Sweeping at = ap (λ (q : Phase). end_at q) at

-- once its last text was said it says nothing
speaks_on : (accounts : Book) (s mid : State) (p : Phase) (text : List ℕ) → Prepares accounts s p mid → s.talk.phase ≡ p → wish_of mid ≡ ToSay text
    → SpeaksOn p
speaks_on accounts s mid (Left x) text is at w =
    let same : mid ≡ s = is in
    absurd (let d : ToFinish x ≡ ToSay text = sym (ap (λ (q : Phase). wish s.talk q) at) ∙ sym (ap wish_of same) ∙ w in cc)
speaks_on accounts s mid p text is at w = tt

want_finishes : (before : Phase) (want : Want) (w : Wish) (end : Option Ended) → IsWish want w → ((text : List ℕ) → w ≡ ToSay text → SpeaksOn before)
    → FinishesAs w end → Finishes before want end
want_finishes before (Say text) w end is speaks h = speaks text.items is
want_finishes before (Finish x) w end is speaks h = subst (λ (y : Wish). FinishesAs y end) is h
want_finishes before (Submit e) w end is speaks h = subst (λ (y : Wish). FinishesAs y end) is h
want_finishes before NeedDice w end is speaks h = subst (λ (y : Wish). FinishesAs y end) is h
want_finishes before Await w end is speaks h = subst (λ (y : Wish). FinishesAs y end) is h

pub finishes_after : (accounts : Book) (s : State) (want : Want) (s' : State) → Wants accounts s want s'
    → Finishes s.talk.phase want (end_at s'.talk.phase)
finishes_after accounts s want s' h =
    subst (λ (x : State). Finishes s.talk.phase want (end_at x.talk.phase)) (sym h.3)
    (want_finishes s.talk.phase want (wish_of h.0) (end_at (wished h.0.talk h.0.talk.phase).phase) h.2
    (λ text w. speaks_on accounts s h.0 s.talk.phase text h.1 refl w) (wish_finishes h.0.talk h.0.talk.phase refl))

pub finishes_own : (before : Phase) (want : Want) (end : Option Ended) → Finishes before want end → IsOwnIf end → FinishesOwn want
finishes_own before (Finish x) end h own = subst (λ (e : Option Ended). IsOwnIf e) h own
finishes_own before (Say text) end h own = tt
finishes_own before (Submit e) end h own = tt
finishes_own before NeedDice end h own = tt
finishes_own before Await end h own = tt
