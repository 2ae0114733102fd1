-- A flow that waits for more rests.
use Rattle.std.proofs.Common.{◌≡◌, ℕ, List, sym, ap, ◌∙◌, Option, Some, None}
use Rattle.stream_frames.specs.Fed.{Fed}
use Rattle.stream_grammar.specs.declared.item.Item.{Item}
use Rattle.stream_grammar.specs.machine.Reading.{waiting}
use Rattle.account_book.specs.Lists.{Book}
use Rattle.house_model.specs.declared.event.Event.{Event}
use Rattle.conn_asks.specs.declared.asked.Asked.{Asked}
use Rattle.conn_asks.specs.declared.asked.Asked.TheVariants as asked
use Rattle.conn_asks.specs.declared.ended.Ended.{Ended}
use Rattle.conn_asks.specs.declared.stage.Purpose.{Purpose}
use Rattle.conn_asks.specs.declared.stage.Purpose.TheVariants.{Challenge, Bind, Enable}
use Rattle.conn_flow.specs.declared.phase.Phase.{Phase}
use Rattle.conn_flow.specs.declared.phase.Phase.TheVariants.{Resting, Heard, Saying, Refusing, Drawing, Drawn, Entering, Entered, LoggingIn}
use Rattle.conn_flow.specs.declared.phase.Phase.TheVariants.{LoggedIn, PullingOnce, Pulling, Sweeping, Parting, Left}
use Rattle.conn_flow.specs.declared.talk.Talk.{Talk}
use Rattle.conn_flow.specs.Flows.{IsLoaded, IsThere, Prepares, State, Takes, ToAwait, ToDraw, ToFinish, ToSay, ToSubmit, Wish, asked_by}
use Rattle.conn_flow.specs.Flows.{counted, drawn_if, event_wish, last_text, login_wish, parting_wish, wish, wish_of, IsToldAll}

no_say : {text : List ℕ} → ToSay text ≡ ToAwait → ⊥
no_say w = cc

no_submit : {e : Event} → ToSubmit e ≡ ToAwait → ⊥
no_submit w = cc

no_draw : ToDraw ≡ ToAwait → ⊥
no_draw w = cc

no_finish : {x : Ended} → ToFinish x ≡ ToAwait → ⊥
no_finish w = cc

last_wants : (text : Option (List ℕ)) (x : Ended) → parting_wish text x ≡ ToAwait → ⊥
last_wants (Some text) x w = no_say w
last_wants None x w = no_finish w

event_wants : (e : Option Event) → IsThere e → event_wish e ≡ ToAwait → ⊥
event_wants (Some e) there w = no_submit w
event_wants None there w = there

login_wants : (line : ℕ) (user : Option (List ℕ)) → IsThere user → login_wish line user ≡ ToAwait → ⊥
login_wants line (Some user) there w = no_submit w
login_wants line None there w = there

-- what an item asks for is wanted
asked_wants : (s : Talk) (a : Asked) → wish (asked_by s a) (asked_by s a).phase ≡ ToAwait → ⊥
asked_wants s asked.Header w = no_say w
asked_wants s (asked.Invite m) w = no_say w
asked_wants s (asked.Fail f) w = no_say w
asked_wants s (asked.LogIn user success) w = no_submit w
asked_wants s (asked.Draw purpose) w = no_draw w
asked_wants s (asked.RefuseResource id) w = no_say w
asked_wants s (asked.Submit event) w = no_submit w
asked_wants s (asked.End x) w = last_wants (last_text s x) x w

abbrev wish_in : Talk → Wish
wish_in s = wish s s.phase

item_wants : (s : Talk) (i : Option Item) (s' : Talk) → Takes s i s' → wish_in s' ≡ ToAwait → ⊥
item_wants s (Some i) s' (a, asks, is) w = let at : s' ≡ asked_by (counted s) a = is in asked_wants (counted s) a (ap wish_in (sym at) ∙ w)
item_wants s None s' is w = let at : s' ≡ record s { phase = Pulling } = is in no_submit (ap wish_in (sym at) ∙ w)

dice_want : (accounts : Book) (s : Talk) (dice : List ℕ) (x : Option Purpose) (s' : Talk) → IsThere x
    → s' ≡ drawn_if accounts s dice x → wish_in s' ≡ ToAwait → ⊥
dice_want accounts s dice (Some (Challenge m first)) s' there is w = no_say (ap wish_in (sym is) ∙ w)
dice_want accounts s dice (Some (Bind id resource)) s' there is w = no_submit (ap wish_in (sym is) ∙ w)
dice_want accounts s dice (Some (Enable resume)) s' there is w = no_submit (ap wish_in (sym is) ∙ w)
dice_want accounts s dice None s' there is w = there

pub rests_now : (accounts : Book) (f : Fed) (s : Talk) (p : Phase) (s' : State) → IsToldAll p → IsLoaded s p
    → Prepares accounts (record { fed = f; talk = record s { phase = p } }) p s' → wish_of s' ≡ ToAwait → s'.talk.phase ≡ Resting
rests_now accounts f s Resting s' told loaded is w = ap (λ (x : State). x.talk.phase) is
rests_now accounts f s Heard s' told loaded (takes, fed) w = absurd (item_wants (record s { phase = Heard }) (waiting f.reading) s'.talk takes w)
rests_now accounts f s (Drawn dice) s' told loaded (talk, fed) w =
    absurd (dice_want accounts (record s { phase = Drawn dice }) dice s.purpose s'.talk loaded talk w)
rests_now accounts f s Entering s' told loaded is w = absurd (event_wants s.event loaded (ap wish_of (sym is) ∙ w))
rests_now accounts f s LoggingIn s' told loaded is w = absurd (login_wants s.line s.user loaded (ap wish_of (sym is) ∙ w))
rests_now accounts f s (Parting x) s' told loaded is w = absurd (last_wants (last_text s x) x (ap wish_of (sym is) ∙ w))
rests_now accounts f s (Entered pulls) s' told loaded is w = absurd told
rests_now accounts f s LoggedIn s' told loaded is w = absurd told
rests_now accounts f s Saying s' told loaded is w = absurd (no_say (ap wish_of (sym is) ∙ w))
rests_now accounts f s (Refusing fail) s' told loaded is w = absurd (no_say (ap wish_of (sym is) ∙ w))
rests_now accounts f s Drawing s' told loaded is w = absurd (no_draw (ap wish_of (sym is) ∙ w))
rests_now accounts f s PullingOnce s' told loaded is w = absurd (no_submit (ap wish_of (sym is) ∙ w))
rests_now accounts f s Pulling s' told loaded is w = absurd (no_submit (ap wish_of (sym is) ∙ w))
rests_now accounts f s Sweeping s' told loaded is w = absurd (no_submit (ap wish_of (sym is) ∙ w))
rests_now accounts f s (Left x) s' told loaded is w = absurd (no_finish (ap wish_of (sym is) ∙ w))
