-- What was said in an archive only grows: of a history, what was said by an earlier turn comes first of what was said by a later one.
use Rattle.std.proofs.Common.{◌≡◌, ◌≤◌, ℕ, ◌+◌, ◌-◌, List, [], ◌∷◌, ◌++◌, take, drop, append_assoc, refl, sym, ap, ◌∙◌, subst, arith}
use Rattle.std.proofs.Common.{Option, Some, None, take-add, take-append-drop}
use Rattle.stanza_model.specs.declared.effect.Change.{Change}
use Rattle.stanza_model.specs.declared.effect.Change.TheVariants.{RoomGone}
use Rattle.stanza_model.specs.declared.effect.Effect as stanza
use Rattle.stanza_model.specs.declared.effect.Effect.TheVariants.{Broadcast, Enter, Leave, Set}
use Rattle.stanza_model.specs.declared.room.RoomItem.{RoomItem}
use Rattle.muc_service.specs.Rooms.{Hosted, hosted_as}
use Rattle.archive_table.specs.Archives.{Said}
use Rattle.house_model.specs.Archiving.{keeps_from, spoken_in, turn_keeps}
use Rattle.house_model.specs.Effects.{Effect, Hosts, On, apply}
use Rattle.house_model.specs.Histories.{Made, Outcome, Short, Turn, after, next}
use Rattle.house_model.specs.Numbered.{put}
use Rattle.house_model.specs.Paging.{Room, User, Whose, said_in}
use Rattle.house_model.specs.States.{State, World, keep}
use Rattle.house_model.specs.Stays.{Item, Logs, broadcasts, item_in, log_step, logs_from, logs_of, logs_through, no_logs, room_step, set_step}
use Rattle.house_model.specs.Stays.{turn_logs}
use Rattle.house_model.specs.Steps.{turn, verdict}
use Rattle.house_model.specs.Traffic.{Traffic, whole}
use Rattle.house_model.specs.declared.event.Event.{Event}
use Rattle.house_model.proofs.SpokenItems.{spoken_append}
use Rattle.house_model.proofs.StayLemmas.{Grow, grows_all, no_growth, put_other, put_same}

-- a list begins with another
abbrev pub Begins : {A : Type 0} → List A → List A → Type 0
Begins {A} xs ys = (more : List A) × (ys ≡ xs ++ more)

-- The order of each room.

grow_then : (first middle last : ℕ → List Item) → Grow first middle → Grow middle last → Grow first last
grow_then first middle last one two r =
    let a = one r in
    let b = two r in
    (a.0 ++ b.0, b.1 ∙ (ap (λ (l : List Item). l ++ b.0) a.1 ∙ append_assoc (first r) a.0 b.0))

broadcast_grows : (found : Option Hosted) (n : ℕ) (item : RoomItem) (logs : Logs) → Grow logs.order (broadcasts found n item logs).order
broadcast_grows None n item logs = no_growth logs.order
broadcast_grows (Some h) n item logs =
    let longer : List Item = logs.order n ++ item_in h item ∷ [] in
    grows_all n (item_in h item) logs.order (put n longer logs.order) (put_same n longer logs.order, λ r ne. put_other n longer logs.order r ne)

set_grows : (c : Change) (logs : Logs) → Grow logs.order (set_step c logs).order
set_grows (RoomGone n) logs = no_growth logs.order
set_grows c logs = no_growth logs.order

room_grows : (world : World Traffic) (e : stanza.Effect) (logs : Logs) → Grow logs.order (room_step world e logs).order
room_grows world (Broadcast n item) logs = broadcast_grows (hosted_as n world.rooms) n item logs
room_grows world (Enter n s address nick role) logs = no_growth logs.order
room_grows world (Leave n s) logs = no_growth logs.order
room_grows world (Set c) logs = set_grows c logs
room_grows world e logs = no_growth logs.order

effect_grows : (world : World Traffic) (e : Effect) (logs : Logs) → Grow logs.order (log_step world e logs).order
effect_grows world (Hosts e) logs = room_grows world e logs
effect_grows world (On s op) logs = no_growth logs.order
effect_grows world e logs = no_growth logs.order

through_grows : (es : List Effect) (world : World Traffic) (logs : Logs) → Grow logs.order (logs_through world es logs).order
through_grows [] world logs = no_growth logs.order
through_grows (e ∷ es) world logs =
    let one : Logs = log_step world e logs in
    let new : World Traffic = apply whole world e in
    grow_then logs.order one.order (logs_through new es one).order (effect_grows world e logs) (through_grows es new one)

turn_grows : (st : State) (e : Event) (outcome : Outcome) (logs : Logs) → Grow logs.order (turn_logs st e outcome logs).order
turn_grows st e (Made reply text) logs = through_grows (verdict (keep (turn e st)) e).effects st.world logs
turn_grows st e Short logs = no_growth logs.order

history_grows : (h : List Turn) (st : State) (logs : Logs) → Grow logs.order (logs_from st h logs).order
history_grows [] st logs = no_growth logs.order
history_grows (x ∷ h) st logs =
    let one : Logs = turn_logs st x.event x.outcome logs in
    grow_then logs.order one.order (logs_from (next st x) h one).order (turn_grows st x.event x.outcome logs) (history_grows h (next st x) one)

logs_append : (st : State) (h more : List Turn) (logs : Logs) → logs_from st (h ++ more) logs ≡ logs_from (after st h) more (logs_from st h logs)
logs_append st [] more logs = refl
logs_append st (x ∷ h) more logs = logs_append (next st x) h more (turn_logs st x.event x.outcome logs)

order_grows : (o : State) (h more : List Turn) → Grow (logs_of o h).order (logs_of o (h ++ more)).order
order_grows o h more =
    subst (λ (l : Logs). Grow (logs_of o h).order l.order) (sym (logs_append o h more no_logs)) (history_grows more (after o h) (logs_of o h))

-- What was said.

keeps_grow : (st : State) (h more : List Turn) (user : List ℕ) → Begins (keeps_from st h user) (keeps_from st (h ++ more) user)
keeps_grow st [] more user = (keeps_from st more user, refl)
keeps_grow st (x ∷ h) more user =
    let now : List Said = turn_keeps st x.event x.outcome user in
    let later = keeps_grow (next st x) h more user in
    (later.0, ap (λ (l : List Said). now ++ l) later.1 ∙ sym (append_assoc now (keeps_from (next st x) h user) later.0))

said_grows : (o : State) (h more : List Turn) (whose : Whose) → Begins (said_in o h whose) (said_in o (h ++ more) whose)
said_grows o h more (User user) = keeps_grow o h more user
said_grows o h more (Room n) =
    let grown = order_grows o h more n in
    (spoken_in grown.0, ap spoken_in grown.1 ∙ spoken_append ((logs_of o h).order n) grown.0)

pub said_by_then : (o : State) (h : List Turn) (a b : ℕ) (whose : Whose) → a ≤ b
    → Begins (said_in o (take a h) whose) (said_in o (take b h) whose)
said_by_then o h a b whose less =
    let between : List Turn = take (b - a) (drop a h) in
    let more : b ≡ a + (b - a) = omega (arith, less) in
    let split : take b h ≡ take a h ++ between = ap (λ (k : ℕ). take k h) more ∙ take-add a (b - a) h in
    subst (λ (l : List Turn). Begins (said_in o (take a h) whose) (said_in o l whose)) (sym split) (said_grows o (take a h) between whose)

pub said_at_last : (o : State) (h : List Turn) (a : ℕ) (whose : Whose) → Begins (said_in o (take a h) whose) (said_in o h whose)
said_at_last o h a whose =
    subst (λ (l : List Turn). Begins (said_in o (take a h) whose) (said_in o l whose)) (take-append-drop a h)
    (said_grows o (take a h) (drop a h) whose)
