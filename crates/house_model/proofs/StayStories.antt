-- A session that enters a room twice, two sessions of one user under one nick, and a session whose queue is full when its room speaks.
use Rattle.std.proofs.Common.{◌≡◌, ℕ, ◌==◌, List, [], ◌∷◌, length, map, take, refl, ap, ◌∙◌, Some, None, Bool, true, false, not, ◌&&◌, sym, subst, if◌then◌else◌}
use Rattle.std.proofs.lemmas.Bool.{eq-eqb}
use Rattle.jid_core.specs.Addresses.{Address}
use Rattle.stanza_tree.specs.Spelling as spelling
use Rattle.stanza_model.specs.declared.effect.Change.TheVariants.{RoomMade}
use Rattle.stanza_model.specs.declared.effect.Effect.TheVariants.{Broadcast, Enter, Leave, Set}
use Rattle.stanza_model.specs.declared.room.Role.TheVariants.{Moderator}
use Rattle.stanza_model.specs.declared.room.RoomItem.TheVariants.{Message}
use Rattle.house_model.specs.Traffic.{Traffic, whole}
use Rattle.stanza_tree.specs.declared.frame.Entry.{Entry}
use Rattle.sm_counters.specs.Numbers.{number, number_among}
use Rattle.house_model.specs.Sessions as sessions
use Rattle.house_model.specs.Sessions.{Drop, Enable, Held, Hold, Op, Pull, Push, Resume, Session, pushed, session_step, step_if}
use Rattle.house_model.specs.States.{World}
use Rattle.house_model.specs.Effects as effects
use Rattle.house_model.specs.Effects.{apply_all}
use Rattle.house_model.specs.Stays.{Ended, Logs, Open, closed, no_logs, live_of, log_step, logs_through, stops, takes, takes_entries}
use Rattle.house_model.specs.Casts.{Part, Alone, Cast, parts_effects}
use Rattle.house_model.proofs.StayExample.{her, room, start}

abbrev one : List ℕ
one = 1 ∷ []

abbrev two : List ℕ
two = 2 ∷ []

abbrev three : List ℕ
three = 3 ∷ []

abbrev nick : List ℕ
nick = 110 ∷ []

-- She enters a room, hears one item, leaves, and comes again after the second: what is said between her stays is in neither.

abbrev twice : List Part
twice =
    Alone (effects.Open 0) ∷ Alone (effects.Begin 0 1 her)
    ∷ Cast (
    Set (RoomMade 1 room her) ∷ Enter 1 1 her nick Moderator ∷ Broadcast 1 (Message one false room 0) ∷ Leave 1 1
    ∷ Broadcast 1 (Message two false room 0) ∷ Enter 1 1 her nick Moderator ∷ Broadcast 1 (Message three false room 0) ∷ []
    ) ∷ []

abbrev twice_logs : Logs
twice_logs = logs_through start (parts_effects start twice) no_logs

abbrev twice_world : World Traffic
twice_world = apply_all whole start (parts_effects start twice)

pub first_stay : twice_logs.stays 1 ≡ Ended 1 1 0 1
unfolding spelling.escaped_in_value spelling.escaped_in_words
first_stay = refl

pub second_stay : twice_logs.stays 2 ≡ Open 1 1 2
unfolding spelling.escaped_in_value spelling.escaped_in_words
second_stay = refl

pub heard_first : map (λ e. e.rest) (live_of 1 (twice_world.sessions 1).traffic.queued) ≡ one ∷ []
unfolding spelling.escaped_in_value spelling.escaped_in_words
heard_first = refl

pub heard_second : map (λ e. e.rest) (live_of 2 (twice_world.sessions 1).traffic.queued) ≡ three ∷ []
unfolding spelling.escaped_in_value spelling.escaped_in_words
heard_second = refl

-- Two of her sessions have one nick. One leaves: its stay is over, the other's goes on.

abbrev phone : Address
phone = record her { resource = Some (112 ∷ []) }

abbrev both : List Part
both =
    Alone (effects.Open 0) ∷ Alone (effects.Begin 0 1 her) ∷ Alone (effects.Open 1) ∷ Alone (effects.Begin 1 2 phone)
    ∷ Cast (
    Set (RoomMade 1 room her) ∷ Enter 1 1 her nick Moderator ∷ Enter 1 2 phone nick Moderator ∷ Broadcast 1 (Message one false room 0) ∷ Leave 1 2
    ∷ Broadcast 1 (Message two false room 0) ∷ []
    ) ∷ []

abbrev both_logs : Logs
both_logs = logs_through start (parts_effects start both) no_logs

abbrev both_world : World Traffic
both_world = apply_all whole start (parts_effects start both)

pub desk_stays : both_logs.stays 1 ≡ Open 1 1 0
unfolding spelling.escaped_in_value spelling.escaped_in_words
desk_stays = refl

pub phone_left : both_logs.stays 2 ≡ Ended 2 1 0 1
unfolding spelling.escaped_in_value spelling.escaped_in_words
phone_left = refl

pub desk_heard : map (λ e. e.rest) (live_of 1 (both_world.sessions 1).traffic.queued) ≡ one ∷ two ∷ []
unfolding spelling.escaped_in_value spelling.escaped_in_words
desk_heard = refl

pub phone_heard : map (λ e. e.rest) (live_of 2 (both_world.sessions 2).traffic.queued) ≡ one ∷ []
unfolding spelling.escaped_in_value spelling.escaped_in_words
phone_heard = refl

-- A push that ends its session, as one past the limits of its queue does, ends each of its open stays at the present length of the room's
-- order: the item has its number by then only where the order is that much longer.
pub full_ends : (world : World Traffic) (logs : Logs) (s r i a : ℕ) (op : Op) → logs.stays i ≡ Open s r a
    → stops (world.sessions s) (session_step whole (world.sessions s) op) ≡ true
    → (log_step world (effects.On s op) logs).stays i ≡ Ended s r a (length (logs.order r))
full_ends world logs s r i a op open_is over =
    ap (closed among logs.order) open_is
    ∙ (λ k. if same k && over k then Ended s r a (length (logs.order r)) else Open s r a)
  where
    same : (s == s) ≡ true
    same = eq-eqb s s refl

    among : ℕ → ℕ → Bool
    among q n = (q == s) && stops (world.sessions s) (session_step whole (world.sessions s) op)

-- and an entry for which a session's queue has no room stops it
pub full_stops : (x : Session Traffic) (e : Entry) (v d : ℕ) → x.hold ≡ Held v d → whole.has_room x.traffic e ≡ false
    → stops x (session_step whole x (Push e)) ≡ true
full_stops x e v d held full =
    subst (λ (m : Hold). stops_so m (step_if whole x.counts m x.traffic x.rest (Push e)) ≡ true) (sym held)
    (subst (λ (room : Bool). stops_so (Held v d) (pushed whole room x.counts (Held v d) x.traffic x.rest e) ≡ true) (sym full) (stopped x.counts))
  where
    stops_so : Hold → Session Traffic → Bool
    stops_so m y = takes x.counts m && not (takes_entries y)

    stopped : (b : Bool) → (takes b (Held v d) && not (takes b (sessions.Ended (whole.overfull x.traffic)))) ≡ true
    stopped true = refl
    stopped false = refl

-- Her connection is lost after the first item was given, and she resumes after the second: the stay is the same, and she is given the second.

abbrev cut : List Part
cut =
    Alone (effects.Open 0) ∷ Alone (effects.Begin 0 1 her) ∷ Alone (effects.On 1 (Enable None))
    ∷ Cast (Set (RoomMade 1 room her) ∷ Enter 1 1 her nick Moderator ∷ Broadcast 1 (Message one false room 0) ∷ []) ∷ Alone (effects.On 1 Pull)
    ∷ Alone (effects.On 1 (Drop 300000)) ∷ Cast (Broadcast 1 (Message two false room 0) ∷ []) ∷ Alone (effects.On 1 (Resume 1 2 1))
    ∷ Alone (effects.On 1 Pull) ∷ []

abbrev cut_logs : Logs
cut_logs = logs_through start (parts_effects start cut) no_logs

abbrev cut_world : World Traffic
cut_world = apply_all whole start (parts_effects start cut)

pub goes_on : cut_logs.stays 1 ≡ Open 1 1 0
unfolding spelling.escaped_in_value spelling.escaped_in_words number number_among
goes_on = refl

pub both_heard : map (λ e. e.rest) (live_of 1 (take (cut_world.sessions 1).traffic.sent (cut_world.sessions 1).traffic.queued)) ≡ one ∷ two ∷ []
unfolding spelling.escaped_in_value spelling.escaped_in_words number number_among
both_heard = refl
