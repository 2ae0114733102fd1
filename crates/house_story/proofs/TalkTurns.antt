-- Each turn of the talk leads to its state.
use Rattle.std.proofs.Common.{◌≡◌, ℕ, nat_lt, List, [], ◌∷◌, map, length, refl, ap, ◌∙◌, Some, None, false, codes}
use Rattle.std.proofs.Common.{if◌then◌else◌}
use Rattle.jid_core.specs.Addresses.{address_text}
use Rattle.stanza_tree.specs.Entries.{frame}
use Rattle.stanza_tree.specs.Spelling.{closed, escaped_in_value, escaped_in_words, named, needs_prefix, opened, text, text_with}
use Rattle.stanza_tree.specs.Spelling.{unprefixed}
use Rattle.stanza_tree.specs.declared.frame.Origin.TheVariants.{Direct, Opening}
use Rattle.stanza_model.specs.Replies.{refused}
use Rattle.stanza_model.specs.declared.condition.Condition.TheVariants.{NotAcceptable}
use Rattle.stanza_model.specs.declared.effect.Change.TheVariants.{OccupantShown, RoomMade}
use Rattle.stanza_model.specs.declared.effect.Effect as stanza
use Rattle.stanza_model.specs.declared.effect.Effect.TheVariants.{Broadcast, Enter, Queue, Set}
use Rattle.stanza_model.specs.declared.room.Affiliation.TheVariants.{Owner}
use Rattle.stanza_model.specs.declared.room.Role.TheVariants.{Moderator}
use Rattle.stanza_model.specs.declared.room.RoomItem.{RoomItem}
use Rattle.stanza_model.specs.declared.room.RoomItem.TheVariants as item
use Rattle.sm_counters.specs.Numbers.{number, number_among}
use Rattle.muc_room.specs.Entries as entries
use Rattle.muc_room.specs.Views.{presence_from, status}
use Rattle.muc_service.specs.Casting.{cast}
use Rattle.muc_service.specs.Rooms.{Rooms, no_rooms}
use Rattle.house_model.specs.declared.answer.Answer.TheVariants as answer
use Rattle.house_model.specs.declared.event.Event.TheVariants.{Act, DropLine, Login, OpenLine, Resume}
use Rattle.house_model.specs.declared.reply.Reply.TheVariants as reply
use Rattle.house_model.specs.States.{State, keep}
use Rattle.house_model.specs.Steps.{effect_of, turn, verdict}
use Rattle.house_model.specs.Gate.{Verdict, does}
use Rattle.house_model.specs.Effects.{Hosts, On}
use Rattle.house_model.specs.Sessions as op
use Rattle.house_model.specs.Presences.{most_of_presence}
use Rattle.house_model.specs.Lookups as lookups
use Rattle.house_model.specs.Histories.{made, next}
use Rattle.house_story.specs.Stanzas.{account, desk, phone}
use Rattle.house_story.specs.Story.{acts, gives, her_id, says}
use Rattle.house_story.specs.Talk.{desk_enters, enter, heard, no_subject, phone_enters, room, said, say, seat}
use Rattle.house_story.proofs.States.{state7}
use Rattle.house_story.proofs.TalkStates.{heard_too, no_subject_too, rooms8, rooms_of_two, talk8, talk9, talk10, talk11, talk12, talk13, talk14}
use Rattle.house_story.proofs.TalkStates.{talk15, talk16, talk17, talk18, talk19, talk20, talk21, talk22, talk23, talk24}
use Rattle.house_story.proofs.TalkWords.{desk-words, enter-from, made-words, own_text, own_words, phone-words, said-text, subject-text}
use Rattle.house_story.proofs.Turns.{by-verdict}

-- A session enters the room, by the text of its presence, that of the subject, and those of what is seen.

-- with a presence that is short
abbrev if_short : State → ℕ → List ℕ → List stanza.Effect → List stanza.Effect
if_short st s t effects =
    if nat_lt most_of_presence (length (frame (record { to = address_text seat; rest = t; origin = Direct })))
    then refused (lookups.here (keep st).world s) enter NotAcceptable
    else effects

abbrev enters : State → ℕ → Rooms → List stanza.Effect → List ℕ → Verdict
enters st s rooms effects t = does reply.Done (On s (op.Act enter) ∷ map effect_of (cast rooms (if_short st s t effects)))

abbrev desk_item : RoomItem
desk_item = item.Presence (1 ∷ []) (codes "n") desk Owner Moderator false None [] [] (110 ∷ 170 ∷ 201 ∷ [])

abbrev desk_effects : List ℕ → List stanza.Effect
desk_effects u =
    Set (RoomMade 1 room account) ∷ Enter 1 1 desk (codes "n") Moderator ∷ Set (OccupantShown 1 1 []) ∷ Broadcast 1 desk_item
    ∷ Queue 1 (codes "a@b/d") u (Opening 1 1) ∷ []

-- the presence of the occupant, round the words of the room
abbrev round : List ℕ → List ℕ
round x = text_with (presence_from seat false) x

abbrev desk_verdict : List ℕ → Verdict
desk_verdict x =
    does reply.Done
    (On 1 (op.Act enter) ∷ Hosts (Set (RoomMade 1 room account)) ∷ Hosts (Enter 1 1 desk (codes "n") Moderator)
    ∷ Hosts (Set (OccupantShown 1 1 [])) ∷ On 1 (op.Push (heard 0 (round x))) ∷ Hosts (Broadcast 1 desk_item) ∷ On 1 (op.Push no_subject) ∷ [])

verdict8 : verdict (keep (turn (Act 0 enter 0) state7)) (Act 0 enter 0) ≡ desk_verdict (text (own_words desk (status 201 ∷ [])))
unfolding escaped_in_value escaped_in_words closed opened named needs_prefix unprefixed
verdict8 =
    ap (enters state7 1 no_rooms (desk_effects (text (entries.no_subject room)))) (enter-from (codes "a@b/d"))
    ∙ ap (λ u. enters state7 1 no_rooms (desk_effects u) (codes "<presence from='a@b/d'/>")) subject-text

abbrev phone_item : RoomItem
phone_item = item.Presence (1 ∷ 2 ∷ []) (codes "n") phone Owner Moderator false None [] [] (110 ∷ 170 ∷ [])

abbrev phone_effects : List ℕ → List stanza.Effect
phone_effects u =
    Enter 1 2 phone (codes "n") Moderator ∷ Set (OccupantShown 1 2 []) ∷ Broadcast 1 phone_item ∷ Queue 2 (codes "a@b/p") u (Opening 1 2) ∷ []

abbrev phone_verdict : (x y : List ℕ) → Verdict
phone_verdict x y =
    does reply.Done
    (On 2 (op.Act enter) ∷ Hosts (Enter 1 2 phone (codes "n") Moderator) ∷ Hosts (Set (OccupantShown 1 2 [])) ∷ On 1 (op.Push (heard 1 (round x)))
    ∷ On 2 (op.Push (heard_too 1 (round y))) ∷ Hosts (Broadcast 1 phone_item) ∷ On 2 (op.Push no_subject_too) ∷ [])

verdict13 : verdict (keep (turn (Act 1 enter 0) talk12)) (Act 1 enter 0) ≡ phone_verdict (text (own_words desk [])) (text (own_words phone []))
unfolding escaped_in_value escaped_in_words closed opened named needs_prefix unprefixed
verdict13 =
    ap (enters talk12 2 rooms8 (phone_effects (text (entries.no_subject room)))) (enter-from (codes "a@b/p"))
    ∙ ap (λ u. enters talk12 2 rooms8 (phone_effects u) (codes "<presence from='a@b/p'/>")) subject-text

-- The phone says something, by its text.

abbrev says_in : ℕ → List ℕ → Verdict
says_in items t =
    does reply.Done (On 2 (op.Act say) ∷ map effect_of (cast (rooms_of_two items) (Broadcast 1 (item.Message t false seat 0) ∷ [])))

verdict15 : verdict (keep (turn (Act 1 say 0) talk14)) (Act 1 say 0) ≡ says_in 2 (said 0).rest
verdict15 = ap (says_in 2) said-text

verdict18 : verdict (keep (turn (Act 1 say 0) talk17)) (Act 1 say 0) ≡ says_in 3 (said 0).rest
verdict18 = ap (says_in 3) said-text

-- The turns.

pub talked8 : next state7 (acts 0 enter) ≡ talk8
unfolding escaped_in_value escaped_in_words closed opened named needs_prefix unprefixed
talked8 = by-verdict state7 (Act 0 enter 0) (desk_verdict (own_text (codes "a@b/d") (codes "<status code='201'/>"))) (verdict8 ∙ ap desk_verdict made-words)

pub talked13 : next talk12 (acts 1 enter) ≡ talk13
unfolding escaped_in_value escaped_in_words closed opened named needs_prefix unprefixed
talked13 =
    by-verdict talk12 (Act 1 enter 0) (phone_verdict (own_text (codes "a@b/d") []) (own_text (codes "a@b/p") []))
    (verdict13 ∙ ap (λ x. phone_verdict x (text (own_words phone []))) desk-words
    ∙ ap (phone_verdict (own_text (codes "a@b/d") [])) phone-words)

pub talked15 : next talk14 (acts 1 say) ≡ talk15
unfolding escaped_in_value escaped_in_words
talked15 = by-verdict talk14 (Act 1 say 0) (says_in 2 (said 0).rest) verdict15

pub talked18 : next talk17 (acts 1 say) ≡ talk18
unfolding escaped_in_value escaped_in_words
talked18 = by-verdict talk17 (Act 1 say 0) (says_in 3 (said 0).rest) verdict18

pub talked9 : next talk8 (says 0 (answer.Bound [] (codes "a@b/d"))) ≡ talk9
talked9 = refl

pub talked10 : next talk9 (says 0 (answer.Enabled (Some her_id))) ≡ talk10
talked10 = refl

pub talked11 : next talk10 (gives 0 desk_enters) ≡ talk11
talked11 = refl

pub talked12 : next talk11 (gives 0 no_subject) ≡ talk12
talked12 = refl

pub talked14 : next talk13 (gives 0 phone_enters) ≡ talk14
talked14 = refl

pub talked16 : next talk15 (gives 0 (said 2)) ≡ talk16
talked16 = refl

pub talked17 : next talk16 (made (DropLine 0 0) reply.Done []) ≡ talk17
talked17 = refl

pub talked19 : next talk18 (made (OpenLine 2) (reply.Opened 3) []) ≡ talk19
talked19 = refl

pub talked20 : next talk19 (made (Login 2 (codes "a")) reply.Done []) ≡ talk20
talked20 = refl

pub talked21 : next talk20 (made (Resume 2 (Some her_id) 3 0) reply.Resumed []) ≡ talk21
unfolding number number_among
talked21 = refl

pub talked22 : next talk21 (says 2 (answer.Resumed 1 her_id)) ≡ talk22
talked22 = refl

pub talked23 : next talk22 (gives 2 (said 2)) ≡ talk23
talked23 = refl

pub talked24 : next talk23 (gives 2 (said 3)) ≡ talk24
talked24 = refl
