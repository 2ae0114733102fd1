-- Each turn of the story leads to its state.
use Rattle.std.proofs.Common.{◌≡◌, ℕ, nat_lt, List, [], ◌∷◌, map, length, refl, ap, Some, true, pos, codes, if◌then◌else◌}
use Rattle.jid_core.specs.Addresses.{address_text}
use Rattle.stanza_tree.specs.Spelling.{escaped_in_value, escaped_in_words}
use Rattle.stanza_tree.specs.declared.frame.Origin.TheVariants.{Direct}
use Rattle.stanza_model.specs.Replies.{refused}
use Rattle.stanza_model.specs.declared.condition.Condition.TheVariants.{NotAcceptable}
use Rattle.stanza_model.specs.declared.effect.Change.TheVariants.{Available}
use Rattle.stanza_model.specs.declared.effect.Effect.TheVariants.{Queue, Set}
use Rattle.stanza_model.specs.declared.stanza.Stanza.{Stanza}
use Rattle.muc_service.specs.Casting.{cast}
use Rattle.muc_service.specs.Rooms.{no_rooms}
use Rattle.sm_counters.specs.Numbers.{number, number_among}
use Rattle.house_model.specs.declared.answer.Answer.TheVariants as answer
use Rattle.house_model.specs.declared.event.Event.{Event}
use Rattle.house_model.specs.declared.event.Event.TheVariants.{OpenLine, Login, Bind, Enable, Act, Ack, DropLine, CloseLine, Resume, Sweep}
use Rattle.house_model.specs.declared.reply.Reply.TheVariants as reply
use Rattle.house_model.specs.Traffic.{whole}
use Rattle.house_model.specs.States.{State, keep}
use Rattle.house_model.specs.Steps.{concluded, effect_of, turn, verdict}
use Rattle.house_model.specs.Gate.{Verdict, does}
use Rattle.house_model.specs.Effects.{On}
use Rattle.house_model.specs.Sessions as op
use Rattle.house_model.specs.Presences.{most_of_presence}
use Rattle.house_model.specs.Lookups as lookups
use Rattle.house_model.specs.Histories.{made, next}
use Rattle.house_story.specs.Stanzas.{account, desk, phone, here, to_there, to_phone, to_all, for_desk, shown_here, come_there, come_to_all}
use Rattle.house_story.specs.Story.{her_house, her_id, acts, gives, says}
use Rattle.house_story.proofs.States.{for_phone, state1, state2, state3, state4, state5, state6, state7, state8, state9, state10, state11, state12}
use Rattle.house_story.proofs.States.{state13, state14, state15, state16, state17, state18, state19, state20, state21, state22, state23, state24}
use Rattle.house_story.proofs.States.{state25, state26, state27}
use Rattle.house_story.proofs.Words.{here-text, from-phone, from-desk}

-- where what an event does is known
pub by-verdict : (st : State) (e : Event) (v : Verdict) → verdict (keep (turn e st)) e ≡ v
    → next st (made e reply.Done []) ≡ (concluded whole (turn e st) v).state
by-verdict st e v is = ap (λ x. (concluded whole (turn e st) x).state) is

-- what a stanza does, by the text of what is queued

abbrev presence_verdict : List ℕ → Verdict
presence_verdict t =
    does reply.Done
    (On 1 (op.Act here) ∷ map effect_of (cast no_rooms (
    if nat_lt most_of_presence (length t) then refused (lookups.here (keep state7).world 1) here NotAcceptable
    else Set (Available 1 t (pos 0)) ∷ Queue 1 (address_text desk) t Direct ∷ [])))

abbrev message_verdict : Stanza → List ℕ → Verdict
message_verdict x t = does reply.Done (On 2 (op.Act x) ∷ On 1 (op.Push (for_desk t)) ∷ [])

abbrev account_verdict : List ℕ → Verdict
account_verdict t = does reply.Done (On 2 (op.Act to_all) ∷ On 1 (op.Push (record (for_desk t) { to = codes "a@b" })) ∷ [])

abbrev phone_verdict : List ℕ → Verdict
phone_verdict t = does reply.Done (On 1 (op.Act to_phone) ∷ On 2 (op.Push (record (for_desk t) { to = codes "a@b/p" })) ∷ [])

pub turn1 : next her_house (made (OpenLine 0) (reply.Opened 1) []) ≡ state1
turn1 = refl

pub turn2 : next state1 (made (Login 0 (codes "a")) reply.Done []) ≡ state2
turn2 = refl

pub turn3 : next state2 (made (Bind 0 [] (Some (codes "d")) 0 []) reply.Bound []) ≡ state3
turn3 = refl

pub turn4 : next state3 (made (Enable 0 true []) reply.Done []) ≡ state4
turn4 = refl

pub turn5 : next state4 (made (OpenLine 1) (reply.Opened 2) []) ≡ state5
turn5 = refl

pub turn6 : next state5 (made (Login 1 (codes "a")) reply.Done []) ≡ state6
turn6 = refl

pub turn7 : next state6 (made (Bind 1 [] (Some (codes "p")) 0 []) reply.Bound []) ≡ state7
turn7 = refl

verdict8 : verdict (keep (turn (Act 0 here 0) state7)) (Act 0 here 0) ≡ presence_verdict (codes "<presence from='a@b/d'/>")
verdict8 = ap presence_verdict here-text

pub turn8 : next state7 (acts 0 here) ≡ state8
unfolding escaped_in_value escaped_in_words
turn8 = by-verdict state7 (Act 0 here 0) (presence_verdict (codes "<presence from='a@b/d'/>")) verdict8

pub turn9 : next state8 (says 0 (answer.Bound [] (codes "a@b/d"))) ≡ state9
turn9 = refl

pub turn10 : next state9 (says 0 (answer.Enabled (Some her_id))) ≡ state10
turn10 = refl

pub turn11 : next state10 (gives 0 shown_here) ≡ state11
turn11 = refl

verdict12 : verdict (keep (turn (Act 1 to_there 0) state11)) (Act 1 to_there 0) ≡ (message_verdict to_there) come_there.rest
verdict12 = ap (message_verdict to_there) (from-phone desk)

pub turn12 : next state11 (acts 1 to_there) ≡ state12
unfolding escaped_in_value escaped_in_words
turn12 = by-verdict state11 (Act 1 to_there 0) ((message_verdict to_there) come_there.rest) verdict12

pub turn13 : next state12 (gives 0 come_there) ≡ state13
turn13 = refl

pub turn14 : next state13 (made (Ack 0 1) reply.Done []) ≡ state14
unfolding number number_among
turn14 = refl

verdict15 : verdict (keep (turn (Act 1 to_all 0) state14)) (Act 1 to_all 0) ≡ account_verdict come_to_all.rest
verdict15 = ap account_verdict (from-phone account)

pub turn15 : next state14 (acts 1 to_all) ≡ state15
unfolding escaped_in_value escaped_in_words
turn15 = by-verdict state14 (Act 1 to_all 0) (account_verdict come_to_all.rest) verdict15

pub turn16 : next state15 (gives 0 come_to_all) ≡ state16
turn16 = refl

pub turn17 : next state16 (made (DropLine 0 0) reply.Done []) ≡ state17
turn17 = refl

verdict18 : verdict (keep (turn (Act 1 to_there 0) state17)) (Act 1 to_there 0) ≡ (message_verdict to_there) come_there.rest
verdict18 = ap (message_verdict to_there) (from-phone desk)

pub turn18 : next state17 (acts 1 to_there) ≡ state18
unfolding escaped_in_value escaped_in_words
turn18 = by-verdict state17 (Act 1 to_there 0) ((message_verdict to_there) come_there.rest) verdict18

pub turn19 : next state18 (made (OpenLine 2) (reply.Opened 3) []) ≡ state19
turn19 = refl

pub turn20 : next state19 (made (Login 2 (codes "a")) reply.Done []) ≡ state20
turn20 = refl

pub turn21 : next state20 (made (Resume 2 (Some her_id) 2 0) reply.Resumed []) ≡ state21
unfolding number number_among
turn21 = refl

pub turn22 : next state21 (says 2 (answer.Resumed 1 her_id)) ≡ state22
turn22 = refl

pub turn23 : next state22 (gives 2 come_to_all) ≡ state23
turn23 = refl

pub turn24 : next state23 (gives 2 come_there) ≡ state24
turn24 = refl

verdict25 : verdict (keep (turn (Act 2 to_phone 0) state24)) (Act 2 to_phone 0) ≡ phone_verdict for_phone.rest
verdict25 = ap phone_verdict (from-desk phone)

pub turn25 : next state24 (acts 2 to_phone) ≡ state25
unfolding escaped_in_value escaped_in_words
turn25 = by-verdict state24 (Act 2 to_phone 0) (phone_verdict for_phone.rest) verdict25

pub turn26 : next state25 (made (CloseLine 1 0) reply.Done []) ≡ state26
turn26 = refl

pub turn27 : next state26 (made (Sweep 1 0) (reply.Swept 2) []) ≡ state27
turn27 = refl
