-- A client that is cut in the middle of a room's talk, and resumes its session. Her two clients have one nick in the room.
use Rattle.std.specs.Prelude.{ℕ, zero, suc, List, [], ◌∷◌, ◌++◌, map, flat_map, Some, None, codes}
use Rattle.jid_core.specs.Addresses.{Address, address_text}
use Rattle.stanza_tree.specs.Spelling.{client_space}
use Rattle.stanza_tree.specs.declared.frame.Entry.{Entry}
use Rattle.stanza_tree.specs.declared.frame.Origin.TheVariants.{Opening, Live}
use Rattle.stanza_tree.specs.declared.node.Element.{Element}
use Rattle.stanza_model.specs.Errors.{element_of, plain_attr}
use Rattle.stanza_model.specs.declared.kinds.MessageForm.TheVariants.{Groupchat}
use Rattle.stanza_model.specs.declared.kinds.PresenceForm.TheVariants.{Available}
use Rattle.stanza_model.specs.declared.stanza.Stanza.{Stanza}
use Rattle.stanza_model.specs.declared.stanza.Stanza.TheVariants.{Message, Presence}
use Rattle.sm_account.specs.Accounts.{Account}
use Rattle.muc_room.specs.Seats.{sessions_of}
use Rattle.muc_service.specs.Rooms.{Rooms}
use Rattle.house_model.specs.Histories.{IsSent, Turn, made}
use Rattle.house_model.specs.declared.answer.Answer.TheVariants as answer
use Rattle.house_model.specs.declared.event.Event.TheVariants.{OpenLine, Login, DropLine, Resume}
use Rattle.house_model.specs.declared.reply.Reply.TheVariants as reply
use Rattle.house_story.specs.Story.{acts, after_one, come, gives, her_id, says}

abbrev pub room : Address
room = record { local = Some (codes "r"); domain = codes "rooms.b"; resource = None }

abbrev pub seat : Address
seat = record room { resource = Some (codes "n") }

-- `<presence to='r@rooms.b/n'/>`
abbrev pub enter_element : Element
enter_element = element_of client_space (codes "presence") (plain_attr (codes "to") (address_text seat) ∷ []) []

abbrev pub enter : Stanza
enter = Presence (Some seat) Available enter_element

-- `<message to='r@rooms.b' type='groupchat'/>`
abbrev pub say_element : Element
say_element =
    element_of client_space (codes "message")
    (plain_attr (codes "to") (address_text room) ∷ plain_attr (codes "type") (codes "groupchat") ∷ []) []

abbrev pub say : Stanza
say = Message (Some room) Groupchat say_element

-- What is queued for the desk: the items of its stay, by their numbers, and the subject as the stay begins.

abbrev pub heard : ℕ → List ℕ → Entry
heard number rest = record { to = codes "a@b/d"; rest = rest; origin = Live 1 1 number }

-- the presence of the occupant, to a session of its own
abbrev pub own_presence : (jid more : List ℕ) → List ℕ
own_presence jid more =
    codes "<presence from='r@rooms.b/n'><x xmlns='http://jabber.org/protocol/muc#user'><item affiliation='owner' jid='" ++ jid
    ++ codes "' role='moderator'/><status code='110'/><status code='170'/>" ++ more ++ codes "</x></presence>"

-- the room is made, and the desk enters it
abbrev pub desk_enters : Entry
desk_enters = heard 0 (own_presence (codes "a@b/d") (codes "<status code='201'/>"))

abbrev pub no_subject : Entry
no_subject = record {
  to = codes "a@b/d";
  rest = codes "<message from='r@rooms.b' type='groupchat'><subject/></message>";
  origin = Opening 1 1;
}

-- the phone enters it, under the same nick
abbrev pub phone_enters : Entry
phone_enters = heard 1 (own_presence (codes "a@b/d") [])

abbrev pub said : ℕ → Entry
said number = heard number (codes "<message type='groupchat' from='r@rooms.b/n'/>")

-- The desk makes a room by entering it, and the phone enters it too. The phone sends the room a message, which is given to the desk, and the
-- desk's connection is lost before it says that it handled that.
abbrev pub until_lost : List Turn
until_lost =
    acts 0 enter ∷ says 0 (answer.Bound [] (codes "a@b/d")) ∷ says 0 (answer.Enabled (Some her_id)) ∷ gives 0 desk_enters ∷ gives 0 no_subject
    ∷ acts 1 enter ∷ gives 0 phone_enters ∷ acts 1 say ∷ gives 0 (said 2) ∷ made (DropLine 0 0) reply.Done [] ∷ []

-- The phone sends one more. The desk comes again, says that it handled three entries, and is given both messages.
abbrev pub until_heard : List Turn
until_heard =
    acts 1 say ∷ made (OpenLine 2) (reply.Opened 3) [] ∷ made (Login 2 (codes "a")) reply.Done []
    ∷ made (Resume 2 (Some her_id) 3 0) reply.Resumed [] ∷ says 2 (answer.Resumed 1 her_id) ∷ gives 2 (said 2) ∷ gives 2 (said 3) ∷ []

abbrev pub talk : List Turn
talk = come ++ until_lost ++ until_heard

abbrev pub three_then_two : ℕ → ℕ
three_then_two zero = 3
three_then_two (suc i) = 2

-- it handles three entries on the first connection and two on the second
abbrev pub her_reading : Account Stanza
her_reading = record {
  stanzas = enter ∷ [];
  handles = three_then_two;
  begins = after_one;
  lowest = λ i. 0;
  highest = λ i. 1;
}

-- the sessions of each occupant of each room
abbrev pub seats_in : Rooms → List (List ℕ)
seats_in rooms = flat_map (λ h. map sessions_of h.room.occupants) rooms.hosted

-- each stanza is one that a stream can bring
pub record AreSaid : Type 0 where
  pub enter : IsSent enter
  pub say : IsSent say
