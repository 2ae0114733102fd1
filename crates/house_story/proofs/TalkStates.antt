-- The states that the talk goes through.
use Rattle.std.specs.Prelude.{ℕ, List, [], ◌∷◌, ◌++◌, None, Some, false, true, codes}
use Rattle.jid_core.specs.Addresses.{Address}
use Rattle.stanza_tree.specs.declared.frame.Entry.{Entry}
use Rattle.stanza_tree.specs.declared.frame.Origin.TheVariants.{Opening, Live}
use Rattle.stanza_model.specs.declared.room.Affiliation.TheVariants.{Owner}
use Rattle.stanza_model.specs.declared.room.Occupant.{Occupant}
use Rattle.stanza_model.specs.declared.room.Role.TheVariants.{Moderator}
use Rattle.stanza_model.specs.declared.room.Seat.{Seat}
use Rattle.stanza_model.specs.declared.stanza.Stanza.{Stanza}
use Rattle.muc_room.specs.Entering.{default_config}
use Rattle.muc_service.specs.Rooms.{Rooms}
use Rattle.house_model.specs.Numbered.{put}
use Rattle.house_model.specs.Sessions.{Away, Held, Session, silent}
use Rattle.house_model.specs.Traffic.{Traffic}
use Rattle.house_model.specs.States.{Line, State}
use Rattle.house_story.specs.Stanzas.{account, desk, phone}
use Rattle.house_story.specs.Story.{her_house, her_id}
use Rattle.house_story.specs.Talk.{desk_enters, enter, no_subject, own_presence, phone_enters, room, said, say}
use Rattle.house_story.proofs.States.{desk_with, lines7, lines9, lines10, lines17, lines19, lines20, lines21, lines22, session_of, sessions7}
use Rattle.house_story.proofs.States.{traffic_of}

-- after so many turns, with these rooms, connections, lines and sessions
abbrev pub state_in : Rooms → (turns opened : ℕ) → (ℕ → Line) → (ℕ → Session Traffic) → State
state_in rooms turns opened lines sessions = record {
  head = record her_house.head { turns = turns };
  world = record her_house.world { opened = opened; lines = lines; made = 2; sessions = sessions; rooms = rooms };
}

-- The room, with its one occupant.

abbrev pub seat_of : (session stay : ℕ) → Address → Seat
seat_of session stay address = record { session = session; address = address; stay = stay }

abbrev pub occupant_with : List Seat → (spoke : ℕ) → Occupant
occupant_with seats spoke =
    record { seats = seats; nick = codes "n"; affiliation = Owner; role = Moderator; presence = []; spoke = spoke }

abbrev pub rooms_with : (stays items : ℕ) → Occupant → Rooms
rooms_with stays items o = record {
  made = 1;
  stays = stays;
  hosted =
      record {
        room = record {
          number = 1;
          address = room;
          config = default_config;
          locked = true;
          affiliations = record { address = account; affiliation = Owner } ∷ [];
          occupants = o ∷ [];
          subject = None;
        };
        items = items;
      }
      ∷ [];
}

abbrev pub rooms8 : Rooms
rooms8 = rooms_with 1 1 (occupant_with (seat_of 1 1 desk ∷ []) 1)

abbrev pub rooms_of_two : ℕ → Rooms
rooms_of_two items = rooms_with 2 items (occupant_with (seat_of 1 1 desk ∷ seat_of 2 2 phone ∷ []) 2)

-- The session of the desk: what it has queued.

abbrev pub first_two : List Entry
first_two = desk_enters ∷ no_subject ∷ []

abbrev pub first_three : List Entry
first_three = desk_enters ∷ no_subject ∷ phone_enters ∷ []

abbrev pub first_four : List Entry
first_four = desk_enters ∷ no_subject ∷ phone_enters ∷ said 2 ∷ []

abbrev pub all_five : List Entry
all_five = desk_enters ∷ no_subject ∷ phone_enters ∷ said 2 ∷ said 3 ∷ []

abbrev pub desk_at : List Entry → (kept sent : ℕ) → Session Traffic
desk_at queued kept sent = desk_with (traffic_of queued kept sent 0 (enter ∷ [])) silent

abbrev pub desk_lost : List Entry → Session Traffic
desk_lost queued = session_of true Away (traffic_of queued 0 4 0 (enter ∷ [])) desk (Some her_id) (Some 300000) silent

abbrev pub desk_back : (sent : ℕ) → Session Traffic
desk_back sent = session_of true (Held 2 3) (traffic_of all_five 3 sent 3 (enter ∷ [])) desk (Some her_id) None silent

-- that of the phone

abbrev pub heard_too : (number : ℕ) → List ℕ → Entry
heard_too number rest = record { to = codes "a@b/p"; rest = rest; origin = Live 1 2 number }

abbrev pub enters_too : Entry
enters_too = heard_too 1 (own_presence (codes "a@b/p") [])

abbrev pub no_subject_too : Entry
no_subject_too = record { to = codes "a@b/p"; rest = no_subject.rest; origin = Opening 1 2 }

abbrev pub said_too : ℕ → Entry
said_too number = heard_too number (said number).rest

abbrev pub phone_at : List Entry → List Stanza → Session Traffic
phone_at queued acts = session_of false (Held 1 2) (traffic_of queued 0 0 0 acts) phone None None silent

abbrev pub two_too : List Entry
two_too = enters_too ∷ no_subject_too ∷ []

-- The sessions, by turns.

abbrev sessions8 : ℕ → Session Traffic
sessions8 = put 1 (desk_at first_two 0 0) (put 1 (desk_at (desk_enters ∷ []) 0 0) (put 1 (desk_at [] 0 0) sessions7))

abbrev sessions11 : ℕ → Session Traffic
sessions11 = put 1 (desk_at first_two 0 1) sessions8

abbrev sessions12 : ℕ → Session Traffic
sessions12 = put 1 (desk_at first_two 0 2) sessions11

abbrev sessions13 : ℕ → Session Traffic
sessions13 =
    put 2 (phone_at two_too (enter ∷ []))
    (put 2 (phone_at (enters_too ∷ []) (enter ∷ [])) (put 1 (desk_at first_three 0 2) (put 2 (phone_at [] (enter ∷ [])) sessions12)))

abbrev sessions14 : ℕ → Session Traffic
sessions14 = put 1 (desk_at first_three 0 3) sessions13

abbrev sessions15 : ℕ → Session Traffic
sessions15 =
    put 2 (phone_at (two_too ++ said_too 2 ∷ []) (enter ∷ say ∷ []))
    (put 1 (desk_at first_four 0 3) (put 2 (phone_at two_too (enter ∷ say ∷ [])) sessions14))

abbrev sessions16 : ℕ → Session Traffic
sessions16 = put 1 (desk_at first_four 0 4) sessions15

abbrev sessions17 : ℕ → Session Traffic
sessions17 = put 1 (desk_lost first_four) sessions16

abbrev sessions18 : ℕ → Session Traffic
sessions18 =
    put 2 (phone_at (two_too ++ said_too 2 ∷ said_too 3 ∷ []) (enter ∷ say ∷ say ∷ []))
    (put 1 (desk_lost all_five) (put 2 (phone_at (two_too ++ said_too 2 ∷ []) (enter ∷ say ∷ say ∷ [])) sessions17))

abbrev sessions21 : ℕ → Session Traffic
sessions21 = put 1 (desk_back 3) sessions18

abbrev sessions23 : ℕ → Session Traffic
sessions23 = put 1 (desk_back 4) sessions21

abbrev sessions24 : ℕ → Session Traffic
sessions24 = put 1 (desk_back 5) sessions23

-- The states.

abbrev pub talk8 : State
talk8 = state_in rooms8 8 2 lines7 sessions8

abbrev pub talk9 : State
talk9 = state_in rooms8 9 2 lines9 sessions8

abbrev pub talk10 : State
talk10 = state_in rooms8 10 2 lines10 sessions8

abbrev pub talk11 : State
talk11 = state_in rooms8 11 2 lines10 sessions11

abbrev pub talk12 : State
talk12 = state_in rooms8 12 2 lines10 sessions12

abbrev pub talk13 : State
talk13 = state_in (rooms_of_two 2) 13 2 lines10 sessions13

abbrev pub talk14 : State
talk14 = state_in (rooms_of_two 2) 14 2 lines10 sessions14

abbrev pub talk15 : State
talk15 = state_in (rooms_of_two 3) 15 2 lines10 sessions15

abbrev pub talk16 : State
talk16 = state_in (rooms_of_two 3) 16 2 lines10 sessions16

abbrev pub talk17 : State
talk17 = state_in (rooms_of_two 3) 17 2 lines17 sessions17

abbrev pub talk18 : State
talk18 = state_in (rooms_of_two 4) 18 2 lines17 sessions18

abbrev pub talk19 : State
talk19 = state_in (rooms_of_two 4) 19 3 lines19 sessions18

abbrev pub talk20 : State
talk20 = state_in (rooms_of_two 4) 20 3 lines20 sessions18

abbrev pub talk21 : State
talk21 = state_in (rooms_of_two 4) 21 3 lines21 sessions21

abbrev pub talk22 : State
talk22 = state_in (rooms_of_two 4) 22 3 lines22 sessions21

abbrev pub talk23 : State
talk23 = state_in (rooms_of_two 4) 23 3 lines22 sessions23

abbrev pub talk24 : State
talk24 = state_in (rooms_of_two 4) 24 3 lines22 sessions24
