-- Which sessions and users the house finds. All is read off what the code keeps.
use Rattle.std.specs.Prelude.{ℕ, List, map, position, bytes_eq, Option, Some, None, is_some, Bool, true, false, ◌&&◌, if◌then◌else◌}
use Rattle.jid_core.specs.Addresses.{Address, same_address, same_part}
use Rattle.stanza_model.specs.declared.here.Here.{Here}
use Rattle.house_model.specs.Numbered.{least, all_passing}
use Rattle.house_model.specs.Sessions.{Hold, Held, Away, Ended, Gone, Session}
use Rattle.house_model.specs.Traffic.{KeptTraffic}
use Rattle.house_model.specs.States.{World, Kept}

-- which sessions are there

abbrev pub is_there_by : Hold → Bool → Bool
is_there_by (Held w c) counts = true
is_there_by Away counts = counts
is_there_by (Ended cause) counts = true
is_there_by Gone counts = false

-- a session that is not made, or departed, is away and does not count
abbrev pub is_there : Session KeptTraffic → Bool
is_there s = is_there_by s.hold s.counts

abbrev pub is_at : Address → Session KeptTraffic → Bool
is_at a s = is_there s && same_address s.rest.address a

abbrev pub session_in : World KeptTraffic → Address → Option ℕ
session_in world a = least world.made (λ s. is_at a (world.sessions s))

abbrev pub session_at : Kept → Address → Option ℕ
session_at k a = session_in k.world a

-- which of them go on

abbrev pub goes_on : Hold → Bool
goes_on (Held w c) = true
goes_on Away = true
goes_on (Ended cause) = false
goes_on Gone = false

abbrev pub if_it_goes_on : World KeptTraffic → Option ℕ → Option ℕ
if_it_goes_on world None = None
if_it_goes_on world (Some r) = if goes_on (world.sessions r).hold then Some r else None

-- the session at an address, where it goes on
abbrev pub live_at : World KeptTraffic → Address → Option ℕ
live_at world a = if_it_goes_on world (session_in world a)

-- Whose they are. One that is over is there until it departs: it is listed, shown and in its rooms, though nothing is queued for it any more.

abbrev pub is_of : List ℕ → Session KeptTraffic → Bool
is_of user s = is_there s && same_part s.rest.address.local (Some user)

-- the sessions of a user, by number
abbrev pub numbers_of : World KeptTraffic → (user : List ℕ) → List ℕ
numbers_of world user = all_passing world.made (λ s. is_of user (world.sessions s))

-- all sessions, by number
abbrev pub numbers_there : World KeptTraffic → List ℕ
numbers_there world = all_passing world.made (λ s. is_there (world.sessions s))

-- a session as the rules on stanzas see it
abbrev pub here : World KeptTraffic → ℕ → Here
here world s = record {
  session = s;
  address = (world.sessions s).rest.address;
  available = is_some (world.sessions s).rest.manner.presence;
  priority = (world.sessions s).rest.manner.priority;
  wants_roster = (world.sessions s).rest.manner.wants_roster;
  pushes = (world.sessions s).rest.manner.pushes;
}

-- the sessions of a user
abbrev pub sessions_of : World KeptTraffic → (user : List ℕ) → List Here
sessions_of world user = map (here world) (numbers_of world user)

-- which users there are

abbrev pub user_place : List ℕ → List (List ℕ) → Option ℕ
user_place user users = position (λ u. bytes_eq u user) users

abbrev pub has_user : List (List ℕ) → (user : List ℕ) → Bool
has_user users user = is_some (user_place user users)
