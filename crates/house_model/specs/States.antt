-- The state of the house: what no effect changes, and the world that effects change.
use Rattle.std.specs.Prelude.{ℕ, List, [], Bool}
use Rattle.jid_core.specs.Addresses.{Address}
use Rattle.session_table.specs.declared.line.Line.TheVariants.{Empty}
use Rattle.session_table.specs.declared.line.Line as stage
use Rattle.house_model.specs.declared.answer.Answer.{Answer}
use Rattle.house_model.specs.declared.limits.Limits.{Limits}
use Rattle.archive_table.specs.Archives.{Archives, no_archives}
use Rattle.contact_table.specs.Books.{Book, empty_book}
use Rattle.muc_service.specs.Rooms.{Rooms, no_rooms}
use Rattle.house_model.specs.Sessions.{Hold, Held, Away, Ended, Gone, Rest, Session, session, gone, unmade}
use Rattle.house_model.specs.Traffic.{Traffic, whole, KeptTraffic, nothing_kept, keep_traffic}

-- a place for a connection: how far the one that is there is, and what waits to be answered, the oldest first
pub record Line : Type 0 where
  pub stage : stage.Line
  pub answers : List Answer

pub record Head : Type 0 where
  pub domain : Address
  pub users : List (List ℕ)
  pub workers : ℕ  -- how many lines there are
  pub limits : Limits  -- how many sessions there may be
  pub turns : ℕ  -- how many events there were
  pub moment : ℕ  -- the greatest moment so far

-- Lines are numbered from 0, and sessions from 1.
pub record World (T : Type 0) : Type 0 where
  pub opened : ℕ  -- how many connections there were
  pub lines : ℕ → Line
  pub made : ℕ  -- how many sessions there were
  pub sessions : ℕ → Session T
  pub book : Book
  pub rooms : Rooms
  pub archives : Archives

pub record House (T : Type 0) : Type 0 where
  pub head : Head
  pub world : World T

-- whole lists and true numbers
abbrev pub State : Type 0
State = House Traffic

-- what the code has
abbrev pub Kept : Type 0
Kept = House KeptTraffic

abbrev pub empty_line : Line
empty_line = record { stage = Empty; answers = [] }

-- how many sessions a house may have, and a user, where nothing else is said
abbrev pub usual : Limits
usual = record { sessions = 512; of_user = 16 }

-- a house before its first event
abbrev pub opening_with : Limits → Address → List (List ℕ) → ℕ → State
opening_with limits domain users workers = record {
  head = record { domain = domain; users = users; workers = workers; limits = limits; turns = 0; moment = 0 };
  world = record { opened = 0; lines = λ w. empty_line; made = 0; sessions = λ s. unmade whole; book = empty_book; rooms = no_rooms; archives = no_archives };
}

-- the same with the usual limits
abbrev pub opening : Address → List (List ℕ) → ℕ → State
opening domain users workers = opening_with usual domain users workers

-- what is kept of a session; nothing of one that departed
abbrev pub keep_by : Bool → Hold → Traffic → Rest → Session KeptTraffic
keep_by b (Held w c) t r = session b (Held w c) (keep_traffic t) r
keep_by b Away t r = session b Away (keep_traffic t) r
keep_by b (Ended cause) t r = session b (Ended cause) (keep_traffic t) r
keep_by b Gone t r = gone nothing_kept

abbrev pub keep_session : Session Traffic → Session KeptTraffic
keep_session s = keep_by s.counts s.hold s.traffic s.rest

abbrev pub keep_world : World Traffic → World KeptTraffic
keep_world world = record {
  opened = world.opened;
  lines = world.lines;
  made = world.made;
  sessions = λ s. keep_session (world.sessions s);
  book = world.book;
  rooms = world.rooms;
  archives = world.archives;
}

abbrev pub keep : State → Kept
keep st = record { head = st.head; world = keep_world st.world }
