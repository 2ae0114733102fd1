-- What the definitions see of a world in memory.
use Rattle.std.specs.Prelude.{ℕ, List, [], Option, Some, None, slice_index_or}
use Rattle.session_table.specs.declared.life.Life.{Life}
use Rattle.session_table.specs.declared.life.Life.TheVariants.{Live, Over}
use Rattle.session_table.specs.declared.line.Line as stage
use Rattle.session_table.specs.declared.line.Line.TheVariants.{Empty}
use Rattle.session_table.specs.Sessions.{SessionRecord}
use Rattle.session_table.specs.Tables.{TableRecord, conn_of, line_of, session_of}
use Rattle.house_model.specs.declared.answer.Answer.{Answer}
use Rattle.archive_table.specs.Archives.{Archives}
use Rattle.contact_table.specs.Books.{Book}
use Rattle.muc_service.specs.Rooms.{Rooms}
use Rattle.house_model.specs.Sessions.{Hold, Held, Away, Ended, Rest, Session, session, gone}
use Rattle.house_model.specs.Traffic.{KeptTraffic, nothing_kept}
use Rattle.house_model.specs.States.{Line, World}

-- who holds a session: the connection that is at its line
abbrev pub hold_by : Life → Option ℕ → List stage.Line → Hold
hold_by (Over cause) holder lines = Ended cause
hold_by Live None lines = Away
hold_by Live (Some w) lines = Held w (conn_of (slice_index_or lines w Empty))

abbrev pub traffic_of : SessionRecord → KeptTraffic
traffic_of x = record {
  waiting = x.queue.waiting;
  given = x.queue.given;
  count = x.queue.kept;
  given_up = x.given_up;
  asked_at = x.asked_at;
  acted = x.acted;
  base_in = x.base_in;
}

abbrev pub rest_of : SessionRecord → Rest
rest_of x = record {
  address = x.address;
  resume_id = x.resume_id;
  deadline = x.deadline;
  manner = record { presence = x.presence; priority = x.priority; directed = x.directed; wants_roster = x.wants_roster; pushes = x.pushes };
}

-- the session of a number, as it is kept; one that is not there is gone, or not made yet
abbrev pub session_by : List stage.Line → Option SessionRecord → Session KeptTraffic
session_by lines None = gone nothing_kept
session_by lines (Some x) = session x.counts (hold_by x.state x.holder lines) (traffic_of x) (rest_of x)

abbrev pub sessions_of : TableRecord → ℕ → Session KeptTraffic
sessions_of t s = session_by t.lines (session_of s t)

abbrev pub lines_of : TableRecord → List (List Answer) → ℕ → Line
lines_of t answers w = record { stage = line_of w t; answers = slice_index_or answers w [] }

abbrev pub world_of : TableRecord → List (List Answer) → Book → Rooms → Archives → World KeptTraffic
world_of t answers k rooms archives = record {
  opened = t.opened;
  lines = lines_of t answers;
  made = t.made;
  sessions = sessions_of t;
  book = k;
  rooms = rooms;
  archives = archives;
}
