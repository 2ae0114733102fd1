-- A session: what a binding makes (RFC 6120, 7), with what stream management keeps of it (XEP-0198).
use Rattle.std.specs.Prelude.{ℕ, nat_le, ℤ, pos, Bool, true, false, ◌||◌, List, [], Option, Some, None}
use Rattle.jid_core.specs.Addresses.{Address}
use Rattle.sm_queue.specs.Queues.{Queue, empty}
use Rattle.sm_resume.specs.declared.decision.Cause.{Cause}
use Rattle.sm_resume.specs.declared.id.ResumeId.{ResumeId}
use Rattle.session_table.specs.declared.life.Life.{Life}
use Rattle.session_table.specs.declared.life.Life.TheVariants.{Live, Over}

pub record SessionRecord : Type 0 where
  pub number : ℕ
  pub address : Address
  pub holder : Option ℕ  -- the line that holds it
  pub state : Life
  pub deadline : Option ℕ  -- the moment until which a session that no line holds can be resumed
  pub queue : Queue
  pub given_up : ℕ  -- the place of the queue's first stanza in the list of all
  pub asked_at : ℕ  -- the place up to which an acknowledgement was asked for
  pub counts : Bool  -- whether stream management is enabled
  pub resume_id : Option ResumeId
  pub acted : ℕ  -- how many of the client's stanzas were acted on
  pub base_in : ℕ  -- how many of these the inward count leaves out
  pub presence : Option (List ℕ)
  pub priority : ℤ
  pub directed : List Address
  pub wants_roster : Bool
  pub pushes : ℕ

-- what a session's owner sees to; the table sees to the rest
pub record OwnRecord : Type 0 where
  pub queue : Queue
  pub given_up : ℕ
  pub asked_at : ℕ
  pub counts : Bool
  pub resume_id : Option ResumeId
  pub acted : ℕ
  pub base_in : ℕ
  pub presence : Option (List ℕ)
  pub priority : ℤ
  pub directed : List Address
  pub wants_roster : Bool
  pub pushes : ℕ

-- what the owner of a session has of it
abbrev pub own_of : SessionRecord → OwnRecord
own_of s = record {
  queue = s.queue;
  given_up = s.given_up;
  asked_at = s.asked_at;
  counts = s.counts;
  resume_id = s.resume_id;
  acted = s.acted;
  base_in = s.base_in;
  presence = s.presence;
  priority = s.priority;
  directed = s.directed;
  wants_roster = s.wants_roster;
  pushes = s.pushes;
}

-- the session of which its owner has this; what the table sees to stays as it is
abbrev pub with_own : OwnRecord → SessionRecord → SessionRecord
with_own own s = record s {
  queue = own.queue;
  given_up = own.given_up;
  asked_at = own.asked_at;
  counts = own.counts;
  resume_id = own.resume_id;
  acted = own.acted;
  base_in = own.base_in;
  presence = own.presence;
  priority = own.priority;
  directed = own.directed;
  wants_roster = own.wants_roster;
  pushes = own.pushes;
}

-- a session that a line has just bound
abbrev pub begun : (number : ℕ) → Address → (w : ℕ) → SessionRecord
begun number address w = record {
  number = number;
  address = address;
  holder = Some w;
  state = Live;
  deadline = None;
  queue = empty 0;
  given_up = 0;
  asked_at = 0;
  counts = false;
  resume_id = None;
  acted = 0;
  base_in = 0;
  presence = None;
  priority = pos 0;
  directed = [];
  wants_roster = false;
  pushes = 0;
}

-- a line holds it, so that no deadline runs
abbrev pub held_by : ℕ → SessionRecord → SessionRecord
held_by w s = record s { holder = Some w; deadline = None }

-- no line holds it, and it can be resumed until the deadline
abbrev pub left_until : ℕ → SessionRecord → SessionRecord
left_until deadline s = record s { holder = None; deadline = Some deadline }

-- it has ended, and waits to be taken away
abbrev pub ended : Cause → SessionRecord → SessionRecord
ended cause s = record s { state = Over cause; holder = None; deadline = None }

abbrev pub is_over : Life → Bool
is_over Live = false
is_over (Over cause) = true

abbrev pub has_come : ℕ → Option ℕ → Bool
has_come now None = false
has_come now (Some moment) = nat_le moment now

-- whether it is to be taken away: it has ended, or its deadline has come
abbrev pub is_due : ℕ → SessionRecord → Bool
is_due now s = is_over s.state || has_come now s.deadline
