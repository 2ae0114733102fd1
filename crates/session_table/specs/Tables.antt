-- Lines and sessions by number. A line is a place for a connection; connections and sessions are numbered
-- from 1 as they come.
use Rattle.std.specs.Prelude.{◌≡◌, ℕ, ◌+◌, ◌<◌, ◌≤◌, nat_eq, Bool, true, false, List, [], ◌∷◌, ◌++◌, filter, replicate, Option, Some}
use Rattle.std.specs.Prelude.{None, IfSome, IsSomeAnd, is_some, if◌then◌else◌, slice_index_or, slice_set}
use Rattle.std.specs.List.{list_any}
use Rattle.std.specs.Map.{lookup, remove_entry}
use Rattle.jid_core.specs.Addresses.{Address, same_address, same_part}
use Rattle.sm_resume.specs.declared.decision.Cause.{Cause}
use Rattle.session_table.specs.declared.life.Life.TheVariants.{Live}
use Rattle.session_table.specs.declared.line.Line.{Line}
use Rattle.session_table.specs.declared.line.Line.TheVariants.{Empty, Fresh, Logged, Bound, Over}
use Rattle.session_table.specs.Sessions.{SessionRecord, begun, held_by, is_due}

pub record TableRecord : Type 0 where
  pub lines : List Line
  pub opened : ℕ  -- how many connections were opened
  pub made : ℕ  -- how many sessions were made
  pub sessions : List (ℕ × SessionRecord)  -- those that are there, with their numbers, which rise
  pub spare : ℕ  -- how many sessions more can be made without memory being taken

-- a table of so many lines
abbrev pub new_table : (lines spare : ℕ) → TableRecord
new_table lines spare = record { lines = replicate lines Empty; opened = 0; made = 0; sessions = []; spare = spare }

abbrev pub line_of : ℕ → TableRecord → Line
line_of w t = slice_index_or t.lines w Empty

abbrev pub session_of : ℕ → TableRecord → Option SessionRecord
session_of s t = lookup (nat_eq s) t.sessions

-- the numbers rise from one session to the next, from above `last`, and none is above `made`
abbrev pub Rises : ℕ → List (ℕ × SessionRecord) → ℕ → Type 0
Rises last [] made = last ≤ made
Rises last (e ∷ more) made = (last < e.0) × Rises e.0 more made

-- the conditions of the calls

abbrev pub is_empty : Line → Bool
is_empty Empty = true
is_empty _ = false

abbrev pub is_fresh : Line → Bool
is_fresh (Fresh conn) = true
is_fresh _ = false

abbrev pub is_logged : Line → Bool
is_logged (Logged conn user) = true
is_logged _ = false

abbrev pub is_there : ℕ → TableRecord → Bool
is_there s t = is_some (session_of s t)

-- session s is there, and this holds of it
abbrev pub IsThereWith : ℕ → (SessionRecord → Type 0) → TableRecord → Type 0
IsThereWith s P t = IsSomeAnd (session_of s t) P

abbrev pub IsLive : ℕ → TableRecord → Type 0
IsLive s t = IsThereWith s (λ x. x.state ≡ Live) t

abbrev pub is_line : ℕ → Option ℕ → Bool
is_line w None = false
is_line w (Some v) = nat_eq w v

-- whether some session has the line as its holder
abbrev pub holds : ℕ → TableRecord → Bool
holds w t = list_any (λ e. is_line w e.1.holder) t.sessions

-- what the calls change

abbrev pub conn_of : Line → ℕ
conn_of Empty = 0
conn_of (Fresh conn) = conn
conn_of (Logged conn user) = conn
conn_of (Bound conn session) = conn
conn_of (Over conn cause) = conn

abbrev pub with_line : ℕ → Line → TableRecord → TableRecord
with_line w line t = record t { lines = slice_set t.lines w line }

-- what becomes of the session of this number; the others stay as they are
abbrev pub changed_in : ℕ → (SessionRecord → SessionRecord) → List (ℕ × SessionRecord) → List (ℕ × SessionRecord)
changed_in s change [] = []
changed_in s change (e ∷ more) =
    (e.0, if nat_eq s e.0 then change e.1 else e.1) ∷ changed_in s change more

abbrev pub changed : ℕ → (SessionRecord → SessionRecord) → TableRecord → TableRecord
changed s change t = record t { sessions = changed_in s change t.sessions }

abbrev pub with_session : ℕ → TableRecord → SessionRecord → TableRecord
with_session s t session = changed s (λ _. session) t

abbrev pub with_conn : (w conn : ℕ) → TableRecord → TableRecord
with_conn w conn t = with_line w (Fresh conn) (record t { opened = conn })

abbrev pub logged_in : (w user : ℕ) → TableRecord → TableRecord
logged_in w user t = with_line w (Logged (conn_of (line_of w t)) user) t

abbrev pub bound_at : (w s : ℕ) → TableRecord → TableRecord
bound_at w s t = with_line w (Bound (conn_of (line_of w t)) s) t

-- the next session, which the line holds
abbrev pub bound : ℕ → Address → TableRecord → TableRecord
bound w address t =
    bound_at w (t.made + 1) (record t {
      made = t.made + 1;
      sessions = t.sessions ++ (t.made + 1, begun (t.made + 1) address w) ∷ [];
    })

abbrev pub attached : (s w : ℕ) → TableRecord → TableRecord
attached s w t = bound_at w s (changed s (held_by w) t)

abbrev pub line_ended : ℕ → Cause → TableRecord → TableRecord
line_ended w cause t = with_line w (Over (conn_of (line_of w t)) cause) t

abbrev pub without : ℕ → TableRecord → TableRecord
without s t = record t { sessions = remove_entry (nat_eq s) t.sessions }

-- the number of the first session that passes a test
abbrev pub first_that : (SessionRecord → Bool) → List (ℕ × SessionRecord) → Option ℕ
first_that test [] = None
first_that test (e ∷ more) = if test e.1 then Some e.0 else first_that test more

-- the first session at an address
abbrev pub number_at : Address → List (ℕ × SessionRecord) → Option ℕ
number_at address sessions = first_that (λ x. same_address x.address address) sessions

-- the first session that is due
abbrev pub first_due : ℕ → List (ℕ × SessionRecord) → Option ℕ
first_due now sessions = first_that (is_due now) sessions

-- of the sessions of which this holds the answer is the one of the least number, or none where there is none
pub record IsFirst (P : SessionRecord → Type 0) (t : TableRecord) (answer : Option ℕ) : Type 0 where
  pub found : IfSome answer (λ s. IsThereWith s P t)
  pub least : (s : ℕ) → IsThereWith s P t → IsSomeAnd answer (λ n. n ≤ s)

-- whether a session is of the user whose addresses have this local part
abbrev pub is_of : Option (List ℕ) → ℕ × SessionRecord → Bool
is_of local e = same_part e.1.address.local local

-- the sessions of a user
abbrev pub of_user : Option (List ℕ) → List (ℕ × SessionRecord) → List (ℕ × SessionRecord)
of_user local sessions = filter (is_of local) sessions
