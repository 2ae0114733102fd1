-- One session as the server has it, and what happens to it. XEP-0198: stanzas are counted both ways, and a session
-- whose connection is lost waits for another one that resumes it. S is the type of what its client sends.
use Rattle.std.specs.Prelude.{ℕ, ◌+◌, ◌-◌, List, [], ◌∷◌, ◌++◌, length, drop, slice_get, Option, Some, None, Bool, true, false, if◌then◌else◌}
use Rattle.stanza_tree.specs.declared.frame.Entry.{Entry}
use Rattle.sm_counters.specs.Numbers.{count_of, number}
use Rattle.sm_queue.specs.Queues.{has_room}

-- This connection holds the session; or none does, since it waits to be resumed or isn't made yet; or it has ended.
pub data Hold : Type 0 where
  Held : (connection : ℕ) → Hold
  Away : Hold
  Ended : Hold

-- Both lists only grow. A place in a list is the number of entries before it.
pub record Core (S : Type 0) : Type 0 where
  pub counts : Bool  -- whether stream management is enabled
  pub hold : Hold
  pub queued : List Entry  -- all that was ever queued for the client
  pub kept : ℕ  -- the entries before this place are done with
  pub sent : ℕ  -- the entries before this place were sent
  pub asked_at : ℕ  -- where `sent` was when the client was last asked for its count
  pub base_out : ℕ  -- where `sent` was when the session began to count
  pub acts : List S  -- all that the server ever acted on for the client
  pub base_in : ℕ  -- how many these were when the session began to count

pub data Op (S : Type 0) : Type 0 where
  Begin : (connection : ℕ) → Op S  -- the session is made, by a binding
  Push : (entry : Entry) → Op S  -- an entry is queued for the client
  Pull : Op S  -- the oldest entry that wasn't sent is sent
  Request : Op S  -- the server sends `r`
  Enable : Op S  -- the client sends `enable`
  Ack : (count : ℕ) → Op S  -- the client sends `a`, with its count of what it handled
  Ask : Op S  -- the client sends `r`, and is told the server's count
  Act : (stanza : S) → Op S  -- the client sends a stanza, and it is acted on
  Short : (stanza : S) → Op S  -- the client sends a stanza, and there is no memory to act on it
  Drop : Op S  -- the connection is lost; a session that counts may be resumed
  Resume : (connection count : ℕ) → Op S  -- the client sends `resume` on another connection, with its count
  End : Op S  -- the session ends, and can't be resumed

abbrev pub unmade : {S : Type 0} → Core S
unmade = record {
  counts = false;
  hold = Away;
  queued = [];
  kept = 0;
  sent = 0;
  asked_at = 0;
  base_out = 0;
  acts = [];
  base_in = 0;
}

abbrev pub waiting : {S : Type 0} → Core S → List Entry
waiting s = drop s.kept s.queued

-- XEP-0198, 4: the server's count of the stanzas that it handled, since the session counts
abbrev pub inward_count : {S : Type 0} → Core S → ℕ
inward_count s = count_of (length s.acts - s.base_in)

-- XEP-0198, 4: the number of entries that the client's count h says are handled, since the session counts. It lies from
-- what is done with to what was sent; none where no such number has this count.
abbrev pub named : {S : Type 0} → Core S → ℕ → Option ℕ
named s h = number (s.kept - s.base_out) (s.sent - s.base_out) h

abbrev pub held : {S : Type 0} → Core S → ℕ → Core S
held s c = record s { hold = Held c }

abbrev pub away : {S : Type 0} → Core S → Core S
away s = record s { hold = Away }

abbrev pub ended : {S : Type 0} → Core S → Core S
ended s = record s { hold = Ended }

-- a session whose queue has no room ends
abbrev pub pushed : {S : Type 0} → Core S → Entry → Core S
pushed s e = if has_room (waiting s) e then record s { queued = s.queued ++ e ∷ [] } else ended s

abbrev pub next_entry : {S : Type 0} → Core S → Option Entry
next_entry s = slice_get s.queued s.sent

-- while the session doesn't count, what is sent is done with
abbrev pub pulled_uncounted : {S : Type 0} → Core S → Option Entry → Core S
pulled_uncounted s None = s
pulled_uncounted s (Some e) = record s { kept = s.sent + 1; sent = s.sent + 1 }

-- XEP-0198, 4: while it counts, what is sent is kept until the client says that it handled it
abbrev pub pulled : {S : Type 0} → Core S → Option Entry → Core S
pulled s None = s
pulled s (Some e) = record s { sent = s.sent + 1 }

abbrev pub requested : {S : Type 0} → Core S → Core S
requested s = record s { asked_at = s.sent }

-- XEP-0198, 4: both counts begin at zero
abbrev pub enabled : {S : Type 0} → Core S → Core S
enabled s = record s {
  counts = true;
  kept = s.sent;
  asked_at = s.sent;
  base_out = s.sent;
  base_in = length s.acts;
}

-- XEP-0198, 4: what the client says it handled is done with. A count of more than was sent ends the session.
abbrev pub acknowledged : {S : Type 0} → Core S → Option ℕ → Core S
acknowledged s None = ended s
acknowledged s (Some n) = record s { kept = s.base_out + n }

abbrev pub acted_on : {S : Type 0} → Core S → S → Core S
acted_on s x = record s { acts = s.acts ++ x ∷ [] }

-- XEP-0198, 5: the count of `resume` acknowledges as that of `a` does, and what is left is sent again, on the new
-- connection. A count of more than was sent leaves the session as it is.
abbrev pub resumed : {S : Type 0} → Core S → ℕ → Option ℕ → Core S
resumed s c None = s
resumed s c (Some n) = record s {
  hold = Held c;
  kept = s.base_out + n;
  sent = s.base_out + n;
  asked_at = s.base_out + n;
}

-- What an operation does, by whether the session counts and what holds it. What isn't said here changes nothing, as an
-- Ask and a Short.
abbrev pub core_if : {S : Type 0} → Bool → Hold → Core S → Op S → Core S
core_if false Away s (Begin c) = held s c
core_if counts (Held d) s (Push e) = pushed s e
core_if true Away s (Push e) = pushed s e
core_if false (Held d) s Pull = pulled_uncounted s (next_entry s)
core_if true (Held d) s Pull = pulled s (next_entry s)
core_if true (Held d) s Request = requested s
core_if false (Held d) s Enable = enabled s
core_if true (Held d) s (Ack h) = acknowledged s (named s h)
core_if counts (Held d) s (Act x) = acted_on s x
core_if false (Held d) s Drop = ended s
core_if true (Held d) s Drop = away s
core_if true (Held d) s (Resume c h) = resumed s c (named s h)
core_if true Away s (Resume c h) = resumed s c (named s h)
core_if counts (Held d) s End = ended s
core_if true Away s End = ended s
core_if counts hold s op = s

abbrev pub core_step : {S : Type 0} → Core S → Op S → Core S
core_step s op = core_if s.counts s.hold s op

abbrev pub core_run : {S : Type 0} → Core S → List (Op S) → Core S
core_run s [] = s
core_run s (op ∷ ops) = core_run (core_step s op) ops

-- what the client's count counts: all that wasn't sent before the session counted
abbrev pub counted_entries : {S : Type 0} → Core S → List Entry
counted_entries s = drop s.base_out s.queued

-- what the server's count counts: all that was acted on since the session counts
abbrev pub acted_if : {S : Type 0} → Bool → ℕ → List S → List S
acted_if false base acts = []
acted_if true base acts = drop base acts

abbrev pub acted : {S : Type 0} → Core S → List S
acted s = acted_if s.counts s.base_in s.acts
