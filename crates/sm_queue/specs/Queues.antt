-- The queue of a session's stanzas. XEP-0198, 4: a stanza that was sent is kept until the other side
-- acknowledges it, by the count of all those that it has handled.
use Rattle.std.specs.Prelude.{ℕ, ◌+◌, ◌-◌, nat_lt, nat_le, Bool, ◌&&◌, List, [], ◌∷◌, ◌++◌, length, drop, Option, Some, None, Result, Ok, Err, if◌then◌else◌}
use Rattle.std.specs.List.{sum_by}
use Rattle.std.specs.Option.{option_map}
use Rattle.stanza_tree.specs.declared.frame.Entry.{Entry}
use Rattle.stanza_tree.specs.Entries.{frame}
use Rattle.sm_counters.specs.Numbers.{count_of, number}
use Rattle.sm_queue.specs.declared.queue.TooHigh.{TooHigh}

pub record Queue : Type 0 where
  pub waiting : List Entry  -- the stanzas that are not done with, the oldest first
  pub given : ℕ  -- how many of them, from the front, were sent
  pub kept : ℕ  -- the count of the stanzas before them
  pub room : ℕ  -- how many stanzas the memory that is taken holds

-- how many stanzas more can wait without memory being taken
abbrev pub spare : Queue → ℕ
spare q = q.room - length q.waiting

-- the count of the stanzas that were sent
abbrev pub sent_count : Queue → ℕ
sent_count q = count_of (q.kept + q.given)

abbrev pub frames_length : List Entry → ℕ
frames_length entries = sum_by (λ e. length (frame e)) entries

-- how many stanzas may wait, and how many bytes their frames may have
abbrev pub most_waiting : ℕ
most_waiting = 5000

abbrev pub most_bytes : ℕ
most_bytes = 4194304

-- whether one stanza more may wait
abbrev pub has_room : List Entry → Entry → Bool
has_room waiting e =
    nat_lt (length waiting) most_waiting && nat_le (frames_length waiting + length (frame e)) most_bytes

abbrev pub empty : ℕ → Queue
empty count = record { waiting = []; given = 0; kept = count; room = 0 }

abbrev pub pushed : Entry → Queue → Queue
pushed e q = record q { waiting = q.waiting ++ e ∷ [] }

abbrev pub marked_sent : Queue → Queue
marked_sent q = record q { given = q.given + 1 }

-- an empty queue has room for 64 stanzas at most; what goes beyond is given back
abbrev pub room_after : List Entry → ℕ → ℕ
room_after [] room = if nat_lt 64 room then 0 else room
room_after (e ∷ more) room = room

-- the first n stanzas are done with
abbrev pub without : ℕ → Queue → Queue
without n q = record {
  waiting = drop n q.waiting;
  given = q.given - n;
  kept = count_of (q.kept + n);
  room = room_after (drop n q.waiting) q.room;
}

abbrev pub without_sent : Queue → Queue
without_sent q = without q.given q

-- XEP-0198, 4: when stream management is enabled the count is zero
abbrev pub counted_anew : Queue → Queue
counted_anew q = record (without_sent q) { kept = 0 }

-- how many of the stanzas sent the count h acknowledges; none where it is no count of theirs
abbrev pub acknowledged : ℕ → Queue → Option ℕ
acknowledged h q = option_map (λ n. n - q.kept) (number q.kept (q.kept + q.given) h)

-- what is acknowledged is done with
abbrev pub acked_by : Option ℕ → Queue → Queue
acked_by None q = q
acked_by (Some n) q = without n q

abbrev pub acked : ℕ → Queue → Queue
acked h q = acked_by (acknowledged h q) q

-- XEP-0198, 5: what a client that resumes did not acknowledge is sent again
abbrev pub rewound_by : Option ℕ → Queue → Queue
rewound_by None q = q
rewound_by (Some n) q = record (without n q) { given = 0 }

abbrev pub rewound : ℕ → Queue → Queue
rewound h q = rewound_by (acknowledged h q) q

-- a count that acknowledges nothing is too high
abbrev pub answer_by : Option ℕ → ℕ → Queue → Result Unit TooHigh
answer_by None h q = Err (record { h = h; kept = q.kept; sent = sent_count q })
answer_by (Some n) h q = Ok tt

abbrev pub answer : ℕ → Queue → Result Unit TooHigh
answer h q = answer_by (acknowledged h q) h q
