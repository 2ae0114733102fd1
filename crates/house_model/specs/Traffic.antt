-- XEP-0198: the traffic of a session. Of the stanzas queued for its client and of those that the client sent the definition has
-- whole lists with true places; what is kept of it has the waiting ones, and counts.
use Rattle.std.specs.Prelude.{ℕ, ◌+◌, ◌-◌, ◌≤◌, List, [], ◌∷◌, ◌++◌, length, drop, slice_get, Option, Some, None}
use Rattle.stanza_tree.specs.declared.frame.Entry.{Entry}
use Rattle.stanza_model.specs.declared.stanza.Stanza.{Stanza}
use Rattle.sm_counters.specs.Numbers.{count_of, number}
use Rattle.sm_queue.specs.Queues.{has_room, most_waiting}
use Rattle.sm_resume.specs.declared.decision.Cause.TheVariants.{Overfull, TooHigh}
use Rattle.house_model.specs.Sessions.{Ways, Gone, session, gone}

-- Entries up to `kept` are done with, those up to `sent` were given, and an acknowledgement was asked for up to `asked_at`. Since
-- stream management was enabled the outward count begins at `base_out`, and the inward count at `base_in`.
pub record Traffic : Type 0 where
  pub queued : List Entry  -- all that was ever queued
  pub kept : ℕ
  pub sent : ℕ
  pub asked_at : ℕ
  pub base_out : ℕ
  pub acts : List Stanza  -- all that was ever acted on
  pub base_in : ℕ

abbrev pub no_traffic : Traffic
no_traffic = record { queued = []; kept = 0; sent = 0; asked_at = 0; base_out = 0; acts = []; base_in = 0 }

abbrev pub waiting : Traffic → List Entry
waiting t = drop t.kept t.queued

abbrev pub queue : Traffic → Entry → Traffic
queue t e = record t { queued = t.queued ++ e ∷ [] }

-- the next entry was given; a session that does not count is done with it
abbrev pub give : Traffic → Option Entry → Traffic
give t None = t
give t (Some e) = record t { sent = t.sent + 1 }

abbrev pub give_up : Traffic → Option Entry → Traffic
give_up t None = t
give_up t (Some e) = record t { kept = t.sent + 1; sent = t.sent + 1 }

abbrev pub ask : Traffic → Traffic
ask t = record t { asked_at = t.sent }

-- XEP-0198, 3: both counts begin
abbrev pub enable : Traffic → Traffic
enable t = record t { kept = t.sent; asked_at = t.sent; base_out = t.sent; base_in = length t.acts }

-- XEP-0198, 4: the number of entries since then that a count stands for
abbrev pub handled : Traffic → ℕ → Option ℕ
handled t h = number (t.kept - t.base_out) (t.sent - t.base_out) h

abbrev pub ack : Traffic → Option ℕ → Option Traffic
ack t None = None
ack t (Some n) = Some (record t { kept = t.base_out + n })

-- XEP-0198, 5: what the client did not handle is given again
abbrev pub resume : Traffic → Option ℕ → Option Traffic
resume t None = None
resume t (Some n) = Some (record t { kept = t.base_out + n; sent = t.base_out + n; asked_at = t.base_out + n })

abbrev pub act : Traffic → Stanza → Traffic
act t x = record t { acts = t.acts ++ x ∷ [] }

-- the inward count
abbrev pub inward : Traffic → ℕ
inward t = count_of (length t.acts - t.base_in)

abbrev pub whole : Ways Traffic
whole = record {
  none = no_traffic;
  has_room = λ t e. has_room (waiting t) e;
  queue = queue;
  give = λ t. give t (slice_get t.queued t.sent);
  give_up = λ t. give_up t (slice_get t.queued t.sent);
  ask = ask;
  enable = enable;
  ack = λ t h. ack t (handled t h);
  resume = λ t h. resume t (handled t h);
  act = act;
  overfull = λ t. Overfull t.kept (length t.queued);
  too_high = λ t h. TooHigh h (count_of (t.kept - t.base_out)) (count_of (t.sent - t.base_out));
  part = λ b t rest. session b Gone t rest;
}

-- What is kept: the waiting entries, of which the first were given, and the count of those before them; how many were given up, and up to
-- which place an acknowledgement was asked for; how many stanzas were acted on, and how many of these the inward count leaves out.
pub record KeptTraffic : Type 0 where
  pub waiting : List Entry
  pub given : ℕ
  pub count : ℕ
  pub given_up : ℕ
  pub asked_at : ℕ
  pub acted : ℕ
  pub base_in : ℕ

abbrev pub nothing_kept : KeptTraffic
nothing_kept = record { waiting = []; given = 0; count = 0; given_up = 0; asked_at = 0; acted = 0; base_in = 0 }

abbrev pub keep_traffic : Traffic → KeptTraffic
keep_traffic t = record {
  waiting = drop t.kept t.queued;
  given = t.sent - t.kept;
  count = count_of (t.kept - t.base_out);
  given_up = t.kept;
  asked_at = t.asked_at;
  acted = length t.acts;
  base_in = t.base_in;
}

-- the place of what is given next
abbrev pub kept_sent : KeptTraffic → ℕ
kept_sent k = k.given_up + k.given

abbrev pub kept_inward : KeptTraffic → ℕ
kept_inward k = count_of (k.acted - k.base_in)

-- the first n waiting entries are done with
abbrev pub without : ℕ → KeptTraffic → KeptTraffic
without n k = record k { waiting = drop n k.waiting; given = k.given - n; count = count_of (k.count + n); given_up = k.given_up + n }

abbrev pub kept_queue : KeptTraffic → Entry → KeptTraffic
kept_queue k e = record k { waiting = k.waiting ++ e ∷ [] }

abbrev pub kept_give : KeptTraffic → Option Entry → KeptTraffic
kept_give k None = k
kept_give k (Some e) = record k { given = k.given + 1 }

abbrev pub kept_give_up : KeptTraffic → Option Entry → KeptTraffic
kept_give_up k None = k
kept_give_up k (Some e) = without (k.given + 1) (record k { given = k.given + 1 })

abbrev pub kept_enable : KeptTraffic → KeptTraffic
kept_enable k = record (without k.given k) { count = 0; asked_at = kept_sent k; base_in = k.acted }

-- how many of those that were given a count acknowledges
abbrev pub kept_handled : KeptTraffic → ℕ → Option ℕ
kept_handled k h = number k.count (k.count + k.given) h

abbrev pub kept_ack : KeptTraffic → Option ℕ → Option KeptTraffic
kept_ack k None = None
kept_ack k (Some n) = Some (without (n - k.count) k)

abbrev pub kept_resume : KeptTraffic → Option ℕ → Option KeptTraffic
kept_resume k None = None
kept_resume k (Some n) = Some (record (without (n - k.count) k) { given = 0; asked_at = k.given_up + (n - k.count) })

abbrev pub brief : Ways KeptTraffic
brief = record {
  none = nothing_kept;
  has_room = λ k e. has_room k.waiting e;
  queue = kept_queue;
  give = λ k. kept_give k (slice_get k.waiting k.given);
  give_up = λ k. kept_give_up k (slice_get k.waiting k.given);
  ask = λ k. record k { asked_at = kept_sent k };
  enable = kept_enable;
  ack = λ k h. kept_ack k (kept_handled k h);
  resume = λ k h. kept_resume k (kept_handled k h);
  act = λ k x. record k { acted = k.acted + 1 };
  overfull = λ k. Overfull k.given_up (k.given_up + length k.waiting);
  too_high = λ k h. TooHigh h k.count (count_of (k.count + k.given));
  part = λ b k rest. gone nothing_kept;
}

-- the places in their order
pub record Ordered (t : Traffic) : Type 0 where
  pub base : t.base_out ≤ t.kept
  pub kept : t.kept ≤ t.sent
  pub sent : t.sent ≤ length t.queued
  pub few : length t.queued ≤ t.kept + most_waiting  -- fewer than 2^32 wait, so that a count stands for one place
  pub asked : t.asked_at ≤ t.sent
  pub acted : t.base_in ≤ length t.acts
