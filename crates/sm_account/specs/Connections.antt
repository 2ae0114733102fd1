-- The connections that held a session, one after the other, and what went over each: what only a history knows.
use Rattle.std.specs.Prelude.{◌≡◌, ℕ, List, [], ◌∷◌, ◌++◌, length, drop, Option, Some, None, Bool, true, false}
use Rattle.stanza_tree.specs.declared.frame.Entry.{Entry}
use Rattle.sm_account.specs.Prefixes.{IsPrefixOf}
use Rattle.sm_account.specs.Sessions.{Hold, Held, Away, Core, Op, Begin, Pull, Ask, Act, Short, Resume, unmade, named, next_entry, acted, core_if}

-- What went over one connection while the session counted and was held by it.
pub record Connection (S : Type 0) : Type 0 where
  pub number : ℕ
  pub carried : List Entry  -- the entries that Pull gave
  pub arrived : List S  -- the stanzas of the client, acted on or not
  pub short : Bool  -- whether there was no memory to act on one of these

pub record Trace (S : Type 0) : Type 0 where
  pub present : Connection S  -- the one that holds the session, or held it last
  pub earlier : List (Connection S)  -- those before it, the latest first
  pub told : List ℕ  -- how many stanzas were acted on at each Ask, the latest first

pub record Session (S : Type 0) : Type 0 where
  pub core : Core S
  pub trace : Trace S

abbrev pub opened : {S : Type 0} → ℕ → Connection S
opened c = record { number = c; carried = []; arrived = []; short = false }

abbrev pub start : {S : Type 0} → Session S
start = record { core = unmade; trace = record { present = opened 0; earlier = []; told = [] } }

abbrev pub connections : {S : Type 0} → Trace S → List (Connection S)
connections t = t.present ∷ t.earlier

-- nothing went over a connection while the session didn't count
abbrev pub begun : {S : Type 0} → Trace S → ℕ → Trace S
begun t c = record t { present = record t.present { number = c } }

abbrev pub carries : {S : Type 0} → Trace S → Option Entry → Trace S
carries t None = t
carries t (Some e) = record t { present = record t.present { carried = t.present.carried ++ e ∷ [] } }

abbrev pub arrives : {S : Type 0} → Trace S → S → Bool → Trace S
arrives t x short = record t { present = record t.present { arrived = t.present.arrived ++ x ∷ []; short = short } }

abbrev pub tells : {S : Type 0} → Trace S → ℕ → Trace S
tells t n = record t { told = n ∷ t.told }

abbrev pub opens : {S : Type 0} → Trace S → ℕ → Option ℕ → Trace S
opens t c None = t
opens t c (Some n) = record t { present = opened c; earlier = t.present ∷ t.earlier }

-- what an operation adds, by whether the session counts and what holds it
abbrev pub trace_if : {S : Type 0} → Bool → Hold → Core S → Trace S → Op S → Trace S
trace_if false Away s t (Begin c) = begun t c
trace_if true (Held d) s t Pull = carries t (next_entry s)
trace_if true (Held d) s t Ask = tells t (length (acted s))
trace_if true (Held d) s t (Act x) = arrives t x t.present.short
trace_if true (Held d) s t (Short x) = arrives t x true
trace_if true (Held d) s t (Resume c h) = opens t c (named s h)
trace_if true Away s t (Resume c h) = opens t c (named s h)
trace_if counts hold s t op = t

abbrev pub step_if : {S : Type 0} → Bool → Hold → Session S → Op S → Session S
step_if counts hold s op =
    record { core = core_if counts hold s.core op; trace = trace_if counts hold s.core s.trace op }

abbrev pub step : {S : Type 0} → Session S → Op S → Session S
step s op = step_if s.core.counts s.core.hold s op

abbrev pub run : {S : Type 0} → Session S → List (Op S) → Session S
run s [] = s
run s (op ∷ ops) = run (step s op) ops

-- the session after these operations
abbrev pub after : {S : Type 0} → List (Op S) → Session S
after ops = run start ops

-- The connection of this number that came after those before it carries the queue from this place on, without a gap and
-- without a repetition.
pub record CarriesFrom {S : Type 0} (place number : ℕ) (before : List (Connection S)) (s : Session S) : Type 0 where
  pub newer : List (Connection S)
  pub one : Connection S
  pub all : connections s.trace ≡ newer ++ (one ∷ before)
  pub is_it : one.number ≡ number
  pub carries : IsPrefixOf one.carried (drop place s.core.queued)
