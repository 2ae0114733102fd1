-- A client that counts as XEP-0198 has it, over a link that keeps the order of what it passes on and may lose any end
-- of it: what such a client has to send and what it handled, told beside the history of its session.
use Rattle.std.specs.Prelude.{◌≡◌, ◌⊎◌, ℕ, ◌+◌, ◌^◌, ◌<◌, ◌≤◌, List, [], ◌∷◌, ◌++◌, length, take, drop, Option, Some, None, Bool, true, false}
use Rattle.stanza_tree.specs.declared.frame.Entry.{Entry}
use Rattle.sm_counters.specs.Numbers.{count_of, number}
use Rattle.sm_account.specs.Prefixes.{IsPrefixOf}
use Rattle.sm_account.specs.Sessions.{Hold, Held, Away, Op, Ack, Act, Short, Resume, inward_count, named}
use Rattle.sm_account.specs.Connections.{Connection, Session, after, connections, start, step}

-- The connections of a session are numbered from 0, in their order.
pub record Account (S : Type 0) : Type 0 where
  pub stanzas : List S  -- all that the client has to send, in order
  pub handles : ℕ → ℕ  -- how many of the entries carried on connection i it handled
  pub begins : ℕ → ℕ  -- from which of its stanzas on it sends on connection i
  pub lowest : ℕ → ℕ  -- when connection i is lost it knows that at least so many of its stanzas were acted on
  pub highest : ℕ → ℕ  -- and at most so many, since it sent no more

-- the place of the present connection
abbrev pub present_place : {S : Type 0} → Session S → ℕ
present_place s = length s.trace.earlier

-- how many entries the client handled on these connections, which stand the latest first
abbrev pub total : {S : Type 0} → (ℕ → ℕ) → List (Connection S) → ℕ
total handles [] = 0
total handles (c ∷ cs) = total handles cs + handles (length cs)

abbrev pub total_before : {S : Type 0} → Account S → Session S → ℕ
total_before a s = total a.handles s.trace.earlier

abbrev pub total_handled : {S : Type 0} → Account S → Session S → ℕ
total_handled a s = total a.handles s.trace.earlier + a.handles (present_place s)

-- what the client handled: the first entries that each connection carried
abbrev pub handled_on : {S : Type 0} → (ℕ → ℕ) → List (Connection S) → List Entry
handled_on handles [] = []
handled_on handles (c ∷ cs) = handled_on handles cs ++ take (handles (length cs)) c.carried

abbrev pub handled : {S : Type 0} → Account S → Session S → List Entry
handled a s = handled_on a.handles (connections s.trace)

-- On each connection the client handles what it carries, from the front; and what arrives are the client's stanzas, in
-- order, from the one on with which it begins there.
pub record ConnectionFits {S : Type 0} (a : Account S) (i : ℕ) (c : Connection S) : Type 0 where
  pub within : a.handles i ≤ length c.carried
  pub in_order : IsPrefixOf c.arrived (drop (a.begins i) a.stanzas)

abbrev pub AllConnectionsFit : {S : Type 0} → Account S → List (Connection S) → Type 0
AllConnectionsFit a [] = Unit {0}
AllConnectionsFit a (c ∷ cs) = ConnectionFits a (length cs) c × AllConnectionsFit a cs

-- XEP-0198, 4: an `a` says with the count h that the client handled v entries so far. They were sent to it, it handles
-- no fewer on this connection and those before, and it said no more before.
pub record Acks {S : Type 0} (a : Account S) (s : Session S) (said h v : ℕ) : Type 0 where
  pub count : count_of v ≡ h
  pub rising : said ≤ v
  pub before : total_before a s ≤ v
  pub handled : v ≤ total_handled a s
  pub carried : v ≤ total_before a s + length s.trace.present.carried

abbrev pub IsOneOf : ℕ → List ℕ → Type 0
IsOneOf n [] = ⊥
IsOneOf n (m ∷ ms) = (n ≡ m) ⊎ IsOneOf n ms

abbrev pub IsBeginning : {S : Type 0} → Account S → Session S → ℕ → Type 0
IsBeginning a s n = (j : ℕ) × (j ≤ present_place s) × (n ≡ a.begins j)

-- The client knows that at least n stanzas were acted on: n is 0, or it began to send after n on some connection, or an
-- Ask was told n.
abbrev pub IsKnown : {S : Type 0} → Account S → Session S → ℕ → Type 0
IsKnown a s n = (n ≡ 0) ⊎ (IsBeginning a s n ⊎ IsOneOf n s.trace.told)

-- what arrived on these connections is among the first `most` of the client's stanzas
abbrev pub ArrivedBy : {S : Type 0} → (ℕ → ℕ) → ℕ → List (Connection S) → Type 0
ArrivedBy begins most [] = Unit {0}
ArrivedBy begins most (c ∷ cs) = (begins (length cs) + length c.arrived ≤ most) × ArrivedBy begins most cs

-- XEP-0198, 5: a resumption says with the count h how many entries the client handled. The answer has the server's
-- count, and the client sends again from the one number of that count between the lowest and the highest that can be.
pub record Resumes {S : Type 0} (a : Account S) (s : Session S) (h : ℕ) : Type 0 where
  pub count : count_of (total_handled a s) ≡ h
  pub known : IsKnown a s (a.lowest (present_place s))
  pub sent : ArrivedBy a.begins (a.highest (present_place s)) (connections s.trace)
  pub has : a.highest (present_place s) ≤ length a.stanzas
  pub near : a.highest (present_place s) < a.lowest (present_place s) + 2 ^ 32
  pub begins : number (a.lowest (present_place s)) (a.highest (present_place s)) (inward_count s.core)
      ≡ Some (a.begins (present_place s + 1))

-- a resumption that is refused says nothing of the client
abbrev pub ResumesIf : {S : Type 0} → Account S → Session S → (said h v : ℕ) → Option ℕ → Type 0
ResumesIf a s said h v None = v ≡ said
ResumesIf a s said h v (Some n) = Resumes a s h × (v ≡ total_handled a s)

-- on no connection a stanza arrives after one that there was no memory to act on
abbrev pub Arrives : {S : Type 0} → Session S → (said v : ℕ) → Type 0
Arrives s said v = (v ≡ said) × (s.trace.present.short ≡ false)

-- What holds of one operation, by whether the session counts and what holds it. Before it the client last said that it
-- handled `said` entries, and after it v.
abbrev pub OperationFits : {S : Type 0} → Bool → Hold → Account S → Session S → (said : ℕ) → Op S → (v : ℕ) → Type 0
OperationFits true (Held d) a s said (Ack h) v = Acks a s said h v
OperationFits true (Held d) a s said (Act x) v = Arrives s said v
OperationFits true (Held d) a s said (Short x) v = Arrives s said v
OperationFits true (Held d) a s said (Resume c h) v = ResumesIf a s said h v (named s.core h)
OperationFits true Away a s said (Resume c h) v = ResumesIf a s said h v (named s.core h)
OperationFits counts hold a s said op v = v ≡ said

abbrev pub AllOperationsFit : {S : Type 0} → Account S → Session S → (said : ℕ) → List (Op S) → Type 0
AllOperationsFit a s said [] = Unit {0}
AllOperationsFit a s said (op ∷ ops) =
    (v : ℕ) × OperationFits s.core.counts s.core.hold a s said op v × AllOperationsFit a (step s op) v ops

-- what a client that counts tells of a session to which these operations happened
pub record IsAccount {S : Type 0} (a : Account S) (ops : List (Op S)) : Type 0 where
  pub first : a.begins 0 ≡ 0
  pub fits : AllConnectionsFit a (connections (after ops).trace)
  pub each : AllOperationsFit a start 0 ops
