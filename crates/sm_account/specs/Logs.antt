-- What happens to a session, told operation by operation, and the same told connection by connection. A history that
-- knows nothing of what a session keeps can be held against either.
use Rattle.std.specs.Prelude.{◌≡◌, ℕ, ◌==◌, List, [], ◌∷◌, ◌++◌, length, Option, Some, None, Bool, true, if◌then◌else◌}
use Rattle.stanza_tree.specs.declared.frame.Entry.{Entry}
use Rattle.sm_account.specs.Sessions.{Hold, Held, Core, Op, Pull, Ask, Act, Short, next_entry, acted, core_step}
use Rattle.sm_account.specs.Connections.{Connection}

-- an entry that was given on a connection, and a stanza that arrived on one
pub record Given : Type 0 where
  pub connection : ℕ
  pub entry : Entry

pub record Taken (S : Type 0) : Type 0 where
  pub connection : ℕ
  pub stanza : S

-- all that operations tell, in order
abbrev pub log_of : {S A : Type 0} → (Core S → Op S → List A) → Core S → List (Op S) → List A
log_of tell s [] = []
log_of tell s (op ∷ ops) = tell s op ++ log_of tell (core_step s op) ops

-- the entry that a Pull gives while the session counts
abbrev pub given_of : ℕ → Option Entry → List Given
given_of c None = []
given_of c (Some e) = record { connection = c; entry = e } ∷ []

abbrev pub gives_if : {S : Type 0} → Bool → Hold → Core S → Op S → List Given
gives_if true (Held c) s Pull = given_of c (next_entry s)
gives_if counts hold s op = []

abbrev pub gives : {S : Type 0} → Core S → Op S → List Given
gives s op = gives_if s.counts s.hold s op

-- the stanza that arrives while it counts, acted on or not
abbrev pub takes_if : {S : Type 0} → Bool → Hold → Op S → List (Taken S)
takes_if true (Held c) (Act x) = record { connection = c; stanza = x } ∷ []
takes_if true (Held c) (Short x) = record { connection = c; stanza = x } ∷ []
takes_if counts hold op = []

abbrev pub takes : {S : Type 0} → Core S → Op S → List (Taken S)
takes s op = takes_if s.counts s.hold op

-- the stanza that is acted on while it counts
abbrev pub does_if : {S : Type 0} → Bool → Hold → Op S → List S
does_if true (Held c) (Act x) = x ∷ []
does_if counts hold op = []

abbrev pub does : {S : Type 0} → Core S → Op S → List S
does s op = does_if s.counts s.hold op

-- the number that an Ask is told while it counts
abbrev pub answers_if : {S : Type 0} → Bool → Hold → Core S → Op S → List ℕ
answers_if true (Held c) s Ask = length (acted s) ∷ []
answers_if counts hold s op = []

abbrev pub answers : {S : Type 0} → Core S → Op S → List ℕ
answers s op = answers_if s.counts s.hold s op

abbrev pub latest_first : {A : Type 0} → List A → List A → List A
latest_first [] ys = ys
latest_first (x ∷ xs) ys = latest_first xs (x ∷ ys)

-- the same by connections, which stand the latest first
abbrev pub carried_on : ℕ → List Entry → List Given
carried_on c [] = []
carried_on c (e ∷ es) = record { connection = c; entry = e } ∷ carried_on c es

abbrev pub all_carried : {S : Type 0} → List (Connection S) → List Given
all_carried [] = []
all_carried (c ∷ cs) = all_carried cs ++ carried_on c.number c.carried

abbrev pub arrived_on : {S : Type 0} → ℕ → List S → List (Taken S)
arrived_on c [] = []
arrived_on c (x ∷ xs) = record { connection = c; stanza = x } ∷ arrived_on c xs

abbrev pub all_arrived : {S : Type 0} → List (Connection S) → List (Taken S)
all_arrived [] = []
all_arrived (c ∷ cs) = all_arrived cs ++ arrived_on c.number c.arrived

-- what a log has of one connection
abbrev pub entries_of : ℕ → List Given → List Entry
entries_of c [] = []
entries_of c (g ∷ gs) = if g.connection == c then g.entry ∷ entries_of c gs else entries_of c gs

abbrev pub stanzas_of : {S : Type 0} → ℕ → List (Taken S) → List S
stanzas_of c [] = []
stanzas_of c (t ∷ ts) = if t.connection == c then t.stanza ∷ stanzas_of c ts else stanzas_of c ts

abbrev pub numbers : {S : Type 0} → List (Connection S) → List ℕ
numbers [] = []
numbers (c ∷ cs) = c.number ∷ numbers cs

abbrev pub NotIn : ℕ → List ℕ → Type 0
NotIn n [] = Unit {0}
NotIn n (m ∷ ms) = (m ≡ n → ⊥) × NotIn n ms

abbrev pub AreDistinct : List ℕ → Type 0
AreDistinct [] = Unit {0}
AreDistinct (n ∷ ns) = NotIn n ns × AreDistinct ns

-- each connection carried, and had arrive, what these functions tell of its number
abbrev pub AllAre : {S : Type 0} → (ℕ → List Entry) → (ℕ → List S) → List (Connection S) → Type 0
AllAre carried arrived [] = Unit {0}
AllAre carried arrived (c ∷ cs) =
    (c.carried ≡ carried c.number) × (c.arrived ≡ arrived c.number) × AllAre carried arrived cs
