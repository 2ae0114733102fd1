-- What may have happened since a house was made.
use Rattle.std.specs.Prelude.{◌≡◌, ℕ, ◌+◌, ◌<◌, ◌≤◌, ◌⊎◌, List, [], ◌∷◌, Option, Some, None, Result, Ok, Err, length, ⊤}
use Rattle.stanza_tree.specs.Spelling.{text, value_text}
use Rattle.stanza_tree.specs.declared.node.Element.{Element}
use Rattle.stanza_model.specs.Stanzas.{stanza_of}
use Rattle.stanza_model.specs.declared.stanza.Stanza.{Stanza}
use Rattle.stanza_model.specs.declared.stanza.Stanza.TheVariants.{Faulty}
use Rattle.stream_grammar.specs.grammar.Proper.{IsProper}
use Rattle.jid_core.specs.Addresses.{Address}
use Rattle.house_model.specs.declared.event.Event.{Event}
use Rattle.house_model.specs.declared.event.Event.TheVariants.{OpenLine, Login, Bind, Enable, Resume, Act, Ack, Ask, Pull, DropLine, CloseLine, Sweep}
use Rattle.house_model.specs.declared.limits.Limits.{Limits}
use Rattle.house_model.specs.declared.reply.Reply.{Reply}
use Rattle.house_model.specs.Traffic.{Traffic, whole, KeptTraffic, brief}
use Rattle.house_model.specs.States.{House, State, Kept, keep, opening_with}
use Rattle.house_model.specs.Steps.{Step, verdict, turn, concluded}

abbrev pub step : State → Event → Step Traffic
step st e = concluded whole (turn e st) (verdict (keep (turn e st)) e)

-- the same on what is kept
abbrev pub kept_step : Kept → Event → Step KeptTraffic
kept_step k e = concluded brief (turn e k) (verdict (turn e k) e)

-- what came of an event: a reply and the text of a frame, or nothing at all for want of memory
pub data Outcome : Type 0 where
  Made : (reply : Reply) (text : List ℕ) → Outcome
  Short : Outcome

pub record Turn : Type 0 where
  pub event : Event
  pub outcome : Outcome

abbrev pub made : Event → Reply → List ℕ → Turn
made e reply text = record { event = e; outcome = Made reply text }

abbrev pub short : Event → Turn
short e = record { event = e; outcome = Short }

-- the turn of a call that may find no memory
abbrev pub turn_of : {E : Type 0} → Event → Result Reply E → List ℕ → Turn
turn_of e (Ok reply) text = made e reply text
turn_of e (Err fault) text = short e

-- and that gives no text
abbrev pub ended : {E : Type 0} → Event → Result Reply E → Turn
ended e r = turn_of e r []

abbrev pub line_of : Event → ℕ
line_of (OpenLine w) = w
line_of (Login w user) = w
line_of (Bind w id resource t dice) = w
line_of (Enable w wants dice) = w
line_of (Resume w id h t) = w
line_of (Act w stanza t) = w
line_of (Ack w h) = w
line_of (Ask w) = w
line_of (Pull w t) = w
line_of (DropLine w t) = w
line_of (CloseLine w t) = w
line_of (Sweep w t) = w

-- RFC 6120, 8: a stanza that a stream brings is what a proper element is; it has at most 196,608 canonical bytes
pub record IsSent (stanza : Stanza) : Type 0 where
  pub element : Element
  pub proper : IsProper element
  pub small : length (text element) ≤ 196608
  pub read : stanza_of element ≡ Some stanza

-- of a faulty one the id is all that counts: it has at most so many bytes as it stands in a value
abbrev pub IsShortId : Option (List ℕ) → Type 0
IsShortId None = ⊤
IsShortId (Some id) = length (value_text id) ≤ 196608

abbrev pub IsShortFault : Stanza → Type 0
IsShortFault (Faulty kind to id answered condition) = IsShortId id
IsShortFault stanza = ⊥

abbrev pub StanzaFits : Stanza → Type 0
StanzaFits stanza = IsSent stanza ⊎ IsShortFault stanza

-- the greatest id of a request
abbrev pub IdFits : List ℕ → Type 0
IdFits id = length id ≤ 65536

abbrev pub Meets : Event → Type 0
Meets (Bind w id resource t dice) = IdFits id
Meets (Act w stanza t) = StanzaFits stanza
Meets e = ⊤

-- an event for which memory may be wanting
abbrev pub MayBeShort : Event → Type 0
MayBeShort (Bind w id resource t dice) = ⊤
MayBeShort (Act w stanza t) = ⊤
MayBeShort (Sweep w t) = ⊤
MayBeShort e = ⊥

-- an event that gives no frame: every one but a Pull
abbrev pub GivesNoText : Event → Type 0
GivesNoText (Pull w t) = ⊥
GivesNoText e = ⊤

-- the turn is counted, and nothing else happens
abbrev pub passed : {T : Type 0} → House T → House T
passed st = record st { head = record st.head { turns = st.head.turns + 1 } }

abbrev pub next_by : State → Event → Outcome → State
next_by st e (Made reply text) = (step st e).state
next_by st e Short = passed st

abbrev pub next : State → Turn → State
next st x = next_by st x.event x.outcome

-- the state after a history
abbrev pub after : State → List Turn → State
after st [] = st
after st (x ∷ more) = after (next st x) more

-- the same on what is kept
abbrev pub kept_next_by : Kept → Event → Outcome → Kept
kept_next_by k e (Made reply text) = (kept_step k e).state
kept_next_by k e Short = passed k

-- how many connections came
abbrev pub opened_by : Event → ℕ
opened_by (OpenLine w) = 1
opened_by e = 0

abbrev pub openings : List Turn → ℕ
openings [] = 0
openings (x ∷ more) = opened_by x.event + openings more

abbrev pub IsOutcome : State → Event → Outcome → Type 0
IsOutcome st e (Made reply text) = (reply ≡ (step st e).reply) × (text ≡ (step st e).text)
IsOutcome st e Short = MayBeShort e

-- a turn that can come in a state: its line is there, it meets the conditions on what it carries, and its outcome is that of the step
pub record Allowed (st : State) (x : Turn) : Type 0 where
  pub line : line_of x.event < st.head.workers
  pub meets : Meets x.event
  pub outcome : IsOutcome st x.event x.outcome

abbrev pub Legal : State → List Turn → Type 0
Legal st [] = ⊤
Legal st (x ∷ more) = Allowed st x × Legal (next st x) more

-- a state in which no event has come, of a house with any limits
abbrev pub IsOpening : State → Type 0
IsOpening o = (limits : Limits) × (domain : Address) × (users : List (List ℕ)) × (workers : ℕ) × (o ≡ opening_with limits domain users workers)

-- what the code has stands for a history: this is legal, and what is kept of the state after it is what the code has
pub record StandsFor (o : State) (h : List Turn) (k : Kept) : Type 0 where
  pub starts : IsOpening o
  pub legal : Legal o h
  pub kept : k ≡ keep (after o h)
