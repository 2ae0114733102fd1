-- What was called on a flow since it was made, each call as its contract tells it.
use Rattle.std.specs.Prelude.{◌≡◌, ◌⊎◌, ℕ, List, [], ◌∷◌, Some}
use Rattle.account_book.specs.Lists.{Book}
use Rattle.house_model.specs.declared.reply.Reply.{Reply}
use Rattle.house_model.specs.declared.reply.Reply.TheVariants as reply
use Rattle.conn_asks.specs.declared.ended.Ended.{Ended}
use Rattle.conn_asks.specs.declared.ended.Ended.TheVariants as ended
use Rattle.conn_asks.specs.StreamErrors.{error_of}
use Rattle.conn_flow.specs.declared.phase.Phase.TheVariants.{Resting, Drawing, Sweeping, Left}
use Rattle.conn_flow.specs.declared.want.Want.{Want}
use Rattle.conn_flow.specs.Flows.{IsAfter, IsGoing, IsThere, IsTold, State, Wants, fresh, gave_at, hears, hung_at, late_at, short_at, told, waited}
use Rattle.conn_flow.specs.Reasons.{IsByItem, LeavesNothing, RestsBy, end_at}

pub data Call : Type 0 where
  -- a piece was heard at a moment, or there was no memory to
  Hear : (moment : ℕ) (piece : List ℕ) → Call
  HearShort : (moment : ℕ) → Call
  -- bytes came too late, nothing came, the link was at its end
  Late : (moment : ℕ) → Call
  Quiet : (moment : ℕ) → Call
  Hung : (moment : ℕ) → Call
  -- what it wanted next, or that there was no memory for it
  Next : (want : Want) → Call
  NextShort : Call
  -- it was told a reply, or that the house found no memory; and it was given random bytes
  Told : (reply : Reply) → Call
  ToldShort : Call
  Gave : (dice : List ℕ) → Call

abbrev pub Does : State → Call → State → Type 0
Does s (Hear t piece) s' = (s.talk.phase ≡ Resting) × (s' ≡ hears s t piece)
Does s (HearShort t) s' = (s.talk.phase ≡ Resting) × (s'.talk ≡ record s.talk { moment = t; phase = Left ended.NoMemory })
Does s (Late t) s' = (s.talk.phase ≡ Resting) × (s' ≡ record s { talk = late_at s.talk t })
Does s (Quiet t) s' = (s.talk.phase ≡ Resting) × (s' ≡ record s { talk = waited s.talk t })
Does s (Hung t) s' = (s.talk.phase ≡ Resting) × (s' ≡ record s { talk = hung_at s.talk t })
Does s (Next want) s' = (accounts : Book) × Wants accounts s want s' × IsAfter s.talk.phase want s'.talk.phase
Does s NextShort s' = IsGoing s.talk s.talk.phase × (s'.talk.phase ≡ Left ended.NoMemory)
Does s (Told reply) s' = IsTold s.talk.phase × (s' ≡ told s reply)
Does s ToldShort s' = IsTold s.talk.phase × (s' ≡ record s { talk = short_at s.talk s.talk.phase })
Does s (Gave dice) s' = (s.talk.phase ≡ Drawing) × (s' ≡ record s { talk = gave_at s.talk dice })

-- the calls that led from one state to another, the last of them first
abbrev pub Led : State → List Call → State → Type 0
Led a [] s = s ≡ a
Led a (call ∷ before) s = (was : State) × Led a before was × Does was call s

abbrev pub IsFresh : State → Type 0
IsFresh s = (line : ℕ) × (domain : List ℕ) × (dice : List ℕ) × (t : ℕ) × (s ≡ fresh line domain dice t)

-- What makes each end: the link's end, a reply that tells it, want of memory, a moment, an item. No call makes a fault of the link or of the dice,
-- or want of turns.
abbrev pub Makes : Call → Ended → Type 0
Makes (Hung t) ended.Hung = Unit {0}
Makes (Told (reply.Over cause)) (ended.Over why) = cause ≡ why
Makes (HearShort t) ended.NoMemory = Unit {0}
Makes NextShort ended.NoMemory = Unit {0}
Makes ToldShort ended.NoMemory = Unit {0}
Makes (Late t) (ended.Idle u) = u ≡ t
Makes (Quiet t) (ended.Idle u) = u ≡ t
Makes (Next want) x = IsByItem x
Makes call x = ⊥

abbrev pub IsMade : List Call → Ended → Type 0
IsMade [] x = ⊥
IsMade (call ∷ before) x = Makes call x ⊎ IsMade before x

-- an end with a last text
abbrev pub HasText : Ended → Type 0
HasText ended.Closed = Unit {0}
HasText x = IsThere (error_of x)

-- an end that stands stays; but where memory is wanting for its last text, that is the end
abbrev pub Stays : Ended → State → Type 0
Stays x s = (end_at s.talk.phase ≡ Some x) ⊎ (HasText x × (end_at s.talk.phase ≡ Some ended.NoMemory))

-- the call after which nothing is left to be done: a want, a reply that leaves nothing, a sweep that found no memory
abbrev pub Rests : State → Call → State → Type 0
Rests s (Next want) s' = RestsBy s.talk.phase s'.talk want
Rests s (Told reply) s' = LeavesNothing s.talk.more s.talk.phase reply
Rests s ToldShort s' = s.talk.phase ≡ Sweeping
Rests s call s' = ⊥
