-- What a want of the flow, and a round, make of a connection.
use Rattle.std.specs.Prelude.{◌≡◌, ◌≢◌, ◌⊎◌, ◌≤◌, ℕ, List, [], ◌∷◌, length, Bool, true, Option, Some, None}
use Rattle.outside.specs.Plans.{raised}
use Rattle.outside.specs.Tapes.{Tells}
use Rattle.conn_asks.specs.declared.ended.Ended.TheVariants as ended
use Rattle.conn_flow.specs.declared.phase.Phase.TheVariants.{Resting}
use Rattle.conn_flow.specs.Duties.{Site, Duty}
use Rattle.conn_flow.specs.Flows.{State, ToFinish, wish_of}
use Rattle.flow_laws.specs.Standing.{duty}
use Rattle.conn_serve.specs.Serving.{Came, Exhausted, Finished, Grew, Moved, Tale}
use Rattle.conn_serve.specs.declared.turn.Next.{Next}
use Rattle.conn_serve.specs.declared.turn.Next.TheVariants as next
use Rattle.conn_serve.specs.declared.turn.Round.{Round}
use Rattle.conn_serve.specs.declared.turn.Round.TheVariants.{Goes, Later, More, Ends, Exhausts}

-- what a want came to, which made so many moves where the connection goes on
abbrev pub Turned : ℕ → Site → Tale → Duty → Tale → State → (ahead owed : List ℕ) → Next → Type 0
Turned n o a v b flow ahead owed next.Goes = Moved n o a v b flow ahead owed
Turned n o a v b flow ahead owed next.Rests = Came o a v b flow ahead owed × (ahead ≡ []) × (flow.talk.phase ≡ Resting)
Turned n o a v b flow ahead owed (next.Over x) = Came o a v b flow ahead owed × (wish_of flow ≡ ToFinish x)
Turned n o a v b flow ahead owed (next.Finishes x t) = Finished o a v b x t
Turned n o a v b flow ahead owed next.Exhausts = Exhausted o a v b

-- A round goes by moves to another place, or to an end. Something is owed there exactly where the link could take no byte; at rest nothing
-- is left to be heard; and there is more to do only after 64 moves.
abbrev pub Passed : Site → Tale → Duty → Tale → State → (ahead owed : List ℕ) → Round → Type 0
Passed o a v b flow ahead owed Goes = Came o a v b flow ahead owed × (owed ≡ []) × (ahead ≡ []) × (flow.talk.phase ≡ Resting)
Passed o a v b flow ahead owed More = (c : Came o a v b flow ahead owed) × (owed ≡ []) × (64 ≤ length c.grew.moves)
Passed o a v b flow ahead owed Later = Came o a v b flow ahead owed × (owed ≢ [])
Passed o a v b flow ahead owed (Ends x t) = Finished o a v b x t
Passed o a v b flow ahead owed Exhausts = Exhausted o a v b

-- a want after which the round may go on
abbrev pub Stepped : ℕ → Site → Tale → Duty → Tale → State → (ahead owed : List ℕ) → Option Round → Type 0
Stepped n o a v b flow ahead owed None = Moved n o a v b flow ahead owed
Stepped n o a v b flow ahead owed (Some round) = Passed o a v b flow ahead owed round

-- a reading after which it may
abbrev pub WasRead : Site → Tale → Duty → Tale → State → (ahead owed : List ℕ) → Option Round → Type 0
WasRead o a v b flow ahead owed None = Came o a v b flow ahead owed
WasRead o a v b flow ahead owed (Some round) = Passed o a v b flow ahead owed round

-- all that was owed was sent, or the rest of it is left for later, or the link failed
abbrev pub Flushed : Site → Tale → Duty → Tale → (owed : List ℕ) → Option Round → Type 0
Flushed o a v b owed None = Grew o a v b (record v { owed = owed }) × (owed ≡ [])
Flushed o a v b owed (Some Later) = Grew o a v b (record v { owed = owed }) × (owed ≢ [])
Flushed o a v b owed (Some (Ends x t)) = Finished o a v b x t
Flushed o a v b owed (Some round) = ⊥

-- What an earlier round left goes before all else.

-- it was sent, and from there the round went on
pub record Resumed (o : Site) (a : Tale) (v : Duty) (flow : State) (ahead : List ℕ) (b : Tale) (flow' : State) (ahead' owed' : List ℕ) (round : Round)
    : Type 0 where
  pub mid : Tale
  pub turns_are : mid.told.turns ≡ a.told.turns
  pub drawn : mid.told.drawn ≡ a.told.drawn
  pub sent : Came o a v mid flow ahead []
  pub passed : Passed o mid (duty o sent.to) b flow' ahead' owed' round

-- or nothing was entered, drawn, read or handled
pub record Stayed (a : Tale) (flow : State) (ahead : List ℕ) (b : Tale) (flow' : State) (ahead' : List ℕ) : Type 0 where
  pub turns_are : b.told.turns ≡ a.told.turns
  pub drawn : b.told.drawn ≡ a.told.drawn
  pub flow_is : flow' ≡ flow
  pub ahead_is : ahead' ≡ ahead

abbrev pub Resumes : Site → Tale → Duty → State → (ahead : List ℕ) → Tale → State → (ahead' owed' : List ℕ) → Round → Type 0
Resumes o a v flow ahead b flow' ahead' owed' round =
    Resumed o a v flow ahead b flow' ahead' owed' round ⊎ Stayed a flow ahead b flow' ahead'

-- Readings. The clock is asked once after each of them, and once where the link failed at a sending.

-- a reading was made, after which the clock was asked
abbrev pub Asked : (before now : Option (List ℕ)) → Type 0
Asked before now = (t : ℕ) × Tells ℕ before now (t ∷ [])

-- none was made; the clock was asked at most where the link failed
abbrev pub Unread : (before now : Option (List ℕ)) → Round → Type 0
Unread before now (Ends x t) = (now ≡ before) ⊎ ((x ≡ ended.LinkFault) × Asked before now)
Unread before now round = now ≡ before

abbrev pub UnreadIf : (before now : Option (List ℕ)) → Option Round → Type 0
UnreadIf before now None = now ≡ before
UnreadIf before now (Some round) = Unread before now round

-- How often the clock was asked in a round that answered so: at rest just one reading was made, and else one at most. A link that failed at a
-- sending may have been read before.
abbrev pub Reads : Round → ℕ → Type 0
Reads Goes n = n ≡ 1
Reads (Ends x t) n = (n ≤ 1) ⊎ ((x ≡ ended.LinkFault) × (n ≡ 2))
Reads round n = n ≤ 1

-- the clock told as many moments
abbrev pub ReadOnce : (before now : Option (List ℕ)) → Round → Type 0
ReadOnce before now round = (moments : List ℕ) × Tells ℕ before now moments × Reads round (length moments)

-- a reading was made where the round goes on
abbrev pub AskedIf : (before now : Option (List ℕ)) → Option Round → Type 0
AskedIf before now None = Asked before now
AskedIf before now (Some round) = ReadOnce before now round

-- The count of Laters rises by one where a round stops for the link. It may where the connection ends, and nowhere else.

abbrev pub Counts : (before now : ℕ) → Round → Type 0
Counts before now Later = now ≡ raised before
Counts before now (Ends x t) = (now ≡ before) ⊎ (now ≡ raised before)
Counts before now round = now ≡ before

abbrev pub CountsIf : (before now : ℕ) → Option Round → Type 0
CountsIf before now None = now ≡ before
CountsIf before now (Some round) = Counts before now round

-- A turn that was refused marks the pass.

abbrev pub marked_next : Next → Bool → Bool
marked_next next.Exhausts marked = true
marked_next next.Goes marked = marked
marked_next next.Rests marked = marked
marked_next (next.Over x) marked = marked
marked_next (next.Finishes x t) marked = marked

abbrev pub marked_round : Round → Bool → Bool
marked_round Exhausts marked = true
marked_round Goes marked = marked
marked_round Later marked = marked
marked_round More marked = marked
marked_round (Ends x t) marked = marked

abbrev pub marked_step : Option Round → Bool → Bool
marked_step None marked = marked
marked_step (Some round) marked = marked_round round marked
