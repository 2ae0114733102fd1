-- What a connection did and met, one move after the other, and what each of those who tell tells of it.
use Rattle.std.specs.Prelude.{ℕ, List, [], ◌∷◌}
use Rattle.outside.specs.Tapes.{Mark}
use Rattle.outside.specs.Tapes as tape
use Rattle.house_model.specs.Histories.{Turn}
use Rattle.conn_asks.specs.declared.ended.Ended.{Ended}

pub data Move : Type 0 where
  -- the link was read at a moment: bytes came, nothing came, it was at its end, it failed
  Hears : (bytes : List ℕ) (moment : ℕ) → Move
  Waits : (moment : ℕ) → Move
  Hangs : (moment : ℕ) → Move
  Fails : (moment : ℕ) → Move
  -- what was heard is handled up to the end of its first item
  Takes : Move
  -- a text is to be sent, and a part of what is to be sent was sent
  Says : (text : List ℕ) → Move
  Sends : (bytes : List ℕ) → Move
  -- the house took an event
  Enters : (turn : Turn) → Move
  Draws : (dice : List ℕ) → Move
  -- there was no memory, no turn left, or no random bytes
  Stops : (ended : Ended) → Move

-- the tape of the link
abbrev pub marks : List Move → List Mark
marks [] = []
marks (Hears bytes t ∷ more) = tape.Heard bytes ∷ marks more
marks (Waits t ∷ more) = tape.Quiet ∷ marks more
marks (Hangs t ∷ more) = tape.End ∷ marks more
marks (Fails t ∷ more) = tape.Failed ∷ marks more
marks (Sends bytes ∷ more) = tape.Said bytes ∷ marks more
marks (Takes ∷ more) = marks more
marks (Says text ∷ more) = marks more
marks (Enters turn ∷ more) = marks more
marks (Draws dice ∷ more) = marks more
marks (Stops ended ∷ more) = marks more

-- the moments that the clock gave
abbrev pub moments : List Move → List ℕ
moments [] = []
moments (Hears bytes t ∷ more) = t ∷ moments more
moments (Waits t ∷ more) = t ∷ moments more
moments (Hangs t ∷ more) = t ∷ moments more
moments (Fails t ∷ more) = t ∷ moments more
moments (Sends bytes ∷ more) = moments more
moments (Takes ∷ more) = moments more
moments (Says text ∷ more) = moments more
moments (Enters turn ∷ more) = moments more
moments (Draws dice ∷ more) = moments more
moments (Stops ended ∷ more) = moments more

-- the turns that the house took, which are the connection's own
abbrev pub turns : List Move → List Turn
turns [] = []
turns (Enters turn ∷ more) = turn ∷ turns more
turns (Hears bytes t ∷ more) = turns more
turns (Waits t ∷ more) = turns more
turns (Hangs t ∷ more) = turns more
turns (Fails t ∷ more) = turns more
turns (Sends bytes ∷ more) = turns more
turns (Takes ∷ more) = turns more
turns (Says text ∷ more) = turns more
turns (Draws dice ∷ more) = turns more
turns (Stops ended ∷ more) = turns more

-- what the dice gave
abbrev pub draws : List Move → List (List ℕ)
draws [] = []
draws (Draws dice ∷ more) = dice ∷ draws more
draws (Hears bytes t ∷ more) = draws more
draws (Waits t ∷ more) = draws more
draws (Hangs t ∷ more) = draws more
draws (Fails t ∷ more) = draws more
draws (Sends bytes ∷ more) = draws more
draws (Takes ∷ more) = draws more
draws (Says text ∷ more) = draws more
draws (Enters turn ∷ more) = draws more
draws (Stops ended ∷ more) = draws more
