-- What is queued for a session, read off the house's history: the entries that the effects of each turn give it while it goes on, in order.
use Rattle.std.specs.Prelude.{ℕ, ◌==◌, List, [], ◌∷◌, ◌++◌, if◌then◌else◌}
use Rattle.stanza_tree.specs.declared.frame.Entry.{Entry}
use Rattle.house_model.specs.declared.event.Event.{Event}
use Rattle.house_model.specs.Sessions.{Session, Push}
use Rattle.house_model.specs.Traffic.{Traffic, whole}
use Rattle.house_model.specs.States.{World, State, keep}
use Rattle.house_model.specs.Effects.{Effect, On, apply}
use Rattle.house_model.specs.Steps.{verdict, turn}
use Rattle.house_model.specs.Histories.{Outcome, Made, Short, Turn}
use Rattle.house_model.specs.Lines.{told}
use Rattle.house_model.specs.Stays.{takes_entries}

-- the entry that an effect has for session s
abbrev pub entry_for : ℕ → Effect → List Entry
entry_for s (On i (Push entry)) = if s == i then entry ∷ [] else []
entry_for s e = []

-- It is queued where the session goes on with it: one that is over, or that this entry ends, does not take it.
abbrev pub if_taken : Session Traffic → List Entry → List Entry
if_taken x entries = if takes_entries x then entries else []

-- what a list of effects queues for session s
abbrev pub queued_by : ℕ → World Traffic → List Effect → List Entry
queued_by s world [] = []
queued_by s world (e ∷ more) = if_taken ((apply whole world e).sessions s) (entry_for s e) ++ queued_by s (apply whole world e) more

-- and a turn; one for which memory was wanting queues nothing
abbrev pub queued_in : ℕ → State → Event → Outcome → List Entry
queued_in s st e (Made reply text) = queued_by s st.world (verdict (keep (turn e st)) e).effects
queued_in s st e Short = []

-- and a history
abbrev pub queued_for : State → List Turn → ℕ → List Entry
queued_for o h s = told (queued_in s) o h
