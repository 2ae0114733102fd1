-- How a drill ends.
use Rattle.std.specs.Prelude.{◌≡◌, ℕ, List, ◌++◌, Option, Some}
use Rattle.house_model.specs.Histories.{Legal, Turn}
use Rattle.house_model.specs.Promises.{Safe}
use Rattle.replay_script.specs.Drills.{IsDrill, house, line}
use Rattle.script_play.specs.Runs.{Front}
use Rattle.script_play.specs.declared.status.Status.{Status}
use Rattle.script_play.specs.declared.status.Status.TheVariants as status

-- A drill was run: its history is legal and follows its orders to their end, the promises hold of it, and this is its line.
pub record Drilled (n key : ℕ) (out : List ℕ) : Type 0 where
  pub history : List Turn
  pub legal : Legal house history
  pub drill : IsDrill n key history
  pub safe : Safe house history
  pub line : out ≡ line n history

-- How `drill` ends, of a sink. It writes the line, where the sink fails a front of it, and without memory nothing.
abbrev pub Ends : {K : Type 0} → (K → Option (List ℕ)) → (n key : ℕ) → K → K → Status → Type 0
Ends took n key sink sink_now status.Done =
    (out : List ℕ) × Drilled n key out × ((taken : List ℕ) → took sink ≡ Some taken → took sink_now ≡ Some (taken ++ out))
Ends took n key sink sink_now status.WriteFault =
    (out : List ℕ) × Drilled n key out × ((taken : List ℕ) → took sink ≡ Some taken → Front taken out (took sink_now))
Ends took n key sink sink_now status.NoMemory = sink_now ≡ sink
Ends took n key sink sink_now status.Usage = ⊥
Ends took n key sink sink_now (status.Accounts line) = ⊥
Ends took n key sink sink_now (status.Script line) = ⊥
Ends took n key sink sink_now status.ReadFault = ⊥
Ends took n key sink sink_now status.ListenFault = ⊥
