-- How `drill` ends.
use Rattle.std.proofs.Common.{◌≡◌, ℕ, List, true≢false, Some, refl, sym, ap, ◌∙◌, inl, inr}
use Rattle.std.specs.Prelude.{◌⊎◌, Option, is_some}
use Rattle.drill_run.specs.Endings.{Ends}
use Rattle.script_play.specs.declared.status.Status.{Status}
use Rattle.script_play.specs.declared.status.Status.TheVariants as status
use Rattle.serve_words.specs.Options.{IsRefusal}
use Rattle.commands.specs.Commands.{Drill, Task}

-- no words were read
pub drill_unread : {K : Type 0} (took : K → Option (List ℕ)) (task : Option Task) (n key : ℕ) (sink : K) (s : Status) → IsRefusal task s
    → task ≡ Some (Drill n key) → Ends took n key sink sink s
drill_unread took task n key sink status.NoMemory refused is = refl
drill_unread took task n key sink status.Usage refused is = absurd (true≢false (ap is_some (sym is) ∙ ap is_some refused))
drill_unread took task n key sink status.Done refused is = absurd refused
drill_unread took task n key sink (status.Accounts line) refused is = absurd refused
drill_unread took task n key sink (status.Script line) refused is = absurd refused
drill_unread took task n key sink status.ReadFault refused is = absurd refused
drill_unread took task n key sink status.WriteFault refused is = absurd refused
drill_unread took task n key sink status.ListenFault refused is = absurd refused

-- where the sink doesn't fail
pub ends_drilled : {K : Type 0} (took : K → Option (List ℕ)) (n key : ℕ) (sink sink_now : K) (s : Status) → Ends took n key sink sink_now s
    → (s ≡ status.WriteFault → ⊥) → (s ≡ status.Done) ⊎ (s ≡ status.NoMemory)
ends_drilled took n key sink sink_now status.Done ends written = inl refl
ends_drilled took n key sink sink_now status.NoMemory ends written = inr refl
ends_drilled took n key sink sink_now status.WriteFault ends written = absurd (written refl)
ends_drilled took n key sink sink_now status.Usage ends written = absurd ends
ends_drilled took n key sink sink_now (status.Accounts line) ends written = absurd ends
ends_drilled took n key sink sink_now (status.Script line) ends written = absurd ends
ends_drilled took n key sink sink_now status.ReadFault ends written = absurd ends
ends_drilled took n key sink sink_now status.ListenFault ends written = absurd ends
