-- How far a drill has come.
use Rattle.std.specs.Prelude.{◌≡◌, ℕ, ◌+◌, ◌<◌, ◌^◌, List, ◌++◌, codes, length, Bool, true, false, Result, Ok, Err, ⊤}
use Rattle.std.specs.List.{filter}
use Rattle.house_model.specs.States.{Kept}
use Rattle.house_model.specs.Histories.{StandsFor, Turn}
use Rattle.house_model.specs.declared.reply.Reply.{Reply}
use Rattle.replay_script.specs.Drills.{Follows, IsDrill, house, is_done, is_frame, is_resumed, plan, told}
use Rattle.replay_script.specs.DrillStands.{Stand, concluded}
use Rattle.drill_run.specs.declared.counts.Counts.{Counts}

-- What is counted.

abbrev pub counts_of : List Turn → Counts
counts_of h = record { stanzas = length (filter is_done h); frames = length (filter is_frame h); resumed = length (filter is_resumed h) }

abbrev pub one_if : Bool → ℕ
one_if true = 1
one_if false = 0

-- a turn more
abbrev pub with_turn : Turn → Counts → Counts
with_turn x c = record {
  stanzas = c.stanzas + one_if (is_done x);
  frames = c.frames + one_if (is_frame x);
  resumed = c.resumed + one_if (is_resumed x);
}

-- each can still grow
pub record HaveRoom (c : Counts) : Type 0 where
  pub stanzas : c.stanzas < 2 ^ 63
  pub frames : c.frames < 2 ^ 63
  pub resumed : c.resumed < 2 ^ 63

abbrev pub line_of_counts : (n : ℕ) → Counts → (turns : ℕ) → List ℕ
line_of_counts n c turns =
    told (codes "rounds") n ++ told (codes " stanzas") c.stanzas ++ told (codes " frames") c.frames ++ told (codes " resumed") c.resumed
    ++ told (codes " turns") turns ++ codes "\n"

-- How it goes on.

-- The house took so many turns, which follow the drill's orders and were counted; the last was answered so.
pub record Going (n key : ℕ) (k : Kept) (s : Stand) (last : Reply) (frame : List ℕ) (counts : Counts) (number : ℕ) : Type 0 where
  pub history : List Turn
  pub stands : StandsFor house history k
  pub follows : Follows (plan n key) history (concluded s last frame)
  pub counted : counts ≡ counts_of history
  pub many : number ≡ length history

-- All orders were carried out, and the turns were counted.
pub record Ended (n key : ℕ) (k : Kept) (counts : Counts) : Type 0 where
  pub history : List Turn
  pub stands : StandsFor house history k
  pub drill : IsDrill n key history
  pub counted : counts ≡ counts_of history

-- what came of a turn: one more, or there was none
abbrev pub Turning : {X : Type 0} → (n key : ℕ) → Kept → Stand → Reply → (frame : List ℕ) → Counts → (number : ℕ) → Result Bool X → Type 0
Turning n key k s last frame counts number (Ok true) = Going n key k s last frame counts (number + 1)
Turning n key k s last frame counts number (Ok false) = Ended n key k counts
Turning n key k s last frame counts number (Err x) = ⊤
