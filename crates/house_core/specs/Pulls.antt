-- What a pull gives.
use Rattle.std.specs.Prelude.{◌≡◌, ℕ, ◌++◌, Bool, true, false, List, [], ◌∷◌, Option, Some, None}
use Rattle.stanza_tree.specs.declared.frame.Entry.{Entry}
use Rattle.stanza_tree.specs.Entries.{frame}
use Rattle.house_model.specs.declared.answer.Answer.{Answer}
use Rattle.house_model.specs.declared.reply.Reply.{Reply}
use Rattle.house_model.specs.Answers.{answer_text}
use Rattle.house_model.specs.Effects.{At, Said}
use Rattle.house_model.specs.Gate.{Pass, Waits, Holds, Verdict}
use Rattle.house_world.specs.declared.world.World.{World}
use Rattle.house_world.specs.Worlds.{Did, Ends}

-- the oldest answer of a line is appended and waits no more, where one waits
abbrev pub GaveAt : ℕ → List Answer → (old new : World) → Bool → (before after : List ℕ) → Type 0
GaveAt w [] old new given before after = (given ≡ false) × ((new.table ≡ old.table) × (Did [] 0 old new × (after ≡ before)))
GaveAt w (a ∷ more) old new given before after = (given ≡ true) × (Did (At w Said ∷ []) 0 old new × (after ≡ before ++ answer_text a))

-- the frame of an entry is appended, where there is one
abbrev pub Framed : Option Entry → Bool → (before after : List ℕ) → Type 0
Framed None given before after = (given ≡ false) × (after ≡ before)
Framed (Some e) given before after = (given ≡ true) × (after ≡ before ++ frame e)

-- how the gate lets a line through, with the session that is held there
abbrev pub pass_of : Option ℕ → Pass
pass_of None = Waits
pass_of (Some s) = Holds 0 s

-- a verdict, as it was carried out, and its text, which was appended
pub record Gives (v : Verdict) (reply : Reply) (old new : World) (before after : List ℕ) : Type 0 where
  pub ends : Ends v 1 reply old new
  pub text : after ≡ before ++ v.text
