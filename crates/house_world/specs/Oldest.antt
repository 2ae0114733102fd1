-- What giving the oldest answer does.
use Rattle.std.specs.Prelude.{◌≡◌, ℕ, ◌++◌, Bool, true, false, List, [], ◌∷◌}
use Rattle.house_model.specs.declared.answer.Answer.{Answer}
use Rattle.house_model.specs.Answers.{answer_text}

-- the oldest answer is appended and waits no more, where one waits
abbrev pub Gave : (old new : List Answer) → Bool → (before after : List ℕ) → Type 0
Gave [] new given before after = (given ≡ false) × ((new ≡ []) × (after ≡ before))
Gave (a ∷ more) new given before after = (given ≡ true) × ((new ≡ more) × (after ≡ before ++ answer_text a))
