-- What a reading leaves to be heard.
use Rattle.std.specs.Prelude.{◌≡◌, ◌≢◌, List, [], ◌∷◌, ℕ, Option}
use Rattle.outside.specs.Tapes.{Mark, Tells}
use Rattle.outside.specs.Tapes as mark
use Rattle.outside.specs.declared.link.Heard.{Heard}
use Rattle.outside.specs.declared.link.Heard.TheVariants as heard

-- the mark of a reading, and the bytes that it left
abbrev pub Refilled : Option (List Mark) → Option (List Mark) → List ℕ → Heard → Type 0
Refilled tape tape' ahead (heard.Bytes n) = (ahead ≢ []) × Tells Mark tape tape' (mark.Heard ahead ∷ [])
Refilled tape tape' ahead heard.Quiet = (ahead ≡ []) × Tells Mark tape tape' (mark.Quiet ∷ [])
Refilled tape tape' ahead heard.End = (ahead ≡ []) × Tells Mark tape tape' (mark.End ∷ [])
Refilled tape tape' ahead heard.Failed = (ahead ≡ []) × Tells Mark tape tape' (mark.Failed ∷ [])
