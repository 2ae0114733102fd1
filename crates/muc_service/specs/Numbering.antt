-- No two rooms that are there have one number, and each was made.
use Rattle.std.specs.Prelude.{ℕ, ◌==◌, ◌≤◌, ◌≡◌, List, [], ◌∷◌, ⊤, Option, Some, None}
use Rattle.std.specs.List.{find}
use Rattle.muc_service.specs.Rooms.{Hosted, Rooms}

-- of so many rooms that were made
abbrev pub AreNumbered : ℕ → List Hosted → Type 0
AreNumbered made [] = ⊤
AreNumbered made (h ∷ more) = (h.room.number ≤ made) × (find (λ x. x.room.number == h.room.number) more ≡ None) × AreNumbered made more

abbrev pub Numbered : Rooms → Type 0
Numbered rooms = AreNumbered rooms.made rooms.hosted
