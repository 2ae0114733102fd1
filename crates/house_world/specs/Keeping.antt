-- What is true of what a house keeps of users.
use Rattle.std.specs.Prelude.{◌≡◌, ◌<◌, ◌≤◌, ◌^◌, List, length, ⊤}
use Rattle.std.specs.List.{AllByRecursion}
use Rattle.stanza_model.specs.declared.effect.Change.{Change}
use Rattle.stanza_model.specs.declared.effect.Change.TheVariants.{Asked, Pushed}
use Rattle.contact_table.specs.Books.{Pair, user_of}
use Rattle.contact_table.specs.Tables.{BookRecord}

-- the names of those who have asked have at most so many bytes
abbrev pub AreShortNames : List Pair → Type 0
AreShortNames pairs = AllByRecursion (λ p. length p.a ≤ 1023) pairs

-- what no effect changes of it
pub record Keeps (old new : BookRecord) : Type 0 where
  pub domain : new.domain ≡ old.domain
  pub names : AreShortNames old.book.asked → AreShortNames new.book.asked

-- a change after which they are as short, and each count of pushes is as small
abbrev pub IsShortChange : Change → Type 0
IsShortChange (Asked a b on) = length (user_of a) ≤ 1023
IsShortChange (Pushed s pushes) = pushes < 2 ^ 64
IsShortChange change = ⊤
