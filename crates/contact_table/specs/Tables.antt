-- What contracts see of the tables.
use Rattle.std.specs.Prelude.{ℕ, List, [], ◌∷◌, Option, Some, None, bytes_eq, if◌then◌else◌, fold}
use Rattle.std.specs.List.{list_any}
use Rattle.stanza_model.specs.declared.effect.Change.{Change}
use Rattle.stanza_model.specs.declared.effect.Change.TheVariants.{Contact, NoContact, Sees, Asked}
use Rattle.stanza_model.specs.declared.shared.Contact as roster
use Rattle.stanza_model.specs.declared.shared.Roster.{Roster}
use Rattle.contact_table.specs.Books.{Book, empty_book, noted, user_of}
use Rattle.contact_table.specs.Orders.{OrderRecord}

-- a user of whom something is kept, and for how many changes more of it there is memory
pub record Room : Type 0 where
  pub user : List ℕ
  pub changes : ℕ

pub record BookRecord : Type 0 where
  pub domain : List ℕ
  pub book : Book
  pub rooms : List Room

abbrev pub room_of : List ℕ → List Room → ℕ
room_of user [] = 0
room_of user (x ∷ more) = if bytes_eq user x.user then x.changes else room_of user more

-- for how many changes more of a user there is memory
abbrev pub spare : List ℕ → BookRecord → ℕ
spare user b = room_of user b.rooms

-- the users that a change is of
abbrev pub names : Change → List (List ℕ)
names (Contact user address name groups) = user ∷ []
names (NoContact user address) = user ∷ []
names (Sees a b on) = user_of a ∷ user_of b ∷ []
names (Asked a b on) = user_of a ∷ user_of b ∷ []
names change = []

-- how many changes of a user it is: one or none
abbrev pub needed : List ℕ → Change → ℕ
needed user change = if list_any (bytes_eq user) (names change) then 1 else 0

-- what is listed for a user: where nothing is kept of it, nothing

abbrev pub contacts_in : Option Roster → List roster.Contact
contacts_in None = []
contacts_in (Some r) = r.contacts.items

abbrev pub users_in : Option OrderRecord → List (List ℕ)
users_in None = []
users_in (Some o) = o.users

-- the book after these changes
abbrev pub book_after : List Change → Book
book_after changes = fold (λ k change. noted change k) empty_book changes
