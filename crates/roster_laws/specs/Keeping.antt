-- What is true of the rosters that a server keeps.
use Rattle.std.specs.Prelude.{◌≡◌, ℕ, ◌≤◌, List, [], ◌∷◌, map, length, sum, Bool, true, not, ◌&&◌}
use Rattle.std.specs.List.{list_any}
use Rattle.jid_core.specs.Addresses.{same_address}
use Rattle.stanza_model.specs.RosterLimits.{counted, most_contacts, most_text}
use Rattle.stanza_model.specs.declared.effect.Effect.{Effect}
use Rattle.stanza_model.specs.declared.effect.Effect.TheVariants.{Queue, Set}
use Rattle.stanza_model.specs.declared.shared.Contact.{Contact}
use Rattle.contact_table.specs.Books.{Book, contacts_of, noted}

-- no two contacts have one address
abbrev pub are_apart : List Contact → Bool
are_apart [] = true
are_apart (c ∷ more) = not (list_any (λ d. same_address d.address c.address) more) && are_apart more

-- a roster keeps to its limits
pub record IsRoster (contacts : List Contact) : Type 0 where
  pub few : length contacts ≤ most_contacts
  pub small : sum (map counted contacts) ≤ most_text
  pub apart : are_apart contacts ≡ true

-- each user's does
abbrev pub AreKept : (domain : List ℕ) → Book → Type 0
AreKept domain k = (user : List ℕ) → IsRoster (contacts_of domain k user)

-- what effects note, one after another
abbrev pub noted_all : List Effect → Book → Book
noted_all [] k = k
noted_all (Set c ∷ more) k = noted_all more (noted c k)
noted_all (e ∷ more) k = noted_all more k
