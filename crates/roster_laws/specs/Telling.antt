-- What the rosters of two users say of what the server keeps of them (RFC 6121, 2.1.2 and 3).
use Rattle.std.specs.Prelude.{◌≡◌, ℕ, List, Bool, true, false, Some}
use Rattle.std.specs.List.{list_any}
use Rattle.jid_core.specs.Addresses.{same_address}
use Rattle.stanza_model.specs.declared.shared.Contact.{Contact}
use Rattle.stanza_model.specs.declared.shared.Side.{Side}
use Rattle.stanza_model.specs.declared.stanza.Stanza.{Stanza}
use Rattle.contact_table.specs.Books.{Book, bare_of, contacts_of, has_pair}
use Rattle.roster_book.specs.Requests.{removed_by}
use Rattle.subscription_pairs.specs.Users.{User}

-- a user of the domain, as a subscription's stanza finds it
pub record IsUser (domain : List ℕ) (k : Book) (name : List ℕ) (user : User) : Type 0 where
  pub bare : user.bare ≡ bare_of domain name
  pub contacts : user.contacts ≡ contacts_of domain k name

-- whether b is a contact of a
abbrev pub lists : (domain : List ℕ) → Book → (a b : List ℕ) → Bool
lists domain k a b = list_any (λ c. same_address c.address (bare_of domain b)) (contacts_of domain k a)

-- what a is to b, as the server keeps it
abbrev pub kept_side : (domain : List ℕ) → Book → (a b : List ℕ) → Side
kept_side domain k a b = record {
  sees = has_pair a b k.sees;
  seen = has_pair b a k.sees;
  asked = has_pair a b k.asked;
  asked_by = has_pair b a k.asked;
  listed = lists domain k a b;
}

-- where one sees the other, each is a contact of the other; where one has asked, the other is its contact
pub record AreListed (domain : List ℕ) (k : Book) : Type 0 where
  pub sees : (a b : List ℕ) → has_pair a b k.sees ≡ true → (lists domain k a b ≡ true) × (lists domain k b a ≡ true)
  pub asked : (a b : List ℕ) → has_pair a b k.asked ≡ true → lists domain k a b ≡ true

-- neither sees the other, and a hasn't asked
pub record AreStrangers (k : Book) (a b : List ℕ) : Type 0 where
  pub sees : has_pair a b k.sees ≡ false
  pub seen : has_pair b a k.sees ≡ false
  pub asked : has_pair a b k.asked ≡ false

-- whom a roster set removes is a stranger
abbrev pub RemovesStrangers : (domain : List ℕ) → Book → (own : List ℕ) → List Contact → Stanza → Type 0
RemovesStrangers domain k own contacts st =
    (b : List ℕ) → removed_by (bare_of domain own) contacts st ≡ Some (bare_of domain b) → AreStrangers k own b
