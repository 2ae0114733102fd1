-- What the server keeps of its users: their contacts, and who sees whose presence (RFC 6121, 2 and 3).
use Rattle.std.specs.Prelude.{ℕ, List, [], ◌∷◌, ◌++◌, map, Bool, true, false, not, ◌&&◌, Option, Some, None, is_some, bytes_eq, if◌then◌else◌, unwrap_or}
use Rattle.std.specs.List.{filter, list_any}
use Rattle.jid_core.specs.Addresses.{Address, same_address}
use Rattle.stanza_model.specs.Subscriptions.{state_by}
use Rattle.stanza_model.specs.declared.effect.Change.{Change}
use Rattle.stanza_model.specs.declared.effect.Change.TheVariants.{Contact, NoContact, Sees, Asked}
use Rattle.stanza_model.specs.declared.shared.Contact as roster
use Rattle.stanza_model.specs.declared.shared.Subscription.{Subscription}
use Rattle.stanza_model.specs.declared.shared.Subscription.TheVariants.{Neither}

-- a contact of a user: what the user named it, and the groups that it is in
pub record Record : Type 0 where
  pub user : List ℕ
  pub address : Address
  pub name : List ℕ
  pub groups : List (List ℕ)

-- one user of the server and another, by the local parts of their addresses
pub record Pair : Type 0 where
  pub a : List ℕ
  pub b : List ℕ

pub record Book : Type 0 where
  pub records : List Record  -- in the order in which they were made
  pub sees : List Pair  -- a sees the presence of b
  pub asked : List Pair  -- a has asked b to be allowed to

abbrev pub empty_book : Book
empty_book = record { records = []; sees = []; asked = [] }

-- What changes.

abbrev pub is_contact : List ℕ → Address → Record → Bool
is_contact user address x = bytes_eq x.user user && same_address x.address address

-- RFC 6121, 2.3: a contact that is set anew keeps its place
abbrev pub set_in : Record → List Record → List Record
set_in x [] = []
set_in x (y ∷ more) = if is_contact x.user x.address y then x ∷ more else y ∷ set_in x more

abbrev pub with_contact : Record → List Record → List Record
with_contact x xs = if list_any (is_contact x.user x.address) xs then set_in x xs else xs ++ x ∷ []

abbrev pub without_contact : List ℕ → Address → List Record → List Record
without_contact user address xs = filter (λ x. not (is_contact user address x)) xs

abbrev pub is_pair : Pair → Pair → Bool
is_pair p q = bytes_eq p.a q.a && bytes_eq p.b q.b

abbrev pub with_pair : Pair → Bool → List Pair → List Pair
with_pair p true ps = if list_any (is_pair p) ps then ps else ps ++ p ∷ []
with_pair p false ps = filter (λ q. not (is_pair p q)) ps

-- an account's address has a local part
abbrev pub user_of : Address → List ℕ
user_of address = unwrap_or address.local address.domain

abbrev pub pair_of : Address → Address → Pair
pair_of a b = record { a = user_of a; b = user_of b }

-- what is set of a session stands elsewhere
abbrev pub noted : Change → Book → Book
noted (Contact user address name groups) k =
    record k { records = with_contact (record { user = user; address = address; name = name; groups = groups }) k.records }
noted (NoContact user address) k = record k { records = without_contact user address k.records }
noted (Sees a b on) k = record k { sees = with_pair (pair_of a b) on k.sees }
noted (Asked a b on) k = record k { asked = with_pair (pair_of a b) on k.asked }
noted change k = k

-- What it tells.

abbrev pub has_pair : List ℕ → List ℕ → List Pair → Bool
has_pair a b ps = list_any (is_pair (record { a = a; b = b })) ps

-- who sees the presence of a user, whose presence it sees, and who has asked it to be allowed to, in the order of the pairs

abbrev pub firsts_of : List ℕ → List Pair → List (List ℕ)
firsts_of b ps = map (λ p. p.a) (filter (λ p. bytes_eq p.b b) ps)

abbrev pub seconds_of : List ℕ → List Pair → List (List ℕ)
seconds_of a ps = map (λ p. p.b) (filter (λ p. bytes_eq p.a a) ps)

abbrev pub who_sees : Book → List ℕ → List (List ℕ)
who_sees k user = firsts_of user k.sees

abbrev pub whom_sees : Book → List ℕ → List (List ℕ)
whom_sees k user = seconds_of user k.sees

abbrev pub who_asked : Book → List ℕ → List (List ℕ)
who_asked k user = firsts_of user k.asked

-- the bare address of a user
abbrev pub bare_of : (domain user : List ℕ) → Address
bare_of domain user = record { local = Some user; domain = domain; resource = None }

-- the user of this server whose bare address it is
abbrev pub local_user : (domain : List ℕ) → Address → Option (List ℕ)
local_user domain address = if bytes_eq address.domain domain && not (is_some address.resource) then address.local else None

-- RFC 6121, 2.1.2.5: an address of elsewhere sees nobody's presence here, and nobody here sees its
abbrev pub subscription_to : Book → List ℕ → Option (List ℕ) → Subscription
subscription_to k user None = Neither
subscription_to k user (Some other) = state_by (has_pair user other k.sees) (has_pair other user k.sees)

-- RFC 6121, 2.1.2.2
abbrev pub is_asked : Book → List ℕ → Option (List ℕ) → Bool
is_asked k user None = false
is_asked k user (Some other) = has_pair user other k.asked

abbrev pub contact_of : (domain : List ℕ) → Book → Record → roster.Contact
contact_of domain k x = record {
  address = x.address;
  name = x.name;
  groups = x.groups;
  subscription = subscription_to k x.user (local_user domain x.address);
  asked = is_asked k x.user (local_user domain x.address);
}

-- RFC 6121, 2.1: the contacts of a user, in the order in which they were made
abbrev pub contacts_of : (domain : List ℕ) → Book → List ℕ → List roster.Contact
contacts_of domain k user = map (contact_of domain k) (filter (λ x. bytes_eq x.user user) k.records)
