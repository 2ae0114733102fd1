-- What is kept of one user, and what a change does to it.
use Rattle.std.specs.Prelude.{ℕ, List, [], ◌∷◌, ◌++◌, Bool, true, false, not, map, Some, if◌then◌else◌}
use Rattle.std.specs.List.{filter, list_any}
use Rattle.jid_core.specs.Addresses.{Address, same_address, same_part}
use Rattle.stanza_model.specs.Subscriptions.{state_by}
use Rattle.stanza_model.specs.declared.shared.Contact.{Contact}
use Rattle.stanza_model.specs.declared.shared.Subscription.{Subscription}
use Rattle.stanza_model.specs.declared.shared.Subscription.TheVariants.{To, From, Both}
use Rattle.contact_table.specs.Books.{Book, contacts_of, local_user, who_asked, who_sees, whom_sees}
use Rattle.contact_table.specs.Orders.{with_user}
use Rattle.contact_table.specs.declared.flag.Flag.{Flag}
use Rattle.contact_table.specs.declared.flag.Flag.TheVariants.{Sees, Seen, Asked}

pub record Sheet : Type 0 where
  pub contacts : List Contact
  pub who_sees : List (List ℕ)
  pub whom_sees : List (List ℕ)
  pub who_asked : List (List ℕ)

abbrev pub empty_sheet : Sheet
empty_sheet = record { contacts = []; who_sees = []; whom_sees = []; who_asked = [] }

-- what the book tells of a user
abbrev pub sheet_of : (domain : List ℕ) → Book → List ℕ → Sheet
sheet_of domain k user = record {
  contacts = contacts_of domain k user;
  who_sees = who_sees k user;
  whom_sees = whom_sees k user;
  who_asked = who_asked k user;
}

-- Contacts.

-- one of the same address is replaced where it stands
abbrev pub set_listed : Contact → List Contact → List Contact
set_listed c [] = []
set_listed c (d ∷ more) = if same_address d.address c.address then c ∷ more else d ∷ set_listed c more

abbrev pub with_listed : Contact → List Contact → List Contact
with_listed c cs = if list_any (λ d. same_address d.address c.address) cs then set_listed c cs else cs ++ c ∷ []

abbrev pub sees_in : Subscription → Bool
sees_in To = true
sees_in Both = true
sees_in state = false

abbrev pub seen_in : Subscription → Bool
seen_in From = true
seen_in Both = true
seen_in state = false

abbrev pub flagged : Flag → Bool → Contact → Contact
flagged Sees on c = record c { subscription = state_by on (seen_in c.subscription) }
flagged Seen on c = record c { subscription = state_by (sees_in c.subscription) on }
flagged Asked on c = record c { asked = on }

-- whether it is the bare address of this user
abbrev pub is_user : (domain user : List ℕ) → Address → Bool
is_user domain user address = same_part (local_user domain address) (Some user)

abbrev pub marked : (domain other : List ℕ) → Flag → Bool → Contact → Contact
marked domain other flag on c = if is_user domain other c.address then flagged flag on c else c

-- What a change does.

abbrev pub putting : Contact → Sheet → Sheet
putting c s = record s { contacts = with_listed c s.contacts }

abbrev pub taking_out : Address → Sheet → Sheet
taking_out address s = record s { contacts = filter (λ c. not (same_address c.address address)) s.contacts }

abbrev pub seeing : (domain other : List ℕ) → Bool → Sheet → Sheet
seeing domain other on s = record s { contacts = map (marked domain other Sees on) s.contacts; whom_sees = with_user other on s.whom_sees }

abbrev pub seen_by : (domain other : List ℕ) → Bool → Sheet → Sheet
seen_by domain other on s = record s { contacts = map (marked domain other Seen on) s.contacts; who_sees = with_user other on s.who_sees }

abbrev pub asking : (domain other : List ℕ) → Bool → Sheet → Sheet
asking domain other on s = record s { contacts = map (marked domain other Asked on) s.contacts }

abbrev pub asked_by : (other : List ℕ) → Bool → Sheet → Sheet
asked_by other on s = record s { who_asked = with_user other on s.who_asked }
