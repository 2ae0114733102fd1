-- The folders of all users, and the book that they stand for.
use Rattle.std.specs.Prelude.{◌≡◌, ◌+◌, ◌-◌, ◌/◌, ◌≤◌, ℕ, List, Bool, true, false, cond, min, map, length}
use Rattle.std.specs.Prelude.{bytes_eq, Option, Some, None, is_some, IfSome, vec_len, vec_capacity}
use Rattle.std.specs.List.{list_all, list_any}
use Rattle.std.specs.Map.{lookup}
use Rattle.std.specs.declared.alloc.Global.{Global}
use Rattle.std.specs.declared.vec.Vec.{Vec}
use Rattle.stanza_model.specs.Subscriptions.{state_by}
use Rattle.stanza_model.specs.declared.shared.Subscription.{Subscription}
use Rattle.stanza_model.specs.declared.shared.Subscription.TheVariants.{Neither}
use Rattle.contact_table.specs.Books.{Book, bare_of, has_pair}
use Rattle.contact_table.specs.Marks.{Sheet, empty_sheet, sheet_of}
use Rattle.contact_table.specs.Tables.{Room}
use Rattle.contact_table.specs.declared.folder.Folder.{Folder}

abbrev pub Name : Type 0
Name = Vec ℕ Global

abbrev pub Entries : Type 0
Entries = List (Name × Folder)

abbrev pub sheet : Folder → Sheet
sheet f = record {
  contacts = f.roster.contacts.items;
  who_sees = f.who_sees.users;
  whom_sees = f.whom_sees.users;
  who_asked = f.who_asked.users;
}

-- the least number of places that are left in its lists
abbrev pub places : Folder → ℕ
places f = min (vec_capacity f.roster.contacts - vec_len f.roster.contacts) (min f.who_sees.spare (min f.whom_sees.spare f.who_asked.spare))

-- each name is the user's
abbrev pub IsNamed : List ℕ → List Name → Type 0
IsNamed user ns = list_all (λ n. bytes_eq user n.items) ns ≡ true

-- Of a user that may have no folder.

abbrev pub folder_at : List ℕ → Entries → Option Folder
folder_at user es = lookup (λ k. bytes_eq user k.items) es

abbrev pub sheet_in : Option Folder → Sheet
sheet_in None = empty_sheet
sheet_in (Some f) = sheet f

abbrev pub places_in : Option Folder → ℕ
places_in None = 0
places_in (Some f) = places f

abbrev pub names_in : Option Folder → ℕ
names_in None = 0
names_in (Some f) = length f.names.items

-- A change may take two places and two names of a user, who may see itself.
abbrev pub room_in : Option Folder → ℕ
room_in o = min (places_in o) (names_in o) / 2

abbrev pub rooms : Entries → List Room
rooms es = map (λ e. record { user = e.0.items; changes = room_in (Some e.1) }) es

abbrev pub IsOwn : (domain user : List ℕ) → Option Folder → Type 0
IsOwn domain user o = IfSome o (λ f. (f.roster.owner ≡ bare_of domain user) × IsNamed user f.names.items)

-- the folders are those of the book
pub record Keeps (domain : List ℕ) (k : Book) (es : Entries) : Type 0 where
  pub sheets : (user : List ℕ) → sheet_in (folder_at user es) ≡ sheet_of domain k user
  pub own : (user : List ℕ) → IsOwn domain user (folder_at user es)
  pub askers : (a b : List ℕ) → has_pair a b k.asked ≡ true → is_some (folder_at a es) ≡ true

-- what one user has is changed, with so many places and names that are taken at most
pub record Edits (user : List ℕ) (step : Sheet → Sheet) (uses takes : ℕ) (old new : Entries) : Type 0 where
  pub sheets : (u : List ℕ) → sheet_in (folder_at u new)
      ≡ cond (bytes_eq user u) (step (sheet_in (folder_at u old))) (sheet_in (folder_at u old))
  pub own : (domain u : List ℕ) → IsOwn domain u (folder_at u old) → IsOwn domain u (folder_at u new)
  pub places : (u : List ℕ) → places_in (folder_at u old) ≤ places_in (folder_at u new) + cond (bytes_eq user u) uses 0
  pub names : (u : List ℕ) → names_in (folder_at u old) ≤ names_in (folder_at u new) + cond (bytes_eq user u) takes 0
  pub there : (u : List ℕ) → is_some (folder_at u new) ≡ is_some (folder_at u old)

-- What a folder tells of another user.

abbrev pub has_user : List (List ℕ) → List ℕ → Bool
has_user us user = list_any (λ x. bytes_eq x user) us

abbrev pub subscription_in : Sheet → Option (List ℕ) → Subscription
subscription_in s None = Neither
subscription_in s (Some other) = state_by (has_user s.whom_sees other) (has_user s.who_sees other)

abbrev pub asked_in : Entries → (user : List ℕ) → Option (List ℕ) → Bool
asked_in es user None = false
asked_in es user (Some other) = has_user (sheet_in (folder_at other es)).who_asked user
