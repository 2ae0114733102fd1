-- Why a roster set is refused (RFC 6121, 2.3.3 and 2.5.3). The rows go from the top down, and the first that fits refuses.
use Rattle.std.specs.Prelude.{ℕ, ◌+◌, ◌==◌, nat_lt, nat_le, List, [], ◌∷◌, map, length, Bool, false, not, ◌&&◌}
use Rattle.std.specs.Prelude.{◌||◌, bytes_eq, Option, Some, None, is_some, if◌then◌else◌}
use Rattle.std.specs.List.{filter, list_any, sum}
use Rattle.jid_core.specs.Addresses.{Address, same_address}
use Rattle.stanza_model.specs.RosterLimits.{counted, most_contacts, most_text}
use Rattle.stanza_model.specs.declared.condition.Condition.{Condition}
use Rattle.stanza_model.specs.declared.condition.Condition.TheVariants.{BadRequest, ItemNotFound, NotAcceptable, ResourceConstraint}
use Rattle.stanza_model.specs.declared.shared.Contact.{Contact}
use Rattle.roster_book.specs.declared.item.Wanted.{Wanted}

-- the contact of a roster that has this address
abbrev pub contact_at : Address → List Contact → Option Contact
contact_at address [] = None
contact_at address (c ∷ more) = if same_address c.address address then Some c else contact_at address more

abbrev pub is_listed : Address → List Contact → Bool
is_listed address contacts = is_some (contact_at address contacts)

-- the most bytes of a name, and of a group
abbrev pub most_bytes : ℕ
most_bytes = 1023

abbrev pub is_wrong_group : List ℕ → Bool
is_wrong_group group = length group == 0 || nat_lt most_bytes (length group)

-- RFC 6121, 2.3.3: a name or a group is too long, or a group is empty
abbrev pub has_wrong_texts : Contact → Bool
has_wrong_texts x = nat_lt most_bytes (length x.name) || list_any is_wrong_group x.groups

-- RFC 6121, 2.3.3: two groups are the same
abbrev pub has_double : List (List ℕ) → Bool
has_double [] = false
has_double (g ∷ more) = list_any (λ h. bytes_eq h g) more || has_double more

abbrev pub most_groups : ℕ
most_groups = 64

-- there are too many groups, or two are the same
abbrev pub has_wrong_groups : List (List ℕ) → Bool
has_wrong_groups groups = nat_lt most_groups (length groups) || has_double groups

-- RFC 6121, 2.5.3: a contact to be removed is in the roster
abbrev pub is_missing : List Contact → Wanted → Bool
is_missing contacts w = w.remove && not (is_listed w.contact.address contacts)

-- a new contact is one too many
abbrev pub is_one_too_many : List Contact → Contact → Bool
is_one_too_many contacts x = not (is_listed x.address contacts) && nat_le most_contacts (length contacts)

abbrev pub others : Address → List Contact → List Contact
others address contacts = filter (λ c. not (same_address c.address address)) contacts

-- the items of the roster as it is after the set
abbrev pub text_after : List Contact → Contact → ℕ
text_after contacts x = counted x + sum (map counted (others x.address contacts))

abbrev pub is_too_large : List Contact → Contact → Bool
is_too_large contacts x = is_one_too_many contacts x || nat_lt most_text (text_after contacts x)

-- the conditions of the rows
abbrev pub refusal : List Contact → Wanted → Option Condition
refusal contacts w =
    if has_wrong_texts w.contact then Some NotAcceptable
    else if has_wrong_groups w.contact.groups then Some BadRequest
    else if is_missing contacts w then Some ItemNotFound
    else if is_too_large contacts w.contact then Some ResourceConstraint
    else None
