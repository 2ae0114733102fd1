-- What comes of a request about one's own roster (RFC 6121, 2.1 to 2.5).
use Rattle.std.specs.Prelude.{ℕ, List, [], ◌∷◌, ◌++◌, map, Bool, true, false, not, ◌&&◌, Option, Some, None, is_some, unwrap_or, if◌then◌else◌}
use Rattle.std.specs.Option.{option_and_then}
use Rattle.jid_core.specs.Addresses.{Address}
use Rattle.stanza_tree.specs.declared.node.Element.{Element}
use Rattle.stanza_model.specs.Replies.{one_child, refused, result_of, said_to}
use Rattle.stanza_model.specs.Rosters.{item, pushes, query_of, removed_item}
use Rattle.stanza_model.specs.declared.condition.Condition.{Condition}
use Rattle.stanza_model.specs.declared.condition.Condition.TheVariants.{BadRequest}
use Rattle.stanza_model.specs.declared.effect.Change.{Change}
use Rattle.stanza_model.specs.declared.effect.Change.TheVariants as change
use Rattle.stanza_model.specs.declared.effect.Effect.{Effect}
use Rattle.stanza_model.specs.declared.effect.Effect.TheVariants.{Set}
use Rattle.stanza_model.specs.declared.here.Here.{Here}
use Rattle.stanza_model.specs.declared.shared.Contact.{Contact}
use Rattle.stanza_model.specs.declared.stanza.Stanza.{Stanza}
use Rattle.roster_book.specs.Items.{wanted_in}
use Rattle.roster_book.specs.Refusals.{contact_at, refusal}
use Rattle.roster_book.specs.declared.item.Wanted.{Wanted}

-- Get.

-- RFC 6121, 2.1.4: all contacts, in the roster's order
abbrev pub listing : List Contact → Element
listing contacts = query_of (map item contacts)

-- RFC 6121, 2.1.3 and 2.1.6: the session is told of changes from then on, and gets the roster
abbrev pub roster_get : List Contact → Here → Stanza → List Effect
roster_get contacts who request = Set (change.WantsRoster who.session) ∷ said_to who (result_of request (one_child (listing contacts))) ∷ []

-- Set.

-- an account's address has a local part
abbrev pub user_of : Address → List ℕ
user_of owner = unwrap_or owner.local owner.domain

-- RFC 6121, 2.3.1, 2.4.1 and 2.5.1: a contact has this name and these groups, or is removed
abbrev pub change_of : Bool → List ℕ → Contact → Change
change_of false user x = change.Contact user x.address x.name x.groups
change_of true user x = change.NoContact user x.address

-- RFC 6121, 2.4.2: the contact's subscription stays as it is
abbrev pub updated : Option Contact → Contact → Contact
updated None x = x
updated (Some c) x = record x { subscription = c.subscription; asked = c.asked }

-- RFC 6121, 2.3.2, 2.4.2 and 2.5.2: the item that is pushed
abbrev pub changed_item : Bool → List Contact → Contact → Element
changed_item false contacts x = item (updated (contact_at x.address contacts) x)
changed_item true contacts x = removed_item x.address

-- RFC 6121, 2.3.2: the change, the pushes, and then the empty result
abbrev pub done : (owner : Address) → List Contact → Here → List Here → Stanza → Wanted → List Effect
done owner contacts who own request w =
    Set (change_of w.remove (user_of owner) w.contact)
    ∷ pushes own (changed_item w.remove contacts w.contact) ++ said_to who (result_of request []) ∷ []

abbrev pub unless : Option Condition → Here → Stanza → List Effect → List Effect
unless (Some condition) who request effects = refused who request condition
unless None who request effects = effects

-- RFC 6121, 2.3.3: nothing comes of a set that is refused but its error
abbrev pub set_wanted : (owner : Address) → List Contact → Here → List Here → Stanza → Option Wanted → List Effect
set_wanted owner contacts who own request None = refused who request BadRequest
set_wanted owner contacts who own request (Some w) = unless (refusal contacts w) who request (done owner contacts who own request w)

abbrev pub roster_set : (owner : Address) → List Contact → Here → List Here → Stanza → List Effect
roster_set owner contacts who own request = set_wanted owner contacts who own request (wanted_in owner request)

-- RFC 6121, 2.5: the contact that a set removes, where it is not refused
abbrev pub removed_in : List Contact → Wanted → Option Address
removed_in contacts w = if w.remove && not (is_some (refusal contacts w)) then Some w.contact.address else None

abbrev pub removed_by : (owner : Address) → List Contact → Stanza → Option Address
removed_by owner contacts request = option_and_then (removed_in contacts) (wanted_in owner request)
