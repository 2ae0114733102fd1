-- Requests about roles and affiliations (XEP-0045, 8 to 10). The rows go from the top down, and the first that fits decides.
use Rattle.std.specs.Prelude.{ℕ, ◌==◌, nat_lt, List, [], ◌∷◌, map, length, Bool, ◌||◌, codes, Option, Some, None, if◌then◌else◌}
use Rattle.std.specs.List.{list_any}
use Rattle.stanza_tree.specs.Attributes.{attr_of}
use Rattle.stanza_tree.specs.Children.{child_of}
use Rattle.stanza_tree.specs.declared.node.Element.{Element}
use Rattle.stanza_model.specs.Replies.{one_child, refused, result_of, said_to}
use Rattle.stanza_model.specs.Rooms.{affiliation_named, role_named}
use Rattle.stanza_model.specs.declared.condition.Condition.TheVariants.{BadRequest, Forbidden}
use Rattle.stanza_model.specs.declared.effect.Effect.{Effect}
use Rattle.stanza_model.specs.declared.here.Here.{Here}
use Rattle.stanza_model.specs.declared.kinds.IqForm.{IqForm}
use Rattle.stanza_model.specs.declared.kinds.IqForm.TheVariants as iq
use Rattle.stanza_model.specs.declared.room.Affiliation.{Affiliation}
use Rattle.stanza_model.specs.declared.room.Role.{Role}
use Rattle.stanza_model.specs.declared.room.Room.{Room}
use Rattle.stanza_model.specs.declared.stanza.Stanza.{Stanza}
use Rattle.stanza_model.specs.declared.stanza.Stanza.TheVariants.{Iq}
use Rattle.muc_roles.specs.Roles.{governs}
use Rattle.muc_room.specs.Entering.{unless_refused}
use Rattle.muc_room.specs.Seats.{affiliation_in, occupant_of}
use Rattle.muc_admin.specs.Items.{admin_space, is_garbled, items_of, only_item, wanted_by}
use Rattle.muc_admin.specs.Listings.{affiliation_items, fitting, listing, most_text, role_items}
use Rattle.muc_admin.specs.Refusals.{is_moderating}
use Rattle.muc_admin.specs.Sets.{done, first_refusal}
use Rattle.muc_admin.specs.declared.item.Wanted.{Wanted}

-- Get: who has an affiliation, and who has a role.

abbrev pub answered : Here → Stanza → List Element → List Effect
answered who request items = said_to who (result_of request (one_child (listing items))) ∷ []

-- XEP-0045, 9.5, 10.5 and 10.8: for owners and admins
abbrev pub list_affiliation : Room → Here → Stanza → Option Affiliation → List Effect
list_affiliation room who request None = refused who request BadRequest
list_affiliation room who request (Some a) =
    if governs (affiliation_in room who) then answered who request (affiliation_items a room.affiliations)
    else refused who request Forbidden

-- XEP-0045, 8.5 and 9.8: for moderators
abbrev pub occupants_in : Room → Role → List Element
occupants_in room role = fitting most_text (role_items room role room.occupants)

abbrev pub list_role : Room → Here → Stanza → Option Role → List Effect
list_role room who request None = refused who request BadRequest
list_role room who request (Some role) =
    if is_moderating (occupant_of who.session room.occupants) then answered who request (occupants_in room role)
    else refused who request Forbidden

-- by the item's `affiliation` and its `role`: one of them is there, and not the other
abbrev pub list_as : Room → Here → Stanza → Option (List ℕ) → Option (List ℕ) → List Effect
list_as room who request (Some affiliation) None = list_affiliation room who request (affiliation_named affiliation)
list_as room who request None (Some role) = list_role room who request (role_named role)
list_as room who request (Some affiliation) (Some role) = refused who request BadRequest
list_as room who request None None = refused who request BadRequest

abbrev pub list_by : Room → Here → Stanza → Option Element → List Effect
list_by room who request None = refused who request BadRequest
list_by room who request (Some e) =
    list_as room who request (attr_of (codes "affiliation") e.attrs) (attr_of (codes "role") e.attrs)

-- Set.

-- the most items of a set
abbrev pub most_items : ℕ
most_items = 16

abbrev pub is_wrong_count : ℕ → Bool
is_wrong_count n = n == 0 || nat_lt most_items n

abbrev pub set_wanted : Room → Here → Stanza → List Wanted → List Effect
set_wanted room who request ws =
    if list_any is_garbled ws then refused who request BadRequest
    else unless_refused who request (first_refusal room who ws) (done room who request ws)

abbrev pub set_by : Room → Here → Stanza → Element → List Effect
set_by room who request query =
    if is_wrong_count (length (items_of query.children)) then refused who request BadRequest
    else set_wanted room who request (map wanted_by (items_of query.children))

-- Either.

abbrev pub admin_as : Room → Here → Stanza → IqForm → Element → List Effect
admin_as room who request iq.Get query = list_by room who request (only_item query)
admin_as room who request iq.Set query = set_by room who request query
admin_as room who request iq.Result query = []
admin_as room who request iq.Error query = []

abbrev pub admin_by : Room → Here → Stanza → IqForm → Option Element → List Effect
admin_by room who request form None = []
admin_by room who request form (Some query) = admin_as room who request form query

abbrev pub query_in : Element → Option Element
query_in e = child_of admin_space (codes "query") e.children

-- a request with a `query` about these; another stanza is none of this table's
abbrev pub admin : Room → Here → Stanza → List Effect
admin room who (Iq to id form e) = admin_by room who (Iq to id form e) form (query_in e)
admin room who st = []
