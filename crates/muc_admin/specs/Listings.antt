-- The affiliations and occupants of a room as they are listed, and how many of them there is room for (XEP-0045, 9.5, 9.8, 10.5 and 10.8).
use Rattle.std.specs.Prelude.{ℕ, ◌-◌, nat_le, nat_lt, List, [], ◌∷◌, map, length, sum, Bool, codes, bytes_eq, if◌then◌else◌}
use Rattle.std.specs.List.{filter}
use Rattle.jid_core.specs.Addresses.{address_text}
use Rattle.stanza_tree.specs.Spelling.{text_under}
use Rattle.stanza_tree.specs.declared.node.Element.{Element}
use Rattle.stanza_model.specs.Errors.{element_of, plain_attr}
use Rattle.stanza_model.specs.Rooms.{affiliation_name, role_name}
use Rattle.stanza_model.specs.declared.room.Affiliated.{Affiliated}
use Rattle.stanza_model.specs.declared.room.Affiliation.{Affiliation}
use Rattle.stanza_model.specs.declared.room.Occupant.{Occupant}
use Rattle.stanza_model.specs.declared.room.Role.{Role}
use Rattle.stanza_model.specs.declared.room.Room.{Room}
use Rattle.muc_room.specs.Seats.{spoken_from}
use Rattle.muc_room.specs.Views.{child_node}
use Rattle.muc_admin.specs.Items.{admin_space}

-- two are the same where they are written so
abbrev pub is_same_affiliation : Affiliation → Affiliation → Bool
is_same_affiliation a b = bytes_eq (affiliation_name a) (affiliation_name b)

abbrev pub is_same_role : Role → Role → Bool
is_same_role a b = bytes_eq (role_name a) (role_name b)

-- Items.

-- `<item affiliation='A' jid='J'/>`
abbrev pub affiliation_item : Affiliated → Element
affiliation_item x =
    element_of admin_space (codes "item")
    (plain_attr (codes "affiliation") (affiliation_name x.affiliation) ∷ plain_attr (codes "jid") (address_text x.address) ∷ []) []

-- `<item affiliation='A' jid='J' nick='N' role='R'/>`, with the address of the session whose presence is shown
abbrev pub role_item : Room → Occupant → Element
role_item room o =
    element_of admin_space (codes "item")
    (plain_attr (codes "affiliation") (affiliation_name o.affiliation) ∷ plain_attr (codes "jid") (address_text (spoken_from room.address o))
    ∷ plain_attr (codes "nick") o.nick ∷ plain_attr (codes "role") (role_name o.role) ∷ []) []

abbrev pub listing : List Element → Element
listing items = element_of admin_space (codes "query") [] (map child_node items)

-- How many.

-- the most bytes of all items
abbrev pub most_text : ℕ
most_text = 196608

-- the bytes of an item within its query
abbrev pub counted : Affiliated → ℕ
counted x = length (text_under admin_space (affiliation_item x))

-- a room's affiliations never have more than that in all, so that each list of them fits in an answer
abbrev pub is_too_large : List Affiliated → Bool
is_too_large known = nat_lt most_text (sum (map counted known))

-- as many of them as fit
abbrev pub fitting : ℕ → List Element → List Element
fitting bytes [] = []
fitting bytes (e ∷ more) =
    if nat_le (length (text_under admin_space e)) bytes then e ∷ fitting (bytes - length (text_under admin_space e)) more else []

-- Lists.

-- those of an affiliation, in the order of setting
abbrev pub affiliation_items : Affiliation → List Affiliated → List Element
affiliation_items a known = map affiliation_item (filter (λ x. is_same_affiliation x.affiliation a) known)

-- those of a role, in the order of entering
abbrev pub role_items : Room → Role → List Occupant → List Element
role_items room role occupants = map (role_item room) (filter (λ o. is_same_role o.role role) occupants)
