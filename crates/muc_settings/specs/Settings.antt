-- The settings of a room, as a form has them (XEP-0045, 10.2 and 15.5; XEP-0004, 3).
use Rattle.std.specs.Prelude.{ℕ, ◌==◌, List, [], ◌∷◌, map, length, Bool, true, false, not, codes, bytes_eq, Option}
use Rattle.std.specs.Fmt.{decimal}
use Rattle.std.specs.List.{find}
use Rattle.stanza_tree.specs.declared.node.Element.{Element}
use Rattle.stanza_tree.specs.declared.node.Node.{Node}
use Rattle.stanza_tree.specs.declared.node.Node.TheOpen.{Words}
use Rattle.stanza_tree.specs.declared.node.Node.TheViews.{roll-Node}
use Rattle.stanza_model.specs.Errors.{element_of, plain_attr}
use Rattle.stanza_model.specs.declared.shared.Config.{Config}
use Rattle.muc_room.specs.Views.{child_node}
use Rattle.muc_settings.specs.declared.setting.Setting.{Setting}
use Rattle.muc_settings.specs.declared.setting.Setting.TheVariants.{FormType, Title, Persistent, MembersOnly, Moderated}
use Rattle.muc_settings.specs.declared.setting.Setting.TheVariants.{ChangeSubject, Whois, Guarded, Secret, Most}

-- What a setting is.

-- in the order in which the form has them
abbrev pub all_settings : List Setting
all_settings =
    FormType ∷ Title ∷ Persistent ∷ MembersOnly ∷ Moderated ∷ ChangeSubject ∷ Whois ∷ Guarded ∷ Secret ∷ Most ∷ []

-- XEP-0045, 15.5
abbrev pub setting_name : Setting → List ℕ
setting_name FormType = codes "FORM_TYPE"
setting_name Title = codes "muc#roomconfig_roomname"
setting_name Persistent = codes "muc#roomconfig_persistentroom"
setting_name MembersOnly = codes "muc#roomconfig_membersonly"
setting_name Moderated = codes "muc#roomconfig_moderatedroom"
setting_name ChangeSubject = codes "muc#roomconfig_changesubject"
setting_name Whois = codes "muc#roomconfig_whois"
setting_name Guarded = codes "muc#roomconfig_passwordprotectedroom"
setting_name Secret = codes "muc#roomconfig_roomsecret"
setting_name Most = codes "muc#roomconfig_maxusers"

abbrev pub is_named : List ℕ → Setting → Bool
is_named name s = bytes_eq (setting_name s) name

abbrev pub setting_named : List ℕ → Option Setting
setting_named name = find (is_named name) all_settings

-- XEP-0004, 3.3
abbrev pub setting_type : Setting → List ℕ
setting_type FormType = codes "hidden"
setting_type Title = codes "text-single"
setting_type Persistent = codes "boolean"
setting_type MembersOnly = codes "boolean"
setting_type Moderated = codes "boolean"
setting_type ChangeSubject = codes "boolean"
setting_type Whois = codes "list-single"
setting_type Guarded = codes "boolean"
setting_type Secret = codes "text-private"
setting_type Most = codes "list-single"

-- the values that the form offers; others may be submitted
abbrev pub whois_choices : List (List ℕ)
whois_choices = codes "moderators" ∷ codes "anyone" ∷ []

abbrev pub most_choices : List (List ℕ)
most_choices = codes "10" ∷ codes "20" ∷ codes "30" ∷ codes "50" ∷ codes "100" ∷ codes "256" ∷ []

abbrev pub choices_of : Setting → List (List ℕ)
choices_of Whois = whois_choices
choices_of Most = most_choices
choices_of s = []

-- Its value in a room.

-- XEP-0045, 15.5: a form for a room's configuration is of this type
abbrev pub roomconfig : List ℕ
roomconfig = codes "http://jabber.org/protocol/muc#roomconfig"

abbrev pub flag : Bool → List ℕ
flag false = codes "0"
flag true = codes "1"

-- who sees the addresses of occupants
abbrev pub whois_name : Bool → List ℕ
whois_name false = codes "moderators"
whois_name true = codes "anyone"

-- a password is asked for where there is one
abbrev pub is_guarded : Config → Bool
is_guarded c = not (length c.secret == 0)

abbrev pub value_of : Config → Setting → List ℕ
value_of c FormType = roomconfig
value_of c Title = c.title
value_of c Persistent = flag c.persistent
value_of c MembersOnly = flag c.members_only
value_of c Moderated = flag c.moderated
value_of c ChangeSubject = flag c.change_subject
value_of c Whois = whois_name c.anyone
value_of c Guarded = flag (is_guarded c)
value_of c Secret = c.secret
value_of c Most = decimal c.max

-- The form.

-- XEP-0004, 3
abbrev pub form_space : List ℕ
form_space = codes "jabber:x:data"

-- `<value>W</value>`
abbrev pub value_element : List ℕ → Element
value_element value = element_of form_space (codes "value") [] (roll-Node (Words value) ∷ [])

-- `<option><value>W</value></option>`
abbrev pub choice : List ℕ → Element
choice value = element_of form_space (codes "option") [] (child_node (value_element value) ∷ [])

abbrev pub choice_node : List ℕ → Node
choice_node value = child_node (choice value)

-- `<field type='T' var='V'>` with the value, and then what is offered
abbrev pub field_element : Config → Setting → Element
field_element c s =
    element_of form_space (codes "field") (plain_attr (codes "type") (setting_type s) ∷ plain_attr (codes "var") (setting_name s) ∷ [])
    (child_node (value_element (value_of c s)) ∷ map choice_node (choices_of s))

abbrev pub field_node : Config → Setting → Node
field_node c s = child_node (field_element c s)

-- XEP-0045, 10.2: `<x type='form'>` with a field for each setting
abbrev pub config_form : Config → Element
config_form c = element_of form_space (codes "x") (plain_attr (codes "type") (codes "form") ∷ []) (map (field_node c) all_settings)
