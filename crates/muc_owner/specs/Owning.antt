-- Requests of a room's owners: how it is configured, and its end (XEP-0045, 10.1 to 10.2 and 10.9).
use Rattle.std.specs.Prelude.{ℕ, List, [], ◌∷◌, length, map, flat_map, Bool, true, false, nat_lt, codes, Option, Some, None, if◌then◌else◌}
use Rattle.std.specs.List.{filter, list_any}
use Rattle.std.specs.Option.{option_map}
use Rattle.stanza_tree.specs.Attributes.{attr_of}
use Rattle.stanza_tree.specs.Children.{child_of}
use Rattle.stanza_tree.specs.Spelling.{text}
use Rattle.stanza_tree.specs.declared.node.Element.{Element}
use Rattle.stanza_tree.specs.declared.node.Node.{Node}
use Rattle.stanza_tree.specs.declared.node.Node.TheOpen.{Node-F, Child, Words}
use Rattle.stanza_tree.specs.declared.node.Node.TheViews.{out-Node}
use Rattle.stanza_model.specs.Errors.{element_of}
use Rattle.stanza_model.specs.Forms.{form_of}
use Rattle.stanza_model.specs.Replies.{one_child, refused, result_of, said_to}
use Rattle.stanza_model.specs.Stanzas.{has_value}
use Rattle.stanza_model.specs.declared.condition.Condition.TheVariants.{BadRequest, Forbidden, NotAcceptable}
use Rattle.stanza_model.specs.declared.effect.Change.TheVariants.{Configured, RoomGone, Unlocked}
use Rattle.stanza_model.specs.declared.effect.Effect.{Effect}
use Rattle.stanza_model.specs.declared.effect.Effect.TheVariants as effect
use Rattle.stanza_model.specs.declared.form.DataForm.{DataForm}
use Rattle.stanza_model.specs.declared.form.Field.{Field}
use Rattle.stanza_model.specs.declared.here.Here.{Here}
use Rattle.stanza_model.specs.declared.kinds.IqForm.{IqForm}
use Rattle.stanza_model.specs.declared.kinds.IqForm.TheVariants as iq
use Rattle.stanza_model.specs.declared.room.Nicked.{Nicked}
use Rattle.stanza_model.specs.declared.room.Occupant.{Occupant}
use Rattle.stanza_model.specs.declared.room.Room.{Room}
use Rattle.stanza_model.specs.declared.room.RoomItem.TheVariants as item
use Rattle.stanza_model.specs.declared.room.Seat.{Seat}
use Rattle.stanza_model.specs.declared.shared.Config.{Config}
use Rattle.stanza_model.specs.declared.stanza.Stanza.{Stanza}
use Rattle.stanza_model.specs.declared.stanza.Stanza.TheVariants.{Iq}
use Rattle.muc_roles.specs.Roles.{is_owner}
use Rattle.muc_room.specs.Seats.{affiliation_in}
use Rattle.muc_room.specs.Views.{user_space}
use Rattle.muc_settings.specs.Drafts.{config_of, draft_of, is_wrong, lacks_password, lacks_type, put_all}
use Rattle.muc_settings.specs.Settings.{config_form, form_space}
use Rattle.muc_settings.specs.declared.draft.Draft.{Draft}

-- XEP-0045, 15.1: the requests of owners
abbrev pub owner_space : List ℕ
owner_space = codes "http://jabber.org/protocol/muc#owner"

-- the empty result
abbrev pub granted : Here → Stanza → Effect
granted who request = said_to who (result_of request [])

-- Get.

abbrev pub form_query : Config → Element
form_query c = element_of owner_space (codes "query") [] (one_child (config_form c))

-- XEP-0045, 10.2: the form, with the room's configuration
abbrev pub form_shown : Room → Here → Stanza → List Effect
form_shown room who request = said_to who (result_of request (one_child (form_query room.config))) ∷ []

-- Set, with a form.

-- XEP-0045, 10.1.2 and 10.1.3: once it is configured, others may enter it too
abbrev pub configured_so : Room → Here → Stanza → Config → List Effect
configured_so room who request c =
    effect.Set (Configured room.number c) ∷ effect.Set (Unlocked room.number) ∷ granted who request ∷ []

abbrev pub configures_by : Room → Here → Stanza → Draft → List Effect
configures_by room who request d =
    if lacks_password d then refused who request NotAcceptable else configured_so room who request (config_of d)

-- nothing is changed where a field has a wrong value, or there are fields and none says the form's type
abbrev pub configures : Room → Here → Stanza → List Field → List Effect
configures room who request fields =
    if list_any is_wrong fields then refused who request BadRequest
    else if lacks_type fields then refused who request BadRequest
    else configures_by room who request (put_all fields (draft_of room.config))

-- The end of a room.

abbrev pub seat_nick : List ℕ → Seat → Nicked
seat_nick nick seat = record { session = seat.session; nick = nick }

abbrev pub nicks_in : Occupant → List Nicked
nicks_in o = map (seat_nick o.nick) o.seats

-- each session with its nick
abbrev pub nicks_of : List Occupant → List Nicked
nicks_of occupants = flat_map nicks_in occupants

-- XEP-0045, 10.9: all that are in the room are told, and the room is there no more
abbrev pub destroys : Room → Here → Stanza → Option Element → List Effect
destroys room who request reason =
    effect.Broadcast room.number (item.Destroyed reason (nicks_of room.occupants))
    ∷ effect.Set (RoomGone room.number)
    ∷ granted who request
    ∷ []

-- XEP-0045, 10.1.3: a new room that isn't configured isn't made
abbrev pub cancels : Room → Here → Stanza → List Effect
cancels room who request = if room.locked then destroys room who request None else granted who request ∷ []

-- Either.

-- XEP-0004, 3.1
abbrev pub is_cancel : Element → Bool
is_cancel x = has_value (codes "cancel") (attr_of (codes "type") x.attrs)

-- A reason comes in the owners' namespace, and those in the room are told it in their own (XEP-0045, 10.9). It stands as it is otherwise. But an
-- element in it keeps its namespace, and may have to name it there: where the reason would be longer than an element of a stanza may be, its
-- words alone are told.

abbrev pub as_told : Element → Element
as_told reason = record reason { name = record reason.name { space = user_space } }

abbrev pub is_long : Element → Bool
is_long reason = nat_lt 196608 (length (text reason))

abbrev pub is_said_in : Node-F Node Element → Bool
is_said_in (Child e) = false
is_said_in (Words w) = true

abbrev pub is_said : Node → Bool
is_said n = is_said_in (out-Node n)

abbrev pub words_alone : Element → Element
words_alone reason = record reason { children = filter is_said reason.children }

abbrev pub told_reason : Element → Element
told_reason reason = if is_long (as_told reason) then words_alone (as_told reason) else as_told reason

abbrev pub reason_in : Element → Option Element
reason_in destroy = child_of owner_space (codes "reason") destroy.children

-- with the reason that `destroy` has, if it has one
abbrev pub destroys_by : Room → Here → Stanza → Option Element → List Effect
destroys_by room who request (Some destroy) = destroys room who request (option_map told_reason (reason_in destroy))
destroys_by room who request None = refused who request BadRequest

-- a form that is submitted, or cancelled; else the query's `destroy`
abbrev pub set_form : Room → Here → Stanza → Element → Option DataForm → Option Element → List Effect
set_form room who request x (Some form) destroy = configures room who request form.fields
set_form room who request x None destroy = if is_cancel x then cancels room who request else destroys_by room who request destroy

abbrev pub set_as : Room → Here → Stanza → Option Element → Option Element → List Effect
set_as room who request (Some x) destroy = set_form room who request x (form_of x) destroy
set_as room who request None destroy = destroys_by room who request destroy

abbrev pub x_in : Element → Option Element
x_in query = child_of form_space (codes "x") query.children

abbrev pub destroy_in : Element → Option Element
destroy_in query = child_of owner_space (codes "destroy") query.children

abbrev pub set_by : Room → Here → Stanza → Element → List Effect
set_by room who request query = set_as room who request (x_in query) (destroy_in query)

abbrev pub owner_as : Room → Here → Stanza → IqForm → Element → List Effect
owner_as room who request iq.Get query = form_shown room who request
owner_as room who request iq.Set query = set_by room who request query
owner_as room who request iq.Result query = []
owner_as room who request iq.Error query = []

abbrev pub owner_by : Room → Here → Stanza → IqForm → Option Element → List Effect
owner_by room who request form None = []
owner_by room who request form (Some query) =
    if is_owner (affiliation_in room who) then owner_as room who request form query else refused who request Forbidden

abbrev pub query_in : Element → Option Element
query_in e = child_of owner_space (codes "query") e.children

-- a request with a `query` of owners; another stanza is none of this table's
abbrev pub owner : Room → Here → Stanza → List Effect
owner room who (Iq to id form e) = owner_by room who (Iq to id form e) form (query_in e)
owner room who st = []
