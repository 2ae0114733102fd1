-- Invitations to a room, and how they are declined (XEP-0045, 7.8.2). The rows go from the top down, and the first that fits decides.
use Rattle.std.specs.Prelude.{ℕ, ◌==◌, List, [], ◌∷◌, ◌++◌, map, length, Bool, not, ◌&&◌, ◌||◌, codes, Option, Some, None, is_some, if◌then◌else◌}
use Rattle.jid_core.specs.Addresses.{Address, address_text, bare}
use Rattle.stanza_tree.specs.Children.{child_of}
use Rattle.stanza_tree.specs.Spelling.{client_space, text}
use Rattle.stanza_tree.specs.declared.frame.Origin.TheVariants.{Direct}
use Rattle.stanza_tree.specs.declared.node.Element.{Element}
use Rattle.stanza_tree.specs.declared.node.Node.{Node}
use Rattle.stanza_tree.specs.declared.node.Node.TheOpen.{Words}
use Rattle.stanza_tree.specs.declared.node.Node.TheViews.{roll-Node}
use Rattle.stanza_model.specs.Errors.{element_of, plain_attr}
use Rattle.stanza_model.specs.Replies.{one_child, refused}
use Rattle.stanza_model.specs.declared.condition.Condition.{Condition}
use Rattle.stanza_model.specs.declared.condition.Condition.TheVariants.{BadRequest, Forbidden, NotAcceptable}
use Rattle.stanza_model.specs.declared.effect.Effect.{Effect}
use Rattle.stanza_model.specs.declared.effect.Change.TheVariants.{Affiliated}
use Rattle.stanza_model.specs.declared.effect.Effect.TheVariants.{Queue, Set}
use Rattle.stanza_model.specs.declared.here.Here.{Here}
use Rattle.stanza_model.specs.declared.room.Affiliation.TheVariants.{Member}
use Rattle.stanza_model.specs.declared.room.Room.{Room}
use Rattle.stanza_model.specs.declared.stanza.Stanza.{Stanza}
use Rattle.stanza_model.specs.declared.stanza.Stanza.TheVariants.{Message}
use Rattle.muc_roles.specs.Roles.{governs}
use Rattle.muc_room.specs.Entering.{unless_refused}
use Rattle.muc_room.specs.Seats.{affiliation_in, affiliation_of, occupant_of}
use Rattle.muc_room.specs.States.{is_listed, with_affiliation}
use Rattle.muc_room.specs.Views.{child_node, reason_nodes, user_space, x_of}
use Rattle.muc_owner.specs.Invitations.{has_call, invitation_of, is_decline}
use Rattle.muc_admin.specs.Refusals.{too_large}
use Rattle.muc_owner.specs.declared.invitation.Invitation.{Invitation}

-- Who may not.

-- only one who is in the room invites; one who declines need not be in it
abbrev pub may_call : Room → Here → Element → Bool
may_call room who x = is_some (occupant_of who.session room.occupants) || is_decline x

-- a members-only room makes those members who are invited to it and have no affiliation
abbrev pub becomes_member : Room → Address → Bool
becomes_member room address = room.config.members_only && not (is_listed (affiliation_of address room.affiliations))

-- to a members-only room only owners and admins invite
abbrev pub invite_refusal : Room → Here → Address → Option Condition
invite_refusal room who address =
    if room.config.members_only && not (governs (affiliation_in room who)) then Some Forbidden
    else if becomes_member room address then too_large (with_affiliation address Member room.affiliations)
    else None

-- What is sent.

-- `<invite from='USER'>` or `<decline from='USER'>` with the reason, by the bare address of the one who says it
abbrev pub call_element : (local : List ℕ) → Here → Option Element → Element
call_element local who reason =
    element_of user_space local (plain_attr (codes "from") (address_text (bare who.address)) ∷ []) (reason_nodes reason)

abbrev pub password_element : List ℕ → Element
password_element secret = element_of user_space (codes "password") [] (roll-Node (Words secret) ∷ [])

-- only where the room asks for one
abbrev pub password_nodes : List ℕ → List Node
password_nodes secret = if length secret == 0 then [] else child_node (password_element secret) ∷ []

abbrev pub invite_nodes : Room → Here → Option Element → List Node
invite_nodes room who reason = child_node (call_element (codes "invite") who reason) ∷ password_nodes room.config.secret

abbrev pub decline_nodes : Here → Option Element → List Node
decline_nodes who reason = child_node (call_element (codes "decline") who reason) ∷ []

-- `<message from='ROOM'>` with an `x` of these
abbrev pub message_with : Address → List Node → Element
message_with room nodes =
    element_of client_space (codes "message") (plain_attr (codes "from") (address_text room) ∷ []) (one_child (x_of nodes))

abbrev pub copy_to : List ℕ → Here → Effect
copy_to rest h = Queue h.session (address_text h.address) rest Direct

-- to each session of the one whom it is for
abbrev pub copies : List ℕ → List Here → List Effect
copies rest receivers = map (copy_to rest) receivers

-- What comes of it.

-- nobody is told of it, who is in the room already or not
abbrev pub made_member : Room → Address → List Effect
made_member room address = if becomes_member room address then Set (Affiliated room.number address Member) ∷ [] else []

abbrev pub invites : Room → Here → List Here → Invitation → List Effect
invites room who receivers i =
    made_member room i.address ++ copies (text (message_with room.address (invite_nodes room who i.reason))) receivers

abbrev pub declines : Room → Here → List Here → Invitation → List Effect
declines room who receivers i = copies (text (message_with room.address (decline_nodes who i.reason))) receivers

abbrev pub called_by : Room → Here → Stanza → List Here → Option Invitation → List Effect
called_by room who st receivers None = refused who st BadRequest
called_by room who st receivers (Some i) =
    if i.declined then declines room who receivers i
    else unless_refused who st (invite_refusal room who i.address) (invites room who receivers i)

abbrev pub called : Room → Here → Stanza → List Here → Element → List Effect
called room who st receivers x =
    if may_call room who x then called_by room who st receivers (invitation_of x) else refused who st NotAcceptable

abbrev pub called_in : Room → Here → Stanza → List Here → Option Element → List Effect
called_in room who st receivers None = []
called_in room who st receivers (Some x) = if has_call x then called room who st receivers x else []

abbrev pub x_in : Element → Option Element
x_in e = child_of user_space (codes "x") e.children

-- a message whose `x` has an `invite` or a `decline`; another stanza is none of this table's
abbrev pub invite : Room → Here → Stanza → List Here → List Effect
invite room who (Message to form e) receivers =
    called_in room who (Message to form e) receivers (x_in e)
invite room who st receivers = []
