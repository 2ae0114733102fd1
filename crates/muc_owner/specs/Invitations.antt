-- What an invitation to a room says, and a message by which one is declined (XEP-0045, 7.8.2).
use Rattle.std.specs.Prelude.{ℕ, ◌==◌, List, [], ◌∷◌, length, Bool, true, false, not, ◌&&◌, ◌||◌, codes, bytes_eq}
use Rattle.std.specs.Prelude.{Option, Some, None, is_some, if◌then◌else◌}
use Rattle.jid_core.specs.Addresses.{Address, bare}
use Rattle.stanza_tree.specs.Children.{child_of}
use Rattle.stanza_tree.specs.declared.node.Element.{Element}
use Rattle.stanza_tree.specs.declared.node.Node.{Node}
use Rattle.stanza_tree.specs.declared.node.Node.TheViews.{out-Node}
use Rattle.stanza_tree.specs.declared.node.Node.TheOpen.{Node-F, Child, Words}
use Rattle.muc_room.specs.Views.{user_space}
use Rattle.muc_admin.specs.Items.{address_at}
use Rattle.muc_owner.specs.declared.invitation.Invitation.{Invitation}

abbrev pub is_call : Element → Bool
is_call e = bytes_eq e.name.space user_space && (bytes_eq e.name.local (codes "invite") || bytes_eq e.name.local (codes "decline"))

-- a child that is one stands before the later ones
abbrev pub call_and : Node-F Node Element → List Element → List Element
call_and (Child e) later = if is_call e then e ∷ later else later
call_and (Words w) later = later

-- each `invite` and each `decline` among the children of an `x`
abbrev pub calls_of : List Node → List Element
calls_of [] = []
calls_of (n ∷ ns) = call_and (out-Node n) (calls_of ns)

abbrev pub has_call : Element → Bool
has_call x = not (length (calls_of x.children) == 0)

abbrev pub has_one_call : Element → Bool
has_one_call x = length (calls_of x.children) == 1

abbrev pub is_decline : Element → Bool
is_decline x = has_one_call x && is_some (child_of user_space (codes "decline") x.children)

-- whom it is for, and its reason
abbrev pub invitation_to : Bool → Element → Address → Invitation
invitation_to declined e address = record { declined = declined; address = bare address; reason = child_of user_space (codes "reason") e.children }

abbrev pub invitation_if : Bool → Element → Option Address → Option Invitation
invitation_if declined e None = None
invitation_if declined e (Some address) = Some (invitation_to declined e address)

-- by its `to`
abbrev pub invitation_by : Bool → Element → Option Invitation
invitation_by declined e = invitation_if declined e (address_at (codes "to") e)

-- by an `invite` and a `decline`
abbrev pub invitation_as : Option Element → Option Element → Option Invitation
invitation_as (Some e) other = invitation_by false e
invitation_as None (Some e) = invitation_by true e
invitation_as None None = None

abbrev pub invited_in : Element → Option Element
invited_in x = child_of user_space (codes "invite") x.children

abbrev pub declined_in : Element → Option Element
declined_in x = child_of user_space (codes "decline") x.children

-- where there is one of them, and its address can be read
abbrev pub invitation_of : Element → Option Invitation
invitation_of x = if has_one_call x then invitation_as (invited_in x) (declined_in x) else None
