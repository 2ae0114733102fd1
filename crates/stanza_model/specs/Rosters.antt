-- Contacts as the server writes them, and how a session is told of a change (RFC 6121, 2.1).
use Rattle.std.specs.Prelude.{ℕ, ◌+◌, List, [], ◌∷◌, ◌++◌, map, flat_map, Bool, true, false, codes}
use Rattle.std.specs.Fmt.{decimal}
use Rattle.jid_core.specs.Addresses.{Address, address_text}
use Rattle.stanza_tree.specs.Spelling.{client_space}
use Rattle.stanza_tree.specs.declared.node.Attr.{Attr}
use Rattle.stanza_tree.specs.declared.node.Element.{Element}
use Rattle.stanza_tree.specs.declared.node.Node.{Node}
use Rattle.stanza_tree.specs.declared.node.Node.TheOpen.{Child, Words}
use Rattle.stanza_tree.specs.declared.node.Node.TheViews.{roll-Node}
use Rattle.stanza_model.specs.Errors.{plain_attr, element_of}
use Rattle.stanza_model.specs.Replies.{one_child, said_to}
use Rattle.stanza_model.specs.declared.effect.Effect.{Effect}
use Rattle.stanza_model.specs.declared.effect.Effect.TheVariants.{Set}
use Rattle.stanza_model.specs.declared.effect.Change.TheVariants.{Pushed}
use Rattle.stanza_model.specs.declared.here.Here.{Here}
use Rattle.stanza_model.specs.declared.shared.Contact.{Contact}
use Rattle.stanza_model.specs.declared.shared.Subscription.{Subscription}
use Rattle.stanza_model.specs.declared.shared.Subscription.TheVariants.{Neither, To, From, Both}

-- RFC 6121, 2.1: rosters
abbrev pub roster_space : List ℕ
roster_space = codes "jabber:iq:roster"

-- RFC 6121, 2.1.2.5
abbrev pub subscription_name : Subscription → List ℕ
subscription_name Neither = codes "none"
subscription_name To = codes "to"
subscription_name From = codes "from"
subscription_name Both = codes "both"

-- RFC 6121, 2.1.2.2: only while the owner waits for an answer
abbrev pub ask_attr : Bool → List Attr
ask_attr false = []
ask_attr true = plain_attr (codes "ask") (codes "subscribe") ∷ []

-- RFC 6121, 2.1.2.4: only where the owner gave it a name
abbrev pub name_attr : List ℕ → List Attr
name_attr [] = []
name_attr (b ∷ more) = plain_attr (codes "name") (b ∷ more) ∷ []

-- RFC 6121, 2.1.2.6
abbrev pub group_node : List ℕ → Node
group_node group = roll-Node (Child (element_of roster_space (codes "group") [] (roll-Node (Words group) ∷ [])))

abbrev pub item_attrs : Contact → List Attr
item_attrs x =
    ask_attr x.asked ++ plain_attr (codes "jid") (address_text x.address) ∷ name_attr x.name
    ++ plain_attr (codes "subscription") (subscription_name x.subscription) ∷ []

abbrev pub item : Contact → Element
item x = element_of roster_space (codes "item") (item_attrs x) (map group_node x.groups)

-- RFC 6121, 2.1.2.5: a contact that is there no more
abbrev pub removed_item : Address → Element
removed_item address =
    element_of roster_space (codes "item")
    (plain_attr (codes "jid") (address_text address) ∷ plain_attr (codes "subscription") (codes "remove") ∷ []) []

abbrev pub item_node : Element → Node
item_node e = roll-Node (Child e)

abbrev pub query_of : List Element → Element
query_of items = element_of roster_space (codes "query") [] (map item_node items)

-- RFC 6121, 2.1.6: a session is told of a change, in its nth push
abbrev pub push : ℕ → Element → Element
push n x =
    element_of client_space (codes "iq") (plain_attr (codes "id") (codes "push" ++ decimal n) ∷ plain_attr (codes "type") (codes "set") ∷ [])
    (one_child (query_of (x ∷ [])))

abbrev pub pushed_to : Here → Element → Effect
pushed_to who x = said_to who (push (who.pushes + 1) x)

-- only one that asked for its roster is told; its pushes are counted
abbrev pub pushes_if : Bool → Here → Element → List Effect
pushes_if false who x = []
pushes_if true who x = pushed_to who x ∷ Set (Pushed who.session (who.pushes + 1)) ∷ []

-- each of a user's sessions is told
abbrev pub pushes : List Here → Element → List Effect
pushes sessions x = flat_map (λ h. pushes_if h.wants_roster h x) sessions
