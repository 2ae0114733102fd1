-- What a query of an archive is answered with (XEP-0313, 4.2 and 4.3, with XEP-0059, 2).
use Rattle.std.specs.Prelude.{ℕ, List, [], ◌∷◌, ◌++◌, Bool, true, false, codes}
use Rattle.std.specs.Fmt.{decimal}
use Rattle.stanza_tree.specs.declared.node.Attr.{Attr}
use Rattle.stanza_tree.specs.declared.node.Element.{Element}
use Rattle.stanza_tree.specs.declared.node.Node.{Node}
use Rattle.stanza_tree.specs.declared.node.Node.TheOpen.{Child, Words}
use Rattle.stanza_tree.specs.declared.node.Node.TheViews.{roll-Node}
use Rattle.stanza_model.specs.Errors.{element_of, plain_attr}
use Rattle.rsm_paging.specs.declared.ask.Page.{Page}

abbrev pub mam_space : List ℕ
mam_space = codes "urn:xmpp:mam:2"

abbrev pub rsm_space : List ℕ
rsm_space = codes "http://jabber.org/protocol/rsm"

abbrev pub number_node : ℕ → Node
number_node n = roll-Node (Words (decimal n))

-- `<local>N</local>`, with attributes
abbrev pub told : List ℕ → List Attr → ℕ → Node
told local attrs n = roll-Node (Child (element_of rsm_space local attrs (number_node n ∷ [])))

abbrev pub last_or : ℕ → List ℕ → ℕ
last_or id [] = id
last_or id (next ∷ more) = last_or next more

-- XEP-0059, 2.1: the ids of the first and the last row, where there are any
abbrev pub bounds : (index : ℕ) → List ℕ → List Node
bounds index [] = []
bounds index (id ∷ more) =
    told (codes "first") (plain_attr (codes "index") (decimal index) ∷ []) id ∷ told (codes "last") [] (last_or id more) ∷ []

-- and how many rows are asked for in all
abbrev pub result_set : Page → Element
result_set page = element_of rsm_space (codes "set") [] (bounds page.first_index page.rows ++ told (codes "count") [] page.count ∷ [])

abbrev pub complete_attrs : Bool → List Attr
complete_attrs true = plain_attr (codes "complete") (codes "true") ∷ []
complete_attrs false = []

-- XEP-0313, 4.3: whether no row that was wanted is left out
abbrev pub fin : Page → Element
fin page = element_of mam_space (codes "fin") (complete_attrs page.complete) (roll-Node (Child (result_set page)) ∷ [])
