-- The form of a query (XEP-0313, 4.1.5, with XEP-0004, 3).
use Rattle.std.specs.Prelude.{ℕ, List, [], ◌∷◌, codes}
use Rattle.stanza_tree.specs.declared.node.Element.{Element}
use Rattle.stanza_tree.specs.declared.node.Node.{Node}
use Rattle.stanza_tree.specs.declared.node.Node.TheOpen.{Child, Words}
use Rattle.stanza_tree.specs.declared.node.Node.TheViews.{roll-Node}
use Rattle.stanza_model.specs.Errors.{element_of, plain_attr}
use Rattle.mam_wire.specs.Answers.{mam_space}

abbrev pub form_space : List ℕ
form_space = codes "jabber:x:data"

abbrev pub value_nodes : List ℕ → List Node
value_nodes value = roll-Node (Child (element_of form_space (codes "value") [] (roll-Node (Words value) ∷ []))) ∷ []

-- `<field type='T' var='V'>` with these children
abbrev pub field_element : (kind name : List ℕ) → List Node → Element
field_element kind name nodes =
    element_of form_space (codes "field") (plain_attr (codes "type") kind ∷ plain_attr (codes "var") name ∷ []) nodes

abbrev pub field : (kind name : List ℕ) → List Node → Node
field kind name nodes = roll-Node (Child (field_element kind name nodes))

-- by whom, and from and to which moments
abbrev pub query_fields : List Node
query_fields =
    field (codes "hidden") (codes "FORM_TYPE") (value_nodes mam_space)
    ∷ field (codes "jid-single") (codes "with") []
    ∷ field (codes "text-single") (codes "start") []
    ∷ field (codes "text-single") (codes "end") []
    ∷ []

abbrev pub query_form : Element
query_form =
    element_of mam_space (codes "query") []
    (roll-Node (Child (element_of form_space (codes "x") (plain_attr (codes "type") (codes "form") ∷ []) query_fields)) ∷ [])
