-- The fields of a submitted data form (XEP-0004).
use Rattle.std.specs.Prelude.{ℕ, Bool, false, ◌&&◌, List, [], ◌∷◌, map, codes, bytes_eq, Option, Some, None, unwrap_or, if◌then◌else◌}
use Rattle.stanza_tree.specs.Attributes.{attr_of}
use Rattle.stanza_tree.specs.Children.{words_of}
use Rattle.stanza_tree.specs.declared.node.Attr.{Attr}
use Rattle.stanza_tree.specs.declared.node.Element.{Element}
use Rattle.stanza_tree.specs.declared.node.Node.{Node}
use Rattle.stanza_tree.specs.declared.node.Node.TheViews.{out-Node}
use Rattle.stanza_tree.specs.declared.node.Node.TheOpen.{Node-F, Child, Words}
use Rattle.stanza_model.specs.declared.form.DataForm.{DataForm}
use Rattle.stanza_model.specs.declared.form.Field.{Field}

-- whether an element has that name in the namespace of data forms
abbrev pub is_part : List ℕ → Element → Bool
is_part local e = bytes_eq e.name.space (codes "jabber:x:data") && bytes_eq e.name.local local

abbrev pub is_submit : Option (List ℕ) → Bool
is_submit None = false
is_submit (Some value) = bytes_eq value (codes "submit")

-- XEP-0004, 3.1: a form that is submitted is an `x` of the type `submit`
abbrev pub is_submitted : Element → Bool
is_submitted x = is_part (codes "x") x && is_submit (attr_of (codes "type") x.attrs)

-- a child that is such an element stands before the later ones
abbrev pub part_and : List ℕ → Node-F Node Element → List Element → List Element
part_and local (Child e) later = if is_part local e then e ∷ later else later
part_and local (Words w) later = later

-- the child elements of that name in the namespace of data forms, in their order
abbrev pub parts_of : List ℕ → List Node → List Element
parts_of local [] = []
parts_of local (n ∷ ns) = part_and local (out-Node n) (parts_of local ns)

-- XEP-0004, 3.2: the words of each `value` of a field
abbrev pub values_of : List Node → List (List ℕ)
values_of nodes = map (λ v. words_of v.children) (parts_of (codes "value") nodes)

-- XEP-0004, 3.2: the name of a field is its `var`, or empty
abbrev pub name_of : List Attr → List ℕ
name_of attrs = unwrap_or (attr_of (codes "var") attrs) []

abbrev pub field_of : Element → Field
field_of e = record { name = name_of e.attrs; values = values_of e.children }

-- each `field` of a form
abbrev pub fields_of : List Node → List Field
fields_of nodes = map field_of (parts_of (codes "field") nodes)

-- the form that an element submits
abbrev pub form_of : Element → Option DataForm
form_of x = if is_submitted x then Some (record { fields = fields_of x.children }) else None
