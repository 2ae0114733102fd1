-- How deep the canonical text of an element is, and how many attributes a tag of it has.
use Rattle.std.specs.Prelude.{ℕ, ◌+◌, List, [], ◌∷◌, map, max, length, bytes_eq, if◌then◌else◌}
use Rattle.stanza_tree.specs.declared.node.Attr.{Attr}
use Rattle.stanza_tree.specs.declared.node.Element.{Element}
use Rattle.stanza_tree.specs.declared.node.Name.{Name}
use Rattle.stanza_tree.specs.declared.node.Node.{Node}
use Rattle.stanza_tree.specs.declared.node.Node.TheFolds.{fold-Element, fold-Node}
use Rattle.stanza_tree.specs.declared.node.Node.TheOpen.{Node-F, Element-F, Child, Words}
use Rattle.stanza_tree.specs.Spelling.{needs_prefix}

-- Levels: an element is one, and its child elements are below it.

abbrev pub deepest : List ℕ → ℕ
deepest [] = 0
deepest (n ∷ ns) = max n (deepest ns)

abbrev pub node_depth : Node-F ℕ ℕ → ℕ
node_depth (Child n) = n
node_depth (Words w) = 0

abbrev pub element_depth : Element-F ℕ ℕ → ℕ
element_depth e = deepest e.children + 1

abbrev pub depth_of : Element → ℕ
depth_of e = fold-Element ℕ ℕ node_depth element_depth e

abbrev pub depth_of_all : List Node → ℕ
depth_of_all ns = deepest (map (fold-Node ℕ ℕ node_depth element_depth) ns)

-- Attributes of one tag: a declaration where the namespace differs from the parent's, one for each attribute that needs a prefix,
-- and the attributes.

abbrev pub prefixes_of : List Attr → ℕ
prefixes_of [] = 0
prefixes_of (a ∷ more) = if needs_prefix a then prefixes_of more + 1 else prefixes_of more

abbrev pub tag_width : List ℕ → Name → List Attr → ℕ
tag_width parent name attrs = (if bytes_eq parent name.space then 0 else 1) + (prefixes_of attrs + length attrs)

-- the number depends on the parent's namespace
abbrev pub Measured : Type 0
Measured = List ℕ → ℕ

abbrev pub widest : List Measured → Measured
widest [] space = 0
widest (m ∷ ms) space = max (m space) (widest ms space)

abbrev pub node_width : Node-F Measured Measured → Measured
node_width (Child m) parent = m parent
node_width (Words w) parent = 0

abbrev pub element_width : Element-F Measured Measured → Measured
element_width e parent = max (tag_width parent e.name e.attrs) (widest e.children e.name.space)

-- the greatest number of attributes of one tag
abbrev pub width_under : List ℕ → Element → ℕ
width_under parent e = fold-Element Measured Measured node_width element_width e parent

abbrev pub width_under_all : List ℕ → List Node → ℕ
width_under_all parent ns = widest (map (fold-Node Measured Measured node_width element_width) ns) parent
