-- Elements from their tags and what stands between these: names in their namespaces, and words joined (RFC 6120, 4.8 and 11.4).
use Rattle.std.specs.Prelude.{◌≡◌, ℕ, List, [], ◌∷◌, ◌++◌, Option, None, encode_utf8}
use Rattle.stanza_tree.specs.declared.node.Element.{Element}
use Rattle.stanza_tree.specs.declared.node.Node.{Node}
use Rattle.stanza_tree.specs.declared.node.Node.TheOpen.{Child, Words}
use Rattle.stanza_tree.specs.declared.node.Node.TheViews.{roll-Node}
use Rattle.stream_grammar.specs.declared.namespaces.Binding.{Binding}
use Rattle.stream_grammar.specs.declared.namespaces.NameFault.{NameFault}
use Rattle.stream_grammar.specs.grammar.Trees.{RawTag, Content, nothing, word, element, hollow}
use Rattle.stream_grammar.specs.grammar.Namespaces.{own, tag_fault, space_of}
use Rattle.stream_grammar.specs.grammar.Resolving.{or_none, name_on, attrs_on}
use Rattle.stream_grammar.specs.grammar.Tags.{Gathered, whole_tag}

-- the bindings inside a tag: those outside it, and then its own
abbrev pub inside_of : List (List Binding) → Gathered → List (List Binding)
inside_of layers g = layers ++ own g.attributes ∷ []

-- the element of a tag, where the bindings are those inside it
abbrev pub element_with : List (List Binding) → Gathered → List Node → Element
element_with layers g children = record { name = name_on layers g.name; attrs = attrs_on layers g.attributes; children = children }

-- words are a child, unless there are none
abbrev pub with_words : List ℕ → List Node → List Node
with_words [] ns = ns
with_words (b ∷ bs) ns = roll-Node (Words (b ∷ bs)) ∷ ns

-- The children that the content of an element gives, after words that stand before it; the bindings are those inside the element.
abbrev pub nodes_on : List (List Binding) → List ℕ → Content → List Node
nodes_on layers words nothing = with_words words []
nodes_on layers words (word c f) = nodes_on layers (words ++ encode_utf8 c) f
nodes_on layers words (element t g f) =
    with_words words (roll-Node (Child (element_with (inside_of layers (whole_tag t)) (whole_tag t) (nodes_on (inside_of layers (whole_tag t)) [] g)))
    ∷ nodes_on layers [] f)
nodes_on layers words (hollow t f) =
    with_words words (roll-Node (Child (element_with (inside_of layers (whole_tag t)) (whole_tag t) [])) ∷ nodes_on layers [] f)

-- The elements among the content, in their order.
abbrev pub elements_on : List (List Binding) → Content → List Element
elements_on layers nothing = []
elements_on layers (word c f) = elements_on layers f
elements_on layers (element t g f) =
    element_with (inside_of layers (whole_tag t)) (whole_tag t) (nodes_on (inside_of layers (whole_tag t)) [] g) ∷ elements_on layers f
elements_on layers (hollow t f) = element_with (inside_of layers (whole_tag t)) (whole_tag t) [] ∷ elements_on layers f

-- The fault of a tag by its names, the bindings being those outside it.
abbrev pub fault_of_tag : List (List Binding) → Gathered → Option NameFault
fault_of_tag layers g = tag_fault (inside_of layers g) g.name g.attributes

-- no tag in the content has a fault by its names
abbrev pub AreNamed : List (List Binding) → Content → Type 0
AreNamed layers nothing = Unit {0}
AreNamed layers (word c f) = AreNamed layers f
AreNamed layers (element t g f) = (fault_of_tag layers (whole_tag t) ≡ None) × (AreNamed (inside_of layers (whole_tag t)) g × AreNamed layers f)
AreNamed layers (hollow t f) = (fault_of_tag layers (whole_tag t) ≡ None) × AreNamed layers f

-- Of a stream: its header, the default namespace there, and its top elements.

abbrev pub outside_all : List (List Binding)
outside_all = []

abbrev pub header_of : RawTag → Element
header_of root = element_with (inside_of outside_all (whole_tag root)) (whole_tag root) []

abbrev pub default_of : RawTag → List ℕ
default_of root = or_none (space_of (inside_of outside_all (whole_tag root)) [])

abbrev pub tops_of : RawTag → Content → List Element
tops_of root f = elements_on (inside_of outside_all (whole_tag root)) f

abbrev pub IsNamed : RawTag → Content → Type 0
IsNamed root f = (fault_of_tag outside_all (whole_tag root) ≡ None) × AreNamed (inside_of outside_all (whole_tag root)) f
