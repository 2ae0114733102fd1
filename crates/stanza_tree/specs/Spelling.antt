-- The canonical spelling: one text for each element tree.
use Rattle.std.specs.Prelude.{ℕ, ◌+◌, List, [], ◌∷◌, ◌++◌, Bool, not, ◌&&◌, codes, flat_map, map, if◌then◌else◌, ◌==◌, length, bytes_eq}
use Rattle.std.specs.Fmt.{decimal}
use Rattle.stanza_tree.specs.declared.node.Element.{Element}
use Rattle.stanza_tree.specs.declared.node.Attr.{Attr}
use Rattle.stanza_tree.specs.declared.node.Name.{Name}
use Rattle.stanza_tree.specs.declared.node.Node.{Node}
use Rattle.stanza_tree.specs.declared.node.Node.TheOpen.{Node-F, Element-F, Child, Words}
use Rattle.stanza_tree.specs.declared.node.Node.TheFolds.{fold-Element, fold-Node}

-- XML 1.0, 2.4 and 2.11: in words `&`, `<`, `>`, LF and CR are written as references
unfoldable pub escaped_in_words : ℕ → List ℕ
escaped_in_words b =
    if b == 38 then codes "&amp;"
    else if b == 60 then codes "&lt;"
    else if b == 62 then codes "&gt;"
    else if b == 10 then codes "&#10;"
    else if b == 13 then codes "&#13;"
    else b ∷ []

-- XML 1.0, 3.3.3: in values the quote and the tab are too
unfoldable pub escaped_in_value : ℕ → List ℕ
escaped_in_value b =
    if b == 39 then codes "&apos;"
    else if b == 9 then codes "&#9;"
    else escaped_in_words b

abbrev pub words_text : List ℕ → List ℕ
words_text bytes = flat_map escaped_in_words bytes

abbrev pub value_text : List ℕ → List ℕ
value_text bytes = flat_map escaped_in_value bytes

-- what follows an attribute's name
abbrev pub assigned : List ℕ → List ℕ
assigned value = codes "='" ++ value_text value ++ codes "'"

-- the namespace that the prefix `xml` is bound to, without a declaration (Namespaces in XML 1.0, 3)
abbrev pub xml_space : List ℕ
xml_space = codes "http://www.w3.org/XML/1998/namespace"

-- an attribute of another namespace needs a declared prefix
unfoldable pub needs_prefix : Attr → Bool
needs_prefix a = not (bytes_eq a.name.space []) && not (bytes_eq a.name.space xml_space)

-- the declared prefixes are n0, n1 and so on, in the order of their attributes
abbrev pub prefix : ℕ → List ℕ
prefix k = codes "n" ++ decimal k

unfoldable pub declaration : ℕ → Attr → List ℕ
declaration k a = codes " xmlns:" ++ prefix k ++ assigned a.name.space

abbrev pub declarations : ℕ → List Attr → List ℕ
declarations k [] = []
declarations k (a ∷ more) = if needs_prefix a then declaration k a ++ declarations (k + 1) more else declarations k more

unfoldable pub prefixed : ℕ → Attr → List ℕ
prefixed k a = codes " " ++ prefix k ++ codes ":" ++ a.name.local ++ assigned a.value

unfoldable pub unprefixed : Attr → List ℕ
unprefixed a = codes " " ++ (if bytes_eq a.name.space [] then [] else codes "xml:") ++ a.name.local ++ assigned a.value

abbrev pub attributes : ℕ → List Attr → List ℕ
attributes k [] = []
attributes k (a ∷ more) = if needs_prefix a then prefixed k a ++ attributes (k + 1) more else unprefixed a ++ attributes k more

-- an element's namespace is written where it differs from its parent's
abbrev pub default_space : List ℕ → List ℕ → List ℕ
default_space parent space = if bytes_eq parent space then [] else codes " xmlns" ++ assigned space

unfoldable pub named : List ℕ → Name → List ℕ
named parent name = codes "<" ++ name.local ++ default_space parent name.space

-- a start tag but for its end: the name, the namespace, the declared prefixes, the attributes
unfoldable pub opened : List ℕ → Name → List Attr → List ℕ
opened parent name attrs = named parent name ++ declarations 0 attrs ++ attributes 0 attrs

-- the rest of an element, by what its children spell: without any it ends by `/>`
unfoldable pub closed : List ℕ → List ℕ → List ℕ
closed local content = if length content == 0 then codes "/>" else codes ">" ++ content ++ codes "</" ++ local ++ codes ">"

-- a spelling depends on the parent's namespace
abbrev pub Spelled : Type 0
Spelled = List ℕ → List ℕ

abbrev pub joined : List Spelled → List ℕ → List ℕ
joined [] space = []
joined (s ∷ more) space = s space ++ joined more space

abbrev pub element_text : Element-F Spelled Spelled → Spelled
element_text e parent = opened parent e.name e.attrs ++ closed e.name.local (joined e.children e.name.space)

abbrev pub node_text : Node-F Spelled Spelled → Spelled
node_text (Child e) parent = e parent
node_text (Words w) parent = words_text w

-- the spelling of an element under a parent's namespace
abbrev pub text_under : List ℕ → Element → List ℕ
text_under parent e = fold-Element Spelled Spelled node_text element_text e parent

-- the spellings of nodes, one after another: adjacent words are one, and empty words are none
abbrev pub texts_under : List ℕ → List Node → List ℕ
texts_under parent nodes = joined (map (fold-Node Spelled Spelled node_text element_text) nodes) parent

-- RFC 6120, 4.8.2: the namespace of stanzas
abbrev pub client_space : List ℕ
client_space = codes "jabber:client"

-- the canonical spelling of a top element
abbrev pub text : Element → List ℕ
text e = text_under client_space e

-- that of one whose children spell this
abbrev pub text_with : Element → List ℕ → List ℕ
text_with e content = opened client_space e.name e.attrs ++ closed e.name.local content
