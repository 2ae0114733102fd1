-- What an element holds: its first child of a name, and its own words.
use Rattle.std.specs.Prelude.{ℕ, List, [], ◌∷◌, ◌++◌, Option, Some, None, ◌&&◌, bytes_eq, if◌then◌else◌}
use Rattle.stanza_tree.specs.declared.node.Element.{Element}
use Rattle.stanza_tree.specs.declared.node.Node.{Node}
use Rattle.stanza_tree.specs.declared.node.Node.TheViews.{out-Node}
use Rattle.stanza_tree.specs.declared.node.Node.TheOpen.{Node-F, Child, Words}

-- an element of that name, or else what is later
abbrev pub child_or : List ℕ → List ℕ → Node-F Node Element → Option Element → Option Element
child_or space local (Child e) later = if bytes_eq e.name.space space && bytes_eq e.name.local local then Some e else later
child_or space local (Words w) later = later

-- the first child element of that name
abbrev pub child_of : List ℕ → List ℕ → List Node → Option Element
child_of space local [] = None
child_of space local (n ∷ ns) = child_or space local (out-Node n) (child_of space local ns)

abbrev pub words_in : Node-F Node Element → List ℕ
words_in (Child e) = []
words_in (Words w) = w

-- the words among the children, joined; not those of its child elements
abbrev pub words_of : List Node → List ℕ
words_of [] = []
words_of (n ∷ ns) = words_in (out-Node n) ++ words_of ns
