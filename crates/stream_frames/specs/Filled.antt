-- An element of the parts of its tag: the namespaces that its names were found to be in, and its names and values as they are written.
use Rattle.std.specs.Prelude.{ℕ, List, [], ◌∷◌, if◌then◌else◌}
use Rattle.stanza_tree.specs.declared.node.Attr.{Attr}
use Rattle.stanza_tree.specs.declared.node.Element.{Element}
use Rattle.stream_grammar.specs.declared.namespaces.Binding.{Binding}
use Rattle.stream_grammar.specs.declared.namespaces.Written.{Written}
use Rattle.stream_grammar.specs.grammar.Namespaces.{local_of, is_declaration, attribute_space}
use Rattle.stream_grammar.specs.grammar.Resolving.{or_none}

-- the namespaces of the attributes; declarations are none
abbrev pub spaces_on : List (List Binding) → List Written → List (List ℕ)
spaces_on layers [] = []
spaces_on layers (a ∷ more) = if is_declaration a.name then spaces_on layers more else or_none (attribute_space layers a.name) ∷ spaces_on layers more

abbrev pub first_of : List (List ℕ) → List ℕ
first_of [] = []
first_of (s ∷ ss) = s

abbrev pub others_of : List (List ℕ) → List (List ℕ)
others_of [] = []
others_of (s ∷ ss) = ss

abbrev pub attr_in : List ℕ → Written → Attr
attr_in space a = record { name = record { space = space; local = local_of a.name }; value = a.value }

-- the attributes in these namespaces, one for each
abbrev pub attrs_in : List (List ℕ) → List Written → List Attr
attrs_in spaces [] = []
attrs_in spaces (a ∷ more) = if is_declaration a.name then attrs_in spaces more else attr_in (first_of spaces) a ∷ attrs_in (others_of spaces) more

abbrev pub element_in : List ℕ → List (List ℕ) → List ℕ → List Written → Element
element_in space spaces name attributes = record { name = record { space = space; local = local_of name }; attrs = attrs_in spaces attributes; children = [] }
