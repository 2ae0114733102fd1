-- A tag with its names in their namespaces (Namespaces in XML 1.0).
use Rattle.std.specs.Prelude.{ℕ, List, [], ◌∷◌, if◌then◌else◌, Option, Some, None}
use Rattle.stanza_tree.specs.declared.node.Name.{Name}
use Rattle.stanza_tree.specs.declared.node.Attr.{Attr}
use Rattle.stream_grammar.specs.declared.namespaces.Binding.{Binding}
use Rattle.stream_grammar.specs.declared.namespaces.Written.{Written}
use Rattle.stream_grammar.specs.grammar.Namespaces.{prefix_of, local_of, is_declaration, space_of, attribute_space}

-- a namespace that is not bound counts as none
abbrev pub or_none : Option (List ℕ) → List ℕ
or_none None = []
or_none (Some space) = space

abbrev pub name_on : List (List Binding) → List ℕ → Name
name_on layers name = record { space = or_none (space_of layers (prefix_of name)); local = local_of name }

abbrev pub attr_on : List (List Binding) → Written → Attr
attr_on layers a = record { name = record { space = or_none (attribute_space layers a.name); local = local_of a.name }; value = a.value }

-- declarations are no attributes
abbrev pub attrs_on : List (List Binding) → List Written → List Attr
attrs_on layers [] = []
attrs_on layers (a ∷ more) = if is_declaration a.name then attrs_on layers more else attr_on layers a ∷ attrs_on layers more
