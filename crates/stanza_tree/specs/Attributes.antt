-- The attribute of a name in no namespace: its value, and the attributes once it is set.
use Rattle.std.specs.Prelude.{ℕ, ◌+◌, List, [], ◌∷◌, Bool, Option, Some, None, ◌&&◌, bytes_eq, if◌then◌else◌}
use Rattle.stanza_tree.specs.declared.node.Attr.{Attr}

-- whether an attribute is the one of that name in no namespace
abbrev pub is_named : List ℕ → Attr → Bool
is_named local attr = bytes_eq attr.name.local local && bytes_eq attr.name.space []

abbrev pub attr_of : List ℕ → List Attr → Option (List ℕ)
attr_of local [] = None
attr_of local (a ∷ more) = if is_named local a then Some a.value else attr_of local more

-- the first attribute of that name gets the value in its place; where there is none, one is added last
abbrev pub with_attr : List ℕ → List ℕ → List Attr → List Attr
with_attr local value [] = record { name = record { space = []; local = local }; value = value } ∷ []
with_attr local value (a ∷ more) = if is_named local a then record a { value = value } ∷ more else a ∷ with_attr local value more

-- the attributes but for those of that name
abbrev pub without_attr : List ℕ → List Attr → List Attr
without_attr local [] = []
without_attr local (a ∷ more) = if is_named local a then without_attr local more else a ∷ without_attr local more

-- the place of the first attribute of that name, or the number of all where there is none
abbrev pub attr_place : List ℕ → List Attr → ℕ
attr_place local [] = 0
attr_place local (a ∷ more) = if is_named local a then 0 else 1 + attr_place local more
