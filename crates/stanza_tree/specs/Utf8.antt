-- That the texts of a start tag are UTF-8.
use Rattle.std.specs.Prelude.{List, [], ◌∷◌, IsUtf8}
use Rattle.stanza_tree.specs.declared.node.Attr.{Attr}
use Rattle.stanza_tree.specs.declared.node.Name.{Name}

abbrev pub NameIsUtf8 : Name → Type 0
NameIsUtf8 name = IsUtf8 name.space × IsUtf8 name.local

abbrev pub AttrsAreUtf8 : List Attr → Type 0
AttrsAreUtf8 [] = Unit {0}
AttrsAreUtf8 (a ∷ more) = NameIsUtf8 a.name × IsUtf8 a.value × AttrsAreUtf8 more
