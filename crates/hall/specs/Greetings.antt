-- A message of the tests.
use Rattle.std.specs.Prelude.{ℕ, List, [], ◌∷◌, codes}
use Rattle.stanza_tree.specs.Spelling.{client_space}
use Rattle.stanza_tree.specs.declared.node.Attr.{Attr}
use Rattle.stanza_tree.specs.declared.node.Element.{Element}

-- an attribute in no namespace
abbrev pub plain_attr : List ℕ → List ℕ → Attr
plain_attr local value = record { name = record { space = []; local = local }; value = value }

-- `<message to='TO' type='headline'/>`
abbrev pub greeting : List ℕ → Element
greeting to = record {
  name = record { space = client_space; local = codes "message" };
  attrs = plain_attr (codes "to") to ∷ plain_attr (codes "type") (codes "headline") ∷ [];
  children = [];
}
