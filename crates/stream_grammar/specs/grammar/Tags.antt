-- A tag's name and attributes as they are written.
use Rattle.std.specs.Prelude.{ℕ, List, [], ◌∷◌, encode_utf8_all}
use Rattle.stream_grammar.specs.declared.namespaces.Written.{Written}
use Rattle.stream_grammar.specs.grammar.Trees.{RawAttribute, RawTag}

-- what has come of a tag: its name, its whole attributes, and the name and the value of one that is not whole
pub record Gathered : Type 0 where
  pub name : List ℕ
  pub attributes : List Written
  pub attribute : List ℕ
  pub value : List ℕ

-- the attributes as they are written
abbrev pub written : List RawAttribute → List Written
written [] = []
written (a ∷ more) = record { name = a.name.0 ∷ a.name.1; value = encode_utf8_all a.value } ∷ written more

abbrev pub whole_tag : RawTag → Gathered
whole_tag t = record { name = t.name.0 ∷ t.name.1; attributes = written t.attributes; attribute = []; value = [] }
