-- Where a text's bytes are.
use Rattle.std.specs.Prelude.{ℕ, List, string_bytes}
use Rattle.std.specs.Arc.{arc_value}
use Rattle.stanza_tree.specs.declared.held.Held.{Held}
use Rattle.stanza_tree.specs.declared.held.Held.TheVariants.{Few, Own, Shared}

-- in place, in a string of the text's own, or in one that several texts share
abbrev pub bytes_of : Held → List ℕ
bytes_of (Few bytes) = bytes
bytes_of (Own text) = string_bytes text
bytes_of (Shared text) = string_bytes (arc_value text)
