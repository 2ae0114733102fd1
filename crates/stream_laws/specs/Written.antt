-- Elements that are read within the limits.
use Rattle.std.specs.Prelude.{◌≤◌, length}
use Rattle.stanza_tree.specs.declared.node.Element.{Element}
use Rattle.stanza_tree.specs.Spelling.{text}
use Rattle.stream_grammar.specs.declared.item.Limits.{Limits}
use Rattle.stream_grammar.specs.grammar.Bounds.{rules_of}
use Rattle.stream_grammar.specs.grammar.RoundTrips.{IsWritable}

-- a proper element whose levels, attributes and bytes are within the limits, as they are read and as they are spelled
abbrev pub IsWithin : Limits → Element → Type 0
IsWithin l e = IsWritable (rules_of l) e × (length (text e) ≤ l.bytes) × (length (text e) ≤ l.canonical)
