use Rattle.std.proofs.Common.{◌≡◌, ◌+◌, drop}
use Rattle.stanza_tree.specs.Entries.{name_end}
use Rattle.mam_wire.proofs.shown.name_length.Given as goal

abbrev pub invariant-loop-i : goal.invariant-loop-i
invariant-loop-i l = l.i + name_end (drop l.i l.text) ≡ name_end l.text
