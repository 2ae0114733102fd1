-- The bytes that a part holds.
use Rattle.std.specs.Prelude.{ℕ, List}
use Rattle.jid_core.specs.declared.held.Held.{Held}
use Rattle.jid_core.specs.declared.held.Held.TheVariants.{Few, Many}

-- in place, or in a block
abbrev pub bytes_of : Held → List ℕ
bytes_of (Few bytes) = bytes
bytes_of (Many bytes) = bytes.items
