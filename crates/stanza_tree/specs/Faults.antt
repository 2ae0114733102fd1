-- Why bytes are refused as text.
use Rattle.std.specs.Prelude.{ℕ, List, IsUtf8, ⊤, ◌⊎◌}
use Rattle.std.specs.Str.{IsValidUpTo}
use Rattle.stanza_tree.specs.declared.text.TextFault.{TextFault}
use Rattle.stanza_tree.specs.declared.text.TextFault.TheVariants.{NoMemory, NotUtf8}

-- RFC 3629: the bytes are not UTF-8, and the place is the length of their longest front that is. Want of memory has no cause here.
abbrev pub IsTextFault : List ℕ → TextFault → Type 0
IsTextFault bytes NoMemory = ⊤
IsTextFault bytes (NotUtf8 place) = ¬ (IsUtf8 bytes) × IsValidUpTo bytes place

-- the fault of a namespace, and where that is UTF-8 the fault of a local name
abbrev pub IsNameFault : List ℕ → List ℕ → TextFault → Type 0
IsNameFault space local NoMemory = ⊤
IsNameFault space local (NotUtf8 place) = IsTextFault space (NotUtf8 place) ⊎ (IsUtf8 space × IsTextFault local (NotUtf8 place))
