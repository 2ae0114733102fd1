-- The names of open elements, as they are kept.
use Rattle.std.specs.Prelude.{◌≡◌, ℕ, List, [], ◌∷◌, Bool, true, false, drop, ◌==◌}
use Rattle.std.specs.declared.option.Option.{Option}
use Rattle.std.specs.declared.option.Option.TheVariants.{None, Some}
use Rattle.stream_frames.specs.declared.names.OpenName.{OpenName}
use Rattle.stream_grammar.specs.grammar.Trees.{RawName}

abbrev pub raw : OpenName → RawName
raw n = (n.first, n.rest.items)

-- the innermost, which is the last, first
abbrev pub stacked_on : List RawName → List OpenName → List RawName
stacked_on st [] = st
stacked_on st (n ∷ ns) = stacked_on (raw n ∷ st) ns

abbrev pub stacked : Option OpenName → List OpenName → List RawName
stacked None ns = []
stacked (Some n) ns = raw n ∷ stacked_on [] ns

-- where no name is the innermost, there are no others
abbrev pub AreStacked : Option OpenName → List OpenName → Type 0
AreStacked None ns = ns ≡ []
AreStacked (Some n) ns = Unit {0}

abbrev pub outer : List RawName → List RawName
outer [] = []
outer (m ∷ st) = st

-- the innermost name begins so
abbrev pub begins_so : List RawName → ℕ → Bool
begins_so [] b = false
begins_so (m ∷ st) b = b == m.0

-- the bytes of the innermost name after so many of the further ones
abbrev pub left_of : List RawName → ℕ → List ℕ
left_of [] i = []
left_of (m ∷ st) i = drop i m.1

abbrev pub next_is : List ℕ → ℕ → Bool
next_is [] y = false
next_is (x ∷ m) y = y == x

abbrev pub is_all : List ℕ → Bool
is_all [] = true
is_all (x ∷ m) = false
