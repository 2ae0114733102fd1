-- Tags whose attributes have no prefix (Namespaces in XML 1.0, 6.2 and 6.3).
use Rattle.std.specs.Prelude.{◌≡◌, ℕ, List, [], ◌∷◌, Bool, true, false, ◌||◌, bytes_eq, if◌then◌else◌, Option, Some, None}
use Rattle.stream_grammar.specs.declared.namespaces.Binding.{Binding}
use Rattle.stream_grammar.specs.declared.namespaces.Written.{Written}
use Rattle.stream_grammar.specs.declared.namespaces.NameFault.{NameFault}
use Rattle.stream_grammar.specs.declared.namespaces.NameFault.TheVariants as name_fault
use Rattle.stream_grammar.specs.grammar.Namespaces.{has_prefix, xml_space, is_unbound, is_bound_to, has_forbidden, fault_in}
use Rattle.stream_frames.specs.declared.tags.TagFault.{TagFault}
use Rattle.stream_frames.specs.declared.tags.TagFault.TheVariants as fault

abbrev pub are_unprefixed : List Written → Bool
are_unprefixed [] = true
are_unprefixed (a ∷ more) = if has_prefix a.name then false else are_unprefixed more

-- two of one name, as they are written

abbrev pub has_name : Written → List Written → Bool
has_name a [] = false
has_name a (b ∷ more) = if bytes_eq a.name b.name then true else has_name a more

abbrev pub has_names_twice : List Written → Bool
has_names_twice [] = false
has_names_twice (a ∷ more) = if has_name a more then true else has_names_twice more

-- where no attribute has a prefix
abbrev pub unprefixed_fault : Option (List ℕ) → List Written → Option NameFault
unprefixed_fault space attributes =
    if is_unbound space then Some name_fault.BadPrefix
    else if is_bound_to space xml_space || (has_forbidden attributes || has_names_twice attributes) then Some name_fault.NotWellFormed
    else None

abbrev pub IsFaultIn : List (List Binding) → Option (List ℕ) → List Written → TagFault → Type 0
IsFaultIn layers space attributes fault.NoMemory = Unit {0}
IsFaultIn layers space attributes (fault.Names f) = fault_in layers space attributes ≡ Some f
