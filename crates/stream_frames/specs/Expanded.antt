-- The expanded names of a tag's attributes (Namespaces in XML 1.0, 2.1).
use Rattle.std.specs.Prelude.{ℕ, List, [], ◌∷◌, Bool, true, false, ◌&&◌, ◌||◌, bytes_eq, if◌then◌else◌, Option, Some, None}
use Rattle.stream_grammar.specs.declared.namespaces.Binding.{Binding}
use Rattle.stream_grammar.specs.declared.namespaces.Written.{Written}
use Rattle.stream_grammar.specs.declared.namespaces.NameFault.{NameFault}
use Rattle.stream_grammar.specs.declared.namespaces.NameFault.TheVariants as fault
use Rattle.stream_frames.specs.declared.expanded.Expanded.{Expanded}
use Rattle.stream_frames.specs.Spaces.{bound_space}
use Rattle.stream_grammar.specs.grammar.Resolving.{or_none}
use Rattle.stream_grammar.specs.grammar.Namespaces.{is_declaration, local_of, attribute_space, is_unbound, same_space, is_bound_to, xml_space, has_forbidden}

-- a namespace, unless the prefix is not bound, and a local part; and the attribute as it stands in the tag
pub record FullName : Type 0 where
  pub space : Option (List ℕ)
  pub local : List ℕ
  pub written : Written

abbrev pub full_name : Expanded → FullName
full_name e = record { space = bound_space e.space; local = e.local.now; written = e.written.now }

-- that of an attribute
abbrev pub expanded : List (List Binding) → Written → FullName
expanded bindings a = record { space = attribute_space bindings a.name; local = local_of a.name; written = a }

-- the namespaces of those that are no declarations, a namespace that is not bound counting as none
abbrev pub spaces_of : List FullName → List (List ℕ)
spaces_of [] = []
spaces_of (n ∷ ns) = if is_declaration n.written.name then spaces_of ns else or_none n.space ∷ spaces_of ns

-- one of them is in no namespace that is bound
abbrev pub has_unbound_name : List FullName → Bool
has_unbound_name [] = false
has_unbound_name (n ∷ ns) = if is_unbound n.space then true else has_unbound_name ns

-- two are one and the same
abbrev pub is_same : FullName → FullName → Bool
is_same n m = bytes_eq n.local m.local && same_space n.space m.space

abbrev pub is_among : FullName → List FullName → Bool
is_among n [] = false
is_among n (m ∷ ms) = if is_same n m then true else is_among n ms

abbrev pub has_repeat : List FullName → Bool
has_repeat [] = false
has_repeat (n ∷ ns) = if is_among n ns then true else has_repeat ns

-- the fault of a tag by the namespace of its element, the expanded names of its attributes, and what they declare
abbrev pub fault_of_names : Option (List ℕ) → List FullName → List Written → Option NameFault
fault_of_names space names attributes =
    if is_unbound space || has_unbound_name names then Some fault.BadPrefix
    else if is_bound_to space xml_space || (has_forbidden attributes || has_repeat names) then Some fault.NotWellFormed
    else None
