-- The names on a tag, with the namespaces that are declared (Namespaces in XML 1.0).
use Rattle.std.specs.Prelude.{ℕ, ◌+◌, List, [], ◌∷◌, length, take, drop, Bool, true, false, not, ◌&&◌, ◌||◌, ◌==◌}
use Rattle.std.specs.Prelude.{nat_lt, codes, bytes_eq, if◌then◌else◌, Option, Some, None}
use Rattle.stream_grammar.specs.declared.namespaces.Binding.{Binding}
use Rattle.stream_grammar.specs.declared.namespaces.Written.{Written}
use Rattle.stream_grammar.specs.declared.namespaces.NameFault.{NameFault}
use Rattle.stream_grammar.specs.declared.namespaces.NameFault.TheVariants as fault

-- Namespaces in XML 1.0, 3: what the prefixes xml and xmlns are bound to
abbrev pub xml_space : List ℕ
xml_space = codes "http://www.w3.org/XML/1998/namespace"

abbrev pub xmlns_space : List ℕ
xmlns_space = codes "http://www.w3.org/2000/xmlns/"

-- [7] QName: the place of the colon, or the number of all bytes
abbrev pub colon_at : List ℕ → ℕ
colon_at [] = 0
colon_at (b ∷ bs) = if b == 58 then 0 else 1 + colon_at bs

abbrev pub has_prefix : List ℕ → Bool
has_prefix name = nat_lt (colon_at name) (length name)

-- [10] Prefix and [11] LocalPart; without a colon the prefix is empty
abbrev pub prefix_of : List ℕ → List ℕ
prefix_of name = if has_prefix name then take (colon_at name) name else []

abbrev pub local_of : List ℕ → List ℕ
local_of name = if has_prefix name then drop (colon_at name + 1) name else name

-- [1] NSAttName ::= PrefixedAttName | DefaultAttName
abbrev pub is_declaration : List ℕ → Bool
is_declaration name = if has_prefix name then bytes_eq (prefix_of name) (codes "xmlns") else bytes_eq name (codes "xmlns")

-- the prefix that it declares; empty for the default namespace
abbrev pub declared_prefix : List ℕ → List ℕ
declared_prefix name = if has_prefix name then local_of name else []

-- only the default namespace may be bound to nothing
abbrev pub may_undo : List ℕ → List ℕ → Bool
may_undo prefix space = bytes_eq prefix [] || not (bytes_eq space [])

-- Namespaces in XML 1.0, 3 and 2.2: what may be declared
abbrev pub may_declare : List ℕ → List ℕ → Bool
may_declare prefix space =
    if bytes_eq prefix (codes "xmlns") then false
    else if bytes_eq prefix (codes "xml") then bytes_eq space xml_space
    else not (bytes_eq space xml_space) && (not (bytes_eq space xmlns_space) && may_undo prefix space)

-- the space of the last binding of a prefix, or else the one given
abbrev pub last_space : Option (List ℕ) → List Binding → List ℕ → Option (List ℕ)
last_space given [] prefix = given
last_space given (b ∷ bs) prefix = last_space (if bytes_eq b.prefix prefix then Some b.space else given) bs prefix

-- the same through the bindings of each element that is open, outermost first
abbrev pub last_layer : Option (List ℕ) → List (List Binding) → List ℕ → Option (List ℕ)
last_layer given [] prefix = given
last_layer given (l ∷ ls) prefix = last_layer (last_space given l prefix) ls prefix

-- what is bound before any tag: the default namespace to nothing, and xml
abbrev pub space_before : List ℕ → Option (List ℕ)
space_before prefix = if bytes_eq prefix [] then Some [] else if bytes_eq prefix (codes "xml") then Some xml_space else None

-- The prefix xmlns is never declared, so no element may have it.
abbrev pub space_of : List (List Binding) → List ℕ → Option (List ℕ)
space_of bindings prefix = if bytes_eq prefix (codes "xmlns") then None else last_layer (space_before prefix) bindings prefix

-- an attribute without a prefix is in no namespace; a declaration is in that of xmlns
abbrev pub attribute_space : List (List Binding) → List ℕ → Option (List ℕ)
attribute_space bindings name =
    if is_declaration name then Some xmlns_space else (if has_prefix name then space_of bindings (prefix_of name) else Some [])

abbrev pub is_unbound : Option (List ℕ) → Bool
is_unbound None = true
is_unbound (Some space) = false

abbrev pub has_unbound : List (List Binding) → List Written → Bool
has_unbound bindings [] = false
has_unbound bindings (a ∷ more) = if is_unbound (attribute_space bindings a.name) then true else has_unbound bindings more

-- a declaration that may not stand
abbrev pub is_forbidden : Written → Bool
is_forbidden a = is_declaration a.name && not (may_declare (declared_prefix a.name) a.value)

abbrev pub has_forbidden : List Written → Bool
has_forbidden [] = false
has_forbidden (a ∷ more) = if is_forbidden a then true else has_forbidden more

-- whether this is the space that was found
abbrev pub is_bound_to : Option (List ℕ) → List ℕ → Bool
is_bound_to None space = false
is_bound_to (Some s) space = bytes_eq s space

abbrev pub same_space : Option (List ℕ) → Option (List ℕ) → Bool
same_space None other = false
same_space (Some s) other = is_bound_to other s

-- Namespaces in XML 1.0, 6.3: two attributes of one expanded name
abbrev pub is_twin : List (List Binding) → Written → Written → Bool
is_twin bindings a b = bytes_eq (local_of a.name) (local_of b.name) && same_space (attribute_space bindings a.name) (attribute_space bindings b.name)

abbrev pub has_twin : List (List Binding) → Written → List Written → Bool
has_twin bindings a [] = false
has_twin bindings a (b ∷ more) = if is_twin bindings a b then true else has_twin bindings a more

abbrev pub has_twins : List (List Binding) → List Written → Bool
has_twins bindings [] = false
has_twins bindings (a ∷ more) = if has_twin bindings a more then true else has_twins bindings more

-- The fault of a tag by the namespace of its element and its attributes, where the bindings are those of each element round it and
-- then its own: an undeclared prefix first.
abbrev pub fault_in : List (List Binding) → Option (List ℕ) → List Written → Option NameFault
fault_in bindings space attributes =
    if is_unbound space || has_unbound bindings attributes then Some fault.BadPrefix
    else if is_bound_to space xml_space || (has_forbidden attributes || has_twins bindings attributes) then Some fault.NotWellFormed
    else None

-- the fault of a tag by its names
abbrev pub tag_fault : List (List Binding) → List ℕ → List Written → Option NameFault
tag_fault bindings name attributes = fault_in bindings (space_of bindings (prefix_of name)) attributes

-- The bindings that a tag declares, in their order.
abbrev pub own : List Written → List Binding
own [] = []
own (a ∷ more) = if is_declaration a.name then record { prefix = declared_prefix a.name; space = a.value } ∷ own more else own more
