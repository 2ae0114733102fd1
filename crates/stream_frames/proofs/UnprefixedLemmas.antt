-- What holds of attributes that have no prefix.
use Rattle.std.proofs.Common.{◌≡◌, ◌∙◌, ℕ, List, [], ◌∷◌, drop, refl, ap, sym, Bool, true, false, ◌&&◌, ◌||◌, ◌+◌, bytes_eq, codes, if◌then◌else◌, Option, Some, None}
use mathlib.Core.Bool.{true≢false}
use Rattle.std.proofs.lemmas.Slice.Eq.{bytes_eq-Decides}
use Rattle.stanza_tree.specs.declared.node.Attr.{Attr}
use Rattle.stream_grammar.specs.declared.namespaces.Binding.{Binding}
use Rattle.stream_grammar.specs.declared.namespaces.Written.{Written}
use Rattle.stream_grammar.specs.declared.namespaces.NameFault.TheVariants as name_fault
use Rattle.stream_grammar.specs.grammar.Namespaces.{has_prefix, colon_at, local_of, prefix_of, is_declaration, xml_space, xmlns_space, space_of, attribute_space, is_unbound, is_bound_to}
use Rattle.stream_grammar.specs.grammar.Namespaces.{same_space, fault_in, has_unbound, has_forbidden, is_twin, has_twin, has_twins}
use Rattle.stream_grammar.specs.grammar.Resolving.{or_none, attrs_on}
use Rattle.stream_frames.specs.Filled.{attr_in, attrs_in}
use Rattle.stream_frames.specs.Unprefixed.{are_unprefixed, has_name, has_names_twice, unprefixed_fault}

-- the first of them has none, nor have the others
first_so : (p q : Bool) → (if p then false else q) ≡ true → p ≡ false
first_so true q h = absurd (true≢false (sym h))
first_so false q h = refl

rest_so : (p q : Bool) → (if p then false else q) ≡ true → q ≡ true
rest_so true q h = absurd (true≢false (sym h))
rest_so false q h = h

-- the namespace of one
abbrev plain_space : List ℕ → Option (List ℕ)
plain_space name = if bytes_eq name (codes "xmlns") then Some xmlns_space else Some []

space_by : (p x y : Bool) (z : Option (List ℕ)) → p ≡ false
    → (if (if p then x else y) then Some xmlns_space else (if p then z else Some [])) ≡ (if y then Some xmlns_space else Some [])
space_by true x y z h = absurd (true≢false h)
space_by false x y z h = refl

space_is : (layers : List (List Binding)) (name : List ℕ) → has_prefix name ≡ false → attribute_space layers name ≡ plain_space name
space_is layers name h =
    space_by (has_prefix name) (bytes_eq (prefix_of name) (codes "xmlns")) (bytes_eq name (codes "xmlns")) (space_of layers (prefix_of name)) h

local_by : (p : Bool) (x y : List ℕ) → p ≡ false → (if p then x else y) ≡ y
local_by true x y h = absurd (true≢false h)
local_by false x y h = refl

local_is : (name : List ℕ) → has_prefix name ≡ false → local_of name ≡ name
local_is name h = local_by (has_prefix name) (drop (colon_at name + 1) name) name h

bound_by : (b : Bool) → is_unbound (if b then Some xmlns_space else Some []) ≡ false
bound_by true = refl
bound_by false = refl

pub none_unbound : (layers : List (List Binding)) (attributes : List Written) → are_unprefixed attributes ≡ true → has_unbound layers attributes ≡ false
none_unbound layers [] h = refl
none_unbound layers (a ∷ more) h =
    ap (λ s. if is_unbound s then true else has_unbound layers more) (space_is layers a.name (first_so (has_prefix a.name) (are_unprefixed more) h))
    ∙ ap (λ b. if b then true else has_unbound layers more) (bound_by (bytes_eq a.name (codes "xmlns")))
    ∙ none_unbound layers more (rest_so (has_prefix a.name) (are_unprefixed more) h)

-- one namespace is the same as itself
same_by : (b : Bool) → same_space (if b then Some xmlns_space else Some []) (if b then Some xmlns_space else Some []) ≡ true
same_by true = refl
same_by false = refl

twins_by : (x y : List ℕ) (b : Bool) → bytes_eq x y ≡ b → b && same_space (plain_space x) (plain_space y) ≡ b
twins_by x y false h = refl
twins_by x y true h = ap (λ z. same_space (plain_space x) (plain_space z)) (sym ((bytes_eq-Decides x y).0 h)) ∙ same_by (bytes_eq x (codes "xmlns"))

twin_is : (layers : List (List Binding)) (a b : Written) → has_prefix a.name ≡ false → has_prefix b.name ≡ false → is_twin layers a b ≡ bytes_eq a.name b.name
twin_is layers a b h k =
    ap (λ x. bytes_eq x (local_of b.name) && same_space (attribute_space layers a.name) (attribute_space layers b.name)) (local_is a.name h)
    ∙ ap (λ x. bytes_eq a.name x && same_space (attribute_space layers a.name) (attribute_space layers b.name)) (local_is b.name k)
    ∙ ap (λ s. bytes_eq a.name b.name && same_space s (attribute_space layers b.name)) (space_is layers a.name h)
    ∙ ap (λ s. bytes_eq a.name b.name && same_space (plain_space a.name) s) (space_is layers b.name k)
    ∙ twins_by a.name b.name (bytes_eq a.name b.name) refl

has_twin_is : (layers : List (List Binding)) (a : Written) (others : List Written) → has_prefix a.name ≡ false → are_unprefixed others ≡ true
    → has_twin layers a others ≡ has_name a others
has_twin_is layers a [] h k = refl
has_twin_is layers a (b ∷ more) h k =
    ap (λ t. if t then true else has_twin layers a more) (twin_is layers a b h (first_so (has_prefix b.name) (are_unprefixed more) k))
    ∙ ap (λ t. if bytes_eq a.name b.name then true else t) (has_twin_is layers a more h (rest_so (has_prefix b.name) (are_unprefixed more) k))

pub twins_are : (layers : List (List Binding)) (attributes : List Written) → are_unprefixed attributes ≡ true → has_twins layers attributes ≡ has_names_twice attributes
twins_are layers [] h = refl
twins_are layers (a ∷ more) h =
    let first = first_so (has_prefix a.name) (are_unprefixed more) h in
    let rest = rest_so (has_prefix a.name) (are_unprefixed more) h in
    ap (λ t. if t then true else has_twins layers more) (has_twin_is layers a more first rest)
    ∙ ap (λ t. if has_name a more then true else t) (twins_are layers more rest)

or-false : (b : Bool) → b || false ≡ b
or-false true = refl
or-false false = refl

-- their fault
pub fault_is : (layers : List (List Binding)) (space : Option (List ℕ)) (attributes : List Written) → are_unprefixed attributes ≡ true
    → unprefixed_fault space attributes ≡ fault_in layers space attributes
fault_is layers space attributes h = sym (
    ap (λ b. if is_unbound space || b then Some name_fault.BadPrefix
    else if is_bound_to space xml_space || (has_forbidden attributes || has_twins layers attributes) then Some name_fault.NotWellFormed else None)
    (none_unbound layers attributes h)
    ∙ ap (λ b. if b then Some name_fault.BadPrefix
    else if is_bound_to space xml_space || (has_forbidden attributes || has_twins layers attributes) then Some name_fault.NotWellFormed else None)
    (or-false (is_unbound space))
    ∙ ap (λ b. if is_unbound space then Some name_fault.BadPrefix
    else if is_bound_to space xml_space || (has_forbidden attributes || b) then Some name_fault.NotWellFormed else None)
    (twins_are layers attributes h))

-- they are in no namespace, and those that declare are no attributes
filled_by : (layers : List (List Binding)) (a : Written) (more : List Written) (d p : Bool) (z : Option (List ℕ)) → p ≡ false → attrs_in [] more ≡ attrs_on layers more
    → (if d then attrs_in [] more else attr_in [] a ∷ attrs_in [] more)
    ≡ (if d then attrs_on layers more
    else record { name = record { space = or_none (if d then Some xmlns_space else (if p then z else Some [])); local = local_of a.name }; value = a.value } ∷ attrs_on layers more)
filled_by layers a more true p z h e = e
filled_by layers a more false true z h e = absurd (true≢false h)
filled_by layers a more false false z h e = ap (λ (l : List Attr). attr_in [] a ∷ l) e

pub none_filled : (layers : List (List Binding)) (attributes : List Written) → are_unprefixed attributes ≡ true → attrs_in [] attributes ≡ attrs_on layers attributes
none_filled layers [] h = refl
none_filled layers (a ∷ more) h =
    filled_by layers a more (is_declaration a.name) (has_prefix a.name) (space_of layers (prefix_of a.name)) (first_so (has_prefix a.name) (are_unprefixed more) h)
    (none_filled layers more (rest_so (has_prefix a.name) (are_unprefixed more) h))
