-- Names that are unbound or come twice, by the expanded names.
use Rattle.std.proofs.Common.{◌≡◌, ◌||◌, ◌∙◌, List, ℕ, [], ◌∷◌, map, refl, ap, true, if◌then◌else◌, Option, Some, None}
use Rattle.stream_grammar.specs.declared.namespaces.Binding.{Binding}
use Rattle.stream_grammar.specs.declared.namespaces.Written.{Written}
use Rattle.stream_grammar.specs.declared.namespaces.NameFault.TheVariants as fault
use Rattle.stream_grammar.specs.grammar.Namespaces.{has_unbound, has_twin, has_twins, is_twin, is_unbound, attribute_space, is_bound_to}
use Rattle.stream_grammar.specs.grammar.Namespaces.{xml_space, has_forbidden, is_declaration, fault_in}
use Rattle.stream_frames.specs.Expanded.{expanded, has_unbound_name, is_among, has_repeat, fault_of_names, spaces_of}
use Rattle.stream_grammar.specs.grammar.Resolving.{or_none}
use Rattle.stream_frames.specs.Filled.{spaces_on}

pub unbound_by_names : (bindings : List (List Binding)) (attributes : List Written)
    → has_unbound_name (map (expanded bindings) attributes) ≡ has_unbound bindings attributes
unbound_by_names bindings [] = refl
unbound_by_names bindings (a ∷ more) = ap (λ b. if is_unbound (attribute_space bindings a.name) then true else b) (unbound_by_names bindings more)

pub twin_by_names : (bindings : List (List Binding)) (a : Written) (others : List Written)
    → is_among (expanded bindings a) (map (expanded bindings) others) ≡ has_twin bindings a others
twin_by_names bindings a [] = refl
twin_by_names bindings a (b ∷ more) = ap (λ c. if is_twin bindings a b then true else c) (twin_by_names bindings a more)

pub twins_by_names : (bindings : List (List Binding)) (attributes : List Written)
    → has_repeat (map (expanded bindings) attributes) ≡ has_twins bindings attributes
twins_by_names bindings [] = refl
twins_by_names bindings (a ∷ more) =
    ap (λ c. if c then true else has_repeat (map (expanded bindings) more)) (twin_by_names bindings a more)
    ∙ ap (λ c. if has_twin bindings a more then true else c) (twins_by_names bindings more)

pub fault_by_names : (bindings : List (List Binding)) (space : Option (List ℕ)) (attributes : List Written)
    → fault_of_names space (map (expanded bindings) attributes) attributes ≡ fault_in bindings space attributes
fault_by_names bindings space attributes =
    ap (λ b. if is_unbound space || b then Some fault.BadPrefix else if is_bound_to space xml_space
    || (has_forbidden attributes || has_repeat (map (expanded bindings) attributes)) then Some fault.NotWellFormed else None)
    (unbound_by_names bindings attributes)
    ∙ ap (λ b. if is_unbound space || has_unbound bindings attributes then Some fault.BadPrefix else if is_bound_to space xml_space
    || (has_forbidden attributes || b) then Some fault.NotWellFormed else None) (twins_by_names bindings attributes)

pub spaces_by_names : (layers : List (List Binding)) (attributes : List Written) → spaces_of (map (expanded layers) attributes) ≡ spaces_on layers attributes
spaces_by_names layers [] = refl
spaces_by_names layers (a ∷ more) = ap (λ l. if is_declaration a.name then l else or_none (attribute_space layers a.name) ∷ l) (spaces_by_names layers more)
