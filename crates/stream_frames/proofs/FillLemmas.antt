-- The parts of a tag give the element that its names are resolved to.
use Rattle.std.proofs.Common.{◌≡◌, ◌∙◌, ℕ, List, [], ◌∷◌, refl, ap, Bool, true, false, if◌then◌else◌}
use Rattle.stanza_tree.specs.declared.node.Attr.{Attr}
use Rattle.stream_grammar.specs.declared.namespaces.Binding.{Binding}
use Rattle.stream_grammar.specs.declared.namespaces.Written.{Written}
use Rattle.stream_grammar.specs.grammar.Namespaces.{is_declaration, attribute_space}
use Rattle.stream_grammar.specs.grammar.Resolving.{or_none, attr_on, attrs_on}
use Rattle.stream_frames.specs.Filled.{spaces_on, first_of, others_of, attr_in, attrs_in}

attrs_step : (layers : List (List Binding)) (a : Written) (more : List Written) (s : List ℕ) (ss : List (List ℕ)) (d : Bool) → attr_in s a ≡ attr_on layers a
    → attrs_in ss more ≡ attrs_on layers more
    → (if d then attrs_in (if d then ss else s ∷ ss) more else attr_in (first_of (if d then ss else s ∷ ss)) a ∷ attrs_in (others_of (if d then ss else s ∷ ss))
    more)
    ≡ (if d then attrs_on layers more else attr_on layers a ∷ attrs_on layers more)
attrs_step layers a more s ss true h e = e
attrs_step layers a more s ss false h e = ap (λ (x : Attr). x ∷ attrs_in ss more) h ∙ ap (λ (l : List Attr). attr_on layers a ∷ l) e

pub attrs_filled : (layers : List (List Binding)) (attributes : List Written) → attrs_in (spaces_on layers attributes) attributes ≡ attrs_on layers attributes
attrs_filled layers [] = refl
attrs_filled layers (a ∷ more) =
    attrs_step layers a more (or_none (attribute_space layers a.name)) (spaces_on layers more) (is_declaration a.name) refl (attrs_filled layers more)
