-- What a builder does.
use Rattle.std.proofs.Common.{◌≡◌, ℕ, List, [], ◌∷◌, ◌++◌, refl, sym, ap, ◌∙◌, append-nil, length, true, false, map, reverse, arith}
use Rattle.std.specs.Prelude.{Option, None, Some}
use Rattle.std.specs.Option.{is_some, option_to_list, MatchOption}
use Rattle.stream_frames.specs.declared.built.OpenElement.{OpenElement}
use Rattle.stream_frames.specs.declared.built.Parent.{Parent}
use Rattle.stream_frames.specs.Builds.{opened, open_parent}
use Rattle.std.proofs.lemmas.List.{map-append, reverse-append}
use Rattle.stream_lex.specs.declared.Token.{Token}
use Rattle.stream_lex.specs.declared.Token.TheVariants as token
use Rattle.stream_grammar.proofs.LastLemmas.{but_last_layer}
use Rattle.stream_grammar.specs.machine.Building.{Opened, Building, worded_in, but_last, last_closed, with_child, closed_in, build_all}
use Rattle.stanza_tree.specs.declared.node.Element.{Element}
use Rattle.stream_grammar.specs.declared.namespaces.Binding.{Binding}
use Rattle.stream_grammar.specs.declared.item.Item.TheVariants as item
use Rattle.stream_grammar.specs.machine.Telling.{are_words}

-- between top elements words are passed over
pub no_words : (ts : List Token) (b : Building) → b.opened ≡ [] → are_words ts ≡ true → build_all b ts ≡ b
no_words [] b e h = refl
no_words (token.Word c ∷ ts) b e h = ap (λ (x : Building). build_all x ts) (ap (λ (os : List Opened). worded_in os c b) e) ∙ no_words ts b e h
no_words (t ∷ ts) b e h = absurd (let bad : false ≡ true = h in cc)

pub opened_none : (o : Option OpenElement) (ps : List Parent) → is_some o ≡ false → opened o ps ≡ []
opened_none None ps e = refl
opened_none (Some x) ps e = absurd (let bad : true ≡ false = e in cc)

-- the parent that was put away last is the first
pub last_parent : (ps : List Parent) (p : Parent) → reverse (map open_parent (ps ++ p ∷ [])) ≡ open_parent p ∷ reverse (map open_parent ps)
last_parent ps p = ap reverse (map-append open_parent ps (p ∷ [])) ∙ reverse-append (map open_parent ps) (open_parent p ∷ [])

-- what a vector has without its last
nothing_long : {X : Type 0} (xs : List X) → 0 ≡ length xs → xs ≡ []
nothing_long [] e = refl
nothing_long (x ∷ xs) e = absurd (let f : 0 ≡ length (x ∷ xs) = e in omega arith)

pub popped_last : {X : Type 0} (r : Option X) (old new : List X) (n m : ℕ) (B : X → Type 0) → m ≡ length new → old ≡ new ++ option_to_list r
    → MatchOption r ((n ≡ 0) × (m ≡ 0)) B → new ≡ but_last old
popped_last None old new n m B k e c =
    let none : new ≡ [] = nothing_long new (sym c.1 ∙ k) in
    none ∙ sym (ap but_last (e ∙ (append-nil new ∙ none)))
popped_last (Some x) old new n m B k e c = sym (ap but_last e ∙ but_last_layer new x)

pub popped_none : {X : Type 0} (r : Option X) (old new : List X) (n m : ℕ) (B : X → Type 0) → r ≡ None → m ≡ length new → old ≡ new ++ option_to_list r
    → MatchOption r ((n ≡ 0) × (m ≡ 0)) B → old ≡ []
popped_none None old new n m B h k e c = e ∙ (append-nil new ∙ nothing_long new (sym c.1 ∙ k))
popped_none (Some x) old new n m B h k e c = absurd (some-none x h)
  where
    some-none : {X : Type 0} (x : X) → Some x ≡ None → ⊥
    some-none x e = cc

-- what an end tag does, where a parent is open
pub close_some : (b : Building) (layers : List (List Binding)) (x p q : Opened) (e : Element) (others : List Opened) → b.opened ≡ x ∷ p ∷ others
    → e ≡ last_closed b.words x → layers ≡ but_last b.layers → q ≡ with_child [] e p
    → record b { layers = layers; opened = q ∷ others; words = [] } ≡ closed_in b.opened b
close_some b layers x p q e others h i j k =
    ap (λ (l : List (List Binding)). record b { layers = l; opened = q ∷ others; words = [] }) j
    ∙ (ap (λ (o : Opened). record b { layers = but_last b.layers; opened = o ∷ others; words = [] }) (k ∙ ap (λ (y : Element). with_child [] y p) i)
    ∙ ap (λ (os : List Opened). closed_in os b) (sym h))

-- and where none is
pub close_none : (b : Building) (layers : List (List Binding)) (x : Opened) (e : Element) → b.opened ≡ x ∷ [] → e ≡ last_closed b.words x
    → layers ≡ but_last b.layers
    → record b { layers = layers; opened = []; words = []; item = Some (item.Top e) } ≡ closed_in b.opened b
close_none b layers x e h i j =
    ap (λ (l : List (List Binding)). record b { layers = l; opened = []; words = []; item = Some (item.Top e) }) j
    ∙ (ap (λ (y : Element). record b { layers = but_last b.layers; opened = []; words = []; item = Some (item.Top y) }) i
    ∙ ap (λ (os : List Opened). closed_in os b) (sym h))
