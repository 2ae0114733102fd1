-- A last binding is taken away, and a last child comes after words.
use Rattle.std.proofs.Common.{◌≡◌, ℕ, List, [], ◌∷◌, ◌++◌, refl, ap}
use Rattle.stanza_tree.specs.declared.node.Node.{Node}
use Rattle.stream_grammar.specs.grammar.Elements.{with_words}
use Rattle.stream_grammar.specs.machine.Building.{but_last}

-- words, and then a child
pub words_then : (words : List ℕ) (n : Node) → with_words words (n ∷ []) ≡ with_words words [] ++ n ∷ []
words_then [] n = refl
words_then (w ∷ ws) n = refl

pub but_last_layer : {X : Type 0} (ls : List X) (l : X) → but_last (ls ++ l ∷ []) ≡ ls
but_last_layer {X = X} [] l = refl
but_last_layer {X = X} (k ∷ []) l = refl
but_last_layer {X = X} (k ∷ m ∷ ls) l = ap (λ (xs : List X). k ∷ xs) (but_last_layer (m ∷ ls) l)
