-- The spelling of an element by its parts.
use Rattle.std.proofs.Common.{◌≡◌, ◌∙◌, ℕ, List, ◌∷◌, ◌++◌, ap}
use Rattle.stanza_tree.specs.declared.node.Element.{Element}
use Rattle.stanza_tree.specs.declared.node.Node.{Node}
use Rattle.stanza_tree.specs.declared.node.Node.TheOpen.{Node-F, Child, Words}
use Rattle.stanza_tree.specs.declared.node.Node.TheViews.{out-Node}
use Rattle.stanza_tree.specs.declared.node.Node.TheFolds.{map-Node, fold-Node, fold-Element, fold_out-Node, fold_out-Element}
use Rattle.stanza_tree.specs.Spelling.{Spelled, node_text, element_text, opened, closed, words_text, text_under, texts_under}

pub text_under-parts : (parent : List ℕ) (e : Element)
    → text_under parent e ≡ opened parent e.name e.attrs ++ closed e.name.local (texts_under e.name.space e.children)
text_under-parts parent e = ap (λ (s : Spelled). s parent) (fold_out-Element Spelled Spelled node_text element_text e)

-- the spelling of nodes is that of the first and of the others
first-node : (s : List ℕ) (n : Node) (x : Node-F Node Element) (ns : List Node) → out-Node n ≡ x
    → texts_under s (n ∷ ns) ≡ node_text
    (map-Node Node Element Spelled Spelled (fold-Node Spelled Spelled node_text element_text) (fold-Element Spelled Spelled node_text element_text) x) s
    ++ texts_under s ns
first-node s n x ns e =
    ap (λ (f : Spelled). f s ++ texts_under s ns) (fold_out-Node Spelled Spelled node_text element_text n
    ∙ ap (λ y. node_text (map-Node Node Element Spelled Spelled (fold-Node Spelled Spelled node_text element_text)
    (fold-Element Spelled Spelled node_text element_text) y)) e)

pub texts-child : (s : List ℕ) (n : Node) (ns : List Node) (e : Element) → out-Node n ≡ Child e → texts_under s (n ∷ ns) ≡ text_under s e ++ texts_under s ns
texts-child s n ns e here = first-node s n (Child e) ns here

pub texts-words : (s : List ℕ) (n : Node) (ns : List Node) (w : List ℕ) → out-Node n ≡ Words w → texts_under s (n ∷ ns) ≡ words_text w ++ texts_under s ns
texts-words s n ns w here = first-node s n (Words w) ns here
