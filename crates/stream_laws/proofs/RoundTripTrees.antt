-- An induction over proper elements.
use Rattle.std.proofs.Common.{◌≡◌, List, [], ◌∷◌, map, sym, ◌∙◌, subst}
use Rattle.std.specs.List.{AllByRecursion}
use Rattle.stanza_tree.specs.declared.node.Element.{Element}
use Rattle.stanza_tree.specs.declared.node.Node.{Node}
use Rattle.stanza_tree.specs.declared.node.Node.TheFolds.{every-Node, every_here-Element, every_held-Element}
use Rattle.stanza_tree.specs.declared.node.Node.TheFolds.{every_held-Node, ind-Element, map-Node, map-Element}
use Rattle.stanza_tree.specs.declared.node.Node.TheOpen.{Node-F, Element-F, Child, Words}
use Rattle.stanza_tree.specs.declared.node.Node.TheViews.{out-Node, out-Element, roll-Node, roll-Element, out-roll-Node, out-roll-Element}
use Rattle.stream_grammar.specs.grammar.Proper.{IsProperPart, IsProper}

-- of a node that is an element
abbrev pub NodeIs : (Element → Type 0) → Node-F Node Element → Type 0
NodeIs R (Child e) = R e
NodeIs R (Words w) = Unit {0}

abbrev pub IsEvery : Node → Type 0
IsEvery n = every-Node (λ m. Unit {0}) IsProperPart n

held-each : (P : Node → Type 0) (ys : List ((n : Node) × P n)) → AllByRecursion P (map (λ y. y.0) ys)
held-each P [] = tt
held-each P (y ∷ ys) = (y.1, held-each P ys)

joined-node : (R : Element → Type 0) (n : Node) → IsEvery n → NodeIs (λ e. IsProper e → R e) (out-Node n) → NodeIs R (out-Node n)
joined-node R n every h = let (x, e) = every_held-Node (λ m. Unit {0}) IsProperPart n every in by x e
  where
    by : (x : Node-F ((m : Node) × IsEvery m) ((e : Element) × IsProper e))
        → map-Node ((m : Node) × IsEvery m) ((e : Element) × IsProper e) Node Element (λ y. y.0) (λ y. y.0) x ≡ out-Node n → NodeIs R (out-Node n)
    by (Child c) e = subst (NodeIs R) e (subst (NodeIs (λ e. IsProper e → R e)) (sym e) h c.1)
    by (Words w) e = subst (NodeIs R) e tt

joined-each : (R : Element → Type 0) (ns : List Node) → AllByRecursion IsEvery ns → AllByRecursion (λ n. NodeIs (λ e. IsProper e → R e) (out-Node n)) ns
    → AllByRecursion (λ n. NodeIs R (out-Node n)) ns
joined-each R [] a b = tt
joined-each R (n ∷ ns) a b = (joined-node R n a.0 b.0, joined-each R ns a.1 b.1)

pub children-proper : (e : Element) → IsProper e → AllByRecursion IsEvery e.children
children-proper e every =
    let (x, same) = every_held-Element (λ m. Unit {0}) IsProperPart e every in
    subst (λ (d : Element-F Node Element). AllByRecursion IsEvery d.children) same (held-each IsEvery x.children)

module _ (R : Element → Type 0) where
  abbrev Of : Element → Type 0
  Of e = IsProper e → R e

  abbrev OfNode : Node → Type 0
  OfNode n = NodeIs Of (out-Node n)

  node-step : (x : Node-F Node Element) (y : Node-F ((n : Node) × OfNode n) ((e : Element) × Of e))
      → map-Node ((n : Node) × OfNode n) ((e : Element) × Of e) Node Element (λ z. z.0) (λ z. z.0) y ≡ x
      → OfNode (roll-Node x)
  node-step x (Child c) e = subst (NodeIs Of) (e ∙ sym (out-roll-Node x)) c.1
  node-step x (Words w) e = subst (NodeIs Of) (e ∙ sym (out-roll-Node x)) tt

  element-step : ((e : Element) → IsProperPart (out-Element e) → AllByRecursion (λ n. NodeIs R (out-Node n)) e.children → R e)
      → (x : Element-F Node Element) (y : Element-F ((n : Node) × OfNode n) ((e : Element) × Of e))
      → map-Element ((n : Node) × OfNode n) ((e : Element) × Of e) Node Element (λ z. z.0) (λ z. z.0) y ≡ x → Of (roll-Element x)
  element-step step x y e every =
      let el : Element = roll-Element x in
      let all : AllByRecursion OfNode el.children = subst (λ (d : Element-F Node Element). AllByRecursion OfNode d.children) (e
      ∙ sym (out-roll-Element x)) (held-each OfNode y.children) in
      step el (every_here-Element (λ m. Unit {0}) IsProperPart el every) (joined-each R el.children (children-proper el every) all)

  pub proper-all : ((e : Element) → IsProperPart (out-Element e) → AllByRecursion (λ n. NodeIs R (out-Node n)) e.children → R e) → (e : Element) → IsProper e
      → R e
  proper-all step e every = ind-Element OfNode Of node-step (element-step step) e every
