-- Proper elements by their parts, and with other attributes.
use Rattle.std.proofs.Common.{◌≡◌, ℕ, ◌<◌, ◌≤◌, List, [], ◌∷◌, ◌++◌, refl, sym, ap, ◌∙◌, subst, Bool, true, false, arith, codes}
use Rattle.std.proofs.lemmas.Bool.{cond_both, and_parts, leb-true}
use Rattle.std.proofs.lemmas.Bool.Decides.{nat_tests}
use Rattle.std.specs.List.{AllByRecursion, IsDistinct}
use Rattle.std.specs.Prelude.{encode_utf8_all, bytes_eq, ◌&&◌, nat_le}
use Rattle.stanza_tree.specs.declared.node.Attr.{Attr}
use Rattle.stanza_tree.specs.declared.node.Element.{Element}
use Rattle.stanza_tree.specs.declared.node.Node.{Node}
use Rattle.stanza_tree.specs.declared.node.Node.TheFolds.{every_here-Element, every_held-Node, map-Node}
use Rattle.stanza_tree.specs.declared.node.Node.TheOpen.{Node-F, Child, Words}
use Rattle.stanza_tree.specs.declared.node.Node.TheViews.{out-Node, out-Element, roll-Node, roll-out-Node}
use Rattle.stanza_tree.specs.Attributes.{is_named, with_attr, without_attr}
use Rattle.stanza_tree.specs.Stamps.{sent_by}
use Rattle.stream_lex.specs.grammar.Classes.{is_xml}
use Rattle.stream_lex.proofs.Lists.{false-true}
use Rattle.stream_lex.proofs.Spans.{encode1}
use Rattle.stream_grammar.specs.grammar.Proper.{starts_name, continues_name, IsNcName, IsXmlText, IsAttribute, same_name}
use Rattle.stream_grammar.specs.grammar.Proper.{IsProperPart, IsProper, IsProperNode, IsProperInParts, starts_ascii_name}
use Rattle.stream_grammar.specs.grammar.Proper.{continues_ascii_name, continue_ascii_name, is_ascii_name, is_ascii_text}
use Rattle.stream_laws.proofs.RoundTripTrees.{IsEvery, children-proper}
use Rattle.stream_laws.proofs.ProperStreams.{made, child-proper, words-proper}

-- Parts.

every-node : (n : Node) → IsProperNode (out-Node n) → IsEvery n
every-node n h = by (out-Node n) refl h
  where
    by : (x : Node-F Node Element) → out-Node n ≡ x → IsProperNode x → IsEvery n
    by (Child e) f h = subst IsEvery (ap roll-Node (sym f) ∙ roll-out-Node n) (child-proper e h)
    by (Words w) f h = subst IsEvery (ap roll-Node (sym f) ∙ roll-out-Node n) (words-proper w)

every-nodes : (ns : List Node) → AllByRecursion (λ n. IsProperNode (out-Node n)) ns → AllByRecursion IsEvery ns
every-nodes [] h = tt
every-nodes (n ∷ ns) h = (every-node n h.0, every-nodes ns h.1)

node-every : (n : Node) → IsEvery n → IsProperNode (out-Node n)
node-every n every = let (x, e) = every_held-Node (λ m. Unit {0}) IsProperPart n every in by x e
  where
    by : (x : Node-F ((m : Node) × IsEvery m) ((e : Element) × IsProper e))
        → map-Node ((m : Node) × IsEvery m) ((e : Element) × IsProper e) Node Element (λ y. y.0) (λ y. y.0) x ≡ out-Node n → IsProperNode (out-Node n)
    by (Child c) e = subst IsProperNode e c.1
    by (Words w) e = subst IsProperNode e tt

nodes-every : (ns : List Node) → AllByRecursion IsEvery ns → AllByRecursion (λ n. IsProperNode (out-Node n)) ns
nodes-every [] h = tt
nodes-every (n ∷ ns) h = (node-every n h.0, nodes-every ns h.1)

pub in-parts : (e : Element) → IsProper e → IsProperInParts e
in-parts e every =
    let p : IsProperPart (out-Element e) = every_here-Element (λ m. Unit {0}) IsProperPart e every in
    (p.0, p.1, p.2, p.3, nodes-every e.children (children-proper e every))

pub from-parts : (e : Element) → IsProperInParts e → IsProper e
from-parts e p = made e.name e.attrs e.children p.0 p.1 p.2 p.3 (every-nodes e.children p.4)

-- ASCII names and texts.

ascii-starts : (c : ℕ) → starts_ascii_name c ≡ true → (c < 128) × (starts_name c ≡ true)
ascii-starts c h = (grind (arith, nat_tests, h), grind (arith, nat_tests, h))

ascii-continues : (c : ℕ) → continues_ascii_name c ≡ true → (c < 128) × (continues_name c ≡ true)
ascii-continues c h = (grind (arith, nat_tests, h), grind (arith, nat_tests, h))

ascii-more : (cs : List ℕ) → continue_ascii_name cs ≡ true → (encode_utf8_all cs ≡ cs) × AllByRecursion (λ d. continues_name d ≡ true) cs
ascii-more [] h = (refl, tt)
ascii-more (c ∷ cs) h =
    let (a, b) = and_parts (continues_ascii_name c) (continue_ascii_name cs) h in
    let (low, is) = ascii-continues c a in
    let (e, all) = ascii-more cs b in
    (ap (λ (l : List ℕ). l ++ encode_utf8_all cs) (encode1 c low) ∙ ap (λ (l : List ℕ). c ∷ l) e, (is, all))

pub ascii-name : (bytes : List ℕ) → is_ascii_name bytes ≡ true → IsNcName bytes
ascii-name [] h = false-true h
ascii-name (c ∷ cs) h =
    let (a, b) = and_parts (starts_ascii_name c) (continue_ascii_name cs) h in
    let (low, is) = ascii-starts c a in
    let (e, all) = ascii-more cs b in
    (c, cs, ap (λ (l : List ℕ). l ++ encode_utf8_all cs) (encode1 c low) ∙ ap (λ (l : List ℕ). c ∷ l) e, is, all)

pub ascii-text : (bytes : List ℕ) → is_ascii_text bytes ≡ true → IsXmlText bytes
ascii-text bytes h = let (e, all) = parts bytes h in (bytes, e, all)
  where
    parts : (cs : List ℕ) → is_ascii_text cs ≡ true → (encode_utf8_all cs ≡ cs) × AllByRecursion (λ d. is_xml d ≡ true) cs
    parts [] h = (refl, tt)
    parts (c ∷ cs) h =
        let (a, b) = and_parts (is_xml c && nat_le c 127) (is_ascii_text cs) h in
        let (is, low) = and_parts (is_xml c) (nat_le c 127) a in
        let below : c ≤ 127 = leb-true c 127 low in
        let (e, all) = parts cs b in
        (ap (λ (l : List ℕ). l ++ encode_utf8_all cs) (encode1 c (omega arith)) ∙ ap (λ (l : List ℕ). c ∷ l) e, (is, all))

-- Attributes.

-- an attribute of this name in no namespace
abbrev one_attr : List ℕ → List ℕ → Attr
one_attr local value = record { name = record { space = []; local = local }; value = value }

with-attributes : (local value : List ℕ) (attrs : List Attr) → IsAttribute (one_attr local value) → AllByRecursion IsAttribute attrs
    → AllByRecursion IsAttribute (with_attr local value attrs)
with-attributes local value [] is all = (is, tt)
with-attributes local value (a ∷ more) is all =
    cond_both (is_named local a) (record a { value = value } ∷ more) (a ∷ with_attr local value more) (AllByRecursion IsAttribute)
    (λ e. ((all.0.0, all.0.1, is.2, all.0.3, all.0.4), all.1))
    (λ e. (all.0, with-attributes local value more is all.1))

with-other : (local value : List ℕ) (a : Attr) (attrs : List Attr) → is_named local a ≡ false → AllByRecursion (λ b. same_name a b ≡ false) attrs
    → AllByRecursion (λ b. same_name a b ≡ false) (with_attr local value attrs)
with-other local value a [] e all = (e, tt)
with-other local value a (b ∷ more) e all =
    cond_both (is_named local b) (record b { value = value } ∷ more) (b ∷ with_attr local value more) (AllByRecursion (λ b. same_name a b ≡ false)) (λ f. all)
    (λ f. (all.0, with-other local value a more e all.1))

with-distinct : (local value : List ℕ) (attrs : List Attr) → IsDistinct same_name attrs → IsDistinct same_name (with_attr local value attrs)
unfolding IsDistinct
with-distinct local value [] d = (tt, tt)
with-distinct local value (a ∷ more) d =
    cond_both (is_named local a) (record a { value = value } ∷ more) (a ∷ with_attr local value more) (IsDistinct same_name) (λ e. d)
    (λ e. (with-other local value a more e d.0, with-distinct local value more d.1))

without-all : (P : Attr → Type 0) (local : List ℕ) (attrs : List Attr) → AllByRecursion P attrs → AllByRecursion P (without_attr local attrs)
without-all P local [] all = tt
without-all P local (a ∷ more) all = cond_both (is_named local a) (without_attr local more) (a ∷ without_attr local more) (AllByRecursion P)
    (λ e. without-all P local more all.1) (λ e. (all.0, without-all P local more all.1))

without-distinct : (local : List ℕ) (attrs : List Attr) → IsDistinct same_name attrs → IsDistinct same_name (without_attr local attrs)
unfolding IsDistinct
without-distinct local [] d = tt
without-distinct local (a ∷ more) d =
    cond_both (is_named local a) (without_attr local more) (a ∷ without_attr local more) (IsDistinct same_name) (λ e. without-distinct local more d.1)
    (λ e. (without-all (λ b. same_name a b ≡ false) local more d.0, without-distinct local more d.1))

pub with-proper : (local value : List ℕ) (e : Element) → IsNcName local → bytes_eq local (codes "xmlns") ≡ false → IsXmlText value → IsProper e
    → IsProper (record e { attrs = with_attr local value e.attrs })
with-proper local value e n other v proper =
    let p : IsProperInParts e = in-parts e proper in
    let is : IsAttribute (one_attr local value) = (n, ([], refl, tt), v, refl, and-first (bytes_eq local (codes "xmlns")) true other) in
    from-parts (record e { attrs = with_attr local value e.attrs })
    (p.0, with-attributes local value e.attrs is p.1, with-distinct local value e.attrs p.2, p.3, p.4)
  where
    and-first : (s t : Bool) → s ≡ false → (s && t) ≡ false
    and-first true t e = false-true (sym e)
    and-first false t e = refl

pub without-proper : (local : List ℕ) (e : Element) → IsProper e → IsProper (record e { attrs = without_attr local e.attrs })
without-proper local e proper =
    let p : IsProperInParts e = in-parts e proper in
    from-parts (record e { attrs = without_attr local e.attrs }) (p.0, without-all IsAttribute local e.attrs p.1, without-distinct local e.attrs p.2, p.3, p.4)

pub sent-proper : (from : List ℕ) (e : Element) → IsXmlText from → IsProper e → IsProper (sent_by from e)
sent-proper from e x proper = with-proper (codes "from") from (record e { attrs = without_attr (codes "to") e.attrs }) (ascii-name (codes "from") refl) refl x
    (without-proper (codes "to") e proper)
