-- Proper elements: the content that their canonical text spells.
use Rattle.std.proofs.Common.{◌≡◌, ℕ, suc, ◌+◌, ◌<◌, ◌≤◌, ◌^◌, ◌⊎◌, inl, inr, max, List, [], ◌∷◌, ◌++◌, length, map, refl, sym, ap, ◌∙◌}
use Rattle.std.proofs.Common.{subst, append_assoc, append-nil, Bool, true, false, arith, codes, length-append}
use Rattle.std.proofs.lemmas.Bool.{cond-false, cond_both, eqb-true}
use Rattle.std.proofs.lemmas.Bool.Decides.{nat_tests}
use Rattle.std.specs.List.{AllByRecursion}
use Rattle.std.specs.Prelude.{encode_utf8, encode_utf8_all, if◌then◌else◌, bytes_eq, ◌==◌, ◌||◌, Option, Some, None}
use Rattle.stanza_tree.specs.declared.node.Attr.{Attr}
use Rattle.stanza_tree.specs.declared.node.Element.{Element}
use Rattle.stanza_tree.specs.declared.node.Name.{Name}
use Rattle.stanza_tree.specs.declared.node.Node.{Node}
use Rattle.stanza_tree.specs.declared.node.Node.TheFolds.{fold-Node, fold-Element, fold_out-Node, fold_out-Element, map-Node}
use Rattle.stanza_tree.specs.declared.node.Node.TheOpen.{Node-F, Child, Words}
use Rattle.stanza_tree.specs.declared.node.Node.TheViews.{out-Node, out-Element, roll-Node, roll-out-Node}
use Rattle.stanza_tree.specs.Spelling.{prefix, escaped_in_words, words_text}
use Rattle.stanza_tree.specs.Spelling.{text_under, texts_under, needs_prefix, closed, opened}
use Rattle.stanza_tree.proofs.SpellingLemmas.{text_under-parts, texts-child, texts-words}
use Rattle.stream_lex.specs.declared.Token.{Token}
use Rattle.stream_lex.specs.declared.Token.TheVariants as token
use Rattle.stream_lex.proofs.Lists.{false-true}
use Rattle.stream_grammar.specs.declared.namespaces.Binding.{Binding}
use Rattle.stream_grammar.specs.declared.namespaces.Written.{Written}
use Rattle.stream_grammar.specs.declared.rules.Rules.{Rules}
use Rattle.stream_grammar.specs.grammar.Trees.{RawAttribute, RawTag, Content, nothing, word, element, hollow, tag_tokens}
use Rattle.stream_grammar.specs.grammar.Trees.{attributes_tokens, end_tokens, content_tokens, levels, is_space, Keeps}
use Rattle.stream_grammar.specs.grammar.Namespaces.{own, tag_fault}
use Rattle.stream_grammar.specs.grammar.Resolving.{attrs_on}
use Rattle.stream_grammar.specs.grammar.Tags.{written, whole_tag}
use Rattle.stream_grammar.specs.grammar.Elements.{inside_of, element_with, with_words, nodes_on, fault_of_tag, AreNamed}
use Rattle.stream_grammar.specs.grammar.Proper.{IsNcName, IsXmlText, IsJoined, AreJoined, IsProperPart, IsProper}
use Rattle.stream_grammar.specs.grammar.Widths.{node_depth, element_depth, depth_of, depth_of_all, prefixes_of, tag_width}
use Rattle.stream_grammar.specs.grammar.Widths.{Measured, node_width, element_width, width_under, width_under_all}
use Rattle.stream_laws.proofs.RoundTripRuns.{Runs, RunsLast, runs-last, last-then, last-told, last-text, runs-none, runs-then, runs-told, runs-text, between}
use Rattle.stream_laws.proofs.RoundTripText.{Gap, plain, gap_stage, characters-words}
use Rattle.stream_laws.proofs.RoundTripTags.{written_text, written_one, name-byte, TagAt, named_tag, tag_stage, gap_state}
use Rattle.stream_laws.proofs.RoundTripTags.{attributes-run, start-runs, tag-ends, hollow-ends, end-runs}
use Rattle.stream_laws.proofs.RoundTripSpelling.{default_written, declared_written, attributes_written, tag_written, tag-are, opened-text}
use Rattle.stream_laws.proofs.RoundTripScopes.{Under, inner, inner-under, tag-named, tag-own}
use Rattle.stream_laws.proofs.RoundTripFaults.{IsResolved, tag-resolved}
use Rattle.stream_laws.proofs.RoundTripTrees.{NodeIs, proper-all}

-- An element in front of content: an empty-element tag, or a tag round other content.

abbrev pub front : RawTag → Option Content → Content → Content
front t None f = hollow t f
front t (Some g) f = element t g f

abbrev pub front_tokens : RawTag → Option Content → List Token
front_tokens t None = tag_tokens t true
front_tokens t (Some g) = tag_tokens t false ++ (content_tokens g ++ end_tokens t.name)

abbrev pub NamedIn : List (List Binding) → Option Content → Type 0
NamedIn L None = Unit {0}
NamedIn L (Some g) = AreNamed L g

abbrev pub nodes_in : List (List Binding) → Option Content → List Node
nodes_in L None = []
nodes_in L (Some g) = nodes_on L [] g

abbrev pub KeptIn : Rules → RawTag → Option Content → Type 0
KeptIn r t None = length t.attributes ≤ r.attributes
KeptIn r t (Some g) = (length t.attributes ≤ r.attributes) × Keeps r false g

abbrev pub levels_in : Option Content → ℕ
levels_in None = 0
levels_in (Some g) = levels g

pub front-tokens : (t : RawTag) (b : Option Content) (f : Content) → content_tokens (front t b f) ≡ front_tokens t b ++ content_tokens f
front-tokens t None f = refl
front-tokens t (Some g) f =
    ap (λ (l : List Token). tag_tokens t false ++ l) (sym (append_assoc (content_tokens g) (end_tokens t.name) (content_tokens f)))
    ∙ sym (append_assoc (tag_tokens t false) (content_tokens g ++ end_tokens t.name) (content_tokens f))

-- An element's text spells it.
pub record IsSpelt (layers : List (List Binding)) (parent : List ℕ) (e : Element) : Type 0 where
  pub tag : RawTag
  pub body : Option Content
  pub sound : fault_of_tag layers (whole_tag tag) ≡ None
  pub inner_sound : NamedIn (inside_of layers (whole_tag tag)) body
  pub is : element_with (inside_of layers (whole_tag tag)) (whole_tag tag) (nodes_in (inside_of layers (whole_tag tag)) body) ≡ e
  pub runs : (g : Gap) (r : Bool) → RunsLast (gap_state g r) (text_under parent e) (between (gap_stage plain)) (front_tokens tag body)
  pub narrow : (r : Rules) → width_under parent e ≤ r.attributes → KeptIn r tag body
  pub shallow : levels_in body + 1 ≤ depth_of e

-- The text of nodes, where words stand before them or not, spells them.
pub record AreSpelt (layers : List (List Binding)) (parent : List ℕ) (after_words : Bool) (ns : List Node) : Type 0 where
  pub content : Content
  pub sound : AreNamed layers content
  pub are : (words : List ℕ) → (after_words ≡ true) ⊎ (words ≡ []) → nodes_on layers words content ≡ with_words words ns
  pub runs : (g : Gap) → (h : Gap) × Runs (between (gap_stage g)) (texts_under parent ns) (between (gap_stage h)) (content_tokens content)
  pub narrow : (r : Rules) → width_under_all parent ns ≤ r.attributes → Keeps r false content
  pub shallow : levels content ≤ depth_of_all ns

abbrev pub Spells : Element → Type 0
Spells e = (layers : List (List Binding)) (parent : List ℕ) → Under layers parent → length (text_under parent e) < 2 ^ 64 → IsSpelt layers parent e

-- Words in front of content.

abbrev worded : List ℕ → Content → Content
worded [] f = f
worded (c ∷ cs) f = word c (worded cs f)

worded-tokens : (cs : List ℕ) (f : Content) → content_tokens (worded cs f) ≡ map token.Word cs ++ content_tokens f
worded-tokens [] f = refl
worded-tokens (c ∷ cs) f = ap (λ (l : List Token). token.Word c ∷ l) (worded-tokens cs f)

worded-named : (L : List (List Binding)) (cs : List ℕ) (f : Content) → AreNamed L f → AreNamed L (worded cs f)
worded-named L [] f n = n
worded-named L (c ∷ cs) f n = worded-named L cs f n

worded-nodes : (L : List (List Binding)) (words cs : List ℕ) (f : Content) → nodes_on L words (worded cs f) ≡ nodes_on L (words ++ encode_utf8_all cs) f
worded-nodes L words [] f = ap (λ (l : List ℕ). nodes_on L l f) (sym (append-nil words))
worded-nodes L words (c ∷ cs) f = worded-nodes L (words ++ encode_utf8 c) cs f
    ∙ ap (λ (l : List ℕ). nodes_on L l f) (append_assoc words (encode_utf8 c) (encode_utf8_all cs))

or-true : (t : Bool) → (t || true) ≡ true
or-true true = refl
or-true false = refl

worded-keeps : (r : Rules) (cs : List ℕ) (f : Content) → Keeps r false f → Keeps r false (worded cs f)
worded-keeps r [] f k = k
worded-keeps r (c ∷ cs) f k = (or-true (is_space c), worded-keeps r cs f k)

worded-levels : (cs : List ℕ) (f : Content) → levels (worded cs f) ≡ levels f
worded-levels [] f = refl
worded-levels (c ∷ cs) f = worded-levels cs f

-- Nodes.

depths-node : (n : Node) (ns : List Node) (x : Node-F Node Element) → out-Node n ≡ x
    → depth_of_all (n ∷ ns) ≡ max
    (node_depth (map-Node Node Element ℕ ℕ (fold-Node ℕ ℕ node_depth element_depth) (fold-Element ℕ ℕ node_depth element_depth) x)) (depth_of_all ns)
depths-node n ns x e =
    ap (λ (k : ℕ). max k (depth_of_all ns)) (fold_out-Node ℕ ℕ node_depth element_depth n
    ∙ ap (λ y. node_depth (map-Node Node Element ℕ ℕ (fold-Node ℕ ℕ node_depth element_depth) (fold-Element ℕ ℕ node_depth element_depth) y)) e)

widths-node : (parent : List ℕ) (n : Node) (ns : List Node) (x : Node-F Node Element) → out-Node n ≡ x
    → width_under_all parent (n ∷ ns)
    ≡ max (node_width (map-Node Node Element Measured Measured (fold-Node Measured Measured node_width element_width)
    (fold-Element Measured Measured node_width element_width) x) parent) (width_under_all parent ns)
widths-node parent n ns x e =
    ap (λ (m : Measured). max (m parent) (width_under_all parent ns)) (fold_out-Node Measured Measured node_width element_width n
    ∙ ap (λ y. node_width (map-Node Node Element Measured Measured (fold-Node Measured Measured node_width element_width)
    (fold-Element Measured Measured node_width element_width) y)) e)

rolled : (n : Node) (x : Node-F Node Element) → out-Node n ≡ x → roll-Node x ≡ n
rolled n x e = ap roll-Node (sym e) ∙ roll-out-Node n

child-spelt : (L : List (List Binding)) (parent : List ℕ) (after_words : Bool) (n : Node) (ns : List Node) (c : Element) → out-Node n ≡ Child c
    → IsSpelt L parent c → AreSpelt L parent false ns → AreSpelt L parent after_words (n ∷ ns)
child-spelt L parent after_words n ns c e s more =
    let text : texts_under parent (n ∷ ns) ≡ text_under parent c ++ texts_under parent ns = texts-child parent n ns c e in
    let size : length (texts_under parent (n ∷ ns)) ≡ length (text_under parent c) + length (texts_under parent ns) = ap length text
    ∙ length-append (text_under parent c) (texts_under parent ns) in record {
      content = front s.tag s.body more.content;
      sound = named_front s.body s.sound s.inner_sound;
      are = λ words h. nodes_front s.body words ∙ ap (with_words words)
          (ap (λ (x : Element). roll-Node (Child x) ∷ nodes_on L [] more.content) s.is
          ∙ (ap (λ (l : List Node). roll-Node (Child c) ∷ l) (more.are [] (inr refl)) ∙ ap (λ (m : Node). m ∷ ns) (rolled n (Child c) e)));
      runs = λ g. let (h, r) = more.runs plain
          in (h, runs-text (sym text) (runs-told (sym (front-tokens s.tag s.body more.content)) (runs-then (runs-last (s.runs g false)) r)));
      narrow = λ r h. let k : width_under_all parent (n ∷ ns) ≡ max (width_under parent c) (width_under_all parent ns) =
          widths-node parent n ns (Child c) e in keeps_front r s.body (s.narrow r (omega arith)) (more.narrow r (omega arith));
      shallow = shallow_front s.body s.shallow more.shallow (depths-node n ns (Child c) e);
    }
  where
    named_front : (b : Option Content) → fault_of_tag L (whole_tag s.tag) ≡ None → NamedIn (inside_of L (whole_tag s.tag)) b
        → AreNamed L (front s.tag b more.content)
    named_front None f i = (f, more.sound)
    named_front (Some g) f i = (f, (i, more.sound))

    nodes_front : (b : Option Content) (words : List ℕ) → nodes_on L words (front s.tag b more.content)
        ≡ with_words words (roll-Node (Child (element_with (inside_of L (whole_tag s.tag)) (whole_tag s.tag) (nodes_in (inside_of L (whole_tag s.tag)) b)))
        ∷ nodes_on L [] more.content)
    nodes_front None words = refl
    nodes_front (Some g) words = refl

    keeps_front : (r : Rules) (b : Option Content) → KeptIn r s.tag b → Keeps r false more.content → Keeps r false (front s.tag b more.content)
    keeps_front r None k m = (k, m)
    keeps_front r (Some g) k m = (k.0, k.1, m)

    shallow_front : (b : Option Content) → levels_in b + 1 ≤ depth_of c → levels more.content ≤ depth_of_all ns
        → depth_of_all (n ∷ ns) ≡ max (depth_of c) (depth_of_all ns) → levels (front s.tag b more.content) ≤ depth_of_all (n ∷ ns)
    shallow_front None h k e = omega arith
    shallow_front (Some g) h k e = omega arith

words-spelt : (L : List (List Binding)) (parent : List ℕ) (n : Node) (ns : List Node) (w : List ℕ) → out-Node n ≡ Words w → IsXmlText w → bytes_eq w [] ≡ false
    → AreSpelt L parent true ns → AreSpelt L parent false (n ∷ ns)
words-spelt L parent n ns w e (cs, is, xml) some more =
    let text : texts_under parent (n ∷ ns) ≡ words_text w ++ texts_under parent ns = texts-words parent n ns w e in
    let size : length (texts_under parent (n ∷ ns)) ≡ length (words_text w) + length (texts_under parent ns) = ap length text
    ∙ length-append (words_text w) (texts_under parent ns) in record {
      content = worded cs more.content;
      sound = worded-named L cs more.content more.sound;
      are = λ words h. from_none words (h_none h);
      runs = λ g.
          let (h, r) = characters-words g cs xml in
          let (i, t) = more.runs h in (
            i,
            runs-text (ap (λ (l : List ℕ). words_text l ++ texts_under parent ns) is
                ∙ sym text) (runs-told (sym (worded-tokens cs more.content)) (runs-then r t)),
          );
      narrow = λ r h. let k : width_under_all parent (n ∷ ns) ≡ max 0 (width_under_all parent ns) =
          widths-node parent n ns (Words w) e in worded-keeps r cs more.content (more.narrow r (omega arith));
      shallow = let k : depth_of_all (n ∷ ns) ≡ max 0 (depth_of_all ns) = depths-node n ns (Words w) e in
          subst (λ (j : ℕ). j ≤ depth_of_all (n ∷ ns)) (sym (worded-levels cs more.content)) (let j = more.shallow in omega arith);
    }
  where
    h_none : {words : List ℕ} → (false ≡ true) ⊎ (words ≡ []) → words ≡ []
    h_none (inl f) = false-true f
    h_none (inr f) = f

    with_some : (w : List ℕ) → bytes_eq w [] ≡ false → with_words w ns ≡ roll-Node (Words w) ∷ ns
    with_some [] f = false-true (sym f)
    with_some (b ∷ bs) f = refl

    from_none : (words : List ℕ) → words ≡ [] → nodes_on L words (worded cs more.content) ≡ with_words words (n ∷ ns)
    from_none words f =
        subst (λ (l : List ℕ). nodes_on L l (worded cs more.content) ≡ with_words l (n ∷ ns)) (sym f)
        (worded-nodes L [] cs more.content
        ∙ (ap (λ (l : List ℕ). nodes_on L l more.content) is
        ∙ (more.are w (inl refl) ∙ (with_some w some ∙ ap (λ (m : Node). m ∷ ns) (rolled n (Words w) e)))))

nodes-spelt : (L : List (List Binding)) (parent : List ℕ) (after_words : Bool) (ns : List Node) → Under L parent
    → AllByRecursion (λ n. NodeIs Spells (out-Node n)) ns → AreJoined after_words ns → length (texts_under parent ns) < 2 ^ 64
    → AreSpelt L parent after_words ns
nodes-spelt L parent after_words [] u all joined short = record {
  content = nothing;
  sound = tt;
  are = λ words h. refl;
  runs = λ g. (g, runs-none);
  narrow = λ r h. tt;
  shallow = omega arith;
}
nodes-spelt L parent after_words (n ∷ ns) u all joined short =
    by (out-Node n) refl all.0 joined (λ a j s. nodes-spelt L parent a ns u all.1 j s)
  where
    by : (x : Node-F Node Element) → out-Node n ≡ x → NodeIs Spells x → IsJoined after_words x (λ a. AreJoined a ns)
        → ((a : Bool) → AreJoined a ns → length (texts_under parent ns) < 2 ^ 64 → AreSpelt L parent a ns)
        → AreSpelt L parent after_words (n ∷ ns)
    by (Child c) e s j go =
        let size : length (texts_under parent (n ∷ ns)) ≡ length (text_under parent c) + length (texts_under parent ns) =
        ap length (texts-child parent n ns c e) ∙ length-append (text_under parent c) (texts_under parent ns) in
        child-spelt L parent after_words n ns c e (s L parent u (omega arith)) (go false j (omega arith))
    by (Words w) e s j go =
        let size : length (texts_under parent (n ∷ ns)) ≡ length (words_text w) + length (texts_under parent ns) = ap length (texts-words parent n ns w e)
        ∙ length-append (words_text w) (texts_under parent ns) in
        subst (λ (t : Bool). AreSpelt L parent t (n ∷ ns)) (sym j.0) (words-spelt L parent n ns w e j.1 j.2 (go true j.3 (omega arith)))

-- Nodes have a text.

escaped-some : (b : ℕ) → 0 < length (escaped_in_words b)
unfolding escaped_in_words
escaped-some b =
    cond_both (b == 38) _ _ Some_bytes (λ e. omega arith)
    (λ e. cond_both (b == 60) _ _ Some_bytes (λ e. omega arith) (λ e. cond_both (b == 62) _ _ Some_bytes (λ e. omega arith)
    (λ e. cond_both (b == 10) _ _ Some_bytes (λ e. omega arith) (λ e. cond_both (b == 13) _ _ Some_bytes (λ e. omega arith) (λ e. omega arith)))))
  where
    Some_bytes : List ℕ → Type 0
    Some_bytes l = 0 < length l

words-some : (w : List ℕ) → bytes_eq w [] ≡ false → 0 < length (words_text w)
words-some [] e = false-true (sym e)
words-some (b ∷ bs) e = let k = escaped-some b in omega (arith, length-append (escaped_in_words b) (words_text bs))

-- An element's text in parts.

closed-size : (local content : List ℕ) → length content ≤ length (closed local content)
unfolding closed
closed-size local content =
    cond_both (length content == 0) _ _ (λ (l : List ℕ). length content ≤ length l)
    (λ e. let k : length content ≡ 0 = eqb-true (length content) 0 e in omega arith)
    (λ e. omega (
      arith,
      length-append (62 ∷ content) (codes "</"),
      length-append ((62 ∷ content) ++ codes "</") local,
      length-append
          (((62 ∷ content) ++ codes "</") ++ local) (codes ">"),
    ))

written-size : (ws : List Written) → length ws ≤ length (written_text ws)
written-size [] = omega arith
written-size (w ∷ ws) = let k = written-size ws in omega (arith, length-append (written_one w) (written_text ws))

attributes-size : (k : ℕ) (attrs : List Attr) → length (attributes_written k attrs) ≡ length attrs
attributes-size k [] = refl
attributes-size k (a ∷ more) =
    cond_both (needs_prefix a) _ _ (λ (l : List Written). length l ≡ length (a ∷ more)) (λ t. let e = attributes-size (k + 1) more in omega arith)
    (λ t. let e = attributes-size k more in omega arith)

default-width : (parent space : List ℕ) → length (default_written parent space) ≡ (if bytes_eq parent space then 0 else 1)
default-width parent space = by (bytes_eq parent space)
  where
    by : (t : Bool) → length {A = Written} (if t then [] else record { name = codes "xmlns"; value = space } ∷ []) ≡ (if t then 0 else 1)
    by true = refl
    by false = refl

declared-width : (k : ℕ) (attrs : List Attr) → length (declared_written k attrs) ≡ prefixes_of attrs
declared-width k [] = refl
declared-width k (a ∷ more) = by (needs_prefix a) (declared-width (k + 1) more) (declared-width k more)
  where
    by : (t : Bool) → length (declared_written (k + 1) more) ≡ prefixes_of more → length (declared_written k more) ≡ prefixes_of more
        → length (if t then record { name = codes "xmlns:" ++ prefix k; value = a.name.space } ∷ declared_written (k + 1) more else declared_written k more)
        ≡ (if t then prefixes_of more + 1 else prefixes_of more)
    by true e f = omega arith
    by false e f = f

written-width : (parent : List ℕ) (name : Name) (attrs : List Attr) → length (tag_written parent name.space attrs) ≡ tag_width parent name attrs
written-width parent name attrs =
    length-append (default_written parent name.space) (declared_written 0 attrs ++ attributes_written 0 attrs)
    ∙ (ap (λ (k : ℕ). k + length (declared_written 0 attrs ++ attributes_written 0 attrs)) (default-width parent name.space)
    ∙ ap (λ (k : ℕ). (if bytes_eq parent name.space then 0 else 1) + k)
    (length-append (declared_written 0 attrs) (attributes_written 0 attrs)
    ∙ (ap (λ (k : ℕ). k + length (attributes_written 0 attrs)) (declared-width 0 attrs) ∙ ap (λ (k : ℕ). prefixes_of attrs + k) (attributes-size 0 attrs))))

tag-size : (parent space : List ℕ) (attrs : List Attr) → length attrs ≤ length (tag_written parent space attrs)
tag-size parent space attrs =
    omega (
      arith,
      length-append (default_written parent space) (declared_written 0 attrs ++ attributes_written 0 attrs),
      length-append
          (declared_written 0 attrs) (attributes_written 0 attrs),
      attributes-size 0 attrs,
    )

opened-size : (parent : List ℕ) (e : Element) → length (written_text (tag_written parent e.name.space e.attrs)) ≤ length (opened parent e.name e.attrs)
opened-size parent e = omega
    (arith, ap length (opened-text parent e.name e.attrs), length-append (60 ∷ e.name.local) (written_text (tag_written parent e.name.space e.attrs)))

element-some : (parent : List ℕ) (e : Element) → 0 < length (text_under parent e)
element-some parent e =
    omega (
      arith,
      ap length (text_under-parts parent e),
      length-append (opened parent e.name e.attrs) (closed e.name.local (texts_under e.name.space e.children)),
      ap length (opened-text parent e.name e.attrs),
      length-append (60 ∷ e.name.local) (written_text (tag_written parent e.name.space e.attrs)),
    )

-- Some node, so some text.
nodes-some : (parent : List ℕ) (after_words : Bool) (n : Node) (ns : List Node) → AreJoined after_words (n ∷ ns) → 0 < length (texts_under parent (n ∷ ns))
nodes-some parent after_words n ns joined =
    by (out-Node n) refl joined
  where
    by : (x : Node-F Node Element) → out-Node n ≡ x → IsJoined after_words x (λ a. AreJoined a ns) → 0 < length (texts_under parent (n ∷ ns))
    by (Child c) e j = let k =
        element-some parent c in omega (arith, ap length (texts-child parent n ns c e), length-append (text_under parent c) (texts_under parent ns))
    by (Words w) e j = let k = words-some w j.2 in omega (arith, ap length (texts-words parent n ns w e), length-append (words_text w) (texts_under parent ns))

depth-parts : (e : Element) → depth_of e ≡ depth_of_all e.children + 1
depth-parts e = fold_out-Element ℕ ℕ node_depth element_depth e

width-parts : (parent : List ℕ) (e : Element) → width_under parent e ≡ max (tag_width parent e.name e.attrs) (width_under_all e.name.space e.children)
width-parts parent e = ap (λ (m : Measured). m parent) (fold_out-Element Measured Measured node_width element_width e)

-- The tag of an element.

record IsTag (layers : List (List Binding)) (parent : List ℕ) (e : Element) : Type 0 where
  tag : RawTag
  name_is : tag.name.0 ∷ tag.name.1 ≡ e.name.local
  inside : inside_of layers (whole_tag tag) ≡ inner layers parent e.name.space e.attrs
  sound : fault_of_tag layers (whole_tag tag) ≡ None
  is : (children : List Node)
      → element_with (inside_of layers (whole_tag tag)) (whole_tag tag) children ≡ record { name = e.name; attrs = e.attrs; children = children }
  width : length tag.attributes ≡ tag_width parent e.name e.attrs
  runs : (g : Gap) (r : Bool)
      → (s : TagAt) × Runs (gap_state g r) (opened parent e.name e.attrs) (between (tag_stage s))
      (token.TagOpens tag.name.0 ∷ (map token.NameByte tag.name.1 ++ attributes_tokens tag.attributes))

written-few : (xs : List RawAttribute) → length (written xs) ≡ length xs
written-few [] = refl
written-few (x ∷ xs) = ap suc (written-few xs)

tag-of : (layers : List (List Binding)) (parent : List ℕ) (e : Element) → IsProperPart (out-Element e) → Under layers parent → length e.attrs < 2 ^ 64
    → IsTag layers parent e
tag-of layers parent e (name_proper, attributes_proper, distinct, joined) u short =
    let L : List (List Binding) = inner layers parent e.name.space e.attrs in
    let ws : List Written = tag_written parent e.name.space e.attrs in
    let r : IsResolved L parent e.name e.attrs = tag-resolved layers parent e.name e.attrs short name_proper attributes_proper distinct u in
    let (b, bs, name_is) = name-byte e.name.local name_proper.0 in
    let (xs, same, (s, run)) = attributes-run named_tag ws (tag-are parent e.name.space e.attrs short name_proper.1 attributes_proper) in
    let name_of : b ∷ bs ≡ e.name.local = sym name_is in
    let bound_is : own (written xs) ≡ own ws = ap own same in
    let inside_is : layers ++ own (written xs) ∷ [] ≡ L =
    ap (λ (l : List Binding). layers ++ l ∷ []) (bound_is
    ∙ tag-own L parent e.name.space e.attrs (tag-named layers parent e.name.space e.attrs short attributes_proper u)) in record {
      tag = record { name = (b, bs); attributes = xs };
      name_is = name_of;
      inside = inside_is;
      sound = ap (λ (l : List (List Binding)). tag_fault l (b ∷ bs) (written xs)) inside_is
          ∙ (ap (λ (n : List ℕ). tag_fault L n (written xs)) name_of ∙ (ap (tag_fault L e.name.local) same ∙ r.sound));
      is = λ children.
          ap (λ (l : List (List Binding)). element_with l (record { name = b ∷ bs; attributes = written xs; attribute = []; value = [] }) children) inside_is
          ∙ (ap (λ (n : List ℕ). element_with L (record { name = n; attributes = written xs; attribute = []; value = [] }) children) name_of
          ∙ (ap (λ (l : List Written). element_with L (record { name = e.name.local; attributes = l; attribute = []; value = [] }) children) same
          ∙ (ap (λ (n : Name). record { name = n; attrs = attrs_on L ws; children = children }) r.named
          ∙ ap (λ (l : List Attr). record { name = e.name; attrs = l; children = children }) r.told)));
      width = sym (written-few xs) ∙ (ap length same ∙ written-width parent e.name e.attrs);
      runs = λ g r. (
        s,
        runs-text (ap (λ (l : List ℕ). (60 ∷ l) ++ written_text ws) name_of ∙ sym (opened-text parent e.name e.attrs))
            (runs-then (start-runs g r (b, bs) (subst IsNcName name_is name_proper.0)) run),
      );
    }

-- The whole element.

hollow-text : (parent : List ℕ) (e : Element) → e.children ≡ [] → text_under parent e ≡ opened parent e.name e.attrs ++ codes "/>"
unfolding closed
hollow-text parent e none = text_under-parts parent e
    ∙ ap (λ (l : List Node). opened parent e.name e.attrs ++ closed e.name.local (texts_under e.name.space l)) none

full-text : (parent : List ℕ) (e : Element) → 0 < length (texts_under e.name.space e.children)
    → text_under parent e ≡ opened parent e.name e.attrs ++ (codes ">" ++ (texts_under e.name.space e.children ++ (codes "</" ++ (e.name.local ++ codes ">"))))
unfolding closed
full-text parent e some =
    let content : List ℕ = texts_under e.name.space e.children in
    text_under-parts parent e ∙ ap (λ (l : List ℕ). opened parent e.name e.attrs ++ l)
    (cond-false _ _ _ (not-nil (length content) some)
    ∙ (ap (λ (l : List ℕ). l ++ codes ">") (append_assoc (62 ∷ content) (codes "</") e.name.local)
    ∙ (append_assoc (62 ∷ content) (codes "</" ++ e.name.local) (codes ">")
    ∙ ap (λ (l : List ℕ). (62 ∷ content) ++ l) (append_assoc (codes "</") e.name.local (codes ">")))))
  where
    not-nil : (k : ℕ) → 0 < k → (k == 0) ≡ false
    not-nil k h = grind (arith, nat_tests)

tag-tokens : (t : RawTag) (empty : Bool)
    → (token.TagOpens t.name.0 ∷ (map token.NameByte t.name.1 ++ attributes_tokens t.attributes)) ++ token.TagEnds empty ∷ [] ≡ tag_tokens t empty
tag-tokens t empty = ap (λ (l : List Token). token.TagOpens t.name.0 ∷ l)
    (append_assoc (map token.NameByte t.name.1) (attributes_tokens t.attributes) (token.TagEnds empty ∷ []))

hollow-spelt : (layers : List (List Binding)) (parent : List ℕ) (e : Element) → IsTag layers parent e → e.children ≡ [] → IsSpelt layers parent e
hollow-spelt layers parent e t none =
    let text : text_under parent e ≡ opened parent e.name e.attrs ++ codes "/>" = hollow-text parent e none in
    let size : length (text_under parent e) ≡ length (opened parent e.name e.attrs) + 2 = ap length text
    ∙ length-append (opened parent e.name e.attrs) (codes "/>") in record {
      tag = t.tag;
      body = None;
      sound = t.sound;
      inner_sound = tt;
      is = t.is [] ∙ ap (λ (l : List Node). record { name = e.name; attrs = e.attrs; children = l }) (sym none);
      runs = λ g cr. let (s, r) = t.runs g cr in last-text (sym text) (last-told (tag-tokens t.tag true) (last-then r (hollow-ends s)));
      narrow = λ r h. narrow_tag r t.width (width-parts parent e) h;
      shallow = omega (arith, depth-parts e);
    }
  where
    narrow_tag : (r : Rules) → length t.tag.attributes ≡ tag_width parent e.name e.attrs
        → width_under parent e ≡ max (tag_width parent e.name e.attrs) (width_under_all e.name.space e.children) → width_under parent e ≤ r.attributes
        → length t.tag.attributes ≤ r.attributes
    narrow_tag r a b c = omega arith

full-spelt : (layers : List (List Binding)) (parent : List ℕ) (e : Element) → IsTag layers parent e → IsNcName e.name.local
    → 0 < length (texts_under e.name.space e.children)
    → AreSpelt (inner layers parent e.name.space e.attrs) e.name.space false e.children → IsSpelt layers parent e
full-spelt layers parent e t named some s =
    let content : List ℕ = texts_under e.name.space e.children in
    let text : text_under parent e ≡ opened parent e.name e.attrs ++ (codes ">" ++ (content ++ (codes "</" ++ (e.name.local ++ codes ">")))) =
    full-text parent e some in
    let size : length (text_under parent e) ≡ length (opened parent e.name e.attrs) + (1 + (length content + (3 + length e.name.local))) =
    ap length text ∙ omega (
      arith,
      length-append (opened parent e.name e.attrs) (codes ">" ++ (content ++ (codes "</" ++ (e.name.local ++ codes ">")))),
      length-append content (codes "</" ++ (e.name.local ++ codes ">")),
      length-append e.name.local (codes ">"),
    ) in record {
      tag = t.tag;
      body = Some s.content;
      sound = t.sound;
      inner_sound = subst (λ (l : List (List Binding)). AreNamed l s.content) (sym t.inside) s.sound;
      is = t.is (nodes_on (inside_of layers (whole_tag t.tag)) [] s.content)
          ∙ ap (λ (l : List Node). record { name = e.name; attrs = e.attrs; children = l }) (ap (λ (l : List (List Binding)). nodes_on l [] s.content) t.inside
          ∙ s.are [] (inr refl));
      runs = λ g cr.
          let (a, r) = t.runs g cr in
          let (h, q) = s.runs plain in
          let last = last-text (ap (λ (l : List ℕ). codes "</" ++ (l ++ codes ">")) t.name_is)
          (end-runs h false t.tag.name (inl (subst IsNcName (sym t.name_is) named))) in
          last-text (sym text) (last-told
          (tokens_are (token.TagOpens t.tag.name.0 ∷ (map token.NameByte t.tag.name.1 ++ attributes_tokens t.tag.attributes))
          (content_tokens s.content ++ end_tokens t.tag.name) (tag-tokens t.tag false))
          (last-then r (last-then (tag-ends a) (last-then q last))));
      narrow = λ r h. let k = width-parts parent e in let tagged = t.width in (omega arith, s.narrow r (omega arith));
      shallow = let k = s.shallow in omega (arith, depth-parts e);
    }
  where
    tokens_are : (xs ys : List Token) → xs ++ token.TagEnds false ∷ [] ≡ tag_tokens t.tag false
        → xs ++ (token.TagEnds false ∷ ys) ≡ tag_tokens t.tag false ++ ys
    tokens_are xs ys f = sym (append_assoc xs (token.TagEnds false ∷ []) ys) ∙ ap (λ (l : List Token). l ++ ys) f

element-spelt : (e : Element) → IsProperPart (out-Element e) → AllByRecursion (λ n. NodeIs Spells (out-Node n)) e.children → Spells e
element-spelt e p all layers parent u short =
    let size : length (text_under parent e) ≡ length (opened parent e.name e.attrs) + length (closed e.name.local (texts_under e.name.space e.children)) =
    ap length (text_under-parts parent e) ∙ length-append (opened parent e.name e.attrs) (closed e.name.local (texts_under e.name.space e.children)) in
    let few : length e.attrs < 2 ^ 64 =
    attrs_short (opened-size parent e) (written-size (tag_written parent e.name.space e.attrs)) (tag-size parent e.name.space e.attrs) size short in
    let t : IsTag layers parent e = tag-of layers parent e p u few in
    by e.children refl few t (inside_short (closed-size e.name.local (texts_under e.name.space e.children)) size short)
  where
    attrs_short : length (written_text (tag_written parent e.name.space e.attrs)) ≤ length (opened parent e.name e.attrs)
        → length (tag_written parent e.name.space e.attrs) ≤ length (written_text (tag_written parent e.name.space e.attrs))
        → length e.attrs ≤ length (tag_written parent e.name.space e.attrs)
        → length (text_under parent e) ≡ length (opened parent e.name e.attrs) + length (closed e.name.local (texts_under e.name.space e.children))
        → length (text_under parent e) < 2 ^ 64 → length e.attrs < 2 ^ 64
    attrs_short a b c d f = omega arith

    inside_short : length (texts_under e.name.space e.children) ≤ length (closed e.name.local (texts_under e.name.space e.children))
        → length (text_under parent e) ≡ length (opened parent e.name e.attrs) + length (closed e.name.local (texts_under e.name.space e.children))
        → length (text_under parent e) < 2 ^ 64 → length (texts_under e.name.space e.children) < 2 ^ 64
    inside_short a b c = omega arith

    by : (ns : List Node) → e.children ≡ ns → length e.attrs < 2 ^ 64 → IsTag layers parent e → length (texts_under e.name.space e.children) < 2 ^ 64
        → IsSpelt layers parent e
    by [] f few t h = hollow-spelt layers parent e t f
    by (n ∷ ns) f few t h =
        full-spelt layers parent e t p.0.0
        (subst (λ (l : List Node). 0 < length (texts_under e.name.space l)) (sym f) (nodes-some e.name.space false n ns (subst (AreJoined false) f p.3)))
        (nodes-spelt (inner layers parent e.name.space e.attrs) e.name.space false e.children (inner-under layers parent e.name.space e.attrs few u) all p.3 h)

-- The text of a proper element spells it.
pub proper-spelt : (e : Element) → IsProper e → Spells e
proper-spelt = proper-all Spells element-spelt

-- What a text has of levels and attributes is no more than its bytes.

abbrev pub IsShort : Element → Type 0
IsShort e = (parent : List ℕ) → (depth_of e ≤ length (text_under parent e)) × (width_under parent e ≤ length (text_under parent e))

nodes-short : (parent : List ℕ) (ns : List Node) → AllByRecursion (λ n. NodeIs IsShort (out-Node n)) ns
    → (depth_of_all ns ≤ length (texts_under parent ns)) × (width_under_all parent ns ≤ length (texts_under parent ns))
nodes-short parent [] all = (omega arith, omega arith)
nodes-short parent (n ∷ ns) all = by (out-Node n) refl all.0 (nodes-short parent ns all.1)
  where
    by : (x : Node-F Node Element) → out-Node n ≡ x → NodeIs IsShort x
        → (depth_of_all ns ≤ length (texts_under parent ns)) × (width_under_all parent ns ≤ length (texts_under parent ns))
        → (depth_of_all (n ∷ ns) ≤ length (texts_under parent (n ∷ ns))) × (width_under_all parent (n ∷ ns) ≤ length (texts_under parent (n ∷ ns)))
    by (Child c) e s more =
        let size : length (texts_under parent (n ∷ ns)) ≡ length (text_under parent c) + length (texts_under parent ns) =
        ap length (texts-child parent n ns c e) ∙ length-append (text_under parent c) (texts_under parent ns) in
        let deep : depth_of_all (n ∷ ns) ≡ max (depth_of c) (depth_of_all ns) = depths-node n ns (Child c) e in
        let wide : width_under_all parent (n ∷ ns) ≡ max (width_under parent c) (width_under_all parent ns) = widths-node parent n ns (Child c) e in
        let (d, w) = s parent in
        (omega (arith, more.0, d, size, deep), omega (arith, more.1, w, size, wide))
    by (Words t) e s more =
        let size : length (texts_under parent (n ∷ ns)) ≡ length (words_text t) + length (texts_under parent ns) = ap length (texts-words parent n ns t e)
        ∙ length-append (words_text t) (texts_under parent ns) in
        let deep : depth_of_all (n ∷ ns) ≡ max 0 (depth_of_all ns) = depths-node n ns (Words t) e in
        let wide : width_under_all parent (n ∷ ns) ≡ max 0 (width_under_all parent ns) = widths-node parent n ns (Words t) e in
        (omega (arith, more.0, size, deep), omega (arith, more.1, size, wide))

element-short : (e : Element) → AllByRecursion (λ n. NodeIs IsShort (out-Node n)) e.children → IsShort e
element-short e all parent =
    let (deep, wide) = nodes-short e.name.space e.children all in
    let size : length (text_under parent e) ≡ length (opened parent e.name e.attrs) + length (closed e.name.local (texts_under e.name.space e.children)) =
    ap length (text_under-parts parent e) ∙ length-append (opened parent e.name e.attrs) (closed e.name.local (texts_under e.name.space e.children)) in
    let inside = closed-size e.name.local (texts_under e.name.space e.children) in
    let head : length (opened parent e.name e.attrs) ≡ length (60 ∷ e.name.local) + length (written_text (tag_written parent e.name.space e.attrs)) =
    ap length (opened-text parent e.name e.attrs) ∙ length-append (60 ∷ e.name.local) (written_text (tag_written parent e.name.space e.attrs)) in
    let tag = written-size (tag_written parent e.name.space e.attrs) in (
      omega (arith, depth-parts e, deep, size, inside, head),
      omega
          (arith, width-parts parent e, wide, size, inside, head, tag, written-width parent e.name e.attrs),
    )

-- of a proper element
pub proper-short : (e : Element) → IsProper e → IsShort e
proper-short = proper-all IsShort (λ e p all. element-short e all)
