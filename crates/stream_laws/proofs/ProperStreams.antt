-- The elements of a stream are proper.
use Rattle.std.proofs.Common.{◌≡◌, ℕ, ◌⊎◌, inl, inr, List, [], ◌∷◌, ◌++◌, map, refl, sym, ap, ◌∙◌, subst}
use Rattle.std.proofs.Common.{append_assoc, append-nil, Bool, true, false, not, codes}
use Rattle.std.proofs.lemmas.Bool.{cond-true, cond-false, cond_both, and_parts}
use Rattle.std.specs.List.{AllByRecursion, IsDistinct}
use Rattle.std.specs.Prelude.{encode_utf8, encode_utf8_all, if◌then◌else◌, bytes_eq, ◌||◌, ◌&&◌, Option, Some, None}
use lib.Utf8.{encode}
use Rattle.stanza_tree.specs.declared.node.Attr.{Attr}
use Rattle.stanza_tree.specs.declared.node.Element.{Element}
use Rattle.stanza_tree.specs.declared.node.Name.{Name}
use Rattle.stanza_tree.specs.declared.node.Node.{Node}
use Rattle.stanza_tree.specs.declared.node.Node.TheFolds.{every_made-Element, every_made-Node}
use Rattle.stanza_tree.specs.declared.node.Node.TheOpen.{Node-F, Child, Words}
use Rattle.stanza_tree.specs.declared.node.Node.TheViews.{roll-Node, out-roll-Node}
use Rattle.stream_lex.specs.grammar.Classes.{is_xml}
use Rattle.stream_lex.proofs.Lists.{false-true, true-false}
use Rattle.stream_grammar.specs.declared.namespaces.Binding.{Binding}
use Rattle.stream_grammar.specs.declared.namespaces.Written.{Written}
use Rattle.stream_grammar.specs.declared.rules.Rules.{Rules}
use Rattle.stream_grammar.specs.grammar.Trees.{RawAttribute, RawTag, Content, nothing, word, element, hollow, Stream}
use Rattle.stream_grammar.specs.grammar.Streams.{Spells}
use Rattle.stream_grammar.specs.grammar.Items.{HasCome}
use Rattle.stream_grammar.specs.grammar.Namespaces.{space_before, xml_space, xmlns_space, has_prefix, prefix_of, local_of}
use Rattle.stream_grammar.specs.grammar.Namespaces.{is_declaration, declared_prefix, may_undo, may_declare, last_space, last_layer}
use Rattle.stream_grammar.specs.grammar.Namespaces.{space_of, attribute_space, own, is_unbound, has_unbound, is_forbidden, has_forbidden}
use Rattle.stream_grammar.specs.grammar.Namespaces.{is_bound_to, same_space, is_twin, has_twin, has_twins}
use Rattle.stream_grammar.specs.grammar.Resolving.{or_none, name_on, attr_on, attrs_on}
use Rattle.stream_grammar.specs.grammar.Tags.{written, whole_tag}
use Rattle.stream_grammar.specs.grammar.Elements.{inside_of, element_with, with_words, nodes_on, elements_on, fault_of_tag}
use Rattle.stream_grammar.specs.grammar.Elements.{AreNamed, outside_all, header_of, tops_of, IsNamed}
use Rattle.stream_grammar.specs.grammar.Proper.{IsNcName, IsXmlText, IsElementName, IsAttribute, same_name, IsJoined, AreJoined, IsProperPart, IsProper}
use Rattle.stream_laws.proofs.RoundTripTags.{IsQName, name-byte}
use Rattle.stream_laws.proofs.RoundTripText.{by_test}
use Rattle.stream_laws.proofs.RoundTripSpelling.{each-append}
use Rattle.stream_laws.proofs.RoundTripSpaces.{bare, ncname-colon, IsCut, cut, same-bytes}
use Rattle.stream_laws.proofs.RoundTripScopes.{flipped}
use Rattle.stream_laws.proofs.RoundTripTrees.{IsEvery}
use Rattle.stream_laws.proofs.RoundTripInsert.{IsSoundTag, sound-tag, allowed}
use Rattle.stream_laws.proofs.ProperLexing.{IsReadAttribute, IsReadTag, IsRead, head-read, stream-read}

-- Namespaces that may be bound.

abbrev pub IsFair : List ℕ → List ℕ → Type 0
IsFair prefix space = IsXmlText space × (bytes_eq space xmlns_space ≡ false) × ((bytes_eq prefix [] ≡ true) ⊎ (bytes_eq space [] ≡ false))

abbrev pub IsFairBinding : Binding → Type 0
IsFairBinding b = IsFair b.prefix b.space

abbrev pub AreFair : List (List Binding) → Type 0
AreFair layers = AllByRecursion (AllByRecursion IsFairBinding) layers

abbrev pub IsFound : List ℕ → Option (List ℕ) → Type 0
IsFound p None = Unit {0}
IsFound p (Some s) = IsFair p s

may-fair : (p s : List ℕ) → IsXmlText s → may_declare p s ≡ true → IsFair p s
may-fair p s x m =
    by_test (bytes_eq p (codes "xmlns")) (λ e. false-true (sym (cond-true _ _ _ e) ∙ m))
    (λ e. by_test (bytes_eq p (codes "xml")) (λ f. of_xml (same-bytes s xml_space (sym (cond-false _ _ _ e ∙ cond-true _ _ _ f) ∙ m)))
    (λ f. other (sym (cond-false _ _ _ e ∙ cond-false _ _ _ f) ∙ m)))
  where
    of_xml : s ≡ xml_space → IsFair p s
    of_xml e = (x, ap (λ (l : List ℕ). bytes_eq l xmlns_space) e, inr (ap (λ (l : List ℕ). bytes_eq l []) e))

    not-true : (t : Bool) → not t ≡ true → t ≡ false
    not-true true h = false-true h
    not-true false h = refl

    undone : (t u : Bool) → (t || not u) ≡ true → (t ≡ true) ⊎ (u ≡ false)
    undone true u h = inl refl
    undone false true h = false-true h
    undone false false h = inr refl

    other : (not (bytes_eq s xml_space) && (not (bytes_eq s xmlns_space) && may_undo p s)) ≡ true → IsFair p s
    other h =
        let (a, b) = and_parts (not (bytes_eq s xml_space)) (not (bytes_eq s xmlns_space) && may_undo p s) h in
        let (c, d) = and_parts (not (bytes_eq s xmlns_space)) (may_undo p s) b in
        (x, not-true (bytes_eq s xmlns_space) c, undone (bytes_eq p []) (bytes_eq s []) d)

or-false : (s t : Bool) → (if s then true else t) ≡ false → (s ≡ false) × (t ≡ false)
or-false true t h = false-true (sym h)
or-false false t h = (refl, h)

own-fair : (xs : List RawAttribute) → AllByRecursion IsReadAttribute xs → has_forbidden (written xs) ≡ false → AllByRecursion IsFairBinding (own (written xs))
own-fair [] r h = tt
own-fair (x ∷ xs) r h =
    let name : List ℕ = x.name.0 ∷ x.name.1 in
    let value : List ℕ = encode_utf8_all x.value in
    let (fair, more) = or-false (is_forbidden (record { name = x.name.0 ∷ x.name.1; value = encode_utf8_all x.value })) (has_forbidden (written xs)) h in
    cond_both (is_declaration name) (record { prefix = declared_prefix name; space = value } ∷ own (written xs)) (own (written xs))
    (AllByRecursion IsFairBinding)
    (λ d. (
      may-fair (declared_prefix name) value (x.value, refl, r.0.1) (allowed (is_declaration name) (may_declare (declared_prefix name) value) fair d),
      own-fair xs r.1 more,
    ))
    (λ d. own-fair xs r.1 more)

last_space-fair : (g : Option (List ℕ)) (l : List Binding) (p : List ℕ) → IsFound p g → AllByRecursion IsFairBinding l → IsFound p (last_space g l p)
last_space-fair g [] p f e = f
last_space-fair g (b ∷ bs) p f e =
    last_space-fair (if bytes_eq b.prefix p then Some b.space else g) bs p
    (cond_both (bytes_eq b.prefix p) (Some b.space) g (IsFound p) (λ h. subst (λ (q : List ℕ). IsFair q b.space) (same-bytes b.prefix p h) e.0) (λ h. f)) e.1

last_layer-fair : (g : Option (List ℕ)) (ls : List (List Binding)) (p : List ℕ) → IsFound p g → AreFair ls → IsFound p (last_layer g ls p)
last_layer-fair g [] p f e = f
last_layer-fair g (l ∷ ls) p f e = last_layer-fair (last_space g l p) ls p (last_space-fair g l p f e.0) e.1

all_xml : List ℕ → Bool
all_xml [] = true
all_xml (c ∷ cs) = is_xml c && all_xml cs

each-from : (cs : List ℕ) → all_xml cs ≡ true → AllByRecursion (λ c. is_xml c ≡ true) cs
unfolding all_xml
each-from [] h = tt
each-from (c ∷ cs) h = let (a, b) = and_parts (is_xml c) (all_xml cs) h in (a, each-from cs b)

xml-fair : IsFair (codes "xml") xml_space
unfolding encode all_xml
xml-fair = ((xml_space, refl, xml_all), refl, inr refl)
  where
    xml_all : AllByRecursion (λ c. is_xml c ≡ true) xml_space
    xml_all = each-from xml_space refl

before-fair : (p : List ℕ) → IsFound p (space_before p)
before-fair p =
    cond_both (bytes_eq p []) (Some []) (if bytes_eq p (codes "xml") then Some xml_space else None) (IsFound p)
    (λ h. subst (λ (q : List ℕ). IsFair q []) (sym (same-bytes p [] h)) (([], refl, tt), refl, inl refl))
    (λ h. cond_both (bytes_eq p (codes "xml")) (Some xml_space) None (IsFound p)
    (λ e. subst (λ (q : List ℕ). IsFair q xml_space) (sym (same-bytes p (codes "xml") e)) xml-fair) (λ e. tt))

pub space-fair : (L : List (List Binding)) (p : List ℕ) → AreFair L → IsFound p (space_of L p)
space-fair L p e = cond_both (bytes_eq p (codes "xmlns")) None (last_layer (space_before p) L p) (IsFound p) (λ h. tt)
    (λ h. last_layer-fair (space_before p) L p (before-fair p) e)

-- Names.

abbrev IsParted : List ℕ → Type 0
IsParted name = IsNcName (local_of name)
    × ((has_prefix name ≡ false) × (local_of name ≡ name) ⊎ (has_prefix name ≡ true) × (bytes_eq (prefix_of name) [] ≡ false))

qname-parts : (name : List ℕ) → IsQName name → IsParted name
qname-parts name (inl n) =
    let b : has_prefix name ≡ false = bare name (ncname-colon name n) in
    let l : local_of name ≡ name = cond-false _ _ _ b in
    (subst IsNcName (sym l) n, inl (b, l))
qname-parts name (inr (p, l, e, n, m)) =
    let c : IsCut (p ++ (58 ∷ l)) p l = cut p l (ncname-colon p n) in
    subst IsParted (sym e) (subst IsNcName (sym c.back) m, inr (c.has, ap (λ (x : List ℕ). bytes_eq x []) c.front ∙ some (name-byte p n)))
  where
    some : ((b : ℕ) × (bs : List ℕ) × (p ≡ b ∷ bs)) → bytes_eq p [] ≡ false
    some (b, bs, e) = ap (λ (x : List ℕ). bytes_eq x []) e

pub name-proper : (L : List (List Binding)) (name : List ℕ) → AreFair L → IsQName name → is_unbound (space_of L (prefix_of name)) ≡ false
    → is_bound_to (space_of L (prefix_of name)) xml_space ≡ false → IsElementName (name_on L name)
name-proper L name fair q bound other = by (space_of L (prefix_of name)) (space-fair L (prefix_of name) fair) bound other
  where
    by : (o : Option (List ℕ)) → IsFound (prefix_of name) o → is_unbound o ≡ false → is_bound_to o xml_space ≡ false
        → IsElementName (record { space = or_none o; local = local_of name })
    by None f b x = false-true (sym b)
    by (Some s) f b x = ((qname-parts name q).0, f.0, x, f.1)

-- Attributes.

and-first : (s t : Bool) → s ≡ false → (s && t) ≡ false
and-first true t e = false-true (sym e)
and-first false t e = refl

and-later : (s t : Bool) → t ≡ false → (s && t) ≡ false
and-later true t e = e
and-later false t e = refl

attribute-proper : (L : List (List Binding)) (w : Written) → AreFair L → IsQName w.name → IsXmlText w.value → is_declaration w.name ≡ false
    → is_unbound (attribute_space L w.name) ≡ false → IsAttribute (attr_on L w)
attribute-proper L w fair q v d bound = by (qname-parts w.name q).1
  where
    local_is : IsNcName (local_of w.name)
    local_is = (qname-parts w.name q).0

    Of : Option (List ℕ) → Type 0
    Of o = IsAttribute (record { name = record { space = or_none o; local = local_of w.name }; value = w.value })

    prefixed : (o : Option (List ℕ)) → IsFound (prefix_of w.name) o → is_unbound o ≡ false → bytes_eq (prefix_of w.name) [] ≡ false → Of o
    prefixed None f b e = false-true (sym b)
    prefixed (Some s) (x, other, inl h) b e = absurd (true-false h e)
    prefixed (Some s) (x, other, inr h) b e = (local_is, x, v, other, and-later (bytes_eq (local_of w.name) (codes "xmlns")) (bytes_eq s []) h)

    by : ((has_prefix w.name ≡ false) × (local_of w.name ≡ w.name) ⊎ (has_prefix w.name ≡ true) × (bytes_eq (prefix_of w.name) [] ≡ false))
        → IsAttribute (attr_on L w)
    by (inl (b, l)) =
        let here : attribute_space L w.name ≡ Some [] = cond-false _ _ _ d ∙ cond-false _ _ _ b in
        let plain : bytes_eq w.name (codes "xmlns") ≡ false = sym (cond-false _ _ _ b) ∙ d in
        subst Of (sym here) (
          local_is,
          ([], refl, tt),
          v,
          refl,
          and-first (bytes_eq (local_of w.name) (codes "xmlns")) true
              (ap (λ (x : List ℕ). bytes_eq x (codes "xmlns")) l ∙ plain),
        )
    by (inr (b, e)) =
        let here : attribute_space L w.name ≡ space_of L (prefix_of w.name) = cond-false _ _ _ d ∙ cond-true _ _ _ b in
        subst Of (sym here) (prefixed (space_of L (prefix_of w.name)) (space-fair L (prefix_of w.name) fair) (ap is_unbound (sym here) ∙ bound) e)

-- of all that are written
abbrev pub AreRead : List Written → Type 0
AreRead ws = AllByRecursion (λ w. IsQName w.name × IsXmlText w.value) ws

pub written-read : (xs : List RawAttribute) → AllByRecursion IsReadAttribute xs → AreRead (written xs)
written-read [] r = tt
written-read (x ∷ xs) r = ((r.0.0, (x.value, refl, r.0.1)), written-read xs r.1)

pub attributes-proper : (L : List (List Binding)) (ws : List Written) → AreFair L → AreRead ws → has_unbound L ws ≡ false
    → AllByRecursion IsAttribute (attrs_on L ws)
attributes-proper L [] fair r h = tt
attributes-proper L (w ∷ ws) fair r h =
    let (bound, more) = or-false (is_unbound (attribute_space L w.name)) (has_unbound L ws) h in
    cond_both (is_declaration w.name) (attrs_on L ws) (attr_on L w ∷ attrs_on L ws) (AllByRecursion IsAttribute) (λ d. attributes-proper L ws fair r.1 more)
    (λ d. (attribute-proper L w fair r.0.0 r.0.1 d bound, attributes-proper L ws fair r.1 more))

-- two attributes that are bound, and no twins
twin-other : (L : List (List Binding)) (w v : Written) → is_unbound (attribute_space L w.name) ≡ false → is_unbound (attribute_space L v.name) ≡ false
    → is_twin L w v ≡ false → same_name (attr_on L w) (attr_on L v) ≡ false
twin-other L w v a b h = by (attribute_space L w.name) (attribute_space L v.name) a b h
  where
    turned : (t : Bool) (s u : List ℕ) → (t && bytes_eq u s) ≡ false → (t && bytes_eq s u) ≡ false
    turned true s u e = flipped u s e
    turned false s u e = refl

    by : (o p : Option (List ℕ)) → is_unbound o ≡ false → is_unbound p ≡ false → (bytes_eq (local_of w.name) (local_of v.name) && same_space o p) ≡ false
        → (bytes_eq (local_of w.name) (local_of v.name) && bytes_eq (or_none o) (or_none p)) ≡ false
    by None p a b h = false-true (sym a)
    by (Some s) None a b h = false-true (sym b)
    by (Some s) (Some t) a b h = turned (bytes_eq (local_of w.name) (local_of v.name)) s t h

other-each : (L : List (List Binding)) (w : Written) (ws : List Written) → is_unbound (attribute_space L w.name) ≡ false → has_unbound L ws ≡ false
    → has_twin L w ws ≡ false → AllByRecursion (λ b. same_name (attr_on L w) b ≡ false) (attrs_on L ws)
other-each L w [] a u h = tt
other-each L w (v ∷ ws) a u h =
    let (bound, more) = or-false (is_unbound (attribute_space L v.name)) (has_unbound L ws) u in
    let (here, later) = or-false (is_twin L w v) (has_twin L w ws) h in
    cond_both (is_declaration v.name) (attrs_on L ws) (attr_on L v ∷ attrs_on L ws) (AllByRecursion (λ b. same_name (attr_on L w) b ≡ false))
    (λ d. other-each L w ws a more later)
    (λ d. (twin-other L w v a bound here, other-each L w ws a more later))

attributes-distinct : (L : List (List Binding)) (ws : List Written) → has_unbound L ws ≡ false → has_twins L ws ≡ false → IsDistinct same_name (attrs_on L ws)
unfolding IsDistinct
attributes-distinct L [] u h = tt
attributes-distinct L (w ∷ ws) u h =
    let (bound, more) = or-false (is_unbound (attribute_space L w.name)) (has_unbound L ws) u in
    let (here, later) = or-false (has_twin L w ws) (has_twins L ws) h in
    cond_both (is_declaration w.name) (attrs_on L ws) (attr_on L w ∷ attrs_on L ws) (IsDistinct same_name) (λ d. attributes-distinct L ws more later)
    (λ d. (other-each L w ws bound more here, attributes-distinct L ws more later))

-- Nodes.

pairs : (P : Node → Type 0) (ns : List Node) → AllByRecursion P ns → List ((n : Node) × P n)
pairs P [] e = []
pairs P (n ∷ ns) e = (n, e.0) ∷ pairs P ns e.1

pairs-are : (P : Node → Type 0) (ns : List Node) (e : AllByRecursion P ns) → map (λ y. y.0) (pairs P ns e) ≡ ns
unfolding pairs
pairs-are P [] e = refl
pairs-are P (n ∷ ns) e = ap (λ (l : List Node). n ∷ l) (pairs-are P ns e.1)

pub made : (name : Name) (attrs : List Attr) (ns : List Node) → IsElementName name → AllByRecursion IsAttribute attrs → IsDistinct same_name attrs
    → AreJoined false ns → AllByRecursion IsEvery ns → IsProper (record { name = name; attrs = attrs; children = ns })
made name attrs ns a b c d each =
    every_made-Element (λ m. Unit {0}) IsProperPart (record { name = name; attrs = attrs; children = ns })
    (record { name = name; attrs = attrs; children = pairs IsEvery ns each })
    (ap (λ (l : List Node). record { name = name; attrs = attrs; children = l }) (pairs-are IsEvery ns each)) (a, b, c, d)

pub child-proper : (e : Element) → IsProper e → IsEvery (roll-Node (Child e))
child-proper e p = every_made-Node (λ m. Unit {0}) IsProperPart (Child e) (Child (e, p)) refl tt

pub words-proper : (w : List ℕ) → IsEvery (roll-Node (Words w))
words-proper w = every_made-Node (λ m. Unit {0}) IsProperPart (Words w) (Words w) refl tt

with-proper : (words : List ℕ) (ns : List Node) → AllByRecursion IsEvery ns → AllByRecursion IsEvery (with_words words ns)
with-proper [] ns e = e
with-proper (b ∷ bs) ns e = (words-proper (b ∷ bs), e)

joined-child : (after_words : Bool) (e : Element) (ns : List Node) → AreJoined false ns → AreJoined after_words (roll-Node (Child e) ∷ ns)
joined-child after_words e ns j = subst (λ (x : Node-F Node Element). IsJoined after_words x (λ a. AreJoined a ns)) (sym (out-roll-Node (Child e))) j

joined-words : (words : List ℕ) (ns : List Node) → IsXmlText words → ((a : Bool) → AreJoined a ns) → AreJoined false (with_words words ns)
joined-words [] ns x j = j false
joined-words (b ∷ bs) ns x j = subst (λ (y : Node-F Node Element). IsJoined false y (λ a. AreJoined a ns)) (sym (out-roll-Node (Words (b ∷ bs))))
    (refl, x, refl, j true)

encode-more : (cs : List ℕ) (c : ℕ) → encode_utf8_all (cs ++ c ∷ []) ≡ encode_utf8_all cs ++ encode_utf8 c
encode-more [] c = append-nil (encode_utf8 c)
encode-more (d ∷ cs) c = ap (λ (l : List ℕ). encode_utf8 d ++ l) (encode-more cs c) ∙ sym (append_assoc (encode_utf8 d) (encode_utf8_all cs) (encode_utf8 c))

longer : (words : List ℕ) (c : ℕ) → IsXmlText words → is_xml c ≡ true → IsXmlText (words ++ encode_utf8 c)
longer words c (cs, e, x) h =
    (cs ++ c ∷ [], encode-more cs c ∙ ap (λ (l : List ℕ). l ++ encode_utf8 c) e, each-append (λ d. is_xml d ≡ true) cs (c ∷ []) x (h, tt))

-- Elements.

pub inside-fair : (L : List (List Binding)) (t : RawTag) → AreFair L → IsReadTag t → fault_of_tag L (whole_tag t) ≡ None → AreFair (inside_of L (whole_tag t))
inside-fair L t fair r sound =
    let s : IsSoundTag (inside_of L (whole_tag t)) (t.name.0 ∷ t.name.1) (written t.attributes) =
    sound-tag (inside_of L (whole_tag t)) (t.name.0 ∷ t.name.1) (written t.attributes) sound in
    each-append (AllByRecursion IsFairBinding) L (own (written t.attributes) ∷ []) fair (own-fair t.attributes r.1 s.declared, tt)

tag-proper : (L : List (List Binding)) (t : RawTag) (ns : List Node) → AreFair L → IsReadTag t → fault_of_tag L (whole_tag t) ≡ None → AreJoined false ns
    → AllByRecursion IsEvery ns → IsProper (element_with (inside_of L (whole_tag t)) (whole_tag t) ns)
tag-proper L t ns fair r sound j each =
    let M : List (List Binding) = inside_of L (whole_tag t) in
    let s : IsSoundTag M (t.name.0 ∷ t.name.1) (written t.attributes) = sound-tag M (t.name.0 ∷ t.name.1) (written t.attributes) sound in
    let inner : AreFair M = inside-fair L t fair r sound in
    made (name_on M (t.name.0 ∷ t.name.1)) (attrs_on M (written t.attributes)) ns (name-proper M (t.name.0 ∷ t.name.1) inner r.0 s.bound s.element)
    (attributes-proper M (written t.attributes) inner (written-read t.attributes r.1) s.all_bound)
    (attributes-distinct M (written t.attributes) s.all_bound s.distinct) j each

abbrev AreProperNodes : List Node → Type 0
AreProperNodes ns = AreJoined false ns × AllByRecursion IsEvery ns

nodes-proper : (L : List (List Binding)) (words : List ℕ) (f : Content) → AreFair L → IsXmlText words → IsRead f → AreNamed L f
    → AreProperNodes (nodes_on L words f)
nodes-proper L words nothing fair x r n = (joined-words words [] x (λ a. tt), with-proper words [] tt)
nodes-proper L words (word c f) fair x r n = nodes-proper L (words ++ encode_utf8 c) f fair (longer words c x r.0) r.1 n
nodes-proper L words (element t g f) fair x r n =
    let M : List (List Binding) = inside_of L (whole_tag t) in
    let (joined, each) = nodes-proper M [] g (inside-fair L t fair r.0 n.0) ([], refl, tt) r.1.0 n.1.0 in
    let e : IsProper (element_with M (whole_tag t) (nodes_on M [] g)) = tag-proper L t (nodes_on M [] g) fair r.0 n.0 joined each in
    let (later, all) = nodes-proper L [] f fair ([], refl, tt) r.1.1 n.1.1 in (
      joined-words words _ x (λ a. joined-child a (element_with M (whole_tag t) (nodes_on M [] g)) (nodes_on L [] f) later),
      with-proper words _
          (child-proper (element_with M (whole_tag t) (nodes_on M [] g)) e, all),
    )
nodes-proper L words (hollow t f) fair x r n =
    let M : List (List Binding) = inside_of L (whole_tag t) in
    let e : IsProper (element_with M (whole_tag t) []) = tag-proper L t [] fair r.0 n.0 tt tt in
    let (later, all) = nodes-proper L [] f fair ([], refl, tt) r.1 n.1 in (
      joined-words words _ x (λ a. joined-child a (element_with M (whole_tag t) []) (nodes_on L [] f) later),
      with-proper words _
          (child-proper (element_with M (whole_tag t) []) e, all),
    )

elements-proper : (L : List (List Binding)) (f : Content) → AreFair L → IsRead f → AreNamed L f → AllByRecursion IsProper (elements_on L f)
elements-proper L nothing fair r n = tt
elements-proper L (word c f) fair r n = elements-proper L f fair r.1 n
elements-proper L (element t g f) fair r n =
    let M : List (List Binding) = inside_of L (whole_tag t) in
    let (joined, each) = nodes-proper M [] g (inside-fair L t fair r.0 n.0) ([], refl, tt) r.1.0 n.1.0 in
    (tag-proper L t (nodes_on M [] g) fair r.0 n.0 joined each, elements-proper L f fair r.1.1 n.1.1)
elements-proper L (hollow t f) fair r n = (tag-proper L t [] fair r.0 n.0 tt tt, elements-proper L f fair r.1 n.1)

-- Of a stream.

first-fair : AreFair outside_all
first-fair = tt

pub tops-proper : (r : Rules) (bytes : List ℕ) (s : Stream) → Spells r bytes s → IsNamed s.root s.content → AllByRecursion IsProper (tops_of s.root s.content)
tops-proper r bytes s (read_text, after, e, spaces, (reads, short, keeps)) named =
    let (root_read, all) = stream-read read_text s reads in
    elements-proper (inside_of outside_all (whole_tag s.root)) s.content (inside-fair outside_all s.root first-fair root_read named.0) all named.1

-- the top elements that have come, and the header
pub come-proper : (r : Rules) (bytes : List ℕ) (root : RawTag) (f : Content) → HasCome r bytes root f → IsNamed root f
    → AllByRecursion IsProper (tops_of root f)
come-proper r bytes root f (d, reads, short, keeps) named =
    let (root_read, all) = head-read bytes d root f reads in
    elements-proper (inside_of outside_all (whole_tag root)) f (inside-fair outside_all root first-fair root_read named.0) all named.1

pub header-proper : (r : Rules) (bytes : List ℕ) (root : RawTag) (f : Content) → HasCome r bytes root f → IsNamed root f → IsProper (header_of root)
header-proper r bytes root f (d, reads, short, keeps) named = tag-proper outside_all root [] first-fair (head-read bytes d root f reads).0 named.0 tt tt
