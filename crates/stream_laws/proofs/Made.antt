-- What is built of the tokens of a head and its content: the header, and the top elements.
use Rattle.std.proofs.Common.{◌≡◌, ℕ, List, [], ◌∷◌, ◌++◌, map, length, refl, sym, ap, ◌∙◌, append_assoc}
use Rattle.std.proofs.Common.{append-nil, Bool, true, false, ◌&&◌, ◌==◌, encode_utf8, arith}
use Rattle.std.proofs.lemmas.Bool.{eqb-true, false_from_ne_true}
use Rattle.std.specs.Prelude.{Option, Some, if◌then◌else◌}
use Rattle.stream_lex.specs.declared.Token.{Token}
use Rattle.stream_lex.specs.declared.Token.TheVariants as token
use Rattle.stanza_tree.specs.declared.node.Element.{Element}
use Rattle.stanza_tree.specs.declared.node.Node.{Node}
use Rattle.stanza_tree.specs.declared.node.Node.TheOpen.{Child}
use Rattle.stanza_tree.specs.declared.node.Node.TheViews.{roll-Node}
use Rattle.stream_grammar.specs.declared.namespaces.Binding.{Binding}
use Rattle.stream_grammar.specs.declared.item.Item.{Item}
use Rattle.stream_grammar.specs.declared.item.Item.TheVariants as item
use Rattle.stream_grammar.specs.grammar.Trees.{RawName, RawAttribute, RawTag, Content, nothing, word, element, hollow, attribute_tokens}
use Rattle.stream_grammar.specs.grammar.Trees.{attributes_tokens, tag_tokens, end_tokens, content_tokens, declaration_tokens}
use Rattle.stream_grammar.specs.grammar.Items.{head_tokens}
use Rattle.stream_grammar.specs.grammar.Namespaces.{own}
use Rattle.stream_grammar.specs.grammar.Resolving.{name_on, attrs_on}
use Rattle.stream_grammar.specs.grammar.Tags.{Gathered, whole_tag}
use Rattle.stream_grammar.specs.machine.Gathering.{nothing_gathered, gather, gather_all}
use Rattle.stream_grammar.specs.grammar.Elements.{inside_of, element_with, with_words, nodes_on, elements_on, outside_all, header_of, default_of}
use Rattle.stream_grammar.specs.machine.Building.{Opened, Building, nothing_built, with_child, with_last, last_closed, settled_words, build, build_all}
use Rattle.stream_laws.proofs.GatherLemmas.{more-gathered, tag-gathered}
use Rattle.stream_grammar.proofs.LastLemmas.{but_last_layer, words_then}

abbrev pub made : Gathered → List (List Binding) → List Opened → List ℕ → Option Item → Building
made g layers os words i = record { tag = g; layers = layers; opened = os; words = words; item = i }

build-more : (b : Building) (xs ys : List Token) → build_all b (xs ++ ys) ≡ build_all (build_all b xs) ys
build-more b [] ys = refl
build-more b (x ∷ xs) ys = build-more (build b x) xs ys

-- Tokens inside tags are gathered, and change nothing else.

abbrev pub gathering : Token → Bool
gathering (token.TagEnds e) = false
gathering token.CloseEnds = false
gathering (token.Word c) = false
gathering t = true

abbrev pub all-gathering : List Token → Bool
all-gathering [] = true
all-gathering (t ∷ ts) = gathering t && all-gathering ts

gathers-one : (b : Building) (t : Token) → gathering t ≡ true → build b t ≡ record b { tag = gather b.tag t }
gathers-one b (token.TagOpens x) h = refl
gathers-one b (token.NameByte x) h = refl
gathers-one b (token.CloseOpens x) h = refl
gathers-one b (token.AttrOpens x) h = refl
gathers-one b (token.AttrByte x) h = refl
gathers-one b token.ValueOpens h = refl
gathers-one b (token.Value c) h = refl
gathers-one b token.ValueEnds h = refl
gathers-one b token.Declaration h = refl
gathers-one b (token.TagEnds e) h = absurd (let bad : false ≡ true = h in cc)
gathers-one b token.CloseEnds h = absurd (let bad : false ≡ true = h in cc)
gathers-one b (token.Word c) h = absurd (let bad : false ≡ true = h in cc)

pub both : (s t : Bool) → (s && t) ≡ true → (s ≡ true) × (t ≡ true)
both true t e = (refl, e)
both false t e = absurd (let bad : false ≡ true = e in cc)

gathers : (ts : List Token) (b : Building) → all-gathering ts ≡ true → build_all b ts ≡ record b { tag = gather_all b.tag ts }
gathers [] b h = refl
gathers (t ∷ ts) b h =
    let (one, more) = both (gathering t) (all-gathering ts) h in
    ap (λ (x : Building). build_all x ts) (gathers-one b t one) ∙ gathers ts (record b { tag = gather b.tag t }) more

gathering-more : (xs ys : List Token) → all-gathering xs ≡ true → all-gathering ys ≡ true → all-gathering (xs ++ ys) ≡ true
gathering-more [] ys h k = k
gathering-more (x ∷ xs) ys h k = let (one, more) = both (gathering x) (all-gathering xs) h in ap (λ (t : Bool). t && all-gathering (xs ++ ys)) one
    ∙ gathering-more xs ys more k

pub gathering-name : (bs : List ℕ) → all-gathering (map token.NameByte bs) ≡ true
gathering-name [] = refl
gathering-name (b ∷ bs) = gathering-name bs

gathering-attribute-name : (bs : List ℕ) → all-gathering (map token.AttrByte bs) ≡ true
gathering-attribute-name [] = refl
gathering-attribute-name (b ∷ bs) = gathering-attribute-name bs

gathering-value : (cs : List ℕ) → all-gathering (map token.Value cs) ≡ true
gathering-value [] = refl
gathering-value (c ∷ cs) = gathering-value cs

gathering-attributes : (xs : List RawAttribute) → all-gathering (attributes_tokens xs) ≡ true
gathering-attributes [] = refl
gathering-attributes (a ∷ xs) =
    gathering-more (attribute_tokens a) (attributes_tokens xs)
    (gathering-more (map token.AttrByte a.name.1) (token.ValueOpens ∷ (map token.Value a.value ++ token.ValueEnds ∷ [])) (gathering-attribute-name a.name.1)
    (gathering-more (map token.Value a.value) (token.ValueEnds ∷ []) (gathering-value a.value) refl))
    (gathering-attributes xs)

-- a tag up to its `>`
abbrev pub tag-body : RawTag → List Token
tag-body t = token.TagOpens t.name.0 ∷ (map token.NameByte t.name.1 ++ attributes_tokens t.attributes)

pub body-then : (t : RawTag) (e : Bool) → tag_tokens t e ≡ tag-body t ++ token.TagEnds e ∷ []
body-then t e = ap (λ (l : List Token). token.TagOpens t.name.0 ∷ l)
    (sym (append_assoc (map token.NameByte t.name.1) (attributes_tokens t.attributes) (token.TagEnds e ∷ [])))

pub gathering-body : (t : RawTag) → all-gathering (tag-body t) ≡ true
gathering-body t = gathering-more (map token.NameByte t.name.1) (attributes_tokens t.attributes) (gathering-name t.name.1) (gathering-attributes t.attributes)

body-gathered : (g : Gathered) (t : RawTag) (e : Bool) → gather_all g (tag-body t) ≡ whole_tag t
body-gathered g t e = sym (more-gathered g (tag-body t) (token.TagEnds e ∷ [])) ∙ (ap (gather_all g) (sym (body-then t e)) ∙ tag-gathered g t e)

pub body-made : (b : Building) (t : RawTag) → build_all b (tag-body t) ≡ record b { tag = whole_tag t }
body-made b t = gathers (tag-body t) b (gathering-body t) ∙ ap (λ (g : Gathered). record b { tag = g }) (body-gathered b.tag t false)

pub tag-made : (b : Building) (t : RawTag) (e : Bool) → build_all b (tag_tokens t e) ≡ build (record b { tag = whole_tag t }) (token.TagEnds e)
tag-made b t e =
    ap (build_all b) (body-then t e)
    ∙ (build-more b (tag-body t) (token.TagEnds e ∷ [])
    ∙ (ap (λ (x : Building). build x (token.TagEnds e)) (gathers (tag-body t) b (gathering-body t))
    ∙ ap (λ (g : Gathered). build (record b { tag = g }) (token.TagEnds e)) (body-gathered b.tag t e)))

pub end-made : (b : Building) (n : RawName) → (g : Gathered) × (build_all b (end_tokens n) ≡ build (record b { tag = g }) token.CloseEnds)
end-made b n =
    let ts : List Token = token.CloseOpens n.0 ∷ map token.NameByte n.1 in (
      gather_all b.tag ts,
      build-more b ts (token.CloseEnds ∷ []) ∙ ap (λ (x : Building). build x token.CloseEnds) (gathers ts b (gathering-name n.1)),
    )

-- What content leaves: the children before its last words, and these words.

abbrev pub element_of : List (List Binding) → RawTag → List Node → Element
element_of layers t ns = element_with (inside_of layers (whole_tag t)) (whole_tag t) ns

abbrev pub whole_on : List (List Binding) → RawTag → Content → Element
whole_on layers t g = element_of layers t (nodes_on (inside_of layers (whole_tag t)) [] g)

abbrev pub done_on : List (List Binding) → List ℕ → Content → List Node
done_on layers words nothing = []
done_on layers words (word c f) = done_on layers (words ++ encode_utf8 c) f
done_on layers words (element t g f) = with_words words (roll-Node (Child (whole_on layers t g)) ∷ []) ++ done_on layers [] f
done_on layers words (hollow t f) = with_words words (roll-Node (Child (element_of layers t [])) ∷ []) ++ done_on layers [] f

abbrev pub left_on : List ℕ → Content → List ℕ
left_on words nothing = words
left_on words (word c f) = left_on (words ++ encode_utf8 c) f
left_on words (element t g f) = left_on [] f
left_on words (hollow t f) = left_on [] f

words-more : (words : List ℕ) (n : Node) (ns : List Node) → with_words words (n ∷ ns) ≡ with_words words (n ∷ []) ++ ns
words-more [] n ns = refl
words-more (w ∷ ws) n ns = refl

pub nodes-split : (f : Content) (layers : List (List Binding)) (words : List ℕ)
    → nodes_on layers words f ≡ done_on layers words f ++ with_words (left_on words f) []
nodes-split nothing layers words = refl
nodes-split (word c f) layers words = nodes-split f layers (words ++ encode_utf8 c)
nodes-split (element t g f) layers words =
    let n : Node = roll-Node (Child (whole_on layers t g)) in
    words-more words n (nodes_on layers [] f)
    ∙ (ap (λ (ns : List Node). with_words words (n ∷ []) ++ ns) (nodes-split f layers [])
    ∙ sym (append_assoc (with_words words (n ∷ [])) (done_on layers [] f) (with_words (left_on [] f) [])))
nodes-split (hollow t f) layers words =
    let n : Node = roll-Node (Child (element_of layers t [])) in
    words-more words n (nodes_on layers [] f)
    ∙ (ap (λ (ns : List Node). with_words words (n ∷ []) ++ ns) (nodes-split f layers [])
    ∙ sym (append_assoc (with_words words (n ∷ [])) (done_on layers [] f) (with_words (left_on [] f) [])))

-- The same, built token by token in an open element.

abbrev pub with-children : Opened → List Node → Opened
with-children x ns = record x { children = x.children ++ ns }

-- an element more, and then the rest
grown : (x : Opened) (words : List ℕ) (n : Node) (ns : List Node)
    → with-children (with-children x (with_words words (n ∷ []))) ns ≡ with-children x (with_words words (n ∷ []) ++ ns)
grown x words n ns = ap (λ (l : List Node). record x { children = l }) (append_assoc x.children (with_words words (n ∷ [])) ns)

pub not-empty : (layers : List (List Binding)) (l : List Binding) → (length (layers ++ l ∷ []) == 0) ≡ false
not-empty layers l = false_from_ne_true (length (layers ++ l ∷ []) == 0) (λ h. some layers (eqb-true (length (layers ++ l ∷ [])) 0 h))
  where
    some : (layers : List (List Binding)) → length (layers ++ l ∷ []) ≡ 0 → ⊥
    some [] e = omega (arith, e)
    some (k ∷ layers) e = omega (arith, e)

abbrev Content-made : Content → Type 0
Content-made f = (g : Gathered) (layers : List (List Binding)) (x : Opened) (xs : List Opened) (words : List ℕ) (i : Option Item) → (length layers == 0) ≡ false
    → (g1 : Gathered) × (build_all (made g layers (x ∷ xs) words i) (content_tokens f) ≡ made g1 layers (with-children x (done_on layers words f) ∷ xs)
    (left_on words f) i)

pub start-if : (t : Bool) (a b : Building) → t ≡ false → (if t then a else b) ≡ b
start-if true a b h = absurd (let bad : true ≡ false = h in cc)
start-if false a b h = refl

-- an element's tokens, where its content is done by the rule
element-made : (t : RawTag) (g : Content) → Content-made g
    → (g0 : Gathered) (layers : List (List Binding)) (os : List Opened) (words : List ℕ) (i : Option Item) → (length layers == 0) ≡ false
    → (g1 : Gathered) × (build_all (made g0 layers os words i) (tag_tokens t false ++ (content_tokens g ++ end_tokens t.name))
    ≡ build (made g1 (inside_of layers (whole_tag t))
    (with-children (record {
      name = name_on (inside_of layers (whole_tag t)) (whole_tag t).name;
      attrs =
          attrs_on (inside_of layers (whole_tag t)) (whole_tag t).attributes;
      children = [];
    }) (done_on (inside_of layers (whole_tag t)) [] g)
    ∷ settled_words words os) (left_on [] g) i) token.CloseEnds)
element-made t g rule g0 layers os words i deep =
    let inner : List (List Binding) = inside_of layers (whole_tag t) in
    let new : Opened = record { name = name_on inner (whole_tag t).name; attrs = attrs_on inner (whole_tag t).attributes; children = [] } in
    let rest : List Opened = settled_words words os in
    let (g1, mid) = rule nothing_gathered inner new rest [] i (not-empty layers (own (whole_tag t).attributes)) in
    let (g2, last) = end-made (made g1 inner (with-children new (done_on inner [] g) ∷ rest) (left_on [] g) i) t.name in (
      g2,
      build-more (made g0 layers os words i) (tag_tokens t false) (content_tokens g ++ end_tokens t.name)
          ∙ (ap (λ (b : Building). build_all b (content_tokens g ++ end_tokens t.name)) (tag-made (made g0 layers os words i) t false
          ∙ start-if (length layers == 0) _ (made nothing_gathered inner (new ∷ rest) [] i) deep)
          ∙ (build-more (made nothing_gathered inner (new ∷ rest) [] i) (content_tokens g) (end_tokens t.name)
          ∙ (ap (λ (b : Building). build_all b (end_tokens t.name)) mid ∙ last))),
    )

-- at its end it is the element
closed-whole : (layers : List (List Binding)) (t : RawTag) (g : Content)
    → last_closed (left_on [] g)
    (with-children (record {
      name = name_on (inside_of layers (whole_tag t)) (whole_tag t).name;
      attrs =
          attrs_on (inside_of layers (whole_tag t)) (whole_tag t).attributes;
      children = [];
    }) (done_on (inside_of layers (whole_tag t)) [] g))
    ≡ whole_on layers t g
closed-whole layers t g = ap (λ (ns : List Node). element_of layers t ns) (sym (nodes-split g (inside_of layers (whole_tag t)) []))

pub regroup : (t g e f : List Token) → t ++ (g ++ (e ++ f)) ≡ (t ++ (g ++ e)) ++ f
regroup t g e f = simp append_assoc

child-then : (x : Opened) (words : List ℕ) (n : Node) → x.children ++ (with_words words [] ++ n ∷ []) ≡ x.children ++ with_words words (n ∷ [])
child-then x words n = ap (λ (l : List Node). x.children ++ l) (sym (words_then words n))

abbrev new-element : List (List Binding) → RawTag → Opened
new-element layers t = record {
  name = name_on (inside_of layers (whole_tag t)) (whole_tag t).name;
  attrs = attrs_on (inside_of layers (whole_tag t)) (whole_tag t).attributes;
  children =
      [];
}

-- the end tag of an element in an open element
closes : (t : RawTag) (h : Content) (layers : List (List Binding)) (x : Opened) (xs : List Opened) (words : List ℕ) (i : Option Item) (g : Gathered)
    → build (made g (inside_of layers (whole_tag t))
    (with-children (new-element layers t) (done_on (inside_of layers (whole_tag t)) [] h) ∷ (with_last words x ∷ xs)) (left_on [] h) i) token.CloseEnds
    ≡ made nothing_gathered layers (record x { children = x.children ++ with_words words (roll-Node (Child (whole_on layers t h)) ∷ []) } ∷ xs) [] i
closes t h layers x xs words i g =
    let y : Opened = with-children (new-element layers t) (done_on (inside_of layers (whole_tag t)) [] h) in
    let n : Node = roll-Node (Child (whole_on layers t h)) in
    ap (λ (ls : List (List Binding)). made nothing_gathered ls (with_child [] (last_closed (left_on [] h) y) (with_last words x) ∷ xs) [] i)
    (but_last_layer layers (own (whole_tag t).attributes))
    ∙ (ap (λ (e : Element). made nothing_gathered layers (with_child [] e (with_last words x) ∷ xs) [] i) (closed-whole layers t h)
    ∙ ap (λ (ns : List Node). made nothing_gathered layers (record x { children = ns } ∷ xs) [] i) (append_assoc x.children (with_words words []) (n ∷ [])
    ∙ child-then x words n))

pub content-made : (f : Content) → Content-made f
content-made nothing g layers x xs words i deep =
    (g, ap (λ (l : List Node). made g layers (record x { children = l } ∷ xs) words i) (sym (append-nil x.children)))
content-made (word c f) g layers x xs words i deep = content-made f g layers x xs (words ++ encode_utf8 c) i deep
content-made (element t h f) g layers x xs words i deep =
    let n : Node = roll-Node (Child (whole_on layers t h)) in
    let y : Opened = record x { children = x.children ++ with_words words (n ∷ []) } in
    let (g1, one) = element-made t h (content-made h) g layers (x ∷ xs) words i deep in
    let (g2, more) = content-made f nothing_gathered layers y xs [] i deep in (
      g2,
      ap (build_all (made g layers (x ∷ xs) words i)) (regroup (tag_tokens t false) (content_tokens h) (end_tokens t.name) (content_tokens f))
          ∙ (build-more (made g layers (x ∷ xs) words i) (tag_tokens t false ++ (content_tokens h ++ end_tokens t.name)) (content_tokens f)
          ∙ (ap (λ (b : Building). build_all b (content_tokens f)) (one ∙ closes t h layers x xs words i g1)
          ∙ (more ∙ ap (λ (l : List Node). made g2 layers (record x { children = l } ∷ xs) (left_on [] f) i)
          (append_assoc x.children (with_words words (n ∷ [])) (done_on layers [] f))))),
    )
content-made (hollow t f) g layers x xs words i deep =
    let n : Node = roll-Node (Child (element_of layers t [])) in
    let y : Opened = record x { children = x.children ++ with_words words (n ∷ []) } in
    let (g2, more) = content-made f nothing_gathered layers y xs [] i deep in (
      g2,
      build-more (made g layers (x ∷ xs) words i) (tag_tokens t true) (content_tokens f)
          ∙ (ap (λ (b : Building). build_all b (content_tokens f)) (tag-made (made g layers (x ∷ xs) words i) t true)
          ∙ (more ∙ ap (λ (l : List Node). made g2 layers (record x { children = l } ∷ xs) (left_on [] f) i)
          (append_assoc x.children (with_words words (n ∷ [])) (done_on layers [] f)))),
    )

-- Between top elements.

-- the item of the last of the top elements, or the one before
abbrev pub last_item : List Element → Option Item → Option Item
last_item [] i = i
last_item (e ∷ es) i = last_item es (Some (item.Top e))

-- the end tag of a top element
closes-top : (t : RawTag) (h : Content) (layers : List (List Binding)) (i : Option Item) (g : Gathered)
    → build (made g (inside_of layers (whole_tag t)) (with-children (new-element layers t) (done_on (inside_of layers (whole_tag t)) [] h) ∷ []) (left_on [] h)
    i) token.CloseEnds
    ≡ made nothing_gathered layers [] [] (Some (item.Top (whole_on layers t h)))
closes-top t h layers i g =
    let y : Opened = with-children (new-element layers t) (done_on (inside_of layers (whole_tag t)) [] h) in
    ap (λ (ls : List (List Binding)). made nothing_gathered ls [] [] (Some (item.Top (last_closed (left_on [] h) y))))
    (but_last_layer layers (own (whole_tag t).attributes))
    ∙ ap (λ (e : Element). made nothing_gathered layers [] [] (Some (item.Top e))) (closed-whole layers t h)

abbrev pub IsBetween : Building → List (List Binding) → Option Item → Type 0
IsBetween b layers i = (g : Gathered) × (words : List ℕ) × (b ≡ made g layers [] words i)

pub tops-made : (f : Content) (g : Gathered) (layers : List (List Binding)) (words : List ℕ) (i : Option Item) → (length layers == 0) ≡ false
    → IsBetween (build_all (made g layers [] words i) (content_tokens f)) layers (last_item (elements_on layers f) i)
tops-made nothing g layers words i deep = (g, words, refl)
tops-made (word c f) g layers words i deep = tops-made f g layers words i deep
tops-made (element t h f) g layers words i deep =
    let (g1, one) = element-made t h (content-made h) g layers [] words i deep in
    let (g2, w2, more) = tops-made f nothing_gathered layers [] (Some (item.Top (whole_on layers t h))) deep in (
      g2,
      w2,
      ap (build_all (made g layers [] words i)) (regroup (tag_tokens t false) (content_tokens h) (end_tokens t.name) (content_tokens f))
          ∙ (build-more (made g layers [] words i) (tag_tokens t false ++ (content_tokens h ++ end_tokens t.name)) (content_tokens f)
          ∙ (ap (λ (b : Building). build_all b (content_tokens f)) (one ∙ closes-top t h layers i g1) ∙ more)),
    )
tops-made (hollow t f) g layers words i deep =
    let (g2, w2, more) = tops-made f nothing_gathered layers [] (Some (item.Top (element_of layers t []))) deep in (
      g2,
      w2,
      build-more (made g layers [] words i) (tag_tokens t true) (content_tokens f)
          ∙ (ap (λ (b : Building). build_all b (content_tokens f)) (tag-made (made g layers [] words i) t true) ∙ more),
    )

-- The head of a stream.

pub declared-made : (d : Bool) → build_all nothing_built (declaration_tokens d) ≡ nothing_built
declared-made true = refl
declared-made false = refl

pub head-made : (d : Bool) (root : RawTag) (f : Content)
    → IsBetween (build_all nothing_built (head_tokens d root f)) (inside_of outside_all (whole_tag root))
    (last_item (elements_on (inside_of outside_all (whole_tag root)) f) (Some (item.Header (header_of root) (default_of root))))
head-made d root f =
    let layers : List (List Binding) = inside_of outside_all (whole_tag root) in
    let (g, words, is) = tops-made f nothing_gathered layers [] (Some (item.Header (header_of root) (default_of root)))
    (not-empty [] (own (whole_tag root).attributes)) in (
      g,
      words,
      build-more nothing_built (declaration_tokens d) (tag_tokens root false ++ content_tokens f)
          ∙ (ap (λ (b : Building). build_all b (tag_tokens root false ++ content_tokens f)) (declared-made d)
          ∙ (build-more nothing_built (tag_tokens root false) (content_tokens f)
          ∙ (ap (λ (b : Building). build_all b (content_tokens f)) (tag-made nothing_built root false) ∙ is))),
    )
