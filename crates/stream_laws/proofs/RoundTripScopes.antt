-- A canonical start tag among the namespaces round it: what is bound inside, and that its names have no fault.
use Rattle.std.proofs.Common.{◌≡◌, ℕ, ◌+◌, ◌<◌, ◌≤◌, ◌^◌, List, [], ◌∷◌, ◌++◌, length, refl, sym, ap, ◌∙◌, append-nil, Bool, true, false, arith, codes}
use Rattle.std.proofs.lemmas.Bool.{cond-true, cond-false, cond_both}
use Rattle.std.proofs.lemmas.Slice.Eq.{bytes_eq-Decides}
use Rattle.std.specs.List.{AllByRecursion}
use Rattle.std.specs.Prelude.{if◌then◌else◌, bytes_eq, Option, Some}
use Rattle.stanza_tree.specs.declared.node.Attr.{Attr}
use Rattle.stanza_tree.specs.Spelling.{needs_prefix, prefix}
use Rattle.stream_lex.proofs.Lists.{true-false}
use Rattle.stream_grammar.specs.declared.namespaces.Binding.{Binding}
use Rattle.stream_grammar.specs.declared.namespaces.Written.{Written}
use Rattle.stream_grammar.specs.grammar.Namespaces.{space_before, xml_space, is_declaration, declared_prefix, local_of, last_space, last_layer, own}
use Rattle.stream_grammar.specs.grammar.Resolving.{attrs_on, attr_on, or_none}
use Rattle.stream_grammar.specs.grammar.Proper.{IsAttribute}
use Rattle.stream_laws.proofs.RoundTripSpelling.{default_written, declared_written, attributes_written, tag_written}
use Rattle.stream_laws.proofs.RoundTripSpaces.{same-bytes, other-bytes, prefix-other, declares, IsNamed, prefixed-named, unprefixed-named}

-- What is bound.

-- the default namespace is this, and the prefix xml is bound
abbrev pub Under : List (List Binding) → List ℕ → Type 0
Under layers parent = (last_layer (space_before []) layers [] ≡ Some parent) × (last_layer (space_before (codes "xml")) layers (codes "xml") ≡ Some xml_space)

abbrev pub default_bound : List ℕ → List ℕ → List Binding
default_bound parent space = if bytes_eq parent space then [] else record { prefix = []; space = space } ∷ []

abbrev pub bound : ℕ → List Attr → List Binding
bound k [] = []
bound k (a ∷ more) = if needs_prefix a then record { prefix = prefix k; space = a.name.space } ∷ bound (k + 1) more else bound k more

-- the bindings inside the tag
abbrev pub inner : List (List Binding) → List ℕ → List ℕ → List Attr → List (List Binding)
inner layers parent space attrs = layers ++ (default_bound parent space ++ bound 0 attrs) ∷ []

last_space-append : (g : Option (List ℕ)) (xs ys : List Binding) (p : List ℕ) → last_space g (xs ++ ys) p ≡ last_space (last_space g xs p) ys p
last_space-append g [] ys p = refl
last_space-append g (x ∷ xs) ys p = last_space-append (if bytes_eq x.prefix p then Some x.space else g) xs ys p

last_layer-more : (g : Option (List ℕ)) (ls : List (List Binding)) (l : List Binding) (p : List ℕ)
    → last_layer g (ls ++ l ∷ []) p ≡ last_space (last_layer g ls p) l p
last_layer-more g [] l p = refl
last_layer-more g (x ∷ xs) l p = last_layer-more (last_space g x p) xs l p

inner-found : (layers : List (List Binding)) (parent space : List ℕ) (attrs : List Attr) (p : List ℕ)
    → last_layer (space_before p) (inner layers parent space attrs) p
    ≡ last_space (last_space (last_layer (space_before p) layers p) (default_bound parent space) p) (bound 0 attrs) p
inner-found layers parent space attrs p = last_layer-more (space_before p) layers (default_bound parent space ++ bound 0 attrs) p
    ∙ last_space-append (last_layer (space_before p) layers p) (default_bound parent space) (bound 0 attrs) p

-- no declared prefix is this one
untouched : (p : List ℕ) (g : Option (List ℕ)) (k : ℕ) (attrs : List Attr) → ((i : ℕ) → k ≤ i → i < 2 ^ 64 → bytes_eq (prefix i) p ≡ false)
    → k + length attrs < 2 ^ 64 → last_space g (bound k attrs) p ≡ g
untouched p g k [] other h = refl
untouched p g k (a ∷ more) other h =
    cond_both (needs_prefix a) (record { prefix = prefix k; space = a.name.space } ∷ bound (k + 1) more) (bound k more)
    (λ (l : List Binding). last_space g l p ≡ g)
    (λ e. ap (λ (o : Option (List ℕ)). last_space o (bound (k + 1) more) p) (cond-false _ _ _ (other k (omega arith) (omega arith)))
    ∙ untouched p g (k + 1) more (λ i l m. other i (omega arith) m) (omega arith))
    (λ e. untouched p g k more other (omega arith))

inner-default : (parent space : List ℕ) → last_space (Some parent) (default_bound parent space) [] ≡ Some space
inner-default parent space =
    cond_both (bytes_eq parent space) _ _ (λ (l : List Binding). last_space (Some parent) l [] ≡ Some space)
    (λ e. ap (λ (s : List ℕ). Some s) (same-bytes parent space e)) (λ e. refl)

inner-other : (parent space p : List ℕ) (g : Option (List ℕ)) → bytes_eq [] p ≡ false → last_space g (default_bound parent space) p ≡ g
inner-other parent space p g e = cond_both (bytes_eq parent space) _ _ (λ (l : List Binding). last_space g l p ≡ g) (λ f. refl) (λ f. cond-false _ _ _ e)

pub inner-under : (layers : List (List Binding)) (parent space : List ℕ) (attrs : List Attr) → length attrs < 2 ^ 64 → Under layers parent
    → Under (inner layers parent space attrs) space
inner-under layers parent space attrs h (d, x) = (
  inner-found layers parent space attrs []
      ∙ (untouched [] _ 0 attrs (λ i l m. refl) (omega arith)
      ∙ (ap (λ (o : Option (List ℕ)). last_space o (default_bound parent space) []) d ∙ inner-default parent space)),
  inner-found layers parent space attrs (codes "xml")
      ∙ (untouched (codes "xml") _ 0 attrs (λ i l m. refl) (omega arith) ∙ (inner-other parent space (codes "xml") _ refl ∙ x)),
)

pub itself : (xs : List ℕ) → bytes_eq xs xs ≡ true
itself xs = (bytes_eq-Decides xs xs).1 refl

pub flipped : (xs ys : List ℕ) → bytes_eq xs ys ≡ false → bytes_eq ys xs ≡ false
flipped xs ys e = other-bytes ys xs (λ f. true-false ((bytes_eq-Decides xs ys).1 (sym f)) e)

-- each prefix is bound to the namespace of its attribute
abbrev Bound : (List ℕ → Option (List ℕ)) → ℕ → List Attr → Type 0
Bound found k [] = Unit {0}
Bound found k (a ∷ more) = (needs_prefix a ≡ true → (found (prefix k) ≡ Some a.name.space) × Bound found (k + 1) more)
    × (needs_prefix a ≡ false → Bound found k more)

bound-same : (f g : List ℕ → Option (List ℕ)) (k : ℕ) (attrs : List Attr) → ((p : List ℕ) → g p ≡ f p) → Bound f k attrs → Bound g k attrs
bound-same f g k [] e b = tt
bound-same f g k (a ∷ more) e b = (λ t. (e (prefix k) ∙ (b.0 t).0, bound-same f g (k + 1) more e (b.0 t).1), λ t. bound-same f g k more e (b.1 t))

bound-with : (k : ℕ) (a : Attr) (more : List Attr) → needs_prefix a ≡ true
    → bound k (a ∷ more) ≡ record { prefix = prefix k; space = a.name.space } ∷ bound (k + 1) more
bound-with k a more t = cond-true (needs_prefix a) _ _ t

bound-without : (k : ℕ) (a : Attr) (more : List Attr) → needs_prefix a ≡ false → bound k (a ∷ more) ≡ bound k more
bound-without k a more t = cond-false (needs_prefix a) _ _ t

bound-found : (g : List ℕ → Option (List ℕ)) (k : ℕ) (attrs : List Attr) → k + length attrs < 2 ^ 64 → Bound (λ p. last_space (g p) (bound k attrs) p) k attrs
bound-found g k [] h = tt
bound-found g k (a ∷ more) h = (
  λ t. (
    ap (λ (l : List Binding). last_space (g (prefix k)) l (prefix k)) (bound-with k a more t)
        ∙ (ap (λ (o : Option (List ℕ)). last_space o (bound (k + 1) more) (prefix k))
        (cond-true (bytes_eq (prefix k) (prefix k)) (Some a.name.space) (g (prefix k)) (itself (prefix k)))
        ∙ untouched (prefix k) (Some a.name.space) (k + 1) more (λ i l m. flipped (prefix k) (prefix i) (flip_other i l m)) (omega arith)),
    bound-same (λ p. last_space (with_one p) (bound (k + 1) more) p) (λ p. last_space (g p) (bound k (a ∷ more)) p) (k + 1) more
        (λ p. ap (λ (l : List Binding). last_space (g p) l p) (bound-with k a more t)) (bound-found with_one (k + 1) more (omega arith)),
  ),
  λ t. bound-same (λ p. last_space (g p) (bound k more) p) (λ p. last_space (g p) (bound k (a ∷ more)) p) k more
      (λ p. ap (λ (l : List Binding). last_space (g p) l p) (bound-without k a more t)) (bound-found g k more (omega arith)),
)
  where
    with_one : List ℕ → Option (List ℕ)
    with_one p = if bytes_eq (prefix k) p then Some a.name.space else g p

    flip_other : (i : ℕ) → k + 1 ≤ i → i < 2 ^ 64 → bytes_eq (prefix k) (prefix i) ≡ false
    flip_other i l m = prefix-other k i (omega arith) m

inner-bound : (layers : List (List Binding)) (parent space : List ℕ) (attrs : List Attr) → length attrs < 2 ^ 64
    → Bound (λ p. last_layer (space_before p) (inner layers parent space attrs) p) 0 attrs
inner-bound layers parent space attrs h =
    bound-same (λ p. last_space (last_space (last_layer (space_before p) layers p) (default_bound parent space) p) (bound 0 attrs) p) _ 0 attrs
    (inner-found layers parent space attrs)
    (bound-found (λ p. last_space (last_layer (space_before p) layers p) (default_bound parent space) p) 0 attrs (omega arith))

-- The attributes.

abbrev pub NamedAll : List (List Binding) → List Written → List Attr → Type 0
NamedAll L [] [] = Unit {0}
NamedAll L (w ∷ ws) (a ∷ more) = IsNamed w.name a L × (w.value ≡ a.value) × NamedAll L ws more
NamedAll L ws more = ⊥

named-all : (L : List (List Binding)) (k : ℕ) (attrs : List Attr) → k + length attrs < 2 ^ 64 → AllByRecursion IsAttribute attrs
    → Bound (λ p. last_layer (space_before p) L p) k attrs → last_layer (space_before (codes "xml")) L (codes "xml") ≡ Some xml_space
    → NamedAll L (attributes_written k attrs) attrs
named-all L k [] h is b x = tt
named-all L k (a ∷ more) h is b x =
    cond_both (needs_prefix a) _ _ (λ (l : List Written). NamedAll L l (a ∷ more))
    (λ t. (prefixed-named k a L (omega arith) (b.0 t).0, refl, named-all L (k + 1) more (omega arith) is.1 (b.0 t).1 x))
    (λ t. (unprefixed-named a L t is.0 x, refl, named-all L k more (omega arith) is.1 (b.1 t) x))

pub tag-named : (layers : List (List Binding)) (parent space : List ℕ) (attrs : List Attr) → length attrs < 2 ^ 64 → AllByRecursion IsAttribute attrs
    → Under layers parent → NamedAll (inner layers parent space attrs) (attributes_written 0 attrs) attrs
tag-named layers parent space attrs h is u =
    named-all (inner layers parent space attrs) 0 attrs (omega arith) is (inner-bound layers parent space attrs h) (inner-under layers parent space attrs h u).1

pub named-attrs : (L : List (List Binding)) (ws : List Written) (attrs : List Attr) → NamedAll L ws attrs → attrs_on L ws ≡ attrs
named-attrs L [] [] n = refl
named-attrs L (w ∷ ws) (a ∷ more) n =
    cond-false _ _ _ n.0.attribute ∙ (ap (λ (l : List Attr). attr_on L w ∷ l) (named-attrs L ws more n.2) ∙ ap (λ (x : Attr). x ∷ more) same)
  where
    same : attr_on L w ≡ a
    same = ap (λ (o : Option (List ℕ)). record { name = record { space = or_none o; local = local_of w.name }; value = w.value }) n.0.space
        ∙ (ap (λ (l : List ℕ). record { name = record { space = a.name.space; local = l }; value = w.value }) n.0.local
        ∙ ap (λ (v : List ℕ). record { name = a.name; value = v }) n.1)
named-attrs L [] (a ∷ more) n = absurd n
named-attrs L (w ∷ ws) [] n = absurd n

named-own : (L : List (List Binding)) (ws : List Written) (attrs : List Attr) → NamedAll L ws attrs → own ws ≡ []
named-own L [] [] n = refl
named-own L (w ∷ ws) (a ∷ more) n = cond-false _ _ _ n.0.attribute ∙ named-own L ws more n.2
named-own L [] (a ∷ more) n = absurd n
named-own L (w ∷ ws) [] n = absurd n

own-append : (xs ys : List Written) → own (xs ++ ys) ≡ own xs ++ own ys
own-append [] ys = refl
own-append (x ∷ xs) ys = by (is_declaration x.name) (own-append xs ys)
  where
    by : (t : Bool) → own (xs ++ ys) ≡ own xs ++ own ys
        → (if t then record { prefix = declared_prefix x.name; space = x.value } ∷ own (xs ++ ys) else own (xs ++ ys))
        ≡ (if t then record { prefix = declared_prefix x.name; space = x.value } ∷ own xs else own xs) ++ own ys
    by true e = ap (λ (l : List Binding). record { prefix = declared_prefix x.name; space = x.value } ∷ l) e
    by false e = e

own-default : (parent space : List ℕ) → own (default_written parent space) ≡ default_bound parent space
own-default parent space = by (bytes_eq parent space)
  where
    by : (t : Bool) → own (if t then [] else record { name = codes "xmlns"; value = space } ∷ [])
        ≡ (if t then [] else record { prefix = []; space = space } ∷ [])
    by true = refl
    by false = refl

own-declared : (k : ℕ) (attrs : List Attr) → own (declared_written k attrs) ≡ bound k attrs
own-declared k [] = refl
own-declared k (a ∷ more) = by (needs_prefix a) (own-declared (k + 1) more) (own-declared k more)
  where
    by : (t : Bool) → own (declared_written (k + 1) more) ≡ bound (k + 1) more → own (declared_written k more) ≡ bound k more
        → own (if t then record { name = codes "xmlns:" ++ prefix k; value = a.name.space } ∷ declared_written (k + 1) more else declared_written k more)
        ≡ (if t then record { prefix = prefix k; space = a.name.space } ∷ bound (k + 1) more else bound k more)
    by true e f =
        let (d, p) = declares k in
        cond-true _ _ _ d ∙ (ap (λ (x : List ℕ). record { prefix = x; space = a.name.space } ∷ own (declared_written (k + 1) more)) p
        ∙ ap (λ (l : List Binding). record { prefix = prefix k; space = a.name.space } ∷ l) e)
    by false e f = f

pub tag-own : (L : List (List Binding)) (parent space : List ℕ) (attrs : List Attr) → NamedAll L (attributes_written 0 attrs) attrs
    → own (tag_written parent space attrs) ≡ default_bound parent space ++ bound 0 attrs
tag-own L parent space attrs n =
    own-append (default_written parent space) (declared_written 0 attrs ++ attributes_written 0 attrs)
    ∙ (ap (λ (l : List Binding). l ++ own (declared_written 0 attrs ++ attributes_written 0 attrs)) (own-default parent space)
    ∙ ap (λ (l : List Binding). default_bound parent space ++ l)
    (own-append (declared_written 0 attrs) (attributes_written 0 attrs)
    ∙ (ap (λ (l : List Binding). l ++ own (attributes_written 0 attrs)) (own-declared 0 attrs)
    ∙ (ap (λ (l : List Binding). bound 0 attrs ++ l) (named-own L (attributes_written 0 attrs) attrs n) ∙ append-nil (bound 0 attrs)))))
