-- The names of a canonical start tag have no fault.
use Rattle.std.proofs.Common.{◌≡◌, ℕ, ◌+◌, ◌<◌, ◌≤◌, ◌^◌, List, [], ◌∷◌, ◌++◌, length, refl, sym, ap, ◌∙◌, Bool, true, false, not, arith, codes}
use Rattle.std.proofs.lemmas.Bool.{cond-true, cond-false, cond_both, and_parts, and_from}
use Rattle.std.specs.List.{AllByRecursion, IsDistinct}
use Rattle.std.specs.Prelude.{if◌then◌else◌, bytes_eq, ◌&&◌, ◌||◌, Option, Some, None}
use Rattle.stanza_tree.specs.declared.node.Attr.{Attr}
use Rattle.stanza_tree.specs.declared.node.Name.{Name}
use Rattle.stanza_tree.specs.Spelling.{needs_prefix, prefix}
use Rattle.stream_lex.proofs.Lists.{false-true}
use Rattle.stream_grammar.specs.declared.namespaces.Binding.{Binding}
use Rattle.stream_grammar.specs.declared.namespaces.Written.{Written}
use Rattle.stream_grammar.specs.grammar.Namespaces.{xml_space, xmlns_space, is_declaration, prefix_of, local_of, space_of}
use Rattle.stream_grammar.specs.grammar.Namespaces.{attribute_space, may_declare, is_forbidden, has_forbidden, is_unbound, has_unbound}
use Rattle.stream_grammar.specs.grammar.Namespaces.{is_bound_to, same_space, is_twin, has_twin, has_twins, tag_fault}
use Rattle.stream_grammar.specs.grammar.Resolving.{attrs_on, attr_on, or_none, name_on}
use Rattle.stream_grammar.specs.grammar.Proper.{IsNcName, IsAttribute, IsElementName, same_name}
use Rattle.stream_laws.proofs.RoundTripSpelling.{default_written, declared_written, attributes_written, tag_written, each-append}
use Rattle.stream_laws.proofs.RoundTripSpaces.{bare, ncname-colon, prefix-other, declares, IsCut, cut}
use Rattle.stream_laws.proofs.RoundTripScopes.{Under, inner, inner-under, flipped, NamedAll, tag-named, named-attrs}

-- Each attribute by its name in its namespace.

abbrev Sees : List (List Binding) → Written → Name → Type 0
Sees L w n = (attribute_space L w.name ≡ Some n.space) × (local_of w.name ≡ n.local)

abbrev SeeAll : List (List Binding) → List Written → List Name → Type 0
SeeAll L [] [] = Unit {0}
SeeAll L (w ∷ ws) (n ∷ ns) = Sees L w n × SeeAll L ws ns
SeeAll L ws ns = ⊥

see-append : (L : List (List Binding)) (ws vs : List Written) (ns ms : List Name) → SeeAll L ws ns → SeeAll L vs ms → SeeAll L (ws ++ vs) (ns ++ ms)
see-append L [] vs [] ms a b = b
see-append L (w ∷ ws) vs (n ∷ ns) ms a b = (a.0, see-append L ws vs ns ms a.1 b)
see-append L [] vs (n ∷ ns) ms a b = absurd a
see-append L (w ∷ ws) vs [] ms a b = absurd a

abbrev default_names : List ℕ → List ℕ → List Name
default_names parent space = if bytes_eq parent space then [] else record { space = xmlns_space; local = codes "xmlns" } ∷ []

abbrev declared_names : ℕ → List Attr → List Name
declared_names k [] = []
declared_names k (a ∷ more) = if needs_prefix a then record { space = xmlns_space; local = prefix k } ∷ declared_names (k + 1) more else declared_names k more

abbrev own_names : List Attr → List Name
own_names [] = []
own_names (a ∷ more) = a.name ∷ own_names more

see-default : (L : List (List Binding)) (parent space : List ℕ) → SeeAll L (default_written parent space) (default_names parent space)
see-default L parent space = by (bytes_eq parent space)
  where
    by : (t : Bool) → SeeAll L (if t then [] else record { name = codes "xmlns"; value = space } ∷ [])
        (if t then [] else record { space = xmlns_space; local = codes "xmlns" } ∷ [])
    by true = tt
    by false = ((refl, refl), tt)

see-declared : (L : List (List Binding)) (k : ℕ) (attrs : List Attr) → SeeAll L (declared_written k attrs) (declared_names k attrs)
see-declared L k [] = tt
see-declared L k (a ∷ more) = by (needs_prefix a) (see-declared L (k + 1) more) (see-declared L k more)
  where
    name : List ℕ
    name = codes "xmlns:" ++ prefix k

    by : (t : Bool) → SeeAll L (declared_written (k + 1) more) (declared_names (k + 1) more) → SeeAll L (declared_written k more) (declared_names k more)
        → SeeAll L (if t then record { name = codes "xmlns:" ++ prefix k; value = a.name.space } ∷ declared_written (k + 1) more else declared_written k more)
        (if t then record { space = xmlns_space; local = prefix k } ∷ declared_names (k + 1) more else declared_names k more)
    by true e f =
        let c : IsCut name (codes "xmlns") (prefix k) = cut (codes "xmlns") (prefix k) (refl, (refl, (refl, (refl, (refl, tt))))) in
        ((cond-true _ _ _ (declares k).0, c.back), e)
    by false e f = f

see-attributes : (L : List (List Binding)) (ws : List Written) (attrs : List Attr) → NamedAll L ws attrs → SeeAll L ws (own_names attrs)
see-attributes L [] [] n = tt
see-attributes L (w ∷ ws) (a ∷ more) n = ((n.0.space, n.0.local), see-attributes L ws more n.2)
see-attributes L [] (a ∷ more) n = absurd n
see-attributes L (w ∷ ws) [] n = absurd n

abbrev tag_names : List ℕ → List ℕ → List Attr → List Name
tag_names parent space attrs = default_names parent space ++ (declared_names 0 attrs ++ own_names attrs)

see-tag : (L : List (List Binding)) (parent space : List ℕ) (attrs : List Attr) → NamedAll L (attributes_written 0 attrs) attrs
    → SeeAll L (tag_written parent space attrs) (tag_names parent space attrs)
see-tag L parent space attrs n =
    see-append L (default_written parent space) _ (default_names parent space) _ (see-default L parent space)
    (see-append L (declared_written 0 attrs) (attributes_written 0 attrs) (declared_names 0 attrs) (own_names attrs) (see-declared L 0 attrs)
    (see-attributes L (attributes_written 0 attrs) attrs n))

-- No prefix is unbound.

see-bound : (L : List (List Binding)) (ws : List Written) (ns : List Name) → SeeAll L ws ns → has_unbound L ws ≡ false
see-bound L [] [] s = refl
see-bound L (w ∷ ws) (n ∷ ns) s = cond-false _ _ _ (ap is_unbound s.0.0) ∙ see-bound L ws ns s.1
see-bound L [] (n ∷ ns) s = absurd s
see-bound L (w ∷ ws) [] s = absurd s

-- No two have one name.

abbrev is_same : Name → Name → Bool
is_same n m = bytes_eq n.local m.local && bytes_eq m.space n.space

abbrev Apart : Name → List Name → Type 0
Apart n ms = AllByRecursion (λ m. is_same n m ≡ false) ms

abbrev AllApart : List Name → Type 0
AllApart [] = Unit {0}
AllApart (n ∷ ns) = Apart n ns × AllApart ns

see-same : (L : List (List Binding)) (w v : Written) (n m : Name) → Sees L w n → Sees L v m → is_twin L w v ≡ is_same n m
see-same L w v n m a b =
    ap (λ (x : List ℕ). bytes_eq x (local_of v.name) && same_space (attribute_space L w.name) (attribute_space L v.name)) a.1
    ∙ (ap (λ (x : List ℕ). bytes_eq n.local x && same_space (attribute_space L w.name) (attribute_space L v.name)) b.1
    ∙ (ap (λ (x : Option (List ℕ)). bytes_eq n.local m.local && same_space x (attribute_space L v.name)) a.0
    ∙ ap (λ (x : Option (List ℕ)). bytes_eq n.local m.local && same_space (Some n.space) x) b.0))

see-no_twin : (L : List (List Binding)) (w : Written) (n : Name) (ws : List Written) (ns : List Name) → Sees L w n → SeeAll L ws ns → Apart n ns
    → has_twin L w ws ≡ false
see-no_twin L w n [] [] a s d = refl
see-no_twin L w n (v ∷ ws) (m ∷ ns) a s d = cond-false _ _ _ (see-same L w v n m a s.0 ∙ d.0) ∙ see-no_twin L w n ws ns a s.1 d.1
see-no_twin L w n [] (m ∷ ns) a s d = absurd s
see-no_twin L w n (v ∷ ws) [] a s d = absurd s

see-no_twins : (L : List (List Binding)) (ws : List Written) (ns : List Name) → SeeAll L ws ns → AllApart ns → has_twins L ws ≡ false
see-no_twins L [] [] s d = refl
see-no_twins L (w ∷ ws) (n ∷ ns) s d = cond-false _ _ _ (see-no_twin L w n ws ns s.0 s.1 d.0) ∙ see-no_twins L ws ns s.1 d.1
see-no_twins L [] (n ∷ ns) s d = absurd s
see-no_twins L (w ∷ ws) [] s d = absurd s

and-false : (s t : Bool) → t ≡ false → (s && t) ≡ false
and-false true t e = e
and-false false t e = refl

and-first : (s t : Bool) → s ≡ false → (s && t) ≡ false
and-first true t e = false-true (sym e)
and-first false t e = refl

-- a declaration and an attribute
apart-own : (n : Name) (attrs : List Attr) → n.space ≡ xmlns_space → AllByRecursion IsAttribute attrs → Apart n (own_names attrs)
apart-own n [] e is = tt
apart-own n (a ∷ more) e is = (and-false (bytes_eq n.local a.name.local) _ (ap (λ (s : List ℕ). bytes_eq a.name.space s) e ∙ is.0.3), apart-own n more e is.1)

apart-declared : (n : Name) (k : ℕ) (attrs : List Attr) → ((i : ℕ) → k ≤ i → i < 2 ^ 64 → bytes_eq n.local (prefix i) ≡ false) → k + length attrs < 2 ^ 64
    → Apart n (declared_names k attrs)
apart-declared n k [] other h = tt
apart-declared n k (a ∷ more) other h =
    cond_both (needs_prefix a) _ _ (Apart n)
    (λ t. (
      and-first (bytes_eq n.local (prefix k)) _ (other k (omega arith) (omega arith)),
      apart-declared n (k + 1) more (λ i l m. other i (omega arith) m)
          (omega arith),
    ))
    (λ t. apart-declared n k more other (omega arith))

apart-append : (n : Name) (ns ms : List Name) → Apart n ns → Apart n ms → Apart n (ns ++ ms)
apart-append n ns ms a b = each-append (λ m. is_same n m ≡ false) ns ms a b

own-apart : (attrs : List Attr) → IsDistinct same_name attrs → AllApart (own_names attrs)
unfolding IsDistinct
own-apart [] d = tt
own-apart (a ∷ more) d = (later a more d.0, own-apart more d.1)
  where
    later : (a : Attr) (more : List Attr) → AllByRecursion (λ b. same_name a b ≡ false) more → Apart a.name (own_names more)
    later a [] e = tt
    later a (b ∷ more) e = (turned (bytes_eq a.name.local b.name.local) a.name.space b.name.space e.0, later a more e.1)
      where
        turned : (t : Bool) (s u : List ℕ) → (t && bytes_eq s u) ≡ false → (t && bytes_eq u s) ≡ false
        turned true s u e = flipped s u e
        turned false s u e = refl

declared-apart : (k : ℕ) (attrs all : List Attr) → k + length attrs < 2 ^ 64 → AllByRecursion IsAttribute all → IsDistinct same_name all
    → AllApart (declared_names k attrs ++ own_names all)
declared-apart k [] all h is d = own-apart all d
declared-apart k (a ∷ more) all h is d =
    cond_both (needs_prefix a) _ _ (λ (l : List Name). AllApart (l ++ own_names all))
    (λ t. (
      apart-append (record { space = xmlns_space; local = prefix k }) (declared_names (k + 1) more) (own_names all)
          (apart-declared (record { space = xmlns_space; local = prefix k }) (k + 1) more (λ i l m. prefix-other k i (omega arith) m) (omega arith))
          (apart-own (record { space = xmlns_space; local = prefix k }) all refl is),
      declared-apart (k + 1) more all (omega arith) is d,
    ))
    (λ t. declared-apart k more all (omega arith) is d)

tag-apart : (parent space : List ℕ) (attrs : List Attr) → length attrs < 2 ^ 64 → AllByRecursion IsAttribute attrs → IsDistinct same_name attrs
    → AllApart (tag_names parent space attrs)
tag-apart parent space attrs h is d =
    cond_both (bytes_eq parent space) _ _ (λ (l : List Name). AllApart (l ++ (declared_names 0 attrs ++ own_names attrs)))
    (λ t. declared-apart 0 attrs attrs (omega arith) is d)
    (λ t. (
      apart-append xmlns (declared_names 0 attrs) (own_names attrs) (apart-declared xmlns 0 attrs (λ i l m. refl) (omega arith))
          (apart-own xmlns attrs refl is),
      declared-apart 0 attrs attrs (omega arith) is d,
    ))
  where
    xmlns : Name
    xmlns = record { space = xmlns_space; local = codes "xmlns" }

-- No declaration is forbidden.

abbrev IsFair : Written → Type 0
IsFair w = is_forbidden w ≡ false

fair-all : (ws : List Written) → AllByRecursion IsFair ws → has_forbidden ws ≡ false
fair-all [] e = refl
fair-all (w ∷ ws) e = cond-false _ _ _ e.0 ∙ fair-all ws e.1

may-default : (space : List ℕ) → bytes_eq space xml_space ≡ false → bytes_eq space xmlns_space ≡ false → may_declare [] space ≡ true
may-default space x y = and_from _ _ (ap not x) (and_from _ _ (ap not y) refl)

not-true : (t : Bool) → not t ≡ true → t ≡ false
not-true true h = false-true h
not-true false h = refl

may-prefix : (k : ℕ) (a : Attr) → needs_prefix a ≡ true → IsAttribute a → may_declare (prefix k) a.name.space ≡ true
unfolding needs_prefix
may-prefix k a n is =
    let (some, other) = and_parts (not (bytes_eq a.name.space [])) (not (bytes_eq a.name.space xml_space)) n in
    and_from _ _ other (and_from _ _ (ap not is.3) some)

fair-default : (parent space : List ℕ) → bytes_eq space xml_space ≡ false → bytes_eq space xmlns_space ≡ false
    → AllByRecursion IsFair (default_written parent space)
fair-default parent space x y = cond_both (bytes_eq parent space) _ _ (AllByRecursion IsFair) (λ t. tt) (λ t. (ap not (may-default space x y), tt))

fair-declared : (k : ℕ) (attrs : List Attr) → AllByRecursion IsAttribute attrs → AllByRecursion IsFair (declared_written k attrs)
fair-declared k [] is = tt
fair-declared k (a ∷ more) is =
    cond_both (needs_prefix a) _ _ (AllByRecursion IsFair)
    (λ t. (and-false _ _ (ap not (ap (λ (p : List ℕ). may_declare p a.name.space) (declares k).1 ∙ may-prefix k a t is.0)), fair-declared (k + 1) more is.1))
    (λ t. fair-declared k more is.1)

fair-attributes : (L : List (List Binding)) (ws : List Written) (attrs : List Attr) → NamedAll L ws attrs → AllByRecursion IsFair ws
fair-attributes L [] [] n = tt
fair-attributes L (w ∷ ws) (a ∷ more) n = (and-first _ _ n.0.attribute, fair-attributes L ws more n.2)
fair-attributes L [] (a ∷ more) n = absurd n
fair-attributes L (w ∷ ws) [] n = absurd n

fair-tag : (L : List (List Binding)) (parent : List ℕ) (name : Name) (attrs : List Attr) → IsElementName name → AllByRecursion IsAttribute attrs
    → NamedAll L (attributes_written 0 attrs) attrs
    → has_forbidden (tag_written parent name.space attrs) ≡ false
fair-tag L parent name attrs e is n =
    fair-all (tag_written parent name.space attrs) (each-append IsFair (default_written parent name.space) _ (fair-default parent name.space e.2 e.3)
    (each-append IsFair (declared_written 0 attrs) _ (fair-declared 0 attrs is) (fair-attributes L (attributes_written 0 attrs) attrs n)))

-- The tag.

space-found : (L : List (List Binding)) (name : Name) → IsNcName name.local → Under L name.space → space_of L (prefix_of name.local) ≡ Some name.space
space-found L name n u = ap (space_of L) (cond-false _ _ _ (bare name.local (ncname-colon name.local n))) ∙ u.0

or-false : (s t : Bool) → s ≡ false → t ≡ false → (s || t) ≡ false
or-false true t e f = e
or-false false t e f = f

-- a start tag, as it is written, has no fault by its names inside its bindings, and these give the name and the attributes
pub record IsResolved (L : List (List Binding)) (parent : List ℕ) (name : Name) (attrs : List Attr) : Type 0 where
  pub sound : tag_fault L name.local (tag_written parent name.space attrs) ≡ None
  pub named : name_on L name.local ≡ name
  pub told : attrs_on L (tag_written parent name.space attrs) ≡ attrs

attrs-append : (L : List (List Binding)) (ws vs : List Written) → attrs_on L (ws ++ vs) ≡ attrs_on L ws ++ attrs_on L vs
attrs-append L [] vs = refl
attrs-append L (w ∷ ws) vs = by (is_declaration w.name) (attrs-append L ws vs)
  where
    by : (t : Bool) → attrs_on L (ws ++ vs) ≡ attrs_on L ws ++ attrs_on L vs
        → (if t then attrs_on L (ws ++ vs) else attr_on L w ∷ attrs_on L (ws ++ vs)) ≡ (if t then attrs_on L ws else attr_on L w ∷ attrs_on L ws)
        ++ attrs_on L vs
    by true e = e
    by false e = ap (λ (l : List Attr). attr_on L w ∷ l) e

attrs-default : (L : List (List Binding)) (parent space : List ℕ) → attrs_on L (default_written parent space) ≡ []
attrs-default L parent space = cond_both (bytes_eq parent space) _ _ (λ (l : List Written). attrs_on L l ≡ []) (λ t. refl) (λ t. refl)

attrs-declared : (L : List (List Binding)) (k : ℕ) (attrs : List Attr) → attrs_on L (declared_written k attrs) ≡ []
attrs-declared L k [] = refl
attrs-declared L k (a ∷ more) =
    cond_both (needs_prefix a) _ _ (λ (l : List Written). attrs_on L l ≡ []) (λ t. cond-true _ _ _ (declares k).0 ∙ attrs-declared L (k + 1) more)
    (λ t. attrs-declared L k more)

attrs-tag : (L : List (List Binding)) (parent space : List ℕ) (attrs : List Attr) → NamedAll L (attributes_written 0 attrs) attrs
    → attrs_on L (tag_written parent space attrs) ≡ attrs
attrs-tag L parent space attrs n =
    attrs-append L (default_written parent space) (declared_written 0 attrs ++ attributes_written 0 attrs)
    ∙ (ap (λ (l : List Attr). l ++ attrs_on L (declared_written 0 attrs ++ attributes_written 0 attrs)) (attrs-default L parent space)
    ∙ (attrs-append L (declared_written 0 attrs) (attributes_written 0 attrs)
    ∙ (ap (λ (l : List Attr). l ++ attrs_on L (attributes_written 0 attrs)) (attrs-declared L 0 attrs) ∙ named-attrs L (attributes_written 0 attrs) attrs n)))

pub tag-resolved : (layers : List (List Binding)) (parent : List ℕ) (name : Name) (attrs : List Attr) → length attrs < 2 ^ 64 → IsElementName name
    → AllByRecursion IsAttribute attrs → IsDistinct same_name attrs → Under layers parent
    → IsResolved (inner layers parent name.space attrs) parent name attrs
tag-resolved layers parent name attrs h e is d u =
    let L : List (List Binding) = inner layers parent name.space attrs in
    let n : NamedAll L (attributes_written 0 attrs) attrs = tag-named layers parent name.space attrs h is u in
    let s : SeeAll L (tag_written parent name.space attrs) (tag_names parent name.space attrs) = see-tag L parent name.space attrs n in
    let found : space_of L (prefix_of name.local) ≡ Some name.space = space-found L name e.0 (inner-under layers parent name.space attrs h u) in record {
      sound = cond-false _ _ _ (or-false _ _ (ap is_unbound found) (see-bound L (tag_written parent name.space attrs) (tag_names parent name.space attrs) s))
          ∙ cond-false _ _ _ (or-false _ _ (ap (λ (o : Option (List ℕ)). is_bound_to o xml_space) found ∙ e.2)
          (or-false _ _ (fair-tag L parent name attrs e is n)
          (see-no_twins L (tag_written parent name.space attrs) (tag_names parent name.space attrs) s (tag-apart parent name.space attrs h is d))));
      named = ap (λ (o : Option (List ℕ)). record { space = or_none o; local = local_of name.local }) found
          ∙ ap (λ (l : List ℕ). record { space = name.space; local = l }) (cond-false _ _ _ (bare name.local (ncname-colon name.local e.0)));
      told = attrs-tag L parent name.space attrs n;
    }
