-- The attributes of a canonical start tag as they are written: declarations first.
use Rattle.std.proofs.Common.{◌≡◌, ℕ, ◌+◌, ◌<◌, ◌≤◌, ◌^◌, inl, inr, List, [], ◌∷◌, ◌++◌, length, refl, sym, ap}
use Rattle.std.proofs.Common.{◌∙◌, append_assoc, append-nil, Bool, true, false, arith, codes}
use Rattle.std.proofs.lemmas.Bool.{cond_both}
use Rattle.std.proofs.lemmas.Bool.Decides.{nat_tests}
use Rattle.std.proofs.lemmas.Fmt.{decimal_is_IsNumeral}
use Rattle.std.proofs.lemmas.Str.Parse.{digit_from_value}
use Rattle.std.specs.Fmt.{decimal}
use Rattle.std.specs.Str.Parse.{AllDigits}
use Rattle.std.specs.List.{AllByRecursion}
use Rattle.std.specs.Prelude.{encode_utf8_all, if◌then◌else◌, bytes_eq}
use lib.Utf8.{encode}
use Rattle.stanza_tree.specs.declared.node.Attr.{Attr}
use Rattle.stanza_tree.specs.declared.node.Name.{Name}
use Rattle.stanza_tree.specs.Spelling.{assigned, needs_prefix, prefix, declaration, declarations, prefixed}
use Rattle.stanza_tree.specs.Spelling.{unprefixed, attributes, default_space, named, opened}
use Rattle.stream_lex.proofs.Spans.{encode1}
use Rattle.stream_grammar.specs.declared.namespaces.Written.{Written}
use Rattle.stream_grammar.specs.grammar.Proper.{continues_name, IsNcName, IsXmlText, IsAttribute}
use Rattle.stream_laws.proofs.RoundTripTags.{IsQName, IsWritten, written_one, written_text}

-- an element's namespace, where it differs from its parent's
abbrev pub default_written : List ℕ → List ℕ → List Written
default_written parent space = if bytes_eq parent space then [] else record { name = codes "xmlns"; value = space } ∷ []

-- the prefixes, from the number k on
abbrev pub declared_written : ℕ → List Attr → List Written
declared_written k [] = []
declared_written k (a ∷ more) =
    if needs_prefix a then record { name = codes "xmlns:" ++ prefix k; value = a.name.space } ∷ declared_written (k + 1) more else declared_written k more

abbrev pub prefixed_name : ℕ → Attr → List ℕ
prefixed_name k a = prefix k ++ (58 ∷ a.name.local)

abbrev pub unprefixed_name : Attr → List ℕ
unprefixed_name a = (if bytes_eq a.name.space [] then [] else codes "xml:") ++ a.name.local

abbrev pub attributes_written : ℕ → List Attr → List Written
attributes_written k [] = []
attributes_written k (a ∷ more) =
    if needs_prefix a then record { name = prefixed_name k a; value = a.value } ∷ attributes_written (k + 1) more
    else record { name = unprefixed_name a; value = a.value } ∷ attributes_written k more

abbrev pub tag_written : List ℕ → List ℕ → List Attr → List Written
tag_written parent space attrs = default_written parent space ++ (declared_written 0 attrs ++ attributes_written 0 attrs)

-- They spell the tag.

written-append : (xs ys : List Written) → written_text (xs ++ ys) ≡ written_text xs ++ written_text ys
written-append [] ys = refl
written-append (x ∷ xs) ys = ap (λ (l : List ℕ). written_one x ++ l) (written-append xs ys)
    ∙ sym (append_assoc (written_one x) (written_text xs) (written_text ys))

default-text : (parent space : List ℕ) → default_space parent space ≡ written_text (default_written parent space)
default-text parent space = by (bytes_eq parent space)
  where
    by : (t : Bool) → (if t then [] else codes " xmlns" ++ assigned space)
        ≡ written_text (if t then [] else record { name = codes "xmlns"; value = space } ∷ [])
    by true = refl
    by false = sym (append-nil (codes " xmlns" ++ assigned space))

declared-text : (k : ℕ) (attrs : List Attr) → declarations k attrs ≡ written_text (declared_written k attrs)
unfolding declaration
declared-text k [] = refl
declared-text k (a ∷ more) = by (needs_prefix a) (declared-text (k + 1) more) (declared-text k more)
  where
    by : (t : Bool) → declarations (k + 1) more ≡ written_text (declared_written (k + 1) more) → declarations k more ≡ written_text (declared_written k more)
        → (if t then declaration k a ++ declarations (k + 1) more else declarations k more)
        ≡ written_text (if t then record { name = codes "xmlns:" ++ prefix k; value = a.name.space } ∷ declared_written (k + 1) more else declared_written k
        more)
    by true e f = ap (λ (l : List ℕ). declaration k a ++ l) e
    by false e f = f

prefixed-text : (k : ℕ) (a : Attr) → prefixed k a ≡ written_one (record { name = prefixed_name k a; value = a.value })
unfolding prefixed
prefixed-text k a = ap (λ (l : List ℕ). 32 ∷ (l ++ assigned a.value)) (append_assoc (prefix k) (58 ∷ []) a.name.local)

unprefixed-text : (a : Attr) → unprefixed a ≡ written_one (record { name = unprefixed_name a; value = a.value })
unfolding unprefixed
unprefixed-text a = refl

attributes-text : (k : ℕ) (attrs : List Attr) → attributes k attrs ≡ written_text (attributes_written k attrs)
attributes-text k [] = refl
attributes-text k (a ∷ more) = by (needs_prefix a) (attributes-text (k + 1) more) (attributes-text k more)
  where
    by : (t : Bool) → attributes (k + 1) more ≡ written_text (attributes_written (k + 1) more) → attributes k more ≡ written_text (attributes_written k more)
        → (if t then prefixed k a ++ attributes (k + 1) more else unprefixed a ++ attributes k more)
        ≡ written_text (if t then record { name = prefixed_name k a; value = a.value }
        ∷ attributes_written (k + 1) more else record { name = unprefixed_name a; value = a.value } ∷ attributes_written k more)
    by true e f = ap (λ (l : List ℕ). prefixed k a ++ l) e ∙ ap (λ (l : List ℕ). l ++ written_text (attributes_written (k + 1) more)) (prefixed-text k a)
    by false e f = ap (λ (l : List ℕ). unprefixed a ++ l) f ∙ ap (λ (l : List ℕ). l ++ written_text (attributes_written k more)) (unprefixed-text a)

pub opened-text : (parent : List ℕ) (name : Name) (attrs : List Attr)
    → opened parent name attrs ≡ (60 ∷ name.local) ++ written_text (tag_written parent name.space attrs)
unfolding opened named
opened-text parent name attrs =
    let d : List ℕ = default_space parent name.space in
    let rest : List ℕ = declarations 0 attrs ++ attributes 0 attrs in
    append_assoc ((60 ∷ name.local) ++ d) (declarations 0 attrs) (attributes 0 attrs)
    ∙ (append_assoc (60 ∷ name.local) d rest ∙ ap (λ (l : List ℕ). (60 ∷ name.local) ++ l)
    (ap (λ (l : List ℕ). l ++ rest) (default-text parent name.space)
    ∙ (ap (λ (l : List ℕ). written_text (default_written parent name.space) ++ l)
    (ap (λ (l : List ℕ). l ++ attributes 0 attrs) (declared-text 0 attrs)
    ∙ (ap (λ (l : List ℕ). written_text (declared_written 0 attrs) ++ l) (attributes-text 0 attrs)
    ∙ sym (written-append (declared_written 0 attrs) (attributes_written 0 attrs))))
    ∙ sym (written-append (default_written parent name.space) (declared_written 0 attrs ++ attributes_written 0 attrs)))))

-- They are attributes.

abbrev Continues : ℕ → Type 0
Continues c = continues_name c ≡ true

digit-continues : (c : ℕ) → 48 ≤ c → c ≤ 57 → Continues c
digit-continues c h k = grind (arith, nat_tests)

digits-name : (ds : List ℕ) → AllDigits 10 ds → (encode_utf8_all ds ≡ ds) × AllByRecursion Continues ds
digits-name [] d = (refl, tt)
digits-name (c ∷ cs) d =
    let range = digit_from_value c d.0 in
    let (e, all) = digits-name cs d.1 in (
      ap (λ (l : List ℕ). l ++ encode_utf8_all cs) (encode1 c (omega arith))
          ∙ ap (λ (l : List ℕ). c ∷ l) e,
      (digit-continues c (omega arith) (omega arith), all),
    )

pub prefix-name : (k : ℕ) → k < 2 ^ 64 → IsNcName (prefix k)
prefix-name k h =
    let (e, all) = digits-name (decimal k) (decimal_is_IsNumeral k h).0.1 in
    (110, decimal k, ap (λ (l : List ℕ). l ++ encode_utf8_all (decimal k)) (encode1 110 (omega arith)) ∙ ap (λ (l : List ℕ). 110 ∷ l) e, refl, all)

pub xmlns-name : IsNcName (codes "xmlns")
unfolding encode
xmlns-name = (120, codes "mlns", refl, refl, (refl, (refl, (refl, (refl, tt)))))

pub xml-name : IsNcName (codes "xml")
unfolding encode
xml-name = (120, codes "ml", refl, refl, (refl, (refl, tt)))

default-are : (parent space : List ℕ) → IsXmlText space → AllByRecursion IsWritten (default_written parent space)
default-are parent space x = cond_both (bytes_eq parent space) _ _ (AllByRecursion IsWritten) (λ e. tt) (λ e. ((inl xmlns-name, x), tt))

declared-are : (k : ℕ) (attrs : List Attr) → k + length attrs < 2 ^ 64 → AllByRecursion IsAttribute attrs → AllByRecursion IsWritten (declared_written k attrs)
declared-are k [] h a = tt
declared-are k (x ∷ more) h a =
    cond_both (needs_prefix x) _ _ (AllByRecursion IsWritten)
    (λ e. ((inr (codes "xmlns", prefix k, refl, xmlns-name, prefix-name k (omega arith)), a.0.1), declared-are (k + 1) more (omega arith) a.1))
    (λ e. declared-are k more (omega arith) a.1)

attributes-are : (k : ℕ) (attrs : List Attr) → k + length attrs < 2 ^ 64 → AllByRecursion IsAttribute attrs
    → AllByRecursion IsWritten (attributes_written k attrs)
attributes-are k [] h a = tt
attributes-are k (x ∷ more) h a =
    cond_both (needs_prefix x) _ _ (AllByRecursion IsWritten)
    (λ e. ((inr (prefix k, x.name.local, refl, prefix-name k (omega arith), a.0.0), a.0.2), attributes-are (k + 1) more (omega arith) a.1))
    (λ e. (
      (
        cond_both (bytes_eq x.name.space []) [] (codes "xml:") (λ (l : List ℕ). IsQName (l ++ x.name.local)) (λ f. inl a.0.0)
            (λ f. inr (codes "xml", x.name.local, refl, xml-name, a.0.0)),
        a.0.2,
      ),
      attributes-are k more (omega arith) a.1,
    ))

pub each-append : {X : Type 0} (P : X → Type 0) (xs ys : List X) → AllByRecursion P xs → AllByRecursion P ys → AllByRecursion P (xs ++ ys)
each-append P [] ys a b = b
each-append P (x ∷ xs) ys a b = (a.0, each-append P xs ys a.1 b)

pub tag-are : (parent space : List ℕ) (attrs : List Attr) → length attrs < 2 ^ 64 → IsXmlText space → AllByRecursion IsAttribute attrs
    → AllByRecursion IsWritten (tag_written parent space attrs)
tag-are parent space attrs h x a =
    each-append IsWritten (default_written parent space) _ (default-are parent space x)
    (each-append IsWritten (declared_written 0 attrs) _ (declared-are 0 attrs (omega arith) a) (attributes-are 0 attrs (omega arith) a))
