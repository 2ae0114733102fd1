-- The names of a canonical start tag in their namespaces: what each is, one by one.
use Rattle.std.proofs.Common.{◌≡◌, ℕ, suc, ◌+◌, ◌<◌, ◌≤◌, ◌^◌, inl, inr, List, [], ◌∷◌, ◌++◌, length, take, drop, refl, sym}
use Rattle.std.proofs.Common.{ap, ◌∙◌, subst, Bool, true, false, not, arith, codes, length-append}
use Rattle.std.proofs.lemmas.Bool.{cond-true, cond-false, cases_lt, lt-ltb, le-ltb}
use Rattle.std.proofs.lemmas.Bool.Decides.{nat_tests}
use Rattle.std.proofs.lemmas.Fmt.{decimal_is_IsNumeral, decimal_injective}
use Rattle.std.proofs.lemmas.Slice.Eq.{bytes_eq-Decides}
use Rattle.std.proofs.lemmas.Str.Parse.{digit_from_value}
use Rattle.std.proofs.Math.Seq.{take-append_seam, drop-append-add}
use Rattle.std.specs.Fmt.{decimal}
use Rattle.std.specs.Str.Parse.{AllDigits}
use Rattle.std.specs.List.{AllByRecursion}
use Rattle.std.specs.Prelude.{encode_utf8, encode_utf8_all, if◌then◌else◌, bytes_eq, ◌==◌, ◌&&◌, ◌||◌, Some}
use Rattle.stanza_tree.specs.declared.node.Attr.{Attr}
use Rattle.stanza_tree.specs.Spelling.{needs_prefix, prefix}
use Rattle.stream_lex.proofs.Lists.{false-true, true-false, same_tail}
use Rattle.stream_lex.proofs.Spans.{encode1}
use Rattle.stream_lex.specs.grammar.Classes.{name_starts, name_characters}
use Rattle.stream_grammar.specs.declared.namespaces.Binding.{Binding}
use Rattle.stream_grammar.specs.grammar.Namespaces.{space_before, xml_space, colon_at, has_prefix, prefix_of, local_of}
use Rattle.stream_grammar.specs.grammar.Namespaces.{is_declaration, declared_prefix, last_layer, space_of, attribute_space}
use Rattle.stream_grammar.specs.grammar.Proper.{continues_name, IsNcName, IsAttribute}
use Rattle.stream_laws.proofs.RoundTripNames.{all_under, under, implied, start-continues}
use Rattle.stream_laws.proofs.RoundTripText.{AllHigh, high-bytes, by_test}
use Rattle.stream_laws.proofs.RoundTripSpelling.{prefixed_name, unprefixed_name, each-append}

-- Colons.

abbrev pub NoColon : List ℕ → Type 0
NoColon bs = AllByRecursion (λ b. (b == 58) ≡ false) bs

one-more : (n : ℕ) → 1 + n ≡ suc n
one-more n = omega arith

colon-none : (n : List ℕ) → NoColon n → colon_at n ≡ length n
colon-none [] e = refl
colon-none (b ∷ bs) e = cond-false _ _ _ e.0 ∙ (ap (λ (n : ℕ). 1 + n) (colon-none bs e.1) ∙ one-more (length bs))

colon-first : (p l : List ℕ) → NoColon p → colon_at (p ++ (58 ∷ l)) ≡ length p
colon-first [] l e = refl
colon-first (b ∷ bs) l e = cond-false _ _ _ e.0 ∙ (ap (λ (n : ℕ). 1 + n) (colon-first bs l e.1) ∙ one-more (length bs))

pub bare : (n : List ℕ) → NoColon n → has_prefix n ≡ false
bare n e = le-ltb (colon_at n) (length n) (let f = colon-none n e in omega arith)

-- a name with a prefix
pub record IsCut (name p l : List ℕ) : Type 0 where
  pub has : has_prefix name ≡ true
  pub front : prefix_of name ≡ p
  pub back : local_of name ≡ l

pub cut : (p l : List ℕ) → NoColon p → IsCut (p ++ (58 ∷ l)) p l
cut p l e =
    let name : List ℕ = p ++ (58 ∷ l) in
    let at : colon_at name ≡ length p = colon-first p l e in
    let has : has_prefix name ≡ true = lt-ltb (colon_at name) (length name) (omega (arith, at, length-append p (58 ∷ l))) in record {
      has = has;
      front = cond-true _ _ _ has ∙ (ap (λ (n : ℕ). take n name) at ∙ take-append_seam p (58 ∷ l));
      back = cond-true _ _ _ has ∙ (ap (λ (n : ℕ). drop (n + 1) name) at ∙ drop-append-add p (58 ∷ l) 1);
    }

-- no colon stands in a name without colons

no_colon_low : ℕ → Bool
no_colon_low c = not (continues_name c) || not (c == 58)

colons-low : all_under 128 no_colon_low ≡ true
unfolding no_colon_low name_starts name_characters
colons-low = refl

not-is : (t : Bool) → not t ≡ true → t ≡ false
not-is true h = false-true h
not-is false h = refl

low-colon : (c : ℕ) → c < 128 → continues_name c ≡ true → (c == 58) ≡ false
unfolding no_colon_low
low-colon c l e = not-is (c == 58) (implied (continues_name c) (not (c == 58)) (under 128 no_colon_low colons-low c l) e)

high-colon : (bs : List ℕ) → AllHigh bs → NoColon bs
high-colon [] a = tt
high-colon (b ∷ bs) a = (differs b a.0, high-colon bs a.1)
  where
    differs : (b : ℕ) → 128 ≤ b → (b == 58) ≡ false
    differs b h = grind (arith, nat_tests)

character-colon : (c : ℕ) → continues_name c ≡ true → NoColon (encode_utf8 c)
character-colon c e = elim (cases_lt c 128) [
  | inl l ↦ subst NoColon (sym (encode1 c l)) (low-colon c l e, tt)
  | inr h ↦ high-colon (encode_utf8 c) (high-bytes c h)
]

characters-colon : (cs : List ℕ) → AllByRecursion (λ c. continues_name c ≡ true) cs → NoColon (encode_utf8_all cs)
characters-colon [] e = tt
characters-colon (c ∷ cs) e = each-append (λ b. (b == 58) ≡ false) (encode_utf8 c) (encode_utf8_all cs) (character-colon c e.0) (characters-colon cs e.1)

pub ncname-colon : (n : List ℕ) → IsNcName n → NoColon n
ncname-colon n (c, cs, is, start, more) = subst NoColon is (characters-colon (c ∷ cs) (start-continues c start, more))

digits-colon : (ds : List ℕ) → AllDigits 10 ds → NoColon ds
digits-colon [] d = tt
digits-colon (c ∷ cs) d = (let r = digit_from_value c d.0 in differs c (omega arith), digits-colon cs d.1)
  where
    differs : (c : ℕ) → c < 58 → (c == 58) ≡ false
    differs c h = grind (arith, nat_tests)

prefix-colon : (k : ℕ) → k < 2 ^ 64 → NoColon (prefix k)
prefix-colon k h = (refl, digits-colon (decimal k) (decimal_is_IsNumeral k h).0.1)

-- Two numbers have two prefixes.

pub same-bytes : (xs ys : List ℕ) → bytes_eq xs ys ≡ true → xs ≡ ys
same-bytes xs ys = (bytes_eq-Decides xs ys).0

pub other-bytes : (xs ys : List ℕ) → (xs ≡ ys → ⊥) → bytes_eq xs ys ≡ false
other-bytes xs ys h = by_test (bytes_eq xs ys) (λ e. absurd (h (same-bytes xs ys e))) (λ e. e)

prefix-tail : (j k : ℕ) → prefix j ≡ prefix k → decimal j ≡ decimal k
prefix-tail j k e = same_tail 110 110 (decimal j) (decimal k) e

pub prefix-other : (j k : ℕ) → j < k → k < 2 ^ 64 → bytes_eq (prefix j) (prefix k) ≡ false
prefix-other j k h l = other-bytes (prefix j) (prefix k) (λ e. let same : j ≡ k = decimal_injective j k (omega arith) l (prefix-tail j k e) in omega arith)

-- What is declared.

pub declares : (k : ℕ) → (is_declaration (codes "xmlns:" ++ prefix k) ≡ true) × (declared_prefix (codes "xmlns:" ++ prefix k) ≡ prefix k)
declares k =
    let c : IsCut (codes "xmlns:" ++ prefix k) (codes "xmlns") (prefix k) = cut (codes "xmlns") (prefix k) (refl, (refl, (refl, (refl, (refl, tt))))) in
    (cond-true _ _ _ c.has ∙ ap (λ (x : List ℕ). bytes_eq x (codes "xmlns")) c.front, cond-true _ _ _ c.has ∙ c.back)

-- An attribute as it is written.

pub record IsNamed (name : List ℕ) (a : Attr) (L : List (List Binding)) : Type 0 where
  pub attribute : is_declaration name ≡ false
  pub local : local_of name ≡ a.name.local
  pub space : attribute_space L name ≡ Some a.name.space

in-space : (L : List (List Binding)) (name p l : List ℕ) (s : List ℕ) → IsCut name p l → bytes_eq p (codes "xmlns") ≡ false
    → last_layer (space_before p) L p ≡ Some s → (is_declaration name ≡ false) × (attribute_space L name ≡ Some s)
in-space L name p l s c other e =
    let no : is_declaration name ≡ false = cond-true _ _ _ c.has ∙ (ap (λ (x : List ℕ). bytes_eq x (codes "xmlns")) c.front ∙ other) in
    (no, cond-false _ _ _ no ∙ (cond-true _ _ _ c.has ∙ (ap (space_of L) c.front ∙ (cond-false _ _ _ other ∙ e))))

pub prefixed-named : (k : ℕ) (a : Attr) (L : List (List Binding)) → k < 2 ^ 64 → last_layer (space_before (prefix k)) L (prefix k) ≡ Some a.name.space
    → IsNamed (prefixed_name k a) a L
prefixed-named k a L h e =
    let c : IsCut (prefixed_name k a) (prefix k) a.name.local = cut (prefix k) a.name.local (prefix-colon k h) in
    let (none, is) = in-space L (prefixed_name k a) (prefix k) a.name.local a.name.space c refl e in
    record { attribute = none; local = c.back; space = is }

and-left : (s t : Bool) → (s && t) ≡ false → t ≡ true → s ≡ false
and-left true t e f = absurd (true-false f e)
and-left false t e f = refl

and-right : (s t : Bool) → (s && t) ≡ false → s ≡ true → t ≡ false
and-right true t e f = e
and-right false t e f = false-true f

not-false : (t : Bool) → not t ≡ false → t ≡ true
not-false true e = refl
not-false false e = false-true (sym e)

pub unprefixed-named : (a : Attr) (L : List (List Binding)) → needs_prefix a ≡ false → IsAttribute a
    → last_layer (space_before (codes "xml")) L (codes "xml") ≡ Some xml_space → IsNamed (unprefixed_name a) a L
unfolding needs_prefix
unprefixed-named a L n is e = by (bytes_eq a.name.space []) refl
  where
    local_only : bytes_eq a.name.space [] ≡ true → IsNamed a.name.local a L
    local_only f =
        let b : has_prefix a.name.local ≡ false = bare a.name.local (ncname-colon a.name.local is.0) in
        let no : is_declaration a.name.local ≡ false = cond-false _ _ _ b
        ∙ and-left (bytes_eq a.name.local (codes "xmlns")) (bytes_eq a.name.space []) is.4 f in record {
          attribute = no;
          local = cond-false _ _ _ b;
          space = cond-false _ _ _ no ∙ (cond-false _ _ _ b ∙ ap (λ (s : List ℕ). Some s) (sym (same-bytes a.name.space [] f)));
        }

    in_xml : bytes_eq a.name.space [] ≡ false → IsNamed (codes "xml:" ++ a.name.local) a L
    in_xml f =
        let same : a.name.space ≡ xml_space = same-bytes a.name.space xml_space (not-false _ (and-right (not (bytes_eq a.name.space [])) _ n (ap not f))) in
        let c : IsCut (codes "xml:" ++ a.name.local) (codes "xml") a.name.local = cut (codes "xml") a.name.local (refl, (refl, (refl, tt))) in
        let (none, found) = in-space L (codes "xml:" ++ a.name.local) (codes "xml") a.name.local xml_space c refl e in
        record { attribute = none; local = c.back; space = found ∙ ap (λ (s : List ℕ). Some s) (sym same) }

    by : (t : Bool) → bytes_eq a.name.space [] ≡ t → IsNamed ((if t then [] else codes "xml:") ++ a.name.local) a L
    by true f = local_only f
    by false f = in_xml f
