-- The spelling of a stamped stanza in one pass is the spelling of its changed attributes.
use Rattle.std.proofs.Common.{◌≡◌, ℕ, ◌+◌, List, [], ◌∷◌, ◌++◌, Bool, true, false, ◌&&◌, codes, bytes_eq, if◌then◌else◌, refl, sym, ◌∙◌, append-nil}
use Rattle.std.proofs.lemmas.Bool.{and_parts}
use Rattle.std.proofs.lemmas.Slice.Eq.{bytes_eq-Decides}
use Rattle.stanza_tree.specs.declared.node.Attr.{Attr}
use Rattle.stanza_tree.specs.declared.node.Element.{Element}
use Rattle.stanza_tree.specs.Attributes.{is_named, with_attr, without_attr}
use Rattle.stanza_tree.specs.Spelling.{assigned, needs_prefix, declaration, declarations, prefixed, unprefixed}
use Rattle.stanza_tree.specs.Spelling.{attributes, named, opened, closed, client_space, texts_under, text}
use Rattle.stanza_tree.proofs.SpellingLemmas.{text_under-parts}
use Rattle.stanza_tree.specs.Stamps.{stamped, sent_by, from_text, stamped_text}

-- an attribute in no namespace needs no prefix
pub plain-needs_prefix : (local : List ℕ) (a : Attr) → is_named local a ≡ true → needs_prefix a ≡ false
unfolding needs_prefix
plain-needs_prefix local a h = let e = (and_parts (bytes_eq a.name.local local) (bytes_eq a.name.space []) h).1 in rw e refl

-- and it is spelt by its name
plain-unprefixed : (local value : List ℕ) (a : Attr) → is_named local a ≡ true → unprefixed (record a { value = value }) ≡ codes " " ++ local ++ assigned value
unfolding unprefixed
plain-unprefixed local value a h =
    let parts = and_parts (bytes_eq a.name.local local) (bytes_eq a.name.space []) h in
    let e : a.name.local ≡ local = (bytes_eq-Decides a.name.local local).0 parts.0 in
    rw (parts.1, e) refl

written-step : (t f : Bool) (k : ℕ) (x : List ℕ) (a : Attr) (rest : List Attr) (S : ℕ → List ℕ) → ((j : ℕ) → S j ≡ attributes j rest)
    → (if t then S k else if needs_prefix a then prefixed k a ++ S (k + 1) else if f && false then x else unprefixed a ++ S k)
    ≡ attributes k (if t then rest else a ∷ rest)
written-step true f k x a rest S same = same k
written-step false true k x a rest S same = rw (same (k + 1), same k) refl
written-step false false k x a rest S same = rw (same (k + 1), same k) refl

-- once the address is written, what is left is spelt without its `to`
text-written : (k : ℕ) (from : List ℕ) (attrs : List Attr) → stamped_text true k from attrs ≡ attributes k (without_attr (codes "to") attrs)
text-written k from [] = refl
text-written k from (a ∷ more) =
    written-step (is_named (codes "to") a) (is_named (codes "from") a) k (from_text from ++ stamped_text true k from more) a (without_attr (codes "to") more)
    (λ j. stamped_text true j from more) (λ j. text-written j from more)

open-step : (t f : Bool) (k : ℕ) (from : List ℕ) (a : Attr) (rest : List Attr) (S W : ℕ → List ℕ) → is_named (codes "from") a ≡ f
    → ((j : ℕ) → S j ≡ attributes j (with_attr (codes "from") from rest)) → ((j : ℕ) → W j ≡ attributes j rest)
    → (if t then S k else if needs_prefix a then prefixed k a ++ S (k + 1) else if f && true then from_text from ++ W k else unprefixed a ++ S k)
    ≡ attributes k (with_attr (codes "from") from (if t then rest else a ∷ rest))
unfolding needs_prefix
open-step true f k from a rest S W e same written = same k
open-step false true k from a rest S W e same written =
    rw (e, plain-needs_prefix (codes "from") a e, plain-unprefixed (codes "from") from a e, written k) refl
open-step false false k from a rest S W e same written = rw (e, same (k + 1), same k) refl

first-stamped : (k : ℕ) (from : List ℕ) → from_text from ≡ attributes k (stamped from [])
unfolding needs_prefix unprefixed
first-stamped k from = sym (append-nil _)

-- the spelling in one pass is that of the changed attributes
pub attributes-stamped : (k : ℕ) (from : List ℕ) (attrs : List Attr) → stamped_text false k from attrs ≡ attributes k (stamped from attrs)
attributes-stamped k from [] = first-stamped k from
attributes-stamped k from (a ∷ more) =
    open-step (is_named (codes "to") a) (is_named (codes "from") a) k from a (without_attr (codes "to") more)
    (λ j. stamped_text false j from more) (λ j. stamped_text true j from more) refl (λ j. attributes-stamped j from more) (λ j. text-written j from more)

stamped-declared : (t f : Bool) (k : ℕ) (from : List ℕ) (a : Attr) (rest : List Attr) (S : ℕ → List ℕ) → is_named (codes "to") a ≡ t
    → is_named (codes "from") a ≡ f
    → ((j : ℕ) → declarations j rest ≡ S j) → ((j : ℕ) → declarations j (with_attr (codes "from") from rest) ≡ S j)
    → declarations k (with_attr (codes "from") from (if t then rest else a ∷ rest)) ≡ (if needs_prefix a then declaration k a ++ S (k + 1) else S k)
unfolding needs_prefix
stamped-declared true f k from a rest S d e plain same = rw (plain-needs_prefix (codes "to") a d, same k) refl
stamped-declared false true k from a rest S d e plain same = rw (e, plain-needs_prefix (codes "from") a e, plain k) refl
stamped-declared false false k from a rest S d e plain same = rw (e, same (k + 1), same k) refl

without-declared : (t : Bool) (k : ℕ) (a : Attr) (rest : List Attr) (S : ℕ → List ℕ) → is_named (codes "to") a ≡ t → ((j : ℕ) → declarations j rest ≡ S j)
    → declarations k (if t then rest else a ∷ rest) ≡ (if needs_prefix a then declaration k a ++ S (k + 1) else S k)
without-declared true k a rest S d same = rw (plain-needs_prefix (codes "to") a d, same k) refl
without-declared false k a rest S d same = rw (same (k + 1), same k) refl

declarations-without : (k : ℕ) (attrs : List Attr) → declarations k (without_attr (codes "to") attrs) ≡ declarations k attrs
declarations-without k [] = refl
declarations-without k (a ∷ more) =
    without-declared (is_named (codes "to") a) k a (without_attr (codes "to") more) (λ j. declarations j more) refl (λ j. declarations-without j more)

-- the declared prefixes are the same ones
pub declarations-stamped : (k : ℕ) (from : List ℕ) (attrs : List Attr) → declarations k (stamped from attrs) ≡ declarations k attrs
unfolding needs_prefix
declarations-stamped k from [] = refl
declarations-stamped k from (a ∷ more) =
    stamped-declared (is_named (codes "to") a) (is_named (codes "from") a) k from a (without_attr (codes "to") more) (λ j. declarations j more) refl refl
    (λ j. declarations-without j more) (λ j. declarations-stamped j from more)

-- the parts of a stamped stanza's spelling
pub text-sent : (from : List ℕ) (e : Element)
    → text (sent_by from e) ≡ named client_space e.name ++ declarations 0 e.attrs ++ stamped_text false 0 from e.attrs
    ++ closed e.name.local (texts_under e.name.space e.children)
unfolding opened
text-sent from e = text_under-parts client_space (sent_by from e) ∙ rw (declarations-stamped 0 from e.attrs, ← attributes-stamped 0 from e.attrs) refl
