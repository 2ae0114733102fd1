-- How long a stamped stanza and a frame can be.
use Rattle.std.proofs.Common.{◌≡◌, ℕ, ◌+◌, ◌*◌, ◌≤◌, List, [], ◌∷◌, ◌++◌, length, Bool, true, false, not, ◌&&◌}
use Rattle.std.proofs.Common.{codes, if◌then◌else◌, refl, ap, arith, length-append, flat_map}
use Rattle.std.proofs.lemmas.Grind.{common_steps}
use Rattle.stanza_tree.specs.declared.node.Attr.{Attr}
use Rattle.stanza_tree.specs.declared.node.Element.{Element}
use Rattle.stanza_tree.specs.Attributes.{is_named}
use Rattle.stanza_tree.specs.Spelling.{escaped_in_words, escaped_in_value, words_text, value_text, needs_prefix, declarations, prefixed}
use Rattle.stanza_tree.specs.Spelling.{unprefixed, attributes, named, opened, closed, client_space, texts_under, text}
use Rattle.stanza_tree.specs.Stamps.{sent_by, from_text, stamped_text}
use Rattle.stanza_tree.specs.declared.frame.Entry.{Entry}
use Rattle.stanza_tree.specs.Entries.{frame}
use Rattle.stanza_tree.proofs.SpellingLemmas.{text_under-parts}
use Rattle.stanza_tree.proofs.StampLemmas.{plain-needs_prefix, text-sent}

words-byte : (b : ℕ) → length (escaped_in_words b) ≤ 6
unfolding escaped_in_words
words-byte b = grind (arith, common_steps)

value-byte : (b : ℕ) → length (escaped_in_value b) ≤ 6
unfolding escaped_in_value
value-byte b = grind (arith, common_steps, words-byte b)

escaped-bound : (f : ℕ → List ℕ) → ((b : ℕ) → length (f b) ≤ 6) → (bytes : List ℕ) → length (flat_map f bytes) ≤ 6 * length bytes
escaped-bound f here [] = omega arith
escaped-bound f here (b ∷ bytes) = omega (arith, here b, escaped-bound f here bytes, length-append (f b) (flat_map f bytes))

-- an escape has at most six bytes
pub length-words_text-le : (bytes : List ℕ) → length (words_text bytes) ≤ 6 * length bytes
length-words_text-le bytes = escaped-bound escaped_in_words words-byte bytes

pub length-value_text-le : (bytes : List ℕ) → length (value_text bytes) ≤ 6 * length bytes
length-value_text-le bytes = escaped-bound escaped_in_value value-byte bytes

stamp-step : (t p f w : Bool) (c m : ℕ) (P U F S0 S1 T A0 A1 : List ℕ) → (t ≡ true → p ≡ false) → (w ≡ false → m ≡ c) → length F ≤ c
    → length S0 ≤ length A0 + m → length S1 ≤ length A1 + m → length T ≤ length A0
    → length (if t then S0 else if p then P ++ S1 else if f && not w then F ++ T else U ++ S0) ≤ length (if p then P ++ A1 else U ++ A0) + m
stamp-step true true f w c m P U F S0 S1 T A0 A1 plain e short h0 h1 h = absurd (let z : true ≡ false = plain refl in cc)
stamp-step true false f w c m P U F S0 S1 T A0 A1 plain e short h0 h1 h = omega (arith, length-append U A0)
stamp-step false true f w c m P U F S0 S1 T A0 A1 plain e short h0 h1 h = omega (arith, length-append P S1, length-append P A1)
stamp-step false false true true c m P U F S0 S1 T A0 A1 plain e short h0 h1 h = omega (arith, length-append U S0, length-append U A0)
stamp-step false false true false c m P U F S0 S1 T A0 A1 plain e short h0 h1 h = omega (arith, e refl, length-append F T, length-append U A0)
stamp-step false false false w c m P U F S0 S1 T A0 A1 plain e short h0 h1 h = omega (arith, length-append U S0, length-append U A0)

written-bound : (k : ℕ) (from : List ℕ) (attrs : List Attr) → length (stamped_text true k from attrs) ≤ length (attributes k attrs) + 0
written-bound k from [] = omega arith
written-bound k from (a ∷ more) =
    stamp-step (is_named (codes "to") a) (needs_prefix a) (is_named (codes "from") a) true (length (from_text from)) 0 (prefixed k a) (unprefixed a)
    (from_text from)
    (stamped_text true k from more) (stamped_text true (k + 1) from more) (stamped_text true k from more) (attributes k more) (attributes (k + 1) more)
    (plain-needs_prefix (codes "to") a) (λ h. absurd (let z : true ≡ false = h in cc)) (omega arith) (written-bound k from more)
    (written-bound (k + 1) from more)
    (omega (arith, written-bound k from more))

stamped-bound : (k : ℕ) (from : List ℕ) (attrs : List Attr) → length (stamped_text false k from attrs) ≤ length (attributes k attrs) + length (from_text from)
stamped-bound k from [] = omega arith
stamped-bound k from (a ∷ more) =
    stamp-step (is_named (codes "to") a) (needs_prefix a) (is_named (codes "from") a) false (length (from_text from)) (length (from_text from)) (prefixed k a)
    (unprefixed a) (from_text from)
    (stamped_text false k from more) (stamped_text false (k + 1) from more) (stamped_text true k from more) (attributes k more) (attributes (k + 1) more)
    (plain-needs_prefix (codes "to") a) (λ h. refl) (omega arith) (stamped-bound k from more) (stamped-bound (k + 1) from more)
    (omega (arith, written-bound k from more))

length-from_text : (from : List ℕ) → length (from_text from) ≡ 8 + length (value_text from)
length-from_text from = grind (arith, common_steps)

length-text : (e : Element)
    → length (text e) ≡ length (named client_space e.name) + length (declarations 0 e.attrs) + length (attributes 0 e.attrs) + length
    (closed e.name.local (texts_under e.name.space e.children))
unfolding opened
length-text e = grind (arith, common_steps, ap length (text_under-parts client_space e))

-- a stanza grows by at most the sender's address
pub length-text-sent-le : (from : List ℕ) (e : Element) → length (text (sent_by from e)) ≤ length (text e) + 8 + 6 * length from
length-text-sent-le from e =
    grind (arith, common_steps, ap length (text-sent from e), length-text e, length-from_text from, length-value_text-le from, stamped-bound 0 from e.attrs)

-- a frame is its entry's text and the address
pub length-frame : (e : Entry) → length (frame e) ≡ length e.rest + 6 + length (value_text e.to)
length-frame e = grind (arith, common_steps)
