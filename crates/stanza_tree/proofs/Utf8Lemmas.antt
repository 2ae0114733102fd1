-- What UTF-8 is spelt as is UTF-8.
use Rattle.std.proofs.Common.{◌≡◌, ◌∙◌, ℕ, zero, suc, ◌+◌, ◌<◌, ◌≤◌, ◌^◌, inl, inr, List, [], ◌∷◌, ◌++◌, length, Bool}
use Rattle.std.proofs.Common.{true, false, not, ◌&&◌, nat_lt, codes, bytes_eq, if◌then◌else◌, ◌==◌, flat_map}
use Rattle.std.proofs.Common.{slice_index, drop, refl, sym, ap, subst, append-nil, arith}
use Rattle.std.proofs.lemmas.Bool.{cases_lt, and_parts, and_from, ltb-true, cond-false, cond-true, le-ltb, lt-ltb}
use Rattle.std.proofs.lemmas.Bool.Decides.{nat_tests}
use Rattle.std.proofs.lemmas.Grind.{common_steps, flat_map-append}
use Rattle.std.proofs.lemmas.Str.{IsUtf8-append, IsUtf8-nil, IsUtf8-encode, IsUtf8-from_ascii, encode_ascii}
use Rattle.std.proofs.lemmas.Fmt.{IsAscii-decimal}
use Rattle.std.specs.Fmt.{decimal}
use Rattle.std.specs.Prelude.{IsUtf8, encode_utf8, encode_utf8_all}
use lib.Utf8.{encode, scalars}
use Rattle.stanza_tree.specs.declared.node.Attr.{Attr}
use Rattle.stanza_tree.specs.declared.node.Name.{Name}
use Rattle.stanza_tree.specs.Attributes.{is_named}
use Rattle.stanza_tree.specs.Spelling.{escaped_in_words, escaped_in_value, words_text, value_text, assigned, needs_prefix, prefix, text_with}
use Rattle.stanza_tree.specs.Spelling.{declaration, declarations, prefixed, unprefixed, attributes, default_space, named, opened}
use Rattle.stanza_tree.specs.Spelling.{closed, client_space, text_under, texts_under, text}
use Rattle.stanza_tree.specs.Utf8.{NameIsUtf8, AttrsAreUtf8}
use Rattle.stanza_tree.specs.Stamps.{sent_by, from_text, stamped_text}
use Rattle.stanza_tree.proofs.SpellingLemmas.{text_under-parts, texts-child, texts-words}
use Rattle.stanza_tree.proofs.StampLemmas.{text-sent}
use Rattle.stanza_tree.specs.declared.node.Element.{Element}
use Rattle.stanza_tree.specs.declared.node.Node.{Node}
use Rattle.stanza_tree.specs.declared.node.Node.TheOpen.{Child, Words}
use Rattle.stanza_tree.specs.declared.node.Node.TheViews.{out-Node}

-- Bytes from 128 on stand for themselves.

abbrev AllHigh : List ℕ → Type 0
AllHigh [] = Unit {0}
AllHigh (b ∷ bs) = (128 ≤ b) × AllHigh bs

high-encode : (c : ℕ) → 128 ≤ c → AllHigh (encode_utf8 c)
unfolding encode
high-encode c h = elim (cases_lt c 2048) [
  | inl k ↦ subst AllHigh (sym (cond-false _ _ _ (le-ltb c 128 h) ∙ cond-true _ _ _ (lt-ltb c 2048 k))) (omega arith, (omega arith, tt))
  | inr k ↦ elim (cases_lt c 65536) [
    | inl j ↦ subst AllHigh (sym (cond-false _ _ _ (le-ltb c 128 h) ∙ (cond-false _ _ _ (le-ltb c 2048 k) ∙ cond-true _ _ _ (lt-ltb c 65536 j))))
        (omega arith, (omega arith, (omega arith, tt)))
    | inr j ↦ subst AllHigh (sym (cond-false _ _ _ (le-ltb c 128 h) ∙ (cond-false _ _ _ (le-ltb c 2048 k) ∙ cond-false _ _ _ (le-ltb c 65536 j))))
        (omega arith, (omega arith, (omega arith, (omega arith, tt))))
  ]
]

spelt-high : (f : ℕ → List ℕ) → ((b : ℕ) → 128 ≤ b → f b ≡ b ∷ []) → (bs : List ℕ) → AllHigh bs → flat_map f bs ≡ bs
spelt-high f high [] a = refl
spelt-high f high (b ∷ bs) a = ap (λ (l : List ℕ). l ++ flat_map f bs) (high b a.0) ∙ ap (λ (l : List ℕ). b ∷ l) (spelt-high f high bs a.1)

-- characters below 128 are spelt as UTF-8, and others as they are
spelt-utf8 : (f : ℕ → List ℕ) → ((b : ℕ) → b < 128 → IsUtf8 (f b)) → ((b : ℕ) → 128 ≤ b → f b ≡ b ∷ []) → (cs : List ℕ) → scalars cs ≡ true
    → IsUtf8 (flat_map f (encode_utf8_all cs))
spelt-utf8 f low high [] s = IsUtf8-nil
spelt-utf8 f low high (c ∷ cs) s =
    let parts = and_parts _ _ s in
    let here : IsUtf8 (flat_map f (encode_utf8 c)) = elim (cases_lt c 128) [
      | inl h ↦ subst IsUtf8 (sym (ap (flat_map f) (encode_ascii c h) ∙ append-nil (f c))) (low c h)
      | inr h ↦ subst IsUtf8 (sym (spelt-high f high (encode_utf8 c) (high-encode c h))) (IsUtf8-encode c parts.0)
    ] in
    subst IsUtf8 (sym (flat_map-append f (encode_utf8 c) (encode_utf8_all cs))) (IsUtf8-append _ _ here (spelt-utf8 f low high cs parts.1))

-- Escapes.

abbrev pub all_low : List ℕ → Bool
all_low [] = true
all_low (b ∷ bs) = nat_lt b 128 && all_low bs

low-ascii : (bs : List ℕ) → all_low bs ≡ true → (i : ℕ) → slice_index bs i < 128
low-ascii [] e i = omega arith
low-ascii (b ∷ bs) e zero = ltb-true b 128 (and_parts _ _ e).0
low-ascii (b ∷ bs) e (suc i) = low-ascii bs (and_parts _ _ e).1 i

-- a text of ASCII, by computing
pub ascii-utf8 : (bs : List ℕ) → all_low bs ≡ true → IsUtf8 bs
ascii-utf8 bs e = IsUtf8-from_ascii bs (low-ascii bs e)

byte-utf8 : (b : ℕ) → b < 128 → IsUtf8 (b ∷ [])
byte-utf8 b h = ascii-utf8 (b ∷ []) (and_from _ _ (lt-ltb b 128 h) refl)

chosen-utf8 : (t : Bool) (x y : List ℕ) → IsUtf8 x → IsUtf8 y → IsUtf8 (if t then x else y)
chosen-utf8 true x y u v = u
chosen-utf8 false x y u v = v

low-words : (b : ℕ) → b < 128 → IsUtf8 (escaped_in_words b)
unfolding escaped_in_words
low-words b h =
    chosen-utf8 (b == 38) _ _ (ascii-utf8 (codes "&amp;") refl)
    (chosen-utf8 (b == 60) _ _ (ascii-utf8 (codes "&lt;") refl)
    (chosen-utf8 (b == 62) _ _ (ascii-utf8 (codes "&gt;") refl)
    (chosen-utf8 (b == 10) _ _ (ascii-utf8 (codes "&#10;") refl)
    (chosen-utf8 (b == 13) _ _ (ascii-utf8 (codes "&#13;") refl) (byte-utf8 b h)))))

low-value : (b : ℕ) → b < 128 → IsUtf8 (escaped_in_value b)
unfolding escaped_in_value
low-value b h =
    chosen-utf8 (b == 39) _ _ (ascii-utf8 (codes "&apos;") refl)
    (chosen-utf8 (b == 9) _ _ (ascii-utf8 (codes "&#9;") refl) (low-words b h))

high-words : (b : ℕ) → 128 ≤ b → escaped_in_words b ≡ b ∷ []
unfolding escaped_in_words
high-words b h = grind (arith, nat_tests)

high-value : (b : ℕ) → 128 ≤ b → escaped_in_value b ≡ b ∷ []
unfolding escaped_in_value escaped_in_words
high-value b h = grind (arith, nat_tests)

pub words_text-utf8 : (bs : List ℕ) → IsUtf8 bs → IsUtf8 (words_text bs)
words_text-utf8 bs u = subst (λ (l : List ℕ). IsUtf8 (words_text l)) u.1.1 (spelt-utf8 escaped_in_words low-words high-words u.0 u.1.0)

pub value_text-utf8 : (bs : List ℕ) → IsUtf8 bs → IsUtf8 (value_text bs)
value_text-utf8 bs u = subst (λ (l : List ℕ). IsUtf8 (value_text l)) u.1.1 (spelt-utf8 escaped_in_value low-value high-value u.0 u.1.0)

-- Names and attributes.

abbrev join : (xs ys : List ℕ) → IsUtf8 xs → IsUtf8 ys → IsUtf8 (xs ++ ys)
join = IsUtf8-append

assigned-utf8 : (v : List ℕ) → IsUtf8 v → IsUtf8 (assigned v)
assigned-utf8 v u = join (codes "='" ++ value_text v) (codes "'") (join (codes "='") (value_text v) (ascii-utf8 (codes "='") refl) (value_text-utf8 v u))
    (ascii-utf8 (codes "'") refl)

prefix-utf8 : (k : ℕ) → k < 2 ^ 64 → IsUtf8 (prefix k)
prefix-utf8 k h = join (codes "n") (decimal k) (ascii-utf8 (codes "n") refl) (IsUtf8-from_ascii (decimal k) (IsAscii-decimal k h))

declaration-utf8 : (k : ℕ) (a : Attr) → k < 2 ^ 64 → NameIsUtf8 a.name → IsUtf8 (declaration k a)
unfolding declaration
declaration-utf8 k a h n =
    join (codes " xmlns:" ++ prefix k) (assigned a.name.space) (join (codes " xmlns:") (prefix k) (ascii-utf8 (codes " xmlns:") refl) (prefix-utf8 k h))
    (assigned-utf8 a.name.space n.0)

prefixed-utf8 : (k : ℕ) (a : Attr) → k < 2 ^ 64 → NameIsUtf8 a.name → IsUtf8 a.value → IsUtf8 (prefixed k a)
unfolding prefixed
prefixed-utf8 k a h n v =
    let start = join (codes " ") (prefix k) (ascii-utf8 (codes " ") refl) (prefix-utf8 k h) in
    let colon = join (codes " " ++ prefix k) (codes ":") start (ascii-utf8 (codes ":") refl) in
    join (codes " " ++ prefix k ++ codes ":" ++ a.name.local) (assigned a.value) (join (codes " " ++ prefix k ++ codes ":") a.name.local colon n.1)
    (assigned-utf8 a.value v)

unprefixed-utf8 : (a : Attr) → NameIsUtf8 a.name → IsUtf8 a.value → IsUtf8 (unprefixed a)
unfolding unprefixed
unprefixed-utf8 a n v =
    let xml : List ℕ = if bytes_eq a.name.space [] then [] else codes "xml:" in
    let start = join (codes " ") xml (ascii-utf8 (codes " ") refl)
    (chosen-utf8 (bytes_eq a.name.space []) [] (codes "xml:") IsUtf8-nil (ascii-utf8 (codes "xml:") refl)) in
    join (codes " " ++ xml ++ a.name.local) (assigned a.value) (join (codes " " ++ xml) a.name.local start n.1) (assigned-utf8 a.value v)

declarations-utf8 : (k : ℕ) (attrs : List Attr) → k + length attrs < 2 ^ 64 → AttrsAreUtf8 attrs → IsUtf8 (declarations k attrs)
declarations-utf8 k [] h u = IsUtf8-nil
declarations-utf8 k (a ∷ more) h u =
    chosen-utf8 (needs_prefix a) (declaration k a ++ declarations (k + 1) more) (declarations k more)
    (join (declaration k a) (declarations (k + 1) more) (declaration-utf8 k a (omega arith) u.0) (declarations-utf8 (k + 1) more (omega arith) u.2))
    (declarations-utf8 k more (omega arith) u.2)

attributes-utf8 : (k : ℕ) (attrs : List Attr) → k + length attrs < 2 ^ 64 → AttrsAreUtf8 attrs → IsUtf8 (attributes k attrs)
attributes-utf8 k [] h u = IsUtf8-nil
attributes-utf8 k (a ∷ more) h u =
    chosen-utf8 (needs_prefix a) (prefixed k a ++ attributes (k + 1) more) (unprefixed a ++ attributes k more)
    (join (prefixed k a) (attributes (k + 1) more) (prefixed-utf8 k a (omega arith) u.0 u.1) (attributes-utf8 (k + 1) more (omega arith) u.2))
    (join (unprefixed a) (attributes k more) (unprefixed-utf8 a u.0 u.1) (attributes-utf8 k more (omega arith) u.2))

from_text-utf8 : (from : List ℕ) → IsUtf8 from → IsUtf8 (from_text from)
from_text-utf8 from f = join (codes " from") (assigned from) (ascii-utf8 (codes " from") refl) (assigned-utf8 from f)

stamped_text-utf8 : (written : Bool) (k : ℕ) (from : List ℕ) (attrs : List Attr) → k + length attrs < 2 ^ 64 → IsUtf8 from → AttrsAreUtf8 attrs
    → IsUtf8 (stamped_text written k from attrs)
stamped_text-utf8 true k from [] h f u = IsUtf8-nil
stamped_text-utf8 false k from [] h f u = from_text-utf8 from f
stamped_text-utf8 written k from (a ∷ more) h f u =
    chosen-utf8 (is_named (codes "to") a) _ _ (stamped_text-utf8 written k from more (omega arith) f u.2)
    (chosen-utf8 (needs_prefix a) _ _
    (join (prefixed k a) _ (prefixed-utf8 k a (omega arith) u.0 u.1) (stamped_text-utf8 written (k + 1) from more (omega arith) f u.2))
    (chosen-utf8 (is_named (codes "from") a && not written) _ _
    (join (from_text from) _ (from_text-utf8 from f) (stamped_text-utf8 true k from more (omega arith) f u.2))
    (join (unprefixed a) _ (unprefixed-utf8 a u.0 u.1) (stamped_text-utf8 written k from more (omega arith) f u.2))))

named-utf8 : (parent : List ℕ) (name : Name) → NameIsUtf8 name → IsUtf8 (named parent name)
unfolding named
named-utf8 parent name n =
    join (codes "<" ++ name.local) (default_space parent name.space) (join (codes "<") name.local (ascii-utf8 (codes "<") refl) n.1)
    (chosen-utf8 (bytes_eq parent name.space) [] (codes " xmlns" ++ assigned name.space) IsUtf8-nil
    (join (codes " xmlns") (assigned name.space) (ascii-utf8 (codes " xmlns") refl) (assigned-utf8 name.space n.0)))

closed-utf8 : (local content : List ℕ) → IsUtf8 local → IsUtf8 content → IsUtf8 (closed local content)
unfolding closed
closed-utf8 local content l c =
    let start = join (codes ">" ++ content) (codes "</") (join (codes ">") content (ascii-utf8 (codes ">") refl) c) (ascii-utf8 (codes "</") refl) in
    let whole = join (codes ">" ++ content ++ codes "</" ++ local) (codes ">") (join (codes ">" ++ content ++ codes "</") local start l)
    (ascii-utf8 (codes ">") refl) in
    chosen-utf8 (length content == 0) (codes "/>") (codes ">" ++ content ++ codes "</" ++ local ++ codes ">") (ascii-utf8 (codes "/>") refl) whole

-- Elements.

-- an element whose texts are UTF-8 is spelt in UTF-8
pub element-utf8 : (parent : List ℕ) (e : Element) → length e.attrs < 2 ^ 64 → NameIsUtf8 e.name → AttrsAreUtf8 e.attrs
    → IsUtf8 (texts_under e.name.space e.children) → IsUtf8 (text_under parent e)
unfolding opened
element-utf8 parent e few n a c =
    let start = join (named parent e.name) (declarations 0 e.attrs) (named-utf8 parent e.name n) (declarations-utf8 0 e.attrs (omega arith) a) in
    let tag = join (named parent e.name ++ declarations 0 e.attrs) (attributes 0 e.attrs) start (attributes-utf8 0 e.attrs (omega arith) a) in
    subst IsUtf8 (sym (text_under-parts parent e))
    (join (opened parent e.name e.attrs) (closed e.name.local (texts_under e.name.space e.children)) tag
    (closed-utf8 e.name.local (texts_under e.name.space e.children) n.1 c))

-- and so is one whose children are spelt already
pub with-utf8 : (e : Element) (content : List ℕ) → length e.attrs < 2 ^ 64 → NameIsUtf8 e.name → AttrsAreUtf8 e.attrs → IsUtf8 content
    → IsUtf8 (text_with e content)
unfolding opened
with-utf8 e content few n a c =
    let start = join (named client_space e.name) (declarations 0 e.attrs) (named-utf8 client_space e.name n) (declarations-utf8 0 e.attrs (omega arith) a) in
    let tag = join (named client_space e.name ++ declarations 0 e.attrs) (attributes 0 e.attrs) start (attributes-utf8 0 e.attrs (omega arith) a) in
    join (opened client_space e.name e.attrs) (closed e.name.local content) tag (closed-utf8 e.name.local content n.1 c)

-- and so is a stanza that it is sent as
pub sent-utf8 : (from : List ℕ) (e : Element) → length e.attrs < 2 ^ 64 → IsUtf8 from → NameIsUtf8 e.name → AttrsAreUtf8 e.attrs
    → IsUtf8 (texts_under e.name.space e.children) → IsUtf8 (text (sent_by from e))
sent-utf8 from e few f n a c =
    let start = join (named client_space e.name) (declarations 0 e.attrs) (named-utf8 client_space e.name n) (declarations-utf8 0 e.attrs (omega arith) a) in
    let tag = join (named client_space e.name ++ declarations 0 e.attrs) (stamped_text false 0 from e.attrs) start
    (stamped_text-utf8 false 0 from e.attrs (omega arith) f a) in
    subst IsUtf8 (sym (text-sent from e))
    (join (named client_space e.name ++ declarations 0 e.attrs ++ stamped_text false 0 from e.attrs)
    (closed e.name.local (texts_under e.name.space e.children)) tag (closed-utf8 e.name.local (texts_under e.name.space e.children) n.1 c))

-- nodes are spelt in UTF-8 where the first and the others are
pub child-utf8 : (s : List ℕ) (n : Node) (ns : List Node) (e : Element) → out-Node n ≡ Child e → IsUtf8 (text_under s e) → IsUtf8 (texts_under s ns)
    → IsUtf8 (texts_under s (n ∷ ns))
child-utf8 s n ns e here first rest = subst IsUtf8 (sym (texts-child s n ns e here)) (join (text_under s e) (texts_under s ns) first rest)

pub words-utf8 : (s : List ℕ) (n : Node) (ns : List Node) (w : List ℕ) → out-Node n ≡ Words w → IsUtf8 w → IsUtf8 (texts_under s ns)
    → IsUtf8 (texts_under s (n ∷ ns))
words-utf8 s n ns w here first rest = subst IsUtf8 (sym (texts-words s n ns w here)) (join (words_text w) (texts_under s ns) (words_text-utf8 w first) rest)

pub end-utf8 : (s : List ℕ) (ns : List Node) (i : ℕ) → length ns ≤ i → IsUtf8 (texts_under s (drop i ns))
end-utf8 s ns i over =
    let e : drop i ns ≡ [] = grind (arith, common_steps) in
    subst (λ (l : List Node). IsUtf8 (texts_under s l)) (sym e) IsUtf8-nil

pub none-utf8 : (bs : List ℕ) → length bs ≡ 0 → IsUtf8 bs
none-utf8 [] none = IsUtf8-nil
none-utf8 (b ∷ bs) none = absurd (omega arith)
