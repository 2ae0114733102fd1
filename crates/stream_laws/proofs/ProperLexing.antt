-- The tags and the words of a text that is read: whole names, and characters of XML.
use Rattle.std.proofs.Common.{◌≡◌, ℕ, inl, inr, List, [], ◌∷◌, ◌++◌, map, refl, sym, ◌∙◌, subst, append_assoc, append-nil, Bool, true, false}
use Rattle.std.specs.List.{AllByRecursion}
use Rattle.stream_lex.specs.declared.Token.{Token}
use Rattle.stream_lex.specs.declared.Token.TheVariants as token
use Rattle.stream_lex.specs.grammar.Classes.{is_xml}
use Rattle.stream_lex.specs.grammar.Expressions.{all_said}
use Rattle.stream_lex.specs.grammar.Reading.{Reads}
use Rattle.stream_lex.proofs.Lists.{cons_not_nil}
use Rattle.stream_grammar.specs.grammar.Trees.{RawName, RawAttribute, RawTag, Content, nothing, word, element, hollow}
use Rattle.stream_grammar.specs.grammar.Trees.{Stream, attribute_tokens, attributes_tokens, tag_tokens, end_tokens}
use Rattle.stream_grammar.specs.grammar.Trees.{content_tokens, declaration_tokens, stream_tokens}
use Rattle.stream_grammar.specs.grammar.Items.{head_tokens}
use Rattle.stream_laws.proofs.RoundTripTags.{IsQName}
use Rattle.stream_laws.proofs.ProperTokens.{EndsName, Checks}
use Rattle.stream_laws.proofs.ProperGrammar.{pass-document}

abbrev pub AreXml : List ℕ → Type 0
AreXml cs = AllByRecursion (λ c. is_xml c ≡ true) cs

abbrev pub IsReadAttribute : RawAttribute → Type 0
IsReadAttribute a = IsQName (a.name.0 ∷ a.name.1) × AreXml a.value

abbrev pub IsReadTag : RawTag → Type 0
IsReadTag t = IsQName (t.name.0 ∷ t.name.1) × AllByRecursion IsReadAttribute t.attributes

abbrev pub IsRead : Content → Type 0
IsRead nothing = Unit {0}
IsRead (word c f) = (is_xml c ≡ true) × IsRead f
IsRead (element t g f) = IsReadTag t × (IsRead g × IsRead f)
IsRead (hollow t f) = IsReadTag t × IsRead f

whole-name : (b : ℕ) (bs : List ℕ) → EndsName (b ∷ bs) → IsQName (b ∷ bs)
whole-name b bs (inl e) = absurd (cons_not_nil b bs e)
whole-name b bs (inr q) = q

abbrev pub From : List ℕ → List Token → List ℕ → Type 0
From n ts m = Checks n (all_said ts) m

from-name : (bs n : List ℕ) (R : List Token) (m : List ℕ) → From n (map token.NameByte bs ++ R) m → From (n ++ bs) R m
from-name [] n R m c = subst (λ (l : List ℕ). From l R m) (sym (append-nil n)) c
from-name (b ∷ bs) n R m c = subst (λ (l : List ℕ). From l R m) (append_assoc n (b ∷ []) bs) (from-name bs (n ++ b ∷ []) R m c.1)

from-attribute_name : (bs n : List ℕ) (R : List Token) (m : List ℕ) → From n (map token.AttrByte bs ++ R) m → From (n ++ bs) R m
from-attribute_name [] n R m c = subst (λ (l : List ℕ). From l R m) (sym (append-nil n)) c
from-attribute_name (b ∷ bs) n R m c = subst (λ (l : List ℕ). From l R m) (append_assoc n (b ∷ []) bs) (from-attribute_name bs (n ++ b ∷ []) R m c.1)

from-value : (v : List ℕ) (R : List Token) (m : List ℕ) → From [] (map token.Value v ++ R) m → AreXml v × From [] R m
from-value [] R m c = (tt, c)
from-value (x ∷ v) R m c = let (a, b) = from-value v R m c.1 in ((c.0, a), b)

regroup-attribute : (o p e : Token) (n v R : List Token) → (o ∷ (n ++ (p ∷ (v ++ e ∷ [])))) ++ R ≡ o ∷ (n ++ (p ∷ (v ++ (e ∷ R))))
regroup-attribute o p e n v R = simp append_assoc

from-attributes : (xs : List RawAttribute) (n : List ℕ) (e : Bool) (R : List Token) (m : List ℕ) → From n (attributes_tokens xs ++ (token.TagEnds e ∷ R)) m
    → EndsName n × AllByRecursion IsReadAttribute xs × From [] R m
from-attributes [] n e R m c = (c.0, tt, c.1)
from-attributes (x ∷ xs) n e R m c =
    let more : List Token = attributes_tokens xs ++ (token.TagEnds e ∷ R) in
    let d : From n (token.AttrOpens x.name.0 ∷ (map token.AttrByte x.name.1 ++ (token.ValueOpens ∷ (map token.Value x.value ++ (token.ValueEnds ∷ more))))) m =
    subst (λ (l : List Token). From n l m)
    (append_assoc (attribute_tokens x) (attributes_tokens xs) (token.TagEnds e ∷ R)
    ∙ regroup-attribute (token.AttrOpens x.name.0) token.ValueOpens token.ValueEnds (map token.AttrByte x.name.1) (map token.Value x.value) more) c in
    let opened = from-attribute_name x.name.1 (x.name.0 ∷ []) (token.ValueOpens ∷ (map token.Value x.value ++ (token.ValueEnds ∷ more))) m d.1 in
    let (v, ended) = from-value x.value (token.ValueEnds ∷ more) m opened.1 in
    let (nothing_named, all, rest) = from-attributes xs [] e R m ended.1 in
    (d.0, ((whole-name x.name.0 x.name.1 opened.0, v), all), rest)

regroup-tag : (o e : Token) (n a R : List Token) → (o ∷ (n ++ (a ++ e ∷ []))) ++ R ≡ o ∷ (n ++ (a ++ (e ∷ R)))
regroup-tag o e n a R = simp append_assoc

pub from-tag : (t : RawTag) (e : Bool) (n : List ℕ) (R : List Token) (m : List ℕ) → From n (tag_tokens t e ++ R) m → IsReadTag t × From [] R m
from-tag t e n R m c =
    let d = subst (λ (l : List Token). From n l m)
    (regroup-tag (token.TagOpens t.name.0) (token.TagEnds e) (map token.NameByte t.name.1) (attributes_tokens t.attributes) R) c in
    let (named, all, rest) = from-attributes t.attributes (t.name.0 ∷ t.name.1) e R m
    (from-name t.name.1 (t.name.0 ∷ []) (attributes_tokens t.attributes ++ (token.TagEnds e ∷ R)) m d.1) in
    ((whole-name t.name.0 t.name.1 named, all), rest)

regroup-end : (o e : Token) (n R : List Token) → (o ∷ (n ++ e ∷ [])) ++ R ≡ o ∷ (n ++ (e ∷ R))
regroup-end o e n R = simp append_assoc

from-end : (k : RawName) (n : List ℕ) (R : List Token) (m : List ℕ) → From n (end_tokens k ++ R) m → From [] R m
from-end k n R m c =
    let d = subst (λ (l : List Token). From n l m) (regroup-end (token.CloseOpens k.0) token.CloseEnds (map token.NameByte k.1) R) c in
    (from-name k.1 (k.0 ∷ []) (token.CloseEnds ∷ R) m d.1).1

regroup-element : (t g e f R : List Token) → (t ++ (g ++ (e ++ f))) ++ R ≡ t ++ (g ++ (e ++ (f ++ R)))
regroup-element t g e f R = simp append_assoc

pub from-content : (f : Content) (R : List Token) (m : List ℕ) → From [] (content_tokens f ++ R) m → IsRead f × From [] R m
from-content nothing R m c = (tt, c)
from-content (word x f) R m c = let (a, b) = from-content f R m c.1 in ((c.0, a), b)
from-content (element t g f) R m c =
    let d = subst (λ (l : List Token). From [] l m) (regroup-element (tag_tokens t false) (content_tokens g) (end_tokens t.name) (content_tokens f) R) c in
    let (tagged, x) = from-tag t false [] (content_tokens g ++ (end_tokens t.name ++ (content_tokens f ++ R))) m d in
    let (inner, y) = from-content g (end_tokens t.name ++ (content_tokens f ++ R)) m x in
    let (later, z) = from-content f R m (from-end t.name [] (content_tokens f ++ R) m y) in
    ((tagged, (inner, later)), z)
from-content (hollow t f) R m c =
    let d = subst (λ (l : List Token). From [] l m) (append_assoc (tag_tokens t true) (content_tokens f) R) c in
    let (tagged, x) = from-tag t true [] (content_tokens f ++ R) m d in
    let (later, z) = from-content f R m x in
    ((tagged, later), z)

pub from-declaration : (d : Bool) (R : List Token) (m : List ℕ) → From [] (declaration_tokens d ++ R) m → From [] R m
from-declaration true R m c = c.1
from-declaration false R m c = c

pub reads-checks : (bytes : List ℕ) (ts : List Token) → Reads bytes ts → (m : List ℕ) × From [] ts m
reads-checks bytes ts (cs, scalars, enc, text) = let (m, e, c) = pass-document [] (inl refl) _ (all_said ts) text in (m, c)

-- the start of a stream that has come
pub head-read : (bytes : List ℕ) (d : Bool) (root : RawTag) (f : Content) → Reads bytes (head_tokens d root f) → IsReadTag root × IsRead f
head-read bytes d root f r =
    let (m, c) = reads-checks bytes (head_tokens d root f) r in
    let (tagged, x) = from-tag root false [] (content_tokens f) m (from-declaration d (tag_tokens root false ++ content_tokens f) m c) in
    (tagged, (from-content f [] m (subst (λ (l : List Token). From [] l m) (sym (append-nil (content_tokens f))) x)).0)

-- a stream
pub stream-read : (bytes : List ℕ) (s : Stream) → Reads bytes (stream_tokens s) → IsReadTag s.root × IsRead s.content
stream-read bytes s r =
    let (m, c) = reads-checks bytes (stream_tokens s) r in
    let (tagged, x) = from-tag s.root false [] (content_tokens s.content ++ end_tokens s.root.name) m
    (from-declaration s.declared (tag_tokens s.root false ++ (content_tokens s.content ++ end_tokens s.root.name)) m c) in
    (tagged, (from-content s.content (end_tokens s.root.name) m x).0)
