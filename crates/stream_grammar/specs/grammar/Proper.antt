-- Proper elements: those that a stream can hold (XML 1.0, fifth edition, and Namespaces in XML 1.0).
use Rattle.std.specs.List.{AllByRecursion, IsDistinct}
use Rattle.std.specs.Prelude.{◌≡◌, ℕ, List, [], ◌∷◌, Bool, true, false, ◌&&◌, ◌||◌, ◌==◌, nat_le, codes, bytes_eq, encode_utf8_all}
use Rattle.stanza_tree.specs.declared.node.Attr.{Attr}
use Rattle.stanza_tree.specs.declared.node.Element.{Element}
use Rattle.stanza_tree.specs.declared.node.Name.{Name}
use Rattle.stanza_tree.specs.declared.node.Node.{Node}
use Rattle.stanza_tree.specs.declared.node.Node.TheFolds.{every-Element}
use Rattle.stanza_tree.specs.declared.node.Node.TheOpen.{Node-F, Element-F, Child, Words}
use Rattle.stanza_tree.specs.declared.node.Node.TheViews.{out-Node}
use Rattle.stanza_tree.specs.Attributes.{is_named}
use Rattle.stream_lex.specs.grammar.Classes.{has_between, name_starts, name_characters, is_xml}
use Rattle.stream_grammar.specs.grammar.Namespaces.{xml_space, xmlns_space}

-- XML 1.0 [4] NameStartChar, without the colon
abbrev pub starts_name : ℕ → Bool
starts_name c = (nat_le 65 c && nat_le c 90) || ((c == 95) || ((nat_le 97 c && nat_le c 122) || has_between name_starts c c))

-- XML 1.0 [4a] NameChar, without the colon
abbrev pub continues_name : ℕ → Bool
continues_name c = starts_name c || ((c == 45) || ((c == 46) || ((nat_le 48 c && nat_le c 57) || has_between name_characters c c)))

-- Namespaces in XML 1.0 [4] NCName, in UTF-8
abbrev pub IsNcName : List ℕ → Type 0
IsNcName bytes = (c : ℕ) × (cs : List ℕ) × (encode_utf8_all (c ∷ cs) ≡ bytes) × (starts_name c ≡ true) × AllByRecursion (λ d. continues_name d ≡ true) cs

-- characters that XML allows, XML 1.0 [2] Char, in UTF-8
abbrev pub IsXmlText : List ℕ → Type 0
IsXmlText bytes = (cs : List ℕ) × (encode_utf8_all cs ≡ bytes) × AllByRecursion (λ c. is_xml c ≡ true) cs

-- Namespaces in XML 1.0, 3: no element is in the namespace of xml or in that of xmlns
abbrev pub IsElementName : Name → Type 0
IsElementName n = IsNcName n.local × IsXmlText n.space × (bytes_eq n.space xml_space ≡ false) × (bytes_eq n.space xmlns_space ≡ false)

-- Namespaces in XML 1.0, 3: `xmlns`, and what is in the namespace of xmlns, declares a namespace and is no attribute
abbrev pub IsAttribute : Attr → Type 0
IsAttribute a = IsNcName a.name.local × IsXmlText a.name.space × IsXmlText a.value × (bytes_eq a.name.space xmlns_space ≡ false)
    × (is_named (codes "xmlns") a ≡ false)

abbrev pub same_name : Attr → Attr → Bool
same_name a b = bytes_eq a.name.local b.name.local && bytes_eq a.name.space b.name.space

-- a child, after words or not, and what holds of those after it
abbrev pub IsJoined : Bool → Node-F Node Element → (Bool → Type 0) → Type 0
IsJoined after_words (Child e) rest = rest false
IsJoined after_words (Words w) rest = (after_words ≡ false) × IsXmlText w × (bytes_eq w [] ≡ false) × rest true

-- no words are empty, and none stand next to others
abbrev pub AreJoined : Bool → List Node → Type 0
AreJoined after_words [] = Unit {0}
AreJoined after_words (n ∷ ns) = IsJoined after_words (out-Node n) (λ a. AreJoined a ns)

-- Of one element, its child elements aside. No two attributes have one name (Namespaces in XML 1.0, 6.3).
abbrev pub IsProperPart : Element-F Node Element → Type 0
IsProperPart e = IsElementName e.name × AllByRecursion IsAttribute e.attrs × IsDistinct same_name e.attrs × AreJoined false e.children

-- an element, of which each part is so
abbrev pub IsProper : Element → Type 0
IsProper e = every-Element (λ n. Unit {0}) IsProperPart e

-- The same, part by part.

abbrev pub IsProperNode : Node-F Node Element → Type 0
IsProperNode (Child e) = IsProper e
IsProperNode (Words w) = Unit {0}

abbrev pub IsProperInParts : Element → Type 0
IsProperInParts e = IsElementName e.name × AllByRecursion IsAttribute e.attrs × IsDistinct same_name e.attrs × AreJoined false e.children
    × AllByRecursion (λ n. IsProperNode (out-Node n)) e.children

-- ASCII letters, digits and `_`, `-`, `.`, of which digits, `-` and `.` begin no name
abbrev pub starts_ascii_name : ℕ → Bool
starts_ascii_name c = (nat_le 65 c && nat_le c 90) || ((c == 95) || (nat_le 97 c && nat_le c 122))

abbrev pub continues_ascii_name : ℕ → Bool
continues_ascii_name c = starts_ascii_name c || ((c == 45) || ((c == 46) || (nat_le 48 c && nat_le c 57)))

abbrev pub continue_ascii_name : List ℕ → Bool
continue_ascii_name [] = true
continue_ascii_name (c ∷ cs) = continues_ascii_name c && continue_ascii_name cs

abbrev pub is_ascii_name : List ℕ → Bool
is_ascii_name [] = false
is_ascii_name (c ∷ cs) = starts_ascii_name c && continue_ascii_name cs

-- ASCII characters that XML allows
abbrev pub is_ascii_text : List ℕ → Bool
is_ascii_text [] = true
is_ascii_text (c ∷ cs) = (is_xml c && nat_le c 127) && is_ascii_text cs
