-- The message of the tests is one that a stream can bring.
use Rattle.std.proofs.Common.{◌≡◌, ℕ, ◌≤◌, List, [], ◌∷◌, length, codes, Bool, true, false, ◌&&◌, Some, Ok, refl, inl}
use Rattle.std.specs.Prelude.{encode_utf8_all}
use Rattle.std.specs.List.{list_all, AllByRecursion, IsDistinct}
use Rattle.stanza_tree.specs.Spelling.{text, client_space}
use Rattle.stanza_tree.specs.declared.node.Node.TheFolds.{every_made-Element}
use Rattle.stream_lex.specs.grammar.Classes.{is_xml}
use Rattle.stream_grammar.specs.grammar.Proper.{continues_name, IsXmlText, IsElementName, IsAttribute, same_name, IsProperPart, IsProper}
use Rattle.jid_core.specs.Addresses.{Address, address_of}
use Rattle.stanza_model.specs.Stanzas.{stanza_of}
use Rattle.stanza_model.specs.declared.stanza.Stanza.TheVariants.{Message}
use Rattle.stanza_model.specs.declared.kinds.MessageForm.TheVariants.{Headline}
use Rattle.house_model.specs.Histories.{StanzaFits}
use Rattle.hall.specs.Greetings.{plain_attr, greeting}

both : (a b : Bool) → (a && b) ≡ true → (a ≡ true) × (b ≡ true)
both true true h = (refl, refl)
both true false h = absurd (cc)
both false b h = absurd (cc)

each : (p : ℕ → Bool) (cs : List ℕ) → list_all p cs ≡ true → AllByRecursion (λ c. p c ≡ true) cs
each p [] h = tt
each p (c ∷ cs) h = let parts = both (p c) (list_all p cs) h in (parts.0, each p cs parts.1)

xml-text : (bytes : List ℕ) → encode_utf8_all bytes ≡ bytes → list_all is_xml bytes ≡ true → IsXmlText bytes
xml-text bytes same h = (bytes, same, each is_xml bytes h)

distinct : (to : List ℕ) → IsDistinct same_name (plain_attr (codes "to") to ∷ plain_attr (codes "type") (codes "headline") ∷ [])
unfolding IsDistinct
distinct to = ((refl, tt), (tt, tt))

name-proper : IsElementName (greeting []).name
unfolding lib.Utf8.encode
name-proper = ((109, codes "essage", refl, refl, each continues_name (codes "essage") refl), xml-text client_space refl refl, refl, refl)

to-proper : (to : List ℕ) → IsXmlText to → IsAttribute (plain_attr (codes "to") to)
unfolding lib.Utf8.encode
to-proper to xml = ((116, codes "o", refl, refl, each continues_name (codes "o") refl), xml-text [] refl refl, xml, refl, refl)

type-proper : IsAttribute (plain_attr (codes "type") (codes "headline"))
unfolding lib.Utf8.encode
type-proper = ((116, codes "ype", refl, refl, each continues_name (codes "ype") refl), xml-text [] refl refl, xml-text (codes "headline") refl refl, refl, refl)

greeting-proper : (to : List ℕ) → IsXmlText to → IsProper (greeting to)
greeting-proper to xml =
    every_made-Element (λ m. Unit {0}) IsProperPart (record { name = (greeting to).name; attrs = (greeting to).attrs; children = [] })
    (record { name = (greeting to).name; attrs = (greeting to).attrs; children = [] }) refl
    (name-proper, (to-proper to xml, (type-proper, tt)), distinct to, tt)

pub home-text : IsXmlText (codes "bob@example.org/home")
unfolding lib.Utf8.encode
home-text = xml-text (codes "bob@example.org/home") refl refl

greeting-read : (to : List ℕ) (a : Address) → address_of to ≡ Ok a → stanza_of (greeting to) ≡ Some (Message (Some a) Headline (greeting to))
greeting-read to a h = rw h refl

pub greeting-fits : (to : List ℕ) (a : Address) → IsXmlText to → address_of to ≡ Ok a → length (text (greeting to)) ≤ 196608
    → StanzaFits (Message (Some a) Headline (greeting to))
greeting-fits to a xml read small =
    inl (record { element = greeting to; proper = greeting-proper to xml; small = small; read = greeting-read to a read })
