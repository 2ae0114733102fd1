-- The element of a `note` line is proper, and is the headline message that the line says.
use Rattle.std.proofs.Common.{◌≡◌, ℕ, ◌<◌, ◌≤◌, List, [], ◌∷◌, length, codes, nat_lt, ◌==◌, not, Bool, true}
use Rattle.std.proofs.Common.{false, ◌&&◌, Some, Ok, refl, sym, subst, inl, arith}
use Rattle.std.proofs.lemmas.Str.{encodes-chars}
use Rattle.std.specs.Prelude.{bytes_eq}
use Rattle.std.specs.List.{list_all, AllByRecursion, IsDistinct}
use Rattle.std.specs.Char.{is_control}
use Rattle.std.specs.Str.{IsUtf8, chars, is_utf8}
use Rattle.stanza_tree.specs.Spelling.{text, client_space}
use Rattle.stanza_tree.specs.declared.node.Element.{Element}
use Rattle.stanza_tree.specs.declared.node.Node.{Node}
use Rattle.stanza_tree.specs.declared.node.Node.TheOpen.{Node-F, Child, Words}
use Rattle.stanza_tree.specs.declared.node.Node.TheViews.{out-roll-Node}
use Rattle.stream_lex.specs.grammar.Classes as classes
use Rattle.stream_grammar.specs.grammar.Proper.{IsXmlText, same_name, IsJoined, AreJoined, IsProper, IsProperNode}
use Rattle.stream_laws.proofs.ProperMaking.{from-parts, ascii-name, ascii-text}
use Rattle.jid_core.specs.Addresses.{Address, address_of}
use Rattle.stanza_model.specs.Stanzas.{stanza_of}
use Rattle.stanza_model.specs.declared.stanza.Stanza.TheVariants.{Message}
use Rattle.stanza_model.specs.declared.kinds.MessageForm.TheVariants.{Headline}
use Rattle.house_model.specs.Histories.{StanzaFits}
use Rattle.replay_script.specs.Characters.{is_xml_char, is_xml, is_token_char, is_token}
use Rattle.replay_script.specs.Notices.{plain_attr, body_of, notice}
use Rattle.replay_script.proofs.CharacterLemmas.{token_utf8, xml_utf8}

both : (a b : Bool) → (a && b) ≡ true → (a ≡ true) × (b ≡ true)
both true true h = (refl, refl)
both true false h = absurd (cc)
both false b h = absurd (cc)

each : (p : ℕ → Bool) (cs : List ℕ) → ((c : ℕ) → p c ≡ true → classes.is_xml c ≡ true) → list_all p cs ≡ true → AllByRecursion (λ c. classes.is_xml c ≡ true) cs
each p [] implies h = tt
each p (c ∷ cs) implies h = let parts = both (p c) (list_all p cs) h in (implies c parts.0, each p cs implies parts.1)

of-chars : (p : ℕ → Bool) (bytes : List ℕ) → ((c : ℕ) → p c ≡ true → classes.is_xml c ≡ true) → IsUtf8 bytes → list_all p (chars bytes) ≡ true → IsXmlText bytes
of-chars p bytes implies utf8 h = (chars bytes, encodes-chars bytes utf8, each p (chars bytes) implies h)

xml-char : (c : ℕ) → is_xml_char c ≡ true → classes.is_xml c ≡ true
unfolding is_xml_char
xml-char c h = h

token-char : (c : ℕ) → is_token_char c ≡ true → classes.is_xml c ≡ true
unfolding is_token_char
token-char c h = xml-char c (both (not (c == 32) && not (is_control c)) (is_xml_char c) h).1

words-text : (words : List ℕ) → is_xml words ≡ true → IsXmlText words
unfolding is_xml
words-text words h = of-chars is_xml_char words xml-char (xml_utf8 words h) (both (is_utf8 words) (list_all is_xml_char (chars words)) h).1

token-text : (token : List ℕ) → is_token token ≡ true → IsXmlText token
unfolding is_token
token-text token h =
    of-chars is_token_char token token-char (token_utf8 token h)
    (both (nat_lt 0 (length token) && is_utf8 token) (list_all is_token_char (chars token)) h).1

client-text : IsXmlText client_space
client-text = ascii-text client_space refl

body-proper : (words : List ℕ) → IsXmlText words → bytes_eq words [] ≡ false → IsProper (body_of words)
unfolding IsDistinct
body-proper words xml some =
    from-parts (body_of words) (
      (ascii-name (codes "body") refl, client-text, refl, refl),
      tt,
      tt,
      subst (λ (x : Node-F Node Element). IsJoined false x (λ a. AreJoined a [])) (sym (out-roll-Node (Words words))) (refl, xml, some, tt),
      (subst IsProperNode (sym (out-roll-Node (Words words))) tt, tt),
    )

distinct : (address : List ℕ) → IsDistinct same_name (plain_attr (codes "to") address ∷ plain_attr (codes "type") (codes "headline") ∷ [])
unfolding IsDistinct
distinct address = ((refl, tt), (tt, tt))

notice-proper : (address words : List ℕ) → IsXmlText address → IsXmlText words → bytes_eq words [] ≡ false → IsProper (notice address words)
notice-proper address words to xml some =
    from-parts (notice address words) (
      (ascii-name (codes "message") refl, client-text, refl, refl),
      (
        (ascii-name (codes "to") refl, ascii-text [] refl, to, refl, refl),
        ((ascii-name (codes "type") refl, ascii-text [] refl, ascii-text (codes "headline") refl, refl, refl), tt),
      ),
      distinct address,
      subst (λ (x : Node-F Node Element). IsJoined false x (λ a. AreJoined a [])) (sym (out-roll-Node (Child (body_of words)))) tt,
      (subst IsProperNode (sym (out-roll-Node (Child (body_of words)))) (body-proper words xml some), tt),
    )

some-words : (words : List ℕ) → 0 < length words → bytes_eq words [] ≡ false
some-words [] h = absurd (omega arith)
some-words (b ∷ bs) h = refl

notice-read : (address words : List ℕ) (to : Address) → address_of address ≡ Ok to
    → stanza_of (notice address words) ≡ Some (Message (Some to) Headline (notice address words))
notice-read address words to h = rw h refl

pub notice_fits : (address words : List ℕ) (to : Address) → is_token address ≡ true → is_xml words ≡ true → 0 < length words → address_of address ≡ Ok to
    → length (text (notice address words)) ≤ 196608 → StanzaFits (Message (Some to) Headline (notice address words))
notice_fits address words to token xml some read small = inl (record {
  element = notice address words;
  proper = notice-proper address words (token-text address token) (words-text words xml) (some-words words some);
  small = small;
  read = notice-read address words to read;
})
