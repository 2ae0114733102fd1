-- The stanzas of the story: how they are spelt, and that a stream can bring each.
use Rattle.std.proofs.Common.{◌≡◌, ℕ, ◌≤◌, List, [], ◌∷◌, ◌++◌, length, refl, sym, ap, ◌∙◌, subst, Option, Some, None, true, not, Ok, codes}
use Rattle.std.proofs.lemmas.Bool.{leb-true, ltb-true}
use Rattle.std.specs.List.{IsDistinct}
use Rattle.std.specs.Prelude.{if◌then◌else◌, is_some}
use Rattle.jid_core.specs.Addresses.{Address, address_of, address_text, joined, some_of}
use Rattle.jid_core.specs.Preparation.{domain_of, local_of, resource_of}
use Rattle.jid_core.proofs.PreparationLemmas.{local_of_short, domain_of_short, resource_of_short}
use Rattle.stanza_tree.specs.Spelling.{client_space, escaped_in_value, escaped_in_words, closed, opened, named, needs_prefix, unprefixed, text}
use Rattle.stanza_tree.specs.Stamps.{sent_by}
use Rattle.stanza_tree.specs.declared.node.Attr.{Attr}
use Rattle.stanza_tree.proofs.SpellingLemmas.{text_under-parts}
use Rattle.stanza_model.specs.Errors.{plain_attr}
use Rattle.stanza_model.specs.Stanzas.{address_if, stanza_of}
use Rattle.stanza_model.specs.declared.condition.Condition.TheVariants.{JidMalformed}
use Rattle.stanza_model.specs.declared.kinds.Kind.TheVariants as kind
use Rattle.stanza_model.specs.declared.kinds.MessageForm.TheVariants.{Normal}
use Rattle.stanza_model.specs.declared.stanza.Stanza.{Stanza}
use Rattle.stanza_model.specs.declared.stanza.Stanza.TheVariants.{Faulty, Message}
use Rattle.stream_grammar.specs.grammar.Proper.{IsProper, IsXmlText}
use Rattle.stream_laws.proofs.ProperMaking.{ascii-name, ascii-text, from-parts}
use Rattle.house_model.specs.Histories.{IsSent}
use Rattle.house_story.specs.Stanzas.{account, desk, phone, presence_element, message_element, here, message_to}

-- Spelt.

message-text : (attrs : List Attr)
    → text (record (message_element account) { attrs = attrs })
    ≡ opened client_space (message_element account).name attrs ++ closed (codes "message") []
message-text attrs = text_under-parts client_space (record (message_element account) { attrs = attrs })

pub here-text : text (sent_by (codes "a@b/d") presence_element) ≡ codes "<presence from='a@b/d'/>"
unfolding escaped_in_value escaped_in_words closed opened named needs_prefix unprefixed
here-text = text_under-parts client_space (sent_by (codes "a@b/d") presence_element)

pub from-phone : (to : Address) → text (sent_by (codes "a@b/p") (message_element to)) ≡ codes "<message from='a@b/p'/>"
unfolding escaped_in_value escaped_in_words closed opened named needs_prefix unprefixed
from-phone to = message-text (plain_attr (codes "from") (codes "a@b/p") ∷ [])

pub from-desk : (to : Address) → text (sent_by (codes "a@b/d") (message_element to)) ≡ codes "<message from='a@b/d'/>"
unfolding escaped_in_value escaped_in_words closed opened named needs_prefix unprefixed
from-desk to = message-text (plain_attr (codes "from") (codes "a@b/d") ∷ [])

here-itself : text presence_element ≡ codes "<presence/>"
unfolding escaped_in_value escaped_in_words closed opened named needs_prefix unprefixed
here-itself = text_under-parts client_space presence_element

-- Read.

a-read : local_of (codes "a") ≡ Ok (codes "a")
a-read = local_of_short (codes "a") (ltb-true 0 1 refl) refl (ltb-true 1 1024 refl)

b-read : domain_of (codes "b") ≡ Ok (codes "b")
b-read = domain_of_short (codes "b") (ltb-true 0 1 refl) refl (ltb-true 1 1024 refl)

pub bare-read : (local domain : List ℕ) → local_of local ≡ Ok local → domain_of domain ≡ Ok domain
    → joined (some_of (local_of local)) (domain_of domain) (Ok None) ≡ Ok (record { local = Some local; domain = domain; resource = None })
bare-read local domain first second =
    ap (λ p. joined (some_of p) (domain_of domain) (Ok None)) first ∙ ap (λ p. joined (Ok (Some local)) p (Ok None)) second

pub full-read : (local domain resource : List ℕ) → local_of local ≡ Ok local → domain_of domain ≡ Ok domain → resource_of resource ≡ Ok resource
    → joined (some_of (local_of local)) (domain_of domain) (some_of (resource_of resource))
    ≡ Ok (record { local = Some local; domain = domain; resource = Some resource })
full-read local domain resource first second third =
    ap (λ p. joined (some_of p) (domain_of domain) (some_of (resource_of resource))) first
    ∙ ap (λ p. joined (Ok (Some local)) p (some_of (resource_of resource))) second
    ∙ ap (λ p. joined (Ok (Some local)) (Ok domain) (some_of p)) third

account-read : address_of (codes "a@b") ≡ Ok account
account-read = bare-read (codes "a") (codes "b") a-read b-read

desk-read : address_of (codes "a@b/d") ≡ Ok desk
desk-read =
    full-read (codes "a") (codes "b") (codes "d") a-read b-read
    (resource_of_short (codes "d") (ltb-true 0 1 refl) refl (ltb-true 1 1024 refl))

phone-read : address_of (codes "a@b/p") ≡ Ok phone
phone-read =
    full-read (codes "a") (codes "b") (codes "p") a-read b-read
    (resource_of_short (codes "p") (ltb-true 0 1 refl) refl (ltb-true 1 1024 refl))

-- a message whose address was read, or wasn't
abbrev message_by : Address → Option Address → Stanza
message_by to found =
    if not (is_some found) then Faulty kind.Message found None true JidMalformed else Message found Normal (message_element to)

message-read : (to : Address) → address_of (address_text to) ≡ Ok to → stanza_of (message_element to) ≡ Some (message_to to)
message-read to read = ap (λ r. Some (message_by to (address_if r))) read

-- Proper.

here-proper : IsProper presence_element
unfolding IsDistinct
here-proper = from-parts presence_element
    ((ascii-name (codes "presence") refl, ascii-text client_space refl, refl, refl), tt, tt, tt, tt)

message-proper : (to : Address) → IsXmlText (address_text to) → IsProper (message_element to)
unfolding IsDistinct
message-proper to is = from-parts (message_element to) (
  (ascii-name (codes "message") refl, ascii-text client_space refl, refl, refl),
  ((ascii-name (codes "to") refl, ascii-text [] refl, is, refl, refl), tt),
  (tt, tt),
  tt,
  tt,
)

-- Sent.

pub here-sent : IsSent here
here-sent = record {
  element = presence_element;
  proper = here-proper;
  small = subst (λ (t : List ℕ). length t ≤ 196608) (sym here-itself) (leb-true 11 196608 refl);
  read = refl;
}

message-sent : (to : Address) → IsXmlText (address_text to) → address_of (address_text to) ≡ Ok to
    → length (opened client_space (message_element to).name (message_element to).attrs ++ closed (codes "message") []) ≤ 196608
    → IsSent (message_to to)
message-sent to is read small = record {
  element = message_element to;
  proper = message-proper to is;
  small = subst (λ (t : List ℕ). length t ≤ 196608) (sym (message-text (message_element to).attrs)) small;
  read = message-read to read;
}

pub to-account-sent : IsSent (message_to account)
unfolding escaped_in_value escaped_in_words closed opened named needs_prefix unprefixed
to-account-sent = message-sent account (ascii-text (codes "a@b") refl) account-read (leb-true 19 196608 refl)

pub to-desk-sent : IsSent (message_to desk)
unfolding escaped_in_value escaped_in_words closed opened named needs_prefix unprefixed
to-desk-sent = message-sent desk (ascii-text (codes "a@b/d") refl) desk-read (leb-true 21 196608 refl)

pub to-phone-sent : IsSent (message_to phone)
unfolding escaped_in_value escaped_in_words closed opened named needs_prefix unprefixed
to-phone-sent = message-sent phone (ascii-text (codes "a@b/p") refl) phone-read (leb-true 21 196608 refl)
