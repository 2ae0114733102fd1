-- The stanzas of the talk: how they are spelt, that a stream can bring each, and how the room's own words are spelt.
use Rattle.std.proofs.Common.{◌≡◌, ℕ, ◌+◌, ◌/◌, ◌%◌, ◌^◌, ◌<◌, ◌≤◌, List, [], ◌∷◌, ◌++◌, length, map, flat_map, refl, sym, ap, ◌∙◌, subst, Option}
use Rattle.std.proofs.Common.{Some, None, true, not, Ok, codes, arith}
use Rattle.std.proofs.lemmas.Bool.{leb-true, ltb-true}
use Rattle.std.proofs.lemmas.Fmt.{decimal_digit, decimal_step}
use Rattle.std.specs.Fmt.{decimal}
use Rattle.std.specs.List.{AllByRecursion, IsDistinct}
use Rattle.std.specs.Prelude.{if◌then◌else◌, is_some}
use Rattle.jid_core.specs.Addresses.{Address, address_of}
use Rattle.jid_core.specs.Preparation.{domain_of, local_of}
use Rattle.jid_core.proofs.PreparationLemmas.{local_of_short, domain_of_short, resource_of_short}
use Rattle.stanza_tree.specs.Spelling.{client_space, escaped_in_value, escaped_in_words, closed, opened, named, needs_prefix, unprefixed, text}
use Rattle.stanza_tree.specs.Spelling.{texts_under}
use Rattle.stanza_tree.specs.Stamps.{sent_by}
use Rattle.stanza_tree.specs.declared.node.Attr.{Attr}
use Rattle.stanza_tree.specs.declared.node.Element.{Element}
use Rattle.stanza_tree.specs.declared.node.Node.{Node}
use Rattle.stanza_tree.specs.declared.node.Node.TheOpen.{Child}
use Rattle.stanza_tree.specs.declared.node.Node.TheViews.{out-roll-Node}
use Rattle.stanza_tree.proofs.SpellingLemmas.{text_under-parts, texts-child}
use Rattle.stanza_model.specs.Errors.{element_of, plain_attr}
use Rattle.stanza_model.specs.Stanzas.{address_if, stanza_of}
use Rattle.stanza_model.specs.declared.condition.Condition.TheVariants.{JidMalformed}
use Rattle.stanza_model.specs.declared.kinds.Kind.TheVariants as kind
use Rattle.stanza_model.specs.declared.kinds.MessageForm.TheVariants.{Groupchat}
use Rattle.stanza_model.specs.declared.kinds.PresenceForm.TheVariants.{Available}
use Rattle.stanza_model.specs.declared.room.Affiliation.TheVariants.{Owner}
use Rattle.stanza_model.specs.declared.room.Role.TheVariants.{Moderator}
use Rattle.stanza_model.specs.declared.stanza.Stanza.{Stanza}
use Rattle.stanza_model.specs.declared.stanza.Stanza.TheVariants.{Faulty, Message, Presence}
use Rattle.stream_grammar.specs.grammar.Proper.{IsProper}
use Rattle.stream_laws.proofs.ProperMaking.{ascii-name, ascii-text, from-parts}
use Rattle.muc_room.specs.Entries as entries
use Rattle.muc_room.specs.Views.{child_node, item, status, user_space, x_of}
use Rattle.house_model.specs.Histories.{IsSent}
use Rattle.house_story.specs.Stanzas.{desk, phone}
use Rattle.house_story.specs.Talk.{enter, enter_element, room, say, say_element, seat}
use Rattle.house_story.proofs.Words.{bare-read, full-read}

-- Spelt.

enter-text : (attrs : List Attr) → text (record enter_element { attrs = attrs }) ≡ opened client_space enter_element.name attrs ++ closed (codes "presence") []
enter-text attrs = text_under-parts client_space (record enter_element { attrs = attrs })

pub enter-from : (from : List ℕ)
    → text (sent_by from enter_element) ≡ opened client_space enter_element.name (plain_attr (codes "from") from ∷ []) ++ closed (codes "presence") []
enter-from from = enter-text (plain_attr (codes "from") from ∷ [])

say-text : (attrs : List Attr) → text (record say_element { attrs = attrs }) ≡ opened client_space say_element.name attrs ++ closed (codes "message") []
say-text attrs = text_under-parts client_space (record say_element { attrs = attrs })

pub said-text : text (sent_by (codes "r@rooms.b/n") say_element) ≡ codes "<message type='groupchat' from='r@rooms.b/n'/>"
unfolding escaped_in_value escaped_in_words closed opened named needs_prefix unprefixed
said-text = say-text (plain_attr (codes "type") (codes "groupchat") ∷ plain_attr (codes "from") (codes "r@rooms.b/n") ∷ [])

-- Elements without children, one after another.

hollow : List ℕ → Element → List ℕ
hollow space e = opened space e.name e.attrs ++ closed e.name.local []

one-more : (space : List ℕ) (e : Element) (ns : List Node) → e.children ≡ [] → texts_under space (child_node e ∷ ns) ≡ hollow space e ++ texts_under space ns
unfolding hollow
one-more space e ns none =
    texts-child space (child_node e) ns e (out-roll-Node (Child e))
    ∙ ap (λ t. t ++ texts_under space ns)
    (text_under-parts space e ∙ ap (λ xs. opened space e.name e.attrs ++ closed e.name.local (texts_under e.name.space xs)) none)

all-texts : (space : List ℕ) (es : List Element) → AllByRecursion (λ e. e.children ≡ []) es → texts_under space (map child_node es) ≡ flat_map (hollow space) es
all-texts space [] none = refl
all-texts space (e ∷ es) none = one-more space e (map child_node es) none.0 ∙ ap (λ t. hollow space e ++ t) (all-texts space es none.1)

x-text : (es : List Element) → AllByRecursion (λ e. e.children ≡ []) es
    → text (x_of (map child_node es)) ≡ opened client_space (x_of []).name [] ++ closed (codes "x") (flat_map (hollow user_space) es)
x-text es none =
    text_under-parts client_space (x_of (map child_node es))
    ∙ ap (λ t. opened client_space (x_of []).name [] ++ closed (codes "x") t) (all-texts user_space es none)

-- the words of the room on an occupant, to a session of its own
abbrev pub own_words : Address → List Element → Element
own_words jid more = x_of (map child_node (item Owner (Some jid) None Moderator ∷ status 110 ∷ status 170 ∷ more))

abbrev pub own_text : (jid more : List ℕ) → List ℕ
own_text jid more =
    codes "<x xmlns='http://jabber.org/protocol/muc#user'><item affiliation='owner' jid='" ++ jid
    ++ codes "' role='moderator'/><status code='110'/><status code='170'/>" ++ more ++ codes "</x>"

-- a status by its digits
coded : List ℕ → Element
coded digits = element_of user_space (codes "status") (plain_attr (codes "code") digits ∷ []) []

three-digits : (n : ℕ) → 10 ≤ n → 10 ≤ n / 10 → n / 10 / 10 < 10 → n < 2 ^ 64
    → decimal n ≡ (48 + n / 10 / 10) ∷ (48 + n / 10 % 10) ∷ (48 + n % 10) ∷ []
three-digits n a b c small =
    decimal_step n a small
    ∙ ap (λ l. l ++ (48 + n % 10) ∷ []) (decimal_step (n / 10) b (omega arith) ∙ ap (λ l. l ++ (48 + n / 10 % 10) ∷ []) (decimal_digit (n / 10 / 10) c))

one-ten : decimal 110 ≡ codes "110"
one-ten = three-digits 110 (leb-true 10 110 refl) (leb-true 10 11 refl) (ltb-true 1 10 refl) (ltb-true 110 (2 ^ 64) refl)

one-seventy : decimal 170 ≡ codes "170"
one-seventy = three-digits 170 (leb-true 10 170 refl) (leb-true 10 17 refl) (ltb-true 1 10 refl) (ltb-true 170 (2 ^ 64) refl)

two-one : decimal 201 ≡ codes "201"
two-one = three-digits 201 (leb-true 10 201 refl) (leb-true 10 20 refl) (ltb-true 2 10 refl) (ltb-true 201 (2 ^ 64) refl)

own-words : (jid : Address) (more : List Element) → AllByRecursion (λ e. e.children ≡ []) more
    → text (own_words jid more)
    ≡ opened client_space (x_of []).name [] ++ closed (codes "x")
    (flat_map (hollow user_space) (item Owner (Some jid) None Moderator ∷ coded (codes "110") ∷ coded (codes "170") ∷ more))
unfolding coded
own-words jid more none =
    x-text (item Owner (Some jid) None Moderator ∷ status 110 ∷ status 170 ∷ more) (refl, (refl, (refl, none)))
    ∙ ap (λ d. opened client_space (x_of []).name [] ++ closed (codes "x")
    (flat_map (hollow user_space) (item Owner (Some jid) None Moderator ∷ coded d ∷ status 170 ∷ more))) one-ten
    ∙ ap (λ d. opened client_space (x_of []).name [] ++ closed (codes "x")
    (flat_map (hollow user_space) (item Owner (Some jid) None Moderator ∷ coded (codes "110") ∷ coded d ∷ more))) one-seventy

pub made-words : text (own_words desk (status 201 ∷ [])) ≡ own_text (codes "a@b/d") (codes "<status code='201'/>")
unfolding coded hollow escaped_in_value escaped_in_words closed opened named needs_prefix unprefixed
made-words =
    ap (λ d. text (own_words desk (coded d ∷ []))) two-one ∙ own-words desk (coded (codes "201") ∷ []) (refl, tt)

pub desk-words : text (own_words desk []) ≡ own_text (codes "a@b/d") []
unfolding coded hollow escaped_in_value escaped_in_words closed opened named needs_prefix unprefixed
desk-words = own-words desk [] tt

pub phone-words : text (own_words phone []) ≡ own_text (codes "a@b/p") []
unfolding coded hollow escaped_in_value escaped_in_words closed opened named needs_prefix unprefixed
phone-words = own-words phone [] tt

pub subject-text : text (entries.no_subject room) ≡ codes "<message from='r@rooms.b' type='groupchat'><subject/></message>"
unfolding hollow escaped_in_value escaped_in_words closed opened named needs_prefix unprefixed
subject-text =
    text_under-parts client_space (entries.no_subject room)
    ∙ ap (λ t. opened client_space (entries.no_subject room).name (entries.no_subject room).attrs ++ closed (codes "message") t)
    (one-more client_space (element_of client_space (codes "subject") [] []) [] refl)

-- Read.

r-read : local_of (codes "r") ≡ Ok (codes "r")
r-read = local_of_short (codes "r") (ltb-true 0 1 refl) refl (ltb-true 1 1024 refl)

rooms-read : domain_of (codes "rooms.b") ≡ Ok (codes "rooms.b")
rooms-read = domain_of_short (codes "rooms.b") (ltb-true 0 7 refl) refl (ltb-true 7 1024 refl)

room-read : address_of (codes "r@rooms.b") ≡ Ok room
room-read = bare-read (codes "r") (codes "rooms.b") r-read rooms-read

seat-read : address_of (codes "r@rooms.b/n") ≡ Ok seat
seat-read =
    full-read (codes "r") (codes "rooms.b") (codes "n") r-read rooms-read
    (resource_of_short (codes "n") (ltb-true 0 1 refl) refl (ltb-true 1 1024 refl))

abbrev enter_by : Option Address → Stanza
enter_by found =
    if not (is_some found) then Faulty kind.Presence found None true JidMalformed else Presence found Available enter_element

enter-read : stanza_of enter_element ≡ Some enter
enter-read = ap (λ r. Some (enter_by (address_if r))) seat-read

abbrev say_by : Option Address → Stanza
say_by found = if not (is_some found) then Faulty kind.Message found None true JidMalformed else Message found Groupchat say_element

say-read : stanza_of say_element ≡ Some say
say-read = ap (λ r. Some (say_by (address_if r))) room-read

-- Proper.

enter-proper : IsProper enter_element
unfolding IsDistinct
enter-proper = from-parts enter_element (
  (ascii-name (codes "presence") refl, ascii-text client_space refl, refl, refl),
  ((ascii-name (codes "to") refl, ascii-text [] refl, ascii-text (codes "r@rooms.b/n") refl, refl, refl), tt),
  (tt, tt),
  tt,
  tt,
)

say-proper : IsProper say_element
unfolding IsDistinct
say-proper = from-parts say_element (
  (ascii-name (codes "message") refl, ascii-text client_space refl, refl, refl),
  (
    (ascii-name (codes "to") refl, ascii-text [] refl, ascii-text (codes "r@rooms.b") refl, refl, refl),
    ((ascii-name (codes "type") refl, ascii-text [] refl, ascii-text (codes "groupchat") refl, refl, refl), tt),
  ),
  ((refl, tt), (tt, tt)),
  tt,
  tt,
)

-- Sent.

pub enter-sent : IsSent enter
unfolding escaped_in_value escaped_in_words closed opened named needs_prefix unprefixed
enter-sent = record {
  element = enter_element;
  proper = enter-proper;
  small = subst (λ (t : List ℕ). length t ≤ 196608) (sym (enter-text enter_element.attrs)) (leb-true 28 196608 refl);
  read = enter-read;
}

pub say-sent : IsSent say
unfolding escaped_in_value escaped_in_words closed opened named needs_prefix unprefixed
say-sent = record {
  element = say_element;
  proper = say-proper;
  small = subst (λ (t : List ℕ). length t ≤ 196608) (sym (say-text say_element.attrs)) (leb-true 42 196608 refl);
  read = say-read;
}
