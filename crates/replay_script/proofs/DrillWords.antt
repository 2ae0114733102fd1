-- The stanzas of a drill: how they are spelt, and that a stream can bring each.
use Rattle.std.proofs.Common.{◌≡◌, ℕ, ◌+◌, ◌*◌, ◌%◌, ◌^◌, ◌<◌, ◌≤◌, List, [], ◌∷◌, ◌++◌, length, refl, sym, ap, ◌∙◌, subst, Option, Some, None, true, Bool}
use Rattle.std.proofs.Common.{false, not, codes, arith, ◌&&◌, length-append}
use Rattle.std.proofs.lemmas.Bool.{leb-true}
use Rattle.std.proofs.lemmas.Bool.Decides.{nat_tests}
use Rattle.std.proofs.lemmas.Fmt.{decimal_by_steps, decimal_digit, decimal_nonempty, length-decimal-le_wide}
use Rattle.std.specs.Fmt.{decimal}
use Rattle.std.specs.List.{IsDistinct}
use Rattle.std.specs.Prelude.{bytes_eq, is_some, if◌then◌else◌, nat_le}
use Rattle.jid_core.specs.Addresses.{Address, address_of, address_text}
use Rattle.stanza_tree.specs.Spelling.{client_space, closed, escaped_in_value, escaped_in_words, named, needs_prefix, opened, text, text_under, texts_under}
use Rattle.stanza_tree.specs.Spelling.{unprefixed, words_text}
use Rattle.stanza_tree.specs.declared.node.Attr.{Attr}
use Rattle.stanza_tree.specs.declared.node.Element.{Element}
use Rattle.stanza_tree.specs.declared.node.Node.{Node}
use Rattle.stanza_tree.specs.declared.node.Node.TheOpen.{Node-F, Child, Words}
use Rattle.stanza_tree.specs.declared.node.Node.TheViews.{roll-Node, out-roll-Node}
use Rattle.stanza_tree.proofs.Bounds.{length-value_text-le, length-words_text-le}
use Rattle.stanza_tree.proofs.SpellingLemmas.{text_under-parts, texts-child, texts-words}
use Rattle.stanza_model.specs.Errors.{element_of, plain_attr}
use Rattle.stanza_model.specs.Stanzas.{address_if, stanza_of}
use Rattle.stanza_model.specs.declared.condition.Condition.TheVariants.{JidMalformed}
use Rattle.stanza_model.specs.declared.kinds.IqForm.TheVariants.{Set}
use Rattle.stanza_model.specs.declared.kinds.Kind.TheVariants as kind
use Rattle.stanza_model.specs.declared.kinds.MessageForm.{MessageForm}
use Rattle.stanza_model.specs.declared.kinds.MessageForm.TheVariants.{Chat, Groupchat}
use Rattle.stanza_model.specs.declared.kinds.PresenceForm.TheVariants.{Available}
use Rattle.stanza_model.specs.declared.stanza.Stanza.{Stanza}
use Rattle.stanza_model.specs.declared.stanza.Stanza.TheVariants.{Faulty, Iq, Message, Presence}
use Rattle.stream_lex.specs.grammar.Classes.{is_xml}
use Rattle.stream_grammar.specs.grammar.Proper.{AreJoined, IsJoined, IsProper, IsProperNode, IsXmlText, is_ascii_text}
use Rattle.stream_laws.proofs.ProperMaking.{ascii-name, ascii-text, from-parts}
use Rattle.house_model.specs.Histories.{IsSent}
use Rattle.house_model.proofs.ReplySizes.{first-length, plain-attributes, plain-declared, under-le}
use Rattle.replay_script.specs.DrillStanzas.{child, client, enter, message, owner_space, room, seat, submit, to, to_client, to_room, unlock}
use Rattle.replay_script.proofs.DrillAddresses.{client-text-read, room_read, seat_read}

-- Numbers.

both-ascii : (xs ys : List ℕ) → is_ascii_text xs ≡ true → is_ascii_text ys ≡ true → is_ascii_text (xs ++ ys) ≡ true
both-ascii [] ys h g = g
both-ascii (x ∷ xs) ys h g = by (is_xml x && nat_le x 127) (is_ascii_text xs) (λ e. both-ascii xs ys e g) h
  where
    by : (a b : Bool) → (b ≡ true → is_ascii_text (xs ++ ys) ≡ true) → (a && b) ≡ true → (a && is_ascii_text (xs ++ ys)) ≡ true
    by true b more e = more e
    by false b more e = e

digit-ascii : (d : ℕ) → d < 10 → is_ascii_text ((48 + d) ∷ []) ≡ true
digit-ascii d h = grind (arith, nat_tests)

digits-ascii : (n : ℕ) → n < 2 ^ 64 → is_ascii_text (decimal n) ≡ true
digits-ascii =
    decimal_by_steps (λ n ds. is_ascii_text ds ≡ true) (λ n low. digit-ascii n low)
    (λ n ds low is. both-ascii ds ((48 + n % 10) ∷ []) is (digit-ascii (n % 10) (omega arith)))

digits-xml : (n : ℕ) → n < 2 ^ 64 → IsXmlText (decimal n)
digits-xml n low = ascii-text (decimal n) (digits-ascii n low)

some-digits : (ds : List ℕ) → 0 < length ds → bytes_eq ds [] ≡ false
some-digits [] h = absurd (omega arith)
some-digits (d ∷ ds) h = refl

few-digits : (n : ℕ) → n < 2 ^ 64 → length (decimal n) ≤ 20
few-digits n low = length-decimal-le_wide 20 n (omega arith) (omega (arith, low)) (omega (arith, low))

-- Children.

one-joined : (e : Element) → AreJoined false (child e ∷ [])
one-joined e = subst (λ (x : Node-F Node Element). IsJoined false x (λ a. AreJoined a [])) (sym (out-roll-Node (Child e))) tt

one-proper : (e : Element) → IsProper e → IsProperNode (Child e)
one-proper e is = is

client-xml : IsXmlText client_space
client-xml = ascii-text client_space refl

-- Messages.

abbrev body : ℕ → Element
body k = element_of client_space (codes "body") [] (roll-Node (Words (decimal k)) ∷ [])

body-proper : (k : ℕ) → k < 2 ^ 64 → IsProper (body k)
unfolding IsDistinct
body-proper k low =
    from-parts (body k) (
      (ascii-name (codes "body") refl, client-xml, refl, refl),
      tt,
      tt,
      subst (λ (x : Node-F Node Element). IsJoined false x (λ a. AreJoined a [])) (sym (out-roll-Node (Words (decimal k))))
          (refl, digits-xml k low, some-digits (decimal k) (decimal_nonempty k low), tt),
      (subst IsProperNode (sym (out-roll-Node (Words (decimal k)))) tt, tt),
    )

message-proper : (address : Address) (type : List ℕ) (k : ℕ) → IsXmlText (address_text address) → IsXmlText type → k < 2 ^ 64
    → IsProper (message address type k)
unfolding IsDistinct
message-proper address type k first second low =
    from-parts (message address type k) (
      (ascii-name (codes "message") refl, client-xml, refl, refl),
      (
        (ascii-name (codes "to") refl, ascii-text [] refl, first, refl, refl),
        ((ascii-name (codes "type") refl, ascii-text [] refl, second, refl, refl), tt),
      ),
      ((refl, tt), (tt, tt)),
      one-joined (body k),
      (subst IsProperNode (sym (out-roll-Node (Child (body k)))) (body-proper k low), tt),
    )

words-length : (s : List ℕ) (w : List ℕ) → length (texts_under s (roll-Node (Words w) ∷ [])) ≤ 6 * length w
words-length s w =
    omega (arith, length-words_text-le w, ap length (texts-words s (roll-Node (Words w)) [] w (out-roll-Node (Words w))), length-append (words_text w) [])

body-small : (k : ℕ) → k < 2 ^ 64 → length (text_under client_space (body k)) ≤ 300
body-small k low =
    omega (
      arith,
      under-le client_space client_space (codes "body") [] (roll-Node (Words (decimal k)) ∷ []),
      words-length client_space (decimal k),
      few-digits k low,
    )

message-small : (address : Address) (type : List ℕ) (k : ℕ) → length (address_text address) ≤ 3071 → length type ≤ 20 → k < 2 ^ 64
    → length (text (message address type k)) ≤ 196608
message-small address type k first second low =
    omega (
      arith,
      under-le client_space client_space (codes "message") (to address (plain_attr (codes "type") type ∷ [])) (child (body k) ∷ []),
      plain-attributes (codes "to") (address_text address) (plain_attr (codes "type") type ∷ []),
      plain-attributes (codes "type") type [],
      ap length (plain-declared (codes "to") (address_text address) (plain_attr (codes "type") type ∷ [])),
      ap length (plain-declared (codes "type") type []),
      length-value_text-le (address_text address),
      length-value_text-le type,
      first-length client_space (body k) [],
      body-small k low,
    )

-- a message whose address was read, or wasn't
abbrev message_by : MessageForm → Element → Option Address → Stanza
message_by form e found = if not (is_some found) then Faulty kind.Message found None true JidMalformed else Message found form e

to-room-read : (k : ℕ) → stanza_of (message room (codes "groupchat") k) ≡ Some (to_room k)
to-room-read k = ap (λ r. Some (message_by Groupchat (message room (codes "groupchat") k) (address_if r))) room_read

to-client-read : (j k : ℕ) → j < 8 → stanza_of (message (client j) (codes "chat") k) ≡ Some (to_client j k)
to-client-read j k low = ap (λ r. Some (message_by Chat (message (client j) (codes "chat") k) (address_if r))) (client-text-read j low)

pub to_room_sent : (k : ℕ) → k < 2 ^ 64 → IsSent (to_room k)
to_room_sent k low = record {
  element = message room (codes "groupchat") k;
  proper = message-proper room (codes "groupchat") k (ascii-text (address_text room) refl) (ascii-text (codes "groupchat") refl) low;
  small = message-small room (codes "groupchat") k (leb-true 23 3071 refl) (leb-true 9 20 refl) low;
  read = to-room-read k;
}

client-ascii : (j : ℕ) → j < 8 → is_ascii_text (address_text (client j)) ≡ true
client-ascii j low =
    both-ascii (codes "u" ++ decimal j ++ codes "@" ++ codes "example.org") (codes "/r")
    (both-ascii (codes "u" ++ decimal j ++ codes "@") (codes "example.org")
    (both-ascii (codes "u" ++ decimal j) (codes "@") (digits-ascii j (omega arith)) refl) refl) refl

client-short : (j : ℕ) → j < 8 → length (address_text (client j)) ≤ 3071
client-short j low = omega (
  arith,
  few-digits j (omega arith),
  length-append (codes "u" ++ decimal j) (codes "@"),
  length-append (codes "u" ++ decimal j ++ codes "@") (codes "example.org"),
  length-append (codes "u" ++ decimal j ++ codes "@" ++ codes "example.org") (codes "/r"),
)

pub to_client_sent : (j k : ℕ) → j < 8 → k < 2 ^ 64 → IsSent (to_client j k)
to_client_sent j k who low = record {
  element = message (client j) (codes "chat") k;
  proper = message-proper (client j) (codes "chat") k (ascii-text (address_text (client j)) (client-ascii j who)) (ascii-text (codes "chat") refl) low;
  small = message-small (client j) (codes "chat") k
      (client-short j who) (leb-true 4 20 refl) low;
  read = to-client-read j k who;
}

-- The client enters.

abbrev enter_element : (i : ℕ) → Element
enter_element i = element_of client_space (codes "presence") (to (seat i) []) []

enter-proper : (i : ℕ) → i < 8 → IsProper (enter_element i)
unfolding IsDistinct
enter-proper i low =
    from-parts (enter_element i) (
      (ascii-name (codes "presence") refl, client-xml, refl, refl),
      ((ascii-name (codes "to") refl, ascii-text [] refl, ascii-text (address_text (seat i)) (digits-ascii i (omega arith)), refl, refl), tt),
      (tt, tt),
      tt,
      tt,
    )

abbrev enter_by : (i : ℕ) → Option Address → Stanza
enter_by i found = if not (is_some found) then Faulty kind.Presence found None true JidMalformed else Presence found Available (enter_element i)

pub enter_sent : (i : ℕ) → i < 8 → IsSent (enter i)
enter_sent i low = record {
  element = enter_element i;
  proper = enter-proper i low;
  small = omega (
    arith,
    under-le client_space client_space (codes "presence") (to (seat i) []) [],
    plain-attributes (codes "to") (address_text (seat i)) [],
    ap length (plain-declared (codes "to") (address_text (seat i)) []),
    length-value_text-le (address_text (seat i)),
    few-digits i (omega arith),
    length-append (codes "drill@rooms.example.org/u") (decimal i),
  );
  read = ap (λ r. Some (enter_by i (address_if r))) (seat_read i low);
}

-- The first client unlocks the room.

abbrev query : Element
query = element_of owner_space (codes "query") [] (child submit ∷ [])

abbrev unlock_attrs : List Attr
unlock_attrs = to room (plain_attr (codes "id") (codes "c") ∷ plain_attr (codes "type") (codes "set") ∷ [])

abbrev unlock_element : Element
unlock_element = element_of client_space (codes "iq") unlock_attrs (child query ∷ [])

submit-proper : IsProper submit
unfolding IsDistinct
submit-proper =
    from-parts submit (
      (ascii-name (codes "x") refl, ascii-text (codes "jabber:x:data") refl, refl, refl),
      ((ascii-name (codes "type") refl, ascii-text [] refl, ascii-text (codes "submit") refl, refl, refl), tt),
      (tt, tt),
      tt,
      tt,
    )

query-proper : IsProper query
unfolding IsDistinct
query-proper =
    from-parts query (
      (ascii-name (codes "query") refl, ascii-text owner_space refl, refl, refl),
      tt,
      tt,
      one-joined submit,
      (subst IsProperNode (sym (out-roll-Node (Child submit))) submit-proper, tt),
    )

unlock-proper : IsProper unlock_element
unfolding IsDistinct
unlock-proper =
    from-parts unlock_element (
      (ascii-name (codes "iq") refl, client-xml, refl, refl),
      (
        (ascii-name (codes "to") refl, ascii-text [] refl, ascii-text (address_text room) refl, refl, refl),
        (
          (ascii-name (codes "id") refl, ascii-text [] refl, ascii-text (codes "c") refl, refl, refl),
          ((ascii-name (codes "type") refl, ascii-text [] refl, ascii-text (codes "set") refl, refl, refl), tt),
        ),
      ),
      ((refl, (refl, tt)), ((refl, tt), (tt, tt))),
      one-joined query,
      (subst IsProperNode (sym (out-roll-Node (Child query))) query-proper, tt),
    )

hollow-text : (s : List ℕ) → text_under s submit ≡ opened s submit.name submit.attrs ++ closed (codes "x") []
hollow-text s = text_under-parts s submit

child-text : (s : List ℕ) (e : Element) → texts_under s (child e ∷ []) ≡ text_under s e ++ []
child-text s e = texts-child s (child e) [] e (out-roll-Node (Child e))

query-text : (s : List ℕ)
    → text_under s query ≡ opened s query.name [] ++ closed (codes "query") (opened owner_space submit.name submit.attrs ++ closed (codes "x") [] ++ [])
query-text s =
    text_under-parts s query
    ∙ ap (λ t. opened s query.name [] ++ closed (codes "query") t) (child-text owner_space submit ∙ ap (λ t. t ++ []) (hollow-text owner_space))

pub unlock_text : text unlock_element
    ≡ codes "<iq to='drill@rooms.example.org' id='c' type='set'><query xmlns='http://jabber.org/protocol/muc#owner'><x xmlns='jabber:x:data' type='submit'/></query></iq>"
unfolding escaped_in_value escaped_in_words closed opened named needs_prefix unprefixed
unlock_text =
    text_under-parts client_space unlock_element
    ∙ ap (λ t. opened client_space unlock_element.name unlock_attrs ++ closed (codes "iq") t)
    (child-text client_space query ∙ ap (λ t. t ++ []) (query-text client_space))

abbrev unlock_by : Option Address → Stanza
unlock_by found = if not (is_some found) then Faulty kind.Iq found (Some (codes "c")) true JidMalformed else Iq found (codes "c") Set unlock_element

one-request : stanza_of unlock_element ≡ Some (unlock_by (address_if (address_of (codes "drill@rooms.example.org"))))
one-request = rw out-roll-Node refl

pub unlock_sent : IsSent unlock
unlock_sent = record {
  element = unlock_element;
  proper = unlock-proper;
  small = subst (λ (t : List ℕ). length t ≤ 196608) (sym unlock_text) (leb-true 156 196608 refl);
  read = one-request ∙ ap (λ r. Some (unlock_by (address_if r))) room_read;
}

-- Examples.

pub seven-text : text (message room (codes "groupchat") 7) ≡ codes "<message to='drill@rooms.example.org' type='groupchat'><body>7</body></message>"
unfolding escaped_in_value escaped_in_words closed opened named needs_prefix unprefixed
seven-text =
    text_under-parts client_space (message room (codes "groupchat") 7)
    ∙ ap (λ t. opened client_space (message room [] 7).name (message room (codes "groupchat") 7).attrs ++ closed (codes "message") t)
    (child-text client_space (body 7) ∙ ap (λ t. t ++ []) seven-body)
  where
    seven-body : text_under client_space (body 7) ≡ codes "<body>7</body>"
    seven-body =
        text_under-parts client_space (body 7)
        ∙ ap (λ t. opened client_space (body 7).name [] ++ closed (codes "body") t)
        (texts-words client_space (roll-Node (Words (decimal 7))) [] (decimal 7) (out-roll-Node (Words (decimal 7)))
        ∙ ap (λ d. words_text d ++ []) (decimal_digit 7 (omega arith)))
