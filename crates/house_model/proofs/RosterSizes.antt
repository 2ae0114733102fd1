-- How long a roster is as it is listed, and an item as it is pushed.
use Rattle.std.proofs.Common.{◌≡◌, ℕ, ◌+◌, ◌≤◌, List, [], ◌∷◌, ◌++◌, map, length, sum, Bool, true, false, codes, refl, ap, ◌∙◌, arith, length-append}
use Rattle.std.specs.Prelude.{IfSome}
use Rattle.std.specs.Fmt.{decimal}
use Rattle.std.proofs.lemmas.Fmt.{length-decimal-le_wide}
use Rattle.std.proofs.lemmas.List.Sums.{sum_by-cons}
use Rattle.stanza_tree.specs.Spelling.{escaped_in_value, escaped_in_words, value_text, declarations, attributes, client_space, texts_under, text_under, text}
use Rattle.stanza_tree.specs.declared.node.Attr.{Attr}
use Rattle.stanza_tree.specs.declared.node.Element.{Element}
use Rattle.stanza_tree.proofs.Bounds.{length-value_text-le}
use Rattle.jid_core.specs.Addresses.{Address, address_text}
use Rattle.stanza_model.specs.Errors.{plain_attr}
use Rattle.stanza_model.specs.Replies.{one_child, result_of}
use Rattle.stanza_model.specs.RosterLimits.{counted, most_text}
use Rattle.stanza_model.specs.Rosters.{ask_attr, item, item_attrs, item_node, name_attr, push, query_of, roster_space, subscription_name}
use Rattle.stanza_model.specs.Stanzas.{to_in, id_in}
use Rattle.stanza_model.specs.declared.shared.Contact.{Contact}
use Rattle.stanza_model.specs.declared.shared.Subscription.{Subscription}
use Rattle.stanza_model.specs.declared.shared.Subscription.TheVariants.{Neither, To, From, Both}
use Rattle.stanza_model.specs.declared.stanza.Stanza.{Stanza}
use Rattle.stanza_model.specs.declared.shared.Side.{Side}
use Rattle.subscription_pairs.specs.Users.{new_contact}
use Rattle.house_model.proofs.ReplySizes.{spelt_length, under-le, under-parts, first-length, plain-attributes, plain-declared, reply-le}

-- An item is no longer than it is counted.
size : (n : ℕ) (word : List ℕ) → length (value_text word) ≡ n → length (value_text word) ≡ n
size n word is = is

word-le : (s : Subscription) → length (value_text (subscription_name s)) ≤ 4
unfolding escaped_in_value escaped_in_words
word-le Neither = omega (arith, size 4 (codes "none") refl)
word-le To = omega (arith, size 2 (codes "to") refl)
word-le From = omega (arith, size 4 (codes "from") refl)
word-le Both = omega (arith, size 4 (codes "both") refl)

none-is : length (value_text (subscription_name Neither)) ≡ 4
unfolding escaped_in_value escaped_in_words
none-is = refl

last-le : (s : Subscription) (more : List Attr)
    → length (attributes 0 (plain_attr (codes "subscription") (subscription_name s) ∷ more))
    ≤ length (attributes 0 (plain_attr (codes "subscription") (subscription_name Neither) ∷ more))
last-le s more =
    omega (
      arith,
      word-le s,
      none-is,
      plain-attributes (codes "subscription") (subscription_name s) more,
      plain-attributes (codes "subscription") (subscription_name Neither) more,
    )

name-le : (name : List ℕ) (s : Subscription)
    → length (attributes 0 (name_attr name ++ plain_attr (codes "subscription") (subscription_name s) ∷ []))
    ≤ length (attributes 0 (name_attr name ++ plain_attr (codes "subscription") (subscription_name Neither) ∷ []))
name-le [] s = last-le s []
name-le (b ∷ name) s =
    omega (
      arith,
      last-le s [],
      plain-attributes (codes "name") (b ∷ name) (plain_attr (codes "subscription") (subscription_name s) ∷ []),
      plain-attributes (codes "name") (b ∷ name) (plain_attr (codes "subscription") (subscription_name Neither) ∷ []),
    )

abbrev rest_of : Contact → List Attr
rest_of x = plain_attr (codes "jid") (address_text x.address) ∷ (name_attr x.name ++ plain_attr (codes "subscription") (subscription_name x.subscription) ∷ [])

rest-le : (x : Contact) → length (attributes 0 (rest_of x)) ≤ length (attributes 0 (rest_of (record x { subscription = Neither })))
rest-le x =
    omega (
      arith,
      name-le x.name x.subscription,
      plain-attributes (codes "jid") (address_text x.address) (name_attr x.name ++ plain_attr (codes "subscription") (subscription_name x.subscription) ∷ []),
      plain-attributes (codes "jid") (address_text x.address) (name_attr x.name ++ plain_attr (codes "subscription") (subscription_name Neither) ∷ []),
    )

ask-le : (asked : Bool) (more : List Attr) → length (attributes 0 (ask_attr asked ++ more)) ≤ length (attributes 0 (ask_attr true ++ more))
ask-le true more = omega arith
ask-le false more = omega (arith, plain-attributes (codes "ask") (codes "subscribe") more)

name-declared : (name : List ℕ) (more : List Attr) → declarations 0 (name_attr name ++ more) ≡ declarations 0 more
name-declared [] more = refl
name-declared (b ∷ name) more = plain-declared (codes "name") (b ∷ name) more

rest-declared : (x : Contact) → declarations 0 (rest_of x) ≡ []
rest-declared x =
    plain-declared (codes "jid") (address_text x.address) (name_attr x.name ++ plain_attr (codes "subscription") (subscription_name x.subscription) ∷ [])
    ∙ (name-declared x.name (plain_attr (codes "subscription") (subscription_name x.subscription) ∷ [])
    ∙ plain-declared (codes "subscription") (subscription_name x.subscription) [])

ask-declared : (asked : Bool) (more : List Attr) → declarations 0 (ask_attr asked ++ more) ≡ declarations 0 more
ask-declared false more = refl
ask-declared true more = plain-declared (codes "ask") (codes "subscribe") more

parted : (asked : Bool) (a : Attr) (b c : List Attr) → (ask_attr asked ++ (a ∷ b)) ++ c ≡ ask_attr asked ++ (a ∷ (b ++ c))
parted true a b c = refl
parted false a b c = refl

attrs_are : (x : Contact) → item_attrs x ≡ ask_attr x.asked ++ rest_of x
attrs_are x =
    parted x.asked (plain_attr (codes "jid") (address_text x.address)) (name_attr x.name)
    (plain_attr (codes "subscription") (subscription_name x.subscription) ∷ [])

pub item-le : (x : Contact) → length (text_under roster_space (item x)) ≤ counted x
item-le x =
    let most = record x { subscription = Neither; asked = true } in
    omega (
      arith,
      under-parts roster_space (item x),
      under-parts roster_space (item most),
      ask-le x.asked (rest_of x),
      rest-le x,
      plain-attributes (codes "ask") (codes "subscribe") (rest_of x),
      plain-attributes (codes "ask") (codes "subscribe") (rest_of most),
      ap (λ (xs : List Attr). length (attributes 0 xs)) (attrs_are x),
      ap (λ (xs : List Attr). length (declarations 0 xs)) (attrs_are x),
      ap (λ (xs : List Attr). length (attributes 0 xs)) (attrs_are most),
      ap (λ (xs : List Attr). length (declarations 0 xs)) (attrs_are most),
      ap length (ask-declared x.asked (rest_of x)),
      ap length (ask-declared true (rest_of most)),
      ap length (rest-declared x),
      ap length (rest-declared most),
    )

-- The list.
items-le : (cs : List Contact) → length (texts_under roster_space (map item_node (map item cs))) ≤ sum (map counted cs)
items-le [] = omega arith
items-le (c ∷ cs) =
    omega (
      arith,
      item-le c,
      items-le cs,
      sum_by-cons (λ n. n) (counted c) (map counted cs),
      first-length roster_space (item c) (map item_node (map item cs)),
    )

query-le : (xs : List Element) → length (text_under client_space (query_of xs)) ≤ 150 + length (texts_under roster_space (map item_node xs))
query-le xs = omega (arith, under-le client_space roster_space (codes "query") [] (map item_node xs))

pub listing-le : (st : Stanza) (cs : List Contact) → IfSome (to_in st) (λ a. length (address_text a) ≤ 3071)
    → spelt_length (id_in st) ≤ 196608 → sum (map counted cs) ≤ most_text
    → length (text (result_of st (one_child (query_of (map item cs))))) ≤ 500000
listing-le st cs to id small =
    reply-le st (codes "result") (one_child (query_of (map item cs))) to id (omega arith)
    (omega (arith, small, items-le cs, query-le (map item cs), first-length client_space (query_of (map item cs)) []))

-- A push of an item.
pub number-le : (n : ℕ) → n ≤ 18446744073709551618 → length (decimal n) ≤ 20
number-le n low = length-decimal-le_wide 20 n (omega arith) (omega (arith, low)) (omega (arith, low))

pub push-le : (n : ℕ) (x : Element) → n ≤ 18446744073709551618 → length (text_under roster_space x) ≤ 200000
    → length (text (push n x)) ≤ 500000
push-le n x low small =
    omega (
      arith,
      small,
      number-le n low,
      query-le (x ∷ []),
      first-length roster_space x [],
      first-length client_space (query_of (x ∷ [])) [],
      under-le client_space client_space (codes "iq")
          (plain_attr (codes "id") (codes "push" ++ decimal n) ∷ plain_attr (codes "type") (codes "set") ∷ []) (one_child (query_of (x ∷ []))),
      plain-attributes (codes "id") (codes "push" ++ decimal n) (plain_attr (codes "type") (codes "set") ∷ []),
      plain-attributes (codes "type") (codes "set") [],
      ap length (plain-declared (codes "id") (codes "push" ++ decimal n) (plain_attr (codes "type") (codes "set") ∷ [])),
      ap length (plain-declared (codes "type") (codes "set") []),
      length-value_text-le (codes "push" ++ decimal n),
      length-value_text-le (codes "set"),
      length-append (codes "push") (decimal n),
    )

-- A new contact.
pub new-le : (x : Address) (side : Side) → length (address_text x) ≤ 4200 → counted (new_contact x side) ≤ 30000
new-le x side short =
    let most = record (new_contact x side) { subscription = Neither; asked = true } in
    omega (
      arith,
      short,
      none-is,
      under-le roster_space roster_space (codes "item") (item_attrs most) [],
      ap (λ (xs : List Attr). length (attributes 0 xs)) (attrs_are most),
      ap (λ (xs : List Attr). length (declarations 0 xs)) (attrs_are most),
      ap length (ask-declared true (rest_of most)),
      ap length (rest-declared most),
      plain-attributes (codes "ask") (codes "subscribe") (rest_of most),
      plain-attributes (codes "jid") (address_text x) (plain_attr (codes "subscription") (subscription_name Neither) ∷ []),
      plain-attributes (codes "subscription") (subscription_name Neither) [],
      length-value_text-le (codes "subscribe"),
      length-value_text-le (address_text x),
    )
