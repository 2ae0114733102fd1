-- How long an answer of service discovery is.
use Rattle.std.proofs.Common.{◌≡◌, ℕ, ◌+◌, ◌-◌, ◌*◌, ◌≤◌, ◌==◌, nat_le, refl, List, [], ◌∷◌, ◌++◌, map, length, Option, Some, None, Result, Ok, Err}
use Rattle.std.proofs.Common.{Bool, true, false, codes, ap, arith, length-append, if◌then◌else◌}
use Rattle.std.specs.Prelude.{IfSome, is_some, ⊤}
use Rattle.std.proofs.lemmas.Bool.{leb-true}
use Rattle.std.specs.List.{AllByRecursion}
use Rattle.stanza_tree.specs.Attributes.{attr_of}
use Rattle.stanza_tree.specs.Spelling.{client_space, texts_under, text_under, text}
use Rattle.stanza_tree.specs.declared.node.Element.{Element}
use Rattle.stanza_tree.proofs.Bounds.{length-value_text-le}
use Rattle.jid_core.specs.Addresses.{Address, local_text, resource_text, address_text, same_bare}
use Rattle.stanza_model.specs.Errors.{plain_attr}
use Rattle.stanza_model.specs.Replies.{one_child}
use Rattle.stanza_model.specs.Stanzas.{to_in, id_in}
use Rattle.stanza_model.specs.declared.condition.Condition.{Condition}
use Rattle.stanza_model.specs.declared.stanza.Stanza.{Stanza}
use Rattle.stanza_router.specs.Discovery.{info_space, items_space, rooms_space, query_in, node_of, identity, feature, described, described_as}
use Rattle.stanza_router.specs.Discovery.{fitting, info_if, info_of, item, listed_at, most_items, no_items_if, room_features, room_identity}
use Rattle.stanza_router.specs.Discovery.{archive_space, ids_space, room_item}
use Rattle.stanza_router.specs.Discovery.{server_items, listing, items_of, found_by, found, replied, discovery}
use Rattle.stanza_router.specs.declared.listed.Listed.{Listed}
use Rattle.stanza_router.specs.Places.{service_domain}
use Rattle.stanza_router.specs.declared.places.Place.{Place}
use Rattle.stanza_router.specs.declared.places.Place.TheVariants.{Account, Server, User, UserAt, Service, Room, RoomAt, Foreign}
use Rattle.stanza_model.specs.declared.shared.Config.{Config}
use Rattle.house_model.proofs.RoomCases.{found_all}
use Rattle.house_model.proofs.ReplySizes.{spelt_length, under-le, first-length, plain-attributes, plain-declared, one-attribute-le}
use Rattle.house_model.proofs.ReplySizes.{reply-le, error-reply-le}

-- an answer that leaves room for the rest of its reply, or a refusal
abbrev IsBrief : Result Element Condition → Type 0
IsBrief (Ok query) = length (text_under client_space query) ≤ 280000
IsBrief (Err condition) = ⊤

-- Information.
identity-le : (category type : List ℕ) → length (text_under info_space (identity category type))
    ≤ 300 + 6 * length category + 6 * length type
identity-le category type =
    omega (
      arith,
      under-le info_space info_space (codes "identity") (plain_attr (codes "category") category ∷ plain_attr (codes "type") type ∷ []) [],
      ap length (plain-declared (codes "category") category (plain_attr (codes "type") type ∷ [])),
      ap length (plain-declared (codes "type") type []),
      plain-attributes (codes "category") category (plain_attr (codes "type") type ∷ []),
      plain-attributes (codes "type") type [],
      length-value_text-le category,
      length-value_text-le type,
    )

abbrev AreWords : List (List ℕ) → Type 0
AreWords words = AllByRecursion (λ (w : List ℕ). length w ≤ 100) words

features-le : (features : List (List ℕ)) → AreWords features
    → length (texts_under info_space (map (λ (var : List ℕ). node_of (feature var)) features)) ≤ 900 * length features
features-le [] words = omega arith
features-le (var ∷ more) words =
    omega (
      arith,
      words.0,
      features-le more words.1,
      first-length info_space (feature var) (map (λ (v : List ℕ). node_of (feature v)) more),
      one-attribute-le info_space info_space (codes "feature") (codes "var") var [],
    )

-- of an identity that is so long
described-as-le : (identity : Element) (features : List (List ℕ)) → length (text_under info_space identity) ≤ 20000 → AreWords features
    → length features ≤ 10 → IsBrief (Ok (described_as identity features))
described-as-le identity features one words few =
    omega (
      arith,
      one,
      few,
      features-le features words,
      first-length info_space identity (map (λ (var : List ℕ). node_of (feature var)) features),
      under-le client_space info_space (codes "query") [] (node_of identity ∷ map (λ (var : List ℕ). node_of (feature var)) features),
    )

described-le : (category type : List ℕ) (features : List (List ℕ)) → length category ≤ 100 → length type ≤ 100
    → AreWords features → length features ≤ 10 → IsBrief (Ok (described category type features))
described-le category type features one two words few =
    described-as-le (identity category type) features (omega (arith, one, two, identity-le category type)) words few

-- a room that is listed
abbrev pub IsShortListed : Listed → Type 0
IsShortListed room = (length (address_text room.address) ≤ 3071) × (length room.title ≤ 256)

room-identity-le : (title : List ℕ) → length title ≤ 256 → length (text_under info_space (room_identity title)) ≤ 20000
room-identity-le title few =
    let l2 = plain_attr (codes "type") (codes "text") ∷ [] in
    let l1 = plain_attr (codes "name") title ∷ l2 in
    omega (
      arith,
      few,
      under-le info_space info_space (codes "identity") (plain_attr (codes "category") (codes "conference") ∷ l1) [],
      ap length (plain-declared (codes "category") (codes "conference") l1),
      ap length (plain-declared (codes "name") title l2),
      ap length (plain-declared (codes "type") (codes "text") []),
      plain-attributes (codes "category") (codes "conference") l1,
      plain-attributes (codes "name") title l2,
      plain-attributes (codes "type") (codes "text") [],
      length-value_text-le (codes "conference"),
      length-value_text-le title,
      length-value_text-le (codes "text"),
    )

either-word : (b : Bool) (v w : List ℕ) → length v ≤ 100 → length w ≤ 100 → length (if b then v else w) ≤ 100
either-word true v w one two = one
either-word false v w one two = two

room-words : (c : Config) → AreWords (room_features c)
room-words c = (
  omega arith,
  (
    omega arith,
    (
      omega arith,
      (
        omega arith,
        (
          either-word c.members_only _ _ (omega arith) (omega arith),
          (
            either-word c.moderated _ _ (omega arith) (omega arith),
            (
              either-word c.anyone _ _ (omega arith) (omega arith),
              (
                either-word (length c.secret == 0) _ _ (omega arith) (omega arith),
                (either-word c.persistent _ _ (omega arith) (omega arith), (omega arith, tt)),
              ),
            ),
          ),
        ),
      ),
    ),
  ),
)

listed-all : (to : Option Address) (rooms : List Listed) → AllByRecursion IsShortListed rooms → IfSome (listed_at to rooms) IsShortListed
listed-all None rooms all = tt
listed-all (Some to) rooms all = found_all IsShortListed (λ room. same_bare room.address to) rooms all

info-if : (room : Option Listed) → IfSome room IsShortListed → IsBrief (info_if room)
info-if None short = tt
info-if (Some room) short =
    described-as-le (room_identity room.title) (room_features room.config) (room-identity-le room.title short.1) (room-words room.config) (omega arith)

info-brief : (place : Place) (to : Option Address) (rooms : List Listed) → AllByRecursion IsShortListed rooms → IsBrief (info_of place to rooms)
info-brief Server to rooms all =
    described-le (codes "server") (codes "im") (info_space ∷ items_space ∷ codes "urn:xmpp:ping" ∷ []) (omega arith) (omega arith)
    (omega arith, (omega arith, (omega arith, tt))) (omega arith)
info-brief Account to rooms all =
    described-le (codes "account") (codes "registered") (info_space ∷ archive_space ∷ ids_space ∷ []) (omega arith) (omega arith)
    (omega arith, (omega arith, (omega arith, tt))) (omega arith)
info-brief Service to rooms all =
    described-le (codes "conference") (codes "text") (info_space ∷ items_space ∷ rooms_space ∷ []) (omega arith)
    (omega arith) (omega arith, (omega arith, (omega arith, tt))) (omega arith)
info-brief (User user) to rooms all = tt
info-brief (UserAt user resource) to rooms all = tt
info-brief (Room room) to rooms all = info-if (listed_at to rooms) (listed-all to rooms all)
info-brief (RoomAt room nick) to rooms all = tt
info-brief Foreign to rooms all = tt

-- Items.
domain-le : (a : Address) → length a.domain ≤ length (address_text a)
domain-le a =
    omega (
      arith,
      length-append (local_text a.local ++ a.domain) (resource_text a.resource),
      length-append (local_text a.local) a.domain,
    )

listing-le : (items : List Element) → length (text_under client_space (listing items))
    ≤ 300 + length (texts_under items_space (map node_of items))
listing-le items = omega (arith, under-le client_space items_space (codes "query") [] (map node_of items))

service-le : (a : Address) → length (address_text a) ≤ 3071
    → length (text_under items_space (item (service_domain a.domain))) ≤ 19000
service-le a short =
    omega (
      arith,
      short,
      domain-le a,
      length-append (codes "rooms.") a.domain,
      one-attribute-le items_space items_space (codes "item") (codes "jid") (service_domain a.domain) [],
    )

server-brief : (to : Option Address) → IfSome to (λ a. length (address_text a) ≤ 3071) → IsBrief (Ok (listing (server_items to)))
server-brief None short = omega (arith, listing-le [])
server-brief (Some a) short =
    omega (
      arith,
      service-le a short,
      listing-le (item (service_domain a.domain) ∷ []),
      first-length items_space (item (service_domain a.domain)) [],
    )

-- as many as fit
fitting-step : (bytes : ℕ) (e : Element) (b : Bool) (rest : List Element) → (b ≡ true → length (text_under items_space e) ≤ bytes)
    → length (texts_under items_space (map node_of rest)) ≤ bytes - length (text_under items_space e)
    → length (texts_under items_space (map node_of (if b then e ∷ rest else []))) ≤ bytes
fitting-step bytes e true rest fits later = (let few = fits refl in omega (arith, few, later, first-length items_space e (map node_of rest)))
fitting-step bytes e false rest fits later = omega arith

fitting-le : (bytes : ℕ) (es : List Element) → length (texts_under items_space (map node_of (fitting bytes es))) ≤ bytes
fitting-le bytes [] = omega arith
fitting-le bytes (e ∷ more) =
    fitting-step bytes e (nat_le (length (text_under items_space e)) bytes) (fitting (bytes - length (text_under items_space e)) more)
    (λ is. leb-true (length (text_under items_space e)) bytes is) (fitting-le (bytes - length (text_under items_space e)) more)

no-items : (room : Option Listed) → IsBrief (no_items_if room)
no-items None = tt
no-items (Some room) = omega (arith, listing-le [])

items-brief : (place : Place) (to : Option Address) (rooms : List Listed) → IfSome to (λ a. length (address_text a) ≤ 3071)
    → IsBrief (items_of place to rooms)
items-brief Server to rooms short = server-brief to short
items-brief Account to rooms short = omega (arith, listing-le [])
items-brief Service to rooms short =
    omega (arith, listing-le (fitting most_items (map room_item rooms)), fitting-le most_items (map room_item rooms))
items-brief (User user) to rooms short = tt
items-brief (UserAt user resource) to rooms short = tt
items-brief (Room room) to rooms short = no-items (listed_at to rooms)
items-brief (RoomAt room nick) to rooms short = tt
items-brief Foreign to rooms short = tt

-- The reply.
unless-brief : (asks : Bool) (condition : Condition) (answer : Result Element Condition) → IsBrief answer
    → IsBrief (if asks then Err condition else answer)
unless-brief true condition answer brief = tt
unless-brief false condition answer brief = brief

found-brief : (place : Place) (to : Option Address) (rooms : List Listed) (info items : Option Element) → AllByRecursion IsShortListed rooms
    → IfSome to (λ a. length (address_text a) ≤ 3071) → IsBrief (found_by place to rooms info items)
found-brief place to rooms (Some query) items all short =
    unless-brief (is_some (attr_of (codes "node") query.attrs)) _ (info_of place to rooms) (info-brief place to rooms all)
found-brief place to rooms None (Some query) all short =
    unless-brief (is_some (attr_of (codes "node") query.attrs)) _ (items_of place to rooms) (items-brief place to rooms short)
found-brief place to rooms None None all short = tt

replied-le : (st : Stanza) (answer : Result Element Condition) → IsBrief answer
    → IfSome (to_in st) (λ a. length (address_text a) ≤ 3071) → spelt_length (id_in st) ≤ 196608
    → length (text (replied st answer)) ≤ 500000
replied-le st (Ok query) brief to id =
    reply-le st (codes "result") (one_child query) to id (omega arith) (omega (arith, brief, first-length client_space query []))
replied-le st (Err condition) brief to id = error-reply-le st condition to id

pub discovery-le : (place : Place) (st : Stanza) (rooms : List Listed) → AllByRecursion IsShortListed rooms
    → IfSome (to_in st) (λ a. length (address_text a) ≤ 3071) → spelt_length (id_in st) ≤ 196608
    → length (text (discovery place st rooms)) ≤ 500000
discovery-le place st rooms all to id =
    replied-le st (found place st rooms) (found-brief place (to_in st) rooms (query_in info_space st) (query_in items_space st) all to) to id
