-- How long a session's view of an item is that a room broadcasts.
use Rattle.std.proofs.Common.{ℕ, ◌+◌, ◌*◌, ◌≤◌, ◌==◌, List, [], ◌∷◌, ◌++◌, map, length, Option, Some, None, Bool, true, false}
use Rattle.std.proofs.Common.{codes, ap, arith, length-append}
use Rattle.std.specs.Prelude.{IfSome}
use Rattle.std.specs.Fmt.{decimal}
use Rattle.std.specs.List.{AllByRecursion, find}
use Rattle.std.specs.Option.{option_map}
use Rattle.jid_core.specs.Addresses.{Address, address_text, local_text, resource_text}
use Rattle.stanza_tree.specs.Spelling.{attributes, client_space, closed, declarations, named, opened, text, text_under, text_with, texts_under}
use Rattle.stanza_tree.specs.declared.node.Attr.{Attr}
use Rattle.stanza_tree.specs.declared.node.Element.{Element}
use Rattle.stanza_tree.specs.declared.node.Node.{Node}
use Rattle.stanza_tree.proofs.Bounds.{length-value_text-le}
use Rattle.stanza_model.specs.Errors.{element_of, plain_attr}
use Rattle.stanza_model.specs.Rooms.{affiliation_name, role_name}
use Rattle.stanza_model.specs.declared.room.Affiliation.{Affiliation}
use Rattle.stanza_model.specs.declared.room.Affiliation.TheVariants.{Owner, Admin, Member, Neither, Outcast}
use Rattle.stanza_model.specs.declared.room.Nicked.{Nicked}
use Rattle.stanza_model.specs.declared.room.Role.{Role}
use Rattle.stanza_model.specs.declared.room.Role.TheVariants.{Moderator, Participant, Visitor, Nobody}
use Rattle.stanza_model.specs.declared.room.RoomItem.{RoomItem}
use Rattle.stanza_model.specs.declared.room.RoomItem.TheVariants.{Presence, Message, Destroyed}
use Rattle.muc_room.specs.Views as views
use Rattle.muc_room.specs.Views.{at, child_node, codes_for, destroy, destroyed, is_among, jid_for, nick_of, presence_from, presence_text}
use Rattle.muc_room.specs.Views.{reason_nodes, seen, status, status_node, user_space, x_of}
use Rattle.house_model.specs.Fitting.{IsShortAddress}
use Rattle.house_model.proofs.RosterSizes.{number-le}
use Rattle.house_model.proofs.ReplySizes.{closed-le, first-length, named-le, one-attribute-le, plain-attributes, plain-declared, under-le}
use Rattle.house_model.proofs.StayLemmas.{choose}

abbrev pub IsShortNick : List ℕ → Type 0
IsShortNick nick = length nick ≤ 3071

-- a list of so many parts is as long as they are
affiliation-le : (a : Affiliation) → length (affiliation_name a) ≤ 10
affiliation-le Owner = omega arith
affiliation-le Admin = omega arith
affiliation-le Member = omega arith
affiliation-le Neither = omega arith
affiliation-le Outcast = omega arith

role-le : (r : Role) → length (role_name r) ≤ 12
role-le Moderator = omega arith
role-le Participant = omega arith
role-le Visitor = omega arith
role-le Nobody = omega arith

pub at-le : (room : Address) (nick : List ℕ) → IsShortAddress room → IsShortNick nick → length (address_text (at room (Some nick))) ≤ 6200
at-le room nick short few =
    omega (
      arith,
      short,
      few,
      length-append (local_text room.local ++ room.domain) (resource_text room.resource),
      length-append (local_text room.local ++ room.domain) (resource_text (Some nick)),
    )

bare-le : (room : Address) → IsShortAddress room → length (address_text (at room None)) ≤ 6200
bare-le room short =
    omega (
      arith,
      short,
      length-append (local_text room.local ++ room.domain) (resource_text room.resource),
      length-append (local_text room.local ++ room.domain) (resource_text None),
    )

pub from-le : (room : Address) (nick : Option (List ℕ)) → IsShortAddress room → IfSome nick IsShortNick → length (address_text (at room nick)) ≤ 6200
from-le room None short few = bare-le room short
from-le room (Some nick) short few = at-le room nick short few

-- `item`

jid-item : (a : Affiliation) (r : Role) (jid nick : List ℕ) → length jid ≤ 3071 → length nick ≤ 3071
    → length (text_under user_space (element_of user_space (codes "item")
    (plain_attr (codes "affiliation") (affiliation_name a) ∷ plain_attr (codes "jid") jid ∷ plain_attr (codes "nick") nick
    ∷ plain_attr (codes "role") (role_name r) ∷ []) [])) ≤ 38000
jid-item a r jid nick short few =
    let l3 : List Attr = plain_attr (codes "role") (role_name r) ∷ [] in
    let l2 : List Attr = plain_attr (codes "nick") nick ∷ l3 in
    let l1 : List Attr = plain_attr (codes "jid") jid ∷ l2 in
    omega (
      arith,
      short,
      few,
      affiliation-le a,
      role-le r,
      under-le user_space user_space (codes "item") (plain_attr (codes "affiliation") (affiliation_name a) ∷ l1) [],
      plain-attributes (codes "affiliation") (affiliation_name a) l1,
      plain-attributes (codes "jid") jid l2,
      plain-attributes (codes "nick") nick l3,
      plain-attributes (codes "role") (role_name r) [],
      ap length (plain-declared (codes "affiliation") (affiliation_name a) l1),
      ap length (plain-declared (codes "jid") jid l2),
      ap length (plain-declared (codes "nick") nick l3),
      ap length (plain-declared (codes "role") (role_name r) []),
      length-value_text-le (affiliation_name a),
      length-value_text-le jid,
      length-value_text-le nick,
      length-value_text-le (role_name r),
    )

one-item : (a : Affiliation) (r : Role) (local value : List ℕ) → length local ≤ 4 → length value ≤ 3071
    → length (text_under user_space (element_of user_space (codes "item")
    (plain_attr (codes "affiliation") (affiliation_name a) ∷ plain_attr local value ∷ plain_attr (codes "role") (role_name r) ∷ []) [])) ≤ 38000
one-item a r local value name short =
    let l2 : List Attr = plain_attr (codes "role") (role_name r) ∷ [] in
    let l1 : List Attr = plain_attr local value ∷ l2 in
    omega (
      arith,
      short,
      name,
      affiliation-le a,
      role-le r,
      under-le user_space user_space (codes "item") (plain_attr (codes "affiliation") (affiliation_name a) ∷ l1) [],
      plain-attributes (codes "affiliation") (affiliation_name a) l1,
      plain-attributes local value l2,
      plain-attributes (codes "role") (role_name r) [],
      ap length (plain-declared (codes "affiliation") (affiliation_name a) l1),
      ap length (plain-declared local value l2),
      ap length (plain-declared (codes "role") (role_name r) []),
      length-value_text-le (affiliation_name a),
      length-value_text-le value,
      length-value_text-le (role_name r),
    )

no-item : (a : Affiliation) (r : Role) → length (text_under user_space (element_of user_space (codes "item")
    (plain_attr (codes "affiliation") (affiliation_name a) ∷ plain_attr (codes "role") (role_name r) ∷ []) [])) ≤ 38000
no-item a r =
    let l1 : List Attr = plain_attr (codes "role") (role_name r) ∷ [] in
    omega (
      arith,
      affiliation-le a,
      role-le r,
      under-le user_space user_space (codes "item") (plain_attr (codes "affiliation") (affiliation_name a) ∷ l1) [],
      plain-attributes (codes "affiliation") (affiliation_name a) l1,
      plain-attributes (codes "role") (role_name r) [],
      ap length (plain-declared (codes "affiliation") (affiliation_name a) l1),
      ap length (plain-declared (codes "role") (role_name r) []),
      length-value_text-le (affiliation_name a),
      length-value_text-le (role_name r),
    )

item-le : (a : Affiliation) (jid : Option Address) (nick : Option (List ℕ)) (r : Role) → IfSome jid IsShortAddress → IfSome nick IsShortNick
    → length (text_under user_space (views.item a jid nick r)) ≤ 38000
item-le a None None r short few = no-item a r
item-le a (Some jid) None r short few = one-item a r (codes "jid") (address_text jid) (omega arith) short
item-le a None (Some nick) r short few = one-item a r (codes "nick") nick (omega arith) few
item-le a (Some jid) (Some nick) r short few = jid-item a r (address_text jid) nick short few

-- status codes

abbrev pub AreCodes : List ℕ → Type 0
AreCodes codes = AllByRecursion (λ c. length (decimal c) ≤ 20) codes

status-le : (code : ℕ) → length (decimal code) ≤ 20 → length (text_under user_space (status code)) ≤ 400
status-le code few = omega (arith, few, one-attribute-le user_space user_space (codes "status") (codes "code") (decimal code) [])

statuses-le : (cs : List ℕ) → AreCodes cs → length (texts_under user_space (map status_node cs)) ≤ 400 * length cs
statuses-le [] few = omega arith
statuses-le (c ∷ cs) few =
    omega (arith, status-le c few.0, statuses-le cs few.1, first-length user_space (status c) (map status_node cs))

codes_all : (own : Bool) (statuses mine : List ℕ) → AreCodes statuses → AreCodes mine → AreCodes (codes_for own statuses mine)
codes_all false statuses mine few more = few
codes_all true statuses [] few more = few
codes_all true statuses (c ∷ mine) few more = (more.0, codes_all true statuses mine few more.1)

codes_few : (own : Bool) (statuses mine : List ℕ) → length statuses ≤ 8 → length mine ≤ 8 → length (codes_for own statuses mine) ≤ 16
codes_few false statuses mine few more = omega (arith, few)
codes_few true statuses mine few more = omega (arith, few, more, length-append mine statuses)

-- the presence with it

top-le : (from : Address) (gone : Bool) (content : List ℕ) → length (address_text from) ≤ 6200
    → length (text_with (presence_from from gone) content) ≤ 40000 + length content
unfolding opened
top-le from false content short =
    let l : List Attr = plain_attr (codes "from") (address_text from) ∷ [] in
    omega (
      arith,
      short,
      named-le client_space (record { space = client_space; local = codes "presence" }),
      closed-le (codes "presence") content,
      plain-attributes (codes "from") (address_text from) [],
      ap length (plain-declared (codes "from") (address_text from) []),
      length-value_text-le (address_text from),
      length-append (opened client_space (record { space = client_space; local = codes "presence" }) l) (closed (codes "presence") content),
      length-append (named client_space (record { space = client_space; local = codes "presence" }) ++ declarations 0 l) (attributes 0 l),
      length-append (named client_space (record { space = client_space; local = codes "presence" })) (declarations 0 l),
    )
top-le from true content short =
    let l1 : List Attr = plain_attr (codes "type") (codes "unavailable") ∷ [] in
    let l : List Attr = plain_attr (codes "from") (address_text from) ∷ l1 in
    omega (
      arith,
      short,
      named-le client_space (record { space = client_space; local = codes "presence" }),
      closed-le (codes "presence") content,
      plain-attributes (codes "from") (address_text from) l1,
      plain-attributes (codes "type") (codes "unavailable") [],
      ap length (plain-declared (codes "from") (address_text from) l1),
      ap length (plain-declared (codes "type") (codes "unavailable") []),
      length-value_text-le (address_text from),
      length-value_text-le (codes "unavailable"),
      length-append (opened client_space (record { space = client_space; local = codes "presence" }) l) (closed (codes "presence") content),
      length-append (named client_space (record { space = client_space; local = codes "presence" }) ++ declarations 0 l) (attributes 0 l),
      length-append (named client_space (record { space = client_space; local = codes "presence" })) (declarations 0 l),
    )

presence-le : (from : Address) (gone : Bool) (children : List ℕ) (x : Element) → length (address_text from) ≤ 6200
    → length (presence_text from gone children x) ≤ 40000 + length children + length (text x)
presence-le from gone children x short = omega (arith, top-le from gone (children ++ text x) short, length-append children (text x))

x-le : (nodes : List Node) → length (text (x_of nodes)) ≤ 300 + length (texts_under user_space nodes)
x-le nodes = omega (arith, under-le client_space user_space (codes "x") [] nodes)

-- what is short of an item

abbrev pub IsShortItem : RoomItem → Type 0
IsShortItem (Presence sessions nick address a role gone renamed children statuses own) =
    IsShortNick nick × IsShortAddress address × IfSome renamed IsShortNick × (length children ≤ 16384)
    × AreCodes statuses × AreCodes own × (length statuses ≤ 8) × (length own ≤ 8)
IsShortItem (Message text body from moment) = length text ≤ 300000
IsShortItem (Destroyed reason nicks) = IfSome reason (λ r. length (text_under user_space r) ≤ 400000) × AllByRecursion (λ n. IsShortNick n.nick) nicks

jid_short : (own sees : Bool) (to address : Address) → IsShortAddress to → IsShortAddress address → IfSome (jid_for own sees to address) IsShortAddress
jid_short true sees to address one two = one
jid_short false true to address one two = two
jid_short false false to address one two = tt

nick_short : (s : ℕ) (nicks : List Nicked) → AllByRecursion (λ n. IsShortNick n.nick) nicks → IfSome (nick_of s nicks) IsShortNick
nick_short s nicks all = by (find (λ n. n.session == s) nicks) (found nicks all) where
  found : (ns : List Nicked) → AllByRecursion (λ n. IsShortNick n.nick) ns → IfSome (find (λ n. n.session == s) ns) (λ n. IsShortNick n.nick)
  found [] all = tt
  found (n ∷ ns) all =
      choose (λ (o : Option Nicked). IfSome o (λ n. IsShortNick n.nick)) (n.session == s) (Some n) (find (λ n. n.session == s) ns)
      (λ (_ : _). all.0) (λ (_ : _). found ns all.1)

  by : (o : Option Nicked) → IfSome o (λ n. IsShortNick n.nick) → IfSome (option_map (λ n. n.nick) o) IsShortNick
  by None is = tt
  by (Some n) is = is

reason-le : (reason : Option Element) → IfSome reason (λ r. length (text_under user_space r) ≤ 400000)
    → length (texts_under user_space (reason_nodes reason)) ≤ 400000
reason-le None few = omega arith
reason-le (Some r) few = omega (arith, few, first-length user_space r [])

destroyed-le : (reason : Option Element) → IfSome reason (λ r. length (text_under user_space r) ≤ 400000)
    → length (text (destroyed reason)) ≤ 440000
destroyed-le reason few =
    let last : List Node = status_node 110 ∷ [] in
    let more : List Node = child_node (destroy reason) ∷ last in
    omega (
      arith,
      x-le (child_node (views.item Neither None None Nobody) ∷ more),
      first-length user_space (views.item Neither None None Nobody) more,
      first-length user_space (destroy reason) last,
      first-length user_space (status 110) [],
      item-le Neither None None Nobody tt tt,
      status-le 110 (number-le 110 (omega arith)),
      under-le user_space user_space (codes "destroy") [] (reason_nodes reason),
      reason-le reason few,
    )

pub seen-le : (item : RoomItem) (sees : Bool) (room : Address) (s : ℕ) (to : Address) → IsShortItem item → IsShortAddress room → IsShortAddress to
    → length (seen item sees room s to) ≤ 490000
seen-le (Presence sessions nick address a role gone renamed children statuses own) sees room s to short host mine =
    let mark : Bool = is_among s sessions in
    let cs : List ℕ = codes_for mark statuses own in
    let jid : Option Address = jid_for mark sees to address in
    omega (
      arith,
      short.3,
      presence-le (at room (Some nick)) gone children (x_of (child_node (views.item a jid renamed role) ∷ map status_node cs)) (at-le room nick host short.0),
      x-le (child_node (views.item a jid renamed role) ∷ map status_node cs),
      first-length user_space (views.item a jid renamed role) (map status_node cs),
      item-le a jid renamed role (jid_short mark sees to address mine short.1) short.2,
      statuses-le cs (codes_all mark statuses own short.4 short.5),
      codes_few mark statuses own short.6 short.7,
    )
seen-le (Message text body from moment) sees room s to short host mine = omega (arith, short)
seen-le (Destroyed reason nicks) sees room s to short host mine =
    omega (
      arith,
      presence-le (at room (nick_of s nicks)) true [] (destroyed reason) (from-le room (nick_of s nicks) host (nick_short s nicks short.1)),
      destroyed-le reason short.0,
    )
