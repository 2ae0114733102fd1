-- Whom presence reaches (RFC 6121, 4), by what the code keeps.
use Rattle.std.specs.Prelude.{ℕ, ◌==◌, List, [], ◌++◌, map, flat_map, length, Bool, not, ◌&&◌, ◌||◌, Option, Some, None, is_some, unwrap_or, if◌then◌else◌}
use Rattle.std.specs.List.{filter, list_any}
use Rattle.jid_core.specs.Addresses.{Address, address_text, same_address, same_bare}
use Rattle.stanza_tree.specs.Entries.{frame}
use Rattle.stanza_tree.specs.declared.frame.Origin.TheVariants.{Direct}
use Rattle.stanza_tree.specs.declared.node.Element.{Element}
use Rattle.stanza_model.specs.declared.here.Here.{Here}
use Rattle.stanza_model.specs.declared.shared.Shown.{Shown}
use Rattle.presence_core.specs.Copies.{presence_text}
use Rattle.contact_table.specs.Books.{bare_of, contacts_of, who_asked, who_sees, whom_sees}
use Rattle.subscription_pairs.specs.Users.{User}
use Rattle.house_model.specs.Lookups.{here, numbers_there, sessions_of}
use Rattle.house_model.specs.States.{World}
use Rattle.house_model.specs.Traffic.{KeptTraffic}

-- How long a presence may be as it is sent, with its sender's address and its own

abbrev pub most_of_presence : ℕ
most_of_presence = 16384

abbrev pub length_sent : Here → Option Address → Element → ℕ
length_sent who None e = length (presence_text who e)
length_sent who (Some to) e = length (frame (record { to = address_text to; rest = presence_text who e; origin = Direct }))

-- Those who see it.

abbrev pub available_of : World KeptTraffic → (user : List ℕ) → List Here
available_of world user = filter (λ h. h.available) (sessions_of world user)

-- RFC 6121, 4.2.2: the sessions of its user, itself too
abbrev pub is_told : Here → Here → Bool
is_told who h = h.available || h.session == who.session

-- RFC 6121, 4.2.2 and 4.4.2: the available sessions of those who see its user, in the order of the pairs, and then its user's
abbrev pub watchers : World KeptTraffic → (own : List ℕ) → Here → List Here
watchers world own who = flat_map (available_of world) (who_sees world.book own) ++ filter (is_told who) (sessions_of world own)

-- Those whom it sees.

abbrev pub is_another : Here → Here → Bool
is_another who h = h.available && not (h.session == who.session)

-- RFC 6121, 4.3.2: the available sessions of those whom its user sees, and then its user's others
abbrev pub in_sight : World KeptTraffic → (own : List ℕ) → Here → List Here
in_sight world own who = flat_map (available_of world) (whom_sees world.book own) ++ filter (is_another who) (sessions_of world own)

-- the presence that is kept of a session
abbrev pub presence_of : World KeptTraffic → Here → List ℕ
presence_of world h = unwrap_or (world.sessions h.session).rest.manner.presence []

-- for another
abbrev pub shown_of : World KeptTraffic → Here → Here → Shown
shown_of world who h = record { to = address_text who.address; rest = presence_of world h }

abbrev pub shown : World KeptTraffic → (own : List ℕ) → Here → List Shown
shown world own who = map (shown_of world who) (in_sight world own who)

-- a user, as the rules on subscriptions see it
abbrev pub party : (domain : List ℕ) → World KeptTraffic → (user : List ℕ) → User
party domain world user = record {
  bare = bare_of domain user;
  contacts = contacts_of domain world.book user;
  sessions = sessions_of world user;
  presences = map (presence_of world) (available_of world user);
}

-- RFC 6121, 3.1.3: those who have asked to see its user
abbrev pub asking : (domain : List ℕ) → World KeptTraffic → (own : List ℕ) → List Address
asking domain world own = map (bare_of domain) (who_asked world.book own)

-- Those to whom it is sent alone.

-- RFC 6121, 4.6.4: a full address names its session, and a bare one each available session of its user
abbrev pub names : Here → Address → Bool
names h a = if is_some a.resource then same_address h.address a else h.available && same_bare h.address a

abbrev pub named : World KeptTraffic → List Address → List Here
named world addresses = filter (λ h. list_any (names h) addresses) (map (here world) (numbers_there world))

abbrev pub directed_by : World KeptTraffic → Here → List Address
directed_by world who = (world.sessions who.session).rest.manner.directed
