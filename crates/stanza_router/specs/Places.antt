-- Where a stanza goes, by its address (RFC 6120, 10.3 to 10.5).
use Rattle.std.specs.Prelude.{ℕ, List, ◌++◌, codes, bytes_eq, Option, Some, None, if◌then◌else◌}
use Rattle.jid_core.specs.Addresses.{Address}
use Rattle.stanza_router.specs.declared.places.Place.{Place}
use Rattle.stanza_router.specs.declared.places.Place.TheVariants.{Account, Server, User, UserAt, Service, Room, RoomAt, Foreign}

-- XEP-0045, 6.1: the rooms are at a domain of their own
abbrev pub service_domain : List ℕ → List ℕ
service_domain domain = codes "rooms." ++ domain

-- RFC 6120, 10.5: at the server's domain a local part is a user's, and with a resource it is one session's. A domain alone is the server,
-- whatever the resource.
abbrev pub at_server : List ℕ → Option (List ℕ) → Option (List ℕ) → Place
at_server user None resource = Server
at_server user (Some local) None = if bytes_eq local user then Account else User local
at_server user (Some local) (Some resource) = UserAt local resource

-- XEP-0045, 4.1: at the rooms' domain a local part is a room's, and a resource is an occupant's nick
abbrev pub at_service : Option (List ℕ) → Option (List ℕ) → Place
at_service None resource = Service
at_service (Some room) None = Room room
at_service (Some room) (Some nick) = RoomAt room nick

-- RFC 6120, 10.3: without an address it is for the sender's own account. RFC 6120, 10.4: any other domain is foreign.
abbrev pub place_of : List ℕ → List ℕ → Option Address → Place
place_of user domain None = Account
place_of user domain (Some to) =
    if bytes_eq to.domain domain then at_server user to.local to.resource
    else if bytes_eq to.domain (service_domain domain) then at_service to.local to.resource
    else Foreign
