-- How affiliations and roles are written (XEP-0045, 5).
use Rattle.std.specs.Prelude.{ℕ, List, codes, bytes_eq, Option, Some, None, if◌then◌else◌}
use Rattle.stanza_model.specs.declared.room.Affiliation.{Affiliation}
use Rattle.stanza_model.specs.declared.room.Affiliation.TheVariants.{Owner, Admin, Member, Neither, Outcast}
use Rattle.stanza_model.specs.declared.room.Role.{Role}
use Rattle.stanza_model.specs.declared.room.Role.TheVariants.{Moderator, Participant, Visitor, Nobody}

abbrev pub affiliation_name : Affiliation → List ℕ
affiliation_name Owner = codes "owner"
affiliation_name Admin = codes "admin"
affiliation_name Member = codes "member"
affiliation_name Neither = codes "none"
affiliation_name Outcast = codes "outcast"

abbrev pub affiliation_named : List ℕ → Option Affiliation
affiliation_named name =
    if bytes_eq name (codes "owner") then Some Owner
    else if bytes_eq name (codes "admin") then Some Admin
    else if bytes_eq name (codes "member") then Some Member
    else if bytes_eq name (codes "none") then Some Neither
    else if bytes_eq name (codes "outcast") then Some Outcast
    else None

abbrev pub role_name : Role → List ℕ
role_name Moderator = codes "moderator"
role_name Participant = codes "participant"
role_name Visitor = codes "visitor"
role_name Nobody = codes "none"

abbrev pub role_named : List ℕ → Option Role
role_named name =
    if bytes_eq name (codes "moderator") then Some Moderator
    else if bytes_eq name (codes "participant") then Some Participant
    else if bytes_eq name (codes "visitor") then Some Visitor
    else if bytes_eq name (codes "none") then Some Nobody
    else None
