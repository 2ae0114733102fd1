-- Whether a roster has room for its contacts.
use Rattle.std.specs.Prelude.{List, map, length, sum, Bool, ◌&&◌, nat_le}
use Rattle.stanza_model.specs.RosterLimits.{counted, most_contacts, most_text}
use Rattle.stanza_model.specs.declared.shared.Contact.{Contact}

abbrev pub fits : List Contact → Bool
fits contacts = nat_le (length contacts) most_contacts && nat_le (sum (map counted contacts)) most_text
