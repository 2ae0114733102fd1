-- What the rules on messages read of the archives (XEP-0313, 2). All is read off what the code keeps.
use Rattle.std.specs.Prelude.{ℕ, ◌+◌, ◌-◌, List, map, drop, length, Option, Some, None, if◌then◌else◌}
use Rattle.jid_core.specs.Addresses.{Address}
use Rattle.stanza_model.specs.declared.here.Here.{Here}
use Rattle.stanza_model.specs.declared.keeping.Keeping.{Keeping}
use Rattle.stanza_model.specs.declared.room.Delayed.{Delayed}
use Rattle.rsm_paging.specs.declared.ask.Row.{Row}
use Rattle.archive_table.specs.Archives.{Archives, Rows, displaced, free_beside, no_rows}
use Rattle.mam_wire.specs.Stamps.{stamp_text}
use Rattle.muc_service.specs.Rooms.{Hosted}
use Rattle.stanza_router.specs.Messages.{addressed, is_to_oneself}

abbrev pub keeping_of : Rows → (gone : ℕ) → Archives → (moment : ℕ) → Keeping
keeping_of x gone a moment = record { row = x.made + 1; free = free_beside gone a; moment = moment }

-- Of messages between users.

abbrev pub rows_by : Archives → Option (List ℕ) → Rows
rows_by a None = no_rows
rows_by a (Some user) = a.users user

-- how long the texts are that the rows of both users displace, or the row of the one that they are
abbrev pub displaced_by : Archives → Here → Option Address → ℕ
displaced_by a who to =
    displaced (rows_by a who.address.local)
    + (if is_to_oneself who to then 0 else displaced (rows_by a (addressed who to).local))

-- the id is the one in the archive of whom the message is for
abbrev pub keeping_for : Archives → Here → Option Address → (moment : ℕ) → Keeping
keeping_for a who to moment = keeping_of (rows_by a (addressed who to).local) (displaced_by a who to) a moment

-- Of rooms.

abbrev pub rows_in : Archives → Hosted → Rows
rows_in a h = a.rooms h.room.number

abbrev pub keeping_in : Archives → Hosted → (moment : ℕ) → Keeping
keeping_in a h moment = keeping_of (rows_in a h) (displaced (rows_in a h)) a moment

-- XEP-0045, 7.2.13: how many messages a newcomer is told, at most
abbrev pub most_past : ℕ
most_past = 20

abbrev pub delayed : Row → Delayed
delayed row = record { text = row.text; stamp = stamp_text row.stamp }

-- what was said last
abbrev pub past_of : Rows → List Delayed
past_of x = map delayed (drop (length x.kept - most_past) x.kept)

abbrev pub past_in : Archives → Hosted → List Delayed
past_in a h = past_of (rows_in a h)
