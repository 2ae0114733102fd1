-- The house in memory, and what the definitions see of it.
use Rattle.std.specs.Prelude.{ℕ, List, length}
use Rattle.jid_core.specs.Addresses.{Address}
use Rattle.session_table.specs.Tables.{TableRecord}
use Rattle.house_model.specs.declared.answer.Answer.{Answer}
use Rattle.house_model.specs.declared.limits.Limits.{Limits}
use Rattle.archive_table.specs.Tables as archive
use Rattle.contact_table.specs.Tables.{BookRecord}
use Rattle.muc_service.specs.Rooms.{Rooms}
use Rattle.house_model.specs.States.{Kept}
use Rattle.house_world.specs.Views.{world_of}

pub record HouseRecord : Type 0 where
  pub domain : Address
  pub users : List (List ℕ)
  pub limits : Limits
  pub turns : ℕ
  pub moment : ℕ
  pub table : TableRecord
  pub answers : List (List Answer)  -- those that wait at each line, the oldest first
  pub book : BookRecord  -- what is kept of users
  pub rooms : Rooms
  pub archives : archive.TableRecord  -- what is kept of messages

-- what the definitions see of a house
abbrev pub held : HouseRecord → Kept
held h = record {
  head = record { domain = h.domain; users = h.users; workers = length h.table.lines; limits = h.limits; turns = h.turns; moment = h.moment };
  world = world_of h.table h.answers h.book.book h.rooms (archive.archives_of h.archives);
}
