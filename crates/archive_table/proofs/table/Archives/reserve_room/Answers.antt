use Rattle.std.proofs.Common.{◌≤◌, ap, subst}
use Rattle.archive_table.specs.Entries.{rooms_of, users_of}
use Rattle.archive_table.specs.Tables.{room_archive, room_spare, spare_in}
use Rattle.archive_table.proofs.TableLemmas.{rooms-same}
use Rattle.archive_table.proofs.table.Archives.reserve_room.Goals as goal

pub returns-clause-same : goal.returns-clause-same
returns-clause-same c =
    let t = c.self.inside in
    rooms-same (users_of t.users.entries) (users_of t.users.entries) (rooms_of t.rooms.entries) (rooms_of c.reserve.new.rooms.entries) t.bytes t.bytes
    c.args.self.now c.self.view_is c.reserve.ensures.rows

pub returns-clause-rooms : goal.returns-clause-rooms
returns-clause-rooms c n p =
    subst (λ t. room_spare n p t ≤ spare_in (room_archive n (rooms_of c.reserve.new.rooms.entries)) p) c.self.view_is (c.reserve.ensures.spare n p)

pub returns-clause-users : goal.returns-clause-users
returns-clause-users c = ap (λ t. t.users) c.self.view_is
